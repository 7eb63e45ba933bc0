-- Moves and changes one after another keep what a place means, and what is shown begins what the history of the run's texts gives.
use Rattle.std.proofs.Common.{◌≡◌, ◌⊎◌, inl, inr, ℕ, suc, ◌+◌, ◌≤◌, List, [], ◌∷◌, ◌++◌, arith, refl, sym, ap, ◌∙◌, subst, append_assoc}
use Rattle.std.proofs.lemmas.List.{append-nil}
use Rattle.std.specs.Prelude.{map, Ok, Err}
use Rattle.sc_base.specs.declared.key.Key.{Key}
use Rattle.sc_interp.specs.declared.stepped.Shown.{Shown}
use Rattle.sc_interp_change_laws.specs.Showing.{IsEvent}
use Rattle.sc_interp_laws.specs.Worlds.{world_of}
use Rattle.sc_interp_laws.proofs.RunMeans.{means_leads}
use Rattle.sc_like.specs.Alike.{Like, Shown as Shows, with_item, shown_along, shown_of, item_shown}
use Rattle.sc_like.specs.Outcomes.{EndsAlike}
use Rattle.sc_meaning.specs.Expressions.{Answer}
use Rattle.sc_meaning.specs.Changes.{changed}
use Rattle.sc_meaning.specs.Laws.{Leads}
use Rattle.sc_meaning.specs.Outcomes.{Outcome, Done, Over, Ending, world_after, world_at}
use Rattle.sc_meaning.specs.Versions.{History, callee_of}
use Rattle.sc_meaning.specs.World.{World, Item}
use Rattle.sc_meaning.proofs.Steps.{on}
use Rattle.sc_meaning.proofs.Trails.{trail-passed}
use Rattle.sc_mixed.specs.Bridge.{is_code}
use Rattle.sc_mixed.specs.Changing.{IsPlaced}
use Rattle.sc_mixed.specs.Machine.{Moves}
use Rattle.sc_mixed.specs.declared.broken.Break.{Break}
use Rattle.sc_mixed.specs.declared.broken.Break.TheVariants.{Meant, Crashed}
use Rattle.sc_mixed.specs.declared.calls.Calls.{Calls}
use Rattle.sc_mixed.specs.declared.calls.Moved.{Moved}
use Rattle.sc_mixed.specs.declared.calls.Next.{Next}
use Rattle.sc_mixed.specs.declared.calls.Next.TheVariants.{Steps, Executes, Serves}
use Rattle.sc_mixed_means.specs.Owed.{CompiledTextsAreRight}
use Rattle.sc_mixed_means.specs.Places.{CodeStands, Comes, IsLostFrom, KeepsBy, Means}
use Rattle.sc_mixed_means.specs.Runs.{BreaksOff, ChangesEndAsMeant, Enters, Gone, FitsAt, IsPastAt, IsPastOf, IsShownIn, MemoryIsKept, Place, RunsEndAsMeant, RunsShowTheirMeaning, WasPast, all_texts, entry_gives, gone_changed, gone_moved, gone_none, history_of, in_world, texts_in}
use Rattle.sc_mixed_means.specs.Stages.{Build, First, Look, Live, Past, Stage, Then, from_here, texts_of}
use Rattle.sc_mixed_means.specs.Waiting.{IsFit, KeepsWaiting}
use Rattle.sc_mixed_means.proofs.Change.{changes_end, changes_keep}
use Rattle.sc_mixed_means.proofs.Histories.{history_fits}
use Rattle.sc_mixed_means.proofs.Moves.{alike_world, moves_keep}
use Rattle.sc_mixed_means.proofs.Parts.{code_leads, looks, lower_leads}
use Rattle.sc_mixed_means.proofs.Start.{entry_means}

-- ---- what happens later is shown later

along_adds : (is : List Item) (s : Shows) → (later : List Item) × ((shown_along is s).items ≡ s.items ++ later)
along_adds [] s = ([], sym (append-nil s.items))
along_adds (i ∷ is) s =
    let p = along_adds is (with_item i s) in
    (item_shown s.forms i ++ p.0, p.1 ∙ append_assoc s.items (item_shown s.forms i) p.0)

along_parts : (is js : List Item) (s : Shows) → shown_along (is ++ js) s ≡ shown_along js (shown_along is s)
along_parts [] js s = refl
along_parts (i ∷ is) js s = along_parts is js (with_item i s)

shows_later : (w v : World) → Leads w v → IsShownIn w v
shows_later w v l =
    let p = along_adds l.0 (shown_of w.trail) in
    (p.0, ap (λ u. (shown_of u.trail).items) l.1 ∙ ap (λ is. (shown_of is).items) (trail-passed l.0 w) ∙ ap (λ (s : Shows). s.items) (along_parts w.trail l.0 (record { items = []; forms = [] })) ∙ p.1)

shows_from : (w v u : World) → Like w v → Leads v u → IsShownIn w u
shows_from w v u a l =
    let p = shows_later v u l in
    (p.0, p.1 ∙ ap (λ (s : Shows). s.items ++ p.0) (sym a.shown))

-- ---- the stage of a run with these texts

abbrev pub stage_at : Look → Past → Build → List Build → Stage
stage_at look p c cs = record { look = look; past = p; image = c.image; places = c.places; later = cs }

-- the history of a run has no version that has not come
pub live : (b : Build) (bs : List Build) (c : Build) (cs : List Build) (p : Past) → IsPastOf b bs c cs p → (v : World) → Live p v (history_of p)
live b bs c cs p so v = (v.count + 1, history_fits p so.order (v.count + 1), omega arith)

code_shown : (m : ℕ) (s : Stage) (next : Next) (c : Calls) (w : World) (now : Shown) (out : History → Outcome Answer) (h : History) → ((v : World) → Live s.past v h) → CodeStands m s next c w now out → IsShownIn w (world_after (out h))
code_shown m s next c w now out h l x =
    shows_from w x.stands (world_after (out h)) x.alike
    (on x.stands (world_after (x.gives h (l x.stands))) (world_after (out h)) (code_leads x.deep s next c w x.stands x.gives x.means h (l x.stands)) (lower_leads s m w c.lower x.stands x.gives (from_here out s.past x.stands) h (l x.stands) x.after))

place_shown : (m : ℕ) (s : Stage) (next : Next) (c : Calls) (w : World) (now : Shown) (out : History → Outcome Answer) (h : History) → ((v : World) → Live s.past v h) → Means m s next c w now out → IsShownIn w (world_after (out h))
place_shown m s (Steps g) c w now out h l x =
    shows_from w (world_of x.stands) (world_after (out h)) (alike_world g c.callers w x.stands x.alike)
    (on (world_of x.stands) (world_after (x.gives.gives h (l (world_of x.stands)))) (world_after (out h)) (means_leads h x.gives.deep x.stands (x.gives.gives h (l (world_of x.stands))) (x.gives.means h (l (world_of x.stands)))) (lower_leads s m w c.lower (world_of x.stands) x.gives.gives (from_here out s.past (world_of x.stands)) h (l (world_of x.stands)) x.gives.after))
place_shown m s Executes c w now out h l x = code_shown m s Executes c w now out h l x
place_shown m s (Serves k) c w now out h l x = code_shown m s (Serves k) c w now out h l x

module _ (look : Look) (first : Place) (b : Build) (bs : List Build) where
  right_at : (k : ℕ) (p : Place) (c : Build) (cs : List Build) → Gone first b bs k p c cs → CompiledTextsAreRight look (b ∷ bs) → CompiledTextsAreRight look (c ∷ cs)
  right_at _ _ _ _ gone_none r = r
  right_at _ _ _ _ (gone_moved k p q c cs moved g x e) r = right_at k p c cs g r
  right_at _ _ _ _ (gone_changed k p c d ds placed x g event is goes) r = (right_at k p c (d ∷ ds) g r).1

  module _ (n : ℕ) (key : Key) (start born : World) (right : CompiledTextsAreRight look (b ∷ bs)) (enters : Enters b key start born first) where
    abbrev pub Kept : ℕ → Place → Build → List Build → Type 0
    Kept m p c cs = (past : Past) × IsPastOf b bs c cs past × Means m (stage_at look past c cs) p.next p.calls p.world p.now (entry_gives n key born)

    past_here : (k : ℕ) (p : Place) (c : Build) (cs : List Build) (g : Gone first b bs k p c cs) → IsPastAt b bs n key born p c cs → WasPast first b bs n key born k p c cs g
    past_here _ _ _ _ gone_none x = x
    past_here _ _ _ _ (gone_moved k p q c cs moved g y e) x = inl x
    past_here _ _ _ _ (gone_changed k p c d ds placed y g event is goes) x = inl x

    lost_here : (k : ℕ) (p : Place) (c : Build) (cs : List Build) (past : Past) (g : Gone first b bs k p c cs) → IsPastOf b bs c cs past → IsLostFrom (stage_at look past c cs) p.world (entry_gives n key born) → WasPast first b bs n key born k p c cs g
    lost_here k p c cs past g so l = past_here k p c cs g (record {
      past = past;
      follows = so;
      is = record {
        breach = l.2.breach;
        end = l.2.world;
        ends = l.2.ends (history_of past) (live b bs c cs past so l.0) (live b bs c cs past so l.2.world);
        compiled = l.2.compiled;
        shows = l.2.shows ∙ ap (λ (x : Shows). x.items) (sym l.1.shown);
      };
    })

    fit_at : (p : Place) (c : Build) (past : Past) → texts_of past ≡ c.texts → FitsAt p c → IsFit (texts_of past) c.image c.places p.calls.lower p.world
    fit_at p c past e fit = subst (λ ts. IsFit ts c.image c.places p.calls.lower p.world) (sym e) fit

    comes_on : (k m : ℕ) (p q : Place) (c : Build) (cs : List Build) (moved : Moved) (past : Past) (g : Gone first b bs k p c cs) → q.now ≡ moved.shown → IsPastOf b bs c cs past → Comes m (stage_at look past c cs) p.world (Ok moved) q.next q.calls q.world (entry_gives n key born) → Kept m q c cs ⊎ WasPast first b bs n key born k p c cs g
    comes_on k m p q c cs moved past g e so x =
        elim x [
          | inl z ↦ inl (past, so, subst (λ now. Means m (stage_at look past c cs) q.next q.calls q.world now (entry_gives n key born)) (sym e) z)
          | inr z ↦ inr (lost_here k p c cs past g so z)
        ]

    moves_on : (k m : ℕ) (p q : Place) (c : Build) (cs : List Build) (moved : Moved) (g : Gone first b bs k p c cs) → Moves c.texts c.image p.next p.calls p.world (Ok moved) q.next q.calls q.world → q.now ≡ moved.shown → FitsAt p c → KeepsBy p.next (Ok moved) p.calls.lower p.world q.next q.calls q.world → Kept (suc m) p c cs → Kept m q c cs ⊎ WasPast first b bs n key born k p c cs g
    moves_on k m p q c cs moved g x e fit keep y =
        comes_on k m p q c cs moved y.0 g e y.1
        (moves_keep m (stage_at look y.0 c cs) p.next q.next p.calls q.calls p.world q.world p.now (Ok moved) (entry_gives n key born) ((right_at k p c cs g right).0 y.0 y.1.present) (fit_at p c y.0 y.1.present fit) y.2 (subst (λ ts. Moves ts c.image p.next p.calls p.world (Ok moved) q.next q.calls q.world) (sym y.1.present) x) keep)

    changes_on : (k m : ℕ) (p : Place) (c d : Build) (ds : List Build) (placed x : World) → Gone first b bs k p c (d ∷ ds) → IsEvent p.now → IsPlaced p.world placed → changed c.texts d.texts placed ≡ Done tt x → Kept m p c (d ∷ ds) → KeepsWaiting p.calls.lower p.world x → Kept m (in_world x p) d ds
    changes_on k m p c d ds placed x g event is goes y keep =
        let z = changes_keep m (stage_at look y.0 c (d ∷ ds)) d ds refl p.next p.calls p.world placed x p.now (entry_gives n key born) y.2 event is (subst (λ ts. changed ts d.texts placed ≡ Done tt x) (sym y.1.present) goes) keep in (
          Then y.0 z.0 d.texts,
          record { order = (y.1.order, z.1); present = refl; all = append_assoc (all_texts y.0) (d.texts ∷ []) (map texts_in ds) ∙ y.1.all },
          z.2,
        )

    pub held : (k m : ℕ) (p : Place) (c : Build) (cs : List Build) → suc (look.deep (m + k)) ≤ n → (g : Gone first b bs k p c cs) → MemoryIsKept first b bs n key born k p c cs g → Kept m p c cs ⊎ WasPast first b bs n key born k p c cs g
    held _ m _ _ _ le gone_none memory =
        inl (
          First b.texts,
          record { order = tt; present = refl; all = refl },
          entry_means look b bs key n born (right.0 (First b.texts) refl) (is_code (callee_of b.texts key)) m first.calls first.world first.next first.now (let r = looks look m (m + 0) (omega arith) in omega (arith, le, r)) refl enters.fit enters.entry,
        )
    held _ m _ _ _ le (gone_moved k p q c cs moved g x e) memory =
        elim (held k (suc m) p c cs (let r = looks look (suc m + k) (m + suc k) (omega arith) in omega (arith, le, r)) g memory.0) [
          | inl y ↦
              elim memory.1 [
                | inl z ↦ elim (moves_on k m p q c cs moved g x e z.0 z.1 y) [ inl a ↦ inl a | inr l ↦ inr (inr l) ]
                | inr l ↦ inr (inr l)
              ]
          | inr l ↦ inr (inr l)
        ]
    held _ m _ _ _ le (gone_changed k p c d ds placed x g event is goes) memory =
        elim (held k m p c (d ∷ ds) (let r = looks look (m + k) (m + suc k) (omega arith) in omega (arith, le, r)) g memory.0) [
          | inl y ↦ elim memory.1 [ inl keep ↦ inl (changes_on k m p c d ds placed x g event is goes y keep) | inr l ↦ inr (inr l) ]
          | inr l ↦ inr (inr l)
        ]

    broke : (k m : ℕ) (p : Place) (c : Build) (cs : List Build) (broken : Break) (after : Next) (d : Calls) (u : World) (g : Gone first b bs k p c cs) (past : Past) → IsPastOf b bs c cs past → Comes m (stage_at look past c cs) p.world (Err broken) after d u (entry_gives n key born) → BreaksOff b bs n key born c cs broken u ⊎ WasPast first b bs n key born k p c cs g
    broke k m p c cs (Meant stop) after d u g past so x =
        elim x [
          | inl z ↦ inl (past, so, λ e told. let f = z.2 e told in (f.0, f.1, f.2 (history_of past) (live b bs c cs past so z.0) (live b bs c cs past so (world_at f.0))))
          | inr l ↦ inr (lost_here k p c cs past g so l)
        ]
    broke k m p c cs (Crashed pc cause) after d u g past so x = inr (lost_here k p c cs past g so x)

    keeps_broken : (broken : Break) (p : Place) (u : World) (next after : Next) (d : Calls) → KeepsBy next (Err broken) p.calls.lower p.world after d u
    keeps_broken broken p u (Steps g) after d = tt
    keeps_broken broken p u Executes after d = tt
    keeps_broken broken p u (Serves k) after d = tt

    breaks : (k m : ℕ) (p : Place) (c : Build) (cs : List Build) (broken : Break) (after : Next) (d : Calls) (u : World) (g : Gone first b bs k p c cs) → FitsAt p c → Moves c.texts c.image p.next p.calls p.world (Err broken) after d u → Kept (suc m) p c cs → BreaksOff b bs n key born c cs broken u ⊎ WasPast first b bs n key born k p c cs g
    breaks k m p c cs broken after d u g fit x y =
        broke k m p c cs broken after d u g y.0 y.1
        (moves_keep m (stage_at look y.0 c cs) p.next after p.calls d p.world u p.now (Err broken) (entry_gives n key born) ((right_at k p c cs g right).0 y.0 y.1.present) (fit_at p c y.0 y.1.present fit) y.2 (subst (λ ts. Moves ts c.image p.next p.calls p.world (Err broken) after d u) (sym y.1.present) x) (keeps_broken broken p u p.next after d))

    change_ends : (k m : ℕ) (p : Place) (c d : Build) (ds : List Build) (placed : World) (e : Ending) → Gone first b bs k p c (d ∷ ds) → IsEvent p.now → IsPlaced p.world placed → changed c.texts d.texts placed ≡ Over e → Kept m p c (d ∷ ds) → (past : Past) × IsPastOf b bs d ds past × (f : Ending) × EndsAlike Like e f × (entry_gives n key born (history_of past) ≡ Over f)
    change_ends k m p c d ds placed e g event is goes y =
        let z = changes_end m (stage_at look y.0 c (d ∷ ds)) d ds refl p.next p.calls p.world placed p.now (entry_gives n key born) y.2 e event is (subst (λ ts. changed ts d.texts placed ≡ Over e) (sym y.1.present) goes) in
        let past : Past = Then y.0 z.0 d.texts in
        let fits = history_fits (Then y.0 z.0 d.texts) (y.1.order, z.1) z.0 in (
          past,
          record { order = (y.1.order, z.1); present = refl; all = append_assoc (all_texts y.0) (d.texts ∷ []) (map texts_in ds) ∙ y.1.all },
          z.2,
          z.3,
          z.4 (history_of (Then y.0 z.0 d.texts)) fits.0 fits.1,
        )

pub runs_show : RunsShowTheirMeaning
runs_show look b bs n key start born first right enters k p c cs lt g memory =
    elim (held look first b bs n key start born right enters k 0 p c cs (let r = looks look (0 + k) k (omega arith) in omega (arith, lt, r)) g memory) [
      | inl y ↦ inl (y.0, y.1, place_shown 0 (stage_at look y.0 c cs) p.next p.calls p.world p.now (entry_gives n key born) (history_of y.0) (live b bs c cs y.0 y.1) y.2)
      | inr l ↦ inr l
    ]

pub runs_end : RunsEndAsMeant
runs_end look b bs n key start born first right enters k p c cs broken after d u lt g memory fit x =
    elim (held look first b bs n key start born right enters k 1 p c cs (let r = looks look (1 + k) (suc k) (omega arith) in omega (arith, lt, r)) g memory) [
      | inl y ↦ breaks look first b bs n key start born right enters k 0 p c cs broken after d u g fit x y
      | inr l ↦ inr l
    ]

pub changes_over : ChangesEndAsMeant
changes_over look b bs n key start born first right enters k p c d ds placed e lt g memory event is goes =
    elim (held look first b bs n key start born right enters k 0 p c (d ∷ ds) (let r = looks look (0 + k) k (omega arith) in omega (arith, lt, r)) g memory) [
      | inl y ↦ inl (change_ends look first b bs n key start born right enters k 0 p c d ds placed e g event is goes y)
      | inr l ↦ inr l
    ]
