-- What a record tells of calls and lines, one step after another.
use Rattle.std.proofs.Common.{◌≡◌, ◌≤◌, ℕ, zero, suc, slice_index_or, ◌+◌, ◌-◌, ◌++◌, ◌∷◌, [], List, Bool, true, false, not, ◌&&◌, Option, Some, None, length, drop, refl, sym, ap, subst, arith, ◌∙◌, if◌then◌else◌, true≢false}
use Rattle.std.specs.List.{filter}
use Rattle.std.proofs.lemmas.List.{append_assoc, append-nil, drop-append-le, drop_all, length-append, length-drop}
use Rattle.std.proofs.lemmas.List.Elements.{filter-append}
use Rattle.sc_base.specs.declared.key.Key.{Key}
use Rattle.sc_base.specs.declared.memory.Word.{Word}
use Rattle.sc_base.specs.declared.note.Note.{Note}
use Rattle.sc_base.specs.declared.note.Note.TheVariants as notes
use Rattle.sc_program.specs.declared.storage.StaticId.{StaticId}
use Rattle.sc_program.specs.declared.storage.StaticId.TheVariants as id
use Rattle.sc_meaning.specs.World.{Item, At, Frame, Happens, Push, Pop, Work, named_in}
use Rattle.sc_interp_world.specs.Recording.{Adds, AreGrouped, Family, Passes, Plain, called_in, entered, family, is_of_calls, is_same, may_stand, opens, left_in, noted, number_in, or_zero, plain, reached_in, set_all, set_first, tells_calls, with_entry}
use Rattle.sc_interp_world.specs.Told.{AreNumbered, Enters, IsNumbered, IsQuiet, IsTold, Leaves, Numbers, Other, Reaches, Step, Tells, TellsBehind, active_after, active_with, outer, step_of, told, told_by, told_left, told_line}
use Rattle.sc_interp_world.specs.declared.recorder.Entry.{Entry}
use Rattle.sc_interp_world.specs.declared.recorder.Entry.TheVariants as entries
use Rattle.sc_interp_world.specs.declared.recorder.Machine.{Machine}
use Rattle.sc_interp_world.specs.declared.recorder.Recorder.{Recorder}
use Rattle.sc_interp_world.proofs.RecordLemmas.{adds_one, anywhere, grouped_behind, none_of, open_behind, opens_behind}

-- ---- one thing more

active_last : (number : Key → ℕ) (active : List ℕ) (is : List Item) (i : Item) → active_after number active (is ++ i ∷ []) ≡ active_with number (active_after number active is) (step_of i)
active_last number active [] i = refl
active_last number active (x ∷ is) i = active_last number (active_with number active (step_of x)) is i

told_last : (number : Key → ℕ) (active : List ℕ) (is : List Item) (i : Item) → told number active (is ++ i ∷ []) ≡ told number active is ++ told_by number (active_after number active is) (step_of i)
told_last number active [] i = append-nil (told_by number active (step_of i))
told_last number active (x ∷ is) i =
    let next : List ℕ = active_with number active (step_of x) in
    let here : List Entry = told_by number active (step_of x) in
    ap (λ es. here ++ es) (told_last number next is i) ∙ sym (append_assoc here (told number next is) (told_by number (active_after number next is) (step_of i)))

numbered_last : (functions : List (StaticId × ℕ)) (is : List Item) (i : Item) → AreNumbered functions is → IsNumbered functions (step_of i) → AreNumbered functions (is ++ i ∷ [])
numbered_last functions [] i all one = (one, tt)
numbered_last functions (x ∷ is) i all one = (all.0, numbered_last functions is i all.1 one)

-- no fewer notes are there then
still : (number : Key → ℕ) (taken : ℕ) (items : List Item) (i : Item) → taken ≤ length (told number [] items) → taken ≤ length (told number [] (items ++ i ∷ []))
still number taken items i few =
    let more : List Entry = told_by number (active_after number [] items) (step_of i) in
    let long : length (told number [] (items ++ i ∷ [])) ≡ length (told number [] items) + length more = ap length (told_last number [] items i) ∙ length-append (told number [] items) more in
    omega (arith, few, long)

-- ---- the record behind it

module _ {r : Recorder} {taken : ℕ} {items : List Item} where
  -- entries of calls and lines stand behind those before
  behind : (i : Item) (es : List Entry) → IsTold r taken items → filter tells_calls es ≡ told_by (number_in r.functions) r.active (step_of i)
      → filter tells_calls (r.entries ++ es) ≡ drop taken (told (number_in r.functions) [] (items ++ i ∷ []))
  behind i es t by =
      let number : Key → ℕ = number_in r.functions in
      let before : List Entry = told number [] items in
      filter-append tells_calls r.entries es ∙ ap (λ x. x ++ filter tells_calls es) t.entries ∙ ap (λ x. drop taken before ++ x) (by ∙ ap (λ x. told_by number x (step_of i)) t.active)
      ∙ sym (drop-append-le taken before (told_by number (active_after number [] items) (step_of i)) t.count) ∙ ap (drop taken) (sym (told_last number [] items i))

  told_more : {after : Recorder} (i : Item) (es : List Entry) → IsTold r taken items → ((here : Bool) → AreGrouped here es) → filter tells_calls es ≡ told_by (number_in r.functions) r.active (step_of i) → IsNumbered r.functions (step_of i)
      → after.listens ≡ r.listens → after.functions ≡ r.functions → after.entries ≡ r.entries ++ es → after.active ≡ active_with (number_in r.functions) r.active (step_of i)
      → IsTold after taken (items ++ i ∷ [])
  told_more {after} i es t grouped by numbered listens functions added active = record {
    listens = listens ∙ t.listens;
    entries = ap (filter tells_calls) added ∙ behind i es t by ∙ sym (ap (λ fs. drop taken (told (number_in fs) [] (items ++ i ∷ []))) functions);
    active = active ∙ ap (λ x. active_with (number_in r.functions) x (step_of i)) t.active ∙ sym (active_last (number_in r.functions) [] items i)
        ∙ sym (ap (λ fs. active_after (number_in fs) [] (items ++ i ∷ [])) functions);
    numbered = subst (λ fs. AreNumbered fs (items ++ i ∷ [])) (sym functions) (numbered_last r.functions items i t.numbered numbered);
    count = subst (λ fs. taken ≤ length (told (number_in fs) [] (items ++ i ∷ []))) (sym functions) (still (number_in r.functions) taken items i t.count);
    grouped = subst (AreGrouped false) (sym added) (grouped_behind false r.entries es t.grouped (grouped (opens_behind false r.entries)));
  }

  pub told_other : (i : Item) → step_of i ≡ Other → IsTold r taken items → IsTold r taken (items ++ i ∷ [])
  told_other i is t =
      let number : Key → ℕ = number_in r.functions in
      told_more {after = r} i [] t (λ here. tt) (sym (ap (told_by number r.active) is)) (subst (IsNumbered r.functions) (sym is) tt) refl refl (sym (append-nil r.entries)) (sym (ap (active_with number r.active) is))

  pub told_enter : {after : Recorder} (f : Frame) → after ≡ entered (number_in r.functions f.key) f r → IsNumbered r.functions (Enters f.key f.form) → IsTold r taken items → IsTold after taken (items ++ Push f ∷ [])
  told_enter {after} f is numbered t =
      subst (λ x. IsTold x taken (items ++ Push f ∷ [])) (sym is)
      (told_more {after = entered (number_in r.functions f.key) f r} (Push f) (entries.One (notes.Enter (number_in r.functions f.key) f.form) ∷ []) t (λ here. (refl, tt)) refl numbered refl refl refl refl)

  left_by : (active : List ℕ) → r.active ≡ active → IsTold r taken items → IsTold (left_in active r) taken (items ++ Pop ∷ [])
  left_by [] is t = told_more {after = r} Pop [] t (λ here. tt) (ap told_left (sym is)) tt refl refl (sym (append-nil r.entries)) (is ∙ ap outer (sym is))
  left_by (fun ∷ funs) is t = told_more {after = left_in (fun ∷ funs) r} Pop (entries.One (notes.Leave fun) ∷ []) t (λ here. (refl, tt)) (ap told_left (sym is)) tt refl refl refl (ap outer (sym is))

  pub told_leave : {after : Recorder} → after ≡ left_in r.active r → IsTold r taken items → IsTold after taken (items ++ Pop ∷ [])
  told_leave is t = subst (λ x. IsTold x taken (items ++ Pop ∷ [])) (sym is) (left_by r.active refl t)

  reached_by : (i : Item) (line : ℕ) (active : List ℕ) → step_of i ≡ Reaches line → r.active ≡ active → IsTold r taken items → IsTold (reached_in active line r) taken (items ++ i ∷ [])
  reached_by i line [] step is t =
      told_more {after = r} i [] t (λ here. tt) (ap (λ x. told_line x line) (sym is) ∙ sym (ap (told_by (number_in r.functions) r.active) step)) (subst (IsNumbered r.functions) (sym step) tt) refl refl (sym (append-nil r.entries))
      (sym (ap (active_with (number_in r.functions) r.active) step))
  reached_by i line (fun ∷ funs) step is t =
      told_more {after = reached_in (fun ∷ funs) line r} i (entries.One (notes.At fun line) ∷ []) t (λ here. (refl, tt)) (ap (λ x. told_line x line) (sym is) ∙ sym (ap (told_by (number_in r.functions) r.active) step))
      (subst (IsNumbered r.functions) (sym step) tt) refl refl refl (sym (ap (active_with (number_in r.functions) r.active) step))

  pub told_reach : {after : Recorder} (i : Item) (line : ℕ) → step_of i ≡ Reaches line → after ≡ reached_in r.active line r → IsTold r taken items → IsTold after taken (items ++ i ∷ [])
  told_reach i line step is t = subst (λ x. IsTold x taken (items ++ i ∷ [])) (sym is) (reached_by i line r.active step refl t)

  pub told_quiet : {after : Recorder} → IsQuiet r after → IsTold r taken items → IsTold after taken items
  told_quiet {after} q t = record {
    listens = q.listens ∙ t.listens;
    entries = ap (filter tells_calls) q.added ∙ filter-append tells_calls r.entries q.more ∙ ap (λ es. filter tells_calls r.entries ++ es) q.other ∙ append-nil (filter tells_calls r.entries)
        ∙ t.entries ∙ sym (ap (λ fs. drop taken (told (number_in fs) [] items)) q.functions);
    active = q.active ∙ t.active ∙ sym (ap (λ fs. active_after (number_in fs) [] items) q.functions);
    numbered = subst (λ fs. AreNumbered fs items) (sym q.functions) t.numbered;
    count = subst (λ fs. taken ≤ length (told (number_in fs) [] items)) (sym q.functions) t.count;
    grouped = subst (AreGrouped false) (sym q.added) (grouped_behind false r.entries q.more t.grouped (q.grouped (opens_behind false r.entries)));
  }

-- ---- more functions have numbers

module _ (old new : List (StaticId × ℕ)) (keeps : Numbers old new) where
  same_number : (key : Key) → (fun : ℕ) × named_in old (id.Named key) ≡ Some fun → number_in new key ≡ number_in old key
  same_number key p = ap or_zero (keeps key p.0 p.1 ∙ sym p.1)

  same_by : (active : List ℕ) (s : Step) → IsNumbered old s → told_by (number_in new) active s ≡ told_by (number_in old) active s
  same_by active (Enters key form) p = ap (λ n. entries.One (notes.Enter n form) ∷ []) (same_number key p)
  same_by active Leaves p = refl
  same_by active (Reaches line) p = refl
  same_by active Other p = refl

  same_with : (active : List ℕ) (s : Step) → IsNumbered old s → active_with (number_in new) active s ≡ active_with (number_in old) active s
  same_with active (Enters key form) p = ap (λ n. n ∷ active) (same_number key p)
  same_with active Leaves p = refl
  same_with active (Reaches line) p = refl
  same_with active Other p = refl

  same_told : (active : List ℕ) (is : List Item) → AreNumbered old is → told (number_in new) active is ≡ told (number_in old) active is
  same_told active [] all = refl
  same_told active (i ∷ is) all =
      let next : List ℕ = active_with (number_in old) active (step_of i) in
      ap (λ es. es ++ told (number_in new) (active_with (number_in new) active (step_of i)) is) (same_by active (step_of i) all.0)
      ∙ ap (λ a. told_by (number_in old) active (step_of i) ++ told (number_in new) a is) (same_with active (step_of i) all.0)
      ∙ ap (λ es. told_by (number_in old) active (step_of i) ++ es) (same_told next is all.1)

  same_after : (active : List ℕ) (is : List Item) → AreNumbered old is → active_after (number_in new) active is ≡ active_after (number_in old) active is
  same_after active [] all = refl
  same_after active (i ∷ is) all =
      ap (λ a. active_after (number_in new) a is) (same_with active (step_of i) all.0) ∙ same_after (active_with (number_in old) active (step_of i)) is all.1

  numbered_by : (s : Step) → IsNumbered old s → IsNumbered new s
  numbered_by (Enters key form) p = (p.0, keeps key p.0 p.1)
  numbered_by Leaves p = tt
  numbered_by (Reaches line) p = tt
  numbered_by Other p = tt

  all_numbered : (is : List Item) → AreNumbered old is → AreNumbered new is
  all_numbered [] all = tt
  all_numbered (i ∷ is) all = (numbered_by (step_of i) all.0, all_numbered is all.1)

pub told_numbered : {r after : Recorder} {taken : ℕ} {items : List Item} → after.listens ≡ r.listens → after.entries ≡ r.entries → after.active ≡ r.active → Numbers r.functions after.functions
    → IsTold r taken items → IsTold after taken items
told_numbered {r} {after} {taken} {items} listens same active keeps t =
    let told_so = same_told r.functions after.functions keeps [] items t.numbered in
    record {
      listens = listens ∙ t.listens;
      entries = ap (filter tells_calls) same ∙ t.entries ∙ sym (ap (drop taken) told_so);
      active = active ∙ t.active ∙ sym (same_after r.functions after.functions keeps [] items t.numbered);
      numbered = all_numbered r.functions after.functions keeps items t.numbered;
      count = subst (λ (es : List Entry). taken ≤ length es) (sym told_so) t.count;
      grouped = subst (AreGrouped false) (sym same) t.grouped;
    }

-- ---- the entries are taken

-- those that tell of calls and lines are the notes behind the ones that were taken before
pub taken_rest : {r : Recorder} {taken : ℕ} {items : List Item} → IsTold r taken items → TellsBehind taken r.entries items
taken_rest {r} t = record { number = number_in r.functions; rest = t.entries; grouped = t.grouped }

pub taken_all : {r after : Recorder} {taken more : ℕ} {items : List Item} → after ≡ record r { entries = [] } → more ≡ length (filter tells_calls r.entries) → IsTold r taken items → IsTold after (taken + more) items
taken_all {r} {after} {taken} {more} {items} is so t =
    let all : List Entry = told (number_in r.functions) [] items in
    let rest : more ≡ length all - taken = so ∙ ap length t.entries ∙ length-drop taken all in
    let end : taken + more ≡ length all = omega (arith, rest, t.count) in
    subst (λ x. IsTold x (taken + more) items) (sym is) (record {
      listens = t.listens;
      entries = sym (drop_all (taken + more) all (omega (arith, end)));
      active = t.active;
      numbered = t.numbered;
      count = omega (arith, end);
      grouped = tt;
    })

-- ---- what tells of nothing else

-- what a recorder gains, but for entries, is not looked at
quiet_same : {r after : Recorder} → after.listens ≡ r.listens → after.active ≡ r.active → after.functions ≡ r.functions → after.entries ≡ r.entries → IsQuiet r after
quiet_same {r} listens active functions same = record {
  listens = listens;
  active = active;
  functions = functions;
  more = [];
  added = same ∙ sym (append-nil r.entries);
  other = refl;
  grouped = λ here. tt;
}

quiet_is : {r s after : Recorder} → after ≡ s → IsQuiet r s → IsQuiet r after
quiet_is {r} is q = subst (IsQuiet r) (sym is) q

pub quiet_adds : {r after : Recorder} → Adds r after → IsQuiet r after
quiet_adds {r} a = quiet_is a.added (record { listens = refl; active = refl; functions = refl; more = a.more; added = refl; other = a.other; grouped = a.grouped })

pub quiet_note : {r after : Recorder} (n : Note) → family n ≡ Plain → after ≡ noted n r → IsQuiet r after
quiet_note n plain is = quiet_adds (adds_one (entries.One n) plain is)

quiet_library : {r after : Recorder} (fun : ℕ) → after ≡ called_in fun r → IsQuiet r after
quiet_library {r} fun is =
    quiet_is is (record {
      listens = refl;
      active = refl;
      functions = refl;
      more = entries.One (notes.Lib fun) ∷ [];
      added = refl;
      other = refl;
      grouped = λ here. (refl, tt);
    })

-- ---- registers are set

-- some entries more, each of which sets a register, and nothing else
record SetsMore (old new : Recorder) : Type 0 where
  more : List Entry
  added : new ≡ record old { entries = old.entries ++ more }
  other : filter tells_calls more ≡ []
  grouped : AreGrouped true more
  here : opens_behind true more ≡ true

sets_none : (r : Recorder) → SetsMore r r
sets_none r = record { more = []; added = ap (λ (es : List Entry). record r { entries = es }) (sym (append-nil r.entries)); other = refl; grouped = tt; here = refl }

sets_if : (b : Bool) (r : Recorder) (n : ℕ) (w : Word) → SetsMore r (if b then r else noted (notes.SetReg n w) r)
sets_if true r n w = sets_none r
sets_if false r n w = record { more = entries.One (notes.SetReg n w) ∷ []; added = refl; other = refl; grouped = (refl, tt); here = refl }

sets_both : {r s t : Recorder} → SetsMore r s → SetsMore s t → SetsMore r t
sets_both {r} a b = record {
  more = a.more ++ b.more;
  added = b.added ∙ (ap (λ (x : Recorder). record x { entries = x.entries ++ b.more }) a.added ∙ ap (λ (es : List Entry). record r { entries = es }) (append_assoc r.entries a.more b.more));
  other = filter-append tells_calls a.more b.more ∙ ap (λ es. es ++ filter tells_calls b.more) a.other ∙ b.other;
  grouped = grouped_behind true a.more b.more a.grouped (subst (λ here. AreGrouped here b.more) (sym a.here) b.grouped);
  here = open_behind true a.more b.more ∙ ap (λ here. opens_behind here b.more) a.here ∙ b.here;
}

sets_first : (words : List Word) (n : ℕ) (r : Recorder) → SetsMore r (set_first words n r)
unfolding set_first
sets_first words zero r = sets_none r
sets_first words (suc n) r =
    let before : Recorder = set_first words n r in
    sets_both (sets_first words n r) (sets_if (is_same (slice_index_or words n (plain 0)) (slice_index_or before.machine.words n (plain 0))) before n (slice_index_or words n (plain 0)))

sets_all : (pc : ℕ) (words : List Word) (r : Recorder) → SetsMore r (set_all pc words r)
sets_all pc words r =
    let before : Recorder = set_first words 32 r in
    sets_both (sets_first words 32 r) (sets_if (is_same (plain pc) (plain before.machine.pc)) before 32 (plain pc))

-- they stand behind a note of what passes
passes_none : (n : Note) → family n ≡ Passes → (es : List Entry) → filter tells_calls (entries.One n ∷ es) ≡ filter tells_calls es
passes_none n passes es = ap (λ f. if is_of_calls f then entries.One n ∷ filter tells_calls es else filter tells_calls es) passes

passes_open : (n : Note) → family n ≡ Passes → (es : List Entry) → AreGrouped true es → (here : Bool) → AreGrouped here (entries.One n ∷ es)
passes_open n passes es g here = (ap (may_stand here) passes, subst (λ o. AreGrouped o es) (sym (ap (opens here) passes)) g)

pub quiet_passage : {r after : Recorder} (n : Note) (pc : ℕ) (words : List Word) → family n ≡ Passes → after ≡ set_all pc words (noted n r) → IsQuiet r after
quiet_passage {r} n pc words passes is =
    let sets : SetsMore (noted n r) (set_all pc words (noted n r)) = sets_all pc words (noted n r) in
    quiet_is (is ∙ sets.added) (record {
      listens = refl;
      active = refl;
      functions = refl;
      more = entries.One n ∷ sets.more;
      added = append_assoc r.entries (entries.One n ∷ []) sets.more;
      other = passes_none n passes sets.more ∙ sets.other;
      grouped = passes_open n passes sets.more sets.grouped;
    })

-- ---- the same where nothing was lost

pub tells_lost : {whole : Bool} {r : Recorder} {taken : ℕ} {items : List Item} → whole ≡ false → Tells whole r taken items
tells_lost is = record { told_so = λ w. absurd (true≢false (sym w ∙ is)) }

pub tells_begun : {whole : Bool} {r : Recorder} {taken : ℕ} {items : List Item} (n : Note) → family n ≡ Plain → (r.listens ≡ true) × (r.entries ≡ entries.One n ∷ []) × (r.active ≡ []) → taken ≡ 0 → items ≡ [] → Tells whole r taken items
tells_begun {whole} {r} {taken} {items} n plain is none nothing =
    subst (λ x. Tells whole r taken x) (sym nothing) (subst (λ x. Tells whole r x []) (sym none) (record {
      told_so = λ w. record { listens = is.0; entries = ap (filter tells_calls) is.1 ∙ none_of (entries.One n) plain; active = is.2; numbered = tt; count = omega arith; grouped = subst (AreGrouped false) (sym is.1) (anywhere (entries.One n) plain false) };
    }))

module _ {whole : Bool} {r : Recorder} {taken : ℕ} {items : List Item} where
  -- where nobody listens nothing is told
  pub tells_unheard : {after : List Item} → r.listens ≡ false → Tells whole r taken items → Tells whole r taken after
  tells_unheard is t = record { told_so = λ w. absurd (true≢false (sym (t.told_so w).listens ∙ is)) }

  pub tells_other : (i : Item) → step_of i ≡ Other → Tells whole r taken items → Tells whole r taken (items ++ i ∷ [])
  tells_other i is t = record { told_so = λ w. told_other i is (t.told_so w) }

  module _ {whole' : Bool} {after : Recorder} (kept : whole' ≡ whole) where
    still_told : {items' : List Item} → (IsTold r taken items → IsTold after taken items') → Tells whole r taken items → Tells whole' after taken items'
    still_told f t = record { told_so = λ w. f (t.told_so (sym kept ∙ w)) }

    pub tells_enter : (f : Frame) → after ≡ entered (number_in r.functions f.key) f r → IsNumbered r.functions (Enters f.key f.form) → Tells whole r taken items → Tells whole' after taken (items ++ Push f ∷ [])
    tells_enter f is numbered = still_told (told_enter f is numbered)

    pub tells_leave : after ≡ left_in r.active r → Tells whole r taken items → Tells whole' after taken (items ++ Pop ∷ [])
    tells_leave is = still_told (told_leave is)

    pub tells_reach : (i : Item) (line : ℕ) → step_of i ≡ Reaches line → after ≡ reached_in r.active line r → Tells whole r taken items → Tells whole' after taken (items ++ i ∷ [])
    tells_reach i line step is = still_told (told_reach i line step is)

    pub tells_note : (n : Note) → family n ≡ Plain → after ≡ noted n r → Tells whole r taken items → Tells whole' after taken items
    tells_note n plain is = still_told (told_quiet (quiet_note n plain is))

    pub tells_library : (fun : ℕ) → after ≡ called_in fun r → Tells whole r taken items → Tells whole' after taken items
    tells_library fun is = still_told (told_quiet (quiet_library fun is))

    pub tells_numbered : (after.listens ≡ r.listens) × (after.entries ≡ r.entries) × (after.active ≡ r.active) → Numbers r.functions after.functions → Tells whole r taken items → Tells whole' after taken items
    tells_numbered same keeps = still_told (told_numbered same.0 same.1 same.2 keeps)

    pub tells_passage : (n : Note) (pc : ℕ) (words : List Word) → family n ≡ Passes → after ≡ set_all pc words (noted n r) → Tells whole r taken items → Tells whole' after taken items
    tells_passage n pc words passes is = still_told (told_quiet (quiet_passage n pc words passes is))

    pub tells_adds : Adds r after → Tells whole r taken items → Tells whole' after taken items
    tells_adds adds = still_told (told_quiet (quiet_adds adds))

  pub tells_hushed : {after : Recorder} (hushed : Bool) → after ≡ record r { hushed = hushed } → Tells whole r taken items → Tells whole after taken items
  tells_hushed {after} hushed is =
      still_told refl (told_quiet (quiet_is is (quiet_same refl refl refl refl)))

  pub tells_machine : {after : Recorder} (m : Machine) → after ≡ record r { machine = m } → Tells whole r taken items → Tells whole after taken items
  tells_machine {after} m is =
      still_told refl (told_quiet (quiet_is is (quiet_same refl refl refl refl)))

  pub tells_rest : Tells whole r taken items → whole ≡ true → TellsBehind taken r.entries items
  tells_rest t w = taken_rest (t.told_so w)

  pub tells_taken : {after : Recorder} {taken' more : ℕ} → taken' ≡ taken + more → after ≡ record r { entries = [] } → more ≡ length (filter tells_calls r.entries) → Tells whole r taken items → Tells whole after taken' items
  tells_taken {after} {taken'} {more} sum is so t = record { told_so = λ w. subst (λ n. IsTold after n items) (sym sum) (taken_all is so (t.told_so w)) }

-- units of work are told by nothing
pub tells_worked : {whole : Bool} {r : Recorder} {taken : ℕ} {items after : List Item} (n : ℕ) → after ≡ items ++ Work n ∷ [] → Tells whole r taken items → Tells whole r taken after
tells_worked {whole} {r} {taken} n is t = subst (Tells whole r taken) (sym is) (tells_other (Work n) refl t)
