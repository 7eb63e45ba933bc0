-- Yardstick: to be compared with what it restates (docs/TRUST.md).
-- A run of both forms from its start on, through moves and changes of its texts, and what it shows: a beginning of what the meaning of its call shows under
-- the history of its texts.
use Rattle.std.specs.Prelude.{◌≡◌, ◌⊎◌, ⊤, ℕ, suc, ◌+◌, ◌<◌, true, List, [], ◌∷◌, ◌++◌, map, Ok, Err, Some}
use Rattle.sc_base.specs.declared.key.Key.{Key}
use Rattle.sc_interp.specs.declared.going.Going.TheVariants as going
use Rattle.sc_interp.specs.declared.stepped.Shown.{Shown}
use Rattle.sc_interp.specs.declared.stepped.Shown.TheVariants.{Nothing}
use Rattle.sc_interp_access.specs.Gives.{ending_of}
use Rattle.sc_interp_change_laws.specs.Showing.{IsEvent}
use Rattle.sc_like.specs.Alike.{Like, shown_of}
use Rattle.sc_like.specs.Outcomes.{EndsAlike}
use Rattle.sc_meaning.specs.Calls.{call}
use Rattle.sc_meaning.specs.Changes.{changed, statics_born}
use Rattle.sc_meaning.specs.Expressions.{Answer}
use Rattle.sc_meaning.specs.Outcomes.{Outcome, Done, Over, Ending, Undefined, Breach, world_after}
use Rattle.sc_meaning.specs.Versions.{Text, History, callee_of}
use Rattle.sc_meaning.specs.World.{World, Item, GoesOut, pass}
use Rattle.sc_mixed.specs.Bridge.{is_code}
use Rattle.sc_mixed.specs.Changing.{IsPlaced}
use Rattle.sc_mixed.specs.Machine.{Moves}
use Rattle.sc_mixed.specs.Starting.{EntryGoes, no_calls}
use Rattle.sc_mixed.specs.declared.broken.Break.{Break}
use Rattle.sc_mixed.specs.declared.broken.Break.TheVariants.{Meant, Crashed}
use Rattle.sc_mixed.specs.declared.calls.Calls.{Calls}
use Rattle.sc_mixed.specs.declared.calls.Moved.{Moved}
use Rattle.sc_mixed.specs.declared.calls.Next.{Next}
use Rattle.sc_mixed.specs.declared.calls.Next.TheVariants.{Steps}
use Rattle.sc_mixed_means.specs.Owed.{CompiledTextsAreRight, is_own_step}
use Rattle.sc_mixed_means.specs.Places.{KeepsBy, Means}
use Rattle.sc_mixed_means.specs.Stages.{Build, Look, ComesWith, Fits, First, Past, Stage, Then, next_stage, since, texts_of}
use Rattle.sc_mixed_means.specs.Waiting.{IsFit, KeepsWaiting}

-- ---- behind a change

-- the place means the same where the next build has come, behind so many events
abbrev pub Changed : ℕ → Stage → Build → List Build → Next → Calls → World → (History → Outcome Answer) → Type 0
Changed n s b bs next c x out = (count : ℕ) × (since s.past < count) × Means n (next_stage s count b bs) next c x Nothing out

-- or every history in which it comes there ends so
abbrev pub ChangeEnds : Stage → Build → Ending → (History → Outcome Answer) → Type 0
ChangeEnds s b e out = (count : ℕ) × (since s.past < count) × (f : Ending) × EndsAlike Like e f × ((h : History) → Fits s.past h count → ComesWith h count (texts_of s.past) b.texts → out h ≡ Over f)

-- ---- a run

-- a place of a run, with what its last move showed
pub record Place : Type 0 where
  pub next : Next
  pub calls : Calls
  pub world : World
  pub now : Shown

abbrev pub in_world : World → Place → Place
in_world x p = record { next = p.next; calls = p.calls; world = x; now = Nothing }

-- so many moves and changes lead from the first place to another, with the build that is present there and those that are still to come
pub data Gone (first : Place) (b : Build) (bs : List Build) : ℕ → Place → Build → List Build → Type 0 where
  gone_none : Gone first b bs 0 first b bs
  gone_moved : (k : ℕ) (p q : Place) (c : Build) (cs : List Build) (moved : Moved) → Gone first b bs k p c cs → Moves c.texts c.image p.next p.calls p.world (Ok moved) q.next q.calls q.world → q.now ≡ moved.shown → Gone first b bs (suc k) q c cs
  gone_changed : (k : ℕ) (p : Place) (c d : Build) (ds : List Build) (placed x : World) → Gone first b bs k p c (d ∷ ds) → IsEvent p.now → IsPlaced p.world placed → changed c.texts d.texts placed ≡ Done tt x → Gone first b bs (suc k) (in_world x p) d ds

-- ---- the history of a run

-- the versions: its first texts, and then each of the others behind so many events
abbrev pub history_of : Past → History
history_of (First texts) = record { count = 0; texts = texts } ∷ []
history_of (Then p count texts) = history_of p ++ record { count = count; texts = texts } ∷ []

-- they come one after another
abbrev pub AreInOrder : Past → Type 0
AreInOrder (First texts) = ⊤
AreInOrder (Then p count texts) = AreInOrder p × (since p < count)

-- all texts of a run so far, the first ones first
abbrev pub all_texts : Past → List (List Text)
all_texts (First texts) = texts ∷ []
all_texts (Then p count texts) = all_texts p ++ texts ∷ []

abbrev pub texts_in : Build → List Text
texts_in b = b.texts

-- a run with these builds, of which those of the second list have not come, has had these texts
pub record IsPastOf (b : Build) (bs : List Build) (c : Build) (cs : List Build) (p : Past) : Type 0 where
  pub order : AreInOrder p
  pub present : texts_of p ≡ c.texts
  pub all : all_texts p ++ map texts_in cs ≡ b.texts ∷ map texts_in bs

-- ---- what a run shows

-- what a world shows is the beginning of what another one does
abbrev pub IsShownIn : World → World → Type 0
IsShownIn w v = (later : List Item) × ((shown_of v.trail).items ≡ (shown_of w.trail).items ++ later)

-- what the call of the entry gives under a history, behind the births
abbrev pub entry_gives : ℕ → Key → World → History → Outcome Answer
entry_gives n key born h = call n h key [] (pass GoesOut born)

-- the run has shown all that the meaning shows, but for the undefined step of compiled code that comes next; from there on no more is claimed
pub record IsPast (n : ℕ) (key : Key) (born : World) (w : World) (p : Past) : Type 0 where
  pub breach : Breach
  pub end : World
  pub ends : entry_gives n key born (history_of p) ≡ Over (Undefined breach end)
  pub compiled : is_own_step breach end ≡ true
  pub shows : (shown_of end.trail).items ≡ (shown_of w.trail).items

-- so it is at a place at which these builds are still to come
pub record IsPastAt (b : Build) (bs : List Build) (n : ℕ) (key : Key) (born : World) (p : Place) (c : Build) (cs : List Build) : Type 0 where
  pub past : Past
  pub follows : IsPastOf b bs c cs past
  pub is : IsPast n key born p.world past

-- it came to that on its way to a place, or there
abbrev pub WasPast : (first : Place) (b : Build) (bs : List Build) → ℕ → Key → World → (k : ℕ) (p : Place) (c : Build) (cs : List Build) → Gone first b bs k p c cs → Type 0
WasPast first b bs n key born _ _ _ _ gone_none = IsPastAt b bs n key born first b bs
WasPast first b bs n key born _ _ _ _ (gone_moved k p q c cs moved g x e) = IsPastAt b bs n key born q c cs ⊎ WasPast first b bs n key born k p c cs g
WasPast first b bs n key born _ _ _ _ (gone_changed k p c d ds placed x g event is goes) = IsPastAt b bs n key born (in_world x p) d ds ⊎ WasPast first b bs n key born k p c (d ∷ ds) g

-- at a place the memory has the objects where compiled code has them
abbrev pub FitsAt : Place → Build → Type 0
FitsAt p c = IsFit c.texts c.image c.places p.calls.lower p.world

-- What the laws of memory are to give of a run, on its own way and up to where it stands: at each place from which a move goes the memory has the objects,
-- and interpreted calls and changes keep what waits; unless the run was past an undefined step of compiled code there.
abbrev pub MemoryIsKept : (first : Place) (b : Build) (bs : List Build) → ℕ → Key → World → (k : ℕ) (p : Place) (c : Build) (cs : List Build) → Gone first b bs k p c cs → Type 0
MemoryIsKept first b bs n key born _ _ _ _ gone_none = ⊤
MemoryIsKept first b bs n key born _ _ _ _ (gone_moved k p q c cs moved g x e) =
    MemoryIsKept first b bs n key born k p c cs g × ((FitsAt p c × KeepsBy p.next (Ok moved) p.calls.lower p.world q.next q.calls q.world) ⊎ WasPast first b bs n key born k p c cs g)
MemoryIsKept first b bs n key born _ _ _ _ (gone_changed k p c d ds placed x g event is goes) =
    MemoryIsKept first b bs n key born k p c (d ∷ ds) g × (KeepsWaiting p.calls.lower p.world x ⊎ WasPast first b bs n key born k p c (d ∷ ds) g)

-- how a move that breaks off leaves a run: as the meaning ends, under the history of its texts, but that memory may run out; it never crashes
abbrev pub BreaksOff : (b : Build) (bs : List Build) → ℕ → Key → World → Build → List Build → Break → World → Type 0
BreaksOff b bs n key born c cs (Meant stop) u =
    (past : Past) × IsPastOf b bs c cs past × ((e : Ending) → ending_of stop u ≡ Some e → (f : Ending) × EndsAlike Like e f × (entry_gives n key born (history_of past) ≡ Over f))
BreaksOff b bs n key born c cs (Crashed pc cause) u = ⊥

-- a run of the first build begins with the call of its entry
pub record Enters (b : Build) (key : Key) (start born : World) (first : Place) : Type 0 where
  pub births : statics_born b.texts start ≡ Done tt born
  pub entry : EntryGoes (is_code (callee_of b.texts key)) b.texts b.image key no_calls born first.next first.now first.calls first.world
  pub fit : IsFit b.texts b.image b.places [] (pass GoesOut born)

-- The theorem on runs of both forms. What a place shows, that so many moves and changes reach, begins what the meaning of the entry's call shows, at each
-- greater bound, under a history with the run's texts in their order; unless the run is past an undefined step of compiled code.
abbrev pub RunsShowTheirMeaning : Type 0
RunsShowTheirMeaning =
    (look : Look) (b : Build) (bs : List Build) (n : ℕ) (key : Key) (start born : World) (first : Place) → CompiledTextsAreRight look (b ∷ bs) → Enters b key start born first →
    (k : ℕ) (p : Place) (c : Build) (cs : List Build) → look.deep k < n → (g : Gone first b bs k p c cs) → MemoryIsKept first b bs n key born k p c cs g →
    ((past : Past) × IsPastOf b bs c cs past × IsShownIn p.world (world_after (entry_gives n key born (history_of past)))) ⊎ WasPast first b bs n key born k p c cs g

-- Where it breaks off, it ends as the meaning does, or it was past such a step.
abbrev pub RunsEndAsMeant : Type 0
RunsEndAsMeant =
    (look : Look) (b : Build) (bs : List Build) (n : ℕ) (key : Key) (start born : World) (first : Place) → CompiledTextsAreRight look (b ∷ bs) → Enters b key start born first →
    (k : ℕ) (p : Place) (c : Build) (cs : List Build) (broken : Break) (after : Next) (d : Calls) (u : World) → look.deep (suc k) < n → (g : Gone first b bs k p c cs) → MemoryIsKept first b bs n key born k p c cs g → FitsAt p c → Moves c.texts c.image p.next p.calls p.world (Err broken) after d u →
    BreaksOff b bs n key born c cs broken u ⊎ WasPast first b bs n key born k p c cs g

-- Where a change ends it, so does the meaning under the history that has this change as its last version.
abbrev pub ChangesEndAsMeant : Type 0
ChangesEndAsMeant =
    (look : Look) (b : Build) (bs : List Build) (n : ℕ) (key : Key) (start born : World) (first : Place) → CompiledTextsAreRight look (b ∷ bs) → Enters b key start born first →
    (k : ℕ) (p : Place) (c d : Build) (ds : List Build) (placed : World) (e : Ending) → look.deep k < n → (g : Gone first b bs k p c (d ∷ ds)) → MemoryIsKept first b bs n key born k p c (d ∷ ds) g → IsEvent p.now → IsPlaced p.world placed → changed c.texts d.texts placed ≡ Over e →
    ((past : Past) × IsPastOf b bs d ds past × (f : Ending) × EndsAlike Like e f × (entry_gives n key born (history_of past) ≡ Over f)) ⊎ WasPast first b bs n key born k p c (d ∷ ds) g

-- Where the answer of the entry's call is there and nothing waits for it, the meaning's call gives it, in a world that is alike; or the run was past such a
-- step.
abbrev pub RunsReturnAsMeant : Type 0
RunsReturnAsMeant =
    (look : Look) (b : Build) (bs : List Build) (n : ℕ) (key : Key) (start born : World) (first : Place) → CompiledTextsAreRight look (b ∷ bs) → Enters b key start born first →
    (k : ℕ) (p : Place) (c : Build) (cs : List Build) (a : Answer) → look.deep k < n → (g : Gone first b bs k p c cs) → MemoryIsKept first b bs n key born k p c cs g → p.next ≡ Steps (going.Answers a) → p.calls.callers ≡ [] → p.calls.lower ≡ [] →
    ((past : Past) × IsPastOf b bs c cs past × (u : World) × Like p.world u × (entry_gives n key born (history_of past) ≡ Done a u)) ⊎ WasPast first b bs n key born k p c cs g
