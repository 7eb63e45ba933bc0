-- The objects of blocks and the parameters of calls are born, and die.
use Rattle.std.proofs.Common.{◌≡◌, ℕ, ◌+◌, ◌-◌, Bool, true, false, List, [], ◌∷◌, ◌++◌, length, take, None, refl, sym, ap, ◌∙◌, subst, append_assoc, arith}
use Rattle.std.proofs.lemmas.List.{append-nil, length-append}
use Rattle.sc_program.specs.declared.storage.StaticId.{StaticId}
use Rattle.sc_rules.specs.Tests.{is_heap}
use Rattle.sc_core.specs.declared.module.Auto.{Auto}
use Rattle.sc_meaning.specs.Values.{Value, Pointer}
use Rattle.sc_meaning.specs.World.{World, Object, Frame, End, Born, Birth, OpenBlock, CloseBlock, fresh, object_at, on_innermost, without_last, outer, pass}
use Rattle.sc_meaning.specs.declared.spot.Spot.TheVariants.{Slot}
use Rattle.sc_meaning.specs.Accesses.{set_at}
use Rattle.sc_meaning.specs.Changes.{born}
use Rattle.sc_meaning.specs.Statements.{auto_kind, born_autos, all_dead}
use Rattle.sc_meaning.specs.Calls.{parameters}
use Rattle.sc_meaning.proofs.Objects.{born_new}
use Rattle.sc_compiled_frames.specs.Kept.{AreNamed, IsNamed, IsUnnamed, Holds, Kept, Ends, AreOthers, AreHeld, unlined, calls, none}
use Rattle.sc_compiled_frames.proofs.Steps.{more, here, on, one_more, and_dies, new_number, ends_then, ends_more, new_cases}
use Rattle.sc_compiled_frames.proofs.Leaves.{set_leads}

-- what is born in a block is held
unnamed_new : (objects : List Object) (ns : List (StaticId × ℕ)) (id : ℕ) → object_at objects id ≡ None → AreNamed objects ns → IsUnnamed id ns
unnamed_new objects [] id e k = tt
unnamed_new objects (n ∷ ns) id e k = (
  (λ q.
      let none : object_at objects n.1 ≡ None = ap (object_at objects) q ∙ e in
      let some = k.0.1 in
      absurd (cc)),
  unnamed_new objects ns id e k.1,
)

no_heap : (constant : Bool) → is_heap (auto_kind constant) ≡ false
no_heap true = refl
no_heap false = refl

born_held : (size : ℕ) (constant : Bool) (offset : ℕ) (w : World) → IsNamed w → Holds (pass (Birth size (auto_kind constant) (Slot offset)) w) (length w.objects + 1) size
born_held size constant offset w k =
    let b = born_new size (auto_kind constant) (Slot offset) w in
    record { object = fresh size (auto_kind constant); there = b.1; live = refl; bytes = refl; heap = no_heap constant; unnamed = unnamed_new w.objects w.names (length w.objects + 1) b.0 k }

-- each object of a block is held as long as it is kept
pub held_on : (R : List Frame → List Frame) (w v : World) (autos : List Auto) (ids : List ℕ) → Kept R w v → AreHeld w autos ids → AreHeld v autos ids
held_on R w v autos [] k h = tt
held_on R w v [] (id ∷ ids) k h = absurd h
held_on R w v (a ∷ autos) (id ∷ ids) k h = (k.holds id a.slot.size h.0, held_on R w v autos ids k h.1)

pub record Births (R : List Frame → List Frame) (w : World) (autos : List Auto) (ids js : List ℕ) (u : World) : Type 0 where
  pub new : List ℕ
  pub numbers : js ≡ ids ++ new
  pub kept : Kept R w u
  pub others : AreOthers w new
  pub held : IsNamed w → AreHeld u autos new

module _ (R : List Frame → List Frame) where
  -- one birth, and those behind it
  with_first : (a : Auto) (rest : List Auto) (ids : List ℕ) (w v x : World) (js : List ℕ) (u : World) (id : ℕ) → Kept R w v → ((i size : ℕ) → Holds w i size → id ≡ i → ⊥) → (IsNamed w → Holds v id a.slot.size) → Kept R v x → Births R x rest (ids ++ id ∷ []) js u → Births R w (a ∷ rest) ids js u
  with_first a rest ids w v x js u id k n h l b = record {
    new = id ∷ b.new;
    numbers = b.numbers ∙ append_assoc ids (id ∷ []) b.new;
    kept = on R w x u (on R w v x k l) b.kept;
    others = λ i size p. (n i size p, b.others i size (l.holds i size (k.holds i size p)));
    held = λ q. (b.kept.holds id a.slot.size (l.holds id a.slot.size (h q)), b.held (l.named (k.named q)));
  }

  nothing_born : (autos : List Auto) (ids : List ℕ) (w : World) → ids ≡ ids ++ [] → Births R w autos ids ids w
  nothing_born autos ids w e = record { new = []; numbers = e; kept = here R w; others = λ i size p. tt; held = λ q. tt }

  pub autos_born : (autos : List Auto) (ids : List ℕ) (w : World) → Ends (λ js u. Births R w autos ids js u) (born_autos autos ids w)
  autos_born [] ids w = nothing_born [] ids w (sym (append-nil ids))
  autos_born (a ∷ rest) ids w =
      ends_then (λ id v. (id ≡ length w.objects + 1) × (v ≡ pass (Birth a.slot.size (auto_kind a.slot.constant) (Slot a.slot.offset)) w)) (λ js u. Births R w (a ∷ rest) ids js u)
      (born a.slot.size (auto_kind a.slot.constant) (Slot a.slot.offset) w) (λ id u. born_autos rest (ids ++ id ∷ []) u) (new_cases a.slot.size (auto_kind a.slot.constant) (Slot a.slot.offset) w) (λ id v p.
      let b : World = pass (Birth a.slot.size (auto_kind a.slot.constant) (Slot a.slot.offset)) w in
      let o : ℕ = length w.objects + 1 in
      subst (λ y. Ends (λ js u. Births R w (a ∷ rest) ids js u) (born_autos rest (ids ++ y ∷ []) v)) (sym p.0) (subst (λ y. Ends (λ js u. Births R w (a ∷ rest) ids js u) (born_autos rest (ids ++ o ∷ []) y)) (sym p.1)
      (ends_more (λ js u. Births R b rest (ids ++ o ∷ []) js u) (λ js u. Births R w (a ∷ rest) ids js u) (born_autos rest (ids ++ o ∷ []) b) (autos_born rest (ids ++ o ∷ []) b) (λ js u q.
      with_first a rest ids w b b js u o (one_more R (Birth a.slot.size (auto_kind a.slot.constant) (Slot a.slot.offset)) refl w) (new_number a.slot.size (auto_kind a.slot.constant) (Slot a.slot.offset) w) (born_held a.slot.size a.slot.constant a.slot.offset w) (here R b) q))))

  pub parameters_born : (autos : List Auto) (vs : List Value) (ids : List ℕ) (w : World) → Ends (λ js u. Births R w autos ids js u) (parameters autos vs ids w)
  parameters_born [] vs ids w = nothing_born [] ids w (sym (append-nil ids))
  parameters_born (a ∷ rest) [] ids w = nothing_born (a ∷ rest) ids w (sym (append-nil ids))
  parameters_born (a ∷ rest) (x ∷ vs) ids w =
      ends_then (λ id v. (id ≡ length w.objects + 1) × (v ≡ pass (Birth a.slot.size (auto_kind a.slot.constant) (Slot a.slot.offset)) w)) (λ js u. Births R w (a ∷ rest) ids js u)
      (born a.slot.size (auto_kind a.slot.constant) (Slot a.slot.offset) w) (λ id u. parameters rest vs (ids ++ id ∷ []) (set_at (Pointer id 0) 0 a.slot.size x u)) (new_cases a.slot.size (auto_kind a.slot.constant) (Slot a.slot.offset) w) (λ id v p.
      let b : World = pass (Birth a.slot.size (auto_kind a.slot.constant) (Slot a.slot.offset)) w in
      let o : ℕ = length w.objects + 1 in
      let c : World = set_at (Pointer o 0) 0 a.slot.size x b in
      subst (λ y. Ends (λ js u. Births R w (a ∷ rest) ids js u) (parameters rest vs (ids ++ y ∷ []) (set_at (Pointer y 0) 0 a.slot.size x v))) (sym p.0) (subst (λ y. Ends (λ js u. Births R w (a ∷ rest) ids js u) (parameters rest vs (ids ++ o ∷ []) (set_at (Pointer o 0) 0 a.slot.size x y))) (sym p.1)
      (ends_more (λ js u. Births R c rest (ids ++ o ∷ []) js u) (λ js u. Births R w (a ∷ rest) ids js u) (parameters rest vs (ids ++ o ∷ []) c) (parameters_born rest vs (ids ++ o ∷ []) c) (λ js u q.
      with_first a rest ids w b c js u o (one_more R (Birth a.slot.size (auto_kind a.slot.constant) (Slot a.slot.offset)) refl w) (new_number a.slot.size (auto_kind a.slot.constant) (Slot a.slot.offset) w) (born_held a.slot.size a.slot.constant a.slot.offset w) (set_leads R (Pointer o 0) 0 a.slot.size x b) q))))

  -- they die, and what was held before is held
  pub deaths_keep : (ids : List ℕ) (w v : World) → Kept R w v → AreOthers w ids → Kept R w (all_dead ids v)
  deaths_keep [] w v k n = k
  deaths_keep (id ∷ ids) w v k n = and_dies R id w (all_dead ids v) (deaths_keep ids w v k (λ i size h. (n i size h).1)) (λ i size h. (n i size h).0)

pub dead_frames : (ids : List ℕ) (w : World) → (all_dead ids w).frames ≡ w.frames
dead_frames [] w = refl
dead_frames (id ∷ ids) w = dead_frames ids w

-- a block is entered in the innermost call, and left
take-front : {X : Type 0} (xs ys : List X) → take (length xs) (xs ++ ys) ≡ xs
take-front [] ys = refl
take-front (x ∷ xs) ys = ap (λ zs. x ∷ zs) (take-front xs ys)

last_off : (bs : List Born) (b : Born) → without_last (bs ++ b ∷ []) ≡ bs
last_off bs b =
    let n : length (bs ++ b ∷ []) ≡ length bs + 1 = length-append bs (b ∷ []) in
    let m : length (bs ++ b ∷ []) - 1 ≡ length bs = omega arith in
    ap (λ k. take k (bs ++ b ∷ [])) m ∙ take-front bs (b ∷ [])

abbrev pub opened : Born → Frame → Frame
opened b f = record f { blocks = f.blocks ++ b ∷ [] }

abbrev pub closed : Frame → Frame
closed f = record f { blocks = without_last f.blocks }

pub closed_calls : (b : Born) (fs gs : List Frame) → calls gs ≡ calls (on_innermost (opened b) fs) → calls (on_innermost closed gs) ≡ calls fs
closed_calls b [] [] h = refl
closed_calls b [] (g ∷ gs) h = absurd (cc)
closed_calls b (f ∷ fs) [] h = absurd (cc)
closed_calls b (f ∷ fs) (g ∷ gs) h = ap (on_innermost closed) h ∙ ap (λ bs. record (unlined f) { blocks = bs } ∷ fs) (last_off f.blocks b)

pub outer_calls : (fs : List Frame) → outer (calls fs) ≡ outer fs
outer_calls [] = refl
outer_calls (f ∷ fs) = refl

pub outer_opened : (b : Born) (fs : List Frame) → outer (on_innermost (opened b) fs) ≡ outer fs
outer_opened b [] = refl
outer_opened b (f ∷ fs) = refl

-- a block, from its births to its deaths
pub block_kept : (b : Born) (ids : List ℕ) (x w u : World) → Kept calls x w → Kept calls (pass (OpenBlock b) w) u → AreOthers x ids → Kept calls x (pass End (pass CloseBlock (all_dead ids u)))
block_kept b ids x w u k l n =
    let d = deaths_keep none ids x u (record { frames = refl; used = l.used ∙ k.used; out = l.out ∙ more (OpenBlock b) w ∙ k.out; holds = λ i size h. l.holds i size (k.holds i size h); named = λ q. l.named (k.named q); proper = λ q. l.proper (k.proper q) }) n in
    record {
      frames = ap (λ fs. calls (on_innermost closed fs)) (dead_frames ids u) ∙ closed_calls b w.frames u.frames l.frames ∙ k.frames;
      used = d.used;
      out = more End (pass CloseBlock (all_dead ids u)) ∙ more CloseBlock (all_dead ids u) ∙ d.out;
      holds = d.holds;
      named = d.named;
      proper = d.proper;
    }
