-- Inside: plumbing, a representation, an invariant or a promise beside the claim (docs/TRUST.md).
-- What a part of a run leaves as it was: the active calls, the stack that is used, and the objects of their blocks.
use Rattle.std.specs.Prelude.{◌≡◌, ℕ, Bool, true, false, ◌&&◌, List, [], ◌∷◌, Some}
use Rattle.sc_program.specs.declared.storage.StaticId.{StaticId}
use Rattle.sc_core.specs.declared.module.Auto.{Auto}
use Rattle.sc_rules.specs.Tests.{is_heap}
use Rattle.sc_meaning.specs.Values.{Number, FunctionAt, Pointer, Cell, Unwritten, Byte, Piece}
use Rattle.sc_meaning.specs.Marks.{out_after}
use Rattle.sc_meaning.specs.World.{World, Object, Frame, Item, object_at, on_innermost}
use Rattle.sc_meaning.specs.Outcomes.{Outcome, Done, Over}

-- a number is none of these; no name stands for an object
abbrev pub IsOff : ℕ → List ℕ → Type 0
IsOff id [] = Unit {0}
IsOff id (x ∷ xs) = (x ≡ id → ⊥) × IsOff id xs

abbrev pub IsUnnamed : ℕ → List (StaticId × ℕ) → Type 0
IsUnnamed id [] = Unit {0}
IsUnnamed id (n ∷ ns) = (n.1 ≡ id → ⊥) × IsUnnamed id ns

-- An object of this size lives, is no block of the heap and has no name, as the objects of open blocks.
pub record IsHeld (objects : List Object) (names : List (StaticId × ℕ)) (id size : ℕ) : Type 0 where
  pub object : Object
  pub there : object_at objects id ≡ Some object
  pub live : object.live ≡ true
  pub bytes : object.size ≡ size
  pub heap : is_heap object.kind ≡ false
  pub unnamed : IsUnnamed id names

abbrev pub Holds : World → ℕ → ℕ → Type 0
Holds w id size = IsHeld w.objects w.names id size

-- each name stands for an object that was born
abbrev pub AreNamed : List Object → List (StaticId × ℕ) → Type 0
AreNamed objects [] = Unit {0}
AreNamed objects (n ∷ ns) = ((o : Object) × (object_at objects n.1 ≡ Some o)) × AreNamed objects ns

abbrev pub IsNamed : World → Type 0
IsNamed w = AreNamed w.objects w.names

-- no piece of a pointer is one of a number
abbrev pub is_proper_cell : Cell → Bool
is_proper_cell Unwritten = true
is_proper_cell (Byte b) = true
is_proper_cell (Piece (Number n) k) = false
is_proper_cell (Piece (FunctionAt key) k) = true
is_proper_cell (Piece (Pointer o i) k) = true

abbrev pub are_proper : List Cell → Bool
are_proper [] = true
are_proper (c ∷ cs) = is_proper_cell c && are_proper cs

abbrev pub AllProper : List Object → Type 0
AllProper [] = Unit {0}
AllProper (o ∷ os) = (are_proper o.cells ≡ true) × AllProper os

abbrev pub IsProper : World → Type 0
IsProper w = AllProper w.objects

-- what is looked at of the active calls: all of them; all but the line of the innermost
abbrev pub unlined : Frame → Frame
unlined f = record f { line = 0 }

abbrev pub whole : List Frame → List Frame
whole fs = fs

abbrev pub calls : List Frame → List Frame
calls fs = on_innermost unlined fs

abbrev pub none : List Frame → List Frame
none fs = []

-- how many calls have gone out and not come back, as some things happen; in a world
abbrev pub out_along : List Item → ℕ → ℕ
out_along [] out = out
out_along (i ∷ is) out = out_along is (out_after i out)

abbrev pub are_out : World → ℕ
are_out w = out_along w.trail 0

-- From one world to a later one: what is looked at of the calls is the same, the stack used too, and each object that was held is held, with
-- its size. What it holds may have changed. As many calls are out: what went out came back.
pub record Kept (part : List Frame → List Frame) (w v : World) : Type 0 where
  pub frames : part v.frames ≡ part w.frames
  pub used : v.used ≡ w.used
  pub out : are_out v ≡ are_out w
  pub holds : (id size : ℕ) → Holds w id size → Holds v id size
  pub named : IsNamed w → IsNamed v
  pub proper : IsProper w → IsProper v

-- what holds of a result and of the world behind it, where a part has a result
abbrev pub Ends : {A : Type 0} → (A → World → Type 0) → Outcome A → Type 0
Ends P (Done a v) = P a v
Ends P (Over e) = Unit {0}

-- a part that has a result keeps
pub record Leaves {A : Type 0} (part : List Frame → List Frame) (w : World) (r : Outcome A) : Type 0 where
  pub keeps : Ends (λ a v. Kept part w v) r

-- numbers that are none of an object that is held
abbrev pub AreOthers : World → List ℕ → Type 0
AreOthers w ids = (id size : ℕ) → Holds w id size → IsOff id ids

-- the objects of a block by their numbers: each is held, and has its slot's size
abbrev pub AreHeld : World → List Auto → List ℕ → Type 0
AreHeld w autos [] = Unit {0}
AreHeld w [] (id ∷ ids) = ⊥
AreHeld w (a ∷ autos) (id ∷ ids) = Holds w id a.slot.size × AreHeld w autos ids
