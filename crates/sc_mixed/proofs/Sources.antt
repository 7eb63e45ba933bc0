-- Where all modules are interpreted, a move is the machine's step.
use Rattle.std.proofs.Common.{◌≡◌, ◌&&◌, not, ℕ, Bool, true, false, List, [], ◌∷◌, refl, ap, sym, subst, ◌∙◌, Option, Some, None, Result}
use Rattle.std.specs.Option.{is_some}
use Rattle.sc_base.specs.declared.key.Key.{Key}
use Rattle.sc_types.specs.declared.ctype.CType.{CType}
use Rattle.sc_core.specs.declared.module.Fun.{Fun}
use Rattle.sc_interp.specs.declared.going.Going.{Going}
use Rattle.sc_interp.specs.declared.going.Going.TheVariants as going
use Rattle.sc_interp_machine.specs.Runs.{Caller}
use Rattle.sc_isa_image.specs.declared.image.Image.{Image}
use Rattle.sc_meaning.specs.declared.library.LibFun.{LibFun}
use Rattle.sc_meaning.specs.Expressions.{Answer, value_rule}
use Rattle.sc_meaning.specs.Names.{library_fun}
use Rattle.sc_meaning.specs.Values.{Value, Number, FunctionAt, Pointer}
use Rattle.sc_meaning.specs.Versions.{Text, Callee, Missing, InText, InLibrary, or_library, library_callee, or_later, fun_by, callee_of}
use Rattle.sc_meaning.specs.World.{World}
use Rattle.sc_services.specs.Frames.{is_object}
use Rattle.sc_world.specs.Standing.{state_of}
use Rattle.sc_mixed.specs.Bridge.{goes_to_code, is_code, names_code}
use Rattle.sc_mixed.specs.Machine.{GoesBy, Moves, StepsFrom, way, way_among, way_if}
use Rattle.sc_mixed.specs.Sources.{AreSources}
use Rattle.sc_mixed.specs.Standing.{status_among, status_in}
use Rattle.sc_mixed.specs.declared.broken.Break.{Break}
use Rattle.sc_mixed.specs.declared.calls.Calls.{Calls}
use Rattle.sc_mixed.specs.declared.calls.Lower.{Lower}
use Rattle.sc_mixed.specs.declared.calls.Moved.{Moved}
use Rattle.sc_mixed.specs.declared.calls.Next.{Next}
use Rattle.sc_mixed.specs.declared.calls.Next.TheVariants.{Steps}
use Rattle.sc_mixed.specs.declared.moves.Way.{Way}
use Rattle.sc_mixed.specs.declared.moves.Way.TheVariants.{Stays}

library_source : (q : Option LibFun) → is_code (or_library q) ≡ false
library_source None = refl
library_source (Some f) = refl

other_source : (key : Key) (m : Option (List ℕ)) → is_code (library_callee key m) ≡ false
other_source key None = library_source (library_fun key.name)
other_source key (Some home) = refl

later_source : (t : Text) (q : Option Fun) (c : Callee) → is_object t.form ≡ false → is_code c ≡ false → is_code (or_later t q c) ≡ false
later_source t None c p q = q
later_source t (Some f) c p q = p

callee_source : (texts : List Text) (key : Key) → AreSources texts → is_code (callee_of texts key) ≡ false
callee_source [] key p = other_source key key.«module»
callee_source (t ∷ ts) key p = later_source t (fun_by key.«module» key.name t.core) (callee_of ts key) p.0 (callee_source ts key p.1)

names_source : (texts : List Text) (x : Value) → AreSources texts → names_code texts x ≡ false
names_source texts (FunctionAt key) p = callee_source texts key p
names_source texts (Number n) p = refl
names_source texts (Pointer o i) p = refl

goes_source : (texts : List Text) (t : Text) (s : CType) (x : Value) → AreSources texts → goes_to_code texts t s x ≡ false
goes_source texts t s x p = ap (λ (b : Bool). b && not (is_some (value_rule texts t s x))) (names_source texts x p)

not_empty : (l : Lower) (ls : List Lower) → l ∷ ls ≡ [] → ⊥
not_empty l ls p = cc

waits : (a : Answer) (cs : List Caller) (ls : List Lower) → ls ≡ [] → status_among a cs ls ≡ None → way_among cs ≡ Stays
waits a [] [] p q = absurd (cc)
waits a [] (l ∷ ls) p q = absurd (not_empty l ls p)
waits a (c ∷ cs) ls p q = refl

stays : (texts : List Text) (g : Going) (c : Calls) → AreSources texts → c.lower ≡ [] → status_in g c ≡ None → way texts g c ≡ Stays
stays texts (going.Runs doing ss env a) c p low on = refl
stays texts (going.Makes t x xs caller) c p low on = ap way_if (goes_source texts caller.env.text t x p)
stays texts (going.Answers a) c p low on = waits a c.callers c.lower low on

pub as_before : (texts : List Text) (i : Image) (g : Going) (c : Calls) (w : World) (result : Result Moved Break) (next : Next) (d : Calls) (v : World) → AreSources texts → c.lower ≡ [] → status_in g c ≡ None → Moves texts i (Steps g) c w result next d v → StepsFrom texts (state_of g c.callers w) c result next d v
as_before texts i g c w result next d v p low on moves = subst (λ (y : Way). GoesBy y texts i g c w result next d v) (stays texts g c p low on) moves
