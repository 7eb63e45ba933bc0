-- What is told of a run leaves its world as it is: each relation holds of the world behind it too.
use Rattle.std.proofs.Common.{◌≡◌, ◌+◌, ℕ, List, Result, Ok, Err, refl, sym, subst, ◌∙◌}
use Rattle.sc_base.specs.declared.key.Key.{Key}
use Rattle.sc_emu.specs.Registers.{Registers}
use Rattle.sc_interp.specs.declared.stepped.Shown.{Shown}
use Rattle.sc_isa_image.specs.declared.image.Image.{Image}
use Rattle.sc_meaning.specs.Values.{Value}
use Rattle.sc_meaning.specs.Versions.{Text}
use Rattle.sc_meaning.specs.World.{World}
use Rattle.sc_mixed.specs.Bridge.{Calling}
use Rattle.sc_mixed.specs.Instructions.{Instruction, RanUpto}
use Rattle.sc_mixed.specs.Parts.{AfterLast, ExecutesUpto, MovedUpto, MovesUpto}
use Rattle.sc_mixed.specs.declared.broken.Break.{Break}
use Rattle.sc_mixed.specs.declared.calls.Calls.{Calls}
use Rattle.sc_mixed.specs.declared.calls.Moved.{Moved}
use Rattle.sc_mixed.specs.declared.calls.Next.{Next}
use Rattle.sc_mixed.specs.declared.execute.Went.{Went}
use Rattle.sc_mixed.specs.declared.execute.Went.TheVariants as went

pub instruction_told : (i : Image) (r s : Registers) (w first middle last v : World) (how : Went) → first ≡ w → Instruction i r first how s middle → last ≡ middle → v ≡ last → Instruction i r w how s v
instruction_told i r s w first middle last v how a instr b d =
    subst (λ (x : World). Instruction i r x how s v) a (subst (λ (x : World). Instruction i r first how s x) (sym (d ∙ b)) instr)

pub ran_kept : (i : Image) (most : ℕ) (r : Registers) (w : World) (count : ℕ) (how : Went) (s : Registers) (v u : World) → RanUpto i most r w count how s v → u ≡ v → RanUpto i most r w count how s u
ran_kept i most r w count how s v u p is = subst (λ (x : World). RanUpto i most r w count how s x) (sym is) p

pub executes_kept : (i : Image) (most : ℕ) (c : Calls) (w : World) (result : Result Moved Break) (next : Next) (d : Calls) (v u : World) → ExecutesUpto i most c w result next d v → u ≡ v → ExecutesUpto i most c w result next d u
executes_kept i most c w result next d v u p is = subst (λ (x : World). ExecutesUpto i most c w result next d x) (sym is) p

pub calling_kept : (i : Image) (key : Key) (xs : List Value) (c : Calls) (w : World) (next : Next) (d : Calls) (v u : World) → Calling i key xs c w next d v → u ≡ v → Calling i key xs c w next d u
calling_kept i key xs c w next d v u p is = subst (λ (x : World). Calling i key xs c w next d x) (sym is) p

pub after_kept : (how : Went) (count : ℕ) (c : Calls) (w v : World) (result : Result Moved Break) (next : Next) (d : Calls) → how ≡ went.Returned → v ≡ w → AfterLast went.Returned count c v result next d → AfterLast how count c w result next d
after_kept how count c w v result next d is same p =
    subst (λ (x : Went). AfterLast x count c w result next d) (sym is) (subst (λ (x : World). AfterLast went.Returned count c x result next d) same p)

-- a move is counted
pub moved_so : (texts : List Text) (i : Image) (most : ℕ) (next : Next) (c : Calls) (w : World) (took : ℕ) (result : Result Moved Break) (moved : Moved) (after : Next) (d : Calls) (v u : World) (then : ℕ) → MovesUpto texts i most next c w result after d v → result ≡ Ok moved → u ≡ v → then ≡ took + moved.turns → MovedUpto texts i most next c w took (Ok moved.shown) after d u then
moved_so texts i most next c w took result moved after d v u then p is same sum =
    (moved.turns, sum, subst (λ (x : World). MovesUpto texts i most next c w (Ok moved) after d x) (sym same) (subst (λ (x : Result Moved Break). MovesUpto texts i most next c w x after d v) is p))
