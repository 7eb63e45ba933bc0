-- What is put behind a text, and what is still to come.
use Rattle.std.proofs.Common.{◌≡◌, ℕ, suc, ◌+◌, ◌-◌, ◌<◌, min, List, [], ◌++◌, refl, ap, sym, ◌∙◌, arith, append_assoc}
use Rattle.std.specs.Prelude.{codes, Result, Ok, Err, Some, IfOk, unwrap_or}
use Rattle.sc_types.specs.declared.ctype.CType.{CType, out-CType, fold-CType, fold-roll-CType}
use Rattle.sc_types.specs.declared.ctype.CType.TheVariants as t
use Rattle.sc_types.specs.declared.ctype.CType.TheOpen.{CType-F}
use Rattle.sc_types.specs.declared.ctype.Signature.{Signature}
use Rattle.sc_types.specs.declared.ctype.StructDef.{StructDef}
use Rattle.sc_types.specs.Layouts.{is_union_in, members_in, beginning}
use Rattle.sc_meaning.specs.Values.{Value}
use Rattle.sc_meaning.specs.World.{World}
use Rattle.sc_meaning.specs.Outcomes.{Outcome, Undefined, Exit, StackFull, BirthLimit}
use Rattle.sc_interp_access.specs.Gives.{Stops}
use Rattle.sc_interp_access.specs.declared.stop.Stop.{Stop}
use Rattle.sc_interp_access.specs.declared.stop.Stop.TheVariants as stop
use Rattle.sc_session_show.specs.Contents.{Shows, behind, braced, elements, more, array_parts, member_parts, extent, level, shown_by, structure_text, read_text, unread_at}

-- two parts behind a bracket
pub two : (t b x y r : List ℕ) → (t ++ b) ++ (x ++ (y ++ r)) ≡ t ++ (b ++ x ++ y) ++ r
two t b x y r =
    sym (append_assoc (t ++ b) x (y ++ r))
    ∙ sym (append_assoc ((t ++ b) ++ x) y r)
    ∙ ap (λ z. z ++ r) (ap (λ z. z ++ y) (append_assoc t b x) ∙ append_assoc t (b ++ x) y)

-- an element behind another
pub elements_more : (show : ℕ → List ℕ) (size left at : ℕ) (rest : List (List ℕ)) (t r : List ℕ) → 0 < left
    → (t ++ codes ", ") ++ (show at ++ (behind (elements show size (left - 1) (at + size) rest) ++ r)) ≡ t ++ behind (elements show size left at rest) ++ r
elements_more show size left at rest t r h =
    let e : left ≡ suc (left - 1) = omega (arith, h) in
    two t (codes ", ") (show at) (behind (elements show size (left - 1) (at + size) rest)) r
    ∙ ap (λ (m : ℕ). t ++ behind (elements show size m at rest) ++ r) (sym e)

-- the first element of an array
pub array_opened : (show : ℕ → List ℕ) (size count at : ℕ) (t r : List ℕ) → 0 < count
    → (t ++ codes "{") ++ (show at ++ (behind (elements show size (min count 16 - 1) (at + size) (more (count - 16))) ++ r)) ≡ t ++ braced (array_parts show size count at) ++ r
array_opened show size count at t r h =
    let e : min count 16 ≡ suc (min count 16 - 1) = omega (arith, h) in
    two t (codes "{") (show at) (behind (elements show size (min count 16 - 1) (at + size) (more (count - 16)))) r
    ∙ ap (λ (m : ℕ). t ++ braced (elements show size m at (more (count - 16))) ++ r) (sym e)

-- where a load stopped, it is said why
stopped : (ty : CType) (out : Outcome Value) (s : Stop) (w : World) (text : List ℕ) → Stops out s w → unread_at s ≡ Some text → text ≡ read_text w.objects ty out
stopped ty out stop.NoRoom w text h e = cc
stopped ty out (stop.Undefined b) w text h e = ap (λ o. unwrap_or o []) (sym e) ∙ ap (read_text w.objects ty) (sym (h (Undefined b w) refl))
stopped ty out (stop.Exit n) w text h e = ap (λ o. unwrap_or o []) (sym e) ∙ ap (read_text w.objects ty) (sym (h (Exit n w) refl))
stopped ty out (stop.StackFull key) w text h e = ap (λ o. unwrap_or o []) (sym e) ∙ ap (read_text w.objects ty) (sym (h (StackFull key w) refl))
stopped ty out stop.BirthLimit w text h e = ap (λ o. unwrap_or o []) (sym e) ∙ ap (read_text w.objects ty) (sym (h (BirthLimit w) refl))

pub stopped_so : {V E : Type 0} (items : V → List ℕ) (ty : CType) (out : Outcome Value) (s : Stop) (w : World) (r : Result V E) → Stops out s w → IfOk r (λ v. unread_at s ≡ Some (items v)) → IfOk r (λ v. items v ≡ read_text w.objects ty out)
stopped_so items ty out s w (Ok v) h e = stopped ty out s w (items v) h e
stopped_so items ty out s w (Err x) h e = tt

-- an array is shown by its elements
array_rolled : (w : World) (o : ℕ) (structs : List StructDef) (inside : ℕ → ℕ → List ℕ) (e : CType) (n at : ℕ)
    → shown_by w o structs inside (t.Array e n) at ≡ braced (array_parts (shown_by w o structs inside e) (extent structs e).size n at)
array_rolled w o structs inside e n at =
    ap (λ (a : CType). folded a (t.Array e n) at) (sym (t.rolls-Array e n))
    ∙ ap (λ (k : Shows). k (t.Array e n) at) (fold-roll-CType Shows (Unit {0}) (λ f u. level w o structs inside f (out-CType u) u) (λ _. tt) (CType-F.Array e n))
    ∙ ap (λ (u : CType-F CType Signature). level w o structs inside (CType-F.Array (folded e) n) u (t.Array e n) at) (t.outs-Array e n)
  where
    folded : CType → Shows
    folded = fold-CType Shows (Unit {0}) (λ f u. level w o structs inside f (out-CType u) u) (λ _. tt)

pub array_shown : (w : World) (o : ℕ) (structs : List StructDef) (inside : ℕ → ℕ → List ℕ) (u e g : CType) (n at : ℕ) → u ≡ t.Array e n → g ≡ e
    → shown_by w o structs inside u at ≡ braced (array_parts (shown_by w o structs inside g) (extent structs g).size n at)
array_shown w o structs inside u e g n at is same =
    ap (λ (a : CType). shown_by w o structs inside a at) is
    ∙ array_rolled w o structs inside e n at
    ∙ ap (λ (a : CType). braced (array_parts (shown_by w o structs inside a) (extent structs a).size n at)) (sym same)

-- a structure or a union inside which others may be
pub structure_shown : (w : World) (o : ℕ) (structs : List StructDef) (n id at : ℕ) → 0 < n
    → structure_text w o structs n id at ≡ braced (member_parts (shown_by w o structs (structure_text w o structs (n - 1))) structs (is_union_in structs id) (members_in structs id) beginning at)
structure_shown w o structs n id at h = let e : n ≡ suc (n - 1) = omega (arith, h) in ap (λ (m : ℕ). structure_text w o structs m id at) e
