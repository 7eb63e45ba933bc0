-- Two functions' types, compared as types.
use Rattle.std.proofs.Common.{◌≡◌, Bool, true, false, List, length, sym, ◌∙◌, ap}
use Rattle.sc_types.specs.declared.ctype.CType.{CType, fold-roll-CType, out-CType}
use Rattle.sc_types.specs.declared.ctype.Signature.{Signature, fold-Signature, fold_out-Signature}
use Rattle.sc_types.specs.declared.ctype.CType.TheVariants as t
use Rattle.sc_types.specs.declared.ctype.CType.TheOpen.{CType-F}
use Rattle.sc_types.specs.declared.ctype.StructDef.{StructDef}
use Rattle.sc_types.specs.Compatibility.{Pairs, Test, level, signature, alike, compatible, same_signature, sides, by_number, by_tag, by_members}

alike_function : (behind here : Pairs) (own : Bool) (f g : Signature) → alike behind here own (t.Function f) (t.Function g) ≡ same_signature behind f g
alike_function behind here own f g =
    ap (λ (a : CType). alike behind here own a (t.Function g)) (sym (t.rolls-Function f))
    ∙ ap (λ (k : Test). k here own (t.Function g)) (fold-roll-CType Test (Signature → Bool) (λ f h o u. level behind f h o (out-CType u)) (signature behind) (CType-F.Function f))
    ∙ ap (level behind (CType-F.Function (folded f)) here own) (t.outs-Function g)
    ∙ ap (λ (k : Signature → Bool). k g) (fold_out-Signature Test (Signature → Bool) (λ f h o u. level behind f h o (out-CType u)) (signature behind) f)
  where
    folded : Signature → Signature → Bool
    folded = fold-Signature Test (Signature → Bool) (λ f h o u. level behind f h o (out-CType u)) (signature behind)

pub functions_compatible : (f g : Signature) (s u : List StructDef) (one : Bool) → compatible (t.Function f) s (t.Function g) u one ≡ same_signature (sides one s u) f g
functions_compatible f g s u true = alike_function by_number by_number true f g
functions_compatible f g s u false = alike_function (by_tag s u) (by_members (length s) s u) true f g
