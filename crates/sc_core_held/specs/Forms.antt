-- Inside: plumbing, a representation, an invariant or a promise beside the claim (docs/TRUST.md).
-- The form of a type of the library, as the meaning has it.
use Rattle.sc_core_held.specs.declared.library.TypeForm.{TypeForm}
use Rattle.sc_core_held.specs.declared.library.TypeForm.TheVariants as form
use Rattle.sc_meaning.specs.Signatures.{Shape, ToNone, ToInt, ToVoid, ToText}

abbrev pub form_of : TypeForm → Shape
form_of form.ToNone = ToNone
form_of (form.ToInt i) = ToInt i
form_of (form.ToVoid c) = ToVoid c
form_of (form.ToText c) = ToText c
