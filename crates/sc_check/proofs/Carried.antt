-- The last step of a construct gives what the whole gives.
use Rattle.std.proofs.Common.{◌≡◌, ℕ, List, Option, Some, sym, ◌∙◌, ap, subst}
use Rattle.std.specs.Prelude.{Result, Ok}
use Rattle.sc_tree.specs.declared.declaration.Initializer.{Initializer}
use Rattle.sc_check_declare.specs.Outcomes.{Outcome}
use Rattle.sc_check_linkage.specs.declared.link.Declaration.{Declaration as Linked}
use Rattle.sc_check_linkage.specs.declared.link.Link.{Link}
use Rattle.sc_check_linkage.specs.Linkage.{change, define}
use Rattle.sc_check_body.specs.declared.fault.UnitFault.{UnitFault}
use Rattle.sc_check_body.specs.declared.progress.Translation.{Translation}
use Rattle.sc_check_body.specs.Faults.{Checked, GivesWith, and_then}
use Rattle.sc_check_body.specs.Linked.{link, name_link}
use Rattle.sc_check.specs.Steps.{in_links}
use Rattle.sc_check.specs.Files as file
use Rattle.sc_check.specs.Functions as function

pub carried : {A S : Type 0} (o w : Checked (A × S)) (r : Result A UnitFault) (t : S) → o ≡ w → GivesWith o r t → GivesWith w r t
carried o w r t e h = subst (λ z. GivesWith z r t) e h

-- ---- declarations at file scope

pub defined : (at number : ℕ) (d : Linked) (given : Option Initializer) (g : Initializer) (x y : Translation) (links : List Link)
    → (number, y) ≡ file.note_object at x → change (define d.line number) at y.links ≡ Ok links → given ≡ Some g
    → file.initialized at number d g (record y { links = links }) ≡ file.defined at d given x
defined at number d given g x y links noted changed is =
    ap (λ (o : Outcome (List Link)). and_then (in_links (λ _. o) y) (λ r. file.given_by at number d (Some g) r.1)) (sym changed)
    ∙ ap (λ (z : Option Initializer). file.defined_in at d z (number, y)) (sym is)
    ∙ ap (λ (n : ℕ × Translation). file.defined_in at d given n) noted

pub linked : (at : ℕ) (d : Linked) (given : Option Initializer) (x y z : Translation)
    → link d x ≡ Ok (at, y) → z ≡ name_link at d.name y → file.object at d given z ≡ file.linked d given x
linked at d given x y z found named =
    ap (file.object at d given) named
    ∙ ap (λ (o : Checked (ℕ × Translation)). and_then o (λ r. file.object r.0 d given (name_link r.0 d.name r.1))) (sym found)

pub linked_as : (d e : Linked) (given : Option Initializer) (x : Translation) → d ≡ e → file.linked d given x ≡ file.linked e given x
linked_as d e given x same = ap (λ (l : Linked). file.linked l given x) same

-- ---- definitions of functions

pub named_as : (d e : Linked) (x : Translation) → d ≡ e → function.named d x ≡ function.named e x
named_as d e x same = ap (λ (l : Linked). function.named l x) same
