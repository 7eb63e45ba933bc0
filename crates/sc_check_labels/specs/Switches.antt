-- Yardstick: to be compared with what it restates (docs/TRUST.md).
-- The labels of a `switch` (ANSI 3.6.1, 3.6.4.2).
use Rattle.std.specs.Prelude.{ℕ, nat_eq, nat_lt, true, false, if◌then◌else◌, List, [], ◌∷◌, ◌++◌, length, Option, Some, None, Ok}
use Rattle.std.specs.List.{list_any}
use Rattle.sc_base.specs.declared.integer.Int.{Int}
use Rattle.sc_ops.specs.Numbers.{converted}
use Rattle.sc_core.specs.declared.statement.SwitchLabel.{SwitchLabel}
use Rattle.sc_check_labels.specs.declared.fault.LabelRule.TheVariants as rule
use Rattle.sc_check_labels.specs.declared.labels.Labels.{Labels}
use Rattle.sc_check_labels.specs.declared.labels.OpenSwitch.{OpenSwitch}
use Rattle.sc_check_labels.specs.Faults.{Checked, and_then, refuse}

-- the most `case` labels of one `switch`
abbrev pub most : ℕ
most = 1023

abbrev pub new_switch : Int → OpenSwitch
new_switch of = record { of = of; values = []; has_default = false; labels = [] }

-- a `switch` on this type begins
abbrev pub open_switch : Int → Labels → Labels
open_switch of f = record f { switches = new_switch of ∷ f.switches }

abbrev pub labels_in : List OpenSwitch → List SwitchLabel
labels_in [] = []
labels_in (x ∷ outer) = x.labels

abbrev pub outside : List OpenSwitch → List OpenSwitch
outside [] = []
outside (x ∷ outer) = outer

-- The innermost one ends: its labels are known.
abbrev pub close_switch : Labels → List SwitchLabel × Labels
close_switch f = (labels_in f.switches, record f { switches = outside f.switches })

-- ---- a label is noted before the statement that it labels, so that labels stand in the order in which they are written

-- the value of a label in the type of the controlling expression; `default` has none
abbrev pub value_for : Int → Option ℕ → Option ℕ
value_for of None = None
value_for of (Some bits) = Some (converted bits of)

abbrev pub with_label : Option ℕ → ℕ → OpenSwitch → OpenSwitch
with_label bits at switch = record switch { labels = switch.labels ++ record { value = value_for switch.of bits; at = at } ∷ [] }

-- at its place in the list of the innermost `switch`'s body, where it stands there
abbrev pub note_in : Option ℕ → Option ℕ → List OpenSwitch → List OpenSwitch
note_in bits None switches = switches
note_in bits (Some at) [] = []
note_in bits (Some at) (switch ∷ outer) = with_label bits at switch ∷ outer

abbrev pub note_label : Option ℕ → Option ℕ → Labels → Labels
note_label bits place f = record f { switches = note_in bits place f.switches }

-- ---- its rules come behind that statement

-- what may change a `switch` that is open
abbrev pub Switching : Type 0
Switching = OpenSwitch → Checked (Unit {0} × OpenSwitch)

abbrev pub with_value : ℕ → OpenSwitch → OpenSwitch
with_value value switch = record switch { values = switch.values ++ value ∷ [] }

-- The values of `case` labels differ in the type of the controlling expression, and there are not too many.
abbrev pub add_case : ℕ → ℕ → Switching
add_case line bits switch =
    if list_any (nat_eq (converted bits switch.of)) switch.values then refuse rule.Constraint line
    else if nat_lt (length switch.values) most then Ok (tt, with_value (converted bits switch.of) switch) else refuse rule.Cases line

abbrev pub add_default : ℕ → Switching
add_default line switch = if switch.has_default then refuse rule.Constraint line else Ok (tt, record switch { has_default = true })

abbrev pub add : ℕ → Option ℕ → Switching
add line (Some bits) switch = add_case line bits switch
add line None switch = add_default line switch

-- A label stands in the list of the innermost `switch`'s body; the first of these rules that it breaks is told.
abbrev pub add_in : ℕ → Option ℕ → Option ℕ → List OpenSwitch → Checked (Unit {0} × List OpenSwitch)
add_in line bits place [] = refuse rule.Constraint line
add_in line bits None (switch ∷ outer) = refuse rule.CaseDepth line
add_in line bits (Some at) (switch ∷ outer) = and_then (add line bits switch) (λ r. Ok (tt, r.1 ∷ outer))

-- the end of a statement with a label
abbrev pub add_label : ℕ → Option ℕ → Option ℕ → Labels → Checked (Unit {0} × Labels)
add_label line bits place f = and_then (add_in line bits place f.switches) (λ r. Ok (tt, record f { switches = r.1 }))
