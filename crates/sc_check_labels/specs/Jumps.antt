-- Yardstick: to be compared with what it restates (docs/TRUST.md).
-- Labels to which `goto` goes (ANSI 3.6.1, 3.6.6.1). They have a name space of their own for each function.
use Rattle.std.specs.Prelude.{ℕ, nat_eq, if◌then◌else◌, List, [], ◌∷◌, ◌++◌, map, Option, Some, None, is_some, reverse, Ok}
use Rattle.std.specs.List.{list_any, position_or_len}
use Rattle.std.specs.Map.{lookup}
use Rattle.std.specs.Str.{bytes_eq}
use Rattle.indexmap.specs.IndexMap.{insert_entry}
use Rattle.indexmap.specs.IndexSet.{insert_key}
use Rattle.sc_core.specs.declared.statement.LabelAt.{LabelAt}
use Rattle.sc_check_labels.specs.declared.fault.LabelRule.TheVariants as rule
use Rattle.sc_check_labels.specs.declared.labels.Labels.{Labels}
use Rattle.sc_check_labels.specs.declared.labels.OpenList.{OpenList}
use Rattle.sc_check_labels.specs.declared.labels.Waiting.{Waiting}
use Rattle.sc_check_labels.specs.Faults.{Checked, and_then, refuse}

-- at the beginning of a body
abbrev pub no_labels : Labels
no_labels = record { switches = []; lists = []; names = []; blocks = []; waiting = [] }

-- ---- numbers: labels are counted in the order in which they are first mentioned

abbrev pub number_in : List ℕ → List (List ℕ) → ℕ
number_in name names = position_or_len (bytes_eq name) names

abbrev pub with_name : List ℕ → List (List ℕ) → List (List ℕ)
with_name name names = insert_key bytes_eq names name

abbrev pub numbered : List ℕ → Labels → ℕ × Labels
numbered name f = (number_in name f.names, record f { names = with_name name f.names })

-- ---- the lists of blocks

abbrev pub open_list : ℕ → Labels → Labels
open_list block f = record f { lists = record { block = block; labels = [] } ∷ f.lists }

abbrev pub labels_in : List OpenList → List LabelAt
labels_in [] = []
labels_in (x ∷ outer) = x.labels

abbrev pub outside : List OpenList → List OpenList
outside [] = []
outside (x ∷ outer) = outer

-- The innermost one ends: the labels that stand in it are known.
abbrev pub close_list : Labels → List LabelAt × Labels
close_list f = (labels_in f.lists, record f { lists = outside f.lists })

-- ---- labels

abbrev pub with_label : ℕ → ℕ → OpenList → OpenList
with_label label at list = record list { labels = list.labels ++ record { label = label; at = at } ∷ [] }

-- A label of a statement with a place in the innermost list stands in that; the number of the list's block.
abbrev pub put_in : ℕ → Option ℕ → List OpenList → Option ℕ × List OpenList
put_in label None lists = (None, lists)
put_in label (Some at) [] = (None, [])
put_in label (Some at) (list ∷ outer) = (Some list.block, with_label label at list ∷ outer)

abbrev pub placed : ℕ → Option ℕ × List OpenList → Labels → Labels
placed label r f = record f { lists = r.1; blocks = insert_entry nat_eq f.blocks label r.0 }

-- the end of a statement with a label, which no other statement of the function has
abbrev pub end_label : ℕ → ℕ → Option ℕ → Labels → Checked (Unit {0} × Labels)
end_label line label place f =
    if is_some (lookup (nat_eq label) f.blocks) then refuse rule.Constraint line else Ok (tt, placed label (put_in label place f.lists) f)

-- ---- `goto`

-- it waits for the end of its function, with the blocks that are open there
abbrev pub waits : ℕ → ℕ → Labels → Labels
waits line label f = record f { waiting = f.waiting ++ record { line = line; label = label; blocks = map (λ l. l.block) (reverse f.lists) } ∷ [] }

abbrev pub goto : ℕ → List ℕ → Labels → ℕ × Labels
goto line name f = (number_in name f.names, waits line (number_in name f.names) (numbered name f).1)

-- A `goto` is inside the block in whose list its label stands.
abbrev pub jumps_by : ℕ → List ℕ → Option (Option ℕ) → Checked (Unit {0})
jumps_by line blocks None = refuse rule.Undeclared line
jumps_by line blocks (Some None) = refuse rule.GotoIn line
jumps_by line blocks (Some (Some block)) = if list_any (nat_eq block) blocks then Ok tt else refuse rule.GotoIn line

abbrev pub jumps_to : List (ℕ × Option ℕ) → Waiting → Checked (Unit {0})
jumps_to labels g = jumps_by g.line g.blocks (lookup (nat_eq g.label) labels)

abbrev pub each_jumps : List (ℕ × Option ℕ) → List Waiting → Checked (Unit {0})
each_jumps labels [] = Ok tt
each_jumps labels (g ∷ gs) = and_then (jumps_to labels g) (λ u. each_jumps labels gs)

-- at the end of the function, in the order of the text
abbrev pub all_jump : Labels → Checked (Unit {0})
all_jump f = each_jumps f.blocks f.waiting
