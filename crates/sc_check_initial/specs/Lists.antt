-- Yardstick: to be compared with what it restates (docs/TRUST.md).
-- The items of lists, each in its place (ANSI 3.5.7).
use Rattle.std.specs.Prelude.{◌≡◌, ℕ, ◌+◌, ◌*◌, min, Bool, true, false, ◌&&◌, if◌then◌else◌, List, [], ◌∷◌, ◌++◌, length, map, Option, Some, None, is_some, option_map, Ok, Err}
use Rattle.sc_types.specs.declared.ctype.CType.{CType, out-CType}
use Rattle.sc_types.specs.declared.ctype.CType.TheOpen.{CType-F}
use Rattle.sc_types.specs.declared.ctype.StructDef.{StructDef}
use Rattle.sc_tree.specs.declared.expression.Expr.{Expr}
use Rattle.sc_tree.specs.declared.declaration.Initializer.{Initializer, fold-Initializer}
use Rattle.sc_tree.specs.declared.declaration.Initializer.TheOpen.{Initializer-F}
use Rattle.sc_core.specs.declared.statement.AutoInit.{AutoInit}
use Rattle.sc_core.specs.declared.statement.AutoInit.TheVariants as piece
use Rattle.sc_check_declare.specs.declared.failure.Refused.{Refused}
use Rattle.sc_check_declare.specs.declared.failure.Failure.{Failure}
use Rattle.sc_check_declare.specs.declared.failure.Failure.TheVariants as failure
use Rattle.sc_check_declare.specs.Outcomes.{Outcome}
use Rattle.sc_check_places.specs.declared.level.Level.{Level}
use Rattle.sc_check_places.specs.declared.level.Place.{Place}
use Rattle.sc_check_places.specs.declared.level.Zeros.{Zeros}
use Rattle.sc_check_places.specs.Places as places
use Rattle.sc_check_scope.specs.declared.state.State.{State}
use Rattle.sc_check_scope.specs.declared.fault.CheckFault.{CheckFault}
use Rattle.sc_check_scope.specs.declared.fault.CheckFault.TheVariants as fault
use Rattle.sc_check_scope.specs.Steps.{Checked, Fails, and_then, declaring}
use Rattle.sc_check_expr.specs.Typed.{node}
use Rattle.sc_check_initial.specs.declared.places.Filling.{Filling}
use Rattle.sc_check_initial.specs.declared.places.Listing.{Listing}
use Rattle.sc_check_initial.specs.declared.places.Listing.TheVariants as listing
use Rattle.sc_check_initial.specs.Values.{TypeLevel, is_string, misfit, expression}

-- what the items of a list have filled so far, with what is in scope
abbrev pub Filled : Type 0
Filled = Filling × State

-- An item: the line of its first token; the expression, where it is no list; all its expressions typed for themselves alone; the
-- place that it takes next in the open aggregates; and what it makes of a place, with the length that it gives an array
-- without size.
pub record Item : Type 0 where
  pub line : ℕ
  pub alone : Option Expr
  pub typed : State → Checked State
  pub place : List StructDef → List Level → Outcome (Place × List Level)
  pub at : Bool → Place → Filled → Checked (ℕ × Filled)

-- items without places: their expressions alone
abbrev pub all_typed : List Item → State → Checked State
all_typed [] s = Ok s
all_typed (x ∷ xs) s = and_then (x.typed s) (λ s. all_typed xs s)

-- one more than the aggregates that may be inside one another
abbrev pub depth : List StructDef → ℕ
depth structs = min (length structs) 67108864 * 33 + 34

abbrev pub single_of : List Item → Option (ℕ × Expr)
single_of (x ∷ []) = option_map (λ e. (x.line, e)) x.alone
single_of _ = None

-- the one item of a list, where it is an expression
abbrev pub is_single : List Item → Bool
is_single xs = is_some (single_of xs)

abbrev pub string_in : Option (ℕ × Expr) → Bool
string_in (Some x) = is_string x.1
string_in None = false

abbrev pub is_single_string : List Item → Bool
is_single_string xs = string_in (single_of xs)

abbrev pub when : Bool → Listing → Listing → Listing
when b then_ other = if b then then_ else other

abbrev pub listing_by : TypeLevel → CType → List Item → Listing
listing_by (CType-F.Array u n) of xs = when (is_single_string xs && places.takes true of) listing.Single listing.Aggregate
listing_by (CType-F.Struct id c) of xs = listing.Aggregate
listing_by _ of xs = when (is_single xs) listing.Single listing.Wrong

-- what a list in braces stands for: a scalar takes one expression, an array of characters a string
abbrev pub listing_of : CType → List Item → Listing
listing_of of xs = listing_by (out-CType of) of xs

abbrev pub at_level : List Level → Filled → Filled
at_level levels w = (record w.0 { walk = record { levels = levels } }, w.1)

abbrev pub begun : ℕ → Place → Filled → Filled
begun line p w = at_level (places.begun line true p ∷ w.0.walk.levels) w

abbrev pub zero_piece : Zeros → AutoInit
zero_piece z = piece.Zero z.at z.count

-- A list ends: the bytes of its aggregate that have no item are zero. The length is how many places have one.
abbrev pub closed : List StructDef → Filling → Filling
closed structs fill = record {
  walk = record { levels = places.around fill.walk.levels };
  pieces = fill.pieces ++ map zero_piece (places.zeros_at_end structs fill.walk.levels);
}

abbrev pub ended : Filled → ℕ × Filled
ended w = (places.count_at_end w.0.walk.levels, (closed w.1.structs w.0, w.1))

-- no place: the expressions of the rest come first, since the list ends behind them
abbrev pub without_place : List Item → Refused → State → Checked Filled
without_place xs r s = and_then (all_typed xs s) (λ u. declaring (Err r))

-- what the code answers there, where want of memory may be the cause
abbrev pub Unplaced : List Item → Failure → State → CheckFault → Type 0
Unplaced xs (failure.Refused r) s f = Fails (without_place xs r s) f
Unplaced xs failure.NoMemory s f = f ≡ fault.NoMemory

abbrev pub placed : {A : Type 0} → Outcome (Place × List Level) → (Refused → Checked A) → (Place → List Level → Checked A) → Checked A
placed (Ok x) none some = some x.0 x.1
placed (Err r) none some = none r

abbrev pub items : List Item → Filled → Checked Filled
items [] w = Ok w
items (x ∷ xs) w =
    placed (x.place w.1.structs w.0.walk.levels) (λ r. without_place (x ∷ xs) r w.1)
    (λ p levels. and_then (x.at true p (at_level levels w)) (λ y. items xs y.1))

abbrev pub with_pieces : Filling → Checked (ℕ × (List AutoInit × State)) → Checked (ℕ × Filled)
with_pieces fill r = and_then r (λ x. Ok (x.0, (record fill { pieces = x.1.0 }, x.1.1)))

abbrev pub expression_at : Bool → ℕ → Expr → Place → Filled → Checked (ℕ × Filled)
expression_at constant line e p w = with_pieces w.0 (expression constant line e p (w.0.pieces, w.1))

abbrev pub single_at : Bool → ℕ → Option (ℕ × Expr) → Place → Filled → Checked (ℕ × Filled)
single_at constant line (Some x) p w = expression_at constant x.0 x.1 p w
single_at constant line None p w = misfit line

abbrev pub list_by : Listing → Bool → ℕ → List Item → Place → Filled → Checked (ℕ × Filled)
list_by listing.Single constant line xs p w = single_at constant line (single_of xs) p w
list_by listing.Aggregate constant line xs p w = and_then (items xs (begun line p w)) (λ w. Ok (ended w))
list_by listing.Wrong constant line xs p w = and_then (all_typed xs w.1) (λ r. misfit line)

-- a list in braces at a place
abbrev pub list_at : Bool → ℕ → List Item → Place → Filled → Checked (ℕ × Filled)
list_at constant line xs p w = list_by (listing_of p.of xs) constant line xs p w

abbrev pub typed_alone : Expr → State → Checked State
typed_alone e s = and_then ((node e).typed false s) (λ r. Ok r.1)

abbrev pub in_item : Initializer-F Item → Item
in_item (Initializer-F.Expression l e) = record {
  line = l;
  alone = Some e;
  typed = typed_alone e;
  place = λ structs levels. places.reach (depth structs) structs (is_string e) levels l;
  at = λ constant p w. expression_at constant l e p w;
}
in_item (Initializer-F.List l xs) = record {
  line = l;
  alone = None;
  typed = all_typed xs;
  place = λ structs levels. places.next structs levels l;
  at = λ constant p w. list_at constant l xs p w;
}

-- what an initialiser is as an item, or for a whole object
abbrev pub item : Initializer → Item
item = fold-Initializer Item in_item
