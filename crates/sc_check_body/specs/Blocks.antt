-- Yardstick: to be compared with what it restates (docs/TRUST.md).
-- Blocks and statements (ANSI 3.6): their typed trees, or the first refusal in the order in which constructs end.
use Rattle.std.specs.Prelude.{ℕ, Bool, true, false, if◌then◌else◌, List, [], ◌∷◌, ◌++◌, length, map, Option, Some, None, Ok}
use Rattle.std.specs.Option.{option_map}
use Rattle.sc_types.specs.declared.ctype.CType.{CType}
use Rattle.sc_base.specs.declared.integer.Int.{Int}
use Rattle.sc_tree.specs.declared.declaration.Declaration.{Declaration}
use Rattle.sc_tree.specs.declared.expression.Expr.{Expr}
use Rattle.sc_tree.specs.declared.statement.Statement.{Statement, fold-Statement}
use Rattle.sc_tree.specs.declared.statement.Statement.TheOpen.{Statement-F}
use Rattle.sc_core.specs.declared.expression.CoreExpr.{CoreExpr}
use Rattle.sc_core.specs.declared.statement.CoreStmt.{CoreStmt}
use Rattle.sc_core.specs.declared.statement.CoreStmt.TheVariants as s
use Rattle.sc_check_scope.specs.declared.state.Marks.{Marks}
use Rattle.sc_check_scope.specs.declared.state.State.{State}
use Rattle.sc_check_scope.specs.Scopes as scopes
use Rattle.sc_check_expr.specs.Typed.{node, constant}
use Rattle.sc_check_body.specs.declared.progress.Around.{Around}
use Rattle.sc_check_body.specs.declared.progress.Body.{Body}
use Rattle.sc_check_body.specs.declared.progress.OpenBlock.{OpenBlock}
use Rattle.sc_check_body.specs.declared.progress.Translation.{Translation}
use Rattle.sc_check_labels.specs.declared.labels.Labels.{Labels}
use Rattle.sc_check_labels.specs.Switches as switches
use Rattle.sc_check_labels.specs.Jumps as jumps
use Rattle.sc_check_labels.specs.Faults as label
use Rattle.sc_check_body.specs.Faults.{Checked, and_then, each, within, labelling, rule}
use Rattle.sc_check_body.specs.Progress.{with_scope, open_block, part, looped, switched, alone, listed}
use Rattle.sc_check_body.specs.Locals.{Opened, Declaring, declare_local}
use Rattle.sc_check_body.specs.Statements.{value, condition, selector, returned, optional}

-- the unit, and the function's body so far
abbrev pub Place : Type 0
Place = Translation × Body

-- what is asked of, and may change, them
abbrev pub Working : Type 0 → Type 0
Working A = Place → Checked (A × Place)

-- what asks of what is in scope alone
abbrev pub scoped : {A : Type 0} → (State → Checked (A × State)) → Working A
scoped f w = and_then (f w.0.st) (λ r. Ok (r.0, (with_scope r.1 w.0, w.1)))

-- what changes the labels alone
abbrev pub with_labels : Labels → Place → Place
with_labels l w = (w.0, record w.1 { labels = l })

-- a rule of labels
abbrev pub by_labels : (Labels → label.Checked (Unit {0} × Labels)) → Place → Checked Place
by_labels f w = and_then (labelling (f w.1.labels)) (λ r. Ok (with_labels r.1 w))

-- A statement: its typed tree where it stands, and that as the body of a `switch`.
pub record Standing : Type 0 where
  pub typed : Around → Working CoreStmt
  pub as_body : Around → Working CoreStmt

-- ---- blocks (3.6.2)

abbrev pub one_declaration : Declaration → Unit {0} → Opened → Checked (Unit {0} × Opened)
one_declaration d u w = declare_local d w

abbrev pub declare_all : List Declaration → Declaring
declare_all ds w = each one_declaration ds tt w

-- a block whose objects are known: its number, and its initialised automatic objects
abbrev pub closed_block : OpenBlock → Body → (ℕ × List CoreStmt) × Body
closed_block inner f = ((inner.number, inner.initialized), record f { blocks = f.blocks ++ inner.locals ∷ [] })

abbrev pub closing : Opened → (ℕ × List CoreStmt) × Place
closing w = ((closed_block w.1.1 w.1.0).0, (w.0, (closed_block w.1.1 w.1.0).1))

-- The declarations of a block, whose scope is there; blocks are numbered in the order in which they begin.
abbrev pub declared : List Declaration → Working (ℕ × List CoreStmt)
declared ds w = and_then (declare_all ds (w.0, (w.1, open_block (length w.1.blocks)))) (λ r. Ok (closing r.1))

-- where the next statement of a list stands
abbrev pub next_place : Bool → List CoreStmt → Around → Around
next_place in_switch done around = listed in_switch (length done) around

abbrev pub one_statement : Around → Bool → Standing → List CoreStmt → Working (List CoreStmt)
one_statement around in_switch x done w = and_then (x.typed (next_place in_switch done around) w) (λ r. Ok (done ++ r.0 ∷ [], r.1))

-- the statements of a list, behind what is there
abbrev pub statements : Around → Bool → List Standing → List CoreStmt → Working (List CoreStmt)
statements around in_switch xs done w = each (one_statement around in_switch) xs done w

-- the list of the block with this number begins
abbrev pub list_begun : ℕ → Place → Place
list_begun number w = with_labels (jumps.open_list number w.1.labels) w

-- and ends: its labels are known
abbrev pub list_ended : ℕ → ℕ → List CoreStmt × Place → CoreStmt × Place
list_ended line number r = (s.Block line number (jumps.close_list r.1.1.labels).0 r.0, with_labels (jumps.close_list r.1.1.labels).1 r.1)

abbrev pub listed_in : Around → Bool → ℕ → List Standing → (ℕ × List CoreStmt) × Place → Checked (CoreStmt × Place)
listed_in around in_switch line xs d = and_then (statements around in_switch xs d.0.1 (list_begun d.0.0 d.1)) (λ r. Ok (list_ended line d.0.0 r))

-- a block whose scope is there; `in_switch` says whether it is the body of a `switch`
abbrev pub block_of : Around → Bool → ℕ → List Standing → List Declaration → Working CoreStmt
block_of around in_switch line xs ds w = and_then (declared ds w) (λ d. listed_in around in_switch line xs d)

abbrev pub entered : Place → Place
entered w = (with_scope (scopes.enter w.0.st) w.0, w.1)

abbrev pub left : Marks → Place → Place
left outer w = (with_scope (scopes.leave outer w.0.st) w.0, w.1)

-- a block with a scope of its own (3.1.2.1)
abbrev pub inner_block : Around → Bool → ℕ → List Standing → List Declaration → Working CoreStmt
inner_block around in_switch line xs ds w = and_then (block_of around in_switch line xs ds (entered w)) (λ r. Ok (r.0, left w.0.st.began r.1))

-- ---- statements

abbrev pub made : CoreStmt → Working CoreStmt
made x w = Ok (x, w)

-- `break` and `continue`, where they may stand (3.6.6.2, 3.6.6.3)
abbrev pub jump : ℕ → Bool → CoreStmt → Working CoreStmt
jump line may_stand x w = if may_stand then Ok (x, w) else rule line

-- 3.6.3
abbrev pub expression : ℕ → Expr → State → Checked (CoreStmt × State)
expression line e st = and_then (value (node e) st) (λ r. Ok (s.Expression line r.0, r.1))

abbrev pub branch : Around → Option Standing → Working (Option CoreStmt)
branch around None w = Ok (None, w)
branch around (Some x) w = and_then (x.typed around w) (λ r. Ok (Some r.0, r.1))

abbrev pub otherwise : ℕ → CoreExpr → CoreStmt → Option Standing → Around → Working CoreStmt
otherwise line e a b around w = and_then (branch (part around) b w) (λ y. Ok (s.If line e a y.0, y.1))

-- 3.6.4.1
abbrev pub conditional : ℕ → Expr → Standing → Option Standing → Around → Working CoreStmt
conditional line e a b around w =
    and_then (scoped (condition (node e)) w) (λ c. and_then (a.typed (part around) c.1) (λ x. otherwise line c.0 x.0 b around x.1))

abbrev pub opened : Int → Place → Place
opened of w = with_labels (switches.open_switch of w.1.labels) w

abbrev pub closed : ℕ → CoreExpr → CoreStmt × Place → CoreStmt × Place
closed line e r = (s.Switch line e (switches.close_switch r.1.1.labels).0 r.0, with_labels (switches.close_switch r.1.1.labels).1 r.1)

abbrev pub switch_on : ℕ → CoreExpr → Standing → Around → Working CoreStmt
switch_on line e x around w = and_then (x.as_body (switched around) w) (λ r. Ok (closed line e r))

-- 3.6.4.2
abbrev pub switch : ℕ → Expr → Standing → Around → Working CoreStmt
switch line e x around w = and_then (scoped (selector (node e)) w) (λ c. switch_on line c.0.0 x around (opened c.0.1 c.1))

-- 3.6.5.1
abbrev pub while_loop : ℕ → Expr → Standing → Around → Working CoreStmt
while_loop line e x around w = and_then (scoped (condition (node e)) w) (λ c. and_then (x.typed (looped around) c.1) (λ r. Ok (s.While line c.0 r.0, r.1)))

-- 3.6.5.2
abbrev pub do_loop : ℕ → Standing → ℕ → Expr → Around → Working CoreStmt
do_loop line x n e around w = and_then (x.typed (looped around) w) (λ r. and_then (scoped (condition (node e)) r.1) (λ c. Ok (s.Do line r.0 n c.0, c.1)))

abbrev pub for_body : ℕ → Option CoreExpr → Option CoreExpr → Option CoreExpr → Standing → Around → Working CoreStmt
for_body line a b c x around w = and_then (x.typed (looped around) w) (λ r. Ok (s.For line a b c r.0, r.1))

abbrev pub for_begin : Option Expr → Option Expr → State → Checked ((Option CoreExpr × Option CoreExpr) × State)
for_begin a b st = and_then (optional value (option_map node a) st) (λ a. and_then (optional condition (option_map node b) a.1) (λ b. Ok ((a.0, b.0), b.1)))

-- 3.6.5.3
abbrev pub for_loop : ℕ → Option Expr → Option Expr → Option Expr → Standing → Around → Working CoreStmt
for_loop line a b c x around w =
    and_then (scoped (for_begin a b) w) (λ r. and_then (scoped (optional value (option_map node c)) r.1) (λ c. for_body line r.0.0 r.0.1 c.0 x around c.1))

-- the end of a statement with a label, whose rules come behind it
abbrev pub labelled : (Labels → label.Checked (Unit {0} × Labels)) → CoreStmt → Place → Checked (CoreStmt × Place)
labelled rules made w = and_then (by_labels rules w) (λ w. Ok (made, w))

abbrev pub noted : Option ℕ → Around → Place → Place
noted bits around w = with_labels (switches.note_label bits around.at w.1.labels) w

-- a statement with a label of a `switch`, by the bits of its constant; the label is noted before it
abbrev pub with_case : ℕ → Option ℕ → (CoreStmt → CoreStmt) → Standing → Around → Working CoreStmt
with_case line bits make x around w =
    and_then (x.typed around (noted bits around w)) (λ r. labelled (switches.add_label line bits around.at) (make r.0) r.1)

-- 3.6.1; the constant comes before the statement
abbrev pub case : ℕ → Expr → Standing → Around → Working CoreStmt
case line e x around w = and_then (scoped (λ st. within (constant (node e) st)) w) (λ k. with_case line (Some k.0.0) (s.Case line) x around k.1)

abbrev pub default_case : ℕ → Standing → Around → Working CoreStmt
default_case line x around w = with_case line None (s.Default line) x around w

-- a name before a colon
abbrev pub named_label : ℕ → ℕ → Standing → Around → Working CoreStmt
named_label line number x around w = and_then (x.typed around w) (λ r. labelled (jumps.end_label line number around.place) (s.Label line r.0) r.1)

abbrev pub label_statement : ℕ → List ℕ → Standing → Around → Working CoreStmt
label_statement line name x around w =
    named_label line (jumps.numbered name w.1.labels).0 x around (with_labels (jumps.numbered name w.1.labels).1 w)

-- 3.6.6.1
abbrev pub goto_statement : ℕ → List ℕ → Working CoreStmt
goto_statement line name w = Ok (s.Goto line (jumps.goto line name w.1.labels).0, with_labels (jumps.goto line name w.1.labels).1 w)

-- 3.6.6.4
abbrev pub return_value : ℕ → CType → Option Expr → State → Checked (CoreStmt × State)
return_value line gives None st = Ok (s.Return line None, st)
return_value line gives (Some e) st = and_then (returned line gives (node e) st) (λ r. Ok (s.Return line (Some r.0), r.1))

-- ---- the whole trees

abbrev pub typed_by : Statement-F Standing → Around → Working CoreStmt
typed_by (Statement-F.Block l ds xs) around w = inner_block (part around) false l xs ds w
typed_by (Statement-F.Empty l) around w = made (s.Empty l) w
typed_by (Statement-F.Expression l e) around w = scoped (expression l e) w
typed_by (Statement-F.If l e a b) around w = conditional l e a b around w
typed_by (Statement-F.Switch l e x) around w = switch l e x around w
typed_by (Statement-F.While l e x) around w = while_loop l e x around w
typed_by (Statement-F.Do l x n e) around w = do_loop l x n e around w
typed_by (Statement-F.For l a b c x) around w = for_loop l a b c x around w
typed_by (Statement-F.Case l e x) around w = case l e x around w
typed_by (Statement-F.Default l x) around w = default_case l x around w
typed_by (Statement-F.Label l n x) around w = label_statement l n x around w
typed_by (Statement-F.Goto l n) around w = goto_statement l n w
typed_by (Statement-F.Continue l) around w = jump l around.in_loop (s.Continue l) w
typed_by (Statement-F.Break l) around w = jump l around.may_break (s.Break l) w
typed_by (Statement-F.Return l e) around w = scoped (return_value l w.1.result e) w

-- The statements of a block are the list of the `switch`, and another statement is a list of itself alone.
abbrev pub body_by : Statement-F Standing → Around → Working CoreStmt
body_by (Statement-F.Block l ds xs) around w = inner_block around true l xs ds w
body_by x around w = typed_by x (alone around) w

abbrev pub in_statement : Statement-F Standing → Standing
in_statement x = record { typed = typed_by x; as_body = body_by x }

abbrev pub standing : Statement → Standing
standing = fold-Statement Standing in_statement

-- The end of a body, where each `goto` ends.
abbrev pub end_body : Body → Checked (Unit {0})
end_body f = labelling (jumps.all_jump f.labels)

-- a block of these statements, whose scope is there
abbrev pub block : Around → Bool → ℕ → List Statement → List Declaration → Working CoreStmt
block around in_switch line xs ds w = block_of around in_switch line (map standing xs) ds w
