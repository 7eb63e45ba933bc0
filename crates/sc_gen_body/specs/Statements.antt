-- Machine: the program once more; a theorem ties it to a yardstick (docs/TRUST.md).
-- The code of a statement (ANSI 3.6) whose first word stands at a place of its function's text. A jump stays inside its own construct, or goes
-- back to a word of an enclosing one.
use Rattle.std.specs.Prelude.{◌≡◌, ℕ, ◌+◌, ◌-◌, Bool, true, false, if◌then◌else◌, nat_lt, List, [], ◌∷◌, ◌++◌, length, slice_set, Option, Some, None, pos}
use Rattle.sc_isa.specs.declared.instruction.Instr.TheVariants.{Jalr}
use Rattle.sc_isa.specs.declared.instruction.LoadOp.TheVariants.{Lw}
use Rattle.sc_isa.specs.declared.instruction.RegOp.TheVariants as reg
use Rattle.sc_core.specs.declared.expression.CoreExpr.{CoreExpr}
use Rattle.sc_core.specs.declared.statement.CoreStmt.{CoreStmt, out-CoreStmt, fold-CoreStmt}
use Rattle.sc_core.specs.declared.statement.CoreStmt.TheOpen.{CoreStmt-F}
use Rattle.sc_core.specs.declared.statement.LabelAt.{LabelAt}
use Rattle.sc_core.specs.declared.statement.SwitchLabel.{SwitchLabel}
use Rattle.sc_gen_code.specs.declared.symbolic.Symbolic.TheVariants.{Plain}
use Rattle.sc_gen_code.specs.declared.symbolic.Access.TheVariants as access
use Rattle.sc_gen_code.specs.Code.{Code, x0, ra, sp, t0, t1, addi, apply, li, near, over, jump, service, block_service}
use Rattle.sc_gen_operand.specs.Places.{slot_of}
use Rattle.sc_gen_expr.specs.Expressions.{test_code, test_back}
use Rattle.sc_gen_body.specs.Frames.{Frame, entered_in, value}
use Rattle.sc_gen_body.specs.declared.jumps.Place.{Place}
use Rattle.sc_gen_body.specs.declared.jumps.Exits.{Exits}
use Rattle.sc_gen_body.specs.declared.jumps.Text.{Text}
use Rattle.sc_gen_body.specs.Jumps.{Around, entering, leaving, go, go_in, unless_equal, labelled, label_holes, label_place, label_places, label_rows, nowhere, rows, start_of, inside, in_loop, in_switch}
use Rattle.sc_gen_body.specs.Initializers.{pieces_code}

-- the frame is given back, and the function returns
abbrev pub epilogue : ℕ → Code
epilogue cost =
    near (cost - 4) (access.Load Lw ra)
    ++ ((if nat_lt cost 2048 then addi sp sp (pos cost) ∷ [] else li t0 cost ++ apply reg.Add sp sp t0 ∷ [])
    ++ Plain (Jalr x0 ra (pos 0)) ∷ [])

-- The code of a statement behind the entry of its block, where it is one, and where each statement of its list then begins.
pub record Inner : Type 0 where
  pub code : Code
  pub starts : List ℕ

-- a statement that is no block has no list
abbrev pub alone : Code → Inner
alone code = record { code = code; starts = [] }

abbrev pub Body : Type 0
Body = CoreStmt → ℕ → Around → Inner

abbrev pub block_layer : CoreStmt-F CoreStmt → Option ℕ
block_layer (CoreStmt-F.Block l b ls ss) = Some b
block_layer _ = None

abbrev pub block_of : CoreStmt → Option ℕ
block_of s = block_layer (out-CoreStmt s)

-- the block that a statement enters
abbrev pub entry_by : Frame → Option ℕ → Option ℕ
entry_by f None = None
entry_by f (Some b) = entered_in f b

abbrev pub entry_of : Frame → CoreStmt → Option ℕ
entry_of f s = entry_by f (block_of s)

-- the whole code of a statement, with the entry of a block
abbrev pub whole_by : Option ℕ → Body → CoreStmt → ℕ → Around → Code
whole_by None p s at around = (p s at around).code
whole_by (Some b) p s at around = block_service 2 b ++ (p s (at + length (block_service 2 b)) around).code

abbrev pub whole : Frame → Body → CoreStmt → ℕ → Around → Code
whole f p s at around = whole_by (entry_of f s) p s at around

-- statements in order
abbrev pub items_code : Frame → List Body → List CoreStmt → ℕ → Around → Code
items_code f [] ss at around = []
items_code f (p ∷ ps) [] at around = []
items_code f (p ∷ ps) (s ∷ ss) at around = whole f p s at around ++ items_code f ps ss (at + length (whole f p s at around)) around

-- and where each of them begins
abbrev pub starts : Frame → List Body → List CoreStmt → ℕ → Around → List ℕ
starts f [] ss at around = []
starts f (p ∷ ps) [] at around = []
starts f (p ∷ ps) (s ∷ ss) at around = at ∷ starts f ps ss (at + length (whole f p s at around)) around

-- { .. }
abbrev pub block_inner : Frame → ℕ → List LabelAt → List Body → List CoreStmt → ℕ → Around → Inner
block_inner f b ls ps ss at around = record {
  code =
      label_rows at (start_of at (starts f ps ss (at + rows ls) (inside around (entered_in f b) ls at))) ls
      ++ (items_code f ps ss (at + rows ls) (inside around (entered_in f b) ls at) ++ leaving (entered_in f b));
  starts = starts f ps ss (at + rows ls) (inside around (entered_in f b) ls at);
}

abbrev pub value_or_none : Frame → Option CoreExpr → Code
value_or_none f None = []
value_or_none f (Some e) = value f e

-- a test whose truth leaves out the next word
abbrev pub test_of : Frame → CoreExpr → Code
test_of f e = test_code f.style f.slots true e f.temporaries

-- The jump back to the body of a loop, where its test holds: by the place where the test begins.
abbrev pub ends_turn : Frame → Option CoreExpr → ℕ → ℕ → Code
ends_turn f None from top = jump from top ∷ []
ends_turn f (Some e) from top = test_back f.style f.slots true e f.temporaries top from

-- Every loop: a jump to its test or to its body, the words of `break` and `continue`, the body, what comes after each turn, and the test with
-- the jump back to the body.
abbrev pub loop : Bool → Code → Code → Code → Code
loop body_first body after test =
    over (2 + (if body_first then 0 else length body + length after))
    ∷ over (1 + length body + length after + length test)
    ∷ over (length body)
    ∷ body ++ (after ++ test)

-- the body of a loop that begins at a place
abbrev pub loop_body : Frame → Body → CoreStmt → ℕ → Around → Code
loop_body f p s at around = whole f p s (at + 3) (in_loop around (at + 1))

-- if (test) first; if (test) first else other
abbrev pub choice : Code → Code → Option Code → Code
choice test first None = test ++ over (length first) ∷ first
choice test first (Some other) = test ++ over (length first + 1) ∷ first ++ over (length other) ∷ other

-- case v: a comparison, and the entry of the body's block and a jump where it holds
abbrev pub case_code : Option ℕ → ℕ → ℕ → ℕ → Code
case_code block at v to = li t1 v ++ (unless_equal (length (entering block) + 1) ∷ go_in block (at + length (li t1 v) + 1) to)

-- default: the entry of the body's block and a jump
abbrev pub default_code : Option ℕ → (ℕ → ℕ) → ℕ → Option ℕ → Code
default_code block start at None = []
default_code block start at (Some n) = go_in block at (start n)

-- the labels of a `switch` in their order, and `default` behind them, by where the statements of the body begin
abbrev pub cases_code : Option ℕ → (ℕ → ℕ) → ℕ → Option ℕ → List SwitchLabel → Code
cases_code block start at default [] = default_code block start at default
cases_code block start at default (l ∷ ls) = elim l.value as (λ _. Code) [
  | None ↦ cases_code block start at (Some l.at) ls
  | Some v ↦ case_code block at v (start l.at) ++ cases_code block start (at + length (case_code block at v (start l.at))) default ls
]

-- switch (value) body: a jump to the labels, the word of `break`, the body without its entry, a jump to the end, the labels
abbrev pub switched : Code → Code → Code → Code
switched value body labels =
    value ++ (over (1 + length body + 1) ∷ over (length body + 1 + length labels) ∷ body ++ over (length labels) ∷ labels)

-- the body of a `switch` whose value is computed from a place on
abbrev pub switch_inner : Code → Body → CoreStmt → ℕ → Around → Inner
switch_inner value p s at around = p s (at + length value + 2) (in_switch around (at + length value + 1))

-- a body that is no block is a list of itself alone
abbrev pub switch_code : Code → List SwitchLabel → Option ℕ → Inner → ℕ → Code
switch_code value labels block body at =
    switched value body.code (cases_code block (start_of (at + length value + 2) body.starts) (at + length value + 2 + length body.code + 1) None labels)

-- return; return e;
abbrev pub returned : Frame → Option CoreExpr → Code
returned f None = service 6 ++ epilogue f.cost
returned f (Some e) = value f e ++ (block_service 3 0 ++ epilogue f.cost)

-- goto label;
abbrev pub go_to : List ℕ → ℕ → Option Place → Code
go_to blocks at None = []
go_to blocks at (Some place) = go blocks at place

-- if (e) s
abbrev pub branch_code : Frame → Body → CoreExpr → CoreStmt → ℕ → Around → Code
branch_code f p e s at around = choice (test_of f e) (whole f p s (at + length (test_of f e) + 1) around) None

-- if (e) s else r
abbrev pub choice_code : Frame → Body → Body → CoreExpr → CoreStmt → CoreStmt → ℕ → Around → Code
choice_code f p q e s r at around =
    let first = whole f p s (at + length (test_of f e) + 1) around in
    choice (test_of f e) first (Some (whole f q r (at + length (test_of f e) + 1 + length first + 1) around))

abbrev pub if_code : Frame → Body → Option Body → CoreExpr → CoreStmt → Option CoreStmt → ℕ → Around → Code
if_code f p (Some q) e s (Some r) at around = choice_code f p q e s r at around
if_code f p _ e s _ at around = branch_code f p e s at around

-- a loop with its test, and what comes after each turn
abbrev pub turns_code : Frame → Body → Bool → Option CoreExpr → Option CoreExpr → CoreStmt → ℕ → Around → Code
turns_code f p body_first e after s at around =
    let body = loop_body f p s at around in
    loop body_first body (value_or_none f after) (ends_turn f e (at + 3 + length body + length (value_or_none f after)) (at + 3))

-- for (first; e; after) s
abbrev pub for_code : Frame → Body → Option CoreExpr → Option CoreExpr → Option CoreExpr → CoreStmt → ℕ → Around → Code
for_code f p first e after s at around =
    let before = value_or_none f first in
    before ++ turns_code f p false e after s (at + length before) around

-- switch (e) s
abbrev pub switch_of : Frame → Body → CoreExpr → List SwitchLabel → CoreStmt → ℕ → Around → Code
switch_of f p e labels s at around =
    switch_code (value f e) labels (entry_of f s) (switch_inner (value f e) p s at around) at

-- one statement, by the code of the statements inside it
abbrev pub statement_layer : Frame → CoreStmt-F Body → CoreStmt-F CoreStmt → ℕ → Around → Inner
statement_layer f (CoreStmt-F.Block _ _ _ ps) (CoreStmt-F.Block l b ls ss) at around = block_inner f b ls ps ss at around
statement_layer f _ (CoreStmt-F.Initialize l b i ps) at around = alone (pieces_code f (slot_of f.slots b i) ps)
statement_layer f _ (CoreStmt-F.Empty l) at around = alone []
statement_layer f _ (CoreStmt-F.Expression l e) at around = alone (value f e)
statement_layer f (CoreStmt-F.If _ _ p q) (CoreStmt-F.If l e s other) at around = alone (if_code f p q e s other at around)
statement_layer f (CoreStmt-F.Switch _ _ _ p) (CoreStmt-F.Switch l e labels s) at around = alone (switch_of f p e labels s at around)
statement_layer f (CoreStmt-F.While _ _ p) (CoreStmt-F.While l e s) at around = alone (turns_code f p false (Some e) None s at around)
statement_layer f (CoreStmt-F.Do _ p _ _) (CoreStmt-F.Do l s line e) at around = alone (turns_code f p true (Some e) None s at around)
statement_layer f (CoreStmt-F.For _ _ _ _ p) (CoreStmt-F.For l first e after s) at around = alone (for_code f p first e after s at around)
statement_layer f (CoreStmt-F.Case _ p) (CoreStmt-F.Case l s) at around = alone (whole f p s at around)
statement_layer f (CoreStmt-F.Default _ p) (CoreStmt-F.Default l s) at around = alone (whole f p s at around)
statement_layer f (CoreStmt-F.Label _ p) (CoreStmt-F.Label l s) at around = alone (whole f p s at around)
statement_layer f _ (CoreStmt-F.Goto l k) at around = alone (go_to around.blocks at (labelled k around.labels))
statement_layer f _ (CoreStmt-F.Continue l) at around = alone (go around.blocks at around.on_continue)
statement_layer f _ (CoreStmt-F.Break l) at around = alone (go around.blocks at around.on_break)
statement_layer f _ (CoreStmt-F.Return l e) at around = alone (returned f e)
statement_layer f _ _ at around = alone []

abbrev pub body_of : Frame → CoreStmt → Body
body_of f = fold-CoreStmt Body (λ p s. statement_layer f p (out-CoreStmt s))

-- the code of a statement in a frame
abbrev pub statement_code : Frame → CoreStmt → ℕ → Around → Code
statement_code f s at around = whole f (body_of f s) s at around

-- what is known at the end of a text so far
abbrev pub around : Text → Exits → Around
around text exits = record { blocks = text.blocks; on_break = exits.on_break; on_continue = exits.on_continue; labels = text.labels }

-- the same for a loop, which has exits of its own
abbrev pub loop_around : Text → Around
loop_around text = record nowhere { blocks = text.blocks; labels = text.labels }

-- a text with more code, at whose end the same blocks are open
pub record Adds (code : Code) (old new : Text) : Type 0 where
  pub appended : new.code ≡ old.code ++ code
  pub same_blocks : new.blocks ≡ old.blocks
  pub same_labels : new.labels ≡ old.labels

-- the same with the places at which statements begin
pub record Lists (code : Code) (places : List ℕ) (old new : Text) (found : List ℕ) : Type 0 where
  pub places_are : found ≡ places
  pub added : Adds code old new

abbrev pub Enters : Inner → Text → Text → List ℕ → Type 0
Enters inner old new found = Lists inner.code inner.starts old new found

-- the test of an `if`, and its first statement behind a jump that is written later
abbrev pub tested : Code → Code → Code
tested test first = test ++ over 0 ∷ first

-- a text with them, and the place of this jump
pub record Tests (f : Frame) (p : Body) (e : CoreExpr) (s : CoreStmt) (out : Around) (old new : Text) (place : ℕ) : Type 0 where
  pub added : Adds (tested (test_of f e) (whole f p s (length old.code + length (test_of f e) + 1) out)) old new
  pub place_is : place ≡ length old.code + length (test_of f e)

-- a text with the word of one label, whose place is known
pub record OpensOne (l : LabelAt) (depth : ℕ) (old new : Text) : Type 0 where
  pub appended : new.code ≡ old.code ++ over 0 ∷ []
  pub same_blocks : new.blocks ≡ old.blocks
  pub more_labels : new.labels ≡ old.labels ++ label_place (length old.code) depth l ∷ []

-- the word of a label becomes the jump to its statement
pub record JumpsTo (start : ℕ → ℕ) (l : LabelAt) (at : ℕ) (old new : Code) : Type 0 where
  pub set_is : new ≡ slice_set old at (jump at (start l.at))

-- a text with the words of a block's labels, whose places are known
pub record Opens (labels : List LabelAt) (old new : Text) : Type 0 where
  pub appended : new.code ≡ old.code ++ label_holes labels
  pub same_blocks : new.blocks ≡ old.blocks
  pub more_labels : new.labels ≡ old.labels ++ label_places (length old.code + 1) (length old.blocks) labels
