-- Yardstick: to be compared with what it restates (docs/TRUST.md).
-- How many turns of the machine stand between two units of the meaning's work in the code of a function, over the templates of statements.
-- A statement and an initialised declarator begin and end with a unit; a piece of an initialiser has one for what it sets, and each label that
-- a `switch` compares is one. Where code has several ways on, its way here has the pieces of all of them; a piece may be counted with more.
use Rattle.std.specs.Prelude.{ℕ, ◌&&◌, Bool, true, List, [], ◌∷◌, ◌++◌, map, Option, Some, None}
use Rattle.std.specs.List.{list_all}
use Rattle.sc_core.specs.declared.expression.CoreExpr.{CoreExpr}
use Rattle.sc_core.specs.declared.statement.AutoInit.{AutoInit}
use Rattle.sc_core.specs.declared.statement.AutoInit.TheVariants as piece
use Rattle.sc_core.specs.declared.statement.CoreStmt.{CoreStmt, fold-CoreStmt}
use Rattle.sc_core.specs.declared.statement.CoreStmt.TheOpen.{CoreStmt-F}
use Rattle.sc_core.specs.declared.statement.SwitchLabel.{SwitchLabel}
use Rattle.sc_core.specs.declared.module.Fun.{Fun}
use Rattle.sc_gen_code.specs.declared.symbolic.Access.TheVariants as access
use Rattle.sc_gen_code.specs.Code.{a0, a1, t1, t2, mv, li, near, copied, service, block_service}
use Rattle.sc_gen_code.specs.Operators.{machine_type, store_of}
use Rattle.sc_gen_operand.specs.Places.{slot_of}
use Rattle.sc_isa.specs.declared.instruction.StoreOp.TheVariants.{Sb}
use Rattle.sc_gen_body.specs.Initializers.{place_behind}
use Rattle.sc_gen_code.specs.declared.style.Style.{Style}
use Rattle.sc_gen_code.specs.Styles.{framed, first_spot}
use Rattle.sc_gen_body.specs.Jumps.{entering, leaving, unless_equal}
use Rattle.sc_gen_body.specs.Frames.{Frame, frame, entered_in}
use Rattle.sc_gen_body.specs.Statements.{epilogue}
use Rattle.sc_gen_body.specs.Functions.{first_temporary, before_body}
use Rattle.sc_gen_laws.specs.Turns.{Way, Plain_way, unit, straight, follow, either, in_order, node, jumps, expression_way, test_way, top}

-- a statement of a list, to which a label's jump may lead
abbrev pub landed : Way → Way
landed w = follow (jumps 1) w

abbrev pub value_way : Frame → CoreExpr → Way
value_way f e = expression_way f.style f.slots e f.temporaries

-- a condition, whose branch is in it
abbrev pub condition_way : Frame → CoreExpr → Way
condition_way f e = test_way f.style f.slots true e f.temporaries

abbrev pub optional_way : Frame → Option CoreExpr → Way
optional_way f None = Plain_way 0
optional_way f (Some e) = value_way f e

-- the test of a loop
abbrev pub turn_way : Frame → Option CoreExpr → Way
turn_way f None = Plain_way 0
turn_way f (Some e) = condition_way f e

-- a byte of a string
abbrev pub byte_way : ℕ → ℕ → Way
byte_way at b = follow (straight (li a0 b ++ near at (access.Store Sb a0))) unit

abbrev pub bytes_way : ℕ → List ℕ → Way
bytes_way at [] = Plain_way 0
bytes_way at (b ∷ bs) = follow (byte_way at b) (bytes_way (place_behind at 1) bs)

-- the first missing byte, and one more, each with the three words of the loop
abbrev pub zero_way : ℕ → ℕ → Way
zero_way at n =
    in_order (straight (near at (access.Address t1) ++ near (place_behind at n) (access.Address t2)) ∷ jumps 1 ∷ unit ∷ jumps 3 ∷ unit ∷ jumps 2 ∷ [])

abbrev pub piece_way : Frame → ℕ → AutoInit → Way
piece_way f at (piece.Value n t e) =
    in_order (value_way f e ∷ straight (framed f.style (access.Store (store_of (machine_type t)) a0) (place_behind at n)) ∷ unit ∷ [])
piece_way f at (piece.Text n bytes) = bytes_way (place_behind at n) bytes
piece_way f at (piece.Zero n count) = zero_way (place_behind at n) count
piece_way f at (piece.Structure size e) = in_order (value_way f e ∷ straight (mv a1 a0 ∷ near at (access.Address a0) ++ copied size) ∷ unit ∷ [])

-- a label of a `switch`: the value is compared, which is a unit
abbrev pub label_way : Option ℕ → Way
label_way None = Plain_way 0
label_way (Some v) = follow unit (straight (li t1 v ++ unless_equal 0 ∷ []))

-- the longest jump into a block or out of blocks: one service with the block's number, and the jump
abbrev pub across : Way
across = Plain_way 6

-- A loop with two turns: from its beginning, and from a turn's end or `continue` to the next one; `break` goes to its end.
abbrev pub loop_way : Way → Way → Way → Way
loop_way body after test =
    node (jumps 1 ∷ test ∷ jumps 1 ∷ body ∷ jumps 1 ∷ after ∷ test ∷ jumps 1 ∷ body ∷ jumps 1 ∷ after ∷ test ∷ jumps 1 ∷ [])

abbrev pub other_way : Option Way → Way
other_way None = Plain_way 0
other_way (Some w) = w

-- the ways through one statement, by those through the statements inside it
abbrev pub statement_layer : Frame → CoreStmt-F Way → Way
statement_layer f (CoreStmt-F.Block l b ls ws) =
    node (straight (entering (entered_in f b)) ∷ in_order (map landed ws) ∷ straight (leaving (entered_in f b)) ∷ [])
statement_layer f (CoreStmt-F.Initialize l b i ps) = node (in_order (map (piece_way f (slot_of f.slots b i)) ps) ∷ [])
statement_layer f (CoreStmt-F.Empty l) = node []
statement_layer f (CoreStmt-F.Expression l e) = node (value_way f e ∷ [])
statement_layer f (CoreStmt-F.If l e p q) =
    node (condition_way f e ∷ either (follow p (jumps 1)) (follow (jumps 1) (other_way q)) ∷ [])
statement_layer f (CoreStmt-F.Switch l e ls p) =
    node (value_way f e ∷ jumps 1 ∷ in_order (map (λ (x : SwitchLabel). label_way x.value) ls) ∷ across ∷ p ∷ jumps 2 ∷ [])
statement_layer f (CoreStmt-F.While l e p) = loop_way p (Plain_way 0) (turn_way f (Some e))
statement_layer f (CoreStmt-F.Do l p line e) = loop_way p (Plain_way 0) (turn_way f (Some e))
statement_layer f (CoreStmt-F.For l first e after p) =
    follow unit (follow (optional_way f first) (loop_way p (optional_way f after) (turn_way f e)))
statement_layer f (CoreStmt-F.Case l p) = node (p ∷ [])
statement_layer f (CoreStmt-F.Default l p) = node (p ∷ [])
statement_layer f (CoreStmt-F.Label l p) = node (p ∷ [])
statement_layer f (CoreStmt-F.Goto l k) = node (across ∷ [])
statement_layer f (CoreStmt-F.Continue l) = node (across ∷ [])
statement_layer f (CoreStmt-F.Break l) = node (across ∷ [])
statement_layer f (CoreStmt-F.Return l None) = node (straight (service 6 ++ epilogue f.cost) ∷ [])
statement_layer f (CoreStmt-F.Return l (Some e)) = node (value_way f e ∷ straight (block_service 3 0 ++ epilogue f.cost) ∷ [])

abbrev pub statement_way : Frame → CoreStmt → Way
statement_way f = fold-CoreStmt Way (statement_layer f)

-- a function is entered and left with a unit
abbrev pub function_way : Style → Fun → Way
function_way st f =
    node (straight (before_body st f) ∷ statement_way (frame st f (first_spot (first_temporary f))) f.body ∷ straight (service 6 ++ epilogue f.cost) ∷ [])

-- no operand of an expression in these trees is converted twice in a row
abbrev pub optional_once : Option CoreExpr → Bool
optional_once None = true
optional_once (Some e) = (top e).once

abbrev pub piece_once : AutoInit → Bool
piece_once (piece.Value n t e) = (top e).once
piece_once (piece.Text n bytes) = true
piece_once (piece.Zero n count) = true
piece_once (piece.Structure size e) = (top e).once

abbrev pub or_true : Option Bool → Bool
or_true None = true
or_true (Some b) = b

abbrev pub once_layer : CoreStmt-F Bool → Bool
once_layer (CoreStmt-F.Block l b ls bs) = list_all (λ b. b) bs
once_layer (CoreStmt-F.Initialize l b i ps) = list_all piece_once ps
once_layer (CoreStmt-F.Empty l) = true
once_layer (CoreStmt-F.Expression l e) = (top e).once
once_layer (CoreStmt-F.If l e p q) = (top e).once && (p && or_true q)
once_layer (CoreStmt-F.Switch l e ls p) = (top e).once && p
once_layer (CoreStmt-F.While l e p) = (top e).once && p
once_layer (CoreStmt-F.Do l p line e) = (top e).once && p
once_layer (CoreStmt-F.For l first e after p) = optional_once first && (optional_once e && (optional_once after && p))
once_layer (CoreStmt-F.Case l p) = p
once_layer (CoreStmt-F.Default l p) = p
once_layer (CoreStmt-F.Label l p) = p
once_layer (CoreStmt-F.Goto l k) = true
once_layer (CoreStmt-F.Continue l) = true
once_layer (CoreStmt-F.Break l) = true
once_layer (CoreStmt-F.Return l e) = optional_once e

abbrev pub converts_once : CoreStmt → Bool
converts_once = fold-CoreStmt Bool once_layer
