-- Machine: the program once more; a theorem ties it to a yardstick (docs/TRUST.md).
-- One small step of the checking interpreter on a function's body, with the statements that are pending innermost first
-- (ANSI 3.6). A line is answered, and its event is made outside: an event is the last thing of a step.
use Rattle.std.specs.Prelude.{ℕ, zero, suc, ◌==◌, Bool, true, false, List, [], ◌∷◌, length, take, drop, replicate, Option, Some, None}
use Rattle.sc_types.specs.declared.ctype.CType.{CType}
use Rattle.sc_core.specs.declared.expression.CoreExpr.{CoreExpr}
use Rattle.sc_core.specs.declared.statement.AutoInit.{AutoInit}
use Rattle.sc_core.specs.declared.statement.AutoInit.TheVariants as piece
use Rattle.sc_core.specs.declared.statement.CoreStmt.{CoreStmt, out-CoreStmt}
use Rattle.sc_core.specs.declared.statement.CoreStmt.TheOpen.{CoreStmt-F}
use Rattle.sc_core.specs.declared.statement.SwitchLabel.{SwitchLabel}
use Rattle.sc_core.specs.Types.{type_of}
use Rattle.sc_meaning.specs.Values.{Value, scalar_size}
use Rattle.sc_meaning.specs.World.{World, Born, pass, Work, Begin, End as Ends, Declares, OpenBlock, CloseBlock, tick}
use Rattle.sc_meaning.specs.Outcomes.{Outcome, Done, Over, Ending}
use Rattle.sc_meaning.specs.Violations.{bits}
use Rattle.sc_meaning.specs.Accesses.{tested, set_at}
use Rattle.sc_meaning.specs.Versions.{History}
use Rattle.sc_meaning.specs.Changes.{reached}
use Rattle.sc_meaning.specs.Expressions.{Env, Answer, Plain, Nothing, used, automatic_in}
use Rattle.sc_meaning.specs.Statements.{Way, Normal, Broke, Continued, Jumped, Returned, place_in, born_autos, all_dead, block_autos, with_block, set_bytes, id_of, initial_structure, stmt_begun}
use Rattle.sc_interp_machine.specs.Machine as expr
use Rattle.sc_interp_machine.specs.declared.pending.Item.{Item}
use Rattle.sc_interp_machine.specs.declared.pending.Mode.TheVariants.{Eval}
use Rattle.sc_interp_machine.specs.declared.body.Use.{Use}
use Rattle.sc_interp_machine.specs.declared.body.Use.TheVariants.{Discard, Turns, Return, If, While, Repeat, For, Switch, Set, Copy}
use Rattle.sc_interp_machine.specs.declared.body.Pending.{Pending}
use Rattle.sc_interp_machine.specs.declared.body.Pending.TheVariants.{End, Rest, EndBlock, EndSwitch, Again, Check, Third}
use Rattle.sc_interp_machine.specs.declared.body.Doing.{Doing}
use Rattle.sc_interp_machine.specs.declared.body.Doing.TheVariants.{Within, Exec, Turn, Leave, Pieces, Labels}

-- What a step leaves, each with the pending statements and the names: more of it; a line that is reached before it goes on;
-- a call; the way in which the body is left; or the end of the run.
pub data Advanced : Type 0 where
  GoesOn : Doing → List Pending → Env → World → Advanced
  Lines : ℕ → Doing → List Pending → Env → World → Advanced
  CallsOut : CType → Value → List Value → List Item → Use → List Pending → Env → World → Advanced
  Leaves : Way → World → Advanced
  Breaks : Ending → Advanced

abbrev pub then_goes : {A : Type 0} → Outcome A → (A → World → Advanced) → Advanced
then_goes (Done a w) go = go a w
then_goes (Over e) go = Breaks e

abbrev pub whether : Bool → (World → Advanced) → (World → Advanced) → World → Advanced
whether true f g w = f w
whether false f g w = g w

-- an expression begins
abbrev pub within : CoreExpr → Use → Doing
within e u = Within (Eval e) [] u

abbrev pub leaves : Way → List Pending → Env → World → Advanced
leaves way ss env w = GoesOn (Leave way) ss env w

abbrev pub ends : Way → List Pending → Env → World → Advanced
ends way ss env w = leaves way ss env (pass Ends w)

abbrev pub execs : CoreStmt → List Pending → Env → World → Advanced
execs s ss env w = GoesOn (Exec s) ss env w

abbrev pub turns : CoreStmt → List Pending → Env → World → Advanced
turns s ss env w = GoesOn (Turn s) ss env w

-- the objects of a block are born, and it is entered
abbrev pub opened : CoreStmt → ℕ → List CoreStmt → List Pending → Env → List ℕ → World → Advanced
opened s b qs ss env ids w =
    let born : Born = record { block = b; ids = ids } in
    leaves Normal (Rest s qs ∷ EndBlock (length env.blocks) ∷ ss) (with_block env born) (pass (OpenBlock born) w)

abbrev pub enters : CoreStmt → ℕ → List CoreStmt → List Pending → Env → World → Advanced
enters s b qs ss env w = then_goes (born_autos (block_autos env b) [] w) (opened s b qs ss env)

abbrev pub optional_next : Option CoreStmt → List Pending → Env → World → Advanced
optional_next None ss env w = leaves Normal ss env w
optional_next (Some s) ss env w = execs s ss env w

-- a statement has begun
abbrev pub first_next : ℕ → Option CoreExpr → CoreStmt → List Pending → Env → World → Advanced
first_next l None s ss env w = turns s ss env w
first_next l (Some e) s ss env w = Lines l (within e (Turns s)) ss env w

abbrev pub return_next : ℕ → Option CoreExpr → List Pending → Env → World → Advanced
return_next l None ss env w = Lines l (Leave (Returned Nothing)) (End ∷ ss) env w
return_next l (Some e) ss env w = Lines l (within e Return) ss env w

abbrev pub declares_next : ℕ → Value → List AutoInit → List Pending → Env → World → Advanced
declares_next l p pieces ss env w = Lines l (Pieces p pieces) ss env (pass (Declares (id_of p)) w)

abbrev pub stmt_next : CoreStmt → CoreStmt-F CoreStmt → List Pending → Env → World → Advanced
stmt_next s (CoreStmt-F.Block l b ls qs) ss env w = enters s b qs ss env w
stmt_next s (CoreStmt-F.Initialize l b i pieces) ss env w = declares_next l (automatic_in env.blocks b i) pieces ss env w
stmt_next s (CoreStmt-F.Empty l) ss env w = Lines l (Leave Normal) (End ∷ ss) env w
stmt_next s (CoreStmt-F.Expression l e) ss env w = Lines l (within e Discard) ss env w
stmt_next s (CoreStmt-F.If l e a b) ss env w = Lines l (within e (If (type_of e) a b)) ss env w
stmt_next s (CoreStmt-F.Switch l e labels a) ss env w = Lines l (within e (Switch labels a)) ss env w
stmt_next s (CoreStmt-F.While l e a) ss env w = turns s ss env w
stmt_next s (CoreStmt-F.Do l a m e) ss env w = turns s ss env w
stmt_next s (CoreStmt-F.For l f c x a) ss env w = first_next l f s ss env w
stmt_next s (CoreStmt-F.Case l a) ss env w = execs a (End ∷ ss) env w
stmt_next s (CoreStmt-F.Default l a) ss env w = execs a (End ∷ ss) env w
stmt_next s (CoreStmt-F.Label l a) ss env w = execs a (End ∷ ss) env w
stmt_next s (CoreStmt-F.Goto l k) ss env w = Lines l (Leave (Jumped k)) (End ∷ ss) env w
stmt_next s (CoreStmt-F.Continue l) ss env w = Lines l (Leave Continued) (End ∷ ss) env w
stmt_next s (CoreStmt-F.Break l) ss env w = Lines l (Leave Broke) (End ∷ ss) env w
stmt_next s (CoreStmt-F.Return l e) ss env w = return_next l e ss env w

-- a loop's turn; nothing else has one
abbrev pub holds_next : ℕ → Option CoreExpr → Option CoreExpr → CoreStmt → CoreStmt → List Pending → Env → World → Advanced
holds_next l None x s a ss env w = execs a (Third x s ∷ ss) env w
holds_next l (Some e) x s a ss env w = Lines l (within e (For (type_of e) s x a)) ss env w

abbrev pub turn_next : CoreStmt → CoreStmt-F CoreStmt → List Pending → Env → World → Advanced
turn_next s (CoreStmt-F.While l e a) ss env w = Lines l (within e (While (type_of e) s a)) ss env w
turn_next s (CoreStmt-F.Do l a m e) ss env w = execs a (Check m e s ∷ ss) env w
turn_next s (CoreStmt-F.For l f c x a) ss env w = holds_next l c x s a ss env w
turn_next s _ ss env w = ends Normal ss env w

-- what is done with the answer of a whole expression
abbrev pub tests : CType → Answer → (World → Advanced) → (World → Advanced) → World → Advanced
tests t a f g w = then_goes (used a w) (λ v w. then_goes (tested t v w) (λ yes w. whether yes f g w))

abbrev pub use_next : Use → Answer → List Pending → Env → World → Advanced
use_next Discard a ss env w = ends Normal ss env w
use_next (Turns s) a ss env w = turns s ss env w
use_next Return a ss env w = then_goes (used a w) (λ v w. ends (Returned (Plain v)) ss env w)
use_next (If t q r) a ss env w = tests t a (execs q (End ∷ ss) env) (optional_next r (End ∷ ss) env) w
use_next (While t s q) a ss env w = tests t a (execs q (Again s ∷ ss) env) (ends Normal ss env) w
use_next (Repeat t s) a ss env w = tests t a (turns s ss env) (ends Normal ss env) w
use_next (For t s x q) a ss env w = tests t a (execs q (Third x s ∷ ss) env) (ends Normal ss env) w
use_next (Switch labels s) a ss env w = then_goes (used a w) (λ v w. GoesOn (Labels labels (bits v) None s) ss env w)
use_next (Set p at t is) a ss env w =
    then_goes (used a w) (λ v w. GoesOn (Pieces p is) ss env (pass (Work (scalar_size t)) (set_at p at (scalar_size t) v w)))
use_next (Copy p size is) a ss env w = then_goes (initial_structure p size a w) (λ _ w. GoesOn (Pieces p is) ss env w)

-- the pieces of an initialiser
abbrev pub piece_next : Value → AutoInit → List AutoInit → List Pending → Env → World → Advanced
piece_next p (piece.Value at t e) is ss env w = GoesOn (within e (Set p at t is)) ss env w
piece_next p (piece.Text at bytes) is ss env w = GoesOn (Pieces p is) ss env (set_bytes (id_of p) at bytes w)
piece_next p (piece.Zero at n) is ss env w = GoesOn (Pieces p is) ss env (set_bytes (id_of p) at (replicate n 0) w)
piece_next p (piece.Structure size e) is ss env w = GoesOn (within e (Copy p size is)) ss env w

abbrev pub pieces_next : Value → List AutoInit → List Pending → Env → World → Advanced
pieces_next p [] ss env w = leaves Normal ss env (tick w)
pieces_next p (i ∷ is) ss env w = piece_next p i is ss env w

-- the labels of a switch, and where it goes on
abbrev pub body_next : CoreStmt → ℕ → CoreStmt-F CoreStmt → List Pending → Env → World → Advanced
body_next s at (CoreStmt-F.Block l b ls qs) ss env w = enters s b (drop at qs) ss env (pass Begin w)
body_next s at _ ss env w = execs s ss env w

abbrev pub landed_next : CoreStmt → Option ℕ → List Pending → Env → World → Advanced
landed_next s None ss env w = leaves Normal ss env w
landed_next s (Some at) ss env w = body_next s at (out-CoreStmt s) ss env w

abbrev pub label_next : Option ℕ → ℕ → List SwitchLabel → ℕ → Option ℕ → CoreStmt → List Pending → Env → World → Advanced
label_next None at ls n default s ss env w = GoesOn (Labels ls n (Some at) s) ss env w
label_next (Some v) at ls n default s ss env w =
    whether (v == n) (landed_next s (Some at) (EndSwitch ∷ ss) env) (GoesOn (Labels ls n default s) ss env) (tick w)

abbrev pub labels_next : List SwitchLabel → ℕ → Option ℕ → CoreStmt → List Pending → Env → World → Advanced
labels_next [] n default s ss env w = landed_next s default (EndSwitch ∷ ss) env w
labels_next (l ∷ ls) n default s ss env w = label_next l.value l.at ls n default s ss env w

-- a jump: the block that is open goes on at the label, where this stands in its list
abbrev pub resumed_next : CoreStmt → ℕ → CoreStmt-F CoreStmt → List Pending → Env → World → Advanced
resumed_next s at (CoreStmt-F.Block l b ls qs) ss env w = leaves Normal (Rest s (drop at qs) ∷ ss) env w
resumed_next s at _ ss env w = leaves Normal ss env w

abbrev pub jumped_next : CoreStmt → ℕ → Option ℕ → List Pending → Env → World → Advanced
jumped_next s k None ss env w = leaves (Jumped k) ss env w
jumped_next s k (Some at) ss env w = resumed_next s at (out-CoreStmt s) ss env w

-- what is done with the way in which a statement was left
abbrev pub rest_next : Way → CoreStmt → List CoreStmt → List Pending → Env → World → Advanced
rest_next Normal s [] ss env w = leaves Normal ss env w
rest_next Normal s (q ∷ qs) ss env w = execs q (Rest s qs ∷ ss) env w
rest_next Broke s qs ss env w = leaves Broke ss env w
rest_next Continued s qs ss env w = leaves Continued ss env w
rest_next (Jumped k) s qs ss env w = jumped_next s k (place_in k (out-CoreStmt s)) ss env w
rest_next (Returned a) s qs ss env w = leaves (Returned a) ss env w

abbrev pub switch_next : Way → List Pending → Env → World → Advanced
switch_next Normal ss env w = ends Normal ss env w
switch_next Broke ss env w = ends Normal ss env w
switch_next Continued ss env w = ends Continued ss env w
switch_next (Jumped k) ss env w = ends (Jumped k) ss env w
switch_next (Returned a) ss env w = ends (Returned a) ss env w

-- after a turn
abbrev pub goes_round : Way → (World → Advanced) → List Pending → Env → World → Advanced
goes_round Normal again ss env w = again w
goes_round Continued again ss env w = again w
goes_round Broke again ss env w = ends Normal ss env w
goes_round (Jumped k) again ss env w = ends (Jumped k) ss env w
goes_round (Returned a) again ss env w = ends (Returned a) ss env w

abbrev pub third_next : Option CoreExpr → CoreStmt → List Pending → Env → World → Advanced
third_next None s ss env w = turns s ss env w
third_next (Some e) s ss env w = GoesOn (within e (Turns s)) ss env w

-- the names without those of the blocks behind so many, and the objects of the first of these
abbrev pub without_blocks : ℕ → Env → Env
without_blocks k env = record env { blocks = take k env.blocks }

abbrev pub first_ids : List Born → List ℕ
first_ids [] = []
first_ids (b ∷ bs) = b.ids

abbrev pub item_next : Pending → Way → List Pending → Env → World → Advanced
item_next End way ss env w = ends way ss env w
item_next (Rest s qs) way ss env w = rest_next way s qs ss env w
item_next (EndBlock k) way ss env w = ends way ss (without_blocks k env) (pass CloseBlock (all_dead (first_ids (drop k env.blocks)) w))
item_next EndSwitch way ss env w = switch_next way ss env w
item_next (Again s) way ss env w = goes_round way (turns s ss env) ss env w
item_next (Check l e s) way ss env w = goes_round way (λ w. Lines l (within e (Repeat (type_of e) s)) ss env w) ss env w
item_next (Third x s) way ss env w = goes_round way (third_next x s ss env) ss env w

abbrev pub way_next : List Pending → Way → Env → World → Advanced
way_next [] way env w = Leaves way w
way_next (i ∷ ss) way env w = item_next i way ss env w

-- what a step within an expression leaves
abbrev pub expr_next : expr.Advanced → Use → List Pending → Env → Advanced
expr_next (expr.GoesOn mode is w) u ss env = GoesOn (Within mode is u) ss env w
expr_next (expr.CallsOut t v vs is w) u ss env = CallsOut t v vs is u ss env w
expr_next (expr.Gives a w) u ss env = use_next u a ss env w
expr_next (expr.Breaks e) u ss env = Breaks e

-- one step
abbrev pub advance : Doing → List Pending → Env → World → Advanced
advance (Within mode is u) ss env w = expr_next (expr.advance env mode is w) u ss env
advance (Exec s) ss env w = stmt_next s (out-CoreStmt s) ss env (stmt_begun (out-CoreStmt s) w)
advance (Turn s) ss env w = turn_next s (out-CoreStmt s) ss env w
advance (Leave way) ss env w = way_next ss way env w
advance (Pieces p is) ss env w = pieces_next p is ss env w
advance (Labels ls n default s) ss env w = labels_next ls n default s ss env w

-- A line's event, and the changes that stand behind it, as the world outside makes them.
abbrev pub goes_on : Outcome (Unit {0}) → Doing → List Pending → Env → Advanced
goes_on (Done _ w) mode ss env = GoesOn mode ss env w
goes_on (Over e) mode ss env = Breaks e

-- so many steps, up to a call that goes out, the end of the body, or the end of the run; a line counts as a step
abbrev pub ran : ℕ → History → Advanced → Advanced
ran zero h a = a
ran (suc k) h (GoesOn mode ss env w) = ran k h (advance mode ss env w)
ran (suc k) h (Lines l mode ss env w) = ran k h (goes_on (reached h l w) mode ss env)
ran (suc k) h (CallsOut t v vs is u ss env w) = CallsOut t v vs is u ss env w
ran (suc k) h (Leaves way w) = Leaves way w
ran (suc k) h (Breaks e) = Breaks e
