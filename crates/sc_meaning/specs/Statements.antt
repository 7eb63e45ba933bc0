-- Yardstick: to be compared with what it restates (docs/TRUST.md).
-- Statements, each by the meaning of its parts (ANSI 3.6). The objects of a block are born as it is entered, and die,
-- the last born first, on every way out of it.
use Rattle.std.specs.Prelude.{ℕ, ◌+◌, ◌==◌, Bool, true, if◌then◌else◌, List, [], ◌∷◌, ◌++◌, drop, replicate, slice_index_or, Option, Some, None}
use Rattle.sc_base.specs.declared.memory.Kind.{Kind}
use Rattle.sc_base.specs.declared.memory.Kind.TheVariants as kind
use Rattle.sc_core.specs.declared.expression.CoreExpr.{CoreExpr}
use Rattle.sc_core.specs.declared.module.Auto.{Auto}
use Rattle.sc_core.specs.declared.statement.AutoInit.{AutoInit}
use Rattle.sc_core.specs.declared.statement.AutoInit.TheVariants as item
use Rattle.sc_core.specs.declared.statement.CoreStmt.{CoreStmt, out-CoreStmt}
use Rattle.sc_core.specs.declared.statement.CoreStmt.TheOpen.{CoreStmt-F}
use Rattle.sc_core.specs.declared.statement.LabelAt.{LabelAt}
use Rattle.sc_core.specs.declared.statement.SwitchLabel.{SwitchLabel}
use Rattle.sc_core.specs.Types.{type_of}
use Rattle.sc_meaning.specs.Values.{Value, Pointer, Byte, scalar_size}
use Rattle.sc_meaning.specs.World.{World, Born, pass, Work, Begin, End, Declares, Death, Put, OpenBlock, CloseBlock, tick}
use Rattle.sc_meaning.specs.declared.spot.Spot.TheVariants.{Slot}
use Rattle.sc_meaning.specs.Outcomes.{Outcome, Done, and_then, Step, went, unless, access_breach}
use Rattle.sc_meaning.specs.Violations.{bits, reach_rule}
use Rattle.sc_meaning.specs.Accesses.{tested, set_at, copy_at}
use Rattle.sc_meaning.specs.Versions.{History}
use Rattle.sc_meaning.specs.Changes.{born, reached}
use Rattle.sc_meaning.specs.Expressions.{Env, Answer, Plain, Nothing, Eval, valued, base_of, further_of, automatic_in, either}

-- how a statement is left: at its end, by `break`, by `continue`, for a label by `goto`, or by `return` with its value
pub data Way : Type 0 where
  Normal : Way
  Broke : Way
  Continued : Way
  Jumped : ℕ → Way
  Returned : Answer → Way

abbrev pub Exec : Type 0
Exec = Env → CoreStmt → World → Outcome Way

-- a block that is entered goes on at one of its statements
abbrev pub Resume : Type 0
Resume = Env → CoreStmt → ℕ → World → Outcome Way

-- a statement ends
abbrev pub ended : Way → World → Outcome Way
ended way w = Done way (pass End w)

abbrev pub auto_kind : Bool → Kind
auto_kind constant = if constant then kind.Const else kind.Auto

-- objects are born in order of declaration; what follows takes their numbers
abbrev pub born_autos : List Auto → List ℕ → World → Outcome (List ℕ)
born_autos [] ids w = Done ids w
born_autos (a ∷ rest) ids w = and_then (born a.slot.size (auto_kind a.slot.constant) (Slot a.slot.offset) w) (λ id w. born_autos rest (ids ++ id ∷ []) w)

-- objects die, the last born first
abbrev pub all_dead : List ℕ → World → World
all_dead [] w = w
all_dead (id ∷ ids) w = pass (Death id) (all_dead ids w)

abbrev pub block_autos : Env → ℕ → List Auto
block_autos env b = slice_index_or env.fun.blocks b []

abbrev pub with_block : Env → Born → Env
with_block env b = record env { blocks = env.blocks ++ b ∷ [] }

-- the rest of a block is passed over where a statement is left by a jump
abbrev pub after_stmt : Way → (World → Outcome Way) → World → Outcome Way
after_stmt Normal rest w = rest w
after_stmt Broke rest w = Done Broke w
after_stmt Continued rest w = Done Continued w
after_stmt (Jumped k) rest w = Done (Jumped k) w
after_stmt (Returned a) rest w = Done (Returned a) w

-- statements in order
abbrev pub stmts_of : Exec → Env → List CoreStmt → World → Outcome Way
stmts_of exec env [] w = Done Normal w
stmts_of exec env (s ∷ ss) w = and_then (exec env s w) (λ way w. after_stmt way (stmts_of exec env ss) w)

-- the place at which a label stands in a list
abbrev pub place_of : ℕ → List LabelAt → Option ℕ
place_of k [] = None
place_of k (l ∷ ls) = if l.label == k then Some l.at else place_of k ls

-- A block's list is left for a label: where this stands in that same list, the block goes on there (3.6.6.1).
abbrev pub jumped_to : Resume → Env → CoreStmt → ℕ → Option ℕ → World → Outcome Way
jumped_to again env s k None w = Done (Jumped k) w
jumped_to again env s k (Some at) w = again env s at w

abbrev pub place_in : ℕ → CoreStmt-F CoreStmt → Option ℕ
place_in k (CoreStmt-F.Block l b ls ss) = place_of k ls
place_in k _ = None

abbrev pub after_list : Resume → Env → CoreStmt → Way → World → Outcome Way
after_list again env s Normal w = Done Normal w
after_list again env s Broke w = Done Broke w
after_list again env s Continued w = Done Continued w
after_list again env s (Jumped k) w = jumped_to again env s k (place_in k (out-CoreStmt s)) w
after_list again env s (Returned a) w = Done (Returned a) w

-- the statements of the block s from one of them on, and what jumps inside its list lead to
abbrev pub list_of : Exec → Resume → Env → CoreStmt → List CoreStmt → World → Outcome Way
list_of exec again env s ss w = and_then (stmts_of exec env ss w) (after_list again env s)

-- a block that was entered goes on at one of its statements
abbrev pub resume_of : Exec → Resume → Env → CoreStmt → ℕ → CoreStmt-F CoreStmt → World → Outcome Way
resume_of exec again env s at (CoreStmt-F.Block l b ls ss) w = list_of exec again env s (drop at ss) w
resume_of exec again env s at _ w = Done Normal w

abbrev pub block_ended : List ℕ → Way → World → Outcome Way
block_ended ids way w = ended way (pass CloseBlock (all_dead ids w))

abbrev pub block_with : Exec → Resume → Env → CoreStmt → ℕ → List CoreStmt → List ℕ → World → Outcome Way
block_with exec again env s b ss ids w =
    let born : Born = record { block = b; ids = ids } in
    and_then (list_of exec again (with_block env born) s ss (pass (OpenBlock born) w)) (block_ended ids)

-- the block s, from one of its statements on (3.6.2)
abbrev pub block_of : Exec → Resume → Env → CoreStmt → ℕ → List CoreStmt → World → Outcome Way
block_of exec again env s b ss w = and_then (born_autos (block_autos env b) [] w) (block_with exec again env s b ss)

-- bytes are set one by one, each of which is work
abbrev pub set_bytes : ℕ → ℕ → List ℕ → World → World
set_bytes id at [] w = w
set_bytes id at (b ∷ bs) w = set_bytes id (at + 1) bs (tick (pass (Put id at (Byte b ∷ [])) w))

abbrev pub id_of : Value → ℕ
id_of (Pointer o i) = o
id_of _ = 0

-- a whole structure is copied; its source is tested (3.5.7)
abbrev pub initial_structure : Value → ℕ → Answer → Step
initial_structure p size a w =
    unless (reach_rule w.objects (base_of a) (further_of a) size) (access_breach (base_of a) (further_of a) size w)
    (λ w. went (pass (Work size) (copy_at p 0 (base_of a) (further_of a) size w))) w

-- a piece of an initialiser: bytes of strings and missing bytes are set one by one
abbrev pub initial : Eval → Env → Value → AutoInit → Step
initial eval env p (item.Value at t e) w =
    and_then (valued eval env e w) (λ v w. went (pass (Work (scalar_size t)) (set_at p at (scalar_size t) v w)))
initial eval env p (item.Text at bytes) w = went (set_bytes (id_of p) at bytes w)
initial eval env p (item.Zero at n) w = went (set_bytes (id_of p) at (replicate n 0) w)
initial eval env p (item.Structure size e) w = and_then (eval env e w) (initial_structure p size)

abbrev pub initials : Eval → Env → Value → List AutoInit → Step
initials eval env p [] w = went w
initials eval env p (i ∷ is) w = and_then (initial eval env p i w) (λ _ w. initials eval env p is w)

-- an initialised declarator, which has begun
abbrev pub initialised : History → Eval → Env → ℕ → Value → List AutoInit → World → Outcome Way
initialised h eval env l p items w =
    and_then (reached h l (pass (Declares (id_of p)) w)) (λ _ w. and_then (initials eval env p items w) (λ _ w. Done Normal (tick w)))

-- a scalar expression, and whether it is not 0
abbrev pub condition : Eval → Env → CoreExpr → World → Outcome Bool
condition eval env e w = and_then (valued eval env e w) (tested (type_of e))

-- a controlling expression that stands on a line
abbrev pub condition_at : History → Eval → Env → ℕ → CoreExpr → World → Outcome Bool
condition_at h eval env l e w = and_then (reached h l w) (λ _ w. condition eval env e w)

abbrev pub optional : Exec → Env → Option CoreStmt → World → Outcome Way
optional exec env None w = Done Normal w
optional exec env (Some s) w = exec env s w

-- Labels are compared in their order, each comparison being work; `default` is not compared (3.6.4.2). What comes is
-- the place of the statement that is reached.
abbrev pub label_next : Option ℕ → ℕ → ℕ → Option ℕ → (Option ℕ → World → Outcome (Option ℕ)) → World → Outcome (Option ℕ)
label_next None at n default later w = later (Some at) w
label_next (Some v) at n default later w = either (v == n) (Done (Some at)) (later default) (tick w)

abbrev pub label_of : List SwitchLabel → ℕ → Option ℕ → World → Outcome (Option ℕ)
label_of [] n default w = Done default w
label_of (l ∷ ls) n default w = label_next l.value l.at n default (label_of ls n) w

-- the body of a `switch` from one of its statements on
abbrev pub body_from : Exec → Resume → Env → CoreStmt → ℕ → CoreStmt-F CoreStmt → World → Outcome Way
body_from exec again env s at (CoreStmt-F.Block l b ls ss) w = block_of exec again env s b (drop at ss) (pass Begin w)
body_from exec again env s at _ w = exec env s w

abbrev pub landed : Exec → Resume → Env → CoreStmt → Option ℕ → World → Outcome Way
landed exec again env s None w = Done Normal w
landed exec again env s (Some at) w = body_from exec again env s at (out-CoreStmt s) w

-- `break` leaves a `switch`
abbrev pub after_switch : Way → World → Outcome Way
after_switch Normal w = ended Normal w
after_switch Broke w = ended Normal w
after_switch Continued w = ended Continued w
after_switch (Jumped k) w = ended (Jumped k) w
after_switch (Returned a) w = ended (Returned a) w

-- what follows a turn of a loop: `continue` goes on as the body's end does (3.6.5)
abbrev pub after_turn : Way → (World → Outcome Way) → World → Outcome Way
after_turn Normal again w = again w
after_turn Continued again w = again w
after_turn Broke again w = ended Normal w
after_turn (Jumped k) again w = ended (Jumped k) w
after_turn (Returned a) again w = ended (Returned a) w

-- an expression whose value is not used
abbrev pub discarded : Eval → Env → CoreExpr → Step
discarded eval env e w = and_then (eval env e w) (λ _ w. went w)

abbrev pub discarded_if : Eval → Env → Option CoreExpr → Step
discarded_if eval env None w = went w
discarded_if eval env (Some e) w = discarded eval env e w

-- the first expression of a `for` stands on its line, the third on none
abbrev pub first_of : History → Eval → Env → ℕ → Option CoreExpr → Step
first_of h eval env l None w = went w
first_of h eval env l (Some e) w = and_then (reached h l w) (λ _ w. discarded eval env e w)

-- the condition of a `for`, which holds where it is left out
abbrev pub holds : History → Eval → Env → ℕ → Option CoreExpr → World → Outcome Bool
holds h eval env l None w = Done true w
holds h eval env l (Some e) w = condition_at h eval env l e w

-- one turn of a loop, and those that follow (3.6.5)
abbrev pub turn_of : History → Eval → Exec → Exec → Env → CoreStmt → CoreStmt-F CoreStmt → World → Outcome Way
turn_of h eval exec turn env s (CoreStmt-F.While l e a) w =
    and_then (condition_at h eval env l e w) (λ yes w.
    either yes (λ w. and_then (exec env a w) (λ way w. after_turn way (turn env s) w)) (ended Normal) w)
turn_of h eval exec turn env s (CoreStmt-F.Do l a m e) w =
    and_then (exec env a w) (λ way w. after_turn way (λ w. and_then (condition_at h eval env m e w) (λ yes w. either yes (turn env s) (ended Normal) w)) w)
turn_of h eval exec turn env s (CoreStmt-F.For l f c x a) w =
    and_then (holds h eval env l c w) (λ yes w.
    either yes (λ w. and_then (exec env a w) (λ way w. after_turn way (λ w. and_then (discarded_if eval env x w) (λ _ w. turn env s w)) w)) (ended Normal) w)
turn_of h eval exec turn env s _ w = ended Normal w

abbrev pub returned : History → Eval → Env → ℕ → Option CoreExpr → World → Outcome Way
returned h eval env l None w = and_then (reached h l w) (λ _ w. ended (Returned Nothing) w)
returned h eval env l (Some e) w =
    and_then (reached h l w) (λ _ w. and_then (valued eval env e w) (λ v w. ended (Returned (Plain v)) w))

-- a statement that has begun; an initialised declarator is work as a statement is
abbrev pub stmt_of : History → Eval → Exec → Exec → Resume → Env → CoreStmt → CoreStmt-F CoreStmt → World → Outcome Way
stmt_of h eval exec turn again env s (CoreStmt-F.Block l b ls ss) w = block_of exec again env s b ss w
stmt_of h eval exec turn again env s (CoreStmt-F.Initialize l b i items) w = initialised h eval env l (automatic_in env.blocks b i) items w
stmt_of h eval exec turn again env s (CoreStmt-F.Empty l) w = and_then (reached h l w) (λ _ w. ended Normal w)
stmt_of h eval exec turn again env s (CoreStmt-F.Expression l e) w =
    and_then (reached h l w) (λ _ w. and_then (discarded eval env e w) (λ _ w. ended Normal w))
stmt_of h eval exec turn again env s (CoreStmt-F.If l e a b) w =
    and_then (condition_at h eval env l e w) (λ yes w. and_then (either yes (exec env a) (optional exec env b) w) ended)
stmt_of h eval exec turn again env s (CoreStmt-F.Switch l e labels a) w =
    and_then (reached h l w) (λ _ w. and_then (valued eval env e w) (λ v w.
    and_then (label_of labels (bits v) None w) (λ at w. and_then (landed exec again env a at w) after_switch)))
stmt_of h eval exec turn again env s (CoreStmt-F.While l e a) w = turn env s w
stmt_of h eval exec turn again env s (CoreStmt-F.Do l a m e) w = turn env s w
stmt_of h eval exec turn again env s (CoreStmt-F.For l f c x a) w = and_then (first_of h eval env l f w) (λ _ w. turn env s w)
stmt_of h eval exec turn again env s (CoreStmt-F.Case l a) w = and_then (exec env a w) ended
stmt_of h eval exec turn again env s (CoreStmt-F.Default l a) w = and_then (exec env a w) ended
stmt_of h eval exec turn again env s (CoreStmt-F.Label l a) w = and_then (exec env a w) ended
stmt_of h eval exec turn again env s (CoreStmt-F.Goto l k) w = and_then (reached h l w) (λ _ w. ended (Jumped k) w)
stmt_of h eval exec turn again env s (CoreStmt-F.Continue l) w = and_then (reached h l w) (λ _ w. ended Continued w)
stmt_of h eval exec turn again env s (CoreStmt-F.Break l) w = and_then (reached h l w) (λ _ w. ended Broke w)
stmt_of h eval exec turn again env s (CoreStmt-F.Return l e) w = returned h eval env l e w

-- the beginning of a statement or an initialised declarator
abbrev pub stmt_begun : CoreStmt-F CoreStmt → World → World
stmt_begun (CoreStmt-F.Initialize l b i items) w = tick w
stmt_begun _ w = pass Begin w
