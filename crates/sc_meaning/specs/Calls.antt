-- Yardstick: to be compared with what it restates (docs/TRUST.md).
-- Calls of functions, and the meaning of expressions, statements and calls as a whole, each with a bound on how deep it
-- goes (ANSI 3.3.2.2, 3.7.1). A turn of a loop takes one of the bound, as a call and a jump inside a block's list do.
use Rattle.std.specs.Prelude.{ℕ, zero, suc, ◌+◌, ◌-◌, nat_lt, List, [], ◌∷◌, ◌++◌, slice_index_or}
use Rattle.sc_base.specs.declared.key.Key.{Key}
use Rattle.sc_core.specs.declared.expression.CoreExpr.{out-CoreExpr}
use Rattle.sc_core.specs.declared.statement.CoreStmt.{out-CoreStmt}
use Rattle.sc_core.specs.declared.module.Fun.{Fun}
use Rattle.sc_core.specs.declared.module.Auto.{Auto}
use Rattle.sc_meaning.specs.Values.{Value, Pointer}
use Rattle.sc_meaning.specs.World.{World, Frame, Born, Enter, Leave, pass, Push, Pop, Stack, OpenBlock}
use Rattle.sc_meaning.specs.declared.spot.Spot.TheVariants.{Slot}
use Rattle.sc_meaning.specs.Outcomes.{Outcome, Done, Over, StackFull, OutOfFuel, and_then, undefined}
use Rattle.sc_meaning.specs.Accesses.{set_at}
use Rattle.sc_meaning.specs.Versions.{Text, History, Callee, Missing, InText, InLibrary, callee_of, version_at}
use Rattle.sc_meaning.specs.Changes.{born, happened}
use Rattle.sc_meaning.specs.Expressions.{Answer, Nothing, Eval, Call, expr_of, begun, undefined_name, either}
use Rattle.sc_meaning.specs.Statements.{Way, Normal, Broke, Continued, Jumped, Returned, Exec, Resume, stmt_of, turn_of, resume_of, stmt_begun, all_dead, auto_kind}
use Rattle.sc_meaning.specs.Functions.{library_call}

-- parameters are born and set, in their order
abbrev pub parameters : List Auto → List Value → List ℕ → World → Outcome (List ℕ)
parameters [] vs ids w = Done ids w
parameters (a ∷ rest) [] ids w = Done ids w
parameters (a ∷ rest) (v ∷ vs) ids w =
    and_then (born a.slot.size (auto_kind a.slot.constant) (Slot a.slot.offset) w) (λ id w. parameters rest vs (ids ++ id ∷ []) (set_at (Pointer id 0) 0 a.slot.size v w))

abbrev pub frame_of : Key → Text → World → Frame
frame_of key t w = record { key = key; text = t.number; home = t.core.name; form = t.form; enter = w.enters + 1; line = 0; blocks = []; cost = 0; start = 0 }

abbrev pub answer_of : Way → Answer
answer_of Normal = Nothing
answer_of Broke = Nothing
answer_of Continued = Nothing
answer_of (Jumped k) = Nothing
answer_of (Returned a) = a

-- a call ends: the parameters die, the last born first, and the frame is left
abbrev pub left : History → List ℕ → ℕ → Way → World → Outcome Answer
left h ids cost way w =
    and_then (happened h Leave (pass (Stack (w.used - cost)) (pass Pop (all_dead ids w)))) (λ _ w. Done (answer_of way) w)

abbrev pub body_of : History → Exec → Key → Text → Fun → List ℕ → World → Outcome Answer
body_of h exec key t f ids w =
    let born : Born = record { block = 0; ids = ids } in
    and_then (happened h (Enter key t.core.name) (pass (OpenBlock born) w)) (λ _ w.
    and_then (exec (record { text = t; fun = f; blocks = born ∷ [] }) f.body w) (left h ids f.cost))

abbrev pub entered : History → Exec → Key → Text → Fun → List Value → World → Outcome Answer
entered h exec key t f vs w =
    and_then (parameters (slice_index_or f.blocks 0 []) vs [] (pass (Push (frame_of key t w)) (pass (Stack (w.used + f.cost)) w))) (body_of h exec key t f)

abbrev pub full : {A : Type 0} → Key → World → Outcome A
full key w = Over (StackFull key w)

-- a call of a key, by what it names: the stack has room for the frame, or the run ends
abbrev pub call_of : History → Exec → Key → List Value → Callee → World → Outcome Answer
call_of h exec key vs Missing w = undefined (undefined_name key w) w
call_of h exec key vs (InLibrary f) w = library_call h f key vs w
call_of h exec key vs (InText t f) w = either (nat_lt w.stack (w.used + f.cost)) (full key) (entered h exec key t f vs) w

unfoldable mutual
  pub eval : ℕ → History → Eval
  eval zero h env e w = Over (OutOfFuel w)
  eval (suc n) h env e w = expr_of h (eval n h) (call n h) env (out-CoreExpr e) (begun (out-CoreExpr e) w)

  pub exec : ℕ → History → Exec
  exec zero h env s w = Over (OutOfFuel w)
  exec (suc n) h env s w = stmt_of h (eval n h) (exec n h) (turn n h) (resume n h) env s (out-CoreStmt s) (stmt_begun (out-CoreStmt s) w)

  pub turn : ℕ → History → Exec
  turn zero h env s w = Over (OutOfFuel w)
  turn (suc n) h env s w = turn_of h (eval n h) (exec n h) (turn n h) env s (out-CoreStmt s) w

  pub resume : ℕ → History → Resume
  resume zero h env s at w = Over (OutOfFuel w)
  resume (suc n) h env s at w = resume_of (exec n h) (resume n h) env s at (out-CoreStmt s) w

  pub call : ℕ → History → Call
  call zero h key vs w = Over (OutOfFuel w)
  call (suc n) h key vs w = call_of h (exec n h) key vs (callee_of (version_at h w.count) key) w
