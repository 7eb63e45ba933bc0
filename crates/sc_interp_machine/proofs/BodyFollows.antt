-- What a body's pending work means before a step, what the step leaves means after it.
use Rattle.std.proofs.Common.{◌≡◌, ℕ, zero, suc, ◌==◌, ◌≤◌, Bool, true, false, List, [], ◌∷◌, ◌++◌, length, take, drop, Option, Some, None, arith, refl, sym, subst}
use Rattle.std.proofs.Math.Seq.{take-append_seam, drop-append_seam}
use Rattle.sc_types.specs.declared.ctype.CType.{CType}
use Rattle.sc_core.specs.declared.expression.CoreExpr.{CoreExpr}
use Rattle.sc_core.specs.declared.statement.AutoInit.{AutoInit}
use Rattle.sc_core.specs.declared.statement.AutoInit.TheVariants as piece
use Rattle.sc_core.specs.declared.statement.CoreStmt.{CoreStmt, out-CoreStmt}
use Rattle.sc_core.specs.declared.statement.CoreStmt.TheOpen.{CoreStmt-F}
use Rattle.sc_core.specs.declared.statement.SwitchLabel.{SwitchLabel}
use Rattle.sc_core.specs.Types.{type_of}
use Rattle.sc_meaning.specs.Values.{Value, scalar_size}
use Rattle.sc_meaning.specs.World.{World, Born, pass, Work, Begin, Declares, OpenBlock, tick}
use Rattle.sc_meaning.specs.Outcomes.{Outcome, Done, Over, Ending, and_then, went}
use Rattle.sc_meaning.specs.Violations.{bits}
use Rattle.sc_meaning.specs.Accesses.{tested, set_at}
use Rattle.sc_meaning.specs.Versions.{History}
use Rattle.sc_meaning.specs.Changes.{reached}
use Rattle.sc_meaning.specs.Expressions.{Env, Answer, Plain, Nothing, used, valued, automatic_in, either}
use Rattle.sc_meaning.specs.Statements.{label_next as next_label, holds, Way, Normal, Broke, Continued, Jumped, Returned, place_in, jumped_to, after_list, list_of, resume_of, ended, born_autos, block_autos, with_block, after_stmt, stmts_of, block_ended, block_with, block_of, id_of, initial_structure, initial, initials, condition, condition_at, optional, label_of, body_from, landed, after_switch, after_turn, discarded, discarded_if, first_of, turn_of, returned, stmt_of, stmt_begun}
use Rattle.sc_meaning.specs.Calls.{eval, exec, turn, resume}
use Rattle.sc_interp_machine.specs.Machine as expr
use Rattle.sc_interp_machine.specs.Means as past
use Rattle.sc_interp_machine.specs.Bodies.{Advanced, GoesOn, Lines, CallsOut, Leaves, Breaks, then_goes, whether, within, execs, turns, opened, enters, optional_next, first_next, return_next, stmt_next, holds_next, turn_next, tests, use_next, piece_next, pieces_next, body_next, landed_next, label_next, labels_next, resumed_next, jumped_next, rest_next, switch_next, goes_round, third_next, without_blocks, first_ids, item_next, way_next, expr_next, advance, goes_on, ran, ends}
use Rattle.sc_interp_machine.specs.declared.body.Use.{Use}
use Rattle.sc_interp_machine.specs.declared.body.Use.TheVariants.{Discard, Turns, Return, If, While, Repeat, For, Switch, Set, Copy}
use Rattle.sc_interp_machine.specs.declared.body.Pending.{Pending}
use Rattle.sc_interp_machine.specs.declared.body.Pending.TheVariants.{End, Rest, EndBlock, EndSwitch, Again, Check, Third}
use Rattle.sc_interp_machine.specs.declared.body.Doing.{Doing}
use Rattle.sc_interp_machine.specs.declared.body.Doing.TheVariants.{Within, Exec, Turn, Leave, Pieces, Labels}
use Rattle.sc_interp_machine.specs.BodyMeans.{tests_of, pieces_of, use_of, item_of, env_after, After, AfterUse, Means, Reached, Comes}
use Rattle.sc_interp_machine.proofs.Follows as below

-- less depth is asked for
pub weaker : (h : History) (n : ℕ) (ss : List Pending) (env : Env) (r out : Outcome Way) → After h (suc n) ss env r out → After h n ss env r out
weaker h n [] env r out p = p
weaker h n (i ∷ ss) env r out p = (p.0, omega (arith, p.1), weaker h n ss _ _ out p.2)

-- an end goes through all that is pending
pub over : (h : History) (n : ℕ) (ss : List Pending) (env : Env) (e : Ending) (out : Outcome Way) → After h n ss env (Over e) out → Over e ≡ out
over h n [] env e out p = p
over h n (i ∷ ss) env e out p = over h n ss _ e out p.2

-- the blocks of a block that was entered are the outer ones, and then its own
block_seam : (xs ys : List Born) (P : List Born → List Born → Type 0) → P xs ys → P (take (length xs) (xs ++ ys)) (drop (length xs) (xs ++ ys))
block_seam xs ys P p = rw (take-append_seam, drop-append_seam) p

module _ (h : History) (n : ℕ) (out : Outcome Way) where
  weak : (ss : List Pending) (env : Env) (r : Outcome Way) → After h (suc n) ss env r out → After h n ss env r out
  weak ss env r p = weaker h n ss env r out p

  -- one after another, either way they are put together
  grouped : {A B : Type 0} (ss : List Pending) (env : Env) (r : Outcome A) (f : A → World → Outcome B) (g : B → World → Outcome Way) → After h (suc n) ss env (and_then (and_then r f) g) out → After h (suc n) ss env (and_then r (λ a w. and_then (f a w) g)) out
  grouped ss env r f g p = below.regroup (λ r. After h (suc n) ss env r out) r f g p

  then_sim : {A : Type 0} (ss : List Pending) (env : Env) (r : Outcome A) (f : A → World → Outcome Way) (go : A → World → Advanced) → ((a : A) (w : World) → After h (suc n) ss env (f a w) out → Comes h n (go a w) out) → After h (suc n) ss env (and_then r f) out → Comes h n (then_goes r go) out
  then_sim ss env (Done a w) f go q p = q a w p
  then_sim ss env (Over e) f go q p = over h (suc n) ss env e out p

  -- a line is reached, and then it goes on
  lines_sim : (ss : List Pending) (env : Env) (r : Outcome (Unit {0})) (f : World → Outcome Way) (mode : Doing) (qs : List Pending) → ((w : World) → After h (suc n) ss env (f w) out → Means h n mode qs env w out) → After h (suc n) ss env (and_then r (λ _ w. f w)) out → Reached h n r mode qs env out
  lines_sim ss env (Done a w) f mode qs q p = q w p
  lines_sim ss env (Over e) f mode qs q p = over h (suc n) ss env e out p

  -- a whole expression begins
  within_sim : (m : ℕ) → n ≤ m → (u : Use) (e : CoreExpr) (ss : List Pending) (env : Env) (w : World) → After h (suc n) ss env (and_then (eval m h env e w) (use_of (eval m h) (exec m h) (turn m h) (resume m h) env u)) out → Means h n (within e u) ss env w out
  within_sim m le u e ss env w p = (eval m h env e w, (m, le, refl), (m, le, weak ss env _ p))

  -- a controlling expression
  condition_sim : (m : ℕ) (e : CoreExpr) (go : Bool → World → Outcome Way) (ss : List Pending) (env : Env) (w : World) → After h (suc n) ss env (and_then (condition (eval m h) env e w) go) out → After h (suc n) ss env (and_then (eval m h env e w) (λ a w. and_then (used a w) (λ v w. and_then (tested (type_of e) v w) go))) out
  condition_sim m e go ss env w p =
      grouped ss env (eval m h env e w) used (λ v w. and_then (tested (type_of e) v w) go) (grouped ss env (valued (eval m h) env e w) (tested (type_of e)) go p)

  control_sim : (m : ℕ) → n ≤ m → (l : ℕ) (e : CoreExpr) (go : Bool → World → Outcome Way) (u : Use) (ss : List Pending) (env : Env) (w : World) → ((w : World) → After h (suc n) ss env (and_then (eval m h env e w) (λ a w. and_then (used a w) (λ v w. and_then (tested (type_of e) v w) go))) out → After h (suc n) ss env (and_then (eval m h env e w) (use_of (eval m h) (exec m h) (turn m h) (resume m h) env u)) out) → After h (suc n) ss env (and_then (condition_at h (eval m h) env l e w) go) out → Comes h n (Lines l (within e u) ss env w) out
  control_sim m le l e go u ss env w same p =
      lines_sim ss env (reached h l w) (λ w. and_then (condition (eval m h) env e w) go) (within e u) ss
      (λ w p. within_sim m le u e ss env w (same w (condition_sim m e go ss env w p)))
      (grouped ss env (reached h l w) (λ _ w. condition (eval m h) env e w) go p)

  opened_sim : (m : ℕ) → n ≤ m → (s : CoreStmt) (b : ℕ) (qs : List CoreStmt) (ss : List Pending) (env : Env) (ids : List ℕ) (w : World) → After h (suc n) ss env (block_with (exec m h) (resume m h) env s b qs ids w) out → Comes h n (opened s b qs ss env ids w) out
  opened_sim m le s b qs ss env ids w p =
      let born : Born = record { block = b; ids = ids } in
      let P : List Born → List Born → Type 0 = λ xs ys. After h n ss (record env { blocks = xs }) (and_then (list_of (exec m h) (resume m h) (with_block env born) s qs (pass (OpenBlock born) w)) (block_ended (first_ids ys))) out in
      (m, le, (m, le, block_seam env.blocks (born ∷ []) P (weak ss env _ p)))

  enters_sim : (m : ℕ) → n ≤ m → (s : CoreStmt) (b : ℕ) (qs : List CoreStmt) (ss : List Pending) (env : Env) (w : World) → After h (suc n) ss env (block_of (exec m h) (resume m h) env s b qs w) out → Comes h n (enters s b qs ss env w) out
  enters_sim m le s b qs ss env w p =
      then_sim ss env (born_autos (block_autos env b) [] w) (block_with (exec m h) (resume m h) env s b qs) (opened s b qs ss env) (λ ids w p. opened_sim m le s b qs ss env ids w p) p

  -- an answer that is tested
  either_sim : (yes : Bool) (ss : List Pending) (env : Env) (f g : World → Outcome Way) (go stop : World → Advanced) (w : World) → ((w : World) → After h (suc n) ss env (f w) out → Comes h n (go w) out) → ((w : World) → After h (suc n) ss env (g w) out → Comes h n (stop w) out) → After h (suc n) ss env (either yes f g w) out → Comes h n (whether yes go stop w) out
  either_sim true ss env f g go stop w p q r = p w r
  either_sim false ss env f g go stop w p q r = q w r

  tests_sim : (t : CType) (a : Answer) (ss : List Pending) (env : Env) (f g : World → Outcome Way) (go stop : World → Advanced) (w : World) → ((w : World) → After h (suc n) ss env (f w) out → Comes h n (go w) out) → ((w : World) → After h (suc n) ss env (g w) out → Comes h n (stop w) out) → After h (suc n) ss env (tests_of t a f g w) out → Comes h n (tests t a go stop w) out
  tests_sim t a ss env f g go stop w p q r =
      then_sim ss env (used a w) (λ v w. and_then (tested t v w) (λ yes w. either yes f g w)) (λ v w. then_goes (tested t v w) (λ yes w. whether yes go stop w))
      (λ v w r. then_sim ss env (tested t v w) (λ yes w. either yes f g w) (λ yes w. whether yes go stop w) (λ yes w r. either_sim yes ss env f g go stop w p q r) r) r

  optional_sim : (m : ℕ) → n ≤ m → (s : Option CoreStmt) (ss : List Pending) (env : Env) (w : World) → After h (suc n) ss env (and_then (optional (exec m h) env s w) ended) out → Comes h n (optional_next s (End ∷ ss) env w) out
  optional_sim m le None ss env w p = (m, le, weak ss env _ p)
  optional_sim m le (Some s) ss env w p = (m, le, (m, le, weak ss env _ p))

  if_sim : (m : ℕ) → n ≤ m → (yes : Bool) (q : CoreStmt) (s : Option CoreStmt) (ss : List Pending) (env : Env) (w : World) → After h (suc n) ss env (and_then (either yes (exec m h env q) (optional (exec m h) env s) w) ended) out → Comes h n (whether yes (execs q (End ∷ ss) env) (optional_next s (End ∷ ss) env) w) out
  if_sim m le true q s ss env w p = (m, le, (m, le, weak ss env _ p))
  if_sim m le false q s ss env w p = optional_sim m le s ss env w p

  use_sim : (m : ℕ) → n ≤ m → (u : Use) (a : Answer) (ss : List Pending) (env : Env) (w : World) → After h (suc n) ss env (use_of (eval m h) (exec m h) (turn m h) (resume m h) env u a w) out → Comes h n (use_next u a ss env w) out
  use_sim m le Discard a ss env w p = weak ss env _ p
  use_sim m le (Turns s) a ss env w p = (m, le, weak ss env _ p)
  use_sim m le Return a ss env w p =
      then_sim ss env (used a w) (λ v w. ended (Returned (Plain v)) w) _ (λ v w p. weak ss env _ p) p
  use_sim m le (If t q s) a ss env w p =
      then_sim ss env (used a w) (λ v w. and_then (tested t v w) (λ yes w. and_then (either yes (exec m h env q) (optional (exec m h) env s) w) ended)) (λ v w. then_goes (tested t v w) (λ yes w. whether yes (execs q (End ∷ ss) env) (optional_next s (End ∷ ss) env) w))
      (λ v w p. then_sim ss env (tested t v w) (λ yes w. and_then (either yes (exec m h env q) (optional (exec m h) env s) w) ended) (λ yes w. whether yes (execs q (End ∷ ss) env) (optional_next s (End ∷ ss) env) w) (λ yes w p. if_sim m le yes q s ss env w p) p) p
  use_sim m le (While t s q) a ss env w p =
      tests_sim t a ss env (λ w. and_then (exec m h env q w) (λ way w. after_turn way (turn m h env s) w)) (ended Normal) (execs q (Again s ∷ ss) env) (ends Normal ss env) w
      (λ w p. (m, le, (m, le, weak ss env _ p))) (λ w p. weak ss env _ p) p
  use_sim m le (Repeat t s) a ss env w p =
      tests_sim t a ss env (turn m h env s) (ended Normal) (turns s ss env) (ends Normal ss env) w
      (λ w p. (m, le, weak ss env _ p)) (λ w p. weak ss env _ p) p
  use_sim m le (For t s x q) a ss env w p =
      tests_sim t a ss env (λ w. and_then (exec m h env q w) (λ way w. after_turn way (λ w. and_then (discarded_if (eval m h) env x w) (λ _ w. turn m h env s w)) w)) (ended Normal) (execs q (Third x s ∷ ss) env) (ends Normal ss env) w
      (λ w p. (m, le, (m, le, weak ss env _ p))) (λ w p. weak ss env _ p) p
  use_sim m le (Switch labels s) a ss env w p =
      then_sim ss env (used a w) (λ v w. and_then (label_of labels (bits v) None w) (λ at w. and_then (landed (exec m h) (resume m h) env s at w) after_switch)) (λ v w. GoesOn (Labels labels (bits v) None s) ss env w)
      (λ v w p. (m, le, weak ss env _ p)) p
  use_sim m le (Set q at t is) a ss env w p =
      then_sim ss env (used a w) (λ v w. pieces_of (eval m h) env q is (pass (Work (scalar_size t)) (set_at q at (scalar_size t) v w))) (λ v w. GoesOn (Pieces q is) ss env (pass (Work (scalar_size t)) (set_at q at (scalar_size t) v w)))
      (λ v w p. (m, le, weak ss env _ p)) p
  use_sim m le (Copy q size is) a ss env w p =
      then_sim ss env (initial_structure q size a w) (λ _ w. pieces_of (eval m h) env q is w) (λ _ w. GoesOn (Pieces q is) ss env w)
      (λ _ w p. (m, le, weak ss env _ p)) p

  piece_sim : (m : ℕ) → n ≤ m → (q : Value) (i : AutoInit) (is : List AutoInit) (ss : List Pending) (env : Env) (w : World) → After h (suc n) ss env (and_then (initial (eval m h) env q i w) (λ _ w. pieces_of (eval m h) env q is w)) out → Comes h n (piece_next q i is ss env w) out
  piece_sim m le q (piece.Value at t e) is ss env w p =
      within_sim m le (Set q at t is) e ss env w
      (grouped ss env (eval m h env e w) used (λ v w. pieces_of (eval m h) env q is (pass (Work (scalar_size t)) (set_at q at (scalar_size t) v w)))
      (grouped ss env (valued (eval m h) env e w) (λ v w. went (pass (Work (scalar_size t)) (set_at q at (scalar_size t) v w))) (λ _ w. pieces_of (eval m h) env q is w) p))
  piece_sim m le q (piece.Text at bytes) is ss env w p = (m, le, weak ss env _ p)
  piece_sim m le q (piece.Zero at k) is ss env w p = (m, le, weak ss env _ p)
  piece_sim m le q (piece.Structure size e) is ss env w p =
      within_sim m le (Copy q size is) e ss env w (grouped ss env (eval m h env e w) (initial_structure q size) (λ _ w. pieces_of (eval m h) env q is w) p)

  pieces_sim : (m : ℕ) → n ≤ m → (q : Value) (is : List AutoInit) (ss : List Pending) (env : Env) (w : World) → After h (suc n) ss env (pieces_of (eval m h) env q is w) out → Comes h n (pieces_next q is ss env w) out
  pieces_sim m le q [] ss env w p = weak ss env _ p
  pieces_sim m le q (i ∷ is) ss env w p =
      piece_sim m le q i is ss env w (grouped ss env (initial (eval m h) env q i w) (λ _ w. initials (eval m h) env q is w) (λ _ w. Done Normal (tick w)) p)

  body_sim : (m : ℕ) → n ≤ m → (s : CoreStmt) (at : ℕ) (x : CoreStmt-F CoreStmt) (ss : List Pending) (env : Env) (w : World) → After h (suc n) ss env (and_then (body_from (exec m h) (resume m h) env s at x w) after_switch) out → Comes h n (body_next s at x (EndSwitch ∷ ss) env w) out
  body_sim m le s at (CoreStmt-F.Block l b ls qs) ss env w p = enters_sim m le s b (drop at qs) (EndSwitch ∷ ss) env (pass Begin w) (suc n, omega arith, p)
  body_sim m le s at (CoreStmt-F.Initialize l b i is) ss env w p = (m, le, (m, le, weak ss env _ p))
  body_sim m le s at (CoreStmt-F.Empty l) ss env w p = (m, le, (m, le, weak ss env _ p))
  body_sim m le s at (CoreStmt-F.Expression l e) ss env w p = (m, le, (m, le, weak ss env _ p))
  body_sim m le s at (CoreStmt-F.If l e a b) ss env w p = (m, le, (m, le, weak ss env _ p))
  body_sim m le s at (CoreStmt-F.Switch l e ls a) ss env w p = (m, le, (m, le, weak ss env _ p))
  body_sim m le s at (CoreStmt-F.While l e a) ss env w p = (m, le, (m, le, weak ss env _ p))
  body_sim m le s at (CoreStmt-F.Do l a k e) ss env w p = (m, le, (m, le, weak ss env _ p))
  body_sim m le s at (CoreStmt-F.For l f c x a) ss env w p = (m, le, (m, le, weak ss env _ p))
  body_sim m le s at (CoreStmt-F.Case l a) ss env w p = (m, le, (m, le, weak ss env _ p))
  body_sim m le s at (CoreStmt-F.Default l a) ss env w p = (m, le, (m, le, weak ss env _ p))
  body_sim m le s at (CoreStmt-F.Label l a) ss env w p = (m, le, (m, le, weak ss env _ p))
  body_sim m le s at (CoreStmt-F.Goto l k) ss env w p = (m, le, (m, le, weak ss env _ p))
  body_sim m le s at (CoreStmt-F.Continue l) ss env w p = (m, le, (m, le, weak ss env _ p))
  body_sim m le s at (CoreStmt-F.Break l) ss env w p = (m, le, (m, le, weak ss env _ p))
  body_sim m le s at (CoreStmt-F.Return l e) ss env w p = (m, le, (m, le, weak ss env _ p))

  landed_sim : (m : ℕ) → n ≤ m → (s : CoreStmt) (at : Option ℕ) (ss : List Pending) (env : Env) (w : World) → After h (suc n) ss env (and_then (landed (exec m h) (resume m h) env s at w) after_switch) out → Comes h n (landed_next s at (EndSwitch ∷ ss) env w) out
  landed_sim m le s None ss env w p = (m, le, weak ss env _ p)
  landed_sim m le s (Some at) ss env w p = body_sim m le s at (out-CoreStmt s) ss env w p

  labelled_sim : (m : ℕ) → n ≤ m → (yes : Bool) (at : ℕ) (ls : List SwitchLabel) (k : ℕ) (default : Option ℕ) (s : CoreStmt) (ss : List Pending) (env : Env) (w : World) → After h (suc n) ss env (and_then (either yes (Done (Some at)) (label_of ls k default) w) (λ at w. and_then (landed (exec m h) (resume m h) env s at w) after_switch)) out → Comes h n (whether yes (landed_next s (Some at) (EndSwitch ∷ ss) env) (GoesOn (Labels ls k default s) ss env) w) out
  labelled_sim m le true at ls k default s ss env w p = landed_sim m le s (Some at) ss env w p
  labelled_sim m le false at ls k default s ss env w p = (m, le, weak ss env _ p)

  label_sim : (m : ℕ) → n ≤ m → (value : Option ℕ) (at : ℕ) (ls : List SwitchLabel) (k : ℕ) (default : Option ℕ) (s : CoreStmt) (ss : List Pending) (env : Env) (w : World) → After h (suc n) ss env (and_then (next_label value at k default (label_of ls k) w) (λ at w. and_then (landed (exec m h) (resume m h) env s at w) after_switch)) out → Comes h n (label_next value at ls k default s ss env w) out
  label_sim m le None at ls k default s ss env w p = (m, le, weak ss env _ p)
  label_sim m le (Some v) at ls k default s ss env w p = labelled_sim m le (v == k) at ls k default s ss env (tick w) p

  labels_sim : (m : ℕ) → n ≤ m → (ls : List SwitchLabel) (k : ℕ) (default : Option ℕ) (s : CoreStmt) (ss : List Pending) (env : Env) (w : World) → After h (suc n) ss env (and_then (label_of ls k default w) (λ at w. and_then (landed (exec m h) (resume m h) env s at w) after_switch)) out → Comes h n (labels_next ls k default s ss env w) out
  labels_sim m le [] k default s ss env w p = landed_sim m le s default ss env w p
  labels_sim m le (l ∷ ls) k default s ss env w p = label_sim m le l.value l.at ls k default s ss env w p

  -- a jump inside an open block
  resumed_sim : (m : ℕ) → n ≤ m → (s : CoreStmt) (at : ℕ) (x : CoreStmt-F CoreStmt) (ss : List Pending) (env : Env) (w : World) → After h (suc n) ss env (resume_of (exec m h) (resume m h) env s at x w) out → Comes h n (resumed_next s at x ss env w) out
  resumed_sim m le s at (CoreStmt-F.Block l b ls qs) ss env w p = (m, le, weak ss env _ p)
  resumed_sim m le s at (CoreStmt-F.Initialize l b i is) ss env w p = weak ss env _ p
  resumed_sim m le s at (CoreStmt-F.Empty l) ss env w p = weak ss env _ p
  resumed_sim m le s at (CoreStmt-F.Expression l e) ss env w p = weak ss env _ p
  resumed_sim m le s at (CoreStmt-F.If l e a b) ss env w p = weak ss env _ p
  resumed_sim m le s at (CoreStmt-F.Switch l e ls a) ss env w p = weak ss env _ p
  resumed_sim m le s at (CoreStmt-F.While l e a) ss env w p = weak ss env _ p
  resumed_sim m le s at (CoreStmt-F.Do l a k e) ss env w p = weak ss env _ p
  resumed_sim m le s at (CoreStmt-F.For l f c x a) ss env w p = weak ss env _ p
  resumed_sim m le s at (CoreStmt-F.Case l a) ss env w p = weak ss env _ p
  resumed_sim m le s at (CoreStmt-F.Default l a) ss env w p = weak ss env _ p
  resumed_sim m le s at (CoreStmt-F.Label l a) ss env w p = weak ss env _ p
  resumed_sim m le s at (CoreStmt-F.Goto l k) ss env w p = weak ss env _ p
  resumed_sim m le s at (CoreStmt-F.Continue l) ss env w p = weak ss env _ p
  resumed_sim m le s at (CoreStmt-F.Break l) ss env w p = weak ss env _ p
  resumed_sim m le s at (CoreStmt-F.Return l e) ss env w p = weak ss env _ p

  resume_sim : (m : ℕ) → suc n ≤ m → (s : CoreStmt) (at : ℕ) (ss : List Pending) (env : Env) (w : World) → After h (suc n) ss env (resume m h env s at w) out → Comes h n (resumed_next s at (out-CoreStmt s) ss env w) out
  unfolding eval
  resume_sim zero le s at ss env w p = absurd (omega arith)
  resume_sim (suc m) le s at ss env w p = resumed_sim m (omega arith) s at (out-CoreStmt s) ss env w p

  jumped_sim : (m : ℕ) → suc n ≤ m → (s : CoreStmt) (k : ℕ) (at : Option ℕ) (ss : List Pending) (env : Env) (w : World) → After h (suc n) ss env (jumped_to (resume m h) env s k at w) out → Comes h n (jumped_next s k at ss env w) out
  jumped_sim m le s k None ss env w p = weak ss env _ p
  jumped_sim m le s k (Some at) ss env w p = resume_sim m le s at ss env w p

  rest_sim : (m : ℕ) → suc n ≤ m → (way : Way) (s : CoreStmt) (qs : List CoreStmt) (ss : List Pending) (env : Env) (w : World) → After h (suc n) ss env (and_then (after_stmt way (stmts_of (exec m h) env qs) w) (after_list (resume m h) env s)) out → Comes h n (rest_next way s qs ss env w) out
  rest_sim m le Normal s [] ss env w p = weak ss env _ p
  rest_sim m le Normal s (q ∷ qs) ss env w p =
      (m, omega arith, (m, omega arith, weak ss env _ (grouped ss env (exec m h env q w) (λ way w. after_stmt way (stmts_of (exec m h) env qs) w) (after_list (resume m h) env s) p)))
  rest_sim m le Broke s qs ss env w p = weak ss env _ p
  rest_sim m le Continued s qs ss env w p = weak ss env _ p
  rest_sim m le (Jumped k) s qs ss env w p = jumped_sim m le s k (place_in k (out-CoreStmt s)) ss env w p
  rest_sim m le (Returned a) s qs ss env w p = weak ss env _ p

  switch_sim : (way : Way) (ss : List Pending) (env : Env) (w : World) → After h (suc n) ss env (after_switch way w) out → Comes h n (switch_next way ss env w) out
  switch_sim Normal ss env w p = weak ss env _ p
  switch_sim Broke ss env w p = weak ss env _ p
  switch_sim Continued ss env w p = weak ss env _ p
  switch_sim (Jumped k) ss env w p = weak ss env _ p
  switch_sim (Returned a) ss env w p = weak ss env _ p

  round_sim : (way : Way) (ss : List Pending) (env : Env) (f : World → Outcome Way) (go : World → Advanced) (w : World) → ((w : World) → After h (suc n) ss env (f w) out → Comes h n (go w) out) → After h (suc n) ss env (after_turn way f w) out → Comes h n (goes_round way go ss env w) out
  round_sim Normal ss env f go w q p = q w p
  round_sim Continued ss env f go w q p = q w p
  round_sim Broke ss env f go w q p = weak ss env _ p
  round_sim (Jumped k) ss env f go w q p = weak ss env _ p
  round_sim (Returned a) ss env f go w q p = weak ss env _ p

  third_sim : (m : ℕ) → n ≤ m → (x : Option CoreExpr) (s : CoreStmt) (ss : List Pending) (env : Env) (w : World) → After h (suc n) ss env (and_then (discarded_if (eval m h) env x w) (λ _ w. turn m h env s w)) out → Comes h n (third_next x s ss env w) out
  third_sim m le None s ss env w p = (m, le, weak ss env _ p)
  third_sim m le (Some e) s ss env w p = within_sim m le (Turns s) e ss env w (grouped ss env (eval m h env e w) (λ _ w. went w) (λ _ w. turn m h env s w) p)

  item_sim : (m : ℕ) → suc n ≤ m → (i : Pending) (way : Way) (ss : List Pending) (env : Env) (w : World) → After h (suc n) ss (env_after i env) (item_of h (eval m h) (exec m h) (turn m h) (resume m h) env i way w) out → Comes h n (item_next i way ss env w) out
  item_sim m le End way ss env w p = weak ss env _ p
  item_sim m le (Rest s qs) way ss env w p = rest_sim m le way s qs ss env w p
  item_sim m le (EndBlock k) way ss env w p = weak ss (without_blocks k env) _ p
  item_sim m le EndSwitch way ss env w p = switch_sim way ss env w p
  item_sim m le (Again s) way ss env w p = round_sim way ss env (turn m h env s) (turns s ss env) w (λ w p. (m, omega arith, weak ss env _ p)) p
  item_sim m le (Check l e s) way ss env w p =
      round_sim way ss env (λ w. and_then (condition_at h (eval m h) env l e w) (λ yes w. either yes (turn m h env s) (ended Normal) w)) (λ w. Lines l (within e (Repeat (type_of e) s)) ss env w) w
      (λ w p. control_sim m (omega arith) l e (λ yes w. either yes (turn m h env s) (ended Normal) w) (Repeat (type_of e) s) ss env w (λ w p. p) p) p
  item_sim m le (Third x s) way ss env w p =
      round_sim way ss env (λ w. and_then (discarded_if (eval m h) env x w) (λ _ w. turn m h env s w)) (third_next x s ss env) w (λ w p. third_sim m (omega arith) x s ss env w p) p

  way_sim : (ss : List Pending) (way : Way) (env : Env) (w : World) → After h (suc n) ss env (Done way w) out → Comes h n (way_next ss way env w) out
  way_sim [] way env w p = p
  way_sim (i ∷ ss) way env w p = item_sim p.0 p.1 i way ss env w p.2

  first_sim : (m : ℕ) → n ≤ m → (l : ℕ) (f : Option CoreExpr) (s : CoreStmt) (ss : List Pending) (env : Env) (w : World) → After h (suc n) ss env (and_then (first_of h (eval m h) env l f w) (λ _ w. turn m h env s w)) out → Comes h n (first_next l f s ss env w) out
  first_sim m le l None s ss env w p = (m, le, weak ss env _ p)
  first_sim m le l (Some e) s ss env w p =
      lines_sim ss env (reached h l w) (λ w. and_then (discarded (eval m h) env e w) (λ _ w. turn m h env s w)) (within e (Turns s)) ss
      (λ w p. within_sim m le (Turns s) e ss env w (grouped ss env (eval m h env e w) (λ _ w. went w) (λ _ w. turn m h env s w) p))
      (grouped ss env (reached h l w) (λ _ w. discarded (eval m h) env e w) (λ _ w. turn m h env s w) p)

  return_sim : (m : ℕ) → n ≤ m → (l : ℕ) (e : Option CoreExpr) (ss : List Pending) (env : Env) (w : World) → After h (suc n) ss env (returned h (eval m h) env l e w) out → Comes h n (return_next l e ss env w) out
  return_sim m le l None ss env w p = lines_sim ss env (reached h l w) (ended (Returned Nothing)) _ _ (λ w p. (m, le, weak ss env _ p)) p
  return_sim m le l (Some e) ss env w p =
      lines_sim ss env (reached h l w) (λ w. and_then (valued (eval m h) env e w) (λ v w. ended (Returned (Plain v)) w)) (within e Return) ss
      (λ w p. within_sim m le Return e ss env w (grouped ss env (eval m h env e w) used (λ v w. ended (Returned (Plain v)) w) p)) p

  -- a line, and then the statement's end
  jump_sim : (m : ℕ) → n ≤ m → (l : ℕ) (way : Way) (ss : List Pending) (env : Env) (w : World) → After h (suc n) ss env (and_then (reached h l w) (λ _ w. ended way w)) out → Comes h n (Lines l (Leave way) (End ∷ ss) env w) out
  jump_sim m le l way ss env w p = lines_sim ss env (reached h l w) (ended way) (Leave way) (End ∷ ss) (λ w p. (m, le, weak ss env _ p)) p

  stmt_sim : (m : ℕ) → n ≤ m → (s : CoreStmt) (x : CoreStmt-F CoreStmt) (ss : List Pending) (env : Env) (w : World) → After h (suc n) ss env (stmt_of h (eval m h) (exec m h) (turn m h) (resume m h) env s x w) out → Comes h n (stmt_next s x ss env w) out
  stmt_sim m le s (CoreStmt-F.Block l b ls qs) ss env w p = enters_sim m le s b qs ss env w p
  stmt_sim m le s (CoreStmt-F.Initialize l b i is) ss env w p =
      let q : Value = automatic_in env.blocks b i in
      lines_sim ss env (reached h l (pass (Declares (id_of q)) w)) (λ w. pieces_of (eval m h) env q is w) (Pieces q is) ss (λ w p. (m, le, weak ss env _ p)) p
  stmt_sim m le s (CoreStmt-F.Empty l) ss env w p = jump_sim m le l Normal ss env w p
  stmt_sim m le s (CoreStmt-F.Expression l e) ss env w p =
      lines_sim ss env (reached h l w) (λ w. and_then (discarded (eval m h) env e w) (λ _ w. ended Normal w)) (within e Discard) ss
      (λ w p. within_sim m le Discard e ss env w (grouped ss env (eval m h env e w) (λ _ w. went w) (λ _ w. ended Normal w) p)) p
  stmt_sim m le s (CoreStmt-F.If l e a b) ss env w p =
      control_sim m le l e (λ yes w. and_then (either yes (exec m h env a) (optional (exec m h) env b) w) ended) (If (type_of e) a b) ss env w (λ w p. p) p
  stmt_sim m le s (CoreStmt-F.Switch l e ls a) ss env w p =
      lines_sim ss env (reached h l w) (λ w. and_then (valued (eval m h) env e w) (λ v w. and_then (label_of ls (bits v) None w) (λ at w. and_then (landed (exec m h) (resume m h) env a at w) after_switch))) (within e (Switch ls a)) ss
      (λ w p. within_sim m le (Switch ls a) e ss env w (grouped ss env (eval m h env e w) used (λ v w. and_then (label_of ls (bits v) None w) (λ at w. and_then (landed (exec m h) (resume m h) env a at w) after_switch)) p)) p
  stmt_sim m le s (CoreStmt-F.While l e a) ss env w p = (m, le, weak ss env _ p)
  stmt_sim m le s (CoreStmt-F.Do l a k e) ss env w p = (m, le, weak ss env _ p)
  stmt_sim m le s (CoreStmt-F.For l f c x a) ss env w p = first_sim m le l f s ss env w p
  stmt_sim m le s (CoreStmt-F.Case l a) ss env w p = (m, le, (m, le, weak ss env _ p))
  stmt_sim m le s (CoreStmt-F.Default l a) ss env w p = (m, le, (m, le, weak ss env _ p))
  stmt_sim m le s (CoreStmt-F.Label l a) ss env w p = (m, le, (m, le, weak ss env _ p))
  stmt_sim m le s (CoreStmt-F.Goto l k) ss env w p = jump_sim m le l (Jumped k) ss env w p
  stmt_sim m le s (CoreStmt-F.Continue l) ss env w p = jump_sim m le l Continued ss env w p
  stmt_sim m le s (CoreStmt-F.Break l) ss env w p = jump_sim m le l Broke ss env w p
  stmt_sim m le s (CoreStmt-F.Return l e) ss env w p = return_sim m le l e ss env w p

  holds_sim : (m : ℕ) → n ≤ m → (l : ℕ) (c x : Option CoreExpr) (s a : CoreStmt) (ss : List Pending) (env : Env) (w : World) → After h (suc n) ss env (and_then (holds h (eval m h) env l c w) (λ yes w. either yes (λ w. and_then (exec m h env a w) (λ way w. after_turn way (λ w. and_then (discarded_if (eval m h) env x w) (λ _ w. turn m h env s w)) w)) (ended Normal) w)) out → Comes h n (holds_next l c x s a ss env w) out
  holds_sim m le l None x s a ss env w p = (m, le, (m, le, weak ss env _ p))
  holds_sim m le l (Some e) x s a ss env w p =
      control_sim m le l e (λ yes w. either yes (λ w. and_then (exec m h env a w) (λ way w. after_turn way (λ w. and_then (discarded_if (eval m h) env x w) (λ _ w. turn m h env s w)) w)) (ended Normal) w) (For (type_of e) s x a) ss env w (λ w p. p) p

  turn_sim : (m : ℕ) → n ≤ m → (s : CoreStmt) (x : CoreStmt-F CoreStmt) (ss : List Pending) (env : Env) (w : World) → After h (suc n) ss env (turn_of h (eval m h) (exec m h) (turn m h) env s x w) out → Comes h n (turn_next s x ss env w) out
  turn_sim m le s (CoreStmt-F.While l e a) ss env w p =
      control_sim m le l e (λ yes w. either yes (λ w. and_then (exec m h env a w) (λ way w. after_turn way (turn m h env s) w)) (ended Normal) w) (While (type_of e) s a) ss env w (λ w p. p) p
  turn_sim m le s (CoreStmt-F.Do l a k e) ss env w p = (m, le, (m, le, weak ss env _ p))
  turn_sim m le s (CoreStmt-F.For l f c x a) ss env w p = holds_sim m le l c x s a ss env w p
  turn_sim m le s (CoreStmt-F.Block l b ls qs) ss env w p = weak ss env _ p
  turn_sim m le s (CoreStmt-F.Initialize l b i is) ss env w p = weak ss env _ p
  turn_sim m le s (CoreStmt-F.Empty l) ss env w p = weak ss env _ p
  turn_sim m le s (CoreStmt-F.Expression l e) ss env w p = weak ss env _ p
  turn_sim m le s (CoreStmt-F.If l e a b) ss env w p = weak ss env _ p
  turn_sim m le s (CoreStmt-F.Switch l e ls a) ss env w p = weak ss env _ p
  turn_sim m le s (CoreStmt-F.Case l a) ss env w p = weak ss env _ p
  turn_sim m le s (CoreStmt-F.Default l a) ss env w p = weak ss env _ p
  turn_sim m le s (CoreStmt-F.Label l a) ss env w p = weak ss env _ p
  turn_sim m le s (CoreStmt-F.Goto l k) ss env w p = weak ss env _ p
  turn_sim m le s (CoreStmt-F.Continue l) ss env w p = weak ss env _ p
  turn_sim m le s (CoreStmt-F.Break l) ss env w p = weak ss env _ p
  turn_sim m le s (CoreStmt-F.Return l e) ss env w p = weak ss env _ p

  exec_sim : (m : ℕ) → suc n ≤ m → (s : CoreStmt) (ss : List Pending) (env : Env) (w : World) → After h (suc n) ss env (exec m h env s w) out → Comes h n (advance (Exec s) ss env w) out
  unfolding eval
  exec_sim zero le s ss env w p = absurd (omega arith)
  exec_sim (suc m) le s ss env w p = stmt_sim m (omega arith) s (out-CoreStmt s) ss env (stmt_begun (out-CoreStmt s) w) p

  turns_sim : (m : ℕ) → suc n ≤ m → (s : CoreStmt) (ss : List Pending) (env : Env) (w : World) → After h (suc n) ss env (turn m h env s w) out → Comes h n (advance (Turn s) ss env w) out
  unfolding eval
  turns_sim zero le s ss env w p = absurd (omega arith)
  turns_sim (suc m) le s ss env w p = turn_sim m (omega arith) s (out-CoreStmt s) ss env w p

  -- a step within an expression
  expr_sim : (a : expr.Advanced) (r : Outcome Answer) (u : Use) (ss : List Pending) (env : Env) → past.Comes h env n a r → AfterUse h (suc n) u ss env r out → Comes h n (expr_next a u ss env) out
  expr_sim (expr.GoesOn mode is w) r u ss env c p = (r, c, (p.0, omega (arith, p.1), weak ss env _ p.2))
  expr_sim (expr.CallsOut t v vs is w) r u ss env c p = (r, c, (p.0, omega (arith, p.1), weak ss env _ p.2))
  expr_sim (expr.Gives a w) r u ss env c p =
      use_sim p.0 (omega (arith, p.1)) u a ss env w (subst (λ q. After h (suc n) ss env (and_then q (use_of (eval p.0 h) (exec p.0 h) (turn p.0 h) (resume p.0 h) env u)) out) (sym c) p.2)
  expr_sim (expr.Breaks e) r u ss env c p =
      over h (suc n) ss env e out (subst (λ q. After h (suc n) ss env (and_then q (use_of (eval p.0 h) (exec p.0 h) (turn p.0 h) (resume p.0 h) env u)) out) (sym c) p.2)

-- what is pending means after a step what it meant before it
pub follows : (h : History) (n : ℕ) (mode : Doing) (ss : List Pending) (env : Env) (w : World) (out : Outcome Way) → Means h (suc n) mode ss env w out → Comes h n (advance mode ss env w) out
follows h n (Within mode is u) ss env w out p = expr_sim h n out (expr.advance env mode is w) p.0 u ss env (below.follows h env n mode is w p.0 p.1) p.2
follows h n (Exec s) ss env w out p = exec_sim h n out p.0 p.1 s ss env w p.2
follows h n (Turn s) ss env w out p = turns_sim h n out p.0 p.1 s ss env w p.2
follows h n (Leave way) ss env w out p = way_sim h n out ss way env w p
follows h n (Pieces q is) ss env w out p = pieces_sim h n out p.0 (omega (arith, p.1)) q is ss env w p.2
follows h n (Labels ls k default s) ss env w out p = labels_sim h n out p.0 (omega (arith, p.1)) ls k default s ss env w p.2

-- a body begins as its meaning at every bound that is deep enough
pub begins : (h : History) (env : Env) (n k : ℕ) (s : CoreStmt) (w : World) → n ≤ k → Means h n (Exec s) [] env w (exec k h env s w)
begins h env n k s w le = (k, le, refl)

-- less depth is asked of what is pending
pub after_use_weaker : (h : History) (n : ℕ) (u : Use) (ss : List Pending) (env : Env) (r : Outcome Answer) (out : Outcome Way) → AfterUse h (suc n) u ss env r out → AfterUse h n u ss env r out
after_use_weaker h n u ss env r out p = (p.0, omega (arith, p.1), weaker h n ss env _ out p.2)

pub means_weaker : (h : History) (n : ℕ) (mode : Doing) (ss : List Pending) (env : Env) (w : World) (out : Outcome Way) → Means h (suc n) mode ss env w out → Means h n mode ss env w out
means_weaker h n (Within mode is u) ss env w out p = (p.0, below.means_weaker h env n mode is w p.0 p.1, after_use_weaker h n u ss env p.0 out p.2)
means_weaker h n (Exec s) ss env w out p = (p.0, omega (arith, p.1), weaker h n ss env _ out p.2)
means_weaker h n (Turn s) ss env w out p = (p.0, omega (arith, p.1), weaker h n ss env _ out p.2)
means_weaker h n (Leave way) ss env w out p = weaker h n ss env _ out p
means_weaker h n (Pieces q is) ss env w out p = (p.0, omega (arith, p.1), weaker h n ss env _ out p.2)
means_weaker h n (Labels ls k default s) ss env w out p = (p.0, omega (arith, p.1), weaker h n ss env _ out p.2)

reached_weaker : (h : History) (n : ℕ) (r : Outcome (Unit {0})) (mode : Doing) (ss : List Pending) (env : Env) (out : Outcome Way) → Reached h (suc n) r mode ss env out → Reached h n r mode ss env out
reached_weaker h n (Done a w) mode ss env out p = means_weaker h n mode ss env w out p
reached_weaker h n (Over e) mode ss env out p = p

comes_weaker : (h : History) (n : ℕ) (a : Advanced) (out : Outcome Way) → Comes h (suc n) a out → Comes h n a out
comes_weaker h n (GoesOn mode ss env w) out p = means_weaker h n mode ss env w out p
comes_weaker h n (Lines l mode ss env w) out p = reached_weaker h n (reached h l w) mode ss env out p
comes_weaker h n (CallsOut t v vs is u ss env w) out p =
    (p.0, (p.1.0, omega (arith, p.1.1), below.weaker h env n is _ p.0 p.1.2), after_use_weaker h n u ss env p.0 out p.2)
comes_weaker h n (Leaves way w) out p = p
comes_weaker h n (Breaks e) out p = p

comes_least : (h : History) (k : ℕ) (a : Advanced) (out : Outcome Way) → Comes h k a out → Comes h 0 a out
comes_least h zero a out p = p
comes_least h (suc k) a out p = comes_least h k a out (comes_weaker h k a out p)

goes_on_sim : (h : History) (n : ℕ) (r : Outcome (Unit {0})) (mode : Doing) (ss : List Pending) (env : Env) (out : Outcome Way) → Reached h n r mode ss env out → Comes h n (goes_on r mode ss env) out
goes_on_sim h n (Done a w) mode ss env out p = p
goes_on_sim h n (Over e) mode ss env out p = p

-- so many steps take as much from the bound
pub ran_follows : (h : History) (k : ℕ) (a : Advanced) (out : Outcome Way) → Comes h k a out → Comes h 0 (ran k h a) out
ran_follows h zero a out p = p
ran_follows h (suc k) (GoesOn mode ss env w) out p = ran_follows h k (advance mode ss env w) out (follows h k mode ss env w out p)
ran_follows h (suc k) (Lines l mode ss env w) out p =
    ran_follows h k (goes_on (reached h l w) mode ss env) out (goes_on_sim h k (reached h l w) mode ss env out (reached_weaker h k (reached h l w) mode ss env out p))
ran_follows h (suc k) (CallsOut t v vs is u ss env w) out p = comes_least h (suc k) (CallsOut t v vs is u ss env w) out p
ran_follows h (suc k) (Leaves way w) out p = p
ran_follows h (suc k) (Breaks e) out p = p

-- what so many steps give the meaning gives at every bound of at least as much
pub leaves_meaning : (h : History) (env : Env) (k n : ℕ) (s : CoreStmt) (w v : World) (way : Way) → k ≤ n → ran k h (GoesOn (Exec s) [] env w) ≡ Leaves way v → exec n h env s w ≡ Done way v
leaves_meaning h env k n s w v way le p =
    sym (subst (λ b. Comes h 0 b (exec n h env s w)) p (ran_follows h k (GoesOn (Exec s) [] env w) (exec n h env s w) (n, le, refl)))

pub breaks_meaning : (h : History) (env : Env) (k n : ℕ) (s : CoreStmt) (w : World) (end : Ending) → k ≤ n → ran k h (GoesOn (Exec s) [] env w) ≡ Breaks end → exec n h env s w ≡ Over end
breaks_meaning h env k n s w end le p =
    sym (subst (λ b. Comes h 0 b (exec n h env s w)) p (ran_follows h k (GoesOn (Exec s) [] env w) (exec n h env s w) (n, le, refl)))
