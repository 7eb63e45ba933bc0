-- Each step of a body without work comes nearer to the next work.
use Rattle.std.proofs.Common.{◌≡◌, ℕ, zero, suc, ◌+◌, ◌*◌, ◌≤◌, ◌==◌, Bool, true, false, if◌then◌else◌, ◌||◌, List, [], ◌∷◌, drop, length, replicate, Option, Some, None, refl, arith}
use Rattle.sc_types.specs.declared.ctype.CType.{CType}
use Rattle.sc_core.specs.declared.expression.CoreExpr.{CoreExpr, out-CoreExpr}
use Rattle.sc_core.specs.declared.statement.AutoInit.{AutoInit}
use Rattle.sc_core.specs.declared.statement.AutoInit.TheVariants as piece
use Rattle.sc_core.specs.declared.statement.CoreStmt.{CoreStmt, out-CoreStmt}
use Rattle.sc_core.specs.declared.statement.CoreStmt.TheOpen.{CoreStmt-F}
use Rattle.sc_core.specs.declared.statement.SwitchLabel.{SwitchLabel}
use Rattle.sc_core.specs.Types.{type_of}
use Rattle.sc_meaning.specs.Values.{Value, scalar_size}
use Rattle.sc_meaning.specs.World.{World, Born, pass, Work, Begin, End as Ends, Declares, OpenBlock, CloseBlock, tick}
use Rattle.sc_meaning.specs.Outcomes.{Outcome, Done, Over, world_after}
use Rattle.sc_meaning.specs.Accesses.{set_at}
use Rattle.sc_meaning.specs.Expressions.{Env, Answer, Plain, used, automatic_in}
use Rattle.sc_meaning.specs.Statements.{Way, Normal, Broke, Continued, Jumped, Returned, place_in, born_autos, all_dead, block_autos, set_bytes, id_of, initial_structure, stmt_begun}
use Rattle.sc_meaning.proofs.Steps.{and_more}
use Rattle.sc_meaning.proofs.StatementsGo.{deaths_lead}
use Rattle.sc_meaning.specs.Accesses.{tested}
use Rattle.sc_interp_machine.specs.Machine as expr
use Rattle.sc_interp_machine.specs.Bodies.{Advanced, GoesOn, Lines, CallsOut, Leaves, Breaks, then_goes as then_next, whether, within, ends, execs, turns, opened, enters, optional_next, first_next, return_next, declares_next, stmt_next, holds_next, turn_next, tests, use_next, piece_next, pieces_next, body_next, landed_next, label_next, labels_next, resumed_next, jumped_next, rest_next, switch_next, goes_round, third_next, without_blocks, first_ids, item_next, way_next, expr_next, advance}
use Rattle.sc_interp_machine.specs.declared.body.Use.{Use}
use Rattle.sc_interp_machine.specs.declared.body.Use.TheVariants.{Discard, Turns, Return, If, While, Repeat, For, Switch, Set, Copy}
use Rattle.sc_interp_machine.specs.declared.body.Pending.{Pending}
use Rattle.sc_interp_machine.specs.declared.body.Pending.TheVariants.{End, Rest, EndBlock, EndSwitch, Again, Check, Third}
use Rattle.sc_interp_machine.specs.declared.body.Doing.{Doing}
use Rattle.sc_interp_machine.specs.declared.body.Doing.TheVariants.{Within, Exec, Turn, Leave, Pieces, Labels}
use Rattle.sc_interp_laws.specs.Paid.{done, is_default, has_default, default_credit, is_something, label_pays}
use Rattle.sc_interp_laws.specs.Lean.{AllOf, IfAny, Lean, LeanPiece, Once, stmt_level, LeanStmtTo, LeanStmt, LeanItems, LeanUse, LeanPending, ends_next, LeanPendings, LeanDoing}
use Rattle.sc_interp_laws.specs.Near.{begin_near, use_near, give_near, mode_near, rest_near, leave_near, doing_near, ExprNears, BodyNears}
use Rattle.sc_interp_laws.proofs.Works.{leads_work, pass_work, tick_work}
use Rattle.sc_interp_laws.proofs.BodySteps.{bytes_lead, autos_lead, structure_leads, set_and_work}
use Rattle.sc_interp_laws.proofs.ExprPays.{Keeps, used_keeps, tested_keeps}
use Rattle.sc_interp_laws.proofs.BodyPays.{bytes_more, begun_more}
use Rattle.sc_interp_laws.proofs.ExprNears.{begin_most}
use Rattle.sc_interp_laws.proofs.ExprNears as below

-- parts of lean statements are lean
all_lean : (qs : List CoreStmt) → ((n : ℕ) → AllOf (LeanStmtTo n) qs) → AllOf LeanStmt qs
all_lean [] p = tt
all_lean (q ∷ qs) p = (λ n. (p n).0, all_lean qs (λ n. (p n).1))

any_lean : (q : Option CoreStmt) → ((n : ℕ) → IfAny (LeanStmtTo n) q) → IfAny LeanStmt q
any_lean None p = tt
any_lean (Some q) p = p

drop_lean : (n : ℕ) (qs : List CoreStmt) → AllOf LeanStmt qs → AllOf LeanStmt (drop n qs)
drop_lean zero qs p = p
drop_lean (suc n) [] p = tt
drop_lean (suc n) (q ∷ qs) p = drop_lean n qs p.1

-- bounds
default_small : (b : Bool) → default_credit b ≤ 1
default_small true = omega arith
default_small false = omega arith

rest_most : (way : Way) → (2 ≤ rest_near way) × (rest_near way ≤ 3)
rest_most Normal = (omega arith, omega arith)
rest_most Broke = (omega arith, omega arith)
rest_most Continued = (omega arith, omega arith)
rest_most (Jumped k) = (omega arith, omega arith)
rest_most (Returned a) = (omega arith, omega arith)

pub leave_most : (way : Way) (ss : List Pending) → leave_near way ss ≤ 4
leave_most way [] = omega arith
leave_most way (End ∷ ss) = omega arith
leave_most way (Rest s qs ∷ ss) = let m : rest_near way ≤ 3 = (rest_most way).1 in omega (arith, m)
leave_most way (EndBlock k ∷ ss) = omega arith
leave_most way (EndSwitch ∷ ss) = omega arith
leave_most way (Again s ∷ ss) = omega arith
leave_most way (Check l e s ∷ ss) = omega arith
leave_most way (Third x s ∷ ss) = omega arith

pub use_most : (u : Use) → use_near u ≤ 4
use_most Discard = omega arith
use_most (Turns s) = omega arith
use_most Return = omega arith
use_most (If t q r) = omega arith
use_most (While t s q) = omega arith
use_most (Repeat t s) = omega arith
use_most (For t s x q) = omega arith
use_most (Switch labels s) = omega arith
use_most (Set p at t is) = omega arith
use_most (Copy p size is) = omega arith

use_least : (u : Use) → 1 ≤ use_near u
use_least Discard = omega arith
use_least (Turns s) = omega arith
use_least Return = omega arith
use_least (If t q r) = omega arith
use_least (While t s q) = omega arith
use_least (Repeat t s) = omega arith
use_least (For t s x q) = omega arith
use_least (Switch labels s) = omega arith
use_least (Set p at t is) = omega arith
use_least (Copy p size is) = omega arith

-- behind the rest of a block its end is near
end_near : (way : Way) (ss : List Pending) → ends_next ss ≡ true → leave_near way ss ≡ 1
end_near way [] e = absurd (cc)
end_near way (End ∷ ss) e = absurd (cc)
end_near way (Rest s qs ∷ ss) e = absurd (cc)
end_near way (EndBlock k ∷ ss) e = refl
end_near way (EndSwitch ∷ ss) e = absurd (cc)
end_near way (Again s ∷ ss) e = absurd (cc)
end_near way (Check l e s ∷ ss) f = absurd (cc)
end_near way (Third x s ∷ ss) e = absurd (cc)

pub nears_more : (k m u v : ℕ) (a : Advanced) → k + 8 * u ≤ m + 8 * v → BodyNears k v a → BodyNears m u a
nears_more k m u v (GoesOn mode ss env w) le h = let n = h.2 in (h.0, h.1, omega (arith, le, n))
nears_more k m u v (Lines l mode ss env w) le h = let n = h.2 in (h.0, h.1, omega (arith, le, n))
nears_more k m u v (CallsOut t f vs is x ss env w) le h = let n = h.3 in (h.0, h.1, h.2, omega (arith, le, n))
nears_more k m u v (Leaves way w) le h = omega (arith, le, h)
nears_more k m u v (Breaks e) le h = omega (arith, le, h)

then_nears : {A : Type 0} (k : ℕ) (w : World) (r : Outcome A) (go : A → World → Advanced) → 1 ≤ k → Keeps (done w) r → ((a : A) (v : World) → BodyNears k (done v) (go a v)) → BodyNears k (done w) (then_next r go)
then_nears k w (Done a v) go one h q = nears_more k k (done w) (done v) (go a v) (omega (arith, h)) (q a v)
then_nears k w (Over e) go one h q = omega (arith, one, h)

whether_nears : (k v : ℕ) (yes : Bool) (f g : World → Advanced) (w : World) → BodyNears k v (f w) → BodyNears k v (g w) → BodyNears k v (whether yes f g w)
whether_nears k v true f g w p q = p
whether_nears k v false f g w p q = q

-- a statement ends, which is work
ends_near : (k : ℕ) (way : Way) (ss : List Pending) (env : Env) (w : World) → LeanPendings ss → BodyNears k (done w) (ends way ss env w)
ends_near k way ss env w lp =
    let more : done (pass Ends w) ≡ done w + 1 = pass_work Ends w in
    let small : leave_near way ss ≤ 4 = leave_most way ss in
    (tt, lp, omega (arith, more, small))

line_near : (k l : ℕ) (e : CoreExpr) (u : Use) (ss : List Pending) (env : Env) (w : World) → 3 ≤ k → Lean e → LeanUse u → LeanPendings ss → BodyNears k (done w) (Lines l (within e u) ss env w)
line_near k l e u ss env w le p lu lp = let small : begin_near (out-CoreExpr e) ≤ 2 = begin_most (out-CoreExpr e) in (((p, λ c. refl), (tt, tt), lu), lp, omega (arith, le, small))

within_near : (k : ℕ) (e : CoreExpr) (u : Use) (ss : List Pending) (env : Env) (w : World) → 3 ≤ k → Lean e → LeanUse u → LeanPendings ss → BodyNears k (done w) (GoesOn (within e u) ss env w)
within_near k e u ss env w le p lu lp = let small : begin_near (out-CoreExpr e) ≤ 2 = begin_most (out-CoreExpr e) in (((p, λ c. refl), (tt, tt), lu), lp, omega (arith, le, small))

enters_near : (k : ℕ) (s : CoreStmt) (b : ℕ) (qs : List CoreStmt) (ss : List Pending) (env : Env) (w : World) → 3 ≤ k → LeanStmt s → AllOf LeanStmt qs → LeanPendings ss → BodyNears k (done w) (enters s b qs ss env w)
enters_near k s b qs ss env w le p ps lp =
    then_nears k w (born_autos (block_autos env b) [] w) (opened s b qs ss env) (omega (arith, le)) (leads_work w (world_after (born_autos (block_autos env b) [] w)) (autos_lead (block_autos env b) [] w)) (λ ids u.
    let born : Born = record { block = b; ids = ids } in
    let more : done (pass (OpenBlock born) u) ≡ done u + 0 = pass_work (OpenBlock born) u in
    (tt, (((p, ps), (tt, lp.0)), (refl, (tt, lp.1))), omega (arith, le, more)))

optional_near : (k : ℕ) (s : Option CoreStmt) (ss : List Pending) (env : Env) (w : World) → 2 ≤ k → IfAny LeanStmt s → LeanPendings ss → BodyNears k (done w) (optional_next s (End ∷ ss) env w)
optional_near k None ss env w le p lp = (tt, ((tt, lp.0), (tt, lp.1)), omega (arith, le))
optional_near k (Some s) ss env w le p lp = (p, ((tt, lp.0), (tt, lp.1)), omega (arith, le))

tests_near : (k : ℕ) (t : CType) (a : Answer) (f g : World → Advanced) (w : World) → 1 ≤ k → ((w : World) → BodyNears k (done w) (f w)) → ((w : World) → BodyNears k (done w) (g w)) → BodyNears k (done w) (tests t a f g w)
tests_near k t a f g w one p q =
    then_nears k w (used a w) _ one (used_keeps a w) (λ v u. then_nears k u (tested t v u) _ one (tested_keeps t v u) (λ yes z. whether_nears k (done z) yes f g z (p z) (q z)))

use_near_step : (u : Use) (a : Answer) (ss : List Pending) (env : Env) (w : World) → LeanUse u → LeanPendings ss → BodyNears (use_near u) (done w) (use_next u a ss env w)
use_near_step Discard a ss env w lu lp = ends_near 1 Normal ss env w lp
use_near_step (Turns s) a ss env w lu lp = (lu, lp, omega arith)
use_near_step Return a ss env w lu lp = then_nears 1 w (used a w) _ (omega arith) (used_keeps a w) (λ v u. ends_near 1 (Returned (Plain v)) ss env u lp)
use_near_step (If t q r) a ss env w lu lp = tests_near 2 t a (execs q (End ∷ ss) env) (optional_next r (End ∷ ss) env) w (omega arith) (λ z. (lu.0, ((tt, lp.0), (tt, lp.1)), omega arith)) (λ z. optional_near 2 r ss env z (omega arith) lu.1 lp)
use_near_step (While t s q) a ss env w lu lp = tests_near 2 t a (execs q (Again s ∷ ss) env) (ends Normal ss env) w (omega arith) (λ z. (lu.1, ((lu.0, lp.0), (tt, lp.1)), omega arith)) (λ z. ends_near 2 Normal ss env z lp)
use_near_step (Repeat t s) a ss env w lu lp = tests_near 4 t a (turns s ss env) (ends Normal ss env) w (omega arith) (λ z. (lu, lp, omega arith)) (λ z. ends_near 4 Normal ss env z lp)
use_near_step (For t s x q) a ss env w lu lp = tests_near 2 t a (execs q (Third x s ∷ ss) env) (ends Normal ss env) w (omega arith) (λ z. (lu.2, (((lu.1, lu.0), lp.0), (tt, lp.1)), omega arith)) (λ z. ends_near 2 Normal ss env z lp)
use_near_step (Switch labels s) a ss env w lu lp =
    then_nears 4 w (used a w) _ (omega arith) (used_keeps a w) (λ v u. let small : default_credit (has_default labels) ≤ 1 = default_small (has_default labels) in (lu, lp, omega (arith, small)))
use_near_step (Set p at t is) a ss env w lu lp =
    then_nears 4 w (used a w) _ (omega arith) (used_keeps a w) (λ v u.
    let x : World = pass (Work (scalar_size t)) (set_at p at (scalar_size t) v u) in
    let more : done u ≤ done x = leads_work u x (set_and_work p at t v u) in
    (lu, lp, omega (arith, more)))
use_near_step (Copy p size is) a ss env w lu lp =
    then_nears 4 w (initial_structure p size a w) _ (omega arith) (leads_work w (world_after (initial_structure p size a w)) (structure_leads p size a w)) (λ x u. (lu, lp, omega arith))

-- a statement, which has begun with work
first_near : (k l : ℕ) (f : Option CoreExpr) (s : CoreStmt) (ss : List Pending) (env : Env) (w : World) → 4 ≤ k → IfAny Lean f → LeanStmt s → LeanPendings ss → BodyNears k (done w) (first_next l f s ss env w)
first_near k l None s ss env w le p q lp = (q, lp, omega (arith, le))
first_near k l (Some e) s ss env w le p q lp = line_near k l e (Turns s) ss env w (omega (arith, le)) p q lp

return_near : (k l : ℕ) (e : Option CoreExpr) (ss : List Pending) (env : Env) (w : World) → 3 ≤ k → IfAny Lean e → LeanPendings ss → BodyNears k (done w) (return_next l e ss env w)
return_near k l None ss env w le p lp = (tt, ((tt, lp.0), (tt, lp.1)), omega (arith, le))
return_near k l (Some e) ss env w le p lp = line_near k l e Return ss env w le p tt lp

declares_near : (k l : ℕ) (p : Value) (pieces : List AutoInit) (ss : List Pending) (env : Env) (w : World) → 4 ≤ k → AllOf LeanPiece pieces → LeanPendings ss → BodyNears k (done w) (declares_next l p pieces ss env w)
declares_near k l p pieces ss env w le q lp =
    let more : done (pass (Declares (id_of p)) w) ≡ done w + 0 = pass_work (Declares (id_of p)) w in
    (q, lp, omega (arith, le, more))

stmt_near : (s : CoreStmt) (x : CoreStmt-F CoreStmt) (ss : List Pending) (env : Env) (w : World) → LeanStmt s → ((n : ℕ) → stmt_level (LeanStmtTo n) x) → LeanPendings ss → BodyNears 9 (done w) (stmt_next s x ss env w)
stmt_near s (CoreStmt-F.Block l b ls qs) ss env w p q lp = enters_near 9 s b qs ss env w (omega arith) p (all_lean qs q) lp
stmt_near s (CoreStmt-F.Initialize l b i pieces) ss env w p q lp = declares_near 9 l (automatic_in env.blocks b i) pieces ss env w (omega arith) (q 0) lp
stmt_near s (CoreStmt-F.Empty l) ss env w p q lp = (tt, ((tt, lp.0), (tt, lp.1)), omega arith)
stmt_near s (CoreStmt-F.Expression l e) ss env w p q lp = line_near 9 l e Discard ss env w (omega arith) (q 0) tt lp
stmt_near s (CoreStmt-F.If l e a b) ss env w p q lp = line_near 9 l e (If (type_of e) a b) ss env w (omega arith) (q 0).0 (λ n. (q n).1, any_lean b (λ n. (q n).2)) lp
stmt_near s (CoreStmt-F.Switch l e labels a) ss env w p q lp = line_near 9 l e (Switch labels a) ss env w (omega arith) (q 0).0 ((q 0).1, λ n. (q n).2) lp
stmt_near s (CoreStmt-F.While l e a) ss env w p q lp = (p, lp, omega arith)
stmt_near s (CoreStmt-F.Do l a m e) ss env w p q lp = (p, lp, omega arith)
stmt_near s (CoreStmt-F.For l f c x a) ss env w p q lp = first_near 9 l f s ss env w (omega arith) (q 0).0 p lp
stmt_near s (CoreStmt-F.Case l a) ss env w p q lp = (q, ((tt, lp.0), (tt, lp.1)), omega arith)
stmt_near s (CoreStmt-F.Default l a) ss env w p q lp = (q, ((tt, lp.0), (tt, lp.1)), omega arith)
stmt_near s (CoreStmt-F.Label l a) ss env w p q lp = (q, ((tt, lp.0), (tt, lp.1)), omega arith)
stmt_near s (CoreStmt-F.Goto l k) ss env w p q lp = (tt, ((tt, lp.0), (tt, lp.1)), omega arith)
stmt_near s (CoreStmt-F.Continue l) ss env w p q lp = (tt, ((tt, lp.0), (tt, lp.1)), omega arith)
stmt_near s (CoreStmt-F.Break l) ss env w p q lp = (tt, ((tt, lp.0), (tt, lp.1)), omega arith)
stmt_near s (CoreStmt-F.Return l e) ss env w p q lp = return_near 9 l e ss env w (omega arith) (q 0) lp

-- a turn of a loop
holds_near : (l : ℕ) (c x : Option CoreExpr) (s a : CoreStmt) (ss : List Pending) (env : Env) (w : World) → IfAny Lean c → IfAny Lean x → LeanStmt s → LeanStmt a → LeanPendings ss → BodyNears 3 (done w) (holds_next l c x s a ss env w)
holds_near l None x s a ss env w pc px ps pa lp = (pa, (((px, ps), lp.0), (tt, lp.1)), omega arith)
holds_near l (Some e) x s a ss env w pc px ps pa lp = line_near 3 l e (For (type_of e) s x a) ss env w (omega arith) pc (ps, px, pa) lp

turn_near : (s : CoreStmt) (x : CoreStmt-F CoreStmt) (ss : List Pending) (env : Env) (w : World) → LeanStmt s → ((n : ℕ) → stmt_level (LeanStmtTo n) x) → LeanPendings ss → BodyNears 3 (done w) (turn_next s x ss env w)
turn_near s (CoreStmt-F.While l e a) ss env w p q lp = line_near 3 l e (While (type_of e) s a) ss env w (omega arith) (q 0).0 (p, λ n. (q n).1) lp
turn_near s (CoreStmt-F.Do l a m e) ss env w p q lp = (λ n. (q n).0, ((((q 0).1, p), lp.0), (tt, lp.1)), omega arith)
turn_near s (CoreStmt-F.For l f c x a) ss env w p q lp = holds_near l c x s a ss env w (q 0).1 (q 0).2 p (λ n. (q n).3) lp
turn_near s (CoreStmt-F.Block l b ls qs) ss env w p q lp = ends_near 3 Normal ss env w lp
turn_near s (CoreStmt-F.Initialize l b i pieces) ss env w p q lp = ends_near 3 Normal ss env w lp
turn_near s (CoreStmt-F.Empty l) ss env w p q lp = ends_near 3 Normal ss env w lp
turn_near s (CoreStmt-F.Expression l e) ss env w p q lp = ends_near 3 Normal ss env w lp
turn_near s (CoreStmt-F.If l e a b) ss env w p q lp = ends_near 3 Normal ss env w lp
turn_near s (CoreStmt-F.Switch l e labels a) ss env w p q lp = ends_near 3 Normal ss env w lp
turn_near s (CoreStmt-F.Case l a) ss env w p q lp = ends_near 3 Normal ss env w lp
turn_near s (CoreStmt-F.Default l a) ss env w p q lp = ends_near 3 Normal ss env w lp
turn_near s (CoreStmt-F.Label l a) ss env w p q lp = ends_near 3 Normal ss env w lp
turn_near s (CoreStmt-F.Goto l k) ss env w p q lp = ends_near 3 Normal ss env w lp
turn_near s (CoreStmt-F.Continue l) ss env w p q lp = ends_near 3 Normal ss env w lp
turn_near s (CoreStmt-F.Break l) ss env w p q lp = ends_near 3 Normal ss env w lp
turn_near s (CoreStmt-F.Return l e) ss env w p q lp = ends_near 3 Normal ss env w lp

-- the pieces of an initialiser
piece_near : (p : Value) (i : AutoInit) (is : List AutoInit) (ss : List Pending) (env : Env) (w : World) → LeanPiece i → AllOf LeanPiece is → LeanPendings ss → BodyNears 3 (done w) (piece_next p i is ss env w)
piece_near p (piece.Value at t e) is ss env w z zs lp = within_near 3 e (Set p at t is) ss env w (omega arith) z.1 zs lp
piece_near p (piece.Text at []) is ss env w z zs lp = let f = z.0 in absurd (cc)
piece_near p (piece.Text at (b ∷ bs)) is ss env w z zs lp =
    let more : done w + 1 ≤ done (set_bytes (id_of p) at (b ∷ bs) w) = bytes_more (id_of p) at b bs w in
    (zs, lp, omega (arith, more))
piece_near p (piece.Zero at zero) is ss env w z zs lp = let f = z.0 in absurd (cc)
piece_near p (piece.Zero at (suc n)) is ss env w z zs lp =
    let more : done w + 1 ≤ done (set_bytes (id_of p) at (0 ∷ replicate n 0) w) = bytes_more (id_of p) at 0 (replicate n 0) w in
    (zs, lp, omega (arith, more))
piece_near p (piece.Structure size e) is ss env w z zs lp = within_near 3 e (Copy p size is) ss env w (omega arith) z.1 zs lp

pieces_near : (p : Value) (is : List AutoInit) (ss : List Pending) (env : Env) (w : World) → AllOf LeanPiece is → LeanPendings ss → BodyNears 3 (done w) (pieces_next p is ss env w)
pieces_near p [] ss env w z lp =
    let more : done (tick w) ≡ done w + 1 = tick_work w in
    let small : leave_near Normal ss ≤ 4 = leave_most Normal ss in
    (tt, lp, omega (arith, more, small))
pieces_near p (i ∷ is) ss env w z lp = piece_near p i is ss env w z.0 z.1 lp

-- the labels of a `switch`
body_near : (k : ℕ) (s : CoreStmt) (at : ℕ) (x : CoreStmt-F CoreStmt) (ss : List Pending) (env : Env) (w : World) → 2 ≤ k → LeanStmt s → ((n : ℕ) → stmt_level (LeanStmtTo n) x) → LeanPendings ss → BodyNears k (done w) (body_next s at x ss env w)
body_near k s at (CoreStmt-F.Block l b ls qs) ss env w le p q lp =
    let v : World = pass Begin w in
    let more : done v ≡ done w + 1 = pass_work Begin w in
    nears_more 3 k (done w) (done v) (enters s b (drop at qs) ss env v) (omega (arith, le, more)) (enters_near 3 s b (drop at qs) ss env v (omega arith) p (drop_lean at qs (all_lean qs q)) lp)
body_near k s at (CoreStmt-F.Initialize l b i pieces) ss env w le p q lp = (p, lp, omega (arith, le))
body_near k s at (CoreStmt-F.Empty l) ss env w le p q lp = (p, lp, omega (arith, le))
body_near k s at (CoreStmt-F.Expression l e) ss env w le p q lp = (p, lp, omega (arith, le))
body_near k s at (CoreStmt-F.If l e a b) ss env w le p q lp = (p, lp, omega (arith, le))
body_near k s at (CoreStmt-F.Switch l e labels a) ss env w le p q lp = (p, lp, omega (arith, le))
body_near k s at (CoreStmt-F.While l e a) ss env w le p q lp = (p, lp, omega (arith, le))
body_near k s at (CoreStmt-F.Do l a m e) ss env w le p q lp = (p, lp, omega (arith, le))
body_near k s at (CoreStmt-F.For l f c x a) ss env w le p q lp = (p, lp, omega (arith, le))
body_near k s at (CoreStmt-F.Case l a) ss env w le p q lp = (p, lp, omega (arith, le))
body_near k s at (CoreStmt-F.Default l a) ss env w le p q lp = (p, lp, omega (arith, le))
body_near k s at (CoreStmt-F.Label l a) ss env w le p q lp = (p, lp, omega (arith, le))
body_near k s at (CoreStmt-F.Goto l j) ss env w le p q lp = (p, lp, omega (arith, le))
body_near k s at (CoreStmt-F.Continue l) ss env w le p q lp = (p, lp, omega (arith, le))
body_near k s at (CoreStmt-F.Break l) ss env w le p q lp = (p, lp, omega (arith, le))
body_near k s at (CoreStmt-F.Return l e) ss env w le p q lp = (p, lp, omega (arith, le))

landed_near : (k : ℕ) (s : CoreStmt) (at : Option ℕ) (ss : List Pending) (env : Env) (w : World) → 2 ≤ k → LeanStmt s → LeanPendings ss → BodyNears k (done w) (landed_next s at (EndSwitch ∷ ss) env w)
landed_near k s None ss env w le p lp = (tt, ((tt, lp.0), (tt, lp.1)), omega (arith, le))
landed_near k s (Some at) ss env w le p lp = body_near k s at (out-CoreStmt s) (EndSwitch ∷ ss) env w le p (λ n. p (suc n)) ((tt, lp.0), (tt, lp.1))

none_more : (b : Bool) → (if b then false else true) ≡ true → default_credit b ≡ 0
none_more true z = absurd (cc)
none_more false z = refl

label_near : (o : Option ℕ) (at : ℕ) (ls : List SwitchLabel) (n : ℕ) (default : Option ℕ) (s : CoreStmt) (ss : List Pending) (env : Env) (w : World) → (if is_default o then (if has_default ls then false else true) else true) ≡ true → Once ls → LeanStmt s → LeanPendings ss → BodyNears (2 + default_credit (is_default o || has_default ls)) (done w) (label_next o at ls n default s ss env w)
label_near None at ls n default s ss env w z once p lp = let none : default_credit (has_default ls) ≡ 0 = none_more (has_default ls) z in ((once, p), lp, omega (arith, none))
label_near (Some v) at ls n default s ss env w z once p lp =
    let u : World = tick w in
    let more : done u ≡ done w + 1 = tick_work w in
    let small : default_credit (has_default ls) ≤ 1 = default_small (has_default ls) in
    nears_more 8 (2 + default_credit (has_default ls)) (done w) (done u) (whether (v == n) (landed_next s (Some at) (EndSwitch ∷ ss) env) (GoesOn (Labels ls n default s) ss env) u) (omega (arith, more))
    (whether_nears 8 (done u) (v == n) (landed_next s (Some at) (EndSwitch ∷ ss) env) (GoesOn (Labels ls n default s) ss env) u (landed_near 8 s (Some at) ss env u (omega arith) p lp) ((once, p), lp, omega (arith, small)))

labels_near : (ls : List SwitchLabel) (n : ℕ) (default : Option ℕ) (s : CoreStmt) (ss : List Pending) (env : Env) (w : World) → Once ls → LeanStmt s → LeanPendings ss → BodyNears (2 + default_credit (has_default ls)) (done w) (labels_next ls n default s ss env w)
labels_near [] n default s ss env w once p lp = landed_near 2 s default ss env w (omega arith) p lp
labels_near (l ∷ ls) n default s ss env w once p lp = label_near l.value l.at ls n default s ss env w once.0 once.1 p lp

-- the way in which a statement was left
resumed_near : (s : CoreStmt) (at : ℕ) (x : CoreStmt-F CoreStmt) (ss : List Pending) (env : Env) (w : World) → LeanStmt s → ((n : ℕ) → stmt_level (LeanStmtTo n) x) → ends_next ss ≡ true → LeanPendings ss → BodyNears 3 (done w) (resumed_next s at x ss env w)
resumed_near s at (CoreStmt-F.Block l b ls qs) ss env w p q e lp = (tt, (((p, drop_lean at qs (all_lean qs q)), lp.0), (e, lp.1)), omega arith)
resumed_near s at (CoreStmt-F.Initialize l b i pieces) ss env w p q e lp = let one : leave_near Normal ss ≡ 1 = end_near Normal ss e in (tt, lp, omega (arith, one))
resumed_near s at (CoreStmt-F.Empty l) ss env w p q e lp = let one : leave_near Normal ss ≡ 1 = end_near Normal ss e in (tt, lp, omega (arith, one))
resumed_near s at (CoreStmt-F.Expression l x) ss env w p q e lp = let one : leave_near Normal ss ≡ 1 = end_near Normal ss e in (tt, lp, omega (arith, one))
resumed_near s at (CoreStmt-F.If l x a b) ss env w p q e lp = let one : leave_near Normal ss ≡ 1 = end_near Normal ss e in (tt, lp, omega (arith, one))
resumed_near s at (CoreStmt-F.Switch l x labels a) ss env w p q e lp = let one : leave_near Normal ss ≡ 1 = end_near Normal ss e in (tt, lp, omega (arith, one))
resumed_near s at (CoreStmt-F.While l x a) ss env w p q e lp = let one : leave_near Normal ss ≡ 1 = end_near Normal ss e in (tt, lp, omega (arith, one))
resumed_near s at (CoreStmt-F.Do l a m x) ss env w p q e lp = let one : leave_near Normal ss ≡ 1 = end_near Normal ss e in (tt, lp, omega (arith, one))
resumed_near s at (CoreStmt-F.For l f c x a) ss env w p q e lp = let one : leave_near Normal ss ≡ 1 = end_near Normal ss e in (tt, lp, omega (arith, one))
resumed_near s at (CoreStmt-F.Case l a) ss env w p q e lp = let one : leave_near Normal ss ≡ 1 = end_near Normal ss e in (tt, lp, omega (arith, one))
resumed_near s at (CoreStmt-F.Default l a) ss env w p q e lp = let one : leave_near Normal ss ≡ 1 = end_near Normal ss e in (tt, lp, omega (arith, one))
resumed_near s at (CoreStmt-F.Label l a) ss env w p q e lp = let one : leave_near Normal ss ≡ 1 = end_near Normal ss e in (tt, lp, omega (arith, one))
resumed_near s at (CoreStmt-F.Goto l k) ss env w p q e lp = let one : leave_near Normal ss ≡ 1 = end_near Normal ss e in (tt, lp, omega (arith, one))
resumed_near s at (CoreStmt-F.Continue l) ss env w p q e lp = let one : leave_near Normal ss ≡ 1 = end_near Normal ss e in (tt, lp, omega (arith, one))
resumed_near s at (CoreStmt-F.Break l) ss env w p q e lp = let one : leave_near Normal ss ≡ 1 = end_near Normal ss e in (tt, lp, omega (arith, one))
resumed_near s at (CoreStmt-F.Return l x) ss env w p q e lp = let one : leave_near Normal ss ≡ 1 = end_near Normal ss e in (tt, lp, omega (arith, one))

jumped_near : (s : CoreStmt) (k : ℕ) (at : Option ℕ) (ss : List Pending) (env : Env) (w : World) → LeanStmt s → ends_next ss ≡ true → LeanPendings ss → BodyNears 3 (done w) (jumped_next s k at ss env w)
jumped_near s k None ss env w p e lp = let one : leave_near (Jumped k) ss ≡ 1 = end_near (Jumped k) ss e in (tt, lp, omega (arith, one))
jumped_near s k (Some at) ss env w p e lp = resumed_near s at (out-CoreStmt s) ss env w p (λ n. p (suc n)) e lp

rest_near_step : (way : Way) (s : CoreStmt) (qs : List CoreStmt) (ss : List Pending) (env : Env) (w : World) → LeanStmt s → AllOf LeanStmt qs → ends_next ss ≡ true → LeanPendings ss → BodyNears (rest_near way) (done w) (rest_next way s qs ss env w)
rest_near_step Normal s [] ss env w p ps e lp = let one : leave_near Normal ss ≡ 1 = end_near Normal ss e in (tt, lp, omega (arith, one))
rest_near_step Normal s (q ∷ qs) ss env w p ps e lp = (ps.0, (((p, ps.1), lp.0), (e, lp.1)), omega arith)
rest_near_step Broke s qs ss env w p ps e lp = let one : leave_near Broke ss ≡ 1 = end_near Broke ss e in (tt, lp, omega (arith, one))
rest_near_step Continued s qs ss env w p ps e lp = let one : leave_near Continued ss ≡ 1 = end_near Continued ss e in (tt, lp, omega (arith, one))
rest_near_step (Jumped k) s qs ss env w p ps e lp = jumped_near s k (place_in k (out-CoreStmt s)) ss env w p e lp
rest_near_step (Returned a) s qs ss env w p ps e lp = let one : leave_near (Returned a) ss ≡ 1 = end_near (Returned a) ss e in (tt, lp, omega (arith, one))

switch_near : (k : ℕ) (way : Way) (ss : List Pending) (env : Env) (w : World) → LeanPendings ss → BodyNears k (done w) (switch_next way ss env w)
switch_near k Normal ss env w lp = ends_near k Normal ss env w lp
switch_near k Broke ss env w lp = ends_near k Normal ss env w lp
switch_near k Continued ss env w lp = ends_near k Continued ss env w lp
switch_near k (Jumped l) ss env w lp = ends_near k (Jumped l) ss env w lp
switch_near k (Returned a) ss env w lp = ends_near k (Returned a) ss env w lp

round_near : (k : ℕ) (way : Way) (again : World → Advanced) (ss : List Pending) (env : Env) (w : World) → LeanPendings ss → BodyNears k (done w) (again w) → BodyNears k (done w) (goes_round way again ss env w)
round_near k Normal again ss env w lp q = q
round_near k Continued again ss env w lp q = q
round_near k Broke again ss env w lp q = ends_near k Normal ss env w lp
round_near k (Jumped l) again ss env w lp q = ends_near k (Jumped l) ss env w lp
round_near k (Returned a) again ss env w lp q = ends_near k (Returned a) ss env w lp

third_near : (x : Option CoreExpr) (s : CoreStmt) (ss : List Pending) (env : Env) (w : World) → IfAny Lean x → LeanStmt s → LeanPendings ss → BodyNears 4 (done w) (third_next x s ss env w)
third_near None s ss env w px p lp = (p, lp, omega arith)
third_near (Some e) s ss env w px p lp = within_near 4 e (Turns s) ss env w (omega arith) px p lp

block_near : (k : ℕ) (way : Way) (ids : List ℕ) (ss : List Pending) (env : Env) (w : World) → LeanPendings ss → BodyNears k (done w) (ends way ss env (pass CloseBlock (all_dead ids w)))
block_near k way ids ss env w lp =
    let v : World = pass CloseBlock (all_dead ids w) in
    let more : done w ≤ done v = leads_work w v (and_more CloseBlock w (all_dead ids w) (deaths_lead ids w)) in
    nears_more k k (done w) (done v) (ends way ss env v) (omega (arith, more)) (ends_near k way ss env v lp)

item_near : (i : Pending) (way : Way) (ss : List Pending) (env : Env) (w : World) → LeanPendings (i ∷ ss) → BodyNears (leave_near way (i ∷ ss)) (done w) (item_next i way ss env w)
item_near End way ss env w l = ends_near 1 way ss env w (l.0.1, l.1.1)
item_near (Rest s qs) way ss env w l = rest_near_step way s qs ss env w l.0.0.0 l.0.0.1 l.1.0 (l.0.1, l.1.1)
item_near (EndBlock k) way ss env w l = block_near 1 way (first_ids (drop k env.blocks)) ss (without_blocks k env) w (l.0.1, l.1.1)
item_near EndSwitch way ss env w l = switch_near 1 way ss env w (l.0.1, l.1.1)
item_near (Again s) way ss env w l = round_near 4 way (turns s ss env) ss env w (l.0.1, l.1.1) (l.0.0, (l.0.1, l.1.1), omega arith)
item_near (Check n e s) way ss env w l = round_near 3 way (λ w. Lines n (within e (Repeat (type_of e) s)) ss env w) ss env w (l.0.1, l.1.1) (line_near 3 n e (Repeat (type_of e) s) ss env w (omega arith) l.0.0.0 l.0.0.1 (l.0.1, l.1.1))
item_near (Third x s) way ss env w l = round_near 4 way (third_next x s ss env) ss env w (l.0.1, l.1.1) (third_near x s ss env w l.0.0.0 l.0.0.1 (l.0.1, l.1.1))

way_near : (ss : List Pending) (way : Way) (env : Env) (w : World) → LeanPendings ss → BodyNears (leave_near way ss) (done w) (way_next ss way env w)
way_near [] way env w l = omega arith
way_near (i ∷ ss) way env w l = item_near i way ss env w l

-- a step within an expression
expr_nears : (k v : ℕ) (a : expr.Advanced) (u : Use) (ss : List Pending) (env : Env) → LeanUse u → LeanPendings ss → ExprNears (use_near u) k v a → BodyNears k v (expr_next a u ss env)
expr_nears k v (expr.GoesOn mode is w) u ss env lu lp h = ((h.0, h.1, lu), lp, h.2)
expr_nears k v (expr.CallsOut t f vs is w) u ss env lu lp h = (h.0, lu, lp, h.1)
expr_nears k v (expr.Gives a w) u ss env lu lp h =
    let less = h.0 in
    let kept = h.1 in
    nears_more (use_near u) k v (done w) (use_next u a ss env w) (omega (arith, less, kept)) (use_near_step u a ss env w lu lp)
expr_nears k v (expr.Breaks e) u ss env lu lp h = h

pub advance_nears : (mode : Doing) (ss : List Pending) (env : Env) (w : World) → LeanDoing mode → LeanPendings ss → BodyNears (doing_near mode ss) (done w) (advance mode ss env w)
advance_nears (Within mode is u) ss env w p lp = expr_nears (mode_near (use_near u) mode is) (done w) (expr.advance env mode is w) u ss env p.2 lp (below.advance_nears (use_near u) (use_most u) env mode is w p.0 p.1)
advance_nears (Exec s) ss env w p lp =
    let v : World = stmt_begun (out-CoreStmt s) w in
    let more : done v ≡ done w + 1 = begun_more (out-CoreStmt s) w in
    nears_more 9 1 (done w) (done v) (stmt_next s (out-CoreStmt s) ss env v) (omega (arith, more)) (stmt_near s (out-CoreStmt s) ss env v p (λ n. p (suc n)) lp)
advance_nears (Turn s) ss env w p lp = turn_near s (out-CoreStmt s) ss env w p (λ n. p (suc n)) lp
advance_nears (Leave way) ss env w p lp = way_near ss way env w lp
advance_nears (Pieces q is) ss env w p lp = pieces_near q is ss env w p lp
advance_nears (Labels ls n default s) ss env w p lp = labels_near ls n default s ss env w p.0 p.1 lp
