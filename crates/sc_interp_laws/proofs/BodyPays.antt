-- Each step of a body is paid.
use Rattle.std.proofs.Common.{◌≡◌, ℕ, zero, suc, ◌+◌, ◌*◌, ◌≤◌, ◌==◌, Bool, true, false, if◌then◌else◌, ◌||◌, List, [], ◌∷◌, drop, replicate, Option, Some, None, refl, arith}
use Rattle.sc_types.specs.declared.ctype.CType.{CType}
use Rattle.sc_core.specs.declared.expression.CoreExpr.{CoreExpr, out-CoreExpr}
use Rattle.sc_core.specs.declared.statement.AutoInit.{AutoInit}
use Rattle.sc_core.specs.declared.statement.AutoInit.TheVariants as piece
use Rattle.sc_core.specs.declared.statement.CoreStmt.{CoreStmt, out-CoreStmt}
use Rattle.sc_core.specs.declared.statement.CoreStmt.TheOpen.{CoreStmt-F}
use Rattle.sc_core.specs.declared.statement.SwitchLabel.{SwitchLabel}
use Rattle.sc_core.specs.Types.{type_of}
use Rattle.sc_meaning.specs.Values.{Value, Byte, scalar_size}
use Rattle.sc_meaning.specs.World.{World, Born, pass, Work, Begin, End as Ends, Declares, OpenBlock, CloseBlock, Put, tick}
use Rattle.sc_meaning.specs.Outcomes.{Outcome, Done, Over, world_after}
use Rattle.sc_meaning.specs.Accesses.{tested, set_at}
use Rattle.sc_meaning.specs.Expressions.{Env, Answer, Plain, used, automatic_in}
use Rattle.sc_meaning.specs.Statements.{Way, Normal, Broke, Continued, Jumped, Returned, place_in, born_autos, all_dead, block_autos, set_bytes, id_of, initial_structure, stmt_begun}
use Rattle.sc_meaning.proofs.Steps.{and_more}
use Rattle.sc_meaning.proofs.StatementsGo.{deaths_lead}
use Rattle.sc_interp_machine.specs.Machine as expr
use Rattle.sc_interp_machine.specs.Bodies.{Advanced, GoesOn, Lines, CallsOut, Leaves, Breaks, then_goes as then_next, whether, within, ends, execs, turns, opened, enters, optional_next, first_next, return_next, declares_next, stmt_next, holds_next, turn_next, tests, use_next, piece_next, pieces_next, body_next, landed_next, label_next, labels_next, resumed_next, jumped_next, rest_next, switch_next, goes_round, third_next, without_blocks, first_ids, item_next, way_next, expr_next, advance}
use Rattle.sc_interp_machine.specs.declared.body.Use.{Use}
use Rattle.sc_interp_machine.specs.declared.body.Use.TheVariants.{Discard, Turns, Return, If, While, Repeat, For, Switch, Set, Copy}
use Rattle.sc_interp_machine.specs.declared.body.Pending.{Pending}
use Rattle.sc_interp_machine.specs.declared.body.Pending.TheVariants.{End, Rest, EndBlock, EndSwitch, Again, Check, Third}
use Rattle.sc_interp_machine.specs.declared.body.Doing.{Doing}
use Rattle.sc_interp_machine.specs.declared.body.Doing.TheVariants.{Within, Exec, Turn, Leave, Pieces, Labels}
use Rattle.sc_interp_laws.specs.Paid.{done, begin_credit, mode_credit, items_credit, ExprPaid, use_credit, pending_credit, pendings_credit, is_default, has_default, default_credit, way_credit, doing_credit, BodyPaid, is_something, piece_pays, label_pays, doing_pays}
use Rattle.sc_interp_laws.proofs.Works.{leads_work, pass_work, tick_work}
use Rattle.sc_interp_laws.proofs.ExprMeans.{used_leads, tested_leads}
use Rattle.sc_interp_laws.proofs.BodySteps.{bytes_lead, autos_lead, structure_leads, set_and_work}
use Rattle.sc_interp_laws.proofs.ExprPays.{Keeps, begin_small}
use Rattle.sc_interp_laws.proofs.ExprPays as below

used_keeps : (a : Answer) (w : World) → Keeps (done w) (used a w)
used_keeps a w = leads_work w (world_after (used a w)) (used_leads a w)

tested_keeps : (t : CType) (v : Value) (w : World) → Keeps (done w) (tested t v w)
tested_keeps t v w = leads_work w (world_after (tested t v w)) (tested_leads t v w)

default_small : (b : Bool) → default_credit b ≤ 1
default_small true = omega arith
default_small false = omega arith

way_least : (way : Way) → 2 ≤ way_credit way
way_least Normal = omega arith
way_least Broke = omega arith
way_least Continued = omega arith
way_least (Jumped k) = omega arith
way_least (Returned a) = omega arith

way_most : (way : Way) → way_credit way ≤ 3
way_most Normal = omega arith
way_most Broke = omega arith
way_most Continued = omega arith
way_most (Jumped k) = omega arith
way_most (Returned a) = omega arith

-- a step that is paid by less is paid by more
pub paid_more : (k m u v : ℕ) (a : Advanced) → k + 4 * u ≤ m + 4 * v → BodyPaid k v a → BodyPaid m u a
paid_more k m u v (GoesOn mode ss env w) le h = omega (arith, le, h)
paid_more k m u v (Lines l mode ss env w) le h = omega (arith, le, h)
paid_more k m u v (CallsOut t f vs is x ss env w) le h = omega (arith, le, h)
paid_more k m u v (Leaves way w) le h = omega (arith, le, h)
paid_more k m u v (Breaks e) le h = omega (arith, le, h)

then_paid : {A : Type 0} (k : ℕ) (w : World) (r : Outcome A) (go : A → World → Advanced) → 1 ≤ k → Keeps (done w) r → ((a : A) (v : World) → BodyPaid k (done v) (go a v)) → BodyPaid k (done w) (then_next r go)
then_paid k w (Done a v) go one h q = paid_more k k (done w) (done v) (go a v) (omega (arith, h)) (q a v)
then_paid k w (Over e) go one h q = omega (arith, one, h)

whether_paid : (k v : ℕ) (yes : Bool) (f g : World → Advanced) (w : World) → BodyPaid k v (f w) → BodyPaid k v (g w) → BodyPaid k v (whether yes f g w)
whether_paid k v true f g w p q = p
whether_paid k v false f g w p q = q

-- a statement ends, which is work
ends_paid : (k : ℕ) (way : Way) (ss : List Pending) (env : Env) (w : World) → pendings_credit ss ≤ k → BodyPaid k (done w) (ends way ss env w)
ends_paid k way ss env w le =
    let more : done (pass Ends w) ≡ done w + 1 = pass_work Ends w in
    let small : way_credit way ≤ 3 = way_most way in
    omega (arith, le, more, small)

-- a whole expression begins
line_paid : (k : ℕ) (l : ℕ) (e : CoreExpr) (u : Use) (ss : List Pending) (env : Env) (w : World) → 3 + use_credit u + pendings_credit ss ≤ k → BodyPaid k (done w) (Lines l (within e u) ss env w)
line_paid k l e u ss env w le = let small : begin_credit (out-CoreExpr e) ≤ 2 = begin_small (out-CoreExpr e) in omega (arith, le, small)

within_paid : (k : ℕ) (e : CoreExpr) (u : Use) (ss : List Pending) (env : Env) (w : World) → 3 + use_credit u + pendings_credit ss ≤ k → BodyPaid k (done w) (GoesOn (within e u) ss env w)
within_paid k e u ss env w le = let small : begin_credit (out-CoreExpr e) ≤ 2 = begin_small (out-CoreExpr e) in omega (arith, le, small)

enters_paid : (k : ℕ) (s : CoreStmt) (b : ℕ) (qs : List CoreStmt) (ss : List Pending) (env : Env) (w : World) → 4 + pendings_credit ss ≤ k → BodyPaid k (done w) (enters s b qs ss env w)
enters_paid k s b qs ss env w le =
    then_paid k w (born_autos (block_autos env b) [] w) (opened s b qs ss env) (omega (arith, le)) (leads_work w (world_after (born_autos (block_autos env b) [] w)) (autos_lead (block_autos env b) [] w)) (λ ids u.
    let born : Born = record { block = b; ids = ids } in
    let more : done (pass (OpenBlock born) u) ≡ done u + 0 = pass_work (OpenBlock born) u in
    omega (arith, le, more))

optional_paid : (k : ℕ) (s : Option CoreStmt) (ss : List Pending) (env : Env) (w : World) → 3 + pendings_credit ss ≤ k → BodyPaid k (done w) (optional_next s ss env w)
optional_paid k None ss env w le = omega (arith, le)
optional_paid k (Some s) ss env w le = omega (arith, le)

tests_paid : (k : ℕ) (t : CType) (a : Answer) (f g : World → Advanced) (w : World) → 1 ≤ k → ((w : World) → BodyPaid k (done w) (f w)) → ((w : World) → BodyPaid k (done w) (g w)) → BodyPaid k (done w) (tests t a f g w)
tests_paid k t a f g w one p q =
    then_paid k w (used a w) _ one (used_keeps a w) (λ v u. then_paid k u (tested t v u) _ one (tested_keeps t v u) (λ yes z. whether_paid k (done z) yes f g z (p z) (q z)))

use_paid : (u : Use) (a : Answer) (ss : List Pending) (env : Env) (w : World) → BodyPaid (4 + use_credit u + pendings_credit ss) (done w) (use_next u a ss env w)
use_paid Discard a ss env w = ends_paid _ Normal ss env w (omega arith)
use_paid (Turns s) a ss env w = omega arith
use_paid Return a ss env w = then_paid _ w (used a w) _ (omega arith) (used_keeps a w) (λ v u. ends_paid _ (Returned (Plain v)) ss env u (omega arith))
use_paid (If t q r) a ss env w = tests_paid _ t a (execs q (End ∷ ss) env) (optional_next r (End ∷ ss) env) w (omega arith) (λ z. omega arith) (λ z. optional_paid _ r (End ∷ ss) env z (omega arith))
use_paid (While t s q) a ss env w = tests_paid _ t a (execs q (Again s ∷ ss) env) (ends Normal ss env) w (omega arith) (λ z. omega arith) (λ z. ends_paid _ Normal ss env z (omega arith))
use_paid (Repeat t s) a ss env w = tests_paid _ t a (turns s ss env) (ends Normal ss env) w (omega arith) (λ z. omega arith) (λ z. ends_paid _ Normal ss env z (omega arith))
use_paid (For t s x q) a ss env w = tests_paid _ t a (execs q (Third x s ∷ ss) env) (ends Normal ss env) w (omega arith) (λ z. omega arith) (λ z. ends_paid _ Normal ss env z (omega arith))
use_paid (Switch labels s) a ss env w =
    then_paid _ w (used a w) _ (omega arith) (used_keeps a w) (λ v u. let small : default_credit (has_default labels) ≤ 1 = default_small (has_default labels) in omega (arith, small))
use_paid (Set p at t is) a ss env w =
    then_paid _ w (used a w) _ (omega arith) (used_keeps a w) (λ v u.
    let x : World = pass (Work (scalar_size t)) (set_at p at (scalar_size t) v u) in
    let more : done u ≤ done x = leads_work u x (set_and_work p at t v u) in
    omega (arith, more))
use_paid (Copy p size is) a ss env w =
    then_paid _ w (initial_structure p size a w) _ (omega arith) (leads_work w (world_after (initial_structure p size a w)) (structure_leads p size a w)) (λ x u. omega arith)

first_paid : (l : ℕ) (f : Option CoreExpr) (s : CoreStmt) (ss : List Pending) (env : Env) (w : World) → BodyPaid (4 + pendings_credit ss) (done w) (first_next l f s ss env w)
first_paid l None s ss env w = omega arith
first_paid l (Some e) s ss env w = line_paid _ l e (Turns s) ss env w (omega arith)

return_paid : (l : ℕ) (e : Option CoreExpr) (ss : List Pending) (env : Env) (w : World) → BodyPaid (4 + pendings_credit ss) (done w) (return_next l e ss env w)
return_paid l None ss env w = omega arith
return_paid l (Some e) ss env w = line_paid _ l e Return ss env w (omega arith)

declares_paid : (l : ℕ) (p : Value) (pieces : List AutoInit) (ss : List Pending) (env : Env) (w : World) → BodyPaid (4 + pendings_credit ss) (done w) (declares_next l p pieces ss env w)
declares_paid l p pieces ss env w =
    let more : done (pass (Declares (id_of p)) w) ≡ done w + 0 = pass_work (Declares (id_of p)) w in
    omega (arith, more)

stmt_paid : (s : CoreStmt) (x : CoreStmt-F CoreStmt) (ss : List Pending) (env : Env) (w : World) → BodyPaid (4 + pendings_credit ss) (done w) (stmt_next s x ss env w)
stmt_paid s (CoreStmt-F.Block l b ls qs) ss env w = enters_paid _ s b qs ss env w (omega arith)
stmt_paid s (CoreStmt-F.Initialize l b i pieces) ss env w = declares_paid l (automatic_in env.blocks b i) pieces ss env w
stmt_paid s (CoreStmt-F.Empty l) ss env w = omega arith
stmt_paid s (CoreStmt-F.Expression l e) ss env w = line_paid _ l e Discard ss env w (omega arith)
stmt_paid s (CoreStmt-F.If l e a b) ss env w = line_paid _ l e (If (type_of e) a b) ss env w (omega arith)
stmt_paid s (CoreStmt-F.Switch l e labels a) ss env w = line_paid _ l e (Switch labels a) ss env w (omega arith)
stmt_paid s (CoreStmt-F.While l e a) ss env w = omega arith
stmt_paid s (CoreStmt-F.Do l a m e) ss env w = omega arith
stmt_paid s (CoreStmt-F.For l f c x a) ss env w = first_paid l f s ss env w
stmt_paid s (CoreStmt-F.Case l a) ss env w = omega arith
stmt_paid s (CoreStmt-F.Default l a) ss env w = omega arith
stmt_paid s (CoreStmt-F.Label l a) ss env w = omega arith
stmt_paid s (CoreStmt-F.Goto l k) ss env w = omega arith
stmt_paid s (CoreStmt-F.Continue l) ss env w = omega arith
stmt_paid s (CoreStmt-F.Break l) ss env w = omega arith
stmt_paid s (CoreStmt-F.Return l e) ss env w = return_paid l e ss env w

holds_paid : (l : ℕ) (c x : Option CoreExpr) (s a : CoreStmt) (ss : List Pending) (env : Env) (w : World) → BodyPaid (3 + pendings_credit ss) (done w) (holds_next l c x s a ss env w)
holds_paid l None x s a ss env w = omega arith
holds_paid l (Some e) x s a ss env w = line_paid _ l e (For (type_of e) s x a) ss env w (omega arith)

turn_paid : (s : CoreStmt) (x : CoreStmt-F CoreStmt) (ss : List Pending) (env : Env) (w : World) → BodyPaid (3 + pendings_credit ss) (done w) (turn_next s x ss env w)
turn_paid s (CoreStmt-F.While l e a) ss env w = line_paid _ l e (While (type_of e) s a) ss env w (omega arith)
turn_paid s (CoreStmt-F.Do l a m e) ss env w = omega arith
turn_paid s (CoreStmt-F.For l f c x a) ss env w = holds_paid l c x s a ss env w
turn_paid s _ ss env w = ends_paid _ Normal ss env w (omega arith)

-- pieces
pub bytes_more : (id at b : ℕ) (bs : List ℕ) (w : World) → done w + 1 ≤ done (set_bytes id at (b ∷ bs) w)
bytes_more id at b bs w =
    let v : World = pass (Put id at (Byte b ∷ [])) w in
    let one : done v ≡ done w + 0 = pass_work (Put id at (Byte b ∷ [])) w in
    let two : done (tick v) ≡ done v + 1 = tick_work v in
    let more : done (tick v) ≤ done (set_bytes id (at + 1) bs (tick v)) = leads_work (tick v) (set_bytes id (at + 1) bs (tick v)) (bytes_lead id (at + 1) bs (tick v)) in
    omega (arith, one, two, more)

piece_paid : (p : Value) (i : AutoInit) (is : List AutoInit) (ss : List Pending) (env : Env) (w : World) → is_something i ≡ true → BodyPaid (3 + pendings_credit ss) (done w) (piece_next p i is ss env w)
piece_paid p (piece.Value at t e) is ss env w z = within_paid _ e (Set p at t is) ss env w (omega arith)
piece_paid p (piece.Text at []) is ss env w z = absurd (cc)
piece_paid p (piece.Text at (b ∷ bs)) is ss env w z =
    let more : done w + 1 ≤ done (set_bytes (id_of p) at (b ∷ bs) w) = bytes_more (id_of p) at b bs w in
    omega (arith, more)
piece_paid p (piece.Zero at zero) is ss env w z = absurd (cc)
piece_paid p (piece.Zero at (suc n)) is ss env w z =
    let more : done w + 1 ≤ done (set_bytes (id_of p) at (0 ∷ replicate n 0) w) = bytes_more (id_of p) at 0 (replicate n 0) w in
    omega (arith, more)
piece_paid p (piece.Structure size e) is ss env w z = within_paid _ e (Copy p size is) ss env w (omega arith)

pieces_paid : (p : Value) (is : List AutoInit) (ss : List Pending) (env : Env) (w : World) → piece_pays is ≡ true → BodyPaid (3 + pendings_credit ss) (done w) (pieces_next p is ss env w)
pieces_paid p [] ss env w z = let more : done (tick w) ≡ done w + 1 = tick_work w in omega (arith, more)
pieces_paid p (i ∷ is) ss env w z = piece_paid p i is ss env w z

-- labels
body_paid : (k : ℕ) (s : CoreStmt) (at : ℕ) (x : CoreStmt-F CoreStmt) (ss : List Pending) (env : Env) (w : World) → 3 + pendings_credit ss ≤ k → BodyPaid k (done w) (body_next s at x ss env w)
body_paid k s at (CoreStmt-F.Block l b ls qs) ss env w le =
    let v : World = pass Begin w in
    let more : done v ≡ done w + 1 = pass_work Begin w in
    paid_more (4 + pendings_credit ss) k (done w) (done v) (enters s b (drop at qs) ss env v) (omega (arith, le, more)) (enters_paid (4 + pendings_credit ss) s b (drop at qs) ss env v (omega arith))
body_paid k s at _ ss env w le = omega (arith, le)

landed_paid : (k : ℕ) (s : CoreStmt) (at : Option ℕ) (ss : List Pending) (env : Env) (w : World) → 3 + pendings_credit ss ≤ k → BodyPaid k (done w) (landed_next s at (EndSwitch ∷ ss) env w)
landed_paid k s None ss env w le = omega (arith, le)
landed_paid k s (Some at) ss env w le = body_paid k s at (out-CoreStmt s) (EndSwitch ∷ ss) env w (omega (arith, le))

none_more : (b : Bool) → (if b then false else true) ≡ true → default_credit b ≡ 0
none_more true z = absurd (cc)
none_more false z = refl

label_paid : (o : Option ℕ) (at : ℕ) (ls : List SwitchLabel) (n : ℕ) (default : Option ℕ) (s : CoreStmt) (ss : List Pending) (env : Env) (w : World) → (if is_default o then (if has_default ls then false else true) else true) ≡ true → BodyPaid (3 + default_credit (is_default o || has_default ls) + pendings_credit ss) (done w) (label_next o at ls n default s ss env w)
label_paid None at ls n default s ss env w z = let none : default_credit (has_default ls) ≡ 0 = none_more (has_default ls) z in omega (arith, none)
label_paid (Some v) at ls n default s ss env w z =
    let u : World = tick w in
    let more : done u ≡ done w + 1 = tick_work w in
    let small : default_credit (has_default ls) ≤ 1 = default_small (has_default ls) in
    let k : ℕ = 4 + default_credit (has_default ls) + pendings_credit ss in
    paid_more k _ (done w) (done u) (whether (v == n) (landed_next s (Some at) (EndSwitch ∷ ss) env) (GoesOn (Labels ls n default s) ss env) u) (omega (arith, more))
    (whether_paid k (done u) (v == n) (landed_next s (Some at) (EndSwitch ∷ ss) env) (GoesOn (Labels ls n default s) ss env) u (landed_paid k s (Some at) ss env u (omega arith)) (omega arith))

labels_paid : (ls : List SwitchLabel) (n : ℕ) (default : Option ℕ) (s : CoreStmt) (ss : List Pending) (env : Env) (w : World) → label_pays ls ≡ true → BodyPaid (3 + default_credit (has_default ls) + pendings_credit ss) (done w) (labels_next ls n default s ss env w)
labels_paid [] n default s ss env w z = landed_paid _ s default ss env w (omega arith)
labels_paid (l ∷ ls) n default s ss env w z = label_paid l.value l.at ls n default s ss env w z

-- what is pending
resumed_paid : (s : CoreStmt) (at : ℕ) (x : CoreStmt-F CoreStmt) (ss : List Pending) (env : Env) (w : World) → BodyPaid (3 + (1 + pendings_credit ss)) (done w) (resumed_next s at x ss env w)
resumed_paid s at (CoreStmt-F.Block l b ls qs) ss env w = omega arith
resumed_paid s at _ ss env w = omega arith

jumped_paid : (s : CoreStmt) (k : ℕ) (at : Option ℕ) (ss : List Pending) (env : Env) (w : World) → BodyPaid (3 + (1 + pendings_credit ss)) (done w) (jumped_next s k at ss env w)
jumped_paid s k None ss env w = omega arith
jumped_paid s k (Some at) ss env w = resumed_paid s at (out-CoreStmt s) ss env w

rest_paid : (way : Way) (s : CoreStmt) (qs : List CoreStmt) (ss : List Pending) (env : Env) (w : World) → BodyPaid (way_credit way + (1 + pendings_credit ss)) (done w) (rest_next way s qs ss env w)
rest_paid Normal s [] ss env w = omega arith
rest_paid Normal s (q ∷ qs) ss env w = omega arith
rest_paid Broke s qs ss env w = omega arith
rest_paid Continued s qs ss env w = omega arith
rest_paid (Jumped k) s qs ss env w = jumped_paid s k (place_in k (out-CoreStmt s)) ss env w
rest_paid (Returned a) s qs ss env w = omega arith

switch_paid : (k : ℕ) (way : Way) (ss : List Pending) (env : Env) (w : World) → pendings_credit ss ≤ k → BodyPaid k (done w) (switch_next way ss env w)
switch_paid k Normal ss env w le = ends_paid k Normal ss env w le
switch_paid k Broke ss env w le = ends_paid k Normal ss env w le
switch_paid k Continued ss env w le = ends_paid k Continued ss env w le
switch_paid k (Jumped l) ss env w le = ends_paid k (Jumped l) ss env w le
switch_paid k (Returned a) ss env w le = ends_paid k (Returned a) ss env w le

round_paid : (k : ℕ) (way : Way) (again : World → Advanced) (ss : List Pending) (env : Env) (w : World) → pendings_credit ss ≤ k → BodyPaid k (done w) (again w) → BodyPaid k (done w) (goes_round way again ss env w)
round_paid k Normal again ss env w le q = q
round_paid k Continued again ss env w le q = q
round_paid k Broke again ss env w le q = ends_paid k Normal ss env w le
round_paid k (Jumped l) again ss env w le q = ends_paid k (Jumped l) ss env w le
round_paid k (Returned a) again ss env w le q = ends_paid k (Returned a) ss env w le

third_paid : (k : ℕ) (x : Option CoreExpr) (s : CoreStmt) (ss : List Pending) (env : Env) (w : World) → 4 + pendings_credit ss ≤ k → BodyPaid k (done w) (third_next x s ss env w)
third_paid k None s ss env w le = omega (arith, le)
third_paid k (Some e) s ss env w le = within_paid k e (Turns s) ss env w (omega (arith, le))

block_paid : (k : ℕ) (way : Way) (ids : List ℕ) (ss : List Pending) (env : Env) (w : World) → pendings_credit ss ≤ k → BodyPaid k (done w) (ends way ss env (pass CloseBlock (all_dead ids w)))
block_paid k way ids ss env w le =
    let v : World = pass CloseBlock (all_dead ids w) in
    let more : done w ≤ done v = leads_work w v (and_more CloseBlock w (all_dead ids w) (deaths_lead ids w)) in
    paid_more k k (done w) (done v) (ends way ss env v) (omega (arith, more)) (ends_paid k way ss env v le)

item_paid : (i : Pending) (way : Way) (ss : List Pending) (env : Env) (w : World) → BodyPaid (way_credit way + (pending_credit i + pendings_credit ss)) (done w) (item_next i way ss env w)
item_paid End way ss env w = ends_paid _ way ss env w (omega arith)
item_paid (Rest s qs) way ss env w = rest_paid way s qs ss env w
item_paid (EndBlock k) way ss env w = block_paid _ way (first_ids (drop k env.blocks)) ss (without_blocks k env) w (omega arith)
item_paid EndSwitch way ss env w = switch_paid _ way ss env w (omega arith)
item_paid (Again s) way ss env w = let least : 2 ≤ way_credit way = way_least way in round_paid _ way (turns s ss env) ss env w (omega arith) (omega (arith, least))
item_paid (Check l e s) way ss env w =
    let least : 2 ≤ way_credit way = way_least way in
    round_paid _ way (λ w. Lines l (within e (Repeat (type_of e) s)) ss env w) ss env w (omega arith) (line_paid _ l e (Repeat (type_of e) s) ss env w (omega (arith, least)))
item_paid (Third x s) way ss env w = let least : 2 ≤ way_credit way = way_least way in round_paid _ way (third_next x s ss env) ss env w (omega arith) (third_paid _ x s ss env w (omega (arith, least)))

way_paid : (ss : List Pending) (way : Way) (env : Env) (w : World) → BodyPaid (way_credit way + pendings_credit ss) (done w) (way_next ss way env w)
way_paid [] way env w = let least : 2 ≤ way_credit way = way_least way in omega (arith, least)
way_paid (i ∷ ss) way env w = item_paid i way ss env w

-- a step within an expression
expr_paid : (k v : ℕ) (a : expr.Advanced) (u : Use) (ss : List Pending) (env : Env) → ExprPaid k v a → BodyPaid (k + use_credit u + pendings_credit ss) v (expr_next a u ss env)
expr_paid k v (expr.GoesOn mode is w) u ss env h = omega (arith, h)
expr_paid k v (expr.CallsOut t f vs is w) u ss env h = omega (arith, h)
expr_paid k v (expr.Gives a w) u ss env h =
    paid_more (4 + use_credit u + pendings_credit ss) (k + use_credit u + pendings_credit ss) v (done w) (use_next u a ss env w) (omega (arith, h)) (use_paid u a ss env w)
expr_paid k v (expr.Breaks e) u ss env h = omega (arith, h)

pub begun_more : (x : CoreStmt-F CoreStmt) (w : World) → done (stmt_begun x w) ≡ done w + 1
begun_more (CoreStmt-F.Initialize l b i pieces) w = tick_work w
begun_more _ w = pass_work Begin w

pub advance_paid : (mode : Doing) (ss : List Pending) (env : Env) (w : World) → doing_pays mode ≡ true → BodyPaid (doing_credit mode + pendings_credit ss) (done w) (advance mode ss env w)
advance_paid (Within mode is u) ss env w p = expr_paid (mode_credit mode + items_credit is) (done w) (expr.advance env mode is w) u ss env (below.advance_paid env mode is w p)
advance_paid (Exec s) ss env w p =
    let v : World = stmt_begun (out-CoreStmt s) w in
    let more : done v ≡ done w + 1 = begun_more (out-CoreStmt s) w in
    paid_more (4 + pendings_credit ss) _ (done w) (done v) (stmt_next s (out-CoreStmt s) ss env v) (omega (arith, more)) (stmt_paid s (out-CoreStmt s) ss env v)
advance_paid (Turn s) ss env w p = turn_paid s (out-CoreStmt s) ss env w
advance_paid (Leave way) ss env w p = way_paid ss way env w
advance_paid (Pieces q is) ss env w p = pieces_paid q is ss env w p
advance_paid (Labels ls n default s) ss env w p = labels_paid ls n default s ss env w p
