-- A step of a body goes along the ways.
use Rattle.std.proofs.Common.{inl, inr, ℕ, zero, suc, ◌+◌, ◌==◌, nat_le, if◌then◌else◌, refl, Bool, true, false, List, [], ◌∷◌, ◌++◌, drop, length, replicate, Option, Some, None}
use Rattle.sc_types.specs.declared.ctype.CType.{CType}
use Rattle.sc_core.specs.declared.expression.CoreExpr.{CoreExpr}
use Rattle.sc_core.specs.declared.module.Auto.{Auto}
use Rattle.sc_core.specs.declared.statement.AutoInit.{AutoInit}
use Rattle.sc_core.specs.declared.statement.AutoInit.TheVariants as piece
use Rattle.sc_core.specs.declared.statement.CoreStmt.{CoreStmt, out-CoreStmt}
use Rattle.sc_core.specs.declared.statement.CoreStmt.TheOpen.{CoreStmt-F}
use Rattle.sc_core.specs.declared.statement.SwitchLabel.{SwitchLabel}
use Rattle.sc_core.specs.Types.{type_of}
use Rattle.sc_meaning.specs.Values.{Value, Number, FunctionAt, Pointer, Byte, cells_of, scalar_size}
use Rattle.sc_meaning.specs.World.{World, Born, Birth, Death, pass, Work, Begin, End as Ends, Declares, OpenBlock, CloseBlock, Put, tick}
use Rattle.sc_meaning.specs.declared.spot.Spot.{Spot}
use Rattle.sc_meaning.specs.declared.spot.Spot.TheVariants.{Slot}
use Rattle.sc_meaning.specs.Outcomes.{Outcome, Done, Over, BirthLimit, world_after}
use Rattle.sc_meaning.specs.Violations.{reach_rule}
use Rattle.sc_meaning.specs.Accesses.{tested, set_at, copy_at}
use Rattle.sc_meaning.specs.Changes.{born}
use Rattle.sc_meaning.specs.Expressions.{Env, Answer, used, base_of, further_of, automatic_in}
use Rattle.sc_meaning.specs.Statements.{Way, Normal, Broke, Continued, Jumped, Returned, place_in, born_autos, auto_kind, all_dead, block_autos, set_bytes, id_of, initial_structure, stmt_begun}
use Rattle.sc_meaning.specs.Laws.{Leads}
use Rattle.sc_interp_machine.specs.Machine as expr
use Rattle.sc_interp_machine.specs.Bodies.{Advanced, GoesOn, Lines, then_goes as then_next, whether, within, ends, execs, turns, opened, enters, optional_next, first_next, return_next, stmt_next, holds_next, turn_next, tests, use_next, piece_next, pieces_next, body_next, landed_next, label_next, labels_next, resumed_next, jumped_next, rest_next, switch_next, goes_round, third_next, first_ids, item_next, way_next, expr_next, advance}
use Rattle.sc_interp_machine.specs.declared.body.Use.{Use}
use Rattle.sc_interp_machine.specs.declared.body.Use.TheVariants.{Discard, Turns, Return, If, While, Repeat, For, Switch, Set, Copy}
use Rattle.sc_interp_machine.specs.declared.body.Pending.{Pending}
use Rattle.sc_interp_machine.specs.declared.body.Pending.TheVariants.{End, Rest, EndBlock, EndSwitch, Again, Check, Third}
use Rattle.sc_interp_machine.specs.declared.body.Doing.{Doing}
use Rattle.sc_interp_machine.specs.declared.body.Doing.TheVariants.{Within, Exec, Turn, Leave, Pieces, Labels}
use Rattle.sc_interp_laws.specs.Worlds.{expr_left, body_left}
use Rattle.sc_interp_laws.specs.Lawful.{IsIn, ids_of, use_ids, own_of}
use Rattle.sc_interp_laws.proofs.Road.{OwnRoad, OwnHappening, works, then_goes, unless_goes}
use Rattle.sc_interp_laws.proofs.Parts.{used_goes, tested_goes}
use Rattle.sc_interp_laws.proofs.ExprSteps as below

-- what a use sets is its body's own
abbrev pub UseOwn : (ℕ → Type 0) → Use → Type 0
UseOwn own (Set p at t is) = own (id_of p)
UseOwn own (Copy p size is) = own (id_of p)
UseOwn own _ = Unit {0}

use_own : (own : ℕ → Type 0) (u : Use) (ids : List ℕ) → ((id : ℕ) → IsIn id (use_ids u ++ ids) → own id) → UseOwn own u
use_own own (Set p at t is) ids o = o (id_of p) (inl refl)
use_own own (Copy p size is) ids o = o (id_of p) (inl refl)
use_own own _ ids o = tt

pub in_front : (id : ℕ) (xs ys : List ℕ) → IsIn id xs → IsIn id (xs ++ ys)
in_front id [] ys p = absurd p
in_front id (x ∷ xs) ys p = elim p [ inl e ↦ inl e | inr q ↦ inr (in_front id xs ys q) ]

pub in_back : (id : ℕ) (xs ys : List ℕ) → IsIn id ys → IsIn id (xs ++ ys)
in_back id [] ys p = p
in_back id (x ∷ xs) ys p = inr (in_back id xs ys p)

-- the objects of one of some blocks are among those of them all
in_first : (id k : ℕ) (bs : List Born) → IsIn id (first_ids (drop k bs)) → IsIn id (ids_of bs)
in_first id zero [] p = absurd p
in_first id (suc k) [] p = absurd p
in_first id zero (b ∷ bs) p = in_front id b.ids (ids_of bs) p
in_first id (suc k) (b ∷ bs) p = in_back id b.ids (ids_of bs) (in_first id k bs p)

module _ (O : OwnRoad) where
  born_go : (full : Bool) (size : ℕ) (constant : Bool) (at : Spot) (w : World) → O.road.Goes w (world_after (if full then Over (BirthLimit w) else Done (length w.objects + 1) (pass (Birth size (auto_kind constant) at) w)))
  born_go true size constant at w = O.road.here w
  born_go false size constant at w = O.births size constant at w

  pub bytes_go : (id at : ℕ) (bs : List ℕ) (w : World) → O.Own id → O.road.Goes w (set_bytes id at bs w)
  bytes_go id at [] w o = O.road.here w
  bytes_go id at (b ∷ bs) w o =
      let v : World = pass (Put id at (Byte b ∷ [])) w in
      O.road.on w v (set_bytes id (at + 1) bs (tick v)) (O.fills id at (Byte b ∷ []) w o)
      (O.road.on v (tick v) (set_bytes id (at + 1) bs (tick v)) (works O.road 1 v) (bytes_go id (at + 1) bs (tick v) o))

  pub autos_go : (autos : List Auto) (ids : List ℕ) (w : World) → O.road.Goes w (world_after (born_autos autos ids w))
  autos_go [] ids w = O.road.here w
  autos_go (a ∷ rest) ids w =
      then_goes O.road w (born a.slot.size (auto_kind a.slot.constant) (Slot a.slot.offset) w) _ (born_go (nat_le 4000000000 (length w.objects)) a.slot.size a.slot.constant (Slot a.slot.offset) w) (λ id u. autos_go rest (ids ++ id ∷ []) u)

  pub moved_go : (p : Value) (q : Value) (further n : ℕ) (w : World) → O.Own (id_of p) → O.road.Goes w (pass (Work n) (copy_at p 0 q further n w))
  moved_go (Number k) q further n w o = works O.road n w
  moved_go (FunctionAt k) q further n w o = works O.road n w
  moved_go (Pointer i at) (Number k) further n w o = works O.road n w
  moved_go (Pointer i at) (FunctionAt k) further n w o = works O.road n w
  moved_go (Pointer i at) (Pointer j from) further n w o = O.moves i (at + 0) j (from + further) n w o

  pub structure_go : (p : Value) (size : ℕ) (a : Answer) (w : World) → O.Own (id_of p) → O.road.Goes w (world_after (initial_structure p size a w))
  structure_go p size a w o =
      unless_goes O.road (reach_rule w.objects (base_of a) (further_of a) size) _ _ w (λ e. moved_go p (base_of a) (further_of a) size w o)

  pub set_go : (p : Value) (at n : ℕ) (v : Value) (w : World) → O.Own (id_of p) → O.road.Goes w (set_at p at n v w)
  set_go (Number k) at n v w o = O.road.here w
  set_go (FunctionAt k) at n v w o = O.road.here w
  set_go (Pointer i j) at n v w o = O.fills i (j + at) (cells_of n v) w o

  pub set_and_work_go : (p : Value) (at : ℕ) (t : CType) (v : Value) (w : World) → O.Own (id_of p) → O.road.Goes w (pass (Work (scalar_size t)) (set_at p at (scalar_size t) v w))
  set_and_work_go p at t v w o =
      let x : World = set_at p at (scalar_size t) v w in
      O.road.on w x (pass (Work (scalar_size t)) x) (set_go p at (scalar_size t) v w o) (works O.road (scalar_size t) x)

  begun_go : (x : CoreStmt-F CoreStmt) (w : World) → O.road.Goes w (stmt_begun x w)
  begun_go (CoreStmt-F.Initialize l b i pieces) w = works O.road 1 w
  begun_go _ w = O.road.quiet Begin w refl

  pub dead_go : (ids : List ℕ) (w : World) → ((id : ℕ) → IsIn id ids → O.Own id) → O.road.Goes w (all_dead ids w)
  dead_go [] w o = O.road.here w
  dead_go (id ∷ ids) w o =
      O.road.on w (all_dead ids w) (pass (Death id) (all_dead ids w)) (dead_go ids w (λ i p. o i (inr p))) (O.deaths id (all_dead ids w) (o id (inl refl)))

  pub block_go : (ids : List ℕ) (w : World) → ((id : ℕ) → IsIn id ids → O.Own id) → O.road.Goes w (pass Ends (pass CloseBlock (all_dead ids w)))
  block_go ids w o =
      let v : World = all_dead ids w in
      let u : World = pass CloseBlock v in
      O.road.on w v (pass Ends u) (dead_go ids w o) (O.road.on v u (pass Ends u) (O.road.quiet CloseBlock v refl) (O.road.quiet Ends u refl))

  -- parts of a step
  then_go : {A : Type 0} (w : World) (r : Outcome A) (go : A → World → Advanced) → O.road.Goes w (world_after r) → ((a : A) (v : World) → O.road.Goes v (body_left (go a v))) → O.road.Goes w (body_left (then_next r go))
  then_go w (Done a v) go l q = O.road.on w v (body_left (go a v)) l (q a v)
  then_go w (Over e) go l q = l

  whether_go : (yes : Bool) (f g : World → Advanced) (w : World) → O.road.Goes w (body_left (f w)) → O.road.Goes w (body_left (g w)) → O.road.Goes w (body_left (whether yes f g w))
  whether_go true f g w p q = p
  whether_go false f g w p q = q

  enters_go : (s : CoreStmt) (b : ℕ) (qs : List CoreStmt) (ss : List Pending) (env : Env) (w : World) → O.road.Goes w (body_left (enters s b qs ss env w))
  enters_go s b qs ss env w = then_go w (born_autos (block_autos env b) [] w) (opened s b qs ss env) (autos_go (block_autos env b) [] w) (λ ids u. O.road.quiet (OpenBlock (record { block = b; ids = ids })) u refl)

  optional_go : (s : Option CoreStmt) (ss : List Pending) (env : Env) (w : World) → O.road.Goes w (body_left (optional_next s ss env w))
  optional_go None ss env w = O.road.here w
  optional_go (Some s) ss env w = O.road.here w

  first_go : (l : ℕ) (f : Option CoreExpr) (s : CoreStmt) (ss : List Pending) (env : Env) (w : World) → O.road.Goes w (body_left (first_next l f s ss env w))
  first_go l None s ss env w = O.road.here w
  first_go l (Some e) s ss env w = O.road.here w

  return_go : (l : ℕ) (e : Option CoreExpr) (ss : List Pending) (env : Env) (w : World) → O.road.Goes w (body_left (return_next l e ss env w))
  return_go l None ss env w = O.road.here w
  return_go l (Some e) ss env w = O.road.here w

  stmt_go : (s : CoreStmt) (x : CoreStmt-F CoreStmt) (ss : List Pending) (env : Env) (w : World) → O.road.Goes w (body_left (stmt_next s x ss env w))
  stmt_go s (CoreStmt-F.Block l b ls qs) ss env w = enters_go s b qs ss env w
  stmt_go s (CoreStmt-F.Initialize l b i pieces) ss env w = O.road.quiet (Declares (id_of (automatic_in env.blocks b i))) w refl
  stmt_go s (CoreStmt-F.For l f c x a) ss env w = first_go l f s ss env w
  stmt_go s (CoreStmt-F.Return l e) ss env w = return_go l e ss env w
  stmt_go s _ ss env w = O.road.here w

  holds_go : (l : ℕ) (c x : Option CoreExpr) (s a : CoreStmt) (ss : List Pending) (env : Env) (w : World) → O.road.Goes w (body_left (holds_next l c x s a ss env w))
  holds_go l None x s a ss env w = O.road.here w
  holds_go l (Some e) x s a ss env w = O.road.here w

  turn_go : (s : CoreStmt) (x : CoreStmt-F CoreStmt) (ss : List Pending) (env : Env) (w : World) → O.road.Goes w (body_left (turn_next s x ss env w))
  turn_go s (CoreStmt-F.While l e a) ss env w = O.road.here w
  turn_go s (CoreStmt-F.Do l a m e) ss env w = O.road.here w
  turn_go s (CoreStmt-F.For l f c x a) ss env w = holds_go l c x s a ss env w
  turn_go s _ ss env w = O.road.quiet Ends w refl

  tests_go : (t : CType) (a : Answer) (f g : World → Advanced) (w : World) → ((w : World) → O.road.Goes w (body_left (f w))) → ((w : World) → O.road.Goes w (body_left (g w))) → O.road.Goes w (body_left (tests t a f g w))
  tests_go t a f g w p q =
      then_go w (used a w) _ (used_goes O.road a w) (λ v u. then_go u (tested t v u) _ (tested_goes O.road t v u) (λ yes z. whether_go yes f g z (p z) (q z)))

  use_go : (u : Use) (a : Answer) (ss : List Pending) (env : Env) (w : World) → UseOwn O.Own u → O.road.Goes w (body_left (use_next u a ss env w))
  use_go Discard a ss env w o = O.road.quiet Ends w refl
  use_go (Turns s) a ss env w o = O.road.here w
  use_go Return a ss env w o = then_go w (used a w) _ (used_goes O.road a w) (λ v u. O.road.quiet Ends u refl)
  use_go (If t q r) a ss env w o = tests_go t a (execs q (End ∷ ss) env) (optional_next r (End ∷ ss) env) w (λ z. O.road.here z) (optional_go r (End ∷ ss) env)
  use_go (While t s q) a ss env w o = tests_go t a (execs q (Again s ∷ ss) env) (ends Normal ss env) w (λ z. O.road.here z) (λ z. O.road.quiet Ends z refl)
  use_go (Repeat t s) a ss env w o = tests_go t a (turns s ss env) (ends Normal ss env) w (λ z. O.road.here z) (λ z. O.road.quiet Ends z refl)
  use_go (For t s x q) a ss env w o = tests_go t a (execs q (Third x s ∷ ss) env) (ends Normal ss env) w (λ z. O.road.here z) (λ z. O.road.quiet Ends z refl)
  use_go (Switch labels s) a ss env w o = then_go w (used a w) _ (used_goes O.road a w) (λ v u. O.road.here u)
  use_go (Set p at t is) a ss env w o = then_go w (used a w) _ (used_goes O.road a w) (λ v u. set_and_work_go p at t v u o)
  use_go (Copy p size is) a ss env w o = then_go w (initial_structure p size a w) _ (structure_go p size a w o) (λ x u. O.road.here u)

  piece_go : (p : Value) (i : AutoInit) (is : List AutoInit) (ss : List Pending) (env : Env) (w : World) → O.Own (id_of p) → O.road.Goes w (body_left (piece_next p i is ss env w))
  piece_go p (piece.Value at t e) is ss env w o = O.road.here w
  piece_go p (piece.Text at bytes) is ss env w o = bytes_go (id_of p) at bytes w o
  piece_go p (piece.Zero at n) is ss env w o = bytes_go (id_of p) at (replicate n 0) w o
  piece_go p (piece.Structure size e) is ss env w o = O.road.here w

  pieces_go : (p : Value) (is : List AutoInit) (ss : List Pending) (env : Env) (w : World) → O.Own (id_of p) → O.road.Goes w (body_left (pieces_next p is ss env w))
  pieces_go p [] ss env w o = works O.road 1 w
  pieces_go p (i ∷ is) ss env w o = piece_go p i is ss env w o

  body_go : (s : CoreStmt) (at : ℕ) (x : CoreStmt-F CoreStmt) (ss : List Pending) (env : Env) (w : World) → O.road.Goes w (body_left (body_next s at x ss env w))
  body_go s at (CoreStmt-F.Block l b ls qs) ss env w =
      let v : World = pass Begin w in
      O.road.on w v (body_left (enters s b (drop at qs) ss env v)) (O.road.quiet Begin w refl) (enters_go s b (drop at qs) ss env v)
  body_go s at _ ss env w = O.road.here w

  landed_go : (s : CoreStmt) (at : Option ℕ) (ss : List Pending) (env : Env) (w : World) → O.road.Goes w (body_left (landed_next s at ss env w))
  landed_go s None ss env w = O.road.here w
  landed_go s (Some at) ss env w = body_go s at (out-CoreStmt s) ss env w

  label_go : (o : Option ℕ) (at : ℕ) (ls : List SwitchLabel) (n : ℕ) (default : Option ℕ) (s : CoreStmt) (ss : List Pending) (env : Env) (w : World) → O.road.Goes w (body_left (label_next o at ls n default s ss env w))
  label_go None at ls n default s ss env w = O.road.here w
  label_go (Some v) at ls n default s ss env w =
      let u : World = tick w in
      let a : Advanced = whether (v == n) (landed_next s (Some at) (EndSwitch ∷ ss) env) (GoesOn (Labels ls n default s) ss env) u in
      O.road.on w u (body_left a) (works O.road 1 w) (whether_go (v == n) (landed_next s (Some at) (EndSwitch ∷ ss) env) (GoesOn (Labels ls n default s) ss env) u (landed_go s (Some at) (EndSwitch ∷ ss) env u) (O.road.here u))

  labels_go : (ls : List SwitchLabel) (n : ℕ) (default : Option ℕ) (s : CoreStmt) (ss : List Pending) (env : Env) (w : World) → O.road.Goes w (body_left (labels_next ls n default s ss env w))
  labels_go [] n default s ss env w = landed_go s default (EndSwitch ∷ ss) env w
  labels_go (l ∷ ls) n default s ss env w = label_go l.value l.at ls n default s ss env w

  resumed_go : (s : CoreStmt) (at : ℕ) (x : CoreStmt-F CoreStmt) (ss : List Pending) (env : Env) (w : World) → O.road.Goes w (body_left (resumed_next s at x ss env w))
  resumed_go s at (CoreStmt-F.Block l b ls qs) ss env w = O.road.here w
  resumed_go s at _ ss env w = O.road.here w

  jumped_go : (s : CoreStmt) (k : ℕ) (at : Option ℕ) (ss : List Pending) (env : Env) (w : World) → O.road.Goes w (body_left (jumped_next s k at ss env w))
  jumped_go s k None ss env w = O.road.here w
  jumped_go s k (Some at) ss env w = resumed_go s at (out-CoreStmt s) ss env w

  rest_go : (way : Way) (s : CoreStmt) (qs : List CoreStmt) (ss : List Pending) (env : Env) (w : World) → O.road.Goes w (body_left (rest_next way s qs ss env w))
  rest_go Normal s [] ss env w = O.road.here w
  rest_go Normal s (q ∷ qs) ss env w = O.road.here w
  rest_go Broke s qs ss env w = O.road.here w
  rest_go Continued s qs ss env w = O.road.here w
  rest_go (Jumped k) s qs ss env w = jumped_go s k (place_in k (out-CoreStmt s)) ss env w
  rest_go (Returned a) s qs ss env w = O.road.here w

  switch_go : (way : Way) (ss : List Pending) (env : Env) (w : World) → O.road.Goes w (body_left (switch_next way ss env w))
  switch_go Normal ss env w = O.road.quiet Ends w refl
  switch_go Broke ss env w = O.road.quiet Ends w refl
  switch_go Continued ss env w = O.road.quiet Ends w refl
  switch_go (Jumped k) ss env w = O.road.quiet Ends w refl
  switch_go (Returned a) ss env w = O.road.quiet Ends w refl

  round_go : (way : Way) (again : World → Advanced) (ss : List Pending) (env : Env) (w : World) → O.road.Goes w (body_left (again w)) → O.road.Goes w (body_left (goes_round way again ss env w))
  round_go Normal again ss env w q = q
  round_go Continued again ss env w q = q
  round_go Broke again ss env w q = O.road.quiet Ends w refl
  round_go (Jumped k) again ss env w q = O.road.quiet Ends w refl
  round_go (Returned a) again ss env w q = O.road.quiet Ends w refl

  third_go : (x : Option CoreExpr) (s : CoreStmt) (ss : List Pending) (env : Env) (w : World) → O.road.Goes w (body_left (third_next x s ss env w))
  third_go None s ss env w = O.road.here w
  third_go (Some e) s ss env w = O.road.here w

  item_go : (i : Pending) (way : Way) (ss : List Pending) (env : Env) (w : World) → ((id : ℕ) → IsIn id (ids_of env.blocks) → O.Own id) → O.road.Goes w (body_left (item_next i way ss env w))
  item_go End way ss env w o = O.road.quiet Ends w refl
  item_go (Rest s qs) way ss env w o = rest_go way s qs ss env w
  item_go (EndBlock k) way ss env w o = block_go (first_ids (drop k env.blocks)) w (λ id p. o id (in_first id k env.blocks p))
  item_go EndSwitch way ss env w o = switch_go way ss env w
  item_go (Again s) way ss env w o = round_go way (turns s ss env) ss env w (O.road.here w)
  item_go (Check l e s) way ss env w o = round_go way (λ w. Lines l (within e (Repeat (type_of e) s)) ss env w) ss env w (O.road.here w)
  item_go (Third x s) way ss env w o = round_go way (third_next x s ss env) ss env w (third_go x s ss env w)

  way_go : (ss : List Pending) (way : Way) (env : Env) (w : World) → ((id : ℕ) → IsIn id (ids_of env.blocks) → O.Own id) → O.road.Goes w (body_left (way_next ss way env w))
  way_go [] way env w o = O.road.here w
  way_go (i ∷ ss) way env w o = item_go i way ss env w o

  expr_go : (a : expr.Advanced) (u : Use) (ss : List Pending) (env : Env) (w : World) → UseOwn O.Own u → O.road.Goes w (expr_left a) → O.road.Goes w (body_left (expr_next a u ss env))
  expr_go (expr.GoesOn mode is v) u ss env w o l = l
  expr_go (expr.CallsOut t v vs is x) u ss env w o l = l
  expr_go (expr.Gives a v) u ss env w o l = O.road.on w v (body_left (use_next u a ss env v)) l (use_go u a ss env v o)
  expr_go (expr.Breaks e) u ss env w o l = l

  pub advance_go : (mode : Doing) (ss : List Pending) (env : Env) (w : World) → ((id : ℕ) → IsIn id (own_of mode env) → O.Own id) → O.road.Goes w (body_left (advance mode ss env w))
  advance_go (Within mode is u) ss env w o =
      expr_go (expr.advance env mode is w) u ss env w (use_own O.Own u (ids_of env.blocks) o) (below.advance_goes O.road env mode is w)
  advance_go (Exec s) ss env w o =
      let v : World = stmt_begun (out-CoreStmt s) w in
      O.road.on w v (body_left (stmt_next s (out-CoreStmt s) ss env v)) (begun_go (out-CoreStmt s) w) (stmt_go s (out-CoreStmt s) ss env v)
  advance_go (Turn s) ss env w o = turn_go s (out-CoreStmt s) ss env w
  advance_go (Leave way) ss env w o = way_go ss way env w o
  advance_go (Pieces p is) ss env w o = pieces_go p is ss env w (o (id_of p) (inl refl))
  advance_go (Labels ls n default s) ss env w o = labels_go ls n default s ss env w

-- where anything may happen
pub bytes_lead : (id at : ℕ) (bs : List ℕ) (w : World) → Leads w (set_bytes id at bs w)
bytes_lead id at bs w = bytes_go OwnHappening id at bs w tt

pub autos_lead : (autos : List Auto) (ids : List ℕ) (w : World) → Leads w (world_after (born_autos autos ids w))
autos_lead autos ids w = autos_go OwnHappening autos ids w

pub structure_leads : (p : Value) (size : ℕ) (a : Answer) (w : World) → Leads w (world_after (initial_structure p size a w))
structure_leads p size a w = structure_go OwnHappening p size a w tt

pub set_and_work : (p : Value) (at : ℕ) (t : CType) (v : Value) (w : World) → Leads w (pass (Work (scalar_size t)) (set_at p at (scalar_size t) v w))
set_and_work p at t v w = set_and_work_go OwnHappening p at t v w tt

pub block_leads : (ids : List ℕ) (w : World) → Leads w (pass Ends (pass CloseBlock (all_dead ids w)))
block_leads ids w = block_go OwnHappening ids w (λ id p. tt)

pub advance_leads : (mode : Doing) (ss : List Pending) (env : Env) (w : World) → Leads w (body_left (advance mode ss env w))
advance_leads mode ss env w = advance_go OwnHappening mode ss env w (λ id p. tt)
