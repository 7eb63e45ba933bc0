-- The code of statements and functions, in words that are instructions.
use Rattle.std.proofs.Common.{◌≡◌, ◌<◌, ◌≤◌, ℕ, ◌+◌, ◌-◌, ◌*◌, ◌%◌, ◌^◌, ◌==◌, Bool, true, false, ◌||◌, if◌then◌else◌, List, [], ◌∷◌, ◌++◌, length, map, nat_lt, nat_le, pos, negsuc, neg_ℤ, Option, Some, None, sym, ap, subst, ◌∙◌, arith}
use Rattle.std.proofs.lemmas.Bool.Decides.{nat_tests}
use Rattle.std.specs.Prelude.{slice_get}
use Rattle.std.specs.Int.{w32, cast_signed}
use Rattle.sc_isa_image.specs.Stubs.{upper_of, lower_of}
use Rattle.sc_isa.specs.declared.instruction.Instr.TheVariants.{Branch, Jalr, Lui, Store}
use Rattle.sc_isa.specs.declared.instruction.BranchOp.TheVariants.{Bne}
use Rattle.sc_isa.specs.declared.instruction.LoadOp.TheVariants.{Lw}
use Rattle.sc_isa.specs.declared.instruction.StoreOp.TheVariants.{Sb, Sw}
use Rattle.sc_isa.specs.declared.instruction.RegOp.TheVariants as reg
use Rattle.sc_core.specs.declared.expression.CoreExpr.{CoreExpr}
use Rattle.sc_core.specs.declared.statement.AutoInit.{AutoInit}
use Rattle.sc_core.specs.declared.statement.AutoInit.TheVariants as piece
use Rattle.sc_core.specs.declared.statement.LabelAt.{LabelAt}
use Rattle.sc_core.specs.declared.statement.SwitchLabel.{SwitchLabel}
use Rattle.sc_core.specs.declared.statement.CoreStmt.{CoreStmt, out-CoreStmt, roll-CoreStmt, out-roll-CoreStmt, fold-roll-CoreStmt, ind-CoreStmt, map-CoreStmt}
use Rattle.sc_core.specs.declared.statement.CoreStmt.TheOpen.{CoreStmt-F}
use Rattle.sc_core.specs.declared.module.Auto.{Auto}
use Rattle.sc_core.specs.declared.module.Fun.{Fun}
use Rattle.sc_gen_code.specs.declared.symbolic.Symbolic.{Symbolic}
use Rattle.sc_gen_code.specs.declared.symbolic.Symbolic.TheVariants.{Plain}
use Rattle.sc_gen_code.specs.declared.symbolic.Access.TheVariants as access
use Rattle.sc_gen_code.specs.Code.{Code, x0, ra, sp, a0, a1, t0, t1, t2, addi, apply, mv, ecall, li, near, over, jump, service, block_service, copied}
use Rattle.sc_gen_code.specs.Operators.{load_of, machine_type, store_of}
use Rattle.sc_gen_code.specs.declared.style.Kept.{Kept}
use Rattle.sc_gen_code.specs.declared.style.Style.{Style}
use Rattle.sc_gen_code.specs.Styles.{framed, first_spot}
use Rattle.sc_gen_operand.specs.Plans.{Skips, word}
use Rattle.sc_gen_operand.specs.Places.{slot_of}
use Rattle.sc_gen_body.specs.declared.jumps.Place.{Place}
use Rattle.sc_gen_body.specs.Jumps.{Around, go, go_in, leaving, entering, unless_equal, labelled, label_jumps, label_rows, rows, start_of, inside, in_loop, in_switch, nowhere}
use Rattle.sc_gen_body.specs.Initializers.{text_bytes, zero_bytes, piece_code, pieces_code, place_behind}
use Rattle.sc_gen_body.specs.Frames.{Frame, frame, entered_in, value}
use Rattle.sc_gen_body.specs.Statements.{Body, epilogue, entry_of, whole, whole_by, items_code, starts, value_or_none, test_of, ends_turn, loop, choice, case_code, cases_code, default_code, switched, switch_inner, returned, go_to, turns_code, statement_layer, body_of, statement_code}
use Rattle.sc_gen_body.specs.Functions.{frame_taken, prologue, first_temporary, first_block, parameter_at, parameter_kept, parameters_taken, before_body, function_code}
use Rattle.sc_placed_laws.specs.Sound.{Fits, HasRegisters, IsSoundCode}
use Rattle.sc_placed_laws.proofs.Sequences.{app, if_sound, if_told, less, pos_short, zero_short, neg_short, r-x0, r-ra, r-sp, r-t0, r-t1, r-t2, r-a0, r-a1, li_sound, near_sound, service_sound, block_service_sound, copied_sound, over_fits, jump_fits, branch_on, branch_seven}
use Rattle.sc_placed_laws.proofs.Operators.{before, apply_sound, mv_sound, AllKept, framed_sound, first_kept, rest_kept}
use Rattle.sc_placed_laws.proofs.Expressions.{expression_good, test_back_good}

over_first : (n : ℕ) (xs : Code) → IsSoundCode xs → IsSoundCode (over n ∷ xs)
over_first n xs h = ((over_fits n, tt), h)

jump_first : (from to : ℕ) (xs : Code) → IsSoundCode xs → IsSoundCode (jump from to ∷ xs)
jump_first from to xs h = ((jump_fits from to, tt), h)

-- initialisers
text_sound : (at : ℕ) (bs : List ℕ) → IsSoundCode (text_bytes at bs)
text_sound at [] = tt
text_sound at (b ∷ bs) =
    app (li a0 b) (near at (access.Store Sb a0) ++ text_bytes (place_behind at 1) bs) (li_sound a0 b r-a0)
    (app (near at (access.Store Sb a0)) (text_bytes (place_behind at 1) bs) (near_sound at (access.Store Sb a0) r-a0) (text_sound (place_behind at 1) bs))

fill_sound : IsSoundCode (Plain (Store Sb x0 t1 (pos 0)) ∷ addi t1 t1 (pos 1) ∷ Plain (Branch Bne t1 t2 (negsuc 7)) ∷ [])
fill_sound = (((r-x0, r-t1, zero_short), tt), (((r-t1, r-t1, pos_short 1 (omega arith)), tt), (((r-t1, r-t2, branch_seven.0, branch_seven.1), tt), tt)))

zero_sound : (at n : ℕ) → IsSoundCode (zero_bytes at n)
zero_sound at n =
    let fill = Plain (Store Sb x0 t1 (pos 0)) ∷ addi t1 t1 (pos 1) ∷ Plain (Branch Bne t1 t2 (negsuc 7)) ∷ [] in
    let end = near (place_behind at n) (access.Address t2) ++ fill in
    if_sound (n == 0) [] (near at (access.Address t1) ++ end) tt
    (app (near at (access.Address t1)) end (near_sound at (access.Address t1) r-t1)
    (app (near (place_behind at n) (access.Address t2)) fill (near_sound (place_behind at n) (access.Address t2) r-t2) fill_sound))

-- jumps
leaving_sound : (o : Option ℕ) → IsSoundCode (leaving o)
leaving_sound None = tt
leaving_sound (Some b) = block_service_sound 3 b (omega arith)

entering_sound : (o : Option ℕ) → IsSoundCode (entering o)
entering_sound None = tt
entering_sound (Some b) = block_service_sound 2 b (omega arith)

go_sound : (blocks : List ℕ) (at : ℕ) (place : Place) → IsSoundCode (go blocks at place)
go_sound blocks at place =
    let out = leaving (slice_get blocks place.depth) in
    app out (jump (at + length out) place.word ∷ []) (leaving_sound (slice_get blocks place.depth)) (jump_first (at + length out) place.word [] tt)

go_in_sound : (block : Option ℕ) (at to : ℕ) → IsSoundCode (go_in block at to)
go_in_sound block at to = app (entering block) (jump (at + length (entering block)) to ∷ []) (entering_sound block) (jump_first (at + length (entering block)) to [] tt)

go_to_sound : (blocks : List ℕ) (at : ℕ) (o : Option Place) → IsSoundCode (go_to blocks at o)
go_to_sound blocks at None = tt
go_to_sound blocks at (Some place) = go_sound blocks at place

epilogue_sound : (cost : ℕ) → IsSoundCode (epilogue cost)
epilogue_sound cost =
    let far = li t0 cost ++ apply reg.Add sp sp t0 ∷ [] in
    let back = if nat_lt cost 2048 then addi sp sp (pos cost) ∷ [] else far in
    let end = Plain (Jalr x0 ra (pos 0)) ∷ [] in
    app (near (cost - 4) (access.Load Lw ra)) (back ++ end) (near_sound (cost - 4) (access.Load Lw ra) r-ra)
    (app back end
    (if_told (nat_lt cost 2048) (addi sp sp (pos cost) ∷ []) far (λ e. (((r-sp, r-sp, pos_short cost (less cost 2048 e)), tt), tt))
    (λ e. app (li t0 cost) (apply reg.Add sp sp t0 ∷ []) (li_sound t0 cost r-t0) (apply_sound reg.Add sp sp t0 r-sp r-sp r-t0)))
    (((r-x0, r-ra, zero_short), tt), tt))

label_jumps_sound : (at : ℕ) (start : ℕ → ℕ) (ls : List LabelAt) → IsSoundCode (label_jumps at start ls)
label_jumps_sound at start [] = tt
label_jumps_sound at start (l ∷ ls) = jump_first at (start l.at) (label_jumps (at + 1) start ls) (label_jumps_sound (at + 1) start ls)

label_rows_sound : (at : ℕ) (start : ℕ → ℕ) (ls : List LabelAt) → IsSoundCode (label_rows at start ls)
label_rows_sound at start [] = tt
label_rows_sound at start (l ∷ ls) = over_first (length (l ∷ ls)) (label_jumps (at + 1) start (l ∷ ls)) (label_jumps_sound (at + 1) start (l ∷ ls))

one_or_two : (c : Bool) (x y z : Symbolic) → length ((if c then x ∷ [] else y ∷ z ∷ []) ++ ecall ∷ []) ≤ 3
one_or_two true x y z = omega arith
one_or_two false x y z = omega arith

entering_few : (o : Option ℕ) → length (entering o) ≤ 4
entering_few None = omega arith
entering_few (Some b) =
    let h = one_or_two (nat_lt b 2048 || nat_le 4294965248 b) (addi t1 x0 (cast_signed w32 b)) (Plain (Lui t1 (upper_of b))) (addi t1 t1 (lower_of b)) in
    omega (arith, h)

unless_equal_fits : (block : Option ℕ) → Fits (unless_equal (length (entering block) + 1))
unless_equal_fits block = let f = entering_few block in let b = branch_on (length (entering block) + 1) (omega (arith, f)) in (r-a0, r-t1, b.0, b.1)

case_sound : (block : Option ℕ) (at v to : ℕ) → IsSoundCode (case_code block at v to)
case_sound block at v to =
    let go_on = go_in block (at + length (li t1 v) + 1) to in
    app (li t1 v) (unless_equal (length (entering block) + 1) ∷ go_on) (li_sound t1 v r-t1) ((unless_equal_fits block, tt), go_in_sound block (at + length (li t1 v) + 1) to)

default_sound : (block : Option ℕ) (start : ℕ → ℕ) (at : ℕ) (d : Option ℕ) → IsSoundCode (default_code block start at d)
default_sound block start at None = tt
default_sound block start at (Some n) = go_in_sound block at (start n)

cases_sound : (block : Option ℕ) (start : ℕ → ℕ) (at : ℕ) (d : Option ℕ) (ls : List SwitchLabel) → IsSoundCode (cases_code block start at d ls)
cases_sound block start at d [] = default_sound block start at d
cases_sound block start at d (l ∷ ls) =
    elim l.value as (λ (o : Option ℕ). IsSoundCode (elim o as (λ _. Code) [
      | None ↦ cases_code block start at (Some l.at) ls
      | Some v ↦ case_code block at v (start l.at) ++ cases_code block start (at + length (case_code block at v (start l.at))) d ls
    ])) [
      | None ↦ cases_sound block start at (Some l.at) ls
      | (Some v) ↦ (let one = case_code block at v (start l.at) in
          app one (cases_code block start (at + length one) d ls) (case_sound block at v (start l.at)) (cases_sound block start (at + length one) d ls))
    ]

loop_sound : (b : Bool) (body after test : Code) → IsSoundCode body → IsSoundCode after → IsSoundCode test → IsSoundCode (loop b body after test)
loop_sound b body after test f g h =
    let all = body ++ (after ++ test) in
    let two = over (length body) ∷ all in
    let one = over (1 + length body + length after + length test) ∷ two in
    over_first (2 + (if b then 0 else length body + length after)) one
    (over_first (1 + length body + length after + length test) two (over_first (length body) all (app body (after ++ test) f (app after test g h))))

switched_sound : (value body labels : Code) → IsSoundCode value → IsSoundCode body → IsSoundCode labels → IsSoundCode (switched value body labels)
switched_sound value body labels f g h =
    let end = over (length labels) ∷ labels in
    let two = over (length body + 1 + length labels) ∷ (body ++ end) in
    app value (over (1 + length body + 1) ∷ two) f
    (over_first (1 + length body + 1) two (over_first (length body + 1 + length labels) (body ++ end) (app body end g (over_first (length labels) labels h))))

branch_sound : (test first : Code) → IsSoundCode test → IsSoundCode first → IsSoundCode (choice test first None)
branch_sound test first f g = app test (over (length first) ∷ first) f (over_first (length first) first g)

choice_sound : (test first other : Code) → IsSoundCode test → IsSoundCode first → IsSoundCode other → IsSoundCode (choice test first (Some other))
choice_sound test first other f g h =
    let one = over (length first + 1) ∷ first in
    app (test ++ one) (over (length other) ∷ other) (app test one f (over_first (length first + 1) first g)) (over_first (length other) other h)

whole_sound : (o : Option ℕ) (p : Body) (s : CoreStmt) (at : ℕ) (around : Around) → ((at : ℕ) → IsSoundCode ((p s at around).code)) → IsSoundCode (whole_by o p s at around)
whole_sound None p s at around h = h at
whole_sound (Some b) p s at around h =
    let inner = (p s (at + length (block_service 2 b)) around).code in
    app (block_service 2 b) inner (block_service_sound 2 b (omega arith)) (h (at + length (block_service 2 b)))

module _ (f : Frame) (kept : AllKept f.style.kept) where
  value_sound : (e : CoreExpr) → IsSoundCode (value f e)
  value_sound e = (expression_good f.style f.slots kept e).0 word f.temporaries

  test_sound : (e : CoreExpr) → IsSoundCode (test_of f e)
  test_sound e = (expression_good f.style f.slots kept e).0 (Skips true) f.temporaries

  option_sound : (o : Option CoreExpr) → IsSoundCode (value_or_none f o)
  option_sound None = tt
  option_sound (Some e) = value_sound e

  piece_sound : (at : ℕ) (p : AutoInit) → IsSoundCode (piece_code f at p)
  piece_sound at (piece.Value n t e) =
      app (value f e) (framed f.style (access.Store (store_of (machine_type t)) a0) (place_behind at n)) (value_sound e) (framed_sound f.style (access.Store (store_of (machine_type t)) a0) (place_behind at n) kept r-a0)
  piece_sound at (piece.Text n bytes) = text_sound (place_behind at n) bytes
  piece_sound at (piece.Zero n count) = zero_sound (place_behind at n) count
  piece_sound at (piece.Structure size e) =
      app (value f e) (mv a1 a0 ∷ near at (access.Address a0) ++ copied size) (value_sound e)
      (before (mv a1 a0) (near at (access.Address a0) ++ copied size) (mv_sound a1 a0 r-a1 r-a0)
      (app (near at (access.Address a0)) (copied size) (near_sound at (access.Address a0) r-a0) (copied_sound size)))

  pieces_sound : (at : ℕ) (ps : List AutoInit) → IsSoundCode (pieces_code f at ps)
  pieces_sound at [] = tt
  pieces_sound at (p ∷ ps) = app (piece_code f at p) (pieces_code f at ps) (piece_sound at p) (pieces_sound at ps)

  turn_sound : (o : Option CoreExpr) (from top : ℕ) → IsSoundCode (ends_turn f o from top)
  turn_sound None from top = jump_first from top [] tt
  turn_sound (Some e) from top = test_back_good f.style f.slots kept true e f.temporaries top from

  abbrev pub Holds : CoreStmt → Type 0
  Holds s = (at : ℕ) (around : Around) → IsSoundCode ((body_of f s s at around).code)

  abbrev Known : Type 0
  Known = (s : CoreStmt) × Holds s

  abbrev plain : CoreStmt-F Known → CoreStmt-F CoreStmt
  plain y = map-CoreStmt Known CoreStmt (λ s. s.0) y

  abbrev all : List Known → List CoreStmt
  all ss = map (λ s. s.0) ss

  one_sound : (s : Known) (at : ℕ) (around : Around) → IsSoundCode (whole f (body_of f s.0) s.0 at around)
  one_sound s at around = whole_sound (entry_of f s.0) (body_of f s.0) s.0 at around (λ at. s.1 at around)

  items_sound : (ss : List Known) (at : ℕ) (around : Around) → IsSoundCode (items_code f (map (body_of f) (all ss)) (all ss) at around)
  items_sound [] at around = tt
  items_sound (s ∷ ss) at around =
      let first = whole f (body_of f s.0) s.0 at around in
      app first (items_code f (map (body_of f) (all ss)) (all ss) (at + length first) around) (one_sound s at around) (items_sound ss (at + length first) around)

  abbrev Layer : CoreStmt-F CoreStmt → Type 0
  Layer x = (at : ℕ) (around : Around) → IsSoundCode ((statement_layer f (map-CoreStmt CoreStmt Body (body_of f) x) x at around).code)

  returned_sound : (o : Option CoreExpr) → IsSoundCode (returned f o)
  returned_sound None = app (service 6) (epilogue f.cost) (service_sound 6 (omega arith)) (epilogue_sound f.cost)
  returned_sound (Some e) =
      app (value f e) (block_service 3 0 ++ epilogue f.cost) (value_sound e) (app (block_service 3 0) (epilogue f.cost) (block_service_sound 3 0 (omega arith)) (epilogue_sound f.cost))

  if_good : (l : ℕ) (e : CoreExpr) (s : Known) (other : Option Known) → Layer (plain (CoreStmt-F.If l e s other))
  if_good l e s None at around =
      let te = test_of f e in
      branch_sound te (whole f (body_of f s.0) s.0 (at + length te + 1) around) (test_sound e) (one_sound s (at + length te + 1) around)
  if_good l e s (Some r) at around =
      let te = test_of f e in
      let first = whole f (body_of f s.0) s.0 (at + length te + 1) around in
      choice_sound te first (whole f (body_of f r.0) r.0 (at + length te + 1 + length first + 1) around) (test_sound e) (one_sound s (at + length te + 1) around) (one_sound r (at + length te + 1 + length first + 1) around)

  turns_sound : (b : Bool) (e after : Option CoreExpr) (s : Known) (at : ℕ) (around : Around) → IsSoundCode (turns_code f (body_of f s.0) b e after s.0 at around)
  turns_sound b e after s at around =
      let body = whole f (body_of f s.0) s.0 (at + 3) (in_loop around (at + 1)) in
      let from = at + 3 + length body + length (value_or_none f after) in
      loop_sound b body (value_or_none f after) (ends_turn f e from (at + 3)) (one_sound s (at + 3) (in_loop around (at + 1))) (option_sound after) (turn_sound e from (at + 3))

  weighed : (y : CoreStmt-F Known) → Layer (plain y)
  weighed (CoreStmt-F.Block l b ls ss) at around =
      let out = inside around (entered_in f b) ls at in
      let items = items_code f (map (body_of f) (all ss)) (all ss) (at + rows ls) out in
      let start = start_of at (starts f (map (body_of f) (all ss)) (all ss) (at + rows ls) out) in
      app (label_rows at start ls) (items ++ leaving (entered_in f b)) (label_rows_sound at start ls)
      (app items (leaving (entered_in f b)) (items_sound ss (at + rows ls) out) (leaving_sound (entered_in f b)))
  weighed (CoreStmt-F.Initialize l b n ps) at around = pieces_sound (slot_of f.slots b n) ps
  weighed (CoreStmt-F.Empty l) at around = tt
  weighed (CoreStmt-F.Expression l e) at around = value_sound e
  weighed (CoreStmt-F.If l e s other) at around = if_good l e s other at around
  weighed (CoreStmt-F.Switch l e ls s) at around =
      let own = value f e in
      let body = switch_inner own (body_of f s.0) s.0 at around in
      let labels = cases_code (entry_of f s.0) (start_of (at + length own + 2) body.starts) (at + length own + 2 + length body.code + 1) None ls in
      switched_sound own body.code labels (value_sound e) (s.1 (at + length own + 2) (in_switch around (at + length own + 1)))
      (cases_sound (entry_of f s.0) (start_of (at + length own + 2) body.starts) (at + length own + 2 + length body.code + 1) None ls)
  weighed (CoreStmt-F.While l e s) at around = turns_sound false (Some e) None s at around
  weighed (CoreStmt-F.Do l s line e) at around = turns_sound true (Some e) None s at around
  weighed (CoreStmt-F.For l first e after s) at around =
      app (value_or_none f first) (turns_code f (body_of f s.0) false e after s.0 (at + length (value_or_none f first)) around) (option_sound first) (turns_sound false e after s (at + length (value_or_none f first)) around)
  weighed (CoreStmt-F.Case l s) at around = one_sound s at around
  weighed (CoreStmt-F.Default l s) at around = one_sound s at around
  weighed (CoreStmt-F.Label l s) at around = one_sound s at around
  weighed (CoreStmt-F.Goto l k) at around = go_to_sound around.blocks at (labelled k around.labels)
  weighed (CoreStmt-F.Continue l) at around = go_sound around.blocks at around.on_continue
  weighed (CoreStmt-F.Break l) at around = go_sound around.blocks at around.on_break
  weighed (CoreStmt-F.Return l e) at around = returned_sound e

  unrolled : (x : CoreStmt-F CoreStmt) (at : ℕ) (around : Around) →
      (body_of f (roll-CoreStmt x) (roll-CoreStmt x) at around).code ≡ (statement_layer f (map-CoreStmt CoreStmt Body (body_of f) x) x at around).code
  unrolled x at around =
      ap (λ (p : Body). (p (roll-CoreStmt x) at around).code) (fold-roll-CoreStmt Body (λ p s. statement_layer f p (out-CoreStmt s)) x)
      ∙ ap (λ (z : CoreStmt-F CoreStmt). (statement_layer f (map-CoreStmt CoreStmt Body (body_of f) x) z at around).code) (out-roll-CoreStmt x)

  statement_holds : (s : CoreStmt) → Holds s
  statement_holds = ind-CoreStmt Holds
      (λ x y is at around. subst IsSoundCode (sym (unrolled x at around)) (subst (λ (z : CoreStmt-F CoreStmt). Layer z) is (weighed y) at around))

  pub statement_sound : (s : CoreStmt) (at : ℕ) (around : Around) → IsSoundCode (statement_code f s at around)
  statement_sound s at around = whole_sound (entry_of f s) (body_of f s) s at around (λ at. statement_holds s at around)

frame_taken_sound : (cost : ℕ) → IsSoundCode (frame_taken cost)
frame_taken_sound cost =
    if_told (nat_le cost 2048) (addi sp sp (neg_ℤ (pos cost)) ∷ []) (li t0 cost ++ apply reg.Sub sp sp t0 ∷ [])
    (λ e. (((r-sp, r-sp, neg_short cost (at_most cost 2048 e)), tt), tt))
    (λ e. app (li t0 cost) (apply reg.Sub sp sp t0 ∷ []) (li_sound t0 cost r-t0) (apply_sound reg.Sub sp sp t0 r-sp r-sp r-t0))
  where
    at_most : (m n : ℕ) → nat_le m n ≡ true → m ≤ n
    at_most m n h = grind (arith, nat_tests)

prologue_sound : (cost : ℕ) → IsSoundCode (prologue cost)
prologue_sound cost = (
  ((r-t0, r-x0, pos_short 2 (omega arith)), tt),
  (
    ((r-t1, r-x0, zero_short), tt),
    (
      (tt, tt),
      app (frame_taken cost) (near (cost - 4) (access.Store Sw ra)) (frame_taken_sound cost) (near_sound (cost - 4) (access.Store Sw ra) r-ra),
    ),
  ),
)

-- copies of parameters
parameter_sound : (cost : ℕ) (k : Kept) (o : Option ℕ) → k.register < 32 → IsSoundCode (parameter_kept cost k o)
parameter_sound cost k None h = tt
parameter_sound cost k (Some i) h =
    let above = near ((cost + 4 * (i - 8)) % 2 ^ 32) (access.Load (load_of k.of) k.register) in
    if_told (nat_lt i 8) (mv k.register (10 + i) ∷ []) (if nat_lt i 31 then above else [])
    (λ e. let few : i < 8 = less i 8 e in mv_sound k.register (10 + i) h (omega (arith, few)))
    (λ e. if_sound (nat_lt i 31) above [] (near_sound ((cost + 4 * (i - 8)) % 2 ^ 32) (access.Load (load_of k.of) k.register) h) tt)

parameters_sound : (cost : ℕ) (xs : List Auto) (ks : List Kept) → AllKept ks → IsSoundCode (parameters_taken cost xs ks)
parameters_sound cost xs [] h = tt
parameters_sound cost xs (k ∷ ks) h =
    app (parameter_kept cost k (parameter_at k.offset 0 xs)) (parameters_taken cost xs ks) (parameter_sound cost k (parameter_at k.offset 0 xs) (first_kept k ks h)) (parameters_sound cost xs ks (rest_kept k ks h))

-- each word of a function's code is one of an instruction
pub function_sound : (st : Style) (f : Fun) → HasRegisters st → IsSoundCode (function_code st f)
function_sound st f style =
    let g = frame st f (first_spot (first_temporary f)) in
    let body = statement_code g f.body (length (before_body st f)) nowhere in
    let end = service 6 ++ epilogue f.cost in
    app (before_body st f) (body ++ end)
    (app (prologue f.cost) (parameters_taken f.cost (first_block f.blocks) st.kept) (prologue_sound f.cost) (parameters_sound f.cost (first_block f.blocks) st.kept style.registers))
    (app body end (statement_sound g style.registers f.body (length (before_body st f)) nowhere) (app (service 6) (epilogue f.cost) (service_sound 6 (omega arith)) (epilogue_sound f.cost)))
