-- How many words the code of a statement has, at most, by its nodes and by what is no node.
use Rattle.std.proofs.Common.{◌≡◌, ◌≤◌, ℕ, suc, ◌+◌, ◌-◌, ◌*◌, ◌%◌, ◌^◌, ◌==◌, Bool, true, false, if◌then◌else◌, List, [], ◌∷◌, ◌++◌, length, map, sum, nat_lt, nat_le, pos, negsuc, neg_ℤ, Option, Some, None, sym, ap, subst, ◌∙◌, arith}
use Rattle.std.specs.Prelude.{sum_by, slice_get}
use Rattle.std.proofs.lemmas.List.Sums.{sum_by-cons}
use Rattle.sc_isa.specs.declared.instruction.Instr.TheVariants.{Branch, Jalr, Store}
use Rattle.sc_isa.specs.declared.instruction.BranchOp.TheVariants.{Bne}
use Rattle.sc_isa.specs.declared.instruction.LoadOp.TheVariants.{Lw}
use Rattle.sc_isa.specs.declared.instruction.StoreOp.TheVariants.{Sb, Sw}
use Rattle.sc_isa.specs.declared.instruction.RegOp.TheVariants as reg
use Rattle.sc_core.specs.declared.expression.CoreExpr.{CoreExpr}
use Rattle.sc_core.specs.declared.statement.AutoInit.{AutoInit}
use Rattle.sc_core.specs.declared.statement.AutoInit.TheVariants as piece
use Rattle.sc_core.specs.declared.statement.LabelAt.{LabelAt}
use Rattle.sc_core.specs.declared.statement.SwitchLabel.{SwitchLabel}
use Rattle.sc_core.specs.declared.statement.CoreStmt.{CoreStmt, out-CoreStmt, roll-CoreStmt, out-roll-CoreStmt, fold-roll-CoreStmt, ind-CoreStmt, map-CoreStmt}
use Rattle.sc_core.specs.declared.statement.CoreStmt.TheOpen.{CoreStmt-F}
use Rattle.sc_core.specs.declared.module.Auto.{Auto}
use Rattle.sc_core.specs.declared.module.Fun.{Fun}
use Rattle.sc_gen_code.specs.declared.symbolic.Symbolic.TheVariants.{Plain}
use Rattle.sc_gen_code.specs.declared.symbolic.Access.TheVariants as access
use Rattle.sc_gen_code.specs.Code.{Code, x0, ra, sp, a0, a1, t0, t1, t2, addi, apply, mv, ecall, li, near, over, jump, service, block_service, copied}
use Rattle.sc_gen_code.specs.Operators.{load_of, machine_type, store_of}
use Rattle.sc_gen_code.specs.declared.style.Kept.{Kept}
use Rattle.sc_gen_code.specs.declared.style.Style.{Style}
use Rattle.sc_gen_code.specs.Styles.{IsStyle, framed, first_spot}
use Rattle.sc_gen_operand.specs.Plans.{Skips, word}
use Rattle.sc_gen_operand.specs.Places.{slot_of}
use Rattle.sc_gen_operand.specs.Templates.{branched, comparison, is_joined}
use Rattle.sc_gen_expr.specs.Expressions.{test_code, condition_of, branch_back, is_within}
use Rattle.sc_gen_body.specs.declared.jumps.Place.{Place}
use Rattle.sc_gen_body.specs.Jumps.{Around, go, go_in, leaving, entering, unless_equal, labelled, label_jumps, label_rows, rows, start_of, inside, in_loop, in_switch, nowhere}
use Rattle.sc_gen_body.specs.Initializers.{text_bytes, zero_bytes, piece_code, pieces_code, place_behind}
use Rattle.sc_gen_body.specs.Frames.{Frame, frame, entered_in, value}
use Rattle.sc_gen_body.specs.Statements.{Body, epilogue, block_layer, entry_by, entry_of, whole, whole_by, items_code, starts, value_or_none, test_of, ends_turn, loop, choice, case_code, cases_code, default_code, switched, switch_inner, returned, go_to, turns_code, statement_layer, body_of, statement_code}
use Rattle.sc_gen_body.specs.Functions.{frame_taken, prologue, first_temporary, first_block, parameter_at, parameter_kept, parameters_taken, before_body, function_code}
use Rattle.sc_gen_laws.specs.Nodes.{expression_nodes, optional_nodes, item_nodes, pieces_nodes, statement_nodes, function_nodes}
use Rattle.sc_gen_laws.specs.Nodes as nodes
use Rattle.sc_gen_laws.specs.Counts.{Counts, counts, nothing, plus, conversions, of_expression, of_option, of_piece, of_pieces, counts_of, IsMeasured}
use Rattle.sc_gen_laws.specs.Counts as counted
use Rattle.sc_gen_laws.proofs.Lengths.{if_short, app, cons, cons_suc, longer, same, li-short, near-short, block_service-short, copied-short, framed-short}
use Rattle.sc_gen_laws.proofs.Weights.{sum_more, expression_fits}

-- so many words have room in a tree with so many nodes, and with this besides
abbrev pub Room : ℕ → ℕ → Counts → Type 0
Room w n c = w + 29 * c.labelled + 9 * c.items ≤ 29 * n + 3 * c.converts + 9 * c.missing + 8 * c.listed

join_sum : (w wa wb na nb n : ℕ) (a b : Counts) → n ≡ na + nb → w ≤ wa + wb → Room wa na a → Room wb nb b → Room w n (plus a b)
join_sum w wa wb na nb n a b e h p q = omega (arith, e, h, p, q)

join : (w wa wb na nb : ℕ) (a b : Counts) → w ≤ wa + wb → Room wa na a → Room wb nb b → Room w (na + nb) (plus a b)
join w wa wb na nb a b h p q = omega (arith, h, p, q)

node_of : (w n : ℕ) (c : Counts) → w ≤ 29 → Room w (1 + 0) nothing
node_of w n c h = omega (arith, h)

in_node : (w wa na : ℕ) (a : Counts) → w ≤ wa + 29 → Room wa na a → Room w (1 + na) a
in_node w wa na a h p = omega (arith, h, p)

in_node2 : (w wa wb na nb : ℕ) (a b : Counts) → w ≤ wa + wb + 29 → Room wa na a → Room wb nb b → Room w (1 + na + nb) (plus a b)
in_node2 w wa wb na nb a b h p q = omega (arith, h, p, q)

in_node3 : (w wa wb wd na nb nd : ℕ) (a b d : Counts) → w ≤ wa + wb + wd + 29 → Room wa na a → Room wb nb b → Room wd nd d → Room w (1 + na + nb + nd) (plus a (plus b d))
in_node3 w wa wb wd na nb nd a b d h p q r = omega (arith, h, p, q, r)

nothing_room : Room 0 0 nothing
nothing_room = omega arith

behind_label : (w n : ℕ) (c : Counts) → Room w n c → Room w (1 + n) (plus (counts 0 0 0 1 0) c)
behind_label w n c h = omega (arith, h)

-- an expression with 17 words to spare, and a condition
value_room : (f : Frame) (style : length f.style.kept ≤ 4) (e : CoreExpr) → Room (length (value f e) + 17) (expression_nodes e) (of_expression e)
value_room f style e = let h = (expression_fits f.style f.slots style e).1.0 word f.temporaries in omega (arith, h)

condition_room : (f : Frame) (style : length f.style.kept ≤ 4) (sense : Bool) (e : CoreExpr) → Room (length (test_code f.style f.slots sense e f.temporaries) + 17) (expression_nodes e) (of_expression e)
condition_room f style sense e = let h = (expression_fits f.style f.slots style e).1.0 (Skips sense) f.temporaries in omega (arith, h)

spare : (w v n : ℕ) (c : Counts) → w ≤ v → Room v n c → Room w n c
spare w v n c h p = omega (arith, h, p)

-- initialisers
text_length : (at : ℕ) (bs : List ℕ) → length (text_bytes at bs) ≤ 5 * length bs
text_length at [] = omega arith
text_length at (b ∷ bs) =
    let rest = text_length (place_behind at 1) bs in
    let put = access.Store Sb a0 in
    longer (text_bytes at (b ∷ bs)) (2 + (3 + 5 * length bs)) (5 * suc (length bs))
    (app (li a0 b) (near at put ++ text_bytes (place_behind at 1) bs) 2 (3 + 5 * length bs) (li-short a0 b) (app (near at put) (text_bytes (place_behind at 1) bs) 3 (5 * length bs) (near-short at put) rest))
    (omega arith)

zero_length : (at n : ℕ) → length (zero_bytes at n) ≤ 9
zero_length at n =
    let fill = Plain (Store Sb x0 t1 (pos 0)) ∷ addi t1 t1 (pos 1) ∷ Plain (Branch Bne t1 t2 (negsuc 7)) ∷ [] in
    let end = near (place_behind at n) (access.Address t2) ++ fill in
    if_short (n == 0) [] (near at (access.Address t1) ++ end) 9 (omega arith)
    (app (near at (access.Address t1)) end 3 6 (near-short at (access.Address t1)) (app (near (place_behind at n) (access.Address t2)) fill 3 3 (near-short (place_behind at n) (access.Address t2)) (omega arith)))

-- the nodes of a piece, but for the item itself
abbrev low : AutoInit → ℕ
low (piece.Value at t e) = expression_nodes e
low (piece.Text at bytes) = length bytes
low (piece.Zero at n) = 0
low (piece.Structure n e) = expression_nodes e

abbrev low_all : List AutoInit → ℕ
low_all [] = 0
low_all (p ∷ ps) = low p + low_all ps

low-item : (p : AutoInit) → low p ≤ item_nodes p
low-item (piece.Value at t e) = omega arith
low-item (piece.Text at bytes) = same (length bytes)
low-item (piece.Zero at n) = same 0
low-item (piece.Structure n e) = same (expression_nodes e)

low-sum : (ps : List AutoInit) → low_all ps ≤ sum_by item_nodes ps
low-sum [] = omega arith
low-sum (p ∷ ps) = let a = low-item p in let b = low-sum ps in omega (arith, a, b, sum_by-cons item_nodes p ps)

low-pieces : (ps : List AutoInit) → low_all ps ≤ pieces_nodes ps
low-pieces [] = omega arith
low-pieces (piece.Value at t e ∷ []) = omega arith
low-pieces (piece.Value at t e ∷ q ∷ qs) = low-sum (piece.Value at t e ∷ q ∷ qs)
low-pieces (piece.Text at bytes ∷ ps) = low-sum (piece.Text at bytes ∷ ps)
low-pieces (piece.Zero at n ∷ ps) = low-sum (piece.Zero at n ∷ ps)
low-pieces (piece.Structure n e ∷ ps) = low-sum (piece.Structure n e ∷ ps)

value_piece : (w n c : ℕ) → Room (w + 17) n (counts c 0 0 0 0) → Room (w + 4) n (counts c 0 0 0 1)
value_piece w n c h = omega (arith, h)

structure_piece : (w n c : ℕ) → Room (w + 17) n (counts c 0 0 0 0) → Room (w + (1 + (3 + 4))) n (counts c 0 0 0 1)
structure_piece w n c h = omega (arith, h)

text_piece : (w n : ℕ) → w ≤ 5 * n → Room w n (counts 0 0 0 0 n)
text_piece w n h = omega (arith, h)

zero_piece : (w : ℕ) → w ≤ 9 → Room w 0 (counts 0 0 1 0 0)
zero_piece w h = omega (arith, h)

raised : (w m n : ℕ) (c : Counts) → m ≤ n → Room w m c → Room w n c
raised w m n c h p = omega (arith, h, p)

module _ (f : Frame) (style : length f.style.kept ≤ 4) where
  piece_room : (at : ℕ) (p : AutoInit) → Room (length (piece_code f at p)) (low p) (of_piece p)
  piece_room at (piece.Value n t e) =
      let own = value f e in
      let put = access.Store (store_of (machine_type t)) a0 in
      spare _ (length own + 4) (expression_nodes e) (counts (conversions e) 0 0 0 1)
      (app own (framed f.style put (place_behind at n)) (length own) 4 (same (length own)) (framed-short f.style put (place_behind at n)))
      (value_piece (length own) (expression_nodes e) (conversions e) (value_room f style e))
  piece_room at (piece.Text n bytes) = text_piece (length (text_bytes (place_behind at n) bytes)) (length bytes) (text_length (place_behind at n) bytes)
  piece_room at (piece.Zero n count) = zero_piece (length (zero_bytes (place_behind at n) count)) (zero_length (place_behind at n) count)
  piece_room at (piece.Structure size e) =
      let own = value f e in
      spare _ (length own + (1 + (3 + 4))) (expression_nodes e) (counts (conversions e) 0 0 0 1)
      (app own (mv a1 a0 ∷ near at (access.Address a0) ++ copied size) (length own) (1 + (3 + 4)) (same (length own)) (cons (near at (access.Address a0) ++ copied size) (3 + 4) (app (near at (access.Address a0)) (copied size) 3 4 (near-short at (access.Address a0)) (copied-short size))))
      (structure_piece (length own) (expression_nodes e) (conversions e) (value_room f style e))

  pieces_low : (at : ℕ) (ps : List AutoInit) → Room (length (pieces_code f at ps)) (low_all ps) (of_pieces ps)
  pieces_low at [] = nothing_room
  pieces_low at (p ∷ ps) =
      join _ (length (piece_code f at p)) (length (pieces_code f at ps)) (low p) (low_all ps) (of_piece p) (of_pieces ps)
      (app (piece_code f at p) (pieces_code f at ps) (length (piece_code f at p)) (length (pieces_code f at ps)) (same (length (piece_code f at p))) (same (length (pieces_code f at ps))))
      (piece_room at p)
      (pieces_low at ps)

  pieces_room : (at : ℕ) (ps : List AutoInit) → Room (length (pieces_code f at ps)) (pieces_nodes ps) (of_pieces ps)
  pieces_room at ps = raised _ (low_all ps) (pieces_nodes ps) (of_pieces ps) (low-pieces ps) (pieces_low at ps)

-- jumps
pub leaving-short : (o : Option ℕ) → length (leaving o) ≤ 4
leaving-short None = omega arith
leaving-short (Some b) = block_service-short 3 b

pub entering-short : (o : Option ℕ) → length (entering o) ≤ 4
entering-short None = omega arith
entering-short (Some b) = block_service-short 2 b

go-short : (blocks : List ℕ) (at : ℕ) (place : Place) → length (go blocks at place) ≤ 5
go-short blocks at place =
    let out = leaving (slice_get blocks place.depth) in
    app out (jump (at + length out) place.word ∷ []) 4 1 (leaving-short (slice_get blocks place.depth)) (omega arith)

go_in-short : (block : Option ℕ) (at to : ℕ) → length (go_in block at to) ≤ 5
go_in-short block at to = app (entering block) (jump (at + length (entering block)) to ∷ []) 4 1 (entering-short block) (omega arith)

go_to-short : (blocks : List ℕ) (at : ℕ) (o : Option Place) → length (go_to blocks at o) ≤ 5
go_to-short blocks at None = omega arith
go_to-short blocks at (Some place) = go-short blocks at place

pub epilogue-short : (cost : ℕ) → length (epilogue cost) ≤ 7
epilogue-short cost =
    let far = li t0 cost ++ apply reg.Add sp sp t0 ∷ [] in
    let back = if nat_lt cost 2048 then addi sp sp (pos cost) ∷ [] else far in
    let end = Plain (Jalr x0 ra (pos 0)) ∷ [] in
    app (near (cost - 4) (access.Load Lw ra)) (back ++ end) 3 4 (near-short (cost - 4) (access.Load Lw ra))
    (app back end 3 1 (if_short (nat_lt cost 2048) (addi sp sp (pos cost) ∷ []) far 3 (omega arith) (app (li t0 cost) (apply reg.Add sp sp t0 ∷ []) 2 1 (li-short t0 cost) (omega arith))) (omega arith))

label_jumps-length : (at : ℕ) (start : ℕ → ℕ) (ls : List LabelAt) → length (label_jumps at start ls) ≤ length ls
label_jumps-length at start [] = omega arith
label_jumps-length at start (l ∷ ls) = cons_suc (label_jumps (at + 1) start ls) (length ls) (label_jumps-length (at + 1) start ls)

label_rows-length : (at : ℕ) (start : ℕ → ℕ) (ls : List LabelAt) → length (label_rows at start ls) ≤ 1 + length ls
label_rows-length at start [] = omega arith
label_rows-length at start (l ∷ ls) = cons (label_jumps (at + 1) start (l ∷ ls)) (length (l ∷ ls)) (label_jumps-length (at + 1) start (l ∷ ls))

case-short : (block : Option ℕ) (at v to : ℕ) → length (case_code block at v to) ≤ 8
case-short block at v to =
    let go_on = go_in block (at + length (li t1 v) + 1) to in
    app (li t1 v) (unless_equal (length (entering block) + 1) ∷ go_on) 2 6 (li-short t1 v) (cons go_on 5 (go_in-short block (at + length (li t1 v) + 1) to))

abbrev extra : Option ℕ → ℕ
extra None = 0
extra (Some n) = 5

one_label : (w n k : ℕ) → w ≤ 8 * n + k → 8 + w ≤ 8 * suc n + k
one_label w n k h = omega (arith, h)

a_default : (w n k : ℕ) → w ≤ 8 * n + 5 → w ≤ 8 * suc n + k
a_default w n k h = omega (arith, h)

default-length : (block : Option ℕ) (start : ℕ → ℕ) (at : ℕ) (d : Option ℕ) → length (default_code block start at d) ≤ extra d
default-length block start at None = omega arith
default-length block start at (Some n) = go_in-short block at (start n)

cases-length : (block : Option ℕ) (start : ℕ → ℕ) (at : ℕ) (d : Option ℕ) (ls : List SwitchLabel) → length (cases_code block start at d ls) ≤ 8 * length ls + extra d
cases-length block start at d [] = let h = default-length block start at d in omega (arith, h)
cases-length block start at d (l ∷ ls) =
    elim l.value as (λ (o : Option ℕ). length (elim o as (λ _. Code) [
      | None ↦ cases_code block start at (Some l.at) ls
      | Some v ↦ case_code block at v (start l.at) ++ cases_code block start (at + length (case_code block at v (start l.at))) d ls
    ]) ≤ 8 * length (l ∷ ls) + extra d) [
      | None ↦ a_default (length (cases_code block start at (Some l.at) ls)) (length ls) (extra d) (cases-length block start at (Some l.at) ls)
      | (Some v) ↦ (let one = case_code block at v (start l.at) in
          let rest = cases_code block start (at + length one) d ls in
          longer (one ++ rest) (8 + length rest) (8 * length (l ∷ ls) + extra d)
          (app one rest 8 (length rest) (case-short block at v (start l.at)) (same (length rest)))
          (one_label (length rest) (length ls) (extra d) (cases-length block start (at + length one) d ls)))
    ]

loop-length : (b : Bool) (body after test : Code) (m n k : ℕ) → length body ≤ m → length after ≤ n → length test ≤ k → length (loop b body after test) ≤ m + n + k + 3
loop-length b body after test m n k f g h =
    let all = body ++ (after ++ test) in
    let two = over (length body) ∷ all in
    let one = over (1 + length body + length after + length test) ∷ two in
    longer (loop b body after test) (1 + (1 + (1 + (m + (n + k))))) (m + n + k + 3)
    (cons one (1 + (1 + (m + (n + k)))) (cons two (1 + (m + (n + k))) (cons all (m + (n + k)) (app body (after ++ test) m (n + k) f (app after test n k g h)))))
    (omega arith)

switched-length : (value body labels : Code) (m n k : ℕ) → length value ≤ m → length body ≤ n → length labels ≤ k → length (switched value body labels) ≤ m + n + k + 3
switched-length value body labels m n k f g h =
    let end = over (length labels) ∷ labels in
    let two = over (length body + 1 + length labels) ∷ (body ++ end) in
    longer (switched value body labels) (m + (1 + (1 + (n + (1 + k))))) (m + n + k + 3)
    (app value (over (1 + length body + 1) ∷ two) m (1 + (1 + (n + (1 + k)))) f (cons two (1 + (n + (1 + k))) (cons (body ++ end) (n + (1 + k)) (app body end n (1 + k) g (cons labels k h)))))
    (omega arith)

branch-length : (test first : Code) (m n : ℕ) → length test ≤ m → length first ≤ n → length (choice test first None) ≤ m + n + 1
branch-length test first m n f g =
    longer (choice test first None) (m + (1 + n)) (m + n + 1) (app test (over (length first) ∷ first) m (1 + n) f (cons first n g)) (omega arith)

choice-length : (test first other : Code) (m n k : ℕ) → length test ≤ m → length first ≤ n → length other ≤ k → length (choice test first (Some other)) ≤ m + n + k + 2
choice-length test first other m n k f g h =
    let one = over (length first + 1) ∷ first in
    let end = over (length other) ∷ other in
    longer (choice test first (Some other)) ((m + (1 + n)) + (1 + k)) (m + n + k + 2)
    (app (test ++ one) end (m + (1 + n)) (1 + k) (app test one m (1 + n) f (cons first n g)) (cons other k h))
    (omega arith)

-- the entry of a block has at most four words
abbrev pub entry : Option ℕ → ℕ
entry None = 0
entry (Some b) = 4

whole-length : (o : Option ℕ) (p : Body) (s : CoreStmt) (at : ℕ) (around : Around) (n : ℕ) (c : Counts) →
    ((at : ℕ) → Room (length ((p s at around).code) + entry o) n c) → Room (length (whole_by o p s at around)) n c
whole-length None p s at around n c h = spare _ (length ((p s at around).code) + 0) n c (omega arith) (h at)
whole-length (Some b) p s at around n c h =
    let inner = (p s (at + length (block_service 2 b)) around).code in
    spare _ (length inner + 4) n c
    (longer (block_service 2 b ++ inner) (4 + length inner) (length inner + 4) (app (block_service 2 b) inner 4 (length inner) (block_service-short 2 b) (same (length inner))) (omega arith))
    (h (at + length (block_service 2 b)))

entry-short : (o : Option ℕ) → entry o ≤ 4
entry-short None = omega arith
entry-short (Some b) = omega arith

block_room : (w wi n l k : ℕ) (c : Counts) → w ≤ (1 + l) + (wi + 4) → k ≤ 4 → Room wi n c → Room (w + k) (1 + n) (plus (counts 0 l 0 0 0) c)
block_room w wi n l k c h e p = omega (arith, h, e, p)

switch_room : (w we wi ne n e l : ℕ) (c : Counts) → w ≤ we + wi + (8 * l + 0) + 3 → we + 17 ≤ 29 * ne + 3 * e → Room wi n c → Room (w + 0) (1 + ne + n) (plus (counts e l 0 0 0) c)
switch_room w we wi ne n e l c h f p = omega (arith, h, f, p)

plain_end : (w n : ℕ) (c : Counts) → Room w n c → Room (w + 0) n c
plain_end w n c h = omega (arith, h)

for_room : (w wf we wa ws nf ne na ns : ℕ) (f e a c : Counts) → w ≤ wf + (ws + wa + (we + 1) + 3) → Room wf nf f → Room we ne e → Room wa na a → Room ws ns c →
    Room w (1 + nf + ne + na + ns) (plus (plus f (plus e a)) c)
for_room w wf we wa ws nf ne na ns f e a c h p q r s = omega (arith, h, p, q, r, s)

looped : (w ws we ne ns : ℕ) (e c : Counts) → w ≤ ws + 0 + we + 3 → Room we ne e → Room ws ns c → Room w (1 + (ne + ns)) (plus e c)
looped w ws we ne ns e c h p q = omega (arith, h, p, q)

while_end : (w ne ns : ℕ) (e c : Counts) → Room w (1 + (ne + ns)) (plus e c) → Room (w + 0) (1 + ne + ns) (plus e c)
while_end w ne ns e c h = omega (arith, h)

do_end : (w ne ns : ℕ) (e c : Counts) → Room w (1 + (ne + ns)) (plus e c) → Room (w + 0) (1 + ns + ne) (plus e c)
do_end w ne ns e c h = omega (arith, h)

module _ (f : Frame) (style : length f.style.kept ≤ 4) where
  expr_room : (e : CoreExpr) → Room (length (value f e)) (expression_nodes e) (of_expression e)
  expr_room e = spare _ (length (value f e) + 17) (expression_nodes e) (of_expression e) (omega arith) (value_room f style e)

  tested_room : (e : CoreExpr) → Room (length (test_of f e)) (expression_nodes e) (of_expression e)
  tested_room e = spare _ (length (test_of f e) + 17) (expression_nodes e) (of_expression e) (omega arith) (condition_room f style true e)

  option_room : (o : Option CoreExpr) → Room (length (value_or_none f o)) (optional_nodes o) (of_option o)
  option_room None = nothing_room
  option_room (Some e) = expr_room e

  -- the operands of a condition are no more words than its value has
  condition_short : (e : CoreExpr) → Room (length (condition_of f.style f.slots e f.temporaries) + 17) (expression_nodes e) (of_expression e)
  condition_short e = let h = (expression_fits f.style f.slots style e).1.1 f.temporaries in omega (arith, h)

  turn_of : (b : Bool) (e : CoreExpr) (from top : ℕ) → Room (length (
      if b then test_code f.style f.slots false e f.temporaries ++ jump (from + length (test_code f.style f.slots false e f.temporaries)) top ∷ []
      else condition_of f.style f.slots e f.temporaries ++ branch_back (comparison f.style f.slots e f.temporaries) true top (from + length (condition_of f.style f.slots e f.temporaries))
      )) (expression_nodes e) (of_expression e)
  turn_of true e from top =
      let own = test_code f.style f.slots false e f.temporaries in
      spare _ (length own + 17) (expression_nodes e) (of_expression e)
      (longer (own ++ jump (from + length own) top ∷ []) (length own + 1) (length own + 17) (app own (jump (from + length own) top ∷ []) (length own) 1 (same (length own)) (omega arith)) (omega arith))
      (condition_room f style false e)
  turn_of false e from top =
      let own = condition_of f.style f.slots e f.temporaries in
      let c = comparison f.style f.slots e f.temporaries in
      let here = from + length own in
      spare _ (length own + 17) (expression_nodes e) (of_expression e)
      (longer (own ++ branch_back c true top here) (length own + 2) (length own + 17)
      (app own (branch_back c true top here) (length own) 2 (same (length own))
      (if_short (is_within top here) (branched c true (neg_ℤ (pos (4 * (here - top)))) ∷ []) (branched c false (pos 8) ∷ jump (here + 1) top ∷ []) 2 (omega arith) (omega arith)))
      (omega arith))
      (condition_short e)

  -- the jump back of a loop without a test belongs to the loop itself
  abbrev own_words : Option CoreExpr → ℕ
  own_words None = 1
  own_words (Some e) = 0

  turn_room : (o : Option CoreExpr) (from top : ℕ) → (w : ℕ) × ((length (ends_turn f o from top) ≤ w + 1) × Room w (optional_nodes o) (of_option o))
  turn_room None from top = (0, (omega arith, nothing_room))
  turn_room (Some e) from top = (length (ends_turn f (Some e) from top), (omega arith, turn_of (is_joined e) e from top))

  abbrev pub Holds : CoreStmt → Type 0
  Holds s = (at : ℕ) (around : Around) → Room (length ((body_of f s s at around).code) + entry (entry_of f s)) (statement_nodes s) (counts_of s)

  abbrev Known : Type 0
  Known = (s : CoreStmt) × Holds s

  abbrev plain : CoreStmt-F Known → CoreStmt-F CoreStmt
  plain y = map-CoreStmt Known CoreStmt (λ s. s.0) y

  abbrev all : List Known → List CoreStmt
  all ss = map (λ s. s.0) ss

  whole_room : (s : Known) (at : ℕ) (around : Around) → Room (length (whole f (body_of f s.0) s.0 at around)) (statement_nodes s.0) (counts_of s.0)
  whole_room s at around = whole-length (entry_of f s.0) (body_of f s.0) s.0 at around (statement_nodes s.0) (counts_of s.0) (λ at. s.1 at around)

  items_room : (ss : List Known) (at : ℕ) (around : Around) →
      Room (length (items_code f (map (body_of f) (all ss)) (all ss) at around)) (sum (map statement_nodes (all ss))) (counted.all (map counts_of (all ss)))
  items_room [] at around = nothing_room
  items_room (s ∷ ss) at around =
      let first = whole f (body_of f s.0) s.0 at around in
      let rest = items_code f (map (body_of f) (all ss)) (all ss) (at + length first) around in
      join_sum _ (length first) (length rest) (statement_nodes s.0) (sum (map statement_nodes (all ss))) _ (counts_of s.0) (counted.all (map counts_of (all ss)))
      (sum_more (statement_nodes s.0) (map statement_nodes (all ss)))
      (app first rest (length first) (length rest) (same (length first)) (same (length rest))) (whole_room s at around) (items_room ss (at + length first) around)

  abbrev Layer : CoreStmt-F CoreStmt → Type 0
  Layer x = (at : ℕ) (around : Around) →
      Room (length ((statement_layer f (map-CoreStmt CoreStmt Body (body_of f) x) x at around).code) + entry (entry_by f (block_layer x)))
      (nodes.statement_layer (map-CoreStmt CoreStmt ℕ statement_nodes x))
      (counted.layer (map-CoreStmt CoreStmt Counts counts_of x))

  returned_room : (o : Option CoreExpr) → Room (length (returned f o) + 0) (1 + optional_nodes o) (of_option o)
  returned_room None = plain_end _ 1 nothing (node_of _ 0 nothing (longer (returned f None) (2 + 7) 29 (app (service 6) (epilogue f.cost) 2 7 (omega arith) (epilogue-short f.cost)) (omega arith)))
  returned_room (Some e) =
      let own = length (value f e) in
      plain_end _ (1 + expression_nodes e) (of_expression e)
      (in_node _ own (expression_nodes e) (of_expression e)
      (longer (returned f (Some e)) (own + (4 + 7)) (own + 29)
      (app (value f e) (block_service 3 0 ++ epilogue f.cost) own (4 + 7) (same own) (app (block_service 3 0) (epilogue f.cost) 4 7 (block_service-short 3 0) (epilogue-short f.cost)))
      (omega arith))
      (expr_room e))

  if_room : (e : CoreExpr) (s : Known) (other : Option Known) (at : ℕ) (around : Around) → Layer (plain (CoreStmt-F.If 0 e s other))
  if_room e s None at around a ar =
      let te = test_of f e in
      let ws = whole f (body_of f s.0) s.0 (a + length te + 1) ar in
      plain_end _ (1 + expression_nodes e + statement_nodes s.0 + 0) (plus (of_expression e) (plus (counts_of s.0) nothing)) (in_node3 _ (length te) (length ws) 0 (expression_nodes e) (statement_nodes s.0) 0 (of_expression e) (counts_of s.0) nothing
      (longer (choice te ws None) (length te + length ws + 1) (length te + length ws + 0 + 29) (branch-length te ws (length te) (length ws) (same (length te)) (same (length ws))) (omega arith))
      (tested_room e) (whole_room s (a + length te + 1) ar) nothing_room)
  if_room e s (Some r) at around a ar =
      let te = test_of f e in
      let ws = whole f (body_of f s.0) s.0 (a + length te + 1) ar in
      let wr = whole f (body_of f r.0) r.0 (a + length te + 1 + length ws + 1) ar in
      plain_end _ (1 + expression_nodes e + statement_nodes s.0 + statement_nodes r.0) (plus (of_expression e) (plus (counts_of s.0) (counts_of r.0))) (in_node3 _ (length te) (length ws) (length wr) (expression_nodes e) (statement_nodes s.0) (statement_nodes r.0) (of_expression e) (counts_of s.0) (counts_of r.0)
      (longer (choice te ws (Some wr)) (length te + length ws + length wr + 2) (length te + length ws + length wr + 29)
      (choice-length te ws wr (length te) (length ws) (length wr) (same (length te)) (same (length ws)) (same (length wr))) (omega arith))
      (tested_room e) (whole_room s (a + length te + 1) ar) (whole_room r (a + length te + 1 + length ws + 1) ar))

  -- a loop with its test
  loop_room : (e : CoreExpr) (s : Known) (b : Bool) (at : ℕ) (around : Around) →
      Room (length (turns_code f (body_of f s.0) b (Some e) None s.0 at around)) (1 + (expression_nodes e + statement_nodes s.0)) (plus (of_expression e) (counts_of s.0))
  loop_room e s b at around =
      let ws = whole f (body_of f s.0) s.0 (at + 3) (in_loop around (at + 1)) in
      let end = ends_turn f (Some e) (at + 3 + length ws + 0) (at + 3) in
      let l = loop-length b ws [] end (length ws) 0 (length end) (same (length ws)) (same 0) (same (length end)) in
      looped _ (length ws) (length end) (expression_nodes e) (statement_nodes s.0) (of_expression e) (counts_of s.0) l (turn_of (is_joined e) e (at + 3 + length ws + 0) (at + 3)) (whole_room s (at + 3) (in_loop around (at + 1)))

  weighed : (y : CoreStmt-F Known) → Layer (plain y)
  weighed (CoreStmt-F.Block l b ls ss) at around =
      let items = items_code f (map (body_of f) (all ss)) (all ss) (at + rows ls) (inside around (entered_in f b) ls at) in
      let start = start_of at (starts f (map (body_of f) (all ss)) (all ss) (at + rows ls) (inside around (entered_in f b) ls at)) in
      block_room _ (length items) (sum (map statement_nodes (all ss))) (length ls) (entry (entered_in f b)) (counted.all (map counts_of (all ss)))
      (app (label_rows at start ls) (items ++ leaving (entered_in f b)) (1 + length ls) (length items + 4) (label_rows-length at start ls)
      (app items (leaving (entered_in f b)) (length items) 4 (same (length items)) (leaving-short (entered_in f b))))
      (entry-short (entered_in f b))
      (items_room ss (at + rows ls) (inside around (entered_in f b) ls at))
  weighed (CoreStmt-F.Initialize l b n ps) at around = plain_end _ (pieces_nodes ps) (of_pieces ps) (pieces_room f style (slot_of f.slots b n) ps)
  weighed (CoreStmt-F.Empty l) at around = omega arith
  weighed (CoreStmt-F.Expression l e) at around = plain_end _ (1 + expression_nodes e) (of_expression e) (in_node _ (length (value f e)) (expression_nodes e) (of_expression e) (omega arith) (expr_room e))
  weighed (CoreStmt-F.If l e s other) at around = if_room e s other at around at around
  weighed (CoreStmt-F.Switch l e ls s) at around =
      let own = value f e in
      let body = switch_inner own (body_of f s.0) s.0 at around in
      let inner = body.code in
      let block = entry_of f s.0 in
      let start = start_of (at + length own + 2) body.starts in
      let labels = cases_code block start (at + length own + 2 + length inner + 1) None ls in
      switch_room _ (length own) (length inner) (expression_nodes e) (statement_nodes s.0) (conversions e) (length ls) (counts_of s.0)
      (switched-length own inner labels (length own) (length inner) (8 * length ls + 0) (same (length own)) (same (length inner))
      (cases-length block start (at + length own + 2 + length inner + 1) None ls))
      (let h = (expression_fits f.style f.slots style e).1.0 word f.temporaries in omega (arith, h))
      (spare (length inner) (length inner + entry block) (statement_nodes s.0) (counts_of s.0) (omega arith) (s.1 (at + length own + 2) (in_switch around (at + length own + 1))))
  weighed (CoreStmt-F.While l e s) at around = while_end _ (expression_nodes e) (statement_nodes s.0) (of_expression e) (counts_of s.0) (loop_room e s false at around)
  weighed (CoreStmt-F.Do l s line e) at around = do_end _ (expression_nodes e) (statement_nodes s.0) (of_expression e) (counts_of s.0) (loop_room e s true at around)
  weighed (CoreStmt-F.For l first e after s) at around =
      let before = value_or_none f first in
      let here = at + length before in
      let ws = whole f (body_of f s.0) s.0 (here + 3) (in_loop around (here + 1)) in
      let turns = turns_code f (body_of f s.0) false e after s.0 here around in
      let from = here + 3 + length ws + length (value_or_none f after) in
      let turn = turn_room e from (here + 3) in
      let loop = loop-length false ws (value_or_none f after) (ends_turn f e from (here + 3)) (length ws) (length (value_or_none f after)) (turn.0 + 1) (same (length ws)) (same (length (value_or_none f after))) turn.1.0 in
      plain_end _ (1 + optional_nodes first + optional_nodes e + optional_nodes after + statement_nodes s.0) (plus (plus (of_option first) (plus (of_option e) (of_option after))) (counts_of s.0)) (for_room _ (length before) turn.0 (length (value_or_none f after)) (length ws)
      (optional_nodes first) (optional_nodes e) (optional_nodes after) (statement_nodes s.0) (of_option first) (of_option e) (of_option after) (counts_of s.0)
      (app before turns (length before) (length ws + length (value_or_none f after) + (turn.0 + 1) + 3) (same (length before)) loop)
      (option_room first) turn.1.1 (option_room after) (whole_room s (here + 3) (in_loop around (here + 1))))
  weighed (CoreStmt-F.Case l s) at around = plain_end _ (1 + statement_nodes s.0) (plus (counts 0 0 0 1 0) (counts_of s.0)) (behind_label _ (statement_nodes s.0) (counts_of s.0) (whole_room s at around))
  weighed (CoreStmt-F.Default l s) at around = plain_end _ (1 + statement_nodes s.0) (plus (counts 0 0 0 1 0) (counts_of s.0)) (behind_label _ (statement_nodes s.0) (counts_of s.0) (whole_room s at around))
  weighed (CoreStmt-F.Label l s) at around = plain_end _ (1 + statement_nodes s.0) (plus (counts 0 0 0 1 0) (counts_of s.0)) (behind_label _ (statement_nodes s.0) (counts_of s.0) (whole_room s at around))
  weighed (CoreStmt-F.Goto l k) at around = plain_end _ 1 nothing (node_of _ 0 nothing (longer (go_to around.blocks at (labelled k around.labels)) 5 29 (go_to-short around.blocks at (labelled k around.labels)) (omega arith)))
  weighed (CoreStmt-F.Continue l) at around = plain_end _ 1 nothing (node_of _ 0 nothing (longer (go around.blocks at around.on_continue) 5 29 (go-short around.blocks at around.on_continue) (omega arith)))
  weighed (CoreStmt-F.Break l) at around = plain_end _ 1 nothing (node_of _ 0 nothing (longer (go around.blocks at around.on_break) 5 29 (go-short around.blocks at around.on_break) (omega arith)))
  weighed (CoreStmt-F.Return l e) at around = returned_room e

  carry : (w v n m : ℕ) (c d : Counts) → w ≡ v → n ≡ m → c ≡ d → Room v m d → Room w n c
  carry w v n m c d p q r h =
      subst (λ (z : Counts). Room w n z) (sym r) (subst (λ (z : ℕ). Room w z d) (sym q) (subst (λ (z : ℕ). Room z m d) (sym p) h))

  unrolled : (x : CoreStmt-F CoreStmt) (at : ℕ) (around : Around) →
      length ((body_of f (roll-CoreStmt x) (roll-CoreStmt x) at around).code) + entry (entry_of f (roll-CoreStmt x))
      ≡ length ((statement_layer f (map-CoreStmt CoreStmt Body (body_of f) x) x at around).code) + entry (entry_by f (block_layer x))
  unrolled x at around =
      ap (λ (p : Body). length ((p (roll-CoreStmt x) at around).code) + entry (entry_of f (roll-CoreStmt x)))
      (fold-roll-CoreStmt Body (λ p s. statement_layer f p (out-CoreStmt s)) x)
      ∙ ap (λ (z : CoreStmt-F CoreStmt). length ((statement_layer f (map-CoreStmt CoreStmt Body (body_of f) x) z at around).code) + entry (entry_by f (block_layer z))) (out-roll-CoreStmt x)

  pub statement_holds : (s : CoreStmt) → Holds s
  statement_holds = ind-CoreStmt Holds
      (λ x y is at around.
      carry _ _ _ _ _ _
      (unrolled x at around)
      (fold-roll-CoreStmt ℕ nodes.statement_layer x)
      (fold-roll-CoreStmt Counts counted.layer x)
      (subst (λ (z : CoreStmt-F CoreStmt). Layer z) is (weighed y) at around))

  pub statement_room : (s : CoreStmt) (at : ℕ) (around : Around) → Room (length (statement_code f s at around)) (statement_nodes s) (counts_of s)
  statement_room s at around = whole-length (entry_of f s) (body_of f s) s at around (statement_nodes s) (counts_of s) (λ at. statement_holds s at around)

frame_taken-short : (cost : ℕ) → length (frame_taken cost) ≤ 3
frame_taken-short cost =
    let far = li t0 cost ++ apply reg.Sub sp sp t0 ∷ [] in
    if_short (nat_le cost 2048) (addi sp sp (neg_ℤ (pos cost)) ∷ []) far 3 (omega arith) (app (li t0 cost) (apply reg.Sub sp sp t0 ∷ []) 2 1 (li-short t0 cost) (omega arith))

prologue-short : (cost : ℕ) → length (prologue cost) ≤ 9
prologue-short cost =
    let kept = near (cost - 4) (access.Store Sw ra) in
    let end = frame_taken cost ++ kept in
    cons (addi t1 x0 (pos 0) ∷ ecall ∷ end) 8 (cons (ecall ∷ end) 7 (cons end 6 (app (frame_taken cost) kept 3 3 (frame_taken-short cost) (near-short (cost - 4) (access.Store Sw ra)))))

-- copies of parameters
parameter-short : (cost : ℕ) (k : Kept) (o : Option ℕ) → length (parameter_kept cost k o) ≤ 3
parameter-short cost k None = omega arith
parameter-short cost k (Some i) =
    let above = near ((cost + 4 * (i - 8)) % 2 ^ 32) (access.Load (load_of k.of) k.register) in
    if_short (nat_lt i 8) (mv k.register (10 + i) ∷ []) (if nat_lt i 31 then above else []) 3 (omega arith)
    (if_short (nat_lt i 31) above [] 3 (near-short ((cost + 4 * (i - 8)) % 2 ^ 32) (access.Load (load_of k.of) k.register)) (omega arith))

parameters-length : (cost : ℕ) (xs : List Auto) (ks : List Kept) → length (parameters_taken cost xs ks) ≤ 3 * length ks
parameters-length cost xs [] = omega arith
parameters-length cost xs (k ∷ ks) =
    let h = app (parameter_kept cost k (parameter_at k.offset 0 xs)) (parameters_taken cost xs ks) 3 (3 * length ks) (parameter-short cost k (parameter_at k.offset 0 xs)) (parameters-length cost xs ks) in
    omega (arith, h)

pub before_body-short : (st : Style) (f : Fun) → length st.kept ≤ 4 → length (before_body st f) ≤ 21
before_body-short st f few =
    app (prologue f.cost) (parameters_taken f.cost (first_block f.blocks) st.kept) 9 12 (prologue-short f.cost)
    (let h = parameters-length f.cost (first_block f.blocks) st.kept in omega (arith, h, few))

last : (w ws n a : ℕ) (c : Counts) → w ≤ 21 + (ws + (2 + 7)) → Room ws n c → c.converts ≤ n → c.listed ≤ c.labelled → c.missing ≤ c.items + a → 4 * w ≤ 128 * (1 + a + n + 1)
last w ws n a c h p once named behind = omega (arith, h, p, once, named, behind)

-- a function of n nodes has at most 128 * (n + 1) bytes of text
pub function_fits : (st : Style) (f : Fun) → IsStyle st → IsMeasured f → 4 * length (function_code st f) ≤ 128 * (function_nodes f + 1)
function_fits st f style m =
    let g = frame st f (first_spot (first_temporary f)) in
    let body = statement_code g f.body (length (before_body st f)) nowhere in
    let end = service 6 ++ epilogue f.cost in
    last _ (length body) (statement_nodes f.body) (sum_by length f.blocks) (counts_of f.body)
    (app (before_body st f) (body ++ end) 21 (length body + (2 + 7)) (before_body-short st f style.few)
    (app body end (length body) (2 + 7) (same (length body)) (app (service 6) (epilogue f.cost) 2 7 (omega arith) (epilogue-short f.cost))))
    (statement_room g style.few f.body (length (before_body st f)) nowhere)
    m.once m.named m.behind
