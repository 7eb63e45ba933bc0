-- No piece of the code of a function between two units of work is longer than 63 turns.
use Rattle.std.proofs.Common.{◌≡◌, ◌≤◌, ℕ, ◌+◌, ◌*◌, Bool, true, ◌&&◌, List, [], ◌∷◌, ◌++◌, length, map, Option, Some, None, sym, subst, ◌∙◌, arith}
use Rattle.std.specs.List.{list_all}
use Rattle.std.specs.Prelude.{slice_get}
use Rattle.sc_isa.specs.declared.instruction.StoreOp.TheVariants.{Sb}
use Rattle.sc_core.specs.declared.expression.CoreExpr.{CoreExpr}
use Rattle.sc_core.specs.declared.statement.AutoInit.{AutoInit}
use Rattle.sc_core.specs.declared.statement.AutoInit.TheVariants as piece
use Rattle.sc_core.specs.declared.statement.SwitchLabel.{SwitchLabel}
use Rattle.sc_core.specs.declared.statement.CoreStmt.{CoreStmt, roll-CoreStmt, fold-roll-CoreStmt, ind-CoreStmt, map-CoreStmt}
use Rattle.sc_core.specs.declared.statement.CoreStmt.TheOpen.{CoreStmt-F}
use Rattle.sc_core.specs.declared.module.Fun.{Fun}
use Rattle.sc_gen_code.specs.declared.symbolic.Access.TheVariants as access
use Rattle.sc_gen_code.specs.Code.{a0, a1, t1, t2, mv, li, near, jump, copied, ecall, service, block_service}
use Rattle.sc_gen_code.specs.Operators.{machine_type, store_of}
use Rattle.sc_gen_code.specs.declared.style.Style.{Style}
use Rattle.sc_gen_code.specs.Styles.{IsStyle, framed, first_spot}
use Rattle.sc_gen_operand.specs.Plans.{Skips, word}
use Rattle.sc_gen_operand.specs.Places.{slot_of}
use Rattle.sc_gen_body.specs.declared.jumps.Place.{Place}
use Rattle.sc_gen_body.specs.Initializers.{place_behind}
use Rattle.sc_gen_body.specs.Jumps.{go, go_in, leaving, entering, unless_equal}
use Rattle.sc_gen_body.specs.Frames.{Frame, frame, entered_in}
use Rattle.sc_gen_body.specs.Statements.{epilogue}
use Rattle.sc_gen_body.specs.Functions.{first_temporary, before_body}
use Rattle.sc_gen_laws.specs.Turns.{Way, Plain_way, With_units, unit, straight, follow, either, in_order, node, turns, jumps, IsPaid, top}
use Rattle.sc_gen_laws.specs.Paths.{landed, value_way, condition_way, optional_way, turn_way, byte_way, bytes_way, piece_way, label_way, across, loop_way, statement_layer, statement_way, function_way, optional_once, piece_once, once_layer, converts_once}
use Rattle.sc_gen_laws.proofs.Lengths.{app, cons, li-short, near-short, copied-short, block_service-short, framed-short}
use Rattle.sc_gen_laws.proofs.Bodies.{epilogue-short, entering-short, leaving-short, before_body-short}
use Rattle.sc_gen_laws.proofs.Pieces.{Fine, fine_paid, wider, by_length, also, li-turns, and-left, and-right, Short, short_follow, short_either, short_straight, fine_short, node_fine}
use Rattle.sc_gen_laws.proofs.Paid.{expression_sound}

-- statements to which labels' jumps may lead
abbrev Lands : Way → Type 0
Lands (Plain_way n) = n ≤ 0
Lands (With_units before most behind) = (before ≤ 1) × (most ≤ 63) × (behind ≤ 0)

lands_more : (w v : Way) → Fine 0 w → Lands v → Lands (follow (landed w) v)
lands_more (Plain_way n) v f l = absurd f
lands_more (With_units b m e) (Plain_way n) f l = let x = f.0 in let z = f.2 in (omega (arith, x), f.1, omega (arith, z, l))
lands_more (With_units b m e) (With_units c k d) f l =
    let x = f.0 in let y = f.1 in let z = f.2 in let u = l.0 in let v = l.1 in (omega (arith, x), omega (arith, y, z, u, v), l.2)

lands_short : (w : Way) → Lands w → Short 1 w
lands_short (Plain_way n) l = omega (arith, l)
lands_short (With_units b m e) l = let z = l.2 in (l.0, l.1, omega (arith, z))

-- pieces of an initialiser
abbrev Sets : Way → Type 0
Sets (Plain_way n) = n ≤ 0
Sets (With_units before most behind) = (before ≤ 16) × (most ≤ 63) × (behind ≤ 2)

sets_more : (w v : Way) → Sets w → Sets v → Sets (follow w v)
sets_more (Plain_way m) (Plain_way n) s t = omega (arith, s, t)
sets_more (Plain_way m) (With_units b q e) s t = let x = t.0 in (omega (arith, s, x), t.1, t.2)
sets_more (With_units b q e) (Plain_way n) s t = let z = s.2 in (s.0, s.1, omega (arith, z, t))
sets_more (With_units b q e) (With_units c r f) s t =
    let y = s.1 in let z = s.2 in let u = t.0 in let v = t.1 in (s.0, omega (arith, y, z, u, v), t.2)

sets_short : (w : Way) → Sets w → Short 16 w
sets_short (Plain_way n) s = omega (arith, s)
sets_short (With_units b m e) s = let z = s.2 in (s.0, s.1, omega (arith, z))

-- a value, what puts it into the object, and the unit of this
value_sets : (w : Way) (n : ℕ) → Fine 3 w → n ≤ 16 → Sets (in_order (w ∷ Plain_way n ∷ unit ∷ []))
value_sets (Plain_way m) n f h = absurd f
value_sets (With_units b m e) n f h =
    let x = f.0 in let y = f.1 in let z = f.2 in (omega (arith, x), omega (arith, y, z, h), omega arith)

byte_sets : (n : ℕ) → n ≤ 16 → Sets (follow (Plain_way n) unit)
byte_sets n h = (omega (arith, h), omega arith, omega arith)

zero_sets : (n : ℕ) → n ≤ 12 → Sets (in_order (Plain_way n ∷ jumps 1 ∷ unit ∷ jumps 3 ∷ unit ∷ jumps 2 ∷ []))
zero_sets n h = (omega (arith, h), omega arith, omega arith)

bytes_set : (at : ℕ) (bs : List ℕ) → Sets (bytes_way at bs)
bytes_set at [] = omega arith
bytes_set at (b ∷ bs) =
    let own = li a0 b ++ near at (access.Store Sb a0) in
    sets_more (byte_way at b) (bytes_way (place_behind at 1) bs)
    (byte_sets (turns own) (by_length own 5 16 (app (li a0 b) (near at (access.Store Sb a0)) 2 3 (li-short a0 b) (near-short at (access.Store Sb a0))) (omega arith)))
    (bytes_set (place_behind at 1) bs)

-- labels of a `switch`, each of which is compared
abbrev Compares : Way → Type 0
Compares (Plain_way n) = n ≤ 0
Compares (With_units before most behind) = (before ≤ 0) × (most ≤ 63) × (behind ≤ 6)

compares_more : (w v : Way) → Compares w → Compares v → Compares (follow w v)
compares_more (Plain_way m) (Plain_way n) s t = omega (arith, s, t)
compares_more (Plain_way m) (With_units b q e) s t = let x = t.0 in (omega (arith, s, x), t.1, t.2)
compares_more (With_units b q e) (Plain_way n) s t = let z = s.2 in (s.0, s.1, omega (arith, z, t))
compares_more (With_units b q e) (With_units c r f) s t =
    let y = s.1 in let z = s.2 in let u = t.0 in let v = t.1 in (s.0, omega (arith, y, z, u, v), t.2)

compares_short : (w : Way) → Compares w → Short 6 w
compares_short (Plain_way n) s = omega (arith, s)
compares_short (With_units b m e) s = let x = s.0 in (omega (arith, x), s.1, s.2)

label_compares : (o : Option ℕ) → Compares (label_way o)
label_compares None = omega arith
label_compares (Some v) =
    let own = li t1 v ++ unless_equal 0 ∷ [] in
    let n = by_length own 3 6 (app (li t1 v) (unless_equal 0 ∷ []) 2 1 (li-short t1 v) (omega arith)) (omega arith) in
    (omega arith, omega arith, omega (arith, n))

labels_compare : (ls : List SwitchLabel) → Compares (in_order (map (λ (x : SwitchLabel). label_way x.value) ls))
labels_compare [] = omega arith
labels_compare (l ∷ ls) =
    compares_more (label_way l.value) (in_order (map (λ (x : SwitchLabel). label_way x.value) ls)) (label_compares l.value) (labels_compare ls)

-- what comes first, and a loop
loop_behind : (w v : Way) → Short 3 w → Fine 0 v → Fine 0 (follow unit (follow w v))
loop_behind w (Plain_way n) s f = absurd f
loop_behind (Plain_way n) (With_units b m e) s f =
    let x = f.0 in let y = f.1 in let z = f.2 in (omega arith, omega (arith, s, x, y), omega (arith, z))
loop_behind (With_units c k d) (With_units b m e) s f =
    let x = f.0 in let y = f.1 in let z = f.2 in let p = s.0 in let q = s.1 in let r = s.2 in
    (omega arith, omega (arith, x, y, p, q, r), omega (arith, z))

value_fine : (f : Frame) (style : IsStyle f.style) (e : CoreExpr) → (top e).once ≡ true → Fine 3 (value_way f e)
value_fine f style e once =
    let s = expression_sound f.style f.slots style e once in
    wider (3 * (top e).conversions) 3 (value_way f e) (let c = s.0 in omega (arith, c)) (s.1 word f.temporaries)

condition_fine : (f : Frame) (style : IsStyle f.style) (e : CoreExpr) → (top e).once ≡ true → Fine 4 (condition_way f e)
condition_fine f style e once =
    let s = expression_sound f.style f.slots style e once in
    wider (3 * (top e).conversions + 1) 4 (condition_way f e) (let c = s.0 in omega (arith, c)) (s.1 (Skips true) f.temporaries)

-- what holds of a statement in which no operand is converted twice
abbrev pub Quick : Frame → CoreStmt → Type 0
Quick f s = converts_once s ≡ true → Fine 0 (statement_way f s)

module _ (f : Frame) (style : IsStyle f.style) where
  value_short : (e : CoreExpr) → (top e).once ≡ true → Short 3 (value_way f e)
  value_short e h = fine_short 3 (value_way f e) (value_fine f style e h)

  optional_short : (o : Option CoreExpr) → optional_once o ≡ true → Short 3 (optional_way f o)
  optional_short None h = omega arith
  optional_short (Some e) h = value_short e h

  condition_short : (e : CoreExpr) → (top e).once ≡ true → Short 4 (condition_way f e)
  condition_short e h = fine_short 4 (condition_way f e) (condition_fine f style e h)

  test_short : (o : Option CoreExpr) → optional_once o ≡ true → Short 4 (turn_way f o)
  test_short None h = omega arith
  test_short (Some e) h = condition_short e h

  piece_sets : (at : ℕ) (p : AutoInit) → piece_once p ≡ true → Sets (piece_way f at p)
  piece_sets at (piece.Value n t e) h =
      let own = framed f.style (access.Store (store_of (machine_type t)) a0) (place_behind at n) in
      value_sets (value_way f e) (turns own) (value_fine f style e h)
      (by_length own 4 16 (framed-short f.style (access.Store (store_of (machine_type t)) a0) (place_behind at n)) (omega arith))
  piece_sets at (piece.Text n bytes) h = bytes_set (place_behind at n) bytes
  piece_sets at (piece.Zero n count) h =
      let first = near (place_behind at n) (access.Address t1) in
      let end = near (place_behind (place_behind at n) count) (access.Address t2) in
      zero_sets (turns (first ++ end))
      (by_length (first ++ end) 6 12 (app first end 3 3 (near-short (place_behind at n) (access.Address t1)) (near-short (place_behind (place_behind at n) count) (access.Address t2))) (omega arith))
  piece_sets at (piece.Structure size e) h =
      let own = mv a1 a0 ∷ near at (access.Address a0) ++ copied size in
      value_sets (value_way f e) (turns own) (value_fine f style e h)
      (by_length own 8 16 (cons (near at (access.Address a0) ++ copied size) 7 (app (near at (access.Address a0)) (copied size) 3 4 (near-short at (access.Address a0)) (copied-short size))) (omega arith))

  pieces_set : (at : ℕ) (ps : List AutoInit) → list_all piece_once ps ≡ true → Sets (in_order (map (piece_way f at) ps))
  pieces_set at [] h = omega arith
  pieces_set at (p ∷ ps) h =
      sets_more (piece_way f at p) (in_order (map (piece_way f at) ps)) (piece_sets at p (and-left (piece_once p) (list_all piece_once ps) h))
      (pieces_set at ps (and-right (piece_once p) (list_all piece_once ps) h))

  loop_fine : (body after test : Way) → Fine 0 body → Short 3 after → Short 4 test → Fine 0 (loop_way body after test)
  loop_fine body after test b a t =
      let j : 1 ≤ 1 = omega arith in
      let s = fine_short 0 body b in
      node_fine
      ((1, jumps 1) ∷ (4, test) ∷ (1, jumps 1) ∷ (0, body) ∷ (1, jumps 1) ∷ (3, after) ∷ (4, test) ∷ (1, jumps 1) ∷ (0, body) ∷ (1, jumps 1) ∷ (3, after) ∷ (4, test) ∷ (1, jumps 1) ∷ [])
      (omega arith)
      (j, (t, (j, (s, (j, (a, (t, (j, (s, (j, (a, (t, (j, tt)))))))))))))

  abbrev Known : Type 0
  Known = (s : CoreStmt) × Quick f s

  abbrev plain : CoreStmt-F Known → CoreStmt-F CoreStmt
  plain y = map-CoreStmt Known CoreStmt (λ s. s.0) y

  abbrev all : List Known → List CoreStmt
  all ss = map (λ s. s.0) ss

  abbrev holds : List Bool → Bool
  holds bs = list_all (λ b. b) bs

  items_land : (ss : List Known) → holds (map converts_once (all ss)) ≡ true → Lands (in_order (map landed (map (statement_way f) (all ss))))
  items_land [] h = omega arith
  items_land (s ∷ ss) h =
      lands_more (statement_way f s.0) (in_order (map landed (map (statement_way f) (all ss)))) (s.1 (and-left (converts_once s.0) (holds (map converts_once (all ss))) h))
      (items_land ss (and-right (converts_once s.0) (holds (map converts_once (all ss))) h))

  abbrev Layer : CoreStmt-F CoreStmt → Type 0
  Layer x = once_layer (map-CoreStmt CoreStmt Bool converts_once x) ≡ true → Fine 0 (statement_layer f (map-CoreStmt CoreStmt Way (statement_way f) x))

  one : (w : Way) → Fine 0 w → Fine 0 (node (w ∷ []))
  one w h = node_fine ((0, w) ∷ []) (omega arith) (fine_short 0 w h, tt)

  jumped : Fine 0 (node (across ∷ []))
  jumped = node_fine ((6, across) ∷ []) (omega arith) (omega arith, tt)

  branch_fine : (e : CoreExpr) (p q : Way) → (top e).once ≡ true → Fine 0 p → Short 0 q →
      Fine 0 (node (condition_way f e ∷ either (follow p (jumps 1)) (follow (jumps 1) q) ∷ []))
  branch_fine e p q h s t =
      node_fine ((4, condition_way f e) ∷ (1, either (follow p (jumps 1)) (follow (jumps 1) q)) ∷ []) (omega arith) (
        condition_short e h,
        (
          short_either 1 (follow p (jumps 1)) (follow (jumps 1) q) (omega arith)
              (short_follow 0 1 p (jumps 1) (omega arith) (fine_short 0 p s) (omega arith))
              (short_follow 1 0 (jumps 1) q (omega arith) (omega arith) t),
          tt,
        ),
      )

  found : (y : CoreStmt-F Known) → Layer (plain y)
  found (CoreStmt-F.Block l b ls ss) h =
      node_fine ((8, straight (entering (entered_in f b))) ∷ (1, in_order (map landed (map (statement_way f) (all ss)))) ∷ (8, straight (leaving (entered_in f b))) ∷ []) (omega arith) (
        short_straight (entering (entered_in f b)) 4 8 (entering-short (entered_in f b)) (omega arith),
        (
          lands_short (in_order (map landed (map (statement_way f) (all ss)))) (items_land ss h),
          (short_straight (leaving (entered_in f b)) 4 8 (leaving-short (entered_in f b)) (omega arith), tt),
        ),
      )
  found (CoreStmt-F.Initialize l b i ps) h =
      node_fine ((16, in_order (map (piece_way f (slot_of f.slots b i)) ps)) ∷ []) (omega arith)
      (sets_short (in_order (map (piece_way f (slot_of f.slots b i)) ps)) (pieces_set (slot_of f.slots b i) ps h), tt)
  found (CoreStmt-F.Empty l) h = node_fine [] (omega arith) tt
  found (CoreStmt-F.Expression l e) h = node_fine ((3, value_way f e) ∷ []) (omega arith) (value_short e h, tt)
  found (CoreStmt-F.If l e p None) h =
      let rest = and-right (top e).once (converts_once p.0 && true) h in
      branch_fine e (statement_way f p.0) (Plain_way 0) (and-left (top e).once (converts_once p.0 && true) h) (p.1 (and-left (converts_once p.0) true rest)) (omega arith)
  found (CoreStmt-F.If l e p (Some q)) h =
      let rest = and-right (top e).once (converts_once p.0 && converts_once q.0) h in
      branch_fine e (statement_way f p.0) (statement_way f q.0) (and-left (top e).once (converts_once p.0 && converts_once q.0) h)
      (p.1 (and-left (converts_once p.0) (converts_once q.0) rest)) (fine_short 0 (statement_way f q.0) (q.1 (and-right (converts_once p.0) (converts_once q.0) rest)))
  found (CoreStmt-F.Switch l e ls p) h =
      node_fine
      ((3, value_way f e) ∷ (1, jumps 1) ∷ (6, in_order (map (λ (x : SwitchLabel). label_way x.value) ls)) ∷ (6, across) ∷ (0, statement_way f p.0) ∷ (2, jumps 2) ∷ []) (omega arith) (
        value_short e (and-left (top e).once (converts_once p.0) h),
        (
          omega arith,
          (
            compares_short (in_order (map (λ (x : SwitchLabel). label_way x.value) ls)) (labels_compare ls),
            (
              omega arith,
              (fine_short 0 (statement_way f p.0) (p.1 (and-right (top e).once (converts_once p.0) h)), (omega arith, tt)),
            ),
          ),
        ),
      )
  found (CoreStmt-F.While l e p) h =
      loop_fine (statement_way f p.0) (Plain_way 0) (turn_way f (Some e)) (p.1 (and-right (top e).once (converts_once p.0) h)) (omega arith)
      (test_short (Some e) (and-left (top e).once (converts_once p.0) h))
  found (CoreStmt-F.Do l p line e) h =
      loop_fine (statement_way f p.0) (Plain_way 0) (turn_way f (Some e)) (p.1 (and-right (top e).once (converts_once p.0) h)) (omega arith)
      (test_short (Some e) (and-left (top e).once (converts_once p.0) h))
  found (CoreStmt-F.For l first e after p) h =
      let a = and-right (optional_once first) (optional_once e && (optional_once after && converts_once p.0)) h in
      let b = and-right (optional_once e) (optional_once after && converts_once p.0) a in
      loop_behind (optional_way f first) (loop_way (statement_way f p.0) (optional_way f after) (turn_way f e))
      (optional_short first (and-left (optional_once first) (optional_once e && (optional_once after && converts_once p.0)) h))
      (loop_fine (statement_way f p.0) (optional_way f after) (turn_way f e) (p.1 (and-right (optional_once after) (converts_once p.0) b))
      (optional_short after (and-left (optional_once after) (converts_once p.0) b))
      (test_short e (and-left (optional_once e) (optional_once after && converts_once p.0) a)))
  found (CoreStmt-F.Case l p) h = one (statement_way f p.0) (p.1 h)
  found (CoreStmt-F.Default l p) h = one (statement_way f p.0) (p.1 h)
  found (CoreStmt-F.Label l p) h = one (statement_way f p.0) (p.1 h)
  found (CoreStmt-F.Goto l k) h = jumped
  found (CoreStmt-F.Continue l) h = jumped
  found (CoreStmt-F.Break l) h = jumped
  found (CoreStmt-F.Return l None) h =
      let own = service 6 ++ epilogue f.cost in
      node_fine ((18, straight own) ∷ []) (omega arith) (short_straight own 9 18 (app (service 6) (epilogue f.cost) 2 7 (omega arith) (epilogue-short f.cost)) (omega arith), tt)
  found (CoreStmt-F.Return l (Some e)) h =
      let own = block_service 3 0 ++ epilogue f.cost in
      node_fine ((3, value_way f e) ∷ (22, straight own) ∷ []) (omega arith)
      (value_short e h, (short_straight own 11 22 (app (block_service 3 0) (epilogue f.cost) 4 7 (block_service-short 3 0) (epilogue-short f.cost)) (omega arith), tt))

  carry : (b d : Bool) (w v : Way) → b ≡ d → w ≡ v → (d ≡ true → Fine 0 v) → b ≡ true → Fine 0 w
  carry b d w v p q h once = subst (λ (z : Way). Fine 0 z) (sym q) (h (sym p ∙ once))

  pub statement_quick : (s : CoreStmt) → Quick f s
  statement_quick = ind-CoreStmt (Quick f)
      (λ x y is.
      carry (converts_once (roll-CoreStmt x)) (once_layer (map-CoreStmt CoreStmt Bool converts_once x)) (statement_way f (roll-CoreStmt x))
      (statement_layer f (map-CoreStmt CoreStmt Way (statement_way f) x))
      (fold-roll-CoreStmt Bool once_layer x) (fold-roll-CoreStmt Way (statement_layer f) x)
      (subst Layer is (found y)))

-- no piece between two units is longer than 63 turns
pub bodies_are_paid : (st : Style) (f : Fun) → IsStyle st → converts_once f.body ≡ true → IsPaid (function_way st f)
bodies_are_paid st f style once =
    let g = frame st f (first_spot (first_temporary f)) in
    let end = service 6 ++ epilogue f.cost in
    let w = statement_way g f.body in
    fine_paid 0 (function_way st f) (omega arith)
    (node_fine ((42, straight (before_body st f)) ∷ (0, w) ∷ (18, straight end) ∷ []) (omega arith) (
      short_straight (before_body st f) 21 42 (before_body-short st f style.few) (omega arith),
      (
        fine_short 0 w (statement_quick g style f.body once),
        (short_straight end 9 18 (app (service 6) (epilogue f.cost) 2 7 (omega arith) (epilogue-short f.cost)) (omega arith), tt),
      ),
    ))

-- a service with a block's number
service-turns : (k b : ℕ) → turns (block_service k b) ≤ 5
service-turns k b = let n = li-turns t1 b in let m = also (li t1 b) (ecall ∷ []) 2 2 n (omega arith) in omega (arith, m)

leaving-turns : (o : Option ℕ) → turns (leaving o) ≤ 5
leaving-turns None = omega arith
leaving-turns (Some b) = service-turns 3 b

entering-turns : (o : Option ℕ) → turns (entering o) ≤ 5
entering-turns None = omega arith
entering-turns (Some b) = service-turns 2 b

-- no jump out of blocks or into one takes more than 6 turns
pub exits_are_short : (blocks : List ℕ) (at : ℕ) (place : Place) → turns (go blocks at place) ≤ 6
exits_are_short blocks at place =
    also (leaving (slice_get blocks place.depth)) (jump (at + length (leaving (slice_get blocks place.depth))) place.word ∷ []) 5 1 (leaving-turns (slice_get blocks place.depth)) (omega arith)

pub entries_are_short : (block : Option ℕ) (at to : ℕ) → turns (go_in block at to) ≤ 6
entries_are_short block at to = also (entering block) (jump (at + length (entering block)) to ∷ []) 5 1 (entering-turns block) (omega arith)
