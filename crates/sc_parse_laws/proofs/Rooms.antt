-- The room of an expression goes by its height.
use Rattle.std.proofs.Common.{◌≡◌, ℕ, suc, ◌+◌, ◌*◌, ◌≤◌, true, List, [], ◌∷◌, ◌++◌, map, length, Option, refl, sym, ◌∙◌, ap, subst, arith}
use Rattle.std.specs.Prelude.{max}
use Rattle.std.proofs.lemmas.Bool.Decides.{nat_tests}
use Rattle.sc_tree.specs.declared.operator.Binary.{Binary}
use Rattle.sc_tree.specs.declared.operator.Unary.{Unary}
use Rattle.sc_tree.specs.declared.operator.Postfix.{Postfix}
use Rattle.sc_tree.specs.declared.expression.Constant.{Constant}
use Rattle.sc_tree.specs.declared.expression.TypeName.{TypeName}
use Rattle.sc_tree.specs.declared.expression.Expr.{Expr, fold-roll-Expr}
use Rattle.sc_tree.specs.declared.expression.Expr.TheVariants as e
use Rattle.sc_tree.specs.declared.expression.Derivation.TheOpen.{Expr-F}
use Rattle.sc_tree.specs.Room.{room_of, room_in, in_order}
use Rattle.sc_parse_names.specs.declared.kind.Symbol.{Symbol}
use Rattle.sc_parse_names.specs.Names.{Names}
use Rattle.sc_parse_grammar.specs.declared.operand.Operand.{Operand}
use Rattle.sc_parse_grammar.specs.Nodes.{higher}
use Rattle.sc_parse_grammar.specs.Grammar as g
use Rattle.sc_parse_grammar.specs.Grammar.{Phrase, Arguments}
use Rattle.sc_parse_expr.specs.declared.driver.Found.{Found}
use Rattle.sc_parse_expr.specs.Reading.{IsFound}

higher_is : (n : ℕ) → higher n ≤ 200 → higher n ≡ n + 1
higher_is n h = grind (arith, nat_tests, h)

-- one operand more
one_more : (h : ℕ) (xs : List ℕ) (y m : ℕ) → in_order h xs ≤ m → y + h + length xs ≤ m → in_order h (xs ++ y ∷ []) ≤ m
one_more h [] y m p q = omega (arith, q)
one_more h (x ∷ xs) y m p q =
    let rest : in_order (h + 1) (xs ++ y ∷ []) ≤ m = one_more (h + 1) xs y m (omega (arith, p)) (omega (arith, q)) in
    omega (arith, p, rest)

map_more : (xs : List Expr) (y : Expr) → map room_of (xs ++ y ∷ []) ≡ map room_of xs ++ room_of y ∷ []
map_more [] y = refl
map_more (x ∷ xs) y = ap (λ (z : List ℕ). room_of x ∷ z) (map_more xs y)

map_length : (xs : List Expr) → length (map room_of xs) ≡ length xs
map_length [] = refl
map_length (x ∷ xs) = ap suc (map_length xs)

length_more : {X : Type 0} (xs : List X) (y : X) → length (xs ++ y ∷ []) ≡ suc (length xs)
length_more [] y = refl
length_more (x ∷ xs) y = ap suc (length_more xs y)

-- the room of each node by those of its parts
name_room : (l : ℕ) (n : List ℕ) → room_of (e.Name l n) ≡ 1
name_room l n = ap room_of (sym (e.rolls-Name l n)) ∙ fold-roll-Expr ℕ ℕ ℕ ℕ ℕ ℕ ℕ (λ _. 0) room_in (λ _. 0) (λ _. 0) (λ _. 0) (λ _. 0) (λ _. 0) (Expr-F.Name l n)

constant_room : (l : ℕ) (c : Option Constant) → room_of (e.Constant l c) ≡ 1
constant_room l c = ap room_of (sym (e.rolls-Constant l c)) ∙ fold-roll-Expr ℕ ℕ ℕ ℕ ℕ ℕ ℕ (λ _. 0) room_in (λ _. 0) (λ _. 0) (λ _. 0) (λ _. 0) (λ _. 0) (Expr-F.Constant l c)

string_room : (l : ℕ) (n : Option (List ℕ)) → room_of (e.String l n) ≡ 1
string_room l n = ap room_of (sym (e.rolls-String l n)) ∙ fold-roll-Expr ℕ ℕ ℕ ℕ ℕ ℕ ℕ (λ _. 0) room_in (λ _. 0) (λ _. 0) (λ _. 0) (λ _. 0) (λ _. 0) (Expr-F.String l n)

offset_room : (l : ℕ) (t : TypeName) (n : List ℕ) → room_of (e.OffsetOf l t n) ≡ 1
offset_room l t n = ap room_of (sym (e.rolls-OffsetOf l t n)) ∙ fold-roll-Expr ℕ ℕ ℕ ℕ ℕ ℕ ℕ (λ _. 0) room_in (λ _. 0) (λ _. 0) (λ _. 0) (λ _. 0) (λ _. 0) (Expr-F.OffsetOf l t n)

index_room : (l : ℕ) (a b : Expr) → room_of (e.Index l a b) ≡ max (room_of a + 0) (max (room_of b + 1) 0)
index_room l a b = ap room_of (sym (e.rolls-Index l a b)) ∙ fold-roll-Expr ℕ ℕ ℕ ℕ ℕ ℕ ℕ (λ _. 0) room_in (λ _. 0) (λ _. 0) (λ _. 0) (λ _. 0) (λ _. 0) (Expr-F.Index l a b)

call_room : (l : ℕ) (a : Expr) (args : List Expr) → room_of (e.Call l a args) ≡ max (room_of a + 0) (in_order 1 (map room_of args))
call_room l a args = ap room_of (sym (e.rolls-Call l a args)) ∙ fold-roll-Expr ℕ ℕ ℕ ℕ ℕ ℕ ℕ (λ _. 0) room_in (λ _. 0) (λ _. 0) (λ _. 0) (λ _. 0) (λ _. 0) (Expr-F.Call l a args)

member_room : (l : ℕ) (a : Expr) (n : List ℕ) → room_of (e.Member l a n) ≡ max (room_of a + 0) 0
member_room l a n = ap room_of (sym (e.rolls-Member l a n)) ∙ fold-roll-Expr ℕ ℕ ℕ ℕ ℕ ℕ ℕ (λ _. 0) room_in (λ _. 0) (λ _. 0) (λ _. 0) (λ _. 0) (λ _. 0) (Expr-F.Member l a n)

arrow_room : (l : ℕ) (a : Expr) (n : List ℕ) → room_of (e.Arrow l a n) ≡ max (room_of a + 0) 0
arrow_room l a n = ap room_of (sym (e.rolls-Arrow l a n)) ∙ fold-roll-Expr ℕ ℕ ℕ ℕ ℕ ℕ ℕ (λ _. 0) room_in (λ _. 0) (λ _. 0) (λ _. 0) (λ _. 0) (λ _. 0) (Expr-F.Arrow l a n)

postfix_room : (l : ℕ) (op : Postfix) (a : Expr) → room_of (e.Postfix l op a) ≡ max (room_of a + 0) 0
postfix_room l op a = ap room_of (sym (e.rolls-Postfix l op a)) ∙ fold-roll-Expr ℕ ℕ ℕ ℕ ℕ ℕ ℕ (λ _. 0) room_in (λ _. 0) (λ _. 0) (λ _. 0) (λ _. 0) (λ _. 0) (Expr-F.Postfix l op a)

unary_room : (l : ℕ) (op : Unary) (a : Expr) → room_of (e.Unary l op a) ≡ max (room_of a + 0) 0
unary_room l op a = ap room_of (sym (e.rolls-Unary l op a)) ∙ fold-roll-Expr ℕ ℕ ℕ ℕ ℕ ℕ ℕ (λ _. 0) room_in (λ _. 0) (λ _. 0) (λ _. 0) (λ _. 0) (λ _. 0) (Expr-F.Unary l op a)

size_room : (l : ℕ) (a : Expr) → room_of (e.SizeOf l a) ≡ 1
size_room l a = ap room_of (sym (e.rolls-SizeOf l a)) ∙ fold-roll-Expr ℕ ℕ ℕ ℕ ℕ ℕ ℕ (λ _. 0) room_in (λ _. 0) (λ _. 0) (λ _. 0) (λ _. 0) (λ _. 0) (Expr-F.SizeOf l a)

size_type_room : (l : ℕ) (t : TypeName) → room_of (e.SizeOfType l t) ≡ 1
size_type_room l t = ap room_of (sym (e.rolls-SizeOfType l t)) ∙ fold-roll-Expr ℕ ℕ ℕ ℕ ℕ ℕ ℕ (λ _. 0) room_in (λ _. 0) (λ _. 0) (λ _. 0) (λ _. 0) (λ _. 0) (Expr-F.SizeOfType l t)

cast_room : (l : ℕ) (t : TypeName) (a : Expr) → room_of (e.Cast l t a) ≡ max (room_of a + 0) 0
cast_room l t a = ap room_of (sym (e.rolls-Cast l t a)) ∙ fold-roll-Expr ℕ ℕ ℕ ℕ ℕ ℕ ℕ (λ _. 0) room_in (λ _. 0) (λ _. 0) (λ _. 0) (λ _. 0) (λ _. 0) (Expr-F.Cast l t a)

binary_room : (l : ℕ) (op : Binary) (a b : Expr) → room_of (e.Binary l op a b) ≡ max (room_of a + 0) (max (room_of b + 1) 0)
binary_room l op a b = ap room_of (sym (e.rolls-Binary l op a b)) ∙ fold-roll-Expr ℕ ℕ ℕ ℕ ℕ ℕ ℕ (λ _. 0) room_in (λ _. 0) (λ _. 0) (λ _. 0) (λ _. 0) (λ _. 0) (Expr-F.Binary l op a b)

conditional_room : (l : ℕ) (a b c : Expr) → room_of (e.Conditional l a b c) ≡ max (room_of a + 0) (max (room_of b + 1) (max (room_of c + 2) 0))
conditional_room l a b c = ap room_of (sym (e.rolls-Conditional l a b c)) ∙ fold-roll-Expr ℕ ℕ ℕ ℕ ℕ ℕ ℕ (λ _. 0) room_in (λ _. 0) (λ _. 0) (λ _. 0) (λ _. 0) (λ _. 0) (Expr-F.Conditional l a b c)

assign_room : (l : ℕ) (op : Option Binary) (a b : Expr) → room_of (e.Assign l op a b) ≡ max (room_of a + 0) (max (room_of b + 1) 0)
assign_room l op a b = ap room_of (sym (e.rolls-Assign l op a b)) ∙ fold-roll-Expr ℕ ℕ ℕ ℕ ℕ ℕ ℕ (λ _. 0) room_in (λ _. 0) (λ _. 0) (λ _. 0) (λ _. 0) (λ _. 0) (Expr-F.Assign l op a b)

comma_room : (l : ℕ) (a b : Expr) → room_of (e.Comma l a b) ≡ max (room_of a + 0) (max (room_of b + 1) 0)
comma_room l a b = ap room_of (sym (e.rolls-Comma l a b)) ∙ fold-roll-Expr ℕ ℕ ℕ ℕ ℕ ℕ ℕ (λ _. 0) room_in (λ _. 0) (λ _. 0) (λ _. 0) (λ _. 0) (λ _. 0) (Expr-F.Comma l a b)

-- a node over one part, two or three, whose height is at most 200
over_one : (m a r : ℕ) → r ≡ max (a + 0) 0 → higher m ≤ 200 → (m ≤ 200 → a ≤ 33 * m) → r ≤ 33 * higher m
over_one m a r e h p = let q = higher_is m h in let i : m ≤ 200 = omega (arith, q, h) in let z = p i in omega (arith, e, q, z)

over_two : (m n a b r : ℕ) → r ≡ max (a + 0) (max (b + 1) 0) → higher (max m n) ≤ 200 → (m ≤ 200 → a ≤ 33 * m) → (n ≤ 200 → b ≤ 33 * n) → r ≤ 33 * higher (max m n)
over_two m n a b r e h p o =
    let q = higher_is (max m n) h in
    let i : m ≤ 200 = omega (arith, q, h) in
    let j : n ≤ 200 = omega (arith, q, h) in
    let y = p i in
    let z = o j in
    omega (arith, e, q, y, z)

over_three : (l m n a b c r : ℕ) → r ≡ max (a + 0) (max (b + 1) (max (c + 2) 0)) → higher (max (max l m) n) ≤ 200 → (l ≤ 200 → a ≤ 33 * l) → (m ≤ 200 → b ≤ 33 * m) → (n ≤ 200 → c ≤ 33 * n) → r ≤ 33 * higher (max (max l m) n)
over_three l m n a b c r e h p o w =
    let q = higher_is (max (max l m) n) h in
    let i : l ≤ 200 = omega (arith, q, h) in
    let j : m ≤ 200 = omega (arith, q, h) in
    let k' : n ≤ 200 = omega (arith, q, h) in
    let x = p i in
    let y = o j in
    let z = w k' in
    omega (arith, e, q, x, y, z)

over_call : (m n a b r : ℕ) → r ≡ max (a + 0) b → higher (max m n) ≤ 200 → (m ≤ 200 → a ≤ 33 * m) → (n ≤ 200 → b ≤ 33 * n + 31) → r ≤ 33 * higher (max m n)
over_call m n a b r e h p o =
    let q = higher_is (max m n) h in
    let i : m ≤ 200 = omega (arith, q, h) in
    let j : n ≤ 200 = omega (arith, q, h) in
    let y = p i in
    let z = o j in
    omega (arith, e, q, y, z)

leaf : (r n : ℕ) → r ≡ 1 → 1 ≤ n → r ≤ 33 * n
leaf r n e h = omega (arith, e, h)

raised : (m : ℕ) → higher m ≤ 200 → 1 ≤ higher m
raised m h = let q = higher_is m h in omega (arith, q)

-- what a list of arguments takes, behind the function
abbrev Few : List Expr → ℕ → Type 0
Few args n = (n ≤ 200 → in_order 1 (map room_of args) ≤ 33 * n + 31) × (length args ≤ 31)

few_first : (x : Expr) (m : ℕ) → (m ≤ 200 → room_of x ≤ 33 * m) → Few (x ∷ []) (max 0 m)
few_first x m p = (λ h. let i : m ≤ 200 = omega (arith, h) in let q = p i in omega (arith, q), omega arith)

few_more : (args : List Expr) (x : Expr) (n m : ℕ) → Few args n → length args ≤ 30 → (m ≤ 200 → room_of x ≤ 33 * m) → Few (args ++ x ∷ []) (max n m)
few_more args x n m f low p = (
  λ h. let i : n ≤ 200 = omega (arith, h) in
      let j : m ≤ 200 = omega (arith, h) in
      let y = f.0 i in
      let z = p j in
      let same = map_length args in
      rw (map_more args x) (one_more 1 (map room_of args) (room_of x) (33 * max n m + 31) (omega (arith, y)) (omega (arith, z, same, low))),
  rw (length_more args x) (omega (arith, low)),
)

mutual
  rooms : {b c : Names} {ts : List Symbol} {x : Operand} → Phrase true b c ts x → x.height ≤ 200 → room_of x.tree ≤ 33 * x.height
  rooms (g.name t i n) h = leaf _ 1 (name_room _ _) (omega arith)
  rooms (g.constant t i) h = leaf _ 1 (constant_room _ _) (omega arith)
  rooms (g.string s) h = leaf _ 1 (string_room _ _) (omega arith)
  rooms (g.paren left right i p j) h = rooms p h
  rooms (g.offset_of t left sign name right i j n q p o l r) h = leaf _ 1 (offset_room _ _ _) (omega arith)
  rooms (g.index {a} {x} left right p i j q l) h = over_two a.height x.height _ _ _ (index_room _ _ _) h (rooms p) (rooms q)
  rooms (g.call {a} {args} {n} left right p i j q l) h = let f = few q in over_call a.height n _ _ _ (call_room _ _ _) h (rooms p) f.0
  rooms (g.call_none {a} left right p i j l) h = over_call a.height 0 _ 0 _ (call_room _ _ _) h (rooms p) (λ n. omega arith)
  rooms (g.member {a} dot t p i j l) h = over_one a.height _ _ (member_room _ _ _) h (rooms p)
  rooms (g.arrow {a} dot t p i j l) h = over_one a.height _ _ (arrow_room _ _ _) h (rooms p)
  rooms (g.postfix {a} t p i j) h = over_one a.height _ _ (postfix_room _ _ _) h (rooms p)
  rooms (g.unary {x} t i p j) h = over_one x.height _ _ (unary_room _ _ _) h (rooms p)
  rooms (g.size_of {x} t i p j) h = leaf _ (higher x.height) (size_room _ _) (raised x.height h)
  rooms (g.size_of_type t left right i j p l) h = leaf _ 1 (size_type_room _ _) (omega arith)
  rooms (g.cast {x} left right i p j q l) h = over_one x.height _ _ (cast_room _ _ _) h (rooms q)
  rooms (g.binary {a} {x} t p i j q l) h = over_two a.height x.height _ _ _ (binary_room _ _ _ _) h (rooms p) (rooms q)
  rooms (g.conditional {a} {x} {y} question colon p i j q l r m) h = over_three a.height x.height y.height _ _ _ _ (conditional_room _ _ _ _) h (rooms p) (rooms q) (rooms r)
  rooms (g.assign {a} {x} t p i j q l) h = over_two a.height x.height _ _ _ (assign_room _ _ _ _) h (rooms p) (rooms q)
  rooms (g.comma {a} {x} t p i q l) h = over_two a.height x.height _ _ _ (comma_room _ _ _) h (rooms p) (rooms q)

  few : {b c : Names} {ts : List Symbol} {args : List Expr} {n : ℕ} → Arguments true b c ts args n → Few args n
  few (g.first {x} p i) = few_first x.tree x.height (rooms p)
  few (g.more {x} {args} {n} t p i q j m) = few_more args x.tree n x.height (few p) (m refl) (rooms q)

pub little_room : (names after : Names) (tokens : List Symbol) (r : Found) → IsFound names after tokens r → room_of r.tree ≤ 6600
little_room names after tokens r v =
    let h = v.height in
    let p = rooms v.begins.phrase h in
    subst (λ z. room_of z ≤ 6600) (sym v.tree) (omega (arith, p, h))
