-- Statements that end, and places where something is due.
use Rattle.std.proofs.Common.{◌≡◌, ℕ, suc, ◌≤◌, Bool, true, false, List, [], ◌∷◌, ◌++◌, length, None, Ok, Err, refl, sym, ◌∙◌, ap, subst, arith, append_assoc, append-nil}
use Rattle.std.specs.Prelude.{◌&&◌, nat_lt, if◌then◌else◌}
use Rattle.std.proofs.lemmas.Bool.{and_parts, ltb-true}
use Rattle.sc_tree.specs.declared.expression.TypeWord.{TypeWord}
use Rattle.sc_tree.specs.declared.expression.TypeWord.TheVariants as word
use Rattle.sc_tree.specs.declared.expression.Specifiers.{Specifiers}
use Rattle.sc_tree.specs.declared.expression.Declarator.{Declarator}
use Rattle.sc_tree.specs.declared.statement.Statement.{Statement}
use Rattle.sc_tree.specs.declared.statement.Statement.TheVariants as s
use Rattle.sc_tree.specs.declared.statement.Block.{Block}
use Rattle.sc_tree.specs.declared.statement.External.{External}
use Rattle.sc_tree.specs.declared.statement.External.TheVariants as external
use Rattle.sc_parse_names.specs.declared.kind.Symbol.{Symbol}
use Rattle.sc_parse_names.specs.declared.kind.Kind.{Kind}
use Rattle.sc_parse_names.specs.declared.kind.Kind.TheVariants as k
use Rattle.sc_parse_names.specs.Names.{Names, is_typed, leave}
use Rattle.sc_parse_grammar.specs.declared.frame.Frame.{Frame}
use Rattle.sc_parse_grammar.specs.declared.frame.Frame.TheVariants as f
use Rattle.sc_parse_grammar.specs.declared.frame.State.{State}
use Rattle.sc_parse_grammar.specs.declared.frame.State.TheVariants as e
use Rattle.sc_parse_grammar.specs.Kinds.{begins_specifiers}
use Rattle.sc_parse_grammar.specs.Machine.{Config, step}
use Rattle.sc_parse_grammar.specs.Nodes.{named_node}
use Rattle.sc_parse_grammar.specs.Types.{no_words, with_word}
use Rattle.sc_parse_unit.specs.declared.around.Head.{Head}
use Rattle.sc_parse_unit.specs.declared.around.Head.TheVariants as h
use Rattle.sc_parse_unit.specs.declared.around.Around.{Around}
use Rattle.sc_parse_unit.specs.declared.around.Around.TheVariants as a
use Rattle.sc_parse_unit.specs.declared.around.Stage.TheVariants as at
use Rattle.sc_parse_unit.specs.declared.around.Test.TheVariants as of_kind
use Rattle.sc_parse_unit.specs.Trees.{block_of, with_statement, function_of}
use Rattle.sc_parse_unit.specs.Grammar as g
use Rattle.sc_parse_unit.specs.Grammar.{IsStatement, Nested, Statements, Braces, UnitTokens}
use Rattle.sc_parse_unit.specs.Machine.{Point, Move, named, shallow, early, behind_name, behind_type, target, function_ends, block_ends, statement, statement_due, external_due, is_early, item_due, is_outside, due, waits, built, settle, other_begins, until, behind, is_else, got, left_paren, needs, ends_part, expression_due, place, marked, advance}
use Rattle.sc_parse_sound.proofs.Declaring.{cons_append}
use Rattle.sc_parse_sound.proofs.Bodies as lower
use Rattle.sc_parse_sound.proofs.Sound.{step-good}
use Rattle.sc_parse_sound.proofs.Open as w
use Rattle.sc_parse_unit.proofs.Labels.{node-read, word-read}
use Rattle.sc_parse_unit.proofs.Inside as n
use Rattle.sc_parse_unit.proofs.Inside.{outside, HeadTokens, Inside, Place, Due, Paren, Waiting, Context, Colon, Naming, Going, Open, Got, Valid, Fine}
use Rattle.sc_parse_unit.proofs.Keeping.{either, snoc, begin-fine, specifiers-fine, semicolon-fine, colon-fine, part_ends-fine, in_specifiers-fine, in_declarator-fine, in_expression-fine, initial-fine, initial_ends-fine}

-- What is open is as long as the statements around, the function's block and the unit.
deep : {m : ℕ} {c : Names} {fs : List Around} {d : List Symbol} → Inside m c fs d → length fs ≡ suc (suc m)
deep (n.body left u hd lv lk ll dl ss) = refl
deep (n.block left z few ln lk ll dl ss) = ap suc (deep z)
deep (n.under z few y) = ap suc (deep z)
deep (n.loop t z few tk) = ap suc (deep z)

-- The statement that ends with its last part.
record Built (m : ℕ) (b c : Names) (closed other : Bool) (ts : List Symbol) (x : Statement) : Type 0 where
  pub shut : Bool
  pub tokens : IsStatement true m b c shut ts x
  pub ends : other ≡ true → closed ≡ true → shut ≡ true

builds : {m : ℕ} {b c e0 : Names} {closed : Bool} {ts us : List Symbol} {x : Statement} (other : Bool) (head : Head) → waits other head ≡ false → HeadTokens m b c ts head → Nested true (suc m) c e0 closed us x → Built m b e0 closed other (ts ++ us) (built head x)
builds {us} false (h.Then l x) w (n.then {xs} t tk y) z = record { shut = false; tokens = g.if_only t tk y z; ends = λ q. absurd cc }
builds true (h.Then l x) w y z = absurd cc
builds {closed} {us} other (h.Else l x y0) w (n.other {xs} {ys} t u tk y q uk) z =
    record { shut = closed; tokens = rw (append_assoc (t ∷ xs ++ ys) (u ∷ []) us) (g.if_else t u tk y q uk z); ends = λ _ q. q }
builds {closed} other (h.Switch l x) w (n.switch t tk y) z = record { shut = closed; tokens = g.switch t tk y z; ends = λ _ q. q }
builds {closed} other (h.While l x) w (n.while t tk y) z = record { shut = closed; tokens = g.while t tk y z; ends = λ _ q. q }
builds {closed} {us} other (h.For l x y z) w (n.for {xs} {ys} {zs} t left one two right tk lk o1 k1 o2 k2 o3 rk) q =
    record { shut = closed; tokens = rw (append_assoc (t ∷ left ∷ xs ++ one ∷ ys ++ two ∷ zs) (right ∷ []) us) (g.for t left one two right tk lk o1 k1 o2 k2 o3 rk q); ends = λ _ q. q }
builds {closed} {us} other (h.Case l x) w (n.case {xs} t colon tk y ck) z =
    record { shut = closed; tokens = rw (append_assoc (t ∷ xs) (colon ∷ []) us) (g.case t colon tk y ck z); ends = λ _ q. q }
builds {closed} other (h.Default l) w (n.default t colon tk ck) z = record { shut = closed; tokens = g.default t colon tk ck z; ends = λ _ q. q }
builds {closed} other (h.Label l text) w (n.label t colon tk ck) z = record { shut = closed; tokens = g.label t colon tk ck z; ends = λ _ q. q }

settled : {c0 c : Names} {m : ℕ} {closed : Bool} (other : Bool) (fs : List Around) (x : Statement) {d0 us : List Symbol} (d : List Symbol) → Inside m c0 fs d0 → m ≤ 1499 → IsStatement true m c0 c closed us x → (other ≡ true → closed ≡ true) → d ≡ d0 ++ us →
    Got other c (settle other fs x).0 (settle other fs x).1 d
settled {c0} {c} {m} {closed} other (a.Under head ∷ fs) x {us} d (n.under {c0 = z0} {d = ds} {ts} z few y) low q r a0 = either (λ (p : List Around × Statement). Got other c p.0 p.1 d) (waits other head) _ _
    (λ w. record { n = m; c0 = c0; closed = closed; d0 = ds ++ ts; us = us; place = n.under z few y; few = low; tokens = q; shut = r; all = a0 })
    (λ w. let bt = builds other head w y (g.nested (λ _. low) q) in settled {c0 = z0} other fs (built head x) d z few bt.tokens (λ o. bt.ends o (r o)) (a0 ∙ append_assoc ds ts us))
settled {c0} {c} {m} {closed} other (a.Body v y b ∷ fs) x d z low q r a0 = record { n = m; c0 = c0; closed = closed; d0 = _; us = _; place = z; few = low; tokens = q; shut = r; all = a0 }
settled {c0} {c} {m} {closed} other (a.Block b ∷ fs) x d z low q r a0 = record { n = m; c0 = c0; closed = closed; d0 = _; us = _; place = z; few = low; tokens = q; shut = r; all = a0 }
settled {c0} {c} {m} {closed} other (a.Do l ∷ fs) x d z low q r a0 = record { n = m; c0 = c0; closed = closed; d0 = _; us = _; place = z; few = low; tokens = q; shut = r; all = a0 }
settled {c0} {c} {m} {closed} other fs x d z low q r a0 = record { n = m; c0 = c0; closed = closed; d0 = _; us = _; place = z; few = low; tokens = q; shut = r; all = a0 }

function_ends-fine : {c : Names} (fs : List Around) (t : Symbol) (d : List Symbol) (v : Specifiers TypeWord) (x : Declarator) (b : Block) → Inside 0 c (a.Body v x b ∷ fs) d → t.kind ≡ k.RightBrace → Fine (function_ends c fs v x b) (d ++ t ∷ [])
function_ends-fine {c} (a.Unit items ∷ fs) t d v x b (n.body {c0} {d = ds} {ts} {us} {vs} {ws} left u hd lv lk ll dl ss) q =
    rw (shape ds ts us vs ws left t) (n.at_file (g.next_external u (subst (λ l. g.ExternalTokens true c0 (leave c) (ts ++ us ++ (left ∷ vs ++ ws ++ t ∷ [])) (external.Function (function_of v x (block_of l b.declarations b.statements)))) ll
    (g.of_function hd lv (g.braces left t lk dl ss q)))))
  where
    shape : (ds ts us vs ws : List Symbol) (left t : Symbol) → (ds ++ ((ts ++ us) ++ left ∷ (vs ++ ws))) ++ t ∷ [] ≡ ds ++ (ts ++ us ++ (left ∷ vs ++ ws ++ t ∷ []))
    shape ds ts us vs ws left t = simp (append_assoc, cons_append)
function_ends-fine _ t d v x b z q = tt

block_ends-fine : {m : ℕ} {c : Names} (fs : List Around) (t : Symbol) (d : List Symbol) → Inside m c fs d → t.kind ≡ k.RightBrace → Fine (block_ends c fs) (d ++ t ∷ [])
block_ends-fine {c} (a.Block b ∷ fs) t d (n.block {n = j} {c0} {d = ds} {vs} {ws} left z few ln lk ll dl ss) q =
    record {
      n = _;
      c0 = _;
      closed = true;
      d0 = ds;
      us = left ∷ vs ++ ws ++ t ∷ [];
      place = z;
      few = few;
      tokens = subst (λ l. IsStatement true j c0 (leave c) true (left ∷ vs ++ ws ++ t ∷ []) (s.Block l b.declarations b.statements)) ll (g.block (λ _. ln) (g.braces left t lk dl ss q));
      shut = λ _. refl;
      all = shape ds vs ws left t;
    }
  where
    shape : (ds vs ws : List Symbol) (left t : Symbol) → (ds ++ left ∷ (vs ++ ws)) ++ t ∷ [] ≡ ds ++ (left ∷ vs ++ ws ++ t ∷ [])
    shape ds vs ws left t = simp (append_assoc, cons_append)
block_ends-fine (a.Body v x b ∷ fs) t d z q = go d z
  where
    go : {m : ℕ} {c : Names} {fs : List Around} {v : Specifiers TypeWord} {x : Declarator} {b : Block} (d : List Symbol) → Inside m c (a.Body v x b ∷ fs) d → Fine (block_ends c (a.Body v x b ∷ fs)) (d ++ t ∷ [])
    go {fs} {v} {x} {b} d (n.body left u hd lv lk ll dl ss) = function_ends-fine fs t d v x b (n.body left u hd lv lk ll dl ss) q
block_ends-fine _ t d z q = tt

named-fine : {m : ℕ} {c : Names} (typed : Bool) (fs : List Around) (t : Symbol) (d : List Symbol) → Inside m c fs d → m ≤ 1499 → t.kind ≡ k.Name → is_typed c t ≡ typed → Fine (named typed t c fs) (d ++ t ∷ [])
named-fine true fs t d z few q r = n.label t z few q
named-fine false fs t d z few q r = n.plain t z few q r

statement-fine : {m : ℕ} {c : Names} (kd : Kind) (fs : List Around) (t : Symbol) (d : List Symbol) → Inside m c fs d → m ≤ 1499 → t.kind ≡ kd → Fine (statement t c fs kd) (d ++ t ∷ [])
statement-fine k.Semicolon fs t d z few q = record { n = _; c0 = _; closed = true; d0 = d; us = t ∷ []; place = z; few = few; tokens = g.empty t q; shut = λ _. refl; all = refl }
statement-fine {c} k.LeftBrace fs t d z few q = either (λ r. Fine r (d ++ t ∷ [])) (nat_lt (length c) 128) _ _
    (λ r. n.at_statement (n.block t z few (let i = ltb-true _ _ r in omega (arith, i)) q refl g.no_declaration g.no_statement)) (λ r. tt)
statement-fine k.If fs t d z few q = n.test {of = of_kind.If} t z few q
statement-fine k.Switch fs t d z few q = n.test {of = of_kind.Switch} t z few q
statement-fine k.While fs t d z few q = n.test {of = of_kind.While} t z few q
statement-fine k.Do fs t d z few q = n.at_statement (n.loop t z few q)
statement-fine k.For fs t d z few q = n.first t z few q
statement-fine k.Case fs t d z few q = n.value t z few q
statement-fine k.Default fs t d z few q = n.colon t z few q
statement-fine k.Continue fs t d z few q = record { n = _; c0 = _; d0 = d; us = t ∷ []; place = z; few = few; tokens = λ u uk. g.continue t u q uk; all = refl }
statement-fine k.Break fs t d z few q = record { n = _; c0 = _; d0 = d; us = t ∷ []; place = z; few = few; tokens = λ u uk. g.break t u q uk; all = refl }
statement-fine k.Return fs t d z few q = n.return t z few q
statement-fine k.Goto fs t d z few q = n.going t z few q
statement-fine {c} k.Name fs t d z few q = named-fine (is_typed c t) fs t d z few q refl
statement-fine kd fs t d z few q = begin-fine 1 (a.Expression ∷ fs) t d (n.at_need (n.expression z few)) (omega arith)

statement_due-fine : {m : ℕ} {c : Names} (kd : Kind) (fs : List Around) (t : Symbol) (d : List Symbol) → Inside m c fs d → t.kind ≡ kd → Fine (statement_due t c fs kd) (d ++ t ∷ [])
statement_due-fine k.RightBrace fs t d z q = block_ends-fine fs t d z q
statement_due-fine {m} {c} kd fs t d z q = either (λ r. Fine r (d ++ t ∷ [])) (nat_lt (length fs) 1502) (statement t c fs kd) _
    (λ r. statement-fine kd fs t d z (let i = ltb-true _ _ r in let j = deep z in omega (arith, i, j)) q) (λ r. tt)

early-fine : {m : ℕ} {c : Names} (kd : Kind) (fs : List Around) (t : Symbol) (d : List Symbol) → Inside m c fs d → is_early fs ≡ true → t.kind ≡ kd → begins_specifiers (is_typed c t) kd ≡ true → Fine (early t c fs kd) (d ++ t ∷ [])
early-fine k.Name fs t d z e q r = n.of_type t z e q r
early-fine kd fs t d z e q r = specifiers-fine fs t d (n.early z e)

item_due-fine : {m : ℕ} {c : Names} (fs : List Around) (t : Symbol) (d : List Symbol) → Inside m c fs d → Fine (item_due t c fs) (d ++ t ∷ [])
item_due-fine {c} fs t d z = either (λ r. Fine r (d ++ t ∷ [])) (is_early fs && begins_specifiers (is_typed c t) t.kind) _ _
    (λ r. let q = and_parts _ _ r in early-fine t.kind fs t d z q.0 refl q.1) (λ r. statement_due-fine t.kind fs t d z refl)

external_due-fine : {c : Names} {items : List External} (kd : Kind) (t : Symbol) (d : List Symbol) → UnitTokens true outside c d items → Fine (external_due t c (a.Unit items ∷ []) kd) (d ++ t ∷ [])
external_due-fine k.End t d u = n.over t u
external_due-fine kd t d u = specifiers-fine _ t d (n.file u)

-- no unit is right around a statement
inner : {m : ℕ} {c : Names} {fs : List Around} {d : List Symbol} → Inside m c fs d → is_outside fs ≡ false
inner (n.body left u hd lv lk ll dl ss) = refl
inner (n.block left z few ln lk ll dl ss) = refl
inner (n.under z few y) = refl
inner (n.loop t z few tk) = refl

due-fine : {c : Names} (fs : List Around) (t : Symbol) (d : List Symbol) → Due c fs d → Fine (due t c fs) (d ++ t ∷ [])
due-fine fs t d (n.at_file u) = external_due-fine t.kind t d u
due-fine {c} fs t d (n.at_statement z) = either (λ r. Fine r (d ++ t ∷ [])) (is_outside fs) _ _ (λ r. let q = inner z in absurd cc) (λ r. item_due-fine fs t d z)

is_other : (kd : Kind) → is_else kd ≡ true → kd ≡ k.Else
is_other k.Else q = refl
is_other _ q = absurd cc

other_begins-fine : {c : Names} (head : Head) (fs : List Around) (x : Statement) (t : Symbol) (d : List Symbol) → Got true c (a.Under head ∷ fs) x d → t.kind ≡ k.Else → Fine (other_begins c fs head x) (d ++ t ∷ [])
other_begins-fine {c} (h.Then l y) fs x t d v q = go v.place v.few (subst (λ b. IsStatement true v.n v.c0 c b v.us x) (v.shut refl) v.tokens) v.all
  where
    shape : (ds ts us : List Symbol) (t : Symbol) → ((ds ++ ts) ++ us) ++ t ∷ [] ≡ ds ++ (ts ++ us ++ t ∷ [])
    shape ds ts us t = simp (append_assoc, cons_append)

    go : {m : ℕ} {c0 : Names} {d0 us : List Symbol} → Inside m c0 (a.Under (h.Then l y) ∷ fs) d0 → m ≤ 1499 → IsStatement true m c0 c true us x → d ≡ d0 ++ us → Due c (a.Under (h.Else l y x) ∷ fs) (d ++ t ∷ [])
    go {us} (n.under {d = ds} z few (n.then {xs} u uk cd)) low st a0 =
        rw (ap (λ r. r ++ t ∷ []) a0 ∙ shape ds (u ∷ xs) us t) (n.at_statement (n.under z few (n.other u t uk cd (g.nested (λ _. low) st) q)))
other_begins-fine _ fs x t d v q = tt

until-fine : {o : Bool} {c : Names} (kd : Kind) (l : ℕ) (fs : List Around) (x : Statement) (t : Symbol) (d : List Symbol) → Got o c (a.Do l ∷ fs) x d → t.kind ≡ kd → Fine (until t c fs l x kd) (d ++ t ∷ [])
until-fine {c} k.While l fs x t d v q = go v.place v.few v.tokens v.all
  where
    shape : (ds us : List Symbol) (u t : Symbol) → ((ds ++ u ∷ []) ++ us) ++ t ∷ [] ≡ ds ++ (u ∷ us ++ t ∷ [])
    shape ds us u t = simp (append_assoc, cons_append)

    go : {m : ℕ} {c0 : Names} {d0 us : List Symbol} {closed : Bool} → Inside m c0 (a.Do l ∷ fs) d0 → m ≤ 1499 → IsStatement true m c0 c closed us x → d ≡ d0 ++ us → Paren c (a.Until l x t.line ∷ fs) (d ++ t ∷ [])
    go {us} (n.loop {d = ds} u z few uk) low st a0 = rw (ap (λ r. r ++ t ∷ []) a0 ∙ shape ds us u t) (n.until u t z few uk (g.nested (λ _. low) st) q)
until-fine _ l fs x t d v q = tt

-- A statement joins the block around it.
joins : {o : Bool} {c : Names} {fs : List Around} {x : Statement} (t : Symbol) (d : List Symbol) (v : Specifiers TypeWord) (y : Declarator) (b : Block) → Got o c (a.Body v y b ∷ fs) x d → Inside 0 c (a.Body v y (with_statement b x) ∷ fs) d
joins t d v y b w = go w.place w.few w.tokens w.all
  where
    shape : (ds ts us vs ws zs : List Symbol) (left : Symbol) → (ds ++ ((ts ++ us) ++ left ∷ (vs ++ ws))) ++ zs ≡ ds ++ ((ts ++ us) ++ left ∷ (vs ++ (ws ++ zs)))
    shape ds ts us vs ws zs left = simp (append_assoc, cons_append)

    go : {m : ℕ} {c0 c : Names} {fs : List Around} {x : Statement} {d0 us : List Symbol} {closed : Bool} → Inside m c0 (a.Body v y b ∷ fs) d0 → m ≤ 1499 → IsStatement true m c0 c closed us x → d ≡ d0 ++ us → Inside 0 c (a.Body v y (with_statement b x) ∷ fs) d
    go {us = zs} (n.body {d = ds} {ts} {us} {vs} {ws} left u hd lv lk ll dl ss) low st a0 = rw (a0 ∙ shape ds ts us vs ws zs left) (n.body left u hd lv lk ll dl (g.next_statement ss (g.nested (λ _. low) st)))

joins_block : {o : Bool} {c : Names} {fs : List Around} {x : Statement} (d : List Symbol) (b : Block) → Got o c (a.Block b ∷ fs) x d → (m : ℕ) × Inside m c (a.Block (with_statement b x) ∷ fs) d
joins_block d b w = go w.place w.few w.tokens w.all
  where
    shape : (ds vs ws zs : List Symbol) (left : Symbol) → (ds ++ left ∷ (vs ++ ws)) ++ zs ≡ ds ++ left ∷ (vs ++ (ws ++ zs))
    shape ds vs ws zs left = simp (append_assoc, cons_append)

    go : {m : ℕ} {c0 c : Names} {fs : List Around} {x : Statement} {d0 us : List Symbol} {closed : Bool} → Inside m c0 (a.Block b ∷ fs) d0 → m ≤ 1499 → IsStatement true m c0 c closed us x → d ≡ d0 ++ us → (j : ℕ) × Inside j c (a.Block (with_statement b x) ∷ fs) d
    go {us = zs} (n.block {n = j} {d = ds} {vs} {ws} left z few ln lk ll dl ss) low st a0 = (suc j, rw (a0 ∙ shape ds vs ws zs left) (n.block left z few ln lk ll dl (g.next_statement ss (g.nested (λ _. low) st))))

-- After what ends with a statement, an `if` is on top only where `else` follows.
on_top : (other : Bool) (head : Head) (gs fs : List Around) (x : Statement) → (settle other fs x).0 ≡ a.Under head ∷ gs → other ≡ true
on_top true head gs fs x q = refl
on_top false head gs (a.Under y ∷ fs) x q = on_top false head gs fs (built y x) (subst (λ b. (if b then (a.Under y ∷ fs, x) else settle false fs (built y x)).0 ≡ a.Under head ∷ gs) (never y) q)
  where
    never : (y : Head) → waits false y ≡ false
    never (h.Then l z) = refl
    never _ = refl
on_top false head gs [] x q = absurd cc
on_top false head gs (a.Body v y b ∷ fs) x q = absurd cc
on_top false head gs (a.Block b ∷ fs) x q = absurd cc
on_top false head gs (f0 ∷ fs) x q = absurd cc

behind-fine : {c : Names} (other : Bool) (r : List Around × Statement) (t : Symbol) (d : List Symbol) → ((head : Head) (gs : List Around) → r.0 ≡ a.Under head ∷ gs → other ≡ true) → is_else t.kind ≡ other → Got other c r.0 r.1 d → Fine (behind t c r) (d ++ t ∷ [])
behind-fine {c} other (a.Under head ∷ fs, x) t d top e v = let o = top head fs refl in other_begins-fine head fs x t d (subst (λ b. Got b c (a.Under head ∷ fs) x d) o v) (is_other t.kind (e ∙ o))
behind-fine other (a.Do l ∷ fs, x) t d top e v = until-fine t.kind l fs x t d v refl
behind-fine other (a.Body y z b ∷ fs, x) t d top e v = statement_due-fine t.kind (a.Body y z (with_statement b x) ∷ fs) t d (joins t d y z b v) refl
behind-fine other (a.Block b ∷ fs, x) t d top e v = let j = joins_block d b v in statement_due-fine t.kind (a.Block (with_statement b x) ∷ fs) t d j.1 refl
behind-fine other _ t d top e v = tt

got-fine : {c : Names} (fs : List Around) (x : Statement) (t : Symbol) (d : List Symbol) → Got true c fs x d → Fine (got t c fs x) (d ++ t ∷ [])
got-fine fs x t d v = behind-fine (is_else t.kind) (settle (is_else t.kind) fs x) t d (λ head gs q. on_top (is_else t.kind) head gs fs x q) refl
    (settled (is_else t.kind) fs x d v.place v.few v.tokens (λ _. v.shut refl) v.all)

left_paren-fine : {c : Names} (kd : Kind) (fs : List Around) (t : Symbol) (d : List Symbol) → Paren c fs d → t.kind ≡ kd → Fine (left_paren c fs kd) (d ++ t ∷ [])
left_paren-fine k.LeftParen fs t d (n.test {d = ds} {of} u z few uk) q = rw (append_assoc ds (u ∷ []) (t ∷ [])) (n.test {of = of} u t z few uk q)
left_paren-fine k.LeftParen fs t d (n.until {d = ds} {xs} u o z few uk y ok) q = rw (shape ds xs u o t) (n.until u o t z few uk y ok q)
  where
    shape : (ds xs : List Symbol) (u o t : Symbol) → (ds ++ (u ∷ xs ++ o ∷ [])) ++ t ∷ [] ≡ ds ++ (u ∷ xs ++ o ∷ t ∷ [])
    shape ds xs u o t = simp (append_assoc, cons_append)
left_paren-fine k.LeftParen fs t d (n.first {d = ds} u z few uk) q = rw (append_assoc ds (u ∷ []) (t ∷ [])) (n.first u t z few uk q)
left_paren-fine _ fs t d v q = tt

low_needs : (fs : List Around) → needs fs ≤ 3
low_needs (a.Value l ∷ fs) = omega arith
low_needs _ = omega arith

expression_due-fine : {c : Names} (fs : List Around) (t : Symbol) (d : List Symbol) → Waiting c fs d → Fine (expression_due t c fs) (d ++ t ∷ [])
expression_due-fine {c} fs t d v = either (λ r. Fine r (d ++ t ∷ [])) (ends_part t.kind fs) _ _
    (λ r. part_ends-fine t.kind fs None t d v g.left_out refl (sym (append-nil d)))
    (λ r. begin-fine (needs fs) fs t d (n.at_need v) (low_needs fs))

colon_read : {c : Names} (fs : List Around) (t : Symbol) (d : List Symbol) → Colon c fs d → t.kind ≡ k.Colon → Due c fs (d ++ t ∷ [])
colon_read fs t d (n.colon {d = ds} u z few uk) q = rw (append_assoc ds (u ∷ []) (t ∷ [])) (n.at_statement (n.under z few (n.default u t uk q)))
colon_read fs t d (n.label {d = ds} u z few uk) q = rw (append_assoc ds (u ∷ []) (t ∷ [])) (n.at_statement (n.under z few (n.label u t uk q)))

-- Behind a plain name the machine of expressions has its node, and behind the name of a type that type word.
pub node_valid : (c : Names) (t : Symbol) → t.kind ≡ k.Name → is_typed c t ≡ false → w.Valid c (f.Only 1) c (f.Only 1 ∷ [], e.Have (named_node t.line t.text)) (t ∷ [])
node_valid c t q r = subst (λ o. lower.Fine c (f.Only 1) o (t ∷ [])) (node-read c t q r) (step-good c (f.Only 1) (c, (f.Only 1 ∷ [], e.Need)) t [] (w.only (omega arith) refl))

pub word_valid : (c : Names) (t : Symbol) → t.kind ≡ k.Name → is_typed c t ≡ true → w.Valid c f.Outer c (f.Outer ∷ [], e.Words (with_word (no_words t.line) (word.Typedef t.line t.text))) (t ∷ [])
word_valid c t q r = subst (λ o. lower.Fine c f.Outer o (t ∷ [])) (word-read c t q r) (step-good c f.Outer (c, (f.Outer ∷ [], e.Due)) t [] (w.outer refl))

behind_name-fine : {c : Names} (kd : Kind) (fs : List Around) (l : ℕ) (text : List ℕ) (t : Symbol) (d : List Symbol) → Naming false c fs l text d → t.kind ≡ kd → Fine (behind_name t c fs l text kd) (d ++ t ∷ [])
behind_name-fine k.Colon fs l text t d (n.plain {d = ds} u z few uk r) q = rw (append_assoc ds (u ∷ []) (t ∷ [])) (n.at_statement (n.under z few (n.label u t uk q)))
behind_name-fine {c} kd fs l text t d (n.plain {d = ds} u z few uk r) q =
    in_expression-fine (a.Expression ∷ fs) _ (u ∷ []) t d (n.at_need (n.expression z few)) (step-good c (f.Only 1) (c, (f.Only 1 ∷ [], e.Have (named_node u.line u.text))) t (u ∷ []) (node_valid c u uk r)) refl

behind_type-fine : {c : Names} (kd : Kind) (fs : List Around) (l : ℕ) (text : List ℕ) (t : Symbol) (d : List Symbol) → Naming true c fs l text d → t.kind ≡ kd → Fine (behind_type t c fs l text kd) (d ++ t ∷ [])
behind_type-fine k.Colon fs l text t d (n.of_type {d = ds} u z early uk r) q = either (λ r. Fine r (d ++ t ∷ [])) (nat_lt (length fs) 1502) _ _
    (λ few. rw (append_assoc ds (u ∷ []) (t ∷ [])) (n.at_statement (n.under z (let i = ltb-true _ _ few in let j = deep z in omega (arith, i, j)) (n.label u t uk q)))) (λ r. tt)
behind_type-fine {c} kd fs l text t d (n.of_type {d = ds} u z early uk r) q =
    in_specifiers-fine fs _ (u ∷ []) t d (n.early z early) (step-good c f.Outer (c, (f.Outer ∷ [], e.Words (with_word (no_words u.line) (word.Typedef u.line u.text)))) t (u ∷ []) (word_valid c u uk r)) refl

target-fine : {c : Names} (kd : Kind) (fs : List Around) (l : ℕ) (t : Symbol) (d : List Symbol) → Going c fs l d → t.kind ≡ kd → Fine (target t c fs l kd) (d ++ t ∷ [])
target-fine k.Name fs l t d (n.going {d = ds} u z few uk) q =
    record { n = _; c0 = _; d0 = ds; us = u ∷ t ∷ []; place = z; few = few; tokens = λ v vk. g.goto u t v uk q vk; all = append_assoc ds (u ∷ []) (t ∷ []) }
target-fine _ fs l t d v q = tt

place-fine : (q : Point) (t : Symbol) (d : List Symbol) → Valid q d → Fine (place t q) (d ++ t ∷ [])
place-fine (c, (fs, at.Due)) t d v = due-fine fs t d v
place-fine (c, (fs, at.Specifiers frames state)) t d v = in_specifiers-fine fs _ v.us t d v.place (step-good v.c0 _ (c, (frames, state)) t v.us v.inner) v.all
place-fine (c, (fs, at.Declarator frames state)) t d v = in_declarator-fine fs _ v.us t d v.place (step-good v.c0 _ (c, (frames, state)) t v.us v.inner) v.all
place-fine (c, (fs, at.Expression frames state)) t d v = in_expression-fine fs _ v.us t d v.place (step-good v.c0 _ (c, (frames, state)) t v.us v.inner) v.all
place-fine (c, (fs, at.Name l text)) t d v = behind_name-fine t.kind fs l text t d v refl
place-fine (c, (fs, at.TypeName l text)) t d v = behind_type-fine t.kind fs l text t d v refl
place-fine (c, (fs, at.Target l)) t d v = target-fine t.kind fs l t d v refl
place-fine (c, (fs, at.Initial)) t d v = initial-fine t.kind fs t d v refl
place-fine (c, (fs, at.Closed x)) t d v = initial_ends-fine t.kind fs x t d v.place v.tokens refl v.all
place-fine (c, (fs, at.LeftParen)) t d v = left_paren-fine t.kind fs t d v refl
place-fine (c, (fs, at.Need)) t d v = expression_due-fine fs t d v
place-fine (c, (fs, at.Colon)) t d v = colon-fine t.kind t _ _ refl (λ q. colon_read fs t d v q)
place-fine (c, (fs, at.Semicolon x)) t d v = semicolon-fine t.kind t _ _ refl
    (λ q. record { n = v.n; c0 = v.c0; closed = true; d0 = v.d0; us = v.us ++ t ∷ []; place = v.place; few = v.few; tokens = v.tokens t q; shut = λ _. refl; all = snoc v.d0 v.us t d v.all })
place-fine (c, (fs, at.Got x)) t d v = got-fine fs x t d v
place-fine (c, (fs, at.Over)) t d v = tt

marked-fine : (kd : Kind) (m : Move) (d : List Symbol) → Fine m d → Fine (marked kd m) d
marked-fine kd (Ok q) d v = v
marked-fine kd (Err o) d v = tt

pub advance-fine : (q : Point) (t : Symbol) (d : List Symbol) → Valid q d → Fine (advance t q) (d ++ t ∷ [])
advance-fine q t d v = marked-fine t.kind (place t q) (d ++ t ∷ []) (place-fine q t d v)
