-- Operators that are closed.
use Rattle.std.proofs.Common.{◌≡◌, ℕ, suc, ◌≤◌, ◌<◌, Bool, true, false, List, [], ◌∷◌, ◌++◌, length, Option, refl, ◌∙◌, arith, append_assoc, inl, inr}
use Rattle.std.specs.Prelude.{nat_lt, nat_le, if◌then◌else◌}
use Rattle.std.proofs.lemmas.Bool.{leb-true, leb-false, ltb-false}
use Rattle.sc_tree.specs.declared.operator.Unary.{Unary}
use Rattle.sc_tree.specs.declared.operator.Binary.{Binary}
use Rattle.sc_tree.specs.declared.expression.TypeName.{TypeName}
use Rattle.sc_tree.specs.declared.expression.TypeWord.{TypeWord}
use Rattle.sc_tree.specs.declared.expression.Specifiers.{Specifiers}
use Rattle.sc_parse_names.specs.declared.kind.Symbol.{Symbol}
use Rattle.sc_parse_names.specs.Names.{Names}
use Rattle.sc_parse_grammar.specs.declared.operand.Operand.{Operand}
use Rattle.sc_parse_grammar.specs.declared.operand.Whole.{Whole}
use Rattle.sc_parse_grammar.specs.declared.frame.Frame.{Frame}
use Rattle.sc_parse_grammar.specs.declared.frame.Frame.TheVariants as f
use Rattle.sc_parse_grammar.specs.Kinds.{level_of, operand_of}
use Rattle.sc_parse_grammar.specs.Nodes.{unary_node, size_node, cast_node, binary_node, conditional_node, assign_node, comma_node}
use Rattle.sc_parse_grammar.specs.Grammar as g
use Rattle.sc_parse_grammar.specs.Grammar.{Phrase}
use Rattle.sc_parse_grammar.specs.Machine.{Outcome, stuck, needs, needs_in, level_in, built, settle, fits, is_full, counted, wrong, unended}
use Rattle.sc_parse_sound.proofs.Levels.{level-small, operand-loose}
use Rattle.sc_parse_sound.proofs.Open as w
use Rattle.sc_parse_sound.proofs.Open.{Open, Holds, Good, Typed, crowded, stores, mode_in}
use Rattle.sc_parse_sound.proofs.Crowds.{many_arguments, last_parameter}

-- a choice by a test that is known
pub either : {T : Type 0} (P : T → Type 0) (b : Bool) (x y : T) → (b ≡ true → P x) → (b ≡ false → P y) → P (if b then x else y)
either P true x y h q = h refl
either P false x y h q = q refl

module _ (b : Names) (base : Frame) where
  -- a level that every place of an operand takes
  pub small : {c : Names} {fs : List Frame} {d : List Symbol} → Open b base c fs d → needs fs ≤ 15
  small (w.only h q) = omega (arith, h)
  small (w.unary {op} t o h) = operand-loose op
  small (w.binary {op} t o p q h n) = omega (arith, level-small op)
  small _ = omega arith

  pub hold : {c e : Names} {fs : List Frame} {x : Operand} {ds xs : List Symbol} → Open b base e fs ds → Phrase true e c xs x → needs fs ≤ x.level → (d : List Symbol) → d ≡ ds ++ xs → Holds b base c fs x d
  hold o p q d h = record { e = _; ds = _; xs = _; opened = o; phrase = p; fits = q; all = h }

  -- an operand of a level that every place takes
  pub operand : {c e : Names} {fs : List Frame} {x : Operand} {ds xs : List Symbol} → Open b base e fs ds → Phrase true e c xs x → 15 ≤ x.level → (d : List Symbol) → d ≡ ds ++ xs → Holds b base c fs x d
  operand o p q d h = hold o p (omega (arith, small o, q)) d h

  pub held : {c e : Names} {fs : List Frame} {x : Operand} {ds xs : List Symbol} → Open b base e fs ds → Phrase true e c xs x → 15 ≤ x.level → (d : List Symbol) → d ≡ ds ++ xs → (15 ≤ x.level) × Holds b base c fs x d
  held o p q d h = (q, operand o p q d h)

  regroup : (ds xs ys : List Symbol) (t : Symbol) → ((ds ++ xs) ++ t ∷ []) ++ ys ≡ ds ++ (xs ++ t ∷ ys)
  regroup ds xs ys t = simp append_assoc

  pop_unary : {c e : Names} {fs : List Frame} {l : ℕ} {op : Unary} {ds xs : List Symbol} {x : Operand} (d : List Symbol) →
      Open b base e (f.Unary l op ∷ fs) ds → Phrase true e c xs x → operand_of op ≤ x.level → d ≡ ds ++ xs → Holds b base c fs (unary_node l op x) d
  pop_unary {xs} d (w.unary {d = es} t o h) p q a = operand o (g.unary t h p q) (omega arith) d (a ∙ append_assoc es (t ∷ []) xs)

  pop_size : {c e : Names} {fs : List Frame} {l : ℕ} {ds xs : List Symbol} {x : Operand} (d : List Symbol) →
      Open b base e (f.SizeOf l ∷ fs) ds → Phrase true e c xs x → 15 ≤ x.level → d ≡ ds ++ xs → Holds b base c fs (size_node l x) d
  pop_size {xs} d (w.size_of {d = es} t o h) p q a = operand o (g.size_of t h p q) (omega arith) d (a ∙ append_assoc es (t ∷ []) xs)

  pop_cast : {c e : Names} {fs : List Frame} {l : ℕ} {type : TypeName} {ds xs : List Symbol} {x : Operand} (d : List Symbol) →
      Open b base e (f.Cast l type ∷ fs) ds → Phrase true e c xs x → 14 ≤ x.level → d ≡ ds ++ xs → Holds b base c fs (cast_node l type x) d
  pop_cast {xs} d (w.cast {d = es} {ts} t r o h ty i n) p q a = hold o (g.cast t r h ty i p q) n d (a ∙ regroup es (t ∷ ts) xs r)

  pop_binary : {c e : Names} {fs : List Frame} {op : Binary} {y : Operand} {ds xs : List Symbol} {x : Operand} (d : List Symbol) →
      Open b base e (f.Binary y op ∷ fs) ds → Phrase true e c xs x → suc (level_of op) ≤ x.level → d ≡ ds ++ xs → Holds b base c fs (binary_node y op x) d
  pop_binary {xs} d (w.binary {d = es} {xs = ys} t o v i h n) p q a = hold o (g.binary t v i h p q) n d (a ∙ regroup es ys xs t)

  pop_else : {c e : Names} {fs : List Frame} {y z : Operand} {ds xs : List Symbol} {x : Operand} (d : List Symbol) →
      Open b base e (f.Else y z ∷ fs) ds → Phrase true e c xs x → 3 ≤ x.level → d ≡ ds ++ xs → Holds b base c fs (conditional_node y z x) d
  pop_else {xs} d (w.otherwise {d = es} {xs = ys} {ys = zs} t u o v i h n r j) p q a = hold o (g.conditional t u v i h r j p q) n d (a ∙ shape es ys zs xs t u)
    where
      shape : (es ys zs xs : List Symbol) (t u : Symbol) → ((es ++ (ys ++ t ∷ zs)) ++ u ∷ []) ++ xs ≡ es ++ (ys ++ t ∷ zs ++ u ∷ xs)
      shape es ys zs xs t u = simp append_assoc

  pop_assign : {c e : Names} {fs : List Frame} {op : Option Binary} {y : Operand} {ds xs : List Symbol} {x : Operand} (d : List Symbol) →
      Open b base e (f.Assign y op ∷ fs) ds → Phrase true e c xs x → 2 ≤ x.level → d ≡ ds ++ xs → Holds b base c fs (assign_node y op x) d
  pop_assign {xs} d (w.assign {d = es} {xs = ys} t o v i h n) p q a = hold o (g.assign t v i h p q) n d (a ∙ regroup es ys xs t)

  pop_comma : {c e : Names} {fs : List Frame} {y : Operand} {ds xs : List Symbol} {x : Operand} (d : List Symbol) →
      Open b base e (f.Comma y ∷ fs) ds → Phrase true e c xs x → 2 ≤ x.level → d ≡ ds ++ xs → Holds b base c fs (comma_node y x) d
  pop_comma {xs} d (w.comma {d = es} {xs = ys} t o v h n) p q a = hold o (g.comma t v h p q) n d (a ∙ regroup es ys xs t)

  -- what an operator's frame makes of the operand inside it
  pub record Popped (c : Names) (frame : Frame) (fs : List Frame) (x : Operand) (d : List Symbol) : Type 0 where
    pub holds : Holds b base c fs (built frame x) d
    pub level : level_in frame ≤ (built frame x).level

  popped : (frame : Frame) {c : Names} {fs : List Frame} (x : Operand) (d : List Symbol) → 1 ≤ level_in frame → Holds b base c (frame ∷ fs) x d → Popped c frame fs x d
  popped (f.Unary l op) x d z h = record { holds = pop_unary d h.opened h.phrase h.fits h.all; level = omega arith }
  popped (f.SizeOf l) x d z h = record { holds = pop_size d h.opened h.phrase h.fits h.all; level = omega arith }
  popped (f.Cast l type) x d z h = record { holds = pop_cast d h.opened h.phrase h.fits h.all; level = omega arith }
  popped (f.Binary a op) x d z h = record { holds = pop_binary d h.opened h.phrase (let q = h.fits in omega (arith, q)) h.all; level = omega arith }
  popped (f.Else a y) x d z h = record { holds = pop_else d h.opened h.phrase h.fits h.all; level = omega arith }
  popped (f.Assign a op) x d z h = record { holds = pop_assign d h.opened h.phrase h.fits h.all; level = omega arith }
  popped (f.Comma a) x d z h = record { holds = pop_comma d h.opened h.phrase h.fits h.all; level = omega arith }
  popped _ x d z h = absurd (omega (arith, z))

  loose : {c : Names} (p : ℕ) (frame : Frame) {fs : List Frame} {d : List Symbol} → Open b base c (frame ∷ fs) d → 4 ≤ p → p ≤ 14 → level_in frame < p → needs_in frame ≤ p
  loose p (f.Unary l op) o z s n = absurd (omega (arith, s, n))
  loose p (f.SizeOf l) o z s n = absurd (omega (arith, s, n))
  loose p (f.Cast l type) o z s n = absurd (omega (arith, s, n))
  loose p (f.Binary a op) o z s n = omega (arith, n)
  loose p (f.Only m) (w.only h q) z s n = omega (arith, h, z)
  loose p _ o z s n = omega (arith, z)

  -- what is left open behind the frames that bind at least hs tightly hs p
  pub record Closed (c : Names) (p : ℕ) (r : List Frame × Operand) (d : List Symbol) : Type 0 where
    pub holds : Holds b base c r.0 r.1 d
    pub tight : p ≤ r.1.level
    pub loose : 4 ≤ p → needs r.0 ≤ p

  pub closed : (p : ℕ) {c : Names} (fs : List Frame) (x : Operand) (d : List Symbol) → 1 ≤ p → p ≤ 14 → p ≤ x.level → Holds b base c fs x d → Closed c p (settle p fs x) d
  closed p [] x d z s n h = record { holds = h; tight = n; loose = λ q. omega (arith, q) }
  closed p {c} (frame ∷ fs) x d z s n h = either (λ r. Closed c p r d) (nat_le p (level_in frame)) _ _
      (λ t. let i : p ≤ level_in frame = leb-true _ _ t in
      let q = popped frame x d (omega (arith, z, i)) h in
      closed p fs (built frame x) d z s (let m = q.level in omega (arith, i, m)) q.holds)
      (λ t. record { holds = h; tight = n; loose = λ q. loose p frame h.opened q s (leb-false _ _ t) })

  pub fits_good : (c : Names) (d : List Symbol) (n : ℕ) (o : Outcome) → (n ≤ 200 → Good b base c o d) → Good b base c (fits n o) d
  fits_good c d n o h = either (λ r. Good b base c r d) (nat_lt 200 n) _ _ (λ t. tt) (λ t. h (ltb-false _ _ t))

  pub counted_good : {c : Names} (fs : List Frame) {x : Operand} (t : Symbol) (d : List Symbol) (o : Outcome) → Holds b base c fs x d → (is_full fs ≡ false → Good b base c o (d ++ t ∷ [])) → Good b base c (counted fs o) (d ++ t ∷ [])
  counted_good {c} fs t d o h go = either (λ r. Good b base c r (d ++ t ∷ [])) (is_full fs) _ _ (λ m. crowded t (inl (many_arguments b base fs h m))) go

  -- No token goes on with the operand.
  pub wrong_good : {c : Names} (fs : List Frame) (x : Operand) (t : Symbol) (d : List Symbol) → 1 ≤ x.level → Holds b base c fs x d → Good b base c (wrong (settle 1 fs x)) (d ++ t ∷ [])
  wrong_good {c} fs x t d n h =
      let r = settle 1 fs x in
      let q = closed 1 fs x d (omega arith) (omega arith) n h in
      fits_good c (d ++ t ∷ []) r.1.height (counted r.0 stuck) (λ _. counted_good r.0 t d stuck q.holds (λ _. tt))

  pub unended_good : {c e : Names} (fs : List Frame) {ds ts : List Symbol} {v : Specifiers TypeWord} {x : Option Whole} (t : Symbol) (d : List Symbol) → Open b base e fs ds → Typed (stores fs) (mode_in fs) e c ts v x → d ≡ ds ++ ts →
      Good b base c (unended fs) (d ++ t ∷ [])
  unended_good {c} (f.Parameters y ps ∷ fs) t d o ty a = either (λ r. Good b base c r (d ++ t ∷ [])) (nat_lt (length ps) 31) _ _ (λ _. tt) (λ m. crowded t (inr (last_parameter b base o ty m a)))
  unended_good _ t d o ty a = tt
