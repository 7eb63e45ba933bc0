-- The machine of units takes no token that is left out.
use Rattle.std.proofs.Common.{◌≡◌, false, List, [], ◌∷◌, length, Ok, Err, refl, sym, ◌∙◌, ap, subst}
use Rattle.std.specs.Prelude.{◌&&◌, nat_lt, Result}
use Rattle.sc_parse_names.specs.declared.kind.Mark.{Mark}
use Rattle.sc_parse_names.specs.declared.kind.Symbol.{Symbol}
use Rattle.sc_parse_names.specs.declared.kind.Kind.TheVariants as k
use Rattle.sc_parse_names.specs.Names.{Names, is_typed}
use Rattle.sc_parse_grammar.specs.declared.frame.Frame.TheVariants as f
use Rattle.sc_parse_grammar.specs.declared.frame.State.TheVariants as e
use Rattle.sc_parse_grammar.specs.declared.trouble.Trouble.{Trouble}
use Rattle.sc_parse_grammar.specs.Kinds.{begins_specifiers}
use Rattle.sc_parse_grammar.specs.Types.{no_words, with_word}
use Rattle.sc_parse_grammar.specs.Nodes.{named_node}
use Rattle.sc_tree.specs.declared.expression.TypeWord.TheVariants as word
use Rattle.sc_parse_grammar.specs.Machine.{Config, step}
use Rattle.sc_tree.specs.declared.statement.Statement.{Statement}
use Rattle.sc_tree.specs.declared.declaration.Initializer.{Initializer}
use Rattle.sc_parse_unit.specs.declared.around.Head.{Head}
use Rattle.sc_parse_unit.specs.declared.around.Head.TheVariants as h
use Rattle.sc_parse_unit.specs.declared.around.Around.{Around}
use Rattle.sc_parse_unit.specs.declared.around.Around.TheVariants as a
use Rattle.sc_parse_unit.specs.declared.around.Stage.TheVariants as at
use Rattle.sc_parse_unit.specs.Trees.{with_statement}
use Rattle.sc_parse_unit.specs.Machine.{Point, Move, initial, initial_ends, in_expression, in_declarator, in_specifiers, early, behind_name, behind_type, statement_due, external_due, is_early, is_outside, due, waits, built, behind, settle, is_else, needs, ends_part, expression_due, place, marked, advance, run, on_ok}
use Rattle.sc_parse_unit.proofs.Keeping.{either}
use Rattle.sc_parse_laws.specs.Marks.{AreKept}
use Rattle.sc_parse_laws.proofs.Passing.{Stops, step-stops}

abbrev Halts : Move → Type 0
Halts o = Stops o

expression-stops : (t : Symbol) (fs : List Around) (r : Result Config Trouble) → Stops r → Halts (in_expression t fs r)
expression-stops t fs (Ok c) q = absurd q
expression-stops t fs (Err o) q = tt

declarator-stops : (t : Symbol) (fs : List Around) (r : Result Config Trouble) → Stops r → Halts (in_declarator t fs r)
declarator-stops t fs (Ok c) q = absurd q
declarator-stops t fs (Err o) q = tt

specifiers-stops : (t : Symbol) (fs : List Around) (r : Result Config Trouble) → Stops r → Halts (in_specifiers t fs r)
specifiers-stops t fs (Ok c) q = absurd q
specifiers-stops t fs (Err o) q = tt

module _ (w : Mark) where
  initial_ends-stops : (c : Names) (fs : List Around) (x : Initializer) → Halts (initial_ends c (k.LeftOut w) fs x)
  initial_ends-stops c (a.List l all ∷ fs) x = tt
  initial_ends-stops c (a.Initialized l d ∷ a.Declaration v ds ∷ fs) x = tt
  initial_ends-stops c (a.Initialized l d ∷ fs) x = tt
  initial_ends-stops c _ x = tt

  statement_due-stops : (t : Symbol) (c : Names) (fs : List Around) → t.kind ≡ k.LeftOut w → Halts (statement_due t c fs (k.LeftOut w))
  statement_due-stops t c fs i = either Halts (nat_lt (length fs) 1502) _ _ (λ _. expression-stops t (a.Expression ∷ fs) _ (step-stops w (c, (f.Only 1 ∷ [], e.Need)) t i)) (λ _. tt)

  begin-stops : (t : Symbol) (c : Names) (fs : List Around) → t.kind ≡ k.LeftOut w → Halts (in_specifiers t fs (step t (c, (f.Outer ∷ [], e.Due))))
  begin-stops t c fs i = specifiers-stops t fs _ (step-stops w (c, (f.Outer ∷ [], e.Due)) t i)

  due-stops : (t : Symbol) (c : Names) (fs : List Around) → t.kind ≡ k.LeftOut w → Halts (due t c fs)
  due-stops t c fs i = either Halts (is_outside fs) _ _
      (λ _. subst (λ kd. Halts (external_due t c fs kd)) (sym i) (begin-stops t c fs i))
      (λ _. either Halts (is_early fs && begins_specifiers (is_typed c t) t.kind) _ _ (λ _. subst (λ kd. Halts (early t c fs kd)) (sym i) (begin-stops t c fs i))
      (λ _. subst (λ kd. Halts (statement_due t c fs kd)) (sym i) (statement_due-stops t c fs i)))

  behind-stops : (t : Symbol) (c : Names) (fs : List Around) (b : Statement) → t.kind ≡ k.LeftOut w → Halts (statement_due t c fs t.kind)
  behind-stops t c fs b i = subst (λ kd. Halts (statement_due t c fs kd)) (sym i) (statement_due-stops t c fs i)

  never : (head : Head) → waits false head ≡ false
  never (h.Then l x) = refl
  never _ = refl

  -- behind a statement and what ends with it
  settled-stops : (t : Symbol) (c : Names) (fs : List Around) (b : Statement) → t.kind ≡ k.LeftOut w → Halts (behind t c (settle false fs b))
  settled-stops t c (a.Under head ∷ fs) b i = rw (never head) (settled-stops t c fs (built head b) i)
  settled-stops t c (a.Do l ∷ fs) b i = rw i tt
  settled-stops t c (a.Body v x block ∷ fs) b i = behind-stops t c (a.Body v x (with_statement block b) ∷ fs) b i
  settled-stops t c (a.Block block ∷ fs) b i = behind-stops t c (a.Block (with_statement block b) ∷ fs) b i
  settled-stops t c _ b i = tt

  no_part : (fs : List Around) → ends_part (k.LeftOut w) fs ≡ false
  no_part (a.First l ∷ fs) = refl
  no_part (a.Second l x ∷ fs) = refl
  no_part (a.Third l x y ∷ fs) = refl
  no_part (a.Return l ∷ fs) = refl
  no_part _ = refl

  expression_due-stops : (t : Symbol) (c : Names) (fs : List Around) → t.kind ≡ k.LeftOut w → Halts (expression_due t c fs)
  expression_due-stops t c fs i = either Halts (ends_part t.kind fs) _ _
      (λ n. let q = sym (no_part fs) ∙ ap (λ kd. ends_part kd fs) (sym i) ∙ n in absurd cc)
      (λ _. expression-stops t fs _ (step-stops w (c, (f.Only (needs fs) ∷ [], e.Need)) t i))

  place-stops : (p : Point) (t : Symbol) → t.kind ≡ k.LeftOut w → Halts (place t p)
  place-stops (c, (fs, at.Due)) t i = due-stops t c fs i
  place-stops (c, (fs, at.Specifiers frames state)) t i = specifiers-stops t fs _ (step-stops w (c, (frames, state)) t i)
  place-stops (c, (fs, at.Declarator frames state)) t i = declarator-stops t fs _ (step-stops w (c, (frames, state)) t i)
  place-stops (c, (fs, at.Expression frames state)) t i = expression-stops t fs _ (step-stops w (c, (frames, state)) t i)
  place-stops (c, (fs, at.Name l text)) t i = subst (λ kd. Halts (behind_name t c fs l text kd)) (sym i) (expression-stops t (a.Expression ∷ fs) _ (step-stops w (c, (f.Only 1 ∷ [], e.Have (named_node l text))) t i))
  place-stops (c, (fs, at.TypeName l text)) t i = subst (λ kd. Halts (behind_type t c fs l text kd)) (sym i) (specifiers-stops t fs _ (step-stops w (c, (f.Outer ∷ [], e.Words (with_word (no_words l) (word.Typedef l text)))) t i))
  place-stops (c, (fs, at.Target l)) t i = rw i tt
  place-stops (c, (fs, at.Initial)) t i = subst (λ kd. Halts (initial t c fs kd)) (sym i) (expression-stops t fs _ (step-stops w (c, (f.Only 2 ∷ [], e.Need)) t i))
  place-stops (c, (fs, at.Closed x)) t i = subst (λ kd. Halts (initial_ends c kd fs x)) (sym i) (initial_ends-stops c fs x)
  place-stops (c, (fs, at.LeftParen)) t i = rw i tt
  place-stops (c, (fs, at.Need)) t i = expression_due-stops t c fs i
  place-stops (c, (fs, at.Colon)) t i = rw i tt
  place-stops (c, (fs, at.Semicolon b)) t i = rw i tt
  place-stops (c, (fs, at.Got b)) t i = subst (λ kd. Halts (behind t c (settle (is_else kd) fs b))) (sym i) (settled-stops t c fs b i)
  place-stops (c, (fs, at.Over)) t i = tt

  advance-stops : (p : Point) (t : Symbol) → t.kind ≡ k.LeftOut w → Halts (advance t p)
  advance-stops p t i = go (place t p) (place-stops p t i)
    where
      go : (m : Move) → Halts m → Halts (marked t.kind m)
      go (Ok q) h = absurd h
      go (Err o) h = tt

-- No token that was taken is left out.
pub kept_so_far : (ts : List Symbol) (p q : Point) → run p ts ≡ Ok q → AreKept ts
kept_so_far [] p q h = tt
kept_so_far (t ∷ ts) p q h = go (λ z i. kept_so_far ts z q i) (advance t p) (λ w i. advance-stops w p t i) h
  where
    go : ((z : Point) → run z ts ≡ Ok q → AreKept ts) → (m : Move) → ((w : Mark) → t.kind ≡ k.LeftOut w → Halts m) → on_ok (λ z. run z ts) m ≡ Ok q → AreKept (t ∷ ts)
    go rest (Ok z) st h = (st, rest z h)
    go rest (Err o) st h = absurd cc
