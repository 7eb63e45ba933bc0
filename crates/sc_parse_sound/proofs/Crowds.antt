-- Lists with an argument or a parameter too many.
use Rattle.std.proofs.Common.{◌≡◌, refl, ℕ, suc, ◌≤◌, ◌<◌, Bool, true, false, List, [], ◌∷◌, ◌++◌, length, Option, ◌∙◌, arith, append_assoc}
use Rattle.std.specs.Prelude.{nat_lt}
use Rattle.std.proofs.lemmas.Bool.{ltb-true, ltb-false}
use Rattle.sc_tree.specs.declared.expression.Expr.{Expr}
use Rattle.sc_tree.specs.declared.expression.TypeWord.{TypeWord}
use Rattle.sc_tree.specs.declared.expression.Specifiers.{Specifiers}
use Rattle.sc_tree.specs.declared.expression.Parameter.{Parameter}
use Rattle.sc_parse_names.specs.declared.kind.Symbol.{Symbol}
use Rattle.sc_parse_names.specs.Names.{Names}
use Rattle.sc_parse_grammar.specs.declared.operand.Operand.{Operand}
use Rattle.sc_parse_grammar.specs.declared.operand.Direct.{Direct}
use Rattle.sc_parse_grammar.specs.declared.operand.Whole.{Whole}
use Rattle.sc_parse_grammar.specs.declared.operand.Mode.TheVariants as mode
use Rattle.sc_parse_grammar.specs.declared.frame.Frame.{Frame}
use Rattle.sc_parse_grammar.specs.declared.frame.Frame.TheVariants as f
use Rattle.sc_parse_grammar.specs.Types.{declarator_in, declare_in, parameter_of}
use Rattle.sc_parse_grammar.specs.Grammar as g
use Rattle.sc_parse_grammar.specs.Grammar.{Phrase, ParameterTokens}
use Rattle.sc_parse_grammar.specs.Machine.{is_full}
use Rattle.sc_parse_sound.specs.Limits.{TooManyArguments, TooManyParameters}
use Rattle.sc_parse_sound.proofs.Open as w
use Rattle.sc_parse_sound.proofs.Open.{Open, Holds, Typed}

cons_append : {A : Type 0} (x : A) (xs ys : List A) → (x ∷ xs) ++ ys ≡ x ∷ (xs ++ ys)
cons_append x xs ys = refl

parameter_tokens : {e c : Names} {ts : List Symbol} {v : Specifiers TypeWord} {x : Option Whole} → Typed true mode.Either e c ts v x → ParameterTokens true e (declare_in x c) ts (parameter_of v (declarator_in x))
parameter_tokens (w.undeclared p q r) = g.unnamed p q r
parameter_tokens (w.declared p q r y) = g.declared p q r y

module _ (b : Names) (base : Frame) where
  many : {c e : Names} {gs : List Frame} {a x : Operand} {args : List Expr} {n : ℕ} {ds xs d : List Symbol} → Open b base e (f.Arguments a args n ∷ gs) ds → Phrase true e c xs x → 2 ≤ x.level → nat_lt 30 (length args) ≡ true → d ≡ ds ++ xs →
      TooManyArguments d
  many (w.no_arguments t o q r j) p z m i = absurd cc
  many {xs} (w.arguments {d = es} {xs = hs} {ys = zs} t u o q r j y i) p z m a =
      record {
        before = es ++ (hs ++ t ∷ []);
        ts = zs;
        us = xs;
        sign = u;
        names = _;
        between = _;
        after = _;
        args = _;
        high = _;
        x = _;
        all = a ∙ shape es hs zs xs t u;
        arguments = y;
        comma = i;
        phrase = p;
        level = z;
        full = let h = ltb-true _ _ m in omega (arith, h);
      }
    where
      shape : (es hs zs xs : List Symbol) (t u : Symbol) → ((es ++ (hs ++ t ∷ zs)) ++ u ∷ []) ++ xs ≡ (es ++ (hs ++ t ∷ [])) ++ (zs ++ u ∷ xs)
      shape es hs zs xs t u = simp (append_assoc, cons_append)

  -- the argument that ends here
  pub many_arguments : {c : Names} {x : Operand} {d : List Symbol} (fs : List Frame) → Holds b base c fs x d → is_full fs ≡ true → TooManyArguments d
  many_arguments (f.Arguments a args n ∷ fs) h m = many h.opened h.phrase h.fits m h.all
  many_arguments _ h m = absurd cc

  -- the parameter that ends here
  pub last_parameter : {c e : Names} {fs : List Frame} {y : Direct} {ps : List Parameter} {v : Specifiers TypeWord} {x : Option Whole} {ds ts d : List Symbol} → Open b base e (f.Parameters y ps ∷ fs) ds → Typed true mode.Either e c ts v x →
      nat_lt (length ps) 31 ≡ false → d ≡ ds ++ ts → TooManyParameters d
  last_parameter (w.parameters o bg st w.no_parameters) ty m a = absurd cc
  last_parameter {ts = qs} (w.parameters {d = zs} {ts} o bg st (w.parameters {ts = us} sign p i h)) ty m a =
      record {
        before = zs ++ ts;
        ts = us;
        us = qs;
        sign = sign;
        names = _;
        between = _;
        after = _;
        ps = _;
        p = _;
        all = a ∙ shape zs ts us qs sign;
        parameters = p;
        comma = i;
        parameter = parameter_tokens ty;
        full = ltb-false _ _ m;
      }
    where
      shape : (zs ts us qs : List Symbol) (u : Symbol) → (zs ++ (ts ++ (us ++ u ∷ []))) ++ qs ≡ (zs ++ ts) ++ (us ++ u ∷ qs)
      shape zs ts us qs u = simp (append_assoc, cons_append)
