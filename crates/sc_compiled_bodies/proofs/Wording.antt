-- The words of statements that store, call and return, and of a text whose body is a block of statements.
use Rattle.std.proofs.Common.{◌≡◌, ℕ, ◌+◌, ◌<◌, false, List, [], ◌∷◌, ◌++◌, length, None, Some, arith, refl, ap, ◌∙◌}
use Rattle.sc_core.specs.declared.expression.CoreExpr.TheOpen.{CoreExpr-F}
use Rattle.sc_core.specs.declared.module.Fun.{Fun}
use Rattle.sc_core.specs.declared.statement.CoreStmt.{CoreStmt, out-CoreStmt}
use Rattle.sc_core.specs.declared.statement.CoreStmt.TheOpen.{CoreStmt-F}
use Rattle.sc_core.specs.Types.{type_of}
use Rattle.sc_gen_code.specs.Code.{Code, at_target, block_service, li, service}
use Rattle.sc_gen_code.specs.Operators.{machine_type, store_of}
use Rattle.sc_gen_code.specs.Styles.{plain_style}
use Rattle.sc_gen_code.specs.declared.symbolic.Access.{Access}
use Rattle.sc_gen_code.specs.declared.symbolic.Access.TheVariants as access
use Rattle.sc_gen_code.specs.declared.symbolic.Target.TheVariants.{Named}
use Rattle.sc_gen_operand.specs.Places.{named, reach, reach_at}
use Rattle.sc_gen_operand.specs.Plans.{word}
use Rattle.sc_gen_body.specs.Functions.{before_body}
use Rattle.sc_gen_body.specs.Jumps.{Around, nowhere}
use Rattle.sc_gen_body.specs.Statements.{epilogue}
use Rattle.sc_meaning.specs.Statements.{block_autos}
use Rattle.sc_compiled_expressions.specs.Standing.{Home, is_entered}
use Rattle.sc_compiled_expressions.proofs.Nodes.{layer_is}
use Rattle.sc_compiled_expressions.proofs.Places.{name_is}
use Rattle.sc_compiled_expressions.proofs.Setting as setting
use Rattle.sc_compiled_bodies.specs.Exits.{falls}
use Rattle.sc_compiled_bodies.specs.Good.{IsFrame, code_of_statement, spot}
use Rattle.sc_compiled_bodies.specs.Lists.{code_of_list}
use Rattle.sc_compiled_bodies.specs.Procedures.{body_at, body_code, text_of}
use Rattle.sc_compiled_bodies.specs.Steps.{IsCall, IsGiven, IsStore}
use Rattle.sc_compiled_bodies.proofs.Blocks as blocks
use Rattle.sc_compiled_bodies.proofs.Callings.{call_code, callee_is, words}
use Rattle.sc_compiled_bodies.proofs.Loops.{plain_code}
use Rattle.sc_compiled_bodies.proofs.Steps.{in_no_frame, is_by_name, no_copy}
use Rattle.sc_compiled_bodies.proofs.Texts.{text_is, whole}

-- ---- statements

module _ (home : Home) (frame : IsFrame home) (st : CoreStmt) (at : ℕ) (around : Around) where
  -- x = n;
  pub store_words : (text : Code) (p : IsStore text st) → code_of_statement home st at around ≡ li 10 p.number ++ at_target (access.Store (store_of (machine_type (type_of p.left))) 10) (Named p.key)
  store_words text p =
      let what : Access = access.Store (store_of (machine_type (type_of p.left))) 10 in
      plain_code home st (CoreStmt-F.Expression p.line p.whole) at around p.statement refl
      ∙ setting.code home 0 0 p.at p.of p.whole p.left p.right (spot home) p.assigns (is_by_name home 0 frame p.left p.at_left p.of_left p.key p.names) (no_copy home 0 frame p.left p.at_left p.of_left p.key p.names) (omega arith) p.scalar
      ∙ ap (λ c. c ++ reach home.style home.autos what p.left) (layer_is home word p.right (CoreExpr-F.Number p.at_right p.of_right p.number) (spot home) p.gives)
      ∙ ap (λ o. li 10 p.number ++ reach_at home.style what o (named p.left)) (in_no_frame home 0 frame p.left p.at_left p.of_left p.key p.names)
      ∙ ap (λ k. li 10 p.number ++ reach_at home.style what None k) (name_is p.left (CoreExpr-F.Static p.at_left p.of_left p.key) p.names)

  -- f();
  pub call_words : home.style ≡ plain_style → (spot home).low < 2048 → (text : Code) (p : IsCall text st) → code_of_statement home st at around ≡ words p.key
  call_words plain low text p =
      plain_code home st (CoreStmt-F.Expression p.line p.whole) at around p.statement refl
      ∙ call_code home p.at p.of p.whole p.callee (spot home) p.key plain p.calls (callee_is text st p) p.other low

  -- return;
  pub return_words : (line : ℕ) → out-CoreStmt st ≡ CoreStmt-F.Return line None → code_of_statement home st at around ≡ falls home at
  return_words line is = plain_code home st (CoreStmt-F.Return line None) at around is refl

  -- return n;
  pub given_words : (p : IsGiven st) → code_of_statement home st at around ≡ li 10 p.number ++ (block_service 3 0 ++ epilogue home.cost)
  given_words p =
      plain_code home st (CoreStmt-F.Return p.line (Some p.value)) at around p.statement refl
      ∙ ap (λ c. c ++ (block_service 3 0 ++ epilogue home.cost)) (layer_is home word p.value (CoreExpr-F.Number p.at p.of p.number) (spot home) p.gives)

-- ---- statements in order

-- each of them has these words, wherever it stands
abbrev pub HaveWords : Home → Around → List CoreStmt → List Code → Type 0
HaveWords home around [] [] = Unit {0}
HaveWords home around [] (w ∷ ws) = ⊥
HaveWords home around (s ∷ ss) [] = ⊥
HaveWords home around (s ∷ ss) (w ∷ ws) = ((at : ℕ) → code_of_statement home s at around ≡ w) × HaveWords home around ss ws

abbrev pub joined : List Code → Code
joined [] = []
joined (w ∷ ws) = w ++ joined ws

list_words : (home : Home) (around : Around) (ss : List CoreStmt) (ws : List Code) (at : ℕ) → HaveWords home around ss ws → code_of_list home ss at around ≡ joined ws
list_words home around [] [] at p = refl
list_words home around [] (w ∷ ws) at p = absurd p
list_words home around (s ∷ ss) [] at p = absurd p
list_words home around (s ∷ ss) (w ∷ ws) at p = ap (λ k. k ++ code_of_list home ss (at + length k) around) (p.0 at) ∙ ap (λ c. w ++ c) (list_words home around ss ws (at + length w) p.1)

-- ---- a text

-- the text of a function whose body is a block that is not entered
pub text_words : (home : Home) (f : Fun) (line block : ℕ) (ss : List CoreStmt) (ws : List Code) → out-CoreStmt f.body ≡ CoreStmt-F.Block line block [] ss → is_entered home.style home.autos block ≡ false → block_autos home.env block ≡ [] → f.cost < 2048
    → text_of f ≡ before_body plain_style f ++ (body_code home f ++ (service 6 ++ epilogue f.cost)) → HaveWords home nowhere ss ws → text_of f ≡ whole f.cost (joined ws)
text_words home f line block ss ws is out none most part have =
    part
    ∙ ap (λ c. before_body plain_style f ++ (c ++ (service 6 ++ epilogue f.cost))) (blocks.code home 0 0 line block f.body ss (body_at f) nowhere is out none ∙ list_words home nowhere ss ws (body_at f) have)
    ∙ text_is f most (joined ws)
