-- What the generator writes for a function: the entry, the frame, the place of return, the body, what asks for the return, and the epilogue.
use Rattle.std.proofs.Common.{◌≡◌, ℕ, ◌-◌, ◌<◌, Bool, true, false, if◌then◌else◌, nat_lt, [], ◌∷◌, ◌++◌, None, append-nil, append_assoc, arith, refl, sym, ap, ◌∙◌, pos}
use Rattle.std.proofs.lemmas.Bool.Decides.{nat_tests}
use Rattle.sc_core.specs.declared.module.Fun.{Fun}
use Rattle.sc_core.specs.declared.statement.CoreStmt.{out-CoreStmt}
use Rattle.sc_core.specs.declared.statement.CoreStmt.TheOpen.{CoreStmt-F}
use Rattle.sc_isa.specs.declared.instruction.Instr.TheVariants.{Store}
use Rattle.sc_isa.specs.declared.instruction.StoreOp.TheVariants.{Sw}
use Rattle.sc_gen_code.specs.declared.symbolic.Access.TheVariants as access
use Rattle.sc_gen_code.specs.declared.symbolic.Symbolic.TheVariants.{Plain}
use Rattle.sc_gen_code.specs.Code.{Code, addi, ecall, near, ra, service}
use Rattle.sc_gen_code.specs.Styles.{plain_style}
use Rattle.sc_gen_body.specs.Frames.{Frame, entered_in}
use Rattle.sc_gen_body.specs.Functions.{before_body, frame_taken, prologue}
use Rattle.sc_gen_body.specs.Jumps.{leaving, nowhere}
use Rattle.sc_gen_body.specs.Statements.{Inner, block_layer, body_of, entry_by, epilogue, statement_code, whole_by}
use Rattle.sc_gen_body.proofs.Arms.{shape}

-- ra is put into the frame's last place
abbrev pub place_kept : ℕ → Code
place_kept cost = Plain (Store Sw 1 2 (pos (cost - 4))) ∷ []

abbrev pub entry : Code
entry = addi 5 0 (pos 2) ∷ addi 6 0 (pos 0) ∷ ecall ∷ []

-- around the code of a body
abbrev pub whole : ℕ → Code → Code
whole cost body = entry ++ (frame_taken cost ++ (place_kept cost ++ (body ++ (service 6 ++ epilogue cost))))

module _ (f : Fun) (most : f.cost < 2048) where
  is_near : nat_lt (f.cost - 4) 2048 ≡ true
  is_near = grind (arith, nat_tests, most)

  kept_code : (b : Bool) → b ≡ true → (other : Code) → (if b then place_kept f.cost else other) ≡ place_kept f.cost
  kept_code true p other = refl
  kept_code false p other = absurd (cc (p))

  pub before_is : before_body plain_style f ≡ entry ++ (frame_taken f.cost ++ place_kept f.cost)
  before_is =
      let kept : near (f.cost - 4) (access.Store Sw ra) ≡ place_kept f.cost = kept_code (nat_lt (f.cost - 4) 2048) is_near _ in
      append-nil (prologue f.cost)
      ∙ append_assoc entry (frame_taken f.cost) (near (f.cost - 4) (access.Store Sw ra))
      ∙ ap (λ c. entry ++ (frame_taken f.cost ++ c)) kept

  pub text_is : (body : Code) → before_body plain_style f ++ (body ++ (service 6 ++ epilogue f.cost)) ≡ whole f.cost body
  text_is body =
      let rest : Code = body ++ (service 6 ++ epilogue f.cost) in
      ap (λ c. c ++ rest) before_is
      ∙ append_assoc entry (frame_taken f.cost ++ place_kept f.cost) rest
      ∙ ap (λ c. entry ++ c) (append_assoc (frame_taken f.cost) (place_kept f.cost) rest)

-- the body of a function without a statement is no word
module _ (f : Fun) (line block : ℕ) (body : out-CoreStmt f.body ≡ CoreStmt-F.Block line block [] []) (fr : Frame) (unentered : entered_in fr block ≡ None) (at : ℕ) where
  pub body_none : statement_code fr f.body at nowhere ≡ []
  body_none =
      ap (λ o. whole_by (entry_by fr o) (body_of fr f.body) f.body at nowhere) (ap block_layer body)
      ∙ ap (λ o. whole_by o (body_of fr f.body) f.body at nowhere) unentered
      ∙ ap (λ (i : Inner). i.code) (sym (shape fr f.body (CoreStmt-F.Block line block [] []) body at nowhere))
      ∙ ap leaving unentered
