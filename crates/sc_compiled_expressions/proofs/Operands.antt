-- Operands that are computed in a0, that stand in x0, that are fetched, and that wait in a register.
use Rattle.std.proofs.Common.{◌≡◌, ◌⊎◌, inl, inr, ℕ, zero, suc, ◌+◌, ◌-◌, ◌*◌, ◌%◌, ◌^◌, ◌<◌, ◌≤◌, ◌==◌, Bool, true, false, if◌then◌else◌, List, [], ◌∷◌, ◌++◌, length, Option, Some, None, refl, sym, ap, ap₂, subst, ◌∙◌, arith, length-append, pos}
use Rattle.std.proofs.lemmas.Bool.Decides.{nat_tests}
use Rattle.std.specs.Prelude.{option_and_then, option_map, slice_index_or, ◌&&◌}
use Rattle.sc_base.specs.declared.memory.Word.{Word}
use Rattle.sc_isa.specs.declared.instruction.ImmOp.TheVariants as imm
use Rattle.sc_core.specs.declared.expression.CoreExpr.{CoreExpr, out-CoreExpr}
use Rattle.sc_core.specs.declared.expression.CoreExpr.TheOpen.{CoreExpr-F}
use Rattle.sc_core.specs.declared.module.Auto.{Auto}
use Rattle.sc_core.specs.Types.{type_of}
use Rattle.sc_emu.specs.Operations.{bits_of, plain, with_constant}
use Rattle.sc_emu.specs.Registers.{AreRegisters, Registers, register}
use Rattle.sc_meaning.specs.Calls.{eval}
use Rattle.sc_meaning.specs.Expressions.{Answer, Plain, used, valued}
use Rattle.sc_meaning.specs.Outcomes.{Done, Outcome, Over, and_then}
use Rattle.sc_meaning.specs.Values.{Number, Value}
use Rattle.sc_meaning.specs.World.{World, tick}
use Rattle.sc_meaning.proofs.Steps.{here}
use Rattle.sc_mixed.specs.Bridge.{with_registers}
use Rattle.sc_mixed.specs.declared.calls.Calls.{Calls}
use Rattle.sc_mixed_means.specs.Stages.{Stage}
use Rattle.sc_gen_code.specs.declared.style.Kept.{Kept}
use Rattle.sc_gen_code.specs.declared.style.Spot.{Spot}
use Rattle.sc_gen_code.specs.declared.style.Style.{Style}
use Rattle.sc_gen_code.specs.Operators.{is_free}
use Rattle.sc_gen_code.specs.Styles.{found, kept_at}
use Rattle.sc_gen_code.specs.Code.{Code, mv}
use Rattle.sc_gen_operand.specs.declared.plans.Want.TheVariants.{Word as AsWord}
use Rattle.sc_gen_operand.specs.Places.{constant, copy_layer, fetch, in_frame, is_leaf, is_read, stands, stands_by}
use Rattle.sc_gen_operand.specs.Plans.{first, first_register, into, late, late_register, or_register, unless}
use Rattle.sc_gen_expr.specs.Expressions.{part_of}
use Rattle.sc_compiled_values.specs.Straight.{Words, after, with}
use Rattle.sc_compiled_frames.proofs.Values.{number_means}
use Rattle.sc_compiled_expressions.specs.Parts.{End, Family, Meets}
use Rattle.sc_compiled_expressions.proofs.Joining.{at_once, behind_work, in_turn, same_part, weaker_end}
use Rattle.sc_compiled_expressions.specs.Standing.{Home, Keeps, MeansIn, Stands, stub, table}
use Rattle.sc_compiled_expressions.specs.Good.{GivesValue, IsDeeper, IsPlaced, Valued, code_of}
use Rattle.sc_compiled_expressions.proofs.Standing.{keeps_then, keeps_with, placed_back, placed_front, placed_same, stands_with, stands_worked}
use Rattle.sc_compiled_expressions.proofs.Nodes.{used_leads}
use Rattle.sc_compiled_expressions.specs.Straights.{AreStraight}
use Rattle.sc_compiled_expressions.proofs.Numbers.{index_zero}
use Rattle.sc_compiled_expressions.proofs.Registers.{straight_goes}
use Rattle.sc_compiled_expressions.specs.Direct.{EvaluatesTo, Fetched, FetchedPlain, GivesLeaf, HasNoCopy, IsFree}
use Rattle.sc_compiled_expressions.proofs.Fetching.{fetched_keeps}
use Rattle.sc_compiled_expressions.proofs.Loading.{not_sp, put_there}
use Rattle.sc_compiled_expressions.proofs.Reaching.{kept}
use Rattle.sc_compiled_expressions.specs.Operands.{GivesBeside, GivesIn, IsApart, Operand}

module _ (home : Home) (most deep : ℕ) (e : CoreExpr) where
  -- ---- in a0

  pub value_in : (at : Spot) → GivesValue home most deep e at → GivesIn home most deep (code_of home e at) e 10 at
  value_in at good = λ bound dp s c w v pl st.
      weaker_end most s (Valued home at (c.regs.pc + 4 * length (code_of home e at)) c w) (Operand home at 10 (c.regs.pc + 4 * length (code_of home e at)) c w) c w v (λ h m. valued (eval (bound m) h) home.env e v)
      (λ t x u d y p. record { there = p.there; word = p.word; stands = p.stands; keeps = p.keeps }) (good bound dp s c w v pl st)

  -- a first operand that stands nowhere
  pub first_value : (at : Spot) → stands home.style home.autos e ≡ None → GivesValue home most deep e at → GivesIn home most deep (first home.style home.autos AsWord (part_of home.style home.autos e) e at) e (first_register home.style home.autos AsWord e) at
  first_value at none good = subst (λ o. GivesIn home most deep (unless o (code_of home e at)) e (or_register 10 o) at) (sym none) (value_in at good)

  -- ---- a leaf

  pub leaf_beside : (r : ℕ) → GivesLeaf home most deep e r → GivesBeside home most deep (fetch home.style home.autos r e) e r
  leaf_beside r good = λ bound dp s c w v pl st.
      let end : ℕ = c.regs.pc + 4 * length (fetch home.style home.autos r e) in
      in_turn most s (FetchedPlain home r end c w) (Fetched home r end c w) c w v (λ h m. eval (bound m) h home.env e v) (λ a u h m. used a u)
      (good bound dp s c w v pl st) (λ a u h m. used_leads a u)
      (λ t a u d y p. at_once most t (Fetched home r end c w) d y u (λ h m. used a u) p.of (λ h m. ap (λ k. used k u) p.is) p.fetched)

  pub late_leaf : stands home.style home.autos e ≡ None → GivesLeaf home most deep e 11 → GivesBeside home most deep (late home.style home.autos e) e (late_register home.style home.autos e)
  late_leaf none good = subst (λ o. GivesBeside home most deep (unless o (fetch home.style home.autos 11 e)) e (or_register 11 o)) (sym none) (leaf_beside 11 good)

  -- ---- the number 0 stands in x0

  zero_beside : EvaluatesTo home deep e 0 → GivesBeside home most deep [] e 0
  zero_beside means = λ bound dp s c w v pl st.
      let u : World = tick (tick v) in
      let E : End Value = Fetched home 0 (c.regs.pc + 4 * 0) c w in
      let is_zero : register c.regs 0 ≡ plain 0 = index_zero c.regs.words st.regs in
      same_part most s E c w v (λ h m. valued (eval (bound m) h) home.env e v) (λ h m. Done (Number 0) u) (λ h m. ap (λ o. and_then o used) (means bound dp v h m))
      (behind_work most s E c 1 w v (λ h m. Done (Number 0) u) (behind_work most s E c 1 w (tick v) (λ h m. Done (Number 0) u)
      (at_once most s E c w u (λ h m. Done (Number 0) u) (Number 0) (λ h m. refl) (record {
        there = omega arith;
        world = refl;
        word = subst (λ z. MeansIn w z (Number 0)) (sym is_zero) (number_means (stub w) (table w) 0 (omega arith));
        stands = stands_worked home s c w (tick v) 1 (stands_worked home s c w v 1 st);
        same = λ j lt x5 xr. refl;
        rest = refl;
      }))))

  pub late_zero : stands home.style home.autos e ≡ Some 0 → EvaluatesTo home deep e 0 → GivesBeside home most deep (late home.style home.autos e) e (late_register home.style home.autos e)
  late_zero is means = subst (λ o. GivesBeside home most deep (unless o (fetch home.style home.autos 11 e)) e (or_register 11 o)) (sym is) (zero_beside means)

  beside_in : (at : Spot) (code : Code) (r : ℕ) → at.depth ≤ 5 → ((j : ℕ) → j < at.depth → (13 + j == r) ≡ false) → GivesBeside home most deep code e r → GivesIn home most deep code e r at
  beside_in at code r few apart good = λ bound dp s c w v pl st.
      let end : ℕ = c.regs.pc + 4 * length code in
      weaker_end most s (Fetched home r end c w) (Operand home at r end c w) c w v (λ h m. valued (eval (bound m) h) home.env e v)
      (λ t x u d y p. record { there = p.there; word = p.word; stands = p.stands; keeps = fetched_keeps home at r end c w t x u d y few apart p }) (good bound dp s c w v pl st)

  pub first_zero : (at : Spot) → at.depth ≤ 5 → stands home.style home.autos e ≡ Some 0 → EvaluatesTo home deep e 0 → GivesIn home most deep (first home.style home.autos AsWord (part_of home.style home.autos e) e at) e (first_register home.style home.autos AsWord e) at
  first_zero at few is means = subst (λ o. GivesIn home most deep (unless o (code_of home e at)) e (or_register 10 o) at) (sym is) (beside_in at [] 0 few (λ j lt. no_zero j) (zero_beside means))
    where
      no_zero : (j : ℕ) → (13 + j == 0) ≡ false
      no_zero j = grind (arith, nat_tests)

  -- ---- in a register where it waits

  abbrev into_code : ℕ → Spot → Code
  into_code r at = into home.style home.autos AsWord r (part_of home.style home.autos e) e at

  pub into_leaf : (at : Spot) (r : ℕ) → at.depth ≤ 5 → ((j : ℕ) → j < at.depth → (13 + j == r) ≡ false) → is_leaf home.autos e ≡ true → GivesLeaf home most deep e r → GivesIn home most deep (into_code r at) e r at
  into_leaf at r few apart leaf good =
      subst (λ k. GivesIn home most deep k e r at) (sym (ap (λ b. if b then fetch home.style home.autos r e else code_of home e at ++ mv r 10 ∷ []) leaf))
      (beside_in at (fetch home.style home.autos r e) r few apart (leaf_beside r good))

  module _ (at : Spot) (r : ℕ) (free : IsFree r) (few : at.depth ≤ 5) (apart : (j : ℕ) → j < at.depth → (13 + j == r) ≡ false) where
    abbrev ce : Code
    ce = code_of home e at

    abbrev move : Code
    move = mv r 10 ∷ []

    same_word : (x y : Word) → x.bits ≡ y.bits → x.tag ≡ y.tag → x ≡ y
    same_word x y b t = λ i. record { bits = b i; tag = t i }

    moved : (x : Word) → x.bits < 4294967296 → with_constant imm.Addi x (bits_of (pos 0)) ≡ x
    moved x wide = same_word (with_constant imm.Addi x (bits_of (pos 0))) x (adds_none x.bits wide) refl
      where
        adds_none : (n : ℕ) → n < 4294967296 → (n + bits_of (pos 0)) % 4294967296 ≡ n
        adds_none n lt = omega (arith, lt)

    in_file : (j : ℕ) → j < at.depth → 13 + j < 32
    in_file j lt = omega (arith, lt, few)

    once : (o : Outcome Value) → o ≡ and_then o (λ x u. Done x u)
    once (Done x u) = refl
    once (Over f) = refl

    copied : GivesValue home most deep e at → GivesIn home most deep (ce ++ move) e r at
    copied good = λ bound dp s c w v pl st.
        let end : ℕ = c.regs.pc + 4 * length (ce ++ move) in
        let E : End Value = Operand home at r end c w in
        let long = length-append ce move in
        same_part most s E c w v (λ h m. valued (eval (bound m) h) home.env e v) (λ h m. and_then (valued (eval (bound m) h) home.env e v) (λ x u. Done x u)) (λ h m. once (valued (eval (bound m) h) home.env e v))
        (in_turn most s (Valued home at (c.regs.pc + 4 * length ce) c w) E c w v (λ h m. valued (eval (bound m) h) home.env e v) (λ x u h m. Done x u)
        (good bound dp s c w v (placed_front home c.regs.pc ce move pl) st)
        (λ x u h m. here u)
        (λ t x u d y p.
        let there = p.there in
        straight_goes home most t E d y u (λ h m. Done x u) p.stands move ((free.small, omega arith), tt) (placed_same home (c.regs.pc + 4 * length ce) d.regs.pc move move (sym there) refl (placed_back home c.regs.pc ce move pl)) (λ h m. here u)
        (λ zs are each.
        let n : Registers = record { pc = d.regs.pc + 4; words = zs } in
        let word : Word = with_constant imm.Addi (register d.regs 10) (bits_of (pos 0)) in
        let r_is : register n r ≡ register d.regs 10 = each r free.small ∙ put_there r (register d.regs) word free ∙ moved (register d.regs 10) p.word.wide in
        at_once most t E (with_registers n d) y u (λ h m. Done x u) x (λ h m. refl) (record {
          there = omega (arith, there, long);
          word = subst (λ z. MeansIn y z x) (sym r_is) p.word;
          stands = stands_with home t d n y u are (each 2 (omega arith) ∙ kept r (register d.regs) word 2 (not_sp r free)) p.stands;
          keeps = keeps_then home at c d (with_registers n d) w y y p.keeps (keeps_with home at d n y (λ j lt. each (13 + j) (in_file j lt) ∙ kept r (register d.regs) word (13 + j) (apart j lt)));
        }))))

    pub into_value : is_leaf home.autos e ≡ false → GivesValue home most deep e at → GivesIn home most deep (into_code r at) e r at
    into_value leaf good =
        subst (λ k. GivesIn home most deep k e r at) (sym (ap (λ b. if b then fetch home.style home.autos r e else code_of home e at ++ mv r 10 ∷ []) leaf)) (copied good)

-- ---- where no register keeps a copy

none_found : (ks : List Kept) (n : ℕ) → ks ≡ [] → found ks n ≡ None
none_found [] n e = refl
none_found (k ∷ ks) n e = absurd (cc (e))

pub no_copies : (home : Home) (e : CoreExpr) → home.style.kept ≡ [] → HasNoCopy home e
no_copies home e none = λ n f. none_found home.style.kept n none

no_copy : (st : Style) (o : Option ℕ) → st.kept ≡ [] → option_map (λ (k : Kept). k.register) (option_and_then (kept_at st) o) ≡ None
no_copy st None none = refl
no_copy st (Some n) none = ap (option_map (λ (k : Kept). k.register)) (none_found st.kept n none)

copy_none : (st : Style) (autos : List (List Auto)) (x : CoreExpr-F CoreExpr) → st.kept ≡ [] → copy_layer st autos x ≡ None
copy_none st autos (CoreExpr-F.Convert l t a) none = by_test (is_read a && is_free (type_of a) t)
  where
    by_test : (b : Bool) → (if b then option_map (λ (k : Kept). k.register) (option_and_then (kept_at st) (in_frame autos a)) else None) ≡ None
    by_test true = no_copy st (in_frame autos a) none
    by_test false = refl
copy_none st autos x none = refl

module _ (home : Home) (e : CoreExpr) (plain_style : home.style.kept ≡ []) where
  -- a leaf stands nowhere, or is the number 0
  abbrev Stands_plain : Option ℕ → Type 0
  Stands_plain o = (stands home.style home.autos e ≡ None) ⊎ ((o ≡ Some 0) × (stands home.style home.autos e ≡ Some 0))

  by_number : (n : ℕ) (b : Bool) → (n == 0) ≡ b → (o : Option ℕ) → o ≡ Some n → stands home.style home.autos e ≡ (if b then Some 0 else None) → Stands_plain o
  by_number n true z o is st = inr (is ∙ ap Some (zero_is n z), st)
    where
      zero_is : (n : ℕ) → (n == 0) ≡ true → n ≡ 0
      zero_is n z = grind (arith, nat_tests, z)
  by_number n false z o is st = inl st

  by_constant : (o : Option ℕ) → constant e ≡ o → Stands_plain o
  by_constant None is = inl (ap (stands_by home.style home.autos e) is ∙ copy_none home.style home.autos (out-CoreExpr e) plain_style)
  by_constant (Some n) is = by_number n (n == 0) refl (Some n) refl (ap (stands_by home.style home.autos e) is)

  pub stands_plain : (stands home.style home.autos e ≡ None) ⊎ ((constant e ≡ Some 0) × (stands home.style home.autos e ≡ Some 0))
  stands_plain = by_constant (constant e) refl

  -- the registers of operands
  pub first_is : (first_register home.style home.autos AsWord e ≡ 10) ⊎ (first_register home.style home.autos AsWord e ≡ 0)
  first_is = elim stands_plain [
    | inl none ↦ inl (ap (or_register 10) none)
    | inr zero_it ↦ inr (ap (or_register 10) zero_it.1)
  ]

  pub late_is : (late_register home.style home.autos e ≡ 11) ⊎ (late_register home.style home.autos e ≡ 0)
  late_is = elim stands_plain [
    | inl none ↦ inl (ap (or_register 11) none)
    | inr zero_it ↦ inr (ap (or_register 11) zero_it.1)
  ]

  module _ (most deep : ℕ) (number : (n : ℕ) → constant e ≡ Some n → EvaluatesTo home deep e n) where
    pub first_given : (at : Spot) → at.depth ≤ 5 → GivesValue home most deep e at → GivesIn home most deep (first home.style home.autos AsWord (part_of home.style home.autos e) e at) e (first_register home.style home.autos AsWord e) at
    first_given at few good = elim stands_plain [
      | inl none ↦ first_value home most deep e at none good
      | inr zero_it ↦ first_zero home most deep e at few zero_it.1 (number 0 zero_it.0)
    ]

    pub late_given : GivesLeaf home most deep e 11 → GivesBeside home most deep (late home.style home.autos e) e (late_register home.style home.autos e)
    late_given good = elim stands_plain [
      | inl none ↦ late_leaf home most deep e none good
      | inr zero_it ↦ late_zero home most deep e zero_it.1 (number 0 zero_it.0)
    ]

pub apart_given : (ra rb : ℕ) → (ra ≡ 10) ⊎ (ra ≡ 0) → (rb ≡ 11) ⊎ (rb ≡ 0) → IsApart ra rb
apart_given ra rb (inl e) (inl f) = (omega (arith, e), subst (λ k. (k == 5) ≡ false) (sym e) refl, inl (ap₂ (λ i j. i == j) e f))
apart_given ra rb (inl e) (inr f) = (omega (arith, e), subst (λ k. (k == 5) ≡ false) (sym e) refl, inl (ap₂ (λ i j. i == j) e f))
apart_given ra rb (inr e) f = (omega (arith, e), subst (λ k. (k == 5) ≡ false) (sym e) refl, inr e)

pub waits_given : (rb : ℕ) → (rb ≡ 11) ⊎ (rb ≡ 0) → (j : ℕ) → (13 + j == rb) ≡ false
waits_given rb (inl e) j = subst (λ k. (13 + j == k) ≡ false) (sym e) (eleven j)
  where
    eleven : (j : ℕ) → (13 + j == 11) ≡ false
    eleven j = grind (arith, nat_tests)
waits_given rb (inr e) j = subst (λ k. (13 + j == k) ≡ false) (sym e) (none j)
  where
    none : (j : ℕ) → (13 + j == 0) ≡ false
    none j = grind (arith, nat_tests)
