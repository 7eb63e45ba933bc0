-- Leaves are fetched where they are used: a number, and the scalar of a place without code.
use Rattle.std.proofs.Common.{◌≡◌, ◌⊎◌, inl, inr, ℕ, zero, suc, ◌+◌, ◌-◌, ◌*◌, ◌%◌, ◌^◌, ◌<◌, ◌≤◌, ◌==◌, ◌||◌, ◌&&◌, Bool, true, false, if◌then◌else◌, nat_lt, nat_le, ℤ, pos, List, [], ◌∷◌, ◌++◌, length, Option, Some, None, refl, sym, ap, ap₂, subst, ◌∙◌, arith, length-append}
use Rattle.std.proofs.lemmas.Bool.{and_parts}
use Rattle.std.proofs.lemmas.Bool.Decides.{nat_tests}
use Rattle.std.proofs.lemmas.Int.{of_z-to_z}
use Rattle.std.specs.Int.{w32, cast_signed}
use Rattle.std.specs.Prelude.{slice_index_or}
use Rattle.sc_base.specs.declared.integer.Int.{Int}
use Rattle.sc_base.specs.declared.integer.Int.TheVariants as int
use Rattle.sc_base.specs.declared.memory.Word.{Word}
use Rattle.sc_base.specs.declared.operator.Op.TheVariants as op
use Rattle.sc_isa.specs.declared.instruction.Instr.TheVariants.{Lui}
use Rattle.sc_isa.specs.declared.instruction.ImmOp.TheVariants as imm
use Rattle.sc_isa.specs.declared.instruction.LoadOp.{LoadOp}
use Rattle.sc_isa_image.specs.Stubs.{upper_of, lower_of}
use Rattle.sc_types.specs.declared.ctype.CType.{CType, out-CType}
use Rattle.sc_types.specs.declared.ctype.CType.TheOpen.{CType-F}
use Rattle.sc_types.specs.declared.ctype.Signature.{Signature}
use Rattle.sc_core.specs.declared.expression.CoreExpr.{CoreExpr, out-CoreExpr}
use Rattle.sc_core.specs.declared.expression.CoreExpr.TheOpen.{CoreExpr-F}
use Rattle.sc_core.specs.Types.{type_of}
use Rattle.sc_check_operand.specs.Operands.{is_place}
use Rattle.sc_ops.specs.Numbers.{converted}
use Rattle.sc_emu.specs.Operations.{bits_of, plain, with_constant}
use Rattle.sc_emu.specs.Registers.{AreRegisters, Registers, register}
use Rattle.sc_meaning.specs.Accesses.{as_type, loaded, order_breach, placed, steps_of}
use Rattle.sc_meaning.specs.Calls.{eval}
use Rattle.sc_meaning.specs.Expressions.{Answer, Nothing, Part, Place, Plain, address, as_answer, decayed, base_of, conversion, finished, further_of, layer_read, read}
use Rattle.sc_meaning.specs.Laws.{Leads}
use Rattle.sc_meaning.specs.Outcomes.{Done, Outcome, Over, access_breach, and_then, unless, world_after}
use Rattle.sc_base.specs.declared.report.Rule.{Rule}
use Rattle.sc_meaning.specs.Values.{Number, Value, int_of, is_pointer_type, layer_size, scalar_size, value_of_cells}
use Rattle.sc_meaning.specs.Violations.{cells_read, load_rule, shift_rule, target}
use Rattle.sc_meaning.specs.Versions.{History}
use Rattle.sc_meaning.specs.World.{Work, World, tick}
use Rattle.sc_meaning.proofs.Growing.{leads_then}
use Rattle.sc_meaning.proofs.Steps.{here, one_more}
use Rattle.sc_mixed.specs.Bridge.{with_registers}
use Rattle.sc_mixed.specs.declared.calls.Calls.{Calls}
use Rattle.sc_mixed_means.specs.Stages.{Stage}
use Rattle.sc_gen_code.specs.declared.style.Spot.{Spot}
use Rattle.sc_gen_code.specs.declared.symbolic.Access.TheVariants as access
use Rattle.sc_gen_code.specs.declared.symbolic.Symbolic.TheVariants.{Plain as Word_of}
use Rattle.sc_gen_code.specs.Code.{Code, addi, li}
use Rattle.sc_gen_code.specs.Operators.{is_scalar, load_of, machine_level, machine_type, reconvert, scalar_level}
use Rattle.sc_gen_operand.specs.Places.{constant, fetch, fetched_leaf, is_direct, is_read, reach, scalar_fetched}
use Rattle.sc_compiled_values.specs.Straight.{Words, after, with}
use Rattle.sc_compiled_frames.specs.Accesses.{IsCanonical, Reads}
use Rattle.sc_compiled_frames.specs.Words.{IsOf}
use Rattle.sc_compiled_frames.proofs.Converting.{type_reconverts}
use Rattle.sc_compiled_frames.proofs.Narrowing.{byte, half, signed_byte, signed_half, signed_word, unsigned_word}
use Rattle.sc_compiled_frames.proofs.Values.{number_means}
use Rattle.sc_compiled_expressions.specs.Parts.{End, Family, Leading, Meets}
use Rattle.sc_compiled_expressions.proofs.Joining.{at_once, behind_work, in_turn, same_part, weaker_end}
use Rattle.sc_compiled_expressions.specs.Standing.{Home, Keeps, MeansIn, Stands, stub, table}
use Rattle.sc_compiled_expressions.specs.Good.{AnsweredPlain, GivesPlain, IsDeeper, IsPlaced, code_of}
use Rattle.sc_compiled_expressions.proofs.Standing.{keeps_with, placed_back, placed_front, placed_same, stands_with, stands_worked}
use Rattle.sc_compiled_expressions.proofs.Nodes.{family_opens, less}
use Rattle.sc_compiled_expressions.specs.Straights.{AreStraight}
use Rattle.sc_compiled_expressions.proofs.Numbers.{index_zero}
use Rattle.sc_compiled_expressions.proofs.Registers.{straight_goes}
use Rattle.sc_compiled_expressions.specs.Direct.{AtAccess, Converts, EvaluatesTo, Fetched, FetchedPlain, GivesLeaf, GivesPlace, HasNoCopy, IsAtPlace, IsFree, IsTyped, PlaceFound}
use Rattle.sc_compiled_expressions.proofs.Reaching.{kept, reach_goes}
use Rattle.sc_compiled_expressions.proofs.Loading.{load_meets, not_sp, put_there, reconvert_does, reconvert_keeps, reconvert_straight}
use Rattle.sc_compiled_values.proofs.Scaling.{halves, from_zero}

-- ---- the loads of scalars

pub scalar_some : (l : CType-F CType Signature) → scalar_level l ≡ true → 0 < layer_size l
scalar_some (CType-F.Int int.Char c) e = omega arith
scalar_some (CType-F.Int int.SChar c) e = omega arith
scalar_some (CType-F.Int int.UChar c) e = omega arith
scalar_some (CType-F.Int int.Short c) e = omega arith
scalar_some (CType-F.Int int.UShort c) e = omega arith
scalar_some (CType-F.Int int.Int c) e = omega arith
scalar_some (CType-F.Int int.UInt c) e = omega arith
scalar_some (CType-F.Int int.Long c) e = omega arith
scalar_some (CType-F.Int int.ULong c) e = omega arith
scalar_some (CType-F.Pointer p c) e = omega arith
scalar_some (CType-F.Void c) e = absurd (cc (e))
scalar_some (CType-F.Array t n) e = absurd (cc (e))
scalar_some (CType-F.Struct s c) e = absurd (cc (e))
scalar_some (CType-F.Function f) e = absurd (cc (e))

pub scalar_reads : (l : CType-F CType Signature) → scalar_level l ≡ true → Reads (load_of (machine_level l)) l
scalar_reads (CType-F.Int int.Char c) e = record { size = refl; number = λ n lt q. ap plain (sym (byte n lt)); word = λ x q. absurd (cc (q)) }
scalar_reads (CType-F.Int int.SChar c) e = record { size = refl; number = λ n lt q. ap plain (sym (signed_byte n)); word = λ x q. absurd (cc (q)) }
scalar_reads (CType-F.Int int.UChar c) e = record { size = refl; number = λ n lt q. ap plain (sym (byte n lt)); word = λ x q. absurd (cc (q)) }
scalar_reads (CType-F.Int int.Short c) e = record { size = refl; number = λ n lt q. ap plain (sym (signed_half n)); word = λ x q. absurd (cc (q)) }
scalar_reads (CType-F.Int int.UShort c) e = record { size = refl; number = λ n lt q. ap plain (sym (half n lt)); word = λ x q. absurd (cc (q)) }
scalar_reads (CType-F.Int int.Int c) e = record { size = refl; number = λ n lt q. ap plain (sym (signed_word n lt)); word = λ x q. refl }
scalar_reads (CType-F.Int int.UInt c) e = record { size = refl; number = λ n lt q. ap plain (sym (unsigned_word n lt)); word = λ x q. refl }
scalar_reads (CType-F.Int int.Long c) e = record { size = refl; number = λ n lt q. ap plain (sym (signed_word n lt)); word = λ x q. refl }
scalar_reads (CType-F.Int int.ULong c) e = record { size = refl; number = λ n lt q. ap plain (sym (unsigned_word n lt)); word = λ x q. refl }
scalar_reads (CType-F.Pointer p c) e = record { size = refl; number = λ n lt q. absurd (cc (q)); word = λ x q. refl }
scalar_reads (CType-F.Void c) e = absurd (cc (e))
scalar_reads (CType-F.Array t n) e = absurd (cc (e))
scalar_reads (CType-F.Struct s c) e = absurd (cc (e))
scalar_reads (CType-F.Function f) e = absurd (cc (e))

-- ---- what a conversion of a place means

layer_same : (l : CType-F CType Signature) (from : CType) (x : Answer) (u : World) → scalar_level l ≡ true → layer_read l from x u ≡ read from x u
layer_same (CType-F.Int i c) from x u e = refl
layer_same (CType-F.Pointer p c) from x u e = refl
layer_same (CType-F.Void c) from x u e = absurd (cc (e))
layer_same (CType-F.Array t n) from x u e = absurd (cc (e))
layer_same (CType-F.Struct s c) from x u e = absurd (cc (e))
layer_same (CType-F.Function f) from x u e = absurd (cc (e))

joins : (to : CType) (o : Outcome Value) → and_then (and_then o (λ z w. Done (Plain z) w)) (λ a w. Done (as_answer to a) w) ≡ and_then o (λ z w. Done (Plain (as_type to z)) w)
joins to (Done z w) = refl
joins to (Over e) = refl

read_place : (from to : CType) (x : Answer) (u : World) → IsAtPlace x → and_then (read from x u) (λ a w. Done (as_answer to a) w) ≡ and_then (loaded from (base_of x) (further_of x) u) (λ z w. Done (Plain (as_type to z)) w)
read_place from to (Plain v) u k = absurd k
read_place from to (Place p) u k = joins to (loaded from p 0 u)
read_place from to (Part p n) u k = joins to (loaded from p n u)
read_place from to Nothing u k = absurd k

pub conversion_reads : (from to : CType) (x : Answer) (u : World) → is_scalar from ≡ true → IsAtPlace x → conversion from to x u ≡ and_then (loaded from (base_of x) (further_of x) u) (λ z w. Done (Plain (as_type to z)) w)
conversion_reads from to x u scalar kind = ap (λ o. and_then o (λ a w. Done (as_answer to a) w)) (layer_same (out-CType from) from x u scalar) ∙ read_place from to x u kind

loaded_leads : (ty : CType) (p : Value) (further : ℕ) (u : World) → Leads u (world_after (loaded ty p further u))
loaded_leads ty p further u = by_rule (load_rule u.objects p further (scalar_size ty) (is_pointer_type ty))
  where
    by_rule : (o : Option Rule) → Leads u (world_after (unless o (access_breach p further (scalar_size ty) u) (λ w. Done (as_type ty (value_of_cells (cells_read w.objects p further (scalar_size ty)))) w) u))
    by_rule None = here u
    by_rule (Some r) = here u

conversion_leads : (from to : CType) (x : Answer) (u : World) → Leads u (world_after (and_then (loaded from (base_of x) (further_of x) u) (λ z w. Done (Plain (as_type to z)) w)))
conversion_leads from to x u = leads_then u (loaded from (base_of x) (further_of x) u) (λ z w. Done (Plain (as_type to z)) w) (loaded_leads from (base_of x) (further_of x) u) (λ z w. here w)

-- ---- any conversion goes on

read_leads : (ty : CType) (x : Answer) (u : World) → Leads u (world_after (read ty x u))
read_leads ty (Plain z) u = here u
read_leads ty (Place p) u = leads_then u (loaded ty p 0 u) (λ z w. Done (Plain z) w) (loaded_leads ty p 0 u) (λ z w. here w)
read_leads ty (Part p n) u = leads_then u (loaded ty p n u) (λ z w. Done (Plain z) w) (loaded_leads ty p n u) (λ z w. here w)
read_leads ty Nothing u = here u

address_leads : (x : Answer) (u : World) → Leads u (world_after (address x u))
address_leads (Plain z) u = here u
address_leads (Place p) u = here u
address_leads (Part p n) u = by_rule (shift_rule u.objects p (Number n) (steps_of op.Add int.UInt (Number n)) 1)
  where
    by_rule : (o : Option Rule) → Leads u (world_after (unless o (order_breach true op.Add p int.UInt (Number n) u) (λ w. Done (placed p (target p (steps_of op.Add int.UInt (Number n)) 1)) w) u))
    by_rule None = here u
    by_rule (Some r) = here u
address_leads Nothing u = here u

decayed_leads : (x : Answer) (u : World) → Leads u (world_after (decayed x u))
decayed_leads x u = leads_then u (address x u) (λ p w. Done (Plain p) w) (address_leads x u) (λ p w. here w)

layer_leads : (lv : CType-F CType Signature) (ty : CType) (x : Answer) (u : World) → Leads u (world_after (layer_read lv ty x u))
layer_leads (CType-F.Void c) ty x u = here u
layer_leads (CType-F.Int i c) ty x u = read_leads ty x u
layer_leads (CType-F.Pointer p c) ty x u = read_leads ty x u
layer_leads (CType-F.Array e n) ty x u = decayed_leads x u
layer_leads (CType-F.Struct s c) ty x u = here u
layer_leads (CType-F.Function f) ty x u = decayed_leads x u

pub any_conversion_leads : (from to : CType) (x : Answer) (u : World) → Leads u (world_after (conversion from to x u))
any_conversion_leads from to x u = leads_then u (layer_read (out-CType from) from x u) (λ a w. Done (as_answer to a) w) (layer_leads (out-CType from) from x u) (λ a w. here w)

pub converts_of : (from to : CType) (z : Value) → Converts from to → IsOf from z → IsOf to z
converts_of from to z (inl p) of = inl p
converts_of from to z (inr n) (inl q) = absurd (cc (n, q))
converts_of from to z (inr n) (inr p) = inr p

-- ---- a leaf is code of an expression

module _ (home : Home) where
  pub fetched_keeps : (at : Spot) (r end : ℕ) (c : Calls) (w : World) (s : Stage) (x : Value) (u : World) (d : Calls) (y : World) → at.depth ≤ 5 → ((j : ℕ) → j < at.depth → (13 + j == r) ≡ false) → Fetched home r end c w s x u d y → Keeps home at c w d y
  fetched_keeps at r end c w s x u d y few apart f =
      subst (λ z. Keeps home at c w d z) (sym f.world)
      (subst (λ k. Keeps home at c w k w) (sym f.rest)
      (keeps_with home at c d.regs w (λ j lt. f.same (13 + j) (small j lt) (not_five j) (apart j lt))))
    where
      small : (j : ℕ) → j < at.depth → 13 + j < 32
      small j lt = omega (arith, lt, few)

      not_five : (j : ℕ) → (13 + j == 5) ≡ false
      not_five j = grind (arith, nat_tests)

  pub not_ten : (j : ℕ) → (13 + j == 10) ≡ false
  not_ten j = grind (arith, nat_tests)

  pub leaf_given : (most deep : ℕ) (e : CoreExpr) (at : Spot) → at.depth ≤ 5 → code_of home e at ≡ fetch home.style home.autos 10 e → GivesLeaf home most deep e 10 → GivesPlain home most deep e at
  leaf_given most deep e at few code good = λ bound dp s c w v pl st.
      let f : Code = fetch home.style home.autos 10 e in
      let end : c.regs.pc + 4 * length f ≡ c.regs.pc + 4 * length (code_of home e at) = ap (λ (k : Code). c.regs.pc + 4 * length k) (sym code) in
      weaker_end most s (FetchedPlain home 10 (c.regs.pc + 4 * length f) c w) (AnsweredPlain home at (c.regs.pc + 4 * length (code_of home e at)) c w) c w v (λ h m. eval (bound m) h home.env e v)
      (λ t a u d y p. record {
        of = p.of;
        is = p.is;
        valued = record { there = p.fetched.there ∙ end; word = p.fetched.word; stands = p.fetched.stands; keeps = fetched_keeps at 10 (c.regs.pc + 4 * length f) c w t p.of u d y few (λ j lt. not_ten j) p.fetched };
      })
      (good bound dp s c w v (placed_same home c.regs.pc c.regs.pc (code_of home e at) f refl code pl) st)

-- ---- the scalar of a place without code

module _ (home : Home) (most deep l : ℕ) (t : CType) (e a : CoreExpr) (r : ℕ) (is : out-CoreExpr e ≡ CoreExpr-F.Convert l t a) (none : constant e ≡ None) (taken : is_read a ≡ true) (direct : is_direct home.autos a ≡ true) (alone : HasNoCopy home a)
    (free : IsFree r) (may : Converts (type_of a) t) (good : GivesPlace home most deep a) where
  abbrev from : CType
  from = type_of a

  abbrev load : LoadOp
  load = load_of (machine_type from)

  abbrev cr : Code
  cr = reach home.style home.autos (access.Load load r) a

  abbrev cv : Code
  cv = reconvert from t r

  code : fetch home.style home.autos r e ≡ cr ++ cv
  code = ap (fetched_leaf home.style home.autos r e) none ∙ ap (scalar_fetched home.style home.autos r) is

  scalar : is_scalar from ≡ true
  scalar = (and_parts (is_place a) (is_scalar from) taken).1

  module _ (bound : ℕ → ℕ) (dp : IsDeeper (suc deep) bound) (s : Stage) (c : Calls) (w v : World) (pl : IsPlaced home c.regs.pc (fetch home.style home.autos r e)) (st : Stands home s c w v) where
    abbrev end : ℕ
    end = c.regs.pc + 4 * length (fetch home.style home.autos r e)

    abbrev E : End Answer
    E = FetchedPlain home r end c w

    both : IsPlaced home c.regs.pc (cr ++ cv)
    both = placed_same home c.regs.pc c.regs.pc (fetch home.style home.autos r e) (cr ++ cv) refl code pl

    whole : end ≡ c.regs.pc + 4 * length cr + 4 * length cv
    whole = let n = ap length code in let m = length-append cr cv in omega (arith, n, m)

    -- what was read is converted
    converts : (q : Stage) (z : Value) (o : World) (d f : Calls) (y g : World) → d ≡ c → y ≡ w → Fetched home r (d.regs.pc + 4 * length cr) d y q z o f g → IsTyped from z → Meets most q E f g o (λ h m. Done (Plain (as_type t z)) o)
    converts q z o d f y g same_d same_y p typed =
        let pc : f.regs.pc ≡ c.regs.pc + 4 * length cr = p.there ∙ ap (λ (k : Calls). k.regs.pc + 4 * length cr) same_d in
        straight_goes home most q E f g o (λ h m. Done (Plain (as_type t z)) o) p.stands cv (reconvert_straight r free from t) (placed_same home (c.regs.pc + 4 * length cr) f.regs.pc cv cv (sym pc) refl (placed_back home c.regs.pc cr cv both))
        (λ h m. here o)
        (λ zs are each.
        let n : Registers = record { pc = f.regs.pc + 4 * length cv; words = zs } in
        let means = type_reconverts (stub g) (table g) from t (register f.regs r) z (converts_of from t z may typed.of) typed.canonical p.word in
        let all_is = whole in
        at_once most q E (with_registers n f) g o (λ h m. Done (Plain (as_type t z)) o) (Plain (as_type t z)) (λ h m. refl) (record {
          of = as_type t z;
          is = refl;
          fetched = record {
            there = omega (arith, pc, all_is);
            world = p.world ∙ same_y;
            word = subst (λ k. MeansIn g k (as_type t z)) (sym (each r free.small ∙ reconvert_does r free from t (register f.regs))) means;
            stands = stands_with home q f n g o are (each 2 (omega arith) ∙ reconvert_keeps r free from t (register f.regs) 2 (not_sp r free)) p.stands;
            same = λ j lt x5 xr. each j lt ∙ reconvert_keeps r free from t (register f.regs) j xr ∙ p.same j lt x5 xr ∙ ap (λ (k : Calls). register k.regs j) same_d;
            rest = ap (with_registers n) p.rest ∙ ap (with_registers n) same_d;
          };
        }))

    -- the place has been found
    reads : (q : Stage) (x : Answer) (u : World) (d : Calls) (y : World) → PlaceFound home a c w q x u d y → Meets most q E d y u (λ h m. conversion from t x u)
    reads q x u d y p =
        same_part most q E d y u (λ h m. conversion from t x u) (λ h m. and_then (loaded from (base_of x) (further_of x) u) (λ z w. Done (Plain (as_type t z)) w)) (λ h m. conversion_reads from t x u scalar p.kind)
        (reach_goes home most q E c d w y u (λ h m. and_then (loaded from (base_of x) (further_of x) u) (λ z w. Done (Plain (as_type t z)) w)) a x (λ h m. conversion_leads from t x u) (access.Load load r) p alone direct
        (placed_same home c.regs.pc d.regs.pc cr cr (ap (λ (k : Calls). k.regs.pc) (sym p.calls)) refl (placed_front home c.regs.pc cr cv both))
        (λ k at.
        in_turn most q (λ t2 z o f g. Fetched home r (d.regs.pc + 4 * length cr) d y t2 z o f g × IsTyped from z) E k y u (λ h m. loaded from (base_of x) (further_of x) u) (λ z o h m. Done (Plain (as_type t z)) o)
        (load_meets home most q d k y u p.stands load r from x p.place (d.regs.pc + 4 * length cr) at free p.word (scalar_reads (out-CType from) scalar) (scalar_some (out-CType from) scalar))
        (λ z o h m. here o)
        (λ t2 z o f g got. converts t2 z o d f y g p.calls p.world got.0 got.1)))

    pub read_meets : Meets most s E c w v (λ h m. eval (bound m) h home.env e v)
    read_meets =
        same_part most s E c w v (λ h m. eval (bound m) h home.env e v) (λ h m. and_then (eval (bound m - 1) h home.env a v) (conversion from t)) (λ h m. family_opens deep bound dp home.env e (CoreExpr-F.Convert l t a) is v h m)
        (in_turn most s (PlaceFound home a c w) E c w v (λ h m. eval (bound m - 1) h home.env a v) (λ x u h m. conversion from t x u)
        (good (λ m. bound m - 1) (less deep bound dp) s c w v st)
        (λ x u h m. any_conversion_leads from t x u)
        (λ q x u d y p. reads q x u d y p))

pub read_leaf : (home : Home) (most deep l : ℕ) (t : CType) (e a : CoreExpr) (r : ℕ) → out-CoreExpr e ≡ CoreExpr-F.Convert l t a → constant e ≡ None → is_read a ≡ true → is_direct home.autos a ≡ true → HasNoCopy home a → IsFree r → Converts (type_of a) t → GivesPlace home most deep a
    → GivesLeaf home most (suc deep) e r
read_leaf home most deep l t e a r is none taken direct alone free may good = λ bound dp s c w v pl st. read_meets home most deep l t e a r is none taken direct alone free may good bound dp s c w v pl st

-- ---- a number

abbrev li_by : Bool → ℕ → ℕ → Code
li_by b r n = if b then addi r 0 (cast_signed w32 n) ∷ [] else Word_of (Lui r (upper_of n)) ∷ addi r r (lower_of n) ∷ []

abbrev is_short : ℕ → Bool
is_short n = nat_lt n 2048 || nat_le 4294965248 n

module _ (r : ℕ) (free : IsFree r) where
  li_straight : (b : Bool) (n : ℕ) → AreStraight (li_by b r n)
  li_straight true n = ((free.small, omega arith), tt)
  li_straight false n = (free.small, ((free.small, free.small), tt))

  li_does : (b : Bool) (n : ℕ) (f : Words) → n < 4294967296 → f 0 ≡ plain 0 → after (li_by b r n) f r ≡ plain n
  li_does true n f lt z = put_there r f (with_constant imm.Addi (f 0) (bits_of (cast_signed w32 n))) free ∙ ap₂ (with_constant imm.Addi) z (of_z-to_z w32 n lt) ∙ ap plain (from_zero n lt)
  li_does false n f lt z =
      let first : Words = with f r (plain (upper_of n * 4096)) in
      put_there r first (with_constant imm.Addi (first r) (bits_of (lower_of n))) free ∙ ap (λ k. with_constant imm.Addi k (bits_of (lower_of n))) (put_there r f (plain (upper_of n * 4096)) free) ∙ ap plain (halves n lt)

  li_keeps : (b : Bool) (n : ℕ) (f : Words) (j : ℕ) → (j == r) ≡ false → after (li_by b r n) f j ≡ f j
  li_keeps true n f j e = kept r f (with_constant imm.Addi (f 0) (bits_of (cast_signed w32 n))) j e
  li_keeps false n f j e =
      let first : Words = with f r (plain (upper_of n * 4096)) in
      kept r first (with_constant imm.Addi (first r) (bits_of (lower_of n))) j e ∙ kept r f (plain (upper_of n * 4096)) j e

pub number_evaluates : (home : Home) (deep l : ℕ) (t : CType) (n : ℕ) (e : CoreExpr) → out-CoreExpr e ≡ CoreExpr-F.Number l t n → EvaluatesTo home (suc deep) e n
number_evaluates home deep l t n e is = λ bound dp v h m. family_opens deep bound dp home.env e (CoreExpr-F.Number l t n) is v h m

-- a number that is converted as it stands
pub layer_plain : (lv : CType-F CType Signature) (from : CType) (z : Value) (u : World) → scalar_level lv ≡ true → layer_read lv from (Plain z) u ≡ Done (Plain z) u
layer_plain (CType-F.Int i c) from z u e = refl
layer_plain (CType-F.Pointer p c) from z u e = refl
layer_plain (CType-F.Void c) from z u e = absurd (cc (e))
layer_plain (CType-F.Array t n) from z u e = absurd (cc (e))
layer_plain (CType-F.Struct s c) from z u e = absurd (cc (e))
layer_plain (CType-F.Function f) from z u e = absurd (cc (e))

pub converted_evaluates : (home : Home) (deep l k : ℕ) (t ta : CType) (n : ℕ) (e a : CoreExpr) → out-CoreExpr e ≡ CoreExpr-F.Convert l t a → out-CoreExpr a ≡ CoreExpr-F.Number k ta n → is_scalar (type_of a) ≡ true → as_type t (Number n) ≡ Number n → EvaluatesTo home (suc (suc deep)) e n
converted_evaluates home deep l k t ta n e a is is_a scalar same = λ bound dp v h m.
    let from : CType = type_of a in
    let u : World = tick (tick v) in
    family_opens (suc deep) bound dp home.env e (CoreExpr-F.Convert l t a) is v h m
    ∙ ap (λ o. and_then o (conversion from t)) (family_opens deep (λ j. bound j - 1) (less (suc deep) bound dp) home.env a (CoreExpr-F.Number k ta n) is_a v h m)
    ∙ ap (λ o. and_then o (λ x w. Done (as_answer t x) w)) (layer_plain (out-CType from) from (Number n) u scalar)
    ∙ ap (λ z. Done (Plain z) u) same

pub number_leaf : (home : Home) (most deep n : ℕ) (e : CoreExpr) (r : ℕ) → constant e ≡ Some n → n < 2 ^ 32 → IsFree r → EvaluatesTo home deep e n → GivesLeaf home most deep e r
number_leaf home most deep n e r some small free means = λ bound dp s c w v pl st.
    let f : Code = fetch home.style home.autos r e in
    let code : f ≡ li r n = ap (fetched_leaf home.style home.autos r e) some in
    let E : End Answer = FetchedPlain home r (c.regs.pc + 4 * length f) c w in
    let u : World = tick (tick v) in
    let now : Stands home s c w u = stands_worked home s c w (tick v) 1 (stands_worked home s c w v 1 st) in
    let all_is = ap length code in
    same_part most s E c w v (λ h m. eval (bound m) h home.env e v) (λ h m. Done (Plain (Number n)) u) (λ h m. means bound dp v h m)
    (behind_work most s E c 1 w v (λ h m. Done (Plain (Number n)) u) (behind_work most s E c 1 w (tick v) (λ h m. Done (Plain (Number n)) u)
    (straight_goes home most s E c w u (λ h m. Done (Plain (Number n)) u) now (li r n) (li_straight r free (is_short n) n) (placed_same home c.regs.pc c.regs.pc f (li r n) refl code pl) (λ h m. here u)
    (λ zs are each.
    let q : Registers = record { pc = c.regs.pc + 4 * length (li r n); words = zs } in
    let r_is : register q r ≡ plain n = each r free.small ∙ li_does r free (is_short n) n (register c.regs) small (index_zero c.regs.words st.regs) in
    at_once most s E (with_registers q c) w u (λ h m. Done (Plain (Number n)) u) (Plain (Number n)) (λ h m. refl) (record {
      of = Number n;
      is = refl;
      fetched = record {
        there = ap (λ (k : Code). c.regs.pc + 4 * length k) (sym code);
        world = refl;
        word = subst (λ z. MeansIn w z (Number n)) (sym r_is) (number_means (stub w) (table w) n small);
        stands = stands_with home s c q w u are (each 2 (omega arith) ∙ li_keeps r free (is_short n) n (register c.regs) 2 (not_sp r free)) now;
        same = λ j lt x5 xr. each j lt ∙ li_keeps r free (is_short n) n (register c.regs) j xr;
        rest = refl;
      };
    })))))
