-- The one instruction that writes a scalar, whatever base and offset lead to its address: it stores the value where the meaning does, or the meaning's next
-- step is an undefined one.
use Rattle.std.proofs.Common.{◌≡◌, inl, inr, ℕ, ◌+◌, ◌<◌, ℤ, Option, Some, None, refl, sym, ap, subst, ◌∙◌, arith}
use Rattle.std.specs.Prelude.{pos}
use Rattle.sc_base.specs.declared.memory.Word.{Word}
use Rattle.sc_base.specs.declared.report.Rule.{Rule}
use Rattle.sc_isa.specs.declared.instruction.Instr.TheVariants.{Store}
use Rattle.sc_isa.specs.declared.instruction.StoreOp.{StoreOp}
use Rattle.sc_types.specs.declared.ctype.CType.{CType}
use Rattle.sc_mem.specs.Flat.{aligned_place}
use Rattle.sc_mem.specs.Words as words
use Rattle.sc_emu.specs.Operations.{bits_of, store_size, sum}
use Rattle.sc_emu.specs.Registers.{Registers, register}
use Rattle.sc_meaning.specs.Accesses.{set_at, stored}
use Rattle.sc_meaning.specs.Expressions.{Answer, base_of, further_of}
use Rattle.sc_meaning.specs.Laws.{Leads}
use Rattle.sc_meaning.specs.Outcomes.{Done, access_breach, unless, world_after}
use Rattle.sc_meaning.specs.Values.{Value, scalar_size}
use Rattle.sc_meaning.specs.Violations.{store_rule}
use Rattle.sc_meaning.specs.World.{World}
use Rattle.sc_meaning.proofs.Steps.{on, one_more}
use Rattle.sc_services.specs.Writing.{StoresAt}
use Rattle.sc_mixed.specs.Bridge.{with_registers}
use Rattle.sc_mixed.specs.declared.calls.Calls.{Calls}
use Rattle.sc_mixed_means.specs.Stages.{Stage}
use Rattle.sc_gen_code.specs.declared.style.Spot.{Spot}
use Rattle.sc_compiled_frames.specs.Means.{IsWord}
use Rattle.sc_compiled_frames.specs.Words.{IsOf}
use Rattle.sc_compiled_expressions.specs.Instructions.{InstrAt}
use Rattle.sc_compiled_expressions.specs.Parts.{End, Meets}
use Rattle.sc_compiled_expressions.proofs.Joining.{undefined_here}
use Rattle.sc_compiled_expressions.proofs.Moving.{MayGo, changing_means}
use Rattle.sc_compiled_expressions.proofs.Stores.{stores_one_way}
use Rattle.sc_compiled_expressions.proofs.Stores as machine
use Rattle.sc_compiled_expressions.specs.Standing.{Home, MeansIn, Stands, stub, table}
use Rattle.sc_compiled_expressions.proofs.Standing.{memory_of, own_step}
use Rattle.sc_compiled_expressions.specs.Stored.{IsReady, Written}
use Rattle.sc_compiled_expressions.proofs.Puts as puts
use Rattle.sc_compiled_expressions.proofs.Stored as after

module _ (home : Home) (most : ℕ) (at : Spot) (s : Stage) (c : Calls) (w v : World) (st : Stands home s c w v) (op : StoreOp) (rs base : ℕ) (offset : ℤ) (ty : CType) (a : Answer) (val : Value) (x : Word)
    (size : store_size op ≡ scalar_size ty) (some : 0 < scalar_size ty) (reached : IsWord (stub w) (table w) a x) (there : sum (register c.regs base).bits (bits_of offset) ≡ x.bits) (value : MeansIn w (register c.regs rs) val) (of : IsOf ty val)
    (instr : InstrAt s.image c.regs.pc (Store op rs base offset)) where
  abbrev next : Registers
  next = machine.behind c.regs

  abbrev pub E : End Value
  E = Written home at (c.regs.pc + 4) val c w

  objects_same : w.objects ≡ v.objects
  objects_same = ap (λ (u : World). u.objects) st.alike.same

  next_pc : next.pc ≡ c.regs.pc + 4
  next_pc = let near = instr.near in omega (arith, near)

  module _ (rule : store_rule v.objects (base_of a) (further_of a) (scalar_size ty) ≡ None) where
    rule_here : store_rule w.objects (base_of a) (further_of a) (scalar_size ty) ≡ None
    rule_here = ap (λ os. store_rule os (base_of a) (further_of a) (scalar_size ty)) objects_same ∙ rule

    abbrev behind : World
    behind = after.behind home s c w v st ty a x (register c.regs rs) val some reached value of rule_here

    word_now : IsWord (stub w) st.frame.holds.memory.flat.objects a x
    word_now = after.word_now home s c w v st ty a x (register c.regs rs) val some reached value of rule_here

    -- the place is there
    found : (k : ℕ) × (aligned_place st.frame.holds.memory.flat (sum (register c.regs base).bits (bits_of offset)) (store_size op) ≡ Some k)
    found =
        let t = puts.there w st.frame.holds st.stubs ty a x (register c.regs rs) val some word_now (after.means_now home s c w v st ty a x (register c.regs rs) val some reached value of rule_here) of rule_here in
        (_, ap (λ b. aligned_place st.frame.holds.memory.flat b (store_size op)) there ∙ ap (λ k. aligned_place st.frame.holds.memory.flat x.bits k) size ∙ t)

    way : MayGo s c w next behind
    unfolding word_now
    way how regs u ins =
        elim (stores_one_way s.image op rs base offset c.regs w (memory_of home s c w v st) instr found.0 found.1 how regs u ins) [
          | inl none ↦ inl none
          | inr (went_on, is, (z, same, st_at)) ↦
              inr (
                went_on,
                is,
                puts.is_put w st.frame.holds st.stubs ty a x (register c.regs rs) val some word_now (after.means_now home s c w v st ty a x (register c.regs rs) val some reached value of rule_here) of rule_here z u
                    (subst (λ k. words.cells_of k z ≡ words.cells_of k (register c.regs rs)) size same)
                    (subst (λ k. StoresAt x.bits k z w u) size (subst (λ b. StoresAt b (store_size op) z w u) there st_at)),
              )
        ]

    abbrev stands : World
    stands = set_at (base_of a) (further_of a) (scalar_size ty) val v

    on_to : Leads v stands
    on_to = subst (λ u. Leads v u) (sym (after.behind_is home s c w v st ty a x (register c.regs rs) val some reached value of rule_here v)) (one_more _ v)

    stands_now : Stands home s (with_registers next c) behind stands
    stands_now =
        subst (λ u. Stands home s (with_registers next c) behind u) (sym (after.behind_is home s c w v st ty a x (register c.regs rs) val some reached value of rule_here v))
        (after.stands_behind home s c w v st ty a x (register c.regs rs) val some reached value of rule_here next st.regs refl)

    written : Written home at (c.regs.pc + 4) val c w s val stands (with_registers next c) behind
    written = record {
      is = refl;
      there = next_pc;
      same = λ j. refl;
      stands = stands_now;
      keeps = after.keeps_behind home s c w v st ty a x (register c.regs rs) val some reached value of rule_here at next (λ j. refl);
    }

    stores : Meets most s E c w v (λ h m. Done val stands)
    stores = λ rest leads k le go.
        changing_means s c next w behind v stands (λ h m. rest val stands h m) (rest val stands) way (λ h m. on v stands (world_after (rest val stands h m)) on_to (leads val stands h m)) (leads val stands) on_to stands_now.alike
        (after.waiting_kept home s c w v st ty a x (register c.regs rs) val some reached value of rule_here c.lower) (λ h l m. refl) k
        (go s val stands (with_registers next c) behind written)

  by_rule : (o : Option Rule) → store_rule v.objects (base_of a) (further_of a) (scalar_size ty) ≡ o → Meets most s E c w v (λ h m. unless o (access_breach (base_of a) (further_of a) (scalar_size ty) v) (λ u. Done val (set_at (base_of a) (further_of a) (scalar_size ty) val u)) v)
  by_rule None rule = stores rule
  by_rule (Some r) rule =
      undefined_here most s E c w v (λ h m. unless (Some r) (access_breach (base_of a) (further_of a) (scalar_size ty) v) (λ u. Done val (set_at (base_of a) (further_of a) (scalar_size ty) val u)) v) (access_breach (base_of a) (further_of a) (scalar_size ty) v r)
      (own_step (access_breach (base_of a) (further_of a) (scalar_size ty) v r) v st.own) (λ h m. refl)

  pub store_at : Meets most s E c w v (λ h m. stored ty (base_of a) (further_of a) val v)
  store_at = by_rule (store_rule v.objects (base_of a) (further_of a) (scalar_size ty)) refl

-- so it does where a register has the foot of the place
pub store_meets : (home : Home) (most : ℕ) (at : Spot) (s : Stage) (c : Calls) (w v : World) → Stands home s c w v → (op : StoreOp) (rs base n : ℕ) (ty : CType) (a : Answer) (val : Value) → IsReady w c op rs base n ty a val
    → InstrAt s.image c.regs.pc (Store op rs base (pos n)) → Meets most s (Written home at (c.regs.pc + 4) val c w) c w v (λ h m. stored ty (base_of a) (further_of a) val v)
store_meets home most at s c w v st op rs base n ty a val ready instr =
    store_at home most at s c w v st op rs base (pos n) ty a val ready.place ready.size ready.some ready.reached ready.foot ready.value ready.of instr
