-- The service that gives a number the tag of what stands at its address.
use Rattle.std.proofs.Common.{◌≡◌, inl, ℕ, ◌+◌, zero, suc, Option, Some, None, refl, sym, ap, subst, ◌∙◌, arith}
use Rattle.std.specs.Prelude.{IfSome, List}
use Rattle.sc_base.specs.declared.key.Key.{Key}
use Rattle.sc_objects.specs.declared.objects.Obj.{Obj}
use Rattle.sc_emu.specs.Registers.{register}
use Rattle.sc_meaning.specs.Expressions.{Answer}
use Rattle.sc_meaning.specs.World.{World}
use Rattle.sc_meaning.proofs.Steps.{here}
use Rattle.sc_mem.specs.Safe.{Store}
use Rattle.sc_mem_store.specs.Holding.{function_of}
use Rattle.sc_mem_store.specs.Living.{IsTagAt, IsTagBy}
use Rattle.sc_services.specs.Tagging.{IsTagIn, tagged}
use Rattle.sc_like.specs.Alike.{Like}
use Rattle.sc_interp_change_laws.specs.Showing.{IsEvent}
use Rattle.sc_mixed.specs.Bridge.{with_registers}
use Rattle.sc_mixed.specs.declared.calls.Calls.{Calls}
use Rattle.sc_mixed.specs.declared.calls.Moved.{Moved}
use Rattle.sc_mixed.specs.declared.calls.Next.TheVariants.{Executes, Serves}
use Rattle.sc_mixed_means.specs.Owed.{IsCode}
use Rattle.sc_mixed_means.specs.Stages.{Stage}
use Rattle.sc_mixed_means.specs.Waiting.{KeepsWaiting}
use Rattle.sc_compiled_expressions.specs.Instructions.{HasMemory}
use Rattle.sc_compiled_expressions.specs.Parts.{Family, Leading, Means, MeansAt, looking}
use Rattle.sc_compiled_expressions.proofs.Moving.{fewer_moves, keeps_waiting, means_later, no_moves, one_move}

-- ---- one tag stands at an address

one_some : (a b : ℕ) → Some a ≡ Some b → a ≡ b
one_some a b e = cc (e)

one_by : (q : Option Key) (t : List Obj) (at a b : ℕ) → IsTagBy q t at (Some a) → IsTagBy q t at (Some b) → a ≡ b
one_by (Some key) t at a b p q = one_some a b (p ∙ sym q)
one_by None t at a b p q = q.1 a p.0

not_none : (q : Option Key) (t : List Obj) (at a : ℕ) → IsTagBy q t at (Some a) → IsTagBy q t at None → ⊥
not_none (Some key) t at a p q = cc (q)
not_none None t at a p q = q a p.0

module _ (w : World) (mem : HasMemory w) (at a : ℕ) (is : IsTagIn w at (Some a)) where
  held : (tag : Option ℕ) → IsTagIn w at tag → IsTagAt w.beside.functions mem.memory.flat.objects at tag
  held tag i = subst (λ o. IfSome o (λ (m : Store). IsTagAt w.beside.functions m.flat.objects at tag)) mem.there i

  one_tag : (b : ℕ) → IsTagIn w at (Some b) → b ≡ a
  one_tag b i = one_by (function_of w.beside.functions at) mem.memory.flat.objects at b a (held (Some b) i) (held (Some a) is)

  some_tag : IsTagIn w at None → ⊥
  some_tag i = not_none (function_of w.beside.functions at) mem.memory.flat.objects at a (held (Some a) is) (held None i)

-- a0 gets the tag of what stands at its address
pub tag_means : (s : Stage) (n : ℕ) (c : Calls) (w v : World) (r : Family Answer) (tag : ℕ) → HasMemory w → IsTagIn w (register c.regs 10).bits (Some tag) → Leading v r → Means s n (with_registers (tagged tag c.regs) c) w v r → MeansAt s n (Serves 4) c w v r
tag_means s zero c w v r tag mem is leads means = no_moves s (Serves 4) c w v r
tag_means s (suc n) c w v r tag mem is leads means =
    one_move s n (Serves 4) c w v r leads
    (λ after d x moved fit like mv.
    let served_r = mv.0.1.0 in
    let tags = mv.0.1.1 in
    let regs : served_r ≡ tagged tag c.regs = tags.2 ∙ ap (λ t. tagged t c.regs) (one_tag w mem (register c.regs 10).bits tag is tags.0 tags.1) in
    let d_is : d ≡ with_registers (tagged tag c.regs) c = mv.0.1.2 ∙ ap (λ g. with_registers g c) regs in
    inl (record {
      stands = v;
      leads = here v;
      alike = subst (λ z. Like z v) (sym mv.1) like;
      code = subst IsCode (sym mv.2) tt;
      lower = ap (λ (e : Calls). e.lower) d_is;
      waits = subst (λ z. KeepsWaiting c.lower w z) (sym mv.1) (keeps_waiting c.lower w);
      rest = looking s.look.step r;
      leading = λ h m. leads h (s.look.step + m);
      means =
          subst (λ z. MeansAt s n after d z v (looking s.look.step r)) (sym mv.1)
          (subst (λ e. MeansAt s n after e w v (looking s.look.step r)) (sym d_is)
          (subst (λ a. MeansAt s n a (with_registers (tagged tag c.regs) c) w v (looking s.look.step r)) (sym mv.2)
          (means_later s n s.look.step Executes (with_registers (tagged tag c.regs) c) w v r leads (fewer_moves s (suc n) n Executes (with_registers (tagged tag c.regs) c) w v r (omega arith) means))));
      same = λ h l m. refl;
      due = λ e. absurd (subst IsEvent (ap (λ (q : Moved). q.shown) mv.0.0) e);
    }))
    (λ after d x stop fit like mv. absurd mv.0)
    (λ after d x pc cause fit like mv. some_tag w mem (register c.regs 10).bits tag is mv.0.0.0)
