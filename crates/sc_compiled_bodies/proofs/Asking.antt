-- An `ecall` asks for the service whose number is in t0, and leaves all else.
use Rattle.std.proofs.Common.{◌≡◌, inl, ℕ, ◌+◌, zero, suc, Option, Some, None, refl, sym, ap, subst, ◌∙◌, arith}
use Rattle.sc_base.specs.declared.memory.Word.{Word}
use Rattle.sc_isa.specs.declared.instruction.Instr.TheVariants.{Ecall}
use Rattle.sc_isa.specs.declared.instruction.LoadOp.{LoadOp}
use Rattle.sc_isa_image.specs.declared.image.Image.{Image}
use Rattle.sc_isa_image.specs.Lookups.{word_at}
use Rattle.sc_mem.specs.Flat.{Flat, aligned_place, put, raw_read}
use Rattle.sc_emu.specs.declared.beginning.Need.{Need}
use Rattle.sc_emu.specs.declared.beginning.Need.TheVariants as need
use Rattle.sc_emu.specs.declared.outcome.Crash.{Crash}
use Rattle.sc_emu.specs.declared.outcome.Step.{Step}
use Rattle.sc_emu.specs.declared.outcome.Step.TheVariants as step
use Rattle.sc_emu.specs.Beginning.{Begins}
use Rattle.sc_emu.specs.Machine.{Outcome, Goes, Asks, Returns, Stops, Gives, loads, rv_step, state_of, stores}
use Rattle.sc_emu.specs.Operations.{load_size, sum}
use Rattle.sc_emu.specs.Registers.{Registers, register}
use Rattle.sc_meaning.specs.Expressions.{Answer}
use Rattle.sc_meaning.specs.World.{World}
use Rattle.sc_meaning.proofs.Steps.{here}
use Rattle.sc_like.specs.Alike.{Like}
use Rattle.sc_interp_access.specs.Gives.{ending_of}
use Rattle.sc_interp_change_laws.specs.Showing.{IsEvent}
use Rattle.sc_mixed.specs.Bridge.{with_registers}
use Rattle.sc_mixed.specs.Instructions.{Instruction, EndsSo, told}
use Rattle.sc_mixed.specs.Machine.{Fails, Follows}
use Rattle.sc_mixed.specs.declared.calls.Calls.{Calls}
use Rattle.sc_mixed.specs.declared.calls.Moved.{Moved}
use Rattle.sc_mixed.specs.declared.calls.Next.{Next}
use Rattle.sc_mixed.specs.declared.calls.Next.TheVariants.{Executes, Serves}
use Rattle.sc_mixed.specs.declared.execute.Went.{Went}
use Rattle.sc_mixed.specs.declared.execute.Went.TheVariants as went
use Rattle.sc_mixed_means.specs.Owed.{IsCode}
use Rattle.sc_mixed_means.specs.Stages.{Stage}
use Rattle.sc_mixed_means.specs.Waiting.{KeepsWaiting}
use Rattle.sc_compiled_expressions.specs.Instructions.{HasMemory, InstrAt}
use Rattle.sc_compiled_expressions.specs.Parts.{Family, Leading, Means, MeansAt, looking}
use Rattle.sc_compiled_expressions.proofs.Moving.{fewer_moves, keeps_waiting, means_later, no_moves, one_move}
use Rattle.sc_compiled_expressions.proofs.Ways.{stepped}

abbrev pub behind : Registers → Registers
behind r = record { pc = sum r.pc 4; words = r.words }

abbrev registers_in : Registers → Outcome → Registers
registers_in r (Goes s) = s.registers
registers_in r (Asks s) = s.registers
registers_in r Returns = r
registers_in r (Stops c) = r

module _ (i : Image) (r : Registers) (w : World) (mem : HasMemory w) (instr : InstrAt i r.pc Ecall) where
  abbrev m : Flat
  m = mem.memory.flat

  asks_so : rv_step (word_at i) (state_of r m) ≡ Asks (state_of (behind r) m)
  asks_so = stepped i Ecall r m instr

  abbrev One : Went → Registers → World → Type 0
  One how regs x = (how ≡ went.Asks (register r 5).bits) × (regs ≡ behind r) × (x ≡ w)

  by_done : (t : Step) (middle : Registers) (how : Went) (regs : Registers) (x : World) → Gives (rv_step (word_at i) (state_of r m)) ⊥ (state_of r m) (state_of middle m) t → (told t ≡ how) × (regs ≡ middle) × (x ≡ w) → One how regs x
  by_done step.Went middle how regs x b e = absurd (cc (sym asks_so ∙ b))
  by_done (step.Service n) middle how regs x b e = (sym e.0 ∙ ap went.Asks b.1, e.1 ∙ ap (registers_in r) (sym b.0 ∙ asks_so), e.2)
  by_done step.AtReturn middle how regs x b e = absurd (cc (sym asks_so ∙ b.0))
  by_done (step.Stopped c) middle how regs x b e = absurd (cc (sym asks_so ∙ b.0))
  by_done step.NoMemory middle how regs x b e = absurd b.1

  no_load : (op : LoadOp) (rd : ℕ) (o : Option Word) → rv_step (word_at i) (state_of r m) ≡ loads op rd o (state_of r m) → ⊥
  no_load op rd None b = cc (sym asks_so ∙ b)
  no_load op rd (Some z) b = cc (sym asks_so ∙ b)

  no_store : (o : Option ℕ) (f : Flat) → rv_step (word_at i) (state_of r m) ≡ stores o f (state_of r m) → ⊥
  no_store None f b = cc (sym asks_so ∙ b)
  no_store (Some k) f b = cc (sym asks_so ∙ b)

  by_need : (n : Need) (middle : Registers) → ((memory : Flat) → Begins (rv_step (word_at i) (state_of r memory)) r memory middle n) → (how : Went) (regs : Registers) (x : World) → EndsSo n middle w how regs x → One how regs x
  by_need (need.Done t) middle b how regs x e = by_done t middle how regs x (b m) e
  by_need (need.Load op rd at) middle b how regs x e = absurd (no_load op rd (raw_read m at (load_size op)) (b m).0)
  by_need (need.Store size at word) middle b how regs x e = absurd (no_store (aligned_place m at size) (put m at size word) (b m).0)

  pub asks_one_way : (how : Went) (regs : Registers) (x : World) → Instruction i r w how regs x → One how regs x
  asks_one_way how regs x ins = by_need ins.need ins.middle ins.begins how regs x ins.ends

module _ (s : Stage) where
  followed_asks : (k : ℕ) (how : Went) (r : Registers) (c d : Calls) (x : World) (after : Next) → how ≡ went.Asks k → Follows how r c x after d → (after ≡ Serves k) × (d ≡ with_registers r c)
  followed_asks k (went.Asks n) r c d x after e f = (f.0 ∙ same e, f.1)
    where
      same : went.Asks n ≡ went.Asks k → Serves n ≡ Serves k
      same e = cc (e)
  followed_asks k went.On r c d x after e f = absurd (cc (e))
  followed_asks k went.Returned r c d x after e f = absurd (cc (e))
  followed_asks k (went.Stopped q) r c d x after e f = absurd (cc (e))
  followed_asks k went.NoRoom r c d x after e f = absurd (cc (e))

  no_failure : (k : ℕ) (how : Went) (r : Registers) (c d : Calls) (x : World) (pc : ℕ) (cause : Crash) → how ≡ went.Asks k → Fails how r c x pc cause d → ⊥
  no_failure k (went.Asks n) r c d x pc cause e f = f
  no_failure k went.On r c d x pc cause e f = cc (e)
  no_failure k went.Returned r c d x pc cause e f = cc (e)
  no_failure k (went.Stopped q) r c d x pc cause e f = cc (e)
  no_failure k went.NoRoom r c d x pc cause e f = cc (e)

  -- behind an `ecall` the service comes
  pub ecall_means : (n : ℕ) (c : Calls) (w v : World) (r : Family Answer) → HasMemory w → InstrAt s.image c.regs.pc Ecall → Leading v r → MeansAt s n (Serves (register c.regs 5).bits) (with_registers (behind c.regs) c) w v r → Means s n c w v r
  ecall_means zero c w v r mem at leads means = no_moves s Executes c w v r
  ecall_means (suc n) c w v r mem at leads means =
      one_move s n Executes c w v r leads
      (λ after d x moved fit like mv.
      let o = asks_one_way s.image c.regs w mem at mv.1.0 mv.1.1 x mv.1.2 in
      let f = followed_asks (register c.regs 5).bits mv.1.0 mv.1.1 c d x after o.0 mv.1.3 in
      let d_is : d ≡ with_registers (behind c.regs) c = f.1 ∙ ap (λ g. with_registers g c) o.1 in
      let k : ℕ = (register c.regs 5).bits in
      inl (record {
        stands = v;
        leads = here v;
        alike = subst (λ z. Like z v) (sym o.2) like;
        code = subst IsCode (sym f.0) tt;
        lower = ap (λ (e : Calls). e.lower) d_is;
        waits = subst (λ z. KeepsWaiting c.lower w z) (sym o.2) (keeps_waiting c.lower w);
        rest = looking s.look.step r;
        leading = λ h m. leads h (s.look.step + m);
        means =
            subst (λ z. MeansAt s n after d z v (looking s.look.step r)) (sym o.2)
            (subst (λ e. MeansAt s n after e w v (looking s.look.step r)) (sym d_is)
            (subst (λ a. MeansAt s n a (with_registers (behind c.regs) c) w v (looking s.look.step r)) (sym f.0)
            (means_later s n s.look.step (Serves k) (with_registers (behind c.regs) c) w v r leads (fewer_moves s (suc n) n (Serves k) (with_registers (behind c.regs) c) w v r (omega arith) means))));
        same = λ h l m. refl;
        due = λ e. absurd (subst IsEvent (ap (λ (q : Moved). q.shown) mv.0) e);
      }))
      (λ after d x stop fit like mv. λ e told. absurd (cc (sym (ap (λ t. ending_of t x) mv) ∙ told)))
      (λ after d x pc cause fit like mv. no_failure (register c.regs 5).bits mv.0 mv.1 c d x pc cause (asks_one_way s.image c.regs w mem at mv.0 mv.1 x mv.2).0 mv.3)
