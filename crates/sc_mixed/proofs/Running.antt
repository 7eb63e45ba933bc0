-- Instructions one after another.
use Rattle.std.proofs.Common.{◌≡◌, ◌+◌, ◌-◌, ◌<◌, ◌≤◌, ℕ, zero, suc, Bool, true, false, List, [], ◌∷◌, Result, Ok, Err, Option, Some, None, refl, ap, sym, subst, ◌∙◌, arith}
use Rattle.sc_base.specs.declared.memory.Word.{Word}
use Rattle.sc_emu.specs.Beginning.{Begins, IsTakeable}
use Rattle.sc_emu.specs.Machine.{Outcome, rv_step, state_of}
use Rattle.sc_emu.specs.Operations.{load_size, loaded, sum}
use Rattle.sc_emu.specs.Registers.{Registers, with_word}
use Rattle.sc_emu.specs.declared.beginning.Need.{Need}
use Rattle.sc_emu.specs.declared.beginning.Need.TheVariants.{Done, Load, Store}
use Rattle.sc_emu.specs.declared.outcome.Crash.{Crash}
use Rattle.sc_emu.specs.declared.outcome.Crash.TheVariants as causes
use Rattle.sc_emu.specs.declared.outcome.Step.{Step}
use Rattle.sc_emu.specs.declared.outcome.Step.TheVariants as step
use Rattle.sc_interp.specs.declared.stepped.Shown.TheVariants as shows
use Rattle.sc_interp_access.specs.declared.stop.Stop.{Stop}
use Rattle.sc_interp_access.specs.declared.stop.Stop.TheVariants as stop
use Rattle.sc_interp_machine.specs.Runs.{Caller}
use Rattle.sc_isa.specs.declared.instruction.LoadOp.{LoadOp}
use Rattle.sc_isa_image.specs.declared.image.Image.{Image}
use Rattle.sc_isa_image.specs.Lookups.{word_at}
use Rattle.sc_mem.specs.Flat.{Flat}
use Rattle.sc_meaning.specs.Expressions.{Answer}
use Rattle.sc_meaning.specs.World.{World}
use Rattle.sc_services.specs.Memory.{read_at}
use Rattle.sc_mixed.specs.Bridge.{Returns, ReturnsTo, is_as_called, with_registers, without_top}
use Rattle.sc_mixed.specs.Instructions.{EndsSo, Instruction, Loads, Ran, ran_none, ran_further, RanUpto, all_went, one_last, Stores, told}
use Rattle.sc_mixed.specs.Machine.{Executed, quiet}
use Rattle.sc_mixed.specs.Parts.{AfterLast, ExecutesUpto, LastMoves}
use Rattle.sc_mixed.specs.declared.broken.Break.{Break}
use Rattle.sc_mixed.specs.declared.broken.Break.TheVariants.{Meant, Crashed}
use Rattle.sc_mixed.specs.declared.calls.Calls.{Calls}
use Rattle.sc_mixed.specs.declared.calls.Lower.{Lower}
use Rattle.sc_mixed.specs.declared.calls.Lower.TheVariants.{InBodies, InCode}
use Rattle.sc_mixed.specs.declared.calls.Moved.{Moved}
use Rattle.sc_mixed.specs.declared.calls.Next.{Next}
use Rattle.sc_mixed.specs.declared.execute.Went.{Went}
use Rattle.sc_mixed.specs.declared.execute.Went.TheVariants as went

-- ---- a load

pub loads_none : (w : World) (at size bytes : ℕ) (found : Option Word) (op : LoadOp) (rd : ℕ) (r s : Registers) → size ≡ bytes → found ≡ read_at w at size → found ≡ None → s ≡ r
    → Loads (went.Stopped causes.Outside) (read_at w at bytes) (λ x. record { pc = sum r.pc 4; words = with_word r.words rd (loaded op x) }) r s w w
loads_none w at size bytes found op rd r s same is none stays = (refl, ap (read_at w at) (sym same) ∙ sym is ∙ none, stays, refl)

pub loads_some : (w : World) (at size bytes : ℕ) (found : Option Word) (x : Word) (op : LoadOp) (rd : ℕ) (r s : Registers) → size ≡ bytes → found ≡ read_at w at size → found ≡ Some x → s ≡ record { pc = sum r.pc 4; words = with_word r.words rd (loaded op x) }
    → Loads went.On (read_at w at bytes) (λ x. record { pc = sum r.pc 4; words = with_word r.words rd (loaded op x) }) r s w w
loads_some w at size bytes found x op rd r s same is some puts = ((x, ap (read_at w at) (sym same) ∙ sym is ∙ some, puts), refl)

-- ---- one instruction

pub instruction_done : (i : Image) (r s : Registers) (w : World) (need : Need) (now : Step) (how : Went) → IsTakeable need → ((memory : Flat) → Begins (rv_step (word_at i) (state_of r memory)) r memory s need) → need ≡ Done now → how ≡ told now → Instruction i r w how s w
instruction_done i r s w need now how takeable begins is p =
    record { need = need; middle = s; takeable = takeable; begins = begins; ends = subst (λ (n : Need). EndsSo n s w how s w) (sym is) (sym p, refl, refl) }

pub instruction_loads : (i : Image) (r middle s : Registers) (w : World) (need : Need) (op : LoadOp) (rd at : ℕ) (how : Went) → IsTakeable need → ((memory : Flat) → Begins (rv_step (word_at i) (state_of r memory)) r memory middle need) → need ≡ Load op rd at → Loads how (read_at w at (load_size op)) (λ x. record { pc = sum middle.pc 4; words = with_word middle.words rd (loaded op x) }) middle s w w → Instruction i r w how s w
instruction_loads i r middle s w need op rd at how takeable begins is p =
    record { need = need; middle = middle; takeable = takeable; begins = begins; ends = subst (λ (n : Need). EndsSo n middle w how s w) (sym is) p }

pub instruction_stores : (i : Image) (r middle s : Registers) (w v : World) (need : Need) (size at : ℕ) (word : Word) (how : Went) → IsTakeable need → ((memory : Flat) → Begins (rv_step (word_at i) (state_of r memory)) r memory middle need) → need ≡ Store size at word → Stores how at size word middle s w v → Instruction i r w how s v
instruction_stores i r middle s w v need size at word how takeable begins is p =
    record { need = need; middle = middle; takeable = takeable; begins = begins; ends = subst (λ (n : Need). EndsSo n middle w how s v) (sym is) p }

-- ---- many

pub none_yet : (i : Image) (r : Registers) (w : World) → Ran i 0 r w r w
none_yet i r w = ran_none r w

pub one_more : (i : Image) (k : ℕ) (r s q : Registers) (w v u : World) (how : Went) → Ran i k r w s v → Instruction i s v how q u → how ≡ went.On → Ran i (k + 1) r w q u
one_more i k r s q w v u how h instr is = ran_further k r s q w v u h (subst (λ (x : Went). Instruction i s v x q u) is instr)

pub went_all : (i : Image) (most k : ℕ) (r s : Registers) (w v : World) → Ran i k r w s v → k ≡ most → RanUpto i most r w most went.On s v
went_all i most k r s w v h is = all_went refl refl (subst (λ (n : ℕ). Ran i n r w s v) is h)

pub went_last : (i : Image) (most k : ℕ) (r q s : Registers) (w u v : World) (how : Went) → k < most → Ran i k r w q u → Instruction i q u how s v → RanUpto i most r w (k + 1) how s v
went_last i most k r q s w u v how few h instr = one_last k q u refl few h instr

-- ---- one alone

pub ran_nothing : (i : Image) (n : ℕ) (r s : Registers) (w v : World) → n ≡ 0 → Ran i n r w s v → (r ≡ s) × (w ≡ v)
ran_nothing i n r s w v none (ran_none r2 w2) = (refl, refl)
ran_nothing i n r s w v none (ran_further k r2 q s2 w2 u v2 h instr) = absurd (omega (arith, none))

from_here : (i : Image) (r q s : Registers) (w u v : World) (how : Went) → (r ≡ q) × (w ≡ u) → Instruction i q u how s v → Instruction i r w how s v
from_here i r q s w u v how same instr = subst (λ (x : Registers). Instruction i x w how s v) (sym same.0) (subst (λ (x : World). Instruction i q x how s v) (sym same.1) instr)

ran_one : (i : Image) (n : ℕ) (r s : Registers) (w v : World) → n ≡ 1 → Ran i n r w s v → Instruction i r w went.On s v
ran_one i n r s w v one (ran_none r2 w2) = absurd (omega (arith, one))
ran_one i n r s w v one (ran_further k r2 q s2 w2 u v2 h instr) = from_here i r q s w u v went.On (ran_nothing i k r q w u (omega (arith, one)) h) instr

pub one_alone : (i : Image) (r s : Registers) (w v : World) (count : ℕ) (how : Went) → RanUpto i 1 r w count how s v → Instruction i r w how s v
one_alone i r s w v count how (all_went is on h) = subst (λ (x : Went). Instruction i r w x s v) (sym on) (ran_one i 1 r s w v refl h)
one_alone i r s w v count how (one_last k q u is few h instr) = from_here i r q s w u v how (ran_nothing i k r q w u (omega (arith, few)) h) instr

-- ---- the last of them is a move

-- a memory, whatever it is
nothing : Flat
nothing = record { heap = 0; stack = 0; cells = []; objects = [] }

-- an instruction without a next state leaves the registers
stays_by : (out : Flat → Outcome) (r middle s : Registers) (w v : World) (need : Need) (cause : Crash) → ((memory : Flat) → Begins (out memory) r memory middle need) → EndsSo need middle w (went.Stopped cause) s v → s ≡ r
stays_by out r middle s w v (Done step.Went) cause begins ends = absurd (cc)
stays_by out r middle s w v (Done (step.Service n)) cause begins ends = absurd (cc)
stays_by out r middle s w v (Done step.AtReturn) cause begins ends = absurd (cc)
stays_by out r middle s w v (Done (step.Stopped crash)) cause begins ends = ends.1 ∙ ap (λ m. m.registers) (begins nothing).1
stays_by out r middle s w v (Done step.NoMemory) cause begins ends = absurd (cc)
stays_by out r middle s w v (Load op rd at) cause begins ends = ends.2 ∙ (begins nothing).1
stays_by out r middle s w v (Store size at word) cause begins ends = ends.2 ∙ (begins nothing).1

stays : (i : Image) (r s : Registers) (w v : World) (cause : Crash) → Instruction i r w (went.Stopped cause) s v → s ≡ r
stays i r s w v cause instr = stays_by (λ memory. rv_step (word_at i) (state_of r memory)) r instr.middle s w v instr.need cause instr.begins instr.ends

-- a return that is not done is a crash
returned_to : (b : Bool) (a : Answer) (cs : List Caller) (c : Calls) (stopped : Stop) (d : Calls) → ReturnsTo b a cs c (Err (Meant stopped)) d → ⊥
returned_to true a cs c stopped d p = cc
returned_to false a cs c stopped d p = cc

returned : (given : Option Answer) (ls : List Lower) (c : Calls) (w : World) (stopped : Stop) (d : Calls) → Returns given ls c w (Err (Meant stopped)) d → ⊥
returned (Some a) (InBodies cs sp depth ∷ ls) c w stopped d p = returned_to (is_as_called sp depth c.regs w) a cs (without_top ls c) stopped d p
returned (Some a) (InCode r given ∷ ls) c w stopped d p = cc
returned (Some a) [] c w stopped d p = cc
returned None ls c w stopped d p = cc

module _ (i : Image) (k : ℕ) (c : Calls) (q : Registers) (u : World) (count : ℕ) (is : count ≡ k + 1) (s : Registers) (v : World) (next : Next) (d : Calls) where
  so_many : (moved : Moved) → moved ≡ record { shown = shows.Nothing; turns = count } → moved ≡ record { shown = shows.Nothing; turns = k + 1 }
  so_many moved p = p ∙ ap (λ (n : ℕ). record { shown = shows.Nothing; turns = n }) is

  pub last_moves : (how : Went) (result : Result Moved Break) → Instruction i q u how s v → AfterLast how count (with_registers s c) v result next d → LastMoves k i (with_registers q c) u result next d v
  last_moves went.On (Ok moved) instr p = (quiet, so_many moved p.0, (refl, (went.On, s, instr, (p.1, p.2))))
  last_moves went.On (Err broken) instr p = absurd p
  last_moves (went.Asks n) (Ok moved) instr p = (quiet, so_many moved p.0, (refl, (went.Asks n, s, instr, (p.1, p.2))))
  last_moves (went.Asks n) (Err broken) instr p = absurd p
  last_moves went.Returned (Ok moved) instr p = (quiet, so_many moved p.0, (refl, (went.Returned, s, instr, p.1)))
  last_moves went.Returned (Err (Crashed pc cause)) instr p = (went.Returned, s, instr, p)
  last_moves went.Returned (Err (Meant stopped)) instr p = absurd (returned c.given c.lower (with_registers s c) v stopped d p)
  last_moves (went.Stopped cause) (Ok moved) instr p = absurd p
  last_moves (went.Stopped cause) (Err (Crashed pc crash)) instr p =
      let at : pc ≡ s.pc = cc in
      let so : crash ≡ cause = cc in
      (went.Stopped cause, s, instr, (at ∙ ap (λ (r : Registers). r.pc) (stays i q s u v cause instr), so))
  last_moves (went.Stopped cause) (Err (Meant stopped)) instr p = absurd (cc)
  last_moves went.NoRoom (Ok moved) instr p = absurd p
  last_moves went.NoRoom (Err (Crashed pc crash)) instr p = absurd (cc)
  last_moves went.NoRoom (Err (Meant stopped)) instr p = cc

ends_upto : (i : Image) (most k : ℕ) (c : Calls) (w : World) (q : Registers) (u : World) (count : ℕ) (how : Went) (s : Registers) (v : World) (result : Result Moved Break) (next : Next) (d : Calls) → count ≡ k + 1 → k < most → Ran i k c.regs w q u → Instruction i q u how s v → AfterLast how count (with_registers s c) v result next d → ExecutesUpto i most c w result next d v
ends_upto i most k c w q u count how s v result next d is few h instr p =
    record { count = k; few = few; regs = q; world = u; ran = h; last = last_moves i k c q u count is s v next d how result instr p }

all_upto : (i : Image) (most n : ℕ) (c : Calls) (w : World) (r s : Registers) (count : ℕ) (v : World) (result : Result Moved Break) (next : Next) (d : Calls) → r ≡ c.regs → n ≡ most → 0 < n → count ≡ n → Ran i n r w s v → AfterLast went.On count (with_registers s c) v result next d → ExecutesUpto i most c w result next d v
all_upto i most n c w r s count v result next d at same some is (ran_none r2 w2) p = absurd (omega (arith, some))
all_upto i most n c w r s count v result next d at same some is (ran_further k r2 q s2 w2 u v2 h instr) p =
    ends_upto i most k c w q u count went.On s v result next d is (omega (arith, same)) (subst (λ (x : Registers). Ran i k x w q u) at h) instr p

pub executes_upto : (i : Image) (most : ℕ) (c : Calls) (w : World) (count : ℕ) (how : Went) (s : Registers) (v : World) (result : Result Moved Break) (next : Next) (d : Calls) → 0 < most → RanUpto i most c.regs w count how s v → AfterLast how count (with_registers s c) v result next d → ExecutesUpto i most c w result next d v
executes_upto i most c w count how s v result next d some (all_went is on h) p =
    all_upto i most most c w c.regs s count v result next d refl refl some is h (subst (λ (x : Went). AfterLast x count (with_registers s c) v result next d) on p)
executes_upto i most c w count how s v result next d some (one_last k q u is few h instr) p =
    ends_upto i most k c w q u count how s v result next d is few h instr p

-- where the record of what they do has no room the run is lost, as the first of them may say
pub no_room_upto : (i : Image) (most : ℕ) (c : Calls) (w v : World) (next : Next) (d : Calls) → 0 < most → ExecutesUpto i most c w (Err (Meant stop.NoRoom)) next d v
no_room_upto i most c w v next d some = record { count = 0; few = some; regs = c.regs; world = w; ran = ran_none c.regs w; last = refl }
