-- A block with objects is left: the service asks for it, and the objects die in the run as in the meaning.
use Rattle.std.proofs.Common.{◌≡◌, ◌≢◌, inl, ℕ, suc, ◌+◌, true, false, List, [], ◌∷◌, sym, ap, ◌∙◌, subst}
use Rattle.std.specs.Prelude.{Ok}
use Rattle.sc_emu.specs.Registers.{register}
use Rattle.sc_interp_access.specs.Gives.{ending_of}
use Rattle.sc_interp_change_laws.specs.Showing.{IsEvent}
use Rattle.sc_meaning.specs.Expressions.{Answer, Plain}
use Rattle.sc_meaning.specs.Laws.{Leads}
use Rattle.sc_meaning.specs.Statements.{all_dead}
use Rattle.sc_meaning.specs.Values.{Value}
use Rattle.sc_meaning.specs.Versions.{History}
use Rattle.sc_meaning.specs.World.{CloseBlock, Death, World, pass}
use Rattle.sc_meaning.proofs.Steps.{here, on, one_more}
use Rattle.sc_like.specs.Alike.{Like}
use Rattle.sc_like.proofs.Keeping.{passes}
use Rattle.sc_services.specs.Blocks.{block_left}
use Rattle.sc_services.specs.Leaving.{Leaves, may_leave}
use Rattle.sc_services.specs.declared.leaving.Left.{Left}
use Rattle.sc_services.specs.declared.leaving.Left.TheVariants as how
use Rattle.sc_mixed.specs.Machine.{IsLeft, LeavesWith, left_calls}
use Rattle.sc_mixed.specs.declared.calls.Calls.{Calls}
use Rattle.sc_mixed.specs.declared.calls.Moved.{Moved}
use Rattle.sc_mixed.specs.declared.calls.Next.TheVariants.{Serves}
use Rattle.sc_mixed_means.specs.Owed.{IsCode}
use Rattle.sc_mixed_means.specs.Stages.{Live, Stage}
use Rattle.sc_mixed_means.specs.Waiting.{KeepsWaiting}
use Rattle.sc_compiled_expressions.specs.Parts.{Family, Leading, Means, MeansAt}
use Rattle.sc_compiled_expressions.proofs.Moving.{one_move}

deaths_alike : (ids : List ℕ) (w v : World) → Like w v → Like (all_dead ids w) (all_dead ids v)
deaths_alike [] w v like = like
deaths_alike (id ∷ ids) w v like = passes (Death id) (all_dead ids w) (all_dead ids v) (deaths_alike ids w v like)

pub deaths_lead : (ids : List ℕ) (v : World) → Leads v (all_dead ids v)
deaths_lead [] v = here v
deaths_lead (id ∷ ids) v = on v (all_dead ids v) (pass (Death id) (all_dead ids v)) (deaths_lead ids v) (one_more (Death id) (all_dead ids v))

module _ (s : Stage) (b : ℕ) (other : b ≢ 0) (ids : List ℕ) where
  abbrev closed : World → World
  closed w = pass CloseBlock (all_dead ids w)

  pub block_exit_means : (n : ℕ) (c : Calls) (w v : World) (r rest : Family Answer) → Leading v r → Leading (pass CloseBlock (all_dead ids v)) rest → (register c.regs 6).bits ≡ b → may_leave b w ≡ true → block_left b w ≡ pass CloseBlock (all_dead ids w)
      → ((h : History) → Live s.past (pass CloseBlock (all_dead ids v)) h → (m : ℕ) → r h (s.look.step + m) ≡ rest h m) → KeepsWaiting c.lower w (pass CloseBlock (all_dead ids w))
      → Means s n c (pass CloseBlock (all_dead ids w)) (pass CloseBlock (all_dead ids v)) rest → MeansAt s (suc n) (Serves 3) c w v r
  block_exit_means n c w v r rest leads leading block may left same waits means =
      one_move s n (Serves 3) c w v r leads
      (λ after d x moved fit like mv.
      let l = subst (λ k. LeavesWith k (Plain mv.0.0) c w (Ok moved) d x) block mv.0.2 in
      let o = by_left mv.0.0 l.1.0 x d l.1.1 l.1.2 l.1.3 in
      inl (record {
        stands = closed v;
        leads = on v (all_dead ids v) (closed v) (deaths_lead ids v) (one_more CloseBlock (all_dead ids v));
        alike = subst (λ z. Like z (closed v)) (sym o.0) (passes CloseBlock (all_dead ids w) (all_dead ids v) (deaths_alike ids w v like));
        code = subst IsCode (sym mv.1) tt;
        lower = ap (λ (e : Calls). e.lower) o.1;
        waits = subst (λ z. KeepsWaiting c.lower w z) (sym o.0) waits;
        rest = rest;
        leading = leading;
        means = subst (λ z. MeansAt s n after d z (closed v) rest) (sym o.0) (subst (λ e. MeansAt s n after e (closed w) (closed v) rest) (sym o.1) (subst (λ a. MeansAt s n a c (closed w) (closed v) rest) (sym mv.1) means));
        same = same;
        due = λ e. absurd (subst IsEvent (ap (λ (q : Moved). q.shown) l.0) e);
      }))
      (λ after d x stop fit like mv. λ e told. absurd (cc (sym (ap (λ t. ending_of t x) mv.0) ∙ told)))
      (λ after d x pc cause fit like mv. not_refused (subst (λ k. may_leave k w ≡ false) block mv.0.2.0.0))
    where
      by_left : (z : Value) (l : Left) (x : World) (d : Calls) → Leaves b w l x → IsLeft l → d ≡ left_calls l (Plain z) c x → (x ≡ closed w) × (d ≡ c)
      by_left z how.Refused x d p i e = absurd i
      by_left z how.Block x d p i e = (p.2 ∙ left, e)
      by_left z how.Call x d p i e = absurd (other p.1)

      not_refused : may_leave b w ≡ false → ⊥
      not_refused e = cc (sym may ∙ e)
