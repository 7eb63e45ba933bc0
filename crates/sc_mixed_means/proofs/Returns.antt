-- Where the answer of the entry's call is there and nothing waits for it, it is the one that the meaning's call gives.
use Rattle.std.proofs.Common.{◌≡◌, inl, inr, ℕ, ◌+◌, List, [], arith, sym, ◌∙◌, subst}
use Rattle.sc_interp.specs.declared.going.Going.TheVariants as going
use Rattle.sc_interp.specs.declared.stepped.Shown.{Shown}
use Rattle.sc_interp_laws.specs.Worlds.{world_of}
use Rattle.sc_interp_machine.specs.RunMeans as left
use Rattle.sc_interp_machine.specs.Runs.{Answers, Caller, State}
use Rattle.sc_like.specs.Alike.{Like}
use Rattle.sc_like.specs.States.{StatesAlike}
use Rattle.sc_meaning.specs.Expressions.{Answer}
use Rattle.sc_meaning.specs.Outcomes.{Outcome, Done}
use Rattle.sc_meaning.specs.Versions.{History}
use Rattle.sc_meaning.specs.World.{World}
use Rattle.sc_mixed.specs.declared.calls.Calls.{Calls}
use Rattle.sc_mixed.specs.declared.calls.Lower.{Lower}
use Rattle.sc_mixed.specs.declared.calls.Next.{Next}
use Rattle.sc_mixed.specs.declared.calls.Next.TheVariants.{Steps}
use Rattle.sc_mixed_means.specs.Places.{LowerAfter, Means, StepsMean}
use Rattle.sc_mixed_means.specs.Runs.{RunsReturnAsMeant, entry_gives, history_of}
use Rattle.sc_mixed_means.specs.Stages.{Live, Stage, Gives, from_here}
use Rattle.sc_mixed_means.proofs.Parts.{looks}
use Rattle.sc_mixed_means.proofs.Runs.{held, live, stage_at}

-- the answer is there, in a world that is alike
module _ (h : History) (a : Answer) (w : World) (out : History → Outcome Answer) (s : Stage) where
  stands_there : (n : ℕ) (stands : State) (cs : List Caller) (ls : List Lower) → cs ≡ [] → ls ≡ [] → StatesAlike Like (Answers a cs w) stands → (gives : Gives s.past (world_of stands)) → ((l : Live s.past (world_of stands) h) → (deep : ℕ) × left.Means h deep stands (gives h l))
      → LowerAfter n s w ls (world_of stands) gives (from_here out s.past (world_of stands)) → ((v : World) → Live s.past v h) → (u : World) × Like w u × (out h ≡ Done a u)
  stands_there n stands cs ls none empty (v, alike, is) gives means after l =
      let there = l (world_of stands) in
      let q : gives h there ≡ out h = subst (λ x. LowerAfter n s w x (world_of stands) gives (from_here out s.past (world_of stands))) empty after h there in
      let m = (means there).1 in
      let here : left.Means h (means there).0 (Answers a [] v) (gives h there) = subst (λ (x : List Caller). left.Means h (means there).0 (Answers a x v) (gives h there)) none (subst (λ x. left.Means h (means there).0 x (gives h there)) is m) in
      (v, alike, sym q ∙ sym here)

  returned_so : (n : ℕ) (next : Next) (c : Calls) (now : Shown) → next ≡ Steps (going.Answers a) → c.callers ≡ [] → c.lower ≡ [] → Means n s next c w now out → ((v : World) → Live s.past v h) → (u : World) × Like w u × (out h ≡ Done a u)
  returned_so n next c now answers none empty x l =
      let y : StepsMean n s (Answers a c.callers w) c.lower w now out = subst (λ (z : Next). Means n s z c w now out) answers x in
      stands_there n y.stands c.callers c.lower none empty y.alike y.gives.gives (λ there. (y.gives.deep, y.gives.means h there)) y.gives.after l

pub runs_return : RunsReturnAsMeant
runs_return look b bs n key start born first right enters k p c cs a lt g memory answers none empty =
    elim (held look first b bs n key start born right enters k 0 p c cs (let r = looks look (0 + k) k (omega arith) in omega (arith, lt, r)) g memory) [
      | inl y ↦ let r = returned_so (history_of y.0) a p.world (entry_gives n key born) (stage_at look y.0 c cs) 0 p.next p.calls p.now answers none empty y.2 (live b bs c cs y.0 y.1) in inl (y.0, y.1, r.0, r.1, r.2)
      | inr l ↦ inr l
    ]
