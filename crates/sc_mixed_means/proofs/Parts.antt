-- What waits below takes what comes of it: in a later world, behind other moves, and behind a change.
use Rattle.std.proofs.Common.{◌≡◌, ℕ, zero, suc, ◌+◌, ◌-◌, ◌≤◌, List, [], ◌∷◌, ◌++◌, append_assoc, arith, refl, sym, ap, ◌∙◌, subst, Option}
use Rattle.sc_emu.specs.Registers.{Registers}
use Rattle.sc_interp_laws.proofs.RunMeans.{means_leads}
use Rattle.sc_interp_machine.specs.RunMeans as left
use Rattle.sc_interp_machine.specs.Runs.{Caller, Answers}
use Rattle.sc_interp_machine.proofs.RunFollows.{over}
use Rattle.sc_meaning.specs.Expressions.{Answer}
use Rattle.sc_meaning.specs.Laws.{Leads}
use Rattle.sc_meaning.specs.Outcomes.{Outcome, Done, Over, Ending, world_after, world_at}
use Rattle.sc_meaning.specs.Versions.{History}
use Rattle.sc_meaning.specs.World.{World}
use Rattle.sc_meaning.proofs.Steps.{here, on}
use Rattle.sc_mixed.specs.declared.calls.Calls.{Calls}
use Rattle.sc_mixed.specs.declared.calls.Lower.{Lower}
use Rattle.sc_mixed.specs.declared.calls.Lower.TheVariants.{InBodies, InCode}
use Rattle.sc_mixed.specs.declared.calls.Next.{Next}
use Rattle.sc_mixed_means.specs.Owed.{CodeMeans, CodeAfter, GoThrough, Lead, WaitChanges}
use Rattle.sc_mixed_means.specs.Places.{LowerAfter, LowerDue}
use Rattle.sc_mixed_means.specs.Stages.{Build, Look, Past, Then, Stage, Live, Gives, ArePartsOf, IsPartOf, from_here, next_stage}
use Rattle.sc_mixed_means.specs.Waiting.{Keeps, KeepsWaiting}

-- ---- depths

-- a move more is one deeper at least
pub looks_deeper : (f : Look) (n : ℕ) → suc (f.deep n) ≤ f.deep (suc n)
looks_deeper f n = let one = f.some in let g = f.grows n in omega (arith, one, g)

-- so it is over any number of moves
pub look_on : (f : Look) (j n : ℕ) → f.deep n ≤ f.deep (j + n)
look_on f zero n = let e : n ≡ 0 + n = omega arith in subst (λ m. f.deep n ≤ f.deep m) e (omega arith)
look_on f (suc j) n =
    let e : suc (j + n) ≡ suc j + n = omega arith in
    subst (λ m. f.deep n ≤ f.deep m) e (let r = look_on f j n in let g = looks_deeper f (j + n) in omega (arith, r, g))

pub looks : (f : Look) (n k : ℕ) → n ≤ k → f.deep n ≤ f.deep k
looks f n k le = let e : (k - n) + n ≡ k = omega (arith, le) in subst (λ m. f.deep n ≤ f.deep m) e (look_on f (k - n) n)

-- ---- parts

pub earlier : (p : Past) (v u : World) (h : History) → v.count ≤ u.count → Live p u h → Live p v h
earlier p v u h le l = (l.0, l.1, omega (arith, le, l.2))

-- what a later world gives
abbrev pub onward : (p : Past) (v u : World) → v.count ≤ u.count → Gives p v → Gives p u
onward p v u le q = λ h l. q h (earlier p v u h le l)

pub is_onward : (p : Past) (v u : World) (le : v.count ≤ u.count) (q : Gives p v) → IsPartOf p v q p u (onward p v u le q)
is_onward p v u le q = λ h l. (earlier p v u h le l, refl)

-- ---- what compiled code promises at any depth

pub code_leads : (n : ℕ) (s : Stage) (next : Next) (c : Calls) (w v : World) (q : Gives s.past v) → CodeMeans n s next c w v q → Lead s.past v q
code_leads zero s next c w v q p = p
code_leads (suc n) s next c w v q p = p.0

pub goes_through : (n : ℕ) (s : Stage) (r : Registers) (given : Option Answer) (ls : List Lower) (old v : World) (a q : Gives s.past v) → CodeAfter n s r given ls old v a q → GoThrough s.past v a q
goes_through zero s r given ls old v a q p = p
goes_through (suc n) s r given ls old v a q p = p.0

through_part : (p : Past) (v : World) (a q : Gives p v) (r : Past) (u : World) (x y : Gives r u) → ArePartsOf p v a q r u x y → GoThrough p v a q → GoThrough r u x y
through_part p v a q r u x y part go = record {
  leads = λ h l. let k = part h l in subst (λ o. Leads (world_after o) (world_after (y h l))) (sym k.1) (subst (λ o. Leads (world_after (a h k.0)) (world_after o)) (sym k.2) (go.leads h k.0));
  ends = λ h l e same. let k = part h l in k.2 ∙ go.ends h k.0 e (sym k.1 ∙ same);
}

-- parts of parts
parts_on : (p : Past) (v : World) (a q : Gives p v) (r : Past) (u : World) (x y : Gives r u) (o : Past) (z : World) (b c : Gives o z) → ArePartsOf p v a q r u x y → ArePartsOf r u x y o z b c → ArePartsOf p v a q o z b c
parts_on p v a q r u x y o z b c f g = λ h l. let k = g h l in let j = f h k.0 in (j.0, k.1 ∙ j.1, k.2 ∙ j.2)

changes_on : (n : ℕ) (bs : List Build) (s : Stage) (r : Registers) (given : Option Answer) (ls : List Lower) (old v : World) (a q : Gives s.past v) (u : World) (x y : Gives s.past u) → ArePartsOf s.past v a q s.past u x y → WaitChanges (CodeAfter n) bs s r given ls old v a q → WaitChanges (CodeAfter n) bs s r given ls old u x y
changes_on n [] s r given ls old v a q u x y f p = p
changes_on n (b ∷ bs) s r given ls old v a q u x y f p = λ count z d e g. p count z d e (parts_on s.past v a q s.past u x y (Then s.past count b.texts) z d e f g)

-- in a later world of the same stage code waits for the same
pub waits_on : (n : ℕ) (s : Stage) (r : Registers) (given : Option Answer) (ls : List Lower) (old v : World) (a q : Gives s.past v) (u : World) (x y : Gives s.past u) → ArePartsOf s.past v a q s.past u x y → CodeAfter n s r given ls old v a q → CodeAfter n s r given ls old u x y
waits_on zero s r given ls old v a q u x y f p = through_part s.past v a q s.past u x y f p
waits_on (suc n) s r given ls old v a q u x y f p = (
  through_part s.past v a q s.past u x y f p.0,
  record {
    takes = λ b c d next w z part fit like keep same resumes.
        p.1.takes b c d next w z part fit like keep (λ h l. let k = same h l in let j = f h k.0 in (j.0, sym j.1 ∙ k.1, k.2 ∙ j.2)) resumes;
    changes = changes_on n s.later s r given ls old v a q u x y f p.1.changes;
  },
)

-- ---- all that waits

module _ (s : Stage) where
  pub lower_weaker : (n : ℕ) (w : World) (ls : List Lower) (v : World) (r out : Gives s.past v) → LowerAfter (suc n) s w ls v r out → LowerAfter n s w ls v r out
  lower_weaker n w [] v r out p = p
  lower_weaker n w (InBodies cs sp depth ∷ ls) v r out p = (p.0, (p.1.0, omega (arith, p.1.1, looks_deeper s.look n), p.1.2), lower_weaker n w ls v p.0 out p.2)
  lower_weaker n w (InCode regs given ∷ ls) v r out p = (p.0, (p.1.0, omega (arith, p.1.1), p.1.2, p.1.3, p.1.4), lower_weaker n w ls v p.0 out p.2)

  pub lower_on : (n : ℕ) (w : World) (ls : List Lower) (v : World) (r out : Gives s.past v) (u : World) (x y : Gives s.past u) → ArePartsOf s.past v r out s.past u x y → LowerAfter n s w ls v r out → LowerAfter n s w ls u x y
  lower_on n w [] v r out u x y f p = λ h l. let k = f h l in k.1 ∙ p h k.0 ∙ sym k.2
  lower_on n w (InBodies cs sp depth ∷ ls) v r out u x y f p =
      let q : Gives s.past u = λ h l. p.0 h (f h l).0 in (
        q,
        (p.1.0, p.1.1, λ h l. subst (λ o. left.After h p.1.0 cs o (q h l)) (sym (f h l).1) (p.1.2 h (f h l).0)),
        lower_on n w ls v p.0 out u q y (λ h l. ((f h l).0, refl, (f h l).2)) p.2,
      )
  lower_on n w (InCode regs given ∷ ls) v r out u x y f p =
      let q : Gives s.past u = λ h l. p.0 h (f h l).0 in (
        q,
        (p.1.0, p.1.1, p.1.2, p.1.3, waits_on p.1.0 s regs given ls p.1.2 v r p.0 u x q (λ h l. ((f h l).0, (f h l).1, refl)) p.1.4),
        lower_on n w ls v p.0 out u q y (λ h l. ((f h l).0, refl, (f h l).2)) p.2,
      )

  -- where the run's world becomes another, and what waits keeps its bytes
  keeps_on : (r : Registers) (old w u : World) → Keeps r old w → Keeps r w u → Keeps r old u
  keeps_on r old w u a b = record {
    bytes = λ at le bare. let p = a.bytes at le bare in let q = b.bytes at le p.0 in (q.0, q.1 ∙ p.1);
    bases = λ id o e. let p = a.bases id o e in let q = b.bases id p.0 p.1 in (q.0, q.1, q.2 ∙ p.2);
    more = a.more ++ b.more;
    functions = b.functions ∙ ap (λ fs. fs ++ b.more) a.functions ∙ append_assoc old.beside.functions a.more b.more;
  }

  pub lower_kept : (n : ℕ) (w u : World) (ls : List Lower) (v : World) (r out : Gives s.past v) → KeepsWaiting ls w u → LowerAfter n s w ls v r out → LowerAfter n s u ls v r out
  lower_kept n w u [] v r out k p = p
  lower_kept n w u (InBodies cs sp depth ∷ ls) v r out k p = (p.0, p.1, lower_kept n w u ls v p.0 out k p.2)
  lower_kept n w u (InCode regs given ∷ ls) v r out k p = (p.0, (p.1.0, p.1.1, p.1.2, keeps_on regs p.1.2 w u p.1.3 k.0, p.1.4), lower_kept n w u ls v p.0 out k.1 p.2)

  -- an end goes through all that waits
  pub lower_over : (n : ℕ) (w : World) (ls : List Lower) (v : World) (r out : Gives s.past v) (h : History) (l : Live s.past v h) (e : Ending) → r h l ≡ Over e → LowerAfter n s w ls v r out → out h l ≡ Over e
  lower_over n w [] v r out h l e same p = sym (p h l) ∙ same
  lower_over n w (InBodies cs sp depth ∷ ls) v r out h l e same p =
      lower_over n w ls v p.0 out h l e (sym (over h p.1.0 cs e (p.0 h l) (subst (λ o. left.After h p.1.0 cs o (p.0 h l)) same (p.1.2 h l)))) p.2
  lower_over n w (InCode regs given ∷ ls) v r out h l e same p =
      lower_over n w ls v p.0 out h l e ((goes_through p.1.0 s regs given ls p.1.2 v r p.0 p.1.4).ends h l e same) p.2

  -- and the meaning goes on through it
  after_leads : (h : History) (n : ℕ) (cs : List Caller) (r q : Outcome Answer) → left.After h n cs r q → Leads (world_after r) (world_after q)
  after_leads h n cs (Done a w) q p = means_leads h n (Answers a cs w) q p
  after_leads h n cs (Over e) q p = subst (λ o. Leads (world_at e) (world_after o)) (over h n cs e q p) (here (world_at e))

  pub lower_leads : (n : ℕ) (w : World) (ls : List Lower) (v : World) (r out : Gives s.past v) (h : History) (l : Live s.past v h) → LowerAfter n s w ls v r out → Leads (world_after (r h l)) (world_after (out h l))
  lower_leads n w [] v r out h l p = subst (λ o. Leads (world_after (r h l)) (world_after o)) (p h l) (here (world_after (r h l)))
  lower_leads n w (InBodies cs sp depth ∷ ls) v r out h l p =
      on (world_after (r h l)) (world_after (p.0 h l)) (world_after (out h l)) (after_leads h p.1.0 cs (r h l) (p.0 h l) (p.1.2 h l)) (lower_leads n w ls v p.0 out h l p.2)
  lower_leads n w (InCode regs given ∷ ls) v r out h l p =
      on (world_after (r h l)) (world_after (p.0 h l)) (world_after (out h l)) ((goes_through p.1.0 s regs given ls p.1.2 v r p.0 p.1.4).leads h l) (lower_leads n w ls v p.0 out h l p.2)

  -- ---- the next build comes

  wait_changed : (n m : ℕ) (b : Build) (bs : List Build) (later : List Build) → later ≡ b ∷ bs → suc n ≤ m → (r : Registers) (given : Option Answer) (ls : List Lower) (old v : World) (a q : Gives s.past v) → later ≡ s.later → CodeAfter m s r given ls old v a q → (count : ℕ) (u : World) (x y : Gives (Then s.past count b.texts) u) → ArePartsOf s.past v a q (Then s.past count b.texts) u x y → (k : ℕ) × (n ≤ k) × CodeAfter k (next_stage s count b bs) r given ls old u x y
  wait_changed n zero b bs later e le r given ls old v a q f p count u x y parts = absurd (omega (arith, le))
  wait_changed n (suc m) b bs later e le r given ls old v a q f p count u x y parts =
      (m, omega (arith, le), subst (λ bs. WaitChanges (CodeAfter m) bs s r given ls old v a q) (sym f ∙ e) p.1.changes count u x y parts)

  pub lower_changed : (n : ℕ) (b : Build) (bs : List Build) → s.later ≡ b ∷ bs → (w : World) (ls : List Lower) (v : World) (r out : Gives s.past v) → LowerAfter (suc n) s w ls v r out → (count : ℕ) (u : World) (x y : Gives (Then s.past count b.texts) u) → ArePartsOf s.past v r out (Then s.past count b.texts) u x y → LowerAfter n (next_stage s count b bs) w ls u x y
  lower_changed n b bs e w [] v r out p count u x y f = λ h l. let k = f h l in k.1 ∙ p h k.0 ∙ sym k.2
  lower_changed n b bs e w (InBodies cs sp depth ∷ ls) v r out p count u x y f =
      let q : Gives (Then s.past count b.texts) u = λ h l. p.0 h (f h l).0 in (
        q,
        (p.1.0, omega (arith, p.1.1, looks_deeper s.look n), λ h l. subst (λ o. left.After h p.1.0 cs o (q h l)) (sym (f h l).1) (p.1.2 h (f h l).0)),
        lower_changed n b bs e w ls v p.0 out p.2 count u q y (λ h l. ((f h l).0, refl, (f h l).2)),
      )
  lower_changed n b bs e w (InCode regs given ∷ ls) v r out p count u x y f =
      let q : Gives (Then s.past count b.texts) u = λ h l. p.0 h (f h l).0 in
      let z = wait_changed n p.1.0 b bs s.later e p.1.1 regs given ls p.1.2 v r p.0 refl p.1.4 count u x q (λ h l. ((f h l).0, (f h l).1, refl)) in (
        q,
        (z.0, z.1, p.1.2, p.1.3, z.2),
        lower_changed n b bs e w ls v p.0 out p.2 count u q y (λ h l. ((f h l).0, refl, (f h l).2)),
      )

  pub lower_due : (n : ℕ) (b : Build) (bs : List Build) → s.later ≡ b ∷ bs → (w : World) (ls : List Lower) (v : World) (r : Gives s.past v) (out : History → Outcome Answer) → LowerAfter (suc n) s w ls v r (from_here out s.past v) → (count : ℕ) → LowerDue n s count b bs w ls v r out
  lower_due n b bs e w ls v r out p count = λ u x f. lower_changed n b bs e w ls v r (from_here out s.past v) p count u x (from_here out (Then s.past count b.texts) u) (λ h l. ((f h l).0, (f h l).1, refl))
