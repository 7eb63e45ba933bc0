-- Statements one behind another.
use Rattle.std.proofs.Common.{◌≡◌, ℕ, ◌+◌, ◌*◌, List, [], ◌∷◌, ◌++◌, length, Option, Some, None, refl, sym, ap, subst, ◌∙◌, arith, length-append}
use Rattle.sc_core.specs.declared.statement.CoreStmt.{CoreStmt}
use Rattle.sc_meaning.specs.Calls.{exec}
use Rattle.sc_meaning.specs.Expressions.{Answer, Env, Nothing, Part, Place, Plain}
use Rattle.sc_meaning.specs.Laws.{Leads}
use Rattle.sc_meaning.specs.Outcomes.{Done, Outcome, and_then, world_after}
use Rattle.sc_meaning.specs.Statements.{Way, Normal, Broke, Continued, Jumped, Returned, after_stmt, stmts_of}
use Rattle.sc_meaning.specs.Versions.{History}
use Rattle.sc_meaning.specs.World.{World}
use Rattle.sc_meaning.proofs.Growing.{exec_leads, leads_then}
use Rattle.sc_meaning.proofs.Steps.{here}
use Rattle.sc_mixed.specs.declared.calls.Calls.{Calls}
use Rattle.sc_mixed.specs.declared.calls.Next.TheVariants.{Executes}
use Rattle.sc_mixed_means.specs.Stages.{Stage}
use Rattle.sc_gen_code.specs.Code.{Code}
use Rattle.sc_gen_body.specs.declared.jumps.Place.{Place as Target}
use Rattle.sc_gen_body.specs.Jumps.{Around, labelled}
use Rattle.sc_compiled_expressions.specs.Parts.{Family, Means, followed}
use Rattle.sc_compiled_expressions.proofs.Moving.{means_same}
use Rattle.sc_compiled_expressions.specs.Standing.{Home, Stands}
use Rattle.sc_compiled_expressions.specs.Good.{IsDeeper, IsPlaced}
use Rattle.sc_compiled_expressions.proofs.Standing.{placed_back, placed_front, placed_same}
use Rattle.sc_compiled_bodies.specs.Exits.{Behind, Ended, Jumps, Leaving, Returning, Runs, Stays, falls, jump_code, leaves_call}
use Rattle.sc_compiled_bodies.specs.Good.{code_of_statement}
use Rattle.sc_compiled_bodies.proofs.Leaving.{stays_here, stays_then}
use Rattle.sc_compiled_bodies.specs.Lists.{GiveWays, code_of_list}
use Rattle.sc_compiled_expressions.proofs.Joining.{regroup}

-- ---- an end, seen from where the list began

module _ (home : Home) (c d : Calls) (w y : World) (before : Stays home c w d y) where
  leaving_from : (code : Home → ℕ → Code) (t : Stage) (u b : World) (f : Calls) (z : World) → Leaving home code d y t u b f z → Leaving home code c w t u b f z
  leaving_from code t u b f z p = record { extra = p.extra; at = p.at; there = p.there; placed = p.placed; stands = p.stands; left = p.left; stays = stays_then home c d f w y z before p.stays }

  jumps_from : (o : Option Target) (t : Stage) (u b : World) (f : Calls) (z : World) → Jumps home o d y t u b f z → Jumps home o c w t u b f z
  jumps_from None t u b f z p = p
  jumps_from (Some place) t u b f z p = leaving_from (jump_code place) t u b f z p

  returning_from : (a : Answer) (t : Stage) (u b : World) (f : Calls) (z : World) → Returning home a d y t u b f z → Returning home a c w t u b f z
  returning_from (Plain x) t u b f z p = (leaving_from leaves_call t u b f z p.0, p.1)
  returning_from Nothing t u b f z p = leaving_from falls t u b f z p
  returning_from (Place x) t u b f z p = p
  returning_from (Part x n) t u b f z p = p

  behind_from : (end last : ℕ) → last ≡ end → (t : Stage) (u b : World) (f : Calls) (z : World) → Behind home last d y t u b f z → Behind home end c w t u b f z
  behind_from end last same t u b f z p = record { here = p.here; there = p.there ∙ ap (λ n. home.base + 4 * n) same; stands = p.stands; stays = stays_then home c d f w y z before p.stays }

  pub ended_from : (around : Around) (end last : ℕ) → last ≡ end → (t : Stage) (way : Way) (u b : World) (f : Calls) (z : World) → Ended home around last d y t way u b f z → Ended home around end c w t way u b f z
  ended_from around end last same t Normal u b f z p = behind_from end last same t u b f z p
  ended_from around end last same t Broke u b f z p = leaving_from (jump_code around.on_break) t u b f z p
  ended_from around end last same t Continued u b f z p = leaving_from (jump_code around.on_continue) t u b f z p
  ended_from around end last same t (Jumped k) u b f z p = jumps_from (labelled k around.labels) t u b f z p
  ended_from around end last same t (Returned a) u b f z p = returning_from a t u b f z p

-- ---- the meaning of a list goes on

after_leads : (way : Way) (go : World → Outcome Way) (u : World) → ((x : World) → Leads x (world_after (go x))) → Leads u (world_after (after_stmt way go u))
after_leads Normal go u l = l u
after_leads Broke go u l = here u
after_leads Continued go u l = here u
after_leads (Jumped k) go u l = here u
after_leads (Returned a) go u l = here u

pub list_leads : (n : ℕ) (h : History) (env : Env) (ss : List CoreStmt) (u : World) → Leads u (world_after (stmts_of (exec n h) env ss u))
list_leads n h env [] u = here u
list_leads n h env (s ∷ ss) u =
    leads_then u (exec n h env s u) (λ way x. after_stmt way (stmts_of (exec n h) env ss) x) (exec_leads n h env s u) (λ way x. after_leads way (stmts_of (exec n h) env ss) x (λ o. list_leads n h env ss o))

module _ (home : Home) (most deep : ℕ) (around : Around) (bound : ℕ → ℕ) (dp : IsDeeper deep bound) where
  -- what stands behind a statement: the rest of the list, or what stands behind the list
  abbrev behind_one : List CoreStmt → (Way → World → Family Answer) → Way → World → Family Answer
  behind_one ss rest way u = λ h m. and_then (after_stmt way (stmts_of (exec (bound m) h) home.env ss) u) (λ x o. rest x o h m)

  -- a statement ends: the rest of the list comes, or it is passed over
  by_way : (ss : List CoreStmt) (next end : ℕ) (c : Calls) (w : World) (n : ℕ) (rest : Way → World → Family Answer) → ((t : Stage) (x : Way) (u b : World) (d : Calls) (y : World) → Ended home around end c w t x u b d y → Means t n d y b (rest x u))
      → ((t : Stage) (u : World) (d : Calls) (y : World) → Behind home next c w t u u d y → Means t n d y u (followed (λ h m. stmts_of (exec (bound m) h) home.env ss u) rest))
      → (t : Stage) (way : Way) (u b : World) (d : Calls) (y : World) → Ended home around next c w t way u b d y → Means t n d y b (behind_one ss rest way u)
  by_way ss next end c w n rest after tail t Normal u b d y p = subst (λ x. Means t n d y x (behind_one ss rest Normal u)) (sym p.here) (tail t u d y (record { here = refl; there = p.there; stands = p.stands; stays = p.stays }))
  by_way ss next end c w n rest after tail t Broke u b d y p = after t Broke u b d y p
  by_way ss next end c w n rest after tail t Continued u b d y p = after t Continued u b d y p
  by_way ss next end c w n rest after tail t (Jumped k) u b d y p = after t (Jumped k) u b d y p
  by_way ss next end c w n rest after tail t (Returned a) u b d y p = after t (Returned a) u b d y p

  pub list_runs : (ss : List CoreStmt) (at : ℕ) → GiveWays home most deep ss at around → (s : Stage) (c : Calls) (w v : World) → c.regs.pc ≡ home.base + 4 * at → IsPlaced home c.regs.pc (code_of_list home ss at around) → Stands home s c w v
      → Runs most s (Ended home around (at + length (code_of_list home ss at around)) c w) c w v (λ h m. stmts_of (exec (bound m) h) home.env ss v)
  list_runs [] at good s c w v there pl st = λ rest leads n le after.
      means_same s n Executes c w v (followed (λ h m. Done Normal v) rest) (rest Normal v) (λ h l m. refl)
      (after s Normal v v c w (record { here = refl; there = there ∙ ap (λ n. home.base + 4 * n) (none at); stands = st; stays = stays_here home c w }))
    where
      none : (n : ℕ) → n ≡ n + 0
      none n = omega arith
  list_runs (x ∷ ss) at good s c w v there pl st = λ rest leads n le after.
      let cs : Code = code_of_statement home x at around in
      let next : ℕ = at + length cs in
      let ci : Code = code_of_list home ss next around in
      let long = length-append cs ci in
      let end : ℕ = at + length (cs ++ ci) in
      let same : next + length ci ≡ end = omega (arith, long) in
      let at_next : c.regs.pc + 4 * length cs ≡ home.base + 4 * next = omega (arith, there) in
      means_same s n Executes c w v (followed (λ h m. stmts_of (exec (bound m) h) home.env (x ∷ ss) v) rest) (followed (λ h m. exec (bound m) h home.env x v) (behind_one ss rest))
      (λ h l m. regroup (exec (bound m) h home.env x v) (λ way u. after_stmt way (stmts_of (exec (bound m) h) home.env ss) u) (λ y o. rest y o h m))
      (good.0 bound dp s c w v there (placed_front home c.regs.pc cs ci pl) st (behind_one ss rest)
      (λ way u h m. leads_then u (after_stmt way (stmts_of (exec (bound m) h) home.env ss) u) (λ y o. rest y o h m) (after_leads way (stmts_of (exec (bound m) h) home.env ss) u (λ o. list_leads (bound m) h home.env ss o)) (λ y o. leads y o h m)) n le
      (by_way ss next end c w n rest after
      (λ t u d y p.
      list_runs ss next good.1 t d y u p.there (placed_same home (c.regs.pc + 4 * length cs) d.regs.pc ci ci (at_next ∙ sym p.there) refl (placed_back home c.regs.pc cs ci pl)) p.stands rest leads n le
      (λ t2 way u2 b f z e. after t2 way u2 b f z (ended_from home c d w y p.stays around end (next + length ci) same t2 way u2 b f z e)))))
