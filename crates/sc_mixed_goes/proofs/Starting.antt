-- A run that starts stands at the first place of a run as the theorem has it.
use Rattle.std.proofs.Common.{◌≡◌, ℕ, List, sym, ap, ◌∙◌, subst}
use Rattle.std.specs.Prelude.{Result, Ok, Err}
use Rattle.sc_base.specs.declared.key.Key.{Key}
use Rattle.sc_interp.specs.declared.stepped.Shown.{Shown}
use Rattle.sc_isa_image.specs.declared.image.Image.{Image}
use Rattle.sc_meaning.specs.Versions.{Text}
use Rattle.sc_meaning.specs.World.{World}
use Rattle.sc_mixed.specs.Standing.{Standing, ended_by}
use Rattle.sc_mixed.specs.Starting.{Begins, first_course, kept_first, no_calls, world_first}
use Rattle.sc_mixed.specs.declared.broken.Break.{Break}
use Rattle.sc_mixed.specs.declared.course.Course.{Course as Stand}
use Rattle.sc_mixed.specs.declared.course.Course.TheVariants.{On, Over}
use Rattle.sc_mixed.specs.declared.calls.Next.{Next}
use Rattle.sc_mixed_means.specs.Runs.{Place, gone_none}
use Rattle.sc_program.specs.declared.storage.StaticId.{StaticId}
use Rattle.sc_mixed_goes.specs.Shows.{IsRun, StartsAreRuns, begun_course}

module _ (texts : List Text) (i : Image) (key : Key) (stack heap : ℕ) (input : List ℕ) (places : List (StaticId × ℕ)) (m : Standing) (next : Next) (now : Shown) (functions : List Key) (kept : List (StaticId × ℕ)) where
  abbrev first : Place
  first = record { next = next; calls = m.calls; world = m.world; now = now }

  abbrev Begun : Type 0
  Begun = (born : World) × IsRun (begun_course texts i key stack heap input places (kept_first functions kept stack heap) born first)

  begun : Begins texts i key no_calls (world_first functions kept texts key stack heap input) (Ok (next, now)) m.calls m.world → Begun
  begun (born, births, entry) = (born, record { begun = record { births = births; entry = entry }; gone = gone_none })

  begun_by : (r : Result (Next × Shown) Break) → first_course r ≡ On next now → Begins texts i key no_calls (world_first functions kept texts key stack heap input) r m.calls m.world → Begun
  begun_by (Ok f) on b =
      let same : On f.0 f.1 ≡ On next now = on in
      let x : f.0 ≡ next = cc in
      let y : f.1 ≡ now = cc in
      begun (subst (λ z. Begins texts i key no_calls (world_first functions kept texts key stack heap input) (Ok (next, z)) m.calls m.world) y (subst (λ z. Begins texts i key no_calls (world_first functions kept texts key stack heap input) (Ok (z, f.1)) m.calls m.world) x b))
  begun_by (Err broken) on b = let over : Over (ended_by broken) ≡ On next now = on in absurd cc

stands_so : (m : Standing) (i : Image) (course : Stand) → m.image ≡ i → m.course ≡ course → m ≡ record { world = m.world; image = i; calls = m.calls; course = course }
stands_so m i course image is = ap (λ (x : Image). record m { image = x }) image ∙ ap (λ (x : Stand). record m { image = i; course = x }) is

pub starts_run : StartsAreRuns
starts_run texts i key stack heap input places m next now s on =
    let b = begun_by texts i key stack heap input places m next now s.functions s.places s.first (sym s.course ∙ on) s.begins in
    (kept_first s.functions s.places stack heap, b.0, (b.1, stands_so m i (On next now) s.image on))
