use Rattle.std.proofs.Common.{◌≡◌, Some, None, Option, MatchOption, sym, subst, ◌∙◌}
use Rattle.std.specs.HashMap.{get}
use Rattle.sc_core.specs.declared.module.Core.{Core}
use Rattle.sc_core.specs.declared.module.StaticObj.{StaticObj}
use Rattle.sc_meaning.specs.Versions.{object_by}
use Rattle.sc_core_held.specs.Numbers.{key_eq}
use Rattle.sc_core_held.proofs.PlaceLemmas.{object_absent, object_present, read_at}
use Rattle.sc_core_held.proofs.module.Module.object.Goals as goal

pub returns-in-None : goal.returns-in-None
returns-in-None c =
    subst (λ (m : Core). object_by m.objects c.args.key.now ≡ None) (c.indexed.view_is ∙ c.get-indexed.ensures ∙ c.self.view_is)
    (object_absent c.indexed.inside.core.objects c.args.key.now (get key_eq c.indexed.inside.places) c.indexed.invariant.1 (sym c.in-None.ensures.value))

pub returns-in-Some : goal.returns-in-Some
returns-in-Some c =
    subst (λ (m : Core). MatchOption c.get-in-Some.result (object_by m.objects c.args.key.now ≡ None) (λ o. object_by m.objects c.args.key.now ≡ Some o.now))
    (c.indexed.view_is ∙ c.get-indexed.ensures ∙ c.self.view_is)
    (subst (λ (w : Option StaticObj). MatchOption c.get-in-Some.result (w ≡ None) (λ o. w ≡ Some o.now))
    (object_present c.indexed.inside.core.objects c.args.key.now (get key_eq c.indexed.inside.places) c.in-Some.place.now c.indexed.invariant.1 (sym c.in-Some.ensures.value))
    (read_at c.indexed.inside.core.objects c.as_slice.result.now c.in-Some.place.now c.get-in-Some.result c.as_slice.ensures c.get-in-Some.ensures.lookup))
