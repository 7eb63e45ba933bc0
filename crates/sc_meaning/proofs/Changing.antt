-- Births of static objects, changes of the version, and events are related to themselves.
use Rattle.std.proofs.Common.{ℕ, ◌==◌, nat_lt, Bool, true, false, if◌then◌else◌, List, [], ◌∷◌, Option, Some, None}
use Rattle.sc_program.specs.declared.storage.StaticId.{StaticId}
use Rattle.sc_program.specs.declared.storage.StaticId.TheVariants.{Named, Literal}
use Rattle.sc_meaning.specs.World.{World, Event, pass, Name, Unname, Death, Happens, named_in}
use Rattle.sc_meaning.specs.Outcomes.{Outcome}
use Rattle.sc_meaning.specs.Versions.{Text, Version, History, Definition, object_in, births_of, is_kept}
use Rattle.sc_meaning.specs.Changes.{born_as, born_static, born_unless, born_all, unnamed, filled, filled_all, born_and_filled, statics_born, dead, dead_unless_kept, deaths, changed, changed_if, settled_from, settled, happened}
use Rattle.sc_meaning.specs.Laws.{Leads}
use Rattle.sc_meaning.proofs.Relation.{Relation}
use Rattle.sc_meaning.proofs.Steps.{here, on, one_more, and_more, same_done, passes, after_one, if_goes}
use Rattle.sc_meaning.proofs.Leaves.{born_goes}

filled_leads : (texts : List Text) (id : StaticId) (o : Option ℕ) (w : World) → Leads w (filled texts id o w)
filled_leads texts id None w = here w
filled_leads texts id (Some o) w = one_more _ w

all_filled : (texts : List Text) (ids : List StaticId) (w : World) → Leads w (filled_all texts ids w)
all_filled texts [] w = here w
all_filled texts (id ∷ ids) w =
    let v : World = filled texts id (named_in w.names id) w in
    on w v (filled_all texts ids v) (filled_leads texts id (named_in w.names id) w) (all_filled texts ids v)

dead_leads : (id : StaticId) (o : Option ℕ) (w : World) → Leads w (dead id o w)
dead_leads id None w = here w
dead_leads id (Some o) w = and_more (Unname id) w (pass (Death o) w) (one_more (Death o) w)

kept_leads : (b : Bool) (id : StaticId) (w : World) → Leads w (if b then w else dead id (named_in w.names id) w)
kept_leads true id w = here w
kept_leads false id w = dead_leads id (named_in w.names id) w

one_dead : (old new : List Text) (id : StaticId) (w : World) → Leads w (dead_unless_kept old new id w)
one_dead old new (Named key) w = kept_leads (is_kept old new key) (Named key) w
one_dead old new (Literal home bytes) w = here w

deaths_lead : (old new : List Text) (ids : List StaticId) (w : World) → Leads w (deaths old new ids w)
deaths_lead old new [] w = here w
deaths_lead old new (id ∷ ids) w =
    let v : World = dead_unless_kept old new id w in
    on w v (deaths old new ids v) (one_dead old new id w) (deaths_lead old new ids v)

module _ (R : Relation) where
  as_goes : (id : StaticId) (d : Option Definition) (w : World) → R.Rel w (born_as id d w) (born_as id d w)
  as_goes id None w = born_goes R _ _ _ w
  as_goes id (Some d) w = born_goes R _ _ _ w

  static_goes : (texts : List Text) (id : StaticId) (w : World) → R.Rel w (born_static texts id w) (born_static texts id w)
  static_goes texts (Named key) w = as_goes (Named key) (object_in texts key) w
  static_goes texts (Literal home bytes) w = born_goes R _ _ _ w

  each_goes : (texts : List Text) (id : StaticId) (o : Option ℕ) (w : World) → R.Rel w (born_unless texts id o w) (born_unless texts id o w)
  each_goes texts id (Some o) w = same_done R tt w
  each_goes texts id None w =
      R.bind w (born_static texts id w) (born_static texts id w) _ _ (static_goes texts id w) (λ o v. passes R tt (Name id o) v)

  all_go : (texts : List Text) (ids : List StaticId) (w : World) → R.Rel w (born_all texts ids w) (born_all texts ids w)
  all_go texts [] w = same_done R tt w
  all_go texts (id ∷ ids) w =
      let r : Outcome (Unit {0}) = born_unless texts id (named_in w.names id) w in
      R.bind w r r _ _ (each_goes texts id (named_in w.names id) w) (λ u v. all_go texts ids v)

  filling_goes : (texts : List Text) (ids : List StaticId) (w : World) → R.Rel w (born_and_filled texts ids w) (born_and_filled texts ids w)
  filling_goes texts ids w =
      let r : Outcome (Unit {0}) = born_all texts ids w in
      R.bind w r r _ _ (all_go texts ids w) (λ u v. R.done tt v (filled_all texts ids v) (all_filled texts ids v))

  pub statics_go : (texts : List Text) (w : World) → R.Rel w (statics_born texts w) (statics_born texts w)
  statics_go texts w = filling_goes texts (unnamed w.names (births_of texts)) w

  changed_goes : (old new : List Text) (w : World) → R.Rel w (changed old new w) (changed old new w)
  changed_goes old new w =
      let v : World = deaths old new (births_of old) w in
      R.earlier w v (statics_born new v) (statics_born new v) (deaths_lead old new (births_of old) w) (statics_go new v)

  if_changed : (b : Bool) (old new : List Text) (w : World) → R.Rel w (changed_if b old new w) (changed_if b old new w)
  if_changed true old new w = changed_goes old new w
  if_changed false old new w = same_done R tt w

  from_goes : (n : ℕ) (old : List Text) (vs : List Version) (w : World) → R.Rel w (settled_from n old vs w) (settled_from n old vs w)
  from_goes n old [] w = same_done R tt w
  from_goes n old (v ∷ vs) w =
      let r : Outcome (Unit {0}) = changed_if (v.count == n) old v.texts w in
      if_goes R (nat_lt n v.count) w _ _ _ _ (same_done R tt w) (R.bind w r r _ _ (if_changed (v.count == n) old v.texts w) (λ u x. from_goes n v.texts vs x))

  pub settled_goes : (h : History) (w : World) → R.Rel w (settled h w) (settled h w)
  settled_goes h w = from_goes w.count [] h w

  pub happened_goes : (h : History) (e : Event) (w : World) → R.Rel w (happened h e w) (happened h e w)
  happened_goes h e w =
      let v : World = pass (Happens e) w in
      after_one R (Happens e) w (settled h v) (settled h v) (settled_goes h v)
