-- Births of static objects, changes of the version, and events are related to themselves.
use Rattle.std.proofs.Common.{◌≡◌, refl, ℕ, ◌==◌, nat_lt, Bool, true, false, if◌then◌else◌, List, [], ◌∷◌, Option, Some, None}
use Rattle.sc_program.specs.declared.storage.StaticId.{StaticId}
use Rattle.sc_program.specs.declared.storage.StaticId.TheVariants.{Named, Literal}
use Rattle.sc_meaning.specs.World.{World, Event, pass, Name, Death, Happens, named_in}
use Rattle.sc_meaning.specs.Outcomes.{Outcome, Done, Over, and_then, went}
use Rattle.sc_meaning.specs.Versions.{Text, Version, History, Definition, object_in, births_of, is_kept}
use Rattle.sc_meaning.specs.Changes.{born_as, born_static, born_unless, born_all, unnamed, filled, filled_all, born_and_filled, statics_born, dead, dead_unless_kept, deaths, changed, changed_if, settled_from, settled, happened}
use Rattle.sc_meaning.specs.World.{Frame, Event}
use Rattle.sc_compiled_frames.specs.Kept.{Kept, Leaves}
use Rattle.sc_compiled_frames.proofs.Steps.{is_quiet_event, here, on, one_more, and_dies, done, before, then_go, same_done, after_one, if_goes, over, BornNew, born_new_in, names, unnames, named_off}
use Rattle.sc_meaning.specs.World.{Put}
use Rattle.sc_meaning.specs.Changes.{static_contents}
use Rattle.sc_compiled_frames.proofs.Proper.{static_proper}

module _ (R : List Frame → List Frame) where
  filled_leads : (texts : List Text) (id : StaticId) (o : Option ℕ) (w : World) → Kept R w (filled texts id o w)
  filled_leads texts id None w = here R w
  filled_leads texts id (Some o) w = one_more R (Put o 0 (static_contents texts w id)) (static_proper texts w id) w

  all_filled : (texts : List Text) (ids : List StaticId) (w : World) → Kept R w (filled_all texts ids w)
  all_filled texts [] w = here R w
  all_filled texts (id ∷ ids) w =
      let v : World = filled texts id (named_in w.names id) w in
      on R w v (filled_all texts ids v) (filled_leads texts id (named_in w.names id) w) (all_filled texts ids v)

  dead_leads : (id : StaticId) (o : Option ℕ) (w : World) → named_in w.names id ≡ o → Kept R w (dead id o w)
  dead_leads id None w e = here R w
  dead_leads id (Some o) w e = unnames R id w (pass (Death o) w) (and_dies R o w w (here R w) (λ i size h. named_off w.names id i o h.unnamed e))

  kept_leads : (b : Bool) (id : StaticId) (w : World) → Kept R w (if b then w else dead id (named_in w.names id) w)
  kept_leads true id w = here R w
  kept_leads false id w = dead_leads id (named_in w.names id) w refl

  one_dead : (old new : List Text) (id : StaticId) (w : World) → Kept R w (dead_unless_kept old new id w)
  one_dead old new (Named key) w = kept_leads (is_kept old new key) (Named key) w
  one_dead old new (Literal home bytes) w = here R w

  deaths_lead : (old new : List Text) (ids : List StaticId) (w : World) → Kept R w (deaths old new ids w)
  deaths_lead old new [] w = here R w
  deaths_lead old new (id ∷ ids) w =
      let v : World = dead_unless_kept old new id w in
      on R w v (deaths old new ids v) (one_dead old new id w) (deaths_lead old new ids v)

  born_as_new : (id : StaticId) (d : Option Definition) (w : World) → BornNew R w (born_as id d w)
  born_as_new id None w = born_new_in R _ _ _ w
  born_as_new id (Some d) w = born_new_in R _ _ _ w

  static_new : (texts : List Text) (id : StaticId) (w : World) → BornNew R w (born_static texts id w)
  static_new texts (Named key) w = born_as_new (Named key) (object_in texts key) w
  static_new texts (Literal home bytes) w = born_new_in R _ _ _ w

  named_goes : (id : StaticId) (w : World) (r : Outcome ℕ) → BornNew R w r → Leaves R w (and_then r (λ o w. went (pass (Name id o) w)))
  named_goes id w (Done o v) b = done R tt w (pass (Name id o) v) (names R id o w v b.0 b.1 b.2)
  named_goes id w (Over e) b = over R w e

  each_goes : (texts : List Text) (id : StaticId) (o : Option ℕ) (w : World) → Leaves R w (born_unless texts id o w)
  each_goes texts id (Some o) w = same_done R tt w
  each_goes texts id None w = named_goes id w (born_static texts id w) (static_new texts id w)

  all_go : (texts : List Text) (ids : List StaticId) (w : World) → Leaves R w (born_all texts ids w)
  all_go texts [] w = same_done R tt w
  all_go texts (id ∷ ids) w =
      let r : Outcome (Unit {0}) = born_unless texts id (named_in w.names id) w in
      then_go R w r _ (each_goes texts id (named_in w.names id) w) (λ u v. all_go texts ids v)

  filling_goes : (texts : List Text) (ids : List StaticId) (w : World) → Leaves R w (born_and_filled texts ids w)
  filling_goes texts ids w =
      let r : Outcome (Unit {0}) = born_all texts ids w in
      then_go R w r _ (all_go texts ids w) (λ u v. done R tt v (filled_all texts ids v) (all_filled texts ids v))

  pub statics_go : (texts : List Text) (w : World) → Leaves R w (statics_born texts w)
  statics_go texts w = filling_goes texts (unnamed w.names (births_of texts)) w

  changed_goes : (old new : List Text) (w : World) → Leaves R w (changed old new w)
  changed_goes old new w =
      let v : World = deaths old new (births_of old) w in
      before R w v (statics_born new v) (deaths_lead old new (births_of old) w) (statics_go new v)

  if_changed : (b : Bool) (old new : List Text) (w : World) → Leaves R w (changed_if b old new w)
  if_changed true old new w = changed_goes old new w
  if_changed false old new w = same_done R tt w

  from_goes : (n : ℕ) (old : List Text) (vs : List Version) (w : World) → Leaves R w (settled_from n old vs w)
  from_goes n old [] w = same_done R tt w
  from_goes n old (v ∷ vs) w =
      let r : Outcome (Unit {0}) = changed_if (v.count == n) old v.texts w in
      if_goes R (nat_lt n v.count) w _ _ (same_done R tt w) (then_go R w r _ (if_changed (v.count == n) old v.texts w) (λ u x. from_goes n v.texts vs x))

  pub settled_goes : (h : History) (w : World) → Leaves R w (settled h w)
  settled_goes h w = from_goes w.count [] h w

  pub happened_goes : (h : History) (e : Event) → is_quiet_event e ≡ true → (w : World) → Leaves R w (happened h e w)
  happened_goes h e q w =
      let v : World = pass (Happens e) w in
      after_one R (Happens e) q w (settled h v) (settled_goes h v)
