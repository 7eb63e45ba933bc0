-- Inside: plumbing, a representation, an invariant or a promise beside the claim (docs/TRUST.md).
-- What holds of an entry that fits.
use Rattle.std.specs.Prelude.{◌≡◌, ℕ, ◌+◌, ◌≤◌, List, length, map, Option, Some}
use Rattle.sc_base.specs.declared.key.Key.{Key}
use Rattle.sc_base.specs.declared.memory.Form.{Form}
use Rattle.sc_object.specs.declared.object.Object.{Object}
use Rattle.sc_link.specs.declared.placed.Placed.{Placed}
use Rattle.sc_link.specs.Entries.{is_object}
use Rattle.sc_incr.specs.declared.module.Module.{Module}
use Rattle.sc_incr.specs.declared.planning.Plan.{Plan}
use Rattle.sc_incr.specs.Modules.{chosen, in_form, new_functions, placed_behind}
use Rattle.sc_places.specs.Layout.{behind_statics, behind_texts, static_end, text_end}

-- the sections of an object fit into the areas, behind all that a list has placed
pub record Fits (es : List Placed) (form : Form) (o : Object) (kept : List (Option ℕ)) : Type 0 where
  pub texts : text_end (is_object form) (behind_texts es) o.sections ≤ 0x04100000
  pub statics : static_end (behind_statics es) o.sections kept ≤ 0x08100000

-- the entry and the new functions of a module, which fit
pub record IsPlan (es : List Placed) (funs : List Key) (m : Module) (kept : List (Option ℕ)) (p : Plan) : Type 0 where
  pub placed : p.placed ≡ placed_behind es m kept
  pub functions : p.functions.items ≡ new_functions funs m.functions
  pub few : length funs + length p.functions.items ≤ 65536
  pub fits : Fits es m.form (chosen m) kept

-- an entry in another form, which fits
pub record IsForm (es : List Placed) (form : Form) (e p : Placed) : Type 0 where
  pub placed : p ≡ in_form es form e
  pub fits : Fits es form e.object (map Some e.places)
