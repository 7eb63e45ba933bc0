-- Inside: plumbing, a representation, an invariant or a promise beside the claim (docs/TRUST.md).
-- A function void f(void) { } in object form, whose text stands in an image as the generator writes it.
use Rattle.std.specs.Prelude.{◌≡◌, ℕ, ◌+◌, ◌*◌, ◌%◌, ◌^◌, ◌<◌, ◌≤◌, true, false, List, [], length, slice_index_or, Some}
use Rattle.sc_base.specs.declared.key.Key.{Key}
use Rattle.sc_core.specs.declared.module.Fun.{Fun}
use Rattle.sc_core.specs.declared.statement.CoreStmt.{out-CoreStmt}
use Rattle.sc_core.specs.declared.statement.CoreStmt.TheOpen.{CoreStmt-F}
use Rattle.sc_isa_image.specs.Lookups.{target_of, text_at, value_of}
use Rattle.sc_isa_image.specs.Stubs.{stub_address}
use Rattle.sc_isa_image.specs.declared.image.Image.{Image}
use Rattle.sc_isa_image.specs.declared.text.TextAt.{TextAt}
use Rattle.sc_meaning.specs.Versions.{Text, InText, callee_of}
use Rattle.sc_services.specs.Blocks.{slots_of}
use Rattle.sc_services.specs.Frames.{is_object}
use Rattle.sc_gen_code.specs.declared.symbolic.Target.{Target}
use Rattle.sc_gen_code.specs.Styles.{enters, plain_style}
use Rattle.sc_compiled_bodies.specs.Procedures.{text_of}
use Rattle.sc_compiled_bodies.specs.Ways.{LeadsTo}
use Rattle.sc_compiled_expressions.specs.Placing.{CodeAt}

-- its code names nothing
abbrev pub no_targets : Target → ℕ
no_targets t = 0

-- Its texts and the image have it: no parameters, a body of no statements, whose block has no objects; a frame within the reach of a load; its stub leads
-- to its text, which has its key and the cost of its frame.
pub record IsEmpty (texts : List Text) (image : Image) (key : Key) : Type 0 where
  pub text : Text
  pub fun : Fun
  pub place : TextAt
  pub number : ℕ
  pub line : ℕ
  pub block : ℕ
  pub found : callee_of texts key ≡ InText text fun
  pub compiled : is_object text.form ≡ true
  pub parameters : slice_index_or fun.blocks 0 [] ≡ []
  pub body : out-CoreStmt fun.body ≡ CoreStmt-F.Block line block [] []
  pub objects : slice_index_or fun.blocks block [] ≡ []
  pub unentered : enters plain_style fun.blocks block ≡ false
  pub least : 8 ≤ fun.cost
  pub most : fun.cost < 2048
  pub even : fun.cost % 4 ≡ 0
  pub keyed : place.fun ≡ key
  pub slots : slots_of place.frame 0 ≡ []
  pub costs : place.frame.cost ≡ fun.cost
  pub valued : value_of image key ≡ Some (stub_address number)
  pub stub : LeadsTo image number place.start
  pub target : target_of image key ≡ Some place.start
  pub code : CodeAt image no_targets place.start (text_of fun)
  pub holds : (k : ℕ) → k < length (text_of fun) → text_at image (place.start + 4 * k) ≡ Some place
  pub near : place.start + 4 * length (text_of fun) < 2 ^ 32
