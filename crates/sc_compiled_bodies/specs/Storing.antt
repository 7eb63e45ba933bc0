-- Inside: plumbing, a representation, an invariant or a promise beside the claim (docs/TRUST.md).
-- A function T f(void) of statements `x = n;`, `f();`, `return;` and `return n;` in object form, whose text stands in an image as the generator writes it.
use Rattle.std.specs.Prelude.{◌≡◌, ℕ, ◌+◌, ◌-◌, ◌*◌, ◌%◌, ◌^◌, ◌<◌, ◌≤◌, ◌==◌, true, false, List, [], length, slice_index_or, Some}
use Rattle.sc_base.specs.declared.key.Key.{Key}
use Rattle.sc_core.specs.declared.module.Fun.{Fun}
use Rattle.sc_core.specs.declared.statement.CoreStmt.{CoreStmt, out-CoreStmt}
use Rattle.sc_core.specs.declared.statement.CoreStmt.TheOpen.{CoreStmt-F}
use Rattle.sc_isa_image.specs.Lookups.{target_of, text_at, value_of}
use Rattle.sc_isa_image.specs.Stubs.{stub_address}
use Rattle.sc_isa_image.specs.declared.image.Image.{Image}
use Rattle.sc_isa_image.specs.declared.text.TextAt.{TextAt}
use Rattle.sc_program.specs.declared.storage.StaticId.{StaticId}
use Rattle.sc_program.specs.declared.storage.StaticId.TheVariants as id
use Rattle.sc_meaning.specs.Versions.{InText, Text, callee_of}
use Rattle.sc_meaning.specs.World.{named_in}
use Rattle.sc_services.specs.Blocks.{slots_of}
use Rattle.sc_services.specs.Frames.{is_object}
use Rattle.sc_mixed.specs.Bridge.{is_code}
use Rattle.sc_gen_code.specs.declared.symbolic.Symbolic.TheVariants.{Call, Upper}
use Rattle.sc_gen_code.specs.declared.symbolic.Target.{Target}
use Rattle.sc_gen_code.specs.declared.symbolic.Target.TheVariants.{Literal, Named}
use Rattle.sc_gen_body.specs.Functions.{first_temporary}
use Rattle.sc_compiled_expressions.specs.Placing.{CodeAt}
use Rattle.sc_compiled_expressions.specs.Standing.{HasWord}
use Rattle.sc_compiled_bodies.specs.Procedures.{text_of}
use Rattle.sc_compiled_bodies.specs.Steps.{AreSteps, IsCall}
use Rattle.sc_compiled_bodies.specs.Ways.{LeadsTo}

-- Its texts and the image have it: no block has objects; a frame within the reach of a load, with room for the place of return; its stub leads to its text, which
-- has its key and the cost of its frame. The names that the text reaches have their objects' places, and it reaches no literal; what it calls is in object form and
-- has a stub. The meaning of its statements looks no deeper than is said, which a call needs to be 4.
pub record IsStoring (deep : ℕ) (texts : List Text) (image : Image) (places : List (StaticId × ℕ)) (key : Key) : Type 0 where
  pub text : Text
  pub fun : Fun
  pub place : TextAt
  pub number : ℕ
  pub line : ℕ
  pub block : ℕ
  pub statements : List CoreStmt
  pub value : Target → ℕ
  pub found : callee_of texts key ≡ InText text fun
  pub compiled : is_object text.form ≡ true
  pub objects : (b : ℕ) → slice_index_or fun.blocks b [] ≡ []
  pub body : out-CoreStmt fun.body ≡ CoreStmt-F.Block line block [] statements
  pub inner : (block == 0) ≡ false
  pub steps : AreSteps (λ st. (4 ≤ deep) × IsCall (text_of fun) st) (text_of fun) statements
  pub least : 8 ≤ fun.cost
  pub most : fun.cost < 2048
  pub even : fun.cost % 4 ≡ 0
  pub room : first_temporary fun ≤ fun.cost - 4
  pub keyed : place.fun ≡ key
  pub slots : slots_of place.frame 0 ≡ []
  pub costs : place.frame.cost ≡ fun.cost
  pub valued : value_of image key ≡ Some (stub_address number)
  pub stub : LeadsTo image number place.start
  pub target : target_of image key ≡ Some place.start
  pub code : CodeAt image value place.start (text_of fun)
  pub static : (k : Key) → HasWord (text_of fun) (Upper (Named k)) → named_in places (id.Named k) ≡ Some (value (Named k))
  pub literal : (i : ℕ) → HasWord (text_of fun) (Upper (Literal i)) → ⊥
  pub callees : (k : Key) → HasWord (text_of fun) (Call (Named k)) → is_code (callee_of texts k) ≡ true
  pub stubs : (k : Key) → HasWord (text_of fun) (Call (Named k)) → value_of image k ≡ Some (value (Named k))
  pub holds : (k : ℕ) → k < length (text_of fun) → text_at image (place.start + 4 * k) ≡ Some place
  pub near : place.start + 4 * length (text_of fun) < 2 ^ 32
  pub short : length (text_of fun) < 262143
