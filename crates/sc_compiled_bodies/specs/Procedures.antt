-- Inside: plumbing, a representation, an invariant or a promise beside the claim (docs/TRUST.md).
-- A function T f(void) without automatic objects in object form, whose text stands in an image, and whose body's code does what the body means where the
-- functions that it calls return.
use Rattle.std.specs.Prelude.{◌≡◌, ℕ, suc, ◌+◌, ◌-◌, ◌*◌, ◌%◌, ◌^◌, ◌<◌, ◌≤◌, Bool, true, false, List, [], ◌∷◌, ◌++◌, length, slice_index_or, Some}
use Rattle.sc_base.specs.declared.key.Key.{Key}
use Rattle.sc_core.specs.declared.module.Auto.{Auto}
use Rattle.sc_core.specs.declared.module.Fun.{Fun}
use Rattle.sc_core.specs.declared.statement.CoreStmt.{CoreStmt}
use Rattle.sc_isa_image.specs.Lookups.{target_of, text_at, value_of}
use Rattle.sc_isa_image.specs.Stubs.{stub_address}
use Rattle.sc_isa_image.specs.declared.text.TextAt.{TextAt}
use Rattle.sc_meaning.specs.Calls.{exec}
use Rattle.sc_meaning.specs.Expressions.{Answer, Env, Nothing, Part, Place, Plain}
use Rattle.sc_meaning.specs.Outcomes.{Done, Outcome, Over}
use Rattle.sc_meaning.specs.Statements.{Way, Normal, Broke, Continued, Jumped, Returned}
use Rattle.sc_meaning.specs.Versions.{History, InText, Text, callee_of}
use Rattle.sc_meaning.specs.World.{Born, World}
use Rattle.sc_services.specs.Blocks.{slots_of}
use Rattle.sc_services.specs.Frames.{is_object}
use Rattle.sc_mixed.specs.Bridge.{is_code}
use Rattle.sc_mixed_means.specs.Stages.{Build, Look, Past, Stage, texts_of}
use Rattle.sc_gen_code.specs.Code.{Code, service}
use Rattle.sc_gen_code.specs.Styles.{plain_style}
use Rattle.sc_gen_code.specs.declared.symbolic.Symbolic.TheVariants.{Call}
use Rattle.sc_gen_code.specs.declared.symbolic.Target.{Target}
use Rattle.sc_gen_code.specs.declared.symbolic.Target.TheVariants.{Named}
use Rattle.sc_gen_body.specs.Functions.{before_body, first_temporary, function_code}
use Rattle.sc_gen_body.specs.Jumps.{nowhere}
use Rattle.sc_gen_body.specs.Statements.{epilogue}
use Rattle.sc_compiled_expressions.specs.Placing.{CodeAt}
use Rattle.sc_compiled_expressions.specs.Called.{ReturnsFrom}
use Rattle.sc_compiled_expressions.specs.Standing.{AreFixed, HasWord, Home}
use Rattle.sc_compiled_bodies.specs.Good.{GivesWay, code_of_statement}
use Rattle.sc_compiled_bodies.specs.Ways.{LeadsTo}

-- what the generator writes for a function
abbrev pub text_of : Fun → Code
text_of f = function_code plain_style f

-- the block of the parameters, of which there are none
abbrev pub first : Born
first = record { block = 0; ids = [] }

abbrev pub env_of : Text → Fun → Env
env_of t f = record { text = t; fun = f; blocks = first ∷ [] }

-- its text as it is translated, with the slots of its blocks, from the address of its first word on
abbrev pub home_of : Stage → Text → Fun → List (List Auto) → ℕ → Home
home_of s t f autos start = record { style = plain_style; autos = autos; cost = f.cost; base = start; text = text_of f; env = env_of t f; outgoing = first_temporary f; room = f.cost - 4; from = s }

-- where a run stands in a build behind which no other is to come
abbrev pub last_stage : Look → Build → Past → Stage
last_stage look b p = record { look = look; past = p; image = b.image; places = b.places; later = [] }

-- where its body begins in the text
abbrev pub body_at : Fun → ℕ
body_at f = length (before_body plain_style f)

abbrev pub body_code : Home → Fun → Code
body_code home f = code_of_statement home f.body (body_at f) nowhere

-- a body ends so that the call returns, with a value or without one
abbrev pub is_given : Answer → Bool
is_given Nothing = true
is_given (Plain v) = true
is_given (Place p) = false
is_given (Part p n) = false

abbrev pub gives_back : Way → Bool
gives_back Normal = true
gives_back Broke = false
gives_back Continued = false
gives_back (Jumped k) = false
gives_back (Returned a) = is_given a

abbrev pub GivesBack : Outcome Way → Type 0
GivesBack (Done way w) = gives_back way ≡ true
GivesBack (Over e) = Unit {0}

-- so does every way in which a statement ends, whatever stands around it
abbrev pub EndsGivingBack : CoreStmt → Type 0
EndsGivingBack st = (k : ℕ) (h : History) (env : Env) (v : World) → GivesBack (exec k h env st v)

-- Texts and the image have it: a frame within the reach of a load, a stub that leads to its text, which has its key and the cost of its frame, and whose
-- targets have their addresses in each fit memory. All that it calls is in object form. The code of its body does what the body means, which is not so deep as the
-- meaning looks for a move, if what it calls returns within fewer moves.
pub record IsProcedure (s : Stage) (key : Key) : Type 0 where
  pub text : Text
  pub fun : Fun
  pub place : TextAt
  pub number : ℕ
  pub autos : List (List Auto)
  pub value : Target → ℕ
  pub deep : ℕ
  pub found : callee_of (texts_of s.past) key ≡ InText text fun
  pub compiled : is_object text.form ≡ true
  pub parameters : slice_index_or fun.blocks 0 [] ≡ []
  pub none : (b : ℕ) → slice_index_or autos b [] ≡ []
  pub least : 8 ≤ fun.cost
  pub most : fun.cost < 2048
  pub even : fun.cost % 4 ≡ 0
  pub keyed : place.fun ≡ key
  pub slots : slots_of place.frame 0 ≡ []
  pub costs : place.frame.cost ≡ fun.cost
  pub valued : value_of s.image key ≡ Some (stub_address number)
  pub stub : LeadsTo s.image number place.start
  pub target : target_of s.image key ≡ Some place.start
  pub code : CodeAt s.image value place.start (text_of fun)
  pub targets : AreFixed value (home_of s text fun autos place.start) s
  pub callees : (k : Key) → HasWord (text_of fun) (Call (Named k)) → is_code (callee_of (texts_of s.past) k) ≡ true
  pub holds : (k : ℕ) → k < length (text_of fun) → text_at s.image (place.start + 4 * k) ≡ Some place
  pub near : place.start + 4 * length (text_of fun) < 2 ^ 32
  pub short : length (body_code (home_of s text fun autos place.start) fun) < 262143
  pub part : text_of fun ≡ before_body plain_style fun ++ (body_code (home_of s text fun autos place.start) fun ++ (service 6 ++ epilogue fun.cost))
  pub steps : suc deep ≤ s.look.step
  pub body : (most : ℕ) → ((k : Key) → HasWord (text_of fun) (Call (Named k)) → ReturnsFrom s most k) → GivesWay (home_of s text fun autos place.start) (suc most) deep fun.body (body_at fun) nowhere
  pub ends : (k : ℕ) (h : History) (w : World) → GivesBack (exec k h (env_of text fun) fun.body w)
