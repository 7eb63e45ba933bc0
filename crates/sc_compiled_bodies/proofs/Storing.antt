-- A function of statements that store and call is a procedure whose body's code does what the body means.
use Rattle.std.proofs.Common.{◌≡◌, ℕ, zero, suc, ◌+◌, Some, ◌<◌, ◌≤◌, ◌==◌, ◌||◌, Bool, true, false, List, [], ◌∷◌, ◌++◌, length, arith, refl, sym, ap, ◌∙◌, subst, length-append}
use Rattle.std.specs.Prelude.{slice_get}
use Rattle.sc_base.specs.declared.key.Key.{Key}
use Rattle.sc_isa_image.specs.Stubs.{stub_address}
use Rattle.sc_objects.specs.Numbered.{IsLive}
use Rattle.sc_program.specs.declared.storage.StaticId.TheVariants as id
use Rattle.sc_meaning.specs.Versions.{callee_of}
use Rattle.sc_meaning.specs.World.{World}
use Rattle.sc_mixed.specs.Bridge.{is_code}
use Rattle.sc_mixed.specs.declared.calls.Lower.{Lower}
use Rattle.sc_mixed_means.specs.Owed.{CompiledTextsAreRight}
use Rattle.sc_mixed_means.specs.Stages.{Build, Look, Stage, texts_of}
use Rattle.sc_mixed_means.specs.Waiting.{IsFit}
use Rattle.sc_gen_code.specs.declared.symbolic.Symbolic.TheVariants.{Call}
use Rattle.sc_gen_code.specs.declared.symbolic.Target.TheVariants as target
use Rattle.sc_gen_code.specs.Code.{Code, service}
use Rattle.sc_gen_code.specs.Styles.{has_objects, plain_style}
use Rattle.sc_gen_body.specs.Functions.{before_body}
use Rattle.sc_gen_body.specs.Jumps.{nowhere}
use Rattle.sc_gen_body.specs.Statements.{epilogue}
use Rattle.sc_compiled_expressions.specs.Standing.{AreFixed, HasWord, Home, is_entered, slots, table_in}
use Rattle.sc_compiled_expressions.specs.Called.{ReturnsFrom}
use Rattle.sc_compiled_frames.specs.Frames.{Fits}
use Rattle.sc_core.specs.declared.statement.CoreStmt.{CoreStmt}
use Rattle.sc_compiled_bodies.specs.Exits.{within}
use Rattle.sc_compiled_bodies.specs.Steps.{IsCall}
use Rattle.sc_compiled_bodies.specs.Good.{GivesWay, IsFrame}
use Rattle.sc_compiled_bodies.specs.Procedures.{EndsGivingBack, IsProcedure, body_at, body_code, env_of, home_of, last_stage, text_of}
use Rattle.sc_compiled_bodies.specs.Storing.{IsStoring}
use Rattle.sc_compiled_bodies.proofs.Fallen.{no_objects}
use Rattle.sc_compiled_bodies.proofs.Steps.{block_gives, block_back, expression_back, no_fuel, steps_are}
use Rattle.sc_compiled_bodies.proofs.Begun.{none_slotted}
use Rattle.sc_compiled_bodies.proofs.Callings.{call_gives}
use Rattle.sc_compiled_bodies.proofs.Whole.{procedures_right}

neither : (p q : Bool) → p ≡ false → q ≡ false → (p || q) ≡ false
neither p q e f = ap (λ b. b || q) e ∙ f

module _ (s : Stage) (later : s.later ≡ []) (deep : ℕ) (key : Key) (e : IsStoring deep (texts_of s.past) s.image s.places key) (least : 3 ≤ deep) (looks : suc (suc deep) ≤ s.look.step) where
  abbrev home : Home
  home = home_of s e.text e.fun e.fun.blocks e.place.start

  frame : IsFrame home
  frame = let l = e.least in record { first = e.room; last = omega (arith, l) }

  unentered : is_entered plain_style e.fun.blocks e.block ≡ false
  unentered = neither (e.block == 0) (has_objects (slice_get e.fun.blocks e.block)) e.inner (no_objects e.fun.blocks e.block (e.objects e.block))

  -- what the text calls has the number of its stub
  its_number : (lower : List Lower) (w : World) → IsFit (texts_of s.past) s.image s.places lower w → (k : Key) → HasWord (text_of e.fun) (Call (target.Named k)) → (n : ℕ) × (slice_get w.beside.functions n ≡ Some k) × (e.value (target.Named k) ≡ stub_address n)
  its_number lower w fit k has = fit.stubs k (e.value (target.Named k)) (e.stubs k has)

  targets_there : AreFixed e.value home s
  targets_there lower w fit = record {
    static = λ k o has named.
        let at = fit.stand (id.Named k) o (e.value (target.Named k)) named (e.static k has) in
        (at.0, subst (λ m. IsLive (table_in m) o at.0) (sym fit.is) at.1, at.2);
    literal = λ i bytes o has is named. absurd (e.literal i has);
    function = λ n k has is.
        let own = its_number lower w fit k has in
        own.2 ∙ ap stub_address (fit.once own.0 n k own.1 is);
    numbered = λ k has. let own = its_number lower w fit k has in (own.0, own.1);
  }

  shorter : length (body_code home e.fun) < 262143
  shorter =
      let rest : Code = service 6 ++ epilogue e.fun.cost in
      let all = length-append (before_body plain_style e.fun) (body_code home e.fun ++ rest) in
      let inside = length-append (body_code home e.fun) rest in
      let short = e.short in
      omega (arith, all, inside, short)

  -- the statements that call
  abbrev Calling : CoreStmt → Type 0
  Calling st = (4 ≤ deep) × IsCall (text_of e.fun) st

  abbrev inner : Home
  inner = within home (record { block = e.block; ids = [] } ∷ [])

  no_slots : Fits (slots inner) inner.cost
  no_slots = record {
    inside = λ b i slot is. absurd (none_slotted inner e.objects b i slot is);
    even = λ b i slot is. absurd (none_slotted inner e.objects b i slot is);
    apart = λ b c i j slot other is. absurd (none_slotted inner e.objects b i slot is);
  }

  calls_give : (most : ℕ) → ((k : Key) → HasWord (text_of e.fun) (Call (target.Named k)) → ReturnsFrom s most k) → (st : CoreStmt) (at : ℕ) → Calling st → GivesWay inner (suc most) deep st at nowhere
  calls_give most returns st at p = λ bound dp.
      call_gives inner refl later e.most no_slots (record { first = frame.first; last = frame.last }) most st at nowhere p.1 (e.callees p.1.key p.1.reached) (returns p.1.key p.1.reached) bound (λ m. let d = dp m in let le = p.0 in omega (arith, d, le))

  calls_back : (st : CoreStmt) → Calling st → EndsGivingBack st
  calls_back st p zero h env v = no_fuel h env st v
  calls_back st p (suc k) h env v = expression_back k h env st p.1.line p.1.whole v p.1.statement

  pub storing : IsProcedure s key
  storing = record {
    text = e.text;
    fun = e.fun;
    place = e.place;
    number = e.number;
    autos = e.fun.blocks;
    value = e.value;
    deep = suc deep;
    found = e.found;
    compiled = e.compiled;
    parameters = e.objects 0;
    none = e.objects;
    least = e.least;
    most = e.most;
    even = e.even;
    keyed = e.keyed;
    slots = e.slots;
    costs = e.costs;
    valued = e.valued;
    stub = e.stub;
    target = e.target;
    code = e.code;
    targets = targets_there;
    callees = e.callees;
    holds = e.holds;
    near = e.near;
    short = shorter;
    part = refl;
    steps = looks;
    body = λ most returns. block_gives home (suc most) deep e.line e.block e.fun.body e.statements (body_at e.fun) nowhere least frame e.body unentered (e.objects e.block) (steps_are Calling (λ st. (at : ℕ) → GivesWay inner (suc most) deep st at nowhere) (λ st p at. calls_give most returns st at p) (text_of e.fun) e.statements e.steps);
    ends = λ k h w. block_back (text_of e.fun) k e.line e.block h (env_of e.text e.fun) e.fun.body e.statements w e.body (e.objects e.block) (steps_are Calling EndsGivingBack calls_back (text_of e.fun) e.statements e.steps);
  }

pub storing_texts : (look : Look) (b : Build) (deep : ℕ) → 3 ≤ deep → suc (suc deep) ≤ look.step → ((key : Key) → is_code (callee_of b.texts key) ≡ true → IsStoring deep b.texts b.image b.places key) → CompiledTextsAreRight look (b ∷ [])
storing_texts look b deep least looks all =
    procedures_right look b (λ p present key code. storing (last_stage look b p) refl deep key (subst (λ ts. IsStoring deep ts b.image b.places key) (sym present) (all key code)) least looks)
