-- The build of one function void f(void) { } is as it has to be: by computation.
use Rattle.std.proofs.Common.{◌≡◌, ℕ, ◌+◌, ◌*◌, ◌<◌, ◌≤◌, ◌&&◌, Bool, true, false, if◌then◌else◌, nat_lt, nat_le, List, [], ◌∷◌, length, Option, Some, None, arith, refl, sym, ap, ◌∙◌, subst}
use Rattle.std.proofs.lemmas.Bool.Decides.{nat_tests}
use Rattle.std.specs.Map.{lookup}
use Rattle.std.specs.Prelude.{cond, option_and_then}
use Rattle.sc_isa.specs.Reading.{instr_of}
use Rattle.std.specs.Str.{bytes_eq}
use Rattle.sc_base.specs.declared.key.Key.{Key}
use Rattle.sc_core.specs.declared.module.Core.{Core}
use Rattle.sc_core.specs.declared.module.Fun.{Fun}
use Rattle.sc_core.specs.declared.statement.CoreStmt.TheVariants.{outs-Block}
use Rattle.sc_isa_image.specs.Lookups.{key_eq, stub_target, stub_value, text_at, value_of, value_or}
use Rattle.sc_isa_image.specs.Stubs.{stub_address, stub_word}
use Rattle.sc_isa_image.specs.declared.image.Image.{Image}
use Rattle.sc_isa_image.specs.Texts.{place_of, text_holding, text_word}
use Rattle.sc_isa_image.specs.declared.text.Text.{Text as Placed}
use Rattle.sc_isa_image.specs.declared.text.TextAt.{TextAt}
use Rattle.sc_meaning.specs.Values.{same_key}
use Rattle.sc_meaning.specs.Versions.{callee_of, fun_by, if_external, library_callee, or_later, or_library}
use Rattle.sc_meaning.specs.Names.{library_fun}
use Rattle.sc_meaning.specs.declared.library.LibFun.{LibFun}
use Rattle.sc_mixed.specs.Bridge.{is_code}
use Rattle.sc_mixed_means.specs.Owed.{CompiledTextsAreRight}
use Rattle.sc_mixed_means.specs.Stages.{Look}
use Rattle.sc_compiled_frames.proofs.Reading.{key_one}
use Rattle.sc_compiled_expressions.specs.Placing.{CodeAt}
use Rattle.sc_compiled_bodies.specs.Empty.{IsEmpty, no_targets}
use Rattle.sc_compiled_bodies.specs.Procedures.{text_of}
use Rattle.sc_compiled_bodies.specs.Small as small
use Rattle.sc_compiled_bodies.proofs.Texts.{whole}
use Rattle.sc_compiled_bodies.proofs.Nothing.{empty_texts, nothing_text}

module _ (f : Fun) (c : Core) (i : Image) (has : small.HasFunction i) where
  abbrev g : Fun
  g = small.function f

  -- ---- the key

  no_library : (o : Option LibFun) → is_code (or_library o) ≡ true → ⊥
  no_library None e = cc (e)
  no_library (Some l) e = cc (e)

  abbrev found_by : Bool → Option Fun
  found_by b = if b then Some g else None

  by_name : (b : Bool) (key : Key) → key.«module» ≡ None → bytes_eq small.name key.name ≡ b → is_code (or_later (small.text f c) (if_external true (found_by b)) (or_library (library_fun key.name))) ≡ true → same_key small.key key ≡ true
  by_name true key none is e = ap (λ m. same_key small.key (record { «module» = m; name = key.name })) none ∙ is
  by_name false key none is e = absurd (no_library (library_fun key.name) e)

  not_other : (a b : Bool) → is_code (or_later (small.text f c) (if a then if_external false (found_by b) else None) (or_library None)) ≡ true → ⊥
  not_other true true e = cc (e)
  not_other true false e = cc (e)
  not_other false b e = cc (e)

  by_module : (m : Option (List ℕ)) (key : Key) → key.«module» ≡ m → is_code (or_later (small.text f c) (fun_by m key.name (small.text f c).core) (library_callee key m)) ≡ true → same_key small.key key ≡ true
  by_module None key is e = by_name (bytes_eq small.name key.name) key is refl e
  by_module (Some home) key is e = absurd (not_other (bytes_eq c.name home) (bytes_eq small.name key.name) e)

  pub its_key : (key : Key) → is_code (callee_of (small.text f c ∷ []) key) ≡ true → small.key ≡ key
  its_key key e = key_one small.key key (by_module key.«module» key refl e)

  -- ---- the image

  whole_code : text_of g ≡ whole 16 []
  whole_code = nothing_text g 1 1 (outs-Block 1 1 [] []) refl (omega arith)

  -- the word that the text has at an address
  abbrev fetched_at : (pc : ℕ) → option_and_then instr_of (text_word i.texts.texts pc) ≡ option_and_then instr_of (text_word (small.placed ∷ []) pc)
  fetched_at pc = ap (λ ts. option_and_then instr_of (text_word ts pc)) has.texts

  abbrev stub_at : (pc : ℕ) → option_and_then instr_of (stub_word i.functions.entries pc) ≡ option_and_then instr_of (stub_word ((small.key, small.stub) ∷ []) pc)
  stub_at pc = ap (λ fs. option_and_then instr_of (stub_word fs pc)) has.functions

  code_there : CodeAt i no_targets small.start (whole 16 [])
  code_there = (
    record { even = refl; above = omega arith; near = omega arith; fetched = fetched_at 1048576 },
    (
      record { even = refl; above = omega arith; near = omega arith; fetched = fetched_at 1048580 },
      (
        record { even = refl; above = omega arith; near = omega arith; fetched = fetched_at 1048584 },
        (
          record { even = refl; above = omega arith; near = omega arith; fetched = fetched_at 1048588 },
          (
            record { even = refl; above = omega arith; near = omega arith; fetched = fetched_at 1048592 },
            (
              record { even = refl; above = omega arith; near = omega arith; fetched = fetched_at 1048596 },
              (
                record { even = refl; above = omega arith; near = omega arith; fetched = fetched_at 1048600 },
                (
                  record { even = refl; above = omega arith; near = omega arith; fetched = fetched_at 1048604 },
                  (
                    record { even = refl; above = omega arith; near = omega arith; fetched = fetched_at 1048608 },
                    (record { even = refl; above = omega arith; near = omega arith; fetched = fetched_at 1048612 }, tt),
                  ),
                ),
              ),
            ),
          ),
        ),
      ),
    ),
  )

  in_text : (k : ℕ) → k < 10 → (nat_le small.start (small.start + 4 * k) && nat_lt (small.start + 4 * k) (small.start + 40)) ≡ true
  in_text k lt = grind (arith, nat_tests, lt)

  in_area : (k : ℕ) → nat_lt (small.start + 4 * k) 1048576 ≡ false
  in_area k = grind (arith, nat_tests)

  abbrev nothing : Option Placed
  nothing = None

  abbrev no_place : Option TextAt
  no_place = None

  abbrev place_if : Bool → Option TextAt
  place_if b = place_of (cond b (Some small.placed) nothing)

  text_there : (k : ℕ) → k < 10 → text_at i (small.start + 4 * k) ≡ Some small.place
  text_there k lt =
      ap (λ b. if b then no_place else place_of (text_holding i.texts.texts (small.start + 4 * k))) (in_area k)
      ∙ ap (λ ts. place_of (text_holding ts (small.start + 4 * k))) has.texts
      ∙ ap place_if (in_text k lt)

  long : length (text_of g) ≡ 10
  long = ap length whole_code

  value_there : value_of i small.key ≡ Some (stub_address 0)
  value_there =
      ap (λ vs. value_or (lookup (key_eq small.key) vs) (stub_value (lookup (key_eq small.key) i.functions.entries))) has.values
      ∙ ap (λ fs. stub_value (lookup (key_eq small.key) fs)) has.functions

  empty : IsEmpty (small.text f c ∷ []) i small.key
  empty = record {
    text = small.text f c;
    fun = g;
    place = small.place;
    number = 0;
    line = 1;
    block = 1;
    found = refl;
    compiled = refl;
    parameters = refl;
    body = outs-Block 1 1 [] [];
    objects = refl;
    unentered = refl;
    least = omega arith;
    most = omega arith;
    even = refl;
    keyed = refl;
    slots = refl;
    costs = refl;
    valued = value_there;
    stub = record {
      first = record { even = refl; above = omega arith; near = omega arith; fetched = stub_at 65536 };
      second = record { even = refl; above = omega arith; near = omega arith; fetched = stub_at 65540 };
      even = refl;
      near = omega arith;
    };
    target = ap (λ fs. stub_target (lookup (key_eq small.key) fs)) has.functions;
    code = subst (λ l. CodeAt i no_targets small.start l) (sym whole_code) code_there;
    holds = λ k lt. let n = long in text_there k (omega (arith, lt, n));
    near = let n = long in omega (arith, n);
  }

  pub small_right : (look : Look) → 2 ≤ look.step → CompiledTextsAreRight look (small.build f c i ∷ [])
  small_right look steps = empty_texts look (small.build f c i) steps (λ key e. subst (λ k. IsEmpty (small.text f c ∷ []) i k) (its_key key e) empty)

  pub small_crosses : (is_code (callee_of (small.build f c i).texts small.key) ≡ true) × (value_of i small.key ≡ Some (stub_address 0))
  small_crosses = (refl, value_there)
