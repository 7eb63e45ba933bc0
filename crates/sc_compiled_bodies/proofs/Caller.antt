-- The build of void f(void) { x = 1; g(); return; } and int g(void) { return 3; } is as it has to be: by computation.
use Rattle.std.proofs.Common.{◌≡◌, ◌⊎◌, inl, inr, ℕ, zero, suc, ◌+◌, ◌-◌, ◌*◌, ◌<◌, ◌≤◌, ◌&&◌, Bool, true, false, if◌then◌else◌, nat_lt, nat_le, List, [], ◌∷◌, ◌++◌, length, Option, Some, None, arith, refl, sym, ap, ◌∙◌, subst}
use Rattle.std.proofs.lemmas.Bool.Decides.{nat_tests}
use Rattle.std.specs.Map.{lookup}
use Rattle.std.specs.Prelude.{cond, option_and_then, slice_index_or}
use Rattle.std.specs.Str.{bytes_eq}
use Rattle.sc_base.specs.declared.integer.Int.TheVariants as int
use Rattle.sc_base.specs.declared.key.Key.{Key}
use Rattle.sc_types.specs.declared.ctype.CType.{out-CType}
use Rattle.sc_types.specs.declared.ctype.CType.TheVariants as ctype
use Rattle.sc_isa.specs.Reading.{instr_of}
use Rattle.sc_isa.specs.declared.instruction.StoreOp.TheVariants.{Sw}
use Rattle.sc_core.specs.Types.{layer_type, type_of}
use Rattle.sc_core.specs.declared.expression.CoreExpr.TheOpen.{CoreExpr-F}
use Rattle.sc_core.specs.declared.expression.CoreExpr.TheVariants as expression
use Rattle.sc_core.specs.declared.module.Auto.{Auto}
use Rattle.sc_core.specs.declared.module.Core.{Core}
use Rattle.sc_core.specs.declared.module.Fun.{Fun}
use Rattle.sc_core.specs.declared.statement.CoreStmt.TheOpen.{CoreStmt-F}
use Rattle.sc_core.specs.declared.statement.CoreStmt.TheVariants.{Expression, Return, outs-Block, outs-Expression, outs-Return}
use Rattle.sc_core_needs.specs.Needs as needs
use Rattle.sc_core_needs.specs.Needs.{all, leaf, need, need_of_statement, nothing, two}
use Rattle.sc_core_needs.specs.declared.needs.Need.{Need}
use Rattle.sc_isa_image.specs.Lookups.{key_eq, stub_target, stub_value, target_of, text_at, value_of, value_or}
use Rattle.sc_isa_image.specs.Stubs.{stub_address, stub_word}
use Rattle.sc_isa_image.specs.declared.image.Image.{Image}
use Rattle.sc_isa_image.specs.Texts.{holds, place_of, text_holding, text_word}
use Rattle.sc_isa_image.specs.declared.text.Text.{Text as Placed}
use Rattle.sc_isa_image.specs.declared.text.TextAt.{TextAt}
use Rattle.sc_program.specs.declared.storage.StaticId.TheVariants as id
use Rattle.sc_meaning.specs.Values.{layer_is_pointer, same_key}
use Rattle.sc_meaning.specs.Versions.{Text, callee_of, fun_by, if_external, library_callee, or_later, or_library}
use Rattle.sc_meaning.specs.Names.{library_fun}
use Rattle.sc_meaning.specs.World.{named_in}
use Rattle.sc_meaning.specs.declared.library.LibFun.{LibFun}
use Rattle.sc_mixed.specs.Bridge.{is_code}
use Rattle.sc_mixed_means.specs.Owed.{CompiledTextsAreRight}
use Rattle.sc_mixed_means.specs.Stages.{First, Look}
use Rattle.sc_gen_code.specs.Code.{Code, at_target, block_service, li, service}
use Rattle.sc_gen_code.specs.Operators.{machine_level, machine_type, scalar_level, store_of}
use Rattle.sc_gen_code.specs.declared.symbolic.Access.TheVariants as access
use Rattle.sc_gen_code.specs.declared.symbolic.Symbolic.{Symbolic}
use Rattle.sc_gen_code.specs.declared.symbolic.Symbolic.TheVariants.{Call, Lower, Plain, Upper}
use Rattle.sc_gen_code.specs.declared.symbolic.Target.TheVariants.{Literal, Named}
use Rattle.sc_gen_body.specs.Functions.{first_temporary, outgoing_bytes}
use Rattle.sc_gen_body.specs.Jumps.{nowhere}
use Rattle.sc_gen_body.specs.Statements.{epilogue}
use Rattle.sc_compiled_frames.proofs.Reading.{key_one}
use Rattle.sc_compiled_expressions.specs.Placing.{CodeAt}
use Rattle.sc_compiled_expressions.specs.Standing.{HasWord, Home}
use Rattle.sc_compiled_bodies.specs.Caller as of
use Rattle.sc_compiled_bodies.specs.Caller.{HasFunctions}
use Rattle.sc_compiled_bodies.specs.Good.{IsFrame, code_of_statement}
use Rattle.sc_compiled_bodies.specs.Procedures.{home_of, last_stage, text_of}
use Rattle.sc_compiled_bodies.specs.Steps.{IsCall, IsGiven, IsStore}
use Rattle.sc_compiled_bodies.specs.Storing.{IsStoring}
use Rattle.sc_compiled_bodies.proofs.Callings.{words}
use Rattle.sc_compiled_bodies.proofs.Needing.{need_is, statement_needs}
use Rattle.sc_compiled_bodies.proofs.Storing.{storing_texts}
use Rattle.sc_compiled_bodies.proofs.Texts.{whole}
use Rattle.sc_compiled_bodies.proofs.Wording.{call_words, given_words, joined, return_words, store_words, text_words}

-- what a word may name: an object at its place, or a compiled function at its stub
abbrev Reaches : List Text → Image → Symbolic → Type 0
Reaches texts i (Plain x) = Unit {0}
Reaches texts i (Upper (Named k)) = named_in ((id.Named of.object, of.object_place) ∷ []) (id.Named k) ≡ Some (of.value (Named k))
Reaches texts i (Upper (Literal n)) = ⊥
Reaches texts i (Lower what t) = Unit {0}
Reaches texts i (Call (Named k)) = (is_code (callee_of texts k) ≡ true) × (value_of i k ≡ Some (of.value (Named k)))
Reaches texts i (Call (Literal n)) = ⊥

abbrev AllReach : List Text → Image → Code → Type 0
AllReach texts i [] = Unit {0}
AllReach texts i (x ∷ xs) = Reaches texts i x × AllReach texts i xs

reaches : (texts : List Text) (i : Image) (code : Code) (x : Symbolic) → AllReach texts i code → HasWord code x → Reaches texts i x
reaches texts i [] x p h = absurd h
reaches texts i (y ∷ ys) x p (inl e) = subst (Reaches texts i) e p.0
reaches texts i (y ∷ ys) x p (inr h) = reaches texts i ys x p.1 h

abbrev two_blocks : List (List Auto)
two_blocks = [] ∷ [] ∷ []

no_blocks : (b : ℕ) → slice_index_or two_blocks b [] ≡ []
no_blocks zero = refl
no_blocks (suc zero) = refl
no_blocks (suc (suc b)) = refl

module _ (f : Fun) (c : Core) (i : Image) (has : HasFunctions i) where
  abbrev texts : List Text
  texts = of.text f c ∷ []

  -- ---- the keys

  no_library : (o : Option LibFun) → is_code (or_library o) ≡ true → ⊥
  no_library None e = cc (e)
  no_library (Some l) e = cc (e)

  abbrev found_by : Bool → Bool → Option Fun
  found_by x y = if x then Some (of.calling f) else (if y then Some (of.called f) else None)

  abbrev IsOne : Key → Type 0
  IsOne key = (of.caller ≡ key) ⊎ (of.callee ≡ key)

  by_name : (x y : Bool) (key : Key) → key.«module» ≡ None → bytes_eq of.caller.name key.name ≡ x → bytes_eq of.callee.name key.name ≡ y
      → is_code (or_later (of.text f c) (if_external true (found_by x y)) (or_library (library_fun key.name))) ≡ true → IsOne key
  by_name true y key none is other e = inl (key_one of.caller key (ap (λ m. same_key of.caller (record { «module» = m; name = key.name })) none ∙ is))
  by_name false true key none is other e = inr (key_one of.callee key (ap (λ m. same_key of.callee (record { «module» = m; name = key.name })) none ∙ other))
  by_name false false key none is other e = absurd (no_library (library_fun key.name) e)

  not_other : (a x y : Bool) → is_code (or_later (of.text f c) (if a then if_external false (found_by x y) else None) (or_library None)) ≡ true → ⊥
  not_other true true y e = cc (e)
  not_other true false true e = cc (e)
  not_other true false false e = cc (e)
  not_other false x y e = cc (e)

  by_module : (m : Option (List ℕ)) (key : Key) → key.«module» ≡ m → is_code (or_later (of.text f c) (fun_by m key.name (of.text f c).core) (library_callee key m)) ≡ true → IsOne key
  by_module None key is e = by_name (bytes_eq of.caller.name key.name) (bytes_eq of.callee.name key.name) key is refl refl e
  by_module (Some home) key is e = absurd (not_other (bytes_eq c.name home) (bytes_eq of.caller.name key.name) (bytes_eq of.callee.name key.name) e)

  one_of_two : (key : Key) → is_code (callee_of texts key) ≡ true → IsOne key
  one_of_two key e = by_module key.«module» key refl e

  -- ---- the image

  abbrev tables : List Placed
  tables = of.placed of.caller of.start of.of_caller ∷ of.placed of.callee of.start_of_called of.of_called ∷ []

  fetched_at : (pc : ℕ) → option_and_then instr_of (text_word i.texts.texts pc) ≡ option_and_then instr_of (text_word tables pc)
  fetched_at pc = ap (λ ts. option_and_then instr_of (text_word ts pc)) has.texts

  stub_at : (pc : ℕ) → option_and_then instr_of (stub_word i.functions.entries pc) ≡ option_and_then instr_of (stub_word ((of.caller, of.stub 65536 of.start) ∷ (of.callee, of.stub 65544 of.start_of_called) ∷ []) pc)
  stub_at pc = ap (λ fs. option_and_then instr_of (stub_word fs pc)) has.functions

  value_at : (key : Key) → value_of i key ≡ stub_value (lookup (key_eq key) ((of.caller, of.stub 65536 of.start) ∷ (of.callee, of.stub 65544 of.start_of_called) ∷ []))
  value_at key =
      ap (λ vs. value_or (lookup (key_eq key) vs) (stub_value (lookup (key_eq key) i.functions.entries))) has.values
      ∙ ap (λ fs. stub_value (lookup (key_eq key) fs)) has.functions

  target_at : (key : Key) → target_of i key ≡ stub_target (lookup (key_eq key) ((of.caller, of.stub 65536 of.start) ∷ (of.callee, of.stub 65544 of.start_of_called) ∷ []))
  target_at key = ap (λ fs. stub_target (lookup (key_eq key) fs)) has.functions

  in_area : (start k : ℕ) → 1048576 ≤ start → nat_lt (start + 4 * k) 1048576 ≡ false
  in_area start k le = grind (arith, nat_tests, le)

  abbrev no_place : Option TextAt
  no_place = None

  abbrev nothing_placed : Option Placed
  nothing_placed = None

  -- an address of the first text, and of the second
  abbrev place_by : Bool → Bool → Option TextAt
  place_by x y = place_of (cond x (Some (of.placed of.caller of.start of.of_caller)) (cond y (Some (of.placed of.callee of.start_of_called of.of_called)) nothing_placed))

  is_at : (start k : ℕ) → 1048576 ≤ start → text_at i (start + 4 * k) ≡ place_of (text_holding tables (start + 4 * k))
  is_at start k le =
      ap (λ b. if b then no_place else place_of (text_holding i.texts.texts (start + 4 * k))) (in_area start k le) ∙ ap (λ ts. place_of (text_holding ts (start + 4 * k))) has.texts

  in_first : (k : ℕ) → k < 20 → (nat_le of.start (of.start + 4 * k) && nat_lt (of.start + 4 * k) (of.start + 80)) ≡ true
  in_first k lt = grind (arith, nat_tests, lt)

  not_first : (k : ℕ) → (nat_le of.start (of.start_of_called + 4 * k) && nat_lt (of.start_of_called + 4 * k) (of.start + 80)) ≡ false
  not_first k = grind (arith, nat_tests)

  in_second : (k : ℕ) → k < 17 → (nat_le of.start_of_called (of.start_of_called + 4 * k) && nat_lt (of.start_of_called + 4 * k) (of.start_of_called + 68)) ≡ true
  in_second k lt = grind (arith, nat_tests, lt)

  abbrev second_holds : ℕ → Bool
  second_holds pc = holds pc (of.placed of.callee of.start_of_called of.of_called)

  caller_there : (k : ℕ) → k < 20 → text_at i (of.start + 4 * k) ≡ Some (of.place of.caller of.start)
  caller_there k lt = is_at of.start k (omega arith) ∙ ap (λ b. place_by b (second_holds (of.start + 4 * k))) (in_first k lt)

  called_there : (k : ℕ) → k < 17 → text_at i (of.start_of_called + 4 * k) ≡ Some (of.place of.callee of.start_of_called)
  called_there k lt =
      is_at of.start_of_called k (omega arith) ∙ ap (λ b. place_by b (second_holds (of.start_of_called + 4 * k))) (not_first k) ∙ ap (place_by false) (in_second k lt)

  -- ---- what the calling function needs

  need_assignment : need of.assignment ≡ two leaf leaf
  need_assignment =
      need_is of.assignment (CoreExpr-F.Assign 1 of.number_type of.left of.right) (expression.outs-Assign 1 of.number_type of.left of.right)
      ∙ ap (λ a. two a (need of.right)) (need_is of.left (CoreExpr-F.Static 1 of.number_type of.object) (expression.outs-Static 1 of.number_type of.object))
      ∙ ap (two leaf) (need_is of.right (CoreExpr-F.Number 1 of.number_type 1) (expression.outs-Number 1 of.number_type 1))

  need_call : need (of.call f) ≡ needs.call leaf []
  need_call =
      need_is (of.call f) (CoreExpr-F.Call 2 (ctype.Void false) (of.address f) []) (expression.outs-Call 2 (ctype.Void false) (of.address f) [])
      ∙ ap (λ a. needs.call a [])
      (need_is (of.address f) (CoreExpr-F.Convert 2 (of.address_type f) (of.function_name f)) (expression.outs-Convert 2 (of.address_type f) (of.function_name f))
      ∙ need_is (of.function_name f) (CoreExpr-F.Function 2 (ctype.Function f.of) of.callee) (expression.outs-Function 2 (ctype.Function f.of) of.callee))

  need_body : need_of_statement (of.calling f).body ≡ all (two leaf leaf ∷ needs.call leaf [] ∷ nothing ∷ [])
  need_body =
      statement_needs (of.calling f).body (CoreStmt-F.Block 1 1 [] (of.statements f)) (outs-Block 1 1 [] (of.statements f))
      ∙ ap (λ a. all (a ∷ need_of_statement (Expression 2 (of.call f)) ∷ need_of_statement (Return 3 None) ∷ []))
      (statement_needs (Expression 1 of.assignment) (CoreStmt-F.Expression 1 of.assignment) (outs-Expression 1 of.assignment) ∙ need_assignment)
      ∙ ap (λ a. all (two leaf leaf ∷ a ∷ need_of_statement (Return 3 None) ∷ []))
      (statement_needs (Expression 2 (of.call f)) (CoreStmt-F.Expression 2 (of.call f)) (outs-Expression 2 (of.call f)) ∙ need_call)
      ∙ ap (λ a. all (two leaf leaf ∷ needs.call leaf [] ∷ a ∷ [])) (statement_needs (Return 3 None) (CoreStmt-F.Return 3 None) (outs-Return 3 None))

  caller_room : first_temporary (of.calling f) ≤ 12
  caller_room = let n = ap (λ (a : Need). outgoing_bytes a.arguments) need_body in omega (arith, n)

  need_called : need_of_statement (of.called f).body ≡ all (leaf ∷ [])
  need_called =
      statement_needs (of.called f).body (CoreStmt-F.Block 1 1 [] of.giving) (outs-Block 1 1 [] of.giving)
      ∙ ap (λ a. all (a ∷ []))
      (statement_needs (Return 4 (Some of.result)) (CoreStmt-F.Return 4 (Some of.result)) (outs-Return 4 (Some of.result))
      ∙ need_is of.result (CoreExpr-F.Number 4 of.number_type 3) (expression.outs-Number 4 of.number_type 3))

  called_room : first_temporary (of.called f) ≤ 12
  called_room = let n = ap (λ (a : Need). outgoing_bytes a.arguments) need_called in omega (arith, n)

  -- ---- their statements

  left_type : type_of of.left ≡ of.number_type
  left_type = ap layer_type (expression.outs-Static 1 of.number_type of.object)

  abbrev store_in : (code : Code) → HasWord code (Upper (Named of.object)) → IsStore code (Expression 1 of.assignment)
  store_in code there = record {
    line = 1;
    whole = of.assignment;
    statement = outs-Expression 1 of.assignment;
    at = 1;
    of = of.number_type;
    left = of.left;
    right = of.right;
    assigns = expression.outs-Assign 1 of.number_type of.left of.right;
    at_left = 1;
    of_left = of.number_type;
    key = of.object;
    names = expression.outs-Static 1 of.number_type of.object;
    scalar = ap (λ t. scalar_level (out-CType t)) left_type ∙ ap scalar_level (ctype.outs-Int int.Int false);
    reached = there;
    at_right = 1;
    of_right = of.number_type;
    number = 1;
    gives = expression.outs-Number 1 of.number_type 1;
    small = omega arith;
  }

  abbrev call_in : (code : Code) → HasWord code (Call (Named of.callee)) → IsCall code (Expression 2 (of.call f))
  call_in code there = record {
    line = 2;
    whole = of.call f;
    statement = outs-Expression 2 (of.call f);
    at = 2;
    of = ctype.Void false;
    callee = of.address f;
    calls = expression.outs-Call 2 (ctype.Void false) (of.address f) [];
    at_callee = 2;
    of_callee = of.address_type f;
    name = of.function_name f;
    decays = expression.outs-Convert 2 (of.address_type f) (of.function_name f);
    pointer = ap layer_is_pointer (ctype.outs-Pointer (ctype.Function f.of) false);
    at_name = 2;
    of_name = ctype.Function f.of;
    key = of.callee;
    names = expression.outs-Function 2 (ctype.Function f.of) of.callee;
    signature = f.of;
    function = ap (λ x. out-CType (layer_type x)) (expression.outs-Function 2 (ctype.Function f.of) of.callee) ∙ ctype.outs-Function f.of;
    other = refl;
    reached = there;
  }

  abbrev given : IsGiven (Return 4 (Some of.result))
  given = record { line = 4; value = of.result; statement = outs-Return 4 (Some of.result); at = 4; of = of.number_type; number = 3; gives = expression.outs-Number 4 of.number_type 3; fits = omega arith }

  op_is : store_of (machine_type (type_of of.left)) ≡ Sw
  op_is = ap (λ t. store_of (machine_type t)) left_type ∙ ap (λ l. store_of (machine_level l)) (ctype.outs-Int int.Int false)

  -- ---- their words

  abbrev caller_code : Code
  caller_code = whole 16 (joined ((li 10 1 ++ at_target (access.Store Sw 10) (Named of.object)) ∷ words of.callee ∷ (service 6 ++ epilogue 16) ∷ []))

  abbrev called_code : Code
  called_code = whole 16 (joined ((li 10 3 ++ (block_service 3 0 ++ epilogue 16)) ∷ []))

  module _ (look : Look) where
    abbrev home : Home
    home = home_of (last_stage look (of.build f c i) (First texts)) (of.text f c) (of.calling f) (of.calling f).blocks of.start

    frame_there : IsFrame home
    frame_there = record { first = caller_room; last = omega arith }

    low : first_temporary (of.calling f) < 2048
    low = let room = caller_room in omega (arith, room)

    store_is : (at : ℕ) → code_of_statement home (Expression 1 of.assignment) at nowhere ≡ li 10 1 ++ at_target (access.Store Sw 10) (Named of.object)
    store_is at =
        store_words home frame_there (Expression 1 of.assignment) at nowhere (Upper (Named of.object) ∷ []) (store_in (Upper (Named of.object) ∷ []) (inl refl))
        ∙ ap (λ o. li 10 1 ++ at_target (access.Store o 10) (Named of.object)) op_is

    caller_words : text_of (of.calling f) ≡ caller_code
    caller_words =
        text_words home (of.calling f) 1 1 (of.statements f) ((li 10 1 ++ at_target (access.Store Sw 10) (Named of.object)) ∷ words of.callee ∷ (service 6 ++ epilogue 16) ∷ []) (outs-Block 1 1 [] (of.statements f)) refl refl (omega arith) refl
        (store_is, (λ at. call_words home frame_there (Expression 2 (of.call f)) at nowhere refl low (Call (Named of.callee) ∷ []) (call_in (Call (Named of.callee) ∷ []) (inl refl)), ((λ at. return_words home frame_there (Return 3 None) at nowhere 3 (outs-Return 3 None)), tt)))

    abbrev home_called : Home
    home_called = home_of (last_stage look (of.build f c i) (First texts)) (of.text f c) (of.called f) (of.called f).blocks of.start_of_called

    frame_called : IsFrame home_called
    frame_called = record { first = called_room; last = omega arith }

    called_words : text_of (of.called f) ≡ called_code
    called_words =
        text_words home_called (of.called f) 1 1 of.giving ((li 10 3 ++ (block_service 3 0 ++ epilogue 16)) ∷ []) (outs-Block 1 1 [] of.giving) refl refl (omega arith) refl
        ((λ at. given_words home_called frame_called (Return 4 (Some of.result)) at nowhere given), tt)

    caller_at : CodeAt i of.value of.start caller_code
    caller_at = (
      record { even = refl; above = omega arith; near = omega arith; fetched = fetched_at 1048576 },
      (
        record { even = refl; above = omega arith; near = omega arith; fetched = fetched_at 1048580 },
        (
          record { even = refl; above = omega arith; near = omega arith; fetched = fetched_at 1048584 },
          (
            record { even = refl; above = omega arith; near = omega arith; fetched = fetched_at 1048588 },
            (
              record { even = refl; above = omega arith; near = omega arith; fetched = fetched_at 1048592 },
              (
                record { even = refl; above = omega arith; near = omega arith; fetched = fetched_at 1048596 },
                (
                  record { even = refl; above = omega arith; near = omega arith; fetched = fetched_at 1048600 },
                  (
                    record { even = refl; above = omega arith; near = omega arith; fetched = fetched_at 1048604 },
                    (
                      (record { even = refl; above = omega arith; near = omega arith; fetched = fetched_at 1048608 }, record { even = refl; above = omega arith; near = omega arith; fetched = fetched_at 1048612 }),
                      (
                        tt,
                        (
                          record { even = refl; above = omega arith; near = omega arith; fetched = fetched_at 1048616 },
                          (
                            record { even = refl; above = omega arith; near = omega arith; fetched = fetched_at 1048620 },
                            (
                              record { even = refl; above = omega arith; near = omega arith; fetched = fetched_at 1048624 },
                              (
                                record { even = refl; above = omega arith; near = omega arith; fetched = fetched_at 1048628 },
                                (
                                  record { even = refl; above = omega arith; near = omega arith; fetched = fetched_at 1048632 },
                                  (
                                    record { even = refl; above = omega arith; near = omega arith; fetched = fetched_at 1048636 },
                                    (
                                      record { even = refl; above = omega arith; near = omega arith; fetched = fetched_at 1048640 },
                                      (
                                        record { even = refl; above = omega arith; near = omega arith; fetched = fetched_at 1048644 },
                                        (
                                          record { even = refl; above = omega arith; near = omega arith; fetched = fetched_at 1048648 },
                                          (
                                            record { even = refl; above = omega arith; near = omega arith; fetched = fetched_at 1048652 },
                                            tt,
                                          ),
                                        ),
                                      ),
                                    ),
                                  ),
                                ),
                              ),
                            ),
                          ),
                        ),
                      ),
                    ),
                  ),
                ),
              ),
            ),
          ),
        ),
      ),
    )

    called_at : CodeAt i of.value of.start_of_called called_code
    called_at = (record { even = refl; above = omega arith; near = omega arith; fetched = fetched_at 1048656 }, (record { even = refl; above = omega arith; near = omega arith; fetched = fetched_at 1048660 }, (record { even = refl; above = omega arith; near = omega arith; fetched = fetched_at 1048664 }, (record { even = refl; above = omega arith; near = omega arith; fetched = fetched_at 1048668 }, (record { even = refl; above = omega arith; near = omega arith; fetched = fetched_at 1048672 }, (record { even = refl; above = omega arith; near = omega arith; fetched = fetched_at 1048676 }, (record { even = refl; above = omega arith; near = omega arith; fetched = fetched_at 1048680 }, (record { even = refl; above = omega arith; near = omega arith; fetched = fetched_at 1048684 }, (record { even = refl; above = omega arith; near = omega arith; fetched = fetched_at 1048688 }, (record { even = refl; above = omega arith; near = omega arith; fetched = fetched_at 1048692 }, (record { even = refl; above = omega arith; near = omega arith; fetched = fetched_at 1048696 }, (record { even = refl; above = omega arith; near = omega arith; fetched = fetched_at 1048700 }, (record { even = refl; above = omega arith; near = omega arith; fetched = fetched_at 1048704 }, (record { even = refl; above = omega arith; near = omega arith; fetched = fetched_at 1048708 }, (record { even = refl; above = omega arith; near = omega arith; fetched = fetched_at 1048712 }, (record { even = refl; above = omega arith; near = omega arith; fetched = fetched_at 1048716 }, (record { even = refl; above = omega arith; near = omega arith; fetched = fetched_at 1048720 }, tt)))))))))))))))))

    -- ---- what they reach

    caller_reaches : AllReach texts i caller_code
    caller_reaches = (tt, (tt, (tt, (tt, (tt, (tt, (refl, (tt, ((refl, value_at of.callee), (tt, (tt, (tt, (tt, (tt, (tt, (tt, (tt, (tt, (tt, (tt, tt))))))))))))))))))))

    called_reaches : AllReach texts i called_code
    called_reaches = (tt, (tt, (tt, (tt, (tt, (tt, (tt, (tt, (tt, (tt, (tt, (tt, (tt, (tt, (tt, (tt, (tt, tt)))))))))))))))))

    caller_has : (x : Symbolic) → HasWord (text_of (of.calling f)) x → Reaches texts i x
    caller_has x h = reaches texts i caller_code x caller_reaches (subst (λ l. HasWord l x) caller_words h)

    called_has : (x : Symbolic) → HasWord (text_of (of.called f)) x → Reaches texts i x
    called_has x h = reaches texts i called_code x called_reaches (subst (λ l. HasWord l x) called_words h)

    stores_there : HasWord (text_of (of.calling f)) (Upper (Named of.object))
    stores_there = subst (λ l. HasWord l (Upper (Named of.object))) (sym caller_words) (inr (inr (inr (inr (inr (inr (inl refl)))))))

    calls_there : HasWord (text_of (of.calling f)) (Call (Named of.callee))
    calls_there = subst (λ l. HasWord l (Call (Named of.callee))) (sym caller_words) (inr (inr (inr (inr (inr (inr (inr (inr (inl refl)))))))))

    -- ---- the functions

    caller_long : length (text_of (of.calling f)) ≡ 20
    caller_long = ap length caller_words

    called_long : length (text_of (of.called f)) ≡ 17
    called_long = ap length called_words

    caller_is : IsStoring 4 texts i ((id.Named of.object, of.object_place) ∷ []) of.caller
    caller_is = record {
      text = of.text f c;
      fun = of.calling f;
      place = of.place of.caller of.start;
      number = 0;
      line = 1;
      block = 1;
      statements = of.statements f;
      value = of.value;
      found = refl;
      compiled = refl;
      objects = no_blocks;
      body = outs-Block 1 1 [] (of.statements f);
      inner = refl;
      steps = (inl (store_in (text_of (of.calling f)) stores_there), (inr (inr (inr (omega arith, call_in (text_of (of.calling f)) calls_there))), (inr (inl (3, outs-Return 3 None)), tt)));
      least = omega arith;
      most = omega arith;
      even = refl;
      room = caller_room;
      keyed = refl;
      slots = refl;
      costs = refl;
      valued = value_at of.caller;
      stub = record {
        first = record { even = refl; above = omega arith; near = omega arith; fetched = stub_at 65536 };
        second = record { even = refl; above = omega arith; near = omega arith; fetched = stub_at 65540 };
        even = refl;
        near = omega arith;
      };
      target = target_at of.caller;
      code = subst (λ l. CodeAt i of.value of.start l) (sym caller_words) caller_at;
      static = λ k h. caller_has (Upper (Named k)) h;
      literal = λ n h. caller_has (Upper (Literal n)) h;
      callees = λ k h. (caller_has (Call (Named k)) h).0;
      stubs = λ k h. (caller_has (Call (Named k)) h).1;
      holds = λ k lt. let n = caller_long in caller_there k (omega (arith, lt, n));
      near = let n = caller_long in omega (arith, n);
      short = let n = caller_long in omega (arith, n);
    }

    called_is : IsStoring 4 texts i ((id.Named of.object, of.object_place) ∷ []) of.callee
    called_is = record {
      text = of.text f c;
      fun = of.called f;
      place = of.place of.callee of.start_of_called;
      number = 1;
      line = 1;
      block = 1;
      statements = of.giving;
      value = of.value;
      found = refl;
      compiled = refl;
      objects = no_blocks;
      body = outs-Block 1 1 [] of.giving;
      inner = refl;
      steps = (inr (inr (inl given)), tt);
      least = omega arith;
      most = omega arith;
      even = refl;
      room = called_room;
      keyed = refl;
      slots = refl;
      costs = refl;
      valued = value_at of.callee;
      stub = record {
        first = record { even = refl; above = omega arith; near = omega arith; fetched = stub_at 65544 };
        second = record { even = refl; above = omega arith; near = omega arith; fetched = stub_at 65548 };
        even = refl;
        near = omega arith;
      };
      target = target_at of.callee;
      code = subst (λ l. CodeAt i of.value of.start_of_called l) (sym called_words) called_at;
      static = λ k h. called_has (Upper (Named k)) h;
      literal = λ n h. called_has (Upper (Literal n)) h;
      callees = λ k h. (called_has (Call (Named k)) h).0;
      stubs = λ k h. (called_has (Call (Named k)) h).1;
      holds = λ k lt. let n = called_long in called_there k (omega (arith, lt, n));
      near = let n = called_long in omega (arith, n);
      short = let n = called_long in omega (arith, n);
    }

    is_storing : (key : Key) → IsOne key → IsStoring 4 texts i ((id.Named of.object, of.object_place) ∷ []) key
    is_storing key (inl e) = subst (λ k. IsStoring 4 texts i ((id.Named of.object, of.object_place) ∷ []) k) e caller_is
    is_storing key (inr e) = subst (λ k. IsStoring 4 texts i ((id.Named of.object, of.object_place) ∷ []) k) e called_is

    pub caller_right : 6 ≤ look.step → CompiledTextsAreRight look (of.build f c i ∷ [])
    caller_right looks = storing_texts look (of.build f c i) 4 (omega arith) looks (λ key e. is_storing key (one_of_two key e))

  pub caller_crosses : (is_code (callee_of (of.build f c i).texts of.caller) ≡ true) × (value_of i of.caller ≡ Some (stub_address 0))
  caller_crosses = (refl, value_at of.caller)
