-- Names give places without code.
use Rattle.std.proofs.Common.{◌≡◌, ℕ, zero, suc, ◌+◌, ◌-◌, ◌*◌, ◌%◌, ◌^◌, ◌<◌, ◌≤◌, Option, Some, None, List, [], ◌∷◌, map, refl, sym, ap, subst, ◌∙◌, arith}
use Rattle.std.specs.Prelude.{slice_get, slice_index_or, option_and_then, option_map}
use Rattle.sc_base.specs.declared.key.Key.{Key}
use Rattle.sc_base.specs.declared.memory.Word.{Word}
use Rattle.sc_program.specs.declared.frame.Slot.{Slot}
use Rattle.sc_program.specs.declared.storage.StaticId.TheVariants as id
use Rattle.sc_types.specs.declared.ctype.CType.{CType}
use Rattle.sc_core.specs.declared.expression.CoreExpr.{CoreExpr, out-CoreExpr, map-CoreExpr, fold_out-CoreExpr}
use Rattle.sc_core.specs.declared.expression.CoreExpr.TheOpen.{CoreExpr-F}
use Rattle.sc_core.specs.declared.module.Auto.{Auto}
use Rattle.sc_emu.specs.Operations.{sum}
use Rattle.sc_meaning.specs.Calls.{eval}
use Rattle.sc_meaning.specs.Expressions.{Answer, Nothing, Part, Place, Plain, part_of, at_place, automatic_in, finished, static_at, undefined_name}
use Rattle.sc_meaning.specs.Outcomes.{Undefined, undefined}
use Rattle.sc_meaning.specs.Values.{Pointer, Value}
use Rattle.sc_meaning.specs.World.{Work, World, named_in, tick}
use Rattle.sc_meaning.proofs.Steps.{one_more}
use Rattle.sc_objects.specs.declared.objects.Obj.{Obj}
use Rattle.sc_objects.specs.Numbered.{IsLive, object_of}
use Rattle.sc_mixed.specs.declared.calls.Calls.{Calls}
use Rattle.sc_mixed_means.specs.Stages.{Stage}
use Rattle.sc_gen_operand.specs.Places.{in_frame, in_frame_layer, named, named_layer, offset_in, slot_of}
use Rattle.sc_compiled_frames.specs.Means.{IsWord}
use Rattle.sc_compiled_frames.specs.Words.{AreSeated}
use Rattle.sc_compiled_frames.specs.Frames.{Placed, foot}
use Rattle.sc_compiled_expressions.specs.Parts.{End, Meets}
use Rattle.sc_compiled_expressions.proofs.Joining.{in_turn, same_part, undefined_here}
use Rattle.sc_gen_code.specs.declared.symbolic.Symbolic.TheVariants.{Upper}
use Rattle.sc_gen_code.specs.declared.symbolic.Target.TheVariants as target
use Rattle.sc_compiled_expressions.specs.Standing.{HasWord, Home, MeansIn, Stands, slots, stub, table, table_in}
use Rattle.sc_compiled_expressions.specs.Good.{IsDeeper}
use Rattle.sc_compiled_expressions.proofs.Standing.{own_step, seated, stands_worked}
use Rattle.sc_compiled_expressions.proofs.Nodes.{finish, less, opened}
use Rattle.sc_compiled_expressions.specs.Direct.{GivesPlace, IsAtPlace, IsOpenName, PlaceFound}

-- ---- the word of an object's first byte

at_base : (base : ℕ) → base < 4294967296 → (base + (4294967296 - base)) % 4294967296 ≡ 0
at_base base lt = omega (arith, lt)

top_below : (base size n : ℕ) → base + size < n → base < n
top_below base size n lt = omega (arith, lt)

pub object_word : (w : World) (id : ℕ) (p : Obj) → AreSeated (table w) → object_of (table w) id ≡ Some p → MeansIn w (record { bits = p.base; tag = id }) (Pointer id 0)
object_word w id p seats there =
    let small : p.base < 4294967296 = top_below p.base p.size 4294967296 (seats id p there).1 in
    record { stands = (p, refl, there, small, at_base p.base small); wide = small; within = (p, there, omega arith) }

-- ---- layers of what is said of a place

pub frame_layer : (home : Home) (e : CoreExpr) (x : CoreExpr-F CoreExpr) → out-CoreExpr e ≡ x → in_frame home.autos e ≡ in_frame_layer home.autos (map-CoreExpr CoreExpr (Option ℕ) (in_frame home.autos) x)
frame_layer home e x is = fold_out-CoreExpr (Option ℕ) (in_frame_layer home.autos) e ∙ ap (λ y. in_frame_layer home.autos (map-CoreExpr CoreExpr (Option ℕ) (in_frame home.autos) y)) is

pub name_is : (e : CoreExpr) (x : CoreExpr-F CoreExpr) → out-CoreExpr e ≡ x → named e ≡ named_layer x
name_is e x is = ap named_layer is

-- ---- slots

slot_in : (xs : List Auto) (i : ℕ) (s : Slot) → slice_get (map (λ (x : Auto). x.slot) xs) i ≡ Some s → (x : Auto) × (slice_get xs i ≡ Some x) × (x.slot ≡ s)
slot_in [] i s e = absurd (cc (e))
slot_in (x ∷ xs) zero s e = (x, refl, cc (e))
slot_in (x ∷ xs) (suc i) s e = slot_in xs i s e

list_in : (xss : List (List Auto)) (b i : ℕ) (s : Slot) → slice_get (map (λ (x : Auto). x.slot) (slice_index_or xss b [])) i ≡ Some s → offset_in (option_and_then (λ xs. slice_get xs i) (slice_get xss b)) ≡ s.offset
list_in [] b i s e = absurd (cc (e))
list_in (xs ∷ xss) zero i s e =
    let got = slot_in xs i s e in
    ap offset_in got.1 ∙ ap (λ (t : Slot). t.offset) got.2
list_in (xs ∷ xss) (suc b) i s e = list_in xss b i s e

one_number : (n m : ℕ) → Some n ≡ Some m → n ≡ m
one_number n m e = cc (e)

above_sp : (sp n k base : ℕ) → n ≡ k → base ≡ sp + k → base < 4294967296 → (n < 4294967296) × ((sp + n) % 4294967296 ≡ base)
above_sp sp n k base e at lt = (omega (arith, e, at, lt), omega (arith, e, at, lt))

module _ (home : Home) (most deep l : ℕ) (t : CType) (e : CoreExpr) where
  -- ---- the name of an automatic object

  pub automatic_found : (b i : ℕ) → out-CoreExpr e ≡ CoreExpr-F.Automatic l t b i → IsOpenName home b i → GivesPlace home most (suc deep) e
  automatic_found b i is name = λ bound dp s c w v st.
      let E : End Answer = PlaceFound home e c w in
      let ready : Stands home s c w (tick (tick v)) = stands_worked home s c w (tick v) 1 (stands_worked home s c w v 1 st) in
      let at : Placed (slots home) (foot w) st.frame.holds.memory.flat.objects name.of.block i name.object = st.frame.lives name.of name.open_there i name.object name.numbered in
      let live : object_of (table w) name.object ≡ Some at.object = ap (λ o. object_of (table_in o) name.object) st.frame.holds.there ∙ at.live.0 in
      let seats : AreSeated (table w) = seated home s c w v st in
      let small : at.object.base < 4294967296 = top_below at.object.base at.object.size 4294967296 (seats name.object at.object live).1 in
      let slot : slot_of home.autos b i ≡ at.slot.offset = subst (λ k. slot_of home.autos k i ≡ at.slot.offset) name.block (list_in home.autos name.of.block i at.slot at.slotted) in
      opened home most deep e (CoreExpr-F.Automatic l t b i) is s E bound dp c w v refl
      (same_part most s E c w (tick v) (λ h m. at_place (automatic_in home.env.blocks b i) (tick v)) (λ h m. finished (Place (Pointer name.object 0)) (tick v)) (λ h m. ap (λ p. at_place p (tick v)) name.meant)
      (finish home most s E (Place (Pointer name.object 0)) c w (tick v) (record {
        calls = refl;
        world = refl;
        stands = ready;
        place = record { bits = at.object.base; tag = name.object };
        word = object_word w name.object at.object seats live;
        kind = tt;
        in_slot = λ n f. above_sp (foot w) n at.slot.offset at.object.base (one_number n (slot_of home.autos b i) (sym f ∙ frame_layer home e (CoreExpr-F.Automatic l t b i) is) ∙ slot) at.base small;
        by_name = λ key none f. absurd (cc (sym none ∙ frame_layer home e (CoreExpr-F.Automatic l t b i) is));
      })))

  -- ---- the name of a static object

  module _ (key : Key) (is : out-CoreExpr e ≡ CoreExpr-F.Static l t key) (has : HasWord home.text (Upper (target.Named key))) (s : Stage) (c : Calls) (w v : World) (st : Stands home s c w v) where
    abbrev E : End Answer
    E = PlaceFound home e c w

    one_key : (j k : Key) → Some j ≡ Some k → j ≡ k
    one_key j k f = cc (f)

    named_now : (o : ℕ) → named_in v.names (id.Named key) ≡ Some o → named_in w.names (id.Named key) ≡ Some o
    named_now o f = ap (λ (u : World). named_in u.names (id.Named key)) st.alike.same ∙ f

    by_found : (o : Option ℕ) → named_in v.names (id.Named key) ≡ o → Meets most s E c w v (λ h m. static_at key o v)
    by_found None f = undefined_here most s E c w v (λ h m. undefined (undefined_name key v) v) (undefined_name key v) (own_step (undefined_name key v) v st.own) (λ h m. refl)
    by_found (Some o) f =
        let lives = st.targets.static key o has (named_now o f) in
        let seats : AreSeated (table w) = seated home s c w v st in
        finish home most s E (Place (Pointer o 0)) c w v (record {
          calls = refl;
          world = refl;
          stands = stands_worked home s c w v 1 st;
          place = record { bits = lives.0.base; tag = o };
          word = object_word w o lives.0 seats lives.1.0;
          kind = tt;
          in_slot = λ n g. absurd (cc (sym g ∙ frame_layer home e (CoreExpr-F.Static l t key) is));
          by_name = λ k none g. let one = one_key k key (sym g ∙ name_is e (CoreExpr-F.Static l t key) is) in (o, refl, ap (λ j. named_in v.names (id.Named j)) one ∙ f, subst (λ j. HasWord home.text (Upper (target.Named j))) (sym one) has);
        })

  pub static_found : (key : Key) → out-CoreExpr e ≡ CoreExpr-F.Static l t key → HasWord home.text (Upper (target.Named key)) → GivesPlace home most (suc deep) e
  static_found key is has = λ bound dp s c w v st.
      opened home most deep e (CoreExpr-F.Static l t key) is s (PlaceFound home e c w) bound dp c w v refl
      (by_found key is has s c w (tick v) (stands_worked home s c w v 1 st) (named_in v.names (id.Named key)) refl)

  -- ---- a member of a place without code

  part_word : (w : World) (n : ℕ) (a : Answer) (x : Word) → IsWord (stub w) (table w) a x → IsWord (stub w) (table w) (part_of a n) (record { bits = sum x.bits n; tag = x.tag })
  part_word w n (Plain v) x m = (x, m, refl, refl)
  part_word w n (Place p) x m = (x, m, refl, refl)
  part_word w n (Part p k) x m = (m.0, m.1, further_on (m.0).bits x.bits k n m.2, m.3)
    where
      further_on : (y x k n : ℕ) → x ≡ (y + k) % 4294967296 → (x + n) % 4294967296 ≡ (y + (k + n)) % 4294967296
      further_on y x k n e = omega (arith, e)
  part_word w n Nothing x m = tt

  part_kind : (a : Answer) (n : ℕ) → IsAtPlace a → IsAtPlace (part_of a n)
  part_kind (Plain v) n k = tt
  part_kind (Place p) n k = tt
  part_kind (Part p j) n k = tt
  part_kind Nothing n k = k

  inner_slot : (w : World) (n k : ℕ) (x : Word) (o : Option ℕ) → ((j : ℕ) → o ≡ Some j → (j < 2 ^ 32) × (sum (foot w) j ≡ x.bits)) → option_map (λ at. (at + n) % 2 ^ 32) o ≡ Some k → (k < 2 ^ 32) × (sum (foot w) k ≡ sum x.bits n)
  inner_slot w n k x None all f = absurd (cc (f))
  inner_slot w n k x (Some j) all f = slid (foot w) j n k x.bits (one_number ((j + n) % 2 ^ 32) k f) (all j refl).1
    where
      slid : (sp j n k x : ℕ) → (j + n) % 4294967296 ≡ k → (sp + j) % 4294967296 ≡ x → (k < 4294967296) × ((sp + k) % 4294967296 ≡ (x + n) % 4294967296)
      slid sp j n k x e f = (omega (arith, e), omega (arith, e, f))

  pub member_found : (n : ℕ) (a : CoreExpr) → out-CoreExpr e ≡ CoreExpr-F.Member l t n a → GivesPlace home most deep a → GivesPlace home most (suc deep) e
  member_found n a is good = λ bound dp s c w v st.
      let F : End Answer = PlaceFound home e c w in
      opened home most deep e (CoreExpr-F.Member l t n a) is s F bound dp c w v refl
      (in_turn most s (PlaceFound home a c w) F c w (tick v) (λ h m. eval (bound m - 1) h home.env a (tick v)) (λ x u h m. finished (part_of x n) u)
      (good (λ m. bound m - 1) (less deep bound dp) s c w (tick v) (stands_worked home s c w v 1 st))
      (λ x u h m. one_more (Work 1) u)
      (λ q x u d y p. finish home most q F (part_of x n) d y u (record {
        calls = p.calls;
        world = p.world;
        stands = stands_worked home q d y u 1 p.stands;
        place = record { bits = sum p.place.bits n; tag = p.place.tag };
        word = part_word y n x p.place p.word;
        kind = part_kind x n p.kind;
        in_slot = λ k f. inner_slot y n k p.place (in_frame home.autos a) p.in_slot (sym (frame_layer home e (CoreExpr-F.Member l t n a) is) ∙ f);
        by_name = λ key none f. absurd (cc (sym (name_is e (CoreExpr-F.Member l t n a) is) ∙ f));
      })))
