-- Where a body ends, with a value or without one, the code asks for the return: the call is left, whatever blocks without objects are open inside it.
use Rattle.std.proofs.Common.{◌≡◌, inl, inr, ℕ, zero, suc, ◌+◌, ◌-◌, ◌*◌, ◌/◌, ◌%◌, ◌^◌, ◌<◌, ◌≤◌, ◌==◌, ◌||◌, not, Bool, true, false, if◌then◌else◌, List, [], ◌∷◌, ◌++◌, reverse, Option, Some, arith, refl, sym, ap, ◌∙◌, subst}
use Rattle.std.proofs.lemmas.List.{reverse-append}
use Rattle.std.specs.Prelude.{IfSome, Ok, slice_get, slice_index_or}
use Rattle.sc_base.specs.declared.memory.Word.{Word}
use Rattle.sc_core.specs.declared.module.Auto.{Auto}
use Rattle.sc_core.specs.declared.module.Fun.{Fun}
use Rattle.sc_emu.specs.Operations.{plain}
use Rattle.sc_emu.specs.Registers.{AreRegisters, register}
use Rattle.sc_meaning.specs.Calls.{answer_of, left}
use Rattle.sc_meaning.specs.Expressions.{Answer, Nothing, Plain}
use Rattle.sc_meaning.specs.Values.{Value}
use Rattle.sc_meaning.specs.Outcomes.{and_then}
use Rattle.sc_meaning.specs.Statements.{Way, all_dead}
use Rattle.sc_meaning.specs.Versions.{Text}
use Rattle.sc_meaning.specs.World.{Born, CloseBlock, End, Frame, Happens, Leave, Pop, Stack, World, pass}
use Rattle.sc_like.specs.Alike.{Like}
use Rattle.sc_like.specs.Unseen.{TellsForms}
use Rattle.sc_like.proofs.Hiding.{like_on, tells_on}
use Rattle.sc_services.specs.Blocks.{block_left, closed_upto, left_by, top_blocks}
use Rattle.sc_services.specs.Frames.{is_in_code, is_open, is_open_here}
use Rattle.sc_services.specs.Arguments.{IsValueOf}
use Rattle.sc_services.specs.Leaving.{may_leave}
use Rattle.sc_mem.specs.Safe.{Store}
use Rattle.sc_mem_store.specs.Holding.{value_at}
use Rattle.sc_mixed.specs.Bridge.{with_given, with_registers}
use Rattle.sc_mixed.specs.Machine.{LeavesWith}
use Rattle.sc_mixed.specs.declared.calls.Calls.{Calls}
use Rattle.sc_mixed.specs.declared.calls.Next.TheVariants.{Executes, Serves}
use Rattle.sc_mixed_means.specs.Owed.{is_calling_out}
use Rattle.sc_mixed_means.specs.Stages.{Stage, since}
use Rattle.sc_gen_code.specs.Code.{block_service, service}
use Rattle.sc_gen_code.specs.Styles.{has_objects, plain_style}
use Rattle.sc_gen_body.specs.Statements.{epilogue}
use Rattle.sc_compiled_frames.specs.Frames.{Has, foot}
use Rattle.sc_compiled_frames.specs.Means.{Means as IsMeant}
use Rattle.sc_compiled_frames.proofs.Values.{means_value}
use Rattle.sc_compiled_values.specs.Straight.{Words, with}
use Rattle.sc_compiled_expressions.specs.Instructions.{HasMemory}
use Rattle.sc_compiled_expressions.specs.Parts.{Family, Lags, Leading, Means, MeansAt, followed, looking}
use Rattle.sc_compiled_expressions.specs.Placing.{CodeAt}
use Rattle.sc_compiled_expressions.specs.Standing.{Home, MeansIn, Stands, entered_blocks, stub, table_in}
use Rattle.sc_compiled_expressions.specs.Waits.{WordWaits}
use Rattle.sc_compiled_expressions.proofs.Getting.{word_read}
use Rattle.sc_compiled_expressions.proofs.Goes.{first_of, same_code}
use Rattle.sc_compiled_expressions.proofs.Loading.{registers_of}
use Rattle.sc_compiled_expressions.proofs.Moving.{fewer_moves, lags_on, means_later, no_lag, no_moves, unseen_lags, unseen_means}
use Rattle.sc_compiled_expressions.proofs.Joining.{leading_then}
use Rattle.sc_compiled_expressions.proofs.Numbers.{index_zero}
use Rattle.sc_compiled_expressions.proofs.Standing.{memory_of}
use Rattle.sc_compiled_expressions.proofs.Straight.{has_back, has_front}
use Rattle.sc_compiled_bodies.specs.Exits.{Left, left_block, left_end, left_none, within}
use Rattle.sc_compiled_bodies.specs.Procedures.{first, home_of}
use Rattle.sc_compiled_bodies.proofs.Begun.{none_slotted}
use Rattle.sc_compiled_bodies.proofs.Ends.{epilogue_returns, exit_asked, fall_asked}
use Rattle.sc_compiled_bodies.proofs.Meaning.{is_left, left_leads}
use Rattle.sc_compiled_bodies.proofs.Returning as leaving
use Rattle.sc_compiled_bodies.proofs.Returning.{both, given_now}
use Rattle.sc_compiled_bodies.proofs.Unentered.{closed_code, unseen}

-- ---- what is left is not seen

-- the blocks that the meaning has left have no objects
abbrev AreEmpty : List Born → Type 0
AreEmpty [] = Unit {0}
AreEmpty (b ∷ bs) = (b.ids ≡ []) × AreEmpty bs

record Follows (v u : World) : Type 0 where
  lags : Lags v u
  forms : TellsForms u
  code : is_in_code u.frames ≡ true
  count : u.count ≡ v.count

closes : (b : Born) (v u : World) → b.ids ≡ [] → Follows v u → Follows v (pass CloseBlock (all_dead b.ids u))
closes b v u none f =
    let shut : Follows v (pass CloseBlock u) = record {
      lags = lags_on v u (pass CloseBlock u) f.lags (unseen_lags CloseBlock u f.forms (unseen u.frames f.code));
      forms = tells_on CloseBlock u f.forms;
      code = closed_code u.frames ∙ f.code;
      count = f.count;
    } in
    subst (λ ids. Follows v (pass CloseBlock (all_dead ids u))) (sym none) shut

ends : (v u : World) → Follows v u → Follows v (pass End u)
ends v u f = record {
  lags = lags_on v u (pass End u) f.lags (unseen_lags End u f.forms refl);
  forms = tells_on End u f.forms;
  code = f.code;
  count = f.count;
}

follows : (bs : List Born) (v u : World) → Left bs v u → AreEmpty bs → TellsForms v → is_in_code v.frames ≡ true → Follows v u
follows bs v u (left_none x) empty forms code = record { lags = no_lag x; forms = forms; code = code; count = refl }
follows bs v u (left_end cs x y l) empty forms code = ends x y (follows cs x y l empty forms code)
follows bs v u (left_block b cs x y l) empty forms code = closes b x y empty.0 (follows cs x y l empty.1 forms code)

-- ---- the run leaves the block of the parameters, which is empty

abbrev AreFirst : List Born → Type 0
AreFirst [] = Unit {0}
AreFirst (o ∷ os) = ((o.block == 0) ≡ true) × (o.ids ≡ []) × AreFirst os

first_more : (os ps : List Born) → AreFirst os → AreFirst ps → AreFirst (os ++ ps)
first_more [] ps f g = g
first_more (o ∷ os) ps f g = (f.0, f.1, first_more os ps f.2 g)

first_back : (os : List Born) → AreFirst os → AreFirst (reverse os)
first_back [] f = tt
first_back (o ∷ os) f = subst AreFirst (sym (reverse-append (o ∷ []) os)) (first_more (reverse os) (o ∷ []) (first_back os f.2) (f.0, f.1, tt))

closes_none : (os : List Born) (y : World) → AreFirst os → closed_upto 0 os y ≡ y
closes_none [] y f = refl
closes_none (o ∷ os) y f =
    ap (λ b. if b || b then (if b then all_dead o.ids y else pass CloseBlock (all_dead o.ids y)) else closed_upto 0 os (if b then all_dead o.ids y else pass CloseBlock (all_dead o.ids y))) f.0
    ∙ ap (λ ids. all_dead ids y) f.1

pub no_objects : (autos : List (List Auto)) (b : ℕ) → slice_index_or autos b [] ≡ [] → has_objects (slice_get autos b) ≡ false
no_objects [] b e = refl
no_objects (xs ∷ autos) zero e = ap (λ ys. has_objects (Some ys)) e
no_objects (xs ∷ autos) (suc b) e = no_objects autos b e

first_if : (b : Born) (os : List Born) (p q : Bool) → (b.block == 0) ≡ p → q ≡ false → b.ids ≡ [] → AreFirst os → AreFirst (if p || q then b ∷ os else os)
first_if b os true q is out none f = (is, none, f)
first_if b os false true is out none f = absurd (cc (out))
first_if b os false false is out none f = f

entered_first : (autos : List (List Auto)) → ((b : ℕ) → slice_index_or autos b [] ≡ []) → (bs : List Born) → ((o : Born) → Has o bs → o.ids ≡ []) → AreFirst (entered_blocks plain_style autos bs)
entered_first autos none [] empty = tt
entered_first autos none (b ∷ bs) empty =
    first_if b (entered_blocks plain_style autos bs) (b.block == 0) (has_objects (slice_get autos b.block)) refl (no_objects autos b.block (none b.block)) (empty b (inl refl))
    (entered_first autos none bs (λ o h. empty o (inr h)))

pub open_of : (fs : List Frame) (b : ℕ) → is_open_here b fs ≡ is_open b (top_blocks fs)
open_of [] b = refl
open_of (f ∷ fs) b = refl

-- ---- the code behind a body

module _ (s : Stage) (text : Text) (fun : Fun) (autos : List (List Auto)) (start : ℕ) (none : (b : ℕ) → slice_index_or autos b [] ≡ []) (least : 8 ≤ fun.cost) (even : fun.cost % 4 ≡ 0) (extra : List Born) where
  abbrev home : Home
  home = home_of s text fun autos start

  abbrev inner : Home
  inner = within home extra

  abbrev cost : ℕ
  cost = fun.cost

  module _ (t : Stage) (d : Calls) (y b u : World) (stands : Stands inner t d y b) (gone : Left extra b u) (back : ℕ) (near : back < 2 ^ 32) (even_back : back / 2 * 2 ≡ back)
      (waits : WordWaits y (foot y + (cost - 4)) (plain back)) (way : Way) (rest : Answer → World → Family Answer) (on_to : (a : Answer) (o : World) → Leading o (rest a o)) where
    -- what the call gives
    abbrev given : Answer
    given = answer_of way

    no_ids : (o : Born) → Has o (first ∷ extra) → o.ids ≡ []
    no_ids o has = by_list o.ids refl
      where
        by_list : (ids : List ℕ) → o.ids ≡ ids → o.ids ≡ []
        by_list [] e = e
        by_list (id ∷ ids) e = let p = stands.frame.lives o has 0 id (ap (λ l. slice_get l 0) e) in absurd (none_slotted home none o.block 0 p.slot p.slotted)

    all_empty : (bs : List Born) → ((o : Born) → Has o bs → o.ids ≡ []) → AreEmpty bs
    all_empty [] all = tt
    all_empty (o ∷ bs) all = (all o (inl refl), all_empty bs (λ p h. all p (inr h)))

    code_b : is_in_code b.frames ≡ true
    code_b = first_of (is_in_code b.frames) (not (is_calling_out b)) stands.own

    after : Follows b u
    after = follows extra b u gone (all_empty extra (λ o h. no_ids o (inr h))) stands.forms code_b

    late : since t.past ≤ u.count
    late = let old = stands.late in let same = after.count in omega (arith, old, same)

    -- a word is that of one value
    one_value : (x z : Value) → IsValueOf y (register d.regs 10) x → MeansIn y (register d.regs 10) z → x ≡ z
    one_value x z is means =
        let holds = stands.frame.holds in
        let word : Word = register d.regs 10 in
        subst (λ (o : Option Store). IfSome o (λ m. x ≡ value_at y.beside.functions m.flat.objects word.tag word.bits)) holds.there is.1
        ∙ means_value y.beside.functions (stub y) holds.memory.flat.objects word z stands.stubs holds.words.seated (subst (λ o. IsMeant (stub y) (table_in o) word z) holds.there means)

    -- the run leaves the call
    abbrev open_blocks : List Born
    open_blocks = entered_blocks plain_style autos (first ∷ extra)

    left_is : block_left 0 y ≡ y
    left_is =
        ap (λ os. closed_upto 0 (reverse os) y) stands.opened
        ∙ closes_none (reverse open_blocks) y (first_back open_blocks (entered_first autos none (first ∷ extra) no_ids))

    may : may_leave 0 y ≡ true
    may =
        both (is_in_code y.frames) (is_open_here 0 y.frames) (sym (same_code y.frames b.frames (ap (λ (w : World). w.frames) stands.alike.same)) ∙ code_b)
        (open_of y.frames 0 ∙ ap (is_open 0) stands.opened)

    abbrev final : World
    final = left_by cost u

    abbrev behind : World
    behind = left_by cost y

    -- what is known of the world behind the return
    pub alike_final : Like behind final
    alike_final = leaving.behind_alike t fun y u (like_on y b u stands.alike after.lags.alike)

    pub late_final : since t.past ≤ final.count
    late_final = let l = late in let e : final.count ≡ u.count + 1 = refl in omega (arith, l, e)

    pub forms_final : TellsForms final
    forms_final = tells_on (Happens Leave) (pass (Stack (u.used - cost)) (pass Pop u)) (tells_on (Stack (u.used - cost)) (pass Pop u) (tells_on Pop u after.forms))

    abbrev memory_y : HasMemory y
    memory_y = memory_of inner t d y b stands

    abbrev memory_behind : HasMemory behind
    memory_behind = record { memory = memory_y.memory; there = memory_y.there; low = memory_y.low; high = memory_y.high }

    abbrev leaves : Family Answer
    leaves = followed (λ h m. left h [] cost way u) rest

    leaves_leads : Leading u leaves
    leaves_leads = leading_then u (λ h m. left h [] cost way u) rest (left_leads cost way u) on_to

    abbrev done : Family Answer
    done = looking t.look.step (rest given final)

    done_leads : Leading final done
    done_leads = λ h m. on_to given final h (t.look.step + m)

    -- back at the caller
    abbrev left_with : Calls
    left_with = with_given (given_now given d behind) d

    abbrev pub at_caller : List Word → Calls
    at_caller zs = with_registers (record { pc = back; words = zs }) left_with

    abbrev Returns : ℕ → Type 0
    Returns n = (zs : List Word) → AreRegisters zs → slice_index_or zs 2 (plain 0) ≡ plain (foot y + cost) → slice_index_or zs 10 (plain 0) ≡ register d.regs 10 → Means t n (at_caller zs) behind final (rest given final)

    returned : (n : ℕ) → Returns n → (zs : List Word) → AreRegisters zs → slice_index_or zs 2 (plain 0) ≡ plain (foot y + cost) → slice_index_or zs 10 (plain 0) ≡ register d.regs 10 → Means t n (at_caller zs) behind final done
    returned n go zs these is a0 = means_later t n t.look.step Executes (at_caller zs) behind final (rest given final) (on_to given final) (go zs these is a0)

    fewer_return : (n : ℕ) → Returns (suc n) → Returns n
    fewer_return n go zs these is a0 = fewer_moves t (suc n) n Executes (at_caller zs) behind final (rest given final) (omega arith) (go zs these is a0)

    fits : cost - 4 + 4 ≤ cost
    fits = let l = least in omega (arith, l)

    fours : (cost - 4) % 4 ≡ 0
    fours = let l = least in let e = even in omega (arith, l, e)

    module _ (pc : ℕ) (code : CodeAt t.image stands.value pc (epilogue cost)) (zs : List Word) (these : AreRegisters zs) (is : slice_index_or zs 2 (plain 0) ≡ plain (foot y)) (a0 : slice_index_or zs 10 (plain 0) ≡ register d.regs 10) where
      -- at the service that leaves the call, and behind it
      abbrev pub at_leave : Calls
      at_leave = with_registers (record { pc = pc; words = zs }) d

      abbrev behind_leave : Calls
      behind_leave = with_registers (record { pc = pc; words = zs }) left_with

      -- the frame is given back
      given_back : (n : ℕ) → Returns n → Means t n behind_leave behind final done
      given_back n go =
          let high = stands.frame.high in
          epilogue_returns t stands.value n behind_leave behind final done memory_behind done_leads cost (foot y) (plain back) code these is (omega (arith, high))
          (word_read inner (cost - 4) fours fits t d y b stands (plain back) near waits) near even_back
          (λ zs2 are2 sp2 a2. returned n go zs2 are2 sp2 (a2 ∙ a0))

      -- without a value, and with one
      at_fall : answer_of way ≡ Nothing → (n : ℕ) → Returns n → MeansAt t n (Serves 6) at_leave y u leaves
      at_fall none zero go = no_moves t (Serves 6) at_leave y u leaves
      at_fall none (suc n) go =
          leaving.leave_means t fun given n at_leave y u leaves done leaves_leads done_leads stands.took may left_is
          (λ h l m. ap (λ o. and_then o (λ a x. rest a x h (t.look.step + m))) (is_left t cost way u late h l)) (given_back n (fewer_return n go)) 6
          (λ after c x moved mv. (subst (λ q. LeavesWith 0 q at_leave y (Ok moved) c x) (sym none) mv.0, mv.1))
          (λ after c x stop mv. mv.0)
          (λ after c x pc2 cause mv. mv.0.0.0)

      at_value : (z : Value) → answer_of way ≡ Plain z → MeansIn y (register d.regs 10) z → (slice_index_or zs 6 (plain 0)).bits ≡ 0 → (n : ℕ) → Returns n → MeansAt t n (Serves 3) at_leave y u leaves
      at_value z gives word block zero go = no_moves t (Serves 3) at_leave y u leaves
      at_value z gives word block (suc n) go =
          leaving.leave_means t fun given n at_leave y u leaves done leaves_leads done_leads stands.took may left_is
          (λ h l m. ap (λ o. and_then o (λ a x. rest a x h (t.look.step + m))) (is_left t cost way u late h l)) (given_back n (fewer_return n go)) 3
          (λ after c x moved mv. (
            subst (λ q. LeavesWith 0 q at_leave y (Ok moved) c x) (ap Plain (one_value mv.0.0 z (subst (λ k. IsValueOf y k mv.0.0) a0 mv.0.1) word) ∙ sym gives) (subst (λ k. LeavesWith k (Plain mv.0.0) at_leave y (Ok moved) c x) block mv.0.2),
            mv.1,
          ))
          (λ after c x stop mv. mv.0)
          (λ after c x pc2 cause mv. subst (λ k. may_leave k y ≡ false) block mv.0.2.0.0)

    pub falls : answer_of way ≡ Nothing → CodeAt t.image stands.value d.regs.pc (service 6 ++ epilogue cost) → (n : ℕ) → Returns n → Means t n d y b leaves
    falls none code n go =
        unseen_means t n Executes d y b u leaves leaves after.lags (λ h l m. refl)
        (fall_asked t stands.value n d y u leaves memory_y stands.regs leaves_leads (has_front t.image stands.value d.regs.pc (service 6) (epilogue cost) code)
        (λ zs file. at_fall (d.regs.pc + 8) (has_back t.image stands.value d.regs.pc (service 6) (epilogue cost) code) zs (registers_of zs (with (register d.regs) 5 (plain 6)) file (index_zero d.regs.words stands.regs)) (file.each 2 (omega arith) ∙ stands.sp)
        (file.each 10 (omega arith)) none n go))

    abbrev asked : Words
    asked = with (with (register d.regs) 5 (plain 3)) 6 (plain 0)

    pub gives : (z : Value) → answer_of way ≡ Plain z → MeansIn y (register d.regs 10) z → CodeAt t.image stands.value d.regs.pc (block_service 3 0 ++ epilogue cost) → (n : ℕ) → Returns n → Means t n d y b leaves
    gives z is word code n go =
        unseen_means t n Executes d y b u leaves leaves after.lags (λ h l m. refl)
        (exit_asked t stands.value n d y u leaves memory_y stands.regs leaves_leads (has_front t.image stands.value d.regs.pc (block_service 3 0) (epilogue cost) code)
        (λ zs file. at_value (d.regs.pc + 12) (has_back t.image stands.value d.regs.pc (block_service 3 0) (epilogue cost) code) zs (registers_of zs asked file (index_zero d.regs.words stands.regs)) (file.each 2 (omega arith) ∙ stands.sp)
        (file.each 10 (omega arith)) z is word (ap (λ (x : Word). x.bits) (file.each 6 (omega arith))) n go))
