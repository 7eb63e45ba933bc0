-- `f()` and `f(x)`: a call by name whose last argument is in a0.
use Rattle.std.proofs.Common.{◌≡◌, ◌⊎◌, inl, inr, ℕ, zero, suc, ◌+◌, ◌-◌, ◌*◌, ◌%◌, ◌^◌, ◌<◌, ◌≤◌, List, [], ◌∷◌, ◌++◌, length, Some, refl, sym, ap, subst, ◌∙◌, arith, pos, length-append}
use Rattle.std.specs.Prelude.{slice_get}
use Rattle.sc_base.specs.declared.key.Key.{Key}
use Rattle.sc_base.specs.declared.memory.Word.{Word}
use Rattle.sc_types.specs.declared.ctype.CType.{CType}
use Rattle.sc_isa.specs.declared.instruction.Instr.TheVariants.{Jalr}
use Rattle.sc_core.specs.declared.expression.CoreExpr.{CoreExpr, out-CoreExpr}
use Rattle.sc_core.specs.declared.expression.CoreExpr.TheOpen.{CoreExpr-F}
use Rattle.sc_core.specs.Types.{type_of}
use Rattle.sc_emu.specs.Registers.{register}
use Rattle.sc_meaning.specs.Calls.{call, eval}
use Rattle.sc_meaning.specs.Expressions.{Answer, Plain, Place, args_then, called, conversion, expr_of, used, valued}
use Rattle.sc_meaning.specs.Outcomes.{Done, and_then}
use Rattle.sc_meaning.specs.Values.{Value, FunctionAt}
use Rattle.sc_meaning.specs.Versions.{History}
use Rattle.sc_meaning.specs.World.{World, tick}
use Rattle.sc_services.specs.Arguments.{argument_word}
use Rattle.sc_mixed.specs.declared.calls.Calls.{Calls}
use Rattle.sc_mixed_means.specs.Stages.{Stage}
use Rattle.sc_gen_code.specs.declared.style.Spot.{Spot}
use Rattle.sc_gen_code.specs.declared.symbolic.Symbolic.TheVariants.{Call, Plain as Word_of}
use Rattle.sc_gen_code.specs.declared.symbolic.Target.TheVariants as target
use Rattle.sc_gen_code.specs.Code.{Code, ra}
use Rattle.sc_gen_code.specs.Styles.{behind}
use Rattle.sc_compiled_frames.specs.Frames.{Fits, foot}
use Rattle.sc_compiled_expressions.specs.Parts.{End, Family, Meets}
use Rattle.sc_compiled_expressions.proofs.Joining.{behind_work, in_turn, same_part, weaker_end}
use Rattle.sc_compiled_expressions.specs.Standing.{Home, Keeps, MeansIn, Stands, slots}
use Rattle.sc_compiled_expressions.specs.Good.{Answered, GivesAnswer, GivesValue, IsDeeper, IsPlaced, Valued, code_of}
use Rattle.sc_compiled_expressions.proofs.Standing.{keeps_then, placed_back, placed_has, placed_front, placed_same, stands_worked}
use Rattle.sc_compiled_expressions.proofs.Nodes.{family_opens, less, opened}
use Rattle.sc_compiled_expressions.specs.Called.{CameBack, FitsType, HasArguments, ReturnsFrom}
use Rattle.sc_compiled_expressions.proofs.Calling.{called_leads, direct_call}

-- ---- arguments

no_arguments : (d : Calls) (y : World) → HasArguments [] d y
no_arguments d y = record { inside = refl; arguments = λ k x e. absurd (cc (e)) }

one_argument : (xv : Value) (d : Calls) (y : World) → MeansIn y (register d.regs 10) xv → HasArguments (xv ∷ []) d y
one_argument xv d y means = record { inside = refl; arguments = λ k x e. by_number k x e }
  where
    by_number : (k : ℕ) (x : Value) → slice_get (xv ∷ []) k ≡ Some x → (z : Word) × (argument_word k d.regs y ≡ Some z) × MeansIn y z x
    by_number zero x e = (register d.regs 10, refl, subst (λ z. MeansIn y (register d.regs 10) z) (same e) means)
      where
        same : Some xv ≡ Some x → xv ≡ x
        same e = cc (e)
    by_number (suc k) x e = absurd (cc (e))

-- ---- what waits less deep is kept too

pub keeps_nearer : (home : Home) (at : Spot) → at.low + 4 < 2 ^ 32 → (c : Calls) (w : World) (d : Calls) (y : World) → Keeps home (behind at) c w d y → Keeps home at c w d y
keeps_nearer home at small c w d y k = record {
  waits = k.waits;
  lower = k.lower;
  given = k.given;
  words = k.words;
  bytes = λ a wait bare. k.bytes a (wait.0, nearer a wait.1) bare;
  objects = k.objects;
  callers = k.callers;
  foot = k.foot;
} where
  nearer : (a : ℕ) → (a < foot w + at.low) ⊎ (foot w + home.room ≤ a) → (a < foot w + (at.low + 4) % 2 ^ 32) ⊎ (foot w + home.room ≤ a)
  nearer a (inl lt) = inl (more (foot w) at.low a small lt)
    where
      more : (sp low a : ℕ) → low + 4 < 2 ^ 32 → a < sp + low → a < sp + (low + 4) % 2 ^ 32
      more sp low a small lt = omega (arith, small, lt)
  nearer a (inr le) = inr le

module _ (home : Home) (most deep l lf lg : ℕ) (t tf tg : CType) (key : Key) (e f g : CoreExpr) (at : Spot) (is_f : out-CoreExpr f ≡ CoreExpr-F.Convert lf tf g) (is_g : out-CoreExpr g ≡ CoreExpr-F.Function lg tg key)
    (decays : (w : World) → conversion (type_of g) tf (Place (FunctionAt key)) w ≡ Done (Plain (FunctionAt key)) w) (calm : at.depth ≡ 0) (fits : Fits (slots home) home.cost) (calls : ReturnsFrom home.from most key)
    (typed : FitsType home (type_of f) key) where
  abbrev pub call_words : Code
  call_words = Call (target.Named key) ∷ Word_of (Jalr ra ra (pos 0)) ∷ []

  module _ (bound : ℕ → ℕ) (dp : IsDeeper (suc (suc (suc deep))) bound) (s : Stage) (c : Calls) (w v : World) (st : Stands home s c w v) where
    abbrev less_bound : ℕ → ℕ
    less_bound m = bound m - 1

    -- the function has been named
    abbrev ready : World
    ready = tick (tick (tick v))

    pub stands_ready : Stands home s c w ready
    stands_ready = stands_worked home s c w (tick (tick v)) 1 (stands_worked home s c w (tick v) 1 (stands_worked home s c w v 1 st))

    pub deep_less : IsDeeper (suc (suc deep)) (λ m. bound m - 1)
    deep_less = less (suc (suc deep)) bound dp

    deep_least : IsDeeper (suc deep) (λ m. bound m - 1 - 1)
    deep_least = less (suc deep) (λ m. bound m - 1) deep_less

    pub name_is : (h : History) (m : ℕ) → valued (eval (bound m - 1) h) home.env f (tick v) ≡ Done (FunctionAt key) ready
    name_is h m =
        ap (λ o. and_then o used)
        (family_opens (suc deep) (λ m. bound m - 1) deep_less home.env f (CoreExpr-F.Convert lf tf g) is_f (tick v) h m
        ∙ ap (λ o. and_then o (conversion (type_of g) tf)) (family_opens deep (λ m. bound m - 1 - 1) deep_least home.env g (CoreExpr-F.Function lg tg key) is_g (tick v) h m)
        ∙ decays ready)

    -- it is called, and the part ends where it has come back
    pub called_here : (E : End Answer) (xs : List Value) (q : Calls) (y u : World) (t2 : Stage) → HasArguments xs q y → Stands home t2 q y u → IsPlaced home q.regs.pc call_words
        → ((r : Stage) (a : Answer) (x : World) (d : Calls) (z : World) → CameBack home at (q.regs.pc + 8) q y r a x d z → E r a x d z)
        → Meets (suc most) t2 E q y u (λ h m. called h (call (bound m - 1) h) home.env.text (type_of f) (FunctionAt key) xs u)
    called_here E xs q y u t2 args stands placed ends =
        let number = stands.targets.numbered key (placed_has home q.regs.pc (Call (target.Named key)) (Word_of (Jalr ra ra (pos 0)) ∷ []) placed) in
        weaker_end (suc most) t2 (CameBack home at (q.regs.pc + 8) q y) E q y u (λ h m. called h (call (bound m - 1) h) home.env.text (type_of f) (FunctionAt key) xs u) ends
        (direct_call home most (suc (suc deep)) key xs (type_of f) at calm fits calls (λ m. bound m - 1) deep_less t2 q y u args stands placed number.0 number.1 (typed t2 q y u stands))

  -- f()
  pub call_none : out-CoreExpr e ≡ CoreExpr-F.Call l t f [] → code_of home e at ≡ Call (target.Named key) ∷ Word_of (Jalr ra ra (pos 0)) ∷ [] → GivesAnswer home (suc most) (suc (suc (suc deep))) e at
  call_none is code = λ bound dp s c w v pl st.
      let E : End Answer = Answered home at (c.regs.pc + 4 * length (code_of home e at)) c w in
      let q : Family Answer = λ h m. called h (call (bound m - 1) h) home.env.text (type_of f) (FunctionAt key) [] (ready bound dp s c w v st) in
      let long = ap length code in
      opened home (suc most) (suc (suc deep)) e (CoreExpr-F.Call l t f []) is s E bound dp c w v refl
      (same_part (suc most) s E c w (tick v) (λ h m. expr_of h (eval (bound m - 1) h) (call (bound m - 1) h) home.env (CoreExpr-F.Call l t f []) (tick v)) q
      (λ h m. ap (λ o. and_then o (λ fv u. args_then (eval (bound m - 1) h) home.env [] [] u (called h (call (bound m - 1) h) home.env.text (type_of f) fv))) (name_is bound dp s c w v st h m))
      (behind_work (suc most) s E c 1 w (tick v) q (behind_work (suc most) s E c 1 w (tick (tick v)) q
      (called_here bound dp s c w v st E [] c w (ready bound dp s c w v st) s (no_arguments c w) (stands_ready bound dp s c w v st)
      (placed_same home c.regs.pc c.regs.pc (code_of home e at) call_words refl code pl)
      (λ r a x d z p. let back = p.there in record { there = omega (arith, long, back); word = p.word; stands = p.stands; keeps = p.keeps })))))

  -- f(x)
  pub call_one : (x : CoreExpr) → out-CoreExpr e ≡ CoreExpr-F.Call l t f (x ∷ []) → code_of home e at ≡ code_of home x (behind at) ++ (Call (target.Named key) ∷ Word_of (Jalr ra ra (pos 0)) ∷ []) → at.low + 4 < 2 ^ 32
      → GivesValue home (suc most) (suc (suc deep)) x (behind at) → GivesAnswer home (suc most) (suc (suc (suc deep))) e at
  call_one x is code small good = λ bound dp s c w v pl st.
      let cx : Code = code_of home x (behind at) in
      let E : End Answer = Answered home at (c.regs.pc + 4 * length (code_of home e at)) c w in
      let now : World = ready bound dp s c w v st in
      let go : Value → World → Family Answer = λ xv u h m. called h (call (bound m - 1) h) home.env.text (type_of f) (FunctionAt key) (xv ∷ []) u in
      let q : Family Answer = λ h m. and_then (valued (eval (bound m - 1) h) home.env x now) (λ xv u. called h (call (bound m - 1) h) home.env.text (type_of f) (FunctionAt key) (xv ∷ []) u) in
      let all = placed_same home c.regs.pc c.regs.pc (code_of home e at) (cx ++ call_words) refl code pl in
      let long = ap length code in
      let both = length-append cx call_words in
      opened home (suc most) (suc (suc deep)) e (CoreExpr-F.Call l t f (x ∷ [])) is s E bound dp c w v refl
      (same_part (suc most) s E c w (tick v) (λ h m. expr_of h (eval (bound m - 1) h) (call (bound m - 1) h) home.env (CoreExpr-F.Call l t f (x ∷ [])) (tick v)) q
      (λ h m. ap (λ o. and_then o (λ fv u. args_then (eval (bound m - 1) h) home.env (x ∷ []) [] u (called h (call (bound m - 1) h) home.env.text (type_of f) fv))) (name_is bound dp s c w v st h m))
      (behind_work (suc most) s E c 1 w (tick v) q (behind_work (suc most) s E c 1 w (tick (tick v)) q
      (in_turn (suc most) s (Valued home (behind at) (c.regs.pc + 4 * length cx) c w) E c w now (λ h m. valued (eval (bound m - 1) h) home.env x now) go
      (good (λ m. bound m - 1) (deep_less bound dp s c w v st) s c w now (placed_front home c.regs.pc cx call_words all) (stands_ready bound dp s c w v st))
      (λ xv u h m. called_leads (bound m - 1) h home.env.text (type_of f) key (xv ∷ []) u)
      (λ t2 xv u d y p.
      let here = p.there in
      called_here bound dp s c w v st E (xv ∷ []) d y u t2 (one_argument xv d y p.word) p.stands
      (placed_same home (c.regs.pc + 4 * length cx) d.regs.pc call_words call_words (sym here) refl (placed_back home c.regs.pc cx call_words all))
      (λ r a z k o p2.
      let back = p2.there in
      record { there = omega (arith, long, both, here, back); word = p2.word; stands = p2.stands; keeps = keeps_then home at c d k w y o (keeps_nearer home at small c w d y p.keeps) p2.keeps }))))))

pub call_without : (home : Home) (most deep l lf lg : ℕ) (t tf tg : CType) (key : Key) (e f g : CoreExpr) (at : Spot) → out-CoreExpr e ≡ CoreExpr-F.Call l t f [] → out-CoreExpr f ≡ CoreExpr-F.Convert lf tf g → out-CoreExpr g ≡ CoreExpr-F.Function lg tg key
    → ((w : World) → conversion (type_of g) tf (Place (FunctionAt key)) w ≡ Done (Plain (FunctionAt key)) w) → at.depth ≡ 0 → Fits (slots home) home.cost → ReturnsFrom home.from most key → FitsType home (type_of f) key
    → code_of home e at ≡ Call (target.Named key) ∷ Word_of (Jalr ra ra (pos 0)) ∷ [] → GivesAnswer home (suc most) (suc (suc (suc deep))) e at
call_without home most deep l lf lg t tf tg key e f g at is is_f is_g decays calm fits calls typed code = call_none home most deep l lf lg t tf tg key e f g at is_f is_g decays calm fits calls typed is code

pub call_with_one : (home : Home) (most deep l lf lg : ℕ) (t tf tg : CType) (key : Key) (e f g x : CoreExpr) (at : Spot) → out-CoreExpr e ≡ CoreExpr-F.Call l t f (x ∷ []) → out-CoreExpr f ≡ CoreExpr-F.Convert lf tf g → out-CoreExpr g ≡ CoreExpr-F.Function lg tg key
    → ((w : World) → conversion (type_of g) tf (Place (FunctionAt key)) w ≡ Done (Plain (FunctionAt key)) w) → at.depth ≡ 0 → at.low + 4 < 2 ^ 32 → Fits (slots home) home.cost → ReturnsFrom home.from most key → FitsType home (type_of f) key
    → code_of home e at ≡ code_of home x (behind at) ++ (Call (target.Named key) ∷ Word_of (Jalr ra ra (pos 0)) ∷ []) → GivesValue home (suc most) (suc (suc deep)) x (behind at) → GivesAnswer home (suc most) (suc (suc (suc deep))) e at
call_with_one home most deep l lf lg t tf tg key e f g x at is is_f is_g decays calm small fits calls typed code good = call_one home most deep l lf lg t tf tg key e f g at is_f is_g decays calm fits calls typed x is code small good
