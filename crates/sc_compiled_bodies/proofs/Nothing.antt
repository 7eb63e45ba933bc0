-- A function without a statement is a procedure whose body's code, no word, does what the body means: nothing is seen of it.
use Rattle.std.proofs.Common.{◌≡◌, inl, inr, ℕ, zero, suc, ◌+◌, ◌-◌, ◌*◌, ◌<◌, ◌≤◌, ◌&&◌, ◌||◌, not, Bool, true, false, if◌then◌else◌, nat_le, nat_lt, List, [], ◌∷◌, ◌++◌, length, Some, None, pos, neg_ℤ, arith, refl, sym, ap, ◌∙◌, subst}
use Rattle.std.specs.Int.{w32, cast_signed}
use Rattle.sc_base.specs.declared.key.Key.{Key}
use Rattle.sc_core.specs.declared.module.Auto.{Auto}
use Rattle.sc_core.specs.declared.module.Fun.{Fun}
use Rattle.sc_core.specs.declared.statement.CoreStmt.{CoreStmt, out-CoreStmt}
use Rattle.sc_core.specs.declared.statement.CoreStmt.TheOpen.{CoreStmt-F}
use Rattle.sc_isa_image.specs.Stubs.{lower_of, upper_of}
use Rattle.sc_meaning.specs.Calls.{eval, exec, resume, turn}
use Rattle.sc_meaning.specs.Expressions.{Env}
use Rattle.sc_meaning.specs.Outcomes.{Done, and_then}
use Rattle.sc_meaning.specs.Statements.{Normal, block_with, born_autos, stmt_begun, stmt_of}
use Rattle.sc_meaning.specs.Versions.{History, callee_of}
use Rattle.sc_meaning.specs.World.{Begin, Born, CloseBlock, End, OpenBlock, World, pass}
use Rattle.sc_like.specs.Unseen.{TellsForms}
use Rattle.sc_like.proofs.Hiding.{tells_on}
use Rattle.sc_services.specs.Frames.{is_in_code}
use Rattle.sc_mixed.specs.Bridge.{is_code}
use Rattle.sc_mixed.specs.declared.calls.Calls.{Calls}
use Rattle.sc_mixed.specs.declared.calls.Next.TheVariants.{Executes}
use Rattle.sc_mixed_means.specs.Owed.{CompiledTextsAreRight, is_calling_out}
use Rattle.sc_mixed_means.specs.Stages.{Build, Look, Stage, texts_of}
use Rattle.sc_isa.specs.declared.instruction.Instr.TheVariants.{Jalr, Lui}
use Rattle.sc_isa.specs.declared.instruction.LoadOp.TheVariants.{Lw}
use Rattle.sc_isa.specs.declared.instruction.RegOp.TheVariants as reg
use Rattle.sc_gen_code.specs.declared.symbolic.Access.TheVariants as access
use Rattle.sc_gen_code.specs.declared.symbolic.Target.TheVariants as target
use Rattle.sc_gen_code.specs.Code.{Code, accessed, addi, apply, li, near, service}
use Rattle.sc_gen_code.specs.Styles.{enters, first_spot, plain_style}
use Rattle.sc_gen_code.specs.declared.symbolic.Symbolic.{Symbolic}
use Rattle.sc_gen_code.specs.declared.symbolic.Symbolic.TheVariants.{Call, Lower, Plain, Upper}
use Rattle.sc_gen_body.specs.Frames.{Frame, frame}
use Rattle.sc_gen_body.specs.Functions.{before_body, first_temporary, frame_taken}
use Rattle.sc_gen_body.specs.Jumps.{nowhere}
use Rattle.sc_gen_body.specs.Statements.{epilogue, statement_code}
use Rattle.sc_compiled_expressions.specs.Parts.{Lags, followed}
use Rattle.sc_compiled_expressions.specs.Standing.{HasWord, Home, Stands}
use Rattle.sc_compiled_expressions.proofs.Moving.{lags_on, unseen_lags, unseen_means}
use Rattle.sc_compiled_expressions.proofs.Goes.{first_of}
use Rattle.sc_compiled_expressions.proofs.Standing.{out_more, stands_lagged}
use Rattle.sc_compiled_bodies.specs.Empty.{IsEmpty, no_targets}
use Rattle.sc_compiled_bodies.specs.Good.{GivesWay, frame_of}
use Rattle.sc_compiled_bodies.specs.Procedures.{GivesBack, IsProcedure, body_at, body_code, home_of, last_stage, text_of}
use Rattle.sc_compiled_bodies.proofs.Leaving.{stays_here}
use Rattle.sc_compiled_bodies.proofs.Loops.{exec_opens}
use Rattle.sc_compiled_bodies.proofs.Texts.{body_none, entry, place_kept, text_is, whole}
use Rattle.sc_compiled_bodies.proofs.Unentered.{closed_code, opened_code, unseen}
use Rattle.sc_compiled_bodies.proofs.Whole.{procedures_right}

-- ---- its text reaches nothing

-- instructions alone
abbrev ArePlain : Code → Type 0
ArePlain [] = Unit {0}
ArePlain (Plain i ∷ code) = ArePlain code
ArePlain (Upper t ∷ code) = ⊥
ArePlain (Lower what t ∷ code) = ⊥
ArePlain (Call t ∷ code) = ⊥

-- a word that is none
abbrev IsOther : Symbolic → Type 0
IsOther (Plain i) = ⊥
IsOther (Upper t) = Unit {0}
IsOther (Lower what t) = Unit {0}
IsOther (Call t) = Unit {0}

plain_more : (a b : Code) → ArePlain a → ArePlain b → ArePlain (a ++ b)
plain_more [] b p q = q
plain_more (Plain i ∷ a) b p q = plain_more a b p q
plain_more (Upper t ∷ a) b p q = absurd p
plain_more (Lower what t ∷ a) b p q = absurd p
plain_more (Call t ∷ a) b p q = absurd p

no_other : (code : Code) (x : Symbolic) → ArePlain code → IsOther x → HasWord code x → ⊥
no_other [] x p o h = absurd h
no_other (Plain i ∷ code) x p o (inl e) = subst IsOther (sym e) o
no_other (Plain i ∷ code) x p o (inr h) = no_other code x p o h
no_other (Upper t ∷ code) x p o h = absurd p
no_other (Lower what t ∷ code) x p o h = absurd p
no_other (Call t ∷ code) x p o h = absurd p

either_plain : (b : Bool) (x y : Code) → ArePlain x → ArePlain y → ArePlain (if b then x else y)
either_plain true x y p q = p
either_plain false x y p q = q

li_plain : (cost : ℕ) → ArePlain (li 5 cost)
li_plain cost = either_plain (nat_lt cost 2048 || nat_le 4294965248 cost) (addi 5 0 (cast_signed w32 cost) ∷ []) (Plain (Lui 5 (upper_of cost)) ∷ addi 5 5 (lower_of cost) ∷ []) tt tt

frame_plain : (cost : ℕ) → ArePlain (frame_taken cost)
frame_plain cost = either_plain (nat_le cost 2048) (addi 2 2 (neg_ℤ (pos cost)) ∷ []) (li 5 cost ++ apply reg.Sub 2 2 5 ∷ []) tt (plain_more (li 5 cost) (apply reg.Sub 2 2 5 ∷ []) (li_plain cost) tt)

near_plain : (offset : ℕ) → ArePlain (near offset (access.Load Lw 1))
near_plain offset =
    either_plain (nat_lt offset 2048) (Plain (accessed (access.Load Lw 1) 2 (pos offset)) ∷ [])
    (Plain (Lui 5 (upper_of offset)) ∷ apply reg.Add 5 5 2 ∷ Plain (accessed (access.Load Lw 1) 5 (lower_of offset)) ∷ []) tt tt

given_plain : (cost : ℕ) → ArePlain (if nat_lt cost 2048 then addi 2 2 (pos cost) ∷ [] else li 5 cost ++ apply reg.Add 2 2 5 ∷ [])
given_plain cost = either_plain (nat_lt cost 2048) (addi 2 2 (pos cost) ∷ []) (li 5 cost ++ apply reg.Add 2 2 5 ∷ []) tt (plain_more (li 5 cost) (apply reg.Add 2 2 5 ∷ []) (li_plain cost) tt)

epilogue_plain : (cost : ℕ) → ArePlain (epilogue cost)
epilogue_plain cost =
    let given : Code = if nat_lt cost 2048 then addi 2 2 (pos cost) ∷ [] else li 5 cost ++ apply reg.Add 2 2 5 ∷ [] in
    let last : Code = Plain (Jalr 0 1 (pos 0)) ∷ [] in
    plain_more (near (cost - 4) (access.Load Lw 1)) (given ++ last) (near_plain (cost - 4)) (plain_more given last (given_plain cost) tt)

whole_plain : (cost : ℕ) → ArePlain (whole cost [])
whole_plain cost =
    let asked : Code = service 6 ++ epilogue cost in
    plain_more entry (frame_taken cost ++ (place_kept cost ++ asked)) tt
    (plain_more (frame_taken cost) (place_kept cost ++ asked) (frame_plain cost) (plain_more (place_kept cost) asked tt (plain_more (service 6) (epilogue cost) tt (epilogue_plain cost))))

-- ---- its text

module _ (f : Fun) (line block : ℕ) (body : out-CoreStmt f.body ≡ CoreStmt-F.Block line block [] []) (plain : enters plain_style f.blocks block ≡ false) where
  abbrev fr : Frame
  fr = frame plain_style f (first_spot (first_temporary f))

  pub no_word : statement_code fr f.body (body_at f) nowhere ≡ []
  no_word = body_none f line block body fr (ap (λ b. if b then Some block else None) plain) (body_at f)

  pub nothing_text : f.cost < 2048 → text_of f ≡ whole f.cost []
  nothing_text most = ap (λ c. before_body plain_style f ++ (c ++ (service 6 ++ epilogue f.cost))) no_word ∙ text_is f most []

-- ---- its body

never : (h : History) (env : Env) (st : CoreStmt) (w : World) → GivesBack (exec 0 h env st w)
unfolding exec
never h env st w = tt

module _ (from : Stage) (key : Key) (e : IsEmpty (texts_of from.past) from.image key) (steps : 2 ≤ from.look.step) where
  abbrev home : Home
  home = home_of from e.text e.fun [] e.place.start

  abbrev inner : Born
  inner = record { block = e.block; ids = [] }

  body_is : body_code home e.fun ≡ []
  body_is = body_none e.fun e.line e.block e.body (frame_of home) refl (body_at e.fun)

  body_done : (k : ℕ) (h : History) (v : World) → exec (suc k) h home.env e.fun.body v ≡ Done Normal (pass End (pass CloseBlock (pass (OpenBlock inner) (pass Begin v))))
  body_done k h v =
      exec_opens k h home.env e.fun.body v
      ∙ ap (λ y. stmt_of h (eval k h) (exec k h) (turn k h) (resume k h) home.env e.fun.body y (stmt_begun y v)) e.body
      ∙ ap (λ (xs : List Auto). and_then (born_autos xs [] (pass Begin v)) (block_with (exec k h) (resume k h) home.env e.fun.body e.block [])) e.objects

  one_more_deep : (m k : ℕ) → 1 + m ≤ k → k ≡ suc (k - 1)
  one_more_deep m k le = omega (arith, le)

  module _ (s : Stage) (c : Calls) (w v : World) (st : Stands home s c w v) where
    abbrev a : World
    a = pass Begin v

    abbrev o : World
    o = pass (OpenBlock inner) a

    abbrev d : World
    d = pass CloseBlock o

    abbrev ended : World
    ended = pass End d

    code : is_in_code v.frames ≡ true
    code = first_of (is_in_code v.frames) (not (is_calling_out v)) st.own

    forms_a : TellsForms a
    forms_a = tells_on Begin v st.forms

    forms_o : TellsForms o
    forms_o = tells_on (OpenBlock inner) a forms_a

    forms_d : TellsForms d
    forms_d = tells_on CloseBlock o forms_o

    lag : Lags v ended
    lag =
        lags_on v a ended (unseen_lags Begin v st.forms refl)
        (lags_on a o ended (unseen_lags (OpenBlock inner) a forms_a (unseen v.frames code))
        (lags_on o d ended (unseen_lags CloseBlock o forms_o (unseen o.frames (opened_code inner v.frames ∙ code))) (unseen_lags End d forms_d refl)))

    own : (is_in_code ended.frames && not (is_calling_out ended)) ≡ true
    own =
        ap (λ t. t && not (is_calling_out ended)) (closed_code o.frames ∙ opened_code inner v.frames)
        ∙ ap (λ b. is_in_code v.frames && not b) (out_more d.trail End false ∙ out_more o.trail CloseBlock false ∙ out_more a.trail (OpenBlock inner) false ∙ out_more v.trail Begin false)
        ∙ st.own

    stands_behind : Stands home s c w ended
    stands_behind = stands_lagged home s c w v ended lag.alike (omega arith) (tells_on End d forms_d) own st

  behind_none : (base at : ℕ) (code : Code) → code ≡ [] → base + 4 * at ≡ base + 4 * (at + length code)
  behind_none base at code is = let n : length code ≡ 0 = ap length is in omega (arith, n)

  body_gives : (most : ℕ) → GivesWay home most 1 e.fun.body (body_at e.fun) nowhere
  body_gives most = λ bound dp s c w v there pl st. λ rest leads n le after.
      unseen_means s n Executes c w v (ended s c w v st) (followed (λ h m. exec (bound m) h home.env e.fun.body v) rest) (rest Normal (ended s c w v st)) (lag s c w v st)
      (λ h l m. ap (λ q. and_then q (λ x u. rest x u h m)) (ap (λ k. exec k h home.env e.fun.body v) (one_more_deep m (bound m) (dp m)) ∙ body_done (bound m - 1) h v))
      (after s Normal (ended s c w v st) (ended s c w v st) c w
      (record { here = refl; there = there ∙ behind_none home.base (body_at e.fun) (body_code home e.fun) body_is; stands = stands_behind s c w v st; stays = stays_here home c w }))

  body_ends : (k : ℕ) (h : History) (w : World) → GivesBack (exec k h home.env e.fun.body w)
  body_ends zero h w = never h home.env e.fun.body w
  body_ends (suc k) h w = subst GivesBack (sym (body_done k h w)) refl

  text_plain : ArePlain (text_of e.fun)
  text_plain = subst ArePlain (sym (nothing_text e.fun e.line e.block e.body e.unentered e.most)) (whole_plain e.fun.cost)

  pub procedure : IsProcedure from key
  procedure = record {
    text = e.text;
    fun = e.fun;
    place = e.place;
    number = e.number;
    autos = [];
    value = no_targets;
    deep = 1;
    found = e.found;
    compiled = e.compiled;
    parameters = e.parameters;
    none = λ b. refl;
    least = e.least;
    most = e.most;
    even = e.even;
    keyed = e.keyed;
    slots = e.slots;
    costs = e.costs;
    valued = e.valued;
    stub = e.stub;
    target = e.target;
    code = e.code;
    targets = λ lower w fit. record {
      static = λ k o has is. absurd (no_other (text_of e.fun) (Upper (target.Named k)) text_plain tt has);
      literal = λ i bytes o has is f. absurd (no_other (text_of e.fun) (Upper (target.Literal i)) text_plain tt has);
      function = λ n k has is. absurd (no_other (text_of e.fun) (Call (target.Named k)) text_plain tt has);
      numbered = λ k has. absurd (no_other (text_of e.fun) (Call (target.Named k)) text_plain tt has);
    };
    callees = λ k has. absurd (no_other (text_of e.fun) (Call (target.Named k)) text_plain tt has);
    holds = e.holds;
    near = e.near;
    short = let n : length (body_code home e.fun) ≡ 0 = ap length body_is in omega (arith, n);
    part = ap (λ c. before_body plain_style e.fun ++ (c ++ (service 6 ++ epilogue e.fun.cost))) (no_word e.fun e.line e.block e.body e.unentered ∙ sym body_is);
    steps = steps;
    body = λ most calls. body_gives (suc most);
    ends = body_ends;
  }

pub empty_texts : (look : Look) (b : Build) → 2 ≤ look.step → ((key : Key) → is_code (callee_of b.texts key) ≡ true → IsEmpty b.texts b.image key) → CompiledTextsAreRight look (b ∷ [])
empty_texts look b steps all = procedures_right look b (λ p present key code. procedure (last_stage look b p) key (subst (λ ts. IsEmpty ts b.image key) (sym present) (all key code)) steps)
