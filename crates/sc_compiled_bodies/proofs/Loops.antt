-- `while`: the code of its test and of its body, turn by turn. A turn makes a move at least, so that all turns of a run are reached by induction on its moves.
use Rattle.std.proofs.Common.{◌≡◌, ℕ, zero, suc, ◌+◌, ◌-◌, ◌*◌, ◌^◌, ◌<◌, ◌≤◌, Bool, true, false, [], ◌∷◌, ◌++◌, length, Option, None, refl, sym, ap, subst, ◌∙◌, arith, length-append}
use Rattle.std.proofs.lemmas.Bool.Decides.{nat_tests}
use Rattle.std.specs.Prelude.{pos, if◌then◌else◌, nat_lt}
use Rattle.sc_isa.specs.declared.instruction.Instr.TheVariants.{Jal}
use Rattle.sc_core.specs.declared.expression.CoreExpr.{CoreExpr}
use Rattle.sc_core.specs.declared.statement.CoreStmt.{CoreStmt, out-CoreStmt}
use Rattle.sc_core.specs.declared.statement.CoreStmt.TheOpen.{CoreStmt-F}
use Rattle.sc_meaning.specs.Calls.{eval, exec, resume, turn}
use Rattle.sc_meaning.specs.Expressions.{Answer, Env, either}
use Rattle.sc_meaning.specs.Laws.{Leads}
use Rattle.sc_meaning.specs.Outcomes.{Done, Outcome, Over, and_then, world_after}
use Rattle.sc_meaning.specs.Statements.{Way, Normal, Broke, Continued, Jumped, Returned, after_turn, condition, ended, stmt_begun, stmt_of, turn_of}
use Rattle.sc_meaning.specs.Versions.{History}
use Rattle.sc_meaning.specs.World.{World, Begin, End as EndOfStatement, pass}
use Rattle.sc_meaning.proofs.Growing.{exec_leads, leads_then, turn_leads}
use Rattle.sc_meaning.proofs.Steps.{here, on, one_more}
use Rattle.sc_mixed.specs.Bridge.{with_registers}
use Rattle.sc_mixed.specs.declared.calls.Calls.{Calls}
use Rattle.sc_mixed.specs.declared.calls.Next.TheVariants.{Executes}
use Rattle.sc_mixed_means.specs.Stages.{Live, Stage}
use Rattle.sc_gen_code.specs.Code.{Code, over}
use Rattle.sc_gen_body.specs.Jumps.{Around, in_loop, labelled}
use Rattle.sc_gen_body.specs.Statements.{Inner, block_layer, body_of, entry_by, whole_by}
use Rattle.sc_gen_body.proofs.Arms.{layer, shape}
use Rattle.sc_compiled_expressions.specs.Instructions.{InstrAt, goes_to}
use Rattle.sc_compiled_expressions.specs.Parts.{Family, Leading, Means, followed, looking}
use Rattle.sc_compiled_expressions.proofs.Joining.{leading_then}
use Rattle.sc_compiled_expressions.proofs.Moving.{fewer_moves, means_later, means_same, no_moves, unseen_means}
use Rattle.sc_compiled_expressions.proofs.Straight.{over_means}
use Rattle.sc_compiled_expressions.specs.Standing.{Home, Stands}
use Rattle.sc_compiled_expressions.specs.Good.{IsDeeper, IsPlaced}
use Rattle.sc_compiled_expressions.proofs.Standing.{first_at, memory_of, placed_back, placed_front, placed_same, stands_at}
use Rattle.sc_compiled_bodies.specs.Exits.{Ended, Exit, Runs, Stays}
use Rattle.sc_compiled_bodies.specs.Good.{CanJump, GivesWay, IsFrame, TurnsBack, back_code, code_of_statement, frame_of}
use Rattle.sc_compiled_bodies.proofs.Leaving.{ended_leads, jumps_ended, returning_ended, stays_here, stays_kept, stays_then}
use Rattle.sc_compiled_bodies.proofs.Unseen.{begin_lags, end_lags, line_lags, line_passes, lined, stands_begun, stands_ended, stands_lined}
use Rattle.sc_compiled_expressions.proofs.Nodes.{one_less, some_deep}

-- ---- one layer of the meaning

pub exec_opens : (k : ℕ) (h : History) (env : Env) (st : CoreStmt) (v : World) → exec (suc k) h env st v ≡ stmt_of h (eval k h) (exec k h) (turn k h) (resume k h) env st (out-CoreStmt st) (stmt_begun (out-CoreStmt st) v)
unfolding exec
exec_opens k h env st v = refl

turn_opens : (k : ℕ) (h : History) (env : Env) (st : CoreStmt) (v : World) → turn (suc k) h env st v ≡ turn_of h (eval k h) (exec k h) (turn k h) env st (out-CoreStmt st) v
unfolding turn
turn_opens k h env st v = refl

after_turn_leads : (way : Way) (again : World → Outcome Way) (u : World) → ((x : World) → Leads x (world_after (again x))) → Leads u (world_after (after_turn way again u))
after_turn_leads Normal again u l = l u
after_turn_leads Continued again u l = l u
after_turn_leads Broke again u l = one_more EndOfStatement u
after_turn_leads (Jumped k) again u l = one_more EndOfStatement u
after_turn_leads (Returned a) again u l = one_more EndOfStatement u

-- ---- numbers

one_later : (d r k b : ℕ) → 1 ≤ r → suc d + (r + k) ≤ b → suc d + k ≤ b - 1
one_later d r k b some le = omega (arith, some, le)

less_again : (d k b : ℕ) → suc d + k ≤ b → d + k ≤ b
less_again d k b le = omega (arith, le)

abbrev pub now_deeper : ℕ → (ℕ → ℕ) → ℕ → ℕ
now_deeper k bound m = bound (k + m) - 1

next_turn : (k deep : ℕ) (bound : ℕ → ℕ) → 1 ≤ k → IsDeeper (suc deep) bound → IsDeeper (suc deep) (now_deeper k bound)
next_turn k deep bound some d = λ m. one_later deep k m (bound (k + m)) some (d (k + m))

-- ---- the code

pub plain_code : (home : Home) (st : CoreStmt) (y : CoreStmt-F CoreStmt) (at : ℕ) (around : Around) → out-CoreStmt st ≡ y → block_layer y ≡ None → code_of_statement home st at around ≡ (layer (frame_of home) y at around).code
plain_code home st y at around is none =
    ap (λ (b : Option ℕ). whole_by (entry_by (frame_of home) b) (body_of (frame_of home) st) st at around) (ap block_layer is ∙ none) ∙ ap (λ (i : Inner). i.code) (sym (shape (frame_of home) st y is at around))

module _ (home : Home) (most deep : ℕ) (frame : IsFrame home) (st body : CoreStmt) (e : CoreExpr) (l : ℕ) (is : out-CoreStmt st ≡ CoreStmt-F.While l e body) (at : ℕ) (around : Around) where
  abbrev cb : Code
  cb = code_of_statement home body (at + 3) (in_loop around (at + 1))

  abbrev none : Code
  none = []

  abbrev from : ℕ
  from = at + 3 + length cb + length none

  abbrev ct : Code
  ct = back_code home e (at + 3) from

  abbrev to_test : ℕ
  to_test = 2 + (length cb + length none)

  abbrev to_end : ℕ
  to_end = 1 + length cb + length none + length ct

  abbrev words : Code
  words = over to_test ∷ over to_end ∷ over (length cb) ∷ []

  abbrev whole : Code
  whole = code_of_statement home st at around

  abbrev end : ℕ
  end = at + length whole

  code : whole ≡ words ++ (cb ++ ct)
  code = plain_code home st (CoreStmt-F.While l e body) at around is refl

  long : length whole ≡ 3 + (length cb + length ct)
  long = let a = ap length code in let b = length-append words (cb ++ ct) in let d = length-append cb ct in omega (arith, a, b, d)

  module _ (good_test : TurnsBack home most deep e (at + 3) from) (good_body : GivesWay home most deep body (at + 3) (in_loop around (at + 1)))
      (can_break : CanJump home most (in_loop around (at + 1)).on_break) (can_continue : CanJump home most (in_loop around (at + 1)).on_continue)
      (pc : ℕ) (here : pc ≡ home.base + 4 * at) (pl : IsPlaced home pc whole) (c0 : Calls) (w0 : World) where
    -- where the parts stand
    all : IsPlaced home pc (words ++ (cb ++ ct))
    all = placed_same home pc pc whole (words ++ (cb ++ ct)) refl code pl

    behind_words : IsPlaced home (pc + 4 * length words) (cb ++ ct)
    behind_words = placed_back home pc words (cb ++ ct) all

    body_there : IsPlaced home (pc + 4 * length words) cb
    body_there = placed_front home (pc + 4 * length words) cb ct behind_words

    test_there : IsPlaced home (pc + 4 * length words + 4 * length cb) ct
    test_there = placed_back home (pc + 4 * length words) cb ct behind_words

    second_there : IsPlaced home (pc + 4 * length (over to_test ∷ [])) (over to_end ∷ (over (length cb) ∷ (cb ++ ct)))
    second_there = placed_back home pc (over to_test ∷ []) (over to_end ∷ (over (length cb) ∷ (cb ++ ct))) all

    third_there : IsPlaced home (pc + 4 * length (over to_test ∷ []) + 4 * length (over to_end ∷ [])) (over (length cb) ∷ (cb ++ ct))
    third_there = placed_back home (pc + 4 * length (over to_test ∷ [])) (over to_end ∷ []) (over (length cb) ∷ (cb ++ ct)) second_there

    -- a jump over words
    jumps : (n k : ℕ) (s : Stage) (c : Calls) (w v : World) (r : Family Answer) (qc : ℕ) (rest : Code) → Stands home s c w v → c.regs.pc ≡ qc → IsPlaced home qc (over k ∷ rest) → k < 262143 → qc + (4 * k + 4) < 2 ^ 32 → Leading v r
        → Means s n (with_registers (goes_to (c.regs.pc + (4 * k + 4)) c.regs) c) w v r → Means s n c w v r
    jumps n k s c w v r qc rest stands at_it placed small near leads p =
        let is_small : nat_lt k 262143 ≡ true = grind (arith, nat_tests, small) in
        over_means s stands.value n k c w v r (memory_of home s c w v stands)
        (subst (λ m. InstrAt s.image m (Jal 0 (if nat_lt k 262143 then pos (4 * k + 4) else pos 0))) (sym at_it) (first_at home s c w v stands qc (over k) rest placed)) is_small (omega (arith, near, at_it)) leads p

    -- ---- what stands behind a turn

    abbrev behind_body : (ℕ → ℕ) → (Way → World → Family Answer) → Way → World → Family Answer
    behind_body bound rest way u = λ h m. and_then (after_turn way (turn (bound m) h home.env st) u) (λ x r. rest x r h m)

    abbrev behind_test : (ℕ → ℕ) → (Way → World → Family Answer) → Bool → World → Family Answer
    behind_test bound rest holds u =
        λ h m. and_then (either holds (λ r. and_then (exec (bound m) h home.env body r) (λ way r. after_turn way (turn (bound m) h home.env st) r)) (ended Normal) u) (λ x r. rest x r h m)

    body_leads : (bound : ℕ → ℕ) (rest : Way → World → Family Answer) → ((x : Way) (u : World) → Leading u (rest x u)) → (way : Way) (u : World) → Leading u (behind_body bound rest way u)
    body_leads bound rest leads way u = λ h m. leads_then u (after_turn way (turn (bound m) h home.env st) u) (λ x r. rest x r h m) (after_turn_leads way (turn (bound m) h home.env st) u (λ x. turn_leads (bound m) h home.env st x)) (λ x r. leads x r h m)

    test_leads : (bound : ℕ → ℕ) (rest : Way → World → Family Answer) → ((x : Way) (u : World) → Leading u (rest x u)) → (holds : Bool) (u : World) → Leading u (behind_test bound rest holds u)
    test_leads bound rest leads true u = λ h m.
        leads_then u (and_then (exec (bound m) h home.env body u) (λ way r. after_turn way (turn (bound m) h home.env st) r)) (λ x r. rest x r h m)
        (leads_then u (exec (bound m) h home.env body u) (λ way r. after_turn way (turn (bound m) h home.env st) r) (exec_leads (bound m) h home.env body u) (λ way r. after_turn_leads way (turn (bound m) h home.env st) r (λ x. turn_leads (bound m) h home.env st x)))
        (λ x r. leads x r h m)
    test_leads bound rest leads false u = λ h m. on u (pass EndOfStatement u) (world_after (rest Normal (pass EndOfStatement u) h m)) (one_more EndOfStatement u) (leads Normal (pass EndOfStatement u) h m)

    -- the end of the statement, which the meaning has passed
    abbrev Out : Exit Way
    Out = Ended home around end c0 w0

    abbrev After : ℕ → (Way → World → Family Answer) → Type 0
    After n rest = (t : Stage) (x : Way) (u b : World) (d : Calls) (y : World) → Out t x u b d y → Means t n d y b (rest x u)

    after_later : (n k : ℕ) (rest : Way → World → Family Answer) → ((x : Way) (u : World) → Leading u (rest x u)) → After (suc n) rest → After n (λ x u. looking k (rest x u))
    after_later n k rest leads after = λ t x u b d y o.
        let on_to : Leads b u = ended_leads home around end c0 w0 t x u b d y o in
        means_later t n k Executes d y b (rest x u) (λ h m. on b u (world_after (rest x u h m)) on_to (leads x u h m)) (fewer_moves t (suc n) n Executes d y b (rest x u) (omega arith) (after t x u b d y o))

    ends_here : (n : ℕ) (rest : Way → World → Family Answer) → After n rest → (t : Stage) (u : World) (d : Calls) (y : World) → d.regs.pc ≡ home.base + 4 * end → Stands home t d y u → Stays home c0 w0 d y → Means t n d y u (rest Normal (pass EndOfStatement u))
    ends_here n rest after t u d y there stands stays =
        unseen_means t n Executes d y u (pass EndOfStatement u) (rest Normal (pass EndOfStatement u)) (rest Normal (pass EndOfStatement u)) (end_lags home t d y u stands) (λ h m k. refl)
        (after t Normal (pass EndOfStatement u) (pass EndOfStatement u) d y (record { here = refl; there = there; stands = stands_ended home t d y u stands; stays = stays }))

    -- ---- the turns

    -- from the test on, where a run moves so often
    abbrev Turns : ℕ → Type 0
    Turns n =
        (bound : ℕ → ℕ) → IsDeeper (suc deep) bound → (s : Stage) (c : Calls) (w v : World) → c.regs.pc ≡ home.base + 4 * from → Stands home s c w v → Stays home c0 w0 c w
        → (rest : Way → World → Family Answer) → ((x : Way) (u : World) → Leading u (rest x u)) → After n rest → Means s n c w v (followed (λ h m. turn (bound m) h home.env st v) rest)

    stays_moved : (f : Calls) (x : World) (qc : ℕ) → Stays home c0 w0 f x → Stays home c0 w0 (with_registers (goes_to qc f.regs) f) x
    stays_moved f x qc k = record { lower = k.lower; given = k.given; callers = k.callers; words = k.words; objects = k.objects; bytes = k.bytes; foot = k.foot }

    module _ (n : ℕ) (le : suc n ≤ most) (more : Turns n) (bound : ℕ → ℕ) (dp : IsDeeper (suc deep) bound) (rest : Way → World → Family Answer) (leads : (x : Way) (u : World) → Leading u (rest x u)) (after : After (suc n) rest) where
      abbrev less_bound : ℕ → ℕ
      less_bound m = bound m - 1

      -- where the meaning looks so much less deep
      module _ (step : ℕ) (some : 1 ≤ step) where
        abbrev sooner : Way → World → Family Answer
        sooner x u = looking step (rest x u)

        sooner_leads : (x : Way) (u : World) → Leading u (sooner x u)
        sooner_leads x u = λ h m. leads x u h (step + m)

        deeper : IsDeeper (suc deep) (now_deeper step bound)
        deeper = next_turn step deep bound some dp

        after_now : After n sooner
        after_now = after_later n step rest leads after

        -- the next turn, from the test on
        once_more : (t : Stage) (u : World) (d : Calls) (y : World) → d.regs.pc ≡ home.base + 4 * from → Stands home t d y u → Stays home c0 w0 d y → Means t n d y u (followed (λ h m. turn (now_deeper step bound m) h home.env st u) sooner)
        once_more t u d y there stands stays = more (now_deeper step bound) deeper t d y u there stands stays sooner sooner_leads after_now

        -- the body has ended in some way
        by_way : (t : Stage) (way : Way) (u b : World) (d : Calls) (y : World) (d1 : Calls) (y1 : World) → Stays home c0 w0 d1 y1 → Ended home (in_loop around (at + 1)) (at + 3 + length cb) d1 y1 t way u b d y → Means t n d y b (behind_body (now_deeper step bound) sooner way u)
        by_way t Normal u b d y d1 y1 before p =
            let there = p.there in
            subst (λ x. Means t n d y x (behind_body (now_deeper step bound) sooner Normal u)) (sym p.here)
            (once_more t u d y (omega (arith, there)) p.stands (stays_then home c0 d1 d w0 y1 y before p.stays))
        by_way t Continued u b d y d1 y1 before p =
            can_continue t u b d1 d y1 y p (behind_body (now_deeper step bound) sooner Continued u) (body_leads (now_deeper step bound) sooner sooner_leads Continued u) n (omega (arith, le))
            (λ f x there stands stays.
            let near = third_there.near in
            let short = third_there.short in
            let m = length-append cb ct in
            let at_it : f.regs.pc ≡ pc + 4 * length (over to_test ∷ []) + 4 * length (over to_end ∷ []) = omega (arith, here, there) in
            jumps n (length cb) t f x u (behind_body (now_deeper step bound) sooner Continued u) (pc + 4 * length (over to_test ∷ []) + 4 * length (over to_end ∷ [])) (cb ++ ct) stands at_it third_there (omega (arith, short, m)) (omega (arith, near, m))
            (body_leads (now_deeper step bound) sooner sooner_leads Continued u)
            (once_more t u (with_registers (goes_to (f.regs.pc + (4 * length cb + 4)) f.regs) f) x (omega (arith, there)) (stands_at home t f x u (f.regs.pc + (4 * length cb + 4)) stands)
            (stays_moved f x (f.regs.pc + (4 * length cb + 4)) (stays_then home c0 d1 f w0 y1 x before stays))))
        by_way t Broke u b d y d1 y1 before p =
            can_break t u b d1 d y1 y p (behind_body (now_deeper step bound) sooner Broke u) (body_leads (now_deeper step bound) sooner sooner_leads Broke u) n (omega (arith, le))
            (λ f x there stands stays.
            let near = second_there.near in
            let short = second_there.short in
            let m = length-append cb ct in
            let k = long in
            let at_it : f.regs.pc ≡ pc + 4 * length (over to_test ∷ []) = omega (arith, here, there) in
            jumps n to_end t f x u (behind_body (now_deeper step bound) sooner Broke u) (pc + 4 * length (over to_test ∷ [])) (over (length cb) ∷ (cb ++ ct)) stands at_it second_there (omega (arith, short, m)) (omega (arith, near, m))
            (body_leads (now_deeper step bound) sooner sooner_leads Broke u)
            (ends_here n sooner after_now t u (with_registers (goes_to (f.regs.pc + (4 * to_end + 4)) f.regs) f) x (omega (arith, there, k)) (stands_at home t f x u (f.regs.pc + (4 * to_end + 4)) stands)
            (stays_moved f x (f.regs.pc + (4 * to_end + 4)) (stays_then home c0 d1 f w0 y1 x before stays))))
        by_way t (Jumped k) u b d y d1 y1 before p = after_now t (Jumped k) (pass EndOfStatement u) b d y (jumps_ended home (labelled k around.labels) d1 c0 y1 w0 t u b d y before p)
        by_way t (Returned a) u b d y d1 y1 before p = after_now t (Returned a) (pass EndOfStatement u) b d y (returning_ended home a d1 c0 y1 w0 t u b d y before p)

        regrouped_body : (r : Outcome Way) (h : History) (m : ℕ) → and_then (and_then r (λ way q. after_turn way (turn (now_deeper step bound m) h home.env st) q)) (λ x q. rest x q h (step + m)) ≡ and_then r (λ way q. behind_body (now_deeper step bound) sooner way q h m)
        regrouped_body (Done way w) h m = refl
        regrouped_body (Over f) h m = refl

        -- the test held: the body, and what follows
        again : (t : Stage) (u : World) (d : Calls) (y : World) → d.regs.pc ≡ home.base + 4 * (at + 3) → Stands home t d y u → Stays home c0 w0 d y → Means t n d y u (looking step (behind_test less_bound rest true u))
        again t u d y at_top stands before =
            means_same t n Executes d y u (looking step (behind_test less_bound rest true u)) (followed (λ h m. exec (now_deeper step bound m) h home.env body u) (behind_body (now_deeper step bound) sooner))
            (λ h l m. regrouped_body (exec (now_deeper step bound m) h home.env body u) h m)
            (good_body (now_deeper step bound) (λ m. less_again deep m (now_deeper step bound m) (deeper m)) t d y u at_top (placed_same home (pc + 4 * length words) d.regs.pc cb cb (omega (arith, here, at_top)) refl body_there) stands
            (behind_body (now_deeper step bound) sooner) (body_leads (now_deeper step bound) sooner sooner_leads) n (omega (arith, le))
            (λ t2 way u2 b d2 y2 p. by_way t2 way u2 b d2 y2 d y before p))

      regrouped_test : (r : Outcome Bool) (h : History) (m : ℕ)
          → and_then (and_then r (λ yes q. either yes (λ q. and_then (exec (bound m - 1) h home.env body q) (λ way q. after_turn way (turn (bound m - 1) h home.env st) q)) (ended Normal) q)) (λ x q. rest x q h m)
          ≡ and_then r (λ holds u. behind_test less_bound rest holds u h m)
      regrouped_test (Done holds w) h m = refl
      regrouped_test (Over f) h m = refl

      turn_is : (s : Stage) (c : Calls) (w v : World) → Stands home s c w v → (h : History) → Live s.past (lined l v) h → (m : ℕ)
          → and_then (turn (bound m) h home.env st v) (λ x q. rest x q h m) ≡ and_then (condition (eval (bound m - 1) h) home.env e (lined l v)) (λ holds u. behind_test less_bound rest holds u h m)
      turn_is s c w v st_now h live m =
          ap (λ o. and_then o (λ x q. rest x q h m))
          (ap (λ k. turn k h home.env st v) (some_deep deep m (bound m) (dp m)) ∙ turn_opens (bound m - 1) h home.env st v
          ∙ ap (λ y. turn_of h (eval (bound m - 1) h) (exec (bound m - 1) h) (turn (bound m - 1) h) home.env st y v) is
          ∙ ap (λ o. and_then (and_then o (λ _ q. condition (eval (bound m - 1) h) home.env e q)) (λ yes q. either yes (λ q. and_then (exec (bound m - 1) h home.env body q) (λ way q. after_turn way (turn (bound m - 1) h home.env st) q)) (ended Normal) q)) (line_passes s.past h l v st_now.late live))
          ∙ regrouped_test (condition (eval (bound m - 1) h) home.env e (lined l v)) h m

      one_turn : (s : Stage) (c : Calls) (w v : World) → c.regs.pc ≡ home.base + 4 * from → Stands home s c w v → Stays home c0 w0 c w → Means s (suc n) c w v (followed (λ h m. turn (bound m) h home.env st v) rest)
      one_turn s c w v there st_now stays =
          unseen_means s (suc n) Executes c w v (lined l v) (followed (λ h m. turn (bound m) h home.env st v) rest)
          (followed (λ h m. condition (eval (bound m - 1) h) home.env e (lined l v)) (behind_test less_bound rest)) (line_lags home s c w v st_now l)
          (λ h live m. turn_is s c w v st_now h live m)
          (good_test less_bound (λ m. one_less deep m (bound m) (dp m)) s c w (lined l v) there
          (placed_same home (pc + 4 * length words + 4 * length cb) c.regs.pc ct ct (omega (arith, here, there)) refl test_there) (stands_lined home s c w v st_now l)
          (behind_test less_bound rest) (test_leads less_bound rest leads) n le
          (λ t u d y p. again t.look.step t.look.some t u d y p.there p.stands (stays_then home c0 c d w0 w y stays (stays_kept home frame c d w y p.keeps)))
          (λ t u d y p.
          let m = long in
          let at_end = p.there in
          ends_here (suc n) rest after t u d y (omega (arith, at_end, m)) p.stands (stays_then home c0 c d w0 w y stays (stays_kept home frame c d w y p.keeps))))

    turns : (n : ℕ) → n ≤ most → Turns n
    turns zero le bound dp s c w v there st_now stays rest leads after = no_moves s Executes c w v (followed (λ h m. turn (bound m) h home.env st v) rest)
    turns (suc n) le bound dp s c w v there st_now stays rest leads after = one_turn n le (turns n (omega (arith, le))) bound dp rest leads after s c w v there st_now stays

    -- ---- the statement

    pub loop_means : (bound : ℕ → ℕ) → IsDeeper (suc (suc deep)) bound → (s : Stage) (v : World) → c0.regs.pc ≡ pc → Stands home s c0 w0 v → Runs most s Out c0 w0 v (λ h m. exec (bound m) h home.env st v)
    loop_means bound dp s v there st_now = λ rest leads n le after.
        let b : World = pass Begin v in
        let stands : Stands home s c0 w0 b = stands_begun home s c0 w0 v st_now in
        let near = all.near in
        let short = all.short in
        let m = length-append words (cb ++ ct) in
        let k = length-append cb ct in
        let qc : ℕ = c0.regs.pc + (4 * to_test + 4) in
        let r : Family Answer = followed (λ h m. turn (bound m - 1) h home.env st b) rest in
        unseen_means s n Executes c0 w0 v b (followed (λ h m. exec (bound m) h home.env st v) rest) r (begin_lags home s c0 w0 v st_now)
        (λ h live m. ap (λ o. and_then o (λ x u. rest x u h m)) (ap (λ k. exec k h home.env st v) (some_deep (suc deep) m (bound m) (dp m)) ∙ exec_opens (bound m - 1) h home.env st v ∙ ap (λ y. stmt_of h (eval (bound m - 1) h) (exec (bound m - 1) h) (turn (bound m - 1) h) (resume (bound m - 1) h) home.env st y (stmt_begun y v)) is))
        (jumps n to_test s c0 w0 b r pc (over to_end ∷ (over (length cb) ∷ (cb ++ ct))) stands there all (omega (arith, short, m, k)) (omega (arith, near, m, k))
        (leading_then b (λ h m. turn (bound m - 1) h home.env st b) rest (λ h m. turn_leads (bound m - 1) h home.env st b) leads)
        (turns n le (λ m. bound m - 1) (λ m. one_less (suc deep) m (bound m) (dp m)) s (with_registers (goes_to qc c0.regs) c0) w0 b (omega (arith, here, there)) (stands_at home s c0 w0 b qc stands)
        (stays_moved c0 w0 qc (stays_here home c0 w0)) rest leads after))

-- while (e) body
pub while_runs : (home : Home) (most deep : ℕ) → IsFrame home → (st body : CoreStmt) (e : CoreExpr) (l : ℕ) → out-CoreStmt st ≡ CoreStmt-F.While l e body → (at : ℕ) (around : Around)
    → TurnsBack home most deep e (at + 3) (at + 3 + length (code_of_statement home body (at + 3) (in_loop around (at + 1))))
    → GivesWay home most deep body (at + 3) (in_loop around (at + 1)) → CanJump home most (in_loop around (at + 1)).on_break → CanJump home most (in_loop around (at + 1)).on_continue → GivesWay home most (suc (suc deep)) st at around
while_runs home most deep frame st body e l is at around test good can_break can_continue = λ bound dp s c w v there pl st_now.
    loop_means home most deep frame st body e l is at around
    (subst (λ n. TurnsBack home most deep e (at + 3) n) (plus_none (at + 3 + length (code_of_statement home body (at + 3) (in_loop around (at + 1))))) test) good can_break can_continue c.regs.pc there pl c w bound dp s v refl st_now
  where
    plus_none : (n : ℕ) → n ≡ n + 0
    plus_none n = omega arith
