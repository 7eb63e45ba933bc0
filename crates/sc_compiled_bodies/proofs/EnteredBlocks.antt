-- A block with objects and without labels: its services, around the code of its statements, do what its beginning and end mean.
use Rattle.std.proofs.Common.{◌≡◌, ◌≢◌, inl, inr, ℕ, zero, suc, ◌+◌, ◌-◌, ◌*◌, ◌^◌, ◌<◌, ◌≤◌, ◌==◌, ◌||◌, ◌&&◌, not, Bool, true, false, if◌then◌else◌, nat_lt, List, [], ◌∷◌, ◌++◌, length, map, reverse, Option, Some, None, refl, sym, ap, subst, ◌∙◌, arith, append-nil, append_assoc, length-append}
use Rattle.std.proofs.lemmas.Bool.Decides.{nat_tests}
use Rattle.std.proofs.lemmas.List.{reverse-append}
use Rattle.std.specs.Prelude.{slice_get, slice_index_or}
use Rattle.sc_base.specs.declared.memory.Word.{Word}
use Rattle.sc_core.specs.declared.module.Auto.{Auto}
use Rattle.sc_core.specs.declared.statement.CoreStmt.{CoreStmt, out-CoreStmt}
use Rattle.sc_core.specs.declared.statement.CoreStmt.TheOpen.{CoreStmt-F}
use Rattle.sc_emu.specs.Operations.{difference, plain}
use Rattle.sc_emu.specs.Registers.{register}
use Rattle.sc_isa_image.specs.Lookups.{text_at}
use Rattle.sc_meaning.specs.Calls.{exec, resume}
use Rattle.sc_meaning.specs.Expressions.{Answer, Env, Nothing, Part, Place, Plain}
use Rattle.sc_meaning.specs.Outcomes.{Done, Outcome, Over, and_then, world_after}
use Rattle.sc_meaning.specs.Statements.{Exec, Resume, Way, Normal, Broke, Continued, Jumped, Returned, all_dead, block_autos, block_ended, block_with, born_autos, stmts_of, with_block, after_list}
use Rattle.sc_meaning.specs.World.{Begin, Born, CloseBlock, End as EndOfStatement, Frame, OpenBlock, World, pass}
use Rattle.sc_meaning.proofs.Growing.{leads_then}
use Rattle.sc_meaning.proofs.Steps.{here, on, one_more}
use Rattle.sc_mixed.specs.Bridge.{with_registers}
use Rattle.sc_mixed.specs.declared.calls.Calls.{Calls}
use Rattle.sc_mixed.specs.declared.calls.Next.TheVariants.{Executes, Serves}
use Rattle.sc_mixed_means.specs.Owed.{is_calling_out}
use Rattle.sc_mixed_means.specs.Stages.{Stage}
use Rattle.sc_program.specs.declared.frame.Slot.{Slot}
use Rattle.sc_services.specs.Blocks.{block_left, closed_upto, top_blocks}
use Rattle.sc_services.specs.Entering.{may_enter}
use Rattle.sc_services.specs.Frames.{is_call_at, is_in_code, is_object, is_on_stack, is_open, is_open_here}
use Rattle.sc_services.specs.Leaving.{may_leave}
use Rattle.sc_gen_code.specs.Code.{Code, block_service}
use Rattle.sc_gen_code.specs.Styles.{enters}
use Rattle.sc_gen_code.specs.declared.style.Style.{Style}
use Rattle.sc_gen_body.specs.declared.jumps.Place.{Place as Target}
use Rattle.sc_gen_body.specs.Jumps.{Around, inside, labelled, leaving}
use Rattle.sc_gen_body.specs.Statements.{Inner, body_of, entry_by, items_code, whole_by}
use Rattle.sc_gen_body.specs.Statements as gen
use Rattle.sc_gen_body.proofs.Arms.{shape}
use Rattle.sc_compiled_values.specs.Straight.{IsFile, Words, with}
use Rattle.sc_compiled_frames.specs.Frames.{Fits, Has, foot}
use Rattle.sc_compiled_expressions.specs.Coming.{Comes}
use Rattle.sc_compiled_expressions.specs.Parts.{Family, Leading, Means, MeansAt, followed, looking}
use Rattle.sc_compiled_expressions.specs.Good.{IsDeeper, IsPlaced}
use Rattle.sc_compiled_expressions.specs.Standing.{Home, Stands, entered_blocks, is_entered, slots, top_start}
use Rattle.sc_compiled_expressions.proofs.Goes.{first_of, same_code}
use Rattle.sc_compiled_expressions.proofs.Loading.{registers_of}
use Rattle.sc_compiled_expressions.proofs.Moving.{fewer_moves, means_later, no_moves, unseen_means, with_fit}
use Rattle.sc_compiled_expressions.proofs.Nodes.{one_less}
use Rattle.sc_compiled_expressions.proofs.Standing.{has_code, memory_of, placed_back, placed_front, placed_same, stands_with}
use Rattle.sc_compiled_bodies.specs.Blocks.{HasTable}
use Rattle.sc_compiled_bodies.specs.Exits.{Behind, Ended, Jumps, Leaving, Returning, Stays, falls, jump_code, leaves_call, left_block, left_end, within}
use Rattle.sc_compiled_bodies.specs.Good.{GivesWay, code_of_statement, frame_of}
use Rattle.sc_compiled_bodies.specs.Lists.{GiveWays, code_of_list}
use Rattle.sc_compiled_bodies.proofs.BlockEntry.{births_lead, block_entry_means}
use Rattle.sc_compiled_bodies.proofs.BlockExit.{block_exit_means, deaths_lead}
use Rattle.sc_compiled_bodies.proofs.BlockStanding.{last_open, stands_inside, stands_outside, stays_inside, stays_outside, waits_inside, waits_outside}
use Rattle.sc_compiled_bodies.proofs.Blocks.{listed}
use Rattle.sc_compiled_bodies.proofs.Ends.{block_code, block_entry_asked, block_exit_asked, is_short, zero_is}
use Rattle.sc_compiled_bodies.proofs.Fallen.{open_of}
use Rattle.sc_compiled_bodies.proofs.Leaving.{stays_then}
use Rattle.sc_compiled_bodies.proofs.Listing.{list_leads, list_runs}
use Rattle.sc_compiled_bodies.proofs.Returning.{both}
use Rattle.sc_compiled_bodies.proofs.Unseen.{begin_lags, stands_begun}
use Rattle.sc_compiled_bodies.proofs.Ways.{at_end, behind_end, exec_layer}

-- ---- blocks that are open

not_same : (a b : ℕ) → a ≢ b → (a == b) ≡ false
not_same a b e = by_test (a == b) refl
  where
    by_test : (t : Bool) → (a == b) ≡ t → (a == b) ≡ false
    by_test false q = q
    by_test true q = absurd (e (grind (arith, nat_tests, q)))

same_number : (n : ℕ) → (n == n) ≡ true
same_number n = grind (arith, nat_tests)

none_open : (st : Style) (autos : List (List Auto)) (b : ℕ) (bs : List Born) → ((o : Born) → Has o bs → o.block ≢ b) → is_open b (entered_blocks st autos bs) ≡ false
none_open st autos b [] fresh = refl
none_open st autos b (o ∷ bs) fresh = by_entered (is_entered st autos o.block) (none_open st autos b bs (λ p h. fresh p (inr h)))
  where
    by_entered : (t : Bool) → is_open b (entered_blocks st autos bs) ≡ false → is_open b (if t then o ∷ entered_blocks st autos bs else entered_blocks st autos bs) ≡ false
    by_entered true e = ap (λ t. t || is_open b (entered_blocks st autos bs)) (not_same o.block b (fresh o (inl refl))) ∙ e
    by_entered false e = e

last_is_open : (b : ℕ) (bs : List Born) (o : Born) → o.block ≡ b → is_open b (bs ++ o ∷ []) ≡ true
last_is_open b [] o e = ap (λ t. t || false) (ap (λ n. n == b) e ∙ same_number b)
last_is_open b (x ∷ bs) o e = by_first (x.block == b) (last_is_open b bs o e)
  where
    by_first : (t : Bool) → is_open b (bs ++ o ∷ []) ≡ true → (t || is_open b (bs ++ o ∷ [])) ≡ true
    by_first true q = refl
    by_first false q = q

closes_last : (b : ℕ) (ids : List ℕ) (bs : List Born) (w : World) → (b == 0) ≡ false → closed_upto b (reverse (bs ++ record { block = b; ids = ids } ∷ [])) w ≡ pass CloseBlock (all_dead ids w)
closes_last b ids bs w other =
    ap (λ os. closed_upto b os w) (reverse-append bs (record { block = b; ids = ids } ∷ []))
    ∙ by_tests (b == 0) (b == b) (closed_upto b (reverse bs) (if b == 0 then all_dead ids w else pass CloseBlock (all_dead ids w))) other (same_number b)
  where
    by_tests : (p q : Bool) (x : World) → p ≡ false → q ≡ true → (if p || q then (if p then all_dead ids w else pass CloseBlock (all_dead ids w)) else x) ≡ pass CloseBlock (all_dead ids w)
    by_tests true q x e f = absurd (cc (e))
    by_tests false true x e f = refl
    by_tests false false x e f = absurd (cc (f))

call_here : (fs : List Frame) (start : ℕ) → is_in_code fs ≡ true → top_start fs ≡ start → is_call_at start fs ≡ true
call_here [] start e t = absurd (cc (e))
call_here (f ∷ fs) start e t = both (is_object f.form) (f.start == start) e (ap (λ n. n == start) t ∙ same_number start)

three : (k b : ℕ) → b < 2048 → length (block_service k b) ≡ 3
three k b lt = ap (λ t. length (block_code k b t)) (is_short b lt)

word_before : (p : ℕ) → p + 12 < 2 ^ 32 → difference (p + 12) 4 ≡ p + 8
word_before p lt = omega (arith, lt)

-- ---- the meaning

closes : (o : Outcome Way) (again : Resume) (env : Env) (st : CoreStmt) (ids : List ℕ) → ((way : Way) (u : World) → after_list again env st way u ≡ Done way u) → (rest : Way → World → Outcome Answer)
    → and_then (and_then (and_then o (after_list again env st)) (block_ended ids)) rest ≡ and_then o (λ way u. rest way (pass EndOfStatement (pass CloseBlock (all_dead ids u))))
closes (Over e) again env st ids same rest = refl
closes (Done way u) again env st ids same rest = ap (λ q. and_then (and_then q (block_ended ids)) rest) (same way u)

module _ (exec : Exec) (again : Resume) (env : Env) (st : CoreStmt) (l b : ℕ) (ss : List CoreStmt) (is : out-CoreStmt st ≡ CoreStmt-F.Block l b [] ss) (rest : Way → World → Outcome Answer) where
  abbrev env_in : List ℕ → Env
  env_in ids = with_block env (record { block = b; ids = ids })

  opened_so : (o : Outcome (List ℕ)) → and_then (and_then o (block_with exec again env st b ss)) rest
      ≡ and_then o (λ ids u. and_then (stmts_of exec (env_in ids) ss (pass (OpenBlock (record { block = b; ids = ids })) u)) (λ way x. rest way (pass EndOfStatement (pass CloseBlock (all_dead ids x)))))
  opened_so (Over e) = refl
  opened_so (Done ids u) = closes (stmts_of exec (env_in ids) ss (pass (OpenBlock (record { block = b; ids = ids })) u)) again (env_in ids) st ids (listed exec again (env_in ids) st l b ss is) rest

-- ---- the block

module _ (home : Home) (most deep l b : ℕ) (st : CoreStmt) (ss : List CoreStmt) (at : ℕ) (around : Around) (is : out-CoreStmt st ≡ CoreStmt-F.Block l b [] ss) (inside_is : is_entered home.style home.autos b ≡ true) (other : (b == 0) ≡ false) (near : b < 2048)
    (autos_are : block_autos home.env b ≡ slice_index_or home.autos b []) (fits : Fits (slots home) home.cost) (fresh : (o : Born) → Has o home.env.blocks → o.block ≢ b)
    (depth : (i : ℕ) (x : Slot) → slice_get (slots home b) i ≡ Some x → x.offset + x.size ≤ home.cost - 4) (tables : (s : Stage) → Comes home.from s → HasTable home b s) where
  abbrev autos : List Auto
  autos = slice_index_or home.autos b []

  abbrev opened : List ℕ → Born
  opened ids = record { block = b; ids = ids }

  abbrev inner : List ℕ → Home
  inner ids = within home (opened ids ∷ [])

  abbrev around_in : Around
  around_in = record around { blocks = around.blocks ++ b ∷ [] }

  abbrev first : ℕ
  first = length (block_service 2 b)

  abbrev items : Code
  items = code_of_list home ss (at + first) around_in

  has_objects : enters home.style home.autos b ≡ true
  has_objects = sym (ap (λ t. t || enters home.style home.autos b) other) ∙ inside_is

  around_is : inside around (Some b) [] (at + first) ≡ around_in
  around_is = ap (λ ls. record around { blocks = around.blocks ++ b ∷ []; labels = ls }) (append-nil around.labels)

  no_more : (n : ℕ) → n + 0 ≡ n
  no_more n = omega arith

  no_zero : b ≢ 0
  no_zero e = by_test (b == 0) other (ap (λ n. n == 0) e)
    where
      by_test : (t : Bool) → t ≡ false → t ≡ true → ⊥
      by_test true e f = cc (e)
      by_test false e f = cc (f)

  pub code : code_of_statement home st at around ≡ block_service 2 b ++ (items ++ block_service 3 b)
  code =
      ap (λ y. whole_by (entry_by (frame_of home) (gen.block_layer y)) (body_of (frame_of home) st) st at around) is
      ∙ ap (λ t. whole_by (if t then Some b else None) (body_of (frame_of home) st) st at around) has_objects
      ∙ ap (λ (i : Inner). block_service 2 b ++ i.code) (sym (shape (frame_of home) st (CoreStmt-F.Block l b [] ss) is (at + first) around))
      ∙ ap (λ t. block_service 2 b ++ (items_code (frame_of home) (map (body_of (frame_of home)) ss) ss (at + first + 0) (inside around (if t then Some b else None) [] (at + first)) ++ leaving (if t then Some b else None))) has_objects
      ∙ ap (λ n. block_service 2 b ++ (code_of_list home ss n (inside around (Some b) [] (at + first)) ++ block_service 3 b)) (no_more (at + first))
      ∙ ap (λ o. block_service 2 b ++ (code_of_list home ss (at + first) o ++ block_service 3 b)) around_is

  -- ---- where it ends

  module _ (ids : List ℕ) where
    same_home : (extra : List Born) → within (inner ids) extra ≡ within home (opened ids ∷ extra)
    same_home extra = ap (λ bs. record home { env = record home.env { blocks = bs } }) (append_assoc home.env.blocks (opened ids ∷ []) extra)

    placed_out : (pc : ℕ) (k : Code) → IsPlaced (inner ids) pc k → IsPlaced home pc k
    placed_out pc k p = record { before = p.before; behind = p.behind; part = p.part; there = p.there; short = p.short; near = p.near }

    placed_in : (pc : ℕ) (k : Code) → IsPlaced home pc k → IsPlaced (inner ids) pc k
    placed_in pc k p = record { before = p.before; behind = p.behind; part = p.part; there = p.there; short = p.short; near = p.near }

    stays_out : (c : Calls) (w : World) (d : Calls) (y : World) → Stays (inner ids) c w d y → Stays home c w d y
    stays_out c w d y p = record { lower = p.lower; given = p.given; callers = p.callers; words = p.words; objects = p.objects; bytes = p.bytes; foot = p.foot }

    abbrev shut : World → World
    shut u = pass EndOfStatement (pass CloseBlock (all_dead ids u))

    module _ (c0 c : Calls) (w0 w : World) (before : Stays home c0 w0 c w) where
      leaving_out : (k : Home → ℕ → Code) (t : Stage) (u x : World) (d : Calls) (y : World) → Leaving (inner ids) k c w t u x d y → Leaving home k c0 w0 t (shut u) x d y
      leaving_out k t u x d y p = record {
        extra = opened ids ∷ p.extra;
        at = p.at;
        there = p.there;
        placed = subst (λ h. IsPlaced home d.regs.pc (k h p.at)) (same_home p.extra) (placed_out d.regs.pc (k (within (inner ids) p.extra) p.at) p.placed);
        stands = subst (λ h. Stands h t d y x) (same_home p.extra) p.stands;
        left = left_end (opened ids ∷ p.extra) x (pass CloseBlock (all_dead ids u)) (left_block (opened ids) p.extra x u p.left);
        stays = stays_then home c0 c d w0 w y before (stays_out c w d y p.stays);
      }

      jumps_out : (o : Option Target) (t : Stage) (u x : World) (d : Calls) (y : World) → Jumps (inner ids) o c w t u x d y → Jumps home o c0 w0 t (shut u) x d y
      jumps_out None t u x d y p = p
      jumps_out (Some place) t u x d y p = leaving_out (jump_code place) t u x d y p

      returning_out : (a : Answer) (t : Stage) (u x : World) (d : Calls) (y : World) → Returning (inner ids) a c w t u x d y → Returning home a c0 w0 t (shut u) x d y
      returning_out (Plain z) t u x d y p = (leaving_out leaves_call t u x d y p.0, p.1)
      returning_out Nothing t u x d y p = leaving_out falls t u x d y p
      returning_out (Place z) t u x d y p = p
      returning_out (Part z n) t u x d y p = p

  -- ---- behind the statements

  module _ (rest : Way → World → Family Answer) (leads : (way : Way) (u : World) → Leading u (rest way u)) where
    abbrev closed : List ℕ → Way → World → Family Answer
    closed ids way u = λ h m. rest way (pass EndOfStatement (pass CloseBlock (all_dead ids u))) h m

    closed_leads : (ids : List ℕ) (way : Way) (u : World) → Leading u (closed ids way u)
    closed_leads ids way u = λ h m.
        let x : World = all_dead ids u in
        let z : World = pass CloseBlock x in
        let e : World = pass EndOfStatement z in
        on u e (world_after (rest way e h m)) (on u x e (deaths_lead ids u) (on x z e (one_more CloseBlock x) (one_more EndOfStatement z))) (leads way e h m)

    end_leading : (v : World) → Leading v (behind_end rest Normal v)
    end_leading v = λ h m. on v (pass EndOfStatement v) (world_after (rest Normal (pass EndOfStatement v) h m)) (one_more EndOfStatement v) (leads Normal (pass EndOfStatement v) h m)

    module _ (end : ℕ) (c0 c : Calls) (w0 w : World) (before : Stays home c0 w0 c w) (k : ℕ) (ids : List ℕ) (last : ℕ) (same : last + 3 ≡ end)
        (tail : (pc : ℕ) → pc ≡ home.base + 4 * last → IsPlaced home pc (block_service 3 b))
        (after : (t : Stage) (x : Way) (u b2 : World) (d : Calls) (y : World) → Ended home around end c0 w0 t x u b2 d y → Means t k d y b2 (rest x u)) where
      -- the objects die, the block is left, and the statement ends
      module _ (t : Stage) (u : World) (d : Calls) (y : World) (p : Behind (inner ids) last c w t u u d y) where
        abbrev gone : Words
        gone = with (with (register d.regs) 5 (plain 3)) 6 (plain b)

        abbrev dead : World → World
        dead x = pass CloseBlock (all_dead ids x)

        module _ (zs : List Word) (file : IsFile zs gone) where
          abbrev d2 : Calls
          d2 = with_registers (record { pc = d.regs.pc + 12; words = zs }) d

          st2 : Stands (inner ids) t d2 y u
          st2 = stands_with (inner ids) t d (record { pc = d.regs.pc + 12; words = zs }) y u (registers_of zs gone file (zero_is d p.stands.regs)) (file.each 2 (omega arith)) p.stands

          pc_is : d2.regs.pc ≡ home.base + 4 * end
          pc_is = let a = p.there in omega (arith, a, same)

          stays_dead : Stays home d y d2 (dead y)
          stays_dead = let q = stays_outside home b inside_is fits fresh t d2 ids y u st2 in record { lower = q.lower; given = q.given; callers = q.callers; words = q.words; objects = q.objects; bytes = q.bytes; foot = q.foot }

          stays_now : Stays home c0 w0 d2 (dead y)
          stays_now = stays_then home c0 d d2 w0 y (dead y) (stays_then home c0 c d w0 w y before (stays_out ids c w d y p.stays)) stays_dead

          goes : (j : ℕ) → j ≤ k → Means t j d2 (dead y) (dead u) (behind_end rest Normal (dead u))
          goes j le =
              with_fit t j Executes d2 (dead y) (dead u) (behind_end rest Normal (dead u))
              (λ fit like.
              at_end home around end c0 w0 j rest (λ t2 x v b2 f z e. fewer_moves t2 k j Executes f z b2 (rest x v) le (after t2 x v b2 f z e)) t (dead u) d2 (dead y) pc_is
              (stands_outside home b inside_is fits fresh t d2 ids y u st2 (st2.fixed d2.lower (dead y) fit)) stays_now)

          last_is : top_blocks y.frames ≡ entered_blocks home.style home.autos home.env.blocks ++ opened ids ∷ []
          last_is = last_open home b inside_is fits fresh t d2 ids y u st2

          code_y : is_in_code y.frames ≡ true
          code_y = sym (same_code y.frames u.frames (ap (λ (q : World). q.frames) p.stands.alike.same)) ∙ first_of (is_in_code u.frames) (not (is_calling_out u)) p.stands.own

          may : may_leave b y ≡ true
          may = both (is_in_code y.frames) (is_open_here b y.frames) code_y (open_of y.frames b ∙ ap (is_open b) last_is ∙ last_is_open b (entered_blocks home.style home.autos home.env.blocks) (opened ids) refl)

          left : block_left b y ≡ dead y
          left = ap (λ os. closed_upto b (reverse os) y) last_is ∙ closes_last b ids (entered_blocks home.style home.autos home.env.blocks) y other

          block : (register d2.regs 6).bits ≡ b
          block = ap (λ (x : Word). x.bits) (file.each 6 (omega arith))

          exit_at : (j : ℕ) → j ≤ k → MeansAt t j (Serves 3) d2 y u (closed ids Normal u)
          exit_at zero le = no_moves t (Serves 3) d2 y u (closed ids Normal u)
          exit_at (suc j) le =
              block_exit_means t b no_zero ids j d2 y u (closed ids Normal u) (looking t.look.step (behind_end rest Normal (dead u))) (closed_leads ids Normal u) (λ h m. end_leading (dead u) h (t.look.step + m)) block may left (λ h live m. refl)
              (waits_outside home b inside_is fits fresh t d2 ids y u st2)
              (means_later t j t.look.step Executes d2 (dead y) (dead u) (behind_end rest Normal (dead u)) (end_leading (dead u)) (goes j (omega (arith, le))))

        behind_closed : Means t k d y u (closed ids Normal u)
        behind_closed =
            block_exit_asked t p.stands.value k d y u (closed ids Normal u) (memory_of (inner ids) t d y u p.stands) p.stands.regs (closed_leads ids Normal u) b near
            (has_code (inner ids) t d y u p.stands d.regs.pc (block_service 3 b) (placed_in ids d.regs.pc (block_service 3 b) (tail d.regs.pc p.there))) (λ zs file. exit_at zs file k (omega arith))

      by_way : (t : Stage) (way : Way) (u b2 : World) (d : Calls) (y : World) → Ended (inner ids) around_in last c w t way u b2 d y → Means t k d y b2 (closed ids way u)
      by_way t Normal u b2 d y p = subst (λ x. Means t k d y x (closed ids Normal u)) (sym p.here) (behind_closed t u d y (record { here = refl; there = p.there; stands = p.stands; stays = p.stays }))
      by_way t Broke u b2 d y p = after t Broke (shut ids u) b2 d y (leaving_out ids c0 c w0 w before (jump_code around.on_break) t u b2 d y p)
      by_way t Continued u b2 d y p = after t Continued (shut ids u) b2 d y (leaving_out ids c0 c w0 w before (jump_code around.on_continue) t u b2 d y p)
      by_way t (Jumped j) u b2 d y p = after t (Jumped j) (shut ids u) b2 d y (jumps_out ids c0 c w0 w before (labelled j around.labels) t u b2 d y p)
      by_way t (Returned a) u b2 d y p = after t (Returned a) (shut ids u) b2 d y (returning_out ids c0 c w0 w before a t u b2 d y p)

  -- ---- the block is entered

  module _ (good : (ids : List ℕ) → GiveWays (inner ids) most deep ss (at + first) around_in) (bound : ℕ → ℕ) (dp : IsDeeper (suc deep) bound) (s : Stage) (c : Calls) (w v : World) (there : c.regs.pc ≡ home.base + 4 * at)
      (pl : IsPlaced home c.regs.pc (code_of_statement home st at around)) (stands : Stands home s c w v) (rest : Way → World → Family Answer) (leads : (way : Way) (u : World) → Leading u (rest way u)) where
    abbrev inside_family : List ℕ → World → Family Answer
    inside_family ids x = followed (λ h m. stmts_of (exec (bound m - 1) h) (inner ids).env ss x) (closed rest leads ids)

    abbrev begins : Family Answer
    begins = λ h m. and_then (born_autos autos [] v) (λ ids u. inside_family ids (pass (OpenBlock (opened ids)) u) h m)

    inside_leads : (ids : List ℕ) (x : World) → Leading x (inside_family ids x)
    inside_leads ids x = λ h m. leads_then x (stmts_of (exec (bound m - 1) h) (inner ids).env ss x) (λ way o. closed rest leads ids way o h m) (list_leads (bound m - 1) h (inner ids).env ss x) (λ way o. closed_leads rest leads ids way o h m)

    begins_leads : Leading v begins
    begins_leads = λ h m.
        leads_then v (born_autos autos [] v) (λ ids u. inside_family ids (pass (OpenBlock (opened ids)) u) h m) (births_lead autos [] v)
        (λ ids u. let x : World = pass (OpenBlock (opened ids)) u in on u x (world_after (inside_family ids x h m)) (one_more (OpenBlock (opened ids)) u) (inside_leads ids x h m))

    all : IsPlaced home c.regs.pc (block_service 2 b ++ (items ++ block_service 3 b))
    all = placed_same home c.regs.pc c.regs.pc (code_of_statement home st at around) (block_service 2 b ++ (items ++ block_service 3 b)) refl code pl

    long : first ≡ 3
    long = three 2 b near

    text_long : at + 2 < length home.text
    text_long =
        let l = long in
        let e = ap (λ (t : Code). length t) all.part in
        let n1 = length-append all.before ((block_service 2 b ++ (items ++ block_service 3 b)) ++ all.behind) in
        let n2 = length-append (block_service 2 b ++ (items ++ block_service 3 b)) all.behind in
        let n3 = length-append (block_service 2 b) (items ++ block_service 3 b) in
        let t = all.there in
        omega (arith, l, e, n1, n2, n3, t, there)

    table : HasTable home b s
    table = tables s stands.comes

    abbrev last : ℕ
    last = at + first + length items

    end_is : last + 3 ≡ at + length (code_of_statement home st at around)
    end_is =
        let e = ap (λ (t : Code). length t) code in
        let n3 = length-append (block_service 2 b) (items ++ block_service 3 b) in
        let n4 = length-append items (block_service 3 b) in
        let l = three 3 b near in
        omega (arith, e, n3, n4, l)

    behind_service : IsPlaced home (c.regs.pc + 4 * length (block_service 2 b)) (items ++ block_service 3 b)
    behind_service = placed_back home c.regs.pc (block_service 2 b) (items ++ block_service 3 b) all

    tail : (pc : ℕ) → pc ≡ home.base + 4 * last → IsPlaced home pc (block_service 3 b)
    tail pc e =
        placed_same home (c.regs.pc + 4 * length (block_service 2 b) + 4 * length items) pc (block_service 3 b) (block_service 3 b) (omega (arith, e, there)) refl
        (placed_back home (c.regs.pc + 4 * length (block_service 2 b)) items (block_service 3 b) behind_service)

    module _ (zs : List Word) (file : IsFile zs (with (with (register c.regs) 5 (plain 2)) 6 (plain b))) where
      abbrev c2 : Calls
      c2 = with_registers (record { pc = c.regs.pc + 12; words = zs }) c

      st3 : Stands home s c2 w v
      st3 = stands_with home s c (record { pc = c.regs.pc + 12; words = zs }) w v (registers_of zs (with (with (register c.regs) 5 (plain 2)) 6 (plain b)) file (zero_is c stands.regs)) (file.each 2 (omega arith)) stands

      on_stack : is_on_stack c2.regs w ≡ true
      on_stack = ap (λ (z : Word). z.bits == foot w) (file.each 2 (omega arith) ∙ stands.sp) ∙ same_number (foot w)

      third : c.regs.pc + 8 ≡ home.base + 4 * (at + 2)
      third = omega (arith, there)

      not_far : c.regs.pc + 12 < 2 ^ 32
      not_far = let l = long in let n3 = length-append (block_service 2 b) (items ++ block_service 3 b) in let f = all.near in omega (arith, l, n3, f)

      text : text_at s.image (difference c2.regs.pc 4) ≡ Some table.place
      text = ap (λ k. text_at s.image k) (word_before c.regs.pc not_far ∙ third) ∙ table.holds (at + 2) text_long

      block_is : (register c2.regs 6).bits ≡ b
      block_is = ap (λ (x : Word). x.bits) (file.each 6 (omega arith))

      code_w : is_in_code w.frames ≡ true
      code_w = sym (same_code w.frames v.frames (ap (λ (q : World). q.frames) stands.alike.same)) ∙ first_of (is_in_code v.frames) (not (is_calling_out v)) stands.own

      may_now : may_enter b table.place w.frames ≡ true
      may_now =
          both (nat_lt b (length table.place.frame.blocks) && is_call_at table.place.start w.frames) (not (is_open_here b w.frames))
          (both (nat_lt b (length table.place.frame.blocks)) (is_call_at table.place.start w.frames) table.known (call_here w.frames table.place.start code_w (stands.starts ∙ sym table.start)))
          (ap not (open_of w.frames b ∙ ap (is_open b) stands.opened ∙ none_open home.style home.autos b home.env.blocks fresh))

      stays_in : (ids : List ℕ) (x : World) → born_autos autos [] w ≡ Done ids x → Stays home c w c2 (pass (OpenBlock (opened ids)) x)
      stays_in ids x run = let q = stays_inside home b inside_is fits fresh depth s c2 w v st3 ids x run in record { lower = q.lower; given = q.given; callers = q.callers; words = q.words; objects = q.objects; bytes = q.bytes; foot = q.foot }

      there2 : c2.regs.pc ≡ home.base + 4 * (at + first)
      there2 = let l = long in omega (arith, l, there)

      placed2 : (ids : List ℕ) → IsPlaced (inner ids) c2.regs.pc items
      placed2 ids =
          let l = long in
          placed_in ids c2.regs.pc items (placed_same home (c.regs.pc + 4 * length (block_service 2 b)) c2.regs.pc items items (omega (arith, l)) refl (placed_front home (c.regs.pc + 4 * length (block_service 2 b)) items (block_service 3 b) behind_service))

      enter_at : (n : ℕ) → n ≤ most → ((t : Stage) (x : Way) (u b2 : World) (d : Calls) (y : World) → Ended home around (at + length (code_of_statement home st at around)) c w t x u b2 d y → Means t n d y b2 (rest x u)) → MeansAt s n (Serves 2) c2 w v begins
      enter_at zero le after = no_moves s (Serves 2) c2 w v begins
      enter_at (suc k) le after =
          block_entry_means s b other table.place autos table.slots_are k c2 w v begins (λ ids x. looking s.look.step (inside_family ids x)) begins_leads (λ ids u. λ h m. inside_leads ids u h (s.look.step + m)) on_stack text block_is may_now (λ h m. refl)
          (λ ids x run. waits_inside home b inside_is fits fresh depth s c2 w v st3 ids x run)
          (λ ids x u run meant like.
          let y : World = pass (OpenBlock (opened ids)) x in
          let z : World = pass (OpenBlock (opened ids)) u in
          means_later s k s.look.step Executes c2 y z (inside_family ids z) (inside_leads ids z)
          (with_fit s k Executes c2 y z (inside_family ids z)
          (λ fit alike.
          list_runs (inner ids) most deep around_in (λ m. bound m - 1) (λ m. one_less deep m (bound m) (dp m)) ss (at + first) (good ids) s c2 y z there2 (placed2 ids)
          (stands_inside home b inside_is fits fresh depth s c2 w v st3 ids x run u meant like (st3.fixed c2.lower y fit)) (closed rest leads ids) (closed_leads rest leads ids) k (omega (arith, le))
          (by_way rest leads (at + length (code_of_statement home st at around)) c c2 w y (stays_in ids x run) k ids last end_is tail
          (λ t way o b2 f g e. fewer_moves t (suc k) k Executes f g b2 (rest way o) (omega arith) (after t way o b2 f g e))))))

  pub entered_runs : ((ids : List ℕ) → GiveWays (inner ids) most deep ss (at + first) around_in) → GivesWay home most (suc deep) st at around
  entered_runs good = λ bound dp s c w v there pl st_now. λ rest leads n le after.
      let begun : World = pass Begin v in
      let stands_b : Stands home s c w begun = stands_begun home s c w v st_now in
      let family : Family Answer = begins good bound dp s c w begun there pl stands_b rest leads in
      unseen_means s n Executes c w v begun (followed (λ h m. exec (bound m) h home.env st v) rest) family (begin_lags home s c w v st_now)
      (λ h live m.
      ap (λ o. and_then o (λ y u. rest y u h m))
      (exec_layer home deep bound dp st (CoreStmt-F.Block l b [] ss) is h m v ∙ ap (λ xs. and_then (born_autos xs [] begun) (block_with (exec (bound m - 1) h) (resume (bound m - 1) h) home.env st b ss)) autos_are)
      ∙ opened_so (exec (bound m - 1) h) (resume (bound m - 1) h) home.env st l b ss is (λ y u. rest y u h m) (born_autos autos [] begun))
      (block_entry_asked s stands_b.value n c w begun family (memory_of home s c w begun stands_b) stands_b.regs (begins_leads good bound dp s c w begun there pl stands_b rest leads) b near
      (has_code home s c w begun stands_b c.regs.pc (block_service 2 b) (placed_front home c.regs.pc (block_service 2 b) (items ++ block_service 3 b) (all good bound dp s c w begun there pl stands_b rest leads)))
      (λ zs file. enter_at good bound dp s c w begun there pl stands_b rest leads zs file n le after))
