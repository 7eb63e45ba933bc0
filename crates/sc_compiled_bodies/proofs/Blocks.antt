-- A block without objects and labels, which compiled code does not enter: it opens and closes in the meaning alone, around its statements.
use Rattle.std.proofs.Common.{◌≡◌, ℕ, suc, ◌+◌, ◌-◌, ◌*◌, ◌==◌, ◌||◌, Bool, true, false, if◌then◌else◌, List, [], ◌∷◌, ◌++◌, length, map, Option, Some, None, refl, sym, ap, subst, ◌∙◌, arith, append-nil, append_assoc}
use Rattle.sc_core.specs.declared.module.Auto.{Auto}
use Rattle.sc_core.specs.declared.statement.CoreStmt.{CoreStmt, out-CoreStmt}
use Rattle.sc_core.specs.declared.statement.CoreStmt.TheOpen.{CoreStmt-F}
use Rattle.sc_meaning.specs.Calls.{exec, resume}
use Rattle.sc_meaning.specs.Expressions.{Answer, Env, Nothing, Part, Place, Plain}
use Rattle.sc_meaning.specs.Outcomes.{Done, Outcome, Over, and_then, world_after}
use Rattle.sc_meaning.specs.Statements.{Exec, Resume, Way, Normal, Broke, Continued, Jumped, Returned, after_list, block_autos, block_ended, block_with, born_autos, jumped_to, place_in, stmts_of}
use Rattle.sc_meaning.specs.World.{Begin, Born, CloseBlock, End as EndOfStatement, OpenBlock, World, pass}
use Rattle.sc_meaning.proofs.Steps.{here, on, one_more}
use Rattle.sc_mixed.specs.declared.calls.Calls.{Calls}
use Rattle.sc_mixed.specs.declared.calls.Next.TheVariants.{Executes}
use Rattle.sc_mixed_means.specs.Stages.{Stage}
use Rattle.sc_gen_code.specs.Code.{Code}
use Rattle.sc_gen_code.specs.Styles.{enters}
use Rattle.sc_gen_body.specs.declared.jumps.Place.{Place as Target}
use Rattle.sc_gen_body.specs.Jumps.{Around, inside, labelled, leaving}
use Rattle.sc_gen_body.specs.Statements.{Inner, body_of, entry_by, items_code, whole_by}
use Rattle.sc_gen_body.specs.Statements as gen
use Rattle.sc_gen_body.proofs.Arms.{shape}
use Rattle.sc_compiled_expressions.specs.Parts.{Family, Lags, Means, followed}
use Rattle.sc_compiled_expressions.proofs.Moving.{lags_on, unseen_means}
use Rattle.sc_compiled_expressions.specs.Standing.{is_entered, Home, Stands}
use Rattle.sc_compiled_expressions.specs.Good.{IsPlaced}
use Rattle.sc_compiled_expressions.proofs.Standing.{placed_same}
use Rattle.sc_compiled_bodies.specs.Exits.{Behind, Ended, Jumps, Leaving, Returning, Stays, falls, jump_code, leaves_call, left_block, left_end, within}
use Rattle.sc_compiled_bodies.specs.Good.{GivesWay, code_of_statement, frame_of}
use Rattle.sc_compiled_bodies.proofs.Unseen.{begin_lags, stands_begun}
use Rattle.sc_compiled_bodies.proofs.Unentered.{block_closed, block_opened}
use Rattle.sc_compiled_bodies.proofs.Ways.{at_end, behind_end, exec_layer}
use Rattle.sc_compiled_bodies.specs.Lists.{GiveWays, code_of_list}
use Rattle.sc_compiled_bodies.proofs.Listing.{list_runs}
use Rattle.sc_compiled_expressions.proofs.Nodes.{one_less}

-- ---- the meaning of a block without labels

pub listed : (exec : Exec) (again : Resume) (env : Env) (st : CoreStmt) (l b : ℕ) (ss : List CoreStmt) → out-CoreStmt st ≡ CoreStmt-F.Block l b [] ss → (way : Way) (u : World) → after_list again env st way u ≡ Done way u
listed exec again env st l b ss is Normal u = refl
listed exec again env st l b ss is Broke u = refl
listed exec again env st l b ss is Continued u = refl
listed exec again env st l b ss is (Jumped k) u = ap (λ y. jumped_to again env st k (place_in k y) u) is
listed exec again env st l b ss is (Returned a) u = refl

closes : (o : Outcome Way) (again : Resume) (env : Env) (st : CoreStmt) → ((way : Way) (u : World) → after_list again env st way u ≡ Done way u) → (rest : Way → World → Outcome Answer)
    → and_then (and_then (and_then o (after_list again env st)) (block_ended [])) rest ≡ and_then o (λ way u. rest way (pass EndOfStatement (pass CloseBlock u)))
closes (Over e) again env st same rest = refl
closes (Done way u) again env st same rest = ap (λ q. and_then (and_then q (block_ended [])) rest) (same way u)

pub no_births : (xs : List Auto) (w : World) → xs ≡ [] → born_autos xs [] w ≡ Done [] w
no_births [] w e = refl
no_births (x ∷ xs) w e = absurd (cc (e))

second_false : (p q : Bool) → (p || q) ≡ false → q ≡ false
second_false true q e = absurd (cc (e))
second_false false q e = e

module _ (home : Home) (most deep l b : ℕ) (st : CoreStmt) (ss : List CoreStmt) (at : ℕ) (around : Around) (is : out-CoreStmt st ≡ CoreStmt-F.Block l b [] ss) (out : is_entered home.style home.autos b ≡ false) (none : block_autos home.env b ≡ []) where
  abbrev born : Born
  born = record { block = b; ids = [] }

  abbrev inner : Home
  inner = within home (born ∷ [])

  no_objects : enters home.style home.autos b ≡ false
  no_objects = second_false (b == 0) (enters home.style home.autos b) out

  -- ---- the code

  around_is : inside around None [] at ≡ around
  around_is = ap (λ ls. record around { labels = ls }) (append-nil around.labels)

  no_more : (n : ℕ) → n + 0 ≡ n
  no_more n = omega arith

  abbrev items : ℕ → Around → Code
  items n out2 = code_of_list home ss n out2

  pub code : code_of_statement home st at around ≡ items at around
  code =
      ap (λ y. whole_by (entry_by (frame_of home) (gen.block_layer y)) (body_of (frame_of home) st) st at around) is
      ∙ ap (λ t. whole_by (if t then Some b else None) (body_of (frame_of home) st) st at around) no_objects
      ∙ ap (λ (i : Inner). i.code) (sym (shape (frame_of home) st (CoreStmt-F.Block l b [] ss) is at around))
      ∙ ap (λ t. items_code (frame_of home) (map (body_of (frame_of home)) ss) ss (at + 0) (inside around (if t then Some b else None) [] at) ++ leaving (if t then Some b else None)) no_objects
      ∙ append-nil (items (at + 0) (inside around None [] at))
      ∙ ap (λ n. items n (inside around None [] at)) (no_more at)
      ∙ ap (items at) around_is

  -- ---- where it ends

  same_home : (extra : List Born) → within inner extra ≡ within home (born ∷ extra)
  same_home extra = ap (λ bs. record home { env = record home.env { blocks = bs } }) (append_assoc home.env.blocks (born ∷ []) extra)

  placed_out : (pc : ℕ) (k : Code) → IsPlaced inner pc k → IsPlaced home pc k
  placed_out pc k p = record { before = p.before; behind = p.behind; part = p.part; there = p.there; short = p.short; near = p.near }

  stays_out : (c : Calls) (w : World) (d : Calls) (y : World) → Stays inner c w d y → Stays home c w d y
  stays_out c w d y p = record { lower = p.lower; given = p.given; callers = p.callers; words = p.words; objects = p.objects; bytes = p.bytes; foot = p.foot }

  leaving_out : (k : Home → ℕ → Code) (c : Calls) (w : World) (t : Stage) (u x : World) (d : Calls) (y : World) → Leaving inner k c w t u x d y → Leaving home k c w t (pass EndOfStatement (pass CloseBlock u)) x d y
  leaving_out k c w t u x d y p = record {
    extra = born ∷ p.extra;
    at = p.at;
    there = p.there;
    placed = subst (λ h. IsPlaced home d.regs.pc (k h p.at)) (same_home p.extra) (placed_out d.regs.pc (k (within inner p.extra) p.at) p.placed);
    stands = subst (λ h. Stands h t d y x) (same_home p.extra) p.stands;
    left = left_end (born ∷ p.extra) x (pass CloseBlock u) (left_block born p.extra x u p.left);
    stays = stays_out c w d y p.stays;
  }

  jumps_out : (o : Option Target) (c : Calls) (w : World) (t : Stage) (u x : World) (d : Calls) (y : World) → Jumps inner o c w t u x d y → Jumps home o c w t (pass EndOfStatement (pass CloseBlock u)) x d y
  jumps_out None c w t u x d y p = p
  jumps_out (Some place) c w t u x d y p = leaving_out (jump_code place) c w t u x d y p

  returning_out : (a : Answer) (c : Calls) (w : World) (t : Stage) (u x : World) (d : Calls) (y : World) → Returning inner a c w t u x d y → Returning home a c w t (pass EndOfStatement (pass CloseBlock u)) x d y
  returning_out (Plain z) c w t u x d y p = (leaving_out leaves_call c w t u x d y p.0, p.1)
  returning_out Nothing c w t u x d y p = leaving_out falls c w t u x d y p
  returning_out (Place z) c w t u x d y p = p
  returning_out (Part z n) c w t u x d y p = p

  module _ (end last : ℕ) (same : last ≡ end) (c : Calls) (w : World) (n : ℕ) (rest : Way → World → Family Answer) (after : (t : Stage) (x : Way) (u b2 : World) (d : Calls) (y : World) → Ended home around end c w t x u b2 d y → Means t n d y b2 (rest x u)) where
    -- the block closes, and the statement ends
    abbrev closed : Way → World → Family Answer
    closed way u = λ h m. rest way (pass EndOfStatement (pass CloseBlock u)) h m

    behind_closed : (t : Stage) (u : World) (d : Calls) (y : World) → Behind inner last c w t u u d y → Means t n d y u (closed Normal u)
    behind_closed t u d y p =
        let shut = block_closed home born refl out t d y u p.stands in
        unseen_means t n Executes d y u (pass CloseBlock u) (closed Normal u) (behind_end rest Normal (pass CloseBlock u)) shut.0 (λ h live m. refl)
        (at_end home around end c w n rest after t (pass CloseBlock u) d y (p.there ∙ ap (λ k. home.base + 4 * k) same) shut.1 (stays_out c w d y p.stays))

    by_way : (t : Stage) (way : Way) (u b2 : World) (d : Calls) (y : World) → Ended inner around last c w t way u b2 d y → Means t n d y b2 (closed way u)
    by_way t Normal u b2 d y p = subst (λ x. Means t n d y x (closed Normal u)) (sym p.here) (behind_closed t u d y (record { here = refl; there = p.there; stands = p.stands; stays = p.stays }))
    by_way t Broke u b2 d y p = after t Broke (pass EndOfStatement (pass CloseBlock u)) b2 d y (leaving_out (jump_code around.on_break) c w t u b2 d y p)
    by_way t Continued u b2 d y p = after t Continued (pass EndOfStatement (pass CloseBlock u)) b2 d y (leaving_out (jump_code around.on_continue) c w t u b2 d y p)
    by_way t (Jumped k) u b2 d y p = after t (Jumped k) (pass EndOfStatement (pass CloseBlock u)) b2 d y (jumps_out (labelled k around.labels) c w t u b2 d y p)
    by_way t (Returned a) u b2 d y p = after t (Returned a) (pass EndOfStatement (pass CloseBlock u)) b2 d y (returning_out a c w t u b2 d y p)

  pub block_runs : GiveWays inner most deep ss at around → GivesWay home most (suc deep) st at around
  block_runs good = λ bound dp s c w v there pl st_now. λ rest leads n le after.
      let begun : World = pass Begin v in
      let stands_b : Stands home s c w begun = stands_begun home s c w v st_now in
      let opened = block_opened home born refl out s c w begun stands_b in
      let x : World = pass (OpenBlock born) begun in
      let lags : Lags v x = lags_on v begun x (begin_lags home s c w v st_now) opened.0 in
      let end : ℕ = at + length (code_of_statement home st at around) in
      let last : ℕ = at + length (items at around) in
      let same : last ≡ end = ap (λ (k : Code). at + length k) (sym code) in
      let go : Way → World → Family Answer = closed end last same c w n rest after in
      let pl_in : IsPlaced home c.regs.pc (items at around) = placed_same home c.regs.pc c.regs.pc (code_of_statement home st at around) (items at around) refl code pl in
      unseen_means s n Executes c w v x (followed (λ h m. exec (bound m) h home.env st v) rest) (followed (λ h m. stmts_of (exec (bound m - 1) h) inner.env ss x) go) lags
      (λ h live m.
      ap (λ o. and_then o (λ y u. rest y u h m))
      (exec_layer home deep bound dp st (CoreStmt-F.Block l b [] ss) is h m v ∙ ap (λ o. and_then o (block_with (exec (bound m - 1) h) (resume (bound m - 1) h) home.env st b ss)) (no_births (block_autos home.env b) begun none))
      ∙ closes (stmts_of (exec (bound m - 1) h) inner.env ss x) (resume (bound m - 1) h) inner.env st (listed (exec (bound m - 1) h) (resume (bound m - 1) h) inner.env st l b ss is) (λ y u. rest y u h m))
      (list_runs inner most deep around (λ m. bound m - 1) (λ m. one_less deep m (bound m) (dp m)) ss at good s c w x there (placed_in c.regs.pc (items at around) pl_in) opened.1 go
      (λ way u h m. on u (pass EndOfStatement (pass CloseBlock u)) (world_after (rest way (pass EndOfStatement (pass CloseBlock u)) h m)) (on u (pass CloseBlock u) (pass EndOfStatement (pass CloseBlock u)) (one_more CloseBlock u) (one_more EndOfStatement (pass CloseBlock u))) (leads way (pass EndOfStatement (pass CloseBlock u)) h m)) n le
      (by_way end last same c w n rest after))
    where
      placed_in : (pc : ℕ) (k : Code) → IsPlaced home pc k → IsPlaced inner pc k
      placed_in pc k p = record { before = p.before; behind = p.behind; part = p.part; there = p.there; short = p.short; near = p.near }
