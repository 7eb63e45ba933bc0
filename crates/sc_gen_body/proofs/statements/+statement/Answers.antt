use Rattle.std.proofs.Common.{rules, List, ◌≡◌, ℕ, ◌+◌, ◌++◌, [], ◌∷◌, length, map, take, Option, None, Some, refl, sym, ap, ◌∙◌}
use Rattle.std.specs.Prelude.{option_map}
use Rattle.sc_core.specs.declared.statement.CoreStmt.{CoreStmt, the_lemmas}
use Rattle.sc_gen_code.specs.declared.symbolic.Symbolic.{Symbolic}
use Rattle.sc_gen_body.specs.Frames.{frame_of, value}
use Rattle.sc_gen_body.specs.Statements as spec
use Rattle.sc_gen_body.specs.Jumps.{Around, entering, in_loop, in_switch, inside, leaving, start_of, with_jumps}
use Rattle.std.proofs.lemmas.Result.{IfOk-weaker, on_ok_weaker}
use Rattle.sc_core.specs.declared.statement.CoreStmt.TheVariants as v
use Rattle.sc_gen_body.specs.declared.jumps.Text.{Text}
use Rattle.sc_gen_body.proofs.Arms.{adds_block, adds_branch, adds_choice, adds_for, enters_block}
use Rattle.sc_gen_body.proofs.Patches.{tested_is}
use Rattle.sc_gen_body.proofs.Steps.{around-same, loop_known, switch_known, second_place, third_place, behind_value, behind_two, loop_at, switch_at, labels_known, words_step, words_end, places_step, places_end}
use Rattle.sc_gen_body.proofs.Rows.{block_lists, inside_is, kept, more, opened_is}
use Rattle.sc_gen_body.proofs.statements.+statement.Goals as goal

pub tested-returns : goal.tested-returns
tested-returns t c =
    let f = frame_of c.args.frame.now in
    let out = spec.around c.args.text.now c.args.exits in
    let inner = c.in_ok-statement.ensures in
    let all = tested_is _ _ _ _ _ (λ k. spec.statement_code f c.args.first.now k out) _ c.in_ok-test.ensures c.in_ok-place.ensures.opened c.in_ok-place.ensures.place inner.appended in
    record {
      added = record { appended = all.0; same_blocks = inner.same_blocks; same_labels = inner.same_labels };
      place_is = all.1;
    }

pub turns-returns : goal.turns-returns
turns-returns t c =
    let f = frame_of c.args.frame.now in
    let text = c.args.text.now in
    let first = c.in_ok-put_one.ensures ∙ ap (λ (w : Symbolic). text.code ++ w ∷ []) c.over.ensures in
    let inner = c.in_ok-statement.ensures in
    let known = loop_known text.blocks text.labels (length text.code) _ _ _ c.len-depth.ensures
    (second_place text.code c.put_one.new.code _ _ c.in_ok-put_one.ensures c.len-on_break.ensures)
    (third_place text.code c.put_one.new.code c.put_one-2.new.code _ _ _ c.in_ok-put_one.ensures c.in_ok-put_one-2.ensures c.len-on_continue.ensures) in
    let body = λ (k : ℕ). spec.statement_code f c.args.body.now k (in_loop (spec.loop_around text) (length text.code + 1)) in
    let test = λ (from top : ℕ). spec.ends_turn f (option_map (λ e. e.now) c.args.e) from top in
    record {
      appended = loop_at _ _ _ _ _ _ _ _ _ _ body _ test _ _ _ _ _ _ _ c.len-start.ensures first c.len-on_break.ensures c.in_ok-put_one-2.ensures
          c.len-on_continue.ensures c.in_ok-put_one-3.ensures c.len-top.ensures
          (inner.appended ∙ ap (λ (a : Around). c.put_one-3.new.code ++ spec.statement_code f c.args.body.now (length c.put_one-3.new.code) a) known)
          c.close.ensures c.in_ok-value_or_none.ensures c.close_unless.ensures c.in_ok-ends_turn.ensures c.close-2.ensures;
      same_blocks = inner.same_blocks;
      same_labels = inner.same_labels;
    }

pub items_from-loop-s-preserved : goal.items_from-loop-s-preserved
items_from-loop-s-preserved t c =
    let f = frame_of c.args.frame.now in
    let inv = c.loop-s.invariant in
    let one = c.in_ok-statement.ensures in
    let out = spec.around c.loop-s.text c.args.exits in
    let appended = one.appended ∙ ap (λ (s : CoreStmt). c.loop-s.text.code ++ spec.statement_code f s (length c.loop-s.text.code) out) c.get.ensures in
    let same = around-same c.loop-s.text c.args.text.now c.args.exits inv.same_blocks inv.same_labels in
    let first = spec.around c.args.text.now c.args.exits in
    record {
      words = words_step f c.args.items.now c.loop-s.s-index c.s-item.result c.loop-s.text.code c.statement.new.text.code _ first _ c.loop-s-test.true c.s-item.is same appended inv.words;
      places = places_step f c.args.items.now c.loop-s.s-index c.s-item.result c.loop-s.text.code c.statement.new.text.code c.loop-s.starts c.push.new.self _ first _ _
          c.loop-s-test.true c.s-item.is same appended c.len.ensures c.in_ok-push.ensures.ok inv.places;
      same_blocks = one.same_blocks ∙ inv.same_blocks;
      same_labels = one.same_labels ∙ inv.same_labels;
    }

pub items_from-returns : goal.items_from-returns
items_from-returns t c =
    let f = frame_of c.args.frame.now in
    let inv = c.loop-s.invariant in
    let out = spec.around c.args.text.now c.args.exits in
    record {
      places_are = places_end f c.args.items.now c.loop-s.s-index _ c.loop-s.starts _ out c.loop-s-test.false inv.places;
      added = record {
        appended = words_end f c.args.items.now c.loop-s.s-index c.loop-s.text.code _ out c.loop-s-test.false inv.words;
        same_blocks = inv.same_blocks;
        same_labels = inv.same_labels;
      };
    }

pub switch-returns : goal.switch-returns
switch-returns t c =
    let f = frame_of c.args.frame.now in
    let text = c.args.text.now in
    let own_value = value f c.args.e.now in
    let inner = c.in_ok-starts.ensures in
    let first = c.in_ok-expression.ensures in
    let word = behind_value text.code c.expression.new.code c.put_one.new.code own_value _ _ first c.in_ok-put_one.ensures c.len-on_break.ensures in
    let top = behind_two text.code c.expression.new.code c.put_one.new.code c.put_one-2.new.code own_value _ _ _ first c.in_ok-put_one.ensures c.in_ok-put_one-2.ensures c.len-top.ensures in
    let known = switch_known text.blocks text.labels c.args.exits (length text.code + length own_value + 1) _ _ c.len-depth.ensures word in
    let out = in_switch (spec.around text c.args.exits) (length text.code + length own_value + 1) in
    let own = spec.body_of f c.args.body.now c.args.body.now in
    let at = length text.code + length own_value + 2 in
    let places = inner.places_are ∙ ap (λ (a : Around). (own (length c.put_one-2.new.code) a).starts) known ∙ ap (λ (k : ℕ). (own k out).starts) (sym c.len-top.ensures ∙ top) in
    record {
      appended = switch_at _ own_value _ _ _ _ _ _ _ _ _ (λ k. (own k out).code) (λ k. spec.cases_code (spec.entry_of f c.args.body.now) (start_of at ((own at out).starts)) k None c.args.labels.now) _ _ _ _ _ _
          first c.len-to_labels.ensures c.in_ok-put_one.ensures c.len-on_break.ensures c.in_ok-put_one-2.ensures
          (inner.added.appended ∙ ap (λ (a : Around). c.put_one-2.new.code ++ (own (length c.put_one-2.new.code) a).code) known)
          c.len-to_end.ensures c.in_ok-put_one-3.ensures c.close.ensures
          (labels_known c.close.new.code c.cases.new.code _ _ _ at _ _ c.args.labels.now c.entry_of-entry.ensures top (c.as_slice.ensures ∙ places) c.in_ok-cases.ensures)
          c.close-2.ensures c.close-3.ensures;
      same_blocks = inner.added.same_blocks;
      same_labels = inner.added.same_labels;
    }

pub block-returns : goal.block-returns
block-returns t c =
    let f = frame_of c.args.frame.now in
    let text = c.args.text.now in
    let out = spec.around text c.args.exits in
    let entry = c.entered-own.result in
    let opened_labels = c.in_ok-open_labels.ensures in
    let items = c.in_ok-starts.ensures in
    let pushed = c.in_ok-open_block.ensures in
    let known = inside_is text.blocks c.open_block.new.blocks text.labels c.open_labels.new.text.labels out entry (length text.code) c.args.labels.now pushed opened_labels.more_labels refl refl
    ∙ ap (λ (o : Option ℕ). inside out o c.args.labels.now (length text.code)) c.entered-own.ensures in
    let in_block = around-same c.open_labels.new.text (record c.open_labels.new.text { blocks = c.open_block.new.blocks }) c.args.exits opened_labels.same_blocks refl in
    let all = block_lists f out (spec.around c.open_labels.new.text c.args.exits) text.code c.open_labels.new.text.code c.items_from.new.text.code c.set_labels.new.code c.leaving.new.code
    c.args.labels.now c.args.number (map (spec.body_of f) c.args.items.now) c.args.items.now c.in_ok-starts.starts
    opened_labels.appended (in_block ∙ known) items.added.appended items.places_are
    (c.set_labels.ensures ∙ ap (λ (k : ℕ). with_jumps c.items_from.new.text.code k (start_of k c.as_slice.result.now) c.args.labels.now) c.len-first.ensures
    ∙ ap (λ (xs : List ℕ). with_jumps c.items_from.new.text.code (length text.code) (start_of (length text.code) xs) c.args.labels.now) c.as_slice.ensures)
    (c.in_ok-leaving.ensures ∙ ap (λ (o : Option ℕ). c.set_labels.new.code ++ leaving o) c.entered-own.ensures) in
    record {
      places_are = all.1;
      added = record {
        appended = all.0;
        same_blocks = kept text.blocks (more entry) c.items_from.new.text.blocks c.truncate.new.self (items.added.same_blocks ∙ opened_labels.same_blocks ∙ (pushed ∙ opened_is text.blocks entry))
            (c.truncate.ensures ∙ ap (λ (k : ℕ). take k c.items_from.new.text.blocks) c.len-depth.ensures);
        same_labels = kept text.labels _ c.items_from.new.text.labels c.truncate-2.new.self (items.added.same_labels ∙ opened_labels.more_labels)
            (c.truncate-2.ensures ∙ ap (λ (k : ℕ). take k c.items_from.new.text.labels) c.len-outer.ensures);
      };
    }

pub switch-inner-requires : goal.switch-inner-requires
switch-inner-requires t c = (search (rules, the_lemmas), tt)

pub inner-returns-in-Block : goal.inner-returns-in-Block
inner-returns-in-Block t c =
    let f = frame_of c.args.frame.now in
    IfOk-weaker c.block.result _ _
    (λ found h. enters_block f c.args.s.now c.in-Block.field-0 c.in-Block.number c.in-Block.labels c.as_slice.result.now c.in-Block.items c.as_slice-in-Block.result.now
    (length c.args.text.now.code) (spec.around c.args.text.now c.args.exits) c.args.text.now c.block.new.text found c.in-Block.is c.as_slice.ensures c.as_slice-in-Block.ensures h)
    c.block.ensures

pub statement-returns-in_ok-block-in-Block : goal.statement-returns-in_ok-block-in-Block
statement-returns-in_ok-block-in-Block t c =
    let f = frame_of c.args.frame.now in
    let mid : Text = record { code = c.entering.new.code; blocks = c.args.text.now.blocks; labels = c.args.text.now.labels } in
    adds_block f c.args.s.now c.in-Block.field-0 c.in-Block.number c.in-Block.labels c.as_slice.result.now c.in-Block.items c.as_slice-in-Block.result.now
    (spec.around c.args.text.now c.args.exits) c.args.text.now mid c.block.new.text c.in_ok-block-in-Block.field-0
    c.in-Block.is c.as_slice.ensures c.as_slice-in-Block.ensures (c.in_ok-entering-in-Block.ensures ∙ ap (λ (o : Option ℕ). c.args.text.now.code ++ entering o) c.entered.ensures) refl refl c.in_ok-block-in-Block.ensures

pub statement-returns-in_ok-end-in-None : goal.statement-returns-in_ok-end-in-None
statement-returns-in_ok-end-in-None t c =
    let f = frame_of c.args.frame.now in
    let new : Text = record { code = c.close.new.code; blocks = c.tested.new.text.blocks; labels = c.tested.new.text.labels } in
    let whole : c.args.s.now ≡ v.If c.in-If.field-0 c.in-If.e c.in-If.first None = c.in-If.is ∙ ap (v.If c.in-If.field-0 c.in-If.e c.in-If.first) c.in-None.is in
    adds_branch f c.args.s.now c.in-If.field-0 c.in-If.e c.get-in-None-2.result.now c.in-If.first c.get-in-None.result.now
    (spec.around c.args.text.now c.args.exits) c.args.text.now c.tested.new.text new (c.in_ok-end-in-None).end
    whole c.get-in-None-2.ensures c.get-in-None.ensures
    (c.in_ok-end-in-None).ensures c.close.ensures refl refl

pub statement-returns-in_ok-statement-in-Some : goal.statement-returns-in_ok-statement-in-Some
statement-returns-in_ok-statement-in-Some t c =
    let f = frame_of c.args.frame.now in
    let mid = c.tested-in-Some.new.text in
    let third : Text = record { code = c.reopen.new.code; blocks = mid.blocks; labels = mid.labels } in
    let fourth = c.statement.new.text in
    let new : Text = record { code = c.close-in-Some.new.code; blocks = fourth.blocks; labels = fourth.labels } in
    let whole : c.args.s.now ≡ v.If c.in-If.field-0 c.in-If.e c.in-If.first (Some c.in-Some.other) = c.in-If.is ∙ ap (v.If c.in-If.field-0 c.in-If.e c.in-If.first) c.in-Some.is in
    adds_choice f c.args.s.now c.in-If.field-0 c.in-If.e c.get-in-Some-2.result.now c.in-If.first c.get-in-Some.result.now
    c.in-Some.other c.get-in-Some-3.result.now c.args.exits c.args.text.now mid third fourth new
    (c.in_ok-skipped-in-Some).skipped (c.in_ok-end-in-Some).end
    whole c.get-in-Some-2.ensures c.get-in-Some.ensures c.get-in-Some-3.ensures
    (c.in_ok-skipped-in-Some).ensures (c.in_ok-end-in-Some).ensures.reopened refl refl
    (c.in_ok-end-in-Some).ensures.place (c.in_ok-statement-in-Some).ensures
    c.close-in-Some.ensures refl refl

pub statement-returns-in_ok-value_or_none-in-For : goal.statement-returns-in_ok-value_or_none-in-For
statement-returns-in_ok-value_or_none-in-For t c =
    let f = frame_of c.args.frame.now in
    let mid : Text = record { code = c.value_or_none.new.code; blocks = c.args.text.now.blocks; labels = c.args.text.now.labels } in
    on_ok_weaker c.turns-in-For.result
    (adds_for f c.args.s.now c.in-For.field-0 c.in-For.before _ c.in-For.e _ c.in-For.after _ c.in-For.body c.get-in-For.result.now c.args.exits c.args.text.now mid c.turns-in-For.new.text
    c.in-For.is c.optional.ensures c.optional-in-For.ensures c.optional-in-For-2.ensures c.get-in-For.ensures c.in_ok-value_or_none-in-For.ensures refl refl)
    c.turns-in-For.ensures
