use Rattle.std.proofs.Common.{◌-◌, ◌∙◌, arith, rules}
use Rattle.sc_pp.specs.Preprocessing.{reading}
use Rattle.sc_pp.specs.Asked.{asked}
use Rattle.sc_pp.proofs.Entering as entering
use Rattle.sc_pp.proofs.Naming as naming
use Rattle.sc_pp.proofs.reading.+reading.Goals as goal

pub include-returns-in-Err-clause-gives : goal.include-returns-in-Err-clause-gives
include-returns-in-Err-clause-gives g m c map k r q =
    entering.not_fetched map (reading map (c.args.depth - 1)) c.args.place.now c.args.state.now c.args.wanted.now r (c.in-Err.ensures.gives map k r q)

pub include-returns-in-Err-clause-blames : goal.include-returns-in-Err-clause-blames
include-returns-in-Err-clause-blames g m c name e = entering.blamed c.in-Err.failure name _ _ c.in-Err.ensures.blames e

pub include-returns-in-Err-open-clause-gives : goal.include-returns-in-Err-open-clause-gives
include-returns-in-Err-open-clause-gives g m c map k r q =
    entering.not_opened map (reading map (c.args.depth - 1)) c.args.place.now c.args.state.now c.args.wanted.now c.in-Ok.text r (c.in-Ok.ensures.gives map k) (entering.unraised _ c.in-Err-open.fault c.raised.result c.in-Err-open.ensures.yields c.raised.ensures r q)

pub include-returns-in-Err-open-clause-blames : goal.include-returns-in-Err-open-clause-blames
include-returns-in-Err-open-clause-blames g m c name e = entering.no_blame c.in-Err-open.fault c.raised.result name _ _ c.raised.ensures e

pub include-read_lines-requires : goal.include-read_lines-requires
include-read_lines-requires g m c =
    let ready = entering.ready_of c.in-Ok-open.opened c.in-Some.file c.in-Ok-open.ensures.ready c.in-Some.is in
    search rules

pub include-returns-in-None-clause-gives : goal.include-returns-in-None-clause-gives
include-returns-in-None-clause-gives g m c map k =
    entering.not_entered map (reading map (c.args.depth - 1)) c.args.place.now c.args.state.now c.args.wanted.now c.in-Ok.text c.open.new.state c.in-Ok-open.opened (c.in-Ok.ensures.gives map k) c.in-Ok-open.ensures.yields c.in-None.is

pub include-returns-in-Some-clause-gives : goal.include-returns-in-Some-clause-gives
include-returns-in-Some-clause-gives g m c map k =
    entering.file_entered map (reading map (c.args.depth - 1)) c.args.place.now c.args.state.now c.args.wanted.now c.in-Ok.text c.open.new.state c.read_lines.new.state c.in-Ok-open.opened c.in-Some.file c.read_lines.result (c.in-Ok.ensures.gives map k) c.in-Ok-open.ensures.yields c.in-Some.is (c.read_lines.ensures.gives map (c.in-Ok.ensures.held ∙ k))

pub include-returns-in-Some-clause-blames : goal.include-returns-in-Some-clause-blames
include-returns-in-Some-clause-blames g m c name e = entering.rose_later _ _ _ c.in-Ok.ensures.later (c.read_lines.ensures.blames name e)

pub take_line-returns-in-Err-clause-gives : goal.take_line-returns-in-Err-clause-gives
take_line-returns-in-Err-clause-gives g m c map k r q =
    entering.one_fails (reading map c.args.depth) c.args.place.now c.args.state.now c.args.frames.now c.args.line r (entering.unraised _ c.in-Err.fault c.raised.result (c.in-Err.ensures) c.raised.ensures r q)

pub take_line-returns-in-Err-clause-blames : goal.take_line-returns-in-Err-clause-blames
take_line-returns-in-Err-clause-blames g m c name e = entering.no_blame c.in-Err.fault c.raised.result name _ _ c.raised.ensures e

pub take_line-returns-in-None-clause-gives : goal.take_line-returns-in-None-clause-gives
take_line-returns-in-None-clause-gives g m c map k =
    entering.one_done (reading map c.args.depth) c.args.place.now c.args.state.now c.args.frames.now c.args.line c.turn.new.state c.turn.new.frames c.in-Ok.turned (c.in-Ok.ensures) c.in-None.is

pub take_line-returns-in-Some-clause-gives : goal.take_line-returns-in-Some-clause-gives
take_line-returns-in-Some-clause-gives g m c map k =
    entering.one_reads (reading map c.args.depth) c.args.place.now c.args.state.now c.args.frames.now c.args.line c.turn.new.state c.read_line.new.state c.turn.new.frames c.in-Ok.turned c.in-Some.directive c.read_line.result (c.in-Ok.ensures) c.in-Some.is (c.read_line.ensures.gives map k)

pub read_line-returns-in-Err-clause-gives : goal.read_line-returns-in-Err-clause-gives
read_line-returns-in-Err-clause-gives g m c map k r q =
    entering.line_fails map c.args.depth c.args.place.now c.args.state.now c.args.directive.now r (entering.unraised _ c.in-Err.fault c.raised.result c.in-Err.ensures.yields c.raised.ensures r q)

pub read_line-returns-in-Err-clause-blames : goal.read_line-returns-in-Err-clause-blames
read_line-returns-in-Err-clause-blames g m c name e = entering.no_blame c.in-Err.fault c.raised.result name _ _ c.raised.ensures e

pub read_line-include-requires : goal.read_line-include-requires
read_line-include-requires g m c =
    let deep = entering.deep_of c.in-Ok.wanted c.in-Some.wanted c.args.depth c.in-Ok.ensures.deep c.in-Some.is in
    search rules

pub read_line-returns-in-None-clause-gives : goal.read_line-returns-in-None-clause-gives
read_line-returns-in-None-clause-gives g m c map k =
    entering.no_file_read map c.args.depth c.args.place.now c.args.state.now c.args.directive.now c.simple.new.state c.in-Ok.wanted c.in-Ok.ensures.yields c.in-None.is

pub read_line-returns-in-Some-clause-gives : goal.read_line-returns-in-Some-clause-gives
read_line-returns-in-Some-clause-gives g m c map k =
    entering.file_reads map c.args.depth c.args.place.now c.args.state.now c.args.directive.now c.simple.new.state c.include.new.state c.in-Ok.wanted c.in-Some.wanted c.include.result (entering.deep_of c.in-Ok.wanted c.in-Some.wanted c.args.depth c.in-Ok.ensures.deep c.in-Some.is) c.in-Ok.ensures.yields c.in-Some.is (c.include.ensures.gives map k)

pub read_lines-lines-preserved : goal.read_lines-lines-preserved
read_lines-lines-preserved g m c = record {
  gives = λ map k. entering.goes_on (reading map c.args.depth) c.args.place.now c.lines.state c.lines.frames c.in-Some.line c.pop.new.self c.lines.lines c.take_line.new.state c.take_line.new.frames _ c.in-Some.ensures (c.lines.invariant.gives map k) (c.in-Ok.ensures.gives map (c.lines.invariant.held ∙ k));
  names = λ map k. naming.rest_within (reading map c.args.depth) (asked map c.args.depth) c.args.place.now c.lines.state c.lines.frames c.in-Some.line c.pop.new.self c.lines.lines _ c.in-Some.ensures (c.lines.invariant.names map k) c.take_line.new.state c.take_line.new.frames (c.in-Ok.ensures.gives map (c.lines.invariant.held ∙ k));
  held = c.in-Ok.ensures.held ∙ c.lines.invariant.held;
  later = omega (arith, c.in-Ok.ensures.later, c.lines.invariant.later);
}

pub read_lines-returns-in-Err-clause-gives : goal.read_lines-returns-in-Err-clause-gives
read_lines-returns-in-Err-clause-gives g m c map k r q =
    entering.at_fault (reading map c.args.depth) c.args.place.now c.args.state.now c.args.lines r c.requires
    (entering.fails_at (reading map c.args.depth) c.args.place.now c.lines.state c.lines.frames c.in-Some.line c.pop.new.self c.lines.lines r _ c.in-Some.ensures (c.lines.invariant.gives map k) (c.in-Err.ensures.gives map (c.lines.invariant.held ∙ k) r q))

pub read_lines-returns-in-Err-clause-blames : goal.read_lines-returns-in-Err-clause-blames
read_lines-returns-in-Err-clause-blames g m c name e = entering.rose_later _ _ _ c.lines.invariant.later (c.in-Err.ensures.blames name e)

pub read_lines-returns-clause-gives : goal.read_lines-returns-clause-gives
read_lines-returns-clause-gives g m c map k =
    entering.at_end (reading map c.args.depth) c.args.place.now c.args.state.now c.lines.state c.lines.frames c.lines.lines c.args.lines c.requires c.in_default.ensures.0 (c.lines.invariant.gives map k)

pub include-returns-in-Err-clause-names : goal.include-returns-in-Err-clause-names
include-returns-in-Err-clause-names g m c map k =
    naming.fetched_names map (reading map (c.args.depth - 1)) (asked map (c.args.depth - 1)) c.args.place.now c.args.state.now c.args.wanted.now c.in-Err.failure c.in-Err.ensures.names

pub include-returns-in-Err-open-clause-names : goal.include-returns-in-Err-open-clause-names
include-returns-in-Err-open-clause-names g m c map k = naming.none_raised c.in-Err-open.fault c.raised.result _ c.raised.ensures

pub include-returns-in-Some-clause-names : goal.include-returns-in-Some-clause-names
include-returns-in-Some-clause-names g m c map k =
    naming.entered_names map (reading map (c.args.depth - 1)) (asked map (c.args.depth - 1)) c.args.place.now c.args.state.now c.args.wanted.now c.in-Ok.text c.open.new.state c.in-Ok-open.opened c.in-Some.file c.read_lines.result (c.in-Ok.ensures.gives map k) c.in-Ok-open.ensures.yields c.in-Some.is (c.read_lines.ensures.names map (c.in-Ok.ensures.held ∙ k))

pub take_line-returns-in-Err-clause-names : goal.take_line-returns-in-Err-clause-names
take_line-returns-in-Err-clause-names g m c map k = naming.none_raised c.in-Err.fault c.raised.result _ c.raised.ensures

pub take_line-returns-in-Some-clause-names : goal.take_line-returns-in-Some-clause-names
take_line-returns-in-Some-clause-names g m c map k =
    naming.turn_names (asked map c.args.depth) c.args.place.now c.args.state.now c.turn.new.state c.args.frames.now c.turn.new.frames c.args.line c.in-Ok.turned c.in-Some.directive c.read_line.result c.in-Ok.ensures c.in-Some.is (c.read_line.ensures.names map k)

pub read_line-returns-in-Err-clause-names : goal.read_line-returns-in-Err-clause-names
read_line-returns-in-Err-clause-names g m c map k = naming.none_raised c.in-Err.fault c.raised.result _ c.raised.ensures

pub read_line-returns-in-Some-clause-names : goal.read_line-returns-in-Some-clause-names
read_line-returns-in-Some-clause-names g m c map k =
    naming.line_names map c.args.depth c.args.place.now c.args.state.now c.simple.new.state c.args.directive.now c.in-Ok.wanted c.in-Some.wanted c.include.result (entering.deep_of c.in-Ok.wanted c.in-Some.wanted c.args.depth c.in-Ok.ensures.deep c.in-Some.is) c.in-Ok.ensures.yields c.in-Some.is (c.include.ensures.names map k)

pub read_lines-returns-in-Err-clause-names : goal.read_lines-returns-in-Err-clause-names
read_lines-returns-in-Err-clause-names g m c map k =
    naming.line_within (reading map c.args.depth) (asked map c.args.depth) c.args.place.now c.lines.state c.lines.frames c.in-Some.line c.pop.new.self c.lines.lines _ c.in-Some.ensures (c.lines.invariant.names map k) c.in-Err.failure (c.in-Err.ensures.names map (c.lines.invariant.held ∙ k))
