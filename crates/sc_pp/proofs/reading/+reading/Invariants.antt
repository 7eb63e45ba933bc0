use Rattle.std.proofs.Common.{◌≡◌, ◌+◌, ◌*◌, ◌≤◌, [], length}
use Rattle.sc_pp.specs.declared.state.State.{State}
use Rattle.sc_pp.specs.Directives.{test}
use Rattle.sc_pp.specs.Preprocessing.{reading}
use Rattle.sc_pp.specs.Reader.{run}
use Rattle.sc_pp.specs.Answers.{Known}
use Rattle.sc_pp.specs.Asked.{by_lines, asked}
use Rattle.sc_pp.proofs.Naming.{IsWithin}
use Rattle.sc_pp.proofs.reading.+reading.Given as goal

abbrev pub decreases-read_lines : goal.decreases-read_lines
decreases-read_lines g l = 4 * l.depth + 3

abbrev pub decreases-take_line : goal.decreases-take_line
decreases-take_line g l = 4 * l.depth + 2

abbrev pub decreases-read_line : goal.decreases-read_line
decreases-read_line g l = 4 * l.depth + 1

abbrev pub decreases-include : goal.decreases-include
decreases-include g l = 4 * l.depth

-- what is left of the lines goes on as the whole did
abbrev pub invariant-read_lines-lines : goal.invariant-read_lines-lines
invariant-read_lines-lines g l = record {
  gives : Known (g.F.Files.held l.fn.files) (λ map. run State l.place.name (test l.place) (reading map l.depth l.place) l.lines l.state l.frames ≡ run State l.place.name (test l.place) (reading map l.depth l.place) l.fn.lines l.fn.state []);
  names : Known (g.F.Files.held l.fn.files) (λ map. IsWithin (by_lines (reading map l.depth) (asked map l.depth) l.place l.lines l.state l.frames) (by_lines (reading map l.depth) (asked map l.depth) l.place l.fn.lines l.fn.state []));
  held : g.F.Files.held l.files ≡ g.F.Files.held l.fn.files;
  later : g.F.Files.faults l.fn.files ≤ g.F.Files.faults l.files;
}

abbrev pub decreases-read_lines-lines : goal.decreases-read_lines-lines
decreases-read_lines-lines g l = length l.lines
