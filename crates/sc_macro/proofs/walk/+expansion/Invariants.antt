use Rattle.std.proofs.Common.{◌≡◌, ◌+◌, ◌-◌, ◌*◌, ◌≤◌, [], length}
use Rattle.sc_macro.specs.Expansion.{walk, prepend, expand, arguments}
use Rattle.sc_macro.specs.Moving.{left_over}
use Rattle.sc_macro.proofs.walk.+expansion.Given as goal

-- a list before its names' arguments, these after their replacement
abbrev pub decreases-expand_at : goal.decreases-expand_at
decreases-expand_at l = 6 * l.depth

abbrev pub decreases-replace : goal.decreases-replace
decreases-replace l = 6 * l.depth + 5

abbrev pub decreases-replace_call : goal.decreases-replace_call
decreases-replace_call l = 6 * l.depth + 4

abbrev pub decreases-expand_arguments : goal.decreases-expand_arguments
decreases-expand_arguments l = 6 * l.depth + 3

abbrev pub decreases-expand_argument : goal.decreases-expand_argument
decreases-expand_argument l = 6 * l.depth + 2

abbrev pub decreases-expand_made : goal.decreases-expand_made
decreases-expand_made l = 6 * l.depth + 1

abbrev pub invariant-expand_arguments-expanding : goal.invariant-expand_arguments-expanding
invariant-expand_arguments-expanding l = record {
  gives : arguments (expand l.macros l.depth l.line) l.wanted l.left l.done l.waiting ≡ arguments (expand l.macros l.depth l.line) l.wanted l.fn.left [] l.fn.arguments;
  stays : left_over l.moves l.arguments l.waiting ≡ left_over l.moves [] l.fn.arguments;
  falls : l.left ≤ l.fn.left;
}

abbrev pub decreases-expand_arguments-expanding : goal.decreases-expand_arguments-expanding
decreases-expand_arguments-expanding l = length l.waiting

abbrev pub invariant-expand_at-walking : goal.invariant-expand_at-walking
invariant-expand_at-walking l = record {
  gives : prepend l.out (walk l.macros (expand l.macros (l.depth - 1)) l.fuel l.left l.rest) ≡ expand l.macros l.depth l.line l.fn.left l.fn.tokens;
  enough : l.left ≤ l.fuel;
  falls : l.left ≤ l.fn.left;
}

abbrev pub decreases-expand_at-walking : goal.decreases-expand_at-walking
decreases-expand_at-walking l = l.fuel
