use Rattle.std.proofs.Common.{◌≡◌, length}
use Rattle.sc_image.specs.Running.{all_kept, kept_place}
use Rattle.sc_image.proofs.keeping.all_kept.Given as goal

abbrev pub invariant-keeping : goal.invariant-keeping
invariant-keeping l = all_kept (kept_place l.literals l.statics l.kept l.«module».name l.«module».object) l.left l.keeps.items ≡ all_kept (kept_place l.literals l.statics l.kept l.«module».name l.«module».object) l.«module».object.symbols l.fn.keeps.items

abbrev pub decreases-keeping : goal.decreases-keeping
decreases-keeping l = length l.left
