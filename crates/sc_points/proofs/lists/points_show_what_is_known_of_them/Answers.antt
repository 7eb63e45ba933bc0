use Rattle.sc_points.proofs.Tells.{point_tells}
use Rattle.sc_points.proofs.lists.points_show_what_is_known_of_them.Goals as goal

pub returns : goal.returns
returns c = point_tells
