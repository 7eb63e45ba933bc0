use Rattle.std.proofs.Common.{◌++◌, ◌∙◌, sym, ap}
use Rattle.sc_macro.proofs.reading.Reading.next.Goals as goal

pub returns-in-Some : goal.returns-in-Some
returns-in-Some c = (c.in-Some.ensures.0 ++ c.self.inside.left.now, sym (ap (λ v. v.1) c.self.view_is) ∙ ap (λ ms. ms ++ c.self.inside.left.now) c.in-Some.ensures.1)
