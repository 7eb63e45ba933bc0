use Rattle.std.proofs.Common.{◌∙◌, ap, sym, refl}
use Rattle.sc_words.specs.declared.stop.StopAt.TheVariants.{InFun}
use Rattle.sc_world.proofs.Found.{line_of, line_marked, function_marked}
use Rattle.sc_world.proofs.marks.mark.Goals as goal

pub returns-in_ok-insert-in-AtLine : goal.returns-in_ok-insert-in-AtLine
returns-in_ok-insert-in-AtLine c = λ before found.
    line_marked c.args.places.now (record { lines = c.insert.new.self; functions = c.args.places.now.functions }) before c.args.stop.now
    (line_of c.in-AtLine.home c.in-AtLine.line) c.in-AtLine.is c.in_ok-insert-in-AtLine.ensures.updates.0 (λ q. refl) found

pub returns-in_ok-insert-in-InFun : goal.returns-in_ok-insert-in-InFun
returns-in_ok-insert-in-InFun c = λ before found.
    function_marked c.args.places.now (record { lines = c.args.places.now.lines; functions = c.insert-in-InFun.new.self }) before c.args.stop.now
    (record { home = c.as_ref-home.result; name = record { ref_ptr = (0, 0); now = c.in-InFun.name } })
    (c.in-InFun.is ∙ ap (λ m. InFun m c.in-InFun.name) (sym c.as_ref-home.ensures.value))
    (λ q. refl) c.in_ok-insert-in-InFun.ensures.updates.0 found
