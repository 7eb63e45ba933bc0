use Rattle.std.proofs.Common.{◌-◌, length, drop, ◌∙◌, ap, arith}
use Rattle.sc_check_declare.proofs.Rows.{one-less}
use Rattle.sc_check_declare.proofs.space.NameSpace.leave.Goals as goal

pub loop-self-preserved : goal.loop-self-preserved
loop-self-preserved g c =
    ap (λ s. drop (length s - c.args.began) s) c.forget.ensures
    ∙ one-less c.loop-self.self c.args.began (omega (arith, c.loop-self-test.true, c.len.ensures))
    ∙ c.loop-self.invariant
