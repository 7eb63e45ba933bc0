use Rattle.std.proofs.Common.{◌≡◌, ◌-◌, ◌<◌, ◌∷◌, ◌++◌, length, take, drop, sym, ◌∙◌, ap, arith}
use Rattle.sc_check_declare.proofs.Rows.{one-taken}
use Rattle.sc_check_declare.proofs.space.NameSpace.take_scope.Goals as goal

pub loop-alloc-preserved : goal.loop-alloc-preserved
loop-alloc-preserved g c =
    let rows = c.loop-alloc.rows in
    let rest = c.take_row.new.self in
    let row = c.in_ok-row.row in
    let began = c.args.began in
    let is : c.loop-alloc.self ≡ row ∷ rest = c.in_ok-row.ensures in
    let count = ap length is in
    let step = one-taken rows rest row began (omega (arith, c.loop-alloc-test.true, c.len.ensures, count)) in (
      ap (λ xs. xs ++ take (length rest - began) rest) c.in_ok-push.ensures.ok ∙ step.0
          ∙ ap (λ xs. rows ++ take (length xs - began) xs) (sym is) ∙ c.loop-alloc.invariant.0,
      step.1 ∙ ap (λ xs. drop (length xs - began) xs) (sym is) ∙ c.loop-alloc.invariant.1,
    )
