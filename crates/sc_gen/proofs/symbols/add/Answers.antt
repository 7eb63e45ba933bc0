use Rattle.std.proofs.Common.{rules, ◌≡◌, ap, ℕ, None, refl}
use Rattle.std.specs.HashMap.{get}
use Rattle.sc_gen_code.specs.declared.symbolic.Target.{Target}
use Rattle.sc_gen_code.specs.declared.symbolic.Target.TheVariants.{Named, Literal}
use Rattle.sc_gen_code.specs.contracts.symbolic.TargetPartialEq.TheImpl.{eq-value}
use Rattle.sc_gen_expr.specs.Words.{target_eq}
use Rattle.sc_gen.specs.declared.symbols.Home.{Home}
use Rattle.sc_gen.specs.Objects.{home}
use Rattle.sc_gen.proofs.Lookups.{home_added, absent}
use Rattle.sc_gen.proofs.symbols.add.Goals as goal

-- the derived test is the one of the definitions
agree : (a b : Target) → eq-value.it a b ≡ target_eq a b
agree (Named a) (Named b) = refl
agree (Named a) (Literal n) = refl
agree (Literal m) (Named b) = refl
agree (Literal m) (Literal n) = refl

pub returns-in_ok-insert : goal.returns-in_ok-insert
returns-in_ok-insert c =
    let none : get eq-value.it c.args.homes.now c.in_ok-target.target ≡ None = absent _ (search rules) in
    let own : Home = record { section = c.fitted.result; kind = c.args.d.now.kind; size = c.args.d.now.size } in
    let is : own ≡ home c.args.n c.args.d.now = ap (λ (k : ℕ). record { section = k; kind = c.args.d.now.kind; size = c.args.d.now.size }) c.fitted.ensures in
    home_added (λ eq. get eq c.args.homes.now) (λ eq. get eq c.insert.new.self) eq-value.it c.args.d.now c.args.n c.in_ok-target.target own agree c.in_ok-target.ensures is none
    c.in_ok-insert.ensures.updates.0
