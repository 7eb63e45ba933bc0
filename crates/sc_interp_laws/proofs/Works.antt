-- Work is only added.
use Rattle.std.proofs.Common.{◌≡◌, ℕ, ◌+◌, ◌≤◌, List, [], ◌∷◌, ◌++◌, ap, ◌∙◌, arith}
use Rattle.sc_meaning.specs.World.{World, Item, Work, pass, work, work_of, tick}
use Rattle.sc_meaning.specs.Laws.{Leads}
use Rattle.sc_meaning.proofs.Trails.{trail-passed}
use Rattle.sc_interp_laws.specs.Paid.{done}

pub work-append : (is js : List Item) → work (is ++ js) ≡ work is + work js
work-append [] js = omega arith
work-append (i ∷ is) js =
    let e : work (is ++ js) ≡ work is + work js = work-append is js in
    omega (arith, e)

sum_more : (a b c : ℕ) → a ≡ b + c → b ≤ a
sum_more a b c e = omega (arith, e)

pub leads_work : (w v : World) → Leads w v → done w ≤ done v
leads_work w v l = sum_more (done v) (done w) (work l.0) (ap (λ u. work u.trail) l.1 ∙ ap work (trail-passed l.0 w) ∙ work-append w.trail l.0)

pub pass_work : (i : Item) (w : World) → done (pass i w) ≡ done w + work_of i
pass_work i w =
    let e : work (w.trail ++ i ∷ []) ≡ work w.trail + (work_of i + 0) = work-append w.trail (i ∷ []) in
    omega (arith, e)

pub tick_work : (w : World) → done (tick w) ≡ done w + 1
tick_work w = pass_work (Work 1) w
