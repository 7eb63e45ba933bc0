use Rattle.std.proofs.Common.{rules, ◌≡◌, ◌+◌, ◌<◌, List, [], ◌∷◌, sym, ap, subst, ◌∙◌}
use Rattle.std.specs.Option.{IsSome}
use Rattle.sc_base.specs.declared.key.Key.{Key}
use Rattle.sc_objects.specs.Numbered.{IsLive}
use Rattle.sc_mem.specs.Flat.{Flat, place, written_at}
use Rattle.sc_mem_store.specs.Holding.{Holds, meant}
use Rattle.sc_mem_store.proofs.Holding.{holds_put}
use Rattle.sc_mem_store.proofs.store.Store.put_byte.Goals as goal

pub invariant_of-self : goal.invariant_of-self
invariant_of-self c =
    let s = c.self.inside in
    subst (λ (m : Flat). Holds s.history.objects m s.functions) (sym c.in_err-put_cell.ensures.cell) c.self.invariant

pub invariant_of-self-2 : goal.invariant_of-self-2
invariant_of-self-2 c =
    let s = c.self.inside in
    let m = s.memory.flat in
    let p = c.in-Some.object in
    let at = c.args.at in
    let stored = c.in_ok-stored.stored in
    let put = c.in_ok-put_cell.ensures.cell in
    let live : IsLive m.objects c.args.id p = search rules in
    let few : at < p.size = search rules in
    let place_is : c.in-Some-checked_add.address ≡ p.base + at = search rules in
    let area : IsSome (place m (p.base + at) 1) = subst (λ a. IsSome (place m a 1)) place_is put.0 in
    let is : c.put_cell.new.memory.flat ≡ written_at m (place m (p.base + at) 1) (stored ∷ []) = put.1 ∙ ap (λ a. written_at m (place m a 1) (stored ∷ [])) place_is in
    let means = subst (λ (fs : List Key). meant fs m.objects stored ≡ c.args.cell.now) c.as_slice.ensures c.in_ok-stored.ensures.cell in
    rw (c.after-self-inside.ensures, c.of.ensures)
    (holds_put s.history.objects s.memory c.put_cell.new.memory.flat s.functions c.args.id p at stored c.args.cell.now c.put_cell.ensures.safe c.self.invariant
    live few area is means c.in_ok-stored.ensures.tag)
