use Rattle.std.proofs.Common.{◌≡◌, List, refl, subst, sym}
use Rattle.sc_base.specs.declared.key.Key.{Key}
use Rattle.sc_mem.specs.Flat.{Flat}
use Rattle.sc_mem.specs.Safe.{Store}
use Rattle.sc_meaning.specs.Beside.{put_in, word_of}
use Rattle.sc_meaning.specs.Values.{cells_of}
use Rattle.sc_meaning.specs.World.{object_at, written}
use Rattle.sc_mem_store.specs.Holding.{Holds, value_at}
use Rattle.sc_mem_store.specs.Kept.{Kept}
use Rattle.sc_mem_store.proofs.Memories.{kept_is}
use Rattle.sc_mem_store.proofs.Wholes.{holds_whole, stored_whole}
use Rattle.sc_mem_store.proofs.store.Store.store_whole.Goals as goal

pub invariant_of-self : goal.invariant_of-self
invariant_of-self c =
    let s = c.self.inside in
    subst (λ (x : Store). Holds s.history.objects x.flat s.functions) (sym c.in_err-put_word.ensures.put) c.self.invariant

pub invariant_of-self-2 : goal.invariant_of-self-2
invariant_of-self-2 c =
    let s = c.self.inside in
    let word = c.in_ok-word.word in
    let v = c.args.v.now in
    let t = s.memory.flat.objects in
    let is = subst (λ (fs : List Key). word ≡ word_of fs t v) c.as_slice.ensures c.in_ok-word.ensures.word in
    let value = subst (λ (fs : List Key). value_at fs t word.tag word.bits ≡ v) c.as_slice.ensures c.in_ok-word.ensures.value in
    rw (c.after-self-inside.ensures, c.of.ensures)
    (holds_whole s.history.objects s.memory c.put_word.new.memory.flat s.functions c.args.id c.args.at c.in-Some.address c.args.size v word c.put_word.ensures.safe c.self.invariant
    c.requires c.in-Some.ensures is value c.in_ok-word.ensures.tag c.in_ok-put_word.ensures.put.0)

pub returns : goal.returns
returns c =
    let s = c.self.inside in
    let word = c.in_ok-word.word in
    let v = c.args.v.now in
    let n = c.args.size in
    let id = c.args.id in
    let at = c.args.at in
    let is = subst (λ (fs : List Key). word ≡ word_of fs s.memory.flat.objects v) c.as_slice.ensures c.in_ok-word.ensures.word in
    let memory : c.put_word.new.memory ≡ put_in s.functions id at (cells_of n v) s.memory = stored_whole s.functions s.memory c.put_word.new.memory id at c.in-Some.address n v word c.requires c.in-Some.ensures is c.in_ok-put_word.ensures.put.0 c.in_ok-put_word.ensures.put.1 in
    let new : Kept = record { objects = c.after-self-inside.result.objects; memory = c.put_word.new.memory; functions = s.functions } in
    subst (λ (k : Kept). new ≡ record { objects = written k.objects id at (cells_of n v) (object_at k.objects id); memory = put_in k.functions id at (cells_of n v) k.memory; functions = k.functions }) c.self.view_is
    (kept_is new (record { objects = written s.history.objects id at (cells_of n v) (object_at s.history.objects id); memory = put_in s.functions id at (cells_of n v) s.memory; functions = s.functions }) (rw c.of.ensures at c.after-self-inside.ensures) memory refl)
