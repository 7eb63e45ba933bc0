-- How many bytes an object has, by what is known of it.
use Rattle.std.proofs.Common.{◌≡◌, ℕ, Bool, Option, Some, None, sym, ap, ◌∙◌}
use Rattle.sc_base.specs.declared.memory.Kind.{Kind}
use Rattle.sc_meaning.specs.Library.{size_of}
use Rattle.sc_meaning.specs.World.{Object}

pub size_so : (q : Option Object) (size : ℕ) (kind : Kind) (live : Bool) → (o : Object) × (q ≡ Some o) × (size ≡ o.size) × (kind ≡ o.kind) × (live ≡ o.live) → size ≡ size_of q
size_so q size kind live (o, is, s, k, l) = s ∙ sym (ap size_of is)

pub none_so : (q : Option Object) → q ≡ None → 0 ≡ size_of q
none_so q is = sym (ap size_of is)
