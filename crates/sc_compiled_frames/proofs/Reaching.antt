-- Where no rule of an access is broken, its address is that of bytes of a live object.
use Rattle.std.proofs.Common.{◌≡◌, ℕ, ◌+◌, ◌-◌, ◌%◌, ◌<◌, ◌≤◌, Bool, true, false, not, List, None, refl, sym, subst, ◌∙◌, arith}
use Rattle.std.specs.Prelude.{nat_lt}
use Rattle.std.proofs.lemmas.Bool.Decides.{nat_tests}
use Rattle.sc_base.specs.declared.key.Key.{Key}
use Rattle.sc_base.specs.declared.memory.Word.{Word}
use Rattle.sc_rules.specs.Orders.{load, store}
use Rattle.sc_mem.specs.Flat.{Flat}
use Rattle.sc_emu.specs.Operations.{sum}
use Rattle.sc_meaning.specs.Values.{Value, Number, FunctionAt, Pointer}
use Rattle.sc_meaning.specs.World.{Object}
use Rattle.sc_meaning.specs.Expressions.{Answer, Plain, Place, Part, Nothing, base_of, further_of}
use Rattle.sc_meaning.specs.Violations.{is_null, is_dead, is_outside, of_object}
use Rattle.sc_mem_agree.specs.Agreement.{StandsFor}
use Rattle.sc_mem_store.specs.Holding.{Holds}
use Rattle.sc_mem_store.proofs.Holding.{held-at}
use Rattle.sc_compiled_frames.specs.Means.{IsWord}
use Rattle.sc_compiled_frames.specs.Words.{AreSeated}
use Rattle.sc_compiled_frames.specs.Reached.{Reached}

-- no test of a load, or of a store, holds
pub load_tests : (a b c d e f : Bool) → load a b c d e f ≡ None → (a ≡ false) × (b ≡ false) × (c ≡ false) × (d ≡ false) × (e ≡ false) × (f ≡ false)
load_tests true b c d e f h = absurd (cc (h))
load_tests false true c d e f h = absurd (cc (h))
load_tests false false true d e f h = absurd (cc (h))
load_tests false false false true e f h = absurd (cc (h))
load_tests false false false false true f h = absurd (cc (h))
load_tests false false false false false true h = absurd (cc (h))
load_tests false false false false false false h = (refl, refl, refl, refl, refl, refl)

pub store_tests : (a b c d e : Bool) → store a b c d e ≡ None → (a ≡ false) × (b ≡ false) × (c ≡ false) × (d ≡ false) × (e ≡ false)
store_tests true b c d e h = absurd (cc (h))
store_tests false true c d e h = absurd (cc (h))
store_tests false false true d e h = absurd (cc (h))
store_tests false false false true e h = absurd (cc (h))
store_tests false false false false true h = absurd (cc (h))
store_tests false false false false false h = (refl, refl, refl, refl, refl)

alive : (b : Bool) → not b ≡ false → b ≡ true
alive true e = refl
alive false e = absurd (cc (e))

short : (size reach : ℕ) → nat_lt size reach ≡ false → reach ≤ size
short size reach e = grind (arith, nat_tests, e)

-- so far behind a base an address lies that its offset says
pub address_is : (base size y i further n : ℕ) → base + size < 4294967296 → y < 4294967296 → (y + (4294967296 - base)) % 4294967296 ≡ i → i + further + n ≤ size → (y + further) % 4294967296 ≡ base + (i + further)
address_is base size y i further n top small is le = omega (arith, top, small, is, le)

module _ (f : Key → ℕ) (fs : List Key) (os : List Object) (m : Flat) (holds : Holds os m fs) (seated : AreSeated m.objects) (n : ℕ) (x : Word) where
  from_word : (y : Word) (v : Value) (further : ℕ) → StandsFor f m.objects y v → x.bits ≡ sum y.bits further → is_null v ≡ false → is_dead os v ≡ false → is_outside os v further n ≡ false → Reached m.objects v further n x
  from_word y (Number k) further s is null dead outside = absurd (cc (outside))
  from_word y (FunctionAt k) further s is null dead outside = absurd (cc (outside))
  from_word y (Pointer o i) further s is null dead outside =
      let p = s.0 in
      let (ob, e, held) = held-at os m fs o p holds s.2 in
      let live : ob.live ≡ true = alive ob.live (subst (λ q. of_object false (λ o. not o.live) q ≡ false) e dead) in
      let le : i + further + n ≤ ob.size = short ob.size (i + further + n) (subst (λ q. of_object true (λ o. nat_lt o.size (i + further + n)) q ≡ false) e outside) in
      let le2 : i + further + n ≤ p.size = subst (λ k. i + further + n ≤ k) (sym held.size) le in
      record {
        id = o;
        offset = i;
        object = p;
        into = refl;
        live = (s.2, held.live ∙ live);
        there = is ∙ address_is p.base p.size y.bits i further n (seated o p s.2).1 s.3 s.4 le2;
        inside = le2;
      }

  no_null : (A : Type 0) → is_null (Number 0) ≡ false → A
  no_null A e = absurd (cc (e))

  whole : (v : Value) → StandsFor f m.objects x v → is_outside os v 0 n ≡ false → x.bits ≡ sum x.bits 0
  whole (Number k) s outside = absurd (cc (outside))
  whole (FunctionAt k) s outside = absurd (cc (outside))
  whole (Pointer o i) s outside = let lt = s.3 in omega (arith, lt)

  pub reached : (a : Answer) → IsWord f m.objects a x → is_null (base_of a) ≡ false → is_dead os (base_of a) ≡ false → is_outside os (base_of a) (further_of a) n ≡ false → Reached m.objects (base_of a) (further_of a) n x
  reached (Plain v) s null dead outside = from_word x v 0 s.stands (whole v s.stands outside) null dead outside
  reached (Place v) s null dead outside = from_word x v 0 s.stands (whole v s.stands outside) null dead outside
  reached (Part v k) s null dead outside = from_word s.0 v k s.1.stands s.2 null dead outside
  reached Nothing s null dead outside = absurd (cc (null))
