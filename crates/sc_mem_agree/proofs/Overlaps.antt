-- Ranges with a byte in common.
use Rattle.std.proofs.Common.{◌≡◌, ℕ, ◌+◌, ◌==◌, ◌&&◌, List, refl}
use Rattle.std.specs.Prelude.{nat_lt, min, max}
use Rattle.sc_base.specs.declared.key.Key.{Key}
use Rattle.sc_base.specs.declared.memory.Word.{Word}
use Rattle.sc_objects.specs.declared.objects.Obj.{Obj}
use Rattle.sc_mem.specs.Violations.{offset_in}
use Rattle.sc_mem.specs.Comparisons.{is_overlapping}
use Rattle.sc_meaning.specs.Values.{Pointer}
use Rattle.sc_meaning.specs.Violations as meaning
use Rattle.sc_mem_agree.specs.Agreement.{StandsFor}
use Rattle.sc_mem_agree.proofs.Tests.{offset_is}

ranges : (a n b m i j k l o p : ℕ) → a ≡ i → b ≡ j → k ≡ o → l ≡ p → ((k == l) && nat_lt (max a b) (min (a + n) (b + m))) ≡ ((o == p) && nat_lt (max i j) (min (i + n) (j + m)))
ranges a n b m i j k l o p g h e d = rw g (rw h (rw e (rw d refl)))

-- U18
pub overlap_same : (f : Key → ℕ) (t : List Obj) (w x : Word) (o i n p j m : ℕ) → StandsFor f t w (Pointer o i) → StandsFor f t x (Pointer p j) → is_overlapping t w n x m ≡ meaning.is_overlapping (Pointer o i) n (Pointer p j) m
overlap_same f t w x o i n p j m s r = ranges (offset_in t w) n (offset_in t x) m i j w.tag x.tag o p (offset_is f t w o i s) (offset_is f t x p j r) s.1 r.1
