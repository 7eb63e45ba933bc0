-- The premises can be met: a memory with one object whose words are values, and the word that points to it.
use Rattle.std.proofs.Common.{ℕ, true, false, List, [], ◌∷◌, refl, arith}
use Rattle.sc_base.specs.declared.key.Key.{Key}
use Rattle.sc_objects.specs.declared.objects.Obj.{Obj}
use Rattle.sc_mem.specs.Flat.{Flat, with_birth}
use Rattle.sc_mem.specs.Flat.{fresh as empty}
use Rattle.sc_meaning.specs.World.{Object, fresh}
use Rattle.sc_meaning.specs.Statements.{auto_kind}
use Rattle.sc_meaning.specs.Values.{Pointer}
use Rattle.sc_compiled_frames.specs.Means.{Means}
use Rattle.sc_compiled_frames.specs.Words.{HeldWords}
use Rattle.sc_compiled_frames.proofs.Changes.{one_birth}
use Rattle.sc_compiled_frames.proofs.Living.{begins, words_born, nothing_there}
use Rattle.sc_compiled_frames.proofs.Worlds.{no_blocks, tiled}

abbrev one : Obj
one = record { size = 4; kind = auto_kind false; base = 0x1FFFFFF0; live = true }

-- a memory with one object of four bytes, in the stack
pub one_object : (fs : List Key) → HeldWords fs (with_birth (empty 4096 0) one) (fresh 4 (auto_kind false) ∷ [])
one_object fs =
    let h = begins fs 0 4096 (no_blocks 0) (omega arith) (omega arith) refl (tiled 0) in
    words_born fs (empty 4096 0) [] one h refl (omega arith)
    (one_birth fs (empty 4096 0) [] 4 false 0x1FFFFFF0 h.held refl (omega arith) (λ id o l. absurd (nothing_there id o l.0)) refl)

-- and the word of its address
pub one_word : (f : Key → ℕ) → Means f (with_birth (empty 4096 0) one).objects (record { bits = 0x1FFFFFF0; tag = 1 }) (Pointer 1 0)
one_word f = record { stands = (one, refl, refl, omega arith, refl); wide = omega arith; within = (one, refl, omega arith) }

-- what is asked of memory and of words can be met
pub met : (fs : List Key) (f : Key → ℕ) → (m : Flat) × (os : List Object) × HeldWords fs m os × Means f m.objects (record { bits = 0x1FFFFFF0; tag = 1 }) (Pointer 1 0)
met fs f = (with_birth (empty 4096 0) one, fresh 4 (auto_kind false) ∷ [], one_object fs, one_word f)
