-- Each word of an image of compiled modules is one of an instruction: those of stubs, and those of texts.
use Rattle.std.proofs.Common.{◌≡◌, ℕ, ◌%◌, ◌^◌, ◌==◌, Bool, true, false, if◌then◌else◌, nat_lt, List, refl, subst, sym, ap, ◌∙◌, pos, Option, Some, None, arith}
use Rattle.std.proofs.lemmas.Int.{ints}
use Rattle.std.specs.Prelude.{slice_get, option_and_then}
use Rattle.sc_base.specs.declared.key.Key.{Key}
use Rattle.sc_isa.specs.declared.instruction.Instr.TheVariants.{Lui, Jalr, Imm, Ecall}
use Rattle.sc_isa.specs.declared.instruction.ImmOp.TheVariants.{Addi}
use Rattle.sc_isa.specs.Table.{word_of, IsShort}
use Rattle.sc_isa.proofs.Fields.{short_fits}
use Rattle.sc_isa_image.specs.declared.image.Image.{Image}
use Rattle.sc_isa_image.specs.Lookups.{word_at}
use Rattle.sc_isa_image.specs.Stubs.{lower_of, stub_of_word, upper_of}
use Rattle.sc_link.specs.declared.placed.Placed.{Placed}
use Rattle.sc_link.specs.Entries.{fixes_in, jumps_in, texts_in}
use Rattle.sc_link.specs.Linked.{IsLinked, place_in, stub_half, stub_in, stub_words, text_word_in, value_in, word_in}
use Rattle.sc_placed_laws.specs.Texts.{AreMade, HasText, Stand}
use Rattle.sc_placed_laws.proofs.Words.{decoded}
use Rattle.sc_placed_laws.proofs.Placed.{same_some, then_some, words_have_texts}

one_short : IsShort (pos 1)
one_short = (omega (arith, ints), omega (arith, ints))

first_call : HasText (word_of (Imm Addi 5 0 (pos 1)))
first_call = decoded (Imm Addi 5 0 (pos 1)) (word_of (Imm Addi 5 0 (pos 1))) (omega arith, omega arith, one_short) refl

second_call : HasText (word_of Ecall)
second_call = decoded Ecall (word_of Ecall) tt refl

first_jump : (at : ℕ) → HasText (word_of (Lui 6 (upper_of at)))
first_jump at = decoded (Lui 6 (upper_of at)) (word_of (Lui 6 (upper_of at))) (omega arith, omega arith) refl

second_jump : (at : ℕ) → HasText (word_of (Jalr 0 6 (lower_of at)))
second_jump at = decoded (Jalr 0 6 (lower_of at)) (word_of (Jalr 0 6 (lower_of at))) (omega arith, omega arith, short_fits (at % 2 ^ 12) (omega arith)) refl

one_of : (b : Bool) (x y w : ℕ) → HasText x → HasText y → (if b then Some x else Some y) ≡ Some w → HasText w
one_of true x y w p q e = subst HasText (same_some x w e) p
one_of false x y w p q e = subst HasText (same_some y w e) q

stub_text : (o : Option ℕ) (pc w : ℕ) → stub_half pc (stub_words o) ≡ Some w → HasText w
stub_text None pc w e = one_of (pc % 8 == 0) (word_of (Imm Addi 5 0 (pos 1))) (word_of Ecall) w first_call second_call e
stub_text (Some at) pc w e = one_of (pc % 8 == 0) (word_of (Lui 6 (upper_of at))) (word_of (Jalr 0 6 (lower_of at))) w (first_jump at) (second_jump at) e

stubs_have_texts : (jumps : List (Key × ℕ)) (funs : List Key) (pc w : ℕ) → stub_in jumps funs pc ≡ Some w → HasText w
stubs_have_texts jumps funs pc w e =
    let n = then_some (λ n. option_and_then (λ key. stub_half pc (stub_words (place_in jumps key))) (slice_get funs n)) (stub_of_word pc) w e in
    let k = then_some (λ key. stub_half pc (stub_words (place_in jumps key))) (slice_get funs n.0) w n.1.1 in
    stub_text (place_in jumps k.0) pc w k.1.1

either : (es : List Placed) (funs : List Key) (pc w : ℕ) (b : Bool) → nat_lt pc 0x00100000 ≡ b → AreMade es → Stand 0x00100000 es → word_in es funs pc ≡ Some w → HasText w
either es funs pc w false e made s h = words_have_texts es funs pc w made s e h
either es funs pc w true e made s h =
    stubs_have_texts (jumps_in es) funs pc w
    (ap (λ (b : Bool). if b then stub_in (jumps_in es) funs pc else text_word_in (value_in es funs) (fixes_in es) (texts_in es) pc) (sym e) ∙ h)

pub image_has_texts : (es : List Placed) (funs : List Key) (i : Image) (pc w : ℕ) → AreMade es → Stand 0x00100000 es → IsLinked es funs i → word_at i pc ≡ Some w → HasText w
image_has_texts es funs i pc w made s linked h = either es funs pc w (nat_lt pc 0x00100000) refl made s (sym (linked.words pc) ∙ h)
