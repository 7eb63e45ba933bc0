-- The tables of frames, written and read.
use Rattle.std.proofs.Common.{◌≡◌, ◌<◌, ◌≤◌, ◌^◌, ◌*◌, ◌+◌, ◌-◌, ◌==◌, ◌&&◌, ℕ, Bool, true, false, nat_lt, List, [], ◌++◌, length, drop, Some, None, if◌then◌else◌, sym, ap, ◌∙◌, arith, refl}
use Rattle.std.specs.Prelude.{flat_map, option_map}
use Rattle.std.specs.List.{list_all}
use Rattle.std.proofs.lemmas.Bool.{and_parts, cond-false, ltb-true, le-ltb, eqb-true}
use Rattle.std.proofs.lemmas.List.{append-nil, length-append, drop_at}
use Rattle.sc_program.specs.declared.frame.Slot.{Slot}
use Rattle.sc_object.specs.declared.object.BlockTable.{BlockTable}
use Rattle.sc_object.specs.declared.object.FrameTable.{FrameTable}
use Rattle.sc_object.specs.Parts.{slot_words, block_words, frame_words, saber_words}
use Rattle.sc_object.specs.Reading.{is_word, is_slot, line_fits, is_block, is_frame}
use Rattle.sc_elf_read.specs.Tables.{rows, many, slot_in, slot_count, block_len, block_of, block_in, frame_of, frame_in, frames_in}
use Rattle.sc_elf_read.proofs.Words.{low, value_word, rows_back, rows_length, many_back}

constant_back : (b : Bool) → (low (if b then 1 else 0) == 1) ≡ b
constant_back true = refl
constant_back false = refl

pub word_back : (n : ℕ) → is_word n ≡ true → low n ≡ n
word_back n h = value_word n (ltb-true n (2 ^ 32) h)

slot_back : (s : Slot) (more : List ℕ) → is_slot s ≡ true → slot_in (slot_words s ++ more) ≡ s
slot_back s more h =
    let t = and_parts (is_word s.offset) (is_word s.size) h in
    λ i. record { offset = word_back s.offset t.0 i; size = word_back s.size t.1 i; constant = constant_back s.constant i }

slots_back : (ss : List Slot) (more : List ℕ) → list_all is_slot ss ≡ true → rows slot_in 12 (length ss) (flat_map slot_words ss ++ more) ≡ ss
slots_back ss more h = rows_back slot_in slot_words is_slot 12 (λ x m. refl) slot_back ss more h

slots_length : (ss : List Slot) → length (flat_map slot_words ss) ≡ length ss * 12
slots_length ss = rows_length slot_words 12 (λ x. refl) ss

-- a block without a line
pub block_back_1 : (b : BlockTable) (more : List ℕ) → is_block 1 b ≡ true → block_in 1 (block_words 1 b ++ more) ≡ Some (b, more)
block_back_1 b more h =
    let t = and_parts (line_fits 1 b.line && is_word b.line && is_word (length b.slots)) (list_all is_slot b.slots) h in
    let u = and_parts (line_fits 1 b.line && is_word b.line) (is_word (length b.slots)) t.0 in
    let v = and_parts (line_fits 1 b.line) (is_word b.line) u.0 in
    let bytes : List ℕ = block_words 1 b ++ more in
    let count : slot_count 1 bytes ≡ length b.slots = word_back (length b.slots) u.1 in
    let flat : List ℕ = flat_map slot_words b.slots in
    let whole : length (block_words 1 b) ≡ block_len 1 bytes = omega (arith, slots_length b.slots, count) in
    let below : block_len 1 bytes ≤ length bytes = omega (arith, whole, length-append (block_words 1 b) more) in
    let line : 0 ≡ b.line = sym (eqb-true b.line 0 v.0) in
    let slots : rows slot_in 12 (slot_count 1 bytes) (flat ++ more) ≡ b.slots = ap (λ k. rows slot_in 12 k (flat ++ more)) count ∙ slots_back b.slots more t.1 in
    let rest : drop (block_len 1 bytes) bytes ≡ more = drop_at (block_words 1 b) more (block_len 1 bytes) whole in
    cond-false (nat_lt (length bytes) (block_len 1 bytes)) None (Some (block_of 1 bytes, drop (block_len 1 bytes) bytes)) (le-ltb (length bytes) (block_len 1 bytes) below)
    ∙ (λ i. Some (record { line = line i; slots = slots i }, rest i))

pub block_back_2 : (b : BlockTable) (more : List ℕ) → is_block 2 b ≡ true → block_in 2 (block_words 2 b ++ more) ≡ Some (b, more)
block_back_2 b more h =
    let t = and_parts (line_fits 2 b.line && is_word b.line && is_word (length b.slots)) (list_all is_slot b.slots) h in
    let u = and_parts (line_fits 2 b.line && is_word b.line) (is_word (length b.slots)) t.0 in
    let v = and_parts (line_fits 2 b.line) (is_word b.line) u.0 in
    let bytes : List ℕ = block_words 2 b ++ more in
    let count : slot_count 2 bytes ≡ length b.slots = word_back (length b.slots) u.1 in
    let flat : List ℕ = flat_map slot_words b.slots in
    let whole : length (block_words 2 b) ≡ block_len 2 bytes = omega (arith, slots_length b.slots, count) in
    let below : block_len 2 bytes ≤ length bytes = omega (arith, whole, length-append (block_words 2 b) more) in
    let line : low b.line ≡ b.line = word_back b.line v.1 in
    let slots : rows slot_in 12 (slot_count 2 bytes) (flat ++ more) ≡ b.slots = ap (λ k. rows slot_in 12 k (flat ++ more)) count ∙ slots_back b.slots more t.1 in
    let rest : drop (block_len 2 bytes) bytes ≡ more = drop_at (block_words 2 b) more (block_len 2 bytes) whole in
    cond-false (nat_lt (length bytes) (block_len 2 bytes)) None (Some (block_of 2 bytes, drop (block_len 2 bytes) bytes)) (le-ltb (length bytes) (block_len 2 bytes) below)
    ∙ (λ i. Some (record { line = line i; slots = slots i }, rest i))

-- frames of a version whose blocks are written and read
module _ (version : ℕ) (block_back : (b : BlockTable) (more : List ℕ) → is_block version b ≡ true → block_in version (block_words version b ++ more) ≡ Some (b, more)) (symbols : ℕ) (few : symbols < 2 ^ 24) where
  frame_back : (f : FrameTable) (more : List ℕ) → is_frame version symbols f ≡ true → frame_in version (frame_words version f ++ more) ≡ Some (f, more)
  frame_back f more h =
      let t = and_parts (nat_lt f.symbol symbols && is_word f.cost && is_word (length f.blocks)) (list_all (is_block version) f.blocks) h in
      let u = and_parts (nat_lt f.symbol symbols && is_word f.cost) (is_word (length f.blocks)) t.0 in
      let v = and_parts (nat_lt f.symbol symbols) (is_word f.cost) u.0 in
      let below : f.symbol < symbols = ltb-true f.symbol symbols v.0 in
      let bytes : List ℕ = frame_words version f ++ more in
      let flat : List ℕ = flat_map (block_words version) f.blocks in
      let number : low (f.symbol + 1) ≡ f.symbol + 1 = value_word (f.symbol + 1) (omega arith) in
      let symbol : low (f.symbol + 1) - 1 ≡ f.symbol = omega arith in
      let cost : low f.cost ≡ f.cost = word_back f.cost v.1 in
      let blocks : many (block_in version) (low (length f.blocks)) [] (flat ++ more) ≡ Some (f.blocks, more) =
      ap (λ k. many (block_in version) k [] (flat ++ more)) (word_back (length f.blocks) u.1) ∙ many_back (block_in version) (block_words version) (is_block version) block_back f.blocks [] more t.1 in
      cond-false (nat_lt (length bytes) 12) None (option_map (λ p. (frame_of bytes p.0, p.1)) (many (block_in version) (low (length f.blocks)) [] (flat ++ more))) (le-ltb (length bytes) 12 (omega arith))
      ∙ ap (option_map (λ p. (frame_of bytes p.0, p.1))) blocks
      ∙ (λ i. Some (record { symbol = symbol i; cost = cost i; blocks = f.blocks }, more))

  pub frames_back : (fs : List FrameTable) → list_all (is_frame version symbols) fs ≡ true → is_word (length fs) ≡ true → frames_in version (saber_words version fs) ≡ Some fs
  frames_back fs h few_frames =
      let bytes : List ℕ = saber_words version fs in
      let flat : List ℕ = flat_map (frame_words version) fs in
      let frames : many (frame_in version) (low (length fs)) [] flat ≡ Some (fs, []) =
      ap (λ k. many (frame_in version) k [] flat) (word_back (length fs) few_frames)
      ∙ ap (many (frame_in version) (length fs) []) (sym (append-nil flat))
      ∙ many_back (frame_in version) (frame_words version) (is_frame version symbols) frame_back fs [] [] h in
      cond-false (nat_lt (length bytes) 8) None (option_map (λ p. p.0) (many (frame_in version) (low (length fs)) [] flat)) (le-ltb (length bytes) 8 (omega arith))
      ∙ ap (option_map (λ p. p.0)) frames
