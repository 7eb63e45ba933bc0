-- A file of parts, read: its sections, and where it ends.
use Rattle.std.proofs.Common.{◌≡◌, ◌<◌, ◌^◌, ◌*◌, ◌+◌, ◌-◌, ℕ, List, [], ◌∷◌, ◌++◌, length, drop, map, replicate, sym, ap, ◌∙◌, arith, refl}
use Rattle.std.specs.Prelude.{fold}
use Rattle.std.proofs.lemmas.List.{append_assoc, append-nil, length-append, length_push, drop_at}
use Rattle.std.proofs.lemmas.List.Sums.{fold-append}
use Rattle.sc_object.specs.declared.part.Part.{Part}
use Rattle.sc_object.specs.declared.part.Laid.{Laid}
use Rattle.sc_object.specs.Spelling.{header, padded, with_part, nothing_laid, names_part, with_names, file_of, file_of_parts}
use Rattle.sc_object.specs.Reading.{half_at, word_at, end_of}
use Rattle.sc_elf_read.specs.Pieces.{pieces_in}
use Rattle.sc_elf_read.specs.Parsed.{file_pieces}
use Rattle.sc_elf_read.proofs.Words.{value_word, value_half}
use Rattle.sc_elf_read.proofs.Laying.{piece_of, gap, more_headers, more_contents, headers_are, contents_are, headers_length, padded_length, AllHeld, Starts, pieces_back}

starts_at : (qs : List Part) (tail contents : List ℕ) → contents ≡ more_contents nothing_laid qs ++ tail → Starts nothing_laid qs tail contents
starts_at [] tail contents e = tt
starts_at (q ∷ qs) tail contents e = e ∙ append_assoc q.bytes (more_contents (with_part nothing_laid q) qs) tail

-- the file of all parts, that of the names among them
abbrev pub laid_of : List Part → Laid
laid_of qs = fold with_part nothing_laid qs

abbrev pub file : List Part → List ℕ
file qs = file_of (length qs + 1) (laid_of qs)

module _ (qs : List Part) (small : length (file qs) < 2 ^ 32) (few : length qs + 1 < 2 ^ 16) where
  abbrev laid : Laid
  laid = laid_of qs

  abbrev shoff : ℕ
  shoff = length (padded laid.contents) + 52

  abbrev head : List ℕ
  head = header shoff (length qs + 1)

  head_length : length head ≡ 52
  head_length = refl

  file_length : length (file qs) ≡ 52 + length (padded laid.contents) + length laid.headers
  file_length = length-append (head ++ padded laid.contents) laid.headers ∙ ap (λ k. k + length laid.headers) (length-append head (padded laid.contents))

  all_headers : length laid.headers ≡ 40 + 40 * length qs
  all_headers = ap length (headers_are nothing_laid qs) ∙ length-append (replicate 40 0) (more_headers nothing_laid qs) ∙ ap (λ k. 40 + k) (headers_length nothing_laid qs)

  place_is : word_at (file qs) 32 ≡ shoff
  place_is = value_word shoff (omega (arith, file_length, small))

  number_is : half_at (file qs) 48 ≡ length qs + 1
  number_is = value_half (length qs + 1) few

  pub ends : end_of (file qs) ≡ length (file qs)
  ends = omega (arith, place_is, number_is, file_length, all_headers)

  pub contents_small : length (more_contents nothing_laid qs) < 2 ^ 32
  contents_small = omega (arith, ap length (contents_are nothing_laid qs), padded_length laid.contents, file_length, small)

  headers_at : drop (word_at (file qs) 32 + 40) (file qs) ≡ more_headers nothing_laid qs ++ []
  headers_at =
      let more : List ℕ = more_headers nothing_laid qs in
      let front : List ℕ = (head ++ padded laid.contents) ++ replicate 40 0 in
      let same : file qs ≡ front ++ more =
      ap (λ z. (head ++ padded laid.contents) ++ z) (headers_are nothing_laid qs) ∙ sym (append_assoc (head ++ padded laid.contents) (replicate 40 0) more) in
      let len : length front ≡ word_at (file qs) 32 + 40 =
      length-append (head ++ padded laid.contents) (replicate 40 0)
      ∙ ap (λ k. k + 40) (length-append head (padded laid.contents))
      ∙ omega (arith, place_is) in
      ap (drop (word_at (file qs) 32 + 40)) same ∙ drop_at front more (word_at (file qs) 32 + 40) len ∙ sym (append-nil more)

  contents_at : Starts nothing_laid qs (gap laid.contents ++ laid.headers) (drop 52 (file qs))
  contents_at =
      let tail : List ℕ = gap laid.contents ++ laid.headers in
      starts_at qs tail (drop 52 (file qs)) (append_assoc laid.contents (gap laid.contents) laid.headers ∙ ap (λ z. z ++ tail) (contents_are nothing_laid qs))

  pub file_back : AllHeld qs → file_pieces (file qs) ≡ map piece_of qs
  file_back held =
      let n : half_at (file qs) 48 - 1 ≡ length qs = omega (arith, number_is) in
      ap (λ k. pieces_in k (drop (word_at (file qs) 32 + 40) (file qs)) (drop 52 (file qs))) n
      ∙ ap (λ z. pieces_in (length qs) z (drop 52 (file qs))) headers_at
      ∙ pieces_back nothing_laid qs [] (gap laid.contents ++ laid.headers) (drop 52 (file qs)) held contents_at

-- the parts with that of the names
abbrev pub all_of : List Part → List Part
all_of ps = ps ++ names_part (laid_of ps).names ∷ []

pub file_is : (ps : List Part) → file_of_parts ps ≡ file (all_of ps)
file_is ps =
    let last : Part = names_part (laid_of ps).names in
    let count : length ps + 2 ≡ length (all_of ps) + 1 = omega (arith, length_push ps last) in
    let laid : with_names (laid_of ps) ≡ laid_of (all_of ps) = sym (fold-append with_part nothing_laid ps (last ∷ [])) in
    λ i. file_of (count i) (laid i)
