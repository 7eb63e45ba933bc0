-- The parts of a file one behind another, written and read.
use Rattle.std.proofs.Common.{◌≡◌, ◌≤◌, ◌*◌, ◌%◌, ◌+◌, ◌-◌, ℕ, suc, List, [], ◌∷◌, ◌++◌, length, drop, take, map, replicate, sym, ap, ◌∙◌, arith, refl}
use Rattle.std.specs.Prelude.{flat_map, fold}
use Rattle.std.proofs.lemmas.List.{append_assoc, append-nil, length-append, length-replicate, take_at, drop_at}
use Rattle.sc_object.specs.declared.part.Part.{Part}
use Rattle.sc_object.specs.declared.part.Laid.{Laid}
use Rattle.sc_object.specs.Spelling.{padded, section_header, with_part}
use Rattle.sc_elf_read.specs.declared.piece.Piece.{Piece}
use Rattle.sc_elf_read.specs.Pieces.{held_by, filled, piece_in, pieces_in}
use Rattle.sc_elf_read.proofs.Words.{low}

abbrev pub piece_of : Part → Piece
piece_of p = record { kind = low p.kind; flags = low p.flags; bytes = p.bytes; size = low p.size; info = low p.info }

abbrev pub gap : List ℕ → List ℕ
gap bytes = replicate ((4 - length bytes % 4) % 4) 0

-- what parts add to the headers, to the contents and to the names
abbrev pub more_headers : Laid → List Part → List ℕ
more_headers l [] = []
more_headers l (p ∷ ps) = section_header p (length l.names) (length (padded l.contents) + 52) ++ more_headers (with_part l p) ps

abbrev pub more_contents : Laid → List Part → List ℕ
more_contents l [] = []
more_contents l (p ∷ ps) = (gap l.contents ++ p.bytes) ++ more_contents (with_part l p) ps

abbrev pub with_zero : Part → List ℕ
with_zero p = p.name ++ 0 ∷ []

pub headers_are : (l : Laid) (ps : List Part) → (fold with_part l ps).headers ≡ l.headers ++ more_headers l ps
headers_are l [] = sym (append-nil l.headers)
headers_are l (p ∷ ps) =
    headers_are (with_part l p) ps
    ∙ append_assoc l.headers (section_header p (length l.names) (length (padded l.contents) + 52)) (more_headers (with_part l p) ps)

pub contents_are : (l : Laid) (ps : List Part) → (fold with_part l ps).contents ≡ l.contents ++ more_contents l ps
contents_are l [] = sym (append-nil l.contents)
contents_are l (p ∷ ps) =
    let more : List ℕ = more_contents (with_part l p) ps in
    contents_are (with_part l p) ps
    ∙ ap (λ z. z ++ more) (append_assoc l.contents (gap l.contents) p.bytes)
    ∙ append_assoc l.contents (gap l.contents ++ p.bytes) more

pub names_are : (l : Laid) (ps : List Part) → (fold with_part l ps).names ≡ l.names ++ flat_map with_zero ps
names_are l [] = sym (append-nil l.names)
names_are l (p ∷ ps) =
    let more : List ℕ = flat_map with_zero ps in
    names_are (with_part l p) ps
    ∙ ap (λ z. z ++ more) (append_assoc l.names p.name (0 ∷ []))
    ∙ append_assoc l.names (with_zero p) more

-- the headers have 40 bytes each
pub headers_length : (l : Laid) (ps : List Part) → length (more_headers l ps) ≡ 40 * length ps
headers_length l [] = refl
headers_length l (p ∷ ps) =
    let head : List ℕ = section_header p (length l.names) (length (padded l.contents) + 52) in
    length-append head (more_headers (with_part l p) ps) ∙ omega (arith, headers_length (with_part l p) ps)

-- the contents of each part stand in the file
abbrev pub Within : ℕ → List Part → Type 0
Within n [] = Unit {0}
Within n (p ∷ ps) = (length p.bytes ≤ n) × Within n ps

pub within : (n : ℕ) (l : Laid) (ps : List Part) → length (more_contents l ps) ≤ n → Within n ps
within n l [] h = tt
within n l (p ∷ ps) h =
    let more : List ℕ = more_contents (with_part l p) ps in
    let a = length-append (gap l.contents ++ p.bytes) more in
    let b = length-append (gap l.contents) p.bytes in
    (omega (arith, a, b, h), within n (with_part l p) ps (omega (arith, a, h)))

-- each part has the bytes that its header tells
abbrev pub AllHeld : List Part → Type 0
AllHeld [] = Unit {0}
AllHeld (p ∷ ps) = (length p.bytes ≡ held_by (low p.kind) (low p.size)) × AllHeld ps

-- the contents of these parts stand at the front
abbrev pub Starts : Laid → List Part → List ℕ → List ℕ → Type 0
Starts l [] tail contents = Unit {0}
Starts l (p ∷ ps) tail contents = contents ≡ p.bytes ++ (more_contents (with_part l p) ps ++ tail)

pub padded_length : (bytes : List ℕ) → length (padded bytes) ≡ length bytes + (4 - length bytes % 4) % 4
padded_length bytes = length-append bytes (gap bytes) ∙ ap (λ k. length bytes + k) (length-replicate ((4 - length bytes % 4) % 4) 0)

filled_is : (before bytes : List ℕ) (n : ℕ) → length bytes ≡ n → length (bytes ++ gap (padded before ++ bytes)) ≡ filled n
filled_is before bytes n e =
    let c : List ℕ = padded before ++ bytes in
    let a = length-append bytes (gap c) in
    let b : length (gap c) ≡ (4 - length c % 4) % 4 = length-replicate ((4 - length c % 4) % 4) 0 in
    let d = length-append (padded before) bytes in
    let f = padded_length before in
    a ∙ omega (arith, b, d, f, e)

-- what stands behind a part is the next one
next_starts : (l : Laid) (p : Part) (ps : List Part) (tail : List ℕ) (n : ℕ) → length p.bytes ≡ n
    → Starts (with_part l p) ps tail (drop (filled n) (p.bytes ++ (more_contents (with_part l p) ps ++ tail)))
next_starts l p [] tail n e = tt
next_starts l p (q ∷ qs) tail n e =
    let c : List ℕ = (with_part l p).contents in
    let more : List ℕ = more_contents (with_part (with_part l p) q) qs in
    let front : p.bytes ++ (((gap c ++ q.bytes) ++ more) ++ tail) ≡ (p.bytes ++ gap c) ++ (q.bytes ++ (more ++ tail)) = simp append_assoc in
    ap (drop (filled n)) front ∙ drop_at (p.bytes ++ gap c) (q.bytes ++ (more ++ tail)) (filled n) (filled_is l.contents p.bytes n e)

pub pieces_back : (l : Laid) (ps : List Part) (behind tail contents : List ℕ) → AllHeld ps → Starts l ps tail contents
    → pieces_in (length ps) (more_headers l ps ++ behind) contents ≡ map piece_of ps
pieces_back l [] behind tail contents held starts = refl
pieces_back l (p ∷ ps) behind tail contents held starts =
    let head : List ℕ = section_header p (length l.names) (length (padded l.contents) + 52) in
    let headers : List ℕ = more_headers (with_part l p) ps ++ behind in
    let rest : List ℕ = more_contents (with_part l p) ps ++ tail in
    let n : ℕ = held_by (low p.kind) (low p.size) in
    let front : (head ++ more_headers (with_part l p) ps) ++ behind ≡ head ++ headers = append_assoc head (more_headers (with_part l p) ps) behind in
    let taken : take n (p.bytes ++ rest) ≡ p.bytes = take_at p.bytes rest n held.0 in
    let first : piece_in (head ++ headers) (p.bytes ++ rest) ≡ piece_of p =
    λ i. record { kind = low p.kind; flags = low p.flags; bytes = taken i; size = low p.size; info = low p.info } in
    ap (λ z. pieces_in (suc (length ps)) z contents) front
    ∙ ap (pieces_in (suc (length ps)) (head ++ headers)) starts
    ∙ (λ i. first i ∷ pieces_back (with_part l p) ps behind tail (drop (filled n) (p.bytes ++ rest)) held.1 (next_starts l p ps tail n held.0) i)
