-- Names that end at a zero byte, written and read.
use Rattle.std.proofs.Common.{◌≡◌, ◌+◌, ℕ, true, List, [], ◌∷◌, ◌++◌, length, drop, sym, ap, ◌∙◌, arith, refl}
use Rattle.std.specs.List.{list_all, prefix_len}
use Rattle.std.proofs.lemmas.Bool.{and_parts, cond-true}
use Rattle.std.proofs.lemmas.List.{append_assoc, length_push, take_at, drop_at}
use Rattle.sc_object.specs.Reading.{is_name}
use Rattle.sc_elf_read.specs.Pieces.{is_set, text_len, text, behind_text}

text_len-is : (n rest : List ℕ) → is_name n ≡ true → text_len (n ++ 0 ∷ rest) ≡ length n
text_len-is [] rest h = refl
text_len-is (b ∷ bs) rest h =
    let t = and_parts (is_set b) (list_all is_set bs) h in
    cond-true (is_set b) (1 + prefix_len is_set (bs ++ 0 ∷ rest)) 0 t.0 ∙ omega (arith, text_len-is bs rest t.1)

pub text_back : (n rest : List ℕ) → is_name n ≡ true → text (n ++ 0 ∷ rest) ≡ n
text_back n rest h = take_at n (0 ∷ rest) (text_len (n ++ 0 ∷ rest)) (sym (text_len-is n rest h))

pub behind_back : (n rest : List ℕ) → is_name n ≡ true → behind_text (n ++ 0 ∷ rest) ≡ rest
behind_back n rest h =
    let at : ℕ = text_len (n ++ 0 ∷ rest) + 1 in
    let same : length (n ++ 0 ∷ []) ≡ at = length_push n 0 ∙ ap (λ k. k + 1) (sym (text_len-is n rest h)) in
    ap (drop at) (sym (append_assoc n (0 ∷ []) rest)) ∙ drop_at (n ++ 0 ∷ []) rest at same
