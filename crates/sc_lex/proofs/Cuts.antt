-- Cutting a list of marks, one piece at a time.
use Rattle.std.proofs.Common.{◌≡◌, ℕ, zero, suc, ◌-◌, ◌≤◌, Bool, true, false, List, [], ◌∷◌, ◌++◌, take, drop, slice_get, Option, Some, None, refl, sym, ◌∙◌, ap, arith, append_assoc}
use Rattle.sc_lex.specs.declared.mark.Mark.{Mark}
use Rattle.sc_lex.specs.declared.piece.Piece.TheVariants as p
use Rattle.sc_lex.specs.declared.token.Token.{Token}
use Rattle.sc_lex.specs.declared.token.TokenKind.{TokenKind}
use Rattle.sc_lex.specs.Pieces.{bytes_of, first_piece}
use Rattle.sc_lex.specs.declared.lexing.Scan.{Scan}
use Rattle.sc_lex.specs.Tokens.{prepend, by_piece, cut_from}

pub passes : (file n : ℕ) (space : Bool) (marks : List Mark) → cut_from file n space marks ≡ cut_from file 0 space (drop n marks)
passes file zero space marks = refl
passes file (suc n) space [] = refl
passes file (suc n) space (m ∷ marks) = passes file n space marks

pub bytes_take : (n : ℕ) (marks : List Mark) → take n (bytes_of marks) ≡ bytes_of (take n marks)
bytes_take zero marks = refl
bytes_take (suc n) [] = refl
bytes_take (suc n) (m ∷ marks) = ap (λ bytes. m.byte ∷ bytes) (bytes_take n marks)

pub prepend_append : (xs ys : List Token) (c : Scan) → prepend (xs ++ ys) c ≡ prepend xs (prepend ys c)
prepend_append xs ys c = ap (λ (ts : List Token). record { tokens = ts; unclosed = c.unclosed }) (append_assoc xs ys c.tokens)

module _ (file : ℕ) (space : Bool) (whole : Scan) (out : List Token) where
  -- white space goes
  white : (n : ℕ) (m : Mark) (marks : List Mark) → first_piece (bytes_of (m ∷ marks)) ≡ p.Space n → 1 ≤ n → prepend out (cut_from file 0 space (m ∷ marks)) ≡ whole → prepend out (cut_from file 0 true (drop n (m ∷ marks))) ≡ whole
  white zero m marks h k i = absurd (omega arith)
  white (suc n) m marks h k i =
      let e : suc n - 1 ≡ n = omega arith in
      ap (prepend out) (sym (passes file n true marks) ∙ ap (λ j. cut_from file j true marks) (sym e) ∙ sym (ap (λ q. by_piece file space m marks q (λ j w. cut_from file j w marks)) h)) ∙ i

  pub white_goes : (mark : Mark) (n : ℕ) (left rest : List Mark) → Some mark ≡ slice_get left 0 → p.Space n ≡ first_piece (bytes_of left) → 1 ≤ n → rest ≡ drop n left → prepend out (cut_from file 0 space left) ≡ whole → prepend out (cut_from file 0 true rest) ≡ whole
  white_goes mark n [] rest g h k d i = cc
  white_goes mark n (m ∷ marks) rest g h k d i = ap (λ r. prepend out (cut_from file 0 true r)) d ∙ white n m marks (sym h) k i

  made : TokenKind → List ℕ → ℕ → Token
  made kind text line = record { kind = kind; text = text; file = file; line = line; space = space }

  -- a token is cut off
  cut_off : (kind : TokenKind) (n : ℕ) (m : Mark) (marks : List Mark) → first_piece (bytes_of (m ∷ marks)) ≡ p.Token kind n → 1 ≤ n → prepend out (cut_from file 0 space (m ∷ marks)) ≡ whole → prepend (out ++ made kind (take n (bytes_of (m ∷ marks))) m.line ∷ []) (cut_from file 0 false (drop n (m ∷ marks))) ≡ whole
  unfolding made
  cut_off kind zero m marks h k i = absurd (omega arith)
  cut_off kind (suc n) m marks h k i =
      let e : suc n - 1 ≡ n = omega arith in
      let t : Token = made kind (take (suc n) (bytes_of (m ∷ marks))) m.line in
      prepend_append out (t ∷ []) (cut_from file 0 false (drop n marks)) ∙
      ap (prepend out) (ap (prepend (t ∷ [])) (sym (passes file n false marks) ∙ ap (λ j. cut_from file j false marks) (sym e))
      ∙ sym (ap (λ q. by_piece file space m marks q (λ j w. cut_from file j w marks)) h)) ∙ i

  pub token_goes : (mark : Mark) (kind : TokenKind) (n : ℕ) (left head rest : List Mark) (text : List ℕ) (more : List Token) → Some mark ≡ slice_get left 0 → p.Token kind n ≡ first_piece (bytes_of left) → 1 ≤ n → head ≡ take n left → rest ≡ drop n left → text ≡ bytes_of head → more ≡ out ++ record { kind = kind; text = text; file = file; line = mark.line; space = space } ∷ [] → prepend out (cut_from file 0 space left) ≡ whole → prepend more (cut_from file 0 false rest) ≡ whole
  unfolding made
  token_goes mark kind n [] head rest text more g h k a d t w i = cc
  token_goes mark kind n (m ∷ marks) head rest text more g h k a d t w i =
      let same : m ≡ mark = ap (λ (o : Option Mark). elim o [ None ↦ m | Some q ↦ q ]) (sym g) in
      let spelt : text ≡ take n (bytes_of (m ∷ marks)) = t ∙ ap bytes_of a ∙ sym (bytes_take n (m ∷ marks)) in
      ap (λ xs. prepend xs (cut_from file 0 false rest)) (w ∙ ap (λ v. out ++ made kind v mark.line ∷ []) spelt ∙ ap (λ (q : Mark). out ++ made kind (take n (bytes_of (m ∷ marks))) q.line ∷ []) (sym same)) ∙
      ap (λ r. prepend (out ++ made kind (take n (bytes_of (m ∷ marks))) m.line ∷ []) (cut_from file 0 false r)) d ∙ cut_off kind n m marks (sym h) k i
