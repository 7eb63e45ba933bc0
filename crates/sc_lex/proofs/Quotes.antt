-- Where a literal is not closed on its line, none closes that begins with the same quote behind it on the line.
use Rattle.std.proofs.Common.{◌≡◌, ℕ, zero, suc, ◌+◌, ◌-◌, ◌≤◌, ◌<◌, ◌==◌, Bool, true, false, if◌then◌else◌, List, [], ◌∷◌, ◌++◌, length, take, drop, get_or, Option, Some, None, refl, sym, ◌∙◌, ap, subst, arith, inl, inr, ◌⊎◌}
use Rattle.std.proofs.Math.Seq.{take-add, drop-cons}
use Rattle.std.proofs.lemmas.List.{take_all, drop-drop, get_or-drop}
use Rattle.std.proofs.lemmas.Bool.{cases_lt}
use Rattle.sc_lex.specs.declared.mark.Mark.{Mark}
use Rattle.sc_lex.specs.declared.token.TokenKind.{TokenKind}
use Rattle.sc_lex.specs.declared.automaton.State.{State}
use Rattle.sc_lex.specs.declared.automaton.State.TheVariants as s
use Rattle.sc_lex.specs.Automaton.{step, run, kind_of, token_kind, is_dead, in_string, in_char}
use Rattle.sc_lex.specs.Pieces.{longest_within, longest, or_shorter, bytes_of}
use Rattle.sc_lex.proofs.Runs.{run_append, run_dead}
use Rattle.sc_lex.specs.Unclosed.{AreUnclosed}
use Rattle.sc_lex.proofs.Longest.{length_bytes, byte_at}

-- from this state no beginning of the bytes ends a token
abbrev pub Never : State → List ℕ → Type 0
Never state bytes = (n : ℕ) → kind_of (run state (take n bytes)) ≡ None

-- the automaton reads these bytes and is not dead
abbrev pub Alive : State → List ℕ → Type 0
Alive state bytes = is_dead (run state bytes) ≡ false

behind : (b : ℕ) (bytes : List ℕ) (state : State) → Never state (b ∷ bytes) → Never (step state b) bytes
behind b bytes state h = λ n. h (suc n)

never_dead : (bytes : List ℕ) → Alive s.Dead bytes → ⊥
never_dead bytes h = let e : is_dead s.Dead ≡ false = sym (ap is_dead (run_dead bytes)) ∙ h in cc

by_string : (P : State → Type 0) → P s.StrEnd → P s.StrEscape → P s.Dead → P s.Str → (a b c : Bool) → P (if a then s.StrEnd else if b then s.StrEscape else if c then s.Dead else s.Str)
by_string P e f d t true b c = e
by_string P e f d t false true c = f
by_string P e f d t false false true = d
by_string P e f d t false false false = t

by_char : (P : State → Type 0) → P s.CharEnd → P s.CharEscape → P s.Dead → P s.Char → (a b c : Bool) → P (if a then s.CharEnd else if b then s.CharEscape else if c then s.Dead else s.Char)
by_char P e f d t true b c = e
by_char P e f d t false true c = f
by_char P e f d t false false true = d
by_char P e f d t false false false = t

by_two : (P : State → Type 0) (x y : State) → P x → P y → (c : Bool) → P (if c then x else y)
by_two P x y f g true = f
by_two P x y f g false = g

mutual
  in_strings : (m : ℕ) (bytes : List ℕ) → Never s.Str bytes → Alive s.Str (take (suc m) bytes) → m < length bytes → get_or bytes m 0 ≡ 34 → Never s.Str (drop (suc m) bytes)
  in_strings m [] h a lt q = absurd (omega arith)
  in_strings zero (x ∷ bytes) h a lt q =
      let e : kind_of s.StrEnd ≡ None = subst (λ (y : ℕ). kind_of (in_string y) ≡ None) q (h (suc zero)) in cc
  in_strings (suc m) (x ∷ bytes) h a lt q =
      by_string (λ t. Never t bytes → Alive t (take (suc m) bytes) → Never s.Str (drop (suc m) bytes))
      (λ g b. let e : kind_of s.StrEnd ≡ None = g 0 in cc)
      (λ g b. in_escapes m bytes g b (omega arith) q)
      (λ g b. absurd (never_dead (take (suc m) bytes) b))
      (λ g b. in_strings m bytes g b (omega arith) q)
      (x == 34) (x == 92) (x == 10) (behind x bytes s.Str h) a

  in_escapes : (m : ℕ) (bytes : List ℕ) → Never s.StrEscape bytes → Alive s.StrEscape (take (suc m) bytes) → m < length bytes → get_or bytes m 0 ≡ 34 → Never s.Str (drop (suc m) bytes)
  in_escapes m [] h a lt q = absurd (omega arith)
  in_escapes zero (x ∷ bytes) h a lt q =
      let g : Never (step s.StrEscape 34) bytes = subst (λ (y : ℕ). Never (step s.StrEscape y) bytes) q (behind x bytes s.StrEscape h) in g
  in_escapes (suc m) (x ∷ bytes) h a lt q =
      by_two (λ t. Never t bytes → Alive t (take (suc m) bytes) → Never s.Str (drop (suc m) bytes)) s.Dead s.Str
      (λ g b. absurd (never_dead (take (suc m) bytes) b))
      (λ g b. in_strings m bytes g b (omega arith) q)
      (x == 10) (behind x bytes s.StrEscape h) a

mutual
  in_chars : (m : ℕ) (bytes : List ℕ) → Never s.Char bytes → Alive s.Char (take (suc m) bytes) → m < length bytes → get_or bytes m 0 ≡ 39 → Never s.Char (drop (suc m) bytes)
  in_chars m [] h a lt q = absurd (omega arith)
  in_chars zero (x ∷ bytes) h a lt q =
      let e : kind_of s.CharEnd ≡ None = subst (λ (y : ℕ). kind_of (step s.Char y) ≡ None) q (h (suc zero)) in cc
  in_chars (suc m) (x ∷ bytes) h a lt q =
      by_char (λ t. Never t bytes → Alive t (take (suc m) bytes) → Never s.Char (drop (suc m) bytes))
      (λ g b. let e : kind_of s.CharEnd ≡ None = g 0 in cc)
      (λ g b. in_char_escapes m bytes g b (omega arith) q)
      (λ g b. absurd (never_dead (take (suc m) bytes) b))
      (λ g b. in_chars m bytes g b (omega arith) q)
      (x == 39) (x == 92) (x == 10) (behind x bytes s.Char h) a

  in_char_escapes : (m : ℕ) (bytes : List ℕ) → Never s.CharEscape bytes → Alive s.CharEscape (take (suc m) bytes) → m < length bytes → get_or bytes m 0 ≡ 39 → Never s.Char (drop (suc m) bytes)
  in_char_escapes m [] h a lt q = absurd (omega arith)
  in_char_escapes zero (x ∷ bytes) h a lt q =
      let g : Never (step s.CharEscape 39) bytes = subst (λ (y : ℕ). Never (step s.CharEscape y) bytes) q (behind x bytes s.CharEscape h) in g
  in_char_escapes (suc m) (x ∷ bytes) h a lt q =
      by_two (λ t. Never t bytes → Alive t (take (suc m) bytes) → Never s.Char (drop (suc m) bytes)) s.Dead s.Char
      (λ g b. absurd (never_dead (take (suc m) bytes) b))
      (λ g b. in_chars m bytes g b (omega arith) q)
      (x == 10) (behind x bytes s.CharEscape h) a

by_quote : (P : State → Type 0) → P s.CharEscape → P s.Dead → P s.Char → (a b c : Bool) → P (if a then s.Dead else if b then s.CharEscape else if c then s.Dead else s.Char)
by_quote P f d t true b c = d
by_quote P f d t false true c = f
by_quote P f d t false false true = d
by_quote P f d t false false false = t

in_quotes : (m : ℕ) (bytes : List ℕ) → Never s.Quote bytes → Alive s.Quote (take (suc m) bytes) → m < length bytes → get_or bytes m 0 ≡ 39 → Never s.Char (drop (suc m) bytes)
in_quotes m [] h a lt q = absurd (omega arith)
in_quotes zero (x ∷ bytes) h a lt q =
    let e : is_dead s.Dead ≡ false = subst (λ (y : ℕ). is_dead (step s.Quote y) ≡ false) q a in cc
in_quotes (suc m) (x ∷ bytes) h a lt q =
    by_quote (λ t. Never t bytes → Alive t (take (suc m) bytes) → Never s.Char (drop (suc m) bytes))
    (λ g b. in_char_escapes m bytes g b (omega arith) q)
    (λ g b. absurd (never_dead (take (suc m) bytes) b))
    (λ g b. in_chars m bytes g b (omega arith) q)
    (x == 39) (x == 92) (x == 10) (behind x bytes s.Quote h) a

-- an opening quote goes on as one inside a character constant, but for a second quote
to_quote_at : (c : Bool) (x : ℕ) (bytes : List ℕ) (n : ℕ) → kind_of (run (if c then s.CharEnd else in_char x) (take n bytes)) ≡ None → kind_of (run (if c then s.Dead else in_char x) (take n bytes)) ≡ None
to_quote_at true x bytes n h = ap kind_of (run_dead (take n bytes))
to_quote_at false x bytes n h = h

to_quote : (bytes : List ℕ) → Never s.Char bytes → Never s.Quote bytes
to_quote bytes h zero = refl
to_quote [] h (suc n) = refl
to_quote (x ∷ bytes) h (suc n) = to_quote_at (x == 39) x bytes n (h (suc n))

shorter : (kind : Option TokenKind) (n : ℕ) (rest : Option (ℕ × TokenKind)) → or_shorter n kind rest ≡ None → (kind ≡ None) × (rest ≡ None)
shorter None n rest h = (refl, h)
shorter (Some k) n rest h = cc

none_within : (n : ℕ) (bytes : List ℕ) → longest_within n bytes ≡ None → (k : ℕ) → k ≤ n → token_kind (take k bytes) ≡ None
none_within zero bytes h k l = let z : k ≡ 0 = omega arith in ap (λ j. token_kind (take j bytes)) z
none_within (suc n) bytes h k l =
    let both = shorter (token_kind (take (suc n) bytes)) (suc n) (longest_within n bytes) h in
    elim (cases_lt n k) [
      | inl g ↦ let z : k ≡ suc n = omega arith in ap (λ j. token_kind (take j bytes)) z ∙ both.0
      | inr g ↦ none_within n bytes both.1 k g
    ]

-- no beginning is a token where the longest is none
none_at_all : (bytes : List ℕ) → longest bytes ≡ None → Never s.Start bytes
none_at_all bytes h n = elim (cases_lt (length bytes) n) [
  | inl g ↦ ap token_kind (take_all n bytes (omega arith) ∙ sym (take_all (length bytes) bytes (omega arith))) ∙ none_within (length bytes) bytes h (length bytes) (omega arith)
  | inr g ↦ none_within (length bytes) bytes h n g
]

none_up_to : (n : ℕ) (bytes : List ℕ) → Never s.Start bytes → longest_within n bytes ≡ None
none_up_to zero bytes h = refl
none_up_to (suc n) bytes h = ap (λ o. or_shorter (suc n) o (longest_within n bytes)) (h (suc n)) ∙ none_up_to n bytes h

begun : (b : ℕ) (bytes : List ℕ) → Never (step s.Start b) bytes → Never s.Start (b ∷ bytes)
begun b bytes h zero = refl
begun b bytes h (suc n) = h n

dead_stays : (state : State) (xs ys : List ℕ) → Alive state (xs ++ ys) → (t : State) → t ≡ run state xs → is_dead t ≡ false
dead_stays state xs ys a s.Dead e = absurd (never_dead ys (ap (λ q. is_dead (run q ys)) e ∙ sym (ap is_dead (run_append state xs ys)) ∙ a))
dead_stays state xs ys a _ e = refl

alive_before : (state : State) (n k : ℕ) (bytes : List ℕ) → n ≤ k → Alive state (take k bytes) → Alive state (take n bytes)
alive_before state n k bytes l a =
    let e : k ≡ n + (k - n) = omega arith in
    dead_stays state (take n bytes) (take (k - n) (drop n bytes)) (ap (λ xs. is_dead (run state xs)) (sym (ap (λ j. take j bytes) e ∙ take-add n (k - n) bytes)) ∙ a) (run state (take n bytes)) refl

later : (quote : ℕ) (bytes : List ℕ) (n : ℕ) → n < length bytes → get_or bytes n 0 ≡ quote → Never (step s.Start quote) (drop (suc n) bytes) → longest (drop n bytes) ≡ None
later quote bytes n lt q h =
    let e : drop n bytes ≡ quote ∷ drop (suc n) bytes = drop-cons bytes n 0 lt ∙ ap (λ x. x ∷ drop (suc n) bytes) q in
    ap longest e ∙ none_up_to (length (quote ∷ drop (suc n) bytes)) (quote ∷ drop (suc n) bytes) (begun quote (drop (suc n) bytes) h)

pub strings : (bytes : List ℕ) (most n : ℕ) → longest bytes ≡ None → get_or bytes 0 0 ≡ 34 → Alive s.Start (take most bytes) → n < most → n < length bytes → get_or bytes n 0 ≡ 34 → longest (drop n bytes) ≡ None
strings [] most n h b a k lt q = absurd (omega arith)
strings (x ∷ bytes) most zero h b a k lt q = h
strings (x ∷ bytes) most (suc n) h b a k lt q =
    let start : Never s.Str bytes = subst (λ (y : ℕ). Never (step s.Start y) bytes) b (behind x bytes s.Start (none_at_all (x ∷ bytes) h)) in
    let live : Alive s.Str (take (suc n) bytes) = subst (λ (y : ℕ). Alive (step s.Start y) (take (suc n) bytes)) b (alive_before s.Start (suc (suc n)) most (x ∷ bytes) (omega arith) a) in
    later 34 bytes n (omega arith) q (in_strings n bytes start live (omega arith) q)

pub chars : (bytes : List ℕ) (most n : ℕ) → longest bytes ≡ None → get_or bytes 0 0 ≡ 39 → Alive s.Start (take most bytes) → n < most → n < length bytes → get_or bytes n 0 ≡ 39 → longest (drop n bytes) ≡ None
chars [] most n h b a k lt q = absurd (omega arith)
chars (x ∷ bytes) most zero h b a k lt q = h
chars (x ∷ bytes) most (suc n) h b a k lt q =
    let start : Never s.Quote bytes = subst (λ (y : ℕ). Never (step s.Start y) bytes) b (behind x bytes s.Start (none_at_all (x ∷ bytes) h)) in
    let live : Alive s.Quote (take (suc n) bytes) = subst (λ (y : ℕ). Alive (step s.Start y) (take (suc n) bytes)) b (alive_before s.Start (suc (suc n)) most (x ∷ bytes) (omega arith) a) in
    later 39 bytes n (omega arith) q (to_quote (drop (suc n) bytes) (in_quotes n bytes start live (omega arith) q))

pub first_byte : (marks : List Mark) (d : Mark) → 0 < length marks → (get_or marks 0 d).byte ≡ get_or (bytes_of marks) 0 0
first_byte marks d lt = byte_at marks 0 d lt

pub noted_string : (marks : List Mark) (read : ℕ) (d : Mark) → 0 < length marks → longest (bytes_of marks) ≡ None → read ≤ length marks → Alive s.Start (take read (bytes_of marks)) → (get_or marks 0 d).byte ≡ 34 → AreUnclosed 34 (length marks - read) marks
noted_string marks read d some h r a b n lt q =
    let k : n < read = omega arith in
    let j : n < length marks = omega arith in
    strings (bytes_of marks) read n h (sym (first_byte marks d some) ∙ b) a k (rw (length_bytes marks) j) q

pub noted_char : (marks : List Mark) (read : ℕ) (d : Mark) → 0 < length marks → longest (bytes_of marks) ≡ None → read ≤ length marks → Alive s.Start (take read (bytes_of marks)) → (get_or marks 0 d).byte ≡ 39 → AreUnclosed 39 (length marks - read) marks
noted_char marks read d some h r a b n lt q =
    let k : n < read = omega arith in
    let j : n < length marks = omega arith in
    chars (bytes_of marks) read n h (sym (first_byte marks d some) ∙ b) a k (rw (length_bytes marks) j) q

-- what is known of a quote at the head
pub known : (quote most : ℕ) (marks : List Mark) (d : Mark) → 0 < length marks → AreUnclosed quote most marks → (get_or marks 0 d).byte ≡ quote → most < length marks → longest (bytes_of marks) ≡ None
known quote most marks d some h b lt = h 0 (omega (arith, lt)) (sym (first_byte marks d some) ∙ b)

pub nothing_known : (quote : ℕ) (marks : List Mark) → AreUnclosed quote (length marks) marks
nothing_known quote marks n lt q = absurd (omega (arith, lt))

drop_bytes : (n : ℕ) (marks : List Mark) → bytes_of (drop n marks) ≡ drop n (bytes_of marks)
drop_bytes zero marks = refl
drop_bytes (suc n) [] = refl
drop_bytes (suc n) (m ∷ marks) = drop_bytes n marks

drop_length : (n : ℕ) (marks : List Mark) → length (drop n marks) + n ≤ length marks ⊎ length (drop n marks) ≡ 0
drop_length zero marks = inl (omega arith)
drop_length (suc n) [] = inr refl
drop_length (suc n) (m ∷ marks) = elim (drop_length n marks) [ inl h ↦ inl (omega (arith, h)) | inr h ↦ inr h ]

-- what is known of the quotes of marks is known of the last of them
pub still : (quote most n : ℕ) (marks rest : List Mark) → rest ≡ drop n marks → AreUnclosed quote most marks → AreUnclosed quote most rest
still quote most n marks rest e h k lt q =
    let bytes : bytes_of rest ≡ drop n (bytes_of marks) = ap bytes_of e ∙ drop_bytes n marks in
    let len : length rest ≡ length (drop n marks) = ap length e in
    let at : get_or (bytes_of marks) (n + k) 0 ≡ quote = sym (ap (λ xs. get_or xs k 0) bytes ∙ get_or-drop n (bytes_of marks) k 0) ∙ q in
    let near : most + (n + k) < length marks = elim (drop_length n marks) [ inl g ↦ omega arith | inr g ↦ absurd (omega arith) ] in
    ap (λ xs. longest (drop k xs)) bytes ∙ ap longest (drop-drop k n (bytes_of marks)) ∙ h (n + k) near at
