-- Slots that follow a change of the texts.
use Rattle.std.proofs.Common.{◌≡◌, ◌≢◌, ◌⊎◌, inl, inr, ℕ, zero, suc, ◌+◌, ◌-◌, ◌*◌, ◌/◌, ◌<◌, ◌≤◌, ◌==◌, Bool, true, false, cond, List, [], ◌∷◌, ◌++◌, length, set, refl, sym, ap, ◌∙◌, subst, Option, Some, None, arith}
use Rattle.std.proofs.lemmas.Bool.Decides.{nat_tests}
use Rattle.std.proofs.lemmas.List.{length_push}
use Rattle.std.proofs.Math.ListN.{length-set}
use Rattle.std.specs.Prelude.{IsTrue}
use Rattle.std.specs.List.{slice_get}
use Rattle.sc_isa_image.specs.declared.text.Text.{Text}
use Rattle.sc_isa_image.specs.Slots.{AreSlots, IsRenewed, IsRenewedTo, slot_address}
use Rattle.sc_isa_image.specs.Texts.{IsOrdered, count_of, end_of, holds, place_of, starts_at, text_holding, text_word, without, word_in_found}
use Rattle.sc_isa_image.proofs.Find.{get-set}
use Rattle.sc_isa_image.proofs.Functions.{false-eq, get-push}
use Rattle.sc_isa_image.proofs.Order.{ended-fails, get-set-other, later-fails, only-start}

eq-true : (m n : ℕ) → (m == n) ≡ true → m ≡ n
eq-true m n h = grind (arith, nat_tests)

inside : (xs : List (Option ℕ)) (i : ℕ) (r : Option ℕ) → slice_get xs i ≡ Some r → i < length xs
inside [] i r h = absurd (cc (h))
inside (x ∷ xs) zero r h = omega arith
inside (x ∷ xs) (suc i) r h = let l = inside xs i r h in omega arith

-- outside of a range of slots the words are as they were
abbrev pub Agree : List Text → List Text → ℕ → ℕ → Type 0
Agree old new from count = (i : ℕ) → (i < from) ⊎ (from + count < i) → text_word new (slot_address i) ≡ text_word old (slot_address i)

pub same-slots : (old new : List (Option ℕ)) (before after : List Text) (from count : ℕ) → AreSlots old before → IsRenewed old new after from count → Agree before after from count → AreSlots new after
same-slots old new before after from count slots renewed agree = record {
  few = rw renewed.count slots.few;
  right = λ i r h. elim (where-is i) [
    | inl a ↦ renewed.right i r h a.0 a.1
    | inr b ↦ slots.right i r (sym (renewed.others i b) ∙ h) ∙ sym (agree i b)
  ];
}
  where
    where-is : (i : ℕ) → ((from ≤ i) × (i ≤ from + count)) ⊎ ((i < from) ⊎ (from + count < i))
    where-is i = grind arith

pub all_renewed : (old new : List (Option ℕ)) (texts : List Text) (from count end : ℕ) → IsRenewedTo old new texts from end → end ≤ from + count + 1 → (end ≤ from + count → length old ≤ end) → IsRenewed old new texts from count
all_renewed old new texts from count end renewed within whole = record {
  count = renewed.count;
  right = λ i r h low high. renewed.right i r h low (below i r h high);
  others = λ i out. elim out [ inl a ↦ renewed.others i (inl a) | inr b ↦ renewed.others i (inr (omega arith)) ];
}
  where
    near : (a b : ℕ) → (a ≤ b) ⊎ (b < a)
    near a b = grind arith

    below : (i : ℕ) (r : Option ℕ) → slice_get new i ≡ Some r → i ≤ from + count → i < end
    below i r h high =
        let l = inside new i r h in
        let n = renewed.count in
        elim (near end (from + count)) [ inl a ↦ (let w = whole a in omega arith) | inr b ↦ omega arith ]

-- one slot more was looked up
pub renewed-step : (old now : List (Option ℕ)) (texts : List Text) (from i : ℕ) (x : Option ℕ) → IsRenewedTo old now texts from i → from ≤ i → i < length old → x ≡ text_word texts (slot_address i) → IsRenewedTo old (set now i x) texts from (i + 1)
renewed-step old now texts from i x renewed low inside is = record {
  count = length-set now i x ∙ renewed.count;
  right = λ k r h a b. elim (get-set now i x k r h) [
    | inl same ↦ same.1 ∙ (is ∙ ap (λ n. text_word texts (slot_address n)) (sym same.0))
    | inr other ↦ renewed.right k r other.1 a (less k other.0 b)
  ];
  others = λ k out. get-set-other now i k x (apart k out) ∙ renewed.others k (elim out [ inl a ↦ inl a | inr b ↦ inr (omega arith) ]);
}
  where
    less : (k : ℕ) → k ≢ i → k < i + 1 → k < i
    less k ne l = grind arith

    apart : (k : ℕ) → (k < from) ⊎ (i + 1 ≤ k) → k ≢ i
    apart k (inl a) = λ e. absurd (omega arith)
    apart k (inr b) = λ e. absurd (omega arith)

pub renewed_none : (old : List (Option ℕ)) (texts : List Text) (from : ℕ) → IsRenewedTo old old texts from from
renewed_none old texts from = record {
  count = refl;
  right = λ i r h a b. absurd (omega arith);
  others = λ i out. refl;
}

pub renewed_past : (old : List (Option ℕ)) (texts : List Text) (from count : ℕ) → length old ≤ from → IsRenewed old old texts from count
renewed_past old texts from count past = record {
  count = refl;
  right = λ i r h a b. absurd (let l = inside old i r h in omega arith);
  others = λ i out. refl;
}

-- one slot more at the end
pub slots-push : (slots : List (Option ℕ)) (texts : List Text) (x : Option ℕ) → AreSlots slots texts → length slots < 0x01000000 → x ≡ text_word texts (slot_address (length slots)) → AreSlots (slots ++ x ∷ []) texts
slots-push slots texts x are room is = record {
  few = rw (length_push slots x) (omega arith);
  right = λ i r h. by (i == length slots) i refl r (sym (get-push slots x i) ∙ h);
}
  where
    by : (b : Bool) (i : ℕ) → (i == length slots) ≡ b → (r : Option ℕ) → cond b (Some x) (slice_get slots i) ≡ Some r → r ≡ text_word texts (slot_address i)
    by true i e r h = let same : x ≡ r = cc in sym same ∙ (is ∙ ap (λ n. text_word texts (slot_address n)) (sym (eq-true i (length slots) e)))
    by false i e r h = are.right i r h

-- what a text does not hold is as it was when it is put, and when it is taken
outside-fails : (t : Text) (from i : ℕ) → from ≡ (t.at.start - 0x00100000) / 4 → (i < from) ⊎ (from + length t.words < i) → holds (slot_address i) t ≡ false
outside-fails t from i e (inl a) = let s = t.at.start in later-fails (slot_address i) t (omega arith)
outside-fails t from i e (inr b) = let s = t.at.start in let n = length t.words in ended-fails (slot_address i) t (omega arith)

pub agree-put : (old new : List Text) (t : Text) (from : ℕ) → from ≡ (t.at.start - 0x00100000) / 4 → ((pc : ℕ) → text_holding new pc ≡ cond (holds pc t) (Some t) (text_holding old pc)) → Agree old new from (length t.words)
agree-put old new t from e law i out = ap (word_in_found (slot_address i)) (law (slot_address i) ∙ ap (λ b. cond b (Some t) (text_holding old (slot_address i))) (outside-fails t from i e out))

pub agree-set : (old new : List Text) (pc word from : ℕ) → from ≡ (pc - 0x00100000) / 4 → ((q : ℕ) → text_word new q ≡ cond (q == pc) (Some word) (text_word old q)) → Agree old new from 1
agree-set old new pc word from e law i out = law (slot_address i) ∙ ap (λ b. cond b (Some word) (text_word old (slot_address i))) (false-eq (slot_address i) pc (other out))
  where
    other : (i < from) ⊎ (from + 1 < i) → slot_address i ≢ pc
    other (inl a) = λ s. absurd (omega arith)
    other (inr b) = λ s. absurd (omega arith)

pub agree-take : (old new : List Text) (start from : ℕ) → IsOrdered old → IsTrue (starts_at start (place_of (text_holding old start))) → from ≡ (start - 0x00100000) / 4 → ((pc : ℕ) → text_holding new pc ≡ without start (text_holding old pc)) → Agree old new from (count_of (text_holding old start))
agree-take old new start from ordered there e law i out = ap (word_in_found (slot_address i)) (law (slot_address i) ∙ kept (text_holding old start) refl there (text_holding old (slot_address i)) refl out)
  where
    kept : (r : Option Text) → text_holding old start ≡ r → IsTrue (starts_at start (place_of r)) → (s : Option Text) → text_holding old (slot_address i) ≡ s → (i < from) ⊎ (from + count_of r < i) → without start s ≡ s
    kept r a b None h out = refl
    kept None a b (Some u) h out = absurd (cc (b))
    kept (Some t) a b (Some u) h out = by (u.at.start == start) refl
      where
        by : (c : Bool) → (u.at.start == start) ≡ c → cond c None (Some u) ≡ Some u
        by false f = refl
        by true f = absurd (only-start old t u start (slot_address i) ordered a b h f (outside-fails t from i (e ∙ ap (λ n. (n - 0x00100000) / 4) (sym (eq-true t.at.start start b))) out))
