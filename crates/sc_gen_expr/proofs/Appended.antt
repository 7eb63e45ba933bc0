-- What is appended word for word is what the whole code appends.
use Rattle.std.proofs.Common.{◌≡◌, ◌<◌, ◌≤◌, ℕ, ◌+◌, ◌*◌, List, [], ◌∷◌, ◌++◌, length, take, get_or, refl, sym, ap, subst, ◌∙◌, arith, append_assoc, append-nil, length-append, pos, None, Some}
use Rattle.std.proofs.lemmas.List.{map-append, length-map, take_more, take_all}
use Rattle.std.proofs.lemmas.List.Sums.{fold-append}
use Rattle.std.proofs.lemmas.Grind.{flat_map-append}
use Rattle.sc_object.specs.declared.object.Reloc.{Reloc}
use Rattle.sc_gen_expr.specs.declared.emit.Emit.{Emit}
use Rattle.sc_gen_code.specs.declared.symbolic.Symbolic.{Symbolic}
use Rattle.sc_gen_code.specs.declared.symbolic.Symbolic.TheVariants.{Plain, Upper, Lower, Call}
use Rattle.sc_gen_code.specs.declared.symbolic.Target.{Target}
use Rattle.sc_gen_code.specs.Code.{Code}
use Rattle.sc_gen_expr.specs.Words.{words, symbolic_word, word_target, targets, mention, mention_all, relocation, relocs_of, relocs, number_of, fitted}
use Rattle.sc_gen_expr.specs.Emitted.{Appends, Relocates, target_of}
use Rattle.sc_gen_expr.proofs.Mentions.{Known, known-all, relocs-kept, number-own}

-- relocations of two parts
relocs-append : (known : List Target) (section at : ℕ) (xs ys : Code) →
    relocs known section at (xs ++ ys) ≡ relocs known section at xs ++ relocs known section (at + 4 * length xs) ys
relocs-append known section at [] ys = let e : at ≡ at + 0 = omega arith in ap (λ (n : ℕ). relocs known section n ys) e
relocs-append known section at (x ∷ xs) ys =
    let first = relocs_of known section at (relocation x) in
    let e : (at + 4) + 4 * length xs ≡ at + 4 * length (x ∷ xs) = omega arith in
    ap (λ (l : List Reloc). first ++ l) (relocs-append known section (at + 4) xs ys)
    ∙ sym (append_assoc first (relocs known section (at + 4) xs) (relocs known section ((at + 4) + 4 * length xs) ys))
    ∙ ap (λ (n : ℕ). (first ++ relocs known section (at + 4) xs) ++ relocs known section n ys) e

-- a word names at most one target
named-is : (x : Symbolic) → target_of (relocation x) ≡ targets (x ∷ [])
named-is (Plain i) = refl
named-is (Upper t) = refl
named-is (Lower w t) = refl
named-is (Call t) = refl

-- so the relocations of what stands before it stay
kept-behind : (known : List Target) (x : Symbolic) (section at : ℕ) (code : Code) → Known known (targets code) →
    relocs (mention_all known (targets (x ∷ []))) section at code ≡ relocs known section at code
kept-behind known (Plain i) section at code k = refl
kept-behind known (Upper t) section at code k = relocs-kept known t section at code k
kept-behind known (Lower w t) section at code k = relocs-kept known t section at code k
kept-behind known (Call t) section at code k = relocs-kept known t section at code k

-- one word
pub one-more : (x : Symbolic) (old mid new : Emit) → Relocates (relocation x) old mid → new.words ≡ mid.words ++ symbolic_word x ∷ [] →
    new.targets ≡ mid.targets → new.relocs ≡ mid.relocs → new.section ≡ mid.section → new.temporaries ≡ mid.temporaries → Appends (x ∷ []) old new
one-more x old mid new r ew et er es ep =
    let at = 4 * length old.words in
    record {
      words_are = ew ∙ ap (λ (l : List ℕ). l ++ symbolic_word x ∷ []) r.words_stay;
      targets_are = et ∙ r.targets_are ∙ ap (λ (l : List Target). mention_all old.targets l) (named-is x);
      relocs_are =
          er
          ∙ r.relocs_are
          ∙ ap (λ (k : List Target). old.relocs ++ relocs_of k old.section at (relocation x)) (sym et)
          ∙ ap (λ (l : List Reloc). old.relocs ++ l) (sym (append-nil (relocs_of new.targets old.section at (relocation x))));
      same_section = es ∙ r.same_section;
      same_temporaries = ep ∙ r.same_temporaries;
    }

-- and one word behind others
pub appends-more : (xs : Code) (x : Symbolic) (a b c : Emit) → Appends xs a b → Appends (x ∷ []) b c → Appends (xs ++ x ∷ []) a c
appends-more xs x a b c p q =
    let at = 4 * length a.words in
    let known = subst (λ (k : List Target). Known k (targets xs)) (sym p.targets_are) (known-all a.targets (targets xs)) in
    let kept : relocs b.targets a.section at xs ≡ relocs c.targets a.section at xs =
    sym (kept-behind b.targets x a.section at xs known) ∙ ap (λ (k : List Target). relocs k a.section at xs) (sym q.targets_are) in
    let long = ap length p.words_are ∙ length-append a.words (words xs) in
    let place : 4 * length b.words ≡ 4 * length a.words + 4 * length xs = omega (arith, length-map xs symbolic_word) in
    let front = relocs c.targets a.section at xs in
    record {
      words_are =
          q.words_are
          ∙ ap (λ (l : List ℕ). l ++ words (x ∷ [])) p.words_are
          ∙ append_assoc a.words (words xs) (words (x ∷ []))
          ∙ ap (λ (l : List ℕ). a.words ++ l) (sym (map-append symbolic_word xs (x ∷ [])));
      targets_are =
          q.targets_are
          ∙ ap (λ (k : List Target). mention_all k (targets (x ∷ []))) p.targets_are
          ∙ sym (fold-append mention a.targets (targets xs) (targets (x ∷ [])))
          ∙ ap (λ (l : List Target). mention_all a.targets l) (sym (flat_map-append word_target xs (x ∷ [])));
      relocs_are =
          q.relocs_are
          ∙ ap (λ (l : List Reloc). l ++ relocs c.targets b.section (4 * length b.words) (x ∷ [])) (p.relocs_are ∙ ap (λ (l : List Reloc). a.relocs ++ l) kept)
          ∙ append_assoc a.relocs front (relocs c.targets b.section (4 * length b.words) (x ∷ []))
          ∙ ap (λ (s : ℕ). a.relocs ++ (front ++ relocs c.targets s (4 * length b.words) (x ∷ []))) p.same_section
          ∙ ap (λ (n : ℕ). a.relocs ++ (front ++ relocs c.targets a.section n (x ∷ []))) place
          ∙ ap (λ (l : List Reloc). a.relocs ++ l) (sym (relocs-append c.targets a.section at xs (x ∷ [])));
      same_section = q.same_section ∙ p.same_section;
      same_temporaries = q.same_temporaries ∙ p.same_temporaries;
    }

-- no code, and code word by word
pub appends-none : (a : Emit) → Appends [] a a
appends-none a = record {
  words_are = sym (append-nil a.words);
  targets_are = refl;
  relocs_are = sym (append-nil a.relocs);
  same_section = refl;
  same_temporaries = refl;
}

pub appended-step : (code : Code) (i : ℕ) (x : Symbolic) (a b c : Emit) → Appends (take i code) a b → Appends (x ∷ []) b c → x ≡ get_or code i x →
    i < length code → Appends (take (i + 1) code) a c
appended-step code i x a b c p q x-is below =
    let e : take i code ++ x ∷ [] ≡ take (i + 1) code = ap (λ (y : Symbolic). take i code ++ y ∷ []) x-is ∙ sym (take_more code i x below) in
    subst (λ (l : Code). Appends l a c) e (appends-more (take i code) x a b c p q)

pub appended-end : (code : Code) (i : ℕ) (a b : Emit) → Appends (take i code) a b → length code ≤ i → Appends code a b
appended-end code i a b p over = subst (λ (l : Code). Appends l a b) (take_all i code over) p

-- a relocation of a target, which has its number already or gets it now
pub relocated : (kind : ℕ) (t : Target) (old new : Emit) (offset symbol : ℕ) → new.words ≡ old.words → new.targets ≡ mention old.targets t →
    offset ≡ fitted (4 * length old.words) → symbol ≡ fitted (number_of old.targets t) →
    new.relocs ≡ old.relocs ++ record { section = old.section; at = offset; kind = kind; symbol = symbol; addend = pos 0 } ∷ [] →
    new.section ≡ old.section → new.temporaries ≡ old.temporaries → Relocates (Some (kind, t)) old new
relocated kind t old new offset symbol ew et eo en er es ep =
    let own = number-own old.targets t in
    let named : symbol ≡ fitted (number_of new.targets t) = en ∙ ap fitted (sym own) ∙ ap (λ (k : List Target). fitted (number_of k t)) (sym et) in
    record {
      words_stay = ew;
      targets_are = et;
      relocs_are =
          er
          ∙ ap (λ (n : ℕ). old.relocs ++ record { section = old.section; at = n; kind = kind; symbol = symbol; addend = pos 0 } ∷ []) eo
          ∙ ap (λ (n : ℕ). old.relocs ++ record { section = old.section; at = fitted (4 * length old.words); kind = kind; symbol = n; addend = pos 0 } ∷ []) named;
      same_section = es;
      same_temporaries = ep;
    }

pub relocates-nothing : (a : Emit) → Relocates None a a
relocates-nothing a = record { words_stay = refl; targets_are = refl; relocs_are = sym (append-nil a.relocs); same_section = refl; same_temporaries = refl }
