-- Targets that are known keep their numbers when others are named, so that relocations stay as they were written.
use Rattle.std.proofs.Common.{◌≡◌, ℕ, ◌+◌, Bool, true, false, ◌||◌, ◌&&◌, if◌then◌else◌, List, [], ◌∷◌, ◌++◌, refl, sym, ap, subst, ◌∙◌, append-nil, pos, Option, None, Some, eq-eqb}
use Rattle.std.specs.List.{list_any, position_or_len}
use Rattle.std.specs.Option.{option_eq}
use Rattle.std.specs.Str.{bytes_eq}
use Rattle.std.proofs.lemmas.List.Folds.{list_any-append}
use Rattle.std.proofs.lemmas.Slice.Eq.{bytes_eq-Decides}
use Rattle.sc_gen_code.specs.declared.symbolic.Target.{Target}
use Rattle.sc_gen_code.specs.declared.symbolic.Target.TheVariants.{Named, Literal}
use Rattle.sc_object.specs.declared.object.Reloc.{Reloc}
use Rattle.sc_gen_code.specs.declared.symbolic.Symbolic.TheVariants.{Plain, Upper, Lower, Call}
use Rattle.sc_gen_code.specs.Code.{Code}
use Rattle.sc_gen_expr.specs.Words.{lower_kind, target_eq, mention, mention_all, number_of, fitted, targets, relocs}

-- a target that is among some is among more
pub any-more : (t : Target) (xs ys : List Target) → list_any (target_eq t) xs ≡ true → list_any (target_eq t) (xs ++ ys) ≡ true
any-more t xs ys h = list_any-append (target_eq t) xs ys ∙ ap (λ (b : Bool). b || list_any (target_eq t) ys) h

-- and has the same place
pub place-more : (p : Target → Bool) (xs ys : List Target) → list_any p xs ≡ true → position_or_len p (xs ++ ys) ≡ position_or_len p xs
place-more p [] ys h = cc
place-more p (x ∷ xs) ys h =
    elim (p x) as (λ b. p x ≡ b → position_or_len p ((x ∷ xs) ++ ys) ≡ position_or_len p (x ∷ xs)) [
      | true ↦ λ e. rw e refl
      | false ↦ λ e. rw e (ap (λ (n : ℕ). 1 + n) (place-more p xs ys (sym (ap (λ (b : Bool). b || list_any p xs) e) ∙ h)))
    ] refl

-- naming one more only appends
pub mention-appends : (known : List Target) (t : Target) → (more : List Target) × (mention known t ≡ known ++ more)
mention-appends known t =
    elim (list_any (target_eq t) known) as (λ b. (more : List Target) × ((if b then known else known ++ t ∷ []) ≡ known ++ more)) [
      | true ↦ ([], sym (append-nil known))
      | false ↦ (t ∷ [], refl)
    ]

pub mention-known : (known : List Target) (t u : Target) → list_any (target_eq u) known ≡ true → list_any (target_eq u) (mention known t) ≡ true
mention-known known t u h =
    let m = mention-appends known t in
    subst (λ (xs : List Target). list_any (target_eq u) xs ≡ true) (sym m.1) (any-more u known m.0 h)

pub number-kept : (known : List Target) (t u : Target) → list_any (target_eq u) known ≡ true → number_of (mention known t) u ≡ number_of known u
number-kept known t u h =
    let m = mention-appends known t in
    ap (λ (xs : List Target). position_or_len (target_eq u) xs) m.1 ∙ place-more (target_eq u) known m.0 h

-- all of these are known
abbrev pub Known : List Target → List Target → Type 0
Known known [] = Unit {0}
Known known (t ∷ ts) = (list_any (target_eq t) known ≡ true) × Known known ts

pub known-mention : (known ts : List Target) (t : Target) → Known known ts → Known (mention known t) ts
known-mention known [] t k = tt
known-mention known (u ∷ us) t k = (mention-known known t u k.0, known-mention known us t k.1)

pub known-more : (known ts more : List Target) → Known known ts → Known (mention_all known more) ts
known-more known ts [] k = k
known-more known ts (t ∷ more) k = known-more (mention known t) ts more (known-mention known ts t k)

-- one relocation and those behind it
abbrev reloc : ℕ → ℕ → ℕ → ℕ → Reloc
reloc section at kind m = record { section = section; at = fitted at; kind = kind; symbol = fitted m; addend = pos 0 }

two : (section kind at m n : ℕ) (rs ss : List Reloc) → m ≡ n → rs ≡ ss →
    reloc section at kind m ∷ rs ≡ reloc section at kind n ∷ ss
two section kind at m n rs ss e f = ap (λ (k : ℕ). reloc section at kind k ∷ rs) e ∙ ap (λ (xs : List Reloc). reloc section at kind n ∷ xs) f

-- a target is equal to itself
bytes-self : (a : List ℕ) → bytes_eq a a ≡ true
bytes-self a = (bytes_eq-Decides a a).1 refl

module-self : (m : Option (List ℕ)) → option_eq bytes_eq m m ≡ true
module-self None = refl
module-self (Some a) = bytes-self a

target-self : (t : Target) → target_eq t t ≡ true
target-self (Named k) = ap (λ (b : Bool). b && bytes_eq k.name k.name) (module-self k.«module») ∙ bytes-self k.name
target-self (Literal n) = eq-eqb n n refl

-- a target that is named is among those named, with the number that it had or would have
mention-has : (known : List Target) (t : Target) → list_any (target_eq t) (mention known t) ≡ true
mention-has known t =
    elim (list_any (target_eq t) known) as (λ b. list_any (target_eq t) known ≡ b → list_any (target_eq t) (if b then known else known ++ t ∷ []) ≡ true) [
      | true ↦ λ e. e
      | false ↦ λ e.
          list_any-append (target_eq t) known (t ∷ [])
          ∙ ap (λ (b : Bool). b || list_any (target_eq t) (t ∷ [])) e
          ∙ ap (λ (b : Bool). b || false) (target-self t)
    ] refl

place-own : (p : Target → Bool) (xs : List Target) (t : Target) → p t ≡ true → position_or_len p (xs ++ t ∷ []) ≡ position_or_len p xs
place-own p [] t e = rw e refl
place-own p (x ∷ xs) t e =
    elim (p x) as (λ b. p x ≡ b → position_or_len p ((x ∷ xs) ++ t ∷ []) ≡ position_or_len p (x ∷ xs)) [
      | true ↦ λ h. rw h refl
      | false ↦ λ h. rw h (ap (λ (n : ℕ). 1 + n) (place-own p xs t e))
    ] refl

pub number-own : (known : List Target) (t : Target) → number_of (mention known t) t ≡ number_of known t
number-own known t =
    elim (list_any (target_eq t) known) as (λ b. number_of (if b then known else known ++ t ∷ []) t ≡ number_of known t) [
      | true ↦ refl
      | false ↦ place-own (target_eq t) known t (target-self t)
    ]

pub known-all : (known ts : List Target) → Known (mention_all known ts) ts
known-all known [] = tt
known-all known (t ∷ ts) =
    ((known-more (mention known t) (t ∷ []) ts (mention-has known t, tt)).0, known-all (mention known t) ts)

-- relocations of known targets stay when one more target is named
pub relocs-kept : (known : List Target) (t : Target) (section at : ℕ) (code : Code) → Known known (targets code) →
    relocs (mention known t) section at code ≡ relocs known section at code
relocs-kept known t section at [] k = refl
relocs-kept known t section at (Plain i ∷ xs) k = relocs-kept known t section (at + 4) xs k
relocs-kept known t section at (Upper u ∷ xs) k = two section 26 at _ _ _ _ (number-kept known t u k.0) (relocs-kept known t section (at + 4) xs k.1)
relocs-kept known t section at (Lower w u ∷ xs) k = two section (lower_kind w) at _ _ _ _ (number-kept known t u k.0) (relocs-kept known t section (at + 4) xs k.1)
relocs-kept known t section at (Call u ∷ xs) k = two section 19 at _ _ _ _ (number-kept known t u k.0) (relocs-kept known t section (at + 4) xs k.1)
