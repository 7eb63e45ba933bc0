-- Options from the front of the words, and what they ask for.
use Rattle.std.proofs.Common.{◌≡◌, ◌↔◌, ◌&&◌, ◌⊎◌, inl, inr, ℕ, Bool, true, false, not, if◌then◌else◌, List, [], ◌∷◌, Option, Some, None, is_some, option_map, Result, Err, IsErrOf, map, codes, refl, sym, ap, subst, ◌∙◌, true≢false}
use Rattle.std.specs.Option.{option_and_then, option_map_or}
use Rattle.std.specs.Str.{bytes_eq}
use Rattle.std.proofs.lemmas.Slice.Eq.{bytes_eq-Decides}
use Rattle.sc_words.specs.Options.{Flags, Given, all, fits, given, heap_range, is_flag, is_listed, is_right, is_value, make_range, modules_or, named, number_in, number_or, options_by, options_in, options_of, stack_range, taken, turns_range}
use Rattle.sc_words.specs.CommandLine.{IsFound, options_found}
use Rattle.sc_words.specs.Listing.{behind}
use Rattle.sc_words.specs.declared.command_line.Found.{Found}
use Rattle.sc_words.specs.declared.listed.Left.{Left}
use Rattle.sc_words.specs.declared.options.Options.{Options}
use Rattle.sc_words.specs.declared.options.WordsFault.{WordsFault}
use Rattle.sc_words.specs.declared.options.WordsFault.TheVariants.{Bad, NoMemory}

pub both : (a b : Bool) → (a && b) ≡ true → (a ≡ true) × (b ≡ true)
both true b e = (refl, e)
both false b e = absurd (true≢false (sym e))

pub cases : (b : Bool) → (b ≡ true) ⊎ (b ≡ false)
cases true = inl refl
cases false = inr refl

-- ---- the first option

pub flag_given : (name : List ℕ) (words : List (List ℕ)) → is_flag name ≡ true → given (name ∷ words) ≡ (name, None) ∷ given words
flag_given name [] e = refl
flag_given name (value ∷ words) e = rw e refl

pub valued_given : (name value : List ℕ) (words : List (List ℕ)) → is_flag name ≡ false → given (name ∷ value ∷ words) ≡ (name, Some value) ∷ given words
valued_given name value words e = rw e refl

-- what is listed behind the first option
abbrev rest_listed : Option (List (List ℕ)) → Left → Bool
rest_listed rest fewer = option_map_or (λ words. is_listed fewer (given words)) rest false

first_so : (b : Bool) (words : List (List ℕ)) (fewer : Option Left)
    → (b && option_map_or (λ f. is_listed f (given words)) fewer false) ≡ option_map_or (rest_listed (if b then Some words else None)) fewer false
first_so true words None = refl
first_so true words (Some f) = refl
first_so false words None = refl
first_so false words (Some f) = refl

first : (left : Left) (name : List ℕ) (words : List (List ℕ)) → is_listed left (given (name ∷ words)) ≡ option_map_or (rest_listed (behind name words)) (taken left name) false
first left name [] = first_so (is_flag name) [] (taken left name)
first left name (value ∷ words) =
    elim (cases (is_flag name)) [
      | inl e ↦ ap (is_listed left) (flag_given name (value ∷ words) e) ∙ rw e refl
      | inr e ↦ ap (is_listed left) (valued_given name value words e) ∙ rw e (first_so (is_value value && fits name value) words (taken left name))
    ]

module _ {S : Type 0} (g : S → List ℕ) (left : Left) (name : S) (rest words : List S) (n : List ℕ) (whole : Bool) (front : rest ≡ name ∷ words) (n-is : n ≡ g name)
    (kept : is_listed left (given (map g rest)) ≡ whole) where
  from_front : option_map_or (rest_listed (behind n (map g words))) (taken left n) false ≡ whole
  from_front =
      ap (λ m. option_map_or (rest_listed (behind m (map g words))) (taken left m) false) n-is
      ∙ sym (first left (g name) (map g words)) ∙ sym (ap (λ xs. is_listed left (given (map g xs))) front) ∙ kept

  -- an option that may not be given
  pub refused : taken left n ≡ None → false ≡ whole
  refused none = sym (ap (λ t. option_map_or (rest_listed (behind n (map g words))) t false) none) ∙ from_front

  -- an option is taken off the words, with its value
  pub goes_on : (fewer : Left) (next : List S) → taken left n ≡ Some fewer → behind n (map g words) ≡ Some (map g next) → is_listed fewer (given (map g next)) ≡ whole
  goes_on fewer next may right =
      sym (ap (λ t. option_map_or (rest_listed (behind n (map g words))) t false) may ∙ ap (λ ws. rest_listed ws fewer) right) ∙ from_front

-- ---- the option of a name

-- an option of this name, which is right
abbrev pub IsFor : List ℕ → Option Given → Type 0
IsFor name None = Unit {0}
IsFor name (Some option) = (option.0 ≡ name) × (is_right option ≡ true)

for_here : (name : List ℕ) (option : Given) (o : Option Given) → is_right option ≡ true → IsFor name o → IsFor name (if bytes_eq option.0 name then Some option else o)
for_here name option o right rest =
    let P : Bool → Type 0 = λ b. IsFor name (if b then Some option else o) in
    elim (cases (bytes_eq option.0 name)) [
      | inl e ↦ subst P (sym e) ((bytes_eq-Decides option.0 name).0 e, right)
      | inr e ↦ subst P (sym e) rest
    ]

fewer_listed : (options : List Given) (o : Option Left) → option_map_or (λ fewer. is_listed fewer options) o false ≡ true → (fewer : Left) × (is_listed fewer options ≡ true)
fewer_listed options None e = absurd (true≢false (sym e))
fewer_listed options (Some fewer) e = (fewer, e)

pub named_so : (name : List ℕ) (options : List Given) (left : Left) → is_listed left options ≡ true → IsFor name (named name options)
named_so name [] left l = tt
named_so name (option ∷ options) left l =
    let parts = both (is_right option) (option_map_or (λ fewer. is_listed fewer options) (taken left option.0) false) l in
    let rest = fewer_listed options (taken left option.0) parts.1 in
    for_here name option (named name options) parts.0 (named_so name options rest.0 rest.1)

-- ---- what they ask for

-- the value of an option of this name fits it
abbrev Fits : List ℕ → Option (List ℕ) → Type 0
Fits name None = Unit {0}
Fits name (Some value) = fits name value ≡ true

value_fits : (name : List ℕ) (o : Option Given) → IsFor name o → Fits name (option_and_then (λ option. option.1) o)
value_fits name None f = tt
value_fits name (Some (n, None)) f = tt
value_fits name (Some (n, Some value)) f =
    let parts = both (not (is_flag n)) (is_value value && fits n value) f.1 in
    subst (λ m. fits m value ≡ true) f.0 (both (is_value value) (fits n value) parts.1).1

stack_some : (o : Option (List ℕ)) → Fits (codes "--stack") o → is_some (number_or 1048576 stack_range o) ≡ true
stack_some None f = refl
stack_some (Some value) f = f

heap_some : (o : Option (List ℕ)) → Fits (codes "--heap") o → is_some (number_or 4194304 heap_range o) ≡ true
heap_some None f = refl
heap_some (Some value) f = f

turns_some : (o : Option (List ℕ)) → Fits (codes "--turns") o → is_some (number_or 50000000 turns_range o) ≡ true
turns_some None f = refl
turns_some (Some value) f = f

within_some : (o : Option ℕ) → is_some o ≡ true → is_some (option_map Some o) ≡ true
within_some None e = absurd (true≢false (sym e))
within_some (Some n) e = refl

make_some : (o : Option (List ℕ)) → Fits (codes "--make") o → is_some (modules_or o) ≡ true
make_some None f = refl
make_some (Some value) f = within_some (number_in make_range value) f

all_some : (a b c : Option ℕ) (d : Option (Option ℕ)) (dir : List ℕ) (flags : Flags) → is_some a ≡ true → is_some b ≡ true → is_some c ≡ true → is_some d ≡ true
    → is_some (options_by a b c d dir flags) ≡ true
all_some (Some a) (Some b) (Some c) (Some d) dir flags p q r s = refl
all_some (Some a) (Some b) (Some c) None dir flags p q r s = absurd (true≢false (sym s))
all_some (Some a) (Some b) None d dir flags p q r s = absurd (true≢false (sym r))
all_some (Some a) None c d dir flags p q r s = absurd (true≢false (sym q))
all_some None b c d dir flags p q r s = absurd (true≢false (sym p))

-- words of the language ask for something
pub listed_some : (words : List (List ℕ)) → is_listed all (given words) ≡ true → options_of words ≡ None → ⊥
listed_some words l none =
    let right : (name : List ℕ) → Fits name (option_and_then (λ option. option.1) (named name (given words))) = λ name. value_fits name _ (named_so name (given words) all l) in
    let some : is_some (options_in (given words)) ≡ true = all_some _ _ _ _ _ _ (stack_some _ (right (codes "--stack"))) (heap_some _ (right (codes "--heap")))
    (turns_some _ (right (codes "--turns"))) (make_some _ (right (codes "--make"))) in
    let same : options_in (given words) ≡ None = sym (ap (λ b. if b then options_in (given words) else None) l) ∙ none in
    true≢false (sym some ∙ ap is_some same)

-- what is found asks for what the words ask for
pub found_asks : (found : Found) (words : List (List ℕ)) → is_listed all (given words) ≡ true → IsFound found (given words) → options_found found ≡ options_of words
found_asks found words l is =
    let whole : options_found found ≡ options_in (given words) =
    rw (is.stack, is.heap, is.turns, is.dir, is.make, is.trace, is.coverage, is.count) refl in
    whole ∙ sym (ap (λ b. if b then options_in (given words) else None) l)

pub bad_so : (r s : Result Options WordsFault) (o p : Option Options) → IsErrOf s Bad ↔ (o ≡ None) → r ≡ s → o ≡ p → IsErrOf r Bad ↔ (p ≡ None)
bad_so r s o p h same asks = (λ bad. sym asks ∙ h.0 (subst (λ x. IsErrOf x Bad) same bad), λ none. subst (λ x. IsErrOf x Bad) (sym same) (h.1 (asks ∙ none)))

pub memory_so : (r : Result Options WordsFault) (o : Option Options) → r ≡ Err NoMemory → (o ≡ None → ⊥) → IsErrOf r Bad ↔ (o ≡ None)
memory_so r o same some =
    (λ bad. absurd (cc), λ none. absurd (some none))
