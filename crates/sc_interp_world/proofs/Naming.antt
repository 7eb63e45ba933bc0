-- Names that are given and taken back, where they are found by their hashes.
use Rattle.std.proofs.Common.{◌≡◌, ℕ, ◌&&◌, Bool, true, false, cond, if◌then◌else◌, List, [], ◌∷◌, refl, sym, ap, ◌∙◌, Option, Some, None, is_none, subst, true≢false}
use Rattle.std.proofs.lemmas.Bool.{and_parts}
use Rattle.std.proofs.lemmas.Slice.Eq.{bytes_eq-Decides}
use Rattle.std.specs.Option.{option_eq}
use Rattle.std.specs.Str.{bytes_eq}
use Rattle.sc_base.specs.declared.key.Key.{Key}
use Rattle.sc_meaning.specs.Values.{same_key, same_module}
use Rattle.sc_meaning.specs.World.{named_in, same_id, without_name}
use Rattle.sc_interp_world.specs.declared.names.Literal.{Literal}
use Rattle.sc_interp_world.specs.Naming.{IsFound, key_eq, literal_eq}
use Rattle.sc_interp_world.specs.Told.{Numbers}
use Rattle.sc_program.specs.declared.storage.StaticId.{StaticId}
use Rattle.sc_program.specs.declared.storage.StaticId.TheVariants as id

same_module_is : (a b : Option (List ℕ)) → option_eq bytes_eq a b ≡ same_module a b
same_module_is None None = refl
same_module_is None (Some b) = refl
same_module_is (Some a) None = refl
same_module_is (Some a) (Some b) = refl

same_key_is : (j k : Key) → key_eq j k ≡ same_key j k
same_key_is j k = ap (λ b. b && bytes_eq j.name k.name) (same_module_is j.«module» k.«module»)

-- equal names are one name
bytes_one : (a b : List ℕ) → bytes_eq a b ≡ true → a ≡ b
bytes_one a b e = (bytes_eq-Decides a b).0 e

bytes_same : (a : List ℕ) → bytes_eq a a ≡ true
bytes_same a = (bytes_eq-Decides a a).1 refl

module_one : (a b : Option (List ℕ)) → same_module a b ≡ true → a ≡ b
module_one None None e = refl
module_one None (Some b) e = absurd (true≢false (sym e))
module_one (Some a) None e = absurd (true≢false (sym e))
module_one (Some a) (Some b) e = ap Some (bytes_one a b e)

module_same : (a : Option (List ℕ)) → same_module a a ≡ true
module_same None = refl
module_same (Some a) = bytes_same a

key_one : (j k : Key) → same_key j k ≡ true → j ≡ k
key_one j k e =
    let p = and_parts (same_module j.«module» k.«module») (bytes_eq j.name k.name) e in
    let m = module_one j.«module» k.«module» p.0 in
    let n = bytes_one j.name k.name p.1 in
    λ t. record { «module» = m t; name = n t }

pub id_one : (a b : StaticId) → same_id a b ≡ true → a ≡ b
id_one (id.Named j) (id.Named k) e = ap id.Named (key_one j k e)
id_one (id.Named j) (id.Literal n b) e = absurd (true≢false (sym e))
id_one (id.Literal m a) (id.Named k) e = absurd (true≢false (sym e))
id_one (id.Literal m a) (id.Literal n b) e =
    let p = and_parts (bytes_eq m n) (bytes_eq a b) e in
    ap (λ x. id.Literal x a) (bytes_one m n p.0) ∙ ap (id.Literal n) (bytes_one a b p.1)

id_same : (a : StaticId) → same_id a a ≡ true
id_same (id.Named k) = ap (λ b. b && bytes_eq k.name k.name) (module_same k.«module») ∙ bytes_same k.name
id_same (id.Literal m a) = ap (λ b. b && bytes_eq a a) (bytes_same m) ∙ bytes_same a

either : (b : Bool) (found : Option ℕ) → found ≡ (if b then found else found)
either true found = refl
either false found = refl

-- what is found once a name was taken back
pub named_without : (ns : List (StaticId × ℕ)) (a q : StaticId) → named_in (without_name ns a) q ≡ (if same_id a q then None else named_in ns q)
named_without [] a q = either (same_id a q) None
named_without (n ∷ ns) a q = by (same_id n.0 a) refl (same_id n.0 q) refl (same_id a q) refl (named_without ns a q)
  where
    Goal : Bool → Bool → Bool → Type 0
    Goal first here gone = named_in (if first then without_name ns a else n ∷ without_name ns a) q ≡ (if gone then None else if here then Some n.1 else named_in ns q)

    by : (first : Bool) → same_id n.0 a ≡ first → (here : Bool) → same_id n.0 q ≡ here → (gone : Bool) → same_id a q ≡ gone
        → named_in (without_name ns a) q ≡ (if gone then None else named_in ns q) → Goal first here gone
    by true f here h true g later = later
    by true f true h false g later = absurd (true≢false (sym h ∙ ap (λ x. same_id x q) (id_one n.0 a f) ∙ g))
    by true f false h false g later = later
    by false f true h true g later =
        absurd (true≢false (sym (id_same n.0) ∙ ap (same_id n.0) (id_one n.0 q h ∙ sym (id_one a q g)) ∙ f))
    by false f true h false g later = ap (λ b. if b then Some n.1 else named_in (without_name ns a) q) h
    by false f false h true g later = ap (λ b. if b then Some n.1 else named_in (without_name ns a) q) h ∙ later
    by false f false h false g later = ap (λ b. if b then Some n.1 else named_in (without_name ns a) q) h ∙ later

module _ (declared : Key → Option ℕ) (literals : Literal → Option ℕ) (ns : List (StaticId × ℕ)) (found : IsFound declared literals ns) where
  -- a name is given
  pub key_put : (given k : Key) → given ≡ k → (o : ℕ) (now : Key → Option ℕ) → ((q : Key) → now q ≡ cond (key_eq given q) (Some o) (declared q)) → IsFound now literals ((id.Named k, o) ∷ ns)
  key_put given k is o now put = record {
    of_key = λ q. put q ∙ ap (λ g. cond (key_eq g q) (Some o) (declared q)) is ∙ ap (λ b. cond b (Some o) (declared q)) (same_key_is k q) ∙ ap (λ r. cond (same_key k q) (Some o) r) (found.of_key q);
    of_literal = found.of_literal;
  }

  pub literal_put : (given l : Literal) → given ≡ l → (o : ℕ) (now : Literal → Option ℕ) → ((q : Literal) → now q ≡ cond (literal_eq given q) (Some o) (literals q)) → IsFound declared now ((id.Literal l.home l.bytes, o) ∷ ns)
  literal_put given l is o now put = record {
    of_key = found.of_key;
    of_literal = λ q. put q ∙ ap (λ g. cond (literal_eq g q) (Some o) (literals q)) is ∙ ap (λ r. cond (literal_eq l q) (Some o) r) (found.of_literal q);
  }

  -- a name is taken back
  pub key_taken : (k : Key) (now : Key → Option ℕ) → ((q : Key) → now q ≡ cond (key_eq k q) None (declared q)) → IsFound now literals (without_name ns (id.Named k))
  key_taken k now taken = record {
    of_key = λ q.
        taken q ∙ ap (λ b. cond b None (declared q)) (same_key_is k q) ∙ ap (λ r. cond (same_key k q) None r) (found.of_key q)
        ∙ sym (named_without ns (id.Named k) (id.Named q));
    of_literal = λ q. found.of_literal q ∙ sym (named_without ns (id.Named k) (id.Literal q.home q.bytes));
  }

  pub literal_taken : (m b : List ℕ) (now : Literal → Option ℕ) → ((q : Literal) → now q ≡ cond (bytes_eq m q.home && bytes_eq b q.bytes) None (literals q)) → IsFound declared now (without_name ns (id.Literal m b))
  literal_taken m b now taken = record {
    of_key = λ q. found.of_key q ∙ sym (named_without ns (id.Literal m b) (id.Named q));
    of_literal = λ q.
        taken q ∙ ap (λ r. cond (bytes_eq m q.home && bytes_eq b q.bytes) None r) (found.of_literal q)
        ∙ sym (named_without ns (id.Literal m b) (id.Literal q.home q.bytes));
  }

-- ---- a name that is given for the first time

none_when : (found : Option ℕ) → is_none found ≡ true → found ≡ None
none_when None e = refl
none_when (Some n) e = absurd (true≢false (sym e))

pub numbers_all : (fs gs : List (StaticId × ℕ)) → gs ≡ fs → Numbers fs gs
numbers_all fs gs is = subst (Numbers fs) (sym is) (λ key fun e. e)

pub numbers_more : (fs gs hs : List (StaticId × ℕ)) → Numbers fs gs → Numbers gs hs → Numbers fs hs
numbers_more fs gs hs p q key fun e = q key fun (p key fun e)

not_some : (n : ℕ) → None ≡ Some n → ⊥
not_some n p = absurd (cc)

-- all others keep theirs
pub numbers_put : (fs : List (StaticId × ℕ)) (key : Key) (n : ℕ) → is_none (named_in fs (id.Named key)) ≡ true → Numbers fs ((id.Named key, n) ∷ fs)
numbers_put fs key n new k fun e = by (same_id (id.Named key) (id.Named k)) refl
  where
    by : (b : Bool) → same_id (id.Named key) (id.Named k) ≡ b → (if b then Some n else named_in fs (id.Named k)) ≡ Some fun
    by true same = absurd (not_some fun (sym (none_when (named_in fs (id.Named key)) new) ∙ ap (named_in fs) (id_one (id.Named key) (id.Named k) same) ∙ e))
    by false other = e
