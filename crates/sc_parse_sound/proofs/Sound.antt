-- What the machine takes is in the grammar.
use Rattle.std.proofs.Common.{◌≡◌, ℕ, ◌≤◌, true, List, [], ◌∷◌, ◌++◌, Ok, Err, refl, sym, ◌∙◌, ap, subst, append_assoc, append-nil}
use Rattle.std.specs.Prelude.{Result}
use Rattle.sc_parse_names.specs.declared.kind.Symbol.{Symbol}
use Rattle.sc_parse_names.specs.declared.kind.Kind.{Kind}
use Rattle.sc_parse_names.specs.Names.{Names, is_typed}
use Rattle.sc_parse_grammar.specs.declared.operand.Operand.{Operand}
use Rattle.sc_parse_grammar.specs.declared.operand.Mode.TheVariants as mode
use Rattle.sc_parse_grammar.specs.declared.frame.Frame.{Frame}
use Rattle.sc_parse_grammar.specs.declared.frame.Frame.TheVariants as f
use Rattle.sc_parse_grammar.specs.declared.frame.State.{State}
use Rattle.sc_parse_grammar.specs.declared.frame.State.TheVariants as s
use Rattle.sc_parse_grammar.specs.declared.trouble.Trouble.{Trouble}
use Rattle.sc_parse_grammar.specs.Grammar.{Phrase}
use Rattle.sc_parse_grammar.specs.Machine.{Config, Outcome, marked, place, entered, enters, effect, on_ok, step, run}
use Rattle.sc_parse_sound.specs.Claims.{closes}
use Rattle.sc_parse_sound.proofs.Open as w
use Rattle.sc_parse_sound.proofs.Open.{Valid, Good, Ended}
use Rattle.sc_parse_sound.proofs.Declaring.{begin-good, stars-good, suffixes-good}
use Rattle.sc_parse_sound.proofs.Words.{further_words}
use Rattle.sc_parse_sound.proofs.Bodies.{Fine, due-good, void-good, structure-good, tagged_structure-good, enumeration-good, tagged_enumeration-good, items-good, item-good, group-good, effect-good}
use Rattle.sc_parse_sound.proofs.Operands.{needed-good, opened-good, sized-good, sized_opened-good, have-good, texts-good, dotted-good, arrowed-good, offset_comma-good, offset_name-good, bracket-good}

pub same_front : (xs ys : List Symbol) (t u : Symbol) → xs ++ t ∷ [] ≡ ys ++ u ∷ [] → (xs ≡ ys) × (t ≡ u)
same_front [] [] t u h = (refl, cc)
same_front [] (y ∷ []) t u h = absurd cc
same_front [] (y ∷ z ∷ ys) t u h = absurd cc
same_front (x ∷ []) [] t u h = absurd cc
same_front (x ∷ z ∷ xs) [] t u h = absurd cc
same_front (x ∷ xs) (y ∷ ys) t u h =
    let e : x ≡ y = cc in
    let rest : xs ++ t ∷ [] ≡ ys ++ u ∷ [] = cc in
    let q = same_front xs ys t u rest in
    let p : xs ≡ ys = q.0 in
    (cc, q.1)

only_same : (m n : ℕ) → f.Only m ≡ f.Only n → m ≡ n
only_same m n h = cc

module _ (b : Names) (base : Frame) where
  place-good : (c : Names) (fs : List Frame) (state : State) (t : Symbol) (d : List Symbol) → Valid b base c (fs, state) d → Good b base (entered (enters (is_typed c t) t.kind state) c) (place (is_typed c t) t (fs, state)) (d ++ t ∷ [])
  place-good c fs s.Need t d v = needed-good b base fs t d v
  place-good c fs (s.Opened l) t d v = opened-good b base fs l t d v
  place-good c fs (s.Sized l) t d v = sized-good b base t.kind fs l t d v refl
  place-good c fs (s.SizedOpened l h) t d v = sized_opened-good b base fs l h t d v
  place-good c fs (s.Have x) t d v = have-good b base t.kind fs x t d v.0 v.1 refl
  place-good c fs (s.Texts l text) t d v = texts-good b base t.kind fs l text t d v refl
  place-good c fs (s.Dot x) t d v = dotted-good b base t.kind fs x t d v refl
  place-good c fs (s.Arrow x) t d v = arrowed-good b base t.kind fs x t d v refl
  place-good c fs (s.OffsetComma l type) t d v = offset_comma-good b base t.kind fs l type t d v refl
  place-good c fs (s.OffsetName l type text) t d v = offset_name-good b base t.kind fs l type text t d v refl
  place-good c fs s.Due t d v = due-good b base fs t.kind t d v refl
  place-good c fs (s.Words x) t d v = further_words b base fs x t d v
  place-good c (f.Parameters y [] ∷ fs) (s.Void l) t d v = void-good b base t.kind y fs l t d v refl
  place-good c fs (s.Struct x h union) t d v = structure-good b base t.kind fs x h union t d v refl
  place-good c fs (s.StructTag x h union tag) t d v = tagged_structure-good b base t.kind fs x h union tag t d v refl
  place-good c fs (s.Enum x h) t d v = enumeration-good b base t.kind fs x h t d v refl
  place-good c fs (s.EnumTag x h tag) t d v = tagged_enumeration-good b base t.kind fs x h tag t d v refl
  place-good c fs s.Items t d v = items-good b base t.kind fs t d v refl
  place-good c fs (s.Item name) t d v = item-good b base t.kind fs name t d v refl
  place-good c (f.Member x ds ∷ fs) (s.Begin mode.Named) t d v = begin-good b base t.kind (f.Member x ds ∷ fs) mode.Named t d v refl refl
  place-good c (f.Outer ∷ fs) (s.Begin mode.Named) t d v = begin-good b base t.kind (f.Outer ∷ fs) mode.Named t d v refl refl
  place-good c fs (s.Stars m l cs) t d v = stars-good b base t.kind fs m cs t d v.opened v.tokens.0 v.tokens.1 v.begins refl v.all
  place-good c fs (s.Group m l cs) t d v = group-good b base fs m l cs t d v
  place-good c (f.Level m l cs ∷ fs) (s.Direct x) t d v = suffixes-good b base t.kind fs t d v refl
  place-good c (f.Level m l cs ∷ fs) (s.Bracket x) t d v = bracket-good b base t.kind fs m l cs x t d v refl
  place-good c fs (s.ItemEnd x closing) t d v = tt
  place-good c fs (s.ParameterEnd x y closing) t d v = tt
  place-good c fs (s.ParametersEnd x) t d v = tt
  place-good c fs (s.Expression x) t d v = tt
  place-good c fs (s.Specified x) t d v = tt
  place-good c fs (s.Declared x) t d v = tt
  place-good c _ _ t d v = absurd v

  takes : (kd : Kind) (c : Names) (o : Outcome) (d : List Symbol) → Good b base c o d → Fine b base (on_ok (effect c) (marked kd o)) d
  takes kd c (Ok (fs, state)) d h = effect-good b base c fs state d h
  takes kd c (Err e) d h = tt

  pub step-good : (c : Config) (t : Symbol) (d : List Symbol) → Valid b base c.0 c.1 d → Fine b base (step t c) (d ++ t ∷ [])
  step-good (c, (fs, state)) t d v = takes t.kind _ (place (is_typed c t) t (fs, state)) _ (place-good c fs state t d v)

  run-good : (ts : List Symbol) (c : Config) (d : List Symbol) → Valid b base c.0 c.1 d → Fine b base (run c ts) (d ++ ts)
  run-good [] c d v = rw (append-nil d) v
  run-good (t ∷ ts) c d v = go (λ e z. run-good ts e (d ++ t ∷ []) z) (step t c) (step-good c t d v)
    where
      go : ((e : Config) → Valid b base e.0 e.1 (d ++ t ∷ []) → Fine b base (run e ts) ((d ++ t ∷ []) ++ ts)) → (r : Result Config Trouble) → Fine b base r (d ++ t ∷ []) → Fine b base (on_ok (λ e. run e ts) r) (d ++ t ∷ ts)
      go rest (Ok e) v = subst (λ z. Fine b base (run e ts) z) (append_assoc d (t ∷ []) ts) (rest e v)
      go rest (Err e) v = tt

  fine_at : (r : Result Config Trouble) (after : Names) (fs : List Frame) (x : Operand) (d : List Symbol) → r ≡ Ok (after, (fs, s.Expression x)) → Fine b base r d → Ended b base after x d
  fine_at r after fs x d h v = subst (λ r. Fine b base r d) h v

-- What the machine takes as an expression of a level that is due.
pub sound : (b : Names) (n : ℕ) (ts : List Symbol) (t : Symbol) (after : Names) (fs : List Frame) (x : Operand) → n ≤ 3 → run (b, (f.Only n ∷ [], s.Need)) (ts ++ t ∷ []) ≡ Ok (after, (fs, s.Expression x)) →
    Phrase true b after ts x × (x.height ≤ 200) × (n ≤ x.level) × (n ≤ 1 → closes t.kind ≡ true)
sound b n ts t after fs x small h =
    let q = fine_at b (f.Only n) (run (b, (f.Only n ∷ [], s.Need)) (ts ++ t ∷ [])) after fs x (ts ++ t ∷ []) h (run-good b (f.Only n) (ts ++ t ∷ []) (b, (f.Only n ∷ [], s.Need)) [] (w.only small refl)) in
    let same = same_front ts q.xs t q.t q.all in
    let level : n ≡ q.n = only_same n q.n q.bottom in
    (subst (λ z. Phrase true b after z x) (sym same.0) q.phrase, q.low, subst (λ m. m ≤ x.level) (sym level) q.fits, λ r. ap (λ (u : Symbol). closes u.kind) same.1 ∙ q.ends (subst (λ m. m ≤ 1) level r))
