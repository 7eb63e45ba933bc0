-- The tokens that a function of the code does not name.
use Rattle.std.proofs.Common.{◌≡◌, ℕ, Bool, true, false, List, [], ◌∷◌, Ok, Err, Result, refl, ap}
use Rattle.sc_tree.specs.declared.expression.TypeWord.{TypeWord}
use Rattle.sc_tree.specs.declared.expression.TypeWord.TheVariants as word
use Rattle.sc_tree.specs.declared.expression.Specifiers.{Specifiers}
use Rattle.sc_parse_names.specs.declared.kind.Symbol.{Symbol}
use Rattle.sc_parse_names.specs.declared.kind.Kind.{Kind}
use Rattle.sc_parse_names.specs.declared.kind.Kind.TheVariants as k
use Rattle.sc_parse_names.specs.Names.{Names, is_typed}
use Rattle.sc_parse_grammar.specs.declared.operand.Mode.{Mode}
use Rattle.sc_parse_grammar.specs.declared.operand.Mode.TheVariants as mode
use Rattle.sc_parse_grammar.specs.declared.frame.Frame.{Frame}
use Rattle.sc_parse_grammar.specs.declared.frame.Frame.TheVariants as f
use Rattle.sc_parse_grammar.specs.declared.frame.State.{State}
use Rattle.sc_parse_grammar.specs.declared.trouble.Trouble.{Trouble}
use Rattle.sc_parse_grammar.specs.declared.trouble.Trouble.TheVariants as no
use Rattle.sc_parse_grammar.specs.Machine as m
use Rattle.sc_parse_grammar.specs.Machine.{Place, Config, Outcome, on_ok, mark_of, marked, effect, entered, enters, place, step}
use Rattle.sc_parse_grammar.specs.Types.{has_words, with_word}
use Rattle.sc_parse_grammar.specs.Steps.{Steps, Moves}

pub direct_else : (t : Symbol) (kd : Kind) (fs : List Frame) (l : ℕ) (n : Mode) (cs : List Bool) (r : Result State Trouble) (gs : List Frame) → (kd ≡ k.Name → ⊥) → (kd ≡ k.LeftParen → ⊥) →
    Steps (m.without_name kd fs l n cs) r gs → Steps (m.direct t kd fs l n cs) r gs
direct_else t k.Name fs l n cs r gs a b h = absurd (a refl)
direct_else t k.LeftParen fs l n cs r gs a b h = absurd (b refl)
direct_else t _ fs l n cs r gs a b h = h

pub begin_else : (t : Symbol) (kd : Kind) (fs : List Frame) (n : Mode) (r : Result State Trouble) (gs : List Frame) → (kd ≡ k.Star → ⊥) → Steps (m.direct t kd fs t.line n []) r gs → Steps (m.begin t kd fs n) r gs
begin_else t k.Star fs n r gs a h = absurd (a refl)
begin_else t _ fs n r gs a h = h

pub stars_else : (t : Symbol) (kd : Kind) (fs : List Frame) (l : ℕ) (n : Mode) (cs : List Bool) (r : Result State Trouble) (gs : List Frame) → (kd ≡ k.Star → ⊥) → (kd ≡ k.Const → ⊥) →
    Steps (m.direct t kd fs l n cs) r gs → Steps (m.stars t kd fs l n cs) r gs
stars_else t k.Star fs l n cs r gs a b h = absurd (a refl)
stars_else t k.Const fs l n cs r gs a b h = absurd (b refl)
stars_else t _ fs l n cs r gs a b h = h

pub inner_else : (t : Symbol) (kd : Kind) (fs : List Frame) (v : Specifiers TypeWord) (n : Mode) (r : Result State Trouble) (gs : List Frame) → (kd ≡ k.RightParen → ⊥) → (kd ≡ k.Comma → ⊥) →
    Steps (m.begin t kd (f.Specifiers v ∷ fs) n) r gs → Steps (m.inner_specified t kd fs v n) r gs
inner_else t k.RightParen fs v n r gs a b h = absurd (a refl)
inner_else t k.Comma fs v n r gs a b h = absurd (b refl)
inner_else t _ fs v n r gs a b h = h

pub in_group_else : (t : Symbol) (kd : Kind) (fs : List Frame) (n : Mode) (r : Result State Trouble) (gs : List Frame) → (kd ≡ k.Name → ⊥) → Steps (m.begin t kd fs n) r gs → Steps (m.in_group t fs n kd) r gs
in_group_else t k.Name fs n r gs a h = absurd (a refl)
in_group_else t _ fs n r gs a h = h

pub tagged_structure_else : (typed : Bool) (t : Symbol) (fs : List Frame) (v : Specifiers TypeWord) (l : ℕ) (union : Bool) (tag : List ℕ) (kd : Kind) (r : Result State Trouble) (gs : List Frame) → (kd ≡ k.LeftBrace → ⊥) →
    Steps (m.words typed t fs (with_word v (word.StructTag l union tag)) kd) r gs → Steps (m.tagged_structure typed t fs v l union tag kd) r gs
tagged_structure_else typed t fs v l union tag k.LeftBrace r gs a h = absurd (a refl)
tagged_structure_else typed t fs v l union tag _ r gs a h = h

pub tagged_enumeration_else : (typed : Bool) (t : Symbol) (fs : List Frame) (v : Specifiers TypeWord) (l : ℕ) (tag : List ℕ) (kd : Kind) (r : Result State Trouble) (gs : List Frame) → (kd ≡ k.LeftBrace → ⊥) →
    Steps (m.words typed t fs (with_word v (word.EnumTag l tag)) kd) r gs → Steps (m.tagged_enumeration typed t fs v l tag kd) r gs
tagged_enumeration_else typed t fs v l tag k.LeftBrace r gs a h = absurd (a refl)
tagged_enumeration_else typed t fs v l tag _ r gs a h = h

-- What is left out is named.
pub marks : (kd : Kind) (o : Outcome) (e : Trouble) (fs : List Frame) → Steps o (Err e) fs → Steps (marked kd o) (Err (mark_of kd e)) fs
marks (k.LeftOut w) o no.Syntax fs h = ap (marked (k.LeftOut w)) h
marks (k.LeftOut w) o (no.LeftOut x) fs h = ap (marked (k.LeftOut w)) h
marks (k.LeftOut w) o (no.Limit x) fs h = ap (marked (k.LeftOut w)) h
marks (k.LeftOut w) o no.NoMemory fs h = tt
marks kd o no.Syntax fs h = ap (marked kd) h
marks kd o (no.LeftOut x) fs h = ap (marked kd) h
marks kd o (no.Limit x) fs h = ap (marked kd) h
marks kd o no.NoMemory fs h = tt

pub marks_ok : (kd : Kind) (o : Outcome) (state : State) (fs : List Frame) → Steps o (Ok state) fs → Steps (marked kd o) (Ok state) fs
marks_ok kd o state fs h = ap (marked kd) h

-- A step is what the place makes of the token, and then what comes into effect.
pub step_ok : (names : Names) (t : Symbol) (p : Place) (fs : List Frame) (state : State) (r : Result State Trouble) (after : Names) (gs : List Frame) →
    Steps (marked t.kind (place (is_typed names t) t p)) (Ok state) fs → Moves (effect (entered (enters (is_typed names t) t.kind p.1) names) (fs, state)) r after gs → Moves (step t (names, p)) r after gs
step_ok names t p fs state r after gs h e =
    let q : step t (names, p) ≡ effect (entered (enters (is_typed names t) t.kind p.1) names) (fs, state) = ap (on_ok (effect (entered (enters (is_typed names t) t.kind p.1) names))) h in
    rw q e

pub step_err : (names : Names) (t : Symbol) (p : Place) (fs : List Frame) (e : Trouble) (after : Names) (gs : List Frame) →
    Steps (marked t.kind (place (is_typed names t) t p)) (Err e) fs → Moves (step t (names, p)) (Err e) after gs
step_err names t p fs no.Syntax after gs h = ap (on_ok (effect (entered (enters (is_typed names t) t.kind p.1) names))) h
step_err names t p fs (no.LeftOut x) after gs h = ap (on_ok (effect (entered (enters (is_typed names t) t.kind p.1) names))) h
step_err names t p fs (no.Limit x) after gs h = ap (on_ok (effect (entered (enters (is_typed names t) t.kind p.1) names))) h
step_err names t p fs no.NoMemory after gs h = tt

pub worded_some : (t : Symbol) (fs : List Frame) (v : Specifiers TypeWord) (r : Result State Trouble) (gs : List Frame) → has_words v.words ≡ true → Steps (m.specified t fs v) r gs → Steps (m.worded t fs v) r gs
worded_some t fs v r gs h e = rw h e
