-- One token of a unit, and the end.
use Rattle.std.proofs.Common.{◌≡◌, ℕ, ◌≤◌, ◌<◌, Bool, true, false, List, [], ◌∷◌, length, Result, Ok, Err, refl, sym, ◌∙◌, ap, subst, arith, if◌then◌else◌}
use Rattle.std.specs.Prelude.{nat_lt, codes, All}
use Rattle.std.proofs.lemmas.Bool.Decides.{nat_tests}
use Rattle.std.proofs.lemmas.List.Elements.{All-head, All-tail}
use Rattle.sc_base.specs.declared.refusal.X.TheVariants as x
use Rattle.sc_base.specs.declared.refusal.Fault.{Fault}
use Rattle.sc_base.specs.declared.refusal.Fault.TheVariants as fault
use Rattle.sc_tree.specs.declared.statement.External.{External}
use Rattle.sc_tree.specs.declared.statement.Unit.{Unit as Tree}
use Rattle.sc_parse_names.specs.declared.kind.Symbol.{Symbol}
use Rattle.sc_parse_names.specs.Names.{Names}
use Rattle.sc_parse_grammar.specs.declared.trouble.Trouble.TheVariants as trouble
use Rattle.sc_parse_grammar.specs.Steps.{IsSymbol}
use Rattle.sc_parse_expr.specs.Brackets.{opens_with}
use Rattle.sc_parse_unit.specs.declared.around.Around.{Around}
use Rattle.sc_parse_unit.specs.declared.around.Around.TheVariants as a
use Rattle.sc_parse_unit.specs.declared.around.Stage.{Stage}
use Rattle.sc_parse_unit.specs.declared.around.Stage.TheVariants as at
use Rattle.sc_parse_unit.specs.declared.obstacle.Obstacle.{Obstacle}
use Rattle.sc_parse_unit.specs.declared.obstacle.Obstacle.TheVariants as no
use Rattle.sc_parse_unit.specs.Machine.{Point, Move, advance}
use Rattle.sc_parse_unit.specs.Steps.{Goes}
use Rattle.sc_parse_unit.specs.Parse.{Answer, refusal, next, ended, end_at, answer, Gives}
use Rattle.sc_parse.specs.Turns.{Turns}

shallow : (m : ℕ) (deep rest : Answer) → nat_lt 500 m ≡ false → (if nat_lt 500 m then deep else rest) ≡ rest
shallow m deep rest q = rw q refl

too-deep : (m : ℕ) (deep rest : Answer) → nat_lt 500 m ≡ true → (if nat_lt 500 m then deep else rest) ≡ deep
too-deep m deep rest q = rw q refl

-- what the tokens behind t give
abbrev behind : ℕ → Symbol → List Symbol → Point → Answer
behind n t ts q = answer (opens_with n t.kind) t.line q ts

within : (n before : ℕ) (p : Point) (t : Symbol) (ts : List Symbol) → opens_with n t.kind ≤ 500 → answer n before p (t ∷ ts) ≡ next (behind n t ts) before t.line (advance t p)
within n before p t ts w =
    let q : nat_lt 500 (opens_with n t.kind) ≡ false = grind (arith, nat_tests) in
    shallow (opens_with n t.kind) (Err (x.X10 (codes "height"), t.line)) (next (behind n t ts) before t.line (advance t p)) q

-- The refusal is the answer, unless memory ran out.
pub stopped : (go : Point → Answer) (before here : ℕ) (move : Move) (o : Obstacle) (e : Fault) (names : Names) (fs : List Around) → Goes move (Err o) names fs →
    Gives (Err (refusal o before here)) (Err e) → (o ≡ no.Inner trouble.NoMemory → e ≡ fault.NoMemory) → Gives (next go before here move) (Err e)
stopped go before here move no.Nesting e names fs h g m =
    let P : Move → Type 0 = λ v. Gives (next go before here v) (Err e) in subst P (sym h) g
stopped go before here move (no.Inner trouble.Syntax) e names fs h g m =
    let P : Move → Type 0 = λ v. Gives (next go before here v) (Err e) in subst P (sym h) g
stopped go before here move (no.Inner (trouble.LeftOut which)) e names fs h g m =
    let P : Move → Type 0 = λ v. Gives (next go before here v) (Err e) in subst P (sym h) g
stopped go before here move (no.Inner (trouble.Limit which)) e names fs h g m =
    let P : Move → Type 0 = λ v. Gives (next go before here v) (Err e) in subst P (sym h) g
stopped go before here move (no.Inner trouble.NoMemory) e names fs h g m =
    let P : Fault → Type 0 = λ v. Gives (next go before here move) (Err v) in subst P (sym (m refl)) tt

pub turn_ok : (n before : ℕ) (p : Point) (t : Symbol) (names : Names) (fs : List Around) (stage : Stage) → opens_with n t.kind ≤ 500 →
    Goes (advance t p) (Ok stage) names fs → Turns n before p t (Ok stage) names fs
turn_ok n before p t names fs stage w h = λ ts. within n before p t ts w ∙ ap (next (behind n t ts) before t.line) h

pub turn_err : (n before : ℕ) (p : Point) (t : Symbol) (names : Names) (fs : List Around) (o : Obstacle) (e : Fault) → opens_with n t.kind ≤ 500 →
    Goes (advance t p) (Err o) names fs → Gives (Err (refusal o before t.line)) (Err e) → (o ≡ no.Inner trouble.NoMemory → e ≡ fault.NoMemory) → Turns n before p t (Err e) names fs
turn_err n before p t names fs o e w h g m =
    let P : Answer → Type 0 = λ v. Gives v (Err e) in
    λ ts. subst P (sym (within n before p t ts w)) (stopped (behind n t ts) before t.line (advance t p) o e names fs h g m)

pub turn_deep : (n before : ℕ) (p : Point) (t : Symbol) (names : Names) (fs : List Around) (e : Fault) → 500 < opens_with n t.kind →
    Gives (Err (x.X10 (codes "height"), t.line)) (Err e) → Turns n before p t (Err e) names fs
turn_deep n before p t names fs e w g =
    let q : nat_lt 500 (opens_with n t.kind) ≡ true = grind (arith, nat_tests) in
    let P : Answer → Type 0 = λ v. Gives v (Err e) in
    λ ts. subst P (sym (too-deep (opens_with n t.kind) (Err (x.X10 (codes "height"), t.line)) (next (behind n t ts) before t.line (advance t p)) q)) g

-- What is left gives what all gives, behind one token more.
pub reading_on : (whole : Answer) (n before : ℕ) (p : Point) (left : List Symbol) (t : Symbol) (rest : List Symbol) (names : Names) (fs : List Around) (stage : Stage) →
    answer n before p left ≡ whole → left ≡ t ∷ rest → Turns n before p t (Ok stage) names fs → answer (opens_with n t.kind) t.line (names, (fs, stage)) rest ≡ whole
reading_on whole n before p left t rest names fs stage h e go = sym (go rest) ∙ ap (answer n before p) (sym e) ∙ h

-- A token is refused.
pub reading_stops : (whole : Answer) (n before : ℕ) (p : Point) (left : List Symbol) (t : Symbol) (rest : List Symbol) (fault : Fault) (names : Names) (fs : List Around) →
    answer n before p left ≡ whole → left ≡ t ∷ rest → Turns n before p t (Err fault) names fs → Gives whole (Err fault)
reading_stops whole n before p left t rest fault names fs h e go =
    let P : Answer → Type 0 = λ v. Gives v (Err fault) in subst P (ap (answer n before p) (sym e) ∙ h) (go rest)

-- The end of the tokens.
pub reading_ends : (whole : Answer) (n before : ℕ) (p : Point) (left : List Symbol) (r : Result Tree Fault) →
    answer n before p left ≡ whole → left ≡ [] → Gives (answer n before p []) r → Gives whole r
reading_ends whole n before p left r h e g =
    let P : Answer → Type 0 = λ v. Gives v r in subst P (ap (answer n before p) (sym e) ∙ h) g

-- At the end the unit is whole or not.
pub finish_ok : (n l : ℕ) (p : Point) (end : Symbol) (names : Names) (fs : List Around) (stage : Stage) (r : Result Tree Fault) → end ≡ end_at l →
    Goes (advance end p) (Ok stage) names fs → Gives (ended l (names, (fs, stage))) r → Gives (answer n l p []) r
finish_ok n l p end names fs stage r e h g =
    let Q : Symbol → Type 0 = λ v. Goes (advance v p) (Ok stage) names fs in
    let P : Move → Type 0 = λ v. Gives (next (ended l) l l v) r in subst P (sym (subst Q e h)) g

pub finish_err : (n l : ℕ) (p : Point) (end : Symbol) (names : Names) (fs : List Around) (o : Obstacle) (e : Fault) → end ≡ end_at l → Goes (advance end p) (Err o) names fs →
    Gives (Err (refusal o l l)) (Err e) → (o ≡ no.Inner trouble.NoMemory → e ≡ fault.NoMemory) → Gives (answer n l p []) (Err e)
finish_err n l p end names fs o e is h g m =
    let Q : Symbol → Type 0 = λ v. Goes (advance v p) (Err o) names fs in
    stopped (ended l) l l (advance (end_at l) p) o e names fs (subst Q is h) g m

-- What holds of each symbol holds of the first and of the rest.
pub all_rest : (left : List Symbol) (t : Symbol) (rest : List Symbol) → All IsSymbol left → left ≡ t ∷ rest → All IsSymbol rest
all_rest left t rest h e =
    let P : List Symbol → Type 0 = λ v. All IsSymbol v in
    All-tail IsSymbol t rest (subst P e h)

pub first_is : (left : List Symbol) (t : Symbol) (rest : List Symbol) → All IsSymbol left → left ≡ t ∷ rest → IsSymbol t
first_is left t rest h e =
    let P : List Symbol → Type 0 = λ v. All IsSymbol v in
    All-head IsSymbol t rest (subst P e h)

pub none_left : (left : List Symbol) → length left ≡ 0 → left ≡ []
none_left [] h = refl
none_left (t ∷ ts) h = absurd (omega (arith, h))
