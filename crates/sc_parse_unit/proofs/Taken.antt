-- What is read as a unit is one.
use Rattle.std.proofs.Common.{◌≡◌, ℕ, Bool, true, false, List, [], ◌∷◌, ◌++◌, Ok, Err, refl, sym, subst, append_assoc, append-nil}
use Rattle.std.specs.Prelude.{nat_lt, if◌then◌else◌, Result, codes}
use Rattle.sc_base.specs.declared.refusal.Fault.{Fault}
use Rattle.sc_base.specs.declared.refusal.Fault.TheVariants as fault
use Rattle.sc_base.specs.declared.refusal.X.TheVariants as x
use Rattle.sc_tree.specs.declared.statement.External.{External}
use Rattle.sc_tree.specs.declared.statement.Unit.{Unit as Tree}
use Rattle.sc_parse_names.specs.declared.kind.Symbol.{Symbol}
use Rattle.sc_parse_names.specs.Names.{Names}
use Rattle.sc_parse_expr.specs.Brackets.{opens_with}
use Rattle.sc_parse_unit.specs.declared.around.Around.{Around}
use Rattle.sc_parse_unit.specs.declared.around.Around.TheVariants as a
use Rattle.sc_parse_unit.specs.declared.around.Stage.TheVariants as at
use Rattle.sc_parse_unit.specs.Grammar as g
use Rattle.sc_parse_unit.specs.Grammar.{IsUnit, UnitTokens}
use Rattle.sc_parse_unit.specs.Machine.{Point, Move, advance, start}
use Rattle.sc_parse_unit.specs.Parse.{Answer, next, end_at, ended, answer, Gives}
use Rattle.sc_parse_unit.specs.Claims.{FoundOnly}
use Rattle.sc_parse_sound.proofs.Sound.{same_front}
use Rattle.sc_parse_unit.proofs.Inside as n
use Rattle.sc_parse_unit.proofs.Inside.{outside, Over, Valid, Fine}
use Rattle.sc_parse_unit.proofs.Closing.{advance-fine}

ok_same : (xs ys : List External) → ◌≡◌ {A = Answer} (Ok xs) (Ok ys) → xs ≡ ys
ok_same xs ys h = cc

over_unit : {c : Names} {items : List External} {fs : List Around} (ts : List Symbol) (t : Symbol) → Over c (a.Unit items ∷ fs) (ts ++ t ∷ []) → IsUnit true ts items
over_unit {c} {items} {fs} ts t v = go (ts ++ t ∷ []) v refl
  where
    go : {fs : List Around} (d : List Symbol) → Over c (a.Unit items ∷ fs) d → d ≡ ts ++ t ∷ [] → IsUnit true ts items
    go d (n.over {d = us} z u) q = let same = same_front us ts z t q in g.unit (subst (λ ts. UnitTokens true outside c ts items) same.0 u)

at_end : (before : ℕ) (ts : List Symbol) (items : List External) (p : Point) → Valid p (ts ++ end_at before ∷ []) → ended before p ≡ Ok items → IsUnit true ts items
at_end before ts items (c, (a.Unit all ∷ fs, at.Over)) v h = subst (λ z. IsUnit true ts z) (ok_same all items h) (over_unit ts (end_at before) v)
at_end before ts items (c, (_, stage)) v h = absurd cc

reads : (ts pre : List Symbol) (m before : ℕ) (p : Point) (items : List External) → Valid p pre → answer m before p ts ≡ Ok items → IsUnit true (pre ++ ts) items
reads [] pre m before p items v h = subst (λ z. IsUnit true z items) (sym (append-nil pre)) (go (advance (end_at before) p) (advance-fine p (end_at before) pre v) h)
  where
    go : (r : Move) → Fine r (pre ++ end_at before ∷ []) → next (ended before) before before r ≡ Ok items → IsUnit true pre items
    go (Ok q) w h = at_end before pre items q w h
    go (Err o) w h = absurd cc
reads (t ∷ ts) pre m before p items v h = deep (λ q w h. subst (λ z. IsUnit true z items) (append_assoc pre (t ∷ []) ts) (reads ts (pre ++ t ∷ []) (opens_with m t.kind) t.line q items w h)) (nat_lt 500 (opens_with m t.kind)) h
  where
    go : ((q : Point) → Valid q (pre ++ t ∷ []) → answer (opens_with m t.kind) t.line q ts ≡ Ok items → IsUnit true (pre ++ t ∷ ts) items) → (r : Move) → Fine r (pre ++ t ∷ []) →
        next (λ q. answer (opens_with m t.kind) t.line q ts) before t.line r ≡ Ok items → IsUnit true (pre ++ t ∷ ts) items
    go rest (Ok q) w h = rest q w h
    go rest (Err o) w h = absurd cc

    deep : ((q : Point) → Valid q (pre ++ t ∷ []) → answer (opens_with m t.kind) t.line q ts ≡ Ok items → IsUnit true (pre ++ t ∷ ts) items) → (b : Bool) →
        (if b then Err (x.X10 (codes "height"), t.line) else next (λ q. answer (opens_with m t.kind) t.line q ts) before t.line (advance t p)) ≡ Ok items → IsUnit true (pre ++ t ∷ ts) items
    deep rest true h = absurd cc
    deep rest false h = go rest (advance t p) (advance-fine p t pre v) h

pub taken : (ts : List Symbol) (all : List External) → answer 0 1 start ts ≡ Ok all → IsUnit true ts all
taken ts all h = reads ts [] 0 1 start all (n.at_file g.no_external) h

pub found_only : (ts : List Symbol) (result : Result Tree Fault) → Gives (answer 0 1 start ts) result → FoundOnly ts result
found_only ts (Ok unit) h = taken ts unit.items h
found_only ts (Err fault.NoMemory) h = tt
found_only ts (Err (fault.Refused r)) h = tt
