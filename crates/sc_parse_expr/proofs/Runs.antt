-- Steps of the machine one after another, and where a limit ends them.
use Rattle.std.proofs.Common.{◌≡◌, ℕ, ◌≤◌, ◌<◌, Bool, true, false, List, ◌∷◌, Result, Ok, Err, refl, ◌∙◌, ap, arith}
use Rattle.std.specs.Prelude.{nat_lt, max, ◌+◌, if◌then◌else◌, cond}
use Rattle.std.proofs.lemmas.Bool.Decides.{nat_tests}
use Rattle.sc_parse_names.specs.declared.kind.Symbol.{Symbol}
use Rattle.sc_parse_names.specs.declared.kind.Kind.{Kind}
use Rattle.sc_parse_names.specs.declared.kind.Kind.TheVariants as k
use Rattle.sc_parse_names.specs.Names.{Names}
use Rattle.sc_parse_grammar.specs.declared.operand.Operand.{Operand}
use Rattle.sc_parse_grammar.specs.declared.frame.Frame.{Frame}
use Rattle.sc_parse_grammar.specs.declared.frame.State.TheVariants as s
use Rattle.sc_parse_grammar.specs.declared.trouble.Trouble.{Trouble}
use Rattle.sc_parse_grammar.specs.declared.trouble.Trouble.TheVariants as no
use Rattle.sc_parse_grammar.specs.declared.trouble.Limit.{Limit}
use Rattle.sc_parse_grammar.specs.declared.trouble.Limit.TheVariants as limit
use Rattle.sc_parse_grammar.specs.Nodes.{higher}
use Rattle.sc_parse_grammar.specs.Grammar.{Keeps}
use Rattle.sc_parse_grammar.specs.Machine.{Config, Outcome, on_ok, mark_of, marked, effect, step, run, fits, have}

abbrev pub Answer : Type 0
Answer = Result Config Trouble

-- a number is beyond its limit
abbrev pub Limited : Answer → Type 0
Limited a = (l : Limit) × (a ≡ Err (no.Limit l))

-- Both answers are the same; where limits are not asked for, the first may be that one is passed.
pub data Leads (w : Bool) (a b : Answer) : Type 0 where
  same : a ≡ b → Leads w a b
  passed : w ≡ false → Limited a → Leads w a b

infixl 10 ◌▸◌
pub ◌▸◌ : {w : Bool} {a b c : Answer} → Leads w a b → Leads w b c → Leads w a c
◌▸◌ (same p) (same q) = same (p ∙ q)
◌▸◌ (same p) (passed e q) = passed e (q.0, p ∙ q.1)
◌▸◌ (passed e p) q = passed e p

-- what comes of an outcome: its effect, and the further steps
abbrev pub after : Kind → Names → List Symbol → Outcome → Answer
after kd names ts o = on_ok (λ d. run d ts) (on_ok (effect names) (marked kd o))

mark-limit : (kd : Kind) (l : Limit) → mark_of kd (no.Limit l) ≡ no.Limit l
mark-limit (k.LeftOut m) l = refl
mark-limit _ l = refl

pub after-limit : (kd : Kind) (names : Names) (ts : List Symbol) (l : Limit) → after kd names ts (Err (no.Limit l)) ≡ Err (no.Limit l)
after-limit kd names ts l = ap (λ (e : Trouble). Err e) (mark-limit kd l)

pub not_kept : (w : Bool) (n m : ℕ) → Keeps w n m → m < n → w ≡ false
not_kept true n m h g = let q = h refl in absurd (omega arith)
not_kept false n m h g = refl

pub stepped : (c d : Config) (t : Symbol) (ts : List Symbol) → step t c ≡ Ok d → run c (t ∷ ts) ≡ run d ts
stepped c d t ts h = ap (λ (o : Answer). on_ok (λ d. run d ts) o) h

module _ (w : Bool) where
  -- one step
  pub steps : (c d : Config) (t : Symbol) (ts : List Symbol) → step t c ≡ Ok d → Leads w (run c (t ∷ ts)) (run d ts)
  steps c d t ts h = same (stepped c d t ts h)

  -- a height that is tested
  pub fitted : (kd : Kind) (names : Names) (ts : List Symbol) (n : ℕ) (o : Outcome) → Keeps w n 200 → Leads w (after kd names ts (fits n o)) (after kd names ts o)
  fitted kd names ts n o h = go (nat_lt 200 n) refl
    where
      go : (b : Bool) → nat_lt 200 n ≡ b → Leads w (after kd names ts (cond b (Err (no.Limit limit.Height)) o)) (after kd names ts o)
      go true e = let g : 200 < n = grind (arith, nat_tests) in passed (not_kept w n 200 h g) (limit.Height, after-limit kd names ts limit.Height)
      go false e = same refl

  -- a count that is tested
  pub counted : (kd : Kind) (names : Names) (ts : List Symbol) (n : ℕ) (o : Outcome) → Keeps w n 30 → Leads w (after kd names ts (if nat_lt 30 n then Err (no.Limit limit.Arguments) else o)) (after kd names ts o)
  counted kd names ts n o h = go (nat_lt 30 n) refl
    where
      go : (b : Bool) → nat_lt 30 n ≡ b → Leads w (after kd names ts (cond b (Err (no.Limit limit.Arguments)) o)) (after kd names ts o)
      go false e = same refl
      go true e = let g : 30 < n = grind (arith, nat_tests) in passed (not_kept w n 30 h g) (limit.Arguments, after-limit kd names ts limit.Arguments)

  -- a count that is tested as a parameter ends
  pub counted_end : (ts : List Symbol) (n : ℕ) (a : Answer) → Keeps w n 30 →
      Leads w (on_ok (λ d. run d ts) (if nat_lt n 31 then a else Err (no.Limit limit.Arguments))) (on_ok (λ d. run d ts) a)
  counted_end ts n a h = go (nat_lt n 31) refl
    where
      go : (b : Bool) → nat_lt n 31 ≡ b → Leads w (on_ok (λ d. run d ts) (cond b a (Err (no.Limit limit.Arguments)))) (on_ok (λ d. run d ts) a)
      go true e = same refl
      go false e = let g : 30 < n = grind (arith, nat_tests) in passed (not_kept w n 30 h g) (limit.Arguments, refl)

  -- the tokens in another form
  pub regrouped : (c : Config) (ts us : List Symbol) → ts ≡ us → Leads w (run c ts) (run c us)
  regrouped c ts us h = same (ap (run c) h)

  -- a step behind an operand whose height is tested
  pub tested : (names : Names) (fs : List Frame) (x : Operand) (t : Symbol) (ts : List Symbol) (o : Outcome) →
      Keeps w x.height 200 → have t.kind fs x ≡ fits x.height o → Leads w (run (names, (fs, s.Have x)) (t ∷ ts)) (after t.kind names ts o)
  tested names fs x t ts o h e = same (ap (after t.kind names ts) e) ▸ fitted t.kind names ts x.height o h

  pub keeps-one : (n : ℕ) → Keeps w (higher n) 200 → Keeps w n 200
  keeps-one n h e = go (nat_lt n 201) refl (h e)
    where
      go : (b : Bool) → nat_lt n 201 ≡ b → cond b (n + 1) n ≤ 200 → n ≤ 200
      go true e q = omega arith
      go false e q = q

  pub keeps-left : (m n : ℕ) → Keeps w (max m n) 200 → Keeps w m 200
  keeps-left m n h e = let q = h e in omega arith

  pub keeps-right : (m n : ℕ) → Keeps w (max m n) 200 → Keeps w n 200
  keeps-right m n h e = let q = h e in omega arith
