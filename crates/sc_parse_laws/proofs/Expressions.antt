-- Why no expression is read.
use Rattle.std.proofs.Common.{◌≡◌, ℕ, ◌+◌, ◌<◌, Bool, true, false, List, [], ◌∷◌, ◌++◌, Option, Some, None, Ok, Err, refl, sym, ◌∙◌, ap, subst, arith, append_assoc, append-nil, inl, inr}
use Rattle.std.specs.Prelude.{nat_lt, if◌then◌else◌, Result}
use Rattle.std.proofs.lemmas.Bool.{ltb-true}
use Rattle.sc_parse_names.specs.declared.kind.Mark.{Mark}
use Rattle.sc_parse_names.specs.declared.kind.Mark.TheVariants as mark
use Rattle.sc_parse_names.specs.declared.kind.Symbol.{Symbol}
use Rattle.sc_parse_names.specs.declared.kind.Kind.TheVariants as k
use Rattle.sc_parse_names.specs.Names.{Names}
use Rattle.sc_parse_grammar.specs.declared.operand.Operand.{Operand}
use Rattle.sc_parse_grammar.specs.declared.frame.Frame.TheVariants as f
use Rattle.sc_parse_grammar.specs.declared.trouble.Trouble.{Trouble}
use Rattle.sc_parse_grammar.specs.declared.trouble.Trouble.TheVariants as no
use Rattle.sc_parse_grammar.specs.declared.trouble.Limit.{Limit}
use Rattle.sc_parse_grammar.specs.declared.trouble.Limit.TheVariants as limit
use Rattle.sc_parse_grammar.specs.Machine.{Config, Place, on_ok, step, run}
use Rattle.sc_parse_expr.specs.declared.driver.Refused.{Refused}
use Rattle.sc_parse_expr.specs.Brackets.{opens_with}
use Rattle.sc_parse_expr.specs.Reading.{Outcome, refused, end_symbol, line_for, ended_in, found_or, next, unfinished, read, start}
use Rattle.sc_parse_sound.proofs.Open as w
use Rattle.sc_parse_sound.proofs.Open.{Valid}
use Rattle.sc_parse_sound.proofs.Bodies.{Fine}
use Rattle.sc_parse_sound.proofs.Sound.{step-good}
use Rattle.sc_parse_laws.specs.Marks.{Shows}
use Rattle.sc_parse_laws.specs.Refusals.{Explains, Explained}
use Rattle.sc_parse_laws.specs.Claims.{opened, MarkIn, LimitIn, in_tree, in_brackets}
use Rattle.sc_parse_laws.proofs.Places.{step-explained}

-- why these tokens are refused so
abbrev Why : Names → List Symbol → Trouble → ℕ → Type 0
Why names ts no.Syntax l = Unit {0}
Why names ts (no.LeftOut which) l = MarkIn names ts which l
Why names ts (no.Limit which) l = LimitIn ts which l
Why names ts no.NoMemory l = ⊥

pub run-snoc : (ts : List Symbol) (t : Symbol) (c e : Config) → run c ts ≡ Ok e → run c (ts ++ t ∷ []) ≡ on_ok (λ d. Ok d) (step t e)
run-snoc [] t c e h = ap (λ (r : Result Config Trouble). on_ok (λ z. on_ok (λ d. Ok d) (step t z)) r) h
run-snoc (u ∷ us) t c e h = go (λ d q. run-snoc us t d e q) (step u c) h
  where
    go : ((d : Config) → run d us ≡ Ok e → run d (us ++ t ∷ []) ≡ on_ok (λ d. Ok d) (step t e)) → (r : Result Config Trouble) → on_ok (λ d. run d us) r ≡ Ok e → on_ok (λ d. run d (us ++ t ∷ [])) r ≡ on_ok (λ d. Ok d) (step t e)
    go rest (Ok d) h = rest d h
    go rest (Err o) h = absurd cc

one_more : (ts : List Symbol) (t : Symbol) (c e d : Config) → run c ts ≡ Ok e → step t e ≡ Ok d → run c (ts ++ t ∷ []) ≡ Ok d
one_more ts t c e d h q = run-snoc ts t c e h ∙ ap (λ (r : Result Config Trouble). on_ok (λ d. Ok d) r) q

pub opened-snoc : (n : ℕ) (ts : List Symbol) (t : Symbol) → opened n (ts ++ t ∷ []) ≡ opens_with (opened n ts) t.kind
opened-snoc n [] t = refl
opened-snoc n (u ∷ us) t = opened-snoc (opens_with n u.kind) us t

err-same : {u v : Refused} → ◌≡◌ {A = Outcome} (Err u) (Err v) → u ≡ v
err-same h = cc

err_trouble : {e o : Trouble} {m n : ℕ} → ◌≡◌ {A = Outcome} (Err (refused e m)) (Err (refused o n)) → (e ≡ o) × (m ≡ n)
err_trouble h = (ap (λ (r : Refused). r.trouble) (err-same h), ap (λ (r : Refused). r.line) (err-same h))

-- the end shows no mark
pub no_mark : (which : Mark) (p : Place) → Shows which k.End p → ⊥
no_mark which p (inl h) = cc
no_mark mark.BitField p (inr h) = let i = h.0 in cc
no_mark mark.OldStyle p (inr h) = let i = h.0 in cc
no_mark mark.ImplicitInt p (inr h) = let i = h.0 in cc
no_mark _ p (inr h) = h

module _ (names : Names) where
  at_token : (pre : List Symbol) (t : Symbol) (ts : List Symbol) (c : Config) (last l : ℕ) (e : Trouble) → run (start names) pre ≡ Ok c → Explains t c.1 pre e → line_for e last t.line ≡ l → Why names (pre ++ t ∷ ts) e l
  at_token pre t ts c last l no.Syntax r h i = tt
  at_token pre t ts c last l (no.LeftOut which) r h i = record { before = pre; t = t; us = ts; c = c; all = refl; line = i; reads = r; shows = h }
  at_token pre t ts c last l (no.Limit which) r h i = in_tree (record { before = pre; us = t ∷ ts; all = refl; passes = h })
  at_token pre t ts c last l no.NoMemory r h i = h

  at_end : (pre : List Symbol) (c : Config) (l : ℕ) (e : Trouble) → Explains end_symbol c.1 pre e → Why names pre e l
  at_end pre c l no.Syntax h = tt
  at_end pre c l (no.LeftOut which) h = absurd (no_mark which c.1 h)
  at_end pre c l (no.Limit which) h = in_tree (record { before = pre; us = []; all = sym (append-nil pre); passes = h })
  at_end pre c l no.NoMemory h = h

  whole_end : (pre : List Symbol) (last taken l : ℕ) (e : Trouble) (c : Config) (r : Result Config Trouble) → Explained end_symbol c.1 pre r → next (unfinished last) last last taken r ≡ Err (refused e l) → Why names pre e l
  whole_end pre last taken l e c (Err o) h q = let z = err_trouble q in subst (λ o. Why names pre o l) z.0 (at_end pre c l o h)
  whole_end pre last taken l e c (Ok d) h q = go (ended_in d.1.1) q
    where
      go : (x : Option Operand) → found_or (unfinished last) taken d x ≡ Err (refused e l) → Why names pre e l
      go (Some x) q = absurd cc
      go None q = let z = err_trouble q in subst (λ o. Why names pre o l) z.0 tt

  brackets : (pre : List Symbol) (t : Symbol) (ts : List Symbol) (l : ℕ) (e : Trouble) → 500 < opens_with (opened 0 pre) t.kind → ◌≡◌ {A = Outcome} (Err (refused (no.Limit limit.Height) t.line)) (Err (refused e l)) → Why names (pre ++ t ∷ ts) e l
  brackets pre t ts l e n q =
      let z = err_trouble q in
      subst (λ o. Why names (pre ++ t ∷ ts) o l) z.0 (in_brackets (record { before = pre; t = t; us = ts; all = refl; line = z.1; many = rw (opened-snoc 0 pre t) n }))

  why : (ts pre : List Symbol) (last taken : ℕ) (c : Config) (l : ℕ) (e : Trouble) → run (start names) pre ≡ Ok c → Valid names (f.Only 1) c.0 c.1 pre → read (opened 0 pre) last taken c ts ≡ Err (refused e l) → Why names (pre ++ ts) e l
  why [] pre last taken c l e r v h = rw (append-nil pre) (whole_end pre last taken l e c (step end_symbol c) (step-explained names (f.Only 1) c end_symbol pre v) h)
  why (t ∷ ts) pre last taken c l e r v h = deep
      (λ d q w z. subst (λ us. Why names us e l) (append_assoc pre (t ∷ []) ts)
      (why ts (pre ++ t ∷ []) t.line (taken + 1) d l e (one_more pre t (start names) c d r q) w (rw (opened-snoc 0 pre t) z)))
      (nat_lt 500 (opens_with (opened 0 pre) t.kind)) refl h
    where
      ended : ((d : Config) → step t c ≡ Ok d → Valid names (f.Only 1) d.0 d.1 (pre ++ t ∷ []) → read (opens_with (opened 0 pre) t.kind) t.line (taken + 1) d ts ≡ Err (refused e l) → Why names (pre ++ t ∷ ts) e l) →
          (d : Config) → step t c ≡ Ok d → Valid names (f.Only 1) d.0 d.1 (pre ++ t ∷ []) → (x : Option Operand) →
          found_or (λ d. read (opens_with (opened 0 pre) t.kind) t.line (taken + 1) d ts) taken d x ≡ Err (refused e l) → Why names (pre ++ t ∷ ts) e l
      ended rest d q w (Some x) h = absurd cc
      ended rest d q w None h = rest d q w h

      go : ((d : Config) → step t c ≡ Ok d → Valid names (f.Only 1) d.0 d.1 (pre ++ t ∷ []) → read (opens_with (opened 0 pre) t.kind) t.line (taken + 1) d ts ≡ Err (refused e l) → Why names (pre ++ t ∷ ts) e l) →
          (r1 : Result Config Trouble) → step t c ≡ r1 → Fine names (f.Only 1) r1 (pre ++ t ∷ []) → Explained t c.1 pre r1 →
          next (λ d. read (opens_with (opened 0 pre) t.kind) t.line (taken + 1) d ts) last t.line taken r1 ≡ Err (refused e l) → Why names (pre ++ t ∷ ts) e l
      go rest (Ok d) q w x h = ended rest d q w (ended_in d.1.1) h
      go rest (Err o) q w x h = let z = err_trouble h in subst (λ o. Why names (pre ++ t ∷ ts) o l) z.0 (at_token pre t ts c last l o r x z.1)

      deep : ((d : Config) → step t c ≡ Ok d → Valid names (f.Only 1) d.0 d.1 (pre ++ t ∷ []) → read (opens_with (opened 0 pre) t.kind) t.line (taken + 1) d ts ≡ Err (refused e l) → Why names (pre ++ t ∷ ts) e l) →
          (deep : Bool) → nat_lt 500 (opens_with (opened 0 pre) t.kind) ≡ deep →
          (if deep then Err (refused (no.Limit limit.Height) t.line) else next (λ d. read (opens_with (opened 0 pre) t.kind) t.line (taken + 1) d ts) last t.line taken (step t c)) ≡ Err (refused e l) →
          Why names (pre ++ t ∷ ts) e l
      deep rest true i h = brackets pre t ts l e (ltb-true _ _ i) h
      deep rest false i h = go rest (step t c) refl (step-good names (f.Only 1) c t pre v) (step-explained names (f.Only 1) c t pre v) h

  pub names_mark : (ts : List Symbol) (which : Mark) (l : ℕ) → read 0 1 0 (start names) ts ≡ Err (refused (no.LeftOut which) l) → MarkIn names ts which l
  names_mark ts which l h = why ts [] 1 0 (start names) l (no.LeftOut which) refl (w.only (omega arith) refl) h

  pub names_limit : (ts : List Symbol) (which : Limit) (l : ℕ) → read 0 1 0 (start names) ts ≡ Err (refused (no.Limit which) l) → LimitIn ts which l
  names_limit ts which l h = why ts [] 1 0 (start names) l (no.Limit which) refl (w.only (omega arith) refl) h
