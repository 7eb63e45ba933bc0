-- What is found is an expression of the grammar.
use Rattle.std.proofs.Common.{◌≡◌, ℕ, ◌+◌, ◌≤◌, Bool, true, false, List, [], ◌∷◌, ◌++◌, length, Option, Some, None, Ok, Err, refl, sym, ◌∙◌, ap, subst, arith, append_assoc, append-nil, length-append}
use Rattle.std.specs.Prelude.{nat_lt, if◌then◌else◌, Result}
use Rattle.sc_parse_names.specs.declared.kind.Symbol.{Symbol}
use Rattle.sc_parse_names.specs.Names.{Names}
use Rattle.sc_parse_grammar.specs.declared.operand.Operand.{Operand}
use Rattle.sc_parse_grammar.specs.declared.frame.Frame.{Frame}
use Rattle.sc_parse_grammar.specs.declared.frame.State.{State}
use Rattle.sc_parse_grammar.specs.declared.frame.State.TheVariants as s
use Rattle.sc_parse_grammar.specs.declared.trouble.Trouble.{Trouble}
use Rattle.sc_parse_grammar.specs.declared.trouble.Trouble.TheVariants as no
use Rattle.sc_parse_grammar.specs.declared.trouble.Limit.TheVariants as limit
use Rattle.sc_parse_grammar.specs.Machine.{Config, on_ok, step, run}
use Rattle.sc_parse_expr.specs.declared.driver.Found.{Found}
use Rattle.sc_parse_expr.specs.declared.driver.Refused.{Refused}
use Rattle.sc_parse_expr.specs.Brackets.{opens_with}
use Rattle.sc_parse_expr.specs.Reading.{Outcome, found, refused, line_for, end_symbol, ended_in, found_or, next, unfinished, read, start, Answers, Begins, Follows, IsFound, FoundOnly, closes}
use Rattle.sc_parse_sound.proofs.Sound.{sound}

last_step : (r : Result Config Trouble) → on_ok (λ e. run e []) r ≡ r
last_step (Ok e) = refl
last_step (Err e) = refl

-- one token behind those that were read
run_more : (pre : List Symbol) (c d : Config) (t : Symbol) → run c pre ≡ Ok d → run c (pre ++ t ∷ []) ≡ step t d
run_more [] c d t h = let same : c ≡ d = cc in last_step (step t c) ∙ ap (step t) same
run_more (u ∷ pre) c d t h = go (λ e q. run_more pre e d t q) (step u c) h
  where
    go : ((e : Config) → run e pre ≡ Ok d → run e (pre ++ t ∷ []) ≡ step t d) → (r : Result Config Trouble) → on_ok (λ e. run e pre) r ≡ Ok d → on_ok (λ e. run e (pre ++ t ∷ [])) r ≡ step t d
    go rest (Ok e) q = rest e q
    go rest (Err e) q = absurd cc

ended_at : (state : State) (x : Operand) → ended_in state ≡ Some x → state ≡ s.Expression x
ended_at (s.Expression y) x h = let same : y ≡ x = cc in ap (λ (z : Operand). s.Expression z) same
ended_at _ x h = absurd cc

module _ (names : Names) where
  -- The expression ended before this token.
  stops : (pre : List Symbol) (t : Symbol) (c d : Config) (x : Operand) (us : List Symbol) (taken : ℕ) (r : Found) → run (start names) pre ≡ Ok c → step t c ≡ Ok d → ended_in d.1.1 ≡ Some x → length pre ≡ taken →
      (closes t.kind ≡ true → Follows us) → (m : Names) → ◌≡◌ {A = Found × Names} (r, m) (found x.tree taken, d.0) → IsFound names m (pre ++ us) r
  stops pre t c (after, (fs, state)) x us taken r h q e n ends m both =
      let same : r ≡ found x.tree taken = ap (λ (z : Found × Names). z.0) both in
      let now : state ≡ s.Expression x = ended_at state x e in
      let last : run (start names) (pre ++ t ∷ []) ≡ Ok (after, (fs, s.Expression x)) = run_more pre (start names) c t h ∙ q ∙ ap (λ (z : State). Ok (after, (fs, z))) now in
      let p = sound names 1 pre t after fs x (omega arith) last in
      record { x = x; begins = record { after = after; ts = pre; us = us; all = refl; phrase = p.0; count = n ∙ sym (ap (λ (z : Found). z.taken) same); follows = ends (p.3 (omega arith)) }; height = p.1; tree = ap (λ (z : Found). z.tree) same; left = sym (ap (λ (z : Found × Names). z.1) both) }

  found_same : (r q : Found × Names) → ◌≡◌ {A = Outcome} (Ok q) (Ok r) → r ≡ q
  found_same r q h = let p : ◌≡◌ {A = Outcome} (Ok r) (Ok q) = sym h in cc

  reads : (tokens pre : List Symbol) (depth last taken : ℕ) (c : Config) (r : Found) (m : Names) → run (start names) pre ≡ Ok c → length pre ≡ taken → read depth last taken c tokens ≡ Ok (r, m) → IsFound names m (pre ++ tokens) r
  reads [] pre depth last taken c r m h n e = go (step end_symbol c) refl e
    where
      done : (d : Config) → step end_symbol c ≡ Ok d → (o : Option Operand) → ended_in d.1.1 ≡ o → found_or (unfinished last) taken d o ≡ Ok (r, m) → IsFound names m (pre ++ []) r
      done d q (Some x) z e = stops pre end_symbol c d x [] taken r h q z n (λ _. tt) m (found_same (r, m) (found x.tree taken, d.0) e)
      done d q None z e = absurd cc

      go : (a : Result Config Trouble) → step end_symbol c ≡ a → next (unfinished last) last last taken a ≡ Ok (r, m) → IsFound names m (pre ++ []) r
      go (Ok d) q e = done d q (ended_in d.1.1) refl e
      go (Err z) q e = absurd cc
  reads (t ∷ ts) pre depth last taken c r m h n e =
      deep (λ d q. subst (λ z. IsFound names m z r) (append_assoc pre (t ∷ []) ts)
      (reads ts (pre ++ t ∷ []) (opens_with depth t.kind) t.line (taken + 1) d r m (run_more pre (start names) c t h ∙ q.0) (length-append pre (t ∷ []) ∙ ap (λ (z : ℕ). z + 1) n) q.1))
      (nat_lt 500 (opens_with depth t.kind)) e
    where
      done : ((d : Config) → (step t c ≡ Ok d) × (read (opens_with depth t.kind) t.line (taken + 1) d ts ≡ Ok (r, m)) → IsFound names m (pre ++ t ∷ ts) r) →
          (d : Config) → step t c ≡ Ok d → (o : Option Operand) → ended_in d.1.1 ≡ o → found_or (λ d. read (opens_with depth t.kind) t.line (taken + 1) d ts) taken d o ≡ Ok (r, m) → IsFound names m (pre ++ t ∷ ts) r
      done rest d q (Some x) z e = stops pre t c d x (t ∷ ts) taken r h q z n (λ y. y) m (found_same (r, m) (found x.tree taken, d.0) e)
      done rest d q None z e = rest d (q, e)

      go : ((d : Config) → (step t c ≡ Ok d) × (read (opens_with depth t.kind) t.line (taken + 1) d ts ≡ Ok (r, m)) → IsFound names m (pre ++ t ∷ ts) r) →
          (a : Result Config Trouble) → step t c ≡ a → next (λ d. read (opens_with depth t.kind) t.line (taken + 1) d ts) last t.line taken a ≡ Ok (r, m) → IsFound names m (pre ++ t ∷ ts) r
      go rest (Ok d) q e = done rest d q (ended_in d.1.1) refl e
      go rest (Err z) q e = absurd cc

      deep : ((d : Config) → (step t c ≡ Ok d) × (read (opens_with depth t.kind) t.line (taken + 1) d ts ≡ Ok (r, m)) → IsFound names m (pre ++ t ∷ ts) r) →
          (b : Bool) → (if b then Err (refused (no.Limit limit.Height) t.line) else next (λ d. read (opens_with depth t.kind) t.line (taken + 1) d ts) last t.line taken (step t c)) ≡ Ok (r, m) → IsFound names m (pre ++ t ∷ ts) r
      deep rest true e = absurd cc
      deep rest false e = go rest (step t c) refl e

pub only_found : (names : Names) (tokens : List Symbol) (result : Result Found Refused) (after : Names) → Answers (read 0 1 0 (start names) tokens) result after → FoundOnly names tokens result after
only_found names tokens (Ok r) after a = reads names tokens [] 0 1 0 (start names) r after refl refl a
only_found names tokens (Err e) after a = tt
