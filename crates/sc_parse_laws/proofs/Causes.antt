-- What the machine's answer is worth.
use Rattle.std.proofs.Common.{◌≡◌, ℕ, true, false, List, Result, Ok, Err, refl, sym, ◌∙◌, ap}
use Rattle.sc_base.specs.declared.refusal.Fault.{Fault}
use Rattle.sc_base.specs.declared.refusal.Fault.TheVariants as fault
use Rattle.sc_base.specs.declared.refusal.X.{X}
use Rattle.sc_base.specs.declared.refusal.X.TheVariants as x
use Rattle.sc_tree.specs.declared.statement.External.{External}
use Rattle.sc_tree.specs.declared.statement.Unit.{Unit as Tree}
use Rattle.sc_parse_names.specs.declared.kind.Symbol.{Symbol}
use Rattle.sc_parse_unit.specs.Machine.{start}
use Rattle.sc_parse_unit.specs.Parse.{Answer, answer, Gives}
use Rattle.sc_parse_unit.proofs.Answers.{finds, fails}
use Rattle.sc_parse_unit.proofs.Taken.{found_only}
use Rattle.sc_parse_laws.specs.Causes.{Cause, no_unit, left_out, beyond_limit, HasCause, IsLimit, FoundShallow, Parses}
use Rattle.sc_parse_laws.proofs.Whole.{whole, within, names_no_mark, names_unit_mark, names_unit_limit, refuses_beyond}
use Rattle.sc_parse_laws.proofs.Crowded.{crowded_call, crowded_list}

cause : (ts : List Symbol) (kind : X) (l : ℕ) → answer 0 1 start ts ≡ Err (kind, l) → Cause ts kind l
cause ts x.X5 l h = no_unit (fails ts l h) (names_no_mark ts l h)
cause ts (x.X9 word) l h = left_out (names_unit_mark ts word l h)
cause ts (x.X10 word) l h = beyond_limit (names_unit_limit ts word l h)
cause ts _ l h = absurd (whole ts _ h)

has_cause : (ts : List Symbol) (result : Result Tree Fault) → Gives (answer 0 1 start ts) result → HasCause ts result
has_cause ts (Ok unit) h = tt
has_cause ts (Err fault.NoMemory) h = tt
has_cause ts (Err (fault.Refused r)) h = cause ts r.kind r.line h.0

kind-same : (u v : X) (m n : ℕ) → ◌≡◌ {A = Answer} (Err (u, m)) (Err (v, n)) → u ≡ v
kind-same u v m n h = let p : ◌≡◌ {A = X × ℕ} (u, m) (v, n) = cc in ap (λ (r : X × ℕ). r.0) p

limit_of : (ts : List Symbol) (result : Result Tree Fault) → Gives (answer 0 1 start ts) result → (word : List ℕ) × (l : ℕ) × (answer 0 1 start ts ≡ Err (x.X10 word, l)) → IsLimit result
limit_of ts (Ok unit) h (word, l, e) = let p : answer 0 1 start ts ≡ Ok unit.items = h in let q = sym p ∙ e in cc
limit_of ts (Err fault.NoMemory) h w = tt
limit_of ts (Err (fault.Refused r)) h (word, l, e) = (word, kind-same r.kind (x.X10 word) r.line l (sym h.0 ∙ e))

found_shallow : (ts : List Symbol) (result : Result Tree Fault) → Gives (answer 0 1 start ts) result → FoundShallow ts result
found_shallow ts (Ok unit) h = within ts 0 1 start unit.items h
found_shallow ts (Err fault.NoMemory) h = tt
found_shallow ts (Err (fault.Refused r)) h = tt

pub parses : (ts : List Symbol) (result : Result Tree Fault) → Gives (answer 0 1 start ts) result → Parses ts result
parses ts result h = record {
  answers = h;
  finds = λ all d w. finds result h d w;
  only = found_only ts result h;
  shallow = found_shallow ts result h;
  causes = has_cause ts result h;
  beyond = λ all d out. limit_of ts result h (refuses_beyond ts all d out);
  calls = λ v. limit_of ts result h (crowded_call ts v);
  lists = λ v. limit_of ts result h (crowded_list ts v);
}
