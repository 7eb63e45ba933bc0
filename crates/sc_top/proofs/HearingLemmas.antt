-- A command that probes hear.
use Rattle.std.proofs.Common.{◌≡◌, subst, sym}
use Rattle.sc_session.specs.Plain.{Plain}

-- what is so of a session between two places at which it stays is so from the first to the last
pub heard_step : (P : Plain → Plain → Type 0) (before asked mid behind : Plain) → asked ≡ before → behind ≡ mid → P asked mid → P before behind
heard_step P before asked mid behind same still p = subst (λ s. P s behind) same (subst (λ s. P asked s) (sym still) p)
