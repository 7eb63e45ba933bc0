-- Yardstick: to be compared with what it restates (docs/TRUST.md).
-- The stops of a session.
use Rattle.std.specs.Prelude.{◌≡◌, ℕ, ◌+◌, not, List, [], ◌∷◌, ◌++◌}
use Rattle.std.specs.List.{filter}
use Rattle.sc_words.specs.declared.stop.StopAt.{StopAt}
use Rattle.sc_words.specs.declared.answer.Answer.{Answer}
use Rattle.sc_words.specs.declared.answer.Answer.TheVariants as answer
use Rattle.sc_session.specs.declared.stops.Stop.{Stop}
use Rattle.sc_session.specs.States.{is_numbered}
use Rattle.sc_session.specs.Plain.{Plain}

-- where the stops are
abbrev pub places : List Stop → List StopAt
places [] = []
places (s ∷ stops) = s.place ∷ places stops

-- the session with a stop more, which gets the next number: no number comes twice
abbrev pub with_stop : Plain → StopAt → Plain
with_stop session p = record session {
  stops = session.stops ++ record { number = session.last + 1; place = p } ∷ [];
  last = session.last + 1;
}

-- the answers to `stop`
abbrev pub Sets : Plain → StopAt → Answer → Plain → Type 0
Sets session p (answer.StopSet k q) new = (k ≡ session.last + 1) × (q ≡ p) × (new ≡ with_stop session p)
Sets session p answer.NoMemory new = new ≡ session
Sets session p _ new = ⊥

-- the session without a stop
abbrev pub without_stop : ℕ → Plain → Plain
without_stop k session = record session { stops = filter (λ s. not (is_numbered k s)) session.stops }
