-- A run of both forms goes on by one instruction.
use Rattle.std.proofs.Common.{◌≡◌, Bool, true, false, ℕ, List, Option, Some, None, inl, inr, refl, ap, sym, subst, ◌∙◌}
use Rattle.sc_meaning.specs.Versions.{Text}
use Rattle.sc_mixed.specs.Standing.{Standing}
use Rattle.sc_session_forms.specs.Stepped.{StepGone}
use Rattle.sc_words.specs.declared.answer.Answer.{Answer}
use Rattle.sc_words.specs.declared.answer.Answer.TheVariants as answer
use Rattle.sc_words.specs.declared.command.Command.TheVariants as command
use Rattle.sc_words.specs.declared.denied.Denied.{Denied}
use Rattle.sc_words.specs.declared.stop.StopAt.{StopAt}
use Rattle.sc_world.specs.declared.halt.Halt.{Halt}
use Rattle.sc_session.specs.declared.asking.Go.{Go}
use Rattle.sc_session.specs.declared.asking.Go.TheVariants as go
use Rattle.sc_session.specs.declared.state.State.{State}
use Rattle.sc_session.specs.declared.state.State.TheVariants as state
use Rattle.sc_session.specs.Asking.{go_command}
use Rattle.sc_session.specs.Changing.{caught_up}
use Rattle.sc_session.specs.Going.{in_state}
use Rattle.sc_session.specs.Mixing.{TakesMixed, is_mixed}
use Rattle.sc_session.specs.Plain.{Plain}
use Rattle.sc_session.specs.Single.{CarriesOne, SingleGoes, SingleWent, single_state}
use Rattle.sc_session.specs.States.{instructing, refusal_of}
use Rattle.sc_session.specs.Valued.{going_stops, going_texts, is_valued}
use Rattle.sc_session.proofs.MixingLemmas.{caught_so}

-- where an instruction can be carried out, a run of both forms goes on
mixed_by : (s : State) → instructing s ≡ None → is_mixed s ≡ true
mixed_by state.Idle free = absurd (cc)
mixed_by (state.Stopped r) free = absurd (cc)
mixed_by (state.Paused r) free = absurd (cc)
mixed_by (state.StoppedMixed m) free = refl
mixed_by (state.PausedMixed m) free = refl
mixed_by state.Ended free = absurd (cc)

pub mixed_there : (session : Plain) (g : Go) → g ≡ go.One → refusal_of session (go_command g) ≡ None → is_mixed session.state ≡ true
mixed_there session g is free = mixed_by session.state (subst (λ (x : Go). refusal_of session (go_command x) ≡ None) is free)

single_went : (session inside : Plain) (modules : List Text) (stops : List StopAt) (m : Standing) (text : List ℕ) (new : Plain) → inside ≡ in_state state.Ended session → modules ≡ going_texts session → stops ≡ going_stops session
    → SingleGoes inside modules stops m (answer.Ran text) new → SingleWent session m text new
single_went session inside modules stops m text new is same at g = record {
  halts = g.0;
  stands = g.1;
  gone = subst (λ (ps : List StopAt). StepGone (going_texts session) ps (is_valued session) m g.0 g.1 text) at
      (subst (λ (ms : List Text). StepGone ms stops (is_valued session) m g.0 g.1 text) same
      (subst (λ (p : Plain). StepGone modules stops (is_valued p) m g.0 g.1 text) is g.2));
  follows = g.3 ∙ ap (λ p. in_state (single_state g.0 g.1) (caught_up p)) is;
}

pub single_carries : (session mid : Plain) (modules : List Text) (stops : List StopAt) (n : Standing) (said : Answer) (new : Plain) → TakesMixed session n mid → modules ≡ going_texts session → stops ≡ going_stops session
    → SingleGoes mid modules stops n said new → CarriesOne session said new
single_carries session mid modules stops n (answer.Ran text) new ((m, there, through), taken) same at g = (m, there, (n, through, single_went session mid modules stops n text new taken same at g))
single_carries session mid modules stops n answer.NoMemory new ((m, there, through), taken) same at g = inr (g ∙ taken)
single_carries session mid modules stops n _ new takes same at g = absurd g

pub single_told : (v old new : Plain) (s : State) (modules : List Text) (stops : List StopAt) (m n : Standing) (h : Option Halt) (valued : Bool) (text : List ℕ) → v ≡ old → s ≡ single_state h n → valued ≡ is_valued old → StepGone modules stops valued m h n text
    → new ≡ caught_up (record v { state = s }) → SingleGoes old modules stops m (answer.Ran text) new
single_told v old new s modules stops m n h valued text is same known gone caught =
    (h, n, subst (λ b. StepGone modules stops b m h n text) known gone, caught ∙ caught_so v old s (single_state h n) is same)
