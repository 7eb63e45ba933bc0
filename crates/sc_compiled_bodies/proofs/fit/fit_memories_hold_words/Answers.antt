use Rattle.sc_compiled_bodies.proofs.First.{fit_forms, fit_words}
use Rattle.sc_compiled_bodies.proofs.fit.fit_memories_hold_words.Goals as goal

pub returns-clause-words : goal.returns-clause-words
returns-clause-words c = fit_words

pub returns-clause-forms : goal.returns-clause-forms
returns-clause-forms c = fit_forms
