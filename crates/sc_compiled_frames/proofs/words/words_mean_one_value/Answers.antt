use Rattle.sc_compiled_frames.proofs.words.words_mean_one_value.Goals as goal
use Rattle.sc_compiled_frames.proofs.Values.{means_value, value_means, means_once, means_stays}
use Rattle.sc_compiled_frames.proofs.Converting.{truth_is, function_means}
use Rattle.sc_compiled_frames.proofs.Stubs.{stubs_are}

pub returns-clause-value : goal.returns-clause-value
returns-clause-value c = means_value

pub returns-clause-found : goal.returns-clause-found
returns-clause-found c = value_means

pub returns-clause-once : goal.returns-clause-once
returns-clause-once c = means_once

pub returns-clause-truth : goal.returns-clause-truth
returns-clause-truth c = truth_is

pub returns-clause-functions : goal.returns-clause-functions
returns-clause-functions c = function_means

pub returns-clause-stays : goal.returns-clause-stays
returns-clause-stays c = means_stays

pub returns-clause-stubs : goal.returns-clause-stubs
returns-clause-stubs c = stubs_are
