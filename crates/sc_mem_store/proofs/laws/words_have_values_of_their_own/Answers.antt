use Rattle.sc_mem_store.proofs.Apart.{words_once}
use Rattle.sc_mem_store.proofs.laws.words_have_values_of_their_own.Goals as goal

pub returns : goal.returns
returns c = λ functions table v w once below tag other few less same. words_once functions table v.tag v.bits w.tag w.bits once below tag other few less same
