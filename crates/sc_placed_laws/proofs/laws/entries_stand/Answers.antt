use Rattle.std.proofs.Common.{subst}
use Rattle.sc_places.specs.Layout.{behind_texts}
use Rattle.sc_image.specs.Running.{without}
use Rattle.sc_placed_laws.specs.Texts.{StandTo}
use Rattle.sc_placed_laws.proofs.Standing.{first_stand, higher, more_stand, without_behind, without_stand}
use Rattle.sc_placed_laws.proofs.laws.entries_stand.Goals as goal

pub returns-clause-first : goal.returns-clause-first
returns-clause-first c = first_stand

pub returns-clause-more : goal.returns-clause-more
returns-clause-more c = λ es m keeps s h. more_stand es m keeps 0x00100000 s h

pub returns-clause-fewer : goal.returns-clause-fewer
returns-clause-fewer c = λ es name s. subst (λ n. StandTo n 0x00100000 (without name es)) (without_behind name es) (without_stand name es 0x00100000 (behind_texts es) s)

pub returns-clause-inside : goal.returns-clause-inside
returns-clause-inside c = λ es l s. higher es 0x00100000 (behind_texts es) 0x04100000 l s
