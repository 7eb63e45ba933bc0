use Rattle.std.proofs.Common.{◌≡◌, ℕ, Option, Some, subst}
use Rattle.sc_base.specs.declared.memory.Word.{Word}
use Rattle.sc_meaning.specs.World.{World}
use Rattle.sc_services.specs.Writing.{StoresIfThere}
use Rattle.sc_mixed.proofs.execute.store.Goals as goal

stored : (found : Option (Unit {0})) (done : Unit {0}) (at size : ℕ) (word : Word) (w v : World) → found ≡ Some done → StoresIfThere found at size word w v → StoresIfThere (Some done) at size word w v
stored found done at size word w v is stores = subst (λ (d : Option (Unit {0})). StoresIfThere d at size word w v) is stores

pub returns-in-Ok-Some : goal.returns-in-Ok-Some
returns-in-Ok-Some c =
    let stores = stored c.in-Ok-Some.field-0 c.in-Ok-Some.field-0-0 c.args.at c.args.size c.args.word c.args.world.now c.store_word.new.world c.in-Ok-Some.field-0-is c.in-Ok-Some.ensures in
    (c.pass.ensures, stores.0, stores.1)
