-- What ends with a statement, one at a time.
use Rattle.std.proofs.Common.{◌≡◌, Bool, true, false, not, List, [], ◌∷◌, refl}
use Rattle.sc_tree.specs.declared.statement.Statement.{Statement}
use Rattle.sc_parse_unit.specs.declared.around.Head.{Head}
use Rattle.sc_parse_unit.specs.declared.around.Around.{Around}
use Rattle.sc_parse_unit.specs.declared.around.Around.TheVariants as a
use Rattle.sc_parse_unit.specs.Machine.{settle, waits, built}
use Rattle.sc_parse_unit.specs.Steps.{ends_on}

not-true : (b : Bool) → not b ≡ true → b ≡ false
not-true true h = cc
not-true false h = refl

not-false : (b : Bool) → not b ≡ false → b ≡ true
not-false true h = refl
not-false false h = cc

pub settles_on : (other : Bool) (head : Head) (fs : List Around) (b : Statement) → ends_on other (a.Under head ∷ fs) ≡ true →
    settle other (a.Under head ∷ fs) b ≡ settle other fs (built head b)
settles_on other head fs b h = let no : waits other head ≡ false = not-true (waits other head) h in rw no refl

pub settle_ends : (other : Bool) (fs : List Around) (b : Statement) → ends_on other fs ≡ false → settle other fs b ≡ (fs, b)
settle_ends other [] b h = refl
settle_ends other (a.Under head ∷ fs) b h = let yes : waits other head ≡ true = not-false (waits other head) h in rw yes refl
settle_ends other (a.Unit items ∷ fs) b h = refl
settle_ends other (a.Body v x l ∷ fs) b h = refl
settle_ends other (a.Declaration v ds ∷ fs) b h = refl
settle_ends other (a.Initialized l d ∷ fs) b h = refl
settle_ends other (a.List l xs ∷ fs) b h = refl
settle_ends other (a.Block x ∷ fs) b h = refl
settle_ends other (a.Test t l ∷ fs) b h = refl
settle_ends other (a.Do l ∷ fs) b h = refl
settle_ends other (a.Until l x m ∷ fs) b h = refl
settle_ends other (a.First l ∷ fs) b h = refl
settle_ends other (a.Second l x ∷ fs) b h = refl
settle_ends other (a.Third l x y ∷ fs) b h = refl
settle_ends other (a.Value l ∷ fs) b h = refl
settle_ends other (a.Return l ∷ fs) b h = refl
settle_ends other (a.Expression ∷ fs) b h = refl
