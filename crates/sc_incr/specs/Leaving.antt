-- Inside: plumbing, a representation, an invariant or a promise beside the claim (docs/TRUST.md).
-- What an entry takes out of an image, and what has to hold for it.
use Rattle.std.specs.Prelude.{◌≡◌, ℕ, false, true, List, ◌∷◌, ◌++◌, length, map, Option}
use Rattle.sc_base.specs.declared.key.Key.{Key}
use Rattle.sc_isa_image.specs.declared.image.Image.{Image}
use Rattle.sc_link.specs.declared.placed.Placed.{Placed}
use Rattle.sc_link.specs.declared.placed.LiteralAt.{LiteralAt}
use Rattle.sc_link.specs.Entries.{jumps_if, literals_in, literals_of, statics_if, texts_if}
use Rattle.sc_link.specs.Linked.{literal_of}
use Rattle.sc_unlink.specs.Taking.{ClearsJumps, TakesTexts, TakesValues}
use Rattle.sc_incr.specs.declared.leaving.Leaving.{Leaving}
use Rattle.sc_incr.specs.Literals.{Settles, TakesLiterals}
use Rattle.sc_incr.specs.Parts.{key_of_pair}
use Rattle.sc_incr.specs.Program.{is_present}
use Rattle.sc_incr.specs.Settled.{IsSettled}
use Rattle.sc_incr.specs.Stands.{Has, Under}

-- an entry at a position of a list
pub record IsAt (es : List Placed) (n : ℕ) : Type 0 where
  pub front : List Placed
  pub entry : Placed
  pub back : List Placed
  pub is : es ≡ front ++ entry ∷ back
  pub number : n ≡ length front

-- the present entry of a module, by its position
pub record IsPresentAt (name : List ℕ) (es : List Placed) (n : ℕ) : Type 0 where
  pub at : IsAt es n
  pub here : is_present name at.entry ≡ true
  pub before : (d : Placed) → Has d at.front → is_present name d ≡ false

abbrev pub IsAbsent : List ℕ → List Placed → Type 0
IsAbsent name es = (d : Placed) → Has d es → is_present name d ≡ false

-- the first former text of a list, by its position
pub record IsFormerAt (es : List Placed) (n : ℕ) : Type 0 where
  pub at : IsAt es n
  pub here : at.entry.retired ≡ true
  pub before : (d : Placed) → Has d at.front → d.retired ≡ false

abbrev pub AreAllPresent : List Placed → Type 0
AreAllPresent es = (d : Placed) → Has d es → d.retired ≡ false

-- what an entry defines
pub record IsLeaving (e : Placed) (l : Leaving) : Type 0 where
  pub jumps : l.jumps.items ≡ jumps_if e
  pub objects : l.objects.items ≡ statics_if e
  pub keys : l.keys.items ≡ map key_of_pair (statics_if e)

-- the definitions of an entry are taken out of an image
pub record Retires (l : Leaving) (old new : Image) : Type 0 where
  pub between : Image
  pub jumps : ClearsJumps l.jumps.items old between
  pub objects : TakesValues l.objects.items between new

-- the texts and the literals of a former text are taken out of an image
pub record TakesFormer (rest : List Placed) (e : Placed) (old new : Image) : Type 0 where
  pub between : Image
  pub texts : TakesTexts (texts_if e) old between
  pub literals : TakesLiterals rest (map literal_of (literals_of e)) between new

-- a former text at a position of a list may be taken out, where some literals are moved
pub record MayDrop (es : List Placed) (n : ℕ) (moved : List LiteralAt) : Type 0 where
  pub at : IsAt es n
  pub old : at.entry.retired ≡ true
  pub within : (x : LiteralAt) → Has x moved → Has x (literals_in (at.front ++ at.back))
  pub settles : Settles (at.front ++ at.entry ∷ at.back) (at.front ++ at.back) at.entry moved

-- an image whose words are made under some values
pub record HasWords (es : List Placed) (i : Image) : Type 0 where
  pub value : Key → Option ℕ
  pub funs : List Key
  pub settled : IsSettled es funs
  pub stands : Under value es funs i
