-- Inside: plumbing, a representation, an invariant or a promise beside the claim (docs/TRUST.md).
-- What holds of the entries and functions of a list that is patched.
use Rattle.std.specs.Prelude.{◌≡◌, ℕ, ◌+◌, ◌<◌, ◌≤◌, true, false, List, ◌++◌, length, slice_get, Option, Some, None}
use Rattle.sc_base.specs.declared.key.Key.{Key}
use Rattle.sc_object.specs.declared.object.Section.{Section}
use Rattle.sc_object.specs.declared.object.Symbol.{Symbol}
use Rattle.sc_isa_image.specs.declared.text.Text.{Text}
use Rattle.sc_isa_image.specs.Literals as named
use Rattle.sc_isa_image.specs.Texts.{end_of}
use Rattle.sc_link.specs.declared.placed.Placed.{Placed}
use Rattle.sc_link.specs.declared.placed.LiteralAt.{LiteralAt}
use Rattle.sc_link.specs.Symbols.{is_literal}
use Rattle.sc_places.specs.Layout.{static_top}
use Rattle.sc_link.specs.Entries.{fixes_if, fixes_in, jumps_if, jumps_in, literals_in, literals_of, statics_if, statics_in, texts_if, texts_in}
use Rattle.sc_isa_image.specs.declared.image.Image.{Image}
use Rattle.sc_link.specs.Linked.{AreApart, AreDistinct, AreOnePlaced, IsLinked, literal_of, place_in}
use Rattle.sc_incr.specs.Stands.{AreAbsent, AreHeld, AreSingle, Has}

-- No two entries define one key.
pub record AreOnce (es : List Placed) : Type 0 where
  pub jumps : (i j : ℕ) (d e : Placed) (k : Key) (x y : ℕ) → slice_get es i ≡ Some d → slice_get es j ≡ Some e → place_in (jumps_if d) k ≡ Some x → place_in (jumps_if e) k ≡ Some y → i ≡ j
  pub statics : (i j : ℕ) (d e : Placed) (k : Key) (x y : ℕ) → slice_get es i ≡ Some d → slice_get es j ≡ Some e → place_in (statics_if d) k ≡ Some x → place_in (statics_if e) k ≡ Some y → i ≡ j

-- Functions have a number each, and each that an entry defines has one; objects have none. Nothing stands in the place of
-- another, and no word has two relocations. A present entry is the last of its module.
pub record IsSettled (es : List Placed) (funs : List Key) : Type 0 where
  pub distinct : AreDistinct funs
  pub few : length funs ≤ 65536
  pub unmixed : (k : Key) → Has k funs → place_in (statics_in es) k ≡ None
  pub numbered : (k : Key) (at : ℕ) → place_in (jumps_in es) k ≡ Some at → Has k funs
  pub once : AreOnce es
  pub apart : AreApart (texts_in es)
  pub low : (t : Text) → Has t (texts_in es) → 0x00100000 ≤ t.at.start
  pub high : (t : Text) → Has t (texts_in es) → end_of t ≤ 0x04100000
  pub held : (e : Placed) → Has e es → AreHeld (fixes_if e) (texts_if e)
  pub single : AreSingle (fixes_in es)
  pub one : AreOnePlaced (literals_in es)
  pub below : (e : Placed) → Has e es → (x : LiteralAt) → Has x (literals_of e) → x.at < static_top e
  pub last : (i j : ℕ) (d e : Placed) → slice_get es i ≡ Some d → slice_get es j ≡ Some e → d.retired ≡ false → d.home ≡ e.home → j ≤ i

-- the image of a list of which all that holds
pub record IsPatched (es : List Placed) (funs : List Key) (i : Image) : Type 0 where
  pub linked : IsLinked es funs i
  pub settled : IsSettled es funs

-- The literals of an entry that keep their places have those of the same literals in a list.
abbrev pub KeepsLiterals : List LiteralAt → Placed → List (Option ℕ) → Type 0
KeepsLiterals old e kept = (s : Symbol) (n : ℕ) (c : Section) (at : ℕ) → Has s e.object.symbols → is_literal s.name ≡ true → s.section ≡ Some n → slice_get e.object.sections n ≡ Some c → slice_get kept n ≡ Some (Some at) → (z : LiteralAt) × (Has z old × ((z.at ≡ at) × (literal_of z ≡ named.literal_of e.home c.bytes)))

-- An entry agrees with a list: no function and no object of it is defined by a present entry, no function is an object, its
-- functions are among those that have a number or get one, and no present entry is of its module.
pub record Agrees (es : List Placed) (funs : List Key) (e : Placed) (more : List Key) : Type 0 where
  pub distinct : AreDistinct (funs ++ more)
  pub unplaced : AreAbsent more (statics_in es)
  pub unmixed : (k : Key) → Has k (funs ++ more) → place_in (statics_if e) k ≡ None
  pub numbered : (k : Key) (at : ℕ) → place_in (jumps_if e) k ≡ Some at → Has k (funs ++ more)
  pub jumps : (k : Key) (at : ℕ) → place_in (jumps_if e) k ≡ Some at → place_in (jumps_in es) k ≡ None
  pub statics : (k : Key) (at : ℕ) → place_in (statics_if e) k ≡ Some at → place_in (statics_in es) k ≡ None
  pub absent : (d : Placed) → Has d es → d.retired ≡ false → d.home ≡ e.home → ⊥

-- An entry and new functions may join a list of which all that holds.
pub record Joins (es : List Placed) (funs : List Key) (e : Placed) (more : List Key) : Type 0 where
  pub distinct : AreDistinct (funs ++ more)
  pub few : length funs + length more ≤ 65536
  pub unplaced : AreAbsent more (statics_in es)
  pub unmixed : (k : Key) → Has k (funs ++ more) → place_in (statics_if e) k ≡ None
  pub numbered : (k : Key) (at : ℕ) → place_in (jumps_if e) k ≡ Some at → Has k (funs ++ more)
  pub jumps : (k : Key) (at : ℕ) → place_in (jumps_if e) k ≡ Some at → place_in (jumps_in es) k ≡ None
  pub statics : (k : Key) (at : ℕ) → place_in (statics_if e) k ≡ Some at → place_in (statics_in es) k ≡ None
  pub absent : (d : Placed) → Has d es → d.retired ≡ false → d.home ≡ e.home → ⊥
  pub apart : AreApart (texts_in es ++ texts_if e)
  pub low : (t : Text) → Has t (texts_if e) → 0x00100000 ≤ t.at.start
  pub high : (t : Text) → Has t (texts_if e) → end_of t ≤ 0x04100000
  pub held : AreHeld (fixes_if e) (texts_if e)
  pub single : AreSingle (fixes_in es ++ fixes_if e)
  pub one : AreOnePlaced (literals_in es ++ literals_of e)
  pub below : (x : LiteralAt) → Has x (literals_of e) → x.at < static_top e
