-- Inside: plumbing, a representation, an invariant or a promise beside the claim (docs/TRUST.md).
-- What is inside its area.
use Rattle.std.specs.Prelude.{◌≡◌, ℕ, ◌+◌, ◌*◌, ◌&&◌, ◌||◌, ◌<◌, ◌≤◌, Bool, true, false, nat_le, List, length, IsTrue, Option, Some, None}
use Rattle.sc_base.specs.declared.key.Key.{Key}
use Rattle.std.specs.List.{list_all}
use Rattle.sc_object.specs.declared.object.Section.{Section}
use Rattle.sc_object.specs.declared.object.Symbol.{Symbol}
use Rattle.sc_isa_image.specs.declared.text.Text.{Text}
use Rattle.sc_isa_image.specs.Texts.{end_of}
use Rattle.sc_link.specs.declared.placed.Placed.{Placed}
use Rattle.sc_link.specs.declared.placed.LinkFault.{LinkFault}
use Rattle.sc_link.specs.declared.placed.LinkFault.TheVariants as fault
use Rattle.sc_link.specs.declared.placed.Area.TheVariants as area
use Rattle.sc_link.specs.Entries.{texts_in}
use Rattle.sc_link.specs.Symbols.{is_text, section_of, place_of}

abbrev pub in_text : Text → Bool
in_text t = nat_le 0x00100000 t.at.start && nat_le (end_of t) 0x04100000

abbrev pub in_statics : ℕ → ℕ → Bool
in_statics at size = nat_le 0x08000000 at && nat_le (at + size) 0x08100000

abbrev pub inside_at : Option Section → Option ℕ → Bool
inside_at None at = true
inside_at (Some section) None = true
inside_at (Some section) (Some at) = is_text section.kind || in_statics at section.size

-- the object that a symbol defines, a literal too, is inside its area
abbrev pub is_inside : Placed → Symbol → Bool
is_inside e s = inside_at (section_of e.object s) (place_of e s)

abbrev pub are_statics_inside : List Placed → Bool
are_statics_inside es = list_all (λ e. list_all (is_inside e) e.object.symbols) es

-- all that is placed is inside its area
pub record AreInside (es : List Placed) (funs : List Key) : Type 0 where
  pub stubs : length funs ≤ 65536
  pub texts : IsTrue (list_all in_text (texts_in es))
  pub statics : IsTrue (are_statics_inside es)

-- why there is no image: an area has no room for what is placed in it; want of memory says nothing
abbrev pub IsRefused : List Placed → List Key → LinkFault → Type 0
IsRefused es funs (fault.Space area.Stubs) = 65536 < length funs
IsRefused es funs (fault.Space area.Text) = list_all in_text (texts_in es) ≡ false
IsRefused es funs (fault.Space area.Static) = are_statics_inside es ≡ false
IsRefused es funs fault.NoMemory = Unit {0}
