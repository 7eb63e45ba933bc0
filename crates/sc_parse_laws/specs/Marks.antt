-- Yardstick: to be compared with what it restates (docs/TRUST.md).
-- Where a construct that is left out shows.
use Rattle.std.specs.Prelude.{◌≡◌, Bool, true, false, not, List, [], ◌∷◌, ◌⊎◌}
use Rattle.sc_parse_names.specs.declared.kind.Mark.{Mark}
use Rattle.sc_parse_names.specs.declared.kind.Mark.TheVariants as mark
use Rattle.sc_parse_names.specs.declared.kind.Symbol.{Symbol}
use Rattle.sc_parse_names.specs.declared.kind.Kind.{Kind}
use Rattle.sc_parse_names.specs.declared.kind.Kind.TheVariants as k
use Rattle.sc_parse_grammar.specs.declared.operand.Mode.TheVariants as mode
use Rattle.sc_parse_grammar.specs.declared.frame.Frame.{Frame}
use Rattle.sc_parse_grammar.specs.declared.frame.Frame.TheVariants as f
use Rattle.sc_parse_grammar.specs.declared.frame.State.{State}
use Rattle.sc_parse_grammar.specs.declared.frame.State.TheVariants as s
use Rattle.sc_parse_grammar.specs.Types.{has_words}
use Rattle.sc_parse_grammar.specs.Machine.{Place}

-- a structure's member is declared: its specifiers, or its declarators, also in parentheses
abbrev pub in_member : List Frame → Bool
in_member (f.Struct v l union tag ms ∷ fs) = true
in_member (f.Member v ds ∷ fs) = true
in_member (f.Level m l cs ∷ fs) = in_member fs
in_member _ = false

-- parameters of which none was read yet
abbrev pub no_parameter : List Frame → Bool
no_parameter (f.Parameters d [] ∷ fs) = true
no_parameter _ = false

-- a list of parameters begins: behind `(` of a declarator, where a declarator without a name may go on too
abbrev pub begins_list : Place → Bool
begins_list (fs, s.Group mode.Abstract l cs) = true
begins_list (fs, state) = no_parameter fs

-- specifiers are read, and no type word stands among them yet
abbrev pub is_wordless : State → Bool
is_wordless (s.Words v) = not (has_words v.words)
is_wordless s.Due = true
is_wordless _ = false

-- what stands behind specifiers: a declarator begins, or the declaration or parameter ends
abbrev pub follows_specifiers : Kind → Bool
follows_specifiers k.Name = true
follows_specifiers k.Star = true
follows_specifiers k.LeftParen = true
follows_specifiers k.RightParen = true
follows_specifiers k.Semicolon = true
follows_specifiers k.Comma = true
follows_specifiers _ = false

-- The marks that tokens around show: the `:` of a member, a plain name where parameters begin, and a declaration that goes on without a type word.
abbrev pub InContext : Mark → Kind → Place → Type 0
InContext mark.BitField kind p = (kind ≡ k.Colon) × (in_member p.0 ≡ true)
InContext mark.OldStyle kind p = (kind ≡ k.Name) × (begins_list p ≡ true)
InContext mark.ImplicitInt kind p = (follows_specifiers kind ≡ true) × (is_wordless p.1 ≡ true)
InContext which kind p = ⊥

-- The token is left out itself, or such a mark in this place.
abbrev pub Shows : Mark → Kind → Place → Type 0
Shows which kind p = (kind ≡ k.LeftOut which) ⊎ InContext which kind p

-- No token is left out by itself.
abbrev pub AreKept : List Symbol → Type 0
AreKept [] = Unit {0}
AreKept (t ∷ ts) = ((which : Mark) → t.kind ≡ k.LeftOut which → ⊥) × AreKept ts
