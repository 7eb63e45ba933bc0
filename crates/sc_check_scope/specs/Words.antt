-- Yardstick: to be compared with what it restates (docs/TRUST.md).
-- Lists of specifiers (ANSI 3.5, 3.5.2).
use Rattle.std.specs.Prelude.{ℕ, Bool, List, [], ◌∷◌, ◌++◌, Option, Some, None}
use Rattle.sc_check_declare.specs.declared.words.Word.{Word}
use Rattle.sc_check_declare.specs.declared.derivation.DeclaredType.{DeclaredType}
use Rattle.sc_check_declare.specs.Words.{words_type, named_type}
use Rattle.sc_check_scope.specs.declared.words.Specified.{Specified}
use Rattle.sc_check_scope.specs.declared.words.Specified.TheVariants as word
use Rattle.sc_check_scope.specs.declared.words.Words.{Words}
use Rattle.sc_check_scope.specs.Steps.{Checked, declaring}

abbrev pub no_words : Words
no_words = record { basic = []; named = None }

abbrev pub with_word : Words → Specified → Words
with_word ws (word.Basic w) = record ws { basic = ws.basic ++ w ∷ [] }
with_word ws (word.Named t) = record ws { named = Some t }

abbrev pub list_type_by : ℕ → Bool → ℕ → List Word → Option DeclaredType → Checked DeclaredType
list_type_by line constant count basic None = declaring (words_type line constant basic)
list_type_by line constant count basic (Some t) = declaring (named_type line constant count t)

-- the type of a list of so many words
abbrev pub list_type : ℕ → Bool → ℕ → Words → Checked DeclaredType
list_type line constant count words = list_type_by line constant count words.basic words.named
