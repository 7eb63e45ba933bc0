-- A module's name is text.
use Rattle.std.proofs.Common.{◌≡◌, ◌<◌, ℕ, Bool, true, false, ◌&&◌, List, [], ◌∷◌, refl, arith}
use Rattle.std.specs.List.{list_all}
use Rattle.std.specs.Str.{IsAscii, IsUtf8}
use Rattle.std.proofs.lemmas.Str.Ascii.{IsAscii-cons, IsAscii-nil}
use Rattle.std.proofs.lemmas.Str.{IsUtf8-from_ascii}
use Rattle.std.proofs.lemmas.Bool.Decides.{nat_tests}
use Rattle.sc_words.specs.Parts.{is_letter, is_name_byte, is_file_byte, is_module_name, is_file_name}

name_byte-small : (b : ℕ) → is_name_byte b ≡ true → b < 128
name_byte-small b e = grind (arith, nat_tests)

letter-small : (b : ℕ) → is_letter b ≡ true → b < 128
letter-small b e = grind (arith, nat_tests)

and-first : (a b : Bool) → (a && b) ≡ true → a ≡ true
and-first true b e = refl
and-first false b e = cc

and-second : (a b : Bool) → (a && b) ≡ true → b ≡ true
and-second true b e = e
and-second false b e = cc

names_are_ascii : (bytes : List ℕ) → list_all is_name_byte bytes ≡ true → IsAscii bytes
names_are_ascii [] e = IsAscii-nil
names_are_ascii (b ∷ bytes) e =
    IsAscii-cons b bytes (name_byte-small b (and-first _ _ e)) (names_are_ascii bytes (and-second _ _ e))

pub module_name_is_text : (name : List ℕ) → is_module_name name ≡ true → IsUtf8 name
module_name_is_text [] e = cc
module_name_is_text (b ∷ bytes) e =
    IsUtf8-from_ascii (b ∷ bytes) (IsAscii-cons b bytes (letter-small b (and-first _ _ (and-first _ _ e))) (names_are_ascii bytes (and-second _ _ (and-first _ _ e))))

file_byte-small : (b : ℕ) → is_file_byte b ≡ true → b < 128
file_byte-small b e = grind (arith, nat_tests)

files_are_ascii : (bytes : List ℕ) → list_all is_file_byte bytes ≡ true → IsAscii bytes
files_are_ascii [] e = IsAscii-nil
files_are_ascii (b ∷ bytes) e =
    IsAscii-cons b bytes (file_byte-small b (and-first _ _ e)) (files_are_ascii bytes (and-second _ _ e))

pub file_name_is_text : (name : List ℕ) → is_file_name name ≡ true → IsUtf8 name
file_name_is_text [] e = cc
file_name_is_text (b ∷ bytes) e =
    IsUtf8-from_ascii (b ∷ bytes) (IsAscii-cons b bytes (name_byte-small b (and-first _ _ (and-first _ _ e))) (files_are_ascii bytes (and-second _ _ (and-first _ _ e))))
