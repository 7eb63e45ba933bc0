-- Yardstick: to be compared with what it restates (docs/TRUST.md).
-- The words of a report.
use Rattle.std.specs.Prelude.{ℕ, List, [], ◌++◌, Option, Some, None, codes}
use Rattle.sc_base.specs.declared.key.Key.{Key}
use Rattle.sc_base.specs.declared.report.Rule.{Rule}
use Rattle.sc_base.specs.declared.report.Rule.TheVariants as rule

abbrev pub rule_text : Rule → List ℕ
rule_text rule.U1 = codes "U1"
rule_text rule.U2 = codes "U2"
rule_text rule.U3 = codes "U3"
rule_text rule.U4 = codes "U4"
rule_text rule.U5 = codes "U5"
rule_text rule.U6 = codes "U6"
rule_text rule.U7 = codes "U7"
rule_text rule.U8 = codes "U8"
rule_text rule.U9 = codes "U9"
rule_text rule.U10 = codes "U10"
rule_text rule.U11 = codes "U11"
rule_text rule.U12 = codes "U12"
rule_text rule.U13 = codes "U13"
rule_text rule.U14 = codes "U14"
rule_text rule.U15 = codes "U15"
rule_text rule.U16 = codes "U16"
rule_text rule.U17 = codes "U17"
rule_text rule.U18 = codes "U18"

-- the module of a key whose linkage is internal
abbrev pub home_text : Option (List ℕ) → List ℕ
home_text None = []
home_text (Some home) = home ++ codes ":"

abbrev pub key_text : Key → List ℕ
key_text key = home_text key.«module» ++ key.name
