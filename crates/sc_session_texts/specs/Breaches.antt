-- Yardstick: to be compared with what it restates (docs/TRUST.md).
-- What is said of an undefined step.
use Rattle.std.specs.Prelude.{ℕ, ◌++◌, ◌==◌, if◌then◌else◌, List, [], ◌∷◌, Option, Some, None, codes, decimal}
use Rattle.sc_base.specs.declared.integer.Int.{Int}
use Rattle.sc_base.specs.declared.integer.Int.TheVariants.{UInt}
use Rattle.sc_base.specs.declared.key.Key.{Key}
use Rattle.sc_base.specs.declared.operator.Op.{Op}
use Rattle.sc_base.specs.declared.operator.Op.TheVariants as op
use Rattle.sc_base.specs.declared.report.Rule.{Rule}
use Rattle.sc_base.specs.declared.report.Rule.TheVariants as rule
use Rattle.sc_meaning.specs.World.{World, Object, Frame}
use Rattle.sc_meaning.specs.Outcomes.{Breach}
use Rattle.sc_session_texts.specs.declared.place.Shown.{Shown}
use Rattle.sc_session_texts.specs.declared.place.Shown.TheVariants as shown
use Rattle.sc_session_texts.specs.Words.{rule_text, key_text}
use Rattle.sc_session_texts.specs.Places.{value_text, access_text}

-- an operand of an operator on a pointer: an address has the type `unsigned int`
abbrev pub beside_pointer : Int → Shown
beside_pointer UInt = shown.Address
beside_pointer i = shown.Integer i

-- The operands of an operator: where a number stands for a pointer, as bits; where a pointer is moved that is dead, the
-- other is no pointer; at the other rules on pointers, 0 is null; else they are integers.
abbrev pub operand : Rule → Op → Int → Shown
operand rule.U15 o i = shown.Bits
operand rule.U3 op.Add i = shown.Integer i
operand rule.U3 o i = beside_pointer i
operand rule.U5 o i = beside_pointer i
operand rule.U6 o i = beside_pointer i
operand _ o i = shown.Integer i

abbrev pub operands_text : Breach → List Object → List ℕ
operands_text b objects =
    codes " left " ++ value_text objects (operand b.rule b.op b.int) b.left
    ++ codes " right " ++ value_text objects (operand b.rule b.op b.right_int) b.right

-- An access has bytes, an operator has none.
abbrev pub access_or_operands : Breach → List Object → List ℕ
access_or_operands b objects =
    if b.size == 0 then operands_text b objects else codes " " ++ access_text b.at ++ codes " size " ++ decimal b.size

abbrev pub name_text : Option Key → List ℕ
name_text None = []
name_text (Some key) = key_text key

-- what is said of an undefined step behind its place
abbrev pub call_text : Breach → List ℕ
call_text b = codes " call " ++ name_text b.name ++ codes " argument " ++ decimal b.argument

abbrev pub tail_text : Rule → Breach → List Object → List ℕ
tail_text rule.U12 b objects = codes " value " ++ value_text objects shown.Address b.left
tail_text rule.U13 b objects = []
tail_text rule.U14 b objects = codes " value " ++ value_text objects shown.Address b.left
tail_text rule.U16 b objects = call_text b
tail_text rule.U17 b objects = codes " name " ++ name_text b.name
tail_text _ b objects = access_or_operands b objects

-- the module of the innermost call
abbrev pub home_of : List Frame → List ℕ
home_of [] = []
home_of (f ∷ frames) = f.home

abbrev pub breach_text : Breach → World → List ℕ
breach_text b w =
    codes "violation " ++ rule_text b.rule ++ codes " in " ++ key_text b.fun ++ codes " at " ++ home_of w.frames
    ++ codes ":" ++ decimal b.line ++ tail_text b.rule b w.objects
