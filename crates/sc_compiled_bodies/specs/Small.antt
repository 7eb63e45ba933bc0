-- Inside: plumbing, a representation, an invariant or a promise beside the claim (docs/TRUST.md).
-- A build whose one text has one function, void f(void) { }, in object form: its module, and the tables of its image. What is of no account is that of
-- any function, module and image.
use Rattle.std.specs.Prelude.{◌≡◌, ℕ, true, List, [], ◌∷◌, map, Some, None, pos, neg_ℤ}
use Rattle.sc_base.specs.declared.key.Key.{Key}
use Rattle.sc_base.specs.declared.memory.Form.TheVariants.{Object}
use Rattle.sc_core.specs.declared.module.Core.{Core}
use Rattle.sc_core.specs.declared.module.Fun.{Fun}
use Rattle.sc_core.specs.declared.statement.CoreStmt.TheVariants.{Block}
use Rattle.sc_isa.specs.declared.instruction.Instr.{Instr}
use Rattle.sc_isa.specs.declared.instruction.Instr.TheVariants.{Lui, Jalr, Load, Store, Imm, Ecall}
use Rattle.sc_isa.specs.declared.instruction.ImmOp.TheVariants.{Addi}
use Rattle.sc_isa.specs.declared.instruction.LoadOp.TheVariants.{Lw}
use Rattle.sc_isa.specs.declared.instruction.StoreOp.TheVariants.{Sw}
use Rattle.sc_isa.specs.Table.{word_of}
use Rattle.sc_isa_image.specs.Stubs.{lower_of, upper_of}
use Rattle.sc_isa_image.specs.declared.image.Image.{Image}
use Rattle.sc_isa_image.specs.declared.stub.Stub.{Stub}
use Rattle.sc_isa_image.specs.declared.text.Text.{Text as Placed}
use Rattle.sc_isa_image.specs.declared.text.TextAt.{TextAt}
use Rattle.sc_object.specs.declared.object.BlockTable.{BlockTable}
use Rattle.sc_object.specs.declared.object.FrameTable.{FrameTable}
use Rattle.sc_meaning.specs.Versions.{Text}
use Rattle.sc_mixed_means.specs.Stages.{Build}

abbrev pub name : List ℕ
name = 102 ∷ []

abbrev pub key : Key
key = record { «module» = None; name = name }

-- the parameters' block, and the body's
abbrev pub function : Fun → Fun
function f = record f { name = name; external = true; blocks = [] ∷ [] ∷ []; cost = 16; body = Block 1 1 [] [] }

abbrev pub text : Fun → Core → Text
text f c = record { number = 1; core = record c { funs = function f ∷ [] }; form = Object }

-- the address of its first word
abbrev pub start : ℕ
start = 1048576

abbrev pub instructions : List Instr
instructions =
    Imm Addi 5 0 (pos 2) ∷ Imm Addi 6 0 (pos 0) ∷ Ecall ∷ Imm Addi 2 2 (neg_ℤ (pos 16)) ∷ Store Sw 1 2 (pos 12)
    ∷ Imm Addi 5 0 (pos 6) ∷ Ecall ∷ Load Lw 1 2 (pos 12) ∷ Imm Addi 2 2 (pos 16) ∷ Jalr 0 1 (pos 0) ∷ []

abbrev pub block : BlockTable
block = record { line = 1; slots = [] }

abbrev pub frame : FrameTable
frame = record { symbol = 0; cost = 16; blocks = block ∷ block ∷ [] }

abbrev pub place : TextAt
place = record { fun = key; «module» = name; start = start; frame = frame }

abbrev pub placed : Placed
placed = record { at = place; words = map word_of instructions }

abbrev pub stub : Stub
stub = record { value = Some 65536; first = word_of (Lui 6 (upper_of start)); second = word_of (Jalr 0 6 (lower_of start)) }

-- the image has the text and the stub, and no other values
pub record HasFunction (i : Image) : Type 0 where
  pub texts : i.texts.texts ≡ placed ∷ []
  pub functions : i.functions.entries ≡ (key, stub) ∷ []
  pub values : i.values.entries ≡ []

abbrev pub build : Fun → Core → Image → Build
build f c i = record { texts = text f c ∷ []; image = i; places = [] }
