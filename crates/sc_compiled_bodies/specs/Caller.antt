-- Inside: plumbing, a representation, an invariant or a promise beside the claim (docs/TRUST.md).
-- A build whose one text has two functions, void f(void) { x = 1; g(); return; } and int g(void) { return 3; }, in object form: its module, where it has x, and
-- the tables of its image. What is of no account is that of any function, module and image.
use Rattle.std.specs.Prelude.{◌≡◌, ℕ, true, false, if◌then◌else◌, List, [], ◌∷◌, map, Some, None, pos, neg_ℤ}
use Rattle.std.specs.Str.{bytes_eq}
use Rattle.sc_base.specs.declared.key.Key.{Key}
use Rattle.sc_base.specs.declared.memory.Form.TheVariants.{Object}
use Rattle.sc_base.specs.declared.integer.Int.TheVariants as int
use Rattle.sc_types.specs.declared.ctype.CType.{CType}
use Rattle.sc_types.specs.declared.ctype.CType.TheVariants.{Function, Int, Pointer, Void}
use Rattle.sc_core.specs.declared.expression.CoreExpr.{CoreExpr}
use Rattle.sc_core.specs.declared.expression.CoreExpr.TheVariants as expression
use Rattle.sc_core.specs.declared.module.Core.{Core}
use Rattle.sc_core.specs.declared.module.Fun.{Fun}
use Rattle.sc_core.specs.declared.statement.CoreStmt.{CoreStmt}
use Rattle.sc_core.specs.declared.statement.CoreStmt.TheVariants.{Block, Expression, Return}
use Rattle.sc_isa.specs.declared.instruction.Instr.{Instr}
use Rattle.sc_isa.specs.declared.instruction.Instr.TheVariants.{Auipc, Lui, Jalr, Load, Store, Imm, Ecall}
use Rattle.sc_isa.specs.declared.instruction.ImmOp.TheVariants.{Addi}
use Rattle.sc_isa.specs.declared.instruction.LoadOp.TheVariants.{Lw}
use Rattle.sc_isa.specs.declared.instruction.StoreOp.TheVariants.{Sw}
use Rattle.sc_isa.specs.Table.{word_of}
use Rattle.sc_isa_image.specs.Stubs.{lower_of, upper_of}
use Rattle.sc_isa_image.specs.declared.image.Image.{Image}
use Rattle.sc_isa_image.specs.declared.stub.Stub.{Stub}
use Rattle.sc_isa_image.specs.declared.text.Text.{Text as Placed}
use Rattle.sc_isa_image.specs.declared.text.TextAt.{TextAt}
use Rattle.sc_object.specs.declared.object.BlockTable.{BlockTable}
use Rattle.sc_object.specs.declared.object.FrameTable.{FrameTable}
use Rattle.sc_program.specs.declared.storage.StaticId.TheVariants as id
use Rattle.sc_emu.specs.Operations.{difference}
use Rattle.sc_meaning.specs.Versions.{Text}
use Rattle.sc_mixed_means.specs.Stages.{Build}
use Rattle.sc_gen_code.specs.declared.symbolic.Target.{Target}
use Rattle.sc_gen_code.specs.declared.symbolic.Target.TheVariants.{Literal, Named}

-- ---- the module

abbrev pub named : ℕ → Key
named letter = record { «module» = None; name = letter ∷ [] }

-- f, g and x
abbrev pub caller : Key
caller = named 102

abbrev pub callee : Key
callee = named 103

abbrev pub object : Key
object = named 120

abbrev pub number_type : CType
number_type = Int int.Int false

-- x = 1
abbrev pub left : CoreExpr
left = expression.Static 1 number_type object

abbrev pub right : CoreExpr
right = expression.Number 1 number_type 1

abbrev pub assignment : CoreExpr
assignment = expression.Assign 1 number_type left right

-- g()
abbrev pub function_name : Fun → CoreExpr
function_name f = expression.Function 2 (Function f.of) callee

abbrev pub address_type : Fun → CType
address_type f = Pointer (Function f.of) false

abbrev pub address : Fun → CoreExpr
address f = expression.Convert 2 (address_type f) (function_name f)

abbrev pub call : Fun → CoreExpr
call f = expression.Call 2 (Void false) (address f) []

abbrev pub statements : Fun → List CoreStmt
statements f = Expression 1 assignment ∷ Expression 2 (call f) ∷ Return 3 None ∷ []

-- the parameters' block, and the body's
abbrev pub calling : Fun → Fun
calling f = record f { name = caller.name; external = true; blocks = [] ∷ [] ∷ []; cost = 16; body = Block 1 1 [] (statements f) }

-- return 3
abbrev pub result : CoreExpr
result = expression.Number 4 number_type 3

abbrev pub giving : List CoreStmt
giving = Return 4 (Some result) ∷ []

abbrev pub called : Fun → Fun
called f = record f { name = callee.name; external = true; blocks = [] ∷ [] ∷ []; cost = 16; body = Block 1 1 [] giving }

abbrev pub text : Fun → Core → Text
text f c = record { number = 1; core = record c { funs = calling f ∷ called f ∷ [] }; form = Object }

-- ---- the image

-- where x stands, and the stubs of the functions
abbrev pub object_place : ℕ
object_place = 0x08000008

abbrev pub value : Target → ℕ
value (Named k) = if bytes_eq object.name k.name then object_place else 65544
value (Literal i) = 0

-- the addresses of their first words
abbrev pub start : ℕ
start = 1048576

abbrev pub start_of_called : ℕ
start_of_called = 1048656

-- from the call's first word to the stub of g
abbrev pub away : ℕ
away = difference 65544 1048608

-- the words of f: the entry, the frame, the place of return; x = 1; g(); return; and what stands behind every body
abbrev pub of_caller : List Instr
of_caller =
    Imm Addi 5 0 (pos 2) ∷ Imm Addi 6 0 (pos 0) ∷ Ecall ∷ Imm Addi 2 2 (neg_ℤ (pos 16)) ∷ Store Sw 1 2 (pos 12)
    ∷ Imm Addi 10 0 (pos 1) ∷ Lui 5 (upper_of object_place) ∷ Store Sw 10 5 (lower_of object_place)
    ∷ Auipc 1 (upper_of away) ∷ Jalr 1 1 (lower_of away)
    ∷ Imm Addi 5 0 (pos 6) ∷ Ecall ∷ Load Lw 1 2 (pos 12) ∷ Imm Addi 2 2 (pos 16) ∷ Jalr 0 1 (pos 0)
    ∷ Imm Addi 5 0 (pos 6) ∷ Ecall ∷ Load Lw 1 2 (pos 12) ∷ Imm Addi 2 2 (pos 16) ∷ Jalr 0 1 (pos 0) ∷ []

-- the words of g: the same, with return 3; between
abbrev pub of_called : List Instr
of_called =
    Imm Addi 5 0 (pos 2) ∷ Imm Addi 6 0 (pos 0) ∷ Ecall ∷ Imm Addi 2 2 (neg_ℤ (pos 16)) ∷ Store Sw 1 2 (pos 12)
    ∷ Imm Addi 10 0 (pos 3) ∷ Imm Addi 5 0 (pos 3) ∷ Imm Addi 6 0 (pos 0) ∷ Ecall ∷ Load Lw 1 2 (pos 12) ∷ Imm Addi 2 2 (pos 16) ∷ Jalr 0 1 (pos 0)
    ∷ Imm Addi 5 0 (pos 6) ∷ Ecall ∷ Load Lw 1 2 (pos 12) ∷ Imm Addi 2 2 (pos 16) ∷ Jalr 0 1 (pos 0) ∷ []

abbrev pub block : BlockTable
block = record { line = 1; slots = [] }

abbrev pub frame : FrameTable
frame = record { symbol = 0; cost = 16; blocks = block ∷ block ∷ [] }

abbrev pub place : Key → ℕ → TextAt
place key at = record { fun = key; «module» = key.name; start = at; frame = frame }

abbrev pub placed : Key → ℕ → List Instr → Placed
placed key at instructions = record { at = place key at; words = map word_of instructions }

abbrev pub stub : ℕ → ℕ → Stub
stub number at = record { value = Some number; first = word_of (Lui 6 (upper_of at)); second = word_of (Jalr 0 6 (lower_of at)) }

-- the image has the texts and the stubs, and no other values
pub record HasFunctions (i : Image) : Type 0 where
  pub texts : i.texts.texts ≡ placed caller start of_caller ∷ placed callee start_of_called of_called ∷ []
  pub functions : i.functions.entries ≡ (caller, stub 65536 start) ∷ (callee, stub 65544 start_of_called) ∷ []
  pub values : i.values.entries ≡ []

abbrev pub build : Fun → Core → Image → Build
build f c i = record { texts = text f c ∷ []; image = i; places = (id.Named object, object_place) ∷ [] }
