-- Machine: the program once more; a theorem ties it to a yardstick (docs/TRUST.md).
-- Which objects of a function have copies in registers: the first four, in the order of their slots, of its parameters and automatic objects
-- that have an integer or pointer type, that stand within reach of sp, that are never the operand of & in the given function, and of which a
-- copy saves more words than it costs.
use Rattle.std.specs.Prelude.{ℕ, ◌+◌, ◌==◌, ◌&&◌, not, nat_lt, nat_le, Bool, true, false, if◌then◌else◌, List, [], ◌∷◌, ◌++◌, length}
use Rattle.sc_core.specs.declared.statement.CoreStmt.{CoreStmt}
use Rattle.sc_core.specs.declared.module.Auto.{Auto}
use Rattle.sc_core.specs.declared.module.Fun.{Fun}
use Rattle.sc_gen_code.specs.declared.style.Kept.{Kept}
use Rattle.sc_gen_code.specs.declared.style.Style.{Style}
use Rattle.sc_gen_code.specs.Operators.{machine_type, is_scalar}
use Rattle.sc_opt.specs.declared.uses.Candidate.{Candidate}
use Rattle.sc_opt.specs.declared.uses.Use.{Use}
use Rattle.sc_opt.specs.Uses.{counted, use_of_statement}

-- a parameter's copy is taken at the entry
abbrev pub entry_cost : ℕ → ℕ
entry_cost block = if block == 0 then 1 else 0

abbrev pub is_paid : ℕ → Use → Bool
is_paid block a = not a.addressed && nat_lt (counted (a.cost + entry_cost block)) a.saved

abbrev pub is_kept : CoreStmt → ℕ → ℕ → Auto → Bool
is_kept body b i x = is_scalar x.of && (nat_le x.slot.offset 2044 && is_paid b (use_of_statement (record { block = b; place = i }) body))

-- the copy of the first is in t3
abbrev pub copy_of : ℕ → Auto → Kept
copy_of n x = record { offset = x.slot.offset; register = 28 + n; of = machine_type x.of }

abbrev pub with_object : CoreStmt → Candidate → Auto → List Kept → List Kept
with_object body at x ks = if nat_lt (length ks) 4 && is_kept body at.block at.place x then ks ++ copy_of (length ks) x ∷ [] else ks

-- the objects of a block from a place on
abbrev pub with_block : CoreStmt → ℕ → ℕ → List Auto → List Kept → List Kept
with_block body b i [] ks = ks
with_block body b i (x ∷ xs) ks = with_block body b (counted (i + 1)) xs (with_object body (record { block = b; place = i }) x ks)

-- the blocks from a number on
abbrev pub with_blocks : CoreStmt → ℕ → List (List Auto) → List Kept → List Kept
with_blocks body b [] ks = ks
with_blocks body b (xs ∷ bs) ks = with_blocks body (counted (b + 1)) bs (with_block body b 0 xs ks)

abbrev pub fast_style : Fun → Style
fast_style f = record { kept = with_blocks f.body 0 f.blocks []; enters_all = false }
