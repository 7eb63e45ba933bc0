-- Machine: the program once more; a theorem ties it to a yardstick (docs/TRUST.md).
-- Jumps to places of a function's text, which are counted in words from its beginning, and the blocks that are left on the way.
use Rattle.std.specs.Prelude.{ℕ, ◌+◌, ◌*◌, ◌==◌, if◌then◌else◌, List, [], ◌∷◌, ◌++◌, length, slice_get, slice_set, slice_index_or, replicate, Option, Some, None, pos}
use Rattle.std.specs.Option.{option_or}
use Rattle.sc_isa.specs.declared.instruction.Instr.TheVariants.{Branch}
use Rattle.sc_isa.specs.declared.instruction.BranchOp.TheVariants.{Bne}
use Rattle.sc_core.specs.declared.statement.LabelAt.{LabelAt}
use Rattle.sc_gen_code.specs.declared.symbolic.Symbolic.{Symbolic}
use Rattle.sc_gen_code.specs.declared.symbolic.Symbolic.TheVariants.{Plain}
use Rattle.sc_gen_code.specs.Code.{Code, t1, a0, over, jump, block_service}
use Rattle.sc_gen_body.specs.declared.jumps.Place.{Place}
use Rattle.sc_gen_body.specs.declared.jumps.LabelPlace.{LabelPlace}

-- What is known around a statement: the blocks that are open there, outermost first, where `break` and `continue` go, and the labels
-- of the open blocks.
pub record Around : Type 0 where
  pub blocks : List ℕ
  pub on_break : Place
  pub on_continue : Place
  pub labels : List LabelPlace

-- outside of every loop, `switch` and block
abbrev pub nowhere : Around
nowhere = record {
  blocks = [];
  on_break = record { word = 0; depth = 0 };
  on_continue = record { word = 0; depth = 0 };
  labels = [];
}

-- the block's objects are born
abbrev pub entering : Option ℕ → Code
entering None = []
entering (Some b) = block_service 2 b

-- the block's objects die, and those of all blocks open inside it
abbrev pub leaving : Option ℕ → Code
leaving None = []
leaving (Some b) = block_service 3 b

-- Out of the blocks that are not open there to a place.
abbrev pub go : List ℕ → ℕ → Place → Code
go blocks at place =
    leaving (slice_get blocks place.depth)
    ++ jump (at + length (leaving (slice_get blocks place.depth))) place.word ∷ []

-- into a block, where there is one, and to a place in it
abbrev pub go_in : Option ℕ → ℕ → ℕ → Code
go_in block at to = entering block ++ jump (at + length (entering block)) to ∷ []

-- the next n words are left out where the `switch`'s value in a0 is not the one in t1
abbrev pub unless_equal : ℕ → Symbolic
unless_equal n = Plain (Branch Bne a0 t1 (pos (4 * n + 4)))

-- where a statement of a list begins; what has no list begins at a place
abbrev pub start_of : ℕ → List ℕ → ℕ → ℕ
start_of at starts n = slice_index_or starts n at

-- the place of a block's label
abbrev pub label_place : ℕ → ℕ → LabelAt → LabelPlace
label_place at depth l = record { label = l.label; place = record { word = at; depth = depth } }

-- the places of a block's labels: each is a jump of its own, from a place on
abbrev pub label_places : ℕ → ℕ → List LabelAt → List LabelPlace
label_places at depth [] = []
label_places at depth (l ∷ ls) = label_place at depth l ∷ label_places (at + 1) depth ls

-- the place of a label, of the innermost block that has it
abbrev pub labelled : ℕ → List LabelPlace → Option Place
labelled k [] = None
labelled k (l ∷ ls) = option_or (labelled k ls) (if l.label == k then Some l.place else None)

-- the jumps of a block's labels to their statements, by where these begin
abbrev pub label_jumps : ℕ → (ℕ → ℕ) → List LabelAt → Code
label_jumps at start [] = []
label_jumps at start (l ∷ ls) = jump at (start l.at) ∷ label_jumps (at + 1) start ls

-- they stand in front of the block's statements, behind a jump over them
abbrev pub label_rows : ℕ → (ℕ → ℕ) → List LabelAt → Code
label_rows at start [] = []
label_rows at start (l ∷ ls) = over (length (l ∷ ls)) ∷ label_jumps (at + 1) start (l ∷ ls)

abbrev pub rows : List LabelAt → ℕ
rows [] = 0
rows (l ∷ ls) = 1 + length (l ∷ ls)

-- the words that stand there before the statements are known
abbrev pub label_holes : List LabelAt → Code
label_holes [] = []
label_holes (l ∷ ls) = over (length (l ∷ ls)) ∷ replicate (length (l ∷ ls)) (over 0)

-- words behind a place become the jumps of labels
abbrev pub with_jumps : Code → ℕ → (ℕ → ℕ) → List LabelAt → Code
with_jumps code at start [] = code
with_jumps code at start (l ∷ ls) = with_jumps (slice_set code (at + 1) (jump (at + 1) (start l.at))) (at + 1) start ls

-- the blocks that are open inside one, which has objects or is not entered
abbrev pub opened : List ℕ → Option ℕ → List ℕ
opened blocks None = blocks
opened blocks (Some b) = blocks ++ b ∷ []

-- around the statements of a block, whose labels' jumps begin at a place
abbrev pub inside : Around → Option ℕ → List LabelAt → ℕ → Around
inside around b ls at = record around {
  blocks = opened around.blocks b;
  labels = around.labels ++ label_places (at + 1) (length (opened around.blocks b)) ls;
}

-- around the body of a loop, whose words for `break` and `continue` stand one behind the other
abbrev pub in_loop : Around → ℕ → Around
in_loop around at = record around {
  on_break = record { word = at; depth = length around.blocks };
  on_continue = record { word = at + 1; depth = length around.blocks };
}

-- around the body of a `switch`
abbrev pub in_switch : Around → ℕ → Around
in_switch around at = record around { on_break = record { word = at; depth = length around.blocks } }
