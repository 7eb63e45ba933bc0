-- Inside: plumbing, a representation, an invariant or a promise beside the claim (docs/TRUST.md).
-- Which arguments a call gives away to their expansion: those that its replacement list has nowhere as they are written.
use Rattle.std.specs.Prelude.{Bool, false, if◌then◌else◌, List, [], ◌∷◌, ◌++◌, length, get_or, slice_set}
use Rattle.sc_macro.specs.declared.marked.Marked.{Marked}
use Rattle.sc_macro.specs.declared.macros.Part.{Part}
use Rattle.sc_macro.specs.declared.macros.Part.TheVariants as part

-- the flags behind a part that takes its argument as it is written
abbrev pub kept_by : List Bool → Part → List Bool
kept_by flags (part.Word t) = flags
kept_by flags (part.Parameter i space) = slice_set flags i false
kept_by flags (part.Quoted i space) = slice_set flags i false

abbrev pub kept_by_all : List Bool → List Part → List Bool
kept_by_all flags [] = flags
kept_by_all flags (p ∷ ps) = kept_by_all (kept_by flags p) ps

-- behind a chain: a parameter that is a chain alone takes its argument expanded
abbrev pub kept_by_chain : List Bool → List Part → List Bool
kept_by_chain flags (part.Parameter i space ∷ []) = flags
kept_by_chain flags ps = kept_by_all flags ps

-- the flags of the arguments that are wanted expanded, less those that are wanted as they are written
abbrev pub movable : List Bool → List (List Part) → List Bool
movable flags [] = flags
movable flags (c ∷ cs) = movable (kept_by_chain flags c) cs

abbrev pub stay : Bool → List Marked → List Marked
stay moves a = if moves then [] else a

-- the arguments behind those that are done, an empty list for each that is given away
abbrev pub left_over : List Bool → List (List Marked) → List (List Marked) → List (List Marked)
left_over flags done [] = done
left_over flags done (a ∷ args) = left_over flags (done ++ stay (get_or flags (length done) false) a ∷ []) args
