-- Machine: the program once more; a theorem ties it to a yardstick (docs/TRUST.md).
-- Places whose bytes are reached without code of their own, operands that are fetched where they are used, and the foot of a place or
-- pointer: its address without the bytes that a load or store adds by itself (ANSI 3.3.2, 3.3.3.2).
use Rattle.std.specs.Prelude.{ℕ, ◌+◌, ◌%◌, ◌^◌, ◌==◌, ◌&&◌, ◌||◌, Bool, true, false, not, if◌then◌else◌, nat_lt, List, [], ◌∷◌, ◌++◌, slice_get, Option, Some, None, option_and_then, option_map}
use Rattle.sc_base.specs.declared.key.Key.{Key}
use Rattle.sc_types.specs.declared.ctype.CType.{CType}
use Rattle.sc_core.specs.declared.expression.CoreExpr.{CoreExpr, out-CoreExpr, fold-CoreExpr}
use Rattle.sc_core.specs.declared.expression.CoreExpr.TheOpen.{CoreExpr-F}
use Rattle.sc_core.specs.declared.module.Auto.{Auto}
use Rattle.sc_core.specs.Types.{type_of}
use Rattle.sc_check_operand.specs.Operands.{is_place}
use Rattle.sc_gen_code.specs.declared.style.Kept.{Kept}
use Rattle.sc_gen_code.specs.declared.style.Style.{Style}
use Rattle.sc_gen_code.specs.declared.symbolic.Access.{Access}
use Rattle.sc_gen_code.specs.declared.symbolic.Access.TheVariants as access
use Rattle.sc_gen_code.specs.declared.symbolic.Target.TheVariants as target
use Rattle.sc_gen_code.specs.Code.{Code, x0, li, at_target}
use Rattle.sc_gen_code.specs.Operators.{machine_type, is_pointer, is_scalar, load_of, is_free, reconvert, bytes_of}
use Rattle.sc_gen_code.specs.Styles.{framed, kept_at}

abbrev pub is_known : Option ℕ → Bool
is_known None = false
is_known (Some n) = true

abbrev pub is_named : Option Key → Bool
is_named None = false
is_named (Some key) = true

abbrev pub offset_in : Option Auto → ℕ
offset_in None = 0
offset_in (Some x) = x.slot.offset

-- where an automatic object stands above sp, by its block and its place in it
abbrev pub slot_of : List (List Auto) → ℕ → ℕ → ℕ
slot_of blocks b i = offset_in (option_and_then (λ xs. slice_get xs i) (slice_get blocks b))

-- the offset above sp of an automatic object, or of a part of one; offsets are numbers of 32 bits
abbrev pub in_frame_layer : List (List Auto) → CoreExpr-F (Option ℕ) → Option ℕ
in_frame_layer slots (CoreExpr-F.Automatic l t b i) = Some (slot_of slots b i)
in_frame_layer slots (CoreExpr-F.Member l t n a) = option_map (λ at. (at + n) % 2 ^ 32) a
in_frame_layer slots _ = None

abbrev pub in_frame : List (List Auto) → CoreExpr → Option ℕ
in_frame slots = fold-CoreExpr (Option ℕ) (in_frame_layer slots)

-- the name of an object of static storage duration
abbrev pub named_layer : CoreExpr-F CoreExpr → Option Key
named_layer (CoreExpr-F.Static l t key) = Some key
named_layer _ = None

abbrev pub named : CoreExpr → Option Key
named e = named_layer (out-CoreExpr e)

-- whether it is such a place: its bytes are reached from sp, or by its name
abbrev pub is_direct : List (List Auto) → CoreExpr → Bool
is_direct slots e = is_known (in_frame slots e) || is_named (named e)

-- whether the value of a scalar's place is to be read (3.2.2.1)
abbrev pub is_read : CoreExpr → Bool
is_read a = is_place a && is_scalar (type_of a)

abbrev pub by_name : Access → Option Key → Code
by_name what None = []
by_name what (Some key) = at_target what (target.Named key)

abbrev pub reach_at : Style → Access → Option ℕ → Option Key → Code
reach_at st what (Some offset) key = framed st what offset
reach_at st what None key = by_name what key

-- what is done at such a place
abbrev pub reach : Style → List (List Auto) → Access → CoreExpr → Code
reach st slots what e = reach_at st what (in_frame slots e) (named e)

-- the bits of a number, also of one that is converted as it stands
abbrev pub number_layer : CoreExpr-F CoreExpr → Option ℕ
number_layer (CoreExpr-F.Number l t n) = Some n
number_layer _ = None

abbrev pub number : CoreExpr → Option ℕ
number e = number_layer (out-CoreExpr e)

abbrev pub constant_layer : CoreExpr-F CoreExpr → Option ℕ
constant_layer (CoreExpr-F.Number l t n) = Some n
constant_layer (CoreExpr-F.Convert l t a) = if is_free (type_of a) t then number a else None
constant_layer _ = None

abbrev pub constant : CoreExpr → Option ℕ
constant e = constant_layer (out-CoreExpr e)

-- the value of a scalar of such a place
abbrev pub scalar_layer : List (List Auto) → CoreExpr-F CoreExpr → Bool
scalar_layer slots (CoreExpr-F.Convert l t a) = is_read a && is_direct slots a
scalar_layer slots _ = false

-- whether a value is a number or such a scalar's: it is fetched where it is used
abbrev pub is_leaf : List (List Auto) → CoreExpr → Bool
is_leaf slots e = is_known (constant e) || scalar_layer slots (out-CoreExpr e)

abbrev pub scalar_fetched : Style → List (List Auto) → ℕ → CoreExpr-F CoreExpr → Code
scalar_fetched st slots r (CoreExpr-F.Convert l t a) =
    reach st slots (access.Load (load_of (machine_type (type_of a))) r) a ++ reconvert (type_of a) t r
scalar_fetched st slots r _ = []

abbrev pub fetched_leaf : Style → List (List Auto) → ℕ → CoreExpr → Option ℕ → Code
fetched_leaf st slots r e (Some n) = li r n
fetched_leaf st slots r e None = scalar_fetched st slots r (out-CoreExpr e)

-- a register gets the value of a leaf
abbrev pub fetch : Style → List (List Auto) → ℕ → CoreExpr → Code
fetch st slots r e = fetched_leaf st slots r e (constant e)

abbrev pub copy_layer : Style → List (List Auto) → CoreExpr-F CoreExpr → Option ℕ
copy_layer st slots (CoreExpr-F.Convert l t a) =
    if is_read a && is_free (type_of a) t then option_map (λ (k : Kept). k.register) (option_and_then (kept_at st) (in_frame slots a)) else None
copy_layer st slots _ = None

abbrev pub stands_by : Style → List (List Auto) → CoreExpr → Option ℕ → Option ℕ
stands_by st slots e (Some n) = if n == 0 then Some x0 else None
stands_by st slots e None = copy_layer st slots (out-CoreExpr e)

-- the register in which a leaf stands already: that of a copy, or x0
abbrev pub stands : Style → List (List Auto) → CoreExpr → Option ℕ
stands st slots e = stands_by st slots e (constant e)

-- Bytes that are added, with those that were to be added already: they are kept back where they are fewer than 2,048.
abbrev pub is_kept_back : ℕ → ℕ → Bool
is_kept_back n away = nat_lt (n + away) 2048

abbrev pub kept_back : ℕ → ℕ → ℕ
kept_back n away = if is_kept_back n away then n + away else 0

-- how far the element that a number names is, where that is near
abbrev pub element : CoreExpr → ℕ → Option ℕ
element b size = option_and_then (λ n. bytes_of n size) (constant b)

abbrev pub away_element : ℕ → Option ℕ → ℕ
away_element away None = away
away_element away (Some n) = kept_back n away

-- whether a conversion leaves a pointer as it stands
abbrev pub is_passed : CoreExpr → CType → Bool
is_passed a t = not (is_read a) && is_free (type_of a) t

-- how many bytes are left to be added to the foot of a place or pointer
abbrev pub Away : Type 0
Away = CoreExpr → ℕ

abbrev pub away_layer : CoreExpr-F Away → CoreExpr-F CoreExpr → ℕ
away_layer (CoreExpr-F.Member _ _ _ p) (CoreExpr-F.Member l t n a) = kept_back n (p a)
away_layer (CoreExpr-F.Arrow _ _ _ p) (CoreExpr-F.Arrow l t n a) = kept_back n (p a)
away_layer (CoreExpr-F.Address _ _ p) (CoreExpr-F.Address l t a) = p a
away_layer (CoreExpr-F.Indirection _ _ p) (CoreExpr-F.Indirection l t a) = p a
away_layer (CoreExpr-F.Index _ _ _ p q) (CoreExpr-F.Index l t size a b) =
    if is_pointer (type_of a) then away_element (p a) (element b size) else q b
away_layer (CoreExpr-F.Convert _ _ p) (CoreExpr-F.Convert l t a) = if is_passed a t then p a else 0
away_layer _ _ = 0

abbrev pub away_part : Away
away_part e = fold-CoreExpr Away (λ p x. away_layer p (out-CoreExpr x)) e e

abbrev pub away : CoreExpr → ℕ
away e = away_part e

-- whether the foot is fetched where it is used
abbrev pub Foothold : Type 0
Foothold = CoreExpr → Bool

abbrev pub near_element : ℕ → Option ℕ → Bool
near_element m None = false
near_element m (Some n) = is_kept_back n m

abbrev pub foothold_layer : List (List Auto) → CoreExpr-F Foothold → CoreExpr-F CoreExpr → CoreExpr → Bool
foothold_layer slots _ (CoreExpr-F.Automatic l t b i) e = true
foothold_layer slots _ (CoreExpr-F.Static l t key) e = true
foothold_layer slots (CoreExpr-F.Member _ _ _ p) (CoreExpr-F.Member l t n a) e = is_kept_back n (away a) && p a
foothold_layer slots (CoreExpr-F.Arrow _ _ _ p) (CoreExpr-F.Arrow l t n a) e = is_kept_back n (away a) && p a
foothold_layer slots (CoreExpr-F.Address _ _ p) (CoreExpr-F.Address l t a) e = p a
foothold_layer slots (CoreExpr-F.Indirection _ _ p) (CoreExpr-F.Indirection l t a) e = p a
foothold_layer slots (CoreExpr-F.Index _ _ _ p _) (CoreExpr-F.Index l t size a b) e =
    is_pointer (type_of a) && (near_element (away a) (element b size) && p a)
foothold_layer slots (CoreExpr-F.Convert _ _ p) (CoreExpr-F.Convert l t a) e = if is_passed a t then p a else is_leaf slots e
foothold_layer slots _ _ e = is_leaf slots e

abbrev pub is_foothold : List (List Auto) → CoreExpr → Bool
is_foothold slots e = fold-CoreExpr Foothold (λ p x. foothold_layer slots p (out-CoreExpr x) x) e e

-- a register gets such a foot
abbrev pub Fetched : Type 0
Fetched = CoreExpr → Code

abbrev pub foot_layer : Style → List (List Auto) → ℕ → CoreExpr-F Fetched → CoreExpr-F CoreExpr → CoreExpr → Code
foot_layer st slots r _ (CoreExpr-F.Automatic l t b i) e = reach st slots (access.Address r) e
foot_layer st slots r _ (CoreExpr-F.Static l t key) e = reach st slots (access.Address r) e
foot_layer st slots r (CoreExpr-F.Member _ _ _ p) (CoreExpr-F.Member l t n a) e = p a
foot_layer st slots r (CoreExpr-F.Arrow _ _ _ p) (CoreExpr-F.Arrow l t n a) e = p a
foot_layer st slots r (CoreExpr-F.Address _ _ p) (CoreExpr-F.Address l t a) e = p a
foot_layer st slots r (CoreExpr-F.Indirection _ _ p) (CoreExpr-F.Indirection l t a) e = p a
foot_layer st slots r (CoreExpr-F.Index _ _ _ p _) (CoreExpr-F.Index l t size a b) e = p a
foot_layer st slots r (CoreExpr-F.Convert _ _ p) (CoreExpr-F.Convert l t a) e = if is_passed a t then p a else fetch st slots r e
foot_layer st slots r _ _ e = fetch st slots r e

abbrev pub fetch_foot : Style → List (List Auto) → ℕ → CoreExpr → Code
fetch_foot st slots r e = fold-CoreExpr Fetched (λ p x. foot_layer st slots r p (out-CoreExpr x) x) e e

-- whether an expression has a call in it
abbrev pub call_layer : CoreExpr-F Bool → Bool
call_layer (CoreExpr-F.Index l t n a b) = a || b
call_layer (CoreExpr-F.Call l t f args) = true
call_layer (CoreExpr-F.Member l t n a) = a
call_layer (CoreExpr-F.Arrow l t n a) = a
call_layer (CoreExpr-F.Step l t s n a) = a
call_layer (CoreExpr-F.Address l t a) = a
call_layer (CoreExpr-F.Indirection l t a) = a
call_layer (CoreExpr-F.Unary l t o a) = a
call_layer (CoreExpr-F.Cast l t a) = a
call_layer (CoreExpr-F.Binary l t o a b) = a || b
call_layer (CoreExpr-F.Offset l t o n a b) = a || b
call_layer (CoreExpr-F.Difference l t n a b) = a || b
call_layer (CoreExpr-F.Compare l t o a b) = a || b
call_layer (CoreExpr-F.And l t a b) = a || b
call_layer (CoreExpr-F.Or l t a b) = a || b
call_layer (CoreExpr-F.Conditional l t a b d) = a || (b || d)
call_layer (CoreExpr-F.Assign l t a b) = a || b
call_layer (CoreExpr-F.AssignStructure l t n a b) = a || b
call_layer (CoreExpr-F.Compound l t o k a b) = a || b
call_layer (CoreExpr-F.CompoundOffset l t o n a b) = a || b
call_layer (CoreExpr-F.Comma l t a b) = a || b
call_layer (CoreExpr-F.Convert l t a) = a
call_layer _ = false

abbrev pub has_call : CoreExpr → Bool
has_call = fold-CoreExpr Bool call_layer
