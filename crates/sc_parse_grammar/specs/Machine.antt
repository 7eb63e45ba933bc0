-- Machine: the program once more; a theorem ties it to a yardstick (docs/TRUST.md).
-- The steps of the machine that reads expressions, type names, specifiers and declarators, one token at a time.
use Rattle.std.specs.Prelude.{ℕ, ◌+◌, max, Bool, true, false, if◌then◌else◌, ◌&&◌, nat_lt, nat_le, List, [], ◌∷◌, ◌++◌, length, Option, Some, None, Result, Ok, Err}
use Rattle.sc_tree.specs.declared.operator.Unary.{Unary}
use Rattle.sc_tree.specs.declared.operator.Postfix.{Postfix}
use Rattle.sc_tree.specs.declared.operator.Binary.{Binary}
use Rattle.sc_tree.specs.declared.expression.Storage.{Storage}
use Rattle.sc_tree.specs.declared.expression.Identifier.{Identifier}
use Rattle.sc_tree.specs.declared.expression.Expr.{Expr}
use Rattle.sc_tree.specs.declared.expression.TypeWord.{TypeWord}
use Rattle.sc_tree.specs.declared.expression.TypeWord.TheVariants as word
use Rattle.sc_tree.specs.declared.expression.Specifiers.{Specifiers}
use Rattle.sc_tree.specs.declared.expression.Enumerator.{Enumerator}
use Rattle.sc_tree.specs.declared.expression.Derivation.{Derivation}
use Rattle.sc_tree.specs.declared.expression.Derivation.TheVariants as derived_by
use Rattle.sc_tree.specs.declared.expression.Declarator.{Declarator}
use Rattle.sc_tree.specs.declared.expression.TypeName.{TypeName}
use Rattle.sc_tree.specs.declared.expression.Parameter.{Parameter}
use Rattle.sc_parse_names.specs.declared.kind.Mark.TheVariants as mark
use Rattle.sc_parse_names.specs.declared.kind.Symbol.{Symbol}
use Rattle.sc_parse_names.specs.declared.kind.Kind.{Kind}
use Rattle.sc_parse_names.specs.declared.kind.Kind.TheVariants as k
use Rattle.sc_parse_names.specs.Names.{Names, is_typed, declare, enter, leave, innermost}
use Rattle.sc_parse_grammar.specs.declared.operand.Operand.{Operand}
use Rattle.sc_parse_grammar.specs.declared.operand.Direct.{Direct}
use Rattle.sc_parse_grammar.specs.declared.operand.Whole.{Whole}
use Rattle.sc_parse_grammar.specs.declared.operand.Mode.{Mode}
use Rattle.sc_parse_grammar.specs.declared.operand.Mode.TheVariants as mode
use Rattle.sc_parse_grammar.specs.declared.frame.Frame.{Frame}
use Rattle.sc_parse_grammar.specs.declared.frame.Frame.TheVariants as f
use Rattle.sc_parse_grammar.specs.declared.frame.State.{State}
use Rattle.sc_parse_grammar.specs.declared.frame.State.TheVariants as s
use Rattle.sc_parse_grammar.specs.declared.trouble.Trouble.{Trouble}
use Rattle.sc_parse_grammar.specs.declared.trouble.Trouble.TheVariants as no
use Rattle.sc_parse_grammar.specs.declared.trouble.Limit.TheVariants as limit
use Rattle.sc_parse_grammar.specs.Kinds.{unary_of, operand_of, postfix_of, binary_of, level_of, word_of, power_of, begins_type, begins_parameters}
use Rattle.sc_parse_grammar.specs.Nodes.{name_node, constant_node, text_node, paren_node, offset_node, index_node, call_node, member_node, arrow_node, postfix_node, unary_node, size_node, size_type_node, cast_node, binary_node, conditional_node, assign_node, comma_node}
use Rattle.sc_parse_grammar.specs.Types.{is_empty, has_words, no_words, with_word, with_const, with_storage, identifier_at, no_direct, named_direct, with_step, pointed, whole, declarator_of, declarator_in, declare_in, type_of, member_of, parameter_of, item_of}
use Rattle.sc_parse_grammar.specs.Grammar.{text_with, is_abstract}

-- what is open, and what was read last
abbrev pub Place : Type 0
Place = List Frame × State

abbrev pub Config : Type 0
Config = Names × Place

abbrev pub Outcome : Type 0
Outcome = Result Place Trouble

abbrev pub stuck : Outcome
stuck = Err no.Syntax

abbrev pub on_ok : {A B : Type 0} → (A → Result B Trouble) → Result A Trouble → Result B Trouble
on_ok go (Ok a) = go a
on_ok go (Err e) = Err e

-- the level that an operand has at least where it stands right inside these frames
abbrev pub needs_in : Frame → ℕ
needs_in (f.Only n) = n
needs_in (f.Arguments a args n) = 2
needs_in (f.Unary l op) = operand_of op
needs_in (f.SizeOf l) = 15
needs_in (f.Cast l type) = 14
needs_in (f.Binary a op) = level_of op + 1
needs_in (f.Else a b) = 3
needs_in (f.Assign a op) = 2
needs_in (f.Comma a) = 2
needs_in (f.Item name) = 3
needs_in (f.Size d) = 3
needs_in _ = 1

abbrev pub needs : List Frame → ℕ
needs [] = 1
needs (frame ∷ fs) = needs_in frame

-- the level of what an operator's frame makes, or 0
abbrev pub level_in : Frame → ℕ
level_in (f.Unary l op) = 15
level_in (f.SizeOf l) = 15
level_in (f.Cast l type) = 14
level_in (f.Binary a op) = level_of op
level_in (f.Else a b) = 3
level_in (f.Assign a op) = 2
level_in (f.Comma a) = 1
level_in _ = 0

abbrev pub level_on : List Frame → ℕ
level_on [] = 0
level_on (frame ∷ fs) = level_in frame

-- what an operator's frame makes of the operand inside it
abbrev pub built : Frame → Operand → Operand
built (f.Unary l op) x = unary_node l op x
built (f.SizeOf l) x = size_node l x
built (f.Cast l type) x = cast_node l type x
built (f.Binary a op) x = binary_node a op x
built (f.Else a b) x = conditional_node a b x
built (f.Assign a op) x = assign_node a op x
built (f.Comma a) x = comma_node a x
built _ x = x

-- Closes the frames whose operator binds at least as tightly as p, which is not 0.
abbrev pub settle : ℕ → List Frame → Operand → List Frame × Operand
settle p [] x = ([], x)
settle p (frame ∷ fs) x = if nat_le p (level_in frame) then settle p fs (built frame x) else (frame ∷ fs, x)

-- Nothing is higher than the limit.
abbrev pub fits : ℕ → Outcome → Outcome
fits n outcome = if nat_lt 200 n then Err (no.Limit limit.Height) else outcome

-- whether an argument ends that is the 32nd, or a further one
abbrev pub is_full : List Frame → Bool
is_full (f.Arguments a args n ∷ fs) = nat_lt 30 (length args)
is_full _ = false

-- An argument ends, which is one of at most 31.
abbrev pub counted : List Frame → Outcome → Outcome
counted fs outcome = if is_full fs then Err (no.Limit limit.Arguments) else outcome

-- The token goes on with no operand: what was read may pass a limit all the same.
abbrev pub wrong : List Frame × Operand → Outcome
wrong r = fits r.1.height (counted r.0 stuck)

-- The token goes on with no parameter, which may be one too many all the same.
abbrev pub unended : List Frame → Outcome
unended (f.Parameters d ps ∷ fs) = if nat_lt (length ps) 31 then stuck else Err (no.Limit limit.Arguments)
unended _ = stuck

-- A token behind at least one type word, or a declarator, ends the type name or the parameter.
abbrev pub finish : Kind → List Frame → Specifiers TypeWord → Option Whole → Outcome
finish k.RightParen (f.CastType l ∷ fs) v x = if nat_le (needs fs) 14 then Ok (f.Cast l (type_of v (declarator_in x)) ∷ fs, s.Need) else stuck
finish k.RightParen (f.SizeType l ∷ fs) v x = Ok (fs, s.Have (size_type_node l (type_of v (declarator_in x))))
finish k.Comma (f.OffsetType l ∷ fs) v x = Ok (fs, s.OffsetComma l (type_of v (declarator_in x)))
finish k.RightParen (f.Parameters d ps ∷ fs) v x = Ok (f.Parameters d ps ∷ fs, s.ParameterEnd v x true)
finish k.Comma (f.Parameters d ps ∷ fs) v x = Ok (f.Parameters d ps ∷ fs, s.ParameterEnd v x false)
finish _ fs v x = unended fs

-- a token behind a declarator of a member
abbrev pub member : Kind → List Frame → Specifiers TypeWord → List Declarator → Outcome
member k.Comma fs v ds = Ok (f.Member v ds ∷ fs, s.Begin mode.Named)
member k.Semicolon (f.Struct w l union tag ms ∷ fs) v ds = Ok (f.Struct w l union tag (ms ++ member_of v ds ∷ []) ∷ fs, s.Due)
member k.Colon fs v ds = Err (no.LeftOut mark.BitField)
member _ fs v ds = stuck

-- a token behind a declarator of a declaration
abbrev pub outer : Kind → List Frame → Whole → Outcome
outer k.Comma fs x = Ok (fs, s.Declared x)
outer k.Semicolon fs x = Ok (fs, s.Declared x)
outer (k.Assign None) fs x = Ok (fs, s.Declared x)
outer k.LeftBrace fs x = Ok (fs, s.Declared x)
outer _ fs x = stuck

-- a token behind a declarator
abbrev pub declared : Kind → List Frame → Whole → Outcome
declared kind (f.Outer ∷ fs) x = outer kind fs x
declared kind (f.Member v ds ∷ fs) x = member kind fs v (ds ++ declarator_of x.line x.direct ∷ [])
declared kind (f.Specifiers v ∷ fs) x = finish kind fs v (Some x)
declared _ _ x = stuck

-- the parenthesis round a declarator
abbrev pub ungroup : Kind → List Frame → Direct → Outcome
ungroup k.RightParen fs d = Ok (fs, s.Direct d)
ungroup _ fs d = stuck

-- the end of a declarator in parentheses, or of all of it
abbrev pub level_ends : Kind → List Frame → ℕ → Direct → Outcome
level_ends kind (f.Level m l cs ∷ fs) h d = ungroup kind (f.Level m l cs ∷ fs) d
level_ends kind fs h d = declared kind fs (whole h d)

abbrev pub direct_ends : Kind → List Frame → Direct → Outcome
direct_ends kind (f.Level m l cs ∷ fs) d = level_ends kind fs l (pointed cs d)
direct_ends _ _ d = stuck

-- a token behind the name of a declarator and what it is so far
abbrev pub suffixes : Kind → List Frame → Direct → Outcome
suffixes k.LeftBracket fs d = Ok (fs, s.Bracket d)
suffixes k.LeftParen fs d = Ok (f.Parameters d [] ∷ fs, s.Due)
suffixes kind fs d = direct_ends kind fs d

-- The specifiers of a parameter stand alone, and nothing goes on with them.
abbrev pub bare_specifiers : List Frame → Outcome
bare_specifiers (f.Specifiers v ∷ fs) = unended fs
bare_specifiers _ = stuck

-- Nothing stands behind the stars, of which there is one at least.
abbrev pub bare_stars : Kind → List Frame → ℕ → List Bool → Outcome
bare_stars kind fs l [] = bare_specifiers fs
bare_stars kind fs l (c ∷ cs) = level_ends kind fs l (pointed (c ∷ cs) no_direct)

-- neither a name nor a parenthesis stands behind the stars
abbrev pub bare : Kind → List Frame → ℕ → Mode → List Bool → Outcome
bare k.LeftBracket fs l m cs = Ok (f.Level m l cs ∷ fs, s.Bracket no_direct)
bare kind fs l m cs = bare_stars kind fs l cs

-- a member without a name
abbrev pub unnamed_member : Kind → List Frame → List Bool → Outcome
unnamed_member k.Colon (f.Member v ds ∷ fs) [] = Err (no.LeftOut mark.BitField)
unnamed_member _ _ cs = stuck

abbrev pub without_name : Kind → List Frame → ℕ → Mode → List Bool → Outcome
without_name kind fs l mode.Named cs = unnamed_member kind fs cs
without_name kind fs l mode.Abstract cs = bare kind fs l mode.Abstract cs
without_name kind fs l mode.Either cs = bare kind fs l mode.Either cs

-- a token where a declarator's name or a parenthesis may stand
abbrev pub direct : Symbol → Kind → List Frame → ℕ → Mode → List Bool → Outcome
direct t k.Name fs l m cs = if is_abstract m then stuck else Ok (f.Level m l cs ∷ fs, s.Direct (named_direct t))
direct t k.LeftParen fs l m cs = Ok (fs, s.Group m l cs)
direct t kind fs l m cs = without_name kind fs l m cs

-- a declarator is due
abbrev pub begin : Symbol → Kind → List Frame → Mode → Outcome
begin t k.Star fs m = Ok (fs, s.Stars m t.line (false ∷ []))
begin t kind fs m = direct t kind fs t.line m []

abbrev pub const_star : List Bool → List Bool
const_star [] = []
const_star (c ∷ cs) = true ∷ cs

-- a token behind a star
abbrev pub stars : Symbol → Kind → List Frame → ℕ → Mode → List Bool → Outcome
stars t k.Star fs l m cs = Ok (fs, s.Stars m l (false ∷ cs))
stars t k.Const fs l m cs = Ok (fs, s.Stars m l (const_star cs))
stars t kind fs l m cs = direct t kind fs l m cs

-- a token behind the specifiers of a declaration
abbrev pub outer_specified : Kind → List Frame → Specifiers TypeWord → Outcome
outer_specified k.Semicolon fs v = Ok (fs, s.Specified v)
outer_specified k.Star fs v = Ok (fs, s.Specified v)
outer_specified k.LeftParen fs v = Ok (fs, s.Specified v)
outer_specified k.Name fs v = Ok (fs, s.Specified v)
outer_specified _ fs v = stuck

-- a token behind the specifiers of a type name or parameter
abbrev pub inner_specified : Symbol → Kind → List Frame → Specifiers TypeWord → Mode → Outcome
inner_specified t k.RightParen fs v m = finish k.RightParen fs v None
inner_specified t k.Comma fs v m = finish k.Comma fs v None
inner_specified t kind fs v m = begin t kind (f.Specifiers v ∷ fs) m

-- a token behind at least one type word
abbrev pub specified : Symbol → List Frame → Specifiers TypeWord → Outcome
specified t (f.Outer ∷ fs) v = outer_specified t.kind fs v
specified t (f.Struct w l union tag ms ∷ fs) v = begin t t.kind (f.Member v [] ∷ f.Struct w l union tag ms ∷ fs) mode.Named
specified t (f.Parameters d ps ∷ fs) v = inner_specified t t.kind (f.Parameters d ps ∷ fs) v mode.Either
specified t fs v = inner_specified t t.kind fs v mode.Abstract

-- a token with which a declaration without type word goes on
abbrev pub goes_on : Kind → Outcome
goes_on k.Name = Err (no.LeftOut mark.ImplicitInt)
goes_on k.Star = Err (no.LeftOut mark.ImplicitInt)
goes_on k.LeftParen = Err (no.LeftOut mark.ImplicitInt)
goes_on k.RightParen = Err (no.LeftOut mark.ImplicitInt)
goes_on k.Semicolon = Err (no.LeftOut mark.ImplicitInt)
goes_on k.Comma = Err (no.LeftOut mark.ImplicitInt)
goes_on _ = stuck

-- a plain name where specifiers are due
abbrev pub plain_name : List Frame → Outcome
plain_name (f.Outer ∷ fs) = Err (no.LeftOut mark.ImplicitInt)
plain_name (f.Parameters d [] ∷ fs) = Err (no.LeftOut mark.OldStyle)
plain_name (f.Parameters d ps ∷ fs) = Err (no.LeftOut mark.ImplicitInt)
plain_name _ = stuck

abbrev pub nothing_yet : Kind → List Frame → Outcome
nothing_yet k.Name fs = plain_name fs
nothing_yet _ fs = stuck

-- no type word stands before the token
abbrev pub wordless : Kind → List Frame → Specifiers TypeWord → Option Storage → Outcome
wordless kind fs v None = if v.constant then goes_on kind else nothing_yet kind fs
wordless kind fs v (Some class) = goes_on kind

abbrev pub worded : Symbol → List Frame → Specifiers TypeWord → Outcome
worded t fs v = if has_words v.words then specified t fs v else wordless t.kind fs v v.storage

abbrev pub at_word : Option TypeWord → Symbol → List Frame → Specifiers TypeWord → Outcome
at_word (Some w) t fs v = Ok (fs, s.Words (with_word v w))
at_word None t fs v = worded t fs v

-- a storage class, which only declarations and parameters have
abbrev pub at_storage : Storage → List Frame → Specifiers TypeWord → Option Storage → Outcome
at_storage class (f.Outer ∷ fs) v None = Ok (f.Outer ∷ fs, s.Words (with_storage v class))
at_storage class (f.Parameters d ps ∷ fs) v None = Ok (f.Parameters d ps ∷ fs, s.Words (with_storage v class))
at_storage class fs v (Some other) = if has_words v.words then unended fs else stuck
at_storage class _ v None = stuck

-- a name among specifiers
abbrev pub at_name : Bool → Symbol → List Frame → Specifiers TypeWord → Outcome
at_name typed t fs v = if typed && is_empty v.words then Ok (fs, s.Words (with_word v (word.Typedef t.line t.text))) else worded t fs v

-- the words of specifiers
abbrev pub words : Bool → Symbol → List Frame → Specifiers TypeWord → Kind → Outcome
words typed t fs v k.Const = Ok (fs, s.Words (with_const v))
words typed t fs v (k.Struct union) = Ok (fs, s.Struct v t.line union)
words typed t fs v k.Enum = Ok (fs, s.Enum v t.line)
words typed t fs v k.Name = at_name typed t fs v
words typed t fs v (k.Storage class) = at_storage class fs v v.storage
words typed t fs v kind = at_word (word_of kind) t fs v

-- Specifiers are due: `void` may be the only parameter, `)` ends an empty list, and `}` a structure or union.
abbrev pub due : Bool → Symbol → List Frame → Kind → Outcome
due typed t (f.Parameters d [] ∷ fs) k.Void = Ok (f.Parameters d [] ∷ fs, s.Void t.line)
due typed t (f.Parameters d [] ∷ fs) k.RightParen = Ok (f.Parameters d [] ∷ fs, s.ParametersEnd derived_by.Function)
due typed t (f.Struct v l union tag (m ∷ ms) ∷ fs) k.RightBrace = Ok (fs, s.Words (with_word v (word.Struct l union tag (m ∷ ms))))
due typed t fs kind = words typed t fs (no_words t.line) kind

-- a token behind `void` where parameters begin
abbrev pub void : Bool → Symbol → List Frame → ℕ → Kind → Outcome
void typed t fs l k.RightParen = Ok (fs, s.ParametersEnd (derived_by.Prototype []))
void typed t fs l kind = words typed t fs (with_word (no_words l) word.Void) kind

-- a token behind `struct` or `union`
abbrev pub structure : Symbol → List Frame → Specifiers TypeWord → ℕ → Bool → Kind → Outcome
structure t fs v l union k.Name = Ok (fs, s.StructTag v l union t.text)
structure t fs v l union k.LeftBrace = Ok (f.Struct v l union None [] ∷ fs, s.Due)
structure t fs v l union _ = stuck

abbrev pub tagged_structure : Bool → Symbol → List Frame → Specifiers TypeWord → ℕ → Bool → List ℕ → Kind → Outcome
tagged_structure typed t fs v l union tag k.LeftBrace = Ok (f.Struct v l union (Some tag) [] ∷ fs, s.Due)
tagged_structure typed t fs v l union tag kind = words typed t fs (with_word v (word.StructTag l union tag)) kind

-- a token behind `enum`
abbrev pub enumeration : Symbol → List Frame → Specifiers TypeWord → ℕ → Kind → Outcome
enumeration t fs v l k.Name = Ok (fs, s.EnumTag v l t.text)
enumeration t fs v l k.LeftBrace = Ok (f.Enum v l None [] ∷ fs, s.Items)
enumeration t fs v l _ = stuck

abbrev pub tagged_enumeration : Bool → Symbol → List Frame → Specifiers TypeWord → ℕ → List ℕ → Kind → Outcome
tagged_enumeration typed t fs v l tag k.LeftBrace = Ok (f.Enum v l (Some tag) [] ∷ fs, s.Items)
tagged_enumeration typed t fs v l tag kind = words typed t fs (with_word v (word.EnumTag l tag)) kind

-- an item is due, or the enumeration ends behind a comma
abbrev pub items : Symbol → List Frame → Kind → Outcome
items t fs k.Name = Ok (fs, s.Item (identifier_at t))
items t (f.Enum v l tag (x ∷ xs) ∷ fs) k.RightBrace = Ok (fs, s.Words (with_word v (word.Enum l tag (x ∷ xs))))
items t _ _ = stuck

-- a token behind the name of an item
abbrev pub item : List Frame → Identifier → Kind → Outcome
item fs name (k.Assign None) = Ok (f.Item name ∷ fs, s.Need)
item fs name k.Comma = Ok (fs, s.ItemEnd (item_of name None) false)
item fs name k.RightBrace = Ok (fs, s.ItemEnd (item_of name None) true)
item fs name _ = stuck

abbrev pub close_paren : List Frame → Operand → Outcome
close_paren (f.Paren l ∷ fs) x = Ok (fs, s.Have (paren_node l x))
close_paren (f.Arguments a args n ∷ fs) x = Ok (fs, s.Have (call_node a (args ++ x.tree ∷ []) (max n x.height)))
close_paren (f.Only n ∷ fs) x = Ok (fs, s.Expression x)
close_paren _ x = stuck

abbrev pub close_bracket : List Frame → Operand → Outcome
close_bracket (f.Index a ∷ fs) x = Ok (fs, s.Have (index_node a x))
close_bracket (f.Size d ∷ fs) x = Ok (fs, s.Direct (with_step d (derived_by.Array (Some x.tree)) []))
close_bracket (f.Only n ∷ fs) x = Ok (fs, s.Expression x)
close_bracket _ x = stuck

abbrev pub close_brace : List Frame → Operand → Outcome
close_brace (f.Item name ∷ fs) x = Ok (fs, s.ItemEnd (item_of name (Some x.tree)) true)
close_brace (f.Only n ∷ fs) x = Ok (fs, s.Expression x)
close_brace _ x = stuck

abbrev pub close_then : List Frame → Operand → Outcome
close_then (f.Then a ∷ fs) x = Ok (f.Else a x ∷ fs, s.Need)
close_then (f.Only n ∷ fs) x = Ok (fs, s.Expression x)
close_then _ x = stuck

-- a semicolon, or the end of the tokens
abbrev pub close_all : List Frame → Operand → Outcome
close_all (f.Only n ∷ fs) x = Ok (fs, s.Expression x)
close_all _ x = stuck

-- a comma where the operator may not stand
abbrev pub separate : List Frame → Operand → Outcome
separate (f.Arguments a args n ∷ fs) x = Ok (f.Arguments a (args ++ x.tree ∷ []) (max n x.height) ∷ fs, s.Need)
separate (f.Item name ∷ fs) x = Ok (fs, s.ItemEnd (item_of name (Some x.tree)) false)
separate (f.Only n ∷ fs) x = Ok (fs, s.Expression x)
separate _ x = stuck

abbrev pub at_comma : List Frame → Operand → Outcome
at_comma fs x = if nat_le (needs fs) 1 then Ok (f.Comma x ∷ fs, s.Need) else separate fs x

abbrev pub at_assign : Option Binary → List Frame → Operand → Outcome
at_assign op fs x = if nat_lt x.level 15 then wrong (settle 1 fs x) else (if nat_le (needs fs) 2 then Ok (f.Assign x op ∷ fs, s.Need) else wrong (settle 1 fs x))

abbrev pub at_question : List Frame → Operand → Outcome
at_question fs x = if nat_le (needs fs) 3 then Ok (f.Then x ∷ fs, s.Need) else stuck

-- a token that ends the operand
abbrev pub operand_ends : Kind → List Frame → Operand → Outcome
operand_ends k.Colon fs x = close_then fs x
operand_ends k.Comma fs x = at_comma fs x
operand_ends k.RightParen fs x = close_paren fs x
operand_ends k.RightBracket fs x = close_bracket fs x
operand_ends k.RightBrace fs x = close_brace fs x
operand_ends k.Semicolon fs x = close_all fs x
operand_ends k.End fs x = close_all fs x
operand_ends _ fs x = stuck

-- an operator between operands, or else an end
abbrev pub at_operator : Option Binary → Kind → List Frame → Operand → Outcome
at_operator (Some op) kind fs x = Ok (f.Binary x op ∷ fs, s.Need)
at_operator None kind fs x = counted fs (operand_ends kind fs x)

abbrev pub at_postfix : Option Postfix → List Frame → Operand → Outcome
at_postfix None fs x = wrong (settle 1 fs x)
at_postfix (Some op) fs x = Ok (fs, s.Have (postfix_node x op))

-- a token that belongs to the operand
abbrev pub behind : Kind → List Frame → Operand → Outcome
behind k.LeftBracket fs x = Ok (f.Index x ∷ fs, s.Need)
behind k.LeftParen fs x = Ok (f.Arguments x [] 0 ∷ fs, s.Need)
behind k.Dot fs x = Ok (fs, s.Dot x)
behind k.Arrow fs x = Ok (fs, s.Arrow x)
behind kind fs x = at_postfix (postfix_of kind) fs x

-- a token after what is closed
abbrev pub act : Kind → List Frame → Operand → Outcome
act (k.Assign op) fs x = at_assign op fs x
act k.Question fs x = at_question fs x
act kind fs x = at_operator (binary_of kind) kind fs x

abbrev pub settled : Kind → List Frame × Operand → Outcome
settled kind r = fits r.1.height (act kind r.0 r.1)

-- A token belongs to a primary or postfix expression, and to no other operand.
abbrev pub tight : Kind → List Frame → Operand → Outcome
tight kind fs x = if nat_lt x.level 16 then wrong (settle 1 fs x) else fits x.height (behind kind fs x)

-- an operand was read
abbrev pub have : Kind → List Frame → Operand → Outcome
have kind fs x = if nat_lt 15 (power_of kind) then tight kind fs x else settled kind (settle (power_of kind) fs x)

abbrev pub empty_call : List Frame → Outcome
empty_call (f.Arguments a [] n ∷ fs) = Ok (fs, s.Have (call_node a [] 0))
empty_call _ = stuck

-- an operator before an operand
abbrev pub at_unary : Option Unary → ℕ → List Frame → Outcome
at_unary None l fs = stuck
at_unary (Some op) l fs = Ok (f.Unary l op ∷ fs, s.Need)

-- an operand is due
abbrev pub need : Bool → Symbol → List Frame → Kind → Outcome
need typed t fs k.Name = if typed then stuck else Ok (fs, s.Have (name_node t))
need typed t fs (k.Constant value) = Ok (fs, s.Have (constant_node t.line value))
need typed t fs (k.Text fits) = Ok (fs, s.Texts t.line (text_with (Some []) fits t.text))
need typed t fs k.LeftParen = Ok (fs, s.Opened t.line)
need typed t fs k.RightParen = empty_call fs
need typed t fs k.Sizeof = Ok (fs, s.Sized t.line)
need typed t fs kind = at_unary (unary_of kind) t.line fs

-- A type behind `(` and a name is that of `__offsetof`.
abbrev pub offset_type : Bool → Symbol → List Frame → Outcome
offset_type typed t (f.Arguments a [] n ∷ fs) = if nat_lt 17 a.level then words typed t (f.OffsetType a.line ∷ fs) (no_words t.line) t.kind else stuck
offset_type typed t _ = stuck

-- an operand is due, or the type of `__offsetof`
abbrev pub needed : Bool → Symbol → List Frame → Outcome
needed typed t fs = if begins_type typed t.kind then offset_type typed t fs else need typed t fs t.kind

-- a parenthesis was opened: a cast begins, or an expression
abbrev pub opened : Bool → Symbol → List Frame → ℕ → Outcome
opened typed t fs l = if begins_type typed t.kind then words typed t (f.CastType l ∷ fs) (no_words t.line) t.kind else need typed t (f.Paren l ∷ fs) t.kind

-- behind `sizeof`
abbrev pub sized : Bool → Symbol → List Frame → ℕ → Kind → Outcome
sized typed t fs l k.LeftParen = Ok (fs, s.SizedOpened l t.line)
sized typed t fs l kind = need typed t (f.SizeOf l ∷ fs) kind

abbrev pub sized_opened : Bool → Symbol → List Frame → ℕ → ℕ → Outcome
sized_opened typed t fs l h = if begins_type typed t.kind then words typed t (f.SizeType l ∷ fs) (no_words t.line) t.kind else need typed t (f.Paren h ∷ f.SizeOf l ∷ fs) t.kind

-- a further string, or what stands behind the strings
abbrev pub texts : Symbol → List Frame → ℕ → Option (List ℕ) → Kind → Outcome
texts t fs l text (k.Text fits) = Ok (fs, s.Texts l (text_with text fits t.text))
texts t fs l text kind = have kind fs (text_node l text)

abbrev pub dotted : List Frame → Operand → List ℕ → Kind → Outcome
dotted fs x text k.Name = Ok (fs, s.Have (member_node x text))
dotted fs x text _ = stuck

abbrev pub arrowed : List Frame → Operand → List ℕ → Kind → Outcome
arrowed fs x text k.Name = Ok (fs, s.Have (arrow_node x text))
arrowed fs x text _ = stuck

abbrev pub offset_comma : List Frame → ℕ → TypeName → List ℕ → Kind → Outcome
offset_comma fs l type text k.Name = Ok (fs, s.OffsetName l type text)
offset_comma fs l type text _ = stuck

abbrev pub offset_name : List Frame → ℕ → TypeName → List ℕ → Kind → Outcome
offset_name fs l type text k.RightParen = Ok (fs, s.Have (offset_node l type text))
offset_name fs l type text _ = stuck

-- behind `[` in a declarator
abbrev pub bracket : Bool → Symbol → List Frame → Direct → Kind → Outcome
bracket typed t fs d k.RightBracket = Ok (fs, s.Direct (with_step d (derived_by.Array None) []))
bracket typed t fs d kind = need typed t (f.Size d ∷ fs) kind

-- Whether parameters begin with the token, behind `(` with no name before it.
abbrev pub opens_parameters : Mode → Bool → Kind → Bool
opens_parameters mode.Named typed kind = false
opens_parameters mode.Abstract typed kind = begins_parameters typed kind
opens_parameters mode.Either typed kind = begins_parameters typed kind

-- a name in parentheses where none may stand
abbrev pub group_name : Mode → Bool
group_name mode.Abstract = true
group_name _ = false

abbrev pub in_group : Symbol → List Frame → Mode → Kind → Outcome
in_group t fs m k.Name = if group_name m then Err (no.LeftOut mark.OldStyle) else begin t k.Name fs m
in_group t fs m kind = begin t kind fs m

-- behind `(` in a declarator
abbrev pub group : Bool → Symbol → List Frame → Mode → ℕ → List Bool → Outcome
group typed t fs m l cs =
    if opens_parameters m typed t.kind then due typed t (f.Parameters no_direct [] ∷ f.Level m l cs ∷ fs) t.kind
    else in_group t (f.Level m l cs ∷ fs) m t.kind

-- A token that is left out is named where nothing goes on with it.
abbrev pub mark_of : Kind → Trouble → Trouble
mark_of (k.LeftOut which) no.Syntax = no.LeftOut which
mark_of kind trouble = trouble

abbrev pub marked : Kind → Outcome → Outcome
marked kind (Ok p) = Ok p
marked kind (Err trouble) = Err (mark_of kind trouble)

-- the token in this place; `typed` says whether it is the name of a type
abbrev pub place : Bool → Symbol → Place → Outcome
place typed t (fs, s.Need) = needed typed t fs
place typed t (fs, s.Opened l) = opened typed t fs l
place typed t (fs, s.Sized l) = sized typed t fs l t.kind
place typed t (fs, s.SizedOpened l h) = sized_opened typed t fs l h
place typed t (fs, s.Have x) = have t.kind fs x
place typed t (fs, s.Texts l text) = texts t fs l text t.kind
place typed t (fs, s.Dot x) = dotted fs x t.text t.kind
place typed t (fs, s.Arrow x) = arrowed fs x t.text t.kind
place typed t (fs, s.OffsetComma l type) = offset_comma fs l type t.text t.kind
place typed t (fs, s.OffsetName l type text) = offset_name fs l type text t.kind
place typed t (fs, s.Due) = due typed t fs t.kind
place typed t (fs, s.Words v) = words typed t fs v t.kind
place typed t (fs, s.Void l) = void typed t fs l t.kind
place typed t (fs, s.Struct v l union) = structure t fs v l union t.kind
place typed t (fs, s.StructTag v l union tag) = tagged_structure typed t fs v l union tag t.kind
place typed t (fs, s.Enum v l) = enumeration t fs v l t.kind
place typed t (fs, s.EnumTag v l tag) = tagged_enumeration typed t fs v l tag t.kind
place typed t (fs, s.Items) = items t fs t.kind
place typed t (fs, s.Item name) = item fs name t.kind
place typed t (fs, s.Begin m) = begin t t.kind fs m
place typed t (fs, s.Stars m l cs) = stars t t.kind fs l m cs
place typed t (fs, s.Group m l cs) = group typed t fs m l cs
place typed t (fs, s.Direct d) = suffixes t.kind fs d
place typed t (fs, s.Bracket d) = bracket typed t fs d t.kind
place _ t _ = stuck

-- Whether a list of parameters begins at the token, which has a scope of its own.
abbrev pub is_left_paren : Kind → Bool
is_left_paren k.LeftParen = true
is_left_paren _ = false

abbrev pub enters : Bool → Kind → State → Bool
enters typed kind (s.Direct d) = is_left_paren kind
enters typed kind (s.Group m l cs) = opens_parameters m typed kind
enters typed kind _ = false

-- the names in scope while the token is taken
abbrev pub entered : Bool → Names → Names
entered true names = enter names
entered false names = names

-- behind an item
abbrev pub item_behind : List Frame → Specifiers TypeWord → ℕ → Option (List ℕ) → List (Enumerator Expr) → Bool → Outcome
item_behind fs v l tag xs true = Ok (fs, s.Words (with_word v (word.Enum l tag xs)))
item_behind fs v l tag xs false = Ok (f.Enum v l tag xs ∷ fs, s.Items)

abbrev pub under : Names → Outcome → Result Config Trouble
under names (Ok p) = Ok (names, p)
under names (Err e) = Err e

-- the end of an item: its name is declared
abbrev pub item_ends : Names → List Frame → Enumerator Expr → Bool → Result Config Trouble
item_ends names (f.Enum v l tag xs ∷ fs) x closing = under (declare x.name false names) (item_behind fs v l tag (xs ++ x ∷ []) closing)
item_ends names _ x closing = Err no.Syntax

-- the end of parameters: their scope is left
abbrev pub parameters_end : Names → List Frame → Direct → Derivation → Result Config Trouble
parameters_end names fs d f = Ok (leave names, (fs, s.Direct (with_step d f (innermost names))))

abbrev pub all_parameters_end : Names → List Frame → Derivation → Result Config Trouble
all_parameters_end names (f.Parameters d ps ∷ fs) step = parameters_end names fs d step
all_parameters_end names _ step = Err no.Syntax

-- behind a parameter
abbrev pub parameter_behind : Names → List Frame → Direct → List Parameter → Bool → Result Config Trouble
parameter_behind names fs d ps true = parameters_end names fs d (derived_by.Prototype ps)
parameter_behind names fs d ps false = Ok (names, (f.Parameters d ps ∷ fs, s.Due))

-- the end of a parameter: its name is declared
abbrev pub parameter_ends : Names → List Frame → Specifiers TypeWord → Option Whole → Bool → Result Config Trouble
parameter_ends names (f.Parameters d ps ∷ fs) v x closing =
    if nat_lt (length ps) 31 then parameter_behind (declare_in x names) fs d (ps ++ parameter_of v (declarator_in x) ∷ []) closing else Err (no.Limit limit.Arguments)
parameter_ends names _ v x closing = Err no.Syntax

-- What the token declares or ends comes into effect.
abbrev pub effect : Names → Place → Result Config Trouble
effect names (fs, s.ItemEnd x closing) = item_ends names fs x closing
effect names (fs, s.ParameterEnd v x closing) = parameter_ends names fs v x closing
effect names (fs, s.ParametersEnd step) = all_parameters_end names fs step
effect names p = Ok (names, p)

abbrev pub step_typed : Bool → Symbol → Config → Result Config Trouble
step_typed typed t (names, p) = on_ok (effect (entered (enters typed t.kind p.1) names)) (marked t.kind (place typed t p))

-- One token. Where an expression, specifiers or a declarator end before it, the state says so, and the token is not taken.
abbrev pub step : Symbol → Config → Result Config Trouble
step t c = step_typed (is_typed c.0 t) t c

-- the steps for all of the tokens
abbrev pub run : Config → List Symbol → Result Config Trouble
run c [] = Ok c
run c (t ∷ ts) = on_ok (λ d. run d ts) (step t c)
