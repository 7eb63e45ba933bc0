-- Inside: plumbing, a representation, an invariant or a promise beside the claim (docs/TRUST.md).
-- What a checked module is: what an interpreter and a code generator may rest on.
use Rattle.std.specs.Prelude.{Bool, true, false, ◌&&◌, if◌then◌else◌, List, [], ◌∷◌, map, Option, Some, None, is_some, is_none}
use Rattle.std.specs.Str.{bytes_eq}
use Rattle.sc_base.specs.declared.key.Key.{Key}
use Rattle.sc_types.specs.declared.ctype.CType.{CType, out-CType}
use Rattle.sc_types.specs.declared.ctype.CType.TheOpen.{CType-F}
use Rattle.sc_types.specs.declared.ctype.Signature.{Signature}
use Rattle.sc_types.specs.declared.ctype.StructDef.{StructDef}
use Rattle.sc_types.specs.Compatibility.{same_bool}
use Rattle.sc_core.specs.declared.module.Core.{Core}
use Rattle.sc_core.specs.declared.module.Declared.{Declared}
use Rattle.sc_core.specs.declared.module.Fun.{Fun}
use Rattle.sc_check_operand.specs.Types.{Level, is_function}
use Rattle.sc_core_needs.specs.Types.{same, alike}
use Rattle.sc_core_formed.specs.Names.{key_eq, declared_as, object_as, function_as, distinct}
use Rattle.sc_core_formed.specs.Known.{is_known, table_known}
use Rattle.sc_core_formed.specs.Frames.{functions}
use Rattle.sc_core_formed.specs.Contents.{is_home, objects, literals_end, are_born}

-- a key without module has external linkage
abbrev pub is_function_of : Key → Option Fun → Bool
is_function_of key None = false
is_function_of key (Some f) = same_bool f.external (is_none key.«module»)

-- a name is declared as defined just where the module has its body or its contents
abbrev pub is_defined : Core → Declared → Bool
is_defined core d = if is_function d.of then is_function_of d.key (function_as d.key.name core.funs) else is_some (object_as d.key core.objects)

abbrev pub is_declaration : Core → Declared → Bool
is_declaration core d = is_known core.structs d.of && is_home core d.key && same_bool d.defined (is_defined core d)

abbrev pub declarations : Core → List Declared → Bool
declarations core [] = true
declarations core (d ∷ ds) = is_declaration core d && declarations core ds

abbrev pub key_of : Core → Fun → Key
key_of core f = record { «module» = (if f.external then None else Some core.name); name = f.name }

abbrev pub parameters : List StructDef → List CType → List CType → Bool
parameters structs [] [] = true
parameters structs (p ∷ ps) (q ∷ qs) = alike structs p q && parameters structs ps qs
parameters structs _ _ = false

abbrev pub signature : List StructDef → Signature → Signature → Bool
signature structs f g = same_bool f.variadic g.variadic && same structs f.result g.result && parameters structs f.params g.params

abbrev pub is_of_level : List StructDef → Signature → Level → Bool
is_of_level structs f (CType-F.Function g) = signature structs f g
is_of_level structs f _ = false

abbrev pub is_body_of : List StructDef → Fun → Option Declared → Bool
is_body_of structs f None = false
is_body_of structs f (Some d) = is_of_level structs f.of (out-CType d.of)

abbrev pub is_body : Core → Fun → Bool
is_body core f = is_body_of core.structs f (declared_as (key_of core f) core.declared)

abbrev pub bodies : Core → List Fun → Bool
bodies core [] = true
bodies core (f ∷ fs) = is_body core f && bodies core fs

-- Each function is declared, each object and literal is born once, each name is defined as it says, and all keep their laws.
abbrev pub is_lawful : Core → Bool
is_lawful core =
    table_known core.structs core.structs && bodies core core.funs && are_born core && functions core core.funs
    && (declarations core core.declared && objects core core.objects && literals_end core.literals)

-- literals, functions, objects and names with linkage stand for one thing each
abbrev pub with_literals : Core → Bool
with_literals core = distinct bytes_eq core.literals && is_lawful core

abbrev pub with_functions : Core → Bool
with_functions core = distinct bytes_eq (map (λ f. f.name) core.funs) && with_literals core

abbrev pub with_objects : Core → Bool
with_objects core = distinct key_eq (map (λ x. x.key) core.objects) && with_functions core

-- A formed module.
abbrev pub formed : Core → Bool
formed core = distinct key_eq (map (λ d. d.key) core.declared) && with_objects core
