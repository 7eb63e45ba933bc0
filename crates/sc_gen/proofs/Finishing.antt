-- The object of a module from the texts of its functions.
use Rattle.std.proofs.Common.{◌≡◌, ◌<◌, ◌≤◌, ℕ, List, ◌++◌, length, map, Result, Ok, Err, sym, ap, subst, ◌∙◌, append_assoc}
use Rattle.std.specs.Prelude.{IfOk, IfErr}
use Rattle.sc_core.specs.declared.module.Core.{Core}
use Rattle.sc_core.specs.declared.module.Fun.{Fun}
use Rattle.sc_object.specs.declared.object.Object.{Object}
use Rattle.sc_object.specs.declared.object.Section.{Section}
use Rattle.sc_object.specs.Spelling.{spelled}
use Rattle.sc_gen_code.specs.Code.{Code}
use Rattle.sc_gen.specs.declared.definitions.Definition.{Definition}
use Rattle.sc_gen.specs.declared.module.Compiled.{Compiled}
use Rattle.sc_gen.specs.declared.module.GenFault.{GenFault}
use Rattle.sc_gen.specs.declared.module.GenFault.TheVariants as fault
use Rattle.sc_gen.specs.declared.module.Making.{Making}
use Rattle.sc_gen.specs.Sections.{function_section, object_section, literal_sections, data_sections, sections}
use Rattle.sc_gen.specs.Definitions.{function_definition, object_definition, literal_definitions, data_definitions, definitions}
use Rattle.sc_gen.specs.Objects.{object_by, object_of}
use Rattle.sc_gen.specs.Limits.{IsFiled, IsFileFault, IsCompiled, IsFirstLong, IsFault}
use Rattle.sc_gen.specs.Making.{HasTexts, object_with}

-- the object of which these are the texts is that of the module
pub object_is : (code : Fun → Code) (core : Core) (texts : Making) → HasTexts code core texts → object_with core texts ≡ object_of code core
object_is code core texts h =
    let fs = map (function_section code) core.funs in
    let gs = map (function_definition code core.name) core.funs in
    let ss : texts.sections ++ data_sections core ≡ sections code core =
    ap (λ (l : List Section). l ++ data_sections core) h.sections_are ∙ sym (append_assoc fs (map object_section core.objects) (literal_sections 0 core.literals)) in
    let ds : texts.definitions ++ data_definitions core ≡ definitions code core =
    ap (λ (l : List Definition). l ++ data_definitions core) h.definitions_are
    ∙ sym (append_assoc gs (map (object_definition core.literals) core.objects) (literal_definitions 0 core.literals)) in
    ap (λ (l : List Section). object_by core l (texts.definitions ++ data_definitions core)) ss ∙ ap (object_by core (sections code core)) ds

pub compiled_is : (code : Fun → Code) (core : Core) (texts : Making) (r : Result Compiled GenFault) → HasTexts code core texts → IfOk r (IsFiled (object_with core texts)) →
    IfOk r (IsCompiled code core)
compiled_is code core texts (Ok c) h p =
    let o = object_is code core texts h in
    record {
      is_object = record { object_is = p.object_is ∙ o; short = h.short; small = subst (λ (x : Object). length (spelled x) ≤ 8388608) o p.small };
      file_is = p.file_is ∙ ap spelled o;
    }
compiled_is code core texts (Err f) h p = tt

pub fault_is : (code : Fun → Code) (core : Core) (texts : Making) (r : Result Compiled GenFault) → HasTexts code core texts → IfErr r (IsFileFault (object_with core texts)) →
    IfErr r (IsFault code core)
fault_is code core texts (Ok c) h p = tt
fault_is code core texts (Err (fault.Text name)) h p = absurd p
fault_is code core texts (Err fault.Object) h p = (h.short, subst (λ (x : Object). 8388608 < length (spelled x)) (object_is code core texts h) p)
fault_is code core texts (Err fault.NoMemory) h p = tt

-- a fault of the texts is one of the module
pub text_fault : (code : Fun → Code) (core : Core) (f : GenFault) → IsFirstLong code core.funs f → IsFault code core f
text_fault code core (fault.Text name) p = p
text_fault code core fault.Object p = absurd p
text_fault code core fault.NoMemory p = tt
