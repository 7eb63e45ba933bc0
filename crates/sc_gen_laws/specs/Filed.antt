-- Inside: plumbing, a representation, an invariant or a promise beside the claim (docs/TRUST.md).
-- What the types of the program keep of a module and of its object, by the code that a compiler gives to each function: names have no zero byte, and numbers are below 2^32.
use Rattle.std.specs.Prelude.{◌≡◌, Bool, true, ◌&&◌, length, sum_by}
use Rattle.std.specs.List.{list_all}
use Rattle.sc_core.specs.declared.module.Core.{Core}
use Rattle.sc_core.specs.declared.module.Fun.{Fun}
use Rattle.sc_core.specs.declared.module.Init.{Init}
use Rattle.sc_core.specs.declared.module.Init.TheVariants as init
use Rattle.sc_core.specs.declared.module.StaticObj.{StaticObj}
use Rattle.sc_object.specs.declared.object.FrameTable.{FrameTable}
use Rattle.sc_object.specs.Spelling.{spelled_as}
use Rattle.sc_object.specs.Reading.{is_name, is_word, is_block, fits}
use Rattle.sc_gen_code.specs.Code.{Code}
use Rattle.sc_gen_code.specs.declared.symbolic.Target.{Target}
use Rattle.sc_gen_code.specs.declared.symbolic.Target.TheVariants.{Named, Literal}
use Rattle.sc_gen.specs.Sections.{init_size}
use Rattle.sc_gen.specs.Blocks.{frame_table}
use Rattle.sc_gen.specs.Objects.{object_of, targets}

abbrev pub target_fits : Target → Bool
target_fits (Named key) = is_name key.name
target_fits (Literal n) = is_word n

abbrev pub init_fits : Init → Bool
init_fits (init.Byte b) = true
init_fits (init.Zeros n) = true
init_fits (init.Address what n) = is_word n

abbrev pub object_fits : StaticObj → Bool
object_fits x = is_name x.key.name && (is_word (sum_by init_size x.init) && list_all init_fits x.init)

abbrev pub table_fits : FrameTable → Bool
table_fits t = is_word t.cost && (is_word (length t.blocks) && list_all (is_block 2) t.blocks)

abbrev pub function_fits : Fun → Bool
function_fits f = is_name f.name && table_fits (frame_table 0 f)

pub record IsKept (code : Fun → Code) (core : Core) : Type 0 where
  pub functions_fit : list_all function_fits core.funs ≡ true
  pub objects_fit : list_all object_fits core.objects ≡ true
  pub literals_fit : list_all (λ bytes. is_word (length bytes)) core.literals ≡ true
  pub targets_fit : list_all target_fits (targets code core) ≡ true
  pub counts_fit : fits (object_of code core) (length (spelled_as 2 (object_of code core))) ≡ true
