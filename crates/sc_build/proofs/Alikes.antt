-- Both objects of a module have the same data and frames alike.
use Rattle.std.proofs.Common.{◌≡◌, ℕ, suc, List, [], ◌∷◌, ◌++◌, drop, length, map, refl, ap, sym, subst}
use Rattle.sc_core.specs.declared.module.Core.{Core}
use Rattle.sc_core.specs.declared.module.Fun.{Fun}
use Rattle.sc_gen.specs.Blocks.{block_lines, block_tables}
use Rattle.sc_gen.specs.Limits.{IsObject, plain_code}
use Rattle.sc_gen.specs.Objects.{frame_of, object_of, targets}
use Rattle.sc_gen.specs.Sections.{function_section, literal_sections, object_section}
use Rattle.sc_gen_code.specs.Code.{Code}
use Rattle.sc_gen_code.specs.declared.symbolic.Target.{Target}
use Rattle.sc_object.specs.declared.object.FrameTable.{FrameTable}
use Rattle.sc_object.specs.declared.object.Object.{Object}
use Rattle.sc_object.specs.declared.object.Section.{Section}
use Rattle.sc_opt.specs.Fast.{fast_code}
use Rattle.sc_build.specs.Alike.{AreAlike}

module _ (code other : Fun → Code) where
  same_count : (fs : List Fun) (xs ys : List Section) → length ((map (function_section code) fs ++ xs) ++ ys) ≡ length ((map (function_section other) fs ++ xs) ++ ys)
  same_count [] xs ys = refl
  same_count (f ∷ fs) xs ys = ap suc (same_count fs xs ys)

  same_contents : (fs : List Fun) (xs ys : List Section) → drop (length fs) ((map (function_section code) fs ++ xs) ++ ys) ≡ drop (length fs) ((map (function_section other) fs ++ xs) ++ ys)
  same_contents [] xs ys = refl
  same_contents (f ∷ fs) xs ys = same_contents fs xs ys

module _ (name : List ℕ) (s t : List Target) where
  same_costs : (fs : List Fun) → map (λ (x : FrameTable). x.cost) (map (frame_of name s) fs) ≡ map (λ (x : FrameTable). x.cost) (map (frame_of name t) fs)
  same_costs [] = refl
  same_costs (f ∷ fs) = ap (λ cs. f.cost ∷ cs) (same_costs fs)

  same_blocks : (fs : List Fun) → map (λ (x : FrameTable). x.blocks) (map (frame_of name s) fs) ≡ map (λ (x : FrameTable). x.blocks) (map (frame_of name t) fs)
  same_blocks [] = refl
  same_blocks (f ∷ fs) = ap (λ bs. block_tables (block_lines f) 0 f.blocks ∷ bs) (same_blocks fs)

alike : (core : Core) → AreAlike core (object_of plain_code core) (object_of fast_code core)
alike core = record {
  counts = same_count plain_code fast_code core.funs (map object_section core.objects) (literal_sections 0 core.literals);
  contents = same_contents plain_code fast_code core.funs (map object_section core.objects) (literal_sections 0 core.literals);
  costs_are = same_costs core.name (targets plain_code core) (targets fast_code core) core.funs;
  blocks_are = same_blocks core.name (targets plain_code core) (targets fast_code core) core.funs;
}

pub both_alike : (core : Core) (o p : Object) → IsObject plain_code core o → IsObject fast_code core p → AreAlike core o p
both_alike core o p plain fast =
    subst (λ x. AreAlike core x p) (sym plain.object_is) (subst (λ y. AreAlike core (object_of plain_code core) y) (sym fast.object_is) (alike core))
