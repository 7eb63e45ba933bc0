-- What a block among statements is.
use Rattle.std.proofs.Common.{◌≡◌, ℕ, Bool, true, false, List, map, sym, ◌∙◌, ap, subst}
use Rattle.std.specs.Prelude.{Result}
use Rattle.sc_tree.specs.declared.declaration.Declaration.{Declaration}
use Rattle.sc_tree.specs.declared.statement.Statement.{Statement, fold_out-Statement, map-Statement}
use Rattle.sc_tree.specs.declared.statement.Statement.TheVariants as st
use Rattle.sc_tree.specs.declared.statement.Statement.TheOpen.{Statement-F}
use Rattle.sc_core.specs.declared.statement.CoreStmt.{CoreStmt}
use Rattle.sc_check_body.specs.declared.fault.UnitFault.{UnitFault}
use Rattle.sc_check_body.specs.declared.progress.Around.{Around}
use Rattle.sc_check_body.specs.Faults.{Checked, GivesWith}
use Rattle.sc_check_body.specs.Progress.{part}
use Rattle.sc_check_body.specs.Blocks.{Place, Standing, standing, in_statement, inner_block}

abbrev opened : ℕ → List Declaration → List Statement → Standing
opened l ds xs = in_statement (Statement-F.Block l ds (map standing xs))

blocked : (l : ℕ) (ds : List Declaration) (xs : List Statement) → standing (st.Block l ds xs) ≡ opened l ds xs
blocked l ds xs =
    fold_out-Statement Standing in_statement (st.Block l ds xs)
    ∙ ap (λ (v : Statement-F Statement). in_statement (map-Statement Statement Standing standing v)) (st.outs-Block l ds xs)

module _ (x : Statement) (l : ℕ) (ds given : List Declaration) (xs list : List Statement) (w : Place) (r : Result CoreStmt UnitFault) (new : Place)
    (is : x ≡ st.Block l ds xs) (same_list : list ≡ xs) (same_given : given ≡ ds) where
  is_block : standing x ≡ opened l ds xs
  is_block = ap standing is ∙ blocked l ds xs

  same_parts : (b : Bool) (around : Around) → inner_block around b l (map standing list) given w ≡ inner_block around b l (map standing xs) ds w
  same_parts b around =
      ap (λ (ys : List Statement). inner_block around b l (map standing ys) given w) same_list
      ∙ ap (λ (es : List Declaration). inner_block around b l (map standing xs) es w) same_given

  -- as a statement
  pub typed_block : (around inside : Around) → inside ≡ part around → GivesWith (inner_block inside false l (map standing list) given w) r new
      → GivesWith ((standing x).typed around w) r new
  typed_block around inside there h =
      let p : inner_block inside false l (map standing list) given w ≡ (standing x).typed around w =
      ap (λ (i : Around). inner_block i false l (map standing list) given w) there
      ∙ same_parts false (part around)
      ∙ sym (ap (λ (y : Standing). y.typed around w) is_block) in
      subst (λ (o : Checked (CoreStmt × Place)). GivesWith o r new) p h

  -- as the body of a `switch`
  pub switch_block : (around : Around) → GivesWith (inner_block around true l (map standing list) given w) r new → GivesWith ((standing x).as_body around w) r new
  switch_block around h =
      let p : inner_block around true l (map standing list) given w ≡ (standing x).as_body around w =
      same_parts true around ∙ sym (ap (λ (y : Standing). y.as_body around w) is_block) in
      subst (λ (o : Checked (CoreStmt × Place)). GivesWith o r new) p h
