-- What a statement with a label, and a `goto`, are among statements.
use Rattle.std.proofs.Common.{◌≡◌, ℕ, List, sym, ◌∙◌, ap, subst}
use Rattle.std.specs.Prelude.{Result, Ok, Err}
use Rattle.sc_tree.specs.declared.statement.Statement.{Statement, fold_out-Statement, map-Statement}
use Rattle.sc_tree.specs.declared.statement.Statement.TheVariants as st
use Rattle.sc_tree.specs.declared.statement.Statement.TheOpen.{Statement-F}
use Rattle.sc_core.specs.declared.statement.CoreStmt.{CoreStmt}
use Rattle.sc_core.specs.declared.statement.CoreStmt.TheVariants as s
use Rattle.sc_check_labels.specs.Jumps.{goto}
use Rattle.sc_check_body.specs.declared.fault.UnitFault.{UnitFault}
use Rattle.sc_check_body.specs.declared.fault.UnitFault.TheVariants as fault
use Rattle.sc_check_body.specs.declared.progress.Around.{Around}
use Rattle.sc_check_body.specs.declared.progress.Body.{Body}
use Rattle.sc_check_body.specs.declared.progress.Translation.{Translation}
use Rattle.sc_check_body.specs.Faults.{Checked, GivesWith, and_then}
use Rattle.sc_check_body.specs.Blocks.{Place, Standing, standing, in_statement, label_statement, goto_statement}

labelled : (l : ℕ) (n : List ℕ) (a : Statement) → standing (st.Label l n a) ≡ in_statement (Statement-F.Label l n (standing a))
labelled l n a =
    fold_out-Statement Standing in_statement (st.Label l n a)
    ∙ ap (λ (v : Statement-F Statement). in_statement (map-Statement Statement Standing standing v)) (st.outs-Label l n a)

pub typed_label : (x : Statement) (l : ℕ) (n : List ℕ) (a b : Statement) (w : Place) (r : Result CoreStmt UnitFault) (new : Place) (around : Around)
    → x ≡ st.Label l n a → b ≡ a → GivesWith (label_statement l n (standing b) around w) r new → GivesWith ((standing x).typed around w) r new
typed_label x l n a b w r new around is same h =
    let p : label_statement l n (standing b) around w ≡ (standing x).typed around w =
    ap (λ (y : Statement). label_statement l n (standing y) around w) same
    ∙ sym (ap (λ (y : Standing). y.typed around w) (ap standing is ∙ labelled l n a)) in
    subst (λ (o : Checked (CoreStmt × Place)). GivesWith o r new) p h

going : (l : ℕ) (n : List ℕ) → standing (st.Goto l n) ≡ in_statement (Statement-F.Goto l n)
going l n =
    fold_out-Statement Standing in_statement (st.Goto l n)
    ∙ ap (λ (v : Statement-F Statement). in_statement (map-Statement Statement Standing standing v)) (st.outs-Goto l n)

-- what changes the body alone, in the unit
raised : (g : CoreStmt) (f : Body) (m : Translation) (r : Result CoreStmt UnitFault) (new : Body) → GivesWith {S = Body} (Ok (g, f)) r new → GivesWith {S = Place} (Ok (g, (m, f))) r (m, new)
raised g f m (Ok a) new h = ap (λ (o : Checked (CoreStmt × Body)). and_then o (λ p. Ok (p.0, (m, p.1)))) h
raised g f m (Err (fault.Found x)) new h = ap (λ (o : Checked (CoreStmt × Body)). and_then o (λ p. Ok (p.0, (m, p.1)))) h
raised g f m (Err fault.NoMemory) new h = tt

pub typed_goto : (x : Statement) (l : ℕ) (n : List ℕ) (m : Translation) (f : Body) (r : Result CoreStmt UnitFault) (new : Body) (around : Around)
    → x ≡ st.Goto l n → GivesWith (Ok (s.Goto l (goto l n f.labels).0, record f { labels = (goto l n f.labels).1 })) r new
    → GivesWith ((standing x).typed around (m, f)) r (m, new)
typed_goto x l n m f r new around is h =
    let p : goto_statement l n (m, f) ≡ (standing x).typed around (m, f) =
    sym (ap (λ (y : Standing). y.typed around (m, f)) (ap standing is ∙ going l n)) in
    subst (λ (o : Checked (CoreStmt × Place)). GivesWith o r (m, new)) p
    (raised (s.Goto l (goto l n f.labels).0) (record f { labels = (goto l n f.labels).1 }) m r new h)
