-- A module that is planned may join the list.
use Rattle.std.proofs.Common.{ℕ, ◌+◌, ◌≤◌, Bool, List, [], ◌++◌, length, map, refl, sym, Option, Some, subst, arith}
use Rattle.sc_base.specs.declared.key.Key.{Key}
use Rattle.sc_base.specs.declared.memory.Form.{Form}
use Rattle.sc_link.specs.declared.placed.Placed.{Placed}
use Rattle.sc_link.specs.Entries.{literals_in}
use Rattle.sc_incr.specs.declared.module.Module.{Module}
use Rattle.sc_incr.specs.declared.planning.Plan.{Plan}
use Rattle.sc_incr.specs.Leaving.{IsAt}
use Rattle.sc_incr.specs.Modules.{chosen, in_form, new_functions, placed_behind}
use Rattle.sc_incr.specs.Plans.{IsForm, IsPlan}
use Rattle.sc_incr.specs.Program.{left, left_of}
use Rattle.sc_incr.specs.Settled.{Agrees, IsSettled, Joins, KeepsLiterals}
use Rattle.sc_incr.specs.Sound.{IsSound}
use Rattle.sc_incr.proofs.Behind.{joins-behind}
use Rattle.sc_incr.proofs.Dropping.{entry-of}
use Rattle.sc_incr.proofs.Replacing.{keeps-own, literals-at, literals-left, settled-at, settled-left, texts-at, texts-left}

pub joins-plan : (keep : Bool) (es : List Placed) (funs : List Key) (m : Module) (kept : List (Option ℕ)) (p : Plan) → IsSettled es funs → IsPlan es funs m kept p → IsSound (chosen m) → Agrees (left keep m.name es) funs (placed_behind es m kept) (new_functions funs m.functions) → KeepsLiterals (literals_in es) (placed_behind es m kept) kept → Joins (left keep m.name es) funs p.placed p.functions.items
joins-plan keep es funs m kept p s plan sound agrees keeps =
    subst (λ e. Joins (left keep m.name es) funs e p.functions.items) (sym plan.placed)
    (subst (λ ks. Joins (left keep m.name es) funs (placed_behind es m kept) ks) (sym plan.functions)
    (joins-behind es (left keep m.name es) funs (placed_behind es m kept) (new_functions funs m.functions) kept s (settled-left keep m.name es funs s) (texts-left keep m.name es) (literals-left keep m.name es) agrees (subst (λ ks. length funs + length ks ≤ 65536) plan.functions plan.few) sound keeps refl plan.fits.texts plan.fits.statics))

pub joins-form : (keep : Bool) (es : List Placed) (n : ℕ) (a : IsAt es n) (funs : List Key) (form : Form) (p : Placed) → IsSettled es funs → IsForm es form a.entry p → IsSound a.entry.object → Agrees (a.front ++ (left_of keep a.entry ++ a.back)) funs (in_form es form a.entry) [] → Joins (a.front ++ (left_of keep a.entry ++ a.back)) funs p []
joins-form keep es n a funs form p s f sound agrees =
    subst (λ e. Joins (a.front ++ (left_of keep a.entry ++ a.back)) funs e []) (sym f.placed)
    (joins-behind es (a.front ++ (left_of keep a.entry ++ a.back)) funs (in_form es form a.entry) [] (map Some a.entry.places) s (settled-at es n a keep funs s) (texts-at es n a keep) (literals-at es n a keep) agrees (let l = s.few in omega arith) sound (keeps-own es form a.entry (n, entry-of es n a)) refl f.fits.texts f.fits.statics)
