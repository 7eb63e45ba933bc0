-- Inside: plumbing, a representation, an invariant or a promise beside the claim (docs/TRUST.md).
-- What is left of a body's execution, as the meaning of what is pending.
use Rattle.std.specs.Prelude.{◌≡◌, ℕ, ◌≤◌, List, [], ◌∷◌, drop, None}
use Rattle.sc_types.specs.declared.ctype.CType.{CType}
use Rattle.sc_core.specs.declared.statement.AutoInit.{AutoInit}
use Rattle.sc_meaning.specs.Values.{Value, scalar_size}
use Rattle.sc_meaning.specs.World.{World, pass, Work, tick}
use Rattle.sc_meaning.specs.Outcomes.{Outcome, Done, Over, and_then}
use Rattle.sc_meaning.specs.Violations.{bits}
use Rattle.sc_meaning.specs.Accesses.{tested, set_at}
use Rattle.sc_meaning.specs.Versions.{History}
use Rattle.sc_meaning.specs.Changes.{reached}
use Rattle.sc_meaning.specs.Expressions.{Env, Answer, Plain, Eval as Evals, used, either}
use Rattle.sc_meaning.specs.Statements.{Way, Normal, Returned, Exec as Execs, Resume, ended, after_list, after_stmt, stmts_of, block_ended, initial_structure, initials, condition_at, optional, label_of, landed, after_switch, after_turn, discarded_if}
use Rattle.sc_meaning.specs.Calls.{eval, exec, turn, resume, call}
use Rattle.sc_interp_machine.specs.Means as expr
use Rattle.sc_interp_machine.specs.Bodies.{Advanced, GoesOn, Lines, CallsOut, Leaves, Breaks, without_blocks, first_ids}
use Rattle.sc_interp_machine.specs.declared.body.Use.{Use}
use Rattle.sc_interp_machine.specs.declared.body.Use.TheVariants.{Discard, Turns, Return, If, While, Repeat, For, Switch, Set, Copy}
use Rattle.sc_interp_machine.specs.declared.body.Pending.{Pending}
use Rattle.sc_interp_machine.specs.declared.body.Pending.TheVariants.{End, Rest, EndBlock, EndSwitch, Again, Check, Third}
use Rattle.sc_interp_machine.specs.declared.body.Doing.{Doing}
use Rattle.sc_interp_machine.specs.declared.body.Doing.TheVariants.{Within, Exec, Turn, Leave, Pieces, Labels}

-- what is done with the answer of a whole expression, by the meaning of the parts
abbrev pub tests_of : CType → Answer → (World → Outcome Way) → (World → Outcome Way) → World → Outcome Way
tests_of t a f g w = and_then (used a w) (λ v w. and_then (tested t v w) (λ yes w. either yes f g w))

abbrev pub pieces_of : Evals → Env → Value → List AutoInit → World → Outcome Way
pieces_of eval env p is w = and_then (initials eval env p is w) (λ _ w. Done Normal (tick w))

abbrev pub use_of : Evals → Execs → Execs → Resume → Env → Use → Answer → World → Outcome Way
use_of eval exec turn again env Discard a w = ended Normal w
use_of eval exec turn again env (Turns s) a w = turn env s w
use_of eval exec turn again env Return a w = and_then (used a w) (λ v w. ended (Returned (Plain v)) w)
use_of eval exec turn again env (If t q r) a w =
    and_then (used a w) (λ v w. and_then (tested t v w) (λ yes w. and_then (either yes (exec env q) (optional exec env r) w) ended))
use_of eval exec turn again env (While t s q) a w = tests_of t a (λ w. and_then (exec env q w) (λ way w. after_turn way (turn env s) w)) (ended Normal) w
use_of eval exec turn again env (Repeat t s) a w = tests_of t a (turn env s) (ended Normal) w
use_of eval exec turn again env (For t s x q) a w =
    tests_of t a (λ w. and_then (exec env q w) (λ way w. after_turn way (λ w. and_then (discarded_if eval env x w) (λ _ w. turn env s w)) w)) (ended Normal) w
use_of eval exec turn again env (Switch labels s) a w =
    and_then (used a w) (λ v w. and_then (label_of labels (bits v) None w) (λ at w. and_then (landed exec again env s at w) after_switch))
use_of eval exec turn again env (Set p at t is) a w =
    and_then (used a w) (λ v w. pieces_of eval env p is (pass (Work (scalar_size t)) (set_at p at (scalar_size t) v w)))
use_of eval exec turn again env (Copy p size is) a w = and_then (initial_structure p size a w) (λ _ w. pieces_of eval env p is w)

-- what is done with the way in which an inner statement is left
abbrev pub item_of : History → Evals → Execs → Execs → Resume → Env → Pending → Way → World → Outcome Way
item_of h eval exec turn again env End way w = ended way w
item_of h eval exec turn again env (Rest s qs) way w = and_then (after_stmt way (stmts_of exec env qs) w) (after_list again env s)
item_of h eval exec turn again env (EndBlock k) way w = block_ended (first_ids (drop k env.blocks)) way w
item_of h eval exec turn again env EndSwitch way w = after_switch way w
item_of h eval exec turn again env (Again s) way w = after_turn way (turn env s) w
item_of h eval exec turn again env (Check l e s) way w =
    after_turn way (λ w. and_then (condition_at h eval env l e w) (λ yes w. either yes (turn env s) (ended Normal) w)) w
item_of h eval exec turn again env (Third x s) way w = after_turn way (λ w. and_then (discarded_if eval env x w) (λ _ w. turn env s w)) w

abbrev pub env_after : Pending → Env → Env
env_after (EndBlock k) env = without_blocks k env
env_after _ env = env

-- out is what comes of r, where each pending statement goes at least n deep
abbrev pub After : History → ℕ → List Pending → Env → Outcome Way → Outcome Way → Type 0
After h n [] env r out = r ≡ out
After h n (i ∷ ss) env r out =
    (m : ℕ) × (n ≤ m) × After h n ss (env_after i env) (and_then r (item_of h (eval m h) (exec m h) (turn m h) (resume m h) env i)) out

abbrev pub AfterUse : History → ℕ → Use → List Pending → Env → Outcome Answer → Outcome Way → Type 0
AfterUse h n u ss env r out = (m : ℕ) × (n ≤ m) × After h n ss env (and_then r (use_of (eval m h) (exec m h) (turn m h) (resume m h) env u)) out

-- out is what the whole body gives from here, where what is still done goes at least n deep
abbrev pub Means : History → ℕ → Doing → List Pending → Env → World → Outcome Way → Type 0
Means h n (Within mode is u) ss env w out = (r : Outcome Answer) × expr.Means h env n mode is w r × AfterUse h n u ss env r out
Means h n (Exec s) ss env w out = (m : ℕ) × (n ≤ m) × After h n ss env (exec m h env s w) out
Means h n (Turn s) ss env w out = (m : ℕ) × (n ≤ m) × After h n ss env (turn m h env s w) out
Means h n (Leave way) ss env w out = After h n ss env (Done way w) out
Means h n (Pieces p is) ss env w out = (m : ℕ) × (n ≤ m) × After h n ss env (pieces_of (eval m h) env p is w) out
Means h n (Labels ls k default s) ss env w out =
    (m : ℕ) × (n ≤ m) × After h n ss env (and_then (label_of ls k default w) (λ at w. and_then (landed (exec m h) (resume m h) env s at w) after_switch)) out

-- what goes on as a line's event and the changes behind it are made, unless the run ends there
abbrev pub Reached : History → ℕ → Outcome (Unit {0}) → Doing → List Pending → Env → Outcome Way → Type 0
Reached h n (Done _ w) mode ss env out = Means h n mode ss env w out
Reached h n (Over e) mode ss env out = Over e ≡ out

-- the same of what a step left
abbrev pub Comes : History → ℕ → Advanced → Outcome Way → Type 0
Comes h n (GoesOn mode ss env w) out = Means h n mode ss env w out
Comes h n (Lines l mode ss env w) out = Reached h n (reached h l w) mode ss env out
Comes h n (CallsOut t v vs is u ss env w) out =
    (r : Outcome Answer) × ((m : ℕ) × (n ≤ m) × expr.After h env n is (expr.made h (call m h) env.text t v vs w) r) × AfterUse h n u ss env r out
Comes h n (Leaves way w) out = Done way w ≡ out
Comes h n (Breaks e) out = Over e ≡ out
