-- Inside: plumbing, a representation, an invariant or a promise beside the claim (docs/TRUST.md).
-- Steps are paid by work: a unit of work pays four steps. What a state has been paid for and did not do yet is its credit.
use Rattle.std.specs.Prelude.{◌≡◌, ℕ, zero, suc, ◌+◌, ◌*◌, ◌≤◌, nat_lt, Bool, true, false, ◌||◌, if◌then◌else◌, List, [], ◌∷◌, Option, Some, None}
use Rattle.sc_core.specs.declared.expression.CoreExpr.{CoreExpr, out-CoreExpr}
use Rattle.sc_core.specs.declared.expression.CoreExpr.TheOpen.{CoreExpr-F}
use Rattle.sc_core.specs.declared.statement.AutoInit.{AutoInit}
use Rattle.sc_core.specs.declared.statement.AutoInit.TheVariants as piece
use Rattle.sc_core.specs.declared.statement.SwitchLabel.{SwitchLabel}
use Rattle.sc_meaning.specs.World.{World, work}
use Rattle.sc_meaning.specs.Outcomes.{world_at}
use Rattle.sc_meaning.specs.Versions.{History}
use Rattle.sc_meaning.specs.Statements.{Way, Jumped}
use Rattle.sc_interp_laws.specs.Worlds.{world_of}
use Rattle.sc_interp_machine.specs.Machine as expr
use Rattle.sc_interp_machine.specs.Bodies as body
use Rattle.sc_interp_machine.specs.Runs.{Caller, State, Runs, Makes, Answers, Ends, advance}
use Rattle.sc_interp_machine.specs.declared.pending.Single.{Single}
use Rattle.sc_interp_machine.specs.declared.pending.Single.TheVariants.{Convert}
use Rattle.sc_interp_machine.specs.declared.pending.Item.{Item}
use Rattle.sc_interp_machine.specs.declared.pending.Item.TheVariants.{Alone}
use Rattle.sc_interp_machine.specs.declared.pending.Mode.{Mode}
use Rattle.sc_interp_machine.specs.declared.pending.Mode.TheVariants.{Eval, Give}
use Rattle.sc_interp_machine.specs.declared.body.Use.{Use}
use Rattle.sc_interp_machine.specs.declared.body.Use.TheVariants.{Switch}
use Rattle.sc_interp_machine.specs.declared.body.Pending.{Pending}
use Rattle.sc_interp_machine.specs.declared.body.Pending.TheVariants.{End, Rest, EndBlock, EndSwitch, Again, Check, Third}
use Rattle.sc_interp_machine.specs.declared.body.Doing.{Doing}
use Rattle.sc_interp_machine.specs.declared.body.Doing.TheVariants.{Within, Exec, Turn, Leave, Pieces, Labels}

-- the work that was done up to a world
abbrev pub done : World → ℕ
done w = work w.trail

abbrev pub is_conversion : CoreExpr-F CoreExpr → Bool
is_conversion (CoreExpr-F.Convert l t a) = true
is_conversion _ = false

-- a conversion is no work, so one that stands in another would not be paid
abbrev pub is_single : CoreExpr-F CoreExpr → Bool
is_single (CoreExpr-F.Convert l t a) = if is_conversion (out-CoreExpr a) then false else true
is_single _ = true

-- of an expression's state
abbrev pub begin_credit : CoreExpr-F CoreExpr → ℕ
begin_credit (CoreExpr-F.Convert l t a) = 2
begin_credit _ = 0

abbrev pub mode_credit : Mode → ℕ
mode_credit (Eval e) = begin_credit (out-CoreExpr e)
mode_credit (Give a) = 4

abbrev pub single_credit : Single → ℕ
single_credit (Convert from to) = 1
single_credit _ = 0

abbrev pub item_credit : Item → ℕ
item_credit (Alone s) = single_credit s
item_credit _ = 0

abbrev pub items_credit : List Item → ℕ
items_credit [] = 0
items_credit (i ∷ is) = item_credit i + items_credit is

-- a step that began with this credit and this much work done is paid
abbrev pub ExprPaid : ℕ → ℕ → expr.Advanced → Type 0
ExprPaid k v (expr.GoesOn mode is w) = 1 + (mode_credit mode + items_credit is) + 4 * v ≤ k + 4 * done w
ExprPaid k v (expr.CallsOut t f vs is w) = 1 + (6 + items_credit is) + 4 * v ≤ k + 4 * done w
ExprPaid k v (expr.Gives a w) = 1 + 3 + 4 * v ≤ k + 4 * done w
ExprPaid k v (expr.Breaks e) = 1 + 4 * v ≤ k + 4 * done (world_at e)

-- whether an expression's state makes no step for nothing
abbrev pub mode_pays : Mode → Bool
mode_pays (Eval e) = is_single (out-CoreExpr e)
mode_pays (Give a) = true

-- of a body's state
abbrev pub use_credit : Use → ℕ
use_credit (Switch labels s) = 1
use_credit _ = 0

abbrev pub pending_credit : Pending → ℕ
pending_credit End = 0
pending_credit (Rest s qs) = 1
pending_credit (EndBlock k) = 0
pending_credit EndSwitch = 0
pending_credit (Again s) = 2
pending_credit (Check l e s) = 1
pending_credit (Third x s) = 2

abbrev pub pendings_credit : List Pending → ℕ
pendings_credit [] = 0
pendings_credit (i ∷ ss) = pending_credit i + pendings_credit ss

abbrev pub is_default : Option ℕ → Bool
is_default None = true
is_default (Some v) = false

abbrev pub has_default : List SwitchLabel → Bool
has_default [] = false
has_default (l ∷ ls) = is_default l.value || has_default ls

abbrev pub default_credit : Bool → ℕ
default_credit true = 1
default_credit false = 0

-- a jump has yet to find the block that has its label
abbrev pub way_credit : Way → ℕ
way_credit (Jumped k) = 3
way_credit _ = 2

abbrev pub doing_credit : Doing → ℕ
doing_credit (Within mode is u) = mode_credit mode + items_credit is + use_credit u
doing_credit (Exec s) = 0
doing_credit (Turn s) = 3
doing_credit (Leave way) = way_credit way
doing_credit (Pieces p is) = 3
doing_credit (Labels ls n default s) = 3 + default_credit (has_default ls)

abbrev pub BodyPaid : ℕ → ℕ → body.Advanced → Type 0
BodyPaid k v (body.GoesOn mode ss env w) = 1 + (doing_credit mode + pendings_credit ss) + 4 * v ≤ k + 4 * done w
BodyPaid k v (body.Lines l mode ss env w) = 1 + (doing_credit mode + pendings_credit ss) + 4 * v ≤ k + 4 * done w
BodyPaid k v (body.CallsOut t f vs is u ss env w) = 1 + (6 + (items_credit is + use_credit u + pendings_credit ss)) + 4 * v ≤ k + 4 * done w
BodyPaid k v (body.Leaves way w) = 1 + 1 + 4 * v ≤ k + 4 * done w
BodyPaid k v (body.Breaks e) = 1 + 4 * v ≤ k + 4 * done (world_at e)

-- whether a body's state makes no step for nothing: no conversion of a conversion begins, no piece without a byte is set, and no
-- label `default` is passed while there is another
abbrev pub is_something : AutoInit → Bool
is_something (piece.Value at t e) = true
is_something (piece.Text at []) = false
is_something (piece.Text at (b ∷ bs)) = true
is_something (piece.Zero at n) = nat_lt 0 n
is_something (piece.Structure size e) = true

abbrev pub piece_pays : List AutoInit → Bool
piece_pays [] = true
piece_pays (i ∷ is) = is_something i

abbrev pub label_pays : List SwitchLabel → Bool
label_pays [] = true
label_pays (l ∷ ls) = if is_default l.value then (if has_default ls then false else true) else true

abbrev pub doing_pays : Doing → Bool
doing_pays (Within mode is u) = mode_pays mode
doing_pays (Exec s) = true
doing_pays (Turn s) = true
doing_pays (Leave way) = true
doing_pays (Pieces p is) = piece_pays is
doing_pays (Labels ls n default s) = label_pays ls

-- of a run's state
abbrev pub caller_credit : Caller → ℕ
caller_credit c = items_credit c.items + use_credit c.user + pendings_credit c.stmts

abbrev pub callers_credit : List Caller → ℕ
callers_credit [] = 0
callers_credit (c ∷ cs) = caller_credit c + callers_credit cs

abbrev pub credit : State → ℕ
credit (Runs mode ss env a cs w) = doing_credit mode + pendings_credit ss + callers_credit cs
credit (Makes t v vs c cs w) = 6 + (caller_credit c + callers_credit cs)
credit (Answers a cs w) = 5 + callers_credit cs
credit (Ends e) = 0

-- a run that is over makes no step
abbrev pub pays : State → Bool
pays (Runs mode ss env a cs w) = doing_pays mode
pays (Makes t v vs c cs w) = true
pays (Answers a [] w) = false
pays (Answers a (c ∷ cs) w) = true
pays (Ends e) = false

-- the same of a step of a run
abbrev pub RunPaid : ℕ → ℕ → State → Type 0
RunPaid k v s = 1 + credit s + 4 * v ≤ k + 4 * done (world_of s)

-- none of so many steps is made for nothing
abbrev pub AllPay : ℕ → History → State → Type 0
AllPay zero h s = Unit {0}
AllPay (suc k) h s = (pays s ≡ true) × AllPay k h (advance h s)
