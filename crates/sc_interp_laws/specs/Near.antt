-- Inside: plumbing, a representation, an invariant or a promise beside the claim (docs/TRUST.md).
-- How many steps a run makes at most before the next work is done, or it is over. `credit` sums up what is pending in all callers,
-- and has no bound; this looks at the innermost place alone.
use Rattle.std.specs.Prelude.{◌≡◌, ℕ, ◌+◌, ◌*◌, ◌≤◌, Bool, true, false, List, [], ◌∷◌}
use Rattle.sc_core.specs.declared.expression.CoreExpr.{CoreExpr, out-CoreExpr}
use Rattle.sc_core.specs.declared.expression.CoreExpr.TheOpen.{CoreExpr-F}
use Rattle.sc_meaning.specs.Outcomes.{world_at}
use Rattle.sc_meaning.specs.Statements.{Way, Normal, Broke, Continued, Jumped, Returned}
use Rattle.sc_interp_machine.specs.Machine as expr
use Rattle.sc_interp_machine.specs.Bodies as body
use Rattle.sc_interp_machine.specs.Runs.{Caller, State, Runs, Makes, Answers, Ends}
use Rattle.sc_interp_machine.specs.declared.pending.Single.{Single}
use Rattle.sc_interp_machine.specs.declared.pending.Single.TheVariants.{Convert}
use Rattle.sc_interp_machine.specs.declared.pending.Item.{Item}
use Rattle.sc_interp_machine.specs.declared.pending.Item.TheVariants.{Alone, Right, Now, StoreRight, StoreNow, StructureRight, StructureNow, And, Or, Choice, Then, Callee, Argument}
use Rattle.sc_interp_machine.specs.declared.pending.Mode.{Mode}
use Rattle.sc_interp_machine.specs.declared.pending.Mode.TheVariants.{Eval, Give}
use Rattle.sc_interp_machine.specs.declared.body.Use.{Use}
use Rattle.sc_interp_machine.specs.declared.body.Use.TheVariants.{Discard, Turns, Return, If, While, Repeat, For, Switch, Set, Copy}
use Rattle.sc_interp_machine.specs.declared.body.Pending.{Pending}
use Rattle.sc_interp_machine.specs.declared.body.Pending.TheVariants.{End, Rest, EndBlock, EndSwitch, Again, Check, Third}
use Rattle.sc_interp_machine.specs.declared.body.Doing.{Doing}
use Rattle.sc_interp_machine.specs.declared.body.Doing.TheVariants.{Within, Exec, Turn, Leave, Pieces, Labels}
use Rattle.sc_interp_laws.specs.Worlds.{world_of}
use Rattle.sc_interp_laws.specs.Paid.{done, has_default, default_credit}
use Rattle.sc_interp_laws.specs.Lean.{LeanItems, LeanAt, LeanUse, LeanPendings, LeanDoing, IsLean}

abbrev pub begin_near : CoreExpr-F CoreExpr → ℕ
begin_near (CoreExpr-F.Convert l t a) = 2
begin_near _ = 1

abbrev pub use_near : Use → ℕ
use_near Discard = 1
use_near (Turns s) = 4
use_near Return = 1
use_near (If t q r) = 2
use_near (While t s q) = 2
use_near (Repeat t s) = 4
use_near (For t s x q) = 2
use_near (Switch labels s) = 4
use_near (Set p at t is) = 4
use_near (Copy p size is) = 4

abbrev pub single_near : Single → ℕ → ℕ
single_near (Convert from to) behind = 1 + behind
single_near _ behind = 1

-- an answer is given to what is pending, before the use of the whole expression
abbrev pub give_near : ℕ → List Item → ℕ
give_near last [] = last
give_near last (Alone s ∷ is) = single_near s (give_near last is)
give_near last (Right p b ∷ is) = 3
give_near last (Now p x ∷ is) = 1
give_near last (StoreRight s b ∷ is) = 3
give_near last (StoreNow s p ∷ is) = 1
give_near last (StructureRight size b ∷ is) = 3
give_near last (StructureNow size p ∷ is) = 1
give_near last (And s t b ∷ is) = 3
give_near last (Or s t b ∷ is) = 3
give_near last (Choice t b d ∷ is) = 3
give_near last (Then b ∷ is) = 3
give_near last (Callee t es ∷ is) = 3
give_near last (Argument t v es vs ∷ is) = 3

abbrev pub mode_near : ℕ → Mode → List Item → ℕ
mode_near last (Eval e) is = begin_near (out-CoreExpr e)
mode_near last (Give a) is = give_near last is

-- a jump looks for its label in the block that is left
abbrev pub rest_near : Way → ℕ
rest_near Normal = 2
rest_near Broke = 2
rest_near Continued = 2
rest_near (Jumped k) = 3
rest_near (Returned a) = 2

abbrev pub leave_near : Way → List Pending → ℕ
leave_near way [] = 1
leave_near way (End ∷ ss) = 1
leave_near way (Rest s qs ∷ ss) = rest_near way
leave_near way (EndBlock k ∷ ss) = 1
leave_near way (EndSwitch ∷ ss) = 1
leave_near way (Again s ∷ ss) = 4
leave_near way (Check l e s ∷ ss) = 3
leave_near way (Third x s ∷ ss) = 4

abbrev pub doing_near : Doing → List Pending → ℕ
doing_near (Within mode is u) ss = mode_near (use_near u) mode is
doing_near (Exec s) ss = 1
doing_near (Turn s) ss = 3
doing_near (Leave way) ss = leave_near way ss
doing_near (Pieces p is) ss = 3
doing_near (Labels ls n default s) ss = 2 + default_credit (has_default ls)

abbrev pub caller_near : Caller → ℕ
caller_near c = give_near (use_near c.user) c.items

abbrev pub near : State → ℕ
near (Runs mode ss env a cs w) = doing_near mode ss
near (Makes t v vs c cs w) = 2 + caller_near c
near (Answers a [] w) = 1
near (Answers a (c ∷ cs) w) = 1 + caller_near c
near (Ends e) = 0

-- A step that began so near, and with this much work done, is paid by work, of which a unit pays eight steps, or it comes nearer; and
-- what it leaves is lean.
abbrev pub ExprNears : ℕ → ℕ → ℕ → expr.Advanced → Type 0
ExprNears last k v (expr.GoesOn mode is w) = LeanAt mode is × LeanItems is × (1 + mode_near last mode is + 8 * v ≤ k + 8 * done w)
ExprNears last k v (expr.CallsOut t f vs is w) = LeanItems is × (1 + (2 + give_near last is) + 8 * v ≤ k + 8 * done w)
ExprNears last k v (expr.Gives a w) = (last ≤ k) × (v ≤ done w)
ExprNears last k v (expr.Breaks e) = 1 + 8 * v ≤ k + 8 * done (world_at e)

abbrev pub BodyNears : ℕ → ℕ → body.Advanced → Type 0
BodyNears k v (body.GoesOn mode ss env w) = LeanDoing mode × LeanPendings ss × (1 + doing_near mode ss + 8 * v ≤ k + 8 * done w)
BodyNears k v (body.Lines l mode ss env w) = LeanDoing mode × LeanPendings ss × (1 + doing_near mode ss + 8 * v ≤ k + 8 * done w)
BodyNears k v (body.CallsOut t f vs is u ss env w) = LeanItems is × LeanUse u × LeanPendings ss × (1 + (2 + give_near (use_near u) is) + 8 * v ≤ k + 8 * done w)
BodyNears k v (body.Leaves way w) = 1 + 8 * v ≤ k + 8 * done w
BodyNears k v (body.Breaks e) = 1 + 8 * v ≤ k + 8 * done (world_at e)

abbrev pub RunNears : ℕ → ℕ → State → Type 0
RunNears k v s = IsLean s × (1 + near s + 8 * v ≤ k + 8 * done (world_of s))

-- a run makes a step in this state
abbrev pub goes_on : State → Bool
goes_on (Runs mode ss env a cs w) = true
goes_on (Makes t v vs c cs w) = true
goes_on (Answers a [] w) = false
goes_on (Answers a (c ∷ cs) w) = true
goes_on (Ends e) = false
