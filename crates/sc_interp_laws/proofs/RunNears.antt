-- Each step of a run without work comes nearer to the next work, and what it leaves is lean.
use Rattle.std.proofs.Common.{◌≡◌, ℕ, zero, suc, ◌+◌, ◌-◌, ◌*◌, ◌≤◌, nat_lt, Bool, true, false, if◌then◌else◌, List, [], ◌∷◌, slice_index_or, Option, Some, None, refl, arith}
use Rattle.sc_base.specs.declared.key.Key.{Key}
use Rattle.sc_base.specs.declared.report.Rule.{Rule}
use Rattle.sc_core.specs.declared.expression.CoreExpr.{CoreExpr, out-CoreExpr}
use Rattle.sc_core.specs.declared.expression.CoreExpr.TheOpen.{CoreExpr-F}
use Rattle.sc_core.specs.declared.statement.AutoInit.{AutoInit}
use Rattle.sc_core.specs.declared.statement.SwitchLabel.{SwitchLabel}
use Rattle.sc_core.specs.declared.module.Fun.{Fun}
use Rattle.sc_meaning.specs.Values.{Value, Number, FunctionAt, Pointer}
use Rattle.sc_meaning.specs.World.{World, Born, Event, Enter, pass, Push, Stack, OpenBlock}
use Rattle.sc_meaning.specs.Outcomes.{Outcome, Done, Over, world_after}
use Rattle.sc_meaning.specs.Versions.{Text, History, Callee, Missing, InText, InLibrary, callee_of, version_at}
use Rattle.sc_meaning.specs.Changes.{happened, reached}
use Rattle.sc_meaning.specs.Expressions.{Env, Answer, Nothing, value_rule}
use Rattle.sc_meaning.specs.Functions.{library_call}
use Rattle.sc_meaning.specs.Calls.{parameters, frame_of, left}
use Rattle.sc_meaning.proofs.Steps.{one_more, and_more}
use Rattle.sc_meaning.proofs.Changing.{happened_goes}
use Rattle.sc_meaning.proofs.FunctionsGo.{library_goes}
use Rattle.sc_meaning.proofs.Growing.{Going, own}
use Rattle.sc_interp_machine.specs.Bodies as body
use Rattle.sc_interp_machine.specs.Runs.{Active, Caller, State, Runs, Makes, Answers, Ends, then_goes as then_next, answers, body_next, begins, enters, callee_next, value_next, made_unless, advance}
use Rattle.sc_interp_machine.specs.declared.pending.Mode.{Mode}
use Rattle.sc_interp_machine.specs.declared.pending.Mode.TheVariants.{Eval, Give}
use Rattle.sc_interp_machine.specs.declared.body.Doing.{Doing}
use Rattle.sc_interp_machine.specs.declared.body.Doing.TheVariants.{Within, Exec, Turn, Leave, Pieces, Labels}
use Rattle.sc_interp_machine.specs.declared.body.Pending.{Pending}
use Rattle.sc_interp_machine.specs.declared.pending.Item.{Item}
use Rattle.sc_interp_machine.specs.declared.body.Use.{Use}
use Rattle.sc_interp_laws.specs.Worlds.{world_of}
use Rattle.sc_interp_laws.specs.Paid.{done, has_default, default_credit, is_conversion, is_single, piece_pays, label_pays, doing_pays, pays}
use Rattle.sc_interp_laws.specs.Lean.{AllOf, lean_level, LeanTo, LeanPiece, Once, LeanStmt, LeanCallee, AreLean, LeanAt, LeanItems, LeanDoing, LeanPendings, LeanCaller, IsLean}
use Rattle.sc_interp_laws.specs.Near.{begin_near, use_near, give_near, mode_near, leave_near, doing_near, caller_near, near, BodyNears, RunNears, goes_on}
use Rattle.sc_interp_laws.proofs.Works.{leads_work, pass_work}
use Rattle.sc_interp_laws.proofs.BodyMeans.{happened_leads}
use Rattle.sc_interp_laws.proofs.RunSteps.{parameters_lead}
use Rattle.sc_interp_laws.proofs.RunPays.{left_earns}
use Rattle.sc_interp_laws.proofs.ExprPays.{Earns}
use Rattle.sc_interp_laws.proofs.ExprNears.{begin_most, give_most}
use Rattle.sc_interp_laws.proofs.BodyNears.{leave_most, use_most}
use Rattle.sc_interp_laws.proofs.BodyNears as below

-- no state is farther from its next work than this
caller_most : (c : Caller) → LeanCaller c → caller_near c ≤ 5
caller_most c p = give_most (use_near c.user) (use_most c.user) c.items p.0.1

answers_most : (a : Answer) (cs : List Caller) (w : World) → AllOf LeanCaller cs → near (Answers a cs w) ≤ 6
answers_most a [] w p = omega arith
answers_most a (c ∷ cs) w p = let m : caller_near c ≤ 5 = caller_most c p.0 in omega (arith, m)

default_small : (b : Bool) → default_credit b ≤ 1
default_small true = omega arith
default_small false = omega arith

mode_most : (u : Use) (mode : Mode) (is : List Item) → LeanItems is → mode_near (use_near u) mode is ≤ 5
mode_most u (Eval e) is p = let m : begin_near (out-CoreExpr e) ≤ 2 = begin_most (out-CoreExpr e) in omega (arith, m)
mode_most u (Give a) is p = give_most (use_near u) (use_most u) is p.1

doing_most : (mode : Doing) (ss : List Pending) → LeanDoing mode → doing_near mode ss ≤ 5
doing_most (Within mode is u) ss p = mode_most u mode is p.1
doing_most (Exec s) ss p = omega arith
doing_most (Turn s) ss p = omega arith
doing_most (Leave way) ss p = let m : leave_near way ss ≤ 4 = leave_most way ss in omega (arith, m)
doing_most (Pieces q is) ss p = omega arith
doing_most (Labels ls n default s) ss p = let m : default_credit (has_default ls) ≤ 1 = default_small (has_default ls) in omega (arith, m)

pub near_most : (s : State) → IsLean s → near s ≤ 7
near_most (Runs mode ss env a cs w) p = let m : doing_near mode ss ≤ 5 = doing_most mode ss p.0 in omega (arith, m)
near_most (Makes t v vs c cs w) p = let m : caller_near c ≤ 5 = caller_most c p.0 in omega (arith, m)
near_most (Answers a cs w) p = let m : near (Answers a cs w) ≤ 6 = answers_most a cs w p in omega (arith, m)
near_most (Ends e) p = omega arith

nears_more : (k m u v : ℕ) (s : State) → k + 8 * u ≤ m + 8 * v → RunNears k v s → RunNears m u s
nears_more k m u v s le h = let n = h.1 in (h.0, omega (arith, le, n))

then_nears : {A : Type 0} (k : ℕ) (w : World) (r : Outcome A) (go : A → World → State) → 1 ≤ k → done w ≤ done (world_after r) → ((a : A) (v : World) → RunNears k (done v) (go a v)) → RunNears k (done w) (then_next r go)
then_nears k w (Done a v) go one h q = nears_more k k (done w) (done v) (go a v) (omega (arith, h)) (q a v)
then_nears k w (Over e) go one h q = (tt, omega (arith, one, h))

-- an answer behind work
answers_near : (k v : ℕ) (cs : List Caller) (w : World) (r : Outcome Answer) → AllOf LeanCaller cs → 1 + 8 * v ≤ k + 8 * done w → Earns (done w) r → RunNears k v (answers cs r)
answers_near k v cs w (Done a u) lc le h = let m : near (Answers a cs u) ≤ 6 = answers_most a cs u lc in (lc, omega (arith, le, h, m))
answers_near k v cs w (Over e) lc le h = (tt, omega (arith, le, h))

body_nears : (h : History) (k v : ℕ) (b : body.Advanced) (a : Active) (cs : List Caller) → AllOf LeanCaller cs → BodyNears k v b → RunNears k v (body_next h b a cs)
body_nears h k v (body.GoesOn mode ss env w) a cs lc p = ((p.0, p.1, lc), p.2)
body_nears h k v (body.Lines l mode ss env w) a cs lc p =
    let n = p.2 in
    let m : ℕ = 1 + doing_near mode ss in
    nears_more m k v (done w) (body_next h (body.Lines l mode ss env w) a cs) (omega (arith, n))
    (then_nears m w (reached h l w) (λ _ u. Runs mode ss env a cs u) (omega arith) (leads_work w (world_after (reached h l w)) (happened_leads h l w)) (λ x u. ((p.0, p.1, lc), omega arith)))
body_nears h k v (body.CallsOut t f vs is u ss env w) a cs lc p = (((p.0, p.1, p.2), lc), p.3)
body_nears h k v (body.Leaves way w) a cs lc p = answers_near k v cs w (left h a.ids a.cost way w) lc p (left_earns h a.ids a.cost way w)
body_nears h k v (body.Breaks e) a cs lc p = (tt, p)

-- a call is made
module _ (h : History) (c : Caller) (cs : List Caller) (lc : AllOf LeanCaller (c ∷ cs)) where
  begins_near : (key : Key) (t : Text) (f : Fun) (ids : List ℕ) (w : World) → LeanStmt f.body → RunNears (2 + caller_near c) (done w) (begins h key t f (c ∷ cs) ids w)
  begins_near key t f ids w p =
      let born : Born = record { block = 0; ids = ids } in
      let env : Env = record { text = t; fun = f; blocks = born ∷ [] } in
      let v : World = pass (OpenBlock born) w in
      let e : Event = Enter key t.core.name in
      let more : done v ≡ done w + 0 = pass_work (OpenBlock born) w in
      let go : Unit {0} → World → State = λ _ u. Runs (Exec f.body) [] env (record { ids = ids; cost = f.cost }) (c ∷ cs) u in
      nears_more (2 + caller_near c) (2 + caller_near c) (done w) (done v) (then_next (happened h e v) go) (omega (arith, more))
      (then_nears (2 + caller_near c) v (happened h e v) go (omega arith) (leads_work v (world_after (happened h e v)) (happened_goes Going h e v)) (λ x u. ((p, (tt, tt), lc), omega arith)))

  enters_near : (b : Bool) (key : Key) (t : Text) (f : Fun) (vs : List Value) (w : World) → LeanStmt f.body → RunNears (2 + caller_near c) (done w) (enters b h key t f vs (c ∷ cs) w)
  enters_near true key t f vs w p = (tt, omega arith)
  enters_near false key t f vs w p =
      let v : World = pass (Stack (w.used + f.cost)) w in
      let u : World = pass (Push (frame_of key t w)) v in
      let r : Outcome (List ℕ) = parameters (slice_index_or f.blocks 0 []) vs [] u in
      let more : done w ≤ done u = leads_work w u (and_more (Push (frame_of key t w)) w v (one_more _ w)) in
      nears_more (2 + caller_near c) (2 + caller_near c) (done w) (done u) (then_next r (begins h key t f (c ∷ cs))) (omega (arith, more))
      (then_nears (2 + caller_near c) u r (begins h key t f (c ∷ cs)) (omega arith) (leads_work u (world_after r) (parameters_lead (slice_index_or f.blocks 0 []) vs [] u)) (λ ids x. begins_near key t f ids x p))

  callee_near : (key : Key) (vs : List Value) (f : Callee) (w : World) → LeanCallee f → RunNears (2 + caller_near c) (done w) (callee_next h key vs f (c ∷ cs) w)
  callee_near key vs Missing w p = (tt, omega arith)
  callee_near key vs (InLibrary f) w p =
      then_nears (2 + caller_near c) w (library_call h f key vs w) (λ a u. Answers a (c ∷ cs) u) (omega arith) (leads_work w (world_after (library_call h f key vs w)) (library_goes Going h h (own Going h) f key vs w)) (λ a u. (lc, omega arith))
  callee_near key vs (InText t f) w p = enters_near (nat_lt w.stack (w.used + f.cost)) key t f vs w p

  value_near : AreLean h → (v : Value) (vs : List Value) (w : World) → RunNears (2 + caller_near c) (done w) (value_next h v vs (c ∷ cs) w)
  value_near lean (FunctionAt key) vs w = callee_near key vs (callee_of (version_at h w.count) key) w (lean w.count key)
  value_near lean (Number n) vs w = (lc, omega arith)
  value_near lean (Pointer o i) vs w = (lc, omega arith)

  made_near : AreLean h → (rule : Option Rule) (v : Value) (vs : List Value) (w : World) → RunNears (2 + caller_near c) (done w) (made_unless rule h v vs (c ∷ cs) w)
  made_near lean None v vs w = value_near lean v vs w
  made_near lean (Some rule) v vs w = (tt, omega arith)

pub advance_nears : (h : History) → AreLean h → (s : State) → IsLean s → goes_on s ≡ true → RunNears (near s) (done (world_of s)) (advance h s)
advance_nears h lean (Runs mode ss env a cs w) p g = body_nears h (doing_near mode ss) (done w) (body.advance mode ss env w) a cs p.2 (below.advance_nears mode ss env w p.0 p.1)
advance_nears h lean (Makes t v vs c cs w) p g = made_near h c cs p lean (value_rule (version_at h w.count) c.env.text t v) v vs w
advance_nears h lean (Answers a [] w) p g = absurd (cc)
advance_nears h lean (Answers a (c ∷ cs) w) p g = (((tt, p.0.0, p.0.1), p.0.2, p.1), omega arith)
advance_nears h lean (Ends e) p g = absurd (cc)

-- no lean state makes a step for nothing
single_lean : (P : CoreExpr → Type 0) (x : CoreExpr-F CoreExpr) → lean_level P x → is_single x ≡ true
single_lean P (CoreExpr-F.Convert l t a) p = let f = p.1 in rw f refl
single_lean P (CoreExpr-F.Number l t n) p = refl
single_lean P (CoreExpr-F.Literal l t i) p = refl
single_lean P (CoreExpr-F.Automatic l t b i) p = refl
single_lean P (CoreExpr-F.Static l t key) p = refl
single_lean P (CoreExpr-F.Function l t key) p = refl
single_lean P (CoreExpr-F.Index l t size a b) p = refl
single_lean P (CoreExpr-F.Call l t f es) p = refl
single_lean P (CoreExpr-F.Member l t n a) p = refl
single_lean P (CoreExpr-F.Arrow l t n a) p = refl
single_lean P (CoreExpr-F.Step l t s n a) p = refl
single_lean P (CoreExpr-F.Address l t a) p = refl
single_lean P (CoreExpr-F.Indirection l t a) p = refl
single_lean P (CoreExpr-F.Unary l t o a) p = refl
single_lean P (CoreExpr-F.Cast l t a) p = refl
single_lean P (CoreExpr-F.Binary l t o a b) p = refl
single_lean P (CoreExpr-F.Offset l t o size a b) p = refl
single_lean P (CoreExpr-F.Difference l t size a b) p = refl
single_lean P (CoreExpr-F.Compare l t o a b) p = refl
single_lean P (CoreExpr-F.And l t a b) p = refl
single_lean P (CoreExpr-F.Or l t a b) p = refl
single_lean P (CoreExpr-F.Conditional l t a b c) p = refl
single_lean P (CoreExpr-F.Assign l t a b) p = refl
single_lean P (CoreExpr-F.AssignStructure l t size a b) p = refl
single_lean P (CoreExpr-F.Compound l t o i a b) p = refl
single_lean P (CoreExpr-F.CompoundOffset l t o size a b) p = refl
single_lean P (CoreExpr-F.Comma l t a b) p = refl

mode_lean : (mode : Mode) (is : List Item) (u : Use) → LeanAt mode is → doing_pays (Within mode is u) ≡ true
mode_lean (Eval e) is u p = single_lean (LeanTo 0) (out-CoreExpr e) (p.0 1)
mode_lean (Give a) is u p = refl

piece_lean : (is : List AutoInit) → AllOf LeanPiece is → piece_pays is ≡ true
piece_lean [] p = refl
piece_lean (i ∷ is) p = p.0.0

label_lean : (ls : List SwitchLabel) → Once ls → label_pays ls ≡ true
label_lean [] p = refl
label_lean (l ∷ ls) p = p.0

doing_lean : (mode : Doing) → LeanDoing mode → doing_pays mode ≡ true
doing_lean (Within mode is u) p = mode_lean mode is u p.0
doing_lean (Exec s) p = refl
doing_lean (Turn s) p = refl
doing_lean (Leave way) p = refl
doing_lean (Pieces q is) p = piece_lean is p
doing_lean (Labels ls n default s) p = label_lean ls p.0

pub lean_pays : (s : State) → IsLean s → goes_on s ≡ true → pays s ≡ true
lean_pays (Runs mode ss env a cs w) p g = doing_lean mode p.0
lean_pays (Makes t v vs c cs w) p g = refl
lean_pays (Answers a [] w) p g = absurd (cc)
lean_pays (Answers a (c ∷ cs) w) p g = refl
lean_pays (Ends e) p g = absurd (cc)
