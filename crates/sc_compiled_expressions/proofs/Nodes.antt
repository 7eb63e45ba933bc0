-- One node over its operands: what its code adds, and what it leaves to them.
use Rattle.std.proofs.Common.{◌≡◌, ℕ, suc, ◌+◌, ◌-◌, ◌*◌, ◌≤◌, ◌++◌, length, refl, sym, ap, subst, ◌∙◌, arith, length-append}
use Rattle.sc_emu.specs.Registers.{register}
use Rattle.sc_core.specs.declared.expression.CoreExpr.{CoreExpr, out-CoreExpr, map-CoreExpr}
use Rattle.sc_core.specs.declared.expression.CoreExpr.TheOpen.{CoreExpr-F}
use Rattle.sc_types.specs.declared.ctype.CType.{CType}
use Rattle.sc_meaning.specs.Calls.{call, eval}
use Rattle.sc_meaning.specs.Expressions.{Answer, Env, Plain, Place, Part, Nothing, at_place, begun, expr_of, finished, used, valued}
use Rattle.sc_meaning.specs.Laws.{Leads}
use Rattle.sc_meaning.specs.Outcomes.{and_then, world_after}
use Rattle.sc_meaning.specs.Versions.{History}
use Rattle.sc_meaning.specs.World.{World, Work, tick}
use Rattle.sc_meaning.proofs.Growing.{eval_leads, leads_then}
use Rattle.sc_meaning.proofs.Steps.{here, one_more}
use Rattle.sc_mixed.specs.declared.calls.Calls.{Calls}
use Rattle.sc_mixed_means.specs.Stages.{Stage}
use Rattle.sc_gen_code.specs.declared.style.Spot.{Spot}
use Rattle.sc_gen_code.specs.Code.{Code}
use Rattle.sc_gen_operand.specs.Plans.{Mode, Part as Coder, word}
use Rattle.sc_gen_expr.specs.Expressions.{expression_layer, part_of}
use Rattle.sc_gen_expr.proofs.Layers.{code_is}
use Rattle.sc_compiled_frames.specs.Means.{IsWord}
use Rattle.sc_compiled_expressions.specs.Parts.{End, Meets}
use Rattle.sc_compiled_expressions.proofs.Joining.{at_once, behind_work, in_turn, same_part, weaker_end}
use Rattle.sc_compiled_expressions.specs.Standing.{Home, stub, table}
use Rattle.sc_compiled_expressions.specs.Good.{Answered, AnsweredPlain, GivesAnswer, GivesPlain, GivesValue, IsDeeper, Valued, code_of}
use Rattle.sc_compiled_expressions.proofs.Standing.{keeps_then, placed_back, placed_front, placed_same, stands_worked}

-- ---- one layer of the meaning and of the code

opens : (k : ℕ) (h : History) (env : Env) (e : CoreExpr) (v : World) → eval (suc k) h env e v ≡ expr_of h (eval k h) (call k h) env (out-CoreExpr e) (begun (out-CoreExpr e) v)
unfolding eval
opens k h env e v = refl

pub one_less : (d k b : ℕ) → suc d + k ≤ b → d + k ≤ b - 1
one_less d k b le = omega (arith, le)

pub some_deep : (d k b : ℕ) → suc d + k ≤ b → b ≡ suc (b - 1)
some_deep d k b le = omega (arith, le)

deep_more : (d e k b : ℕ) → d ≤ e → e + k ≤ b → d + k ≤ b
deep_more d e k b le f = omega (arith, le, f)

pub less : (deep : ℕ) (bound : ℕ → ℕ) → IsDeeper (suc deep) bound → IsDeeper deep (λ m. bound m - 1)
less deep bound d = λ m. one_less deep m (bound m) (d m)

pub family_opens : (deep : ℕ) (bound : ℕ → ℕ) → IsDeeper (suc deep) bound → (env : Env) (e : CoreExpr) (x : CoreExpr-F CoreExpr) → out-CoreExpr e ≡ x → (v : World) (h : History) (m : ℕ)
    → eval (bound m) h env e v ≡ expr_of h (eval (bound m - 1) h) (call (bound m - 1) h) env x (begun x v)
family_opens deep bound d env e x is v h m =
    let more : bound m ≡ suc (bound m - 1) = some_deep deep m (bound m) (d m) in
    ap (λ k. eval k h env e v) more ∙ opens (bound m - 1) h env e v ∙ ap (λ y. expr_of h (eval (bound m - 1) h) (call (bound m - 1) h) env y (begun y v)) is

-- the code of a node in a mode
pub layer_is : (home : Home) (mode : Mode) (e : CoreExpr) (x : CoreExpr-F CoreExpr) (at : Spot) → out-CoreExpr e ≡ x
    → part_of home.style home.autos e mode e at ≡ expression_layer home.style home.autos (map-CoreExpr CoreExpr Coder (part_of home.style home.autos) x) x mode e at
layer_is home mode e x at is =
    code_is home.style home.autos mode e at ∙ ap (λ y. expression_layer home.style home.autos (map-CoreExpr CoreExpr Coder (part_of home.style home.autos) y) y mode e at) is

-- ---- what is used goes on

pub used_leads : (a : Answer) (u : World) → Leads u (world_after (used a u))
used_leads (Plain v) u = here u
used_leads (Place p) u = here u
used_leads (Part p n) u = here u
used_leads Nothing u = here u

pub valued_leads : (k : ℕ) (h : History) (env : Env) (e : CoreExpr) (u : World) → Leads u (world_after (valued (eval k h) env e u))
valued_leads k h env e u = leads_then u (eval k h env e u) used (eval_leads k h env e u) used_leads

module _ (home : Home) (most : ℕ) where
  -- the part ends in work
  pub finish : (s : Stage) (E : End Answer) (a : Answer) (d : Calls) (y u : World) → E s a (tick u) d y → Meets most s E d y u (λ h m. finished a u)
  finish s E a d y u e = behind_work most s E d 1 y u (λ h m. finished a u) (at_once most s E d y (tick u) (λ h m. finished a u) a (λ h m. refl) e)

  -- the meaning looks deeper
  pub answers_deeper : (less more : ℕ) (e : CoreExpr) (at : Spot) → less ≤ more → GivesAnswer home most less e at → GivesAnswer home most more e at
  answers_deeper less more e at le g = λ bound d. g bound (λ m. deep_more less more m (bound m) le (d m))

  pub values_deeper : (less more : ℕ) (e : CoreExpr) (at : Spot) → less ≤ more → GivesValue home most less e at → GivesValue home most more e at
  values_deeper less more e at le g = λ bound d. g bound (λ m. deep_more less more m (bound m) le (d m))

  -- an answer that is always a value
  pub plain_answer : (deep : ℕ) (e : CoreExpr) (at : Spot) → GivesPlain home most deep e at → GivesAnswer home most deep e at
  plain_answer deep e at g = λ bound d s c w v pl st.
      weaker_end most s (AnsweredPlain home at (c.regs.pc + 4 * length (code_of home e at)) c w) (Answered home at (c.regs.pc + 4 * length (code_of home e at)) c w) c w v (λ h m. eval (bound m) h home.env e v)
      (λ s x u d y p. record { there = p.valued.there; word = subst (λ a. IsWord (stub y) (table y) a (register d.regs 10)) (sym p.is) p.valued.word; stands = p.valued.stands; keeps = p.valued.keeps }) (g bound d s c w v pl st)

  pub plain_value : (deep : ℕ) (e : CoreExpr) (at : Spot) → GivesPlain home most deep e at → GivesValue home most deep e at
  plain_value deep e at g = λ bound d s c w v pl st.
      in_turn most s (AnsweredPlain home at (c.regs.pc + 4 * length (code_of home e at)) c w) (Valued home at (c.regs.pc + 4 * length (code_of home e at)) c w) c w v (λ h m. eval (bound m) h home.env e v) (λ x u h m. used x u)
      (g bound d s c w v pl st) (λ x u h m. used_leads x u)
      (λ s x u d y p. at_once most s (Valued home at (c.regs.pc + 4 * length (code_of home e at)) c w) d y u (λ h m. used x u) p.of (λ h m. ap (λ a. used a u) p.is) p.valued)

  module _ (deep : ℕ) (e : CoreExpr) (x : CoreExpr-F CoreExpr) (is : out-CoreExpr e ≡ x) where
    -- a node begins with work
    pub opened : (s : Stage) (E : End Answer) (bound : ℕ → ℕ) → IsDeeper (suc deep) bound → (c : Calls) (w v : World) → begun x v ≡ tick v
        → Meets most s E c w (tick v) (λ h m. expr_of h (eval (bound m - 1) h) (call (bound m - 1) h) home.env x (tick v)) → Meets most s E c w v (λ h m. eval (bound m) h home.env e v)
    opened s E bound d c w v b p =
        same_part most s E c w v (λ h m. eval (bound m) h home.env e v) (λ h m. expr_of h (eval (bound m - 1) h) (call (bound m - 1) h) home.env x (tick v))
        (λ h m. family_opens deep bound d home.env e x is v h m ∙ ap (λ u. expr_of h (eval (bound m - 1) h) (call (bound m - 1) h) home.env x u) b)
        (behind_work most s E c 1 w v (λ h m. expr_of h (eval (bound m - 1) h) (call (bound m - 1) h) home.env x (tick v)) p)

  -- ---- *a

  pub indirection : (deep l : ℕ) (t : CType) (e a : CoreExpr) (at : Spot) → out-CoreExpr e ≡ CoreExpr-F.Indirection l t a → GivesValue home most deep a at → GivesAnswer home most (suc deep) e at
  indirection deep l t e a at is good = λ bound d s c w v pl st.
      let code : code_of home e at ≡ code_of home a at = layer_is home word e (CoreExpr-F.Indirection l t a) at is in
      let end : c.regs.pc + 4 * length (code_of home a at) ≡ c.regs.pc + 4 * length (code_of home e at) = ap (λ (k : Code). c.regs.pc + 4 * length k) (sym code) in
      opened deep e (CoreExpr-F.Indirection l t a) is s (Answered home at (c.regs.pc + 4 * length (code_of home e at)) c w) bound d c w v refl
      (in_turn most s (Valued home at (c.regs.pc + 4 * length (code_of home a at)) c w) (Answered home at (c.regs.pc + 4 * length (code_of home e at)) c w) c w (tick v)
      (λ h m. valued (eval (bound m - 1) h) home.env a (tick v)) (λ z u h m. at_place z u)
      (good (λ m. bound m - 1) (less deep bound d) s c w (tick v) (placed_same home c.regs.pc c.regs.pc (code_of home e at) (code_of home a at) refl code pl) (stands_worked home s c w v 1 st))
      (λ z u h m. one_more (Work 1) u)
      (λ s z u q y p. finish s (Answered home at (c.regs.pc + 4 * length (code_of home e at)) c w) (Place z) q y u
      (record { there = p.there ∙ end; word = p.word; stands = stands_worked home s q y u 1 p.stands; keeps = p.keeps })))

  -- ---- a, b

  pub comma : (deep l : ℕ) (t : CType) (e a b : CoreExpr) (at : Spot) → out-CoreExpr e ≡ CoreExpr-F.Comma l t a b → GivesAnswer home most deep a at → GivesAnswer home most deep b at → GivesAnswer home most (suc deep) e at
  comma deep l t e a b at is good_a good_b = λ bound d s c w v pl st.
      let ca : Code = code_of home a at in
      let cb : Code = code_of home b at in
      let code : code_of home e at ≡ ca ++ cb = layer_is home word e (CoreExpr-F.Comma l t a b) at is in
      let both = placed_same home c.regs.pc c.regs.pc (code_of home e at) (ca ++ cb) refl code pl in
      let n = length-append ca cb in
      let m = ap length code in
      let end : c.regs.pc + 4 * length ca + 4 * length cb ≡ c.regs.pc + 4 * length (code_of home e at) = omega (arith, n, m) in
      let E = Answered home at (c.regs.pc + 4 * length (code_of home e at)) c w in
      opened deep e (CoreExpr-F.Comma l t a b) is s E bound d c w v refl
      (in_turn most s (Answered home at (c.regs.pc + 4 * length ca) c w) E c w (tick v)
      (λ h m. eval (bound m - 1) h home.env a (tick v)) (λ x u h m. and_then (eval (bound m - 1) h home.env b u) finished)
      (good_a (λ m. bound m - 1) (less deep bound d) s c w (tick v) (placed_front home c.regs.pc ca cb both) (stands_worked home s c w v 1 st))
      (λ x u h m. leads_then u (eval (bound m - 1) h home.env b u) finished (eval_leads (bound m - 1) h home.env b u) (λ z r. one_more (Work 1) r))
      (λ s x u q y p.
      in_turn most s (Answered home at (q.regs.pc + 4 * length cb) q y) E q y u (λ h m. eval (bound m - 1) h home.env b u) (λ z r h m. finished z r)
      (good_b (λ m. bound m - 1) (less deep bound d) s q y u (placed_same home (c.regs.pc + 4 * length ca) q.regs.pc cb cb (sym p.there) refl (placed_back home c.regs.pc ca cb both)) p.stands)
      (λ z r h m. one_more (Work 1) r)
      (λ s z r k x p2. finish s E z k x r (record {
        there = p2.there ∙ ap (λ n. n + 4 * length cb) p.there ∙ end;
        word = p2.word;
        stands = stands_worked home s k x r 1 p2.stands;
        keeps = keeps_then home at c q k w y x p.keeps p2.keeps;
      }))))
