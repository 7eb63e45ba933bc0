-- A jump over what follows is written once that is there.
use Rattle.std.proofs.Common.{◌≡◌, ℕ, ◌+◌, ◌-◌, Bool, if◌then◌else◌, [], ◌∷◌, ◌++◌, length, sym, ap, ◌∙◌, arith, append_assoc, length-append}
use Rattle.std.specs.Prelude.{slice_set}
use Rattle.std.proofs.Math.Seq.{set-append_seam}
use Rattle.sc_gen_code.specs.declared.symbolic.Symbolic.{Symbolic}
use Rattle.sc_gen_code.specs.Code.{Code, x0, a0, apply, over}
use Rattle.sc_gen_expr.specs.Expressions.{logical, choice, joined}
use Rattle.sc_isa.specs.declared.instruction.RegOp.TheVariants as reg

pub closed : (base mid c1 c2 : Code) (x : Symbolic) (n : ℕ) → n ≡ length base → c1 ≡ base ++ x ∷ [] → c2 ≡ c1 ++ mid →
    slice_set c2 n (over (length c2 - (n + 1))) ≡ base ++ over (length mid) ∷ mid
closed base mid c1 c2 x n m e1 e2 =
    let e = e2 ∙ ap (λ (l : Code). l ++ mid) e1 ∙ append_assoc base (x ∷ []) mid in
    let l = ap length e ∙ length-append base (x ∷ mid) in
    let d : length c2 - (n + 1) ≡ length mid = omega arith in
    ap (λ (l : Code). slice_set l n (over (length c2 - (n + 1)))) e
    ∙ ap (λ (k : ℕ). slice_set (base ++ x ∷ mid) k (over (length c2 - (n + 1)))) m
    ∙ set-append_seam base x mid (over (length c2 - (n + 1)))
    ∙ ap (λ (k : ℕ). base ++ over k ∷ mid) d

-- over one word more
pub closed_more : (base mid c1 c2 : Code) (x : Symbolic) (n k : ℕ) → n ≡ length base → c1 ≡ base ++ x ∷ [] → c2 ≡ c1 ++ mid →
    slice_set c2 n (over (length c2 - (n + 1) + k)) ≡ base ++ over (length mid + k) ∷ mid
closed_more base mid c1 c2 x n k m e1 e2 =
    let e = e2 ∙ ap (λ (l : Code). l ++ mid) e1 ∙ append_assoc base (x ∷ []) mid in
    let l = ap length e ∙ length-append base (x ∷ mid) in
    let d : length c2 - (n + 1) + k ≡ length mid + k = omega arith in
    ap (λ (l : Code). slice_set l n (over (length c2 - (n + 1) + k))) e
    ∙ ap (λ (j : ℕ). slice_set (base ++ x ∷ mid) j (over (length c2 - (n + 1) + k))) m
    ∙ set-append_seam base x mid (over (length c2 - (n + 1) + k))
    ∙ ap (λ (j : ℕ). base ++ over j ∷ mid) d

-- the right operand of && and ||
pub logical_is : (c0 a b c1 c2 c3 c4 : Code) (skip : Symbolic) (n : ℕ) → c1 ≡ c0 ++ a → c2 ≡ (c1 ++ skip ∷ []) ++ over 0 ∷ [] → n ≡ length (c1 ++ skip ∷ []) →
    c3 ≡ c2 ++ b → c4 ≡ slice_set c3 n (over (length c3 - (n + 1))) ++ apply reg.Sltu a0 x0 a0 ∷ [] → c4 ≡ c0 ++ logical skip a b
logical_is c0 a b c1 c2 c3 c4 skip n e1 e2 m e3 e4 =
    let flat : (((c0 ++ a) ++ skip ∷ []) ++ over (length b) ∷ b) ++ apply reg.Sltu a0 x0 a0 ∷ [] ≡ c0 ++ logical skip a b = simp append_assoc in
    e4
    ∙ ap (λ (l : Code). l ++ apply reg.Sltu a0 x0 a0 ∷ []) (closed (c1 ++ skip ∷ []) b c2 c3 (over 0) n m e2 e3)
    ∙ ap (λ (l : Code). ((l ++ skip ∷ []) ++ over (length b) ∷ b) ++ apply reg.Sltu a0 x0 a0 ∷ []) e1
    ∙ flat

-- the second condition of && and ||
pub joined_is : (c0 a b c1 c2 c3 c4 : Code) (more : Bool) (n : ℕ) → c1 ≡ c0 ++ a → c2 ≡ c1 ++ over 0 ∷ [] → n ≡ length c1 →
    c3 ≡ c2 ++ b → c4 ≡ slice_set c3 n (over (length c3 - (n + 1) + (if more then 1 else 0))) → c4 ≡ c0 ++ joined more a b
joined_is c0 a b c1 c2 c3 c4 more n e1 e2 m e3 e4 =
    let k = if more then 1 else 0 in
    e4
    ∙ closed_more c1 b c2 c3 (over 0) n k m e2 e3
    ∙ ap (λ (l : Code). l ++ over (length b + k) ∷ b) e1
    ∙ append_assoc c0 a (over (length b + k) ∷ b)

-- two jumps: over one part and the jump behind it, and over another part
pub choice_is : (c0 a b d c1 c2 c3 c4 c5 c6 : Code) (n m : ℕ) → c1 ≡ c0 ++ a → c2 ≡ c1 ++ over 0 ∷ [] → n ≡ length c1 →
    c3 ≡ c2 ++ b → c4 ≡ slice_set (c3 ++ over 0 ∷ []) n (over (length (c3 ++ over 0 ∷ []) - (n + 1))) → m ≡ length c3 → c5 ≡ c4 ++ d →
    c6 ≡ slice_set c5 m (over (length c5 - (m + 1))) → c6 ≡ c0 ++ choice a b d
choice_is c0 a b d c1 c2 c3 c4 c5 c6 n m e1 e2 in2 e3 e4 in4 e5 e6 =
    let tail = ap (λ (l : Code). l ++ over 0 ∷ []) e3 ∙ append_assoc c2 b (over 0 ∷ []) in
    let shut = e4 ∙ closed c1 (b ++ over 0 ∷ []) c2 (c3 ++ over 0 ∷ []) (over 0) n in2 e2 tail in
    let l2 = ap length e2 ∙ length-append c1 (over 0 ∷ []) in
    let l3 = ap length e3 ∙ length-append c2 b in
    let base = c1 ++ over (length (b ++ over 0 ∷ [])) ∷ b in
    let at : m ≡ length base = omega (arith, length-append c1 (over (length (b ++ over 0 ∷ [])) ∷ b)) in
    let long : length (b ++ over 0 ∷ []) ≡ length b + 1 = omega (arith, length-append b (over 0 ∷ [])) in
    let split = shut ∙ sym (append_assoc c1 (over (length (b ++ over 0 ∷ [])) ∷ b) (over 0 ∷ [])) in
    let end = e6 ∙ closed base d c4 c5 (over 0) m at split e5 in
    let flat : (((c0 ++ a) ++ over (length b + 1) ∷ b) ++ over (length d) ∷ d) ≡ c0 ++ choice a b d = simp append_assoc in
    end
    ∙ ap (λ (k : ℕ). (c1 ++ over k ∷ b) ++ over (length d) ∷ d) long
    ∙ ap (λ (l : Code). (l ++ over (length b + 1) ∷ b) ++ over (length d) ∷ d) e1
    ∙ flat

-- parts one behind another
pub two_are : (c0 a b c1 c2 : Code) → c1 ≡ c0 ++ a → c2 ≡ c1 ++ b → c2 ≡ c0 ++ (a ++ b)
two_are c0 a b c1 c2 e1 e2 = e2 ∙ ap (λ (l : Code). l ++ b) e1 ∙ append_assoc c0 a b

pub three_are : (c0 a b d c1 c2 c3 : Code) → c1 ≡ c0 ++ a → c2 ≡ c1 ++ b → c3 ≡ c2 ++ d → c3 ≡ c0 ++ (a ++ (b ++ d))
three_are c0 a b d c1 c2 c3 e1 e2 e3 = e3 ∙ ap (λ (l : Code). l ++ d) (two_are c0 a b c1 c2 e1 e2) ∙ append_assoc c0 (a ++ b) d ∙ ap (λ (l : Code). c0 ++ l) (append_assoc a b d)
