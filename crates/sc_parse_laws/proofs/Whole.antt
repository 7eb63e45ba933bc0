-- Why tokens are no unit, or one beyond the limits.
use Rattle.std.proofs.Common.{◌≡◌, ℕ, ◌<◌, Bool, true, false, List, [], ◌∷◌, ◌++◌, Ok, Err, refl, sym, ◌∙◌, ap, subst, append_assoc, append-nil, inl, inr}
use Rattle.std.specs.Prelude.{nat_lt, if◌then◌else◌, codes}
use Rattle.std.proofs.lemmas.Bool.{ltb-true, ltb-false}
use Rattle.sc_base.specs.declared.refusal.X.{X}
use Rattle.sc_base.specs.declared.refusal.X.TheVariants as x
use Rattle.sc_tree.specs.declared.statement.External.{External}
use Rattle.sc_parse_names.specs.declared.kind.Mark.{Mark}
use Rattle.sc_parse_names.specs.declared.kind.Symbol.{Symbol}
use Rattle.sc_parse_names.specs.Names.{Names}
use Rattle.sc_parse_grammar.specs.declared.trouble.Trouble.TheVariants as trouble
use Rattle.sc_parse_grammar.specs.declared.trouble.Limit.TheVariants as limit
use Rattle.sc_parse_expr.specs.Brackets.{opens_with, AreShallow}
use Rattle.sc_parse_unit.specs.declared.around.Around.TheVariants as a
use Rattle.sc_parse_unit.specs.declared.around.Stage.TheVariants as at
use Rattle.sc_parse_unit.specs.declared.obstacle.Obstacle.{Obstacle}
use Rattle.sc_parse_unit.specs.declared.obstacle.Obstacle.TheVariants as no
use Rattle.sc_parse_unit.specs.Grammar as g
use Rattle.sc_parse_unit.specs.Grammar.{IsUnit}
use Rattle.sc_parse_unit.specs.Machine.{Point, Move, advance, on_ok, run, start}
use Rattle.sc_parse_unit.specs.Parse.{Answer, refusal, next, end_at, ended, answer}
use Rattle.sc_parse_unit.specs.Claims.{NoneBegins, Fails, last_line}
use Rattle.sc_parse_unit.specs.Claims as failing
use Rattle.sc_parse_unit.proofs.Runs.{Leads, same, passed, Limited}
use Rattle.sc_parse_unit.proofs.Units.{reads_all}
use Rattle.sc_parse_unit.proofs.Inside as n
use Rattle.sc_parse_unit.proofs.Inside.{Valid, Fine}
use Rattle.sc_parse_unit.proofs.Closing.{advance-fine}
use Rattle.sc_parse_unit.proofs.Answers.{fails}
use Rattle.sc_parse_unit.proofs.Taken.{taken}
use Rattle.sc_parse_laws.specs.Claims as c
use Rattle.sc_parse_laws.specs.Claims.{opened, Faulty, UnitMark, UnitLimit, in_tree, in_brackets, in_blocks, too_deep}
use Rattle.sc_parse_laws.proofs.Expressions.{no_mark, opened-snoc}
use Rattle.sc_parse_laws.proofs.Clear.{kept_so_far}
use Rattle.sc_parse_laws.proofs.Points.{Told, Tells, advance-told}

-- why the answer is this refusal
abbrev pub Why : List Symbol → X × ℕ → Type 0
Why ts (x.X5, l) = Faulty ts l
Why ts (x.X9 word, l) = UnitMark ts word l
Why ts (x.X10 word, l) = UnitLimit ts word l
Why ts _ = ⊥

run-snoc : (ts : List Symbol) (t : Symbol) (p q : Point) → run p ts ≡ Ok q → run p (ts ++ t ∷ []) ≡ on_ok (λ z. Ok z) (advance t q)
run-snoc [] t p q h = ap (λ (r : Move). on_ok (λ z. on_ok (λ z. Ok z) (advance t z)) r) h
run-snoc (u ∷ us) t p q h = go (λ z i. run-snoc us t z q i) (advance u p) h
  where
    go : ((z : Point) → run z us ≡ Ok q → run z (us ++ t ∷ []) ≡ on_ok (λ z. Ok z) (advance t q)) → (r : Move) → on_ok (λ z. run z us) r ≡ Ok q → on_ok (λ z. run z (us ++ t ∷ [])) r ≡ on_ok (λ z. Ok z) (advance t q)
    go rest (Ok z) h = rest z h
    go rest (Err o) h = absurd cc

then_is : (ts : List Symbol) (t : Symbol) (p : Point) (m : Move) → run start ts ≡ Ok p → advance t p ≡ m → run start (ts ++ t ∷ []) ≡ on_ok (λ z. Ok z) m
then_is ts t p m h i = run-snoc ts t start p h ∙ ap (λ (m : Move). on_ok (λ z. Ok z) m) i

run-stops : (xs ys : List Symbol) (p : Point) (o : Obstacle) → run p xs ≡ Err o → run p (xs ++ ys) ≡ Err o
run-stops [] ys p o h = cc
run-stops (t ∷ xs) ys p o h = go (advance t p) (λ q. run-stops xs ys q o) h
  where
    go : (m : Move) → ((q : Point) → run q xs ≡ Err o → run q (xs ++ ys) ≡ Err o) → on_ok (λ q. run q xs) m ≡ Err o → on_ok (λ q. run q (xs ++ ys)) m ≡ Err o
    go (Ok q) ih h = ih q h
    go (Err e) ih h = h

left_out-unlimited : (which : Mark) → Limited (Err (no.Inner (trouble.LeftOut which))) → ⊥
left_out-unlimited which (inl h) = cc
left_out-unlimited which (inr h) = let i = h.1 in cc

-- No unit begins with tokens that the machine refuses for a mark.
none_begins : (ts : List Symbol) (which : Mark) → run start ts ≡ Err (no.Inner (trouble.LeftOut which)) → NoneBegins ts
none_begins ts which h us all d = go (reads_all d [])
  where
    stops : run start ((ts ++ us) ++ []) ≡ Err (no.Inner (trouble.LeftOut which))
    stops = ap (run start) (append-nil (ts ++ us)) ∙ run-stops ts us start (no.Inner (trouble.LeftOut which)) h

    go : (c : Names) × Leads false (run start ((ts ++ us) ++ [])) (run (c, (a.Unit all ∷ [], at.Due)) []) → ⊥
    go (c, same p) = let q = sym stops ∙ p in cc
    go (c, passed e l) = left_out-unlimited which (subst Limited stops l)

last-snoc : (l : ℕ) (ts : List Symbol) (t : Symbol) → last_line l (ts ++ t ∷ []) ≡ t.line
last-snoc l [] t = refl
last-snoc l (u ∷ us) t = last-snoc u.line us t

at_token : (pre : List Symbol) (t : Symbol) (ts : List Symbol) (p : Point) (last : ℕ) (o : Obstacle) → run start pre ≡ Ok p → advance t p ≡ Err o → Told t p pre o → last_line 1 pre ≡ last → Why (pre ++ t ∷ ts) (refusal o last t.line)
at_token pre t ts p last (no.Inner trouble.Syntax) r i h z = c.at_token pre t ts refl refl (kept_so_far pre start p r)
at_token pre t ts p last (no.Inner (trouble.LeftOut which)) r i h z =
    record { before = pre; t = t; us = ts; which = which; p = p; all = refl; line = refl; named = refl; reads = r; shows = h; none = none_begins (pre ++ t ∷ []) which (then_is pre t p (Err (no.Inner (trouble.LeftOut which))) r i); kept = kept_so_far pre start p r }
at_token pre t ts p last (no.Inner (trouble.Limit limit.Height)) r i h z = in_tree {which = limit.Height} (record { before = pre; us = t ∷ ts; all = refl; line = z; passes = h })
at_token pre t ts p last (no.Inner (trouble.Limit limit.Arguments)) r i h z = in_tree {which = limit.Arguments} (record { before = pre; us = t ∷ ts; all = refl; line = z; passes = h })
at_token pre t ts p last (no.Inner trouble.NoMemory) r i h z = absurd h
at_token pre t ts p last no.Nesting r i h z = in_blocks (record { before = pre; t = t; us = ts; p = p; all = refl; line = refl; reads = r; nested = h })

at_end : (pre : List Symbol) (p : Point) (last : ℕ) (o : Obstacle) → run start pre ≡ Ok p → Told (end_at last) p pre o → last_line 1 pre ≡ last → Why pre (refusal o last last)
at_end pre p last (no.Inner trouble.Syntax) r h z = c.behind_all z (kept_so_far pre start p r)
at_end pre p last (no.Inner (trouble.LeftOut which)) r h z = absurd (no_mark which _ h)
at_end pre p last (no.Inner (trouble.Limit limit.Height)) r h z = in_tree {which = limit.Height} (record { before = pre; us = []; all = sym (append-nil pre); line = z; passes = h })
at_end pre p last (no.Inner (trouble.Limit limit.Arguments)) r h z = in_tree {which = limit.Arguments} (record { before = pre; us = []; all = sym (append-nil pre); line = z; passes = h })
at_end pre p last (no.Inner trouble.NoMemory) r h z = absurd h
at_end pre p last no.Nesting r h z = too_deep (record { p = p; line = z; reads = r; nested = h })

err-same : {u v : X × ℕ} → ◌≡◌ {A = Answer} (Err u) (Err v) → u ≡ v
err-same h = cc

ended-why : (pre : List Symbol) (last : ℕ) (q : Point) (r : X × ℕ) → Faulty pre last → ended last q ≡ Err r → Why pre r
ended-why pre last (c, (a.Unit items ∷ fs, at.Over)) r z h = absurd cc
ended-why pre last _ r z h = subst (Why pre) (err-same h) z

whole_end : (pre : List Symbol) (p : Point) (last : ℕ) (r : X × ℕ) (m : Move) → run start pre ≡ Ok p → Tells (end_at last) p pre m → last_line 1 pre ≡ last → next (ended last) last last m ≡ Err r → Why pre r
whole_end pre p last r (Ok q) i h z w = ended-why pre last q r (c.behind_all z (kept_so_far pre start p i)) w
whole_end pre p last r (Err o) i h z w = subst (Why pre) (err-same w) (at_end pre p last o i h z)

brackets : (pre : List Symbol) (t : Symbol) (ts : List Symbol) (r : X × ℕ) → 500 < opens_with (opened 0 pre) t.kind → ◌≡◌ {A = Answer} (Err (x.X10 (codes "height"), t.line)) (Err r) → Why (pre ++ t ∷ ts) r
brackets pre t ts r m h = subst (Why (pre ++ t ∷ ts)) (err-same h) (in_brackets (record { before = pre; t = t; us = ts; all = refl; line = refl; many = rw (opened-snoc 0 pre t) m }))

why : (ts pre : List Symbol) (last : ℕ) (p : Point) (r : X × ℕ) → run start pre ≡ Ok p → Valid p pre → last_line 1 pre ≡ last → answer (opened 0 pre) last p ts ≡ Err r → Why (pre ++ ts) r
why [] pre last p r i v z h = rw (append-nil pre) (whole_end pre p last r (advance (end_at last) p) i (advance-told p (end_at last) pre v) z h)
why (t ∷ ts) pre last p r i v z h = deep
    (λ q j y w. subst (λ us. Why us r) (append_assoc pre (t ∷ []) ts)
    (why ts (pre ++ t ∷ []) t.line q r (then_is pre t p (Ok q) i j) y (last-snoc 1 pre t) (rw (opened-snoc 0 pre t) w)))
    (nat_lt 500 (opens_with (opened 0 pre) t.kind)) refl h
  where
    go : ((q : Point) → advance t p ≡ Ok q → Valid q (pre ++ t ∷ []) → answer (opens_with (opened 0 pre) t.kind) t.line q ts ≡ Err r → Why (pre ++ t ∷ ts) r) →
        (m : Move) → advance t p ≡ m → Fine m (pre ++ t ∷ []) → Tells t p pre m → next (λ q. answer (opens_with (opened 0 pre) t.kind) t.line q ts) last t.line m ≡ Err r → Why (pre ++ t ∷ ts) r
    go rest (Ok q) j y w h = rest q j y h
    go rest (Err o) j y w h = subst (Why (pre ++ t ∷ ts)) (err-same h) (at_token pre t ts p last o i j w z)

    deep : ((q : Point) → advance t p ≡ Ok q → Valid q (pre ++ t ∷ []) → answer (opens_with (opened 0 pre) t.kind) t.line q ts ≡ Err r → Why (pre ++ t ∷ ts) r) → (b : Bool) → nat_lt 500 (opens_with (opened 0 pre) t.kind) ≡ b →
        (if b then Err (x.X10 (codes "height"), t.line) else next (λ q. answer (opens_with (opened 0 pre) t.kind) t.line q ts) last t.line (advance t p)) ≡ Err r → Why (pre ++ t ∷ ts) r
    deep rest true j h = brackets pre t ts r (ltb-true _ _ j) h
    deep rest false j h = go rest (advance t p) refl (advance-fine p t pre v) (advance-told p t pre v) h

pub whole : (ts : List Symbol) (r : X × ℕ) → answer 0 1 start ts ≡ Err r → Why ts r
whole ts r h = why ts [] 1 start r refl (n.at_file g.no_external) refl h

pub names_no_mark : (ts : List Symbol) (l : ℕ) → answer 0 1 start ts ≡ Err (x.X5, l) → Faulty ts l
names_no_mark ts l h = whole ts (x.X5, l) h

pub names_unit_mark : (ts : List Symbol) (word : List ℕ) (l : ℕ) → answer 0 1 start ts ≡ Err (x.X9 word, l) → UnitMark ts word l
names_unit_mark ts word l h = whole ts (x.X9 word, l) h

pub names_unit_limit : (ts : List Symbol) (word : List ℕ) (l : ℕ) → answer 0 1 start ts ≡ Err (x.X10 word, l) → UnitLimit ts word l
names_unit_limit ts word l h = whole ts (x.X10 word, l) h

-- At most 500 brackets are open in what is found.
pub within : (ts : List Symbol) (m last : ℕ) (p : Point) (items : List External) → answer m last p ts ≡ Ok items → AreShallow m ts
within [] m last p items h = tt
within (t ∷ ts) m last p items h = deep (λ q w. within ts (opens_with m t.kind) t.line q items w) (nat_lt 500 (opens_with m t.kind)) refl h
  where
    go : ((q : Point) → answer (opens_with m t.kind) t.line q ts ≡ Ok items → AreShallow (opens_with m t.kind) ts) → (r : Move) →
        next (λ q. answer (opens_with m t.kind) t.line q ts) last t.line r ≡ Ok items → AreShallow (opens_with m t.kind) ts
    go rest (Ok q) h = rest q h
    go rest (Err o) h = absurd cc

    deep : ((q : Point) → answer (opens_with m t.kind) t.line q ts ≡ Ok items → AreShallow (opens_with m t.kind) ts) → (b : Bool) → nat_lt 500 (opens_with m t.kind) ≡ b →
        (if b then Err (x.X10 (codes "height"), t.line) else next (λ q. answer (opens_with m t.kind) t.line q ts) last t.line (advance t p)) ≡ Ok items → AreShallow m (t ∷ ts)
    deep rest true j h = absurd cc
    deep rest false j h = (ltb-false _ _ j, go rest (advance t p) h)

begun : (ts before us : List Symbol) (t : Symbol) (all : List External) → ts ≡ before ++ t ∷ us → IsUnit false ts all → IsUnit false ((before ++ t ∷ []) ++ us) all
begun ts before us t all a d = subst (λ z. IsUnit false z all) (a ∙ sym (append_assoc before (t ∷ []) us)) d

no_fault : (l : ℕ) (ts : List Symbol) (all : List External) → IsUnit false ts all → Fails l ts → ⊥
no_fault l ts all d (failing.at_token before t us a z none) = none us all (begun ts before us t all a d)
no_fault l ts all d (failing.at_end z none) = none all d

pub refuses_beyond : (ts : List Symbol) (all : List External) → IsUnit false ts all → ((them : List External) → IsUnit true ts them → AreShallow 0 ts → ⊥) →
    (word : List ℕ) × (l : ℕ) × (answer 0 1 start ts ≡ Err (x.X10 word, l))
refuses_beyond ts all d out = go (answer 0 1 start ts) refl
  where
    go : (r : Answer) → answer 0 1 start ts ≡ r → (word : List ℕ) × (l : ℕ) × (answer 0 1 start ts ≡ Err (x.X10 word, l))
    go (Ok them) h = absurd (out them (taken ts them h) (within ts 0 1 start them h))
    go (Err (x.X10 word, l)) h = (word, l, h)
    go (Err (x.X5, l)) h = absurd (no_fault l ts all d (fails ts l h))
    go (Err (x.X9 word, l)) h = let m = names_unit_mark ts word l h in absurd (m.none m.us all (begun ts m.before m.us m.t all m.all d))
    go (Err (_, l)) h = absurd (whole ts _ h)
