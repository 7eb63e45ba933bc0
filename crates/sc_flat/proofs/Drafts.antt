-- A list that is written: one more instruction, some more steps that wait, one more label, a label that gets its place.
use Rattle.std.proofs.Common.{◌≡◌, ◌≢◌, ◌⊎◌, inl, inr, ℕ, zero, suc, ◌+◌, ◌-◌, ◌<◌, ◌≤◌, true, false, List, [], ◌∷◌, ◌++◌, length, refl, sym, ap, subst, ◌∙◌, Some, None, length-append, arith}
use Rattle.std.specs.Prelude.{◌==◌, nat_lt, if◌then◌else◌, slice_get, slice_set}
use Rattle.std.proofs.lemmas.Bool.Decides.{nat_tests}
use Rattle.std.proofs.lemmas.Option.{slice_get_within}
use Rattle.sc_meaning.specs.Versions.{Text}
use Rattle.sc_flat.specs.declared.instruction.Instruction.{Instruction}
use Rattle.sc_flat.specs.declared.instruction.Operation.TheVariants.{Pass}
use Rattle.sc_flat.specs.Instructions.{later}
use Rattle.sc_flat.specs.Lists.{Stand, Labels, IsMove, Slides, Draft, Waits, Carries, Grow, Extends}
use Rattle.sc_flat.specs.Drafts.{snoc, pushed, passed, slid, labelled, marked}
use Rattle.sc_flat.specs.Written.{with_label, Slid, Pushed, Labelled, Marked}
use Rattle.sc_flat.proofs.Moves.{slides_join, waits_slide, moves_later, moves_within, pass_moves, moves_grown, grow_none, grow_on}

lt_is : (m n : ℕ) → m < n → nat_lt m n ≡ true
lt_is m n h = grind (arith, nat_tests)

lt_not : (m n : ℕ) → n ≤ m → nat_lt m n ≡ false
lt_not m n h = grind (arith, nat_tests)

pub eq_self : (n : ℕ) → (n == n) ≡ true
eq_self n = grind (arith, nat_tests)

pub eq_not : (m n : ℕ) → m ≢ n → (m == n) ≡ false
eq_not m n h = grind (arith, nat_tests)

-- what stands at a place of two lists
part_at : {A : Type 0} (xs ys : List A) (i : ℕ) (z : A) → slice_get (xs ++ ys) i ≡ Some z → (slice_get xs i ≡ Some z) ⊎ ((j : ℕ) × (i ≡ length xs + j) × (slice_get ys j ≡ Some z))
part_at [] ys i z g = inr (i, omega arith, g)
part_at (x ∷ xs) ys zero z g = inl g
part_at (x ∷ xs) ys (suc i) z g = on (part_at xs ys i z g) where
  on : (slice_get xs i ≡ Some z) ⊎ ((j : ℕ) × (i ≡ length xs + j) × (slice_get ys j ≡ Some z)) → (slice_get (x ∷ xs) (suc i) ≡ Some z) ⊎ ((j : ℕ) × (suc i ≡ length (x ∷ xs) + j) × (slice_get ys j ≡ Some z))
  on (inl h) = inl h
  on (inr (j, e, h)) = inr (j, omega (arith, e), h)

last_is : {A : Type 0} (y z : A) (j : ℕ) → slice_get (y ∷ []) j ≡ Some z → (j ≡ 0) × (y ≡ z)
last_is y z zero g = (refl, cc)
last_is y z (suc j) g = absurd (cc)

module _ (texts : List Text) where
  abbrev stands_on : ℕ → (ℕ → Stand) → Stand → ℕ → Stand
  stands_on n stands r i = if nat_lt n i then r else stands i

  before : (n : ℕ) (stands : ℕ → Stand) (r : Stand) (i : ℕ) → i ≤ n → stands_on n stands r i ≡ stands i
  before n stands r i h = ap (λ b. if b then r else stands i) (lt_not n i h)

  behind : (n : ℕ) (stands : ℕ → Stand) (r : Stand) (i : ℕ) → n < i → stands_on n stands r i ≡ r
  behind n stands r i h = ap (λ b. if b then r else stands i) (lt_is n i h)

  module _ (ls : Labels) (d : Draft) (p q r : Stand) (x : Instruction) (c : Carries texts ls d p q) (m : IsMove texts 8 ls (c.stands (length d.code)) r x) where
    abbrev here : ℕ
    here = length d.code

    abbrev stands : ℕ → Stand
    stands = stands_on here c.stands r

    all : length (d.code ++ x ∷ []) ≡ suc here
    all = length-append d.code (x ∷ []) ∙ (let e : here + 1 ≡ suc here = omega arith in e)

    moves_here : IsMove texts 8 ls (stands here) (stands (suc here)) x
    moves_here =
        subst (λ (s : Stand). IsMove texts 8 ls s (stands (suc here)) x) (sym (before here c.stands r here (omega arith)))
        (subst (λ (s : Stand). IsMove texts 8 ls (c.stands here) s x) (sym (behind here c.stands r (suc here) (omega arith))) m)

    moves_before : (i : ℕ) (z : Instruction) → slice_get d.code i ≡ Some z → IsMove texts 8 ls (stands i) (stands (suc i)) z
    moves_before i z g =
        let within = slice_get_within d.code i z g in
        subst (λ (s : Stand). IsMove texts 8 ls s (stands (suc i)) z) (sym (before here c.stands r i (omega (arith, within))))
        (subst (λ (s : Stand). IsMove texts 8 ls (c.stands i) s z) (sym (before here c.stands r (suc i) (omega (arith, within)))) (c.moves i z g))

    moves_all : (i : ℕ) (z : Instruction) → slice_get (d.code ++ x ∷ []) i ≡ Some z → IsMove texts 8 ls (stands i) (stands (suc i)) z
    moves_all i z g = by (part_at d.code (x ∷ []) i z g) where
      by : (slice_get d.code i ≡ Some z) ⊎ ((j : ℕ) × (i ≡ length d.code + j) × (slice_get (x ∷ []) j ≡ Some z)) → IsMove texts 8 ls (stands i) (stands (suc i)) z
      by (inl h) = moves_before i z h
      by (inr (j, e, h)) =
          let (zeroth, same) = last_is x z j h in
          let at : here ≡ i = omega (arith, e, zeroth) in
          subst (λ (y : Instruction). IsMove texts 8 ls (stands i) (stands (suc i)) y) same (subst (λ i. IsMove texts 8 ls (stands i) (stands (suc i)) x) at moves_here)

    bound : (l i : ℕ) → slice_get d.places l ≡ Some (Some i) → (i ≤ length (d.code ++ x ∷ [])) × (stands i ≡ ls.stands l)
    bound l i g =
        let (few, same) = c.bound l i g in
        let more = all in
        (omega (arith, few, more), before here c.stands r i few ∙ same)

    -- one more instruction, from the point behind the last one
    pub carries_snoc : Carries texts ls (snoc d x) p r
    carries_snoc = record {
      stands = stands;
      begins = before here c.stands r 0 (omega arith) ∙ c.begins;
      moves = moves_all;
      ends = (refl, ap stands all ∙ behind here c.stands r (suc here) (omega arith));
      count = c.count;
      bound = bound;
    }

  -- one more, behind what waits
  pub carries_push : (ls : Labels) (d : Draft) (p q r : Stand) (x : Instruction) (most : ℕ) → Carries texts ls d p q → IsMove texts most ls q r x → d.steps + most ≤ 8 → Carries texts ls (pushed d x) p r
  carries_push ls d p q r x most c m small =
      let s = waits_slide texts d.steps d.work (c.stands (length d.code)) q c.ends in
      carries_snoc ls d p q r (later d.work x) c
      (moves_within texts (d.steps + most) 8 ls (c.stands (length d.code)) r (later d.work x) small (moves_later texts d.steps d.work most ls (c.stands (length d.code)) q r x s m))

  -- what waits is made
  pub carries_pass : (ls : Labels) (d : Draft) (p q : Stand) (k : ℕ) → Carries texts ls d p q → d.steps ≡ suc k → suc k ≤ 8 → Carries texts ls (passed d) p q
  carries_pass ls d p q k c e small =
      let s = waits_slide texts d.steps d.work (c.stands (length d.code)) q c.ends in
      carries_snoc ls d p q q (record { work = d.work; operation = Pass; label = None }) c
      (moves_within texts (suc k) 8 ls (c.stands (length d.code)) q (record { work = d.work; operation = Pass; label = None }) small
      (pass_moves texts k d.work ls (c.stands (length d.code)) q (subst (λ j. Slides texts j d.work (c.stands (length d.code)) q) e s)))

  -- one more step waits
  pub carries_slide : (ls : Labels) (d : Draft) (p q r : Stand) (n : ℕ) → Carries texts ls d p q → Slides texts 1 n q r → Carries texts ls (slid d n) p r
  carries_slide ls d p q r n c one =
      let s = waits_slide texts d.steps d.work (c.stands (length d.code)) q c.ends in
      let two : Slides texts (d.steps + 1) (n + d.work) (c.stands (length d.code)) r = slides_join texts d.steps 1 d.work n (c.stands (length d.code)) q r s one in
      let e : d.steps + 1 ≡ suc d.steps = omega arith in
      let m : n + d.work ≡ d.work + n = omega arith in
      record {
        stands = c.stands;
        begins = c.begins;
        moves = c.moves;
        ends = subst (λ j. Waits texts j (d.work + n) (c.stands (length d.code)) r) (sym e) (subst (λ k. Slides texts (suc d.steps) k (c.stands (length d.code)) r) m (subst (λ j. Slides texts j (n + d.work) (c.stands (length d.code)) r) e two));
        count = c.count;
        bound = c.bound;
      }

  -- ---- labels

  pub new_stands : (ls : Labels) (s : Stand) → (with_label ls s).stands ls.count ≡ s
  new_stands ls s = ap (λ b. if b then s else ls.stands ls.count) (eq_self ls.count)

  pub old_stands : (ls : Labels) (s : Stand) (l : ℕ) → l < ls.count → (with_label ls s).stands l ≡ ls.stands l
  old_stands ls s l few = ap (λ b. if b then s else ls.stands l) (eq_not l ls.count (λ e. omega (arith, few, e)))

  pub label_grows : (ls : Labels) (s : Stand) → Grow ls (with_label ls s)
  label_grows ls s = record { count = omega arith; same = λ l few. old_stands ls s l few }

  -- one more, which has no place yet
  pub carries_label : (ls : Labels) (d : Draft) (p q s : Stand) → Carries texts ls d p q → Carries texts (with_label ls s) (labelled d) p q
  carries_label ls d p q s c = record {
    stands = c.stands;
    begins = c.begins;
    moves = λ i x g. moves_grown texts 8 ls (with_label ls s) (c.stands i) (c.stands (suc i)) x (label_grows ls s) (c.moves i x g);
    ends = c.ends;
    count = length-append d.places (None ∷ []) ∙ (let n = c.count in let e : length d.places + 1 ≡ suc ls.count = omega (arith, n) in e);
    bound = λ l i g. placed l i (part_at d.places (None ∷ []) l (Some i) g);
  } where
    placed : (l i : ℕ) → (slice_get d.places l ≡ Some (Some i)) ⊎ ((j : ℕ) × (l ≡ length d.places + j) × (slice_get (None ∷ []) j ≡ Some (Some i))) → (i ≤ length d.code) × (c.stands i ≡ (with_label ls s).stands l)
    placed l i (inl h) =
        let (few, same) = c.bound l i h in
        let within = slice_get_within d.places l (Some i) h in
        let n = c.count in
        (few, same ∙ sym (old_stands ls s l (omega (arith, within, n))))
    placed l i (inr (j, e, h)) = absurd (none j h) where
      none : (j : ℕ) → slice_get (None ∷ []) j ≡ Some (Some i) → ⊥
      none zero h = absurd (cc)
      none (suc j) h = absurd (cc)

  -- a label gets its place where nothing waits
  pub carries_mark : (ls : Labels) (d : Draft) (p q : Stand) (l : ℕ) → Carries texts ls d p q → d.steps ≡ 0 → ls.stands l ≡ q → Carries texts ls (marked d l) p q
  carries_mark ls d p q l c none here = record {
    stands = c.stands;
    begins = c.begins;
    moves = c.moves;
    ends = c.ends;
    count = length_set d.places l (Some (length d.code)) ∙ c.count;
    bound = λ m i g. placed m i (set_at d.places l (Some (length d.code)) m (Some i) g);
  } where
    length_set : {A : Type 0} (xs : List A) (i : ℕ) (x : A) → length (slice_set xs i x) ≡ length xs
    length_set [] i x = refl
    length_set (y ∷ ys) zero x = refl
    length_set (y ∷ ys) (suc i) x = ap suc (length_set ys i x)

    set_at : {A : Type 0} (xs : List A) (i : ℕ) (x : A) (j : ℕ) (z : A) → slice_get (slice_set xs i x) j ≡ Some z → (slice_get xs j ≡ Some z) ⊎ ((j ≡ i) × (x ≡ z))
    set_at [] i x j z g = inl g
    set_at (y ∷ ys) zero x zero z g = inr (refl, cc)
    set_at (y ∷ ys) zero x (suc j) z g = inl g
    set_at (y ∷ ys) (suc i) x zero z g = inl g
    set_at (y ∷ ys) (suc i) x (suc j) z g = on (set_at ys i x j z g) where
      on : (slice_get ys j ≡ Some z) ⊎ ((j ≡ i) × (x ≡ z)) → (slice_get ys j ≡ Some z) ⊎ ((suc j ≡ suc i) × (x ≡ z))
      on (inl h) = inl h
      on (inr (e, same)) = inr (ap suc e, same)

    stands_here : Waits texts 0 d.work (c.stands (length d.code)) q → c.stands (length d.code) ≡ ls.stands l
    stands_here (e, same) = same ∙ sym here

    placed : (m i : ℕ) → (slice_get d.places m ≡ Some (Some i)) ⊎ ((m ≡ l) × (Some (length d.code) ≡ Some i)) → (i ≤ length d.code) × (c.stands i ≡ ls.stands m)
    placed m i (inl h) = c.bound m i h
    placed m i (inr (e, at)) =
        let same : length d.code ≡ i = cc in
        let there = stands_here (subst (λ k. Waits texts k d.work (c.stands (length d.code)) q) none c.ends) in
        (omega (arith, same), subst (λ (j : ℕ). c.stands j ≡ ls.stands m) same (there ∙ ap ls.stands (sym e)))

  pub extends_none : (d : Draft) (q : Stand) → Extends texts d d q q
  extends_none d q ls p c = (ls, grow_none ls, c)

  pub extends_on : (a b c : Draft) (p q r : Stand) → Extends texts a b p q → Extends texts b c q r → Extends texts a c p r
  extends_on a b c p q r x y ls s one =
      let (ms, first, two) = x ls s one in
      let (ns, second, three) = y ms s two in
      (ns, grow_on ls ms ns first second, three)

  pub slid_extends : (old new : Draft) (work : ℕ) (q r : Stand) → Slid texts old new work → Slides texts 1 work q r → Extends texts old new q r
  slid_extends old new work q r slid one ls p c = (ls, grow_none ls, slid ls p q r c one)

  pub pushed_extends : (old new : Draft) (x : Instruction) (q r : Stand) → Pushed texts old new x → ((ls : Labels) → IsMove texts 1 ls q r x) → Extends texts old new q r
  pushed_extends old new x q r pushed one ls p c = (ls, grow_none ls, pushed ls p q r c (one ls))

  -- ---- what the parts of the writer do

  pub slid_leads : (d : Draft) (n : ℕ) → Slid texts d (slid d n) n
  slid_leads d n ls p q r c s = carries_slide ls d p q r n c s

  pub passed_slid : (d : Draft) (n : ℕ) → d.steps ≡ 7 → Slid texts d (slid (passed d) n) n
  passed_slid d n e ls p q r c s = carries_slide ls (passed d) p q r n (carries_pass ls d p q 6 c e (omega arith)) s

  pub push_leads : (d : Draft) (x : Instruction) → d.steps ≤ 7 → Pushed texts d (pushed d x) x
  push_leads d x few ls p q r c m = carries_push ls d p q r x 1 c m (omega (arith, few))

  pub label_leads : (d e : Draft) (l : ℕ) → e ≡ labelled d → l ≡ length d.places → Labelled texts d e l
  label_leads d e l is number = subst (λ (x : Draft). Labelled texts d x l) (sym is) (record { number = number; leads = λ ls p q s c. carries_label ls d p q s c })

  pub mark_leads : (d : Draft) (l : ℕ) → d.steps ≡ 0 → Marked texts d (marked d l) l
  mark_leads d l none ls p q c here = carries_mark ls d p q l c none here

  pub mark_none : (d : Draft) (l : ℕ) → Marked texts d d l
  mark_none d l ls p q c here = c

  -- the same behind what waited
  pub passed_mark : (d e : Draft) (l : ℕ) → 1 ≤ d.steps → d.steps ≤ 7 → Marked texts (passed d) e l → Marked texts d e l
  passed_mark d e l some few mark ls p q c here =
      let is : d.steps ≡ suc (d.steps - 1) = omega (arith, some) in
      mark ls p q (carries_pass ls d p q (d.steps - 1) c is (omega (arith, is, few))) here
