-- What it takes to compare what parts of the meaning give in two worlds.
use Rattle.std.proofs.Common.{◌≡◌, ℕ, Bool, true, false, if◌then◌else◌, List, [], ◌∷◌, map, Option, Some, None, refl, sym, ap, ◌∙◌, subst}
use Rattle.sc_base.specs.declared.report.Rule.{Rule}
use Rattle.sc_meaning.specs.Values.{Value}
use Rattle.sc_meaning.specs.World.{World, Frame, Item, Event, Work, pass}
use Rattle.sc_meaning.specs.Outcomes.{Outcome, Done, Over, Ending, Undefined, Breach, and_then, breach, undefined, unless, access_breach}
use Rattle.sc_meaning.specs.Versions.{Text, History, version_at}
use Rattle.sc_meaning.specs.Changes.{at_line, happened}
use Rattle.sc_meaning.specs.Expressions.{either}
use Rattle.sc_like.specs.Alike.{formless, lineless}
use Rattle.sc_like.specs.Outcomes.{EndsAlike}
use Rattle.sc_like.proofs.Keeping.{line_once}

-- A relation of worlds, and one of outcomes, which every way of putting parts together keeps. Work may differ.
pub record Pairs : Type 1 where
  pub L : World → World → Type 0
  pub Rel : {A : Type 0} → Outcome A → Outcome A → Type 0
  pub same : (w w' : World) → L w w' → formless w ≡ formless w'
  pub passes : (i : Item) (w w' : World) → L w w' → L (pass i w) (pass i w')
  pub works : (m n : ℕ) (w w' : World) → L w w' → L (pass (Work m) w) (pass (Work n) w')
  pub done : {A : Type 0} (a : A) (w w' : World) → L w w' → Rel (Done a w) (Done a w')
  pub over : {A : Type 0} (e f : Ending) → EndsAlike L e f → Rel {A = A} (Over e) (Over f)
  pub bind : {A B : Type 0} (r s : Outcome A) (f g : A → World → Outcome B) → Rel r s → ((a : A) (w w' : World) → L w w' → Rel (f a w) (g a w')) → Rel (and_then r f) (and_then s g)

-- two histories, under which events and look-ups are related
pub record Histories (P : Pairs) (h k : History) : Type 1 where
  pub happens : (e : Event) (w w' : World) → P.L w w' → P.Rel (happened h e w) (happened k e w')
  pub versions : {A : Type 0} (w w' : World) (f g : List Text → Outcome A) → P.L w w' → ((t : List Text) → P.Rel (f t) (g t)) → P.Rel (f (version_at h w.count)) (g (version_at k w'.count))

-- ---- what is read of calls

breach_told : (rule : Rule) (w : World) (fs : List Frame) → breach rule (record w { frames = fs }) ≡ breach rule (record (formless w) { frames = map lineless fs })
breach_told rule w [] = refl
breach_told rule w (f ∷ fs) = ap (λ l. record (breach rule (record w { frames = f ∷ fs })) { line = l }) (line_once f.form f.line)

line_told : (fs : List Frame) (l : ℕ) → at_line fs l ≡ at_line (map lineless fs) l
line_told [] l = refl
line_told (f ∷ fs) l = refl

module _ (P : Pairs) where
  -- what can be told from what is the same
  pub read : {X : Type 0} (F : World → X) → ((u : World) → F u ≡ F (formless u)) → (w w' : World) → P.L w w' → F w ≡ F w'
  read F told w w' l = told w ∙ ap F (P.same w w' l) ∙ sym (told w')

  pub objects_same : (w w' : World) → P.L w w' → w.objects ≡ w'.objects
  objects_same w w' l = ap (λ u. u.objects) (P.same w w' l)

  pub breach_same : (rule : Rule) (w w' : World) → P.L w w' → breach rule w ≡ breach rule w'
  breach_same rule w w' l = read (breach rule) (λ u. breach_told rule u u.frames) w w' l

  pub line_same : (n : ℕ) (w w' : World) → P.L w w' → at_line w.frames n ≡ at_line w'.frames n
  line_same n w w' l = line_told w.frames n ∙ ap (λ u. at_line u.frames n) (P.same w w' l) ∙ sym (line_told w'.frames n)

  pub access_same : (p : Value) (further n : ℕ) (w w' : World) → P.L w w' → (r : Rule) → access_breach p further n w r ≡ access_breach p further n w' r
  access_same p further n w w' l r = read (λ u. access_breach p further n u r) (λ u. ap (λ (b : Breach). record b { at = (access_breach p further n u r).at; size = n }) (breach_told r u u.frames)) w w' l

  -- ---- steps

  pub same_done : {A : Type 0} (a : A) (w w' : World) → P.L w w' → P.Rel (Done a w) (Done a w')
  same_done a w w' l = P.done a w w' l

  pub done_as : {A : Type 0} (a b : A) (w w' : World) → a ≡ b → P.L w w' → P.Rel (Done a w) (Done b w')
  done_as a b w w' e l = subst (λ c. P.Rel (Done a w) (Done c w')) e (P.done a w w' l)

  pub passes_as : (i j : Item) (w w' : World) → i ≡ j → P.L w w' → P.L (pass i w) (pass j w')
  passes_as i j w w' e l = subst (λ k. P.L (pass i w) (pass k w')) e (P.passes i w w' l)

  pub done_after : {A : Type 0} (a : A) (i : Item) (w w' : World) → P.L w w' → P.Rel (Done a (pass i w)) (Done a (pass i w'))
  done_after a i w w' l = P.done a (pass i w) (pass i w') (P.passes i w w' l)

  pub done_after_two : {A : Type 0} (a : A) (i j : Item) (w w' : World) → P.L w w' → P.Rel (Done a (pass j (pass i w))) (Done a (pass j (pass i w')))
  done_after_two a i j w w' l = done_after a j (pass i w) (pass i w') (P.passes i w w' l)

  pub stops : {A : Type 0} (b b' : Breach) (w w' : World) → b ≡ b' → P.L w w' → P.Rel {A = A} (undefined b w) (undefined b' w')
  stops {A} b b' w w' e l = subst (λ c. P.Rel {A = A} (undefined b w) (undefined c w')) e (P.over (Undefined b w) (Undefined b w') (w', l, refl))

  unless_alike : {A : Type 0} (rule : Option Rule) (told told' : Rule → Breach) (f g : World → Outcome A) (w w' : World) → ((r : Rule) → told r ≡ told' r) → P.L w w' → P.Rel (f w) (g w') → P.Rel (unless rule told f w) (unless rule told' g w')
  unless_alike None told told' f g w w' q l h = h
  unless_alike (Some r) told told' f g w w' q l h = stops (told r) (told' r) w w' (q r) l

  pub unless_goes : {A : Type 0} (rule rule' : Option Rule) (told told' : Rule → Breach) (f g : World → Outcome A) (w w' : World) → rule ≡ rule' → ((r : Rule) → told r ≡ told' r) → P.L w w' → P.Rel (f w) (g w') → P.Rel (unless rule told f w) (unless rule' told' g w')
  unless_goes rule rule' told told' f g w w' e q l h = subst (λ x. P.Rel (unless rule told f w) (unless x told' g w')) e (unless_alike rule told told' f g w w' q l h)

  pub either_goes : {A : Type 0} (b : Bool) (f f' g g' : World → Outcome A) (w w' : World) → P.Rel (f w) (f' w') → P.Rel (g w) (g' w') → P.Rel (either b f g w) (either b f' g' w')
  either_goes true f f' g g' w w' p q = p
  either_goes false f f' g g' w w' p q = q

  pub either_as : {A : Type 0} (b c : Bool) (f f' g g' : World → Outcome A) (w w' : World) → b ≡ c → P.Rel (f w) (f' w') → P.Rel (g w) (g' w') → P.Rel (either b f g w) (either c f' g' w')
  either_as b c f f' g g' w w' e p q = subst (λ x. P.Rel (either b f g w) (either x f' g' w')) e (either_goes b f f' g g' w w' p q)

  pub if_goes : {A : Type 0} (b : Bool) (r r' s s' : Outcome A) → P.Rel r r' → P.Rel s s' → P.Rel (if b then r else s) (if b then r' else s')
  if_goes true r r' s s' p q = p
  if_goes false r r' s s' p q = q
