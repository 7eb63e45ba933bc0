-- What a step of a run changes is lawful.
use Rattle.std.proofs.Common.{◌≡◌, ◌⊎◌, inl, inr, ℕ, zero, suc, ◌+◌, ◌-◌, ◌≤◌, nat_le, nat_lt, Bool, true, false, if◌then◌else◌, List, [], ◌∷◌, ◌++◌, length, slice_index_or, Option, Some, None, refl, sym, ap, subst, arith}
use Rattle.std.specs.Prelude.{slice_set}
use Rattle.std.proofs.lemmas.List.{length-append}
use Rattle.sc_base.specs.declared.key.Key.{Key}
use Rattle.sc_base.specs.declared.report.Rule.{Rule}
use Rattle.sc_core.specs.declared.module.Auto.{Auto}
use Rattle.sc_core.specs.declared.module.Fun.{Fun}
use Rattle.sc_meaning.specs.Values.{Value, Number, FunctionAt, Pointer, Cell, cells_of}
use Rattle.sc_meaning.specs.World.{World, Object, Item, Event, Enter, Leave, Happens, Birth, Put, Push, Pop, Stack, OpenBlock, Born, object_at, with_object, written, overwritten, fresh, pass}
use Rattle.sc_meaning.specs.declared.spot.Spot.TheVariants.{Slot}
use Rattle.sc_meaning.specs.Outcomes.{Outcome, Done, Over, BirthLimit, and_then, world_after, went}
use Rattle.sc_meaning.specs.Accesses.{set_at}
use Rattle.sc_meaning.specs.Versions.{Text, History, Callee, Missing, InText, InLibrary, callee_of, version_at}
use Rattle.sc_meaning.specs.Changes.{happened, at_line, reached}
use Rattle.sc_meaning.specs.Expressions.{Env, value_rule}
use Rattle.sc_meaning.specs.Statements.{Way, all_dead, auto_kind}
use Rattle.sc_meaning.specs.Functions.{library_call}
use Rattle.sc_meaning.specs.Calls.{parameters, frame_of, left, answer_of}
use Rattle.sc_interp_machine.specs.Bodies as body
use Rattle.sc_interp_machine.specs.Runs.{Active, Caller, State, Runs, Makes, Answers, Ends, then_goes as then_next, answers, body_next, begins, enters, callee_next, value_next, made_unless, advance}
use Rattle.sc_interp_machine.specs.declared.body.Doing.TheVariants.{Exec}
use Rattle.sc_interp_laws.specs.Worlds.{body_left, world_of}
use Rattle.sc_interp_laws.specs.Lawful.{IsIn, Along, IsOwn, IsOfHeap, IsEntry, own_of, Lawfully}
use Rattle.sc_interp_laws.proofs.Lawfully.{along_here, along_on, along_one, OwnWriting}
use Rattle.sc_interp_laws.proofs.BodySteps.{in_front, in_back}
use Rattle.sc_interp_laws.proofs.BodySteps as bodies
use Rattle.sc_interp_laws.proofs.LibraryLawful as library

-- along any law
module _ (L : World → Item → Type 0) where
  then_along : {A B : Type 0} (w : World) (r : Outcome A) (f : A → World → Outcome B) → Along L w (world_after r) → ((a : A) (v : World) → Along L v (world_after (f a v))) → Along L w (world_after (and_then r f))
  then_along w (Done a v) f l q = along_on L w v (world_after (f a v)) l (q a v)
  then_along w (Over e) f l q = l

  next_along : {A : Type 0} (w : World) (r : Outcome A) (go : A → World → State) → Along L w (world_after r) → ((a : A) (v : World) → Along L v (world_of (go a v))) → Along L w (world_of (then_next r go))
  next_along w (Done a v) go l q = along_on L w v (world_of (go a v)) l (q a v)
  next_along w (Over e) go l q = l

  module _ (h : History) (still : (e : Event) (w : World) → happened h e w ≡ went (pass (Happens e) w)) (free : (e : Event) (w : World) → L w (Happens e)) where
    event_along : (e : Event) (w : World) → Along L w (world_after (happened h e w))
    event_along e w = subst (λ r. Along L w (world_after r)) (sym (still e w)) (along_one L (Happens e) w (free e w))

module _ (h : History) (still : (e : Event) (w : World) → happened h e w ≡ went (pass (Happens e) w)) (own : List ℕ) where
  here : (w : World) → Along (IsOwn own) w w
  here w = along_here (IsOwn own) w

  on : (w v u : World) → Along (IsOwn own) w v → Along (IsOwn own) v u → Along (IsOwn own) w u
  on w v u p q = along_on (IsOwn own) w v u p q

  event : (e : Event) (w : World) → Along (IsOwn own) w (world_after (happened h e w))
  event e w = event_along (IsOwn own) h still (λ e w. tt) e w

  left_own : (ids : List ℕ) (cost : ℕ) (way : Way) (w : World) → ((id : ℕ) → IsIn id ids → IsIn id own) → Along (IsOwn own) w (world_after (left h ids cost way w))
  left_own ids cost way w o =
      let x : World = all_dead ids w in
      let v : World = pass Pop x in
      let u : World = pass (Stack (w.used - cost)) v in
      then_along (IsOwn own) w (happened h Leave u) (λ x y. Done (answer_of way) y)
      (on w x (world_after (happened h Leave u)) (bodies.dead_go (OwnWriting own) ids w o) (on x v (world_after (happened h Leave u)) (along_one (IsOwn own) Pop x tt) (on v u (world_after (happened h Leave u)) (along_one (IsOwn own) (Stack (w.used - cost)) v tt) (event Leave u))))
      (λ x y. here y)

  step_own : (b : body.Advanced) (a : Active) (cs : List Caller) (w : World) → ((id : ℕ) → IsIn id a.ids → IsIn id own) → Along (IsOwn own) w (body_left b) → Along (IsOwn own) w (world_of (body_next h b a cs))
  step_own (body.GoesOn mode ss env v) a cs w o l = l
  step_own (body.Lines n mode ss env v) a cs w o l =
      on w v (world_of (then_next (reached h n v) (λ _ u. Runs mode ss env a cs u))) l
      (next_along (IsOwn own) v (reached h n v) (λ _ u. Runs mode ss env a cs u) (event (at_line v.frames n) v) (λ x u. here u))
  step_own (body.CallsOut t x vs is u ss env v) a cs w o l = l
  step_own (body.Leaves way v) a cs w o l =
      on w v (world_of (answers cs (left h a.ids a.cost way v))) l (next_along (IsOwn own) v (left h a.ids a.cost way v) (λ a w. Answers a cs w) (left_own a.ids a.cost way v o) (λ a u. here u))
  step_own (body.Breaks e) a cs w o l = l

-- parameters are new
length_set : {X : Type 0} (xs : List X) (i : ℕ) (x : X) → length (slice_set xs i x) ≡ length xs
length_set [] i x = refl
length_set (y ∷ xs) zero x = refl
length_set (y ∷ xs) (suc i) x = ap suc (length_set xs i x)

length_with : (objects : List Object) (id : ℕ) (o : Object) → length (with_object objects id o) ≡ length objects
length_with objects zero o = refl
length_with objects (suc k) o = length_set objects k o

length_written : (objects : List Object) (id at : ℕ) (cells : List Cell) (x : Option Object) → length (written objects id at cells x) ≡ length objects
length_written objects id at cells None = refl
length_written objects id at cells (Some o) = length_with objects id (record o { cells = overwritten o.cells at cells })

module _ (n : ℕ) where
  new_entry : (full : Bool) (a : Auto) (rest : List Auto) (v : Value) (vs : List Value) (ids : List ℕ) (w : World) → n ≤ length w.objects → ((id : ℕ) (x : World) → n ≤ length x.objects → Along (IsEntry n) x (world_after (parameters rest vs (ids ++ id ∷ []) x))) → Along (IsEntry n) w (world_after (and_then (if full then Over (BirthLimit w) else Done (length w.objects + 1) (pass (Birth a.slot.size (auto_kind a.slot.constant) (Slot a.slot.offset)) w)) (λ id w. parameters rest vs (ids ++ id ∷ []) (set_at (Pointer id 0) 0 a.slot.size v w))))
  new_entry true a rest v vs ids w le later = along_here (IsEntry n) w
  new_entry false a rest v vs ids w le later =
      let kind = auto_kind a.slot.constant in
      let id : ℕ = length w.objects + 1 in
      let u : World = pass (Birth a.slot.size kind (Slot a.slot.offset)) w in
      let cells : List Cell = cells_of a.slot.size v in
      let x : World = pass (Put id (0 + 0) cells) u in
      let more : length u.objects ≡ length w.objects + length (fresh a.slot.size kind ∷ []) = length-append w.objects (fresh a.slot.size kind ∷ []) in
      let same : length x.objects ≡ length u.objects = length_written u.objects id (0 + 0) cells (object_at u.objects id) in
      let end : World = world_after (parameters rest vs (ids ++ id ∷ []) x) in
      along_on (IsEntry n) w u end (along_one (IsEntry n) (Birth a.slot.size kind (Slot a.slot.offset)) w (a.slot.constant, refl))
      (along_on (IsEntry n) u x end (along_one (IsEntry n) (Put id (0 + 0) cells) u (omega (arith, le))) (later id x (omega (arith, le, more, same))))

  parameters_entry : (autos : List Auto) (vs : List Value) (ids : List ℕ) (w : World) → n ≤ length w.objects → Along (IsEntry n) w (world_after (parameters autos vs ids w))
  parameters_entry [] vs ids w le = along_here (IsEntry n) w
  parameters_entry (a ∷ rest) [] ids w le = along_here (IsEntry n) w
  parameters_entry (a ∷ rest) (v ∷ vs) ids w le =
      new_entry (nat_le 4000000000 (length w.objects)) a rest v vs ids w le (λ id x more. parameters_entry rest vs (ids ++ id ∷ []) x more)

module _ (h : History) (still : (e : Event) (w : World) → happened h e w ≡ went (pass (Happens e) w)) where
  begins_entry : (n : ℕ) (key : Key) (t : Text) (f : Fun) (cs : List Caller) (ids : List ℕ) (w : World) → Along (IsEntry n) w (world_of (begins h key t f cs ids w))
  begins_entry n key t f cs ids w =
      let born : Born = record { block = 0; ids = ids } in
      let env : Env = record { text = t; fun = f; blocks = born ∷ [] } in
      let v : World = pass (OpenBlock born) w in
      let e : Event = Enter key t.core.name in
      next_along (IsEntry n) w (happened h e v) (λ _ u. Runs (Exec f.body) [] env (record { ids = ids; cost = f.cost }) cs u)
      (along_on (IsEntry n) w v (world_after (happened h e v)) (along_one (IsEntry n) (OpenBlock born) w tt) (event_along (IsEntry n) h still (λ e w. tt) e v)) (λ x u. along_here (IsEntry n) u)

  enters_entry : (b : Bool) (key : Key) (t : Text) (f : Fun) (vs : List Value) (cs : List Caller) (w : World) → Along (IsEntry (length w.objects)) w (world_of (enters b h key t f vs cs w))
  enters_entry true key t f vs cs w = along_here (IsEntry (length w.objects)) w
  enters_entry false key t f vs cs w =
      let n : ℕ = length w.objects in
      let v : World = pass (Stack (w.used + f.cost)) w in
      let u : World = pass (Push (frame_of key t w)) v in
      let r : Outcome (List ℕ) = parameters (slice_index_or f.blocks 0 []) vs [] u in
      next_along (IsEntry n) w r (begins h key t f cs)
      (along_on (IsEntry n) w v (world_after r) (along_one (IsEntry n) (Stack (w.used + f.cost)) w tt) (along_on (IsEntry n) v u (world_after r) (along_one (IsEntry n) (Push (frame_of key t w)) v tt) (parameters_entry n (slice_index_or f.blocks 0 []) vs [] u (omega arith))))
      (λ ids x. begins_entry n key t f cs ids x)

  callee_lawful : (key : Key) (vs : List Value) (c : Callee) (cs : List Caller) (w : World) → Along IsOfHeap w (world_of (callee_next h key vs c cs w)) ⊎ Along (IsEntry (length w.objects)) w (world_of (callee_next h key vs c cs w))
  callee_lawful key vs Missing cs w = inl (along_here IsOfHeap w)
  callee_lawful key vs (InLibrary f) cs w = inl (next_along IsOfHeap w (library_call h f key vs w) (λ a u. Answers a cs u) (library.library_goes h still f key vs w) (λ a u. along_here IsOfHeap u))
  callee_lawful key vs (InText t f) cs w = inr (enters_entry (nat_lt w.stack (w.used + f.cost)) key t f vs cs w)

  value_lawful : (v : Value) (vs : List Value) (cs : List Caller) (w : World) → Along IsOfHeap w (world_of (value_next h v vs cs w)) ⊎ Along (IsEntry (length w.objects)) w (world_of (value_next h v vs cs w))
  value_lawful (FunctionAt key) vs cs w = callee_lawful key vs (callee_of (version_at h w.count) key) cs w
  value_lawful (Number n) vs cs w = inl (along_here IsOfHeap w)
  value_lawful (Pointer o i) vs cs w = inl (along_here IsOfHeap w)

  made_lawful : (rule : Option Rule) (v : Value) (vs : List Value) (cs : List Caller) (w : World) → Along IsOfHeap w (world_of (made_unless rule h v vs cs w)) ⊎ Along (IsEntry (length w.objects)) w (world_of (made_unless rule h v vs cs w))
  made_lawful None v vs cs w = value_lawful v vs cs w
  made_lawful (Some rule) v vs cs w = inl (along_here IsOfHeap w)

  pub advance_lawful : (s : State) → Lawfully s (world_of (advance h s))
  advance_lawful (Runs mode ss env a cs w) =
      let own : List ℕ = own_of mode env ++ a.ids in
      step_own h still own (body.advance mode ss env w) a cs w (λ id p. in_back id (own_of mode env) a.ids p)
      (bodies.advance_go (OwnWriting own) mode ss env w (λ id p. in_front id (own_of mode env) a.ids p))
  advance_lawful (Makes t v vs c cs w) = made_lawful (value_rule (version_at h w.count) c.env.text t v) v vs (c ∷ cs) w
  advance_lawful (Answers a [] w) = refl
  advance_lawful (Answers a (c ∷ cs) w) = refl
  advance_lawful (Ends e) = refl
