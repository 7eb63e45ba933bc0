-- What a step changes is lawful.
use Rattle.std.proofs.Common.{◌≡◌, inl, inr, ℕ, ◌+◌, Bool, true, false, List, [], ◌∷◌, ◌++◌, Option, Some, None, refl, sym, ap, ◌∙◌, subst}
use Rattle.sc_rules.specs.Tests as tests
use Rattle.sc_rules.specs.Orders as orders
use Rattle.sc_meaning.specs.Values.{Value, Number, FunctionAt, Pointer, Cell, cells_of}
use Rattle.sc_meaning.specs.World.{World, Object, Item, Work, Begin, End, GoesOut, ComesBack, Declares, Happens, Birth, Death, Put, Copy, TakeFree, TakeNew, Give, Stack, Read, Seed, Push, Pop, OpenBlock, CloseBlock, Name, Unname, object_at, pass, passed}
use Rattle.sc_interp_laws.specs.Events.{stirs}
use Rattle.sc_meaning.specs.Violations.{store_rule, write_rule, is_null, is_dead, is_outside, is_misaligned, is_constant, of_object}
use Rattle.sc_meaning.specs.Accesses.{set_at, copy_at}
use Rattle.sc_meaning.specs.Expressions.{Env}
use Rattle.sc_meaning.specs.Statements.{auto_kind}
use Rattle.sc_meaning.proofs.Steps.{passed-append}
use Rattle.sc_interp_machine.specs.Machine as expr
use Rattle.sc_interp_machine.specs.Bodies as body
use Rattle.sc_interp_machine.specs.declared.pending.Item.{Item as PendingItem}
use Rattle.sc_interp_machine.specs.declared.pending.Mode.{Mode}
use Rattle.sc_interp_machine.specs.declared.body.Pending.{Pending}
use Rattle.sc_interp_machine.specs.declared.body.Doing.{Doing}
use Rattle.sc_interp_laws.specs.Worlds.{expr_left, body_left}
use Rattle.sc_interp_laws.specs.Lawful.{IsIn, IsWritable, Each, Along, IsWrite, IsOwn, own_of}
use Rattle.sc_interp_laws.proofs.Road.{Road, OwnRoad}
use Rattle.sc_interp_laws.proofs.ExprSteps as exprs
use Rattle.sc_interp_laws.proofs.BodySteps as bodies

module _ (L : World → Item → Type 0) where
  pub along_here : (w : World) → Along L w w
  along_here w = ([], refl, tt)

  pub along_one : (i : Item) (w : World) → L w i → Along L w (pass i w)
  along_one i w l = (i ∷ [], refl, (l, tt))

  each_more : (is js : List Item) (w : World) → Each L w is → Each L (passed is w) js → Each L w (is ++ js)
  each_more [] js w p q = q
  each_more (i ∷ is) js w p q = (p.0, each_more is js (pass i w) p.1 q)

  pub along_on : (w v u : World) → Along L w v → Along L v u → Along L w u
  along_on w v u p q =
      (p.0 ++ q.0, q.1 ∙ ap (passed q.0) p.1 ∙ sym (passed-append p.0 q.0 w), each_more p.0 q.0 w p.2 (subst (λ x. Each L x q.0) p.1 q.2))

  pub along_two : (i j : Item) (w : World) → L w i → L (pass i w) j → Along L w (pass j (pass i w))
  along_two i j w l m = (i ∷ j ∷ [], refl, (l, (m, tt)))

-- a store or a copy that breaks no rule goes into an object that may be written
living : (live : Bool) → tests.is_dead live ≡ false → live ≡ true
living true h = refl
living false h = absurd (cc)

writable : (objects : List Object) (id : ℕ) (x : Option Object) (outside : Object → Bool) → object_at objects id ≡ x → of_object false (λ o. tests.is_dead o.live) x ≡ false → of_object true outside x ≡ false → of_object false (λ o. tests.is_constant o.kind) x ≡ false → IsWritable objects id
writable objects id None outside e dead out constant = absurd (cc)
writable objects id (Some o) outside e dead out constant = (o, e, living o.live dead, constant)

store_passed : (null dead outside misaligned constant : Bool) → orders.store null dead outside misaligned constant ≡ None → (dead ≡ false) × (outside ≡ false) × (constant ≡ false)
store_passed true dead outside misaligned constant h = absurd (cc)
store_passed false true outside misaligned constant h = absurd (cc)
store_passed false false true misaligned constant h = absurd (cc)
store_passed false false false true constant h = absurd (cc)
store_passed false false false false true h = absurd (cc)
store_passed false false false false false h = (refl, refl, refl)

write_passed : (null dead outside constant : Bool) → orders.write null dead outside constant ≡ None → (dead ≡ false) × (outside ≡ false) × (constant ≡ false)
write_passed true dead outside constant h = absurd (cc)
write_passed false true outside constant h = absurd (cc)
write_passed false false true constant h = absurd (cc)
write_passed false false false true h = absurd (cc)
write_passed false false false false h = (refl, refl, refl)

pub store_writable : (objects : List Object) (o i further n : ℕ) → store_rule objects (Pointer o i) further n ≡ None → IsWritable objects o
store_writable objects o i further n h =
    let f = store_passed (is_null (Pointer o i)) (is_dead objects (Pointer o i)) (is_outside objects (Pointer o i) further n) (is_misaligned (Pointer o i) further n) (is_constant objects (Pointer o i)) h in
    writable objects o (object_at objects o) (λ x. tests.ends_outside x.size (i + further) n) refl f.0 f.1 f.2

pub write_writable : (objects : List Object) (o i further n : ℕ) → write_rule objects (Pointer o i) further n ≡ None → IsWritable objects o
write_writable objects o i further n h =
    let f = write_passed (is_null (Pointer o i)) (is_dead objects (Pointer o i)) (is_outside objects (Pointer o i) further n) (is_constant objects (Pointer o i)) h in
    writable objects o (object_at objects o) (λ x. tests.ends_outside x.size (i + further) n) refl f.0 f.1 f.2

-- along laws that ask nothing of what changes no object
module _ (L : World → Item → Type 0) (free : (i : Item) (w : World) → stirs i ≡ [] → L w i) (puts : (id at : ℕ) (new : List Cell) (w : World) → IsWritable w.objects id → L w (Put id at new)) (copies : (to at from off n : ℕ) (w : World) → IsWritable w.objects to → L w (Copy to at from off n)) where
  pub along_stores : (p : Value) (further n : ℕ) (v : Value) (w : World) → store_rule w.objects p further n ≡ None → Along L w (set_at p further n v w)
  along_stores (Number m) further n v w e = along_here L w
  along_stores (FunctionAt k) further n v w e = along_here L w
  along_stores (Pointer o i) further n v w e = along_one L (Put o (i + further) (cells_of n v)) w (puts o (i + further) (cells_of n v) w (store_writable w.objects o i further n e))

  pub along_copies : (to : Value) (further : ℕ) (from : Value) (beyond n : ℕ) (w : World) → write_rule w.objects to further n ≡ None → Along L w (pass (Work n) (copy_at to further from beyond n w))
  along_copies (Number m) further from beyond n w e = along_one L (Work n) w (free (Work n) w refl)
  along_copies (FunctionAt k) further from beyond n w e = along_one L (Work n) w (free (Work n) w refl)
  along_copies (Pointer o i) further (Number m) beyond n w e = along_one L (Work n) w (free (Work n) w refl)
  along_copies (Pointer o i) further (FunctionAt k) beyond n w e = along_one L (Work n) w (free (Work n) w refl)
  along_copies (Pointer o i) further (Pointer p j) beyond n w e =
      let c : Item = Copy o (i + further) p (j + beyond) n in
      along_two L c (Work n) w (copies o (i + further) p (j + beyond) n w (write_writable w.objects o i further n e)) (free (Work n) (pass c w) refl)

  abbrev pub Lawful : Road
  Lawful = record {
    Goes = Along L;
    here = along_here L;
    on = along_on L;
    quiet = λ i w e. along_one L i w (free i w e);
    stores = along_stores;
    copies = along_copies;
  }

free_write : (i : Item) (w : World) → stirs i ≡ [] → IsWrite w i
free_write (Work n) w e = tt
free_write Begin w e = tt
free_write End w e = tt
free_write GoesOut w e = tt
free_write ComesBack w e = tt
free_write (Declares id) w e = tt
free_write (Happens x) w e = tt
free_write (Birth size kind at) w e = absurd (cc)
free_write (Death id) w e = absurd (cc)
free_write (Put id at new) w e = absurd (cc)
free_write (Copy to at from off n) w e = absurd (cc)
free_write (TakeFree k) w e = tt
free_write (TakeNew size) w e = tt
free_write (Give k) w e = tt
free_write (Stack n) w e = tt
free_write Read w e = tt
free_write (Seed n) w e = tt
free_write (Push f) w e = tt
free_write Pop w e = tt
free_write (OpenBlock b) w e = tt
free_write CloseBlock w e = tt
free_write (Name id o) w e = tt
free_write (Unname id) w e = tt

abbrev Writing : Road
Writing = Lawful IsWrite free_write (λ id at new w h. h) (λ to at from off n w h. h)

pub expr_writes : (env : Env) (mode : Mode) (is : List PendingItem) (w : World) → Along IsWrite w (expr_left (expr.advance env mode is w))
expr_writes env mode is w = exprs.advance_goes Writing env mode is w

module _ (own : List ℕ) where
  pub free_own : (i : Item) (w : World) → stirs i ≡ [] → IsOwn own w i
  free_own (Work n) w e = tt
  free_own Begin w e = tt
  free_own End w e = tt
  free_own GoesOut w e = tt
  free_own ComesBack w e = tt
  free_own (Declares id) w e = tt
  free_own (Happens x) w e = tt
  free_own (Birth size kind at) w e = absurd (cc)
  free_own (Death id) w e = absurd (cc)
  free_own (Put id at new) w e = absurd (cc)
  free_own (Copy to at from off n) w e = absurd (cc)
  free_own (TakeFree k) w e = tt
  free_own (TakeNew size) w e = tt
  free_own (Give k) w e = tt
  free_own (Stack n) w e = tt
  free_own Read w e = tt
  free_own (Seed n) w e = tt
  free_own (Push f) w e = tt
  free_own Pop w e = tt
  free_own (OpenBlock b) w e = tt
  free_own CloseBlock w e = tt
  free_own (Name id o) w e = tt
  free_own (Unname id) w e = tt

  abbrev pub OwnWriting : OwnRoad
  OwnWriting = record {
    road = Lawful (IsOwn own) free_own (λ id at new w h. inl h) (λ to at from off n w h. inl h);
    Own = λ id. IsIn id own;
    births = λ size constant at w. along_one (IsOwn own) (Birth size (auto_kind constant) at) w (constant, refl);
    deaths = λ id w o. along_one (IsOwn own) (Death id) w o;
    fills = λ id at new w o. along_one (IsOwn own) (Put id at new) w (inr o);
    moves = λ id at from off n w o. along_two (IsOwn own) (Copy id at from off n) (Work n) w (inr o) tt;
  }

pub body_changes : (mode : Doing) (ss : List Pending) (env : Env) (w : World) → Along (IsOwn (own_of mode env)) w (body_left (body.advance mode ss env w))
body_changes mode ss env w = bodies.advance_go (OwnWriting (own_of mode env)) mode ss env w (λ id p. p)
