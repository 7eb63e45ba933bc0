-- The answers to `swap`, of what was found of the file.
use Rattle.std.proofs.Common.{◌≡◌, ◌==◌, ◌↔◌, ℕ, Bool, true, false, List, Option, Some, None, refl, ap, sym, subst, ◌∙◌, arith}
use Rattle.std.proofs.lemmas.Bool.Decides.{nat_tests}
use Rattle.sc_base.specs.declared.memory.Form.{Form}
use Rattle.sc_base.specs.declared.memory.Form.TheVariants as form
use Rattle.sc_object.specs.Spelling.{spelled}
use Rattle.sc_object.specs.declared.object.Object.{Object}
use Rattle.sc_outside.specs.Stored.{FileMap}
use Rattle.sc_session_forms.specs.Differences.{difference}
use Rattle.sc_session.specs.declared.choice.Choice.{Choice}
use Rattle.sc_session.specs.declared.choice.Choice.TheVariants as choice
use Rattle.sc_session.specs.declared.swapping.Compared.{Compared}
use Rattle.sc_session.specs.declared.swapping.Compared.TheVariants as compared
use Rattle.sc_session.specs.Compiling.{object_file}
use Rattle.sc_base.specs.declared.key.Key.{Key}
use Rattle.sc_session.specs.declared.linking.ImageFault.{ImageFault}
use Rattle.sc_session.specs.declared.linking.ImageFault.TheVariants as short
use Rattle.sc_session.specs.declared.present.Present.{Present}
use Rattle.sc_session.specs.Changing.{stays}
use Rattle.sc_session.specs.Linking.{HasRoom, LacksRoom, RoomSaid, with_form}
use Rattle.sc_session.specs.Mixing.{Becomes, IsUnlinked, LacksImage}
use Rattle.sc_session.specs.Modules.{object_named}
use Rattle.sc_session.specs.Plain.{Plain}
use Rattle.sc_session.specs.Swapping.{Compares, ComparesBytes, HasBytes, NotOursSaid}
use Rattle.sc_session.specs.Transcript.{Forms, HasRoomBy, IsKept, LacksRoomBy, Moment, Reforms, Swaps, moment, swapped, swapped_said, unformed}
use Rattle.sc_words.specs.declared.answer.Answer.{Answer}
use Rattle.sc_words.specs.declared.answer.Answer.TheVariants as answer
use Rattle.sc_words.specs.declared.denied.Area.{Area}
use Rattle.sc_words.specs.declared.denied.Denied.{Denied}
use Rattle.sc_words.specs.declared.denied.Denied.TheVariants as denied

module _ (old : Moment) (name : List ℕ) (c : Choice) (object : Object) (held : Option FileMap) (now : ℕ) (found : Compared)
    (there : object_named old.session.modules name c ≡ Some object) (same : held ≡ old.held)
    (compares : Compares old.held (object_file name c) object old.faults now found) where
  kept_by : IsKept old name c → (said : Answer) (new : Plain) → Reforms old.session name c said new → Swaps old name form.Object c said (moment new held now)
  kept_by kept (answer.Swapped m g) new (plain, is, compiled, room, becomes) = (plain, is, compiled, (kept, room), becomes, same)
  kept_by kept (answer.SwappedFast m) new (fast, is, room, becomes) = (fast, is, (kept, room), becomes, same)
  kept_by kept (answer.Refused (denied.Space a)) new p = (refl, (p.0, same), (kept, p.1))
  kept_by kept answer.NoMemory new p = (p, same)
  kept_by kept _ new p = absurd p

  pub swap_kept : (said : Answer) (new : Plain) → found ≡ compared.Same → Reforms old.session name c said new → Swaps old name form.Object c said (moment new held now)
  swap_kept said new is p = kept_by (object, there, subst (Compares old.held (object_file name c) object old.faults now) is compares) said new p

  refused_by : (d : Denied) (new : Plain) → Compares old.held (object_file name c) object old.faults now (compared.Denied d) → new ≡ old.session → Swaps old name form.Object c (answer.Refused d) (moment new held now)
  refused_by (denied.Space a) new p stays = absurd p
  refused_by d new p stays = (refl, (stays, same), (object, there, p))

  pub swap_refused : (d : Denied) (new : Plain) → found ≡ compared.Denied d → new ≡ old.session → Swaps old name form.Object c (answer.Refused d) (moment new held now)
  swap_refused d new is stays = refused_by d new (subst (Compares old.held (object_file name c) object old.faults now) is compares) stays

pub swap_none : (old : Moment) (name : List ℕ) (c : Choice) (held : Option FileMap) (now : ℕ) (new : Plain) → held ≡ old.held → new ≡ old.session → Swaps old name form.Object c answer.NoMemory (moment new held now)
swap_none old name c held now new same stays = (stays, same)

-- a module gets a form, where it may
not_object : form.Source ≡ form.Object → ⊥
not_object e = absurd (cc)

pub forms_swaps : (old : Moment) (name : List ℕ) (f : Form) (c : Choice) (said : Answer) (new : Plain) → f ≡ form.Source → Forms old.session name f c said new → Swaps old name f c said (moment new old.held old.faults)
forms_swaps old name f c said new is forms = subst (λ g. Swaps old name g c said (moment new old.held old.faults)) (sym is) (by said (subst (λ g. Forms old.session name g c said new) is forms))
  where
    by : (said : Answer) → Forms old.session name form.Source c said new → Swaps old name form.Source c said (moment new old.held old.faults)
    by (answer.Swapped m g) (plain, is, source, becomes) = (plain, is, source, tt, becomes, refl)
    by (answer.SwappedFast m) (fast, is, becomes) = (fast, is, tt, becomes, refl)
    by answer.NoMemory p = (p, refl)
    by (answer.Refused (denied.Space a)) p = absurd (not_object p.0)
    by (answer.Refused d) p = absurd p
    by _ p = absurd p

-- a module got a form
pub forms_swapped : (session : Plain) (name : List ℕ) (f : Form) (c : Choice) (said : Answer) (new : Plain) → said ≡ swapped_said name f c → Becomes (swapped session name f c) new → Forms session name f c said new
forms_swapped session name f c said new is becomes = subst (λ a. Forms session name f c a new) (sym is) (by c becomes)
  where
    by : (c : Choice) → Becomes (swapped session name f c) new → Forms session name f c (swapped_said name f c) new
    by choice.Plain becomes = (refl, refl, refl, becomes)
    by choice.Fast becomes = (refl, refl, becomes)

-- why a module does not get a form
pub forms_failed : (session : Plain) (name : List ℕ) (f : Form) (c : Choice) (fault : ImageFault) (said : Answer) (new : Plain) → stays session.state ≡ true → IsUnlinked (swapped session name f c) fault → said ≡ unformed f fault → new ≡ session
    → Forms session name f c said new
forms_failed session name f c fault said new stayed unlinked is same = subst (λ a. Forms session name f c a new) (sym is) (by f fault unlinked)
  where
    by : (f : Form) (fault : ImageFault) → IsUnlinked (swapped session name f c) fault → Forms session name f c (unformed f fault) new
    by form.Source fault lacks = same
    by form.Object (short.Space a) lacks = (refl, stayed, lacks, same)
    by form.Object short.NoMemory lacks = same

has_by : (b : Bool) (modules : List Present) (numbers : List Key) → b ≡ true → HasRoomBy b modules numbers
has_by true modules numbers e = tt
has_by false modules numbers e = absurd (cc)

lacks_by : (b : Bool) (changed : Plain) (a : Area) → b ≡ true → LacksImage changed a → LacksRoomBy b changed a
lacks_by true changed a e p = p
lacks_by false changed a e p = absurd (cc)

-- in a run, and outside of one
pub has_room : (b : Bool) (modules : List Present) (numbers : List Key) → HasRoom modules numbers → HasRoomBy b modules numbers
has_room true modules numbers p = tt
has_room false modules numbers p = p

pub lacks_room : (b : Bool) (changed : Plain) (a : Area) → b ≡ false → LacksRoom changed.modules changed.numbers a → LacksRoomBy b changed a
lacks_room true changed a e p = absurd (cc)
lacks_room false changed a e p = p

pub forms_reforms : (session : Plain) (name : List ℕ) (c : Choice) (said : Answer) (new : Plain) → HasRoomBy (stays session.state) (with_form name form.Object c session.modules) session.numbers → Forms session name form.Object c said new → Reforms session name c said new
forms_reforms session name c (answer.Swapped m g) new room (plain, is, compiled, becomes) = (plain, is, compiled, room, becomes)
forms_reforms session name c (answer.SwappedFast m) new room (fast, is, becomes) = (fast, is, room, becomes)
forms_reforms session name c answer.NoMemory new room p = p
forms_reforms session name c (answer.Refused (denied.Space a)) new room (is, stayed, lacks, same) = (same, lacks_by (stays session.state) (swapped session name form.Object c) a stayed lacks)
forms_reforms session name c _ new room p = absurd p

pub stays_reforms : (session : Plain) (name : List ℕ) (c : Choice) (said : Answer) (new : Plain) → stays session.state ≡ true → Forms session name form.Object c said new → Reforms session name c said new
stays_reforms session name c said new stayed p = forms_reforms session name c said new (has_by (stays session.state) (with_form name form.Object c session.modules) session.numbers stayed) p

-- the room that the code finds outside of a run
pub found_room : (v session : Plain) (name : List ℕ) (c : Choice) (modules : List Present) (full : Option Area) → v ≡ session → modules ≡ v.modules → RoomSaid (with_form name form.Object c modules) v.numbers full → RoomSaid (with_form name form.Object c session.modules) session.numbers full
found_room v session name c modules full is same p =
    subst (λ (s : Plain). RoomSaid (with_form name form.Object c s.modules) s.numbers full) is (subst (λ ms. RoomSaid (with_form name form.Object c ms) v.numbers full) same p)

pub room_reforms : (session : Plain) (name : List ℕ) (c : Choice) (full : Option Area) (said : Answer) (new : Plain) → full ≡ None → RoomSaid (with_form name form.Object c session.modules) session.numbers full → Forms session name form.Object c said new → Reforms session name c said new
room_reforms session name c full said new is found p =
    forms_reforms session name c said new
    (has_room (stays session.state) (with_form name form.Object c session.modules) session.numbers (subst (RoomSaid (with_form name form.Object c session.modules) session.numbers) is found)) p

pub full_refused : (session : Plain) (name : List ℕ) (c : Choice) (full : Option Area) (a : Area) → stays session.state ≡ false → full ≡ Some a → RoomSaid (with_form name form.Object c session.modules) session.numbers full
    → Reforms session name c (answer.Refused (denied.Space a)) session
full_refused session name c full a rests is found =
    (refl, lacks_room (stays session.state) (swapped session name form.Object c) a rests (subst (RoomSaid (with_form name form.Object c session.modules) session.numbers) is found))

-- ---- the file

same_number : (x y : ℕ) → (x == y) ≡ true → x ≡ y
same_number x y e = grind (arith, nat_tests)

number_same : (x y : ℕ) → x ≡ y → (x == y) ≡ true
number_same x y e = grind (arith, nat_tests)

the_same : (x y : ℕ) → Some x ≡ Some y → x ≡ y
the_same x y e = cc

no_one : {P : Type 0} (n : ℕ) → ◌≡◌ {A = Option ℕ} None (Some n) → P
no_one n e = absurd (cc)

not_true : {P : Type 0} → false ≡ true → P
not_true e = absurd (cc)

pub first_some : (bytes : List ℕ) (v : ℕ) (P : Type 0) → ((Some v ≡ Some 1) ↔ P) → ((v == 1) ≡ true) ↔ P
first_some bytes v P h = (λ e. h.0 (ap Some (same_number v 1 e)), λ p. number_same v 1 (the_same v 1 (h.1 p)))

pub first_none : (P : Type 0) → ((◌≡◌ {A = Option ℕ} None (Some 1)) ↔ P) → (false ≡ true) ↔ P
first_none P h = (λ e. not_true e, λ p. no_one 1 (h.1 p))

pub bytes_compared : (held : Option FileMap) (file : List ℕ) (object : Object) (before now : ℕ) (bytes : List ℕ) (c : Compared) → HasBytes held file bytes → ComparesBytes bytes object c → Compares held file object before now c
bytes_compared held file object before now bytes compared.Same has is = subst (HasBytes held file) is has
bytes_compared held file object before now bytes (compared.Denied (denied.NotOurs at first)) has differs = (bytes, has, differs)
bytes_compared held file object before now bytes (compared.Denied d) has differs = absurd differs
bytes_compared held file object before now bytes compared.NoMemory has said = tt

pub not_ours_so : (bytes kept : List ℕ) (object : Object) (at : ℕ) (c : Compared) → difference bytes kept ≡ Some at → kept ≡ spelled object → NotOursSaid bytes at c → ComparesBytes bytes object c
not_ours_so bytes kept object at compared.Same differs is said = absurd said
not_ours_so bytes kept object at (compared.Denied (denied.NotOurs place first)) differs is said =
    (subst (λ k. difference bytes k ≡ Some place) is (differs ∙ ap Some (sym said.0)), said.1)
not_ours_so bytes kept object at (compared.Denied d) differs is said = absurd said
not_ours_so bytes kept object at compared.NoMemory differs is said = tt
