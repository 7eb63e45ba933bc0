-- What a probe has of notes that it is given in parts.
use Rattle.std.proofs.Common.{◌≡◌, ◌≢◌, ℕ, List, ◌++◌, ◌∷◌, [], true, false, Option, Some, None, ap, sym, refl, ◌∙◌, append_assoc, subst, ◌+◌, ◌-◌, ◌^◌, ◌%◌, ◌<◌, ◌≤◌, suc, arith, length, drop, get_or, drop-cons}
use Rattle.std.proofs.lemmas.List.{append-nil}
use Rattle.sc_base.specs.declared.note.Note.{Note}
use Rattle.sc_outside.specs.Causes.{Rose}
use Rattle.sc_outside.specs.Told.{KeepsNote}
use Rattle.sc_outside.specs.declared.probe.Noted.{Noted}
use Rattle.sc_outside.specs.declared.probe.Noted.TheVariants as noted
use Rattle.sc_base.specs.declared.memory.Word.{Word}
use Rattle.sc_base.specs.declared.note.Note.TheVariants.{Put}
use Rattle.sc_interp_world.specs.declared.recorder.Entry.{Entry}
use Rattle.sc_top.specs.Spread.{puts, spread, notes_of}
use Rattle.sc_top.specs.Given.{Takes, Hears, HearsEntry}

takes_none : (told told' : Option (List Note)) (n : Note) (r : Noted) → r ≢ noted.Kept → KeepsNote told told' n r → Takes told told' (n ∷ []) false
takes_none None told' n r q k = tt
takes_none (Some before) None n r q k = k
takes_none (Some before) (Some after) n noted.Kept q k = absurd (q refl)
takes_none (Some before) (Some after) n noted.Failed q k = ([], n, [], refl, k ∙ sym (append-nil before))
takes_none (Some before) (Some after) n noted.NoMemory q k = ([], n, [], refl, k ∙ sym (append-nil before))

-- a note that was not kept
pub lost_note : {told told' : Option (List Note)} {lost lost' : ℕ} {n : Note} (r : Noted) → r ≢ noted.Kept → KeepsNote told told' n r → Rose lost lost' → Hears told told' lost lost' (n ∷ []) false
lost_note r q k rose = record { notes = takes_none _ _ _ r q k; faults = rose }

pub takes_both : (told told' told'' : Option (List Note)) (xs ys : List Note) → Takes told told' xs true → Takes told' told'' ys true → Takes told told'' (xs ++ ys) true
takes_both None told' told'' xs ys p q = tt
takes_both (Some a) None told'' xs ys p q = absurd p
takes_both (Some a) (Some b) None xs ys p q = q
takes_both (Some a) (Some b) (Some c) xs ys p q = q ∙ ap (λ zs. zs ++ ys) p ∙ append_assoc a xs ys

-- the second part was not kept whole
pub takes_part : (told told' told'' : Option (List Note)) (xs ys : List Note) → Takes told told' xs true → Takes told' told'' ys false → Takes told told'' (xs ++ ys) false
takes_part None told' told'' xs ys p q = tt
takes_part (Some a) None told'' xs ys p q = absurd p
takes_part (Some a) (Some b) None xs ys p q = q
takes_part (Some a) (Some b) (Some c) xs ys p (front, lost, rest, split, grown) =
    (xs ++ front, lost, rest, ap (λ zs. xs ++ zs) split ∙ sym (append_assoc xs front (lost ∷ rest)), grown ∙ ap (λ zs. zs ++ front) p ∙ append_assoc a xs front)

-- what stands behind a lost note makes no difference
pub takes_more : (told told' : Option (List Note)) (xs ys : List Note) → Takes told told' xs false → Takes told told' (xs ++ ys) false
takes_more None told' xs ys p = tt
takes_more (Some a) None xs ys p = p
takes_more (Some a) (Some b) xs ys (front, lost, rest, split, grown) =
    (front, lost, rest ++ ys, ap (λ zs. zs ++ ys) split ∙ append_assoc front (lost ∷ rest) ys, grown)

pub takes_nothing : (told : Option (List Note)) → Takes told told [] true
takes_nothing None = tt
takes_nothing (Some a) = sym (append-nil a)

-- of all these notes those in front of the rest were given, and each was kept
pub record Ahead (told told' : Option (List Note)) (lost lost' : ℕ) (all rest : List Note) : Type 0 where
  pub front : List Note
  pub split : all ≡ front ++ rest
  pub notes : Takes told told' front true
  pub faults : lost' ≡ lost

pub starts : (told : Option (List Note)) (lost : ℕ) (all : List Note) → Ahead told told lost lost all all
starts told lost all = record { front = []; split = refl; notes = takes_nothing told; faults = refl }

pub goes_on : {told told' told'' : Option (List Note)} {lost lost' lost'' : ℕ} {all : List Note} (xs rest : List Note)
    → Ahead told told' lost lost' all (xs ++ rest) → Hears told' told'' lost' lost'' xs true → Ahead told told'' lost lost'' all rest
goes_on xs rest a h = record {
  front = a.front ++ xs;
  split = a.split ∙ sym (append_assoc a.front xs rest);
  notes = takes_both _ _ _ a.front xs a.notes h.notes;
  faults = h.faults ∙ a.faults;
}

-- a note of the next part was lost
pub stops : {told told' told'' : Option (List Note)} {lost lost' lost'' : ℕ} {all : List Note} (xs rest : List Note)
    → Ahead told told' lost lost' all (xs ++ rest) → Hears told' told'' lost' lost'' xs false → Hears told told'' lost lost'' all false
stops {told} {told'' = told''} {lost'' = lost''} xs rest a h = record {
  notes = subst (λ zs. Takes told told'' zs false) (sym a.split) (takes_part _ _ _ a.front (xs ++ rest) a.notes (takes_more _ _ xs rest h.notes));
  faults = subst (λ n. Rose n lost'') a.faults h.faults;
}

pub ends : {told told' : Option (List Note)} {lost lost' : ℕ} {all : List Note} → Ahead told told' lost lost' all [] → Hears told told' lost lost' all true
ends {told} {told'} a = record { notes = subst (λ zs. Takes told told' zs true) (sym (a.split ∙ append-nil a.front)) a.notes; faults = a.faults }

-- one store of those that are left
puts_step : (at size count i : ℕ) (word : Word) → i < count → puts at size (count - i) word ≡ Put at size word ∷ puts ((at + size) % 2 ^ 32) size (count - (i + 1)) word
puts_step at size count i word h = (let more : count - i ≡ suc (count - (i + 1)) = omega (arith, h) in ap (λ n. puts at size n word) more)

pub put_given : {told told' told'' : Option (List Note)} {lost lost' lost'' : ℕ} {all : List Note} (at size count i : ℕ) (word : Word) → i < count
    → Ahead told told' lost lost' all (puts at size (count - i) word) → Hears told' told'' lost' lost'' (Put at size word ∷ []) true
    → Ahead told told'' lost lost'' all (puts ((at + size) % 2 ^ 32) size (count - (i + 1)) word)
put_given {told} {told'} {lost = lost} {lost' = lost'} {all = all} at size count i word h a heard =
    goes_on (Put at size word ∷ []) (puts ((at + size) % 2 ^ 32) size (count - (i + 1)) word) (subst (λ rest. Ahead told told' lost lost' all rest) (puts_step at size count i word h) a) heard

pub put_lost : {told told' told'' : Option (List Note)} {lost lost' lost'' : ℕ} {all : List Note} (at size count i : ℕ) (word : Word) → i < count
    → Ahead told told' lost lost' all (puts at size (count - i) word) → Hears told' told'' lost' lost'' (Put at size word ∷ []) false
    → Hears told told'' lost lost'' all false
put_lost {told} {told'} {lost = lost} {lost' = lost'} {all = all} at size count i word h a heard =
    stops (Put at size word ∷ []) (puts ((at + size) % 2 ^ 32) size (count - (i + 1)) word) (subst (λ rest. Ahead told told' lost lost' all rest) (puts_step at size count i word h) a) heard

pub puts_end : {told told' : Option (List Note)} {lost lost' : ℕ} {all : List Note} (at size count i : ℕ) (word : Word) → count ≤ i
    → Ahead told told' lost lost' all (puts at size (count - i) word) → Hears told told' lost lost' all true
puts_end {told} {told'} {lost} {lost'} {all} at size count i word h a =
    (let none : count - i ≡ 0 = omega (arith, h) in ends (subst (λ n. Ahead told told' lost lost' all (puts at size n word)) none a))

-- one entry of those that are left
entries_step : (es : List Entry) (i : ℕ) (e : Entry) → i < length es → e ≡ get_or es i e → notes_of (drop i es) ≡ spread e ++ notes_of (drop (i + 1) es)
entries_step es i e h is =
    (let more : suc i ≡ i + 1 = omega arith in ap notes_of (drop-cons es i e h) ∙ ap (λ n. spread (get_or es i e) ++ notes_of (drop n es)) more
    ∙ ap (λ x. spread x ++ notes_of (drop (i + 1) es)) (sym is))

pub entry_given : {told told' told'' : Option (List Note)} {lost lost' lost'' : ℕ} {all : List Note} (es : List Entry) (i : ℕ) (e : Entry) → i < length es → e ≡ get_or es i e
    → Ahead told told' lost lost' all (notes_of (drop i es)) → HearsEntry told' told'' lost' lost'' e true
    → Ahead told told'' lost lost'' all (notes_of (drop (i + 1) es))
entry_given {told} {told'} {lost = lost} {lost' = lost'} {all = all} es i e h is a heard =
    goes_on (spread e) (notes_of (drop (i + 1) es)) (subst (λ rest. Ahead told told' lost lost' all rest) (entries_step es i e h is) a) heard.heard

pub entry_lost : {told told' told'' : Option (List Note)} {lost lost' lost'' : ℕ} {all : List Note} (es : List Entry) (i : ℕ) (e : Entry) → i < length es → e ≡ get_or es i e
    → Ahead told told' lost lost' all (notes_of (drop i es)) → HearsEntry told' told'' lost' lost'' e false
    → Hears told told'' lost lost'' all false
entry_lost {told} {told'} {lost = lost} {lost' = lost'} {all = all} es i e h is a heard =
    stops (spread e) (notes_of (drop (i + 1) es)) (subst (λ rest. Ahead told told' lost lost' all rest) (entries_step es i e h is) a) heard.heard
