-- What a record gains, one step after another.
use Rattle.std.proofs.Common.{◌≡◌, ℕ, suc, ◌+◌, ◌++◌, ◌∷◌, [], List, nat_lt, true, false, if◌then◌else◌, slice_index_or, refl, sym, ap, arith, subst, ◌∙◌, Bool}
use Rattle.sc_base.specs.declared.memory.Word.{Word}
use Rattle.std.specs.List.{filter}
use Rattle.std.proofs.lemmas.List.{append_assoc, append-nil}
use Rattle.std.proofs.lemmas.List.Elements.{filter-append}
use Rattle.sc_base.specs.declared.note.Note.TheVariants as notes
use Rattle.sc_interp_world.specs.declared.recorder.Entry.{Entry}
use Rattle.sc_interp_world.specs.declared.recorder.Entry.TheVariants as entries
use Rattle.sc_interp_world.specs.declared.recorder.Recorder.{Recorder}
use Rattle.sc_interp_world.specs.Recording.{Adds, AreGrouped, Family, Plain, equal_told, family_of, is_of_calls, may_stand, noted, opens, plain, set_first, set_register, tells_calls, with_entry}

pub adds_none : (r : Recorder) → Adds r r
adds_none r = record { more = []; other = refl; grouped = λ here. tt; added = ap (λ (es : List Entry). record r { entries = es }) (sym (append-nil r.entries)) }

pub adds_same : {old new : Recorder} → new ≡ old → Adds old new
adds_same {old} is = record { more = []; other = refl; grouped = λ here. tt; added = is ∙ ap (λ (es : List Entry). record old { entries = es }) (sym (append-nil old.entries)) }

-- ---- where entries may stand

-- registers may be set behind these where they may be set behind so many before
abbrev pub opens_behind : Bool → List Entry → Bool
opens_behind here [] = here
opens_behind here (e ∷ es) = opens_behind (opens here (family_of e)) es

pub grouped_behind : (here : Bool) (es fs : List Entry) → AreGrouped here es → AreGrouped (opens_behind here es) fs → AreGrouped here (es ++ fs)
grouped_behind here [] fs g h = h
grouped_behind here (e ∷ es) fs g h = (g.0, grouped_behind (opens here (family_of e)) es fs g.1 h)

pub open_behind : (here : Bool) (es fs : List Entry) → opens_behind here (es ++ fs) ≡ opens_behind (opens_behind here es) fs
open_behind here [] fs = refl
open_behind here (e ∷ es) fs = open_behind (opens here (family_of e)) es fs

-- ---- an entry that tells of no call and no line, and may stand anywhere

none_in : (e : Entry) (k : Family) → family_of e ≡ k → k ≡ Plain → filter tells_calls (e ∷ []) ≡ []
none_in e k is plain = ap (λ f. if is_of_calls f then e ∷ [] else []) (is ∙ plain)

pub none_of : (e : Entry) → family_of e ≡ Plain → filter tells_calls (e ∷ []) ≡ []
none_of e is = none_in e Plain is refl

pub anywhere : (e : Entry) → family_of e ≡ Plain → (here : Bool) → AreGrouped here (e ∷ [])
anywhere e is here = (ap (may_stand here) is, tt)

pub adds_one : {old new : Recorder} (e : Entry) → family_of e ≡ Plain → new ≡ with_entry e old → Adds old new
adds_one e plain is = record { more = e ∷ []; added = is; other = none_of e plain; grouped = anywhere e plain }

pub adds_equal : {old new : Recorder} (n at byte : ℕ) → new ≡ equal_told n at byte old → Adds old new
adds_equal {old} {new} n at byte is =
    elim (nat_lt n 8) as (λ few. new ≡ (if few then noted (notes.Put at 1 (plain byte)) old else with_entry (entries.Fill at n byte) old) → Adds old new)
    [ true ↦ λ e. adds_one _ refl e | false ↦ λ e. adds_one _ refl e ] is

pub adds_more : {r s t : Recorder} → Adds r s → Adds s t → Adds r t
adds_more {r} a b = record {
  more = a.more ++ b.more;
  added = b.added ∙ (ap (λ (x : Recorder). record x { entries = x.entries ++ b.more }) a.added ∙ ap (λ (es : List Entry). record r { entries = es }) (append_assoc r.entries a.more b.more));
  other = filter-append tells_calls a.more b.more ∙ ap (λ es. es ++ filter tells_calls b.more) a.other ∙ b.other;
  grouped = λ here. grouped_behind here a.more b.more (a.grouped here) (b.grouped (opens_behind here a.more));
}

-- one register more is set
pub set_more : (words : List Word) (n : ℕ) (first before after : Recorder) (w was : Word) → before ≡ set_first words n first → after ≡ set_register n w was before
    → w ≡ slice_index_or words n (plain 0) → was ≡ slice_index_or before.machine.words n (plain 0) → after ≡ set_first words (n + 1) first
unfolding set_first
set_more words n first before after w was b a x y =
    let next : suc n ≡ n + 1 = omega arith in
    subst (λ k. after ≡ set_first words k first) next
    (subst (λ s. after ≡ set_register n (slice_index_or words n (plain 0)) (slice_index_or s.machine.words n (plain 0)) s) b
    (subst (λ v. after ≡ set_register n (slice_index_or words n (plain 0)) v before) y (subst (λ v. after ≡ set_register n v was before) x a)))
