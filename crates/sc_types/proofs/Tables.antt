-- A table stays one as structures are declared and become complete.
use Rattle.std.proofs.Common.{◌≡◌, ◌≢◌, ℕ, zero, suc, ◌+◌, ◌≤◌, ◌<◌, List, [], ◌∷◌, ◌++◌, length, get_or, set, Option, Some, None, true, false, cond, refl, sym, ◌∙◌, ap, subst, arith, length-append, ◌⊎◌, inl, inr, ⊎_elim}
use Rattle.std.specs.Prelude.{slice_get, is_some}
use Rattle.std.proofs.lemmas.Option.{slice_get_within, get_or_from_slice_get}
use Rattle.std.proofs.lemmas.List.{get_or-set_same, get_or-set_other}
use Rattle.std.proofs.lemmas.List.Sums.{sum_by_push, sum_by-set, count_by-le-length}
use Rattle.std.proofs.lemmas.Bool.{cases_lt}
use Rattle.std.proofs.Math.Numerals.{add-one}
use Rattle.std.proofs.Math.ListN.{length-set}
use Rattle.sc_types.proofs.Sizes.{kept_or_none}
use Rattle.sc_types.specs.declared.ctype.Member.{Member}
use Rattle.sc_types.specs.declared.ctype.StructDef.{StructDef}
use Rattle.sc_types.specs.declared.layout.Layout.{Layout}
use Rattle.sc_types.specs.Layouts.{layout_by, layout_in, structure, structure_layout}
use Rattle.sc_types.specs.Tables.{within, has_members, complete_count, IsSmall, entry, IsTable, IsIncomplete}
use Rattle.sc_types.proofs.Layouts.{Extends, structure-kept, Grows, structure_layout-kept, layout_by-kept}

-- a structure without members has no layout
no_members : (structs : List StructDef) (n id : ℕ) → ((d : StructDef) → slice_get structs id ≡ Some d → d.members ≡ None) → structure_layout n structs id ≡ None
no_members structs zero id none = refl
no_members structs (suc n) id none = elim (slice_get structs id) as (λ (o : Option StructDef). slice_get structs id ≡ o → structure_layout (suc n) structs id ≡ None)
    [ None ↦ (λ e. rw e refl) | (Some d) ↦ (λ e. rw e (rw (none d e) refl)) ] refl

-- at each bound from the number of complete structures on, the layouts are those that the table keeps
pub entry-is : (structs : List StructDef) (layouts : List (Option Layout)) → IsTable structs layouts → (n : ℕ) → complete_count structs ≤ n → (id : ℕ) → entry layouts id ≡ structure_layout n structs id
entry-is structs layouts table n le id = elim (entry layouts id) as (λ (o : Option Layout). entry layouts id ≡ o → o ≡ structure_layout n structs id) [
  | (Some l) ↦ (λ e. sym (structure_layout-kept structs structs (λ i d ms p q. (d, (p, (q, refl)))) (complete_count structs) n le id l (table.found id l e)))
  | None ↦ (λ e. sym (no_members structs n id (λ d p. elim d.members as (λ o. d.members ≡ o → o ≡ None) [
    | None ↦ (λ q. refl)
    | (Some ms) ↦ (λ q. let w : is_some (entry layouts id) ≡ true = table.whole id d p (ap is_some q) in
        let v : false ≡ true = sym (ap is_some e) ∙ w in cc)
  ] refl)))
] refl

pub entry-length : (structs : List StructDef) (layouts : List (Option Layout)) → IsTable structs layouts → (id : ℕ) → entry layouts id ≡ structure_layout (length structs) structs id
entry-length structs layouts table id = entry-is structs layouts table (length structs) (count_by-le-length has_members structs) id

pub empty_table : IsTable [] []
empty_table = record {
  room = omega arith;
  found = λ id l e. cc;
  whole = λ id d e w. cc;
  small = λ id l e. cc;
}

-- one more place without a layout
entry-push : (layouts : List (Option Layout)) (id : ℕ) → entry (layouts ++ None ∷ []) id ≡ entry layouts id
entry-push [] zero = refl
entry-push [] (suc id) = refl
entry-push (l ∷ layouts) zero = refl
entry-push (l ∷ layouts) (suc id) = entry-push layouts id

get-push : (structs : List StructDef) (d e : StructDef) (id : ℕ) → slice_get (structs ++ d ∷ []) id ≡ Some e → (slice_get structs id ≡ Some e) ⊎ (d ≡ e)
get-push [] d e zero h = inr cc
get-push [] d e (suc id) h = cc
get-push (s ∷ structs) d e zero h = inl h
get-push (s ∷ structs) d e (suc id) h = get-push structs d e id h

get-push_left : (structs : List StructDef) (d e : StructDef) (id : ℕ) → slice_get structs id ≡ Some e → slice_get (structs ++ d ∷ []) id ≡ Some e
get-push_left [] d e id h = cc
get-push_left (s ∷ structs) d e zero h = h
get-push_left (s ∷ structs) d e (suc id) h = get-push_left structs d e id h

pub table_room : (structs : List StructDef) (layouts : List (Option Layout)) → IsTable structs layouts → IsTable structs (layouts ++ None ∷ [])
table_room structs layouts table = record {
  room = omega (arith, table.room, length-append layouts (None ∷ []));
  found = λ id l e. table.found id l (sym (entry-push layouts id) ∙ e);
  whole = λ id d p m. ap is_some (entry-push layouts id) ∙ table.whole id d p m;
  small = λ id l e. table.small id l (sym (entry-push layouts id) ∙ e);
}

pub table_declare : (structs : List StructDef) (layouts : List (Option Layout)) (d : StructDef) → d.members ≡ None → IsTable structs layouts → IsTable (structs ++ d ∷ []) (layouts ++ None ∷ [])
table_declare structs layouts d none table = record {
  room = omega (arith, table.room, length-append layouts (None ∷ []), length-append structs (d ∷ []));
  found = λ id l e. structure_layout-kept structs (structs ++ d ∷ []) (λ i s ms p q. (s, (get-push_left structs d s i p, (q, refl)))) (complete_count structs) (complete_count (structs ++ d ∷ []))
      (omega (arith, sum_by_push (λ (s : StructDef). cond (has_members s) 1 0) structs d)) id l (table.found id l (sym (entry-push layouts id) ∙ e));
  whole = λ id s p m. ⊎_elim (λ q. ap is_some (entry-push layouts id) ∙ table.whole id s q m)
      (λ (q : d ≡ s). let w : false ≡ true = sym (ap is_some none) ∙ ap has_members q ∙ m in cc) (get-push structs d s id p);
  small = λ id l e. table.small id l (sym (entry-push layouts id) ∙ e);
}

get-set_same : (structs : List StructDef) (id : ℕ) (d e : StructDef) → slice_get structs id ≡ Some d → slice_get (set structs id e) id ≡ Some e
get-set_same [] id d e h = cc
get-set_same (s ∷ structs) zero d e h = refl
get-set_same (s ∷ structs) (suc id) d e h = get-set_same structs id d e h

get-set_other : (structs : List StructDef) (id j : ℕ) (e : StructDef) → j ≢ id → slice_get (set structs id e) j ≡ slice_get structs j
get-set_other [] id j e ne = refl
get-set_other (s ∷ structs) zero zero e ne = absurd (ne refl)
get-set_other (s ∷ structs) zero (suc j) e ne = refl
get-set_other (s ∷ structs) (suc id) zero e ne = refl
get-set_other (s ∷ structs) (suc id) (suc j) e ne = get-set_other structs id j e (λ w. ne (ap suc w))

same_or_not : (i j : ℕ) → (i ≡ j) ⊎ (i ≢ j)
same_or_not i j = ⊎_elim (λ (h : i < j). inr (λ e. omega arith)) (λ h. ⊎_elim (λ (k : j < i). inr (λ e. omega arith)) (λ k. inl (omega arith)) (cases_lt j i)) (cases_lt i j)

module _ (structs : List StructDef) (layouts : List (Option Layout)) (table : IsTable structs layouts) (id : ℕ) (d : StructDef) (there : slice_get structs id ≡ Some d) (none : d.members ≡ None) (ms : List Member) where
  abbrev pub filled : StructDef
  filled = record d { members = Some ms }

  abbrev pub after : List StructDef
  after = set structs id filled

  count-after : complete_count after ≡ complete_count structs + 1
  count-after =
      let e = sum_by-set (λ (s : StructDef). cond (has_members s) 1 0) structs id filled d (slice_get_within structs id d there) in
      let g : get_or structs id d ≡ d = get_or_from_slice_get structs id d d there in
      let z : ◌≡◌ {A = ℕ} (cond (has_members (get_or structs id d)) 1 0) 0 = rw g (rw none refl) in
      omega (arith, e, z)

  grows-after : Grows structs after
  grows-after j s ss p q = ⊎_elim (λ (w : j ≡ id). let same : Some s ≡ Some d = sym p ∙ ap (slice_get structs) w ∙ there in let bad : Some ss ≡ None = sym q ∙ let es : s ≡ d = cc in ap (λ (x : StructDef). x.members) es ∙ none in cc)
      (λ (w : j ≢ id). (s, (get-set_other structs id j filled w ∙ p, (q, refl)))) (same_or_not j id)

  count-suc : complete_count after ≡ suc (complete_count structs)
  count-suc = count-after ∙ add-one (complete_count structs)

  extends-after : Extends ℕ (structure_layout (length structs) structs) (structure_layout (complete_count structs) after)
  extends-after j l h = structure_layout-kept structs after grows-after (complete_count structs) (complete_count structs) (omega arith) j l
      (table.found j l (entry-length structs layouts table j ∙ h))

  filled-layout : (l : Layout) → structure (layout_in structs) (record { tag = None; members = Some ms; is_union = d.is_union }) ≡ Some l → structure_layout (complete_count after) after id ≡ Some l
  filled-layout l h =
      let g = structure-kept (layout_in structs) (layout_by (structure_layout (complete_count structs) after)) (layout_by-kept (structure_layout (length structs) structs) (structure_layout (complete_count structs) after) extends-after)
      (record { tag = None; members = Some ms; is_union = d.is_union }) filled l refl (λ ss w. w) h in
      let w : structure_layout (suc (complete_count structs)) after id ≡ Some l = rw (get-set_same structs id d filled there) g in
      subst (λ (n : ℕ). structure_layout n after id ≡ Some l) (sym count-suc) w

  module _ (l : Layout) (small : IsSmall l) (h : structure (layout_in structs) (record { tag = None; members = Some ms; is_union = d.is_union }) ≡ Some l) where
    entry-same : entry (set layouts id (Some l)) id ≡ Some l
    entry-same = get_or-set_same layouts id (Some l) None (let g = slice_get_within structs id d there in omega (arith, table.room, g))

    pub table_complete : IsTable after (set layouts id (Some l))
    table_complete = record {
      room = omega (arith, table.room, length-set structs id filled, length-set layouts id (Some l));
      found = λ j k e. ⊎_elim
          (λ (w : j ≡ id). let v : Some l ≡ Some k = sym entry-same ∙ ap (entry (set layouts id (Some l))) (sym w) ∙ e in
          subst (λ (i : ℕ). structure_layout (complete_count after) after i ≡ Some k) (sym w) (filled-layout l h ∙ v))
          (λ (w : j ≢ id). structure_layout-kept structs after grows-after (complete_count structs) (complete_count after) (omega (arith, count-after)) j k
          (table.found j k (sym (get_or-set_other layouts id j (Some l) None w) ∙ e))) (same_or_not j id);
      whole = λ j s p m. ⊎_elim
          (λ (w : j ≡ id). ap is_some (ap (entry (set layouts id (Some l))) w ∙ entry-same))
          (λ (w : j ≢ id). ap is_some (get_or-set_other layouts id j (Some l) None w) ∙ table.whole j s (sym (get-set_other structs id j filled w) ∙ p) m) (same_or_not j id);
      small = λ j k e. ⊎_elim
          (λ (w : j ≡ id). let v : Some l ≡ Some k = sym entry-same ∙ ap (entry (set layouts id (Some l))) (sym w) ∙ e in
          let u : l ≡ k = cc in subst IsSmall u small)
          (λ (w : j ≢ id). table.small j k (sym (get_or-set_other layouts id j (Some l) None w) ∙ e)) (same_or_not j id);
    }

-- what is not too large stays
pub within-some : (o : Option Layout) (l : Layout) → within o ≡ Some l → o ≡ Some l
within-some None l h = h
within-some (Some k) l h = ⊎_elim (λ w. sym w.1 ∙ h) (λ w. let v : None ≡ Some l = sym w.1 ∙ h in cc) (kept_or_none k)

pub incomplete-there : (o : Option StructDef) → IsIncomplete o → (d : StructDef) × ((o ≡ Some d) × (d.members ≡ None))
incomplete-there None h = absurd h
incomplete-there (Some d) h = (d, (refl, h))
