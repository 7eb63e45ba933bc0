-- One more turn of the loops of a reading, and their ends.
use Rattle.std.proofs.Common.{◌≡◌, ◌<◌, ◌≤◌, ◌+◌, ◌-◌, ◌&&◌, ℕ, suc, Bool, true, false, List, [], ◌∷◌, ◌++◌, length, drop, get_or, Option, Some, None, sym, ap, ◌∙◌, arith}
use Rattle.std.specs.Prelude.{option_and_then}
use Rattle.std.proofs.lemmas.Bool.{le-leb, lt-leb}
use Rattle.std.proofs.lemmas.List.{append_assoc, append-nil, drop_more, drop_all}
use Rattle.sc_object.specs.declared.object.SectionKind.{SectionKind}
use Rattle.sc_object.specs.declared.object.Section.{Section}
use Rattle.sc_object.specs.declared.object.Reloc.{Reloc}
use Rattle.sc_object.specs.declared.object.Symbol.{Symbol}
use Rattle.sc_object.specs.Reading.{by_sections}
use Rattle.sc_elf_read.specs.declared.piece.Piece.{Piece}
use Rattle.sc_elf_read.specs.Pieces.{piece_in, behind_piece, pieces_in, text, behind_text}
use Rattle.sc_elf_read.specs.Tables.{rows, many, kind_of, section_in, named, sections_in, symbol_in, symbols_in}

left_more : (n i : ℕ) → i < n → n - i ≡ suc (n - (i + 1))
left_more n i h = omega arith

left_none : (n i : ℕ) → n ≤ i → n - i ≡ 0
left_none n i h = omega arith

pub pieces_step : (n i : ℕ) (all more : List Piece) (h c g d : List ℕ) (p : Piece) (whole : List Piece)
    → all ++ pieces_in (n - i) h c ≡ whole → i < n → p ≡ piece_in h c → g ≡ drop 40 h → d ≡ behind_piece p c → more ≡ all ++ p ∷ []
    → more ++ pieces_in (n - (i + 1)) g d ≡ whole
pieces_step n i all more h c g d p whole inv below p-is g-is d-is more-is =
    (λ t. more-is t ++ pieces_in (n - (i + 1)) (g-is t) (d-is t))
    ∙ append_assoc all (p ∷ []) (pieces_in (n - (i + 1)) (drop 40 h) (behind_piece p c))
    ∙ ap (λ q. all ++ q ∷ pieces_in (n - (i + 1)) (drop 40 h) (behind_piece q c)) p-is
    ∙ ap (λ k. all ++ pieces_in k h c) (sym (left_more n i below))
    ∙ inv

pub pieces_end : (n i : ℕ) (all : List Piece) (h c : List ℕ) (whole : List Piece) → all ++ pieces_in (n - i) h c ≡ whole → n ≤ i → all ≡ whole
pieces_end n i all h c whole inv over = sym (append-nil all) ∙ ap (λ k. all ++ pieces_in k h c) (sym (left_none n i over)) ∙ inv

module _ {A : Type 0} (f : List ℕ → A) (w : ℕ) where
  pub rows_step : (n i : ℕ) (all more : List A) (b d : List ℕ) (x : A) (whole : List A)
      → all ++ rows f w (n - i) b ≡ whole → i < n → x ≡ f b → d ≡ drop w b → more ≡ all ++ x ∷ []
      → more ++ rows f w (n - (i + 1)) d ≡ whole
  rows_step n i all more b d x whole inv below x-is d-is more-is =
      (λ t. more-is t ++ rows f w (n - (i + 1)) (d-is t))
      ∙ append_assoc all (x ∷ []) (rows f w (n - (i + 1)) (drop w b))
      ∙ ap (λ q. all ++ q ∷ rows f w (n - (i + 1)) (drop w b)) x-is
      ∙ ap (λ k. all ++ rows f w k b) (sym (left_more n i below))
      ∙ inv

  pub rows_end : (n i : ℕ) (all : List A) (b : List ℕ) (whole : List A) → all ++ rows f w (n - i) b ≡ whole → n ≤ i → all ≡ whole
  rows_end n i all b whole inv over = sym (append-nil all) ∙ ap (λ k. all ++ rows f w k b) (sym (left_none n i over)) ∙ inv

pub symbols_step : (n i : ℕ) (all more : List Symbol) (b m d e : List ℕ) (x : Symbol) (whole : List Symbol)
    → all ++ symbols_in (n - i) b m ≡ whole → i < n → x ≡ symbol_in b (text m) → d ≡ drop 16 b → e ≡ behind_text m → more ≡ all ++ x ∷ []
    → more ++ symbols_in (n - (i + 1)) d e ≡ whole
symbols_step n i all more b m d e x whole inv below x-is d-is e-is more-is =
    (λ t. more-is t ++ symbols_in (n - (i + 1)) (d-is t) (e-is t))
    ∙ append_assoc all (x ∷ []) (symbols_in (n - (i + 1)) (drop 16 b) (behind_text m))
    ∙ ap (λ q. all ++ q ∷ symbols_in (n - (i + 1)) (drop 16 b) (behind_text m)) x-is
    ∙ ap (λ k. all ++ symbols_in k b m) (sym (left_more n i below))
    ∙ inv

pub symbols_end : (n i : ℕ) (all : List Symbol) (b m : List ℕ) (whole : List Symbol) → all ++ symbols_in (n - i) b m ≡ whole → n ≤ i → all ≡ whole
symbols_end n i all b m whole inv over = sym (append-nil all) ∙ ap (λ k. all ++ symbols_in k b m) (sym (left_none n i over)) ∙ inv

module _ {A : Type 0} (f : List ℕ → Option (A × List ℕ)) where
  pub many_step : (n i : ℕ) (all more : List A) (b d : List ℕ) (x : A) (whole : Option (List A × List ℕ))
      → many f (n - i) all b ≡ whole → i < n → Some (x, d) ≡ f b → more ≡ all ++ x ∷ []
      → many f (n - (i + 1)) more d ≡ whole
  many_step n i all more b d x whole inv below found more-is =
      ap (λ z. many f (n - (i + 1)) z d) more-is
      ∙ ap (option_and_then (λ p. many f (n - (i + 1)) (all ++ p.0 ∷ []) p.1)) found
      ∙ ap (λ k. many f k all b) (sym (left_more n i below))
      ∙ inv

  pub many_stop : (n i : ℕ) (all : List A) (b : List ℕ) (whole : Option (List A × List ℕ)) → many f (n - i) all b ≡ whole → i < n → None ≡ f b → None ≡ whole
  many_stop n i all b whole inv below found =
      ap (option_and_then (λ p. many f (n - (i + 1)) (all ++ p.0 ∷ []) p.1)) found ∙ ap (λ k. many f k all b) (sym (left_more n i below)) ∙ inv

  pub many_end : (n i : ℕ) (all : List A) (b : List ℕ) (whole : Option (List A × List ℕ)) → many f (n - i) all b ≡ whole → n ≤ i → Some (all, b) ≡ whole
  many_end n i all b whole inv over = ap (λ k. many f k all b) (sym (left_none n i over)) ∙ inv

-- a section more, or a part that is none
pub sections_some : (ps : List Piece) (i : ℕ) (all more : List Section) (m e : List ℕ) (p : Piece) (k : SectionKind) (s : Section) (whole : List Section)
    → sections_in all (drop i ps) m ≡ whole → i < length ps → p ≡ get_or ps i p → Some k ≡ kind_of p.kind p.flags
    → e ≡ behind_text (named k m) → s ≡ section_in k p (text (named k m)) → more ≡ all ++ s ∷ []
    → sections_in more (drop (i + 1) ps) e ≡ whole
sections_some ps i all more m e p k s whole inv below p-is k-is e-is s-is more-is =
    let here : drop i ps ≡ p ∷ drop (i + 1) ps = drop_more ps i p below ∙ ap (λ q. q ∷ drop (i + 1) ps) (sym p-is) in
    (λ t. sections_in (more-is t) (drop (i + 1) ps) (e-is t))
    ∙ ap (λ z. sections_in (all ++ z ∷ []) (drop (i + 1) ps) (behind_text (named k m))) s-is
    ∙ ap (λ o. elim o as (λ _. List Section) [
      | None ↦ sections_in all (drop (i + 1) ps) m
      | Some kind ↦ sections_in (all ++ section_in kind p (text (named kind m)) ∷ []) (drop (i + 1) ps) (behind_text (named kind m))
    ]) k-is
    ∙ ap (λ z. sections_in all z m) (sym here)
    ∙ inv

pub sections_none : (ps : List Piece) (i : ℕ) (all : List Section) (m : List ℕ) (p : Piece) (whole : List Section)
    → sections_in all (drop i ps) m ≡ whole → i < length ps → p ≡ get_or ps i p → None ≡ kind_of p.kind p.flags
    → sections_in all (drop (i + 1) ps) m ≡ whole
sections_none ps i all m p whole inv below p-is k-is =
    let here : drop i ps ≡ p ∷ drop (i + 1) ps = drop_more ps i p below ∙ ap (λ q. q ∷ drop (i + 1) ps) (sym p-is) in
    ap (λ o. elim o as (λ _. List Section) [
      | None ↦ sections_in all (drop (i + 1) ps) m
      | Some kind ↦ sections_in (all ++ section_in kind p (text (named kind m)) ∷ []) (drop (i + 1) ps) (behind_text (named kind m))
    ]) k-is
    ∙ ap (λ z. sections_in all z m) (sym here)
    ∙ inv

-- a relocation more, one that stands too far behind, and the last one
pub sorted_more : (rs : List Reloc) (i least : ℕ) (none : Reloc) (whole : Bool) → by_sections least (drop i rs) ≡ whole → i < length rs
    → least ≤ (get_or rs i none).section → by_sections (get_or rs i none).section (drop (i + 1) rs) ≡ whole
sorted_more rs i least none whole inv below fits =
    let r : Reloc = get_or rs i none in
    sym (ap (λ b. b && by_sections r.section (drop (i + 1) rs)) (le-leb least r.section fits)) ∙ ap (by_sections least) (sym (drop_more rs i none below)) ∙ inv

pub sorted_stop : (rs : List Reloc) (i least : ℕ) (r : Reloc) (whole : Bool) → by_sections least (drop i rs) ≡ whole → i < length rs → r ≡ get_or rs i r
    → r.section < least → false ≡ whole
sorted_stop rs i least r whole inv below r-is over =
    let here : drop i rs ≡ r ∷ drop (i + 1) rs = drop_more rs i r below ∙ ap (λ q. q ∷ drop (i + 1) rs) (sym r-is) in
    sym (ap (λ b. b && by_sections r.section (drop (i + 1) rs)) (lt-leb least r.section over)) ∙ ap (by_sections least) (sym here) ∙ inv

pub sorted_end : (rs : List Reloc) (i least : ℕ) (whole : Bool) → by_sections least (drop i rs) ≡ whole → length rs ≤ i → true ≡ whole
sorted_end rs i least whole inv over = ap (by_sections least) (sym (drop_all i rs over)) ∙ inv
