-- The labels of a `switch` one by one.
use Rattle.std.proofs.Common.{◌≡◌, ◌<◌, ◌≤◌, ℕ, ◌+◌, List, ◌∷◌, ◌++◌, length, drop, get_or, Option, None, Some, sym, ap, ◌∙◌, append_assoc, length-append}
use Rattle.std.proofs.lemmas.List.{drop_more, drop_all}
use Rattle.sc_core.specs.declared.statement.SwitchLabel.{SwitchLabel}
use Rattle.sc_gen_code.specs.Code.{Code}
use Rattle.sc_gen_body.specs.Statements.{case_code, cases_code, default_code}

module _ (block : Option ℕ) (start : ℕ → ℕ) where
  value_first : (at v : ℕ) (default : Option ℕ) (l : SwitchLabel) (ls : List SwitchLabel) → l.value ≡ Some v →
      cases_code block start at default (l ∷ ls) ≡ case_code block at v (start l.at) ++ cases_code block start (at + length (case_code block at v (start l.at))) default ls
  value_first at v default l ls e =
      ap (λ (o : Option ℕ). elim o as (λ _. Code) [
        | None ↦ cases_code block start at (Some l.at) ls
        | Some w ↦ case_code block at w (start l.at) ++ cases_code block start (at + length (case_code block at w (start l.at))) default ls
      ]) e

  default_first : (at : ℕ) (default : Option ℕ) (l : SwitchLabel) (ls : List SwitchLabel) → l.value ≡ None →
      cases_code block start at default (l ∷ ls) ≡ cases_code block start at (Some l.at) ls
  default_first at default l ls e =
      ap (λ (o : Option ℕ). elim o as (λ _. Code) [
        | None ↦ cases_code block start at (Some l.at) ls
        | Some w ↦ case_code block at w (start l.at) ++ cases_code block start (at + length (case_code block at w (start l.at))) default ls
      ]) e

  opened : (ls : List SwitchLabel) (i : ℕ) (l : SwitchLabel) → i < length ls → l ≡ get_or ls i l → drop i ls ≡ l ∷ drop (i + 1) ls
  opened ls i l h is = drop_more ls i l h ∙ ap (λ (x : SwitchLabel). x ∷ drop (i + 1) ls) (sym is)

  -- a label with a value more
  pub value_step : (ls : List SwitchLabel) (i : ℕ) (l : SwitchLabel) (v to : ℕ) (default : Option ℕ) (c0 c1 all : Code) → i < length ls → l ≡ get_or ls i l →
      l.value ≡ Some v → to ≡ start l.at → c1 ≡ c0 ++ case_code block (length c0) v to →
      c0 ++ cases_code block start (length c0) default (drop i ls) ≡ all → c1 ++ cases_code block start (length c1) default (drop (i + 1) ls) ≡ all
  value_step ls i l v to default c0 c1 all h is e at added inv =
      let one = case_code block (length c0) v (start l.at) in
      let rest = λ (k : ℕ). cases_code block start k default (drop (i + 1) ls) in
      let two : c1 ≡ c0 ++ one = added ∙ ap (λ (k : ℕ). c0 ++ case_code block (length c0) v k) at in
      let long : length c1 ≡ length c0 + length one = ap length two ∙ length-append c0 one in
      ap (λ (k : ℕ). c1 ++ rest k) long
      ∙ ap (λ (x : Code). x ++ rest (length c0 + length one)) two
      ∙ append_assoc c0 one (rest (length c0 + length one))
      ∙ sym (ap (λ (x : Code). c0 ++ x) (value_first (length c0) v default l (drop (i + 1) ls) e))
      ∙ sym (ap (λ (xs : List SwitchLabel). c0 ++ cases_code block start (length c0) default xs) (opened ls i l h is))
      ∙ inv

  -- `default` waits
  pub default_step : (ls : List SwitchLabel) (i : ℕ) (l : SwitchLabel) (default : Option ℕ) (c0 all : Code) → i < length ls → l ≡ get_or ls i l → l.value ≡ None →
      c0 ++ cases_code block start (length c0) default (drop i ls) ≡ all → c0 ++ cases_code block start (length c0) (Some l.at) (drop (i + 1) ls) ≡ all
  default_step ls i l default c0 all h is e inv =
      sym (ap (λ (x : Code). c0 ++ x) (default_first (length c0) default l (drop (i + 1) ls) e))
      ∙ sym (ap (λ (xs : List SwitchLabel). c0 ++ cases_code block start (length c0) default xs) (opened ls i l h is))
      ∙ inv

  -- behind all of them
  pub cases_end : (ls : List SwitchLabel) (i : ℕ) (default : Option ℕ) (c0 all : Code) → length ls ≤ i →
      c0 ++ cases_code block start (length c0) default (drop i ls) ≡ all → c0 ++ default_code block start (length c0) default ≡ all
  cases_end ls i default c0 all h inv =
      sym (ap (λ (xs : List SwitchLabel). c0 ++ cases_code block start (length c0) default xs) (drop_all i ls h)) ∙ inv
