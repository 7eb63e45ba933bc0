-- One function of a list of them.
use Rattle.std.proofs.Common.{◌≡◌, ℕ, ◌+◌, ◌<◌, suc, Bool, true, false, List, ◌∷◌, length, drop, get_or, sym, ◌∙◌, ap}
use Rattle.std.specs.Prelude.{◌&&◌}
use Rattle.std.proofs.Math.Numerals.{add-one}
use Rattle.std.proofs.Math.Seq.{drop-cons}
use Rattle.sc_core.specs.declared.module.Core.{Core}
use Rattle.sc_core.specs.declared.module.Fun.{Fun}
use Rattle.sc_core_formed.specs.Frames.{is_function, functions}

at_item : (funs : List Fun) (i : ℕ) (f : Fun) → i < length funs → f ≡ get_or funs i f → drop i funs ≡ f ∷ drop (i + 1) funs
at_item funs i f h e = rw (add-one, drop-cons funs i f) (ap (λ (x : Fun). x ∷ drop (suc i) funs) (sym e))

module _ (core : Core) (funs : List Fun) (i : ℕ) (f g : Fun) (h : i < length funs) (e : f ≡ get_or funs i f) (same : g ≡ f) (inv : functions core (drop i funs) ≡ functions core funs) where
  opened : functions core funs ≡ (is_function core g && functions core (drop (i + 1) funs))
  opened = sym inv ∙ ap (functions core) (at_item funs i f h e) ∙ ap (λ (x : Fun). is_function core x && functions core (drop (i + 1) funs)) (sym same)

  pub fails : is_function core g ≡ false → false ≡ functions core funs
  fails w = sym (opened ∙ ap (λ (b : Bool). b && functions core (drop (i + 1) funs)) w)

  pub goes_on : is_function core g ≡ true → functions core (drop (i + 1) funs) ≡ functions core funs
  goes_on w = sym (opened ∙ ap (λ (b : Bool). b && functions core (drop (i + 1) funs)) w)
