-- A lawful list grows note by note.
use Rattle.std.proofs.Common.{ℕ, List, [], ◌∷◌, ◌++◌, Option, sym, subst, append_assoc, append-nil}
use Rattle.sc_base.specs.declared.memory.Form.{Form}
use Rattle.sc_base.specs.declared.note.Note.{Note}
use Rattle.sc_record.specs.Lawful.{AreLawful, IsLawful}

module _ (word : ℕ → Option ℕ) (forms : ℕ → Option Form) where
  pub last_is_lawful : (before notes : List Note) (n : Note) → AreLawful word forms before (notes ++ n ∷ []) → AreLawful word forms before notes × IsLawful word forms (before ++ notes) n
  last_is_lawful before [] n h = (tt, subst (λ b. IsLawful word forms b n) (sym (append-nil before)) h.0)
  last_is_lawful before (m ∷ notes) n h =
      let rest = last_is_lawful (before ++ m ∷ []) notes n h.1 in
      ((h.0, rest.0), subst (λ b. IsLawful word forms b n) (append_assoc before (m ∷ []) notes) rest.1)

  pub with_lawful : (before notes : List Note) (n : Note) → AreLawful word forms before notes → IsLawful word forms (before ++ notes) n → AreLawful word forms before (notes ++ n ∷ [])
  with_lawful before [] n h l = (subst (λ b. IsLawful word forms b n) (append-nil before) l, tt)
  with_lawful before (m ∷ notes) n h l =
      (h.0, with_lawful (before ++ m ∷ []) notes n h.1 (subst (λ b. IsLawful word forms b n) (sym (append_assoc before (m ∷ []) notes)) l))
