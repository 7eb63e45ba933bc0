-- The whole image from its parts.
use Rattle.std.proofs.Common.{◌≡◌, ℕ, List, sym, refl, subst, Option}
use Rattle.sc_base.specs.declared.key.Key.{Key}
use Rattle.sc_isa_image.specs.declared.image.Image.{Image}
use Rattle.sc_isa_image.specs.declared.text.Text.{Text}
use Rattle.sc_isa_image.specs.Lookups.{value_of}
use Rattle.sc_link.specs.declared.placed.Placed.{Placed}
use Rattle.sc_link.specs.declared.placed.LiteralAt.{LiteralAt}
use Rattle.sc_link.specs.Entries.{fixes_in, jumps_in, literals_in, statics_in, texts_in}
use Rattle.sc_link.specs.Linked.{IsLinked, value_in}
use Rattle.sc_link.specs.Steps.{HasParts, Relocates}
use Rattle.sc_link.proofs.Parts.{parts-linked}

pub assembled : (es : List Placed) (ks keys : List Key) (st js : List (Key × ℕ)) (ts : List Text) (ls : List LiteralAt) (i j : Image) → keys ≡ ks → st ≡ statics_in es → js ≡ jumps_in es → ts ≡ texts_in es → ls ≡ literals_in es → HasParts keys st js ts ls i → ((value : Key → Option ℕ) → ((key : Key) → value_of i key ≡ value key) → Relocates value (fixes_in es) i j) → IsLinked es ks j
assembled es ks keys st js ts ls i j a b c d e h r =
    let h1 = subst (λ x. HasParts x st js ts ls i) a h in
    let h2 = subst (λ x. HasParts ks x js ts ls i) b h1 in
    let h3 = subst (λ x. HasParts ks (statics_in es) x ts ls i) c h2 in
    let h4 = subst (λ x. HasParts ks (statics_in es) (jumps_in es) x ls i) d h3 in
    let h5 = subst (λ x. HasParts ks (statics_in es) (jumps_in es) (texts_in es) x i) e h4 in
    parts-linked es ks i j h5 (r (value_in es ks) h5.values)
