-- What has been tested is what linking asks.
use Rattle.std.proofs.Common.{◌≡◌, true, List, map, subst}
use Rattle.std.specs.Prelude.{nat_eq}
use Rattle.sc_base.specs.declared.key.Key.{Key}
use Rattle.sc_isa_image.specs.declared.text.Text.{Text}
use Rattle.sc_isa_image.specs.Lookups.{key_eq}
use Rattle.sc_link.specs.declared.placed.LiteralAt.{LiteralAt}
use Rattle.sc_link.specs.declared.placed.Placed.{Placed}
use Rattle.sc_link.specs.Entries.{literals_in, texts_in}
use Rattle.sc_link.specs.Linked.{AreApart, AreOnePlaced}
use Rattle.sc_image.specs.Distinct.{distinct}
use Rattle.sc_image.specs.Linkable.{IsLinkable}
use Rattle.sc_image.specs.Ordered.{are_ordered}
use Rattle.sc_image.proofs.Behind.{ordered-apart}
use Rattle.sc_image.specs.OnePlace.{all_agree}
use Rattle.sc_image.proofs.OnePlaces.{places-agree}
use Rattle.sc_image.proofs.Single.{keys-distinct, places-distinct}

pub linkable : (es : List Placed) (funs : List Key) (ts : List Text) (ls : List LiteralAt) → distinct key_eq funs ≡ true → ts ≡ texts_in es → are_ordered 0 ts ≡ true → ls ≡ literals_in es → distinct nat_eq (map (λ (x : LiteralAt). x.at) ls) ≡ true → IsLinkable es funs
linkable es funs ts ls one same ordered equal single = record {
  functions = keys-distinct funs one;
  texts = subst AreApart same (ordered-apart 0 ts ordered);
  literals = subst AreOnePlaced equal (places-distinct ls single);
}

pub linkable_again : (es : List Placed) (funs : List Key) (ts : List Text) (ls : List LiteralAt) → distinct key_eq funs ≡ true → ts ≡ texts_in es → are_ordered 0 ts ≡ true → ls ≡ literals_in es → all_agree ls ≡ true → IsLinkable es funs
linkable_again es funs ts ls one same ordered equal agrees = record {
  functions = keys-distinct funs one;
  texts = subst AreApart same (ordered-apart 0 ts ordered);
  literals = subst AreOnePlaced equal (places-agree ls agrees);
}
