-- Where no text has the form Object nothing is owed.
use Rattle.std.proofs.Common.{◌≡◌, ℕ, Bool, true, false, List, [], ◌∷◌, refl, sym, ap, ◌∙◌, Option, Some, None}
use Rattle.sc_base.specs.declared.key.Key.{Key}
use Rattle.sc_core.specs.declared.module.Fun.{Fun}
use Rattle.sc_meaning.specs.declared.library.LibFun.{LibFun}
use Rattle.sc_meaning.specs.Versions.{Text, Callee, or_library, library_callee, or_later, fun_by, callee_of}
use Rattle.sc_meaning.specs.Names.{library_fun}
use Rattle.sc_mixed.specs.Bridge.{is_code}
use Rattle.sc_services.specs.Frames.{is_object}
use Rattle.sc_mixed_means.specs.Owed.{CallsMean, CompiledTextsAreRight}
use Rattle.sc_mixed_means.specs.Sources.{AreSources, BuildsAreSources}
use Rattle.sc_mixed_means.specs.Stages.{Build, Look, Stage, texts_of}

library_source : (q : Option LibFun) → is_code (or_library q) ≡ false
library_source None = refl
library_source (Some f) = refl

other_source : (key : Key) (m : Option (List ℕ)) → is_code (library_callee key m) ≡ false
other_source key None = library_source (library_fun key.name)
other_source key (Some home) = refl

later_source : (t : Text) (q : Option Fun) (c : Callee) → is_object t.form ≡ false → is_code c ≡ false → is_code (or_later t q c) ≡ false
later_source t None c p q = q
later_source t (Some f) c p q = p

callee_source : (texts : List Text) (key : Key) → AreSources texts → is_code (callee_of texts key) ≡ false
callee_source [] key p = other_source key key.«module»
callee_source (t ∷ ts) key p = later_source t (fun_by key.«module» key.name t.core) (callee_of ts key) p.0 (callee_source ts key p.1)

not_both : (b : Bool) → b ≡ false → b ≡ true → ⊥
not_both true p q = absurd (cc)
not_both false p q = absurd (cc)

sources_mean : (s : Stage) (texts : List Text) → texts_of s.past ≡ texts → AreSources texts → CallsMean s
sources_mean s texts e sources n key xs c d w u v next code fit like x are alike late q given =
    absurd (not_both (is_code (callee_of texts key)) (callee_source texts key sources) (ap (λ ts. is_code (callee_of ts key)) (sym e) ∙ code))

pub nothing_owed : (look : Look) (bs : List Build) → BuildsAreSources bs → CompiledTextsAreRight look bs
nothing_owed look [] p = tt
nothing_owed look (b ∷ bs) p = (λ past e. sources_mean (record { look = look; past = past; image = b.image; places = b.places; later = bs }) b.texts e p.0, nothing_owed look bs p.1)
