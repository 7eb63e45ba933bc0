-- The lines of a function in the image of all that is placed.
use Rattle.std.proofs.Common.{◌≡◌, List, ℕ, Option, Some, inr, refl, sym, ap, subst, ◌∙◌}
use Rattle.sc_base.specs.declared.key.Key.{Key}
use Rattle.sc_image.specs.Running.{AreWithin, IsOver}
use Rattle.sc_isa_image.specs.declared.image.Image.{Image}
use Rattle.sc_link.specs.Linked.{IsLinked}
use Rattle.sc_link.specs.declared.placed.Placed.{Placed}
use Rattle.sc_session_forms.specs.Forms.{functions_by}
use Rattle.sc_words.specs.declared.answer.Answer.{Answer}
use Rattle.sc_words.specs.declared.answer.Answer.TheVariants as answer
use Rattle.sc_session.specs.declared.linking.ImageFault.{ImageFault}
use Rattle.sc_session.specs.declared.linking.ImageFault.TheVariants as short
use Rattle.sc_session.specs.declared.present.Present.{Present}
use Rattle.sc_session.specs.declared.relinking.Plan.{Plan}
use Rattle.sc_session.specs.Disassembling.{Disassembles, ShowsCode, ShowsLast, ShowsMeant, code_text, coded, unlinked}
use Rattle.sc_session.specs.Modules.{texts}
use Rattle.sc_session.specs.Placing.{IsLacking, each_placed, placed_over, plan_of}
use Rattle.sc_session.specs.Plain.{Plain}
use Rattle.sc_session.proofs.PlacingLemmas.{last_placed, the_same}

placed_lines : (session : Plain) (k : Key) (lines : List ℕ) → AreWithin (placed_over session.past session.modules) (functions_by session.numbers) → ShowsLast (each_placed session.past session.modules) (functions_by session.numbers) k lines → ShowsCode session k (answer.Shown lines)
placed_lines session k lines room (es, is, (i, linked, told)) =
    let same : es ≡ placed_over session.past session.modules = the_same es (placed_over session.past session.modules) (sym is ∙ last_placed session.past session.modules) in
    (i, record { linked = subst (λ xs. IsLinked xs (functions_by session.numbers) i) same linked; room = room }, told ∙ ap (λ xs. code_text i xs k) same)

pub planned_lines : (session : Plain) (plan : Plan) (placed : List (List Placed)) (funs : List Key) (k : Key) (lines : List ℕ) → plan ≡ plan_of session → placed ≡ plan.placed → funs ≡ plan.functions
    → AreWithin (placed_over session.past session.modules) (functions_by session.numbers) → ShowsLast placed funs k lines → ShowsCode session k (answer.Shown lines)
planned_lines session plan placed funs k lines is at by room p =
    placed_lines session k lines room
    (subst (λ fs. ShowsLast (each_placed session.past session.modules) fs k lines) (by ∙ ap (λ (q : Plan). q.functions) is)
    (subst (λ xs. ShowsLast xs funs k lines) (at ∙ ap (λ (q : Plan). q.placed) is) p))

-- where there is no image
without_image : (session : Plain) (k : Key) (f : ImageFault) → IsLacking (IsOver (placed_over session.past session.modules) (functions_by session.numbers)) f → ShowsCode session k (unlinked f)
without_image session k (short.Space a) lacks = record { lacks = lacks }
without_image session k short.NoMemory lacks = tt

pub unlinked_so : (session : Plain) (k : Key) (f : ImageFault) (said : Answer) → IsLacking (IsOver (placed_over session.past session.modules) (functions_by session.numbers)) f → said ≡ unlinked f → ShowsCode session k said
unlinked_so session k f said p told = subst (ShowsCode session k) (sym told) (without_image session k f p)

-- the function is looked for in the session's own list
pub meant_by : (v session : Plain) (listed : List Present) (home : Option (List ℕ)) (name : List ℕ) (found : Option Key) (said : Answer) → v ≡ session → listed ≡ v.modules → found ≡ coded home name (texts listed)
    → ShowsMeant session home name found said → Disassembles session home name said
meant_by v session listed home name found said is same told shows =
    inr (subst (λ o. ShowsMeant session home name o said) (told ∙ ap (λ m. coded home name (texts m)) (same ∙ ap (λ s. s.modules) is)) shows)
