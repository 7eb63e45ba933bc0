-- The files behind a command: which of them it writes, and where an object is found.
use Rattle.std.proofs.Common.{◌≡◌, ℕ, Bool, true, false, if◌then◌else◌, List, [], ◌∷◌, Option, Some, None, refl, ap, sym, subst, ◌∙◌}
use Rattle.std.specs.Str.{bytes_eq}
use Rattle.sc_base.specs.declared.memory.Form.{Form}
use Rattle.sc_base.specs.declared.memory.Form.TheVariants as form
use Rattle.sc_object.specs.declared.object.Object.{Object}
use Rattle.sc_object.specs.Spelling.{spelled}
use Rattle.sc_outside.specs.Causes.{Rose}
use Rattle.sc_outside.specs.Stored.{FileMap, StoresTold}
use Rattle.sc_outside.specs.declared.files.FilePut.{FilePut}
use Rattle.sc_outside.specs.declared.files.FilePut.TheVariants as put
use Rattle.sc_words.specs.Commands.{IsNamed}
use Rattle.sc_words.specs.Parts.{is_module_name}
use Rattle.sc_words.specs.declared.answer.Answer.{Answer}
use Rattle.sc_words.specs.declared.answer.Answer.TheVariants as answer
use Rattle.sc_words.specs.declared.command.Command.{Command}
use Rattle.sc_words.specs.declared.command.Command.TheVariants as command
use Rattle.sc_words.specs.declared.denied.Denied.TheVariants as denied
use Rattle.sc_session_conflicts.specs.Clashes.{is_present}
use Rattle.sc_session.specs.declared.choice.Choice.{Choice}
use Rattle.sc_session.specs.declared.choice.Choice.TheVariants as choice
use Rattle.sc_session.specs.declared.present.Present.{Present}
use Rattle.sc_session.specs.Compiling.{IsFailed, KeepsSources, Spoilt, Tells, Writes, compiled_said, object_file}
use Rattle.sc_session.specs.Modules.{object_by, object_named, texts}
use Rattle.sc_session.specs.Plain.{Plain}
use Rattle.sc_session.specs.States.{if_absent}
use Rattle.sc_session.specs.Transcript.{Moment, Does, Edits, Loads, Swaps}

pub keeps_none : (held : Option FileMap) → KeepsSources held held
keeps_none None = tt
keeps_none (Some map) = λ file other. refl

pub keeps_same : (old new : Option FileMap) → new ≡ old → KeepsSources old new
keeps_same old new is = subst (KeepsSources old) (sym is) (keeps_none old)

pub keeps_more : (a b c : Option FileMap) → KeepsSources a b → KeepsSources b c → KeepsSources a c
keeps_more None b c p q = tt
keeps_more (Some a) None c p q = absurd p
keeps_more (Some a) (Some b) None p q = absurd q
keeps_more (Some a) (Some b) (Some c) p q = λ file other. q file other ∙ p file other

-- a write of an object's file
keeps_put : (old new : Option FileMap) (name : List ℕ) (c : Choice) (bytes : List ℕ) (how : FilePut) → is_module_name name ≡ true → StoresTold old new (object_file name c) bytes how → KeepsSources old new
keeps_put None new name c bytes how named stores = tt
keeps_put (Some old) None name c bytes how named stores = absurd stores
keeps_put (Some old) (Some new) name c bytes how named stores = λ file other. stores.others file (other name c named)

writes_keep : (old new : Option FileMap) (before now : ℕ) (name : List ℕ) (c : Choice) (object : Object) (said : Answer) → is_module_name name ≡ true → Writes old before name c object said new now → KeepsSources old new
writes_keep old new before now name c object (answer.Compiled m) named (plain, is, wrote) = keeps_put old new name c (spelled object) put.Done named wrote
writes_keep old new before now name c object (answer.CompiledFast m) named (fast, is, wrote) = keeps_put old new name c (spelled object) put.Done named wrote
writes_keep old new before now name c object (answer.Refused d) named (is, rose, spoilt) = keeps_put old new name c [] put.Failed named spoilt
writes_keep old new before now name c object answer.NoMemory named spoilt = keeps_put old new name c [] put.Failed named spoilt
writes_keep old new before now name c object _ named p = absurd p

loads_held : (old new : Moment) (name file : List ℕ) (said : Answer) → Loads old name file said new → new.held ≡ old.held
loads_held old new name file (answer.Loaded m) (is, (built, fits, session, held)) = held
loads_held old new name file (answer.Refused d) ((session, held), denied) = held
loads_held old new name file answer.NoMemory (session, held) = held
loads_held old new name file _ p = absurd p

edits_held : (old new : Moment) (name file : List ℕ) (said : Answer) → Edits old name file said new → new.held ≡ old.held
edits_held old new name file (answer.Edited m) (is, (built, fits, session, held)) = held
edits_held old new name file (answer.Refused d) ((session, held), denied) = held
edits_held old new name file answer.NoMemory (session, held) = held
edits_held old new name file _ p = absurd p

swaps_held : (old new : Moment) (name : List ℕ) (f : Form) (c : Choice) (said : Answer) → Swaps old name f c said new → new.held ≡ old.held
swaps_held old new name f c (answer.Swapped m g) p = p.5
swaps_held old new name f c (answer.SwappedFast m) p = p.4
swaps_held old new name f c (answer.Refused d) p = p.1.1
swaps_held old new name f c answer.NoMemory p = p.1
swaps_held old new name f c _ p = absurd p

-- a command that lets no program go on changes files of objects alone
pub does_keep : (old new : Moment) (c : Command) (said : Answer) → IsNamed c → Does old c said new → KeepsSources old.held new.held
does_keep old new command.Nothing said named p = keeps_same old.held new.held (ap (λ (m : Moment). m.held) p.1)
does_keep old new (command.Load name) said named p = keeps_same old.held new.held (loads_held old new name _ said p)
does_keep old new (command.Unload name) said named p = keeps_same old.held new.held p.1.0
does_keep old new (command.Swap name f) said named p = keeps_same old.held new.held (swaps_held old new name f choice.Plain said p)
does_keep old new (command.SwapFast name) said named p = keeps_same old.held new.held (swaps_held old new name form.Object choice.Fast said p)
does_keep old new (command.Edit name file) said named p = keeps_same old.held new.held (edits_held old new name _ said p)
does_keep old new (command.Compile name) said named (same, (object, there, puts)) = writes_keep old.held new.held old.faults new.faults name choice.Plain object said named puts
does_keep old new (command.CompileFast name) said named (same, (object, there, puts)) = writes_keep old.held new.held old.faults new.faults name choice.Fast object said named puts
does_keep old new (command.Stop place) said named p = keeps_same old.held new.held p.1.0
does_keep old new (command.Delete k) said named p = keeps_same old.held new.held p.2.0
does_keep old new command.Frames said named p = keeps_same old.held new.held (ap (λ (m : Moment). m.held) p.1)
does_keep old new (command.Print name) said named p = keeps_same old.held new.held (ap (λ (m : Moment). m.held) p.1)
does_keep old new command.Machine said named p = keeps_same old.held new.held (ap (λ (m : Moment). m.held) p.1)
does_keep old new (command.Disas home fun) said named p = keeps_same old.held new.held (ap (λ (m : Moment). m.held) p.1)
does_keep old new (command.Xref name) said named p = keeps_same old.held new.held (ap (λ (m : Moment). m.held) p.1)
does_keep old new (command.Whatis name) said named p = keeps_same old.held new.held (ap (λ (m : Moment). m.held) p.1)
does_keep old new command.List said named p = keeps_same old.held new.held (ap (λ (m : Moment). m.held) p.1)
does_keep old new (command.Report k) said named p = keeps_same old.held new.held (ap (λ (m : Moment). m.held) p.1)
does_keep old new (command.Drop k) said named p = keeps_same old.held new.held p.1.0
does_keep old new command.Reset said named p = keeps_same old.held new.held p.2.0
does_keep old new command.Quit said named p = keeps_same old.held new.held p.2.0
does_keep old new command.Unknown said named p = absurd p
does_keep old new command.BadArguments said named p = absurd p
does_keep old new (command.Run file) said named p = absurd p
does_keep old new (command.Eval name line) said named p = absurd p
does_keep old new command.Step said named p = absurd p
does_keep old new command.Next said named p = absurd p
does_keep old new command.Cont said named p = absurd p
does_keep old new command.StepOne said named p = absurd p

object_step : (p : Present) (ps : List Present) (name : List ℕ) (c : Choice) (b : Bool) → b ≡ bytes_eq p.text.core.name name
    → (if (if b then true else is_present name (texts ps)) then None else Some denied.NoModule) ≡ None → (if b then Some (object_by c p) else object_named ps name c) ≡ None
    → (if_absent name (texts ps) ≡ None → object_named ps name c ≡ None → ⊥) → ⊥
object_step p ps name c true same there none rest = cc
object_step p ps name c false same there none rest = rest there none

-- a module that is present has either object
pub object_there : (ps : List Present) (name : List ℕ) (c : Choice) → if_absent name (texts ps) ≡ None → object_named ps name c ≡ None → ⊥
object_there [] name c there none = cc
object_there (p ∷ ps) name c there none = object_step p ps name c (bytes_eq p.text.core.name name) refl there none (object_there ps name c)

-- what is found in the session's own list
pub object_found : (v session : Plain) (modules : List Present) (name : List ℕ) (c : Choice) (object : Object) → v ≡ session → modules ≡ v.modules → object_named modules name c ≡ Some object
    → object_named session.modules name c ≡ Some object
object_found v session modules name c object is same found = subst (λ m. object_named m name c ≡ Some object) (same ∙ ap (λ s. s.modules) is) found

pub object_missed : (v session : Plain) (modules : List Present) (name : List ℕ) (c : Choice) → v ≡ session → modules ≡ v.modules → if_absent name (texts session.modules) ≡ None
    → object_named modules name c ≡ None → ⊥
object_missed v session modules name c is same there none =
    object_there session.modules name c there (subst (λ m. object_named m name c ≡ None) (same ∙ ap (λ s. s.modules) is) none)

-- where a file was written so, it may hold anything
spoilt_by : (old new : Option FileMap) (file bytes : List ℕ) (how : FilePut) → StoresTold old new file bytes how → Spoilt old new file
spoilt_by None new file bytes how stores = tt
spoilt_by (Some old) None file bytes how stores = absurd stores
spoilt_by (Some old) (Some new) file bytes how stores = record { others = stores.others; named = tt }

failed_so : (old new : Option FileMap) (before now : ℕ) (name : List ℕ) (c : Choice) (object : Object) (said : Answer) → Spoilt old new (object_file name c) → Rose before now → IsFailed (object_file name c) said
    → Writes old before name c object said new now
failed_so old new before now name c object (answer.Refused d) spoilt rose is = (is, rose, spoilt)
failed_so old new before now name c object answer.NoMemory spoilt rose is = spoilt
failed_so old new before now name c object _ spoilt rose is = absurd is

done_so : (old new : Option FileMap) (before now : ℕ) (name : List ℕ) (c : Choice) (object : Object) → StoresTold old new (object_file name c) (spelled object) put.Done
    → Writes old before name c object (compiled_said name c) new now
done_so old new before now name choice.Plain object stores = (refl, refl, stores)
done_so old new before now name choice.Fast object stores = (refl, refl, stores)

told_so : (old new : Option FileMap) (before now : ℕ) (name : List ℕ) (c : Choice) (object : Object) (how : FilePut) (said : Answer) → StoresTold old new (object_file name c) (spelled object) how
    → (how ≡ put.Failed → Rose before now) → Tells name c (object_file name c) how said → Writes old before name c object said new now
told_so old new before now name c object put.Done said stores failed is = subst (λ a. Writes old before name c object a new now) (sym is) (done_so old new before now name c object stores)
told_so old new before now name c object put.Failed said stores failed is =
    failed_so old new before now name c object said (spoilt_by old new (object_file name c) (spelled object) put.Failed stores) (failed refl) is
told_so old new before now name c object put.NoMemory said stores failed is =
    subst (λ a. Writes old before name c object a new now) (sym is) (spoilt_by old new (object_file name c) (spelled object) put.NoMemory stores)

-- the file of an object is written, or the write failed, or no memory was left
pub writes_so : (old new : Option FileMap) (before now : ℕ) (name : List ℕ) (c : Choice) (file bytes : List ℕ) (object : Object) (how : FilePut) (said : Answer) → file ≡ object_file name c → bytes ≡ spelled object
    → StoresTold old new file bytes how → (how ≡ put.Failed → Rose before now) → Tells name c file how said → Writes old before name c object said new now
writes_so old new before now name c file bytes object how said is_file is_bytes stores failed tells =
    told_so old new before now name c object how said
    (subst (λ b. StoresTold old new (object_file name c) b how) is_bytes (subst (λ f. StoresTold old new f bytes how) is_file stores))
    failed (subst (λ f. Tells name c f how said) is_file tells)

pub writes_none : (held : Option FileMap) (before now : ℕ) (name : List ℕ) (c : Choice) (object : Object) → Writes held before name c object answer.NoMemory held now
writes_none None before now name c object = tt
writes_none (Some map) before now name c object = record { others = λ other differs. refl; named = tt }
