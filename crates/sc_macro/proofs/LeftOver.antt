-- A replacement list is filled alike where the arguments that it wants expanded alone are gone.
use Rattle.std.proofs.Common.{◌≡◌, ℕ, zero, suc, Bool, false, List, [], ◌∷◌, ◌++◌, length, get_or, Ok, Err, refl, sym, ◌∙◌, ap, append_assoc, append-nil}
use Rattle.std.specs.Prelude.{slice_set, ⊤, map}
use Rattle.sc_lex.specs.declared.token.TokenKind.TheVariants as token
use Rattle.sc_lex.specs.declared.token.Token.{Token}
use Rattle.sc_macro.specs.declared.marked.Marked.{Marked}
use Rattle.sc_macro.specs.declared.failure.Failure.{Failure}
use Rattle.sc_macro.specs.declared.failure.Failure.TheVariants as failure
use Rattle.sc_macro.specs.declared.macros.Macro.{Macro}
use Rattle.sc_macro.specs.declared.macros.Part.{Part}
use Rattle.sc_macro.specs.declared.macros.Part.TheVariants as part
use Rattle.sc_macro.specs.Refusals.{Outcome, Meets, after}
use Rattle.sc_macro.specs.Hides.{common}
use Rattle.sc_macro.specs.Marks.{made, respaced, landed}
use Rattle.sc_macro.specs.Strings.{string_of}
use Rattle.sc_macro.specs.Substitute.{value, glue, glued, chain, filled}
use Rattle.sc_macro.specs.Expansion.{Out, arguments, called, placed, Replaces}
use Rattle.sc_macro.specs.Moving.{kept_by, kept_by_all, kept_by_chain, movable, stay, left_over}

-- this argument is not given away
abbrev Stays : List Bool → ℕ → Type 0
Stays flags i = get_or flags i false ≡ false

-- what stays by the first flags stays by the second
abbrev Keeps : List Bool → List Bool → Type 0
Keeps f g = (i : ℕ) → Stays f i → Stays g i

set_stays : (flags : List Bool) (j : ℕ) → Keeps flags (slice_set flags j false)
set_stays [] j i h = h
set_stays (f ∷ fs) zero zero h = refl
set_stays (f ∷ fs) zero (suc i) h = h
set_stays (f ∷ fs) (suc j) zero h = h
set_stays (f ∷ fs) (suc j) (suc i) h = set_stays fs j i h

set_here : (flags : List Bool) (i : ℕ) → Stays (slice_set flags i false) i
set_here [] i = refl
set_here (f ∷ fs) zero = refl
set_here (f ∷ fs) (suc i) = set_here fs i

part_keeps : (p : Part) (flags : List Bool) → Keeps flags (kept_by flags p)
part_keeps (part.Word t) flags i h = h
part_keeps (part.Parameter j space) flags i h = set_stays flags j i h
part_keeps (part.Quoted j space) flags i h = set_stays flags j i h

parts_keep : (ps : List Part) (flags : List Bool) → Keeps flags (kept_by_all flags ps)
parts_keep [] flags i h = h
parts_keep (p ∷ ps) flags i h = parts_keep ps (kept_by flags p) i (part_keeps p flags i h)

chain_keeps : (c : List Part) (flags : List Bool) → Keeps flags (kept_by_chain flags c)
chain_keeps [] flags i h = h
chain_keeps (part.Parameter j space ∷ []) flags i h = h
chain_keeps (part.Word t ∷ []) flags i h = h
chain_keeps (part.Quoted j space ∷ []) flags i h = set_stays flags j i h
chain_keeps (part.Parameter j space ∷ q ∷ ps) flags i h = parts_keep (part.Parameter j space ∷ q ∷ ps) flags i h
chain_keeps (part.Word t ∷ q ∷ ps) flags i h = parts_keep (part.Word t ∷ q ∷ ps) flags i h
chain_keeps (part.Quoted j space ∷ q ∷ ps) flags i h = parts_keep (part.Quoted j space ∷ q ∷ ps) flags i h

movable_keeps : (cs : List (List Part)) (flags : List Bool) → Keeps flags (movable flags cs)
movable_keeps [] flags i h = h
movable_keeps (c ∷ cs) flags i h = movable_keeps cs (kept_by_chain flags c) i (chain_keeps c flags i h)

-- the arguments that parts take as they are written
abbrev PartStays : List Bool → Part → Type 0
PartStays flags (part.Word t) = ⊤
PartStays flags (part.Parameter i space) = Stays flags i
PartStays flags (part.Quoted i space) = Stays flags i

abbrev AllStay : List Bool → List Part → Type 0
AllStay flags [] = ⊤
AllStay flags (p ∷ ps) = PartStays flags p × AllStay flags ps

abbrev ChainStays : List Bool → List Part → Type 0
ChainStays flags (part.Parameter i space ∷ []) = ⊤
ChainStays flags ps = AllStay flags ps

abbrev EachStays : List Bool → List (List Part) → Type 0
EachStays flags [] = ⊤
EachStays flags (c ∷ cs) = ChainStays flags c × EachStays flags cs

part_stays : (p : Part) (flags : List Bool) → PartStays (kept_by flags p) p
part_stays (part.Word t) flags = tt
part_stays (part.Parameter j space) flags = set_here flags j
part_stays (part.Quoted j space) flags = set_here flags j

part_on : (p : Part) (f g : List Bool) → Keeps f g → PartStays f p → PartStays g p
part_on (part.Word t) f g k h = tt
part_on (part.Parameter i space) f g k h = k i h
part_on (part.Quoted i space) f g k h = k i h

all_on : (ps : List Part) (f g : List Bool) → Keeps f g → AllStay f ps → AllStay g ps
all_on [] f g k h = tt
all_on (p ∷ ps) f g k h = (part_on p f g k h.0, all_on ps f g k h.1)

all_stay : (ps : List Part) (flags : List Bool) → AllStay (kept_by_all flags ps) ps
all_stay [] flags = tt
all_stay (p ∷ ps) flags = (part_on p (kept_by flags p) (kept_by_all (kept_by flags p) ps) (parts_keep ps (kept_by flags p)) (part_stays p flags), all_stay ps (kept_by flags p))

chain_on : (c : List Part) (f g : List Bool) → Keeps f g → ChainStays f c → ChainStays g c
chain_on [] f g k h = tt
chain_on (part.Parameter j space ∷ []) f g k h = tt
chain_on (part.Word t ∷ []) f g k h = h
chain_on (part.Quoted j space ∷ []) f g k h = all_on (part.Quoted j space ∷ []) f g k h
chain_on (part.Parameter j space ∷ q ∷ ps) f g k h = all_on (part.Parameter j space ∷ q ∷ ps) f g k h
chain_on (part.Word t ∷ q ∷ ps) f g k h = all_on (part.Word t ∷ q ∷ ps) f g k h
chain_on (part.Quoted j space ∷ q ∷ ps) f g k h = all_on (part.Quoted j space ∷ q ∷ ps) f g k h

chain_stays : (c : List Part) (flags : List Bool) → ChainStays (kept_by_chain flags c) c
chain_stays [] flags = tt
chain_stays (part.Parameter j space ∷ []) flags = tt
chain_stays (part.Word t ∷ []) flags = all_stay (part.Word t ∷ []) flags
chain_stays (part.Quoted j space ∷ []) flags = all_stay (part.Quoted j space ∷ []) flags
chain_stays (part.Parameter j space ∷ q ∷ ps) flags = all_stay (part.Parameter j space ∷ q ∷ ps) flags
chain_stays (part.Word t ∷ q ∷ ps) flags = all_stay (part.Word t ∷ q ∷ ps) flags
chain_stays (part.Quoted j space ∷ q ∷ ps) flags = all_stay (part.Quoted j space ∷ q ∷ ps) flags

each_stay : (cs : List (List Part)) (flags : List Bool) → EachStays (movable flags cs) cs
each_stay [] flags = tt
each_stay (c ∷ cs) flags = (chain_on c (kept_by_chain flags c) (movable (kept_by_chain flags c) cs) (movable_keeps cs (kept_by_chain flags c)) (chain_stays c flags), each_stay cs (kept_by_chain flags c))

under : {A B : Type 0} (o : Outcome A) (f g : A → Outcome B) → ((x : A) → f x ≡ g x) → after o f ≡ after o g
under (Err r) f g h = refl
under (Ok x) f g h = h x

module _ (name : Token) (args stays : List (List Marked)) (flags : List Bool) (same : (i : ℕ) → Stays flags i → get_or stays i [] ≡ get_or args i []) where
  value_same : (p : Part) → PartStays flags p → value name stays stays p ≡ value name args args p
  value_same (part.Word t) h = refl
  value_same (part.Parameter i space) h = ap (respaced space) (same i h)
  value_same (part.Quoted i space) h = ap (λ (ts : List Marked). made name token.Str (string_of ts) space ∷ []) (same i h)

  glued_same : (ps : List Part) (out : List Marked) → AllStay flags ps → glued name stays out ps ≡ glued name args out ps
  glued_same [] out h = refl
  glued_same (p ∷ ps) out h =
      ap (λ (vs : List Marked). after (glue name out vs) (λ more. glued name stays more ps)) (value_same p h.0)
      ∙ under (glue name out (value name args args p)) (λ more. glued name stays more ps) (λ more. glued name args more ps) (λ more. glued_same ps more h.1)

  chain_same : (whole : List (List Marked)) (c : List Part) → ChainStays flags c → chain name stays whole c ≡ chain name args whole c
  chain_same whole [] h = refl
  chain_same whole (part.Parameter i space ∷ []) h = refl
  chain_same whole (part.Word t ∷ []) h = refl
  chain_same whole (part.Quoted i space ∷ []) h = ap (λ (ts : List Marked). Ok (made name token.Str (string_of ts) space ∷ [])) (same i h.0)
  chain_same whole (part.Parameter i space ∷ q ∷ ps) h = glued_same (part.Parameter i space ∷ q ∷ ps) [] h
  chain_same whole (part.Word t ∷ q ∷ ps) h = glued_same (part.Word t ∷ q ∷ ps) [] h
  chain_same whole (part.Quoted i space ∷ q ∷ ps) h = glued_same (part.Quoted i space ∷ q ∷ ps) [] h

  filled_same : (whole : List (List Marked)) (cs : List (List Part)) (out : List Marked) → EachStays flags cs → filled name stays whole out cs ≡ filled name args whole out cs
  filled_same whole [] out h = refl
  filled_same whole (c ∷ cs) out h =
      ap (λ (o : Outcome (List Marked)). after o (λ xs. filled name stays whole (out ++ xs) cs)) (chain_same whole c h.0)
      ∙ under (chain name args whole c) (λ xs. filled name stays whole (out ++ xs) cs) (λ xs. filled name args whole (out ++ xs) cs) (λ xs. filled_same whole cs (out ++ xs) h.1)

-- a list in which at most one element is another one
one_other : (done args : List (List Marked)) (x a : List Marked) (i : ℕ) → (i ≡ length done → x ≡ a) → get_or (done ++ x ∷ args) i [] ≡ get_or (done ++ a ∷ args) i []
one_other [] args x a zero h = h refl
one_other [] args x a (suc i) h = refl
one_other (d ∷ done) args x a zero h = refl
one_other (d ∷ done) args x a (suc i) h = one_other done args x a i (λ e. h (ap suc e))

stay_same : (b : Bool) (a : List Marked) → b ≡ false → stay b a ≡ a
stay_same b a h = rw h refl

left_over_same : (flags : List Bool) (args done : List (List Marked)) (i : ℕ) → Stays flags i → get_or (left_over flags done args) i [] ≡ get_or (done ++ args) i []
left_over_same flags [] done i h = ap (λ (xs : List (List Marked)). get_or xs i []) (sym (append-nil done))
left_over_same flags (a ∷ args) done i h =
    left_over_same flags args (done ++ stay (get_or flags (length done) false) a ∷ []) i h
    ∙ ap (λ (xs : List (List Marked)). get_or xs i []) (append_assoc done (stay (get_or flags (length done) false) a ∷ []) args)
    ∙ one_other done args (stay (get_or flags (length done) false) a) a i (λ e. stay_same (get_or flags (length done) false) a (ap (λ (n : ℕ). get_or flags n false) (sym e) ∙ h))

pub filled_moved : (name : Token) (args whole : List (List Marked)) (wanted : List Bool) (chains : List (List Part)) → filled name (left_over (movable wanted chains) [] args) whole [] chains ≡ filled name args whole [] chains
filled_moved name args whole wanted chains =
    filled_same name args (left_over (movable wanted chains) [] args) (movable wanted chains) (left_over_same (movable wanted chains) args []) whole chains [] (each_stay chains wanted)

-- A call whose arguments are expanded: `stays` is what is left of them. What the code's slices hold is given by equations.
module _ (inner : ℕ → List Marked → Out) (left more : ℕ) (t : Marked) (i : ℕ) (m : Macro) (args stays stays2 whole whole2 : List (List Marked)) (hide : List ℕ) (rest : List Marked)
    (wanted moves moves2 : List Bool) (chains : List (List Part)) (w : wanted ≡ m.wanted) (c : chains ≡ m.chains) (mv : moves ≡ movable wanted chains) (mv2 : moves2 ≡ moves)
    (s : stays ≡ left_over moves2 [] args) (s2 : stays2 ≡ stays) (h2 : whole2 ≡ whole) (a : arguments inner wanted left [] args ≡ Ok (whole, more)) where
  stays_are : stays2 ≡ left_over (movable wanted chains) [] args
  stays_are = s2 ∙ s ∙ ap (λ (fs : List Bool). left_over fs [] args) (mv2 ∙ mv)

  filled_is : filled t.token stays2 whole2 [] chains ≡ filled t.token args whole [] m.chains
  filled_is =
      ap (λ (xs : List (List Marked)). filled t.token xs whole2 [] chains) stays_are
      ∙ filled_moved t.token args whole2 wanted chains
      ∙ ap (λ (xs : List (List Marked)). filled t.token args xs [] chains) h2
      ∙ ap (λ (cs : List (List Part)). filled t.token args whole [] cs) c

  called_by : (o : Outcome (List Marked)) → filled t.token stays2 whole2 [] chains ≡ o → called inner left t i m (args, hide, rest) ≡ after o (placed t (i ∷ common t.hide hide) more rest)
  called_by o h =
      ap (λ (fs : List Bool). after (arguments inner fs left [] args) (λ r. after (filled t.token args r.0 [] m.chains) (placed t (i ∷ common t.hide hide) r.1 rest))) (sym w)
      ∙ ap (λ (p : Outcome (List (List Marked) × ℕ)). after p (λ r. after (filled t.token args r.0 [] m.chains) (placed t (i ∷ common t.hide hide) r.1 rest))) a
      ∙ ap (λ (p : Outcome (List Marked)). after p (placed t (i ∷ common t.hide hide) more rest)) (sym filled_is ∙ h)

  -- the replacement list was refused
  pub call_stops : (f : Failure) (l : ℕ) (ts : List Marked) → Meets (filled t.token stays2 whole2 [] chains) (Err f) → Replaces (called inner left t i m (args, hide, rest)) (Err f) l ts
  call_stops (failure.Refused r) l ts h = called_by (Err r) h
  call_stops failure.NoMemory l ts h = tt

  -- it was put in place
  pub call_done : (tokens now : List Marked) (both closing : List ℕ) → filled t.token stays2 whole2 [] chains ≡ Ok tokens → both ≡ common t.hide hide → closing ≡ i ∷ both →
      now ≡ map (landed t.token closing) (respaced t.token.space tokens) ++ rest → called inner left t i m (args, hide, rest) ≡ Ok (now, more)
  call_done tokens now both closing h b k p =
      called_by (Ok tokens) h
      ∙ ap (λ (xs : List Marked). Ok (xs, more)) (sym (p ∙ ap (λ (g : List ℕ). map (landed t.token g) (respaced t.token.space tokens) ++ rest) (k ∙ ap (λ (g : List ℕ). i ∷ g) b)))
