-- A chain or a part more at the end.
use Rattle.std.proofs.Common.{◌≡◌, ℕ, zero, suc, ◌+◌, ◌<◌, Bool, true, false, List, [], ◌∷◌, ◌++◌, ◌≢◌, length, take, get_or, refl, sym, ◌∙◌, ap, ap₂, arith}
use Rattle.std.specs.Prelude.{◌||◌, ◌==◌, slice_set}
use Rattle.std.proofs.lemmas.List.Folds.{list_any-append}
use Rattle.std.proofs.lemmas.List.{take_more}
use Rattle.std.proofs.lemmas.Bool.Decides.{nat_tests}
use Rattle.sc_macro.specs.declared.macros.Part.{Part}
use Rattle.sc_macro.specs.declared.macros.Part.TheVariants as part
use Rattle.sc_macro.specs.Replacement.{in_last, wanted, needs, is_parameter, marked}

pub in_last_behind : (cs : List (List Part)) (c : List Part) (p : Part) → in_last (cs ++ c ∷ []) p ≡ cs ++ (c ++ p ∷ []) ∷ []
in_last_behind [] c p = refl
in_last_behind (d ∷ []) c p = refl
in_last_behind (d ∷ e ∷ cs) c p = ap (λ (xs : List (List Part)). d ∷ xs) (in_last_behind (e ∷ cs) c p)

pub wanted_blank : (k : ℕ) (names : List (List ℕ)) (name : List ℕ) → wanted [] k (names ++ name ∷ []) ≡ wanted [] k names ++ false ∷ []
wanted_blank k [] name = refl
wanted_blank k (n ∷ names) name = ap (λ (xs : List Bool). false ∷ xs) (wanted_blank (k + 1) names name)

or_false : (b : Bool) → (b || false) ≡ b
or_false true = refl
or_false false = refl

or_true : (b : Bool) → (b || true) ≡ true
or_true true = refl
or_true false = refl

set_here : (b : Bool) (k j : ℕ) → k ≡ j → (b || ((k == j) || false)) ≡ true
set_here b k j h = let e : (k == j) ≡ true = grind (arith, nat_tests) in rw e (or_true b)

unset : (b : Bool) (k j : ℕ) → k ≢ j → (b || ((k == j) || false)) ≡ b
unset b k j h = let e : (k == j) ≡ false = grind (arith, nat_tests) in rw e (or_false b)

-- a chain that is no parameter alone, or one that was passed
other : (cs : List (List Part)) (c : List Part) (k : ℕ) (names : List (List ℕ)) → ((i : ℕ) → is_parameter i c ≡ false) → wanted (cs ++ c ∷ []) k names ≡ wanted cs k names
other cs c k [] h = refl
other cs c k (n ∷ names) h = ap₂ (λ (b : Bool) (bs : List Bool). b ∷ bs) (list_any-append (is_parameter k) cs (c ∷ []) ∙ rw h (or_false (needs cs k))) (other cs c (k + 1) names h)

beyond : (cs : List (List Part)) (j : ℕ) (s : Bool) (k : ℕ) (names : List (List ℕ)) → j < k → wanted (cs ++ (part.Parameter j s ∷ []) ∷ []) k names ≡ wanted cs k names
beyond cs j s k [] h = refl
beyond cs j s k (n ∷ names) h = ap₂ (λ (b : Bool) (bs : List Bool). b ∷ bs) (list_any-append (is_parameter k) cs ((part.Parameter j s ∷ []) ∷ []) ∙ unset (needs cs k) k j (omega arith)) (beyond cs j s (k + 1) names (omega arith))

set_later : (cs : List (List Part)) (j : ℕ) (s : Bool) (k d : ℕ) (names : List (List ℕ)) → j ≡ k + d → wanted (cs ++ (part.Parameter j s ∷ []) ∷ []) k names ≡ slice_set (wanted cs k names) d true
set_later cs j s k d [] h = refl
set_later cs j s k zero (n ∷ names) h = ap₂ (λ (b : Bool) (bs : List Bool). b ∷ bs) (list_any-append (is_parameter k) cs ((part.Parameter j s ∷ []) ∷ []) ∙ set_here (needs cs k) k j (omega arith)) (beyond cs j s (k + 1) names (omega arith))
set_later cs j s k (suc d) (n ∷ names) h = ap₂ (λ (b : Bool) (bs : List Bool). b ∷ bs) (list_any-append (is_parameter k) cs ((part.Parameter j s ∷ []) ∷ []) ∙ unset (needs cs k) k j (omega arith)) (set_later cs j s (k + 1) d names (omega arith))

pub wanted_more : (cs : List (List Part)) (c : List Part) (names : List (List ℕ)) → wanted (cs ++ c ∷ []) 0 names ≡ marked (wanted cs 0 names) c
wanted_more cs [] names = other cs [] 0 names (λ i. refl)
wanted_more cs (part.Word t ∷ []) names = other cs (part.Word t ∷ []) 0 names (λ i. refl)
wanted_more cs (part.Quoted j s ∷ []) names = other cs (part.Quoted j s ∷ []) 0 names (λ i. refl)
wanted_more cs (part.Parameter j s ∷ []) names = set_later cs j s 0 j names (omega arith)
wanted_more cs (part.Word t ∷ q ∷ c) names = other cs (part.Word t ∷ q ∷ c) 0 names (λ i. refl)
wanted_more cs (part.Quoted j s ∷ q ∷ c) names = other cs (part.Quoted j s ∷ q ∷ c) 0 names (λ i. refl)
wanted_more cs (part.Parameter j s ∷ q ∷ c) names = other cs (part.Parameter j s ∷ q ∷ c) 0 names (λ i. refl)

-- the loops over the parameters and over the chains
pub next_blank : (names : List (List ℕ)) (i : ℕ) (now next : List Bool) → i < length names → now ≡ wanted [] 0 (take i names) → next ≡ now ++ false ∷ [] → next ≡ wanted [] 0 (take (i + 1) names)
next_blank names i now next h w e = e ∙ ap (λ (bs : List Bool). bs ++ false ∷ []) w ∙ sym (wanted_blank 0 (take i names) (get_or names i [])) ∙ sym (ap (λ (ns : List (List ℕ)). wanted [] 0 ns) (take_more names i [] h))

pub next_marked : (chains : List (List Part)) (i : ℕ) (names : List (List ℕ)) (now next : List Bool) (c d : List Part) → i < length chains → now ≡ wanted (take i chains) 0 names → c ≡ get_or chains i c → d ≡ c → next ≡ marked now d → next ≡ wanted (take (i + 1) chains) 0 names
next_marked chains i names now next c d h w s r e = e ∙ ap₂ (λ (bs : List Bool) (x : List Part). marked bs x) w r ∙ sym (wanted_more (take i chains) c names) ∙ sym (ap (λ (cs : List (List Part)). wanted cs 0 names) (take_more chains i c h ∙ ap (λ (x : List Part). take i chains ++ x ∷ []) (sym s)))
