-- What a step of the machine of expressions refuses.
use Rattle.std.proofs.Common.{◌≡◌, ℕ, ◌≤◌, Bool, true, false, not, List, [], ◌∷◌, ◌++◌, length, Option, Ok, Err, refl, sym, ◌∙◌, ap, subst, arith, append_assoc, inl, inr}
use Rattle.std.specs.Prelude.{nat_lt}
use Rattle.std.proofs.lemmas.Bool.{ltb-true, ltb-false}
use Rattle.sc_tree.specs.declared.expression.Expr.{Expr}
use Rattle.sc_tree.specs.declared.expression.TypeWord.{TypeWord}
use Rattle.sc_tree.specs.declared.expression.Specifiers.{Specifiers}
use Rattle.sc_tree.specs.declared.expression.Enumerator.{Enumerator}
use Rattle.sc_tree.specs.declared.expression.Derivation.{Derivation}
use Rattle.sc_tree.specs.declared.expression.Parameter.{Parameter}
use Rattle.sc_parse_names.specs.declared.kind.Mark.{Mark}
use Rattle.sc_parse_names.specs.declared.kind.Mark.TheVariants as mark
use Rattle.sc_parse_names.specs.declared.kind.Symbol.{Symbol}
use Rattle.sc_parse_names.specs.declared.kind.Kind.{Kind}
use Rattle.sc_parse_names.specs.declared.kind.Kind.TheVariants as k
use Rattle.sc_parse_names.specs.Names.{Names, is_typed}
use Rattle.sc_parse_grammar.specs.declared.operand.Operand.{Operand}
use Rattle.sc_parse_grammar.specs.declared.operand.Direct.{Direct}
use Rattle.sc_parse_grammar.specs.declared.operand.Whole.{Whole}
use Rattle.sc_parse_grammar.specs.declared.operand.Mode.{Mode}
use Rattle.sc_parse_grammar.specs.declared.operand.Mode.TheVariants as mode
use Rattle.sc_parse_grammar.specs.declared.frame.Frame.{Frame}
use Rattle.sc_parse_grammar.specs.declared.frame.Frame.TheVariants as f
use Rattle.sc_parse_grammar.specs.declared.frame.State.{State}
use Rattle.sc_parse_grammar.specs.declared.frame.State.TheVariants as s
use Rattle.sc_parse_grammar.specs.declared.trouble.Trouble.{Trouble}
use Rattle.sc_parse_grammar.specs.declared.trouble.Trouble.TheVariants as no
use Rattle.sc_parse_grammar.specs.declared.trouble.Limit.{Limit}
use Rattle.sc_parse_grammar.specs.declared.trouble.Limit.TheVariants as limit
use Rattle.sc_parse_grammar.specs.Kinds.{power_of}
use Rattle.sc_parse_grammar.specs.Nodes.{text_node}
use Rattle.sc_parse_grammar.specs.Types.{parameter_of, declarator_in, declare_in}
use Rattle.sc_parse_grammar.specs.Grammar as g
use Rattle.sc_parse_grammar.specs.Grammar.{Phrase, ParameterTokens}
use Rattle.sc_parse_grammar.specs.Machine.{Config, Place, Outcome, settle, have, texts, place, entered, enters, effect, mark_of, marked, on_ok, step, group_name, item_ends, parameter_behind, all_parameters_end}
use Rattle.sc_parse_sound.proofs.Levels.{level-positive, not_between}
use Rattle.sc_parse_sound.proofs.Open as w
use Rattle.sc_parse_sound.proofs.Open.{Open, Valid, Good, Holds, Typed, ParameterRead}
use Rattle.sc_parse_sound.proofs.Crowds.{last_parameter}
use Rattle.sc_parse_sound.proofs.Settling.{either, held, Closed, closed}
use Rattle.sc_parse_sound.proofs.Declaring.{begin-good, stars-good, suffixes-good}
use Rattle.sc_parse_sound.proofs.Words.{further_words}
use Rattle.sc_parse_sound.proofs.Bodies.{due-good, void-good, structure-good, tagged_structure-good, enumeration-good, tagged_enumeration-good, items-good, item-good, group-good}
use Rattle.sc_parse_sound.proofs.Operands.{needed-good, opened-good, sized-good, sized_opened-good, have-good, texts-good, dotted-good, arrowed-good, offset_comma-good, offset_name-good, bracket-good}
use Rattle.sc_parse_sound.proofs.Sound.{same_front}
use Rattle.sc_parse_laws.specs.Marks.{InContext, begins_list}
use Rattle.sc_parse_sound.specs.Limits.{TooHigh, TooManyParameters, Passes}
use Rattle.sc_parse_laws.specs.Refusals.{Explains, Explained}
use Rattle.sc_parse_laws.proofs.Marks.{Told, suffixes-told, begin-told, stars-told, words-told, due-told, void-told, structure-told, tagged_structure-told, enumeration-told, tagged_enumeration-told, items-told, item-told, group-told}
use Rattle.sc_parse_laws.proofs.Operands.{have-told, needed-told, opened-told, sized-told, sized_opened-told, dotted-told, arrowed-told, offset_comma-told, offset_name-told, bracket-told}

power-some : (kd : Kind) → 1 ≤ power_of kd
power-some (k.Operator op) = omega (arith, level-positive op)
power-some _ = omega arith

abbrev B : Symbol → Place → Type 0
B t p = InContext mark.BitField t.kind p

abbrev O : Symbol → Place → Type 0
O t p = InContext mark.OldStyle t.kind p

abbrev I : Symbol → Place → Type 0
I t p = InContext mark.ImplicitInt t.kind p

-- what the token t is told of in this place, behind the tokens d
abbrev Tells : Symbol → Place → List Symbol → Outcome → Type 0
Tells t p d o = Told (B t p) (O t p) (I t p) (TooHigh d) o

grouped : (fs : List Frame) (m : Mode) (l : ℕ) (cs : List Bool) → group_name m ≡ true → begins_list (fs, s.Group m l cs) ≡ true
grouped fs mode.Abstract l cs h = refl
grouped fs mode.Named l cs h = absurd cc
grouped fs mode.Either l cs h = absurd cc

-- what is named already stays
kept : (kd : Kind) (which : Mark) → mark_of kd (no.LeftOut which) ≡ no.LeftOut which
kept (k.LeftOut other) which = refl
kept _ which = refl

kept_limit : (kd : Kind) (which : Limit) → mark_of kd (no.Limit which) ≡ no.Limit which
kept_limit (k.LeftOut other) which = refl
kept_limit _ which = refl

module _ (b : Names) (base : Frame) where
  high : {c : Names} {fs : List Frame} {x : Operand} {d : List Symbol} → Holds b base c fs x d → nat_lt 200 x.height ≡ true → TooHigh d
  high h n = record { before = h.ds; ts = h.xs; names = _; after = _; x = _; all = h.all; phrase = h.phrase; high = ltb-true _ _ n }

  read : (kd : Kind) (fs : List Frame) (x : Operand) {c : Names} (d : List Symbol) → 15 ≤ x.level → Holds b base c fs x d → nat_lt 15 (power_of kd) ≡ false → Closed b base c (power_of kd) (settle (power_of kd) fs x) d
  read kd fs x d q h n =
      let low : power_of kd ≤ 14 = not_between kd 14 (ltb-false _ _ n) (omega arith) in
      closed b base (power_of kd) fs x d (power-some kd) low (omega (arith, low, q)) h

  -- what is closed where no token goes on with the operand
  ended : (fs : List Frame) (x : Operand) {c : Names} (d : List Symbol) → 1 ≤ x.level → Holds b base c fs x d → nat_lt 200 (settle 1 fs x).1.height ≡ true → TooHigh d
  ended fs x d n h m = let r = closed b base 1 fs x d (omega arith) (omega arith) n h in high r.holds m

  have-explained : (kd : Kind) (fs : List Frame) (x : Operand) (t : Symbol) (p : Place) {c : Names} (d : List Symbol) → 15 ≤ x.level → Holds b base c fs x d → Tells t p d (have kd fs x)
  have-explained kd fs x t p d q h =
      have-told (B t p) (O t p) (I t p) (TooHigh d) kd fs x (high h) (ended fs x d (omega (arith, q)) h)
      (λ n m. let r = read kd fs x d q h n in high r.holds m)
      (λ n m. let r = read kd fs x d q h n in ended (settle (power_of kd) fs x).0 (settle (power_of kd) fs x).1 d (let y = r.tight in let z = power-some kd in omega (arith, y, z)) r.holds m)

  texts-explained : (kd : Kind) (fs : List Frame) (l : ℕ) (text : Option (List ℕ)) (t : Symbol) (p : Place) {c : Names} (d : List Symbol) → w.Quoted b base c fs l text d → Tells t p d (texts t fs l text kd)
  texts-explained (k.Text fits) fs l text t p d v = tt
  texts-explained kd fs l text t p d v = let q = held b base v.opened (g.string v.strings) (omega arith) d v.all in have-explained kd fs (text_node l text) t p d q.0 q.1

  place-told : (c : Names) (fs : List Frame) (state : State) (t : Symbol) (d : List Symbol) → Valid b base c (fs, state) d → Tells t (fs, state) d (place (is_typed c t) t (fs, state))
  place-told c fs s.Need t d v = let p : Place = (fs, s.Need) in needed-told (B t p) (O t p) (I t p) (TooHigh d) (is_typed c t) t fs
  place-told c fs (s.Opened l) t d v = let p : Place = (fs, s.Opened l) in opened-told (B t p) (O t p) (I t p) (TooHigh d) (is_typed c t) t fs l
  place-told c fs (s.Sized l) t d v = let p : Place = (fs, s.Sized l) in sized-told (B t p) (O t p) (I t p) (TooHigh d) (is_typed c t) t fs l t.kind
  place-told c fs (s.SizedOpened l h) t d v = let p : Place = (fs, s.SizedOpened l h) in sized_opened-told (B t p) (O t p) (I t p) (TooHigh d) (is_typed c t) t fs l h
  place-told c fs (s.Have x) t d v = have-explained t.kind fs x t (fs, s.Have x) d v.0 v.1
  place-told c fs (s.Texts l text) t d v = texts-explained t.kind fs l text t (fs, s.Texts l text) d v
  place-told c fs (s.Dot x) t d v = let p : Place = (fs, s.Dot x) in dotted-told (B t p) (O t p) (I t p) (TooHigh d) fs x t.text t.kind
  place-told c fs (s.Arrow x) t d v = let p : Place = (fs, s.Arrow x) in arrowed-told (B t p) (O t p) (I t p) (TooHigh d) fs x t.text t.kind
  place-told c fs (s.OffsetComma l type) t d v = let p : Place = (fs, s.OffsetComma l type) in offset_comma-told (B t p) (O t p) (I t p) (TooHigh d) fs l type t.text t.kind
  place-told c fs (s.OffsetName l type text) t d v = let p : Place = (fs, s.OffsetName l type text) in offset_name-told (B t p) (O t p) (I t p) (TooHigh d) fs l type text t.kind
  place-told c fs s.Due t d v = let p : Place = (fs, s.Due) in due-told (B t p) (O t p) (I t p) (TooHigh d) (is_typed c t) t fs t.kind (λ i j. (i, j)) (λ i j. (i, j)) (λ i. (i, refl))
  place-told c fs (s.Words x) t d v = let p : Place = (fs, s.Words x) in words-told (B t p) (O t p) (I t p) (TooHigh d) (is_typed c t) t fs x t.kind (λ i j. (i, j)) (λ n i j. (i, j)) (λ n i. (i, ap not n))
  place-told c fs (s.Void l) t d v = let p : Place = (fs, s.Void l) in void-told (B t p) (O t p) (I t p) (TooHigh d) (is_typed c t) t fs l t.kind (λ i j. (i, j))
  place-told c fs (s.Struct x h union) t d v = let p : Place = (fs, s.Struct x h union) in structure-told (B t p) (O t p) (I t p) (TooHigh d) t fs x h union t.kind
  place-told c fs (s.StructTag x h union tag) t d v = let p : Place = (fs, s.StructTag x h union tag) in tagged_structure-told (B t p) (O t p) (I t p) (TooHigh d) (is_typed c t) t fs x h union tag t.kind (λ i j. (i, j))
  place-told c fs (s.Enum x h) t d v = let p : Place = (fs, s.Enum x h) in enumeration-told (B t p) (O t p) (I t p) (TooHigh d) t fs x h t.kind
  place-told c fs (s.EnumTag x h tag) t d v = let p : Place = (fs, s.EnumTag x h tag) in tagged_enumeration-told (B t p) (O t p) (I t p) (TooHigh d) (is_typed c t) t fs x h tag t.kind (λ i j. (i, j))
  place-told c fs s.Items t d v = let p : Place = (fs, s.Items) in items-told (B t p) (O t p) (I t p) (TooHigh d) t fs t.kind
  place-told c fs (s.Item name) t d v = let p : Place = (fs, s.Item name) in item-told (B t p) (O t p) (I t p) (TooHigh d) fs name t.kind
  place-told c fs (s.Begin m) t d v = let p : Place = (fs, s.Begin m) in begin-told (B t p) (O t p) (I t p) (TooHigh d) t t.kind fs m (λ i j. (i, j))
  place-told c fs (s.Stars m l cs) t d v = let p : Place = (fs, s.Stars m l cs) in stars-told (B t p) (O t p) (I t p) (TooHigh d) t t.kind fs l m cs (λ i j. (i, j))
  place-told c fs (s.Group m l cs) t d v = let p : Place = (fs, s.Group m l cs) in group-told (B t p) (O t p) (I t p) (TooHigh d) (is_typed c t) t fs m l cs (λ i j. (i, j)) (λ i n. (i, grouped fs m l cs n))
  place-told c fs (s.Direct x) t d v = let p : Place = (fs, s.Direct x) in suffixes-told (B t p) (O t p) (I t p) (TooHigh d) t.kind fs x (λ i j. (i, j))
  place-told c fs (s.Bracket x) t d v = let p : Place = (fs, s.Bracket x) in bracket-told (B t p) (O t p) (I t p) (TooHigh d) (is_typed c t) t fs x t.kind
  place-told c fs _ t d v = tt

  -- the invariant behind the token, before it declares or ends anything
  place-good : (c : Names) (fs : List Frame) (state : State) (t : Symbol) (d : List Symbol) → Valid b base c (fs, state) d → Good b base (entered (enters (is_typed c t) t.kind state) c) (place (is_typed c t) t (fs, state)) (d ++ t ∷ [])
  place-good c fs s.Need t d v = needed-good b base fs t d v
  place-good c fs (s.Opened l) t d v = opened-good b base fs l t d v
  place-good c fs (s.Sized l) t d v = sized-good b base t.kind fs l t d v refl
  place-good c fs (s.SizedOpened l h) t d v = sized_opened-good b base fs l h t d v
  place-good c fs (s.Have x) t d v = have-good b base t.kind fs x t d v.0 v.1 refl
  place-good c fs (s.Texts l text) t d v = texts-good b base t.kind fs l text t d v refl
  place-good c fs (s.Dot x) t d v = dotted-good b base t.kind fs x t d v refl
  place-good c fs (s.Arrow x) t d v = arrowed-good b base t.kind fs x t d v refl
  place-good c fs (s.OffsetComma l type) t d v = offset_comma-good b base t.kind fs l type t d v refl
  place-good c fs (s.OffsetName l type text) t d v = offset_name-good b base t.kind fs l type text t d v refl
  place-good c fs s.Due t d v = due-good b base fs t.kind t d v refl
  place-good c fs (s.Words x) t d v = further_words b base fs x t d v
  place-good c (f.Parameters y [] ∷ fs) (s.Void l) t d v = void-good b base t.kind y fs l t d v refl
  place-good c fs (s.Struct x h union) t d v = structure-good b base t.kind fs x h union t d v refl
  place-good c fs (s.StructTag x h union tag) t d v = tagged_structure-good b base t.kind fs x h union tag t d v refl
  place-good c fs (s.Enum x h) t d v = enumeration-good b base t.kind fs x h t d v refl
  place-good c fs (s.EnumTag x h tag) t d v = tagged_enumeration-good b base t.kind fs x h tag t d v refl
  place-good c fs s.Items t d v = items-good b base t.kind fs t d v refl
  place-good c fs (s.Item name) t d v = item-good b base t.kind fs name t d v refl
  place-good c (f.Member x ds ∷ fs) (s.Begin mode.Named) t d v = begin-good b base t.kind (f.Member x ds ∷ fs) mode.Named t d v refl refl
  place-good c (f.Outer ∷ fs) (s.Begin mode.Named) t d v = begin-good b base t.kind (f.Outer ∷ fs) mode.Named t d v refl refl
  place-good c fs (s.Stars m l cs) t d v = stars-good b base t.kind fs m cs t d v.opened v.tokens.0 v.tokens.1 v.begins refl v.all
  place-good c fs (s.Group m l cs) t d v = group-good b base fs m l cs t d v
  place-good c (f.Level m l cs ∷ fs) (s.Direct x) t d v = suffixes-good b base t.kind fs t d v refl
  place-good c (f.Level m l cs ∷ fs) (s.Bracket x) t d v = bracket-good b base t.kind fs m l cs x t d v refl
  place-good c fs (s.ItemEnd x closing) t d v = tt
  place-good c fs (s.ParameterEnd x y closing) t d v = tt
  place-good c fs (s.ParametersEnd x) t d v = tt
  place-good c fs (s.Expression x) t d v = tt
  place-good c fs (s.Specified x) t d v = tt
  place-good c fs (s.Declared x) t d v = tt
  place-good c _ _ t d v = absurd v

  parameters : {c : Names} {fs : List Frame} {y : Direct} {ps : List Parameter} {v : Specifiers TypeWord} {x : Option Whole} {kd : Kind} (t : Symbol) (d : List Symbol) → ParameterRead b base c (f.Parameters y ps ∷ fs) v x kd (d ++ t ∷ []) →
      nat_lt (length ps) 31 ≡ false → TooManyParameters d
  parameters t d q m = let same = same_front d (q.ds ++ q.ts) t q.t q.all in last_parameter b base q.opened q.tokens m same.0

  -- A refusal is explained: what is told of it, and where an argument or a parameter is one too many.
  marked-explains : (t : Symbol) (p : Place) (d : List Symbol) (c : Names) (kd : Kind) (e : Trouble) → t.kind ≡ kd → Tells t p d (Err e) → Good b base c (Err e) (d ++ t ∷ []) → Explains t p d (mark_of kd e)
  marked-explains t p d c (k.LeftOut which) no.Syntax i h q = inl i
  marked-explains t p d c _ no.Syntax i h q = tt
  marked-explains t p d c kd (no.LeftOut mark.BitField) i h q = rw (kept kd mark.BitField) (inr h)
  marked-explains t p d c kd (no.LeftOut mark.OldStyle) i h q = rw (kept kd mark.OldStyle) (inr h)
  marked-explains t p d c kd (no.LeftOut mark.ImplicitInt) i h q = rw (kept kd mark.ImplicitInt) (inr h)
  marked-explains t p d c _ (no.LeftOut which) i h q = absurd h
  marked-explains t p d c kd (no.Limit limit.Height) i h q = rw (kept_limit kd limit.Height) h
  marked-explains t p d c kd (no.Limit limit.Arguments) i h q =
      let same = same_front d q.front t q.last q.all in
      rw (kept_limit kd limit.Arguments) (subst (Passes limit.Arguments) (sym same.0) q.many)
  marked-explains t p d c _ no.NoMemory i h q = absurd h

  parameter_behind-told : (t : Symbol) (p : Place) (d : List Symbol) (c : Names) (fs : List Frame) (y : Direct) (ps : List Parameter) (closing : Bool) → Explained t p d (parameter_behind c fs y ps closing)
  parameter_behind-told t p d c fs y ps true = tt
  parameter_behind-told t p d c fs y ps false = tt

  item_ends-told : (t : Symbol) (p : Place) (d : List Symbol) (c : Names) (fs : List Frame) (x : Enumerator Expr) (closing : Bool) → Explained t p d (item_ends c fs x closing)
  item_ends-told t p d c (f.Enum v l tag xs ∷ fs) x true = tt
  item_ends-told t p d c (f.Enum v l tag xs ∷ fs) x false = tt
  item_ends-told t p d c _ x closing = tt

  all_parameters_end-told : (t : Symbol) (p : Place) (d : List Symbol) (c : Names) (fs : List Frame) (step : Derivation) → Explained t p d (all_parameters_end c fs step)
  all_parameters_end-told t p d c (f.Parameters y ps ∷ fs) step = tt
  all_parameters_end-told t p d c _ step = tt

  effect-told : (t : Symbol) (p : Place) (d : List Symbol) (c : Names) (fs : List Frame) (state : State) → Valid b base c (fs, state) (d ++ t ∷ []) → Explained t p d (effect c (fs, state))
  effect-told t p d c fs (s.ItemEnd x closing) q = item_ends-told t p d c fs x closing
  effect-told t p d c (f.Parameters y ps ∷ fs) (s.ParameterEnd v x closing) q = either (Explained t p d) (nat_lt (length ps) 31) _ _
      (λ n. parameter_behind-told t p d (declare_in x c) fs y (ps ++ parameter_of v (declarator_in x) ∷ []) closing) (λ n. inr (parameters t d q n))
  effect-told t p d c _ (s.ParameterEnd v x closing) q = tt
  effect-told t p d c fs (s.ParametersEnd step) q = all_parameters_end-told t p d c fs step
  effect-told t p d c fs _ q = tt

  pub step-explained : (c : Config) (t : Symbol) (d : List Symbol) → Valid b base c.0 c.1 d → Explained t c.1 d (step t c)
  step-explained (c, (fs, state)) t d v = go (place (is_typed c t) t (fs, state)) (place-told c fs state t d v) (place-good c fs state t d v)
    where
      go : (o : Outcome) → Tells t (fs, state) d o → Good b base (entered (enters (is_typed c t) t.kind state) c) o (d ++ t ∷ []) →
          Explained t (fs, state) d (on_ok (effect (entered (enters (is_typed c t) t.kind state) c)) (marked t.kind o))
      go (Ok (fs1, state1)) h q = effect-told t (fs, state) d _ fs1 state1 q
      go (Err e) h q = marked-explains t (fs, state) d (entered (enters (is_typed c t) t.kind state) c) t.kind e refl h q
