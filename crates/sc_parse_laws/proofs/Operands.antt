-- What the functions that read operands refuse.
use Rattle.std.proofs.Common.{◌≡◌, ℕ, Bool, true, false, List, [], ◌∷◌, length, Option, Some, None, Ok, refl}
use Rattle.std.specs.Prelude.{nat_lt, nat_le, if◌then◌else◌}
use Rattle.sc_tree.specs.declared.operator.Unary.{Unary}
use Rattle.sc_tree.specs.declared.operator.Postfix.{Postfix}
use Rattle.sc_tree.specs.declared.operator.Binary.{Binary}
use Rattle.sc_tree.specs.declared.expression.Expr.{Expr}
use Rattle.sc_tree.specs.declared.expression.TypeName.{TypeName}
use Rattle.sc_parse_names.specs.declared.kind.Symbol.{Symbol}
use Rattle.sc_parse_names.specs.declared.kind.Kind.{Kind}
use Rattle.sc_parse_names.specs.declared.kind.Kind.TheVariants as k
use Rattle.sc_parse_grammar.specs.declared.operand.Operand.{Operand}
use Rattle.sc_parse_grammar.specs.declared.operand.Direct.{Direct}
use Rattle.sc_parse_grammar.specs.declared.frame.Frame.{Frame}
use Rattle.sc_parse_grammar.specs.declared.frame.Frame.TheVariants as f
use Rattle.sc_parse_grammar.specs.declared.frame.State.TheVariants as s
use Rattle.sc_parse_grammar.specs.declared.trouble.Limit.{Limit}
use Rattle.sc_parse_grammar.specs.declared.trouble.Limit.TheVariants as limit
use Rattle.sc_parse_grammar.specs.Kinds.{unary_of, postfix_of, binary_of, power_of, begins_type}
use Rattle.sc_parse_grammar.specs.Machine.{Outcome, stuck, needs, settle, fits, is_full, counted, wrong, act, operand_ends, at_assign, at_question, close_then, at_comma, separate, close_paren, close_bracket, close_brace, close_all, at_operator, tight, settled, have, behind, at_postfix, empty_call, at_unary, need, offset_type, needed, opened, sized, sized_opened, dotted, arrowed, offset_comma, offset_name, bracket}
use Rattle.sc_parse_sound.proofs.Settling.{either}
use Rattle.sc_parse_laws.proofs.Marks.{Told, type-told}

module _ (B O I H : Type 0) where
  abbrev Tells : Outcome → Type 0
  Tells o = Told B O I H o

  fits-told : (n : ℕ) (o : Outcome) → (nat_lt 200 n ≡ true → H) → (nat_lt 200 n ≡ false → Tells o) → Tells (fits n o)
  fits-told n o h q = either Tells (nat_lt 200 n) _ _ h q

  counted-told : (fs : List Frame) (o : Outcome) → Tells o → Tells (counted fs o)
  counted-told fs o q = either Tells (is_full fs) _ _ (λ _. tt) (λ _. q)

  -- What ends where no token goes on with the operand is too high.
  abbrev pub Ends : List Frame → Operand → Type 0
  Ends fs x = nat_lt 200 (settle 1 fs x).1.height ≡ true → H

  wrong-told : (fs : List Frame) (x : Operand) → Ends fs x → Tells (wrong (settle 1 fs x))
  wrong-told fs x h = let r = settle 1 fs x in fits-told r.1.height (counted r.0 stuck) h (λ _. counted-told r.0 stuck tt)

  close_paren-told : (fs : List Frame) (x : Operand) → Tells (close_paren fs x)
  close_paren-told (f.Paren l ∷ fs) x = tt
  close_paren-told (f.Arguments a args n ∷ fs) x = tt
  close_paren-told (f.Only n ∷ fs) x = tt
  close_paren-told _ x = tt

  close_bracket-told : (fs : List Frame) (x : Operand) → Tells (close_bracket fs x)
  close_bracket-told (f.Index a ∷ fs) x = tt
  close_bracket-told (f.Size d ∷ fs) x = tt
  close_bracket-told (f.Only n ∷ fs) x = tt
  close_bracket-told _ x = tt

  close_brace-told : (fs : List Frame) (x : Operand) → Tells (close_brace fs x)
  close_brace-told (f.Item name ∷ fs) x = tt
  close_brace-told (f.Only n ∷ fs) x = tt
  close_brace-told _ x = tt

  close_then-told : (fs : List Frame) (x : Operand) → Tells (close_then fs x)
  close_then-told (f.Then a ∷ fs) x = tt
  close_then-told (f.Only n ∷ fs) x = tt
  close_then-told _ x = tt

  close_all-told : (fs : List Frame) (x : Operand) → Tells (close_all fs x)
  close_all-told (f.Only n ∷ fs) x = tt
  close_all-told _ x = tt

  separate-told : (fs : List Frame) (x : Operand) → Tells (separate fs x)
  separate-told (f.Arguments a args n ∷ fs) x = tt
  separate-told (f.Item name ∷ fs) x = tt
  separate-told (f.Only n ∷ fs) x = tt
  separate-told _ x = tt

  at_comma-told : (fs : List Frame) (x : Operand) → Tells (at_comma fs x)
  at_comma-told fs x = either Tells (nat_le (needs fs) 1) _ _ (λ _. tt) (λ _. separate-told fs x)

  at_assign-told : (op : Option Binary) (fs : List Frame) (x : Operand) → Ends fs x → Tells (at_assign op fs x)
  at_assign-told op fs x h = either Tells (nat_lt x.level 15) (wrong (settle 1 fs x)) (if nat_le (needs fs) 2 then Ok (f.Assign x op ∷ fs, s.Need) else wrong (settle 1 fs x)) (λ _. wrong-told fs x h)
      (λ _. either Tells (nat_le (needs fs) 2) (Ok (f.Assign x op ∷ fs, s.Need)) (wrong (settle 1 fs x)) (λ _. tt) (λ _. wrong-told fs x h))

  at_question-told : (fs : List Frame) (x : Operand) → Tells (at_question fs x)
  at_question-told fs x = either Tells (nat_le (needs fs) 3) _ _ (λ _. tt) (λ _. tt)

  operand_ends-told : (kd : Kind) (fs : List Frame) (x : Operand) → Tells (operand_ends kd fs x)
  operand_ends-told k.Colon fs x = close_then-told fs x
  operand_ends-told k.Comma fs x = at_comma-told fs x
  operand_ends-told k.RightParen fs x = close_paren-told fs x
  operand_ends-told k.RightBracket fs x = close_bracket-told fs x
  operand_ends-told k.RightBrace fs x = close_brace-told fs x
  operand_ends-told k.Semicolon fs x = close_all-told fs x
  operand_ends-told k.End fs x = close_all-told fs x
  operand_ends-told _ fs x = tt

  at_operator-told : (op : Option Binary) (kd : Kind) (fs : List Frame) (x : Operand) → Tells (at_operator op kd fs x)
  at_operator-told None kd fs x = counted-told fs (operand_ends kd fs x) (operand_ends-told kd fs x)
  at_operator-told (Some op) kd fs x = tt

  at_postfix-told : (op : Option Postfix) (fs : List Frame) (x : Operand) → Ends fs x → Tells (at_postfix op fs x)
  at_postfix-told None fs x h = wrong-told fs x h
  at_postfix-told (Some op) fs x h = tt

  behind-told : (kd : Kind) (fs : List Frame) (x : Operand) → Ends fs x → Tells (behind kd fs x)
  behind-told k.LeftBracket fs x h = tt
  behind-told k.LeftParen fs x h = tt
  behind-told k.Dot fs x h = tt
  behind-told k.Arrow fs x h = tt
  behind-told kd fs x h = at_postfix-told (postfix_of kd) fs x h

  act-told : (kd : Kind) (fs : List Frame) (x : Operand) → Ends fs x → Tells (act kd fs x)
  act-told (k.Assign op) fs x h = at_assign-told op fs x h
  act-told k.Question fs x h = at_question-told fs x
  act-told kd fs x h = at_operator-told (binary_of kd) kd fs x

  tight-told : (kd : Kind) (fs : List Frame) (x : Operand) → (nat_lt 200 x.height ≡ true → H) → Ends fs x → Tells (tight kd fs x)
  tight-told kd fs x h q = either Tells (nat_lt x.level 16) _ _ (λ _. wrong-told fs x q) (λ _. fits-told x.height (behind kd fs x) h (λ _. behind-told kd fs x q))

  settled-told : (kd : Kind) (gs : List Frame) (x : Operand) → (nat_lt 200 x.height ≡ true → H) → Ends gs x → Tells (settled kd (gs, x))
  settled-told kd gs x h q = fits-told x.height (act kd gs x) h (λ _. act-told kd gs x q)

  pub have-told : (kd : Kind) (fs : List Frame) (x : Operand) → (nat_lt 200 x.height ≡ true → H) → Ends fs x →
      (nat_lt 15 (power_of kd) ≡ false → nat_lt 200 (settle (power_of kd) fs x).1.height ≡ true → H) →
      (nat_lt 15 (power_of kd) ≡ false → Ends (settle (power_of kd) fs x).0 (settle (power_of kd) fs x).1) → Tells (have kd fs x)
  have-told kd fs x h z q r = either Tells (nat_lt 15 (power_of kd)) _ _ (λ _. tight-told kd fs x h z)
      (λ n. settled-told kd (settle (power_of kd) fs x).0 (settle (power_of kd) fs x).1 (q n) (r n))

  empty_call-told : (fs : List Frame) → Tells (empty_call fs)
  empty_call-told (f.Arguments a [] n ∷ fs) = tt
  empty_call-told _ = tt

  at_unary-told : (op : Option Unary) (l : ℕ) (fs : List Frame) → Tells (at_unary op l fs)
  at_unary-told None l fs = tt
  at_unary-told (Some op) l fs = tt

  need-told : (typed : Bool) (t : Symbol) (fs : List Frame) (kd : Kind) → Tells (need typed t fs kd)
  need-told typed t fs k.Name = either Tells typed _ _ (λ _. tt) (λ _. tt)
  need-told typed t fs (k.Constant value) = tt
  need-told typed t fs (k.Text fits) = tt
  need-told typed t fs k.LeftParen = tt
  need-told typed t fs k.RightParen = empty_call-told fs
  need-told typed t fs k.Sizeof = tt
  need-told typed t fs kd = at_unary-told (unary_of kd) t.line fs

  offset_type-told : (typed : Bool) (t : Symbol) (fs : List Frame) → begins_type typed t.kind ≡ true → Tells (offset_type typed t fs)
  offset_type-told typed t (f.Arguments a [] n ∷ fs) h = either Tells (nat_lt 17 a.level) _ _ (λ _. type-told B O I H typed t (f.OffsetType a.line ∷ fs) t.line t.kind h) (λ _. tt)
  offset_type-told typed t _ h = tt

  pub needed-told : (typed : Bool) (t : Symbol) (fs : List Frame) → Tells (needed typed t fs)
  needed-told typed t fs = either Tells (begins_type typed t.kind) _ _ (λ h. offset_type-told typed t fs h) (λ _. need-told typed t fs t.kind)

  pub opened-told : (typed : Bool) (t : Symbol) (fs : List Frame) (l : ℕ) → Tells (opened typed t fs l)
  opened-told typed t fs l = either Tells (begins_type typed t.kind) _ _ (λ h. type-told B O I H typed t (f.CastType l ∷ fs) t.line t.kind h) (λ _. need-told typed t (f.Paren l ∷ fs) t.kind)

  pub sized-told : (typed : Bool) (t : Symbol) (fs : List Frame) (l : ℕ) (kd : Kind) → Tells (sized typed t fs l kd)
  sized-told typed t fs l k.LeftParen = tt
  sized-told typed t fs l kd = need-told typed t (f.SizeOf l ∷ fs) kd

  pub sized_opened-told : (typed : Bool) (t : Symbol) (fs : List Frame) (l h : ℕ) → Tells (sized_opened typed t fs l h)
  sized_opened-told typed t fs l h = either Tells (begins_type typed t.kind) _ _ (λ q. type-told B O I H typed t (f.SizeType l ∷ fs) t.line t.kind q) (λ _. need-told typed t (f.Paren h ∷ f.SizeOf l ∷ fs) t.kind)

  pub dotted-told : (fs : List Frame) (x : Operand) (text : List ℕ) (kd : Kind) → Tells (dotted fs x text kd)
  dotted-told fs x text k.Name = tt
  dotted-told fs x text _ = tt

  pub arrowed-told : (fs : List Frame) (x : Operand) (text : List ℕ) (kd : Kind) → Tells (arrowed fs x text kd)
  arrowed-told fs x text k.Name = tt
  arrowed-told fs x text _ = tt

  pub offset_comma-told : (fs : List Frame) (l : ℕ) (type : TypeName) (text : List ℕ) (kd : Kind) → Tells (offset_comma fs l type text kd)
  offset_comma-told fs l type text k.Name = tt
  offset_comma-told fs l type text _ = tt

  pub offset_name-told : (fs : List Frame) (l : ℕ) (type : TypeName) (text : List ℕ) (kd : Kind) → Tells (offset_name fs l type text kd)
  offset_name-told fs l type text k.RightParen = tt
  offset_name-told fs l type text _ = tt

  pub bracket-told : (typed : Bool) (t : Symbol) (fs : List Frame) (d : Direct) (kd : Kind) → Tells (bracket typed t fs d kd)
  bracket-told typed t fs d k.RightBracket = tt
  bracket-told typed t fs d kd = need-told typed t (f.Size d ∷ fs) kd
