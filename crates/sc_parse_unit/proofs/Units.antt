-- The machine reads each function and each unit of the grammar.
use Rattle.std.proofs.Common.{◌≡◌, ℕ, Bool, true, List, [], ◌∷◌, ◌++◌, Ok, refl, ap, append_assoc}
use Rattle.sc_tree.specs.declared.expression.TypeWord.{TypeWord}
use Rattle.sc_tree.specs.declared.expression.Specifiers.{Specifiers}
use Rattle.sc_tree.specs.declared.declaration.Declaration.{Declaration}
use Rattle.sc_tree.specs.declared.statement.Statement.{Statement}
use Rattle.sc_tree.specs.declared.statement.External.{External}
use Rattle.sc_tree.specs.declared.statement.External.TheVariants as external
use Rattle.sc_parse_names.specs.declared.kind.Symbol.{Symbol}
use Rattle.sc_parse_names.specs.declared.kind.Kind.{Kind}
use Rattle.sc_parse_names.specs.declared.kind.Kind.TheVariants as k
use Rattle.sc_parse_names.specs.Names.{Names, is_typed, leave}
use Rattle.sc_parse_grammar.specs.declared.operand.Direct.{Direct}
use Rattle.sc_parse_grammar.specs.declared.operand.Mode.TheVariants as mode
use Rattle.sc_parse_grammar.specs.declared.frame.Frame.TheVariants as f
use Rattle.sc_parse_grammar.specs.declared.frame.State.TheVariants as e
use Rattle.sc_parse_grammar.specs.Kinds.{begins_specifiers}
use Rattle.sc_parse_grammar.specs.Types.{declarator_of, whole as whole_at}
use Rattle.sc_parse_grammar.specs.Grammar.{Level}
use Rattle.sc_parse_expr.proofs.Heads.{Head, longer, starts}
use Rattle.sc_parse_unit.specs.declared.around.Around.{Around}
use Rattle.sc_parse_unit.specs.declared.around.Around.TheVariants as a
use Rattle.sc_parse_unit.specs.declared.around.Stage.TheVariants as at
use Rattle.sc_parse_unit.specs.Trees.{declare_as, block_of, function_of}
use Rattle.sc_parse_unit.specs.Grammar.{Braces, braces, ExternalTokens, of_function, of_declaration, UnitTokens, no_external, next_external, IsUnit, unit}
use Rattle.sc_parse_unit.specs.Machine.{run, start, external_due, specifiers, declared_by}
use Rattle.sc_parse_unit.proofs.Runs.{Leads, same, ◌▸◌, after, regrouped}
use Rattle.sc_parse_unit.proofs.Phrases.{reads_declarator}
use Rattle.sc_parse_unit.proofs.Declares.{reads_declaration, begin_declaration, begin_heading, begin_level, heads_names}
use Rattle.sc_parse_unit.proofs.Statements.{in_body, reads_contents}

external_begins : (typed : Bool) (t : Symbol) (b : Names) (fs : List Around) (kd : Kind) → begins_specifiers typed kd ≡ true → external_due t b fs kd ≡ specifiers t b fs
external_begins typed t b fs k.End h = cc
external_begins typed t b fs kd h = refl

-- At file scope a declaration or a function begins.
outside_begins : {w : Bool} (b : Names) (items : List External) (fs : List Around) (ts us : List Symbol) → Head (starts true b) ts →
    Leads w (run (b, (a.Unit items ∷ fs, at.Due)) (ts ++ us)) (run (b, (a.Unit items ∷ fs, at.Specifiers (f.Outer ∷ []) e.Due)) (ts ++ us))
unfolding Head
outside_begins b items fs ts us i = rw i.2 (same (ap (after i.0 (i.1 ++ us)) (external_begins (is_typed b i.0) i.0 b (a.Unit items ∷ fs) i.0.kind i.3)))

begin_external : {w : Bool} {b c : Names} {ts : List Symbol} {x : External} → ExternalTokens w b c ts x → Head (starts true b) ts
begin_external {b} (of_function {ts} {us} {vs} d p q) = longer (starts true b) (ts ++ us) vs (longer (starts true b) ts us (begin_heading d))
begin_external (of_declaration d) = begin_declaration d

body-is : (t : Symbol) (names : Names) (items : List External) (v : Specifiers TypeWord) (l : ℕ) (x : Direct) → t.kind ≡ k.LeftBrace →
    declared_by t names (a.Unit items ∷ []) v [] (whole_at l x) t.kind ≡ Ok (x.scope ∷ names, (a.Body v (declarator_of l x) (block_of t.line [] []) ∷ a.Unit items ∷ [], at.Due))
body-is t names items v l x h = rw h refl

three : (ts us vs ws : List Symbol) → (ts ++ us ++ vs) ++ ws ≡ ts ++ (us ++ (vs ++ ws))
three ts us vs ws = simp append_assoc

inside : (xs ys vs : List Symbol) (l r : Symbol) → (l ∷ xs ++ ys ++ r ∷ []) ++ vs ≡ l ∷ (xs ++ (ys ++ r ∷ vs))
inside xs ys vs l r = simp append_assoc

-- the block of a function, behind its declarator
reads_body : {w : Bool} {b c d : Names} {h l : ℕ} {us vs : List Symbol} {x : Direct} {ds : List Declaration} {all : List Statement} (v : Specifiers TypeWord) → Level w mode.Named b c h us x →
    Braces w 0 (x.scope ∷ declare_as v.storage x.identifier c) d l vs ds all → (items : List External) (ws : List Symbol) →
    Leads w (run (b, (a.Declaration v [] ∷ a.Unit items ∷ [], at.Declarator (f.Outer ∷ []) (e.Begin mode.Named))) (us ++ (vs ++ ws)))
    (run (leave d, (a.Unit (items ++ external.Function (function_of v (declarator_of h x) (block_of l ds all)) ∷ []) ∷ [], at.Due)) ws)
reads_body {w} {b} {c} {d} {h} {us} {x} {ds} {all} v p (braces {ts} {us = vs} left right i xs ss j) items ws =
    regrouped (b, (a.Declaration v [] ∷ a.Unit items ∷ [], at.Declarator (f.Outer ∷ []) (e.Begin mode.Named))) _ _ (ap (λ (v : List Symbol). us ++ v) (inside ts vs ws left right)) ▸
    reads_declarator p (a.Declaration v [] ∷ a.Unit items ∷ []) left (ts ++ (vs ++ right ∷ ws)) (rw i refl) ▸
    same (ap (after left (ts ++ (vs ++ right ∷ ws))) (body-is left (declare_as v.storage x.identifier c) items v h x i)) ▸
    reads_contents xs ss (λ b. a.Body v (declarator_of h x) b) (in_body v (declarator_of h x)) left.line (a.Unit items ∷ []) refl right ws j ▸
    same refl

reads_external : {w : Bool} {b c : Names} {ts : List Symbol} {x : External} → ExternalTokens w b c ts x → (items : List External) (ws : List Symbol) →
    Leads w (run (b, (a.Unit items ∷ [], at.Due)) (ts ++ ws)) (run (c, (a.Unit (items ++ x ∷ []) ∷ [], at.Due)) ws)
reads_external {w} {b} (of_function {ts} {us} {vs} {v} d p q) items ws =
    outside_begins b items [] (ts ++ us ++ vs) ws (longer (starts true b) (ts ++ us) vs (longer (starts true b) ts us (begin_heading d))) ▸
    regrouped (b, (a.Unit items ∷ [], at.Specifiers (f.Outer ∷ []) e.Due)) _ _ (three ts us vs ws) ▸
    heads_names d (a.Unit items ∷ []) us (vs ++ ws) (begin_level p) ▸
    reads_body v p q items ws
reads_external {w} {b} (of_declaration {ts} {x} d) items ws =
    outside_begins b items [] ts ws (begin_declaration d) ▸
    reads_declaration d (a.Unit items ∷ []) (a.Unit (items ++ external.Declaration x ∷ []) ∷ []) (λ names. refl) ws

reads_unit : {w : Bool} {b c : Names} {ts : List Symbol} {all : List External} → UnitTokens w b c ts all → (ws : List Symbol) →
    Leads w (run (b, (a.Unit [] ∷ [], at.Due)) (ts ++ ws)) (run (c, (a.Unit all ∷ [], at.Due)) ws)
reads_unit no_external ws = same refl
reads_unit {w} {b} (next_external {ts} {us} {all} d x) ws =
    regrouped (b, (a.Unit [] ∷ [], at.Due)) _ _ (append_assoc ts us ws) ▸ reads_unit d (us ++ ws) ▸ reads_external x all ws

-- The machine takes the tokens of each unit, or a limit is passed.
pub reads_all : {w : Bool} {ts : List Symbol} {all : List External} → IsUnit w ts all → (ws : List Symbol) →
    (c : Names) × Leads w (run start (ts ++ ws)) (run (c, (a.Unit all ∷ [], at.Due)) ws)
reads_all (unit {c} d) ws = (c, reads_unit d ws)
