-- What stands behind strings.
use Rattle.std.proofs.Common.{◌≡◌, ℕ, Bool, List, Option, Result, refl}
use Rattle.sc_parse_names.specs.declared.kind.Symbol.{Symbol}
use Rattle.sc_parse_names.specs.declared.kind.Kind.{Kind}
use Rattle.sc_parse_names.specs.declared.kind.Kind.TheVariants as k
use Rattle.sc_parse_grammar.specs.declared.frame.Frame.{Frame}
use Rattle.sc_parse_grammar.specs.declared.frame.State.{State}
use Rattle.sc_parse_grammar.specs.declared.trouble.Trouble.{Trouble}
use Rattle.sc_parse_grammar.specs.Nodes.{text_node}
use Rattle.sc_parse_grammar.specs.Machine as m
use Rattle.sc_parse_grammar.specs.Steps.{Steps}

pub texts_else : (t : Symbol) (kd : Kind) (fs : List Frame) (l : ℕ) (text : Option (List ℕ)) (r : Result State Trouble) (gs : List Frame) → ((fits : Bool) → kd ≡ k.Text fits → ⊥) →
    Steps (m.have kd fs (text_node l text)) r gs → Steps (m.texts t fs l text kd) r gs
texts_else t (k.Text fits) fs l text r gs p h = absurd (p fits refl)
texts_else t _ fs l text r gs p h = h
