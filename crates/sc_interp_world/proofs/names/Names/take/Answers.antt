use Rattle.std.proofs.Common.{sym, ap, subst, ◌∙◌}
use Rattle.indexmap.specs.IndexMap.{get}
use Rattle.sc_meaning.specs.World.{without_name}
use Rattle.sc_interp_world.proofs.Naming.{key_taken, literal_taken}
use Rattle.sc_interp_world.specs.Naming.{IsFound, key_eq, literal_eq}
use Rattle.sc_interp_world.specs.declared.names.Names.TheInside.{Inside}
use Rattle.sc_interp_world.proofs.names.Names.take.Goals as goal
use Rattle.sc_interp_world.proofs.names.Names.take.Goals.{in-Named, in-Literal}

pub invariant_of-self : goal.invariant_of-self
invariant_of-self c =
    elim c.match-id.branch [
      | in-Named w ↦
          subst (λ (s : Inside). IsFound (get key_eq s.declared) (get literal_eq s.literals) c.without-self-inside.result.names) (sym w.self-inside-is)
          (subst (IsFound (get key_eq w.swap_remove.new.self) (get literal_eq c.self.inside.literals)) (sym (c.without-self-inside.ensures ∙ ap (λ (s : Inside). without_name s.roll.names c.args.id.now) w.self-inside-is ∙ ap (without_name c.self.inside.roll.names) w.in-Named.is))
          (key_taken (get key_eq c.self.inside.declared) (get literal_eq c.self.inside.literals) c.self.inside.roll.names c.self.invariant w.in-Named.key (get key_eq w.swap_remove.new.self) w.swap_remove.ensures.updates.0))
      | in-Literal w ↦
          subst (λ (s : Inside). IsFound (get key_eq s.declared) (get literal_eq s.literals) c.without-self-inside.result.names) (sym w.self-inside-is)
          (subst (IsFound (get key_eq c.self.inside.declared) (get literal_eq w.swap_remove-in-Literal.new.self)) (sym (c.without-self-inside.ensures ∙ ap (λ (s : Inside). without_name s.roll.names c.args.id.now) w.self-inside-is ∙ ap (without_name c.self.inside.roll.names) w.in-Literal.is))
          (literal_taken (get key_eq c.self.inside.declared) (get literal_eq c.self.inside.literals) c.self.inside.roll.names c.self.invariant w.in-Literal.home w.in-Literal.bytes (get literal_eq w.swap_remove-in-Literal.new.self) w.swap_remove-in-Literal.ensures.updates.0))
    ]
