use Rattle.std.proofs.Common.{◌∷◌, sym, ap, subst, ◌∙◌}
use Rattle.indexmap.specs.IndexMap.{get}
use Rattle.sc_interp_world.proofs.Naming.{key_put, literal_put}
use Rattle.sc_interp_world.specs.Naming.{IsFound, key_eq, literal_eq}
use Rattle.sc_interp_world.specs.declared.names.Names.TheInside.{Inside}
use Rattle.sc_interp_world.proofs.names.Names.put.Goals as goal
use Rattle.sc_interp_world.proofs.names.Names.put.Goals.{in-Named+in_ok-insert-in-Named, in-Literal+in_ok-insert-in-Literal}

pub invariant_of-self-2 : goal.invariant_of-self-2
invariant_of-self-2 c =
    elim c.match-named.branch [
      | in-Named+in_ok-insert-in-Named w ↦
          subst (λ (s : Inside). IsFound (get key_eq s.declared) (get literal_eq s.literals) c.with-roll.result.names) (sym w.self-inside-is)
          (subst (IsFound (get key_eq w.insert.new.self) (get literal_eq c.self.inside.literals)) (sym (c.with-roll.ensures ∙ ap (λ x. (x, c.args.object) ∷ c.self.inside.roll.names) w.in-Named.is))
          (key_put (get key_eq c.self.inside.declared) (get literal_eq c.self.inside.literals) c.self.inside.roll.names c.self.invariant _ w.in-Named.key w.in-Named.key-is c.args.object (get key_eq w.insert.new.self) w.in_ok-insert-in-Named.ensures.updates.0))
      | in-Literal+in_ok-insert-in-Literal w ↦
          subst (λ (s : Inside). IsFound (get key_eq s.declared) (get literal_eq s.literals) c.with-roll.result.names) (sym w.self-inside-is)
          (subst (IsFound (get key_eq c.self.inside.declared) (get literal_eq w.insert-in-Literal.new.self)) (sym (c.with-roll.ensures ∙ ap (λ x. (x, c.args.object) ∷ c.self.inside.roll.names) w.in-Literal.is))
          (literal_put (get key_eq c.self.inside.declared) (get literal_eq c.self.inside.literals) c.self.inside.roll.names c.self.invariant _ (record { home = w.in-Literal.home; bytes = w.in-Literal.bytes }) (λ t. record { home = w.in-Literal.home-is t; bytes = w.in-Literal.bytes-is t }) c.args.object (get literal_eq w.insert-in-Literal.new.self) w.in_ok-insert-in-Literal.ensures.updates.0))
    ]
