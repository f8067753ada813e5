use Rattle.std.proofs.Common.{◌∙◌, ℕ, List, sym, subst}
use Rattle.check_names.specs.name_spaces.Held.{Holds}
use Rattle.check_names.proofs.name_spaces.NameLaws.{held_next}
use Rattle.check_names.proofs.name_spaces.held.HeldNames.hold.Goals as goal

pub returns-clause-held : goal.returns-clause-held
returns-clause-held c = λ names h.
    held_next c.self.inside.names.keys c.insert.new.self.keys names c.in_ok-copy.copy c.args.name.now (c.in_ok-copy.ensures ∙ c.as_str.ensures) (c.in_ok-added.ensures.updates.0) (subst (λ (ks : List (List ℕ)). Holds ks names) (sym c.self.view_is) h)
