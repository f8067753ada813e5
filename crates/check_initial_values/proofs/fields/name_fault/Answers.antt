use Rattle.check_initial_values.proofs.ValueLaws.{name_found}
use Rattle.check_initial_values.proofs.fields.name_fault.Goals as goal

pub returns-clause-found : goal.returns-clause-found
returns-clause-found c = λ names h.
    name_found _ _ _ _ _ _ _ _ _ _ _ _ _ _ c.given_by-g.ensures c.is_not_found.ensures (c.in_ok-twice.ensures.twice names h) c.is_out_of_access.ensures c.when-not_found.ensures c.when-again.ensures c.when-out_of_access.ensures c.earlier.ensures
    c.earlier-2.ensures
