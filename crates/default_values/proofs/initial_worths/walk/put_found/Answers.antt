use Rattle.std.proofs.Common.{ℕ, Option, Some, None, sym, subst}
use Rattle.default_values.specs.initial_worths.Private.Puts.{PutsFound}
use Rattle.default_values.proofs.initial_worths.WalkLaws.{found_some, found_none}
use Rattle.default_values.proofs.initial_worths.walk.put_found.Goals as goal

pub returns-in_ok-list-in-Some : goal.returns-in_ok-list-in-Some
returns-in_ok-list-in-Some c =
    subst (λ (o : Option ℕ). PutsFound c.args.table.now c.put_before.new.self c.args.times o c.args.behind (Some c.in_ok-list-in-Some.list)) (sym c.in-Some.is)
    (found_some c.args.table.now c.put_before.new.self c.args.times c.in-Some.number c.args.behind c.in_ok-list-in-Some.list c.in_ok-list-in-Some.ensures)

pub returns-in-None : goal.returns-in-None
returns-in-None c =
    subst (λ (o : Option ℕ). PutsFound c.args.table.now c.args.table.now c.args.times o c.args.behind None) (sym c.in-None.is)
    (found_none c.args.table.now c.args.times c.args.behind c.requires)
