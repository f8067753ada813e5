use Rattle.std.proofs.Common.{Option, Some, None, sym, subst}
use Rattle.default_values.specs.declared.worth_numbers.numbers.Listed.{Listed}
use Rattle.default_values.specs.initial_worths.Private.Puts.{MakesWhole}
use Rattle.default_values.proofs.initial_worths.WalkLaws.{makes_whole, makes_none}
use Rattle.default_values.proofs.initial_worths.walk.whole_of.Goals as goal

pub returns-in_ok-number-in-Some : goal.returns-in_ok-number-in-Some
returns-in_ok-number-in-Some c =
    subst (λ (o : Option Listed). MakesWhole c.args.table.now c.whole.new.self o (Some c.in_ok-number-in-Some.number)) (sym c.in-Some.is)
    (makes_whole c.args.table.now c.whole.new.self c.in-Some.list c.in_ok-number-in-Some.number c.in_ok-number-in-Some.ensures)

pub returns-in-None : goal.returns-in-None
returns-in-None c = subst (λ (o : Option Listed). MakesWhole c.args.table.now c.args.table.now o None) (sym c.in-None.is) (makes_none c.args.table.now)
