use Rattle.std.proofs.Common.{Option, subst}
use Rattle.default_values.specs.declared.initial_worths.structures.Structure.{Structure}
use Rattle.default_values.specs.structure_worths.Private.Rounds.{WeighsOne}
use Rattle.default_values.proofs.structure_worths.RoundLaws.{kept, weighed}
use Rattle.default_values.proofs.structure_worths.rounds.try_one.Goals as goal

pub returns-in-Some : goal.returns-in-Some
returns-in-Some g c =
    weighed (g.S.ConstantValues.scope c.args.values.now) c.args.below c.requires.few c.args.table.now c.weighed.new.table c.args.structures.now c.args.number c.in-Some.structure c.put.new.structures c.requires.within c.put.ensures
    (subst (λ (o : Option Structure). WeighsOne c.args.table.now c.weighed.new.table c.args.structures.now (g.S.ConstantValues.scope c.args.values.now) c.args.below c.args.number o) c.in-Some.is c.in_ok-found.ensures)

pub returns-in-None : goal.returns-in-None
returns-in-None g c =
    kept (g.S.ConstantValues.scope c.args.values.now) c.args.below c.requires.few c.args.table.now c.weighed.new.table c.args.structures.now c.args.number
    (subst (λ (o : Option Structure). WeighsOne c.args.table.now c.weighed.new.table c.args.structures.now (g.S.ConstantValues.scope c.args.values.now) c.args.below c.args.number o) c.in-None.is c.in_ok-found.ensures)
