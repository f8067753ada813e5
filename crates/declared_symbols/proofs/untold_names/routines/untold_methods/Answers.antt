use Rattle.std.proofs.Common.{map, refl}
use Rattle.st_rules.specs.Classes.{methods_in}
use Rattle.declared_symbols.specs.untold_names.Untold.{untold_method}
use Rattle.declared_symbols.proofs.untold_names.StepLaws.{split_next, split_ended, methods_split}
use Rattle.declared_symbols.proofs.untold_names.routines.untold_methods.Goals as goal

pub loop-member-preserved : goal.loop-member-preserved
loop-member-preserved c =
    split_next (λ ms. map untold_method (methods_in ms)) methods_split c.args.members.now c.loop-member.member-index c.member-item.result c.loop-member.list _ c.loop-member-test.true c.member-item.is c.in_ok-add_method.ensures
    c.loop-member.invariant

pub returns : goal.returns
returns c = split_ended (λ ms. map untold_method (methods_in ms)) refl c.args.members.now c.loop-member.member-index c.loop-member.list c.loop-member-test.false c.loop-member.invariant
