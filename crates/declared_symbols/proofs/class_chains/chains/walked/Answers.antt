use Rattle.std.proofs.Common.{◌∙◌}
use Rattle.st_rules.specs.Classes.{classes_in}
use Rattle.declared_symbols.proofs.class_chains.CellLaws.{walked_chain}
use Rattle.declared_symbols.proofs.class_chains.chains.walked.Goals as goal

pub returns-in-Some-clause-first : goal.returns-in-Some-clause-first
returns-in-Some-clause-first c =
    walked_chain (classes_in c.args.classes.now.decls) c.push_all.new.cells.items c.args.class c.in-Some.first c.args.count c.in_ok-first.field-0 c.deref.result.now c.in-Some.is c.requires
    (c.deref.ensures.value ∙ c.in_ok-chain.ensures) c.in_ok-first.ensures.lists
