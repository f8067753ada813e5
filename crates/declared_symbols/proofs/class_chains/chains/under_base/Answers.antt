use Rattle.st_rules.specs.Classes.{classes_in}
use Rattle.declared_symbols.proofs.class_chains.CellLaws.{comes_round_chain, pushed_chain}
use Rattle.declared_symbols.proofs.class_chains.chains.under_base.Goals as goal

pub returns-then-comes_round-clause-first : goal.returns-then-comes_round-clause-first
returns-then-comes_round-clause-first c =
    comes_round_chain (classes_in c.args.classes.now.decls) c.args.cells.now.items c.args.class c.args.base c.args.first c.comes_round.result c.requires.base c.comes_round.ensures c.if-comes_round.true c.requires.first

pub returns-clause-first : goal.returns-clause-first
returns-clause-first c =
    pushed_chain (classes_in c.args.classes.now.decls) c.args.cells.now.items c.push_cell.new.cells.items c.args.class c.args.base c.args.first c.in_ok-number.number c.comes_round.result c.requires.base c.comes_round.ensures
    c.if-comes_round.false c.in_ok-number.ensures.lists c.requires.first
