use Rattle.std.proofs.Common.{◌∙◌, arith}
use Rattle.st_tree.proofs.TerminalLaws.{no_symbol, single_is, double_is}
use Rattle.st_tree.proofs.terminal.symbol.Goals as goal

pub returns-in-1 : goal.returns-in-1
returns-in-1 c = c.single.ensures ∙ single_is c.args.text.now c.in-1.is

pub returns-in-2 : goal.returns-in-2
returns-in-2 c = c.double.ensures ∙ double_is c.args.text.now c.in-2.is

pub returns-in_default : goal.returns-in_default
returns-in_default c = no_symbol c.args.text.now (λ e. omega arith) (λ e. omega arith)
