use Rattle.std.proofs.Common.{◌∙◌, ap, is_some}
use Rattle.st_tree.specs.Terminal.{keyword_terminals}
use Rattle.st_tree.proofs.TerminalLaws.{found_is}
use Rattle.st_tree.proofs.terminal.is_keyword.Goals as goal

pub returns : goal.returns
returns c = c.is_some.ensures ∙ ap is_some c.keyword.ensures ∙ found_is keyword_terminals c.args.word.now
