use Rattle.std.proofs.Common.{refl}
use Rattle.st_tree.specs.Terminal.{keyword_terminals}
use Rattle.st_tree.proofs.terminal.keyword.Goals as goal

pub terminal_by_letter-requires : goal.terminal_by_letter-requires
terminal_by_letter-requires c = record { sorted = refl; all = refl }

-- the lists have the rows of the definition
pub returns : goal.returns
unfolding keyword_terminals
returns c = c.terminal_by_letter.ensures
