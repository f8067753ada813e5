use Rattle.st_tree.proofs.TableLaws.{keyword_table, symbol_table, apart, no_keyword, no_symbol}
use Rattle.st_tree.proofs.TerminalTexts.{stands}
use Rattle.st_tree.proofs.terminal.terminal_laws.Goals as goal

pub returns-clause-keywords : goal.returns-clause-keywords
returns-clause-keywords c = keyword_table

pub returns-clause-symbols : goal.returns-clause-symbols
returns-clause-symbols c = symbol_table

pub returns-clause-apart : goal.returns-clause-apart
returns-clause-apart c = apart

pub returns-clause-no_keyword : goal.returns-clause-no_keyword
returns-clause-no_keyword c = no_keyword

pub returns-clause-no_symbol : goal.returns-clause-no_symbol
returns-clause-no_symbol c = no_symbol

pub returns-clause-no_more : goal.returns-clause-no_more
returns-clause-no_more c = stands
