use Rattle.st_parser_decl.proofs.Units as u
use Rattle.st_parser_decl.proofs.Stopping as s
use Rattle.st_parser_decl.proofs.law.one_unit.Goals as goal

pub returns-clause-of_lexemes : goal.returns-clause-of_lexemes
returns-clause-of_lexemes c = u.one_unit

pub returns-clause-of_texts : goal.returns-clause-of_texts
returns-clause-of_texts c = s.one_text
