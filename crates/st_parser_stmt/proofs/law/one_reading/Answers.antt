use Rattle.st_parser_stmt.proofs.Unique.{statements-one}
use Rattle.st_parser_stmt.proofs.InitialUnique.{initials-one}
use Rattle.st_parser_stmt.proofs.law.one_reading.Goals as goal

pub returns-clause-of_statements : goal.returns-clause-of_statements
returns-clause-of_statements c = statements-one

pub returns-clause-of_values : goal.returns-clause-of_values
returns-clause-of_values c = initials-one
