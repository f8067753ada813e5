use Rattle.std.proofs.Common.{sym, ap, ◌∙◌}
use Rattle.st_tree.specs.Statement.{statement_of, statement_of-Empty, statement_of-Assign, statement_of-Attempt, statement_of-Call, statement_of-Exit, statement_of-Continue, statement_of-Return, statement_of-If, statement_of-Case, statement_of-For, statement_of-While, statement_of-Repeat}
use Rattle.st_rules.specs.ClassRules.{is_plain_statement, is_statement}
use Rattle.st_rules.proofs.methods.is_statement.Goals as goal

pub returns-in-Empty : goal.returns-in-Empty
unfolding is_statement
returns-in-Empty g c = sym (ap is_plain_statement (ap statement_of c.in-Empty.is ∙ statement_of-Empty _))

pub returns-in-Assign : goal.returns-in-Assign
unfolding is_statement
returns-in-Assign g c = sym (ap is_plain_statement (ap statement_of c.in-Assign.is ∙ statement_of-Assign _ _ _ _))

pub returns-in-Attempt : goal.returns-in-Attempt
unfolding is_statement
returns-in-Attempt g c = sym (ap is_plain_statement (ap statement_of c.in-Attempt.is ∙ statement_of-Attempt _ _ _ _))

pub returns-in-Call : goal.returns-in-Call
unfolding is_statement
returns-in-Call g c = sym (ap is_plain_statement (ap statement_of c.in-Call.is ∙ statement_of-Call _ _ _ _))

pub returns-in-Exit : goal.returns-in-Exit
unfolding is_statement
returns-in-Exit g c = sym (ap is_plain_statement (ap statement_of c.in-Exit.is ∙ statement_of-Exit _))

pub returns-in-Continue : goal.returns-in-Continue
unfolding is_statement
returns-in-Continue g c = sym (ap is_plain_statement (ap statement_of c.in-Continue.is ∙ statement_of-Continue _))

pub returns-in-Return : goal.returns-in-Return
unfolding is_statement
returns-in-Return g c = sym (ap is_plain_statement (ap statement_of c.in-Return.is ∙ statement_of-Return _))

pub returns-in-If : goal.returns-in-If
unfolding is_statement
returns-in-If g c = sym (ap is_plain_statement (ap statement_of c.in-If.is ∙ statement_of-If _ _ _))

pub returns-in-Case : goal.returns-in-Case
unfolding is_statement
returns-in-Case g c = sym (ap is_plain_statement (ap statement_of c.in-Case.is ∙ statement_of-Case _ _ _ _))

pub returns-in-For : goal.returns-in-For
unfolding is_statement
returns-in-For g c = sym (ap is_plain_statement (ap statement_of c.in-For.is ∙ statement_of-For _ _ _ _ _ _ _))

pub returns-in-While : goal.returns-in-While
unfolding is_statement
returns-in-While g c = sym (ap is_plain_statement (ap statement_of c.in-While.is ∙ statement_of-While _ _ _))

pub returns-in-Repeat : goal.returns-in-Repeat
unfolding is_statement
returns-in-Repeat g c = sym (ap is_plain_statement (ap statement_of c.in-Repeat.is ∙ statement_of-Repeat _ _ _))
