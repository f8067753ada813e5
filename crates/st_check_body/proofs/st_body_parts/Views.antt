-- What each form of a statement is, one ruleset for each: a search over all views at once takes many times as long.
use Rattle.st_tree.specs.Statement.{branch_of-is, case_branch_of-is, statement_of-Empty, statement_of-Exit, statement_of-Continue, statement_of-Return, statement_of-If, statement_of-Case, statement_of-For, statement_of-While, statement_of-Repeat, otherwise_of-Nothing, otherwise_of-Else}

pub ruleset branch_view = branch_of-is

pub ruleset case_branch_view = case_branch_of-is

pub ruleset empty_view = statement_of-Empty

pub ruleset exit_view = statement_of-Exit

pub ruleset continue_view = statement_of-Continue

pub ruleset return_view = statement_of-Return

pub ruleset if_view = statement_of-If

pub ruleset case_view = statement_of-Case

pub ruleset for_view = statement_of-For

pub ruleset while_view = statement_of-While

pub ruleset repeat_view = statement_of-Repeat

pub ruleset nothing_view = otherwise_of-Nothing

pub ruleset else_view = otherwise_of-Else
