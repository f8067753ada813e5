use Rattle.std.proofs.Common.{◌≡◌, Some}
use Rattle.st_tree.specs.declared.terminal.Terminal.TheVariants as x
use Rattle.st_tree.specs.Statement as view
use Rattle.st_parser_expr.specs.Private.Promises.{next_terminal}
use Rattle.st_parser_stmt.proofs.Rules as r
use Rattle.st_parser_stmt.proofs.statement.plain.Goals as goal

pub returns-in-Some-Semicolon-clause-ok : goal.returns-in-Some-Semicolon-clause-ok
returns-in-Some-Semicolon-clause-ok c =
    let next : next_terminal c.args.tokens.now ≡ Some x.Semicolon = cc in
    r.stated _ _ _ _ (view.statement_of-Empty _) (r.reads-empty _ _ _ c.line-line.ensures next c.bump.ensures)
