use Rattle.std.proofs.Common.{ℕ, List}
use Rattle.std.proofs.lemmas.Result.{err_from_is_err_and}
use Rattle.st_tree.specs.declared.configuration.SettingValue.{SettingValue}
use Rattle.st_tree.specs.declared.configuration.SettingValue.TheVariants as value
use Rattle.st_tree.specs.declared.terminal.Terminal.TheVariants as x
use Rattle.st_tree.specs.Grammar.{Lexeme, at}
use Rattle.st_tree.specs.Declarations as d
use Rattle.st_parser_expr.specs.Private.Promises.{LineOf}
use Rattle.st_parser_decl.specs.Private.Form.{Form}
use Rattle.st_parser_decl.specs.Private.Promises.{Parses}
use Rattle.st_parser_decl.specs.Private.Rules as w
use Rattle.st_parser_decl.proofs.Steps as r
use Rattle.st_parser_decl.proofs.configuration.setting.Goals as goal

pub returns-in_err-name-clause-err : goal.returns-in_err-name-clause-err
unfolding w.setting
returns-in_err-name-clause-err c = let p = err_from_is_err_and c.from_residual.result c.from_residual.ensures.1 in rw (p.1, p.2) (r.fails_here c.in_err-name.ensures.err)

pub returns-in_err-sign-clause-err : goal.returns-in_err-sign-clause-err
unfolding w.setting
returns-in_err-sign-clause-err c = let p = err_from_is_err_and c.from_residual-in_err-sign.result c.from_residual-in_err-sign.ensures.1 in rw (p.1, p.2) (r.fails_behind c.in_ok-name.ensures.ok (r.fails_here c.in_err-sign.ensures.err))

pub returns-in_err-value-clause-err : goal.returns-in_err-value-clause-err
unfolding w.setting
returns-in_err-value-clause-err c = let p = err_from_is_err_and c.from_residual-in_err-value.result c.from_residual-in_err-value.ensures.1 in rw (p.1, p.2) (r.fails_behind c.in_ok-name.ensures.ok (r.fails_behind c.in_ok-sign.ensures.ok c.in_err-value.ensures.err))

value_at : {a : Form} {ts rest : List Lexeme} (v : SettingValue) (line : ℕ) → LineOf ts line → Parses (d.setting_value v) a ts rest → Parses (at line (d.setting_value v)) a ts rest
value_at (value.Int n) line h p = r.parses_text_at x.Int n line h p
value_at (value.Time n) line h p = r.parses_text_at x.Duration n line h p

pub returns-clause-ok : goal.returns-clause-ok
unfolding w.setting
returns-clause-ok c = r.behind c.in_ok-name.ensures.ok (r.behind c.in_ok-sign.ensures.ok (value_at c.in_ok-value.value _ c.line-line.ensures c.in_ok-value.ensures.ok))
