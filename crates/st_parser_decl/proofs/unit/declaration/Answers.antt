use Rattle.std.proofs.Common.{rules, ◌≡◌, Some, false, refl}
use Rattle.std.proofs.lemmas.Result.{err_from_is_err_and}
use Rattle.st_tree.specs.declared.terminal.Terminal.TheVariants as x
use Rattle.st_parser_expr.specs.Private.Promises.{next_terminal}
use Rattle.st_parser_decl.proofs.Choices as t
use Rattle.st_parser_decl.proofs.unit.declaration.Goals as goal

pub returns-in_err-decl-in-Some-Type-clause-err : goal.returns-in_err-decl-in-Some-Type-clause-err
returns-in_err-decl-in-Some-Type-clause-err c = let next : next_terminal c.args.tokens.now ≡ Some x.Type = cc in let p = err_from_is_err_and c.from_residual.result c.from_residual.ensures.1 in rw (p.1, p.2) (t.chosen_fails (t.types c.args.tokens.now next) c.in_err-decl-in-Some-Type.ensures.err)

pub returns-in_ok-decl-in-Some-Type-clause-ok : goal.returns-in_ok-decl-in-Some-Type-clause-ok
returns-in_ok-decl-in-Some-Type-clause-ok c = let next : next_terminal c.args.tokens.now ≡ Some x.Type = cc in t.parses_chosen (t.types c.args.tokens.now next) c.in_ok-decl-in-Some-Type.ensures.ok

pub returns-in_err-decl-in-Some-VarGlobal-clause-err : goal.returns-in_err-decl-in-Some-VarGlobal-clause-err
returns-in_err-decl-in-Some-VarGlobal-clause-err c = let next : next_terminal c.args.tokens.now ≡ Some x.VarGlobal = cc in let p = err_from_is_err_and c.from_residual-in_err-decl-in-Some-VarGlobal.result c.from_residual-in_err-decl-in-Some-VarGlobal.ensures.1 in rw (p.1, p.2) (t.chosen_fails (t.globals c.args.tokens.now next) c.in_err-decl-in-Some-VarGlobal.ensures.err)

pub returns-in_ok-decl-in-Some-VarGlobal-clause-ok : goal.returns-in_ok-decl-in-Some-VarGlobal-clause-ok
returns-in_ok-decl-in-Some-VarGlobal-clause-ok c = let next : next_terminal c.args.tokens.now ≡ Some x.VarGlobal = cc in t.parses_chosen (t.globals c.args.tokens.now next) c.in_ok-decl-in-Some-VarGlobal.ensures.ok

pub returns-in_err-decl-in-Some-Interface-clause-err : goal.returns-in_err-decl-in-Some-Interface-clause-err
returns-in_err-decl-in-Some-Interface-clause-err c = let next : next_terminal c.args.tokens.now ≡ Some x.Interface = cc in let p = err_from_is_err_and c.from_residual-in_err-decl-in-Some-Interface.result c.from_residual-in_err-decl-in-Some-Interface.ensures.1 in rw (p.1, p.2) (t.chosen_fails (t.interface c.args.tokens.now next) c.in_err-decl-in-Some-Interface.ensures.err)

pub returns-in_ok-decl-in-Some-Interface-clause-ok : goal.returns-in_ok-decl-in-Some-Interface-clause-ok
returns-in_ok-decl-in-Some-Interface-clause-ok c = let next : next_terminal c.args.tokens.now ≡ Some x.Interface = cc in t.parses_chosen (t.interface c.args.tokens.now next) c.in_ok-decl-in-Some-Interface.ensures.ok

pub returns-in_err-decl-in-Some-Class-clause-err : goal.returns-in_err-decl-in-Some-Class-clause-err
returns-in_err-decl-in-Some-Class-clause-err c = let next : next_terminal c.args.tokens.now ≡ Some x.Class = cc in let p = err_from_is_err_and c.from_residual-in_err-decl-in-Some-Class.result c.from_residual-in_err-decl-in-Some-Class.ensures.1 in rw (p.1, p.2) (t.chosen_fails (t.class c.args.tokens.now next) c.in_err-decl-in-Some-Class.ensures.err)

pub returns-in_ok-decl-in-Some-Class-clause-ok : goal.returns-in_ok-decl-in-Some-Class-clause-ok
returns-in_ok-decl-in-Some-Class-clause-ok c = let next : next_terminal c.args.tokens.now ≡ Some x.Class = cc in t.parses_chosen (t.class c.args.tokens.now next) c.in_ok-decl-in-Some-Class.ensures.ok

pub returns-in_err-decl-in-Some-FunctionBlock-clause-err : goal.returns-in_err-decl-in-Some-FunctionBlock-clause-err
returns-in_err-decl-in-Some-FunctionBlock-clause-err c = let next : next_terminal c.args.tokens.now ≡ Some x.FunctionBlock = cc in let p = err_from_is_err_and c.from_residual-in_err-decl-in-Some-FunctionBlock.result c.from_residual-in_err-decl-in-Some-FunctionBlock.ensures.1 in rw (p.1, p.2) (t.chosen_fails (t.block c.args.tokens.now next) c.in_err-decl-in-Some-FunctionBlock.ensures.err)

pub returns-in_ok-decl-in-Some-FunctionBlock-clause-ok : goal.returns-in_ok-decl-in-Some-FunctionBlock-clause-ok
returns-in_ok-decl-in-Some-FunctionBlock-clause-ok c = let next : next_terminal c.args.tokens.now ≡ Some x.FunctionBlock = cc in t.parses_chosen (t.block c.args.tokens.now next) c.in_ok-decl-in-Some-FunctionBlock.ensures.ok

pub returns-in_err-decl-in-Some-Function-clause-err : goal.returns-in_err-decl-in-Some-Function-clause-err
returns-in_err-decl-in-Some-Function-clause-err c = let next : next_terminal c.args.tokens.now ≡ Some x.Function = cc in let p = err_from_is_err_and c.from_residual-in_err-decl-in-Some-Function.result c.from_residual-in_err-decl-in-Some-Function.ensures.1 in rw (p.1, p.2) (t.chosen_fails (t.function c.args.tokens.now next) c.in_err-decl-in-Some-Function.ensures.err)

pub returns-in_ok-decl-in-Some-Function-clause-ok : goal.returns-in_ok-decl-in-Some-Function-clause-ok
returns-in_ok-decl-in-Some-Function-clause-ok c = let next : next_terminal c.args.tokens.now ≡ Some x.Function = cc in t.parses_chosen (t.function c.args.tokens.now next) c.in_ok-decl-in-Some-Function.ensures.ok

pub returns-in_err-decl-in-Some-Program-clause-err : goal.returns-in_err-decl-in-Some-Program-clause-err
returns-in_err-decl-in-Some-Program-clause-err c = let next : next_terminal c.args.tokens.now ≡ Some x.Program = cc in let p = err_from_is_err_and c.from_residual-in_err-decl-in-Some-Program.result c.from_residual-in_err-decl-in-Some-Program.ensures.1 in rw (p.1, p.2) (t.chosen_fails (t.program c.args.tokens.now next) c.in_err-decl-in-Some-Program.ensures.err)

pub returns-in_ok-decl-in-Some-Program-clause-ok : goal.returns-in_ok-decl-in-Some-Program-clause-ok
returns-in_ok-decl-in-Some-Program-clause-ok c = let next : next_terminal c.args.tokens.now ≡ Some x.Program = cc in t.parses_chosen (t.program c.args.tokens.now next) c.in_ok-decl-in-Some-Program.ensures.ok

pub returns-in_err-decl-in-Some-Configuration-clause-err : goal.returns-in_err-decl-in-Some-Configuration-clause-err
returns-in_err-decl-in-Some-Configuration-clause-err c = let next : next_terminal c.args.tokens.now ≡ Some x.Configuration = cc in let p = err_from_is_err_and c.from_residual-in_err-decl-in-Some-Configuration.result c.from_residual-in_err-decl-in-Some-Configuration.ensures.1 in rw (p.1, p.2) (t.chosen_fails (t.configuration c.args.tokens.now next) c.in_err-decl-in-Some-Configuration.ensures.err)

pub returns-in_ok-decl-in-Some-Configuration-clause-ok : goal.returns-in_ok-decl-in-Some-Configuration-clause-ok
returns-in_ok-decl-in-Some-Configuration-clause-ok c = let next : next_terminal c.args.tokens.now ≡ Some x.Configuration = cc in t.parses_chosen (t.configuration c.args.tokens.now next) c.in_ok-decl-in-Some-Configuration.ensures.ok

pub returns-in_default-clause-ok : goal.returns-in_default-clause-ok
returns-in_default-clause-ok c =
    let free : t.begins_declaration (next_terminal c.args.tokens.now) ≡ false = search rules in
    (refl, t.no_declaration c.args.tokens.now free)
