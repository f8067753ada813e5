use Rattle.st_tree.specs.declared.terminal.Terminal.TheVariants as x
use Rattle.st_parser_decl.proofs.Steps as r
use Rattle.st_parser_decl.proofs.leaf.may_semicolon.Goals as goal

pub returns : goal.returns
returns c = r.parses_eat x.Semicolon _ _ c.eat-eaten.result c.eat-eaten.ensures.yes c.eat-eaten.ensures.no c.eat-eaten.ensures.not
