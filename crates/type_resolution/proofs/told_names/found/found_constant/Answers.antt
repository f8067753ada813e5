use Rattle.st_unit_rules.specs.declaration_list.Written.{written_of}
use Rattle.type_resolution.proofs.told_names.FoundLaws.{constant-found}
use Rattle.type_resolution.proofs.told_names.found.found_constant.Goals as goal

pub returns : goal.returns
returns c =
    constant-found c.args.classes.now.decls c.args.tables.now.names c.args.class c.in_ok-told.told c.in_ok-s.s (written_of c.args.name.now) c.in_ok-s.ensures c.in_ok-told.ensures
