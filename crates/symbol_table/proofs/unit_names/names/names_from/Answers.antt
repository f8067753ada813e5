use Rattle.symbol_table.proofs.unit_names.KnownLaws.{all_declared}
use Rattle.symbol_table.proofs.unit_names.names.names_from.Goals as goal

pub returns : goal.returns
returns c =
    all_declared c.args.known.now c.args.decls.now c.in_ok-types.types c.in_ok-parts.parts c.in_ok-classes.classes c.in_ok-interfaces.interfaces c.in_ok-globals.globals c.requires.decls c.in_ok-types.ensures c.in_ok-parts.ensures
    c.in_ok-classes.ensures c.in_ok-interfaces.ensures c.in_ok-globals.ensures
