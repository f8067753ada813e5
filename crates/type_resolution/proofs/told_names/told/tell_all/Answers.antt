use Rattle.std.proofs.Common.{ap}
use Rattle.type_resolution.proofs.told_names.StateLaws.{state_begun}
use Rattle.type_resolution.proofs.told_names.told.tell_all.Goals as goal

pub tell_groups-requires-clause-state : goal.tell_groups-requires-clause-state
tell_groups-requires-clause-state c =
    state_begun c.args.classes.now.decls c.args.unit.now.decls c.in_ok-tables.tables c.in_ok-untold.untold (ap (λ u. u.decls) c.requires.unit) c.in_ok-tables.ensures.knows c.in_ok-tables.ensures.names c.in_ok-untold.ensures
