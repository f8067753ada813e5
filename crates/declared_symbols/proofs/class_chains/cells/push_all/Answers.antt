use Rattle.std.proofs.Common.{[], append-nil}
use Rattle.declared_symbols.specs.class_chains.Cells.{ended}
use Rattle.declared_symbols.proofs.class_chains.CellLaws.{grows_self}
use Rattle.declared_symbols.proofs.class_chains.cells.push_all.Goals as goal

pub classes-init : goal.classes-init
classes-init c = record { grows = grows_self c.args.cells.now.items; done = ([], (ended, append-nil c.args.classes.now)) }
