use Rattle.std.proofs.Common.{sym}
use Rattle.symbol_table.proofs.unit_tables.TableLaws.{seen_sizes}
use Rattle.symbol_table.proofs.unit_tables.tables.UnitTables.sizes.Goals as goal

pub returns : goal.returns
returns c = seen_sizes c.self.inside.sizes c.self.inside.unit.now c.args.self.now (cc) c.self.invariant.sizes-are
