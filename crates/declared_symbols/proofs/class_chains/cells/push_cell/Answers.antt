use Rattle.std.proofs.Common.{ap, ◌∙◌, length}
use Rattle.declared_symbols.proofs.class_chains.CellLaws.{grows_pushed, listed_next}
use Rattle.declared_symbols.proofs.class_chains.cells.push_cell.Goals as goal

pub returns-clause-grows : goal.returns-clause-grows
returns-clause-grows c = grows_pushed c.args.cells.now.items c.push.new.self.items (record { class = c.args.class; behind = c.args.behind }) c.in_ok-push.ensures.items

pub returns-clause-lists : goal.returns-clause-lists
returns-clause-lists c = listed_next c.args.cells.now.items c.push.new.self.items c.args.class c.args.behind c.in_ok-number.number (c.in_ok-number.ensures ∙ ap length c.deref.ensures.value) c.in_ok-push.ensures.items
