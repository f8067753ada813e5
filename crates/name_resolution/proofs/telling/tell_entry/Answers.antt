use Rattle.std.proofs.Common.{sym}
use Rattle.st_rules.specs.Telling.{type_told}
use Rattle.name_resolution.proofs.TellLaws.{set_changed, past_changed}
use Rattle.name_resolution.proofs.telling.tell_entry.Goals as goal

pub returns-in-Some : goal.returns-in-Some
returns-in-Some c = set_changed (type_told c.args.kind) c.args.place c.args.types.now c.in-Some.entry.now c.in-Some.ensures.item

pub returns-in-None : goal.returns-in-None
returns-in-None c = sym (past_changed (type_told c.args.kind) c.args.place c.args.types.now c.in-None.ensures.item)
