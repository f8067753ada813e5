use Rattle.std.proofs.Common.{sym, ap, ◌∙◌, slice_set}
use Rattle.st_rules.specs.Telling.{global_told}
use Rattle.name_resolution.proofs.TellLaws.{set_changed, past_changed}
use Rattle.name_resolution.proofs.telling.tell_shared.Goals as goal

pub returns-in-Some : goal.returns-in-Some
returns-in-Some c =
    ap (slice_set c.args.globals.now c.args.place) c.tell_one.ensures
    ∙ set_changed (global_told c.args.kind c.args.target) c.args.place c.args.globals.now c.in-Some.entry.now c.in-Some.ensures.item

pub returns-in-None : goal.returns-in-None
returns-in-None c = sym (past_changed (global_told c.args.kind c.args.target) c.args.place c.args.globals.now c.in-None.ensures.item)
