use Rattle.std.proofs.Common.{sym, ap, ◌∙◌, slice_set}
use Rattle.st_rules.specs.Telling.{member_told}
use Rattle.name_resolution.proofs.TellLaws.{set_changed, past_changed}
use Rattle.name_resolution.proofs.telling.tell_in_class.Goals as goal

pub returns-in-Some : goal.returns-in-Some
returns-in-Some c =
    ap (slice_set c.args.classes.now c.args.class) c.tell_own.ensures
    ∙ set_changed (member_told c.args.place c.args.kind c.args.target) c.args.class c.args.classes.now c.in-Some.own.now c.in-Some.ensures.item

pub returns-in-None : goal.returns-in-None
returns-in-None c = sym (past_changed (member_told c.args.place c.args.kind c.args.target) c.args.class c.args.classes.now c.in-None.ensures.item)
