use Rattle.std.proofs.Common.{sym, ◌∙◌}
use Rattle.footprints.proofs.reached_routines.AskLaws.{followed, followed_already, asked_more}
use Rattle.footprints.proofs.reached_routines.search.follow_kind.Goals as goal

pub returns-in_ok-add_aimed-in-Some-clause-asked : goal.returns-in_ok-add_aimed-in-Some-clause-asked
returns-in_ok-add_aimed-in-Some-clause-asked c =
    asked_more c.args.s.now.callables.tables.now c.args.kind.now _ c.args.search.now.asked c.ask.new.asked c.in-Some.family c.args.search.now.found.ids.items c.add_aimed.new.found.ids.items (sym c.family_of.ensures ∙ c.in-Some.is)
    c.in_ok-ask-in-Some.ensures.one
    (followed c.args.s.now.callables.tables.now c.args.kind.now _ c.args.s.now.conformers.now _ _ c.of-classes.result.now c.requires.served.conformers c.of-classes.ensures c.in_ok-add_aimed-in-Some.ensures)
    c.requires.asked

pub returns-else-branch-clause-adds : goal.returns-else-branch-clause-adds
returns-else-branch-clause-adds c =
    followed_already c.args.s.now.callables.tables.now c.args.kind.now _ c.args.search.now.asked c.in-Some.family c.args.search.now.found.ids.items (sym c.family_of.ensures ∙ c.in-Some.is)
    (c.in_ok-ask-in-Some.ensures.known c.if-branch.false) c.requires.asked
