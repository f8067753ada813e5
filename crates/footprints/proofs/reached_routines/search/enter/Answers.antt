use Rattle.std.proofs.Common.{ap}
use Rattle.body_uses.specs.Uses.{called_of}
use Rattle.footprints.proofs.reached_routines.AskLaws.{asked_stays}
use Rattle.footprints.proofs.reached_routines.EnterLaws.{function_entered, method_entered, body_entered, methods_entered, bodies_entered}
use Rattle.footprints.proofs.reached_routines.search.enter.Goals as goal

pub returns-in_ok-add_some-in-Function-clause-adds : goal.returns-in_ok-add_some-in-Function-clause-adds
returns-in_ok-add_some-in-Function-clause-adds c =
    function_entered c.args.s.now.callables.tables.now c.args.search.now.found.ids.items c.add_some.new.found.ids.items c.in-Function.number (called_of c.args.called) _ (ap called_of c.in-Function.is) c.function.ensures c.in_ok-add_some-in-Function.ensures

pub returns-in_ok-add_some-in-Function-clause-asked : goal.returns-in_ok-add_some-in-Function-clause-asked
returns-in_ok-add_some-in-Function-clause-asked c =
    asked_stays c.args.s.now.callables.tables.now c.args.search.now.asked c.args.search.now.found.ids.items c.add_some.new.found.ids.items c.in_ok-add_some-in-Function.ensures.kept c.requires.asked

pub returns-in_ok-add_some-in-MethodFrom-clause-adds : goal.returns-in_ok-add_some-in-MethodFrom-clause-adds
returns-in_ok-add_some-in-MethodFrom-clause-adds c =
    method_entered c.args.s.now.callables.tables.now c.args.search.now.found.ids.items c.add_some-in-MethodFrom.new.found.ids.items c.in-MethodFrom.class c.in-MethodFrom.name.now (called_of c.args.called) _ (ap called_of c.in-MethodFrom.is) c.lookup.ensures c.in_ok-add_some-in-MethodFrom.ensures

pub returns-in_ok-add_some-in-MethodFrom-clause-asked : goal.returns-in_ok-add_some-in-MethodFrom-clause-asked
returns-in_ok-add_some-in-MethodFrom-clause-asked c =
    asked_stays c.args.s.now.callables.tables.now c.args.search.now.asked c.args.search.now.found.ids.items c.add_some-in-MethodFrom.new.found.ids.items c.in_ok-add_some-in-MethodFrom.ensures.kept c.requires.asked

pub returns-in_ok-add_some-in-BodyFrom-clause-adds : goal.returns-in_ok-add_some-in-BodyFrom-clause-adds
returns-in_ok-add_some-in-BodyFrom-clause-adds c =
    body_entered c.args.s.now.callables.tables.now c.args.search.now.found.ids.items c.add_some-in-BodyFrom.new.found.ids.items c.in-BodyFrom.class (called_of c.args.called) _ (ap called_of c.in-BodyFrom.is) c.body_of.ensures c.in_ok-add_some-in-BodyFrom.ensures

pub returns-in_ok-add_some-in-BodyFrom-clause-asked : goal.returns-in_ok-add_some-in-BodyFrom-clause-asked
returns-in_ok-add_some-in-BodyFrom-clause-asked c =
    asked_stays c.args.s.now.callables.tables.now c.args.search.now.asked c.args.search.now.found.ids.items c.add_some-in-BodyFrom.new.found.ids.items c.in_ok-add_some-in-BodyFrom.ensures.kept c.requires.asked

pub returns-in_ok-follow_kind-in-MethodOf-clause-adds : goal.returns-in_ok-follow_kind-in-MethodOf-clause-adds
returns-in_ok-follow_kind-in-MethodOf-clause-adds c =
    methods_entered c.args.s.now.callables.tables.now c.args.search.now.found.ids.items c.follow_kind.new.search.found.ids.items c.in-MethodOf.kind.now c.in-MethodOf.name.now (called_of c.args.called) (ap called_of c.in-MethodOf.is) c.in_ok-follow_kind-in-MethodOf.ensures.adds

pub returns-in_ok-follow_kind-in-BodyOf-clause-adds : goal.returns-in_ok-follow_kind-in-BodyOf-clause-adds
returns-in_ok-follow_kind-in-BodyOf-clause-adds c =
    bodies_entered c.args.s.now.callables.tables.now c.args.search.now.found.ids.items c.follow_kind-in-BodyOf.new.search.found.ids.items c.in-BodyOf.kind.now (called_of c.args.called) (ap called_of c.in-BodyOf.is) c.in_ok-follow_kind-in-BodyOf.ensures.adds
