use Rattle.std.specs.Arc.{arc_value}
use Rattle.core_plays.proofs.RestLaws.{after_change, after_resume, changed_at, resumed_at}
use Rattle.core_plays.proofs.plays.carry_out.Goals as goal

pub returns-in-Ok-clause-rest : goal.returns-in-Ok-clause-rest
returns-in-Ok-clause-rest g c =
    let n = c.in-Ok.migrated.next in
    after_change g.P.Controlled.meaning c.args.core.now c.finish_change.new.self 0 c.args.done _ (arc_value n.loaded) n.regions
    (changed_at g.P.Controlled.meaning c.args.core.now c.finish_change.new.self 0 c.args.done 0 c.args.quiet.regions (arc_value n.loaded) n.regions c.requires.stands c.finish_change.ensures) c.requires.there c.requires.stands

pub returns-in-Err-clause-rest : goal.returns-in-Err-clause-rest
returns-in-Err-clause-rest g c =
    after_resume g.P.Controlled.meaning c.args.core.now c.resume.new.self 0 c.args.done _ c.in-Err.refusal
    (resumed_at g.P.Controlled.meaning c.args.core.now c.resume.new.self 0 c.args.done 0 c.args.quiet.regions c.in-Err.refusal c.requires.stands c.resume.ensures) c.requires.there c.requires.stands
