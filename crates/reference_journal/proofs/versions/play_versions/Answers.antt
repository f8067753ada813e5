use Rattle.std.proofs.Common.{◌≡◌, ◌≤◌, arith, length}
use Rattle.std.specs.Map.{values_of}
use Rattle.reference_journal.specs.Private.Versions.{state_of}
use Rattle.reference_journal.proofs.RunLaws.{runs_from}
use Rattle.reference_journal.proofs.versions.play_versions.Goals as goal

pub returns : goal.returns
returns g c =
    let none : 0 ≤ length c.args.plays.now = omega arith in
    let within : length c.versions.entries ≤ length c.args.plays.now = c.versions.invariant.run.within none in
    let l = c.len.ensures in
    let t = c.versions-test.false in
    let whole : length c.versions.entries ≡ length c.args.plays.now = omega (arith, within, l, t) in
    runs_from g.J.Judge.accepts g.J.Judge.refuses (values_of c.args.sources.now) c.args.plays.now (state_of c.args.version.program c.args.version.state) (state_of c.versions.running.program c.versions.running.state)
    c.versions.entries c.versions.invariant.run whole
