use Rattle.std.proofs.Common.{◌≤◌, length, arith}
use Rattle.console.proofs.check_console.SourceLaws.{adds_none, adds_next, adds_all}
use Rattle.console.proofs.check_console.sources.push_sources.Goals as goal

pub loop-n-init : goal.loop-n-init
loop-n-init g c = adds_none g.J.Judge.accepts g.J.Judge.refuses c.args.sources.now c.args.out.now

pub loop-n-preserved : goal.loop-n-preserved
loop-n-preserved g c =
    adds_next g.J.Judge.accepts g.J.Judge.refuses c.args.sources.now c.loop-n.n c.key.result.now c.at.result.now c.args.out.now c.loop-n.out c.push_source.new.out c.loop-n.invariant c.key.ensures c.at.ensures c.in_ok-push_source.ensures

pub returns : goal.returns
returns g c =
    let all : length c.args.sources.now ≤ c.loop-n.n = omega arith in
    adds_all g.J.Judge.accepts g.J.Judge.refuses c.args.sources.now c.loop-n.n c.args.out.now c.loop-n.out c.loop-n.invariant all
