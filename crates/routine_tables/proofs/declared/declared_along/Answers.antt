use Rattle.std.proofs.Common.{◌≡◌, reverse, drop, ap, ◌∙◌, arith}
use Rattle.st_values.specs.View as view
use Rattle.program_tables.specs.st_initial.Variables.{variables_of}
use Rattle.routine_tables.proofs.DeclaredLaws.{along_down}
use Rattle.routine_tables.proofs.declared.declared_along.Goals as goal

pub loop-left-preserved : goal.loop-left-preserved
loop-left-preserved c =
    (omega arith, along_down c.args.classes.now c.args.chain.now c.loop-left.left (variables_of c.loop-left.out.items) (variables_of c.push_class.new.out.items) c.loop-left-test.true c.loop-left.invariant.0 c.loop-left.invariant.1 c.in_ok-push_class.ensures)

pub returns : goal.returns
returns c =
    let z : c.loop-left.left ≡ 0 = omega arith in
    c.loop-left.invariant.1 ∙ ap (λ n. view.declared_along c.args.classes.now (reverse (drop n c.args.chain.now))) z
