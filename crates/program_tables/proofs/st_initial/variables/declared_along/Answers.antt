use Rattle.std.proofs.Common.{◌≡◌, reverse, drop, ap, ◌∙◌, arith}
use Rattle.st_values.specs.Program.{own_variables}
use Rattle.st_values.specs.View.{program_of}
use Rattle.program_tables.specs.st_initial.Variables.{variables_of}
use Rattle.program_tables.proofs.st_initial.VariableLaws.{own_down}
use Rattle.program_tables.proofs.st_initial.variables.declared_along.Goals as goal

pub loop-left-preserved : goal.loop-left-preserved
loop-left-preserved c =
    (omega arith, own_down (program_of c.args.program.now) c.args.classes.now c.loop-left.left (variables_of c.loop-left.out.items) (variables_of c.push_own.new.out.items) c.loop-left-test.true c.loop-left.invariant.0 c.loop-left.invariant.1 c.in_ok-push_own.ensures)

pub returns : goal.returns
returns c =
    let z : c.loop-left.left ≡ 0 = omega arith in
    c.loop-left.invariant.1 ∙ ap (λ n. own_variables (program_of c.args.program.now) (reverse (drop n c.args.classes.now))) z
