use Rattle.std.proofs.Common.{take, reverse}
use Rattle.machine_memory.proofs.ArgumentLaws.{writing_step, writing_stops, writing_others}
use Rattle.machine_memory.proofs.arguments.write_arguments.Goals as goal

pub arguments-preserved : goal.arguments-preserved
arguments-preserved c =
    writing_step (reverse (take c.args.n c.args.words.now.words)) c.arguments.i c.args.depth c.args.locals.now.stride c.args.locals.now.locals c.arguments.locals.locals c.write_argument.new.locals.locals c.arguments.locals.stride c.write_argument.new.locals.stride
    c.argument.result c.arguments.invariant c.argument.ensures c.in-Ok.ensures.value c.in-Ok.ensures.others c.in-Ok.ensures.stride

pub returns-in-Err-clause-value : goal.returns-in-Err-clause-value
returns-in-Err-clause-value c =
    writing_stops (reverse (take c.args.n c.args.words.now.words)) c.arguments.i c.args.depth c.args.locals.now.stride c.args.locals.now.locals c.arguments.locals.locals c.arguments.locals.stride
    c.argument.result c.in-Err.e c.arguments.invariant c.argument.ensures c.in-Err.ensures.value

pub returns-in-Err-clause-others : goal.returns-in-Err-clause-others
returns-in-Err-clause-others c =
    writing_others (reverse (take c.args.n c.args.words.now.words)) c.arguments.i c.args.depth c.args.locals.now.stride c.args.locals.now.locals c.arguments.locals.locals c.write_argument.new.locals.locals c.arguments.locals.stride
    c.arguments.invariant c.in-Err.ensures.others
