use Rattle.std.proofs.Common.{refl}
use Rattle.check_routines.proofs.function_rules.FunctionLaws.{function_in}
use Rattle.check_routines.proofs.function_rules.functions.check_in.Goals as goal

pub returns : goal.returns
returns c = function_in _ c.args.parts.now.graph.now.decls c.args.s.now c.args.function.now _ _ _ _ _ c.as_slice-sections.ensures c.as_slice-body.ensures c.in_ok-names.ensures c.in_ok-name.ensures c.in_ok-found.ensures c.function_of.ensures
