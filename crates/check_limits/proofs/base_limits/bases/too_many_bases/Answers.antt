use Rattle.std.proofs.Common.{refl}
use Rattle.st_rules.specs.Classes.{classes_in}
use Rattle.check_limits.proofs.base_limits.BaseLaws.{there, past_end, bases_there, bases_end}
use Rattle.check_limits.proofs.base_limits.bases.too_many_bases.Goals as goal

pub returns-in-Some : goal.returns-in-Some
returns-in-Some c = λ n e. bases_there (classes_in c.args.classes.now.decls) c.args.line n c.args.above.now e c.in-Some.class.now c.lies_on_cycle.result _ c.when.result (there c.args.above.now 65 c.in-Some.class.now c.in-Some.ensures.lookup.3.0 c.in-Some.ensures.lookup.3.1) c.lies_on_cycle.ensures refl c.when.ensures

pub returns-in-None : goal.returns-in-None
returns-in-None c = λ n e. bases_end (classes_in c.args.classes.now.decls) c.args.line n c.args.above.now e (past_end c.args.above.now 65 c.in-None.ensures.lookup.3)
