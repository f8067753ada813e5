use Rattle.std.proofs.Common.{◌≡◌, drop}
use Rattle.std.specs.Prelude.{max}
use Rattle.st_tree.specs.Statement.{branches_of, cases_of, statements_of}
use Rattle.code_rules.specs.Tops.{branches_top, cases_top, effects_top}
use Rattle.codegen_tables.specs.Context.{plan_in}
use Rattle.codegen_tops.proofs.statements.+tops.Given as goal

abbrev pub invariant-effects_top-loop-s : goal.invariant-effects_top-loop-s
invariant-effects_top-loop-s l = max l.most (effects_top (plan_in l.c) l.free (statements_of (drop l.s-index l.body))) ≡ effects_top (plan_in l.c) l.free (statements_of l.body)

abbrev pub invariant-branches_top-loop-branch : goal.invariant-branches_top-loop-branch
invariant-branches_top-loop-branch l = max l.most (branches_top (plan_in l.c) l.free (branches_of (drop l.branch-index l.branches))) ≡ branches_top (plan_in l.c) l.free (branches_of l.branches)

abbrev pub invariant-cases_top-loop-case : goal.invariant-cases_top-loop-case
invariant-cases_top-loop-case l = max l.most (cases_top (plan_in l.c) l.free (cases_of (drop l.case-index l.cases))) ≡ cases_top (plan_in l.c) l.free (cases_of l.cases)
