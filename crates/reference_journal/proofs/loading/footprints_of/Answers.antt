use Rattle.std.proofs.Common.{List, sym, subst, ◌+◌, ℕ}
use Rattle.std.specs.Prelude.{Vec}
use Rattle.std.specs.declared.alloc.Global.{Global}
use Rattle.st_values.specs.View.{program_of}
use Rattle.reference_journal.proofs.LoadLaws.{Firsts, next, exact_at}
use Rattle.reference_journal.proofs.loading.footprints_of.Goals as goal

pub loop-t-preserved : goal.loop-t-preserved
loop-t-preserved c =
    subst (λ (xs : List (Vec ℕ Global)). Firsts (program_of c.args.program.now) xs (c.loop-t.t + 1)) (sym c.in_ok-push.ensures.items)
    (next (program_of c.args.program.now) c.loop-t.all.items c.loop-t.t c.in_ok-regions.regions c.loop-t.invariant
    (exact_at c.args.program.now c.in_ok-tables.tables c.loop-t.t c.in_ok-task.task c.in_ok-regions.regions.items c.in_ok-tables.ensures c.in_ok-task.ensures c.in_ok-regions.ensures.exact))
