use Rattle.std.proofs.Common.{arith}
use Rattle.st_values.specs.View.{program_of}
use Rattle.change_names.proofs.change_paths.SoFarLaws.{all_so_far}
use Rattle.change_kept.proofs.KeptLaws.{Tells, past_tells}
use Rattle.change_kept.proofs.kept.kept_regions.Goals as goal

pub returns : goal.returns
returns c = record {
  by = λ r.
      all_so_far (Tells (program_of c.args.c.now.old.program.now) (program_of c.args.c.now.new.program.now)) c.loop-r.r c.loop-r.kept.items c.loop-r.invariant
      (λ k h. let e = c.len-end.ensures in let t = c.loop-r-test.false in past_tells (program_of c.args.c.now.old.program.now) c.args.c.now.new.program.now k (omega (arith, h, e, t))) r;
}
