use Rattle.st_values.specs.View.{program_of}
use Rattle.body_uses.specs.Uses.{use_of}
use Rattle.footprints.proofs.reached_routines.EnterLaws.{uses_left}
use Rattle.footprints.proofs.PutLaws.{next}
use Rattle.footprints.proofs.WalkLaws.{use_put}
use Rattle.footprints.proofs.walk.put_uses.Goals as goal

pub loop-one-preserved : goal.loop-one-preserved
loop-one-preserved c = record {
  taken =
      next _ _ _ _ _ c.args.walk.now.marks.keys c.loop-one.walk.marks.keys c.put_owner.new.walk.marks.keys (uses_left c.args.uses.now c.loop-one.one-index c.one-item.result c.loop-one-test.true c.one-item.is) c.loop-one.invariant.taken
      (use_put (program_of c.args.t.now.program.now) c.args.t.now.holders.items c.args.part (use_of c.one-item.result) _ c.loop-one.walk.marks.keys c.put_owner.new.walk.marks.keys c.owner_in.ensures c.in_ok-put_owner.ensures.puts);
  followed = c.in_ok-put_owner.ensures.followed;
}
