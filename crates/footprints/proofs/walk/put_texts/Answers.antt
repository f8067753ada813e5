use Rattle.footprints.proofs.PutLaws.{next}
use Rattle.footprints.proofs.walk.put_texts.Goals as goal

pub ids-preserved : goal.ids-preserved
ids-preserved c = record {
  taken =
      next _ c.args.ids.now c.ids.left.now c.in-Some.behind.now c.in-Some.id.now c.args.walk.now.marks.keys c.ids.walk.marks.keys c.put_text.new.walk.marks.keys c.in-Some.ensures.cases.0 c.ids.invariant.taken
      c.in_ok-put_text.ensures.puts;
  followed = c.in_ok-put_text.ensures.followed;
}
