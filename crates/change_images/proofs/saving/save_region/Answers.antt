use Rattle.change_images.proofs.Steps.{empty_saved, image_saved}
use Rattle.change_images.proofs.saving.save_region.Goals as goal

pub returns-in_default : goal.returns-in_default
returns-in_default c = empty_saved c.args.olds.now c.args.saved.now c.args.region c.in_default.ensures c.requires.alike

pub returns : goal.returns
returns c =
    image_saved c.args.olds.now c.args.saved.now c.args.region c.in-Some.source.now c.in-Some-at_mut.image.now c.copy_from.new.self c.len-len.result
    c.in-Some.ensures c.in-Some-at_mut.ensures.value c.requires.alike c.len-len.ensures.len c.copy_from.ensures.after
