use Rattle.mem_image.proofs.PartLaws.{copied}
use Rattle.mem_image.proofs.image.Image.copy_within_image.Goals as goal

pub returns-clause-after : goal.returns-clause-after
returns-clause-after c = copied _ _ _ _ _ _ c.self.view_is c.copy_within.ensures.items c.requires.target c.requires.source
