use Rattle.mem_image.proofs.PartLaws.{filled}
use Rattle.mem_image.proofs.image.Image.fill_from.Goals as goal

pub returns-clause-after : goal.returns-clause-after
returns-clause-after c = filled _ _ _ _ _ _ _ c.self.inside.bytes.ok.0 c.deref_mut.ensures.value c.self.view_is c.copy_from_slice.ensures.after c.requires
