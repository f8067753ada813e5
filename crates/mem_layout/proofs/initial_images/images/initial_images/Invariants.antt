use Rattle.st_values.specs.View.{program_of}
use Rattle.mem_layout.specs.initial_images.Private.Images.{AreBegun}
use Rattle.mem_layout.proofs.initial_images.images.initial_images.Given as goal

abbrev pub invariant-loop-region : goal.invariant-loop-region
invariant-loop-region l = AreBegun (program_of l.layout) l.decls l.region l.images
