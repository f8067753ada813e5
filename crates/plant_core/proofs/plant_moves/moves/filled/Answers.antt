use Rattle.std.proofs.Common.{◌∙◌, ℕ, ap, slice_range, ◌+◌}
use Rattle.mem_image.specs.Image.{replaced}
use Rattle.plant_core.proofs.plant_moves.Copies.{whole_copy}
use Rattle.plant_core.proofs.plant_moves.moves.filled.Goals as goal

pub returns : goal.returns
returns c =
    c.copy_from.ensures.after ∙ (ap (λ (n : ℕ). replaced c.args.image 0 (slice_range c.args.source.now 0 (0 + n))) c.len-len.ensures.len ∙ whole_copy c.args.image c.args.source.now c.requires)
