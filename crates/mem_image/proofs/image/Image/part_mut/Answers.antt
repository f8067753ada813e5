use Rattle.std.proofs.Common.{◌≤◌, length, refl, ap, ◌∙◌, arith, rules}
use Rattle.mem_image.specs.Image.{replaced}
use Rattle.mem_image.proofs.PartLaws.{refilled}
use Rattle.mem_image.proofs.image.Image.part_mut.Goals as goal

pub returns : goal.returns
returns c =
    let bytes = c.self.inside.bytes in
    let within : c.args.offset ≤ length bytes.items = omega (arith, ap length c.self.view_is) in (
      (refl, λ w. refilled bytes.items w c.args.offset (length w) bytes.len bytes.ok.0 refl within ∙ ap (λ xs. replaced xs c.args.offset w) c.self.view_is),
      record { writes_back = tt; value = search rules },
    )
