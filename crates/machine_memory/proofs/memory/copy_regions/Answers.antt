use Rattle.std.proofs.Common.{◌≡◌, ◌+◌, ap, ◌∙◌, sym}
use Rattle.std.specs.Prelude.{Some, slice_get, slice_set, slice_range}
use Rattle.mem_image.specs.Image.{replaced}
use Rattle.machine_memory.specs.Private.There.{region_or, there_or}
use Rattle.machine_memory.proofs.MemoryLaws.{put_back}
use Rattle.machine_memory.proofs.memory.copy_regions.Goals as goal

pub returns-in-Some-take : goal.returns-in-Some-take
returns-in-Some-take c =
    let a = c.args in
    let is : slice_get a.regions.now a.from ≡ Some (Some c.in-Some-take.image) = c.in-Some-take.ensures.image in
    let image : c.in-Some-take.image ≡ region_or a.regions.now a.from = ap there_or (sym is) in
    let part : c.part.result.now ≡ slice_range (region_or a.regions.now a.from) a.from_offset (a.from_offset + a.n) = c.part.ensures ∙ ap (λ l. slice_range l a.from_offset (a.from_offset + a.n)) image in
    put_back a.regions.now c.take.new.self c.fill_region.new.regions c.put.new.self a.from a.to a.to_offset c.in-Some-take.image _
    c.if-from-to.false is c.take.ensures.empties (c.fill_region.ensures) c.put.ensures
    ∙ ap (λ p. slice_set a.regions.now a.to (Some (replaced (region_or a.regions.now a.to) a.to_offset p))) part
