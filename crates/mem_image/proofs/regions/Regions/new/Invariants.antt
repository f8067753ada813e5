use Rattle.std.proofs.Common.{◌≡◌, replicate, None}
use Rattle.mem_image.proofs.regions.Regions.new.Given as goal

abbrev pub invariant-loop : goal.invariant-loop
invariant-loop l = l.places.items ≡ replicate l.counter None
