use Rattle.std.proofs.Common.{subst}
use Rattle.st_values.specs.View.{program_of}
use Rattle.mem_layout.specs.Private.Regions.{IsLayout}
use Rattle.mem_layout.proofs.LayoutLaws.{measured}
use Rattle.mem_layout.proofs.layout.Layout.size_of.Goals as goal

pub returns : goal.returns
returns c = λ has sh u.
    let l = subst (λ q. IsLayout (program_of q) c.self.inside.tables c.self.inside.regions) c.self.view_is c.self.invariant in
    let p = program_of c.args.self.now in
    (measured p c.self.inside.tables c.self.inside.regions c.args.kind.now c.measure.result l has (λ n s. c.measure.ensures p n s) sh u).size-is
