use Rattle.std.proofs.Common.{subst}
use Rattle.st_values.specs.View.{program_of}
use Rattle.st_tree.specs.declared.path.Step.TheVariants as step
use Rattle.mem_layout.specs.Layout.{told}
use Rattle.mem_layout.specs.Private.Regions.{IsLayout}
use Rattle.mem_layout.proofs.LayoutLaws.{parted}
use Rattle.mem_layout.proofs.layout.Layout.field_of.Goals as goal

pub returns : goal.returns
returns c = λ has sh u.
    let l = subst (λ q. IsLayout (program_of q) c.self.inside.tables c.self.inside.regions) c.self.view_is c.self.invariant in
    let p = program_of c.args.self.now in
    parted p c.self.inside.tables c.self.inside.regions c.args.kind.now (step.Field c.args.field) (told c.part.result) l has (λ n s. c.part.ensures p n s) sh u
