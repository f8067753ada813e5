use Rattle.std.proofs.Common.{sym, subst}
use Rattle.mem_layout.specs.Private.Way.{IsWay}
use Rattle.st_values.specs.View.{program_of}
use Rattle.mem_layout.specs.Private.Regions.{IsLayout}
use Rattle.mem_layout.proofs.LayoutLaws.{with_rows, nothing_there, nothing_begins, begins_there}
use Rattle.mem_layout.proofs.layout.Layout.path_of.Goals as goal

pub returns-in_default : goal.returns-in_default
returns-in_default c = λ has.
    let l = with_rows (program_of c.args.self.now) c.self.inside.tables c.self.inside.regions (subst (λ q. IsLayout (program_of q) c.self.inside.tables c.self.inside.regions) c.self.view_is c.self.invariant) has in
    let p = program_of c.args.self.now in
    let t = c.self.inside.tables in
    let rs = c.self.inside.regions in
    nothing_there p t rs c.args.at l (sym c.in_default.ensures.value)

pub returns-in-Some-2 : goal.returns-in-Some-2
returns-in-Some-2 c = λ has.
    let l = with_rows (program_of c.args.self.now) c.self.inside.tables c.self.inside.regions (subst (λ q. IsLayout (program_of q) c.self.inside.tables c.self.inside.regions) c.self.view_is c.self.invariant) has in
    let p = program_of c.args.self.now in
    let t = c.self.inside.tables in
    let rs = c.self.inside.regions in
    begins_there p t rs c.args.at c.in-Some.region.now c.in-Some-2.steps l (sym c.in-Some.ensures.value) (λ sh a r h s. subst (IsWay sh c.args.at.offset) c.in-Some-2.is (c.in_ok-steps.ensures p sh a r h s))

pub returns-in-None : goal.returns-in-None
returns-in-None c = λ has.
    let l = with_rows (program_of c.args.self.now) c.self.inside.tables c.self.inside.regions (subst (λ q. IsLayout (program_of q) c.self.inside.tables c.self.inside.regions) c.self.view_is c.self.invariant) has in
    let p = program_of c.args.self.now in
    let t = c.self.inside.tables in
    let rs = c.self.inside.regions in
    nothing_begins p t rs c.args.at c.in-Some.region.now l (sym c.in-Some.ensures.value) (λ sh a r h s. subst (IsWay sh c.args.at.offset) c.in-None.is (c.in_ok-steps.ensures p sh a r h s))
