use Rattle.std.proofs.Common.{◌<◌, length, sym, subst, arith}
use Rattle.std.proofs.lemmas.List.{length-map}
use Rattle.st_values.specs.View.{program_of, region_of}
use Rattle.mem_layout.specs.Private.Regions.{IsLayout}
use Rattle.mem_layout.proofs.LayoutLaws.{with_rows, sized, rows_there}
use Rattle.mem_layout.proofs.layout.Layout.bytes_of.Goals as goal

pub returns-in-Some : goal.returns-in-Some
returns-in-Some c = λ has r.
    let l = with_rows (program_of c.args.self.now) c.self.inside.tables c.self.inside.regions (subst (λ q. IsLayout (program_of q) c.self.inside.tables c.self.inside.regions) c.self.view_is c.self.invariant) has in
    let p = program_of c.args.self.now in
    let t = c.self.inside.tables in
    let rs = c.self.inside.regions in
    sized p t rs c.args.region c.in-Some.row.now l (sym c.in-Some.ensures.value)

pub returns-in-None : goal.returns-in-None
returns-in-None c = λ has r.
    let l = with_rows (program_of c.args.self.now) c.self.inside.tables c.self.inside.regions (subst (λ q. IsLayout (program_of q) c.self.inside.tables c.self.inside.regions) c.self.view_is c.self.invariant) has in
    let p = program_of c.args.self.now in
    let t = c.self.inside.tables in
    let rs = c.self.inside.regions in
    let n = length-map c.args.self.now.regions region_of in
    let lt : c.args.region < length p.regions = omega (arith, r, n) in
    absurd (rows_there p t rs c.args.region l lt (sym c.in-None.ensures.value))
