use Rattle.std.proofs.Common.{◌≡◌, None, sym, ap, ◌∙◌, subst}
use Rattle.std.specs.Prelude.{MatchOption}
use Rattle.st_values.specs.Shape.{region_shape}
use Rattle.mem_layout.specs.store_bytes.Place.{inner_place, place_of}
use Rattle.mem_layout.specs.Layout.{IsPlace}
use Rattle.mem_layout.specs.Private.Place.{offset_of}
use Rattle.st_values.specs.View.{program_of}
use Rattle.mem_layout.specs.Private.Regions.{IsLayout}
use Rattle.mem_layout.proofs.LayoutLaws.{with_rows, no_region, missing, placed}
use Rattle.mem_layout.proofs.layout.Layout.place_of.Goals as goal

pub returns-in_err-region : goal.returns-in_err-region
returns-in_err-region c = λ has.
    let l = with_rows (program_of c.args.self.now) c.self.inside.tables c.self.inside.regions (subst (λ q. IsLayout (program_of q) c.self.inside.tables c.self.inside.regions) c.self.view_is c.self.invariant) has in
    let p = program_of c.args.self.now in
    let t = c.self.inside.tables in
    let rs = c.self.inside.regions in
    subst (λ o. MatchOption o (place_of (region_shape p) c.args.path.now ≡ None) (λ at. IsPlace p c.args.path.now at)) (sym c.from_residual.ensures) (no_region p t rs c.args.path.now l (sym c.in_err-region.ensures.value))

pub returns-in_err-offset : goal.returns-in_err-offset
returns-in_err-offset c = λ has.
    let l = with_rows (program_of c.args.self.now) c.self.inside.tables c.self.inside.regions (subst (λ q. IsLayout (program_of q) c.self.inside.tables c.self.inside.regions) c.self.view_is c.self.invariant) has in
    let p = program_of c.args.self.now in
    let t = c.self.inside.tables in
    let rs = c.self.inside.regions in
    subst (λ o. MatchOption o (place_of (region_shape p) c.args.path.now ≡ None) (λ at. IsPlace p c.args.path.now at)) (sym c.from_residual-in_err-offset.ensures)
    (missing p t rs c.args.path.now c.in_ok-region.region.now l (sym c.in_ok-region.ensures.value) (λ n sh a r h s. c.in_err-offset.ensures p n sh a r h s ∙ ap (λ ss. offset_of (inner_place sh ss)) c.as_slice.ensures))

pub returns : goal.returns
returns c = λ has.
    let l = with_rows (program_of c.args.self.now) c.self.inside.tables c.self.inside.regions (subst (λ q. IsLayout (program_of q) c.self.inside.tables c.self.inside.regions) c.self.view_is c.self.invariant) has in
    let p = program_of c.args.self.now in
    let t = c.self.inside.tables in
    let rs = c.self.inside.regions in
    placed p t rs c.args.path.now c.in_ok-region.region.now c.in_ok-offset.offset l (sym c.in_ok-region.ensures.value) (λ m sh a r h s. c.in_ok-offset.ensures p m sh a r h s ∙ ap (λ ss. offset_of (inner_place sh ss)) c.as_slice.ensures)
