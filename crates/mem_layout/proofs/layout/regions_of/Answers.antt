use Rattle.std.proofs.Common.{◌≡◌, ◌+◌, suc, ◌∷◌, [], ◌++◌, drop, drop-cons, sym, ap, ◌∙◌, subst, arith}
use Rattle.std.specs.Prelude.{map}
use Rattle.std.proofs.lemmas.List.{append_assoc, append-nil, drop_all}
use Rattle.st_values.specs.View.{region_of}
use Rattle.mem_layout.specs.declared.layout.Region.{Region}
use Rattle.mem_layout.specs.Private.Regions.{AreRegions}
use Rattle.mem_layout.proofs.LayoutLaws.{region_row, decl_shape}
use Rattle.mem_layout.proofs.layout.regions_of.Goals as goal

pub loop-decl-preserved : goal.loop-decl-preserved
loop-decl-preserved c = λ p a r h rest e.
    let ds = c.args.decls.now in
    let i = c.loop-decl.decl-index in
    let d = c.decl-item.result in
    let y : Region = record { kind = c.in_ok-kind.kind; size = c.measure-size.result.size } in
    let is = region_row p c.args.tables.now d c.measure-size.result c.in_ok-kind.kind a r (decl_shape p ds i d h c.loop-decl-test.true c.decl-item.is) (λ n s. c.measure-size.ensures p n s) c.in_ok-kind.ensures in
    let next : suc i ≡ i + 1 = omega arith in
    let cut : drop i ds ≡ d ∷ drop (i + 1) ds = drop-cons ds i d c.loop-decl-test.true ∙ (ap (λ x. x ∷ drop (suc i) ds) (sym c.decl-item.is) ∙ ap (λ n. d ∷ drop n ds) next) in
    let whole = c.loop-decl.invariant p a r h (y ∷ rest) (subst (λ l. AreRegions p (map region_of l) (y ∷ rest)) (sym cut) (is, e)) in
    let same : c.loop-decl.regions ++ y ∷ rest ≡ c.push.new.self ++ rest = sym (append_assoc c.loop-decl.regions (y ∷ []) rest) ∙ ap (λ l. l ++ rest) (sym c.in_ok-push.ensures.ok) in
    subst (AreRegions p (map region_of ds)) same whole

pub returns : goal.returns
returns c = λ p a r h.
    let ds = c.args.decls.now in
    let none = drop_all c.loop-decl.decl-index ds c.loop-decl-test.false in
    subst (AreRegions p (map region_of ds)) (append-nil c.loop-decl.regions) (c.loop-decl.invariant p a r h [] (subst (λ l. AreRegions p (map region_of l) []) (sym none) tt))
