use Rattle.std.proofs.Common.{◌≡◌, ◌<◌, ◌∷◌, ◌∙◌, ℕ, length, true, refl, sym, subst, rules}
use Rattle.std.proofs.lemmas.List.{length-set}
use Rattle.check_limits.specs.base_limits.Private.Ways.{goes_on}
use Rattle.check_limits.proofs.base_limits.WayLaws.{first_within, marks_set, marks_passed}
use Rattle.check_limits.proofs.base_limits.ways.one_step_more.Goals as goal

pub index_mut-requires : goal.index_mut-requires
index_mut-requires c =
    let split : c.edges.left.now ≡ c.in-Some.edge.now ∷ c.in-Some.behind.now = search rules in
    let below : c.in-Some.edge.now.from < length c.edges.next.items = subst (λ (n : ℕ). c.in-Some.edge.now.from < n) (sym c.edges.invariant.long) (first_within (length c.args.marks.now) c.edges.left.now c.in-Some.edge.now c.in-Some.behind.now split c.edges.invariant.within).0 in
    search rules

pub edges-preserved-then-is_way : goal.edges-preserved-then-is_way
edges-preserved-then-is_way c =
    let split : c.edges.left.now ≡ c.in-Some.edge.now ∷ c.in-Some.behind.now = search rules in
    marks_set (length c.args.marks.now) (goes_on c.args.marks.now c.args.cycles.now) c.args.edges.now c.edges.left.now c.in-Some.edge.now c.in-Some.behind.now c.edges.next.items split c.edges.invariant _
    (sym c.is_way.ensures ∙ c.if-is_way.true) refl (length-set c.edges.next.items c.in-Some.edge.now.from true)

pub edges-preserved : goal.edges-preserved
edges-preserved c =
    let split : c.edges.left.now ≡ c.in-Some.edge.now ∷ c.in-Some.behind.now = search rules in
    marks_passed (length c.args.marks.now) (goes_on c.args.marks.now c.args.cycles.now) c.args.edges.now c.edges.left.now c.in-Some.edge.now c.in-Some.behind.now c.edges.next.items split c.edges.invariant
    (sym c.is_way.ensures ∙ c.if-is_way.false)
