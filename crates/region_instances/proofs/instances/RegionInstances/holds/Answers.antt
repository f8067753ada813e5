use Rattle.std.proofs.Common.{◌∙◌, sym, ap, arith}
use Rattle.region_instances.specs.Private.Instances.{leads, node_at}
use Rattle.region_instances.proofs.RegionLaws.{no_class, no_node, node_decides}
use Rattle.region_instances.proofs.instances.RegionInstances.holds.Goals as goal

pub returns-then-class-self : goal.returns-then-class-self
returns-then-class-self c =
    let i = c.self.inside in
    rw (← c.self.view_is) (λ u. no_class i.of.value i.counts i.rows.items i.nodes c.self.invariant c.args.region c.args.class (let t = c.if-class-self.true in omega (arith, t)))

pub returns-in-Some : goal.returns-in-Some
returns-in-Some c =
    let i = c.self.inside in
    let f = c.if-class-self.false in
    rw (← c.self.view_is) (λ u. node_decides i.of.value i.counts i.rows.items i.nodes c.self.invariant c.args.region c.args.class c.in-Some.node c.leads.result
    (sym (ap (λ ns. node_at ns c.args.region) c.as_slice.ensures) ∙ sym c.node_at.ensures ∙ c.in-Some.is)
    (c.leads.ensures ∙ ap (λ rs. leads rs c.in-Some.node c.args.class) c.deref.ensures.value) (omega (arith, f)) u)

pub returns-in-None : goal.returns-in-None
returns-in-None c =
    let i = c.self.inside in
    rw (← c.self.view_is) (λ u. no_node i.of.value i.counts i.rows.items i.nodes c.self.invariant c.args.region c.args.class (sym (ap (λ ns. node_at ns c.args.region) c.as_slice.ensures) ∙ sym c.node_at.ensures ∙ c.in-None.is))
