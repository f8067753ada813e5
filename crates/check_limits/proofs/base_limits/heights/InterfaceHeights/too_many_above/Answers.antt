use Rattle.std.proofs.Common.{◌≡◌, ◌∙◌, Bool, ap, subst}
use Rattle.plc_text.specs.declared.code.Code.TheVariants.{E16}
use Rattle.st_rules.specs.Faults.{least, when}
use Rattle.st_rules.specs.Interfaces.{interfaces_in}
use Rattle.st_tree.specs.declared.unit.Unit.{Unit}
use Rattle.st_unit_rules.specs.Limits.{too_many_interfaces_above}
use Rattle.graph_cycles.specs.Graph.{marked}
use Rattle.check_limits.proofs.base_limits.heights.InterfaceHeights.too_many_above.Goals as goal

pub returns : goal.returns
returns c =
    subst (λ (u : Unit). c.when.result ≡ least (too_many_interfaces_above c.args.line (interfaces_in u.decls) c.args.interface)) c.self.view_is
    (c.when.ensures ∙ ap (λ (b : Bool). least (when b E16 c.args.line)) (c.is_marked.ensures ∙ ap (λ marks. marked marks c.args.interface) c.deref.ensures.value ∙ c.self.invariant.high c.args.interface))
