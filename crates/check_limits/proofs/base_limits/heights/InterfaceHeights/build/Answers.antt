use Rattle.std.proofs.Common.{ℕ, List, ◌∙◌, sym, ap, subst}
use Rattle.st_tree.specs.declared.unit.Decl.{Decl}
use Rattle.st_rules.specs.Interfaces.{interfaces_in}
use Rattle.check_limits.specs.base_limits.Private.Heights.{AreHigh}
use Rattle.check_limits.proofs.base_limits.heights.InterfaceHeights.build.Goals as goal

pub high_interfaces-requires : goal.high_interfaces-requires
high_interfaces-requires c = ap (λ u. u.decls) c.requires ∙ sym c.as_slice.ensures

pub invariant_of-result : goal.invariant_of-result
invariant_of-result c =
    subst (λ (ds : List (Decl ℕ)). AreHigh (interfaces_in ds) c.in_ok-high.high.items) (c.as_slice.ensures ∙ sym (ap (λ u. u.decls) c.of.ensures)) (record { high = c.in_ok-high.ensures })
