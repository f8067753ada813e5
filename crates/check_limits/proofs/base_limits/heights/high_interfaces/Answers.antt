use Rattle.std.proofs.Common.{ℕ, List, ap}
use Rattle.st_tree.specs.declared.unit.Decl.{Decl}
use Rattle.st_rules.specs.Interfaces.{interfaces_in}
use Rattle.check_limits.proofs.base_limits.HeightLaws.{none_left, within_told, high_told}
use Rattle.check_limits.proofs.base_limits.heights.high_interfaces.Goals as goal

pub high_nodes-requires : goal.high_nodes-requires
high_nodes-requires c =
    within_told (interfaces_in c.args.classes.now.decls) (interfaces_in c.args.decls.now) (interfaces_in c.decls.left.now) c.decls.number c.decls.edges.items (ap (λ ds. interfaces_in ds) c.requires) (ap (λ (ds : List (Decl ℕ)). interfaces_in ds) (none_left c.decls.left.now c.in_default.ensures.cases)) c.decls.invariant
    _ c.deref.ensures.value

pub returns : goal.returns
returns c =
    high_told (interfaces_in c.args.classes.now.decls) (interfaces_in c.args.decls.now) (interfaces_in c.decls.left.now) c.decls.number c.decls.edges.items (ap (λ ds. interfaces_in ds) c.requires) (ap (λ (ds : List (Decl ℕ)). interfaces_in ds) (none_left c.decls.left.now c.in_default.ensures.cases)) c.decls.invariant
    _ c.in_ok-marks.marks.items c.deref.ensures.value c.in_ok-marks.ensures
