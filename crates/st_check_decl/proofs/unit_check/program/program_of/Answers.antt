use Rattle.std.proofs.Common.{refl, ap}
use Rattle.st_check_decl.proofs.unit_check.program.program_of.Goals as goal

pub returns : goal.returns
returns c = record {
  types-are = ap (λ x. x.0.trees.types) c.into_parts-declarations.ensures;
  classes-are = ap (λ x. x.0.trees.classes) c.into_parts-declarations.ensures;
  interfaces-are = ap (λ x. x.0.trees.interfaces) c.into_parts-declarations.ensures;
  functions-are = ap (λ x. x.0.trees.functions) c.into_parts-declarations.ensures;
  programs-are = ap (λ x. x.0.trees.programs) c.into_parts-declarations.ensures;
  regions-are = ap (λ x. x.1.regions) c.into_parts-declarations.ensures;
  tasks-are = refl;
}
