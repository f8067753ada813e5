use Rattle.std.proofs.Common.{◌≡◌, ◌++◌, map, take}
use Rattle.st_tree.specs.declared.name.Name.{Name}
use Rattle.default_values.proofs.structure_worths.unweighed.add_fields.Given as goal

abbrev pub invariant-loop-name : goal.invariant-loop-name
invariant-loop-name l = map (λ f. f.kind) l.list ≡ map (λ f. f.kind) l.initial.list ++ map (λ (n : Name). l.kind) (take l.name-index l.names)
