use Rattle.std.proofs.Common.{◌≡◌, ◌++◌, map, drop}
use Rattle.st_tree.specs.declared.configuration.InstanceSpec.{InstanceSpec}
use Rattle.check_names.specs.name_spaces.NamesIn.{names_of}
use Rattle.st_check_decl.proofs.unit_check.configurations.instance_names.Given as goal

abbrev pub invariant-loop-instance : goal.invariant-loop-instance
invariant-loop-instance l = names_of l.list.items ++ map (λ (x : InstanceSpec). x.name) (drop l.instance-index l.instances) ≡ map (λ (x : InstanceSpec). x.name) l.instances
