use Rattle.std.proofs.Common.{◌∷◌, [], map, refl}
use Rattle.st_rules.proofs.ListLaws.{left_next, left_end}
use Rattle.st_tree.specs.declared.configuration.InstanceSpec.{InstanceSpec}
use Rattle.check_names.specs.name_spaces.NamesIn.{names_of}
use Rattle.check_names.proofs.name_spaces.NameLaws.{lent_next}
use Rattle.st_check_decl.proofs.unit_check.configurations.instance_names.Goals as goal

pub loop-instance-preserved : goal.loop-instance-preserved
loop-instance-preserved c =
    left_next (map (λ (x : InstanceSpec). x.name)) c.args.instances.now c.loop-instance.instance-index c.instance-item.result (names_of c.loop-instance.list.items) _ (c.instance-item.result.name ∷ []) _
    c.loop-instance-test.true c.instance-item.is refl (lent_next c.loop-instance.list.items _ _ c.in_ok-push.ensures.items) c.loop-instance.invariant

pub returns : goal.returns
returns c = left_end (map (λ (x : InstanceSpec). x.name)) c.args.instances.now c.loop-instance.instance-index (names_of c.loop-instance.list.items) _ refl c.loop-instance-test.false c.loop-instance.invariant
