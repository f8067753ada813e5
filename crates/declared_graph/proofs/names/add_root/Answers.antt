use Rattle.std.proofs.Common.{refl}
use Rattle.st_tree.specs.declared.expression.Root.TheVariants as root
use Rattle.declared_graph.specs.Private.Names.{all_named}
use Rattle.declared_graph.proofs.NameLaws.{name_added, no_name}
use Rattle.declared_graph.proofs.names.add_root.Goals as goal

pub returns-in_ok-push-in-Name : goal.returns-in_ok-push-in-Name
returns-in_ok-push-in-Name c =
    name_added c.args.place.now c.as_slice.result.now c.in-Name.field-0 c.in-Name.name c.begins_with_field-before_dot.result c.args.list.now.items c.push.new.self.items c.with_name.result c.in-Name.is c.as_slice.ensures
    c.begins_with_field-before_dot.ensures c.in_ok-push-in-Name.ensures.items c.with_name.ensures

pub returns-in-This : goal.returns-in-This
returns-in-This c = no_name (all_named c.args.list.now.items) c.args.place.now (root.This c.in-This.field-0) c.in-This.is (λ ss. refl)

pub returns-in-Super : goal.returns-in-Super
returns-in-Super c = no_name (all_named c.args.list.now.items) c.args.place.now (root.Super c.in-Super.field-0) c.in-Super.is (λ ss. refl)
