use Rattle.std.proofs.Common.{length, refl, ◌∙◌}
use Rattle.check_configurations.proofs.program_instances.InstanceLaws.{given_is, kind_is}
use Rattle.check_configurations.proofs.program_instances.instances.check_instance.Goals as goal

pub returns-clause-fault : goal.returns-clause-fault
returns-clause-fault c = λ before h t.
    c.take_instance-least.ensures.fault c.args.tables.now.decls before c.args.instance.now
    (given_is c.args.tables.now.decls c.args.instance.now c.program_named-found.result (c.program_named-found.ensures c.args.tables.now.decls h) c.program_found-program.result c.program_found-program.ensures) t

pub returns-clause-taken : goal.returns-clause-taken
returns-clause-taken c = λ before h t.
    c.take_instance-least.ensures.taken c.args.tables.now.decls before c.args.instance.now
    (given_is c.args.tables.now.decls c.args.instance.now c.program_named-found.result (c.program_named-found.ensures c.args.tables.now.decls h) c.program_found-program.result c.program_found-program.ensures) t

pub returns-clause-region : goal.returns-clause-region
returns-clause-region c = λ h. record {
  name = c.in_ok-name.ensures ∙ c.as_str.ensures;
  program = refl;
  kind =
      kind_is c.args.tables.now.decls c.args.instance.now c.program_named-found.result (c.program_named-found.ensures c.args.tables.now.decls h) c.classes.result.now (length c.classes.result.now) c.number_found.result c.in_ok-kind.kind
      c.classes.ensures refl c.number_found.ensures c.in_ok-kind.ensures;
  marks = c.none.ensures;
  initial = refl;
  address = refl;
}
