use Rattle.std.proofs.Common.{ap, ◌∙◌}
use Rattle.st_rules.specs.Classes.{classes_in}
use Rattle.name_resolution.specs.Tables.{Told}
use Rattle.name_resolution.proofs.TableLaws.{bases_known}
use Rattle.name_resolution.proofs.tables.NameTables.build.Goals as goal

pub returns-in-Ok-clause-knows : goal.returns-in-Ok-clause-knows
returns-in-Ok-clause-knows c = bases_known _ (classes_in c.args.unit.now.decls) (ap (λ (t : Told). t.bases) c.with_names.ensures ∙ c.in-Ok.ensures.bases) (ap (λ (t : Told). t.derived) c.with_names.ensures ∙ c.in-Ok.ensures.derived)
