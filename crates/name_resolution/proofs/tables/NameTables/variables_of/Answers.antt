use Rattle.std.proofs.Common.{ap, ◌∙◌}
use Rattle.name_resolution.specs.Tables.{Told}
use Rattle.name_resolution.specs.Private.Climb.{variables_at}
use Rattle.name_resolution.proofs.TableLaws.{variables_are}
use Rattle.name_resolution.proofs.tables.NameTables.variables_of.Goals as goal

pub returns : goal.returns
returns c = λ s holds. c.variables_at_class.ensures ∙ ap (λ cs. variables_at cs c.args.class) c.as_slice.ensures ∙ ap (λ (t : Told). variables_at t.names.classes c.args.class) c.self.view_is ∙ variables_are c.args.self.now s holds c.args.class
