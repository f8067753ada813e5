use Rattle.std.proofs.Common.{◌++◌, ap, ◌∙◌}
use Rattle.std.specs.Prelude.{slice_get}
use Rattle.st_values.specs.View.{variables_in, sections_in}
use Rattle.program_tables.specs.st_initial.Variables.{variables_of}
use Rattle.routine_tables.proofs.DeclaredLaws.{declared_is}
use Rattle.routine_tables.proofs.declared.push_class.Goals as goal

pub returns : goal.returns
returns c =
    c.in_ok-push_members.ensures ∙ ap (λ vs. variables_of c.args.out.now.items ++ vs) (ap (λ ms. variables_in (sections_in ms)) c.members_at.ensures ∙ declared_is (slice_get c.args.classes.now c.args.class))
