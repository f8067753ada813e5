use Rattle.std.proofs.Common.{Bool, Some, ◌∙◌, ap}
use Rattle.std.specs.Prelude.{◌||◌}
use Rattle.st_unit_rules.specs.Limits.{has_many_dimensions}
use Rattle.check_limits.proofs.limit_rules.DepthLaws.{more_in_entry, more_in_variable, more_in_program}
use Rattle.check_limits.proofs.limit_rules.depths.has_more.Goals as goal

pub returns-in-Entry : goal.returns-in-Entry
returns-in-Entry c = λ s m. c.is_too_deep.ensures s m ∙ more_in_entry s c.args.within _ c.in-Entry.is

pub returns-in-Variable : goal.returns-in-Variable
returns-in-Variable c = λ s m.
    c.either.ensures
    ∙ ap (λ (a : Bool). a || c.is_too_deep-in-Variable.result) c.has_many_dimensions-many.ensures
    ∙ ap (λ (a : Bool). has_many_dimensions (Some c.args.kind.now) || a) (c.is_too_deep-in-Variable.ensures s m)
    ∙ more_in_variable s c.args.within _ c.in-Variable.is

pub returns-in-Program : goal.returns-in-Program
returns-in-Program c = λ s m. c.is_too_deep_in_program.ensures s m ∙ more_in_program s c.args.within _ c.in-Program.is
