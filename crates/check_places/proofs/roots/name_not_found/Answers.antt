use Rattle.std.proofs.Common.{sym, ap, ◌∙◌}
use Rattle.std.specs.Prelude.{if◌then◌else◌}
use Rattle.std.specs.Option.{is_none}
use Rattle.plc_text.specs.declared.code.Code.TheVariants.{E05}
use Rattle.st_rules.specs.Places.{is_no_variable_name}
use Rattle.name_resolution.specs.Meant.{meant}
use Rattle.check_places.proofs.Joins.{tested}
use Rattle.check_places.proofs.roots.name_not_found.Goals as goal

pub returns-else-called : goal.returns-else-called
returns-else-called c = λ s. tested _ _ _ E05 c.args.line c.when-else-called.ensures
    (c.is_no_variable_name.ensures s ∙ sym (ap (λ t. if t then is_none (meant c.args.m) else is_no_variable_name s (meant c.args.m)) c.if-called.false))
