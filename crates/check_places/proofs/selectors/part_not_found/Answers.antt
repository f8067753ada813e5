use Rattle.std.proofs.Common.{sym, ap, ◌∙◌}
use Rattle.std.specs.Prelude.{◌&&◌}
use Rattle.std.specs.Option.{is_none}
use Rattle.plc_text.specs.declared.code.Code.TheVariants.{E05}
use Rattle.st_rules.specs.Faults.{least, when}
use Rattle.check_places.specs.Standing.{parted}
use Rattle.check_places.proofs.Joins.{tested}
use Rattle.check_places.proofs.selectors.part_not_found.Goals as goal

pub returns-then-is_told : goal.returns-then-is_told
returns-then-is_told c = λ s. tested _ _ _ E05 c.args.line c.when.ensures (c.is_nothing.ensures ∙ ap (λ t. t && is_none (parted c.args.p)) (sym c.if-is_told.true ∙ c.is_told.ensures s))

pub returns-else-is_told : goal.returns-else-is_told
returns-else-is_told c = λ s. ap (λ t. least (when (t && is_none (parted c.args.p)) E05 c.args.line)) (sym c.if-is_told.false ∙ c.is_told.ensures s)
