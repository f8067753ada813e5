use Rattle.std.proofs.Common.{ap, subst}
use Rattle.st_rules.specs.Scope.{Scope}
use Rattle.name_resolution.specs.Locals.{ArePlaces}
use Rattle.st_unit_rules.specs.declaration_list.Written.{written_of}
use Rattle.type_resolution.specs.written_types.Types.{TellsConstant}
use Rattle.type_resolution.proofs.told_locals.around.found_with.Goals as goal

pub returns-clause-told : goal.returns-clause-told
returns-clause-told c = subst (λ (s : Scope). TellsConstant c.in_ok-found.found s (written_of c.args.name.now)) c.scope_over-s.ensures c.in_ok-found.ensures

pub returns-clause-places : goal.returns-clause-places
returns-clause-places c = subst (ArePlaces c.into_places.result) (ap (λ (s : Scope). s.locals) c.scope_over-s.ensures) c.into_places.ensures
