use Rattle.std.proofs.Common.{suc, refl, subst, sym, ◌∙◌}
use Rattle.name_resolution.specs.Locals.{ArePlaces}
use Rattle.type_resolution.specs.written_types.Types.{TellsConstant}
use Rattle.st_unit_rules.specs.declaration_list.Written.{written_of}
use Rattle.type_resolution.specs.told_locals.Private.Telling.{scope_with}
use Rattle.type_resolution.proofs.told_locals.TellingLaws.{told_same, told_next}
use Rattle.type_resolution.proofs.told_locals.telling.visit.Goals as goal

pub found_with-requires-clause-places : goal.found_with-requires-clause-places
found_with-requires-clause-places c = subst (ArePlaces c.args.told.places) (sym c.as_slice.ensures) c.requires.told.places

pub returns-in_default-found : goal.returns-in_default-found
returns-in_default-found c = told_same c.args.around.now c.args.of.now c.args.told _ c.requires.told refl (subst (ArePlaces c.in_ok-found.places) c.as_slice.ensures c.in_ok-found.ensures.places)

pub returns : goal.returns
returns c =
    let a = c.args.around.now in
    let w = written_of c.in-Some.name.now in
    told_next a c.args.of.now c.args.names.now c.args.told _ c.args.place c.first_of.result (suc c.args.place) c.in-Some.name.now c.in-Some-found.found _ c.requires.names c.requires.told
    c.in-Some.ensures.lookup.3.0 c.in-Some.ensures.lookup.1 (sym c.is_constant.ensures ∙ c.if-not-is_constant.false)
    (subst (λ o. TellsConstant o (scope_with a c.args.told.known) w) c.in-Some-found.is (subst (λ vs. TellsConstant c.in_ok-found.found (scope_with a vs) w) c.as_slice.ensures c.in_ok-found.ensures.told))
    (subst (ArePlaces c.in_ok-found.places) c.as_slice.ensures c.in_ok-found.ensures.places) c.first_of.ensures refl refl c.in_ok-tell_found.ensures
