use Rattle.std.proofs.Common.{sym, ap, ◌∙◌, None}
use Rattle.std.specs.Prelude.{option_map, option_and_then}
use Rattle.st_rules.specs.Scope.{an_enumerator, value_of}
use Rattle.name_resolution.specs.Tables.{Told}
use Rattle.name_resolution.specs.Private.Enumerators.{first_having, last_having}
use Rattle.name_resolution.proofs.TableLaws.{enumerator_is}
use Rattle.name_resolution.proofs.tables.NameTables.enumerator.Goals as goal

pub returns-in-Some-value_of : goal.returns-in-Some-value_of
returns-in-Some-value_of c = λ s holds.
    enumerator_is c.args.self.now s c.args.name.now holds c.number_of.result c.number_of-2.result
    (c.number_of.ensures ∙ c.self.invariant.first_are c.args.name.now ∙ ap (λ (t : Told). first_having 0 t.names.parts c.args.name.now) c.self.view_is)
    (c.number_of-2.ensures ∙ c.self.invariant.last_are c.args.name.now ∙ ap (λ (t : Told). last_having None 0 t.names.parts c.args.name.now) c.self.view_is)
    c.lone-only.result c.lone-only.ensures
    ∙ ap (option_and_then (λ n. option_map (an_enumerator n) (value_of s n c.args.name.now))) c.in-Some.is
    ∙ ap (option_map (an_enumerator c.in-Some.n)) (sym (c.in-Some-value_of.ensures s holds))

pub returns-in-None-value_of : goal.returns-in-None-value_of
returns-in-None-value_of c = λ s holds.
    enumerator_is c.args.self.now s c.args.name.now holds c.number_of.result c.number_of-2.result
    (c.number_of.ensures ∙ c.self.invariant.first_are c.args.name.now ∙ ap (λ (t : Told). first_having 0 t.names.parts c.args.name.now) c.self.view_is)
    (c.number_of-2.ensures ∙ c.self.invariant.last_are c.args.name.now ∙ ap (λ (t : Told). last_having None 0 t.names.parts c.args.name.now) c.self.view_is)
    c.lone-only.result c.lone-only.ensures
    ∙ ap (option_and_then (λ n. option_map (an_enumerator n) (value_of s n c.args.name.now))) c.in-Some.is
    ∙ ap (option_map (an_enumerator c.in-Some.n)) (sym (c.in-None-value_of.ensures s holds))

pub returns-in-None : goal.returns-in-None
returns-in-None c = λ s holds.
    enumerator_is c.args.self.now s c.args.name.now holds c.number_of.result c.number_of-2.result
    (c.number_of.ensures ∙ c.self.invariant.first_are c.args.name.now ∙ ap (λ (t : Told). first_having 0 t.names.parts c.args.name.now) c.self.view_is)
    (c.number_of-2.ensures ∙ c.self.invariant.last_are c.args.name.now ∙ ap (λ (t : Told). last_having None 0 t.names.parts c.args.name.now) c.self.view_is)
    c.lone-only.result c.lone-only.ensures
    ∙ ap (option_and_then (λ n. option_map (an_enumerator n) (value_of s n c.args.name.now))) c.in-None.is
