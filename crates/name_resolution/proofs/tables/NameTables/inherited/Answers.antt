use Rattle.std.proofs.Common.{◌≡◌, ℕ, ◌+◌, Option, Some, None, subst, ap, ◌∙◌, length}
use Rattle.std.specs.Prelude.{MatchOption, option_map}
use Rattle.st_rules.specs.declared.names.DeclaredVariable.{DeclaredVariable}
use Rattle.name_resolution.specs.Tables.{Told}
use Rattle.name_resolution.specs.declared.places.Which.TheVariants.{Inherited}
use Rattle.name_resolution.specs.Private.Places.{passes}
use Rattle.st_rules.specs.Upward.{upward, base_in}
use Rattle.name_resolution.specs.Private.Climb.{own_with_class}
use Rattle.name_resolution.proofs.TableLaws.{some_class, from_bases, with_class}
use Rattle.name_resolution.proofs.tables.NameTables.inherited.Goals as goal

pub returns : goal.returns
returns c = λ s holds. (
    let f = rw (c.deref.ensures.value, c.deref-2.ensures.value, c.as_slice.ensures) at (c.nearest_variable.ensures (passes Inherited)) in
    subst
    (λ (o : Option (Option ℕ × DeclaredVariable)). MatchOption c.nearest_variable.result (o ≡ None) (λ x. o ≡ Some (Some x.0, x.1.now)))
    (ap (λ (t : Told). option_map some_class (upward (own_with_class (passes Inherited) t.names.classes c.args.name.now) (base_in t.bases) (length t.bases + 1) c.args.class)) c.self.view_is
    ∙ from_bases c.args.self.now s holds c.args.name.now c.args.class)
    (with_class _ c.nearest_variable.result (f c.self.invariant.inherited_are))
    )
