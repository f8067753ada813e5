use Rattle.std.proofs.Common.{◌≡◌, ℕ, ◌+◌, Option, Some, None, subst, ap, ◌∙◌, length}
use Rattle.std.specs.Prelude.{MatchOption}
use Rattle.st_rules.specs.declared.names.DeclaredVariable.{DeclaredVariable}
use Rattle.name_resolution.specs.Tables.{Told}
use Rattle.name_resolution.specs.declared.places.Which.TheVariants.{OfInstance}
use Rattle.name_resolution.specs.Private.Places.{passes}
use Rattle.st_rules.specs.Upward.{upward, base_in}
use Rattle.name_resolution.specs.Private.Climb.{own_with_class}
use Rattle.name_resolution.proofs.TableLaws.{of_instance}
use Rattle.name_resolution.proofs.tables.NameTables.instance_variable.Goals as goal

pub returns : goal.returns
returns c = λ s holds. (
    let e = of_instance c.args.self.now s holds c.args.name.now c.args.class in
    let f = rw (c.deref.ensures.value, c.deref-2.ensures.value, c.as_slice.ensures) at (c.nearest_variable.ensures (passes OfInstance)) in
    subst
    (λ (o : Option (ℕ × DeclaredVariable)). MatchOption c.nearest_variable.result (o ≡ None) (λ x. o ≡ Some (x.0, x.1.now)))
    (ap (λ (t : Told). upward (own_with_class (passes OfInstance) t.names.classes c.args.name.now) (base_in t.bases) (length t.bases + 1) c.args.class) c.self.view_is ∙ e)
    (f c.self.invariant.of_instance_are)
    )
