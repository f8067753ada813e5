use Rattle.std.proofs.Common.{◌≡◌, Option, Some, None, subst, ap, ◌∙◌}
use Rattle.std.specs.Prelude.{MatchOption}
use Rattle.st_rules.specs.declared.names.DeclaredVariable.{DeclaredVariable}
use Rattle.name_resolution.specs.Tables.{Told}
use Rattle.name_resolution.specs.declared.places.Which.TheVariants.{All}
use Rattle.name_resolution.specs.Private.Places.{passes}
use Rattle.name_resolution.specs.Private.Climb.{own}
use Rattle.name_resolution.proofs.TableLaws.{own_here}
use Rattle.name_resolution.proofs.tables.NameTables.own_variable.Goals as goal

pub returns : goal.returns
returns c = λ s holds. (
    let f = rw (c.deref.ensures.value, c.as_slice.ensures) at (c.own_variable.ensures (passes All)) in
    subst
    (λ (o : Option DeclaredVariable). MatchOption c.own_variable.result (o ≡ None) (λ v. o ≡ Some v.now))
    (ap (λ (t : Told). own (passes All) t.names.classes c.args.name.now c.args.class) c.self.view_is ∙ own_here c.args.self.now s holds c.args.name.now c.args.class)
    (f c.self.invariant.all_are)
    )
