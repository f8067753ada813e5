-- The constants among locals, told one by one.
use Rattle.std.specs.Prelude.{ℕ, suc, ℤ, Bool, ◌&&◌, not, if◌then◌else◌, List, [], ◌∷◌, Option, Some, None}
use Rattle.st_types.specs.declared.st_type.StType.{StType}
use Rattle.st_tree.specs.declared.program.Target.TheVariants as target
use Rattle.st_rules.specs.declared.names.DeclaredVariable.{DeclaredVariable}
use Rattle.st_rules.specs.Scope.{Scope}
use Rattle.st_unit_rules.specs.declared_names.Constants.{is_told}
use Rattle.st_unit_rules.specs.declared.declaration_list.written.WrittenName.{WrittenName}
use Rattle.resolution_order.specs.told_laws.LocalLaws.{with_local, SoundLocals}
use Rattle.type_resolution.specs.declared.told_locals.around.Around.{Around}
use Rattle.type_resolution.specs.declared.told_locals.around.Declaring.{Declaring}
use Rattle.type_resolution.specs.declared.told_locals.around.Declaring.TheVariants as code
use Rattle.type_resolution.specs.declared.told_locals.telling.Told.{Told}
use Rattle.type_resolution.specs.told_locals.Around.{scope_around, all_told}
use Rattle.name_resolution.specs.Locals.{ArePlaces}

-- the scope with these locals
abbrev pub scope_with : Around → List DeclaredVariable → Scope
scope_with a vs = record (scope_around a) { locals = vs }

abbrev pub one_where : {X : Type 0} → Option X → ℕ
one_where None = 0
one_where (Some x) = 1

-- how many locals stand before those of the sections
abbrev pub first_of : Declaring → ℕ
first_of (code.Routine name of sections) = one_where of.now
first_of (code.Program sections) = 0

-- all that is told is so in the end, and the table knows the names
pub record IsTold (a : Around) (d : Declaring) (t : Told) : Type 0 where
  pub sound : SoundLocals t.known (all_told d (scope_around a))
  pub places : ArePlaces t.places t.known

-- this is told of local n and those behind it, as long as their names belong to the item of the one before
abbrev pub told_behind : List DeclaredVariable → ℕ → List WrittenName → StType → ℤ → List DeclaredVariable
told_behind vs n [] k z = vs
told_behind vs n (w ∷ ws) k z = if w.first then vs else told_behind (with_local vs n k (target.Constant z)) (suc n) ws k z

-- the value of a constant is told in the second alone
abbrev pub is_left : DeclaredVariable → DeclaredVariable → Bool
is_left v w = w.constant && is_told w.target && not (is_told v.target)
