-- Tables of the names of locals.
use Rattle.std.specs.Prelude.{true, List}
use Rattle.st_rules.specs.declared.names.DeclaredVariable.{DeclaredVariable}
use Rattle.name_resolution.specs.Private.Places.{Table, IsTableOf}

-- the table tells where the first local of each name stands
abbrev pub ArePlaces : Table → List DeclaredVariable → Type 0
ArePlaces table locals = IsTableOf (λ v. v.name) (λ v. true) table locals
