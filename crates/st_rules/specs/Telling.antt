-- One more is told of the names of a unit: the type of an entry of TYPE, a class or an interface; the type and value of a constant.
use Rattle.std.specs.Prelude.{ℕ, zero, suc, List, [], ◌∷◌, Some}
use Rattle.st_types.specs.declared.st_type.StType.{StType}
use Rattle.st_tree.specs.declared.program.Target.{Target}
use Rattle.st_rules.specs.declared.names.DeclaredVariable.{DeclaredVariable}
use Rattle.st_rules.specs.declared.names.DeclaredClass.{DeclaredClass}
use Rattle.st_rules.specs.declared.names.DeclaredType.{DeclaredType}
use Rattle.st_rules.specs.declared.names.DeclaredGlobal.{DeclaredGlobal}
use Rattle.st_rules.specs.declared.names.DeclaredGlobal.TheVariants as global
use Rattle.st_rules.specs.declared.names.DeclaredNames.{DeclaredNames}

-- the item at the place is changed, where there is one
abbrev pub changed_at : {X : Type 0} → (X → X) → ℕ → List X → List X
changed_at f n [] = []
changed_at f zero (x ∷ xs) = f x ∷ xs
changed_at f (suc n) (x ∷ xs) = x ∷ changed_at f n xs

abbrev pub type_told : StType → DeclaredType → DeclaredType
type_told t d = record d { kind = Some t }

abbrev pub variable_told : StType → Target → DeclaredVariable → DeclaredVariable
variable_told t meant v = record v { kind = Some t; target = meant }

abbrev pub global_told : StType → Target → DeclaredGlobal → DeclaredGlobal
global_told t meant (global.Variable v) = global.Variable (variable_told t meant v)
global_told t meant (global.Function k r) = global.Function k r

abbrev pub member_told : ℕ → StType → Target → DeclaredClass → DeclaredClass
member_told i t meant c = record c { variables = changed_at (variable_told t meant) i c.variables }

-- the entry of TYPE, the class or the interface at the place has this type
abbrev pub with_type : DeclaredNames → ℕ → StType → DeclaredNames
with_type a i t = record a { types = changed_at (type_told t) i a.types }

-- the global at the place has this type and means this
abbrev pub with_global : DeclaredNames → ℕ → StType → Target → DeclaredNames
with_global a i t meant = record a { globals = changed_at (global_told t meant) i a.globals }

-- the same of the variable at the second place of the class at the first
abbrev pub with_member : DeclaredNames → ℕ → ℕ → StType → Target → DeclaredNames
with_member a c i t meant = record a { classes = changed_at (member_told i t meant) c a.classes }
