-- What a unit says of its names, by the tables of all that can be told.
use Rattle.std.specs.Prelude.{◌≡◌, ℕ, suc, ◌+◌, Bool, List, [], ◌∷◌, ◌++◌, map, length, Option, Some, slice_get}
use Rattle.st_types.specs.declared.st_type.StType.{StType}
use Rattle.st_tree.specs.declared.declaration.ClassDecl.{ClassDecl}
use Rattle.st_tree.specs.declared.declaration.FieldGroup.{FieldGroup}
use Rattle.st_tree.specs.declared.name.Name.{Name}
use Rattle.st_tree.specs.declared.unit.Decl.{Decl}
use Rattle.st_tree.specs.declared.unit.Decl.TheVariants as declaration
use Rattle.st_rules.specs.declared.names.DeclaredField.{DeclaredField}
use Rattle.st_rules.specs.declared.names.DeclaredNames.{DeclaredNames}
use Rattle.st_rules.specs.declared.names.DeclaredVariable.{DeclaredVariable}
use Rattle.st_rules.specs.declared.names.DeclaredClass.{DeclaredClass}
use Rattle.st_rules.specs.Classes.{classes_in}
use Rattle.st_rules.specs.Numbered.{each_numbered}
use Rattle.st_rules.specs.Scope.{Scope}
use Rattle.name_resolution.specs.Tables.{Knows}
use Rattle.st_unit_rules.specs.declared_names.WrittenTypes.{type_written}
use Rattle.st_unit_rules.specs.declared_names.UnitNames.{unit_scope, class_declared}
use Rattle.type_resolution.specs.told_locals.Around.{scope_around}
use Rattle.type_resolution.specs.declared.told_locals.around.Around.{Around}
use Rattle.symbol_table.specs.declared.unit_names.known.Known.{Known}

abbrev pub decls_of : Known → List (Decl ℕ)
decls_of k = k.classes.now.decls

abbrev pub names_of : Known → DeclaredNames
names_of k = k.names.now.names

-- of a class or of none, of a method or not
abbrev pub scope_in : Known → Option ℕ → Bool → Scope
scope_in k c m = record (unit_scope (decls_of k) (names_of k)) { class = c; in_method = m }

-- of a routine with its locals
abbrev pub within : Around → List DeclaredVariable → Scope
within a vs = record (scope_around a) { locals = vs }

-- the tables know the unit
pub record IsKnown (k : Known) : Type 0 where
  pub knows : Knows k.names.now (classes_in k.classes.now.decls)
  pub same : k.interfaces.now ≡ k.classes.now

abbrev pub field_of : Option StType → Name → DeclaredField
field_of kind n = record { name = n.text; kind = kind }

abbrev pub group_in : Scope → FieldGroup ℕ → List DeclaredField
group_in s g = map (field_of (type_written s g.kind)) g.names

abbrev pub classes_from : Known → ℕ → List (ClassDecl ℕ) → List DeclaredClass
classes_from k n ds = each_numbered (λ c d. class_declared (decls_of k) (names_of k) c d ∷ []) n ds

-- where the declaration is a class, it is the class of this number
pub record IsClassAt (decls : List (Decl ℕ)) (n : ℕ) (d : Decl ℕ) : Type 0 where
  pub there : (c : ClassDecl ℕ) → d ≡ declaration.Class c → slice_get (classes_in decls) n ≡ Some c

-- the class that the declaration is was added, where it is one; the next class has the number behind it
pub record AddsClass (k : Known) (first after : ℕ) (d : Decl ℕ) (old new : List DeclaredClass) : Type 0 where
  pub classes : new ≡ old ++ classes_from k first (classes_in (d ∷ []))
  pub number : after ≡ first + length (classes_in (d ∷ []))
