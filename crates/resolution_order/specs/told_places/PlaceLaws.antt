-- Types and constants told one by one, by the places at which they are declared.
use Rattle.std.specs.Prelude.{◌≡◌, ℕ, ◌+◌, ℤ, Bool, true, false, List, filter, take, length, Option, Some, None, option_and_then, slice_get}
use Rattle.std.specs.Option.{is_some}
use Rattle.st_types.specs.declared.st_type.StType.{StType}
use Rattle.st_types.specs.declared.st_type.StType.TheVariants as type
use Rattle.st_tree.specs.declared.declaration.ClassDecl.{ClassDecl}
use Rattle.st_tree.specs.declared.declaration.InterfaceDecl.{InterfaceDecl}
use Rattle.st_tree.specs.declared.declaration.Section.{Section}
use Rattle.st_tree.specs.declared.declaration.TypeBody.{TypeBody}
use Rattle.st_tree.specs.declared.declaration.TypeBody.TheVariants as body
use Rattle.st_tree.specs.declared.declaration.TypeDecl.{TypeDecl}
use Rattle.st_tree.specs.declared.program.Target.TheVariants as target
use Rattle.st_tree.specs.declared.type_spec.TypeSpec.{TypeSpec}
use Rattle.st_tree.specs.declared.unit.Decl.{Decl}
use Rattle.st_rules.specs.declared.names.DeclaredVariable.{DeclaredVariable}
use Rattle.st_rules.specs.declared.names.DeclaredClass.{DeclaredClass}
use Rattle.st_rules.specs.declared.names.DeclaredType.{DeclaredType}
use Rattle.st_rules.specs.declared.names.DeclaredGlobal.{DeclaredGlobal}
use Rattle.st_rules.specs.declared.names.DeclaredGlobal.TheVariants as global
use Rattle.st_rules.specs.declared.names.DeclaredNames.{DeclaredNames}
use Rattle.st_rules.specs.Scope.{Scope}
use Rattle.st_unit_rules.specs.declared_names.Constants.{is_told}
use Rattle.st_unit_rules.specs.declared_names.WrittenTypes.{type_written}
use Rattle.st_unit_rules.specs.declared_names.Variables.{Written, sections_written, sections_in, constant_of, members_declared, result_count, routine_locals}
use Rattle.st_unit_rules.specs.declared_names.Declarations.{Global, Declaration, an_entry, a_global, an_interface, a_class, a_function, declarations, is_entry, is_class, is_interface}
use Rattle.st_unit_rules.specs.declared_names.UnitNames.{unit_scope, class_scope, entry_kind, locals_of, program_locals, names_from, unit_names}
use Rattle.st_rules.specs.Telling.{with_type, with_global, with_member}
use Rattle.resolution_order.specs.told_laws.TellingLaws.{Sound}
use Rattle.resolution_order.specs.told_laws.LocalLaws.{with_local, SoundLocals}

-- ---- places

abbrev pub is_type : Declaration → Bool
is_type (an_entry t) = true
is_type (an_interface i) = true
is_type (a_class c) = true
is_type _ = false

abbrev pub is_global_or_function : Declaration → Bool
is_global_or_function (a_global g) = true
is_global_or_function (a_function f) = true
is_global_or_function _ = false

-- how many that pass stand before the place
abbrev pub number_before : (Declaration → Bool) → List Declaration → ℕ → ℕ
number_before test ds place = length (filter test (take place ds))

-- ---- what is told

abbrev pub has_type : List DeclaredType → ℕ → Bool
has_type ts p = is_some (option_and_then (λ t. t.kind) (slice_get ts p))

abbrev pub is_value : Option DeclaredVariable → Bool
is_value None = false
is_value (Some v) = is_told v.target

abbrev pub is_global_value : Option DeclaredGlobal → Bool
is_global_value (Some (global.Variable v)) = is_told v.target
is_global_value _ = false

abbrev pub member_in : Option DeclaredClass → ℕ → Option DeclaredVariable
member_in None i = None
member_in (Some c) i = slice_get c.variables i

-- of each constant that can be told the value is told, where `told` says so of the place
abbrev pub AllValues : (Scope) → List Written → (ℕ → Bool) → Type 0
AllValues s ws told = (i : ℕ) (w : Written) → slice_get ws i ≡ Some w → w.constant ≡ true → is_some (constant_of s w) ≡ true → told i ≡ true

module _ (decls : List (Decl ℕ)) (a : DeclaredNames) where
  abbrev pub entry_can_be_told : TypeBody ℕ → Bool
  entry_can_be_told (body.Alias t) = is_some (type_written (unit_scope decls a) t)
  entry_can_be_told _ = true

  -- what can be told of the declaration at the place from what is told so far is told
  abbrev pub Done : ℕ → Declaration → Type 0
  Done place (an_entry t) = entry_can_be_told t.body ≡ true → has_type a.types (number_before is_type (declarations decls) place) ≡ true
  Done place (an_interface i) = has_type a.types (number_before is_type (declarations decls) place) ≡ true
  Done place (a_class d) =
      (has_type a.types (number_before is_type (declarations decls) place) ≡ true)
      × AllValues (class_scope decls a (number_before is_class (declarations decls) place)) (sections_written (sections_in d.members))
      (λ i. is_value (member_in (slice_get a.classes (number_before is_class (declarations decls) place)) i))
  Done place (a_global g) =
      (g.written).constant ≡ true → is_some (constant_of (unit_scope decls a) g.written) ≡ true
      → is_global_value (slice_get a.globals (number_before is_global_or_function (declarations decls) place)) ≡ true
  Done place _ = Unit {0}

-- ---- the laws

pub record PlaceLaws : Type 0 where
  -- what can be told of a declaration from what is told so far may be told
  pub entry : (decls : List (Decl ℕ)) (a : DeclaredNames) (place : ℕ) (t : TypeDecl ℕ) (k : StType) → Sound decls a
      → slice_get (declarations decls) place ≡ Some (an_entry t) → entry_kind decls a (number_before is_entry (declarations decls) place) t.body ≡ Some k
      → Sound decls (with_type a (number_before is_type (declarations decls) place) k)
  pub class : (decls : List (Decl ℕ)) (a : DeclaredNames) (place : ℕ) (d : ClassDecl ℕ) → Sound decls a
      → slice_get (declarations decls) place ≡ Some (a_class d)
      → Sound decls (with_type a (number_before is_type (declarations decls) place) (type.Instance (number_before is_class (declarations decls) place)))
  pub interface : (decls : List (Decl ℕ)) (a : DeclaredNames) (place : ℕ) (d : InterfaceDecl ℕ) → Sound decls a
      → slice_get (declarations decls) place ≡ Some (an_interface d)
      → Sound decls (with_type a (number_before is_type (declarations decls) place) (type.Interface (number_before is_interface (declarations decls) place)))
  pub value : (decls : List (Decl ℕ)) (a : DeclaredNames) (place : ℕ) (g : Global) (k : StType) (z : ℤ) → Sound decls a
      → slice_get (declarations decls) place ≡ Some (a_global g) → (g.written).constant ≡ true
      → type_written (unit_scope decls a) (g.written).item.kind ≡ Some k → constant_of (unit_scope decls a) g.written ≡ Some z
      → Sound decls (with_global a (number_before is_global_or_function (declarations decls) place) k (target.Constant z))
  pub member : (decls : List (Decl ℕ)) (a : DeclaredNames) (place i : ℕ) (d : ClassDecl ℕ) (w : Written) (k : StType) (z : ℤ) → Sound decls a
      → slice_get (declarations decls) place ≡ Some (a_class d) → slice_get (sections_written (sections_in d.members)) i ≡ Some w → w.constant ≡ true
      → type_written (class_scope decls a (number_before is_class (declarations decls) place)) w.item.kind ≡ Some k
      → constant_of (class_scope decls a (number_before is_class (declarations decls) place)) w ≡ Some z
      → Sound decls (with_member a (number_before is_class (declarations decls) place) i k (target.Constant z))
  -- where of no declaration more can be told, all is told
  pub ended : (decls : List (Decl ℕ)) (a : DeclaredNames) → Sound decls a
      → ((place : ℕ) (d : Declaration) → slice_get (declarations decls) place ≡ Some d → Done decls a place d)
      → names_from decls a ≡ unit_names decls

-- the constants of a routine and of a program, by their places among what its sections declare
pub record LocalPlaceLaws : Type 0 where
  pub routine_next : (s : Scope) (name : List ℕ) (result : Option (TypeSpec ℕ)) (sections : List (Section ℕ)) (vs : List DeclaredVariable) (i : ℕ) (w : Written) (k : StType) (z : ℤ)
      → SoundLocals vs (locals_of s name result sections) → slice_get (sections_written sections) i ≡ Some w → w.constant ≡ true
      → type_written (record s { locals = vs }) w.item.kind ≡ Some k → constant_of (record s { locals = vs }) w ≡ Some z
      → SoundLocals (with_local vs (result_count s result + i) k (target.Constant z)) (locals_of s name result sections)
  pub routine_ended : (s : Scope) (name : List ℕ) (result : Option (TypeSpec ℕ)) (sections : List (Section ℕ)) (vs : List DeclaredVariable)
      → SoundLocals vs (locals_of s name result sections) → AllValues (record s { locals = vs }) (sections_written sections) (λ i. is_value (slice_get vs (result_count s result + i)))
      → routine_locals (record s { locals = vs }) name result sections ≡ locals_of s name result sections
  pub program_next : (s : Scope) (sections : List (Section ℕ)) (vs : List DeclaredVariable) (i : ℕ) (w : Written) (k : StType) (z : ℤ)
      → SoundLocals vs (program_locals s sections) → slice_get (sections_written sections) i ≡ Some w → w.constant ≡ true
      → type_written (record s { locals = vs }) w.item.kind ≡ Some k → constant_of (record s { locals = vs }) w ≡ Some z
      → SoundLocals (with_local vs i k (target.Constant z)) (program_locals s sections)
  pub program_ended : (s : Scope) (sections : List (Section ℕ)) (vs : List DeclaredVariable)
      → SoundLocals vs (program_locals s sections) → AllValues (record s { locals = vs }) (sections_written sections) (λ i. is_value (slice_get vs i))
      → members_declared (record s { locals = vs }) 0 0 sections ≡ program_locals s sections
