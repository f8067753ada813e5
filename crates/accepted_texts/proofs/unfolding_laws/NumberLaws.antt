-- In types that a unit tells, the numbers are those of declarations of their sort.
use Rattle.std.proofs.Common.{◌≡◌, ℕ, zero, suc, ◌+◌, ℤ, Bool, true, false, List, [], ◌∷◌, ◌++◌, map, length, Option, Some, None, refl, sym, subst}
use Rattle.std.specs.Prelude.{int_le, nat_lt, if◌then◌else◌, option_and_then, slice_get}
use Rattle.plc_text.specs.Words.{same}
use Rattle.st_types.specs.declared.st_type.StType.{StType, out-StType}
use Rattle.st_types.specs.declared.st_type.StType.TheVariants as type
use Rattle.st_types.specs.declared.st_type.StType.TheOpen.{StType-F}
use Rattle.st_tree.specs.declared.declaration.ClassDecl.{ClassDecl}
use Rattle.st_tree.specs.declared.declaration.FieldGroup.{FieldGroup}
use Rattle.st_tree.specs.declared.declaration.InterfaceDecl.{InterfaceDecl}
use Rattle.st_tree.specs.declared.declaration.TypeBody.{TypeBody}
use Rattle.st_tree.specs.declared.declaration.TypeBody.TheVariants as body
use Rattle.st_tree.specs.declared.declaration.TypeDecl.{TypeDecl}
use Rattle.st_tree.specs.declared.name.Name.{Name}
use Rattle.st_tree.specs.declared.type_spec.Bounds.{Bounds}
use Rattle.st_tree.specs.declared.type_spec.SimpleSpec.{SimpleSpec}
use Rattle.st_tree.specs.declared.type_spec.SimpleSpec.TheVariants as spec
use Rattle.st_tree.specs.declared.type_spec.TypeSpec.{TypeSpec}
use Rattle.st_tree.specs.declared.unit.Decl.{Decl}
use Rattle.st_tree.specs.declared.unit.Decl.TheVariants as declaration
use Rattle.st_tree.specs.Expression.{expression_of}
use Rattle.st_rules.specs.declared.names.DeclaredNames.{DeclaredNames}
use Rattle.st_rules.specs.declared.names.DeclaredType.{DeclaredType}
use Rattle.st_rules.specs.Classes.{classes_in}
use Rattle.st_rules.specs.Expressions.{reference_to}
use Rattle.st_rules.specs.Interfaces.{interfaces_in}
use Rattle.st_rules.specs.Scope.{Scope, type_named}
use Rattle.st_unit_rules.specs.declared_names.Declarations.{entries_in}
use Rattle.st_unit_rules.specs.declared_names.UnitNames.{forgotten_type, unit_scope, entry_kind, entries_declared, types_declared, names_from, no_names, names_told, steps_needed, unit_names}
use Rattle.st_unit_rules.specs.declared_names.WrittenTypes.{array_depth, dimensions_told, array_of, dimensions, named_type, bound_value, element_written, arrays_of, type_written}
use Rattle.resolution_order.specs.told_laws.ToldLaws.{Every}
use Rattle.accepted_texts.proofs.unfolding_laws.ListLaws.{every_append, There, Behind, all_behind, behind_here, behind_next, behind_part}

module _ (decls : List (Decl ℕ)) where
  pub record IsStructure (n : ℕ) : Type 0 where
    pub entry : TypeDecl ℕ
    pub groups : List (FieldGroup ℕ)
    pub there : slice_get (entries_in decls) n ≡ Some entry
    pub is : entry.body ≡ body.Structure groups

  pub record IsEnumeration (n : ℕ) : Type 0 where
    pub entry : TypeDecl ℕ
    pub values : List Name
    pub there : slice_get (entries_in decls) n ≡ Some entry
    pub is : entry.body ≡ body.Enumeration values

  abbrev pub IsClass : ℕ → Type 0
  IsClass c = There (ClassDecl ℕ) (classes_in decls) c

  abbrev pub IsInterface : ℕ → Type 0
  IsInterface i = There (InterfaceDecl ℕ) (interfaces_in decls) i

  abbrev pub NumberedBy : (StType → Type 0) → StType-F StType → Type 0
  NumberedBy f (StType-F.Elementary e) = Unit {0}
  NumberedBy f (StType-F.Enumeration n) = IsEnumeration n
  NumberedBy f (StType-F.Structure n) = IsStructure n
  NumberedBy f (StType-F.Array low high of) = f of
  NumberedBy f (StType-F.Instance c) = IsClass c
  NumberedBy f (StType-F.Reference c) = IsClass c
  NumberedBy f (StType-F.Interface i) = IsInterface i

  -- within so many arrays
  abbrev pub NumberedWithin : ℕ → StType → Type 0
  NumberedWithin zero t = Unit {0}
  NumberedWithin (suc n) t = NumberedBy (NumberedWithin n) (out-StType t)

  pub record Numbered (t : StType) : Type 0 where
    pub within : (n : ℕ) → NumberedWithin n t

  abbrev pub ToldNumbered : Option StType → Type 0
  ToldNumbered None = Unit {0}
  ToldNumbered (Some t) = Numbered t

  abbrev pub TypesNumbered : List DeclaredType → Type 0
  TypesNumbered ts = Every (λ (d : DeclaredType). ToldNumbered d.kind) ts

  -- ---- types by their outside

  pub opened : (t : StType) (o : StType-F StType) (n : ℕ) → out-StType t ≡ o → Numbered t → NumberedBy (NumberedWithin n) o
  opened t o n e h = subst (NumberedBy (NumberedWithin n)) e (h.within (suc n))

  -- a type whose number is said at once
  numbered : (t : StType) (o : StType-F StType) → out-StType t ≡ o → ((f : StType → Type 0) → NumberedBy f o) → Numbered t
  numbered t o e h = record { within = by }
    where
      by : (n : ℕ) → NumberedWithin n t
      by zero = tt
      by (suc n) = subst (NumberedBy (NumberedWithin n)) (sym e) (h (NumberedWithin n))

  numbered_array : (low high : ℤ) (t : StType) → Numbered t → Numbered (type.Array low high t)
  numbered_array low high t h = record { within = by }
    where
      by : (n : ℕ) → NumberedWithin n (type.Array low high t)
      by zero = tt
      by (suc n) = subst (NumberedBy (NumberedWithin n)) (sym (type.outs-Array low high t)) (h.within n)

  -- the element of an array
  pub element_numbered : (t of : StType) (low high : ℤ) → out-StType t ≡ StType-F.Array low high of → Numbered t → Numbered of
  element_numbered t of low high e h = record { within = λ n. opened t (StType-F.Array low high of) n e h }

  -- ---- types as they are written

  named_numbered : (name : List ℕ) (ts : List DeclaredType) → TypesNumbered ts → ToldNumbered (option_and_then (λ (d : DeclaredType). d.kind) (type_named name ts))
  named_numbered name [] h = tt
  named_numbered name (t ∷ ts) h = by (named_numbered name ts h.1) (same t.name name)
    where
      by : ToldNumbered (option_and_then (λ (d : DeclaredType). d.kind) (type_named name ts)) → (b : Bool) → ToldNumbered (option_and_then (λ (d : DeclaredType). d.kind) (if b then Some t else type_named name ts))
      by k true = h.0
      by k false = k

  reference_numbered : (o : Option StType) → ToldNumbered o → ToldNumbered (option_and_then reference_to o)
  reference_numbered None h = tt
  reference_numbered (Some (type.Instance c)) h = numbered (type.Reference c) (StType-F.Reference c) (type.outs-Reference c) (λ f. opened (type.Instance c) (StType-F.Instance c) zero (type.outs-Instance c) h)
  reference_numbered (Some _) h = tt

  array_numbered : (low high : Option ℤ) (o : Option StType) → ToldNumbered o → ToldNumbered (array_of low high o)
  array_numbered (Some low) (Some high) (Some t) h = by (int_le low high) (nat_lt (array_depth t) dimensions_told)
    where
      by : (a b : Bool) → ToldNumbered (if a then Some (if b then type.Array low high t else t) else None)
      by true true = numbered_array low high t h
      by true false = h
      by false b = tt
  array_numbered (Some low) (Some high) None h = tt
  array_numbered (Some low) None o h = tt
  array_numbered None high o h = tt

  arrays_numbered : (s : Scope) (bs : List (Bounds ℕ)) (o : Option StType) → ToldNumbered o → ToldNumbered (arrays_of s bs o)
  arrays_numbered s [] o h = h
  arrays_numbered s (b ∷ bs) o h = array_numbered (bound_value s (expression_of b.low)) (bound_value s (expression_of b.high)) (arrays_of s bs o) (arrays_numbered s bs o h)

  simple_numbered : (s : Scope) (x : SimpleSpec ℕ) → TypesNumbered s.names.types → ToldNumbered (element_written s x)
  simple_numbered s (spec.Elementary l e) h = numbered (type.Elementary e) (StType-F.Elementary e) (type.outs-Elementary e) (λ f. tt)
  simple_numbered s (spec.Named l name) h = named_numbered name s.names.types h
  simple_numbered s (spec.Reference l k name) h = reference_numbered (named_type s name) (named_numbered name s.names.types h)

  pub written_numbered : (s : Scope) (t : TypeSpec ℕ) → TypesNumbered s.names.types → ToldNumbered (type_written s t)
  unfolding type_written
  written_numbered s t h = arrays_numbered s (dimensions t) (element_written s t.element) (simple_numbered s t.element h)

  -- ---- the types of a unit

  module _ (a : DeclaredNames) (h : TypesNumbered a.types) where
    entry_numbered : (n : ℕ) (t : TypeDecl ℕ) (b : TypeBody ℕ) → slice_get (entries_in decls) n ≡ Some t → t.body ≡ b → ToldNumbered (entry_kind decls a n b)
    entry_numbered n t (body.Alias u) e q = written_numbered (unit_scope decls a) u h
    entry_numbered n t (body.Enumeration ns) e q = numbered (type.Enumeration n) (StType-F.Enumeration n) (type.outs-Enumeration n) (λ f. record { entry = t; values = ns; there = e; is = q })
    entry_numbered n t (body.Structure gs) e q = numbered (type.Structure n) (StType-F.Structure n) (type.outs-Structure n) (λ f. record { entry = t; groups = gs; there = e; is = q })

    entries_numbered : (n : ℕ) (ts rest : List (TypeDecl ℕ)) → Behind (TypeDecl ℕ) (entries_in decls) (ts ++ rest) n → TypesNumbered (entries_declared decls a n ts)
    entries_numbered n [] rest w = tt
    entries_numbered n (t ∷ ts) rest w = (
      entry_numbered n t t.body (behind_here (entries_in decls) (ts ++ rest) n t w) refl,
      entries_numbered (suc n) ts rest (behind_next (entries_in decls) (ts ++ rest) n t w),
    )

    types_numbered : (n c i : ℕ) (ds : List (Decl ℕ)) → Behind (TypeDecl ℕ) (entries_in decls) (entries_in ds) n → Behind (ClassDecl ℕ) (classes_in decls) (classes_in ds) c → Behind (InterfaceDecl ℕ) (interfaces_in decls) (interfaces_in ds) i
        → TypesNumbered (types_declared decls a n c i ds)
    types_numbered n c i [] w x y = tt
    types_numbered n c i (declaration.Types l ts ∷ ds) w x y =
        every_append (λ (d : DeclaredType). ToldNumbered d.kind) (entries_declared decls a n ts) (types_declared decls a (n + length ts) c i ds) (entries_numbered n ts (entries_in ds) w)
        (types_numbered (n + length ts) c i ds (behind_part (entries_in decls) ts (entries_in ds) n w) x y)
    types_numbered n c i (declaration.Class d ∷ ds) w x y = (
      numbered (type.Instance c) (StType-F.Instance c) (type.outs-Instance c) (λ f. record { item = d; there = behind_here (classes_in decls) (classes_in ds) c d x }),
      types_numbered n (suc c) i ds w (behind_next (classes_in decls) (classes_in ds) c d x) y,
    )
    types_numbered n c i (declaration.Interface d ∷ ds) w x y = (
      numbered (type.Interface i) (StType-F.Interface i) (type.outs-Interface i) (λ f. record { item = d; there = behind_here (interfaces_in decls) (interfaces_in ds) i d y }),
      types_numbered n c (suc i) ds w x (behind_next (interfaces_in decls) (interfaces_in ds) i d y),
    )
    types_numbered n c i (declaration.Globals s ∷ ds) w x y = types_numbered n c i ds w x y
    types_numbered n c i (declaration.Function f ∷ ds) w x y = types_numbered n c i ds w x y
    types_numbered n c i (declaration.Program q ∷ ds) w x y = types_numbered n c i ds w x y
    types_numbered n c i (declaration.Configuration q ∷ ds) w x y = types_numbered n c i ds w x y

  forgotten_numbered : (ts : List DeclaredType) → TypesNumbered (map forgotten_type ts)
  forgotten_numbered [] = tt
  forgotten_numbered (t ∷ ts) = (tt, forgotten_numbered ts)

  told_numbered : (k : ℕ) → TypesNumbered (names_told decls k).types
  unfolding names_from
  told_numbered zero = forgotten_numbered (names_from decls (no_names decls)).types
  told_numbered (suc k) = types_numbered (names_told decls k) (told_numbered k) 0 0 0 decls (all_behind (entries_in decls)) (all_behind (classes_in decls)) (all_behind (interfaces_in decls))

  pub unit_numbered : TypesNumbered (unit_names decls).types
  unfolding unit_names
  unit_numbered = told_numbered (suc (suc (steps_needed decls)))
