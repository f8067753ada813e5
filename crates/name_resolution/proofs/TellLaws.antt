-- What is told changes no name: the tables find what they found.
use Rattle.std.proofs.Common.{◌≡◌, ℕ, zero, suc, ◌+◌, Bool, true, List, [], ◌∷◌, Option, Some, None, refl, sym, ap, ◌∙◌}
use Rattle.std.specs.Prelude.{◌&&◌, if◌then◌else◌, slice_get, slice_set}
use Rattle.plc_text.specs.Words.{same}
use Rattle.st_types.specs.declared.st_type.StType.{StType}
use Rattle.st_tree.specs.declared.program.Target.{Target}
use Rattle.st_rules.specs.declared.names.DeclaredVariable.{DeclaredVariable}
use Rattle.st_rules.specs.declared.names.DeclaredClass.{DeclaredClass}
use Rattle.st_rules.specs.declared.names.DeclaredGlobal.{DeclaredGlobal}
use Rattle.st_rules.specs.declared.names.DeclaredGlobal.TheVariants as global
use Rattle.st_rules.specs.declared.names.DeclaredNames.{DeclaredNames}
use Rattle.st_rules.specs.Scope.{global_name}
use Rattle.st_rules.specs.Telling.{changed_at, type_told, variable_told, global_told, member_told, with_type, with_global, with_member}
use Rattle.name_resolution.specs.declared.places.Which.{Which}
use Rattle.name_resolution.specs.declared.places.Which.TheVariants.{All, Inherited, OfInstance}
use Rattle.name_resolution.specs.Private.Places.{Table, first_from, IsTableOf, AreTables, passes, is_variable}
use Rattle.name_resolution.specs.Private.Climb.{AreTablesOf}
use Rattle.name_resolution.specs.Private.Tables.{AreNameTables}

-- ---- one item changed

some_same : {X : Type 0} (x y : X) → Some x ≡ Some y → x ≡ y
some_same x y e = ap (from x) e
  where
    from : {X : Type 0} → X → Option X → X
    from d None = d
    from d (Some z) = z

pub set_changed : {X : Type 0} (f : X → X) (n : ℕ) (xs : List X) (x : X) → Some x ≡ slice_get xs n → slice_set xs n (f x) ≡ changed_at f n xs
set_changed f n [] x e = absurd cc
set_changed f zero (y ∷ ys) x e = ap (λ z. f z ∷ ys) (some_same x y e)
set_changed f (suc n) (y ∷ ys) x e = ap (λ zs. y ∷ zs) (set_changed f n ys x e)

pub past_changed : {X : Type 0} (f : X → X) (n : ℕ) (xs : List X) → None ≡ slice_get xs n → changed_at f n xs ≡ xs
past_changed f n [] e = refl
past_changed f zero (y ∷ ys) e = absurd cc
past_changed f (suc n) (y ∷ ys) e = ap (λ zs. y ∷ zs) (past_changed f n ys e)

-- ---- tables

module _ {X : Type 0} (name_of : X → List ℕ) (test : X → Bool) (f : X → X) (named : (x : X) → name_of (f x) ≡ name_of x) (tested : (x : X) → test (f x) ≡ test x) where
  first_changed : (n i : ℕ) (xs : List X) (name : List ℕ) → first_from name_of test i (changed_at f n xs) name ≡ first_from name_of test i xs name
  first_changed n i [] name = refl
  first_changed zero i (x ∷ xs) name =
      ap (λ b. if b && same (name_of (f x)) name then Some i else first_from name_of test (i + 1) xs name) (tested x)
      ∙ ap (λ m. if test x && same m name then Some i else first_from name_of test (i + 1) xs name) (named x)
  first_changed (suc n) i (x ∷ xs) name = ap (λ o. if test x && same (name_of x) name then Some i else o) (first_changed n (i + 1) xs name)

  pub table_changed : (n : ℕ) (table : Table) (xs : List X) → IsTableOf name_of test table xs → IsTableOf name_of test table (changed_at f n xs)
  table_changed n table xs is = record { finds = λ name. is.finds name ∙ sym (first_changed n 0 xs name) }

module _ {X Y : Type 0} (name_of : X → List ℕ) (test : X → Bool) (items_of : Y → List X) (g : Y → Y)
    (keeps : (table : Table) (y : Y) → IsTableOf name_of test table (items_of y) → IsTableOf name_of test table (items_of (g y))) where
  pub tables_changed : (n : ℕ) (ts : List Table) (ys : List Y) → AreTables name_of test items_of ts ys → AreTables name_of test items_of ts (changed_at g n ys)
  tables_changed n [] [] are = are
  tables_changed n [] (y ∷ ys) are = absurd are
  tables_changed n (t ∷ ts) [] are = absurd are
  tables_changed zero (t ∷ ts) (y ∷ ys) are = (keeps t y are.0, are.1)
  tables_changed (suc n) (t ∷ ts) (y ∷ ys) are = (are.0, tables_changed n ts ys are.1)

-- ---- names told

module _ (t : StType) (meant : Target) where
  global_named : (g : DeclaredGlobal) → global_name (global_told t meant g) ≡ global_name g
  global_named (global.Variable v) = refl
  global_named (global.Function k r) = refl

  global_sort : (g : DeclaredGlobal) → is_variable (global_told t meant g) ≡ is_variable g
  global_sort (global.Variable v) = refl
  global_sort (global.Function k r) = refl

  variable_passes : (which : Which) (v : DeclaredVariable) → passes which (variable_told t meant v) ≡ passes which v
  variable_passes All v = refl
  variable_passes Inherited v = refl
  variable_passes OfInstance v = refl

  members_told : (which : Which) (c i : ℕ) (ts : List Table) (cs : List DeclaredClass) → AreTablesOf (passes which) ts cs → AreTablesOf (passes which) ts (changed_at (member_told i t meant) c cs)
  members_told which c i ts cs are =
      tables_changed (λ v. v.name) (passes which) (λ d. d.variables) (member_told i t meant)
      (λ table d is. table_changed (λ v. v.name) (passes which) (variable_told t meant) (λ v. refl) (variable_passes which) i table d.variables is) c ts cs are

module _ (a : DeclaredNames) (types globals variables : Table) (first last : Table) (values fields all inherited of_instance : List Table)
    (are : AreNameTables a types globals variables first last values fields all inherited of_instance) where
  pub type_tables : (i : ℕ) (t : StType) → AreNameTables (with_type a i t) types globals variables first last values fields all inherited of_instance
  type_tables i t = record {
    types_are = table_changed (λ d. d.name) (λ d. true) (type_told t) (λ d. refl) (λ d. refl) i types a.types are.types_are;
    globals_are = are.globals_are;
    variables_are = are.variables_are;
    first_are = are.first_are;
    last_are = are.last_are;
    values_are = are.values_are;
    fields_are = are.fields_are;
    all_are = are.all_are;
    inherited_are = are.inherited_are;
    of_instance_are = are.of_instance_are;
  }

  pub global_tables : (i : ℕ) (t : StType) (meant : Target) → AreNameTables (with_global a i t meant) types globals variables first last values fields all inherited of_instance
  global_tables i t meant = record {
    types_are = are.types_are;
    globals_are = table_changed global_name (λ g. true) (global_told t meant) (global_named t meant) (λ g. refl) i globals a.globals are.globals_are;
    variables_are = table_changed global_name is_variable (global_told t meant) (global_named t meant) (global_sort t meant) i variables a.globals are.variables_are;
    first_are = are.first_are;
    last_are = are.last_are;
    values_are = are.values_are;
    fields_are = are.fields_are;
    all_are = are.all_are;
    inherited_are = are.inherited_are;
    of_instance_are = are.of_instance_are;
  }

  pub member_tables : (c i : ℕ) (t : StType) (meant : Target) → AreNameTables (with_member a c i t meant) types globals variables first last values fields all inherited of_instance
  member_tables c i t meant = record {
    types_are = are.types_are;
    globals_are = are.globals_are;
    variables_are = are.variables_are;
    first_are = are.first_are;
    last_are = are.last_are;
    values_are = are.values_are;
    fields_are = are.fields_are;
    all_are = members_told t meant All c i all a.classes are.all_are;
    inherited_are = members_told t meant Inherited c i inherited a.classes are.inherited_are;
    of_instance_are = members_told t meant OfInstance c i of_instance a.classes are.of_instance_are;
  }
