-- Initial values and variables break no rule of the code E17.
use Rattle.std.proofs.Common.{refl}
use Rattle.std.specs.Prelude.{ℕ, List, [], ◌∷◌, ◌++◌, Option, Some, None, Bool, not, ◌&&◌, option_map}
use Rattle.plc_text.specs.declared.code.Code.TheVariants.{E04, E05, E07, E10, E11, E13, E14}
use Rattle.st_types.specs.declared.st_type.StType.{StType}
use Rattle.st_tree.specs.declared.declaration.Item.{Item}
use Rattle.st_tree.specs.declared.declaration.Section.{Section}
use Rattle.st_tree.specs.declared.type_spec.TypeSpec.{TypeSpec}
use Rattle.st_tree.specs.Initial.{Initial, Value, Array, Fields, One, Repeated, Parts, no_parts, part_then, FieldInits, no_fields, field_then, initial_of}
use Rattle.st_rules.specs.Literals.{asked_of}
use Rattle.st_rules.specs.Scope.{Scope}
use Rattle.st_unit_rules.specs.declared_names.WrittenTypes.{type_written}
use Rattle.st_unit_rules.specs.declared_names.Variables.{declares_constants}
use Rattle.st_unit_rules.specs.declared_names.Declarations.{item_line}
use Rattle.st_unit_rules.specs.Initials.{element_given, list_of_no_array, list_of_no_fields, given_type, given_by, initial_faults, part_faults, given_faults}
use Rattle.st_unit_rules.specs.VariableRules.{may_have_address, address_faults, external_faults, initial_if_given, item_faults, heading_faults, section_faults, sections_faults, result_faults, Home}
use Rattle.st_unit_rules.proofs.refusal_codes.FaultWords.{Usual, none, ◌also◌, if_broken, either, of_each}
use Rattle.st_unit_rules.proofs.refusal_codes.TypeCodes.{constant_faults_usual, type_faults_usual}

-- ---- initial values

list_of_no_array_usual : (line : ℕ) (t : Option StType) → Usual (list_of_no_array line t)
list_of_no_array_usual line None = none
list_of_no_array_usual line (Some t) = if_broken _ E07 _ refl

list_of_no_fields_usual : (line : ℕ) (t : Option StType) → Usual (list_of_no_fields line t)
list_of_no_fields_usual line None = none
list_of_no_fields_usual line (Some t) = if_broken _ E07 _ refl

module _ (s : Scope) where
  mutual
    pub initial_faults_usual : (t : Option StType) (x : Initial ℕ) → Usual (initial_faults s t x)
    initial_faults_usual t (Value e) = constant_faults_usual s (asked_of t) e
    initial_faults_usual t (Array l ps) = list_of_no_array_usual l t also if_broken _ E13 _ refl also part_faults_usual (element_given t) ps
    initial_faults_usual t (Fields l fs) = list_of_no_fields_usual l t also given_faults_usual t [] fs

    part_faults_usual : (t : Option StType) (x : Parts ℕ) → Usual (part_faults s t x)
    part_faults_usual t no_parts = none
    part_faults_usual t (part_then (One i) ps) = initial_faults_usual t i also part_faults_usual t ps
    part_faults_usual t (part_then (Repeated l digits i) ps) = if_broken _ E13 _ refl also initial_faults_usual t i also part_faults_usual t ps

    given_faults_usual : (t : Option StType) (before : List (List ℕ)) (x : FieldInits ℕ) → Usual (given_faults s t before x)
    given_faults_usual t before no_fields = none
    given_faults_usual t before (field_then l name i fs) =
        let g = given_by s t name in
        if_broken _ E05 _ refl
        also if_broken _ E07 _ refl
        also if_broken _ E10 _ refl
        also initial_faults_usual (given_type g) i
        also given_faults_usual t (before ++ name ∷ []) fs

-- ---- items, sections and results

address_faults_usual : (line : ℕ) (may : Bool) (t : Option StType) (x : Option (List ℕ)) → Usual (address_faults line may t x)
address_faults_usual line may t None = none
address_faults_usual line may t (Some text) =
    if_broken _ E14 _ refl
    also if_broken _ E14 _ refl
    also if_broken _ E14 _ refl
    also if_broken _ E14 _ refl

module _ (s : Scope) where
  external_faults_usual : (item : Item ℕ) → Usual (external_faults s item)
  external_faults_usual item = of_each _ (λ n. if_broken _ E05 _ refl also if_broken _ E07 _ refl) item.names

  initial_if_given_usual : (t : Option StType) (x : Option (Initial ℕ)) → Usual (initial_if_given s t x)
  initial_if_given_usual t None = none
  initial_if_given_usual t (Some i) = initial_faults_usual s t i

  pub item_faults_usual : (h : Home) (section : Section ℕ) (item : Item ℕ) → Usual (item_faults s h section item)
  unfolding item_faults
  item_faults_usual h section item =
      let line = item_line item in
      let t = type_written s item.kind in
      let i = option_map initial_of item.initial in
      type_faults_usual s item.kind
      also if_broken _ E07 _ refl
      also if_broken _ E11 _ refl
      also (either _ (if_broken _ E07 _ refl) none)
      also address_faults_usual line (may_have_address h section.sort && not (declares_constants section)) t item.address
      also (either _ (external_faults_usual item) none)
      also initial_if_given_usual t i

  pub heading_faults_usual : (h : Home) (section : Section ℕ) → Usual (heading_faults s h section)
  heading_faults_usual h section = if_broken _ E04 _ refl also if_broken _ E10 _ refl also if_broken _ E10 _ refl

  section_faults_usual : (h : Home) (section : Section ℕ) → Usual (section_faults s h section)
  section_faults_usual h section = heading_faults_usual h section also of_each _ (item_faults_usual h section) section.items

  pub sections_faults_usual : (h : Home) (sections : List (Section ℕ)) → Usual (sections_faults s h sections)
  unfolding sections_faults
  sections_faults_usual h sections = of_each _ (section_faults_usual h) sections

  pub result_faults_usual : (line : ℕ) (x : Option (TypeSpec ℕ)) → Usual (result_faults s line x)
  result_faults_usual line None = none
  result_faults_usual line (Some t) = type_faults_usual s t also if_broken _ E07 _ refl
