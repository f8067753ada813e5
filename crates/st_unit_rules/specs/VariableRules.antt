-- The rules of sections and of the variables in them (IEC 61131-3:2013, 6.5 and 6.6.5).
use Rattle.std.specs.Prelude.{ℕ, ◌+◌, ◌*◌, nat_eq, nat_lt, Bool, true, false, not, ◌&&◌, ◌||◌, if◌then◌else◌, List, [], ◌++◌, flat_map, Option, Some, None, option_map, option_and_then, slice_get}
use Rattle.std.specs.List.{list_any}
use Rattle.std.specs.Option.{is_some, is_none}
use Rattle.plc_text.specs.declared.code.Code.TheVariants.{E05, E07, E10, E11, E14}
use Rattle.st_types.specs.Elem.{bits}
use Rattle.st_types.specs.declared.st_type.StType.{StType}
use Rattle.st_types.specs.declared.st_type.StType.TheVariants as type
use Rattle.st_types.specs.declared.st_type.StType.TheOpen.{StType-F}
use Rattle.st_types.specs.declared.st_type.StType.TheFolds.{fold-StType}
use Rattle.st_tree.specs.Address.{area_of, width_of, index_of, bit_of}
use Rattle.st_tree.specs.declared.address.Area.{Area}
use Rattle.st_tree.specs.declared.address.Area.TheVariants as area
use Rattle.st_tree.specs.declared.address.Width.{Width}
use Rattle.st_tree.specs.declared.address.Width.TheVariants as width
use Rattle.st_tree.specs.declared.declaration.ClassDecl.{ClassDecl}
use Rattle.st_tree.specs.declared.declaration.Item.{Item}
use Rattle.st_tree.specs.declared.declaration.Section.{Section}
use Rattle.st_tree.specs.declared.declaration.SectionSort.{SectionSort}
use Rattle.st_tree.specs.declared.declaration.SectionSort.TheVariants as sort
use Rattle.st_tree.specs.declared.name.Name.{Name}
use Rattle.st_tree.specs.declared.type_spec.TypeSpec.{TypeSpec}
use Rattle.st_tree.specs.Initial.{Initial, initial_of}
use Rattle.st_rules.specs.declared.names.DeclaredVariable.{DeclaredVariable}
use Rattle.st_rules.specs.declared.names.DeclaredGlobal.{DeclaredGlobal}
use Rattle.st_rules.specs.declared.names.DeclaredGlobal.TheVariants as global
use Rattle.st_rules.specs.Faults.{Faults, when}
use Rattle.st_rules.specs.Kinds.{holds_instances}
use Rattle.st_rules.specs.Modifiers.{access_word, is_abstract}
use Rattle.st_rules.specs.Numbered.{passes_if_there}
use Rattle.st_rules.specs.Scope.{Scope, first_named, global_name, is_external}
use Rattle.st_rules.specs.Types.{same_type}
use Rattle.st_unit_rules.specs.declared_names.WrittenTypes.{type_written, type_faults}
use Rattle.st_unit_rules.specs.declared_names.Variables.{declares_constants, may_be_constant}
use Rattle.st_unit_rules.specs.declared_names.Declarations.{item_line}
use Rattle.st_unit_rules.specs.NameRules.{word_twice}
use Rattle.st_unit_rules.specs.Initials.{initial_faults}

-- what a section belongs to
pub data Home : Type 0 where
  of_class of_block of_program of_routine of_prototype of_globals : Home

-- ---- E10: sections and access words

-- methods of interfaces have inputs, outputs and in-outs; classes VAR and VAR_EXTERNAL; programs all but VAR_IN_OUT
abbrev pub may_have : Home → SectionSort → Bool
may_have of_class sort.Var = true
may_have of_class sort.External = true
may_have of_class _ = false
may_have of_prototype sort.Input = true
may_have of_prototype sort.Output = true
may_have of_prototype sort.InOut = true
may_have of_prototype _ = false
may_have of_program sort.InOut = false
may_have _ _ = true

abbrev pub section_out_of_place : Home → Section ℕ → Faults
section_out_of_place h s = when (not (may_have h s.sort)) E10 s.line

-- access words stand on VAR of classes and function blocks
abbrev pub may_have_access : Home → SectionSort → Bool
may_have_access of_class sort.Var = true
may_have_access of_block sort.Var = true
may_have_access _ _ = false

abbrev pub access_out_of_place : Home → Section ℕ → Faults
access_out_of_place h s = when (list_any (λ m. is_some (access_word m)) s.modifiers && not (may_have_access h s.sort)) E10 s.line

-- ---- types that variables may have

-- instances are declared by VAR of classes, function blocks and programs, and as globals; in-outs are bound to them
abbrev pub may_hold_instances : Home → SectionSort → Bool
may_hold_instances h sort.InOut = true
may_hold_instances h sort.External = true
may_hold_instances h sort.Global = true
may_hold_instances of_class sort.Var = true
may_hold_instances of_block sort.Var = true
may_hold_instances of_program sort.Var = true
may_hold_instances h _ = false

abbrev pub holds_instances_told : Option StType → Bool
holds_instances_told None = false
holds_instances_told (Some t) = holds_instances t

-- an instance, or an array that holds instances, where none may be
abbrev pub instance_out_of_place : ℕ → Bool → Option StType → Faults
instance_out_of_place line may t = when (not may && holds_instances_told t) E07 line

-- the class of an instance, or of the instances that an array holds
unfoldable pub class_held : StType → Option ℕ
class_held t = fold-StType (Option ℕ) level t
  where
    level : StType-F (Option ℕ) → Option ℕ
    level (StType-F.Instance c) = Some c
    level (StType-F.Array low high o) = o
    level _ = None

abbrev pub makes_instances : SectionSort → Bool
makes_instances sort.Var = true
makes_instances sort.Global = true
makes_instances _ = false

abbrev pub is_abstract_class : List (ClassDecl ℕ) → Option ℕ → Bool
is_abstract_class classes o = passes_if_there (λ d. is_abstract d.modifiers) (option_and_then (slice_get classes) o)

-- a variable of an abstract class, or of an array of it
abbrev pub instance_of_abstract_class : ℕ → List (ClassDecl ℕ) → SectionSort → Option StType → Faults
instance_of_abstract_class line classes s t = when (makes_instances s && is_abstract_class classes (option_and_then class_held t)) E11 line

-- ---- constants

abbrev pub is_no_constant_type : Option StType → Bool
is_no_constant_type None = false
is_no_constant_type (Some t) = not (may_be_constant t)

-- a constant that is neither elementary nor an enumeration, or has no initial value
abbrev pub bad_constant : ℕ → Option StType → Option (Initial ℕ) → Faults
bad_constant line t i = when (is_no_constant_type t || is_none i) E07 line

-- ---- E14: addresses

-- AT stands on VAR of a program and on a global, which are no constants
abbrev pub may_have_address : Home → SectionSort → Bool
may_have_address of_program sort.Var = true
may_have_address of_globals sort.Global = true
may_have_address _ _ = false

abbrev pub width_bits : Width → ℕ
width_bits width.Bit = 1
width_bits width.Byte = 8
width_bits width.Word = 16
width_bits width.DoubleWord = 32
width_bits width.LongWord = 64

abbrev pub width_bytes : Width → ℕ
width_bytes width.Bit = 1
width_bytes width.Byte = 1
width_bytes width.Word = 2
width_bytes width.DoubleWord = 4
width_bytes width.LongWord = 8

abbrev pub address_out_of_place : ℕ → Bool → Faults
address_out_of_place line may = when (not may) E14 line

abbrev pub is_elementary_of_width : ℕ → Option StType → Bool
is_elementary_of_width n None = true
is_elementary_of_width n (Some (type.Elementary e)) = nat_eq (bits e) n
is_elementary_of_width n (Some _) = false

-- a type that is not elementary, or has another width
abbrev pub address_of_another_width : ℕ → List ℕ → Option StType → Faults
address_of_another_width line text t = when (not (is_elementary_of_width (width_bits (width_of text)) t)) E14 line

abbrev pub has_bit_above_seven : List ℕ → Bool
has_bit_above_seven text = nat_lt 7 (bit_of text)

abbrev pub bit_above_seven : ℕ → List ℕ → Faults
bit_above_seven line text = when (has_bit_above_seven text) E14 line

-- so many bytes have addresses
abbrev pub image_bytes : Area → ℕ
image_bytes area.Memory = 4_096
image_bytes _ = 256

abbrev pub passes_the_image : List ℕ → Bool
passes_the_image text = nat_lt (image_bytes (area_of text)) (index_of text * width_bytes (width_of text) + width_bytes (width_of text))

abbrev pub address_past_the_image : ℕ → List ℕ → Faults
address_past_the_image line text = when (passes_the_image text) E14 line

abbrev pub address_faults : ℕ → Bool → Option StType → Option (List ℕ) → Faults
address_faults line may t None = []
address_faults line may t (Some text) = address_out_of_place line may ++ address_of_another_width line text t ++ bit_above_seven line text ++ address_past_the_image line text

-- ---- externals

abbrev pub global_variable : Option DeclaredGlobal → Option DeclaredVariable
global_variable (Some (global.Variable v)) = Some v
global_variable _ = None

abbrev pub is_another_type : Option StType → Option StType → Bool
is_another_type (Some t) (Some u) = not (same_type t u)
is_another_type _ _ = false

module _ (s : Scope) where
  -- the global that an external means
  abbrev pub global_meant : List ℕ → Option DeclaredVariable
  global_meant name = global_variable (first_named global_name name s.names.globals)

  abbrev pub external_not_found : Name → Faults
  external_not_found n = when (is_none (global_meant n.text)) E05 n.line

  abbrev pub external_of_another_type : ℕ → Option StType → Name → Faults
  external_of_another_type line t n = when (is_another_type t (option_and_then (λ v. v.kind) (global_meant n.text))) E07 line

  abbrev pub external_faults : Item ℕ → Faults
  external_faults item = flat_map (λ n. external_not_found n ++ external_of_another_type (item_line item) (type_written s item.kind) n) item.names

  -- ---- an item

  abbrev pub initial_if_given : Option StType → Option (Initial ℕ) → Faults
  initial_if_given t None = []
  initial_if_given t (Some i) = initial_faults s t i

  -- the rules that the names of an item share
  unfoldable pub item_faults : Home → Section ℕ → Item ℕ → Faults
  item_faults h section item =
      let line = item_line item in
      let t = type_written s item.kind in
      let i = option_map initial_of item.initial in
      type_faults s item.kind
      ++ instance_out_of_place line (may_hold_instances h section.sort) t
      ++ instance_of_abstract_class line s.classes section.sort t
      ++ (if declares_constants section then bad_constant line t i else [])
      ++ address_faults line (may_have_address h section.sort && not (declares_constants section)) t item.address
      ++ (if is_external section.sort then external_faults item else [])
      ++ initial_if_given t i

  -- ---- sections

  abbrev pub heading_faults : Home → Section ℕ → Faults
  heading_faults h section = word_twice section.line section.modifiers ++ section_out_of_place h section ++ access_out_of_place h section

  abbrev pub section_faults : Home → Section ℕ → Faults
  section_faults h section = heading_faults h section ++ flat_map (item_faults h section) section.items

  unfoldable pub sections_faults : Home → List (Section ℕ) → Faults
  sections_faults h sections = flat_map (section_faults h) sections

  -- ---- results

  -- `line` is that of the heading
  abbrev pub result_faults : ℕ → Option (TypeSpec ℕ) → Faults
  result_faults line None = []
  result_faults line (Some t) = type_faults s t ++ instance_out_of_place line false (type_written s t)
