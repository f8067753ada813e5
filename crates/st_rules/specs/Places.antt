-- Places: variables and their parts, what a call calls, and which rules they break (IEC 61131-3:2013, 6.4.4, 6.5.2 and 6.6.5). Here the
-- indices count by their number alone; Expressions has the rules of the indices themselves.
use Rattle.std.specs.Prelude.{ℕ, zero, suc, nat_lt, Bool, true, false, not, ◌&&◌, ◌||◌, if◌then◌else◌, List, [], ◌++◌, Option, Some, None, option_map, option_and_then, slice_get}
use Rattle.std.specs.Option.{is_none}
use Rattle.plc_text.specs.declared.code.Code.TheVariants.{E05, E07, E08, E10, E16}
use Rattle.st_types.specs.declared.st_type.StType.{StType}
use Rattle.st_types.specs.declared.st_type.StType.TheVariants as type
use Rattle.st_tree.specs.declared.declaration.ClassDecl.{ClassDecl}
use Rattle.st_tree.specs.declared.declaration.SectionSort.{SectionSort}
use Rattle.st_tree.specs.declared.declaration.SectionSort.TheVariants as sort
use Rattle.st_tree.specs.declared.expression.Root.{Root}
use Rattle.st_tree.specs.declared.expression.Root.TheVariants as root
use Rattle.st_tree.specs.Expression.{Expressions, no_expressions, expression_then, Selector, Field, Index, Selectors, no_selectors, selector_then}
use Rattle.st_tree.specs.Expression as tree
use Rattle.st_rules.specs.declared.ids.MethodId.{MethodId}
use Rattle.st_rules.specs.declared.ids.PrototypeId.{PrototypeId}
use Rattle.st_rules.specs.declared.names.DeclaredVariable.{DeclaredVariable}
use Rattle.st_rules.specs.declared.names.DeclaredRoutine.{DeclaredRoutine}
use Rattle.st_rules.specs.declared.names.DeclaredField.{DeclaredField}
use Rattle.st_rules.specs.Faults.{Faults, when}
use Rattle.st_rules.specs.Chains.{◌or_else◌}
use Rattle.st_rules.specs.Classes.{base_of, lookup}
use Rattle.st_rules.specs.Interfaces.{interface_lookup}
use Rattle.st_rules.specs.Kinds.{holds_instances, element_type}
use Rattle.st_rules.specs.Scope.{Scope, Meant, a_variable, a_function, an_enumerator, Qualifier, values_of, of_untold, no_qualifier, sought, dot_qualifier, value_of, instance_variable, field_named, method_routine, prototype_routine, is_of_body, may_use, is_text_under, variables_of}
use Rattle.st_rules.specs.Scope as scope

-- what stands before a selector, or is the whole place
pub data Standing : Type 0 where
  -- nothing whose type can be told
  untold : Standing
  a_value : StType → Standing
  -- THIS or SUPER, also with `^` behind: the own instance, as one of this class
  own_instance : ℕ → Standing
  -- SUPER in a class without a base
  no_base : Standing
  -- the name of an enumeration, behind which the name of a value stands
  an_enumeration : ℕ → Standing

-- what a name behind `.` means
pub data Part : Type 0 where
  a_field : ℕ → Option StType → Part
  -- a variable of an instance, with the class that declares it
  a_member : ℕ → DeclaredVariable → Part
  a_method : MethodId → Part
  a_prototype : PrototypeId → Part
  -- a value of an enumeration
  a_value_of : ℕ → ℕ → Part

abbrev pub standing_of : Option StType → Standing
standing_of None = untold
standing_of (Some t) = a_value t

-- the type of what stands there
abbrev pub standing_type : Standing → Option StType
standing_type untold = None
standing_type (a_value t) = Some t
standing_type (own_instance c) = Some (type.Instance c)
standing_type no_base = None
standing_type (an_enumeration n) = None

abbrev pub is_no_base : Standing → Bool
is_no_base no_base = true
is_no_base _ = false

abbrev pub count_expressions : {A : Type 0} → Expressions A → ℕ
count_expressions no_expressions = 0
count_expressions (expression_then e es) = suc (count_expressions es)

abbrev pub count_selectors : {A : Type 0} → Selectors A → ℕ
count_selectors no_selectors = 0
count_selectors (selector_then s ss) = suc (count_selectors ss)

abbrev pub is_last : {A : Type 0} → Selectors A → Bool
is_last no_selectors = true
is_last (selector_then s ss) = false

-- the line of the first token of a place
abbrev pub root_line : Root ℕ → ℕ
root_line (root.Name l name) = l
root_line (root.This l) = l
root_line (root.Super l) = l

-- ---- roots

abbrev pub meant_type : Option Meant → Option StType
meant_type (Some (a_variable c v)) = v.kind
meant_type (Some (an_enumerator n k)) = Some (type.Enumeration n)
meant_type _ = None

-- ---- indices

-- what stands behind so many indices
abbrev pub indexed : ℕ → Option StType → Option StType
indexed zero t = t
indexed (suc n) t = indexed n (option_and_then element_type t)

abbrev pub index_on_no_array : ℕ → Option StType → Faults
index_on_no_array line None = []
index_on_no_array line (Some t) = when (is_none (element_type t)) E07 line

abbrev pub indices_on_no_array : ℕ → ℕ → Option StType → Faults
indices_on_no_array line zero t = []
indices_on_no_array line (suc n) t = index_on_no_array line t ++ indices_on_no_array line n (option_and_then element_type t)

-- any use of SUPER without a base but `SUPER.name`
abbrev pub super_without_base : ℕ → Standing → Faults
super_without_base line b = when (is_no_base b) E07 line

-- ---- `^`

abbrev pub referenced : StType → Standing
referenced (type.Reference c) = a_value (type.Instance c)
referenced _ = untold

-- THIS^ is THIS, SUPER^ is SUPER
abbrev pub dereferenced : Standing → Standing
dereferenced untold = untold
dereferenced (a_value t) = referenced t
dereferenced (own_instance c) = own_instance c
dereferenced no_base = no_base
dereferenced (an_enumeration n) = untold

abbrev pub is_reference_to_class : StType → Bool
is_reference_to_class (type.Reference c) = true
is_reference_to_class _ = false

abbrev pub dereference_of_no_reference : ℕ → Standing → Faults
dereference_of_no_reference line (a_value t) = when (not (is_reference_to_class t)) E07 line
dereference_of_no_reference line _ = []

abbrev pub is_output_sort : SectionSort → Bool
is_output_sort sort.Output = true
is_output_sort _ = false

-- ---- names behind `.`

abbrev pub part_type : Option Part → Option StType
part_type (Some (a_field k t)) = t
part_type (Some (a_member d v)) = v.kind
part_type (Some (a_value_of n k)) = Some (type.Enumeration n)
part_type _ = None

abbrev pub member_part : Option (ℕ × DeclaredVariable) → Option Part
member_part o = option_map (λ x. a_member x.0 x.1) o

abbrev pub field_part : Option (ℕ × DeclaredField) → Option Part
field_part o = option_map (λ x. a_field x.0 x.1.kind) o

module _ (s : Scope) where
  -- THIS, where there is one
  abbrev pub this_standing : Option ℕ → Standing
  this_standing None = untold
  this_standing (Some c) = own_instance c

  -- SUPER in a class: its base where that is found
  abbrev pub super_standing : Option ℕ → Standing
  super_standing None = untold
  super_standing (Some c) = of (slice_get s.classes c)
    where
      found : Option ℕ → Standing
      found None = untold
      found (Some b) = own_instance b

      of : Option (ClassDecl ℕ) → Standing
      of None = untold
      of (Some class) = if is_none class.base then no_base else found (base_of s.classes c)

  abbrev pub name_standing : List ℕ → Standing
  name_standing name = standing_of (meant_type (sought s false name))

  abbrev pub qualified_standing : Qualifier → List ℕ → Standing
  qualified_standing (values_of n) name = an_enumeration n
  qualified_standing of_untold name = untold
  qualified_standing no_qualifier name = name_standing name

  -- what a place begins with; the name of an enumeration stands before `.` alone
  unfoldable pub root_standing : Root ℕ → Selectors ℕ → Standing
  root_standing (root.This l) ss = this_standing s.class
  root_standing (root.Super l) ss = super_standing s.class
  root_standing (root.Name l name) (selector_then (Field k n) ss) = qualified_standing (dot_qualifier s name) name
  root_standing (root.Name l name) ss = name_standing name

  -- ---- parts

  abbrev pub method_part : ℕ → Bool → List ℕ → Option Part
  method_part c called name = if called then option_map a_method (lookup s.classes c name) else None

  abbrev pub instance_part : ℕ → Bool → List ℕ → Option Part
  instance_part c called name = member_part (instance_variable s c name) or_else method_part c called name

  abbrev pub value_part : StType → Bool → List ℕ → Option Part
  value_part (type.Structure n) called name = field_part (field_named s n name)
  value_part (type.Instance c) called name = instance_part c called name
  value_part (type.Interface i) called name = if called then option_map a_prototype (interface_lookup s.interfaces i name) else None
  value_part _ called name = None

  -- what a name means behind what stands there, where a call stands or not
  unfoldable pub part_of : Standing → Bool → List ℕ → Option Part
  part_of untold called name = None
  part_of (a_value t) called name = value_part t called name
  part_of (own_instance c) called name = instance_part c called name
  part_of no_base called name = None
  part_of (an_enumeration n) called name = option_map (a_value_of n) (value_of s n name)

  -- what stands behind a selector
  unfoldable pub selected : Standing → Selector ℕ → Standing
  selected b (Field l name) = standing_of (part_type (part_of b false name))
  selected b (Index l es) = standing_of (indexed (count_expressions es) (standing_type b))
  selected b (tree.Target l) = dereferenced b

  abbrev pub along : Standing → Selectors ℕ → Standing
  along b no_selectors = b
  along b (selector_then x ss) = along (selected b x) ss

  -- what stands at a place
  unfoldable pub placed : Root ℕ → Selectors ℕ → Standing
  placed r ss = along (root_standing r ss) ss

  abbrev pub place_type : Root ℕ → Selectors ℕ → Option StType
  place_type r ss = standing_type (placed r ss)

  -- ---- E05 of names

  abbrev pub is_no_variable_name : Option Meant → Bool
  is_no_variable_name None = true
  is_no_variable_name (Some (a_variable c v)) = false
  is_no_variable_name (Some (scope.a_method id)) = true
  is_no_variable_name (Some (a_function k r)) = true
  is_no_variable_name (Some (an_enumerator n k)) = false

  -- nothing is found, or a function that is not called
  abbrev pub name_not_found : ℕ → Bool → Option Meant → Faults
  name_not_found line called m = when (if called then is_none m else is_no_variable_name m) E05 line

  abbrev pub is_told : Standing → Bool
  is_told untold = false
  is_told _ = true

  abbrev pub part_not_found : ℕ → Standing → Option Part → Faults
  part_not_found line b p = when (is_told b && is_none p) E05 line

  -- ---- E10 of names and of THIS and SUPER

  abbrev pub access_of : Option DeclaredRoutine → ℕ → Bool
  access_of None d = true
  access_of (Some r) d = may_use s r.access d

  -- a PRIVATE name outside its class, a PROTECTED one outside its class and those derived
  abbrev pub member_out_of_access : ℕ → ℕ → DeclaredVariable → Faults
  member_out_of_access line d v = when (not (may_use s v.access d)) E10 line

  abbrev pub method_out_of_access : ℕ → MethodId → Faults
  method_out_of_access line id = when (not (access_of (method_routine s id) id.class)) E10 line

  abbrev pub body_variable_in_a_method : ℕ → DeclaredVariable → Faults
  body_variable_in_a_method line v = when (s.in_method && is_of_body v) E10 line

  abbrev pub name_out_of_access : ℕ → Option Meant → Faults
  name_out_of_access line (Some (a_variable (Some d) v)) = member_out_of_access line d v ++ body_variable_in_a_method line v
  name_out_of_access line (Some (scope.a_method id)) = method_out_of_access line id
  name_out_of_access line _ = []

  abbrev pub part_out_of_access : ℕ → Option Part → Faults
  part_out_of_access line (Some (a_member d v)) = member_out_of_access line d v
  part_out_of_access line (Some (a_method id)) = method_out_of_access line id
  part_out_of_access line _ = []

  abbrev pub instance_outside_a_class : ℕ → Faults
  instance_outside_a_class line = when (is_none s.class) E10 line

  -- ---- the rules of a root and of one selector

  abbrev pub name_faults : ℕ → Bool → Option Meant → Faults
  name_faults line called m = name_not_found line called m ++ name_out_of_access line m

  -- the name of a type before `.` is found
  abbrev pub qualified_faults : ℕ → Qualifier → List ℕ → Faults
  qualified_faults line (values_of n) name = []
  qualified_faults line of_untold name = []
  qualified_faults line no_qualifier name = name_faults line false (sought s false name)

  -- the rules of a root: a call stands behind it or not
  unfoldable pub root_faults : Bool → Root ℕ → Selectors ℕ → Faults
  root_faults called (root.This l) ss = instance_outside_a_class l
  root_faults called (root.Super l) ss = instance_outside_a_class l
  root_faults called (root.Name l name) no_selectors = name_faults l called (sought s called name)
  root_faults called (root.Name l name) (selector_then (Field k n) ss) = qualified_faults l (dot_qualifier s name) name
  root_faults called (root.Name l name) ss = name_faults l false (sought s false name)

  unfoldable pub part_faults : ℕ → Standing → Option Part → Faults
  part_faults line b p = part_not_found line b p ++ part_out_of_access line p

  -- `line` is that of the place's first token
  unfoldable pub selector_faults : ℕ → Bool → Standing → Selector ℕ → Faults
  selector_faults line called b (Field l name) = part_faults l b (part_of b called name)
  selector_faults line called b (Index l es) = super_without_base line b ++ indices_on_no_array line (count_expressions es) (standing_type b)
  selector_faults line called b (tree.Target l) = dereference_of_no_reference line b

  -- more than 64 selectors
  unfoldable pub too_many_selectors : ℕ → Selectors ℕ → Faults
  too_many_selectors line ss = when (nat_lt 64 (count_selectors ss)) E16 line

  -- the rules of a place as a whole, where no call stands behind it
  unfoldable pub whole_faults : Root ℕ → Selectors ℕ → Faults
  whole_faults r ss = super_without_base (root_line r) (placed r ss) ++ too_many_selectors (root_line r) ss

  -- ---- E08: what is no target

  abbrev pub is_no_variable : Option Meant → Bool
  is_no_variable (Some (a_variable c v)) = v.constant || v.located_input
  is_no_variable (Some (an_enumerator n k)) = true
  is_no_variable _ = false

  abbrev pub qualifies : Qualifier → Bool
  qualifies (values_of n) = true
  qualifies of_untold = true
  qualifies no_qualifier = false

  -- a constant, an enumerator or a variable at an input address
  abbrev pub is_fixed_root : Root ℕ → Selectors ℕ → Bool
  is_fixed_root (root.Name l name) (selector_then (Field k n) ss) = qualifies (dot_qualifier s name) || is_no_variable (sought s false name)
  is_fixed_root (root.Name l name) ss = is_no_variable (sought s false name)
  is_fixed_root _ ss = false

  -- an output of a class outside of whose text, and of the text of those derived, the place stands
  abbrev pub is_outer_output : Option Part → Bool
  is_outer_output (Some (a_member d v)) = is_output_sort v.sort && not (is_text_under s d)
  is_outer_output _ = false

  -- whether a place is in an output from outside: what is reached by a `^` behind it is not
  abbrev pub in_outer_output : Bool → Standing → Selectors ℕ → Bool
  in_outer_output so_far b no_selectors = so_far
  in_outer_output so_far b (selector_then (Field l name) ss) = in_outer_output (so_far || is_outer_output (part_of b false name)) (selected b (Field l name)) ss
  in_outer_output so_far b (selector_then (Index l es) ss) = in_outer_output so_far (selected b (Index l es)) ss
  in_outer_output so_far b (selector_then (tree.Target l) ss) = in_outer_output false (selected b (tree.Target l)) ss

  -- a constant, an enumerator, a variable at an input address, an output from outside
  unfoldable pub is_fixed : Root ℕ → Selectors ℕ → Bool
  is_fixed r ss = is_fixed_root r ss || in_outer_output false (root_standing r ss) ss

  abbrev pub holds_instances_if_told : Option StType → Bool
  holds_instances_if_told None = false
  holds_instances_if_told (Some t) = holds_instances t

  abbrev pub fixed_target : ℕ → Root ℕ → Selectors ℕ → Faults
  fixed_target line r ss = when (is_fixed r ss) E08 line

  abbrev pub instance_as_target : ℕ → Root ℕ → Selectors ℕ → Faults
  instance_as_target line r ss = when (holds_instances_if_told (place_type r ss)) E08 line

  unfoldable pub target_faults : Root ℕ → Selectors ℕ → Faults
  target_faults r ss = fixed_target (root_line r) r ss ++ instance_as_target (root_line r) r ss
