-- The names of a unit with nothing told of them: no type, and no value of a constant.
use Rattle.std.specs.Prelude.{◌≡◌, ℕ, suc, ◌+◌, Bool, true, false, not, if◌then◌else◌, List, [], ◌∷◌, ◌++◌, map, flat_map, filter, drop, length, Option, Some, None, slice_get}
use Rattle.st_tree.specs.declared.declaration.ClassDecl.{ClassDecl}
use Rattle.st_tree.specs.declared.declaration.FieldGroup.{FieldGroup}
use Rattle.st_tree.specs.declared.declaration.Method.{Method}
use Rattle.st_tree.specs.declared.declaration.Modifier.{Modifier}
use Rattle.st_tree.specs.declared.declaration.Prototype.{Prototype}
use Rattle.st_tree.specs.declared.declaration.Section.{Section}
use Rattle.st_tree.specs.declared.declaration.TypeBody.{TypeBody}
use Rattle.st_tree.specs.declared.declaration.TypeBody.TheVariants as body
use Rattle.st_tree.specs.declared.name.Name.{Name}
use Rattle.st_tree.specs.declared.program.Target.{Target}
use Rattle.st_tree.specs.declared.program.Target.TheVariants as target
use Rattle.st_tree.specs.declared.type_spec.TypeSpec.{TypeSpec}
use Rattle.st_tree.specs.declared.unit.Decl.{Decl}
use Rattle.st_tree.specs.declared.unit.Decl.TheVariants as declaration
use Rattle.st_rules.specs.declared.signature.ResultType.{ResultType}
use Rattle.st_rules.specs.declared.signature.ResultType.TheVariants as outcome
use Rattle.st_rules.specs.declared.names.DeclaredVariable.{DeclaredVariable}
use Rattle.st_rules.specs.declared.names.DeclaredRoutine.{DeclaredRoutine}
use Rattle.st_rules.specs.declared.names.DeclaredClass.{DeclaredClass}
use Rattle.st_rules.specs.declared.names.DeclaredField.{DeclaredField}
use Rattle.st_rules.specs.declared.names.DeclaredType.{DeclaredType}
use Rattle.st_rules.specs.declared.names.DeclaredGlobal.{DeclaredGlobal}
use Rattle.st_rules.specs.declared.names.DeclaredGlobal.TheVariants as global
use Rattle.st_rules.specs.declared.names.TypeParts.{TypeParts}
use Rattle.st_rules.specs.declared.names.TypeParts.TheVariants as parts
use Rattle.st_rules.specs.declared.names.DeclaredNames.{DeclaredNames}
use Rattle.st_rules.specs.Classes.{classes_in, methods_in, chain}
use Rattle.st_rules.specs.Interfaces.{interfaces_in}
use Rattle.st_rules.specs.Modifiers.{method_access, is_abstract}
use Rattle.st_rules.specs.Numbered.{each_numbered}
use Rattle.st_unit_rules.specs.declared_names.Variables.{Written, sections_written, sections_in, is_at_input, is_parameter_written, is_kept_written, is_body_written}
use Rattle.st_unit_rules.specs.declared_names.Declarations.{configuration_globals, entries_in}
use Rattle.st_unit_rules.specs.declared_names.UnitNames.{forgotten_names, names_from}

-- ---- variables

abbrev pub untold_variable : Target → Written → DeclaredVariable
untold_variable meant w = record {
  name = w.name.text;
  sort = w.sort;
  constant = w.constant;
  access = w.access;
  located_input = is_at_input w.item.address;
  kind = None;
  target = meant;
}

-- of a class, a function block or a program: the next variable of the instance has number k, the next local of the body number l
abbrev pub member_target : ℕ → ℕ → Written → Target
member_target k l w = if is_kept_written w then target.Variable k else if is_body_written w then target.Local l else target.Nothing

-- the number behind, where one is taken
abbrev pub number_behind : Bool → ℕ → ℕ
number_behind true k = suc k
number_behind false k = k

abbrev pub untold_members : ℕ → ℕ → List Written → List DeclaredVariable
untold_members k l [] = []
untold_members k l (w ∷ ws) = untold_variable (member_target k l w) w ∷ untold_members (number_behind (is_kept_written w) k) (number_behind (is_body_written w) l) ws

-- the inputs, outputs and in-outs of a routine; the next has number p
abbrev pub untold_parameters : ℕ → List Written → List DeclaredVariable
untold_parameters p [] = []
untold_parameters p (w ∷ ws) = if is_parameter_written w then untold_variable (target.Local p) w ∷ untold_parameters (suc p) ws else untold_parameters p ws

-- ---- routines

abbrev pub untold_outcome : Option (TypeSpec ℕ) → ResultType
untold_outcome None = outcome.Nothing
untold_outcome (Some t) = outcome.Written None

-- a result has number 0
abbrev pub first_parameter : Option (TypeSpec ℕ) → ℕ
first_parameter None = 0
first_parameter (Some t) = 1

abbrev pub untold_routine : List ℕ → List Modifier → Option (TypeSpec ℕ) → List (Section ℕ) → DeclaredRoutine
untold_routine name modifiers result ss = record {
  name = name;
  access = method_access modifiers;
  abstract_method = is_abstract modifiers;
  outcome = untold_outcome result;
  parameters = untold_parameters (first_parameter result) (sections_written ss);
}

abbrev pub untold_method : Method ℕ → DeclaredRoutine
untold_method m = untold_routine m.name.text m.modifiers m.result m.sections

abbrev pub untold_prototype : Prototype ℕ → DeclaredRoutine
untold_prototype m = untold_routine m.name.text [] m.result m.sections

-- ---- types

abbrev pub untold_type : Name → DeclaredType
untold_type n = record { name = n.text; kind = None }

abbrev pub untold_field : Name → DeclaredField
untold_field n = record { name = n.text; kind = None }

-- entries of TYPE, classes and interfaces, in the order of the text
abbrev pub untold_types : List (Decl ℕ) → List DeclaredType
untold_types [] = []
untold_types (declaration.Types l ts ∷ ds) = map (λ t. untold_type t.name) ts ++ untold_types ds
untold_types (declaration.Class d ∷ ds) = untold_type d.name ∷ untold_types ds
untold_types (declaration.Interface d ∷ ds) = untold_type d.name ∷ untold_types ds
untold_types (_ ∷ ds) = untold_types ds

abbrev pub untold_group : FieldGroup ℕ → List DeclaredField
untold_group g = map untold_field g.names

abbrev pub untold_parts : TypeBody ℕ → TypeParts
untold_parts (body.Alias t) = parts.Nothing
untold_parts (body.Enumeration ns) = parts.Values (map (λ n. n.text) ns)
untold_parts (body.Structure gs) = parts.Fields (flat_map untold_group gs)

-- ---- classes, globals and functions

-- its variables are numbered behind those of its bases, of which there are k for each instance and l for the body
abbrev pub untold_class : ℕ → ℕ → ClassDecl ℕ → DeclaredClass
untold_class k l d = record { sort = d.sort; variables = untold_members k l (sections_written (sections_in d.members)); methods = map untold_method (methods_in d.members) }

abbrev pub region_target : ℕ → Written → Target
region_target r w = if w.constant then target.Nothing else target.Region r

-- the next region has number r
abbrev pub untold_variables : ℕ → List Written → List DeclaredGlobal
untold_variables r [] = []
untold_variables r (w ∷ ws) = global.Variable (untold_variable (region_target r w) w) ∷ untold_variables (number_behind (not w.constant) r) ws

-- the number of the region behind those that globals make: constants make none
abbrev pub regions_of : ℕ → List Written → ℕ
regions_of r [] = r
regions_of r (w ∷ ws) = regions_of (number_behind (not w.constant) r) ws

-- the next region has number r, the next function number k
abbrev pub untold_globals : ℕ → ℕ → List (Decl ℕ) → List DeclaredGlobal
untold_globals r k [] = []
untold_globals r k (declaration.Globals s ∷ ds) = untold_variables r (sections_written (s ∷ [])) ++ untold_globals (regions_of r (sections_written (s ∷ []))) k ds
untold_globals r k (declaration.Function f ∷ ds) = global.Function k (untold_routine f.name.text [] f.result f.sections) ∷ untold_globals r (suc k) ds
untold_globals r k (declaration.Configuration c ∷ ds) =
    untold_variables r (sections_written (configuration_globals c)) ++ untold_globals (regions_of r (sections_written (configuration_globals c)) + length c.instances) k ds
untold_globals r k (_ ∷ ds) = untold_globals r k ds

module _ (decls : List (Decl ℕ)) where
  abbrev pub declared_by : Option (ClassDecl ℕ) → List Written
  declared_by None = []
  declared_by (Some d) = sections_written (sections_in d.members)

  -- what the bases of a class declare
  abbrev pub declared_above : ℕ → List Written
  declared_above c = flat_map (λ b. declared_by (slice_get (classes_in decls) b)) (drop 1 (chain (classes_in decls) c))

  abbrev pub untold_classes : List DeclaredClass
  untold_classes = each_numbered (λ c d. untold_class (length (filter is_kept_written (declared_above c))) (length (filter is_body_written (declared_above c))) d ∷ []) 0 (classes_in decls)

  abbrev pub untold_interfaces : List (List DeclaredRoutine)
  untold_interfaces = map (λ d. map untold_prototype d.methods) (interfaces_in decls)

  unfoldable pub untold_names : DeclaredNames
  untold_names = record {
    types = untold_types decls;
    parts = map (λ t. untold_parts t.body) (entries_in decls);
    classes = untold_classes;
    interfaces = untold_interfaces;
    globals = untold_globals 0 0 decls;
  }

pub record UntoldLaws : Type 0 where
  -- whatever was told before, the names are these
  pub names : (decls : List (Decl ℕ)) (a : DeclaredNames) → forgotten_names (names_from decls a) ≡ untold_names decls
