-- How the meaning sees a program of the code: what its sections, items and types declare, in the order of the text.
use Rattle.std.specs.Prelude.{ℕ, suc, Bool, true, false, if◌then◌else◌, List, [], ◌∷◌, ◌++◌, reverse, length, map, filter, flat_map, filter_map, Option, Some, None, option_map, option_and_then, slice_get}
use Rattle.std.specs.List.{range_with_len}
use Rattle.st_types.specs.declared.st_type.StType.{StType}
use Rattle.st_types.specs.declared.st_type.StType.TheVariants as type
use Rattle.st_tree.specs.declared.declaration.ClassDecl.{ClassDecl}
use Rattle.st_tree.specs.declared.declaration.ClassSort.{ClassSort}
use Rattle.st_tree.specs.declared.declaration.ClassSort.TheVariants as class_sort
use Rattle.st_tree.specs.declared.declaration.FieldGroup.{FieldGroup}
use Rattle.st_tree.specs.declared.declaration.FunctionDecl.{FunctionDecl}
use Rattle.st_tree.specs.declared.declaration.InterfaceDecl.{InterfaceDecl}
use Rattle.st_tree.specs.declared.declaration.Item.{Item}
use Rattle.st_tree.specs.declared.declaration.Member.{Member}
use Rattle.st_tree.specs.declared.declaration.Member.TheVariants as member
use Rattle.st_tree.specs.declared.declaration.Method.{Method}
use Rattle.st_tree.specs.declared.declaration.ProgramDecl.{ProgramDecl}
use Rattle.st_tree.specs.declared.declaration.Prototype.{Prototype}
use Rattle.st_tree.specs.declared.declaration.Section.{Section}
use Rattle.st_tree.specs.declared.declaration.SectionSort.{SectionSort}
use Rattle.st_tree.specs.declared.declaration.SectionSort.TheVariants as sort
use Rattle.st_tree.specs.declared.declaration.TypeBody.{TypeBody as WrittenBody}
use Rattle.st_tree.specs.declared.declaration.TypeBody.TheVariants as written
use Rattle.st_tree.specs.declared.declaration.TypeDecl.{TypeDecl}
use Rattle.st_tree.specs.declared.marks.Marks.{Marks}
use Rattle.st_tree.specs.declared.name.Name.{Name}
use Rattle.st_tree.specs.declared.initial.Init.{Init}
use Rattle.st_tree.specs.declared.program.Note.{Note}
use Rattle.st_tree.specs.declared.program.Program.{Program as CheckedProgram}
use Rattle.st_tree.specs.declared.program.RegionDecl.{RegionDecl}
use Rattle.st_tree.specs.declared.type_spec.ArraySpec.{ArraySpec}
use Rattle.st_tree.specs.declared.type_spec.SimpleSpec.{SimpleSpec}
use Rattle.st_tree.specs.declared.type_spec.SimpleSpec.TheVariants as spec
use Rattle.st_tree.specs.declared.type_spec.TypeSpec.{TypeSpec}
use Rattle.st_tree.specs.Initial.{Initial, initial_of}
use Rattle.st_tree.specs.Reads.{no_marks}
use Rattle.st_tree.specs.Statement.{Statements, statements_of}
use Rattle.st_rules.specs.Classes.{chain, methods_in}
use Rattle.st_rules.specs.Interfaces.{conforms, prototype_names, prototype_at, interface_lookup}
use Rattle.st_rules.specs.Modifiers.{is_constant}
use Rattle.st_values.specs.Program.{Variable, to_local, to_variable, Parameter, Routine, Sort, a_class, a_block, a_program, Class, Signature, Interface, TypeBody, an_alias, an_enumeration, a_structure, TypeEntry, Region, Program}

-- ---- types and variables

-- the type that is written, as it is noted at its first word
abbrev pub kind_written : List (ArraySpec Note) → SimpleSpec Note → StType
kind_written (array ∷ arrays) element = array.note.kind
kind_written [] (spec.Elementary a e) = a.kind
kind_written [] (spec.Named a name) = a.kind
kind_written [] (spec.Reference a b name) = a.kind

abbrev pub kind_of : TypeSpec Note → StType
kind_of s = kind_written s.arrays s.element

abbrev pub initial_in : Option (Init Note) → Option (Initial Note)
initial_in i = option_map initial_of i

-- an old name counts for the first variable of an item
abbrev pub named_variables : SectionSort → Item Note → Marks → List Name → List Variable
named_variables s item m [] = []
named_variables s item m (n ∷ ns) =
    record { name = n.text; sort = s; kind = kind_of item.kind; initial = initial_in item.initial; marks = m; address = item.address }
    ∷ named_variables s item (record m { renamed_from = None }) ns

abbrev pub items_in : SectionSort → List (Item Note) → List Variable
items_in s [] = []
items_in s (item ∷ items) = named_variables s item item.marks item.names ++ items_in s items

-- externals are the globals themselves
abbrev pub sorted_items : SectionSort → List (Item Note) → List Variable
sorted_items sort.External items = []
sorted_items s items = items_in s items

-- the variables of sections; constants are none
abbrev pub variables_in : List (Section Note) → List Variable
variables_in [] = []
variables_in (s ∷ ss) = (if is_constant s.modifiers then [] else sorted_items s.sort s.items) ++ variables_in ss

-- an instance keeps it
abbrev pub is_kept : SectionSort → Bool
is_kept sort.Var = true
is_kept sort.Input = true
is_kept sort.Output = true
is_kept _ = false

abbrev pub is_parameter : SectionSort → Bool
is_parameter sort.Input = true
is_parameter sort.Output = true
is_parameter sort.InOut = true
is_parameter _ = false

-- a local of a body: an in-out or a temporary variable
abbrev pub is_of_body : SectionSort → Bool
is_of_body sort.InOut = true
is_of_body sort.Temp = true
is_of_body _ = false

abbrev pub those : (SectionSort → Bool) → List Variable → List Variable
those test vs = filter (λ v. test v.sort) vs

abbrev pub negated : (SectionSort → Bool) → SectionSort → Bool
negated test s = if test s then false else true

-- ---- routines

abbrev pub result_of : List ℕ → Option (TypeSpec Note) → List Variable
result_of name None = []
result_of name (Some s) = record { name = name; sort = sort.Var; kind = kind_of s; initial = None; marks = no_marks; address = None } ∷ []

-- locals from this number on
abbrev pub local_parameters : ℕ → List Variable → List Parameter
local_parameters n [] = []
local_parameters n (v ∷ vs) = record { sort = v.sort; to = to_local n } ∷ local_parameters (suc n) vs

abbrev pub routine_of : Option ℕ → List ℕ → ℕ → Option (TypeSpec Note) → List Variable → Statements Note → Routine
routine_of class name line result vs body =
    let first = result_of name result in
    record {
      name = name;
      line = line;
      class = class;
      parameters = local_parameters (length first) (those is_parameter vs);
      locals = first ++ (those is_parameter vs ++ those (negated is_parameter) vs);
      body = body;
    }

abbrev pub method_of : ℕ → Method Note → Routine
method_of c m = routine_of (Some c) m.name.text m.line m.result (variables_in m.sections) (statements_of m.body)

abbrev pub function_of : FunctionDecl Note → Routine
function_of f = routine_of None f.name.text f.line f.result (variables_in f.sections) (statements_of f.body)

-- the inputs and outputs of a body are variables of the instance, its in-outs are locals; from these numbers on
abbrev pub body_parameters : ℕ → ℕ → List Variable → List Parameter
body_parameters k l [] = []
body_parameters k l (v ∷ vs) = of v.sort (body_parameters (suc k) l vs) (body_parameters k (suc l) vs)
  where
    of : SectionSort → List Parameter → List Parameter → List Parameter
    of sort.Input behind_variable behind_local = record { sort = sort.Input; to = to_variable k } ∷ behind_variable
    of sort.Output behind_variable behind_local = record { sort = sort.Output; to = to_variable k } ∷ behind_variable
    of sort.InOut behind_variable behind_local = record { sort = sort.InOut; to = to_local l } ∷ behind_local
    of sort.Temp behind_variable behind_local = behind_local
    of _ behind_variable behind_local = behind_variable

-- the body of a block or program whose class has these variables, those of its bases first
abbrev pub body_routine : ℕ → List ℕ → ℕ → List Variable → Statements Note → Routine
body_routine c name line vs body = record { name = name; line = line; class = Some c; parameters = body_parameters 0 0 vs; locals = those is_of_body vs; body = body }

-- ---- classes and programs

abbrev pub sections_in : List (Member Note) → List (Section Note)
sections_in [] = []
sections_in (member.Section s ∷ ms) = s ∷ sections_in ms
sections_in (member.Method m ∷ ms) = sections_in ms

abbrev pub declared_by : Option (ClassDecl Note) → List Variable
declared_by None = []
declared_by (Some c) = variables_in (sections_in c.members)

abbrev pub declared_along : List (ClassDecl Note) → List ℕ → List Variable
declared_along classes [] = []
declared_along classes (c ∷ cs) = declared_by (slice_get classes c) ++ declared_along classes cs

abbrev pub sort_of : ClassSort → Sort
sort_of class_sort.Class = a_class
sort_of class_sort.FunctionBlock = a_block

abbrev pub class_of : List (ClassDecl Note) → List (InterfaceDecl Note) → ℕ → ClassDecl Note → Class
class_of classes interfaces c decl = record {
  name = decl.name.text;
  sort = sort_of decl.sort;
  chain = chain classes c;
  interfaces = filter (λ i. conforms classes interfaces c (type.Interface i)) (range_with_len 0 (length interfaces));
  own = those is_kept (variables_in (sections_in decl.members));
  methods = map (method_of c) (methods_in decl.members);
  body = body_routine c decl.name.text decl.line (declared_along classes (reverse (chain classes c))) (statements_of decl.body);
}

abbrev pub classes_from : List (ClassDecl Note) → List (InterfaceDecl Note) → ℕ → List (ClassDecl Note) → List Class
classes_from classes interfaces c [] = []
classes_from classes interfaces c (d ∷ ds) = class_of classes interfaces c d ∷ classes_from classes interfaces (suc c) ds

abbrev pub programs_from : ℕ → List (ProgramDecl Note) → List Class
programs_from c [] = []
programs_from c (d ∷ ds) =
    record {
      name = d.name.text;
      sort = a_program;
      chain = c ∷ [];
      interfaces = [];
      own = those is_kept (variables_in d.sections);
      methods = [];
      body = body_routine c d.name.text d.line (variables_in d.sections) (statements_of d.body);
    }
    ∷ programs_from (suc c) ds

-- ---- interfaces

abbrev pub signature_of : Prototype Note → Signature
signature_of m = record { name = m.name.text; parameters = local_parameters (length (result_of m.name.text m.result)) (those is_parameter (variables_in m.sections)) }

-- the method that a name means in an interface
abbrev pub meant_in : List (InterfaceDecl Note) → ℕ → List ℕ → Option Signature
meant_in interfaces i name = option_map signature_of (option_and_then (prototype_at interfaces) (interface_lookup interfaces i name))

abbrev pub interfaces_from : List (InterfaceDecl Note) → ℕ → List (InterfaceDecl Note) → List Interface
interfaces_from interfaces i [] = []
interfaces_from interfaces i (d ∷ ds) =
    record { name = d.name.text; methods = filter_map (meant_in interfaces i) (flat_map prototype_names interfaces) } ∷ interfaces_from interfaces (suc i) ds

-- ---- the program

abbrev pub texts : List Name → List (List ℕ)
texts ns = map (λ n. n.text) ns

abbrev pub group_variables : FieldGroup Note → List Name → List Variable
group_variables g [] = []
group_variables g (n ∷ ns) =
    record { name = n.text; sort = sort.Var; kind = kind_of g.kind; initial = initial_in g.initial; marks = no_marks; address = None } ∷ group_variables g ns

abbrev pub groups_in : List (FieldGroup Note) → List Variable
groups_in [] = []
groups_in (g ∷ gs) = group_variables g g.names ++ groups_in gs

abbrev pub type_body : WrittenBody Note → TypeBody
type_body (written.Alias s) = an_alias
type_body (written.Enumeration ns) = an_enumeration (texts ns)
type_body (written.Structure gs) = a_structure (groups_in gs)

abbrev pub type_entry : TypeDecl Note → TypeEntry
type_entry t = record { name = t.name.text; body = type_body t.body }

abbrev pub region_of : RegionDecl → Region
region_of r = record {
  program = r.program;
  variable = record { name = r.name; sort = sort.Global; kind = r.kind; initial = initial_in r.initial; marks = r.marks; address = r.address };
}

abbrev pub program_of : CheckedProgram → Program
program_of p = record {
  types = map type_entry p.types;
  classes = classes_from p.classes p.interfaces 0 p.classes ++ programs_from (length p.classes) p.programs;
  interfaces = interfaces_from p.interfaces 0 p.interfaces;
  functions = map function_of p.functions;
  regions = map region_of p.regions;
  tasks = p.tasks;
}
