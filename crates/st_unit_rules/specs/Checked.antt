-- The checked program of a unit: its declarations with the types of all expressions and the meanings of all names, its regions and its tasks.
use Rattle.std.specs.Prelude.{◌≡◌, ℕ, suc, ◌+◌, Bool, true, false, if◌then◌else◌, List, [], ◌∷◌, ◌++◌, map, flat_map, length, Option, Some, None, option_map}
use Rattle.st_types.specs.declared.st_type.StType.{StType}
use Rattle.st_types.specs.declared.st_type.StType.TheVariants as type
use Rattle.st_tree.specs.Duration.{milliseconds}
use Rattle.st_tree.specs.Number.{number_of}
use Rattle.st_tree.specs.Reads.{no_marks}
use Rattle.st_tree.specs.declared.configuration.Configuration.{Configuration}
use Rattle.st_tree.specs.declared.configuration.InstanceSpec.{InstanceSpec}
use Rattle.st_tree.specs.declared.configuration.Setting.{Setting}
use Rattle.st_tree.specs.declared.configuration.SettingValue.{SettingValue}
use Rattle.st_tree.specs.declared.configuration.SettingValue.TheVariants as value
use Rattle.st_tree.specs.declared.configuration.TaskSpec.{TaskSpec}
use Rattle.st_tree.specs.declared.declaration.ClassDecl.{ClassDecl}
use Rattle.st_tree.specs.declared.declaration.FieldGroup.{FieldGroup}
use Rattle.st_tree.specs.declared.declaration.FunctionDecl.{FunctionDecl}
use Rattle.st_tree.specs.declared.declaration.InterfaceDecl.{InterfaceDecl}
use Rattle.st_tree.specs.declared.declaration.Item.{Item}
use Rattle.st_tree.specs.declared.declaration.Member.{Member}
use Rattle.st_tree.specs.declared.declaration.Member.TheVariants as member
use Rattle.st_tree.specs.declared.declaration.Method.{Method}
use Rattle.st_tree.specs.declared.declaration.ProgramDecl.{ProgramDecl}
use Rattle.st_tree.specs.declared.declaration.Prototype.{Prototype}
use Rattle.st_tree.specs.declared.declaration.Section.{Section}
use Rattle.st_tree.specs.declared.declaration.TypeBody.{TypeBody}
use Rattle.st_tree.specs.declared.declaration.TypeBody.TheVariants as body
use Rattle.st_tree.specs.declared.declaration.TypeDecl.{TypeDecl}
use Rattle.st_tree.specs.declared.initial.Init.{Init}
use Rattle.st_tree.specs.declared.marks.Marks.{Marks}
use Rattle.st_tree.specs.declared.name.Name.{Name}
use Rattle.st_tree.specs.declared.name.Used.{Used}
use Rattle.st_tree.specs.declared.program.Note.{Note}
use Rattle.st_tree.specs.declared.program.Program.{Program}
use Rattle.st_tree.specs.declared.program.RegionDecl.{RegionDecl}
use Rattle.st_tree.specs.declared.program.Target.TheVariants as target
use Rattle.st_tree.specs.declared.program.TaskDecl.{TaskDecl}
use Rattle.st_tree.specs.declared.statement.Stmt.{Stmt}
use Rattle.st_tree.specs.declared.type_spec.ArraySpec.{ArraySpec}
use Rattle.st_tree.specs.declared.type_spec.Bounds.{Bounds}
use Rattle.st_tree.specs.declared.type_spec.SimpleSpec.{SimpleSpec}
use Rattle.st_tree.specs.declared.type_spec.SimpleSpec.TheVariants as spec
use Rattle.st_tree.specs.declared.type_spec.TypeSpec.{TypeSpec}
use Rattle.st_tree.specs.declared.unit.Decl.{Decl}
use Rattle.st_tree.specs.Expression.{expression_of}
use Rattle.st_tree.specs.Initial.{initial_of}
use Rattle.st_tree.specs.Statement.{statements_of}
use Rattle.plc_text.specs.Words.{same}
use Rattle.st_rules.specs.declared.asked.Asked.TheVariants.{Anything}
use Rattle.st_rules.specs.declared.names.DeclaredNames.{DeclaredNames}
use Rattle.st_rules.specs.Classes.{classes_in}
use Rattle.st_rules.specs.Interfaces.{interfaces_in}
use Rattle.st_rules.specs.Named.{first_place}
use Rattle.st_rules.specs.Scope.{Scope}
use Rattle.st_rules.specs.Expressions.{note, told}
use Rattle.st_rules.specs.Statements.{typed_statements}
use Rattle.st_unit_rules.specs.ConfigurationRules.{is_interval, is_priority, runs_in}
use Rattle.st_unit_rules.specs.declared_names.Declarations.{Region, of_global, of_instance, Declaration, declarations_of, regions_of, instances_of, is_first_configuration, entries_in, functions_in, programs_in, configurations_in}
use Rattle.st_unit_rules.specs.Initials.{typed_constant, typed_initial}
use Rattle.st_unit_rules.specs.declared_names.UnitNames.{unit_names, unit_scope, class_scope, method_scope, function_scope, prototype_scope, program_scope}
use Rattle.st_unit_rules.specs.declared_names.Variables.{Written}
use Rattle.st_unit_rules.specs.declared_names.WrittenTypes.{arrays_of, element_written, type_written}

-- each of a list is related to the one in its place, and both lists are as long
abbrev pub Each : {A B : Type 0} → (A → B → Type 0) → List A → List B → Type 0
Each R [] [] = Unit {0}
Each R (a ∷ as') (b ∷ bs) = R a b × Each R as' bs
Each R _ _ = ⊥

abbrev pub EachFrom : {A B : Type 0} → (ℕ → A → B → Type 0) → ℕ → List A → List B → Type 0
EachFrom R n [] [] = Unit {0}
EachFrom R n (a ∷ as') (b ∷ bs) = R n a b × EachFrom R (suc n) as' bs
EachFrom R n _ _ = ⊥

abbrev pub IfThere : {A B : Type 0} → (A → B → Type 0) → Option A → Option B → Type 0
IfThere R None None = Unit {0}
IfThere R (Some a) (Some b) = R a b
IfThere R _ _ = ⊥

-- ---- what is typed in a scope

module _ (s : Scope) where
  -- the line stays, the type is noted
  abbrev pub noted : ℕ → Option StType → Note
  noted l t = note l t target.Nothing

  pub record TypedBounds (b : Bounds ℕ) (c : Bounds Note) : Type 0 where
    pub low : expression_of c.low ≡ typed_constant s Anything (expression_of b.low)
    pub high : expression_of c.high ≡ typed_constant s Anything (expression_of b.high)

  abbrev pub TypedElement : SimpleSpec ℕ → SimpleSpec Note → Type 0
  TypedElement (spec.Elementary l e) u = u ≡ spec.Elementary (noted l (element_written s (spec.Elementary l e))) e
  TypedElement (spec.Named l name) u = u ≡ spec.Named (noted l (element_written s (spec.Named l name))) name
  TypedElement (spec.Reference l k name) u = u ≡ spec.Reference (noted l (element_written s (spec.Reference l k name))) (noted k (element_written s (spec.Named k name))) name

  -- each ARRAY has the type from there on
  abbrev pub type_from : List (ArraySpec ℕ) → SimpleSpec ℕ → Option StType
  type_from arrays element = arrays_of s (flat_map (λ a. a.bounds) arrays) (element_written s element)

  abbrev pub TypedArrays : SimpleSpec ℕ → List (ArraySpec ℕ) → List (ArraySpec Note) → Type 0
  TypedArrays element [] [] = Unit {0}
  TypedArrays element (a ∷ as') (b ∷ bs) = (b.note ≡ noted a.note (type_from (a ∷ as') element)) × Each TypedBounds a.bounds b.bounds × TypedArrays element as' bs
  TypedArrays element _ _ = ⊥

  pub record TypedSpec (t : TypeSpec ℕ) (u : TypeSpec Note) : Type 0 where
    pub arrays : TypedArrays t.element t.arrays u.arrays
    pub element : TypedElement t.element u.element

  abbrev pub TypedInitial : TypeSpec ℕ → Init ℕ → Init Note → Type 0
  TypedInitial t i j = initial_of j ≡ typed_initial s (type_written s t) (initial_of i)

  pub record TypedItem (x : Item ℕ) (y : Item Note) : Type 0 where
    pub marks : y.marks ≡ x.marks
    pub names : y.names ≡ x.names
    pub address : y.address ≡ x.address
    pub kind : TypedSpec x.kind y.kind
    pub initial : IfThere (TypedInitial x.kind) x.initial y.initial

  pub record TypedSection (x : Section ℕ) (y : Section Note) : Type 0 where
    pub line : y.line ≡ x.line
    pub sort : y.sort ≡ x.sort
    pub modifiers : y.modifiers ≡ x.modifiers
    pub items : Each TypedItem x.items y.items

  abbrev pub TypedBody : List (Stmt ℕ) → List (Stmt Note) → Type 0
  TypedBody x y = statements_of y ≡ typed_statements s (statements_of x)

  pub record TypedGroup (x : FieldGroup ℕ) (y : FieldGroup Note) : Type 0 where
    pub names : y.names ≡ x.names
    pub kind : TypedSpec x.kind y.kind
    pub initial : IfThere (TypedInitial x.kind) x.initial y.initial

-- a name that is used, with the type that it means
abbrev pub TypedUsed : (List ℕ → Option StType) → Used ℕ → Used Note → Type 0
TypedUsed means x y = (y.note ≡ note x.note (means x.text) target.Nothing) × (y.text ≡ x.text)

module _ (decls : List (Decl ℕ)) where
  abbrev pub names : DeclaredNames
  names = unit_names decls

  abbrev pub unit : Scope
  unit = unit_scope decls names

  -- ---- declarations

  abbrev pub TypedTypeBody : TypeBody ℕ → TypeBody Note → Type 0
  TypedTypeBody (body.Alias t) (body.Alias u) = TypedSpec unit t u
  TypedTypeBody (body.Enumeration ns) (body.Enumeration ms) = ms ≡ ns
  TypedTypeBody (body.Structure gs) (body.Structure hs) = Each (TypedGroup unit) gs hs
  TypedTypeBody _ _ = ⊥

  pub record TypedEntry (x : TypeDecl ℕ) (y : TypeDecl Note) : Type 0 where
    pub name : y.name ≡ x.name
    pub body : TypedTypeBody x.body y.body

  pub record TypedMethod (c : ℕ) (x : Method ℕ) (y : Method Note) : Type 0 where
    pub line : y.line ≡ x.line
    pub modifiers : y.modifiers ≡ x.modifiers
    pub name : y.name ≡ x.name
    pub result : IfThere (TypedSpec (method_scope decls names c x)) x.result y.result
    pub sections : Each (TypedSection (method_scope decls names c x)) x.sections y.sections
    pub body : TypedBody (method_scope decls names c x) x.body y.body

  abbrev pub TypedMember : ℕ → Member ℕ → Member Note → Type 0
  TypedMember c (member.Section x) (member.Section y) = TypedSection (class_scope decls names c) x y
  TypedMember c (member.Method x) (member.Method y) = TypedMethod c x y
  TypedMember c _ _ = ⊥

  abbrev pub class_meant : List ℕ → Option StType
  class_meant name = option_map type.Instance (first_place name (map (λ d. d.name.text) (classes_in decls)))

  abbrev pub interface_meant : List ℕ → Option StType
  interface_meant name = option_map type.Interface (first_place name (map (λ d. d.name.text) (interfaces_in decls)))

  pub record TypedClass (c : ℕ) (x : ClassDecl ℕ) (y : ClassDecl Note) : Type 0 where
    pub line : y.line ≡ x.line
    pub sort : y.sort ≡ x.sort
    pub modifiers : y.modifiers ≡ x.modifiers
    pub name : y.name ≡ x.name
    pub base : IfThere (TypedUsed class_meant) x.base y.base
    pub interfaces : Each (TypedUsed interface_meant) x.interfaces y.interfaces
    pub members : Each (TypedMember c) x.members y.members
    pub body : TypedBody (class_scope decls names c) x.body y.body

  pub record TypedPrototype (x : Prototype ℕ) (y : Prototype Note) : Type 0 where
    pub line : y.line ≡ x.line
    pub name : y.name ≡ x.name
    pub result : IfThere (TypedSpec (prototype_scope decls names x)) x.result y.result
    pub sections : Each (TypedSection (prototype_scope decls names x)) x.sections y.sections

  pub record TypedInterface (x : InterfaceDecl ℕ) (y : InterfaceDecl Note) : Type 0 where
    pub line : y.line ≡ x.line
    pub name : y.name ≡ x.name
    pub bases : Each (TypedUsed interface_meant) x.bases y.bases
    pub methods : Each TypedPrototype x.methods y.methods

  pub record TypedFunction (x : FunctionDecl ℕ) (y : FunctionDecl Note) : Type 0 where
    pub line : y.line ≡ x.line
    pub name : y.name ≡ x.name
    pub result : IfThere (TypedSpec (function_scope decls names x)) x.result y.result
    pub sections : Each (TypedSection (function_scope decls names x)) x.sections y.sections
    pub body : TypedBody (function_scope decls names x) x.body y.body

  pub record TypedProgram (x : ProgramDecl ℕ) (y : ProgramDecl Note) : Type 0 where
    pub line : y.line ≡ x.line
    pub name : y.name ≡ x.name
    pub sections : Each (TypedSection (program_scope decls names x)) x.sections y.sections
    pub body : TypedBody (program_scope decls names x) x.body y.body

  -- ---- regions: globals that are no constants, and program instances, in the order of the text

  abbrev pub regions_from : List Declaration → List (Decl ℕ) → List Region
  regions_from earlier [] = []
  regions_from earlier (d ∷ ds) = flat_map regions_of (declarations_of d) ++ (instances_of (is_first_configuration earlier) d ++ regions_from (earlier ++ declarations_of d) ds)

  abbrev pub unit_regions : List Region
  unit_regions = regions_from [] decls

  -- the first name of an item has its marks; the old name counts for that one alone
  abbrev pub is_first_name : List Name → List ℕ → Bool
  is_first_name [] name = true
  is_first_name (n ∷ ns) name = same n.text name

  abbrev pub marks_of : Written → Marks
  marks_of w = if is_first_name w.item.names w.name.text then w.item.marks else record w.item.marks { renamed_from = None }

  -- a program is numbered behind all classes
  abbrev pub program_type : List ℕ → Option StType
  program_type name = option_map (λ k. type.Instance (length (classes_in decls) + k)) (first_place name (map (λ p. p.name.text) (programs_in decls)))

  -- the type of a region is noted as all types are
  pub record GlobalRegion (w : Written) (r : RegionDecl) : Type 0 where
    pub name : r.name ≡ w.name.text
    pub program : r.program ≡ false
    pub kind : r.kind ≡ told (type_written unit w.item.kind)
    pub marks : r.marks ≡ marks_of w
    pub initial : IfThere (TypedInitial unit w.item.kind) w.item.initial r.initial
    pub address : r.address ≡ w.item.address

  pub record InstanceRegion (x : InstanceSpec) (r : RegionDecl) : Type 0 where
    pub name : r.name ≡ x.name.text
    pub program : r.program ≡ true
    pub kind : r.kind ≡ told (program_type x.program.text)
    pub marks : r.marks ≡ no_marks
    pub initial : r.initial ≡ None
    pub address : r.address ≡ None

  abbrev pub TypedRegion : Region → RegionDecl → Type 0
  TypedRegion (of_global w) r = GlobalRegion w r
  TypedRegion (of_instance x) r = InstanceRegion x r

  -- ---- tasks, with the regions of their programs in the order of the text

  abbrev pub setting_value : (List ℕ → Bool) → List Setting → Option ℕ
  setting_value test [] = None
  setting_value test (x ∷ xs) = if test x.name.text then Some (of x.value) else setting_value test xs
    where
      of : SettingValue → ℕ
      of (value.Int digits) = number_of digits
      of (value.Time text) = milliseconds text

  abbrev pub region_of_task : List ℕ → ℕ → List Region → List ℕ
  region_of_task task r [] = []
  region_of_task task r (of_global w ∷ xs) = region_of_task task (suc r) xs
  region_of_task task r (of_instance x ∷ xs) = if runs_in task x then r ∷ region_of_task task (suc r) xs else region_of_task task (suc r) xs

  pub record TypedTask (x : TaskSpec) (y : TaskDecl) : Type 0 where
    pub name : y.name ≡ x.name.text
    pub interval : y.interval ≡ setting_value is_interval x.settings
    pub priority : y.priority ≡ setting_value is_priority x.settings
    pub programs : y.programs ≡ region_of_task x.name.text 0 unit_regions

  abbrev pub tasks_of : List (Configuration ℕ) → List TaskSpec
  tasks_of [] = []
  tasks_of (c ∷ cs) = c.tasks

  -- ---- the program

  -- the program is the checked one of the unit
  pub record IsChecked (p : Program) : Type 0 where
    pub types : Each TypedEntry (entries_in decls) p.types
    pub classes : EachFrom TypedClass 0 (classes_in decls) p.classes
    pub interfaces : Each TypedInterface (interfaces_in decls) p.interfaces
    pub functions : Each TypedFunction (functions_in decls) p.functions
    pub programs : Each TypedProgram (programs_in decls) p.programs
    pub regions : Each TypedRegion unit_regions p.regions
    pub tasks : Each TypedTask (tasks_of (configurations_in decls)) p.tasks
