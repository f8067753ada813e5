-- The grammar of declarations, one case for each rule, in the words of specs/Grammar.antt.
use Rattle.std.specs.Prelude.{◌≡◌, ℕ, Bool, true, false, ◌||◌, List, [], ◌∷◌, Option, Some, None}
use Rattle.st_tree.specs.declared.terminal.Terminal.{Terminal}
use Rattle.st_tree.specs.declared.terminal.Terminal.TheVariants as x
use Rattle.st_tree.specs.declared.name.Name.{Name}
use Rattle.st_tree.specs.declared.name.Used.{Used}
use Rattle.st_tree.specs.declared.initial.Init.{Init}
use Rattle.st_tree.specs.declared.type_spec.TypeSpec.{TypeSpec}
use Rattle.st_tree.specs.declared.declaration.Modifier.{Modifier}
use Rattle.st_tree.specs.declared.declaration.Modifier.TheVariants as modifier
use Rattle.st_tree.specs.declared.declaration.SectionSort.{SectionSort}
use Rattle.st_tree.specs.declared.declaration.SectionSort.TheVariants as sort
use Rattle.st_tree.specs.declared.declaration.Item.{Item}
use Rattle.st_tree.specs.declared.declaration.Section.{Section}
use Rattle.st_tree.specs.declared.declaration.FieldGroup.{FieldGroup}
use Rattle.st_tree.specs.declared.declaration.TypeBody.{TypeBody}
use Rattle.st_tree.specs.declared.declaration.TypeBody.TheVariants as type
use Rattle.st_tree.specs.declared.declaration.TypeDecl.{TypeDecl}
use Rattle.st_tree.specs.declared.declaration.Prototype.{Prototype}
use Rattle.st_tree.specs.declared.declaration.InterfaceDecl.{InterfaceDecl}
use Rattle.st_tree.specs.declared.declaration.Method.{Method}
use Rattle.st_tree.specs.declared.declaration.Member.{Member}
use Rattle.st_tree.specs.declared.declaration.Member.TheVariants as members
use Rattle.st_tree.specs.declared.declaration.ClassSort.{ClassSort}
use Rattle.st_tree.specs.declared.declaration.ClassSort.TheVariants as classes
use Rattle.st_tree.specs.declared.declaration.ClassDecl.{ClassDecl}
use Rattle.st_tree.specs.declared.declaration.FunctionDecl.{FunctionDecl}
use Rattle.st_tree.specs.declared.declaration.ProgramDecl.{ProgramDecl}
use Rattle.st_tree.specs.declared.configuration.Setting.{Setting}
use Rattle.st_tree.specs.declared.configuration.SettingValue.{SettingValue}
use Rattle.st_tree.specs.declared.configuration.SettingValue.TheVariants as settings
use Rattle.st_tree.specs.declared.configuration.TaskSpec.{TaskSpec}
use Rattle.st_tree.specs.declared.configuration.InstanceSpec.{InstanceSpec}
use Rattle.st_tree.specs.declared.configuration.Resource.{Resource}
use Rattle.st_tree.specs.declared.configuration.Configuration.{Configuration}
use Rattle.st_tree.specs.declared.unit.Decl.{Decl}
use Rattle.st_tree.specs.declared.unit.Decl.TheVariants as decls
use Rattle.st_tree.specs.declared.unit.Unit.{Unit as ProgramText}
use Rattle.st_tree.specs.Initial.{initial_of}
use Rattle.st_tree.specs.Statement.{statements_of}
use Rattle.st_tree.specs.Grammar.{Lexeme, Phrase, ◌⋆◌, nothing, never, sign, spelled, word, name, at, marked, optional, each, type_spec, initial, body}

abbrev pub more_names : List Name → Phrase
more_names [] = nothing
more_names (n ∷ ns) = sign x.Comma ⋆ name n ⋆ more_names ns

-- names = name { "," name }
abbrev pub names : List Name → Phrase
names [] = never
names (n ∷ ns) = name n ⋆ more_names ns

-- a name that is used
abbrev pub used : Used ℕ → Phrase
used u = at u.note (word u.text)

abbrev pub more_used : List (Used ℕ) → Phrase
more_used [] = nothing
more_used (u ∷ us) = sign x.Comma ⋆ used u ⋆ more_used us

-- name { "," name }
abbrev pub used_names : List (Used ℕ) → Phrase
used_names [] = never
used_names (u ∷ us) = used u ⋆ more_used us

-- [":=" init]
abbrev pub start_value : Option (Init ℕ) → Phrase
start_value None = nothing
start_value (Some i) = sign x.Assign ⋆ initial (initial_of i)

-- [":" type]
abbrev pub result : Option (TypeSpec ℕ) → Phrase
result None = nothing
result (Some s) = sign x.Colon ⋆ type_spec s

-- ---- sections of variables

abbrev pub modifier_terminal : Modifier → Terminal
modifier_terminal modifier.Constant = x.Constant
modifier_terminal modifier.Retain = x.Retain
modifier_terminal modifier.NonRetain = x.NonRetain
modifier_terminal modifier.Persistent = x.Persistent
modifier_terminal modifier.Public = x.Public
modifier_terminal modifier.Protected = x.Protected
modifier_terminal modifier.Private = x.Private
modifier_terminal modifier.Internal = x.Internal
modifier_terminal modifier.Abstract = x.Abstract
modifier_terminal modifier.Final = x.Final
modifier_terminal modifier.Override = x.Override

-- keep = CONSTANT | RETAIN | NON_RETAIN | PERSISTENT
abbrev pub is_keep : Modifier → Bool
is_keep modifier.Constant = true
is_keep modifier.Retain = true
is_keep modifier.NonRetain = true
is_keep modifier.Persistent = true
is_keep _ = false

-- access = PUBLIC | PROTECTED | PRIVATE | INTERNAL
abbrev pub is_access : Modifier → Bool
is_access modifier.Public = true
is_access modifier.Protected = true
is_access modifier.Private = true
is_access modifier.Internal = true
is_access _ = false

-- ABSTRACT | FINAL
abbrev pub is_class_word : Modifier → Bool
is_class_word modifier.Abstract = true
is_class_word modifier.Final = true
is_class_word _ = false

-- ABSTRACT | FINAL | OVERRIDE
abbrev pub is_method_word : Modifier → Bool
is_method_word modifier.Override = true
is_method_word m = is_class_word m

-- a modifier of these
abbrev pub modifier_in : (Modifier → Bool) → Modifier → Phrase
modifier_in allowed m = λ ts rest. (allowed m ≡ true) × sign (modifier_terminal m) ts rest

abbrev pub section_terminal : SectionSort → Terminal
section_terminal sort.Var = x.Var
section_terminal sort.Input = x.VarInput
section_terminal sort.Output = x.VarOutput
section_terminal sort.InOut = x.VarInOut
section_terminal sort.Temp = x.VarTemp
section_terminal sort.External = x.VarExternal
section_terminal sort.Global = x.VarGlobal

abbrev pub is_global : SectionSort → Bool
is_global sort.Global = true
is_global _ = false

-- [AT address]
abbrev pub address : Option (List ℕ) → Phrase
address None = nothing
address (Some text) = sign x.At ⋆ spelled x.Address text

-- item = names [AT address] ":" type [":=" init] ";"
abbrev pub item : Item ℕ → Phrase
item i = marked i.marks (names i.names ⋆ address i.address ⋆ sign x.Colon ⋆ type_spec i.kind ⋆ start_value i.initial ⋆ sign x.Semicolon)

abbrev pub section : (Modifier → Bool) → Section ℕ → Phrase
section allowed s = at s.line (sign (section_terminal s.sort) ⋆ each (modifier_in allowed) s.modifiers ⋆ each item s.items ⋆ sign x.EndVar)

-- vars = ( VAR | .. | VAR_EXTERNAL ) { keep | access } { item } END_VAR
abbrev pub vars : Section ℕ → Phrase
vars s = λ ts rest. (is_global s.sort ≡ false) × section (λ m. is_keep m || is_access m) s ts rest

-- globals = VAR_GLOBAL { keep } { item } END_VAR
abbrev pub globals : Section ℕ → Phrase
globals s = λ ts rest. (is_global s.sort ≡ true) × section is_keep s ts rest

-- ---- types

-- names ":" type [":=" init] ";"
abbrev pub field_group : FieldGroup ℕ → Phrase
field_group g = names g.names ⋆ sign x.Colon ⋆ type_spec g.kind ⋆ start_value g.initial ⋆ sign x.Semicolon

-- spec = type ";" | "(" names ")" ";" | STRUCT { .. } END_STRUCT [";"]
abbrev pub type_body : TypeBody ℕ → Phrase
type_body (type.Alias s) = type_spec s ⋆ sign x.Semicolon
type_body (type.Enumeration ns) = sign x.Open ⋆ names ns ⋆ sign x.Close ⋆ sign x.Semicolon
type_body (type.Structure gs) = sign x.Struct ⋆ each field_group gs ⋆ sign x.EndStruct ⋆ optional x.Semicolon

-- name ":" spec
abbrev pub type_decl : TypeDecl ℕ → Phrase
type_decl d = name d.name ⋆ sign x.Colon ⋆ type_body d.body

-- ---- interfaces and classes

-- METHOD name [":" type] [";"] { vars } END_METHOD
abbrev pub prototype : Prototype ℕ → Phrase
prototype m = at m.line (sign x.Method ⋆ name m.name ⋆ result m.result ⋆ optional x.Semicolon ⋆ each vars m.sections ⋆ sign x.EndMethod)

-- [EXTENDS names]
abbrev pub extended : List (Used ℕ) → Phrase
extended [] = nothing
extended (u ∷ us) = sign x.Extends ⋆ used_names (u ∷ us)

-- interface = INTERFACE name [EXTENDS names] { .. } END_INTERFACE
abbrev pub interface : InterfaceDecl ℕ → Phrase
interface i = at i.line (sign x.Interface ⋆ name i.name ⋆ extended i.bases ⋆ each prototype i.methods ⋆ sign x.EndInterface)

-- method = METHOD { access | ABSTRACT | FINAL | OVERRIDE } name [":" type] [";"] { vars } body END_METHOD
abbrev pub method : Method ℕ → Phrase
method m =
    at m.line (sign x.Method ⋆ each (modifier_in (λ w. is_access w || is_method_word w)) m.modifiers ⋆ name m.name ⋆ result m.result ⋆ optional x.Semicolon
    ⋆ each vars m.sections ⋆ body (statements_of m.body) ⋆ sign x.EndMethod)

-- vars | method
abbrev pub member : Member ℕ → Phrase
member (members.Section s) = vars s
member (members.Method m) = method m

-- [EXTENDS name]
abbrev pub base : Option (Used ℕ) → Phrase
base None = nothing
base (Some u) = sign x.Extends ⋆ used u

-- [IMPLEMENTS names]
abbrev pub implemented : List (Used ℕ) → Phrase
implemented [] = nothing
implemented (u ∷ us) = sign x.Implements ⋆ used_names (u ∷ us)

-- head = { ABSTRACT | FINAL } name [EXTENDS name] [IMPLEMENTS names]
abbrev pub head : ClassDecl ℕ → Phrase
head c = each (modifier_in is_class_word) c.modifiers ⋆ name c.name ⋆ base c.base ⋆ implemented c.interfaces

-- class = CLASS head { vars | method } END_CLASS; block = FUNCTION_BLOCK head { vars | method } body END_FUNCTION_BLOCK
abbrev pub class_of : ClassSort → ClassDecl ℕ → Phrase
class_of classes.Class c = λ ts rest. (c.body ≡ []) × (sign x.Class ⋆ head c ⋆ each member c.members ⋆ sign x.EndClass) ts rest
class_of classes.FunctionBlock c = sign x.FunctionBlock ⋆ head c ⋆ each member c.members ⋆ body (statements_of c.body) ⋆ sign x.EndFunctionBlock

abbrev pub class : ClassDecl ℕ → Phrase
class c = at c.line (class_of c.sort c)

-- ---- functions, programs, configurations

-- function = FUNCTION name [":" type] [";"] { vars } body END_FUNCTION
abbrev pub function : FunctionDecl ℕ → Phrase
function f =
    at f.line (sign x.Function ⋆ name f.name ⋆ result f.result ⋆ optional x.Semicolon ⋆ each vars f.sections ⋆ body (statements_of f.body) ⋆ sign x.EndFunction)

-- program = PROGRAM name { vars } body END_PROGRAM
abbrev pub program : ProgramDecl ℕ → Phrase
program p = at p.line (sign x.Program ⋆ name p.name ⋆ each vars p.sections ⋆ body (statements_of p.body) ⋆ sign x.EndProgram)

abbrev pub setting_value : SettingValue → Phrase
setting_value (settings.Int digits) = spelled x.Int digits
setting_value (settings.Time text) = spelled x.Duration text

-- set = name ":=" ( int | time )
abbrev pub setting : Setting → Phrase
setting s = name s.name ⋆ sign x.Assign ⋆ at s.line (setting_value s.value)

abbrev pub more_settings : List Setting → Phrase
more_settings [] = nothing
more_settings (s ∷ ss) = sign x.Comma ⋆ setting s ⋆ more_settings ss

-- [ set { "," set } ]
abbrev pub task_settings : List Setting → Phrase
task_settings [] = nothing
task_settings (s ∷ ss) = setting s ⋆ more_settings ss

-- TASK name "(" [ set { "," set } ] ")" ";"
abbrev pub task : TaskSpec → Phrase
task t = at t.line (sign x.Task ⋆ name t.name ⋆ sign x.Open ⋆ task_settings t.settings ⋆ sign x.Close ⋆ sign x.Semicolon)

-- PROGRAM name WITH name ":" name ";"
abbrev pub instance : InstanceSpec → Phrase
instance i = at i.line (sign x.Program ⋆ name i.name ⋆ sign x.With ⋆ name i.task ⋆ sign x.Colon ⋆ name i.program ⋆ sign x.Semicolon)

-- tasks = { TASK .. } { PROGRAM .. }
abbrev pub tasks : Configuration ℕ → Phrase
tasks c = each task c.tasks ⋆ each instance c.instances

-- RESOURCE name ON name { globals } tasks END_RESOURCE | tasks
abbrev pub resource : Option (Resource ℕ) → Phrase → Phrase
resource None P = P
resource (Some r) P = sign x.Resource ⋆ name r.name ⋆ sign x.On ⋆ name r.processor ⋆ each globals r.globals ⋆ P ⋆ sign x.EndResource

-- config = CONFIGURATION name { globals } ( RESOURCE .. | tasks ) END_CONFIGURATION
abbrev pub configuration : Configuration ℕ → Phrase
configuration c = at c.line (sign x.Configuration ⋆ name c.name ⋆ each globals c.globals ⋆ resource c.resource (tasks c) ⋆ sign x.EndConfiguration)

-- decl = TYPE { name ":" spec } END_TYPE | globals | interface | class | block | function | program | config
abbrev pub declaration : Decl ℕ → Phrase
declaration (decls.Types line ds) = at line (sign x.Type ⋆ each type_decl ds ⋆ sign x.EndType)
declaration (decls.Globals s) = globals s
declaration (decls.Interface i) = interface i
declaration (decls.Class c) = class c
declaration (decls.Function f) = function f
declaration (decls.Program p) = program p
declaration (decls.Configuration c) = configuration c

-- unit = { decl }: the lexemes, all of them, spell the unit
abbrev pub Derives : List Lexeme → ProgramText → Type 0
Derives ts unit = each declaration unit.decls ts []
