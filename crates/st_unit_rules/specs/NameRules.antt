-- E04: names that are declared twice in their space, or may not be declared there, and words that stand twice (IEC 61131-3:2013, 6.1.2).
use Rattle.std.specs.Prelude.{ℕ, nat_lt, Bool, true, false, not, ◌||◌, List, [], ◌∷◌, ◌++◌, map, flat_map, filter, length, drop, Option, Some, None, slice_get}
use Rattle.std.specs.List.{list_any}
use Rattle.std.specs.Option.{is_some}
use Rattle.plc_text.specs.Words.{same}
use Rattle.plc_text.specs.declared.code.Code.TheVariants.{E04}
use Rattle.st_tree.specs.declared.configuration.Configuration.{Configuration}
use Rattle.st_tree.specs.declared.declaration.ClassDecl.{ClassDecl}
use Rattle.st_tree.specs.declared.declaration.FieldGroup.{FieldGroup}
use Rattle.st_tree.specs.declared.declaration.InterfaceDecl.{InterfaceDecl}
use Rattle.st_tree.specs.declared.declaration.Member.{Member}
use Rattle.st_tree.specs.declared.declaration.Member.TheVariants as member
use Rattle.st_tree.specs.declared.declaration.Modifier.{Modifier}
use Rattle.st_tree.specs.declared.declaration.Modifier.TheVariants as modifier
use Rattle.st_tree.specs.declared.declaration.Section.{Section}
use Rattle.st_tree.specs.declared.declaration.TypeBody.{TypeBody}
use Rattle.st_tree.specs.declared.declaration.TypeBody.TheVariants as body
use Rattle.st_tree.specs.declared.name.Name.{Name}
use Rattle.st_rules.specs.Classes.{chain, methods_in, method_names}
use Rattle.st_rules.specs.Faults.{Faults, when}
use Rattle.st_rules.specs.Modifiers.{access_word}
use Rattle.st_rules.specs.Scope.{is_external}
use Rattle.st_rules.specs.Calls.{conversion_named}
use Rattle.st_unit_rules.specs.declared_names.Variables.{Written, sections_written, sections_in}
use Rattle.st_unit_rules.specs.declared_names.Declarations.{configuration_globals}

-- ---- names

abbrev pub is_named : List ℕ → List (List ℕ) → Bool
is_named name names = list_any (same name) names

abbrev pub texts : List Name → List (List ℕ)
texts ns = map (λ n. n.text) ns

abbrev pub declared_before : List (List ℕ) → Name → Faults
declared_before names n = when (is_named n.text names) E04 n.line

-- of the names of a space the second one is bad
abbrev pub declared_twice : List (List ℕ) → List Name → Faults
declared_twice before [] = []
declared_twice before (n ∷ ns) = declared_before before n ++ declared_twice (before ++ n.text ∷ []) ns

-- the name of a conversion is not declared
abbrev pub name_of_conversion : Name → Faults
name_of_conversion n = when (is_some (conversion_named n.text)) E04 n.line

-- the rules of a space of names
unfoldable pub space_faults : List Name → Faults
space_faults ns = declared_twice [] ns ++ flat_map name_of_conversion ns

abbrev pub section_names : List (Section ℕ) → List Name
section_names ss = map (λ w. w.name) (sections_written ss)

-- ---- locals of a routine

-- a local has the name of its method or function, with a result or without
abbrev pub local_named_as_routine : List ℕ → Name → Faults
local_named_as_routine routine n = when (same n.text routine) E04 n.line

unfoldable pub local_name_faults : List ℕ → List (Section ℕ) → Faults
local_name_faults routine ss = space_faults (section_names ss) ++ flat_map (local_named_as_routine routine) (section_names ss)

-- ---- members of a class

-- variables and methods have one space
abbrev pub member_names : List (Member ℕ) → List Name
member_names [] = []
member_names (member.Section s ∷ ms) = section_names (s ∷ []) ++ member_names ms
member_names (member.Method m ∷ ms) = m.name ∷ member_names ms

-- an entry of VAR_EXTERNAL is no variable of the class
abbrev pub own_variables : List (Member ℕ) → List Written
own_variables ms = filter (λ w. not (is_external w.sort)) (sections_written (sections_in ms))

abbrev pub of_class : {X : Type 0} → (ClassDecl ℕ → List X) → Option (ClassDecl ℕ) → List X
of_class gives None = []
of_class gives (Some c) = gives c

-- what the bases of a class have
abbrev pub of_bases : {X : Type 0} → List (ClassDecl ℕ) → (ClassDecl ℕ → List X) → ℕ → List X
of_bases classes gives c = flat_map (λ b. of_class gives (slice_get classes b)) (drop 1 (chain classes c))

abbrev pub variable_texts : ClassDecl ℕ → List (List ℕ)
variable_texts c = map (λ w. w.name.text) (own_variables c.members)

-- a variable has the name of a base's variable, private ones and constants among them, or of a base's method
abbrev pub variable_of_base : List (List ℕ) → List (List ℕ) → Written → Faults
variable_of_base variables methods w = when (is_named w.name.text variables || is_named w.name.text methods) E04 w.name.line

-- a method has the name of a base's variable
abbrev pub method_named_as_variable : List (List ℕ) → Name → Faults
method_named_as_variable variables n = when (is_named n.text variables) E04 n.line

unfoldable pub member_name_faults : List (ClassDecl ℕ) → ℕ → ClassDecl ℕ → Faults
member_name_faults classes c d =
    let variables = of_bases classes variable_texts c in
    let methods = of_bases classes method_names c in
    space_faults (member_names d.members)
    ++ flat_map (variable_of_base variables methods) (own_variables d.members)
    ++ flat_map (method_named_as_variable variables) (map (λ m. m.name) (methods_in d.members))

-- ---- types, interfaces and configurations

abbrev pub field_names : List (FieldGroup ℕ) → List Name
field_names gs = flat_map (λ g. g.names) gs

abbrev pub part_names : TypeBody ℕ → List Name
part_names (body.Alias t) = []
part_names (body.Enumeration ns) = ns
part_names (body.Structure gs) = field_names gs

abbrev pub prototype_name_faults : InterfaceDecl ℕ → Faults
prototype_name_faults i = space_faults (map (λ m. m.name) i.methods) ++ flat_map (λ m. local_name_faults m.name.text m.sections) i.methods

-- tasks have a space of their own, instances that of all declarations
abbrev pub configuration_name_faults : List (List ℕ) → Configuration ℕ → Faults
configuration_name_faults before c =
    declared_twice (before ++ c.name.text ∷ texts (section_names (configuration_globals c))) (map (λ x. x.name) c.instances)
    ++ flat_map name_of_conversion (map (λ x. x.name) c.instances)
    ++ space_faults (map (λ t. t.name) c.tasks)

-- ---- words that stand twice

abbrev pub same_word : Modifier → Modifier → Bool
same_word modifier.Constant modifier.Constant = true
same_word modifier.Retain modifier.Retain = true
same_word modifier.NonRetain modifier.NonRetain = true
same_word modifier.Persistent modifier.Persistent = true
same_word modifier.Public modifier.Public = true
same_word modifier.Protected modifier.Protected = true
same_word modifier.Private modifier.Private = true
same_word modifier.Internal modifier.Internal = true
same_word modifier.Abstract modifier.Abstract = true
same_word modifier.Final modifier.Final = true
same_word modifier.Override modifier.Override = true
same_word _ _ = false

abbrev pub has_word_twice : List Modifier → Bool
has_word_twice [] = false
has_word_twice (m ∷ ms) = list_any (same_word m) ms || has_word_twice ms

abbrev pub has_two_access_words : List Modifier → Bool
has_two_access_words ms = nat_lt 1 (length (filter (λ m. is_some (access_word m)) ms))

-- a word twice, or two access words
abbrev pub word_twice : ℕ → List Modifier → Faults
word_twice line ms = when (has_word_twice ms || has_two_access_words ms) E04 line
