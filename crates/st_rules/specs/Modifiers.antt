-- The words before a class or a method, or behind the word of a section (IEC 61131-3:2013, 6.6.5).
use Rattle.std.specs.Prelude.{Bool, true, false, List, [], ◌∷◌, Option, Some, None, unwrap_or}
use Rattle.std.specs.List.{list_any}
use Rattle.std.specs.Option.{option_or}
use Rattle.st_tree.specs.declared.declaration.Modifier.{Modifier}
use Rattle.st_tree.specs.declared.declaration.Modifier.TheVariants as modifier
use Rattle.st_rules.specs.declared.modifiers.Access.{Access}
use Rattle.st_rules.specs.declared.modifiers.Access.TheVariants.{Public, Protected, Private}

-- the access that a word gives. INTERNAL counts as PUBLIC
abbrev pub access_word : Modifier → Option Access
access_word modifier.Public = Some Public
access_word modifier.Internal = Some Public
access_word modifier.Protected = Some Protected
access_word modifier.Private = Some Private
access_word _ = None

-- the access that the words give, by the first of them that gives one
abbrev pub written_access : List Modifier → Option Access
written_access [] = None
written_access (m ∷ ms) = option_or (access_word m) (written_access ms)

-- a method is PUBLIC where nothing is written
abbrev pub method_access : List Modifier → Access
method_access ms = unwrap_or (written_access ms) Public

abbrev pub same_access : Access → Access → Bool
same_access Public Public = true
same_access Protected Protected = true
same_access Private Private = true
same_access _ _ = false

abbrev pub is_abstract_word : Modifier → Bool
is_abstract_word modifier.Abstract = true
is_abstract_word _ = false

abbrev pub is_final_word : Modifier → Bool
is_final_word modifier.Final = true
is_final_word _ = false

abbrev pub is_override_word : Modifier → Bool
is_override_word modifier.Override = true
is_override_word _ = false

abbrev pub is_constant_word : Modifier → Bool
is_constant_word modifier.Constant = true
is_constant_word _ = false

abbrev pub is_abstract : List Modifier → Bool
is_abstract ms = list_any is_abstract_word ms

abbrev pub is_final : List Modifier → Bool
is_final ms = list_any is_final_word ms

abbrev pub is_override : List Modifier → Bool
is_override ms = list_any is_override_word ms

abbrev pub is_constant : List Modifier → Bool
is_constant ms = list_any is_constant_word ms
