-- The words of the functions over sections of variables.
use Rattle.std.specs.Prelude.{Bool, ◌||◌, Option, Some, None, refl}
use Rattle.st_tree.specs.declared.terminal.Terminal.{Terminal}
use Rattle.st_tree.specs.declared.terminal.Terminal.TheVariants as x
use Rattle.st_tree.specs.declared.declaration.Modifier.{Modifier}
use Rattle.st_tree.specs.declared.declaration.Modifier.TheVariants as modifier
use Rattle.st_tree.specs.declared.declaration.SectionSort.{SectionSort}
use Rattle.st_tree.specs.declared.declaration.SectionSort.TheVariants as sort
use Rattle.st_tree.specs.Declarations as d
use Rattle.st_parser_decl.specs.declared.section.Words.{Words}
use Rattle.st_parser_decl.specs.declared.section.Words.TheVariants as words
use Rattle.st_parser_decl.specs.Private.Form.{Form, one_of}
use Rattle.st_parser_decl.specs.Private.Rules as w

abbrev pub modifier_of : Terminal → Option Modifier
modifier_of x.Constant = Some modifier.Constant
modifier_of x.Retain = Some modifier.Retain
modifier_of x.NonRetain = Some modifier.NonRetain
modifier_of x.Persistent = Some modifier.Persistent
modifier_of x.Public = Some modifier.Public
modifier_of x.Protected = Some modifier.Protected
modifier_of x.Private = Some modifier.Private
modifier_of x.Internal = Some modifier.Internal
modifier_of x.Abstract = Some modifier.Abstract
modifier_of x.Final = Some modifier.Final
modifier_of x.Override = Some modifier.Override
modifier_of _ = None

-- which modifiers may stand there
abbrev pub allowed : Words → Modifier → Bool
allowed words.Keep m = d.is_keep m
allowed words.Section m = d.is_keep m || d.is_access m
allowed words.Class m = d.is_class_word m
allowed words.Method m = d.is_access m || d.is_method_word m

-- the same of terminals
abbrev pub in_words : Words → Terminal → Bool
in_words words.Keep = w.is_keep
in_words words.Section = w.is_section_word
in_words words.Class = w.is_class_word
in_words words.Method = w.is_method_word

abbrev pub one_word : Words → Form
one_word words.Keep = one_of w.is_keep x.Constant refl
one_word words.Section = one_of w.is_section_word x.Constant refl
one_word words.Class = one_of w.is_class_word x.Abstract refl
one_word words.Method = one_of w.is_method_word x.Abstract refl

-- the sort of a section that is not of globals
abbrev pub sort_of : Terminal → Option SectionSort
sort_of x.Var = Some sort.Var
sort_of x.VarInput = Some sort.Input
sort_of x.VarOutput = Some sort.Output
sort_of x.VarInOut = Some sort.InOut
sort_of x.VarTemp = Some sort.Temp
sort_of x.VarExternal = Some sort.External
sort_of _ = None
