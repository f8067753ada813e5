-- The variables of a section that an instance keeps.
use Rattle.std.specs.Prelude.{if◌then◌else◌, List, []}
use Rattle.st_tree.specs.declared.declaration.Section.{Section}
use Rattle.st_tree.specs.declared.program.Note.{Note}
use Rattle.st_rules.specs.Modifiers.{is_constant}
use Rattle.st_values.specs.Program.{Variable}
use Rattle.st_values.specs.View.{is_kept, those, sorted_items}

abbrev pub kept_in : Section Note → List Variable
kept_in s = those is_kept (if is_constant s.modifiers then [] else sorted_items s.sort s.items)
