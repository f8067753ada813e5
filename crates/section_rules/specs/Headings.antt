-- The rules of the words of a section.
use Rattle.std.specs.Prelude.{ℕ, Bool, not, ◌&&◌, ◌++◌}
use Rattle.std.specs.List.{list_any}
use Rattle.std.specs.Option.{is_some}
use Rattle.st_tree.specs.declared.declaration.Section.{Section}
use Rattle.st_rules.specs.Faults.{Faults}
use Rattle.st_rules.specs.Modifiers.{access_word}
use Rattle.st_unit_rules.specs.NameRules.{word_twice}
use Rattle.st_unit_rules.specs.VariableRules.{Home, may_have_access, section_out_of_place, access_out_of_place}

abbrev pub access_misplaced : Home → Section ℕ → Bool
access_misplaced h s = list_any (λ m. is_some (access_word m)) s.modifiers && not (may_have_access h s.sort)

-- those of a section in any scope
abbrev pub heading_faults : Home → Section ℕ → Faults
heading_faults h s = word_twice s.line s.modifiers ++ section_out_of_place h s ++ access_out_of_place h s
