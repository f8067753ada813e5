-- The words of the functions over configurations.
use Rattle.st_tree.specs.Grammar.{Phrase, ◌⋆◌, each}
use Rattle.st_tree.specs.Declarations as d
use Rattle.st_parser_decl.specs.declared.configuration.Schedule.{Schedule}
use Rattle.st_parser_decl.specs.declared.configuration.Placement.{Placement}

-- { TASK .. } { PROGRAM .. }
abbrev pub Scheduled : Schedule → Phrase
Scheduled s = each d.task s.tasks ⋆ each d.instance s.instances

-- RESOURCE name ON name { globals } tasks END_RESOURCE | tasks
abbrev pub Placed : Placement → Phrase
Placed p = d.resource p.resource (Scheduled p.schedule)
