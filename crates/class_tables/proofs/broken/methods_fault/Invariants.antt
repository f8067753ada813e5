use Rattle.std.proofs.Common.{◌≡◌, drop}
use Rattle.std.specs.Map.{keys_of}
use Rattle.st_rules.specs.Faults.{earlier, least}
use Rattle.st_rules.specs.Numbered.{each_numbered}
use Rattle.class_tables.specs.Private.Broken as broken
use Rattle.class_tables.proofs.broken.methods_fault.Given as goal

-- what was found with what the methods left break
abbrev pub invariant-loop-place : goal.invariant-loop-place
invariant-loop-place g l =
    earlier l.found (least (each_numbered (broken.method_faults g.V.PartialEq.eq (keys_of l.names) l.rows l.settled l.signatures l.class l.row.is_abstract) l.place (drop l.place l.row.methods)))
    ≡ least (broken.methods_faults g.V.PartialEq.eq (keys_of l.names) l.rows l.settled l.signatures l.class l.row)
