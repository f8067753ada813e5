use Rattle.std.proofs.Common.{◌≡◌, drop, map}
use Rattle.st_unit_rules.specs.declaration_list.Written.{written_of}
use Rattle.declared_symbols.specs.unit_untold.Private.Counts.{nothing, counts_from}
use Rattle.declared_symbols.proofs.unit_untold.counts.count_names.Given as goal

-- what was counted, and what the rest counts, is all
abbrev pub invariant-loop-name : goal.invariant-loop-name
invariant-loop-name l = counts_from l.so_far (map written_of (drop l.name-index l.names)) ≡ counts_from nothing (map written_of l.names)
