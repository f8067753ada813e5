use Rattle.std.proofs.Common.{◌≡◌, ◌++◌, drop}
use Rattle.check_names.specs.name_spaces.NamesIn.{names_of}
use Rattle.check_names.specs.member_names.Private.Own.{kept}
use Rattle.check_names.proofs.member_names.own.add_kept.Given as goal

abbrev pub invariant-loop-one : goal.invariant-loop-one
invariant-loop-one l = names_of l.list.items ++ kept (drop l.one-index l.written) ≡ names_of l.initial.list.items ++ kept l.written
