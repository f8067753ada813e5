use Rattle.std.proofs.Common.{◌≡◌, ◌++◌, map, drop}
use Rattle.st_rules.specs.Classes.{methods_in}
use Rattle.check_names.specs.name_spaces.NamesIn.{names_of}
use Rattle.check_names.proofs.member_names.own.own_methods.Given as goal

abbrev pub invariant-loop-member : goal.invariant-loop-member
invariant-loop-member l = names_of l.list.items ++ map (λ m. m.name) (methods_in (drop l.member-index l.members)) ≡ map (λ m. m.name) (methods_in l.members)
