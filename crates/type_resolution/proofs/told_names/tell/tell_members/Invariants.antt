use Rattle.type_resolution.proofs.told_names.TellLaws.{MembersTo}
use Rattle.type_resolution.proofs.told_names.tell.tell_members.Given as goal

abbrev pub invariant-loop-name : goal.invariant-loop-name
invariant-loop-name l = MembersTo l.names l.fn.tables l.tables l.class l.first l.place l._name-index l.found.0 l.found.1
