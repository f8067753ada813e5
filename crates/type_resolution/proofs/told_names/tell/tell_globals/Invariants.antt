use Rattle.type_resolution.proofs.told_names.TellLaws.{GlobalsTo}
use Rattle.type_resolution.proofs.told_names.tell.tell_globals.Given as goal

abbrev pub invariant-loop-name : goal.invariant-loop-name
invariant-loop-name l = GlobalsTo l.names l.fn.tables l.tables l.first l.place l._name-index l.found.0 l.found.1
