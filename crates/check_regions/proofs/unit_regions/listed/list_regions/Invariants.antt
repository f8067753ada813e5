use Rattle.check_regions.proofs.unit_regions.ListedLaws.{Listed}
use Rattle.check_regions.proofs.unit_regions.listed.list_regions.Given as goal

abbrev pub invariant-loop-decl : goal.invariant-loop-decl
invariant-loop-decl l = Listed l.decls l.list.items l.decl-index l.first
