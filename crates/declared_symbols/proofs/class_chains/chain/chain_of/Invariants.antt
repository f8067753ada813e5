use Rattle.st_rules.specs.Classes.{base_of, classes_in}
use Rattle.declared_symbols.proofs.class_chains.ChainLaws.{ClimbsOn}
use Rattle.declared_symbols.proofs.class_chains.chain.chain_of.Given as goal

abbrev pub invariant-classes : goal.invariant-classes
invariant-classes l = ClimbsOn (base_of (classes_in l.classes.decls)) l.count l.class l.held l.chain.items l.left l.next

abbrev pub decreases-classes : goal.decreases-classes
decreases-classes l = l.left
