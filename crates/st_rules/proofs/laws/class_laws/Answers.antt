use Rattle.st_rules.proofs.ClassLaws.{chain_law, chain-base_law, cycle_law, lookup_law}
use Rattle.st_rules.proofs.laws.class_laws.Goals as goal

pub returns-clause-chain_holds : goal.returns-clause-chain_holds
returns-clause-chain_holds g c = chain_law

pub returns-clause-chain_of_base : goal.returns-clause-chain_of_base
returns-clause-chain_of_base g c = chain-base_law

pub returns-clause-cycle : goal.returns-clause-cycle
returns-clause-cycle g c = cycle_law

pub returns-clause-looks_up : goal.returns-clause-looks_up
returns-clause-looks_up g c = lookup_law
