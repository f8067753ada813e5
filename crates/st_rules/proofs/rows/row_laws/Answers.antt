use Rattle.std.proofs.Common.{refl}
use Rattle.st_rules.proofs.RowLaws as row
use Rattle.st_rules.proofs.rows.row_laws.Goals as goal

pub returns-clause-untyped_alone : goal.returns-clause-untyped_alone
returns-clause-untyped_alone c = row.untyped_alone

pub returns-clause-untyped_pair : goal.returns-clause-untyped_pair
returns-clause-untyped_pair c = row.untyped_pair

pub returns-clause-type_alone : goal.returns-clause-type_alone
returns-clause-type_alone c = λ s asked l e. refl

pub returns-clause-type_pair : goal.returns-clause-type_pair
returns-clause-type_pair c = λ s asked l k e x ts o. row.type_pair s asked l k e x ts o

pub returns-clause-faults_pair : goal.returns-clause-faults_pair
returns-clause-faults_pair c = λ s asked l k e x ts o. row.faults_pair s asked l k e x ts o
