use Rattle.source_check.proofs.SourceLaws.{accepted_so, refused_so}
use Rattle.source_check.proofs.source.check_source.Goals as goal

pub returns-clause-accepted : goal.returns-clause-accepted
returns-clause-accepted c = accepted_so _ _ _ c.in_ok-whole.ensures.ok c.check-judged.result c.check-judged.ensures.ok

pub returns-clause-refused : goal.returns-clause-refused
returns-clause-refused c = refused_so _ _ _ c.in_ok-whole.ensures.ok c.check-judged.result c.check-judged.ensures.err
