use Rattle.st_parser_decl.proofs.Stopping as s
use Rattle.st_parser_decl.proofs.law.one_answer.Goals as goal

pub returns-clause-some : goal.returns-clause-some
returns-clause-some c = s.answered

pub returns-clause-one_refusal : goal.returns-clause-one_refusal
returns-clause-one_refusal c = s.one_refusal

pub returns-clause-never_both : goal.returns-clause-never_both
returns-clause-never_both c = s.never_both
