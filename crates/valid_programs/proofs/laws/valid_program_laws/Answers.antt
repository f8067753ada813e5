use Rattle.mem_layout.specs.Layout.{HasShape}
use Rattle.valid_programs.proofs.CodeLaws.{code_is, told_by}
use Rattle.valid_programs.proofs.Valid.{program_valid}
use Rattle.valid_programs.proofs.laws.valid_program_laws.Goals as goal

pub returns-clause-valid : goal.returns-clause-valid
returns-clause-valid c = λ p fine programs lives plans code right is. program_valid p fine programs lives plans code right is

pub returns-clause-told : goal.returns-clause-told
returns-clause-told c = λ p lives plans code told is. code_is p lives plans code told is

pub returns-clause-alike : goal.returns-clause-alike
returns-clause-alike c = λ p covers f w a h. told_by p (HasShape p) covers f w a h
