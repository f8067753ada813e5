use Rattle.std.proofs.Common.{sym, ap, ◌∙◌}
use Rattle.st_values.specs.Program.{own_of}
use Rattle.change_names.proofs.classes.old_own_of.Goals as goal

pub returns-in-Some : goal.returns-in-Some
returns-in-Some c = λ k e. c.list_of.ensures ∙ c.requires.own_lists c.in-Some.found ∙ sym (ap own_of (c.in-Some.ensures k e))

pub returns-in-None : goal.returns-in-None
returns-in-None c = λ k e. sym (ap own_of (c.in-None.ensures k e))
