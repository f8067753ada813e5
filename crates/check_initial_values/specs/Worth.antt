-- Notes of constant expressions.
use Rattle.st_tree.specs.declared.program.Note.{Note}
use Rattle.st_tree.specs.declared.program.Target.{Target}

abbrev pub noted : Target → Note → Note
noted meant a = record a { target = meant }
