-- What an expression is refused for.
use Rattle.st_rules.specs.Faults.{Faults, BreaksFirst}
use Rattle.st_check_expr.specs.declared.broken.Broken.{Broken}
use Rattle.st_check_expr.specs.declared.broken.Broken.TheVariants.{Rule, NoMemory}

-- the least rule of those that are broken, at its least line; want of memory says nothing of them
abbrev pub Reports : Broken → Faults → Type 0
Reports (Rule code line) fs = BreaksFirst fs code line
Reports NoMemory fs = Unit {0}
