-- What a section belongs to, as the code tells it.
use Rattle.st_unit_rules.specs.VariableRules as rules
use Rattle.section_rules.specs.declared.home.Home.{Home}
use Rattle.section_rules.specs.declared.home.Home.TheVariants as code

abbrev pub home_of : Home → rules.Home
home_of code.Class = rules.of_class
home_of code.Block = rules.of_block
home_of code.Program = rules.of_program
home_of code.Routine = rules.of_routine
home_of code.Prototype = rules.of_prototype
home_of code.Globals = rules.of_globals
