-- What a name means, as the code tells it.
use Rattle.std.specs.Prelude.{Option, option_map}
use Rattle.st_rules.specs.Scope.{a_variable, a_method, a_function, an_enumerator, values_of, of_untold, no_qualifier}
use Rattle.st_rules.specs.Scope as scope
use Rattle.name_resolution.specs.declared.scope.Meant.{Meant}
use Rattle.name_resolution.specs.declared.scope.Meant.TheVariants as code
use Rattle.name_resolution.specs.declared.scope.Qualifier.{Qualifier}
use Rattle.name_resolution.specs.declared.scope.Qualifier.TheVariants as told

abbrev pub meaning : Meant → scope.Meant
meaning (code.Variable c v) = a_variable c v.now
meaning (code.Method id) = a_method id
meaning (code.Function k r) = a_function k r.now
meaning (code.Enumerator n k) = an_enumerator n k

-- what is told of a meaning that may be there
abbrev pub meant : Option Meant → Option scope.Meant
meant o = option_map meaning o

abbrev pub qualifier : Qualifier → scope.Qualifier
qualifier (told.Values n) = values_of n
qualifier told.Untold = of_untold
qualifier told.Nothing = no_qualifier
