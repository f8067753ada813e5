use Rattle.st_parser_decl.proofs.PlaceLaws.{Passed}
use Rattle.st_parser_decl.proofs.place.declaration_of.Given as goal

abbrev pub invariant-search : goal.invariant-search
invariant-search l = Passed l.lexemes l.place l.at

abbrev pub decreases-search : goal.decreases-search
decreases-search l = l.at
