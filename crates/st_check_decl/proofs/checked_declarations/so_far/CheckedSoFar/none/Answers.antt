use Rattle.st_check_decl.proofs.checked_declarations.PassedLaws.{nothing_passed}
use Rattle.st_check_decl.proofs.checked_declarations.so_far.CheckedSoFar.none.Goals as goal

pub returns : goal.returns
returns c = nothing_passed _ c.none.ensures c.none-2.ensures.types c.none-2.ensures.classes c.none-2.ensures.interfaces c.none-2.ensures.functions c.none-2.ensures.programs
