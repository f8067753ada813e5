use Rattle.std.proofs.Common.{◌≡◌, ◌<◌, ℕ, suc, Some}
use Rattle.st_values.specs.Program.{Program}
use Rattle.st_values.specs.Shape.{Shape, shape_within}
use Rattle.mem_layout.specs.Layout.{IsSmall}
use Rattle.mem_layout.specs.Private.Table.{AreTables, Reach, named}
use Rattle.mem_layout.specs.Private.Rounds.{AreVariables, Stays, Has}
use Rattle.mem_layout.proofs.rounds.round.Given as goal

abbrev pub invariant-loop-k : goal.invariant-loop-k
invariant-loop-k l =
    record {
      stays : Stays l.fn.tables l.tables;
      sound : (p : Program) → AreVariables p l.class l.lists → AreTables p l.fn.tables → AreTables p l.tables;
      done : (p : Program) (n k : ℕ) (sh : Shape) → k < l.k → AreVariables p l.class l.lists → AreTables p l.fn.tables → Reach p n l.fn.tables → shape_within p (suc n) (named l.class k) ≡ Some sh → IsSmall sh → Has l.tables l.class k;
    }
