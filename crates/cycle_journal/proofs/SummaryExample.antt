-- The account of a journal that was made by hand.
use Rattle.std.proofs.Common.{◌≡◌, List, [], ◌∷◌, refl}
use Rattle.std.specs.Prelude.{codes}
use Rattle.std.specs.Fmt.{digits}
use Rattle.hex.specs.Hex.{encode_with}
use Rattle.cycle_journal.specs.declared.play.Play.{Play}
use Rattle.cycle_journal.specs.declared.play.Play.TheVariants.{Cycle, Change}
use Rattle.cycle_journal.specs.declared.entry.Entry.{Entry}
use Rattle.cycle_journal.specs.declared.entry.Answer.TheVariants.{Done, Held, Loaded}
use Rattle.cycle_journal.specs.Summary.{summary}

plays : List Play
plays = Cycle (codes "T1") 0 [] ∷ Change (codes "C") 2 ∷ Cycle (codes "T1") 10 [] ∷ Cycle (codes "T3") 10 [] ∷ Cycle (codes "T2") 20 [] ∷ []

entries : List Entry
entries =
    record { version = 1; play = 1; answer = Done 12 (1 ∷ 0 ∷ []) } ∷ record { version = 1; play = 2; answer = Loaded 2 }
    ∷ record { version = 2; play = 3; answer = Done 3 (255 ∷ 10 ∷ []) } ∷ record { version = 2; play = 4; answer = Done 100 [] }
    ∷ record { version = 2; play = 5; answer = Held } ∷ []

example : summary 1 plays entries
    ≡ codes "load 1\nentries 5\nversion 2\ntask T1 cycles 2 ticks 15 last ff0a\ntask T2 cycles 0 ticks 0 last -\ntask T3 cycles 1 ticks 100 last -\ntask T4 cycles 0 ticks 0 last -\n"
unfolding plays entries digits encode_with
example = refl

-- where the last entry is a change, its version is the loaded one
loaded : summary 3 [] (record { version = 7; play = 1; answer = Loaded 8 } ∷ [])
    ≡ codes "load 3\nentries 1\nversion 8\ntask T1 cycles 0 ticks 0 last -\ntask T2 cycles 0 ticks 0 last -\ntask T3 cycles 0 ticks 0 last -\ntask T4 cycles 0 ticks 0 last -\n"
unfolding digits
loaded = refl
