use Rattle.mem_layout.proofs.RoundLaws.{reach_stays, reach_next}
use Rattle.mem_layout.proofs.rounds.rounds.Goals as goal

pub returns-clause-complete : goal.returns-clause-complete
returns-clause-complete c = λ p n vs vc f r.
    let e1 = c.in_ok-round.ensures in
    let e2 = c.in_ok-round-2.ensures in
    let old = c.args.tables.now in
    let mid = c.round.new.tables in
    reach_next p n old mid c.round-2.new.tables e2.stays (λ k sh h s. e1.complete p n k sh vs f r h s) (λ k sh h s. e2.complete p n k sh vc (e1.sound p vs f) (reach_stays p n old mid e1.stays r) h s)
