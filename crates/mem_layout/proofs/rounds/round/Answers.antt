use Rattle.std.proofs.Common.{suc, sym, ap, ◌∙◌, subst, arith}
use Rattle.st_values.specs.Shape.{shape_within}
use Rattle.mem_layout.specs.Private.Table.{named}
use Rattle.mem_layout.specs.Private.Rounds.{Has}
use Rattle.mem_layout.proofs.RoundLaws.{stays_next, reach_stays, has_one_more}
use Rattle.mem_layout.proofs.rounds.round.Goals as goal

pub loop-k-preserved : goal.loop-k-preserved
loop-k-preserved c =
    let i = c.loop-k.invariant in
    let e = c.in_ok-fill.ensures in
    let old = c.args.tables.now in
    let now = c.loop-k.tables in
    record {
      stays = stays_next old now c.fill.new.tables i.stays e.stays;
      sound = λ p v f. e.sound p v (i.sound p v f);
      done = λ p n k sh lt v f r h s.
          has_one_more c.args.class k c.loop-k.k now c.fill.new.tables lt e.stays (λ below. i.done p n k sh below v f r h s)
          (λ same. subst (λ j. Has c.fill.new.tables c.args.class j) (sym same) (e.complete p n sh v (i.sound p v f) (reach_stays p n old now i.stays r) (ap (λ j. shape_within p (suc n) (named c.args.class j)) (sym same) ∙ h) s));
    }

pub returns-clause-complete : goal.returns-clause-complete
returns-clause-complete c = λ p n k sh v f r h s.
    let w = v.all k (suc n) sh h in
    let t = c.loop-k-test.false in
    c.loop-k.invariant.done p n k sh (omega (arith, w, t)) v f r h s
