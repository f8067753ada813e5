use Rattle.std.proofs.Common.{◌≡◌, ◌+◌, suc, false, true, sym, ◌∙◌, subst, arith}
use Rattle.st_values.specs.View.{program_of}
use Rattle.mem_layout.specs.Private.Table.{Reach}
use Rattle.mem_layout.specs.Private.Rounds.{AreVariables}
use Rattle.mem_layout.proofs.RoundLaws.{are_variables}
use Rattle.mem_layout.proofs.rounds.tables_of.Goals as goal

pub loop-depth-preserved : goal.loop-depth-preserved
loop-depth-preserved c =
    let i = c.loop-depth.invariant in
    let e = c.in_ok-rounds.ensures in
    let p = program_of c.args.program.now in
    let v = are_variables p c.in_ok-members.members c.in_ok-members.ensures in
    let a = subst (AreVariables p false) (sym c.as_slice.ensures) v.0 in
    let b = subst (AreVariables p true) (sym c.as_slice-in-loop-depth.ensures) v.1 in
    let next : suc c.loop-depth.depth ≡ c.loop-depth.depth + 1 = omega arith in
    record {
      structures = e.stays.long false ∙ i.structures;
      classes = e.stays.long true ∙ i.classes;
      sound = e.sound p a b i.sound;
      reach = subst (λ d. Reach p d c.rounds.new.tables) next (e.complete p c.loop-depth.depth a b i.sound i.reach);
    }

pub returns-clause-complete : goal.returns-clause-complete
returns-clause-complete c =
    let t = c.loop-depth-test.false in
    let u = c.loop-depth.auto.depth-end in
    let is : c.loop-depth.depth ≡ 65 = omega (arith, t, u) in
    subst (λ d. Reach (program_of c.args.program.now) d c.loop-depth.tables) is c.loop-depth.invariant.reach
