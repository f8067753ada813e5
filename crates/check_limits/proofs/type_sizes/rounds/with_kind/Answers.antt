use Rattle.std.proofs.Common.{[], ◌∷◌, ◌++◌, Option, Some, length, sym, subst, arith}
use Rattle.st_types.specs.declared.st_type.StType.{StType}
use Rattle.st_unit_rules.specs.Limits.{kinds_told}
use Rattle.check_limits.specs.declared.type_sizes.size.Size.{Size}
use Rattle.check_limits.specs.type_sizes.Levels.{Tells}
use Rattle.check_limits.proofs.type_sizes.TellLaws.{with_told}
use Rattle.check_limits.proofs.type_sizes.rounds.with_kind.Goals as goal

pub returns-in-Some : goal.returns-in-Some
returns-in-Some c = λ s ts a h.
    let r = length c.args.levels.now in
    subst (λ (k : Option StType). Tells s r c.both.result (ts ++ kinds_told s (k ∷ []))) (sym c.in-Some.is)
    (subst (λ (z : Size). Tells s r z (ts ++ kinds_told s (Some c.in-Some.kind ∷ []))) (sym c.both.ensures)
    (with_told s r c.args.so_far c.size_of.result c.in-Some.kind ts h (c.size_of.ensures s a (omega arith))))
