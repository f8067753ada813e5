use Rattle.std.proofs.Common.{◌≤◌, sym, ap, ◌∙◌, subst, List, length, arith}
use Rattle.st_unit_rules.specs.Limits.{values_of}
use Rattle.check_limits.specs.declared.type_sizes.levels.Level.{Level}
use Rattle.check_limits.specs.type_sizes.Size.{capped}
use Rattle.check_limits.specs.type_sizes.Levels.{AreLevels}
use Rattle.check_limits.proofs.type_sizes.TellLaws.{values_counted}
use Rattle.check_limits.proofs.type_sizes.sizes.TypeSizes.values_of.Goals as goal

pub returns-in-Some : goal.returns-in-Some
returns-in-Some c = λ s m.
    let same = c.deref.ensures.value in
    let long : 66 ≤ length c.deref.result.now = (let e = ap length same in let l = m.long in omega (arith, e, l)) in
    values_counted s c.size_of.result c.in-Some.kind c.has_many_dimensions-many.result c.counted.result c.has_many_dimensions-many.ensures c.counted.ensures
    (c.size_of.ensures s (subst (λ (ls : List Level). AreLevels s ls) (sym same) m.levels) long)
    ∙ ap (λ k. capped (values_of s k)) (sym c.in-Some.is)

pub returns-in-None : goal.returns-in-None
unfolding values_of
returns-in-None c = λ s m. ap (λ k. capped (values_of s k)) (sym c.in-None.is)
