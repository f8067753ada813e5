use Rattle.std.proofs.Common.{◌≡◌, ◌<◌, ℕ, suc, ◌-◌, length, sym, subst, arith}
use Rattle.st_types.specs.declared.st_type.StType.{StType}
use Rattle.st_types.specs.declared.st_type.StType.TheVariants as type
use Rattle.check_limits.specs.declared.type_sizes.size.Size.{Size}
use Rattle.check_limits.specs.type_sizes.Levels.{IsSize}
use Rattle.check_limits.proofs.type_sizes.TellLaws.{array_size}
use Rattle.check_limits.proofs.type_sizes.RoundLaws.{structure_level, instance_level}
use Rattle.check_limits.proofs.type_sizes.levels.+size_of.Goals as goal

pub returns-in-Array : goal.returns-in-Array
returns-in-Array t c = λ s a l.
    let x = c.in-Array in
    let some = c.if-steps-eq0.false in
    let next : suc (c.args.steps - 1) ≡ c.args.steps = omega (arith, some) in
    let inner : IsSize s (c.args.steps - 1) c.size_of.result x.of = subst (λ (u : StType). IsSize s (c.args.steps - 1) c.size_of.result u) c.get.ensures (c.size_of.ensures s a (omega arith)) in
    subst (λ (r : ℕ). IsSize s r c.array.result c.args.kind.now) next
    (subst (λ (z : Size). IsSize s (suc (c.args.steps - 1)) z c.args.kind.now) (sym c.array.ensures) (array_size s (c.args.steps - 1) c.size_of.result c.args.kind.now x.low x.high x.of x.is inner))

pub returns-in-Structure : goal.returns-in-Structure
returns-in-Structure t c = λ s a l.
    let some = c.if-steps-eq0.false in
    let next : suc (c.args.steps - 1) ≡ c.args.steps = omega (arith, some) in
    let within : c.args.steps - 1 < length c.args.levels.now = omega (arith, some, l) in
    subst (λ (u : StType). IsSize s c.args.steps c.structure_at.result u) (sym c.in-Structure.is)
    (subst (λ (r : ℕ). IsSize s r c.structure_at.result (type.Structure c.in-Structure.number)) next
    (subst (λ (z : Size). IsSize s (suc (c.args.steps - 1)) z (type.Structure c.in-Structure.number)) (sym c.structure_at.ensures)
    (structure_level s c.args.levels.now (c.args.steps - 1) c.in-Structure.number within a)))

pub returns-in-Instance : goal.returns-in-Instance
returns-in-Instance t c = λ s a l.
    let some = c.if-steps-eq0.false in
    let next : suc (c.args.steps - 1) ≡ c.args.steps = omega (arith, some) in
    let within : c.args.steps - 1 < length c.args.levels.now = omega (arith, some, l) in
    subst (λ (u : StType). IsSize s c.args.steps c.instance_at.result u) (sym c.in-Instance.is)
    (subst (λ (r : ℕ). IsSize s r c.instance_at.result (type.Instance c.in-Instance.class)) next
    (subst (λ (z : Size). IsSize s (suc (c.args.steps - 1)) z (type.Instance c.in-Instance.class)) (sym c.instance_at.ensures)
    (instance_level s c.args.levels.now (c.args.steps - 1) c.in-Instance.class within a)))
