-- `-128` is a right literal of SINT, though 128 is none.
use Rattle.std.proofs.Common.{refl, arith}
use Rattle.std.proofs.lemmas.Int.{ints}
use Rattle.std.specs.Prelude.{codes}
use Rattle.st_types.specs.declared.elem.Elem.TheVariants as elem
use Rattle.st_types.specs.declared.st_type.StType.TheVariants as type
use Rattle.st_tree.specs.declared.program.Note.{Note}
use Rattle.st_tree.specs.declared.program.Target.TheVariants as target
use Rattle.st_tree.specs.Expression.{Int, Negate}
use Rattle.st_values.specs.Program.{Program}
use Rattle.st_meaning.specs.st_frame.Promise.Names.{Scope}
use Rattle.st_meaning.specs.st_frame.Promise.Expressions.{ExpressionIs}

abbrev sint : Note
sint = record { line = 1; kind = type.Elementary elem.Sint; target = target.Nothing }

least_sint : (p : Program) (g : Scope) → ExpressionIs p g (Negate sint (Int sint (codes "128")))
least_sint p g = (elem.Sint, refl, refl, (omega (arith, ints), omega (arith, ints)))
