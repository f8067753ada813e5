use Rattle.std.proofs.Common.{not, refl, ap, ◌∙◌}
use Rattle.st_meaning.specs.Operation.{truth}
use Rattle.value_trees.specs.Value.{value_of}
use Rattle.run_state.specs.State.{state_of}
use Rattle.run_steps.proofs.Operators.{gives_as}
use Rattle.run_steps.proofs.operations.combined.Goals as goal

pub returns-in-Plus : goal.returns-in-Plus
returns-in-Plus c = gives_as c.args.operator _ c.args.e (value_of c.args.x.now) (value_of c.args.y.now) c.args.line (state_of c.args.m.now) c.in-Plus.is _ c.added.result refl c.added.ensures

pub returns-in-Minus : goal.returns-in-Minus
returns-in-Minus c = gives_as c.args.operator _ c.args.e (value_of c.args.x.now) (value_of c.args.y.now) c.args.line (state_of c.args.m.now) c.in-Minus.is _ c.lessened.result refl c.lessened.ensures

pub returns-in-Times : goal.returns-in-Times
returns-in-Times c = gives_as c.args.operator _ c.args.e (value_of c.args.x.now) (value_of c.args.y.now) c.args.line (state_of c.args.m.now) c.in-Times.is _ c.multiplied.result refl c.multiplied.ensures

pub returns-in-And : goal.returns-in-And
returns-in-And c = gives_as c.args.operator _ c.args.e (value_of c.args.x.now) (value_of c.args.y.now) c.args.line (state_of c.args.m.now) c.in-And.is _ c.both.result refl c.both.ensures

pub returns-in-Or : goal.returns-in-Or
returns-in-Or c = gives_as c.args.operator _ c.args.e (value_of c.args.x.now) (value_of c.args.y.now) c.args.line (state_of c.args.m.now) c.in-Or.is _ c.either.result refl c.either.ensures

pub returns-in-Xor : goal.returns-in-Xor
returns-in-Xor c = gives_as c.args.operator _ c.args.e (value_of c.args.x.now) (value_of c.args.y.now) c.args.line (state_of c.args.m.now) c.in-Xor.is _ c.unlike.result refl c.unlike.ensures

pub returns-in-AndThen : goal.returns-in-AndThen
returns-in-AndThen c = gives_as c.args.operator _ c.args.e (value_of c.args.x.now) (value_of c.args.y.now) c.args.line (state_of c.args.m.now) c.in-AndThen.is _ c.args.y.now refl refl

pub returns-in-OrElse : goal.returns-in-OrElse
returns-in-OrElse c = gives_as c.args.operator _ c.args.e (value_of c.args.x.now) (value_of c.args.y.now) c.args.line (state_of c.args.m.now) c.in-OrElse.is _ c.args.y.now refl refl

pub returns-in-Equal : goal.returns-in-Equal
returns-in-Equal c = gives_as c.args.operator _ c.args.e (value_of c.args.x.now) (value_of c.args.y.now) c.args.line (state_of c.args.m.now) c.in-Equal.is _ c.truth.result refl (c.truth.ensures ∙ ap truth c.same_value.ensures)

pub returns-in-Differs : goal.returns-in-Differs
returns-in-Differs c = gives_as c.args.operator _ c.args.e (value_of c.args.x.now) (value_of c.args.y.now) c.args.line (state_of c.args.m.now) c.in-Differs.is _ c.truth-in-Differs.result refl (c.truth-in-Differs.ensures ∙ ap (λ b. truth (not b)) c.same_value-in-Differs.ensures)

pub returns-in-Less : goal.returns-in-Less
returns-in-Less c = gives_as c.args.operator _ c.args.e (value_of c.args.x.now) (value_of c.args.y.now) c.args.line (state_of c.args.m.now) c.in-Less.is _ c.truth-in-Less.result refl (c.truth-in-Less.ensures ∙ ap truth c.is_less.ensures)

pub returns-in-Greater : goal.returns-in-Greater
returns-in-Greater c = gives_as c.args.operator _ c.args.e (value_of c.args.x.now) (value_of c.args.y.now) c.args.line (state_of c.args.m.now) c.in-Greater.is _ c.truth-in-Greater.result refl (c.truth-in-Greater.ensures ∙ ap truth c.is_less-in-Greater.ensures)

pub returns-in-AtMost : goal.returns-in-AtMost
returns-in-AtMost c = gives_as c.args.operator _ c.args.e (value_of c.args.x.now) (value_of c.args.y.now) c.args.line (state_of c.args.m.now) c.in-AtMost.is _ c.truth-in-AtMost.result refl (c.truth-in-AtMost.ensures ∙ ap truth c.is_at_most.ensures)

pub returns-in-AtLeast : goal.returns-in-AtLeast
returns-in-AtLeast c = gives_as c.args.operator _ c.args.e (value_of c.args.x.now) (value_of c.args.y.now) c.args.line (state_of c.args.m.now) c.in-AtLeast.is _ c.truth-in-AtLeast.result refl (c.truth-in-AtLeast.ensures ∙ ap truth c.is_at_most-in-AtLeast.ensures)
