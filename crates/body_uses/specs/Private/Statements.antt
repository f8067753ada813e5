-- What parts of statements use.
use Rattle.std.specs.Prelude.{List, ◌++◌, option_map}
use Rattle.st_tree.specs.declared.expression.Root.{Root}
use Rattle.st_tree.specs.declared.program.Note.{Note}
use Rattle.st_tree.specs.Expression.{Expression, expression_of, Selectors}
use Rattle.st_values.specs.Program.{Program}
use Rattle.st_meaning.specs.st_frame.Use.{Use, changed, named_region, name_uses, owner_uses, place_uses, expression_uses, step_uses}
use Rattle.body_uses.specs.declared.statements.Range.{Range}

module _ (p : Program) where
  abbrev pub assigned_uses : Root Note → Selectors Note → Expression Note → List Use
  assigned_uses r ss e = owner_uses r ss ++ (place_uses p r ss ++ expression_uses p e)

  -- the head of a FOR
  abbrev pub range_uses : Range → List Use
  range_uses r =
      changed (named_region r.counter.now.target) ++ (name_uses r.counter.now.target ++
      (expression_uses p (expression_of r.from.now) ++ (expression_uses p (expression_of r.to.now) ++ step_uses p (option_map expression_of r.by.now))))
