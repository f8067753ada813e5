use Rattle.std.proofs.Common.{ℕ, List, [], ◌∷◌, ◌++◌, ◌∙◌, ap}
use Rattle.class_tables.proofs.StoreLaws.{empty_store}
use Rattle.class_tables.proofs.store.Store.new.Goals as goal

pub returns-clause-empty : goal.returns-clause-empty
returns-clause-empty c = empty_store _ (c.in_ok-push.ensures.items ∙ ap (λ (xs : List (List ℕ)). xs ++ (0 ∷ 0 ∷ 0 ∷ 0 ∷ []) ∷ []) c.new-nodes.ensures.items)
