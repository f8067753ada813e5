-- A phrase takes a front of the lexemes, whatever stands behind it.
use Rattle.std.proofs.Common.{ℕ, List, [], ◌∷◌, ◌++◌, Option, Some, None, sym, ◌∙◌, subst, append-nil}
use Rattle.st_tree.specs.declared.terminal.Terminal.TheVariants as x
use Rattle.st_tree.specs.declared.statement.Label.{Label}
use Rattle.st_tree.specs.declared.statement.LabelEnd.{LabelEnd}
use Rattle.st_tree.specs.declared.statement.LabelEnd.TheVariants as labels
use Rattle.st_tree.specs.Expression.{Expression}
use Rattle.st_tree.specs.Statement as stmt
use Rattle.st_tree.specs.Statement.{Statement, Statements, no_statements, statement_then, Branches, no_branches, branch_then, Cases, no_cases, case_then, Otherwise}
use Rattle.st_tree.specs.Initial as init
use Rattle.st_tree.specs.Initial.{Initial, Part, Parts, no_parts, part_then, FieldInits, no_fields, field_then}
use Rattle.st_tree.specs.Grammar.{initial, first_part, more_parts, part, first_field, more_fields}
use Rattle.st_tree.specs.Grammar.{Lexeme, Phrase, label_end, range_end, label, more_labels, first_label, step_by, statement, body, first_branch, more_branches, otherwise, cases}
use Rattle.st_parser_expr.proofs.Fronts.{IsFront, IsHead, front, then_front, both_fronts, then_head, of_nothing, of_never, of_at, of_sign, of_spelled, of_literal, of_root, of_selectors, of_arguments, of_expression}

-- what stands alone stands before anything
pub move : (P : Phrase) → IsFront P → (a rest : List Lexeme) → P a [] → P (a ++ rest) rest
move P f a rest h =
    let b = f a [] h in
    subst (λ u. P (u ++ rest) rest) (sym (b.whole ∙ append-nil b.tokens)) (b.moved rest)

of_label_end : (l : LabelEnd ℕ) → IsHead (label_end l)
of_label_end (labels.Int line n) = of_at line _ (of_spelled x.Int n)
of_label_end (labels.Negative line n) = of_at line _ (then_head _ _ (of_sign x.Minus) (of_spelled x.Int n))
of_label_end (labels.Typed line k v) = of_at line _ (then_head _ _ (of_sign (x.Kind k)) (then_head _ _ (of_sign x.Hash) (of_literal v)))
of_label_end (labels.Name line n) = of_at line _ (of_spelled x.Word n)
of_label_end (labels.Enumerator line t later n) = of_at line _ (then_head _ _ (of_spelled x.Word t) (then_head _ _ (of_sign x.Hash) (of_at later _ (of_spelled x.Word n))))
of_label_end (labels.Field line t later n) = of_at line _ (then_head _ _ (of_spelled x.Word t) (then_head _ _ (of_sign x.Dot) (of_at later _ (of_spelled x.Word n))))

of_range_end : (o : Option (LabelEnd ℕ)) → IsFront (range_end o)
of_range_end None = of_nothing
of_range_end (Some l) = front _ (then_head _ _ (of_sign x.Range) (of_label_end l))

of_label : (l : Label ℕ) → IsHead (label l)
of_label l = then_front _ _ (of_label_end l.first) (of_range_end l.last)

of_more_labels : (ls : List (Label ℕ)) → IsFront (more_labels ls)
of_more_labels [] = of_nothing
of_more_labels (l ∷ ls) = front _ (then_front _ _ (of_sign x.Comma) (both_fronts _ _ (front _ (of_label l)) (of_more_labels ls)))

pub of_first_label : (ls : List (Label ℕ)) → IsHead (first_label ls)
of_first_label [] = of_never
of_first_label (l ∷ ls) = then_front _ _ (of_label l) (of_more_labels ls)

of_step : (o : Option (Expression ℕ)) → IsFront (step_by o)
of_step None = of_nothing
of_step (Some e) = front _ (then_head _ _ (of_sign x.By) (of_expression e 0))

mutual
  pub of_statement : (s : Statement ℕ) → IsHead (statement s)
  of_statement (stmt.Empty line) = of_at line _ (of_sign x.Semicolon)
  of_statement (stmt.Assign line note r s e) =
      of_at line _ (then_head _ _ (of_at note _ (then_front _ _ (of_root r) (of_selectors s))) (then_head _ _ (of_sign x.Assign) (then_head _ _ (of_expression e 0) (of_sign x.Semicolon))))
  of_statement (stmt.Attempt line note r s e) =
      of_at line _ (then_head _ _ (of_at note _ (then_front _ _ (of_root r) (of_selectors s))) (then_head _ _ (of_sign x.Attempt) (then_head _ _ (of_expression e 0) (of_sign x.Semicolon))))
  of_statement (stmt.Call line note r s xs) =
      of_at line _ (then_head _ _ (of_at note _ (then_front _ _ (of_root r) (of_selectors s)))
      (then_front _ _ (of_sign x.Open) (both_fronts _ _ (of_arguments xs) (front _ (then_head _ _ (of_sign x.Close) (of_sign x.Semicolon))))))
  of_statement (stmt.Exit line) = of_at line _ (then_head _ _ (of_sign x.Exit) (of_sign x.Semicolon))
  of_statement (stmt.Continue line) = of_at line _ (then_head _ _ (of_sign x.Continue) (of_sign x.Semicolon))
  of_statement (stmt.Return line) = of_at line _ (then_head _ _ (of_sign x.Return) (of_sign x.Semicolon))
  of_statement (stmt.If line bs o) = of_at line _ (then_front _ _ (of_sign x.If) (both_fronts _ _ (of_first_branch bs) (both_fronts _ _ (of_otherwise o) (front _ (of_sign x.EndIf)))))
  of_statement (stmt.Case line e cs o) =
      of_at line _ (then_head _ _ (of_sign x.Case) (then_head _ _ (of_expression e 0) (then_front _ _ (of_sign x.Of) (both_fronts _ _ (of_cases cs) (both_fronts _ _ (of_otherwise o) (front _ (of_sign x.EndCase)))))))
  of_statement (stmt.For line note n from to by ss) =
      of_at line _ (then_head _ _ (of_sign x.For) (then_head _ _ (of_at note _ (of_spelled x.Word n)) (then_head _ _ (of_sign x.Assign) (then_head _ _ (of_expression from 0) (then_head _ _ (of_sign x.To)
      (then_front _ _ (of_expression to 0) (both_fronts _ _ (of_step by) (front _ (then_front _ _ (of_sign x.Do) (both_fronts _ _ (of_body ss) (front _ (of_sign x.EndFor))))))))))))
  of_statement (stmt.While line e ss) =
      of_at line _ (then_head _ _ (of_sign x.While) (then_head _ _ (of_expression e 0) (then_front _ _ (of_sign x.Do) (both_fronts _ _ (of_body ss) (front _ (of_sign x.EndWhile))))))
  of_statement (stmt.Repeat line ss e) =
      of_at line _ (then_front _ _ (of_sign x.Repeat) (both_fronts _ _ (of_body ss) (front _ (then_head _ _ (of_sign x.Until) (then_head _ _ (of_expression e 0) (of_sign x.EndRepeat))))))

  pub of_body : (ss : Statements ℕ) → IsFront (body ss)
  of_body no_statements = of_nothing
  of_body (statement_then s ss) = front _ (then_front _ _ (of_statement s) (of_body ss))

  of_first_branch : (bs : Branches ℕ) → IsFront (first_branch bs)
  of_first_branch no_branches = front _ of_never
  of_first_branch (branch_then e ss bs) = front _ (then_head _ _ (of_expression e 0) (then_front _ _ (of_sign x.Then) (both_fronts _ _ (of_body ss) (of_more_branches bs))))

  of_more_branches : (bs : Branches ℕ) → IsFront (more_branches bs)
  of_more_branches no_branches = of_nothing
  of_more_branches (branch_then e ss bs) =
      front _ (then_head _ _ (of_sign x.Elsif) (then_head _ _ (of_expression e 0) (then_front _ _ (of_sign x.Then) (both_fronts _ _ (of_body ss) (of_more_branches bs)))))

  of_otherwise : (o : Otherwise ℕ) → IsFront (otherwise o)
  of_otherwise stmt.Nothing = of_nothing
  of_otherwise (stmt.Else ss) = front _ (then_front _ _ (of_sign x.Else) (of_body ss))

  of_cases : (cs : Cases ℕ) → IsFront (cases cs)
  of_cases no_cases = of_nothing
  of_cases (case_then ls ss cs) = front _ (then_front _ _ (of_first_label ls) (both_fronts _ _ (front _ (of_sign x.Colon)) (both_fronts _ _ (of_body ss) (of_cases cs))))

mutual
  pub of_initial : (i : Initial ℕ) → IsHead (initial i)
  of_initial (init.Value e) = of_expression e 0
  of_initial (init.Array line ps) = of_at line _ (then_front _ _ (of_sign x.OpenBracket) (both_fronts _ _ (front _ (of_first_part ps)) (front _ (of_sign x.CloseBracket))))
  of_initial (init.Fields line fs) = of_at line _ (then_front _ _ (of_sign x.Open) (both_fronts _ _ (front _ (of_first_field fs)) (front _ (of_sign x.Close))))

  of_first_part : (ps : Parts ℕ) → IsHead (first_part ps)
  of_first_part no_parts = of_never
  of_first_part (part_then p ps) = then_front _ _ (of_part p) (of_more_parts ps)

  of_more_parts : (ps : Parts ℕ) → IsFront (more_parts ps)
  of_more_parts no_parts = of_nothing
  of_more_parts (part_then p ps) = front _ (then_front _ _ (of_sign x.Comma) (both_fronts _ _ (front _ (of_part p)) (of_more_parts ps)))

  of_part : (p : Part ℕ) → IsHead (part p)
  of_part (init.One i) = of_initial i
  of_part (init.Repeated line digits i) = of_at line _ (then_head _ _ (of_spelled x.Int digits) (then_head _ _ (of_sign x.Open) (then_head _ _ (of_initial i) (of_sign x.Close))))

  of_first_field : (fs : FieldInits ℕ) → IsHead (first_field fs)
  of_first_field no_fields = of_never
  of_first_field (field_then line n i fs) = then_head _ _ (of_at line _ (of_spelled x.Word n)) (then_head _ _ (of_sign x.Assign) (then_front _ _ (of_initial i) (of_more_fields fs)))

  of_more_fields : (fs : FieldInits ℕ) → IsFront (more_fields fs)
  of_more_fields no_fields = of_nothing
  of_more_fields (field_then line n i fs) =
      front _ (then_head _ _ (of_sign x.Comma) (then_head _ _ (of_at line _ (of_spelled x.Word n)) (then_head _ _ (of_sign x.Assign) (then_front _ _ (of_initial i) (of_more_fields fs)))))
