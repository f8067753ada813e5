-- Types, initial values and statements that are spelled are formed.
use Rattle.std.proofs.Common.{ℕ, List, [], ◌∷◌, Option, Some, None}
use Rattle.st_tree.specs.declared.terminal.Terminal.TheVariants as x
use Rattle.st_tree.specs.declared.statement.Label.{Label}
use Rattle.st_tree.specs.declared.statement.LabelEnd.{LabelEnd}
use Rattle.st_tree.specs.declared.statement.LabelEnd.TheVariants as labels
use Rattle.st_tree.specs.declared.type_spec.ArraySpec.{ArraySpec}
use Rattle.st_tree.specs.declared.type_spec.Bounds.{Bounds}
use Rattle.st_tree.specs.declared.type_spec.SimpleSpec.{SimpleSpec}
use Rattle.st_tree.specs.declared.type_spec.SimpleSpec.TheVariants as simple
use Rattle.st_tree.specs.declared.type_spec.TypeSpec.{TypeSpec}
use Rattle.st_tree.specs.Expression.{Expression, expression_of}
use Rattle.st_tree.specs.Initial as init
use Rattle.st_tree.specs.Initial.{Initial, Part, Parts, no_parts, part_then, FieldInits, no_fields, field_then}
use Rattle.st_tree.specs.Statement as stmt
use Rattle.st_tree.specs.Statement.{Statement, Statements, no_statements, statement_then, Branches, no_branches, branch_then, Cases, no_cases, case_then, Otherwise}
use Rattle.st_tree.specs.Grammar.{◌⋆◌, sign, spelled, word, at, each, literal, root, expression, selectors, arguments, range, more_ranges, ranges, array_spec, simple_spec, type_spec, initial, first_part, more_parts, part, first_field, more_fields, label_end, range_end, label, more_labels, first_label, step_by, statement, body, first_branch, more_branches, otherwise, cases}
use Rattle.accepted_texts.specs.formed_units.Formed.{Every, NotEmpty, IfThere, FormedRoot, Formed, FormedAlong, FormedArguments, FormedBounds, FormedArray, FormedElement, FormedType, FormedInitial, FormedParts, FormedPart, FormedFields, FormedStatement, FormedBody, FormedBranches, FormedOtherwise, FormedCases}
use Rattle.accepted_texts.proofs.formed_units.Gives.{Gives, then, means, nothing_gives, sign_gives, spelled_gives, at_gives, word_gives, each_gives}
use Rattle.accepted_texts.proofs.formed_units.Expressions.{literal_gives, root_gives, behind, before, expression_gives, selectors_gives, arguments_gives}

module _ (most : ℕ) where
  -- ---- types

  range_gives : (b : Bounds ℕ) → Gives most (range b) (FormedBounds b)
  range_gives b =
      means most (range b) (Formed (expression_of b.low) × Formed (expression_of b.high)) (FormedBounds b) (λ h. record { low = h.0; high = h.1 })
      (then most (expression (expression_of b.low) 0) (sign x.Range ⋆ expression (expression_of b.high) 0) (Formed (expression_of b.low)) (Formed (expression_of b.high)) (expression_gives most (expression_of b.low) 0)
      (behind most x.Range (expression (expression_of b.high) 0) (Formed (expression_of b.high)) (expression_gives most (expression_of b.high) 0)))

  more_ranges_gives : (bs : List (Bounds ℕ)) → Gives most (more_ranges bs) (Every FormedBounds bs)
  more_ranges_gives [] ts rest h w = nothing_gives most ts rest h w
  more_ranges_gives (b ∷ bs) ts rest h w = behind most x.Comma (range b ⋆ more_ranges bs) (FormedBounds b × Every FormedBounds bs) (then most (range b) (more_ranges bs) (FormedBounds b) (Every FormedBounds bs) (range_gives b) (more_ranges_gives bs)) ts rest h w

  ranges_gives : (bs : List (Bounds ℕ)) → Gives most (ranges bs) (NotEmpty bs × Every FormedBounds bs)
  ranges_gives [] ts rest h w = absurd w
  ranges_gives (b ∷ bs) ts rest h w = means most (range b ⋆ more_ranges bs) (FormedBounds b × Every FormedBounds bs) (NotEmpty (b ∷ bs) × Every FormedBounds (b ∷ bs)) (λ k. (tt, k)) (then most (range b) (more_ranges bs) (FormedBounds b) (Every FormedBounds bs) (range_gives b) (more_ranges_gives bs)) ts rest h w

  array_gives : (a : ArraySpec ℕ) → Gives most (array_spec a) (FormedArray a)
  array_gives a =
      at_gives most a.note (sign x.Array ⋆ sign x.OpenBracket ⋆ ranges a.bounds ⋆ sign x.CloseBracket ⋆ sign x.Of) (FormedArray a)
      (behind most x.Array (sign x.OpenBracket ⋆ ranges a.bounds ⋆ sign x.CloseBracket ⋆ sign x.Of) (FormedArray a)
      (behind most x.OpenBracket (ranges a.bounds ⋆ sign x.CloseBracket ⋆ sign x.Of) (FormedArray a)
      (means most (ranges a.bounds ⋆ sign x.CloseBracket ⋆ sign x.Of) ((NotEmpty a.bounds × Every FormedBounds a.bounds) × Unit {0}) (FormedArray a) (λ h. record { some = h.0.0; bounds = h.0.1 })
      (then most (ranges a.bounds) (sign x.CloseBracket ⋆ sign x.Of) (NotEmpty a.bounds × Every FormedBounds a.bounds) (Unit {0}) (ranges_gives a.bounds) (behind most x.CloseBracket (sign x.Of) (Unit {0}) (sign_gives most x.Of))))))

  element_gives : (t : SimpleSpec ℕ) → Gives most (simple_spec t) (FormedElement t)
  element_gives (simple.Elementary line k) = at_gives most line (sign (x.Kind k)) (Unit {0}) (sign_gives most (x.Kind k))
  element_gives (simple.Named line n) = at_gives most line (word n) (NotEmpty n) (word_gives most n)
  element_gives (simple.Reference line later n) = at_gives most line (sign x.RefTo ⋆ at later (word n)) (NotEmpty n) (behind most x.RefTo (at later (word n)) (NotEmpty n) (at_gives most later (word n) (NotEmpty n) (word_gives most n)))

  pub type_gives : (t : TypeSpec ℕ) → Gives most (type_spec t) (FormedType t)
  type_gives t =
      means most (type_spec t) (Every FormedArray t.arrays × FormedElement t.element) (FormedType t) (λ h. record { arrays = h.0; element = h.1 })
      (then most (each array_spec t.arrays) (simple_spec t.element) (Every FormedArray t.arrays) (FormedElement t.element) (each_gives most array_spec FormedArray array_gives t.arrays) (element_gives t.element))

  -- ---- initial values

  mutual
    pub initial_gives : (i : Initial ℕ) → Gives most (initial i) (FormedInitial i)
    initial_gives (init.Value e) ts rest h w = expression_gives most e 0 ts rest h w
    initial_gives (init.Array line ps) ts rest h w = behind most x.OpenBracket (first_part ps ⋆ sign x.CloseBracket) (FormedParts ps) (before most (first_part ps) x.CloseBracket (FormedParts ps) (first_part_gives ps)) ts rest h w.1
    initial_gives (init.Fields line fs) ts rest h w = behind most x.Open (first_field fs ⋆ sign x.Close) (FormedFields fs) (before most (first_field fs) x.Close (FormedFields fs) (first_field_gives fs)) ts rest h w.1

    first_part_gives : (ps : Parts ℕ) → Gives most (first_part ps) (FormedParts ps)
    first_part_gives no_parts ts rest h w = absurd w
    first_part_gives (part_then p ps) ts rest h w = then most (part p) (more_parts ps) (FormedPart p) (FormedParts ps) (part_gives p) (more_parts_gives ps) ts rest h w

    more_parts_gives : (ps : Parts ℕ) → Gives most (more_parts ps) (FormedParts ps)
    more_parts_gives no_parts ts rest h w = nothing_gives most ts rest h w
    more_parts_gives (part_then p ps) ts rest h w = behind most x.Comma (part p ⋆ more_parts ps) (FormedPart p × FormedParts ps) (then most (part p) (more_parts ps) (FormedPart p) (FormedParts ps) (part_gives p) (more_parts_gives ps)) ts rest h w

    part_gives : (p : Part ℕ) → Gives most (part p) (FormedPart p)
    part_gives (init.One i) ts rest h w = initial_gives i ts rest h w
    part_gives (init.Repeated line digits i) ts rest h w =
        (let a = then most (spelled x.Int digits) (sign x.Open ⋆ initial i ⋆ sign x.Close) (NotEmpty digits) (FormedInitial i) (spelled_gives most x.Int digits) (behind most x.Open (initial i ⋆ sign x.Close) (FormedInitial i) (before most (initial i) x.Close (FormedInitial i) (initial_gives i))) ts rest h w.1 in (a.0, a.1.1))

    first_field_gives : (fs : FieldInits ℕ) → Gives most (first_field fs) (FormedFields fs)
    first_field_gives no_fields ts rest h w = absurd w
    first_field_gives (field_then line n i fs) ts rest h w =
        then most (at line (word n)) (sign x.Assign ⋆ initial i ⋆ more_fields fs) (NotEmpty n) (FormedInitial i × FormedFields fs) (at_gives most line (word n) (NotEmpty n) (word_gives most n))
        (behind most x.Assign (initial i ⋆ more_fields fs) (FormedInitial i × FormedFields fs) (then most (initial i) (more_fields fs) (FormedInitial i) (FormedFields fs) (initial_gives i) (more_fields_gives fs))) ts rest h w

    more_fields_gives : (fs : FieldInits ℕ) → Gives most (more_fields fs) (FormedFields fs)
    more_fields_gives no_fields ts rest h w = nothing_gives most ts rest h w
    more_fields_gives (field_then line n i fs) ts rest h w =
        behind most x.Comma (at line (word n) ⋆ sign x.Assign ⋆ initial i ⋆ more_fields fs) (NotEmpty n × (FormedInitial i × FormedFields fs))
        (then most (at line (word n)) (sign x.Assign ⋆ initial i ⋆ more_fields fs) (NotEmpty n) (FormedInitial i × FormedFields fs) (at_gives most line (word n) (NotEmpty n) (word_gives most n))
        (behind most x.Assign (initial i ⋆ more_fields fs) (FormedInitial i × FormedFields fs) (then most (initial i) (more_fields fs) (FormedInitial i) (FormedFields fs) (initial_gives i) (more_fields_gives fs)))) ts rest h w

  -- ---- statements

  label_end_gives : (l : LabelEnd ℕ) → Gives most (label_end l) (Unit {0})
  label_end_gives (labels.Int line digits) ts rest h w = ((spelled_gives most x.Int digits ts rest h w.1).0, tt)
  label_end_gives (labels.Negative line digits) ts rest h w = ((behind most x.Minus (spelled x.Int digits) (NotEmpty digits) (spelled_gives most x.Int digits) ts rest h w.1).0, tt)
  label_end_gives (labels.Typed line k v) ts rest h w = behind most (x.Kind k) (sign x.Hash ⋆ literal v) (Unit {0}) (behind most x.Hash (literal v) (Unit {0}) (literal_gives most v)) ts rest h w.1
  label_end_gives (labels.Name line n) ts rest h w = ((word_gives most n ts rest h w.1).0, tt)
  label_end_gives (labels.Enumerator line t later n) ts rest h w =
      ((then most (word t) (sign x.Hash ⋆ at later (word n)) (NotEmpty t) (NotEmpty n) (word_gives most t) (behind most x.Hash (at later (word n)) (NotEmpty n) (at_gives most later (word n) (NotEmpty n) (word_gives most n))) ts rest h w.1).0, tt)
  label_end_gives (labels.Field line t later n) ts rest h w =
      ((then most (word t) (sign x.Dot ⋆ at later (word n)) (NotEmpty t) (NotEmpty n) (word_gives most t) (behind most x.Dot (at later (word n)) (NotEmpty n) (at_gives most later (word n) (NotEmpty n) (word_gives most n))) ts rest h w.1).0, tt)

  range_end_gives : (o : Option (LabelEnd ℕ)) → Gives most (range_end o) (Unit {0})
  range_end_gives None ts rest h w = nothing_gives most ts rest h w
  range_end_gives (Some last) ts rest h w = behind most x.Range (label_end last) (Unit {0}) (label_end_gives last) ts rest h w

  label_gives : (l : Label ℕ) → Gives most (label l) (Unit {0})
  label_gives l ts rest h w = ((then most (label_end l.first) (range_end l.last) (Unit {0}) (Unit {0}) (label_end_gives l.first) (range_end_gives l.last) ts rest h w).0, tt)

  more_labels_gives : (ls : List (Label ℕ)) → Gives most (more_labels ls) (Unit {0})
  more_labels_gives [] ts rest h w = nothing_gives most ts rest h w
  more_labels_gives (l ∷ ls) ts rest h w = ((behind most x.Comma (label l ⋆ more_labels ls) (Unit {0} × Unit {0}) (then most (label l) (more_labels ls) (Unit {0}) (Unit {0}) (label_gives l) (more_labels_gives ls)) ts rest h w).0, tt)

  first_label_gives : (ls : List (Label ℕ)) → Gives most (first_label ls) (NotEmpty ls)
  first_label_gives [] ts rest h w = absurd w
  first_label_gives (l ∷ ls) ts rest h w = ((then most (label l) (more_labels ls) (Unit {0}) (Unit {0}) (label_gives l) (more_labels_gives ls) ts rest h w).0, tt)

  step_gives : (o : Option (Expression ℕ)) → Gives most (step_by o) (IfThere Formed o)
  step_gives None ts rest h w = nothing_gives most ts rest h w
  step_gives (Some e) ts rest h w = behind most x.By (expression e 0) (Formed e) (expression_gives most e 0) ts rest h w

  place_gives : (note : ℕ) (r : _) (s : _) → Gives most (at note (root r ⋆ selectors s)) (FormedRoot r × FormedAlong s)
  place_gives note r s = at_gives most note (root r ⋆ selectors s) (FormedRoot r × FormedAlong s) (then most (root r) (selectors s) (FormedRoot r) (FormedAlong s) (root_gives most r) (selectors_gives most s))

  assigned_gives : (note : ℕ) (r : _) (s : _) (by : _) (e : Expression ℕ) → Gives most (at note (root r ⋆ selectors s) ⋆ sign by ⋆ expression e 0 ⋆ sign x.Semicolon) (FormedRoot r × (FormedAlong s × Formed e))
  assigned_gives note r s by e =
      means most _ ((FormedRoot r × FormedAlong s) × Formed e) (FormedRoot r × (FormedAlong s × Formed e)) (λ k. (k.0.0, (k.0.1, k.1)))
      (then most (at note (root r ⋆ selectors s)) (sign by ⋆ expression e 0 ⋆ sign x.Semicolon) (FormedRoot r × FormedAlong s) (Formed e) (place_gives note r s)
      (behind most by (expression e 0 ⋆ sign x.Semicolon) (Formed e) (before most (expression e 0) x.Semicolon (Formed e) (expression_gives most e 0))))

  mutual
    statement_gives : (s : Statement ℕ) → Gives most (statement s) (FormedStatement s)
    statement_gives (stmt.Empty line) ts rest h w = sign_gives most x.Semicolon ts rest h w.1
    statement_gives (stmt.Assign line note r s e) ts rest h w = assigned_gives note r s x.Assign e ts rest h w.1
    statement_gives (stmt.Attempt line note r s e) ts rest h w = assigned_gives note r s x.Attempt e ts rest h w.1
    statement_gives (stmt.Call line note r s xs) ts rest h w =
        let a = then most (at note (root r ⋆ selectors s)) (sign x.Open ⋆ arguments xs ⋆ sign x.Close ⋆ sign x.Semicolon) (FormedRoot r × FormedAlong s) (FormedArguments xs × Unit {0}) (place_gives note r s)
        (behind most x.Open (arguments xs ⋆ sign x.Close ⋆ sign x.Semicolon) (FormedArguments xs × Unit {0})
        (then most (arguments xs) (sign x.Close ⋆ sign x.Semicolon) (FormedArguments xs) (Unit {0}) (arguments_gives most xs) (behind most x.Close (sign x.Semicolon) (Unit {0}) (sign_gives most x.Semicolon)))) ts rest h w.1 in
        (a.0, (a.1.0.0, (a.1.0.1, a.1.1.0)))
    statement_gives (stmt.Exit line) ts rest h w = behind most x.Exit (sign x.Semicolon) (Unit {0}) (sign_gives most x.Semicolon) ts rest h w.1
    statement_gives (stmt.Continue line) ts rest h w = behind most x.Continue (sign x.Semicolon) (Unit {0}) (sign_gives most x.Semicolon) ts rest h w.1
    statement_gives (stmt.Return line) ts rest h w = behind most x.Return (sign x.Semicolon) (Unit {0}) (sign_gives most x.Semicolon) ts rest h w.1
    statement_gives (stmt.If line bs other) ts rest h w =
        behind most x.If (first_branch bs ⋆ otherwise other ⋆ sign x.EndIf) (FormedBranches bs × FormedOtherwise other)
        (then most (first_branch bs) (otherwise other ⋆ sign x.EndIf) (FormedBranches bs) (FormedOtherwise other) (first_branch_gives bs) (before most (otherwise other) x.EndIf (FormedOtherwise other) (otherwise_gives other))) ts rest h w.1
    statement_gives (stmt.Case line e cs other) ts rest h w =
        behind most x.Case (expression e 0 ⋆ sign x.Of ⋆ cases cs ⋆ otherwise other ⋆ sign x.EndCase) (Formed e × (FormedCases cs × FormedOtherwise other))
        (then most (expression e 0) (sign x.Of ⋆ cases cs ⋆ otherwise other ⋆ sign x.EndCase) (Formed e) (FormedCases cs × FormedOtherwise other) (expression_gives most e 0)
        (behind most x.Of (cases cs ⋆ otherwise other ⋆ sign x.EndCase) (FormedCases cs × FormedOtherwise other)
        (then most (cases cs) (otherwise other ⋆ sign x.EndCase) (FormedCases cs) (FormedOtherwise other) (cases_gives cs) (before most (otherwise other) x.EndCase (FormedOtherwise other) (otherwise_gives other))))) ts rest h w.1
    statement_gives (stmt.For line note n from to by ss) ts rest h w =
        behind most x.For (at note (word n) ⋆ sign x.Assign ⋆ expression from 0 ⋆ sign x.To ⋆ expression to 0 ⋆ step_by by ⋆ sign x.Do ⋆ body ss ⋆ sign x.EndFor) (NotEmpty n × (Formed from × (Formed to × (IfThere Formed by × FormedBody ss))))
        (then most (at note (word n)) (sign x.Assign ⋆ expression from 0 ⋆ sign x.To ⋆ expression to 0 ⋆ step_by by ⋆ sign x.Do ⋆ body ss ⋆ sign x.EndFor) (NotEmpty n) (Formed from × (Formed to × (IfThere Formed by × FormedBody ss))) (at_gives most note (word n) (NotEmpty n) (word_gives most n))
        (behind most x.Assign (expression from 0 ⋆ sign x.To ⋆ expression to 0 ⋆ step_by by ⋆ sign x.Do ⋆ body ss ⋆ sign x.EndFor) (Formed from × (Formed to × (IfThere Formed by × FormedBody ss)))
        (then most (expression from 0) (sign x.To ⋆ expression to 0 ⋆ step_by by ⋆ sign x.Do ⋆ body ss ⋆ sign x.EndFor) (Formed from) (Formed to × (IfThere Formed by × FormedBody ss)) (expression_gives most from 0)
        (behind most x.To (expression to 0 ⋆ step_by by ⋆ sign x.Do ⋆ body ss ⋆ sign x.EndFor) (Formed to × (IfThere Formed by × FormedBody ss))
        (then most (expression to 0) (step_by by ⋆ sign x.Do ⋆ body ss ⋆ sign x.EndFor) (Formed to) (IfThere Formed by × FormedBody ss) (expression_gives most to 0)
        (then most (step_by by) (sign x.Do ⋆ body ss ⋆ sign x.EndFor) (IfThere Formed by) (FormedBody ss) (step_gives by)
        (behind most x.Do (body ss ⋆ sign x.EndFor) (FormedBody ss) (before most (body ss) x.EndFor (FormedBody ss) (body_gives ss))))))))) ts rest h w.1
    statement_gives (stmt.While line e ss) ts rest h w =
        behind most x.While (expression e 0 ⋆ sign x.Do ⋆ body ss ⋆ sign x.EndWhile) (Formed e × FormedBody ss)
        (then most (expression e 0) (sign x.Do ⋆ body ss ⋆ sign x.EndWhile) (Formed e) (FormedBody ss) (expression_gives most e 0)
        (behind most x.Do (body ss ⋆ sign x.EndWhile) (FormedBody ss) (before most (body ss) x.EndWhile (FormedBody ss) (body_gives ss)))) ts rest h w.1
    statement_gives (stmt.Repeat line ss e) ts rest h w =
        behind most x.Repeat (body ss ⋆ sign x.Until ⋆ expression e 0 ⋆ sign x.EndRepeat) (FormedBody ss × Formed e)
        (then most (body ss) (sign x.Until ⋆ expression e 0 ⋆ sign x.EndRepeat) (FormedBody ss) (Formed e) (body_gives ss)
        (behind most x.Until (expression e 0 ⋆ sign x.EndRepeat) (Formed e) (before most (expression e 0) x.EndRepeat (Formed e) (expression_gives most e 0)))) ts rest h w.1

    pub body_gives : (ss : Statements ℕ) → Gives most (body ss) (FormedBody ss)
    body_gives no_statements ts rest h w = nothing_gives most ts rest h w
    body_gives (statement_then s ss) ts rest h w = then most (statement s) (body ss) (FormedStatement s) (FormedBody ss) (statement_gives s) (body_gives ss) ts rest h w

    first_branch_gives : (bs : Branches ℕ) → Gives most (first_branch bs) (FormedBranches bs)
    first_branch_gives no_branches ts rest h w = absurd w
    first_branch_gives (branch_then e ss bs) ts rest h w =
        then most (expression e 0) (sign x.Then ⋆ body ss ⋆ more_branches bs) (Formed e) (FormedBody ss × FormedBranches bs) (expression_gives most e 0)
        (behind most x.Then (body ss ⋆ more_branches bs) (FormedBody ss × FormedBranches bs) (then most (body ss) (more_branches bs) (FormedBody ss) (FormedBranches bs) (body_gives ss) (more_branches_gives bs))) ts rest h w

    more_branches_gives : (bs : Branches ℕ) → Gives most (more_branches bs) (FormedBranches bs)
    more_branches_gives no_branches ts rest h w = nothing_gives most ts rest h w
    more_branches_gives (branch_then e ss bs) ts rest h w =
        behind most x.Elsif (expression e 0 ⋆ sign x.Then ⋆ body ss ⋆ more_branches bs) (Formed e × (FormedBody ss × FormedBranches bs))
        (then most (expression e 0) (sign x.Then ⋆ body ss ⋆ more_branches bs) (Formed e) (FormedBody ss × FormedBranches bs) (expression_gives most e 0)
        (behind most x.Then (body ss ⋆ more_branches bs) (FormedBody ss × FormedBranches bs) (then most (body ss) (more_branches bs) (FormedBody ss) (FormedBranches bs) (body_gives ss) (more_branches_gives bs)))) ts rest h w

    otherwise_gives : (o : Otherwise ℕ) → Gives most (otherwise o) (FormedOtherwise o)
    otherwise_gives stmt.Nothing ts rest h w = nothing_gives most ts rest h w
    otherwise_gives (stmt.Else ss) ts rest h w = behind most x.Else (body ss) (FormedBody ss) (body_gives ss) ts rest h w

    cases_gives : (cs : Cases ℕ) → Gives most (cases cs) (FormedCases cs)
    cases_gives no_cases ts rest h w = nothing_gives most ts rest h w
    cases_gives (case_then ls ss cs) ts rest h w =
        then most (first_label ls) (sign x.Colon ⋆ body ss ⋆ cases cs) (NotEmpty ls) (FormedBody ss × FormedCases cs) (first_label_gives ls)
        (behind most x.Colon (body ss ⋆ cases cs) (FormedBody ss × FormedCases cs) (then most (body ss) (cases cs) (FormedBody ss) (FormedCases cs) (body_gives ss) (cases_gives cs))) ts rest h w
