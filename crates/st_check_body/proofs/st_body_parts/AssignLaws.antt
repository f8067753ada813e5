-- Assignments, attempts and calls, from what their parts are found to be.
use Rattle.std.proofs.Common.{◌≡◌, ℕ, Bool, true, false, List, ◌++◌, Option, None, refl, sym, ap, ◌∙◌, subst, map}
use Rattle.plc_text.specs.declared.code.Code.{Code}
use Rattle.st_types.specs.declared.st_type.StType.{StType}
use Rattle.st_tree.specs.declared.expression.Argument.{Argument as CodeArgument}
use Rattle.st_tree.specs.declared.expression.Place.{Place as CodePlace}
use Rattle.st_tree.specs.declared.expression.Root.{Root}
use Rattle.st_tree.specs.declared.expression.Selector.{Selector as CodeSelector}
use Rattle.st_tree.specs.declared.program.Note.{Note}
use Rattle.st_tree.specs.declared.program.Target.TheVariants.{Nothing}
use Rattle.st_tree.specs.Expression.{Expression, Selectors, Arguments, expression_of, selectors_of, arguments_of, place_of, place_of-is}
use Rattle.st_tree.specs.declared.expression.Expr.{Expr}
use Rattle.st_tree.specs.declared.statement.Stmt.TheVariants as code
use Rattle.st_tree.specs.Statement.{Assign, Attempt, Call, statement_of, statement_of-Assign, statement_of-Attempt, statement_of-Call}
use Rattle.st_rules.specs.declared.asked.Asked.{Asked}
use Rattle.st_rules.specs.declared.asked.Asked.TheVariants.{Anything}
use Rattle.st_rules.specs.Faults.{Faults, least, earlier}
use Rattle.st_rules.specs.Literals.{asked_of}
use Rattle.st_rules.specs.Scope.{Scope}
use Rattle.st_rules.specs.Places as places
use Rattle.st_rules.specs.Places.{root_line, root_standing, root_faults, whole_faults, too_many_selectors, target_faults, place_type}
use Rattle.st_rules.specs.Calls.{callee, call_type, callee_faults, is_on_super, heads, call_matches}
use Rattle.st_rules.specs.Expressions.{note, line_of, type_of, expression_faults, called_root_faults, along_faults, argument_faults, typed, typed_root, typed_along, typed_arguments}
use Rattle.st_rules.specs.Statements.{selector_limits, argument_limits, place_faults, assign_faults, attempt_faults, attempt_at_no_reference, attempt_of_no_instance, is_null, call_faults, typed_place_note}
use Rattle.check_nodes.specs.declared.calls.Prepared.{Prepared}
use Rattle.check_nodes.specs.declared.found.Checked.{Checked}
use Rattle.check_nodes.specs.declared.lists.Arguments.{Arguments as SoFar}
use Rattle.check_nodes.specs.declared.slots.Slot.{Slot}
use Rattle.check_nodes.specs.declared.wholes.CheckedPlace.{CheckedPlace}
use Rattle.check_nodes.specs.Calls.{IsPrepared}
use Rattle.check_nodes.specs.Found.{Finds}
use Rattle.check_nodes.specs.Slots.{slots, used}
use Rattle.st_check_expr.specs.Walk.{PlaceFinds, ArgumentsFind}
use Rattle.st_check_expr.proofs.NodeLaws.{place_told, faults_used, typed_used}
use Rattle.st_check_body.specs.declared.st_body_parts.found.CheckedStatement.{CheckedStatement}
use Rattle.st_check_body.specs.st_body_parts.Found.{TargetFinds, StatementFinds}
use Rattle.st_check_body.proofs.st_body_parts.Parts.{joined}

-- a place of the code by its parts, where its selectors stand in a slice
place_by : (p : CodePlace ℕ) (zs : List (CodeSelector ℕ)) → zs ≡ p.selectors → place_of p ≡ (p.root, selectors_of zs)
place_by p zs q = place_of-is p ∙ ap (λ (us : List (CodeSelector ℕ)). (p.root, selectors_of us)) (sym q)

pub target_arm : (t x : CheckedPlace) (s : Scope) (p : CodePlace ℕ) (zs : List (CodeSelector ℕ)) (a b c u v : Option (Code × ℕ)) → zs ≡ p.selectors → PlaceFinds x s false (place_of p).0 (place_of p).1 →
    a ≡ least (whole_faults s p.root (selectors_of zs)) → b ≡ least (selector_limits (selectors_of zs)) → c ≡ least (target_faults s p.root (selectors_of zs)) →
    u ≡ earlier x.least a → v ≡ earlier u b → t.least ≡ earlier v c → t.place ≡ x.place → TargetFinds t s (place_of p).0 (place_of p).1
target_arm t x s p zs a b c u v q f ha hb hc hu hv ht hp =
    let is = place_by p zs q in
    let g : PlaceFinds x s false p.root (selectors_of zs) = subst (λ (d : Root ℕ × Selectors ℕ). PlaceFinds x s false d.0 d.1) is f in
    let of_place = root_faults s false p.root (selectors_of zs) ++ along_faults s (root_line p.root) false (root_standing s p.root (selectors_of zs)) (selectors_of zs) in
    subst (λ (d : Root ℕ × Selectors ℕ). TargetFinds t s d.0 d.1) (sym is)
    (record {
      broken = joined t.least v c (place_faults s p.root (selectors_of zs)) (target_faults s p.root (selectors_of zs)) ht
          (joined v u b (of_place ++ whole_faults s p.root (selectors_of zs)) (selector_limits (selectors_of zs)) hv
          (joined u x.least a of_place (whole_faults s p.root (selectors_of zs)) hu g.broken ha) hb) hc;
      tree = ap place_of hp ∙ g.tree;
    })

module _ (s : Scope) (l k : ℕ) (p : CodePlace ℕ) (zs : List (CodeSelector ℕ)) (q : zs ≡ p.selectors) (target : CheckedPlace) (f : TargetFinds target s (place_of p).0 (place_of p).1) (t : Option StType) (b : places.Standing)
    (placed_is : b ≡ places.placed s p.root (selectors_of zs)) (told_is : t ≡ places.standing_type b) (n : Note) (note_is : n ≡ note k (places.standing_type b) Nothing) where
  abbrev r : Root ℕ
  r = (place_of p).0

  abbrev ss : Selectors ℕ
  ss = (place_of p).1

  type_is : places.standing_type b ≡ place_type s r ss
  type_is = ap (λ (d : places.Standing). places.standing_type d) placed_is ∙ ap (λ (d : Root ℕ × Selectors ℕ). place_type s d.0 d.1) (sym (place_by p zs q))

  noted : n ≡ typed_place_note s k r ss
  noted = note_is ∙ ap (λ (u : Option StType). note k u Nothing) type_is

  pub assign_arm : (c : CheckedStatement) (in_loop : Bool) (asked : Asked) (x : Checked) (e : Expression ℕ) → asked ≡ asked_of t → Finds x (type_of s asked e) (expression_faults s asked e) (typed s asked e) →
      c.least ≡ earlier target.least x.least → statement_of c.statement ≡ Assign l n (place_of target.place).0 (place_of target.place).1 (expression_of x.tree) → StatementFinds c s in_loop (Assign l k r ss e)
  assign_arm c in_loop asked x e a g h w =
      let wanted : asked ≡ asked_of (place_type s r ss) = a ∙ ap asked_of (told_is ∙ type_is) in
      let value : Finds x (type_of s (asked_of (place_type s r ss)) e) (expression_faults s (asked_of (place_type s r ss)) e) (typed s (asked_of (place_type s r ss)) e) =
      subst (λ (d : Asked). Finds x (type_of s d e) (expression_faults s d e) (typed s d e)) wanted g in
      record {
        broken = joined c.least target.least x.least (place_faults s r ss ++ target_faults s r ss) (expression_faults s (asked_of (place_type s r ss)) e) h f.broken value.least;
        tree = λ none. w ∙ ap (λ (y : Note). Assign l y (place_of target.place).0 (place_of target.place).1 (expression_of x.tree)) noted
            ∙ ap (λ (d : Root Note × Selectors Note). Assign l (typed_place_note s k r ss) d.0 d.1 (expression_of x.tree)) f.tree
            ∙ ap (λ (y : Expression Note). Assign l (typed_place_note s k r ss) (typed_root s false r ss) (typed_along s false (root_standing s r ss) ss) y) value.tree;
      }

  pub attempt_arm : (c : CheckedStatement) (in_loop : Bool) (x : Checked) (e : Expression ℕ) (line m : ℕ) (null : Bool) (of_place of_value u v : Option (Code × ℕ)) → line ≡ root_line p.root → of_place ≡ least (attempt_at_no_reference line t) →
      Finds x (type_of s Anything e) (expression_faults s Anything e) (typed s Anything e) → m ≡ line_of e → null ≡ is_null e → of_value ≡ least (attempt_of_no_instance m null x.told) →
      u ≡ earlier target.least of_place → v ≡ earlier u x.least → c.least ≡ earlier v of_value →
      statement_of c.statement ≡ Attempt l n (place_of target.place).0 (place_of target.place).1 (expression_of x.tree) → StatementFinds c s in_loop (Attempt l k r ss e)
  attempt_arm c in_loop x e line m null of_place of_value u v hl hp g hm hn ho hu hv h w =
      let at_place : of_place ≡ least (attempt_at_no_reference (root_line r) (place_type s r ss)) =
      hp ∙ ap (λ d. least (attempt_at_no_reference d t)) (hl ∙ ap root_line (sym (ap (λ (d : Root ℕ × Selectors ℕ). d.0) (place_of-is p)))) ∙ ap (λ d. least (attempt_at_no_reference (root_line r) d)) (told_is ∙ type_is) in
      let at_value : of_value ≡ least (attempt_of_no_instance (line_of e) (is_null e) (type_of s Anything e)) =
      ho ∙ ap (λ d. least (attempt_of_no_instance d null x.told)) hm ∙ ap (λ d. least (attempt_of_no_instance (line_of e) d x.told)) hn ∙ ap (λ d. least (attempt_of_no_instance (line_of e) (is_null e) d)) g.told in
      record {
        broken = joined c.least v of_value (place_faults s r ss ++ target_faults s r ss ++ attempt_at_no_reference (root_line r) (place_type s r ss) ++ expression_faults s Anything e) (attempt_of_no_instance (line_of e) (is_null e) (type_of s Anything e)) h
            (joined v u x.least (place_faults s r ss ++ target_faults s r ss ++ attempt_at_no_reference (root_line r) (place_type s r ss)) (expression_faults s Anything e) hv
            (joined u target.least of_place (place_faults s r ss ++ target_faults s r ss) (attempt_at_no_reference (root_line r) (place_type s r ss)) hu f.broken at_place) g.least) at_value;
        tree = λ none. w ∙ ap (λ (y : Note). Attempt l y (place_of target.place).0 (place_of target.place).1 (expression_of x.tree)) noted
            ∙ ap (λ (d : Root Note × Selectors Note). Attempt l (typed_place_note s k r ss) d.0 d.1 (expression_of x.tree)) f.tree
            ∙ ap (λ (y : Expression Note). Attempt l (typed_place_note s k r ss) (typed_root s false r ss) (typed_along s false (root_standing s r ss) ss) y) g.tree;
      }

-- ---- calls

pub call_arm : (c : CheckedStatement) (s : Scope) (in_loop : Bool) (l k : ℕ) (p : CodePlace ℕ) (zs : List (CodeSelector ℕ)) (xs : Arguments ℕ) (call : Prepared) (x : CheckedPlace) (found : SoFar) (list : List (Option Slot)) (line : ℕ) (n : Note) (a b d : Option (Code × ℕ)) (u v w y : Option (Code × ℕ)) →
    zs ≡ p.selectors → IsPrepared call s k (is_on_super p.root (selectors_of zs)) (callee s p.root (selectors_of zs)) (heads xs) → PlaceFinds x s true (place_of p).0 (place_of p).1 →
    list ≡ call.slots.items → ArgumentsFind found s (slots list) xs → line ≡ root_line p.root → a ≡ least (too_many_selectors s line (selectors_of zs)) → b ≡ least (selector_limits (selectors_of zs)) → d ≡ least (argument_limits xs) →
    u ≡ earlier x.least a → v ≡ earlier u b → w ≡ earlier v call.least → y ≡ earlier w found.least → c.least ≡ earlier y d → n ≡ note k call.told Nothing →
    statement_of c.statement ≡ Call l n (place_of x.place).0 (place_of x.place).1 (arguments_of found.arguments) → StatementFinds c s in_loop (Call l k (place_of p).0 (place_of p).1 xs)
call_arm c s in_loop l k p zs xs call x found list line n a b d u v w y q is f hl g hn ha hb hd hu hv hw hy h note_is t =
    let r = p.root in
    let ss = selectors_of zs in
    let ms = call_matches s (callee s r ss) (heads xs) in
    let of_place = called_root_faults s r ss ++ along_faults s (root_line r) true (root_standing s r ss) ss in
    let of_selectors = of_place ++ too_many_selectors s (root_line r) ss ++ selector_limits ss in
    let of_callee = callee_faults s k (is_on_super r ss) (callee s r ss) (heads xs) in
    let place : PlaceFinds x s true r ss = subst (λ (e : Root ℕ × Selectors ℕ). PlaceFinds x s true e.0 e.1) (place_by p zs q) f in
    let args : ArgumentsFind found s (slots call.slots.items) xs = subst (λ (us : List (Option Slot)). ArgumentsFind found s (slots us) xs) hl g in
    subst (λ (e : Root ℕ × Selectors ℕ). StatementFinds c s in_loop (Call l k e.0 e.1 xs)) (sym (place_by p zs q))
    (record {
      broken = joined c.least y d (of_selectors ++ of_callee ++ argument_faults s ms xs) (argument_limits xs) h
          (joined y w found.least (of_selectors ++ of_callee) (argument_faults s ms xs) hy
          (joined w v call.least of_selectors of_callee hw
          (joined v u b (of_place ++ too_many_selectors s (root_line r) ss) (selector_limits ss) hv
          (joined u x.least a of_place (too_many_selectors s (root_line r) ss) hu place.broken (ha ∙ ap (λ m. least (too_many_selectors s m ss)) hn)) hb)
          is.own)
          (args.broken ∙ ap (λ us. least (argument_faults s us xs)) is.matches ∙ faults_used s ms xs)) hd;
      tree = λ none. t
          ∙ ap (λ (e : Note). Call l e (place_of x.place).0 (place_of x.place).1 (arguments_of found.arguments)) (note_is ∙ ap (λ o. note k o Nothing) is.told)
          ∙ ap (λ (e : Root Note × Selectors Note). Call l (note k (call_type (callee s r ss)) Nothing) e.0 e.1 (arguments_of found.arguments)) place.tree
          ∙ ap (λ (e : Arguments Note). Call l (note k (call_type (callee s r ss)) Nothing) (typed_root s true r ss) (typed_along s true (root_standing s r ss) ss) e)
          (args.tree ∙ ap (λ us. typed_arguments s us xs) is.matches ∙ typed_used s ms xs);
    })

-- ---- statements, from what their parts are taken from

pub assign_of : (l : ℕ) (n : Note) (p q : CodePlace Note) (e d : Expr Note) → p ≡ q → e ≡ d → statement_of (code.Assign l n p e) ≡ Assign l n (place_of q).0 (place_of q).1 (expression_of d)
assign_of l n p q e d h k = ap (λ y. statement_of (code.Assign l n y e)) h ∙ ap (λ y. statement_of (code.Assign l n q y)) k ∙ statement_of-Assign l n q d

pub attempt_of : (l : ℕ) (n : Note) (p q : CodePlace Note) (e d : Expr Note) → p ≡ q → e ≡ d → statement_of (code.Attempt l n p e) ≡ Attempt l n (place_of q).0 (place_of q).1 (expression_of d)
attempt_of l n p q e d h k = ap (λ y. statement_of (code.Attempt l n y e)) h ∙ ap (λ y. statement_of (code.Attempt l n q y)) k ∙ statement_of-Attempt l n q d

pub call_of : (l : ℕ) (n : Note) (p q : CodePlace Note) (xs : List (CodeArgument Note)) → p ≡ q → statement_of (code.Call l n p xs) ≡ Call l n (place_of q).0 (place_of q).1 (arguments_of xs)
call_of l n p q xs h = ap (λ y. statement_of (code.Call l n y xs)) h ∙ statement_of-Call l n q xs
