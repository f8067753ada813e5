-- An assignment that breaks no rule is as it is promised.
use Rattle.std.proofs.Common.{◌≡◌, ℕ, true, false, [], Option, Some, sym, ap, ◌∙◌, subst}
use Rattle.plc_text.specs.declared.code.Code.TheVariants.{E08}
use Rattle.st_types.specs.declared.st_type.StType.{StType}
use Rattle.st_types.specs.declared.st_type.StType.TheVariants as type
use Rattle.st_tree.specs.declared.expression.Root.{Root}
use Rattle.st_tree.specs.Expression.{Expression, Selectors}
use Rattle.st_tree.specs.Statement.{Assign}
use Rattle.st_rules.specs.Kinds.{holds_instances, holds_instances-Instance}
use Rattle.st_rules.specs.Literals.{asked_of}
use Rattle.st_rules.specs.Scope.{Scope}
use Rattle.st_rules.specs.Places.{root_line, root_standing, root_faults, whole_faults, place_type, target_faults, fixed_target, instance_as_target, holds_instances_if_told}
use Rattle.st_rules.specs.Calls.{value_unsuited}
use Rattle.st_rules.specs.Expressions.{told, line_of, type_of, faults, along_faults, too_many_operators, expression_faults}
use Rattle.st_rules.specs.Statements.{selector_limits, place_faults, assign_faults, typed_statement}
use Rattle.st_values.specs.Program.{Program}
use Rattle.st_meaning.specs.st_frame.Promise.Types.{IsNoInstance, Widens}
use Rattle.st_meaning.specs.st_frame.Promise.Names.{Scope as Around}
use Rattle.st_meaning.specs.st_frame.Promise.Statements.{StatementIs}
use Rattle.place_laws.specs.Agrees.{Agrees}
use Rattle.accepted_texts.specs.formed_units.Formed.{Formed, FormedAlong}
use Rattle.place_laws.proofs.Words.{none_in, not_when, three, four}
use Rattle.place_laws.proofs.Places.{told_as}
use Rattle.place_laws.proofs.Heart
use Rattle.place_laws.proofs.Whole
use Rattle.place_laws.proofs.Params
use Rattle.call_laws.proofs.Expressions as Expr

module _ (s : Scope) (p : Program) (g : Around) (a : Agrees s p g) where
  bad : true ≡ false → ⊥
  bad h = cc

  no_held : (w : StType) → holds_instances w ≡ false → IsNoInstance w
  no_held (type.Instance c) q = absurd (bad (sym (holds_instances-Instance c) ∙ q))
  no_held _ q = tt

  no_instance : (l : ℕ) (r : Root ℕ) (ss : Selectors ℕ) (t : StType) → place_type s r ss ≡ Some t → target_faults s r ss ≡ [] → IsNoInstance t
  unfolding target_faults
  no_instance l r ss t e f =
      no_held t (sym (ap (holds_instances_if_told s) e) ∙ not_when (holds_instances_if_told s (place_type s r ss)) E08 (root_line r) (none_in (fixed_target s (root_line r) r ss) (instance_as_target s (root_line r) r ss) f).1)

  asked_place : (t : StType) (o : Option StType) → o ≡ Some t → asked_of o ≡ Rattle.st_rules.specs.declared.asked.Asked.TheVariants.Wanted t
  unfolding asked_of
  asked_place t o e = ap asked_of e

  pub assign_right : (l k : ℕ) (r : Root ℕ) (ss : Selectors ℕ) (e : Expression ℕ) → FormedAlong ss → Formed e → assign_faults s r ss e ≡ [] → StatementIs p g (typed_statement s (Assign l k r ss e))
  assign_right l k r ss e i j f =
      let asked = asked_of (place_type s r ss) in
      let fs = three (place_faults s r ss) (target_faults s r ss) (expression_faults s asked e) f in
      let ps = four (root_faults s false r ss) (along_faults s (root_line r) false (root_standing s r ss) ss) (whole_faults s r ss) (selector_limits ss) fs.0 in
      let es = three (faults s asked e) (value_unsuited s (line_of e) asked (type_of s asked e)) (too_many_operators e) fs.2 in
      let o = Expr.place_whole s p g a r ss i ps.0 ps.1 ps.2 in
      let w = Whole.its_place s p g a r ss (Expr.not_fixed s p g a l r ss fs.1) o in
      let n = told_as (place_type s r ss) o.kind o.told in
      let x = Expr.expression s p g a asked e j (Heart.asks_of (place_type s r ss) o.kind o.told) es.0 in
      let z = Heart.noted_kind s p g a asked e x.kind x.told in (
        (w.root, w.along, w.last ∙ sym n),
        subst IsNoInstance (sym n) (no_instance l r ss o.kind o.told fs.1),
        x.is,
        subst (λ u. Widens p u (told (place_type s r ss))) (sym z) (subst (Widens p x.kind) (sym n) (Params.given_value s p g a (line_of e) asked o.kind x.kind (type_of s asked e) (asked_place o.kind (place_type s r ss) o.told) x.told es.1)),
      )
