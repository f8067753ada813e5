-- SUPER() stands on an instance of the base.
use Rattle.std.proofs.Common.{◌≡◌, ℕ, Bool, true, false, List, Option, Some, None, refl, sym, ap, ◌∙◌, subst}
use Rattle.std.specs.Prelude.{is_some, if◌then◌else◌}
use Rattle.st_types.specs.declared.st_type.StType.{StType}
use Rattle.st_types.specs.declared.st_type.StType.TheVariants as type
use Rattle.st_tree.specs.declared.expression.Root.{Root}
use Rattle.st_tree.specs.declared.expression.Root.TheVariants as root
use Rattle.st_tree.specs.declared.program.Note.{Note}
use Rattle.st_tree.specs.declared.program.Target.{Target}
use Rattle.st_tree.specs.declared.program.Target.TheVariants as target
use Rattle.st_tree.specs.Expression.{Selectors, no_selectors, selector_then, Field, Index}
use Rattle.st_tree.specs.Expression as tree
use Rattle.st_values.specs.Program.{Program}
use Rattle.st_meaning.specs.Place.{root_note}
use Rattle.st_meaning.specs.Call.{by_instance, from_class, Callee, a_body, callee_of, named_callee, member_callee, last_method, is_direct, class_of_kind, method_name}
use Rattle.st_meaning.specs.st_frame.Use.{last_kind}
use Rattle.st_meaning.specs.st_frame.Promise.Names.{Scope, RootIs}
use Rattle.st_meaning.specs.st_frame.Promise.Places.{TargetIs}
use Rattle.st_meaning.specs.st_frame.Promise.Expressions.{CalledAlong}

-- the class from which a body is called
abbrev base_in : Callee → Option ℕ
base_in (a_body (from_class d)) = Some d
base_in c = None

no_base : {o : Option ℕ} {d : ℕ} → o ≡ None → o ≡ Some d → ⊥
no_base {d = d} e f = let z : None ≡ Some d = sym e ∙ f in cc

named_none : (t : Target) (name : List ℕ) → base_in (named_callee t name) ≡ None
named_none (target.Function k) name = refl
named_none (target.Method m) name = refl
named_none target.Conversion name = refl
named_none t name = refl

member_none : (o : Option (List ℕ)) → base_in (member_callee by_instance o) ≡ None
member_none None = refl
member_none (Some name) = refl

some_once : {a b : ℕ} → Some a ≡ Some b → a ≡ b
some_once e = cc

module _ (p : Program) (g : Scope) where
  direct_kind : (ss : Selectors Note) (t : StType) (d : ℕ) → is_direct ss ≡ true → last_method None ss ≡ None → t ≡ type.Instance d → CalledAlong p g ss t → last_kind t ss ≡ type.Instance d
  direct_kind no_selectors t d direct none e h = e
  direct_kind (selector_then (tree.Target a) ss) t d direct none e h =
      let k : a.kind ≡ type.Instance d = subst (λ y. TargetIs y a.kind) e h.0 in
      direct_kind ss a.kind d direct none k h.1
  direct_kind (selector_then (Field a name) no_selectors) t d direct none e h = absurd (clash (sym (ap is_some none) ∙ direct))
    where
      clash : false ≡ true → ⊥
      clash e = cc
  direct_kind (selector_then (Field a name) (selector_then y ys)) t d direct none e h = cc
  direct_kind (selector_then (Index a es) no_selectors) t d direct none e h = cc
  direct_kind (selector_then (Index a es) (selector_then y ys)) t d direct none e h = cc

  pub super_place : (q : Root Note) (ss : Selectors Note) (d : ℕ) → callee_of q ss ≡ a_body (from_class d) → RootIs p g q → CalledAlong p g ss (root_note q).kind → last_kind (root_note q).kind ss ≡ type.Instance d
  super_place (root.Name b name) no_selectors d e h k = absurd (no_base (named_none b.target name) (ap base_in e))
  super_place (root.Name b name) (selector_then x ss) d e h k = absurd (no_base (member_none (last_method None (selector_then x ss))) (ap base_in e))
  super_place (root.This b) ss d e h k = absurd (no_base (member_none (last_method None ss)) (ap base_in e))
  super_place (root.Super b) ss d e h k = by (is_direct ss) refl (last_method None ss) refl e
    where
      by : (t : Bool) → is_direct ss ≡ t → (o : Option (List ℕ)) → last_method None ss ≡ o → member_callee (if t then from_class (class_of_kind b.kind) else by_instance) o ≡ a_body (from_class d) → last_kind b.kind ss ≡ type.Instance d
      by true direct None none e =
          let at : class_of_kind b.kind ≡ d = some_once (ap base_in e) in
          direct_kind ss b.kind d direct none (h.3 ∙ ap type.Instance (sym (ap class_of_kind h.3) ∙ at)) k
      by true direct (Some name) some e = let z : None ≡ Some d = ap base_in e in cc
      by false other o is e = absurd (no_base (member_none o) (ap base_in e))
