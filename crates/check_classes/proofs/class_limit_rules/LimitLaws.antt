-- Depths, and all limits of a class.
use Rattle.std.proofs.Common.{◌≡◌, ℕ, List, ◌++◌, Option, Some, refl, sym, ap, ◌∙◌, subst, append_assoc, map}
use Rattle.std.specs.Prelude.{◌&&◌, not, filter, flat_map}
use Rattle.plc_text.specs.declared.code.Code.{Code}
use Rattle.plc_text.specs.declared.code.Code.TheVariants.{E16}
use Rattle.st_types.specs.declared.st_type.StType.TheVariants as type
use Rattle.st_tree.specs.declared.declaration.ClassDecl.{ClassDecl}
use Rattle.st_tree.specs.declared.declaration.Member.{Member}
use Rattle.st_tree.specs.declared.declaration.Section.{Section}
use Rattle.st_tree.specs.declared.unit.Decl.{Decl}
use Rattle.st_tree.specs.declared.unit.Unit.{Unit}
use Rattle.st_rules.specs.Classes.{chain, classes_in}
use Rattle.st_rules.specs.Faults.{Faults, earlier, least, when}
use Rattle.st_rules.specs.Scope.{Scope}
use Rattle.st_rules.proofs.FaultLaws.{least-append, earlier-assoc}
use Rattle.st_unit_rules.specs.declared_names.Declarations.{declarations}
use Rattle.st_unit_rules.specs.declared_names.UnitNames.{class_scope, unit_names}
use Rattle.st_unit_rules.specs.declared_names.Variables.{is_body_written, sections_in, sections_written}
use Rattle.st_unit_rules.specs.declared.declaration_list.written.WrittenName.{WrittenName}
use Rattle.st_unit_rules.specs.declaration_list.Written.{global_of, names_in_sections}
use Rattle.st_unit_rules.specs.Cycles.{leads_to_cycle}
use Rattle.st_unit_rules.specs.DeclarationRules.{class_too_deep, item_too_deep, class_limits}
use Rattle.st_unit_rules.specs.Limits.{is_too_deep}
use Rattle.check_limits.specs.declared.type_sizes.sizes.TypeSizes.{TypeSizes}
use Rattle.check_limits.specs.type_sizes.Sizes.{Measures}
use Rattle.check_initial_values.proofs.Parts.{joined}
use Rattle.check_classes.specs.class_limit_rules.Private.Counts.{counted}
use Rattle.check_classes.specs.class_limit_rules.Private.Limits.{depths}

module _ (decls : List (Decl ℕ)) (s : Scope) (place class : ℕ) (d : ClassDecl ℕ) where
  abbrev sections : List (Section ℕ)
  sections = sections_in d.members

  pub depths_found : (sizes : TypeSizes) (ms : List (Member ℕ)) (list names : List WrittenName) (own inner r : Option (Code × ℕ)) → Measures sizes s → ms ≡ d.members → names ≡ list → map global_of list ≡ names_in_sections (sections_in ms)
      → ((z : Scope) → Measures sizes z → own ≡ least (when (is_too_deep z (type.Instance class) && not (leads_to_cycle (declarations decls) place)) E16 d.line))
      → ((ss : List (Section ℕ)) → map global_of names ≡ names_in_sections ss → inner ≡ least (flat_map (λ w. item_too_deep decls s w.item) (filter is_body_written (sections_written ss)))) → r ≡ earlier own inner
      → r ≡ least (depths decls s place class d)
  depths_found sizes ms list names own inner r m a q u o f e =
      let g : map global_of names ≡ names_in_sections sections = ap (map global_of) q ∙ u ∙ ap (λ zs. names_in_sections (sections_in zs)) a in
      joined r own inner (class_too_deep decls s place class d) (flat_map (λ w. item_too_deep decls s w.item) (filter is_body_written (sections_written sections))) e
      (o s m)
      (f sections g)

  pub all_limits : (one other : List (Decl ℕ)) (counts own r : Option (Code × ℕ)) → one ≡ decls → other ≡ decls → counts ≡ least (counted one s class d) → own ≡ least (depths other s place class d) → r ≡ earlier counts own → r ≡ least (class_limits decls s place class d)
  all_limits one other counts own r p q c o e =
      joined r counts own (counted decls s class d) (depths decls s place class d) e (c ∙ ap (λ ds. least (counted ds s class d)) p) (o ∙ ap (λ ds. least (depths ds s place class d)) q)
      ∙ ap least (sym (append_assoc (counted decls s class d) (class_too_deep decls s place class d) (flat_map (λ w. item_too_deep decls s w.item) (filter is_body_written (sections_written sections)))))

pub own_classes : (s : Scope) (decls : List (Decl ℕ)) (class : ℕ) → s ≡ class_scope decls (unit_names decls) class → s.classes ≡ classes_in decls
own_classes s decls class e = ap (λ z. z.classes) e

pub own_names : (s : Scope) (decls : List (Decl ℕ)) (class : ℕ) → s ≡ class_scope decls (unit_names decls) class → s.names ≡ unit_names decls
own_names s decls class e = ap (λ z. z.names) e

pub measured : (sizes : TypeSizes) (s : Scope) (decls : List (Decl ℕ)) (class : ℕ) → ((z : Scope) → z.classes ≡ classes_in decls → z.names ≡ unit_names decls → Measures sizes z) → s ≡ class_scope decls (unit_names decls) class → Measures sizes s
measured sizes s decls class m e = m s (own_classes s decls class e) (own_names s decls class e)

pub same_classes : (one other : Unit) (s : Scope) (class : ℕ) → one ≡ other → s ≡ class_scope other.decls (unit_names other.decls) class → s.classes ≡ classes_in one.decls
same_classes one other s class h e = own_classes s other.decls class e ∙ sym (ap (λ u. classes_in u.decls) h)

pub own_chain : (above : List ℕ) (s : Scope) (decls : List (Decl ℕ)) (class : ℕ) → above ≡ chain (classes_in decls) class → s ≡ class_scope decls (unit_names decls) class → above ≡ chain s.classes class
own_chain above s decls class a e = a ∙ sym (ap (λ cs. chain cs class) (own_classes s decls class e))
