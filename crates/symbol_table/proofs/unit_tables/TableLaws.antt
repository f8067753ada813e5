-- What the tables of a unit say of it.
use Rattle.std.proofs.Common.{◌≡◌, ℕ, List, [], ◌∷◌, ◌++◌, refl, sym, ap, ◌∙◌}
use Rattle.st_tree.specs.declared.unit.Decl.{Decl}
use Rattle.st_tree.specs.declared.unit.Decl.TheVariants as declaration
use Rattle.st_tree.specs.declared.unit.Unit.{Unit}
use Rattle.st_rules.specs.Classes.{classes_in}
use Rattle.st_rules.specs.Scope.{Scope}
use Rattle.st_unit_rules.specs.declared_names.UnitNames.{unit_names}
use Rattle.check_limits.specs.declared.type_sizes.sizes.TypeSizes.{TypeSizes}
use Rattle.check_limits.specs.type_sizes.Sizes.{Measures}

pub classes_split : (d : Decl ℕ) (ds : List (Decl ℕ)) → classes_in (d ∷ ds) ≡ classes_in (d ∷ []) ++ classes_in ds
classes_split (declaration.Types l ts) ds = refl
classes_split (declaration.Globals s) ds = refl
classes_split (declaration.Interface i) ds = refl
classes_split (declaration.Class c) ds = refl
classes_split (declaration.Function f) ds = refl
classes_split (declaration.Program p) ds = refl
classes_split (declaration.Configuration c) ds = refl

pub seen_sizes : (sizes : TypeSizes) (u v : Unit) → u ≡ v → ((s : Scope) → s.classes ≡ classes_in u.decls → s.names ≡ unit_names u.decls → Measures sizes s)
    → (s : Scope) → s.classes ≡ classes_in v.decls → s.names ≡ unit_names v.decls → Measures sizes s
seen_sizes sizes u v e h s a b = h s (a ∙ ap (λ (x : Unit). classes_in x.decls) (sym e)) (b ∙ ap (λ (x : Unit). unit_names x.decls) (sym e))
