-- In a unit that breaks no rule declarations are few, classes and programs with them.
use Rattle.std.proofs.Common.{◌≡◌, ◌≤◌, ℕ, ◌+◌, List, [], ◌∷◌, ◌++◌, map, length, Some, sym, ap, ◌∙◌, subst, arith, append-nil, append_assoc, nat_eq, false}
use Rattle.std.specs.Prelude.{flat_map, slice_get}
use Rattle.plc_text.specs.declared.code.Code.TheVariants.{E16}
use Rattle.st_tree.specs.declared.unit.Decl.{Decl}
use Rattle.st_tree.specs.declared.unit.Decl.TheVariants as declaration
use Rattle.st_rules.specs.Classes.{classes_in}
use Rattle.st_unit_rules.specs.declared_names.Declarations.{Declaration, Region, Placed, declarations_of, regions_of, instances_of, is_first_configuration, heading_line, name_of, names_put, place_each, placed, placed_from, programs_in, globals_of_section, configuration_globals}
use Rattle.st_unit_rules.specs.DeclarationRules.{sort_faults, declaration_faults}
use Rattle.st_unit_rules.specs.Limits.{too_many_declarations}
use Rattle.st_unit_rules.specs.UnitRefusal.{BreaksNothing, faults_of}
use Rattle.resolution_order.specs.told_laws.ToldLaws.{Every}
use Rattle.accepted_texts.proofs.unfolding_laws.CycleLaws.{none_in, not_when}
use Rattle.accepted_texts.proofs.unfolding_laws.ListLaws.{every_front, every_back, every_from}
use Rattle.accepted_texts.proofs.sized_units.Regions.{below_bound, length_one}

length_joined : {X : Type 0} (xs ys : List X) → length (xs ++ ys) ≡ length xs + length ys
length_joined [] ys = omega arith
length_joined (x ∷ xs) ys = let k = length_joined xs ys in omega (arith, k)

abbrev FewBefore : Placed → Type 0
FewBefore x = nat_eq (length x.earlier) 4096 ≡ false

each_few : (e : List Declaration) (b : List (List ℕ)) (r : List Region) (ds : List Declaration) → Every FewBefore (place_each e b r ds) → length e ≤ 4096 → length (e ++ ds) ≤ 4096
each_few e b r [] h l = subst (λ (xs : List Declaration). length xs ≤ 4096) (sym (append-nil e)) l
each_few e b r (d ∷ ds) h l =
    let m = below_bound (length e) 4096 l h.0 in
    let one = length_one e d in
    let rest = each_few (e ++ d ∷ []) (b ++ (name_of d).text ∷ []) (r ++ regions_of d) ds h.1 (omega (arith, m, one)) in
    subst (λ (xs : List Declaration). length xs ≤ 4096) (append_assoc e (d ∷ []) ds) rest

from_few : (e : List Declaration) (b : List (List ℕ)) (r : List Region) (ds : List (Decl ℕ)) → Every FewBefore (placed_from e b r ds) → length e ≤ 4096 → length (e ++ flat_map declarations_of ds) ≤ 4096
from_few e b r [] h l = subst (λ (xs : List Declaration). length xs ≤ 4096) (sym (append-nil e)) l
from_few e b r (d ∷ ds) h l =
    let here = each_few e b r (declarations_of d) (every_front FewBefore (place_each e b r (declarations_of d)) _ h) l in
    let rest = from_few (e ++ declarations_of d) (b ++ map (λ n. n.text) (names_put d)) (r ++ (flat_map regions_of (declarations_of d) ++ instances_of (is_first_configuration e) d)) ds (every_back FewBefore (place_each e b r (declarations_of d)) _ h) here in
    subst (λ (xs : List Declaration). length xs ≤ 4096) (append_assoc e (declarations_of d) (flat_map declarations_of ds)) rest

-- each class and each program is a declaration
classes_and_programs : (ds : List (Decl ℕ)) → length (classes_in ds) + length (programs_in ds) ≤ length (flat_map declarations_of ds)
classes_and_programs [] = omega arith
classes_and_programs (declaration.Class d ∷ ds) = let k = classes_and_programs ds in omega (arith, k)
classes_and_programs (declaration.Program d ∷ ds) = let k = classes_and_programs ds in omega (arith, k)
classes_and_programs (declaration.Interface d ∷ ds) = let k = classes_and_programs ds in omega (arith, k)
classes_and_programs (declaration.Function d ∷ ds) = let k = classes_and_programs ds in omega (arith, k)
classes_and_programs (declaration.Types l ts ∷ ds) = let k = classes_and_programs ds in let j = length_joined (declarations_of (declaration.Types l ts)) (flat_map declarations_of ds) in omega (arith, k, j)
classes_and_programs (declaration.Globals s ∷ ds) = let k = classes_and_programs ds in let j = length_joined (globals_of_section s) (flat_map declarations_of ds) in omega (arith, k, j)
classes_and_programs (declaration.Configuration c ∷ ds) = let k = classes_and_programs ds in let j = length_joined (flat_map globals_of_section (configuration_globals c)) (flat_map declarations_of ds) in omega (arith, k, j)

module _ (decls : List (Decl ℕ)) (good : BreaksNothing decls) where
  few_at : (i : ℕ) (x : Placed) → slice_get (placed decls) i ≡ Some x → FewBefore x
  unfolding declaration_faults
  few_at i x e =
      let h : declaration_faults decls i x ≡ [] = sym (ap (faults_of decls i) e) ∙ good.good i in
      let last = none_in _ (sort_faults decls i x x.declaration) h in
      let fourth = none_in _ (too_many_declarations (heading_line x.declaration) (length x.earlier)) last.0 in
      not_when (nat_eq (length x.earlier) 4096) E16 (heading_line x.declaration) fourth.1

  pub few_classes : length (classes_in decls) + length (programs_in decls) ≤ 4096
  unfolding placed
  few_classes =
      let a = from_few [] [] [] decls (every_from FewBefore (placed decls) few_at) (omega arith) in
      let b = classes_and_programs decls in
      omega (arith, a, b)
