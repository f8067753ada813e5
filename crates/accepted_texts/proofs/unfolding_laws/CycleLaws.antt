-- In a unit that breaks no rule nothing contains itself, and what is not too deep has no such depth.
use Rattle.std.proofs.Common.{◌≡◌, ℕ, suc, ◌+◌, ◌<◌, Bool, true, false, List, [], ◌∷◌, ◌++◌, map, length, Some, refl, sym, ap, ◌∙◌, arith}
use Rattle.std.specs.Prelude.{not, ◌&&◌, ◌||◌, flat_map, slice_get}
use Rattle.std.specs.List.{list_any}
use Rattle.std.proofs.lemmas.List.{length-map, map-append}
use Rattle.plc_text.specs.declared.code.Code.{Code}
use Rattle.st_tree.specs.declared.type_spec.TypeSpec.{TypeSpec}
use Rattle.st_tree.specs.declared.unit.Decl.{Decl}
use Rattle.st_rules.specs.Faults.{Faults, when}
use Rattle.st_rules.specs.Numbered.{each_numbered}
use Rattle.st_rules.specs.Scope.{Scope}
use Rattle.st_rules.proofs.Booleans.{neither, or-neither}
use Rattle.st_unit_rules.specs.declared_names.Declarations.{Declaration, Placed, Region, declarations, declarations_of, instances_of, is_first_configuration, heading_line, name_of, names_put, place_each, placed, placed_from, regions_of}
use Rattle.st_unit_rules.specs.declared_names.WrittenTypes.{type_written}
use Rattle.st_unit_rules.specs.Cycles.{element_names, types_named, contains_itself, leads_to_cycle, cycle_faults}
use Rattle.st_unit_rules.specs.DeclarationRules.{sort_faults, declaration_faults}
use Rattle.st_unit_rules.specs.Limits.{too_many_declarations, has_many_dimensions, has_depth_told, is_endless, too_deep, variable_too_deep}
use Rattle.st_unit_rules.specs.NameRules.{declared_before, name_of_conversion}
use Rattle.st_unit_rules.specs.UnitRefusal.{BreaksNothing, faults_of}
use Rattle.resolution_order.specs.told_laws.ToldLaws.{Every}
use Rattle.accepted_texts.proofs.unfolding_laws.ListLaws.{there_below}

-- ---- no faults

pub none_in : (xs ys : Faults) → xs ++ ys ≡ [] → (xs ≡ []) × (ys ≡ [])
none_in [] ys e = (refl, e)
none_in (x ∷ xs) ys e = cc

pub none_of_each : {X : Type 0} (f : X → Faults) (xs : List X) → flat_map f xs ≡ [] → Every (λ x. f x ≡ []) xs
none_of_each f [] e = tt
none_of_each f (x ∷ xs) e = let n = none_in (f x) (flat_map f xs) e in (n.0, none_of_each f xs n.1)

pub not_when : (b : Bool) (code : Code) (line : ℕ) → when b code line ≡ [] → b ≡ false
not_when true code line e = cc
not_when false code line e = refl

third_and_last : (a b c d e : Faults) → a ++ b ++ c ++ d ++ e ≡ [] → (c ≡ []) × (e ≡ [])
third_and_last a b c d e h =
    let last = none_in (a ++ b ++ c ++ d) e h in
    let fourth = none_in (a ++ b ++ c) d last.0 in
    let third = none_in (a ++ b) c fourth.0 in
    (third.1, last.1)

-- ---- tests

and_first : (a b : Bool) → (a && b) ≡ false → b ≡ true → a ≡ false
and_first true b h e = sym e ∙ h
and_first false b h e = refl

and_second : (a b : Bool) → b ≡ false → (a && b) ≡ false
and_second true b h = h
and_second false b h = refl

none_passes : {X : Type 0} (test : X → Bool) → ((x : X) → test x ≡ false) → (xs : List X) → list_any test xs ≡ false
none_passes test h [] = refl
none_passes test h (x ∷ xs) = or-neither (test x) (list_any test xs) (h x) (none_passes test h xs)

none_numbered : {X : Type 0} (t u : ℕ → Bool) (n : ℕ) (xs : List X) → ((j : ℕ) → j < length xs → u (n + j) ≡ false) → list_any (λ b. b) (each_numbered (λ j x. (t j && u j) ∷ []) n xs) ≡ false
none_numbered t u n [] h = refl
none_numbered t u n (x ∷ xs) h =
    let here : n ≡ n + 0 = omega arith in
    let first : 0 < suc (length xs) = omega arith in
    or-neither (t n && u n) (list_any (λ b. b) (each_numbered (λ j x. (t j && u j) ∷ []) (suc n) xs)) (and_second (t n) (u n) (ap u here ∙ h 0 first))
    (none_numbered t u (suc n) xs (λ j l. let q : suc n + j ≡ n + suc j = omega arith in let m : suc j < suc (length xs) = omega (arith, l) in ap u q ∙ h (suc j) m))

-- ---- the declarations with what stands before them

each_placed : (e : List Declaration) (b : List (List ℕ)) (r : List Region) (ds : List Declaration) → map (λ (x : Placed). x.declaration) (place_each e b r ds) ≡ ds
each_placed e b r [] = refl
each_placed e b r (d ∷ ds) = ap (λ xs. d ∷ xs) (each_placed (e ++ d ∷ []) (b ++ (name_of d).text ∷ []) (r ++ regions_of d) ds)

from_placed : (e : List Declaration) (b : List (List ℕ)) (r : List Region) (ds : List (Decl ℕ)) → map (λ (x : Placed). x.declaration) (placed_from e b r ds) ≡ flat_map declarations_of ds
from_placed e b r [] = refl
from_placed e b r (d ∷ ds) =
    map-append (λ (x : Placed). x.declaration) (place_each e b r (declarations_of d)) _
    ∙ ap (λ xs. xs ++ map (λ (x : Placed). x.declaration) (placed_from (e ++ declarations_of d) (b ++ map (λ n. n.text) (names_put d)) (r ++ (flat_map regions_of (declarations_of d) ++ instances_of (is_first_configuration e) d)) ds))
    (each_placed e b r (declarations_of d))
    ∙ ap (λ xs. declarations_of d ++ xs) (from_placed (e ++ declarations_of d) (b ++ map (λ n. n.text) (names_put d)) (r ++ (flat_map regions_of (declarations_of d) ++ instances_of (is_first_configuration e) d)) ds)

pub all_placed : (decls : List (Decl ℕ)) → map (λ (x : Placed). x.declaration) (placed decls) ≡ declarations decls
unfolding placed declarations
all_placed decls = from_placed [] [] [] decls

module _ (decls : List (Decl ℕ)) (good : BreaksNothing decls) where
  none_at : (i : ℕ) (x : Placed) → slice_get (placed decls) i ≡ Some x → declaration_faults decls i x ≡ []
  none_at i x e = sym (ap (faults_of decls i) e) ∙ good.good i

  pub none_there : (i : ℕ) (x : Placed) → slice_get (placed decls) i ≡ Some x → (cycle_faults (declarations decls) (heading_line x.declaration) i ≡ []) × (sort_faults decls i x x.declaration ≡ [])
  unfolding declaration_faults
  none_there i x e =
      third_and_last (declared_before x.before (name_of x.declaration)) (name_of_conversion (name_of x.declaration)) (cycle_faults (declarations decls) (heading_line x.declaration) i)
      (too_many_declarations (heading_line x.declaration) (length x.earlier)) (sort_faults decls i x x.declaration) (none_at i x e)

  -- ---- cycles

  no_cycle_by : (line i : ℕ) → cycle_faults (declarations decls) line i ≡ [] → contains_itself (declarations decls) i ≡ false
  unfolding cycle_faults
  no_cycle_by line i h = not_when (contains_itself (declarations decls) i) _ line (none_in _ _ h).0

  no_cycle : (i : ℕ) → i < length (declarations decls) → contains_itself (declarations decls) i ≡ false
  no_cycle i l =
      let a = ap length (all_placed decls) in
      let b = length-map (placed decls) (λ (x : Placed). x.declaration) in
      let t = there_below (placed decls) i (omega (arith, l, a, b)) in
      no_cycle_by (heading_line t.item.declaration) i (none_there i t.item t.there).0

  leads_to_none : (i : ℕ) → leads_to_cycle (declarations decls) i ≡ false
  leads_to_none i = none_numbered _ (contains_itself (declarations decls)) 0 (declarations decls) (λ j l. let q : 0 + j ≡ j = omega arith in ap (contains_itself (declarations decls)) q ∙ no_cycle j l)

  -- ---- depth

  has_end : (s : Scope) (t : TypeSpec ℕ) → is_endless s (declarations decls) t ≡ false
  has_end s t = none_passes (leads_to_cycle (declarations decls)) leads_to_none (types_named (declarations decls) (element_names t.element))

  -- a type that is not too deep
  pub not_deep : (s : Scope) (n line : ℕ) (t : TypeSpec ℕ) → too_deep s (declarations decls) n line t ≡ [] → has_depth_told s (suc n) (type_written s t) ≡ false
  not_deep s n line t h =
      let deep = has_depth_told s (suc n) (type_written s t) in
      and_first deep (not (is_endless s (declarations decls) t)) (not_when (deep && not (is_endless s (declarations decls) t)) _ line h) (ap not (has_end s t))

  -- so that of a variable
  pub variable_not_deep : (s : Scope) (n line : ℕ) (t : TypeSpec ℕ) → variable_too_deep s (declarations decls) n line t ≡ [] → has_depth_told s (suc n) (type_written s t) ≡ false
  variable_not_deep s n line t h =
      let many = has_many_dimensions (type_written s t) in
      let deep = has_depth_told s (suc n) (type_written s t) in
      (neither many deep (and_first (many || deep) (not (is_endless s (declarations decls) t)) (not_when ((many || deep) && not (is_endless s (declarations decls) t)) _ line h) (ap not (has_end s t)))).1
