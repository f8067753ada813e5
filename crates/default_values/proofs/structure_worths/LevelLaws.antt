-- Fields that are weighed within as many steps as they take are weighed within more.
use Rattle.std.proofs.Common.{◌≡◌, ℕ, zero, suc, ◌<◌, ◌≤◌, Bool, true, false, List, [], ◌∷◌, ◌++◌, Option, Some, None, map, length, refl, sym, ap, ◌∙◌, ◌⊎◌, inl, inr, subst, arith, true≢false}
use Rattle.std.specs.Prelude.{◌&&◌, nat_le, flat_map, option_map, slice_get}
use Rattle.std.proofs.lemmas.Bool.{le-leb}
use Rattle.st_types.specs.declared.st_type.StType.{StType}
use Rattle.st_types.specs.declared.st_type.StType.TheVariants as type
use Rattle.st_types.specs.declared.st_type.StType.TheOpen.{StType-F}
use Rattle.st_tree.specs.declared.declaration.FieldGroup.{FieldGroup}
use Rattle.st_tree.specs.declared.declaration.TypeDecl.{TypeDecl}
use Rattle.st_tree.specs.declared.name.Name.{Name}
use Rattle.st_tree.specs.Initial.{Initial, initial_of}
use Rattle.st_rules.specs.Scope.{Scope}
use Rattle.st_unit_rules.specs.declared_names.WrittenTypes.{type_written}
use Rattle.st_unit_rules.specs.Worth.{Worth, groups_of, typed_worth, worth_within}
use Rattle.default_values.specs.declared.worth_numbers.node.Node.{Node}
use Rattle.default_values.specs.worth_steps.Steps.{passes_told, pass_all_told, group_kinds, field_kinds, has_level, takes_steps, IsCount}
use Rattle.default_values.proofs.worth_steps.LevelLaws.{step_laws}
use Rattle.default_values.specs.declared.initial_worths.structures.Group.{Group}
use Rattle.default_values.specs.declared.initial_worths.structures.Structure.{Structure}
use Rattle.default_values.specs.initial_worths.Structures.{IsTold, IsGroup, IsNamed, AreGroups, IsStructure}

pub same_or_not : (m i : ℕ) → (m ≡ i) ⊎ (m ≡ i → ⊥)
same_or_not zero zero = inl refl
same_or_not zero (suc i) = inr (λ e. absurd (cc))
same_or_not (suc m) zero = inr (λ e. absurd (cc))
same_or_not (suc m) (suc i) = elim (same_or_not m i) [
  | inl e ↦ inl (ap suc e)
  | inr n ↦ inr (λ e. n (cc))
]

both : (a b : Bool) → (a && b) ≡ true → (a ≡ true) × (b ≡ true)
both true b h = (refl, h)
both false b h = absurd (true≢false (sym h))

split_all : (test : StType → Bool) (xs ys : List (Option StType)) → pass_all_told test (xs ++ ys) ≡ (pass_all_told test xs && pass_all_told test ys)
split_all test [] ys = refl
split_all test (x ∷ xs) ys = ap (λ b. passes_told test x && b) (split_all test xs ys) ∙ grouped (passes_told test x) (pass_all_told test xs) (pass_all_told test ys)
  where
    grouped : (a b c : Bool) → (a && (b && c)) ≡ ((a && b) && c)
    grouped true b c = refl
    grouped false b c = refl

one_passes : (test : StType → Bool) (o : Option StType) (ns : List Name) → 0 < length ns → pass_all_told test (map (λ (n : Name). o) ns) ≡ true → passes_told test o ≡ true
one_passes test o [] some h = absurd (omega (arith, some))
one_passes test o (n ∷ ns) some h = (both (passes_told test o) (pass_all_told test (map (λ (m : Name). o) ns)) h).0

-- what takes no steps is no type
pub takes_some : (unit : Scope) (entries : List (TypeDecl ℕ)) (steps : ℕ) (t : StType) → IsCount unit entries steps t → 0 < steps
takes_some unit entries zero t h = absurd (true≢false (sym (h.is 0 (omega arith))))
takes_some unit entries (suc n) t h = omega arith

module _ (nodes : List Node) (unit : Scope) (entries : List (TypeDecl ℕ)) where
  more_typed : (k : ℕ) (o : Option StType) (i : Option (Initial ℕ)) → passes_told (takes_steps unit entries k) o ≡ true
      → typed_worth unit entries (worth_within unit entries (suc k)) unit o i ≡ typed_worth unit entries (worth_within unit entries k) unit o i
  more_typed k None i h = refl
  more_typed k (Some t) i h = (step_laws unit entries).same k unit t i h

  more_group : (k : ℕ) (x : Group) → passes_told (takes_steps unit entries k) (type_written unit x.declared.now.kind) ≡ true → IsGroup nodes unit entries k x → IsGroup nodes unit entries (suc k) x
  more_group k x p h = record {
    kind = h.kind;
    worth = subst (λ (o : Option Worth). IsTold nodes x.worth o) (sym (more_typed k (type_written unit x.declared.now.kind) (option_map initial_of x.declared.now.initial) p)) h.worth;
  }

  more_named : (k : ℕ) (x : Group) → pass_all_told (takes_steps unit entries k) (group_kinds unit entries x.declared.now) ≡ true → IsNamed nodes unit entries k x → IsNamed nodes unit entries (suc k) x
  more_named k x p h = λ some. more_group k x (one_passes (takes_steps unit entries k) (type_written unit x.declared.now.kind) x.declared.now.names some p) (h some)

  more_groups : (k : ℕ) (xs : List Group) → pass_all_told (takes_steps unit entries k) (flat_map (group_kinds unit entries) (map (λ g. g.declared.now) xs)) ≡ true → AreGroups nodes unit entries k xs → AreGroups nodes unit entries (suc k) xs
  more_groups k [] p h = tt
  more_groups k (x ∷ xs) p h =
      let test = takes_steps unit entries k in
      let own = group_kinds unit entries x.declared.now in
      let rest = flat_map (group_kinds unit entries) (map (λ (g : Group). g.declared.now) xs) in
      let q = both (pass_all_told test own) (pass_all_told test rest) (sym (split_all test own rest) ∙ p) in
      (more_named k x q.0 h.0, more_groups k xs q.1 h.1)

  fields_pass : (k n : ℕ) (x : Structure) → IsCount unit entries x.steps (type.Structure n) → map (λ g. g.declared.now) x.groups.items ≡ groups_of (slice_get entries n) → x.steps ≤ suc k → suc k ≤ 66
      → pass_all_told (takes_steps unit entries k) (flat_map (group_kinds unit entries) (map (λ g. g.declared.now) x.groups.items)) ≡ true
  fields_pass k n x h d l m =
      ap (λ gs. pass_all_told (takes_steps unit entries k) (flat_map (group_kinds unit entries) gs)) d
      ∙ ap (has_level unit entries (takes_steps unit entries k)) (sym (type.outs-Structure n))
      ∙ h.is (suc k) m
      ∙ le-leb x.steps (suc k) l

  -- a structure that takes not just one step more
  pub later : (most n : ℕ) (x : Structure) → suc most ≤ 66 → (x.steps ≡ suc most → ⊥) → IsStructure nodes unit entries most n x → IsStructure nodes unit entries (suc most) n x
  later most n x m other h = record { steps = h.steps; declared = h.declared; groups = λ j w l. by most m other h j w l (same_or_not j most) }
    where
      by : (most : ℕ) → suc most ≤ 66 → (x.steps ≡ suc most → ⊥) → IsStructure nodes unit entries most n x → (j : ℕ) → x.steps ≤ suc j → suc j ≤ suc most → (j ≡ most) ⊎ (j ≡ most → ⊥) → AreGroups nodes unit entries j x.groups.items
      by most m other h j w l (inr d) = h.groups j w (omega (arith, l, d))
      by zero m other h j w l (inl e) = let some = takes_some unit entries x.steps (type.Structure n) h.steps in absurd (other (omega (arith, some, w, e)))
      by (suc k) m other h j w l (inl e) =
          let under : x.steps ≤ suc k = omega (arith, w, e, other) in
          let low : suc k ≤ 66 = omega (arith, m) in
          let level : suc k ≤ suc k = omega arith in
          subst (λ (i : ℕ). AreGroups nodes unit entries i x.groups.items) (sym e) (more_groups k x.groups.items (fields_pass k n x h.steps h.declared under low) (h.groups k under level))
