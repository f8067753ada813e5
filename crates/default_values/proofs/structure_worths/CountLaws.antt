-- Structures with the steps that they take.
use Rattle.std.proofs.Common.{◌≡◌, ℕ, zero, suc, ◌+◌, take, drop, get_or, append-nil, ◌<◌, ◌≤◌, List, [], ◌∷◌, ◌++◌, Option, Some, None, map, length, refl, sym, ap, ◌∙◌, ◌⊎◌, inl, inr, subst, arith}
use Rattle.std.specs.Prelude.{flat_map, slice_get}
use Rattle.std.proofs.lemmas.List.Concat.{flat_map-append}
use Rattle.st_rules.proofs.ListLaws.{take-at, take-end, drop-end}
use Rattle.st_rules.specs.declared.names.DeclaredField.{DeclaredField}
use Rattle.std.proofs.lemmas.Option.{slice_get_within, slice_get_cases, slice_get_past}
use Rattle.st_types.specs.declared.st_type.StType.{StType}
use Rattle.st_types.specs.declared.st_type.StType.TheVariants as type
use Rattle.st_tree.specs.declared.declaration.FieldGroup.{FieldGroup}
use Rattle.st_tree.specs.declared.declaration.TypeDecl.{TypeDecl}
use Rattle.st_tree.specs.declared.name.Name.{Name}
use Rattle.st_rules.specs.declared.names.TypeParts.{TypeParts}
use Rattle.st_rules.specs.Scope.{Scope}
use Rattle.st_unit_rules.specs.declared_names.WrittenTypes.{type_written}
use Rattle.st_unit_rules.specs.Worth.{groups_of}
use Rattle.default_values.specs.declared.worth_numbers.node.Node.{Node}
use Rattle.default_values.specs.worth_steps.Steps.{kinds_in, group_kinds, field_kinds, IsCount, AreFields, AreCounts}
use Rattle.default_values.specs.declared.initial_worths.structures.Group.{Group}
use Rattle.default_values.specs.declared.initial_worths.structures.Structure.{Structure}
use Rattle.default_values.specs.declared.structure_worths.unweighed.DeclaredStructure.{DeclaredStructure}
use Rattle.default_values.specs.structure_worths.Unweighed.{AreKinds, IsDeclared, AreDeclared}
use Rattle.default_values.specs.structure_worths.Weighed.{WeighsAll}
use Rattle.default_values.specs.structure_worths.Private.Counted.{kinds_of_group, kinds_of, IsCounted, AreCounted, CountsOne, Counts}
use Rattle.default_values.specs.structure_worths.Private.Rounds.{WeighsCounted}

-- ---- the types of fields

module _ (unit : Scope) (entries : List (TypeDecl ℕ)) where
  kinds_same : (gs : List Group) → AreKinds unit gs → flat_map kinds_of_group gs ≡ flat_map (group_kinds unit entries) (map (λ g. g.declared.now) gs)
  kinds_same [] h = refl
  kinds_same (g ∷ gs) h =
      let rest = kinds_same gs h.1 in
      λ i. map (λ (n : Name). h.0 i) g.declared.now.names ++ rest i

  one_field : (n : ℕ) (x : DeclaredStructure) → IsDeclared unit entries n x → kinds_of x ≡ field_kinds unit entries n
  one_field n x h = kinds_same x.groups.items h.kinds ∙ ap (flat_map (group_kinds unit entries)) h.groups

  past_all : (xs : List DeclaredStructure) (n : ℕ) → slice_get xs n ≡ None → length xs ≤ n
  past_all [] n q = omega arith
  past_all (x ∷ xs) zero q = absurd (cc)
  past_all (x ∷ xs) (suc n) q = let l = past_all xs n q in omega (arith, l)

  abbrev kinds_there : Option DeclaredStructure → List (Option StType)
  kinds_there None = []
  kinds_there (Some x) = kinds_of x

  kinds_at : (xs : List DeclaredStructure) (ps : List TypeParts) (n : ℕ) → map (λ p. kinds_in (Some p)) ps ≡ map kinds_of xs → kinds_in (slice_get ps n) ≡ kinds_there (slice_get xs n)
  kinds_at [] [] n h = refl
  kinds_at [] (p ∷ ps) n h = absurd (cc)
  kinds_at (x ∷ xs) [] n h = absurd (cc)
  kinds_at (x ∷ xs) (p ∷ ps) zero h = cc
  kinds_at (x ∷ xs) (p ∷ ps) (suc n) h = let t : map (λ p. kinds_in (Some p)) ps ≡ map kinds_of xs = cc in kinds_at xs ps n t

  module _ (xs : List DeclaredStructure) (d : AreDeclared unit entries xs) where
    there : (n : ℕ) (o : Option DeclaredStructure) → slice_get xs n ≡ o → kinds_there o ≡ field_kinds unit entries n
    there n None q =
        let l = past_all xs n q in
        let e = d.long in
        let far : length entries ≤ n = omega (arith, l, e) in
        ap (λ (o : Option (TypeDecl ℕ)). flat_map (group_kinds unit entries) (groups_of o)) (sym (slice_get_past entries n far))
    there n (Some x) q = one_field n x (d.each n x q)

    pub fields_are : (ps : List TypeParts) → map (λ p. kinds_in (Some p)) ps ≡ map kinds_of xs → AreFields unit entries ps
    fields_are ps same = record { kinds = λ n. kinds_at xs ps n same ∙ there n (slice_get xs n) refl }

    -- ---- with their steps

    pub all_counted : (counts : List ℕ) (ys : List Structure) → Counts counts xs ys → AreCounts unit entries counts → AreCounted unit entries ys
    all_counted counts ys c a = record {
      long = let k = c.long in let e = d.long in omega (arith, k, e);
      each = λ n y q. elim (slice_get_cases xs n).1 [
        | inl p ↦
            let one = c.each n p.0 y p.2 q in
            let h = d.each n p.0 p.2 in
            record { steps = one.steps unit entries a; declared = ap (map (λ (g : Group). g.declared.now)) one.groups ∙ h.groups; kinds = subst (λ (gs : List Group). AreKinds unit gs) (sym one.groups) h.kinds }
        | inr p ↦
            let far = p.0 in
            let within = slice_get_within ys n y q in
            let k = c.long in
            absurd (omega (arith, far, within, k))
      ];
    }

-- ---- group by group

pub fields_next : (gs : List Group) (i : ℕ) (x : Group) (old new : List DeclaredField) (ns : List Name) → i < length gs → x ≡ get_or gs i x → map (λ f. f.kind) old ≡ flat_map kinds_of_group (take i gs) → ns ≡ x.declared.now.names
    → map (λ f. f.kind) new ≡ map (λ f. f.kind) old ++ map (λ (n : Name). x.kind) ns → map (λ f. f.kind) new ≡ flat_map kinds_of_group (take (i + 1) gs)
fields_next gs i x old new ns l e h q p =
    p ∙ (λ k. h k ++ map (λ (n : Name). x.kind) (q k)) ∙ ap (λ vs. flat_map kinds_of_group (take i gs) ++ vs) (sym (append-nil (kinds_of_group x))) ∙ sym (flat_map-append kinds_of_group (take i gs) (x ∷ []))
    ∙ ap (flat_map kinds_of_group) (sym (take-at gs i x l e))

-- ---- one after the other

last_there : {X : Type 0} (xs : List X) (x : X) (m : ℕ) (u : X) → slice_get (xs ++ x ∷ []) m ≡ Some u → (slice_get xs m ≡ Some u) ⊎ ((m ≡ length xs) × (u ≡ x))
last_there [] x zero u q = inr (refl, cc)
last_there [] x (suc m) u q = absurd (cc)
last_there (y ∷ xs) x zero u q = inl q
last_there (y ∷ xs) x (suc m) u q = elim (last_there xs x m u q) [
  | inl h ↦ inl h
  | inr h ↦ inr (ap suc h.0, h.1)
]

longer : {X : Type 0} (xs : List X) (x : X) → length (xs ++ x ∷ []) ≡ suc (length xs)
longer [] x = refl
longer (y ∷ xs) x = ap suc (longer xs x)

module _ (counts : List ℕ) where
  pub counts_begun : Counts counts [] []
  counts_begun = record { long = refl; each = λ n x y q r. absurd (cc) }

  pub counts_next : (xs : List DeclaredStructure) (ys : List Structure) (n : ℕ) (x : DeclaredStructure) (y : Structure) → Counts counts xs ys → n ≡ length ys → CountsOne counts n x y → Counts counts (xs ++ x ∷ []) (ys ++ y ∷ [])
  counts_next xs ys n x y so_far e one = record {
    long = longer ys y ∙ ap suc so_far.long ∙ sym (longer xs x);
    each = λ m u v q r. by m u v (last_there xs x m u q) (last_there ys y m v r);
  }
    where
      by : (m : ℕ) (u : DeclaredStructure) (v : Structure) → (slice_get xs m ≡ Some u) ⊎ ((m ≡ length xs) × (u ≡ x)) → (slice_get ys m ≡ Some v) ⊎ ((m ≡ length ys) × (v ≡ y)) → CountsOne counts m u v
      by m u v (inl q) (inl r) = so_far.each m u v q r
      by m u v (inl q) (inr r) = let w = slice_get_within xs m u q in let k = r.0 in let l = so_far.long in absurd (omega (arith, w, k, l))
      by m u v (inr q) (inl r) = let w = slice_get_within ys m v r in let k = q.0 in let l = so_far.long in absurd (omega (arith, w, k, l))
      by m u v (inr q) (inr r) =
          subst (λ (k : ℕ). CountsOne counts k u v) (e ∙ sym r.0) (subst (λ (a : DeclaredStructure). CountsOne counts n a v) (sym q.1) (subst (λ (b : Structure). CountsOne counts n x b) (sym r.1) one))

pub all_weighed : (old new : List Node) (unit : Scope) (xs : List DeclaredStructure) (ps : List TypeParts) (counts : List ℕ) (ys zs : List Structure) → map (λ p. kinds_in (Some p)) ps ≡ map kinds_of xs
    → ((u : Scope) (e : List (TypeDecl ℕ)) → AreFields u e ps → AreCounts u e counts) → Counts counts xs ys → WeighsCounted old new unit ys zs → WeighsAll old new unit xs zs
all_weighed old new unit xs ps counts ys zs same are c w = record {
  grows = w.grows;
  structures = λ e d. w.structures e (all_counted unit e xs d counts ys c (are unit e (fields_are unit e xs d ps same)));
}

written_back : (n : ℕ) (zs ys : List Structure) → n ≡ length ys → length zs ≡ length ys → take n (zs ++ drop (length zs) ys) ≡ zs
written_back n zs ys e l =
    let past : length ys ≤ length zs = omega (arith, l) in
    let all : length zs ≤ n = omega (arith, e, l) in
    ap (λ vs. take n (zs ++ vs)) (drop-end ys (length zs) past) ∙ ap (take n) (append-nil zs) ∙ take-end zs n all

-- the same with what the code lends
pub all_weighed_as : (old new : List Node) (unit : Scope) (xs ds : List DeclaredStructure) (ps qs : List TypeParts) (counts : List ℕ) (ys vs zs : List Structure) (n : ℕ) → map (λ p. kinds_in (Some p)) ps ≡ map kinds_of ds → ds ≡ xs
    → ((u : Scope) (e : List (TypeDecl ℕ)) → AreFields u e qs → AreCounts u e counts) → qs ≡ ps → Counts counts xs ys → WeighsCounted old new unit vs zs → vs ≡ ys → n ≡ length ys → WeighsAll old new unit xs (take n (zs ++ drop (length zs) ys))
all_weighed_as old new unit xs ds ps qs counts ys vs zs n same d are q c w v e =
    subst (λ (us : List Structure). WeighsAll old new unit xs us) (sym (written_back n zs ys e (w.long ∙ ap (λ (us : List Structure). length us) v)))
    (all_weighed old new unit xs ps counts ys zs (same ∙ ap (map kinds_of) d) (λ u f h. are u f (subst (λ (rs : List TypeParts). AreFields u f rs) (sym q) h)) c (subst (λ (us : List Structure). WeighsCounted old new unit us zs) v w))
