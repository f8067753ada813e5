-- Rounds, structure by structure.
use Rattle.std.proofs.Common.{◌≡◌, ℕ, zero, suc, ◌+◌, ◌<◌, ◌≤◌, List, [], ◌∷◌, Option, Some, None, map, length, refl, sym, ap, ◌∙◌, ◌⊎◌, inl, inr, subst, arith}
use Rattle.std.specs.Prelude.{set, slice_get}
use Rattle.std.proofs.lemmas.List.{length-set}
use Rattle.std.proofs.lemmas.Option.{slice_get_within, slice_get_cases}
use Rattle.st_types.specs.declared.st_type.StType.TheVariants as type
use Rattle.st_tree.specs.declared.declaration.TypeDecl.{TypeDecl}
use Rattle.st_rules.specs.Scope.{Scope}
use Rattle.default_values.specs.declared.worth_numbers.node.Node.{Node}
use Rattle.default_values.specs.worth_numbers.Numbers.{Grows}
use Rattle.default_values.proofs.worth_numbers.TableLaws.{grows_self, grows_through}
use Rattle.default_values.specs.worth_steps.Steps.{IsCount}
use Rattle.default_values.specs.declared.initial_worths.structures.Structure.{Structure}
use Rattle.default_values.specs.initial_worths.Structures.{AreGroups, IsStructure, AreStructures}
use Rattle.default_values.proofs.initial_worths.PutLaws.{groups_stay, structures_stay}
use Rattle.default_values.specs.structure_worths.Private.Counted.{IsCounted, AreCounted}
use Rattle.default_values.specs.structure_worths.Private.Groups.{WeighsGroups}
use Rattle.default_values.specs.structure_worths.Private.Rounds.{IsWeighed, WeighsOne, IsRound, TriesTo, WeighsCounted}
use Rattle.default_values.proofs.structure_worths.LevelLaws.{same_or_not, later}

-- what stands where an item is put
set_there : (xs : List Structure) (i n : ℕ) (y x : Structure) → slice_get (set xs i y) n ≡ Some x → ((n ≡ i) × (x ≡ y)) ⊎ ((n ≡ i → ⊥) × (slice_get xs n ≡ Some x))
set_there [] i n y x h = absurd (cc)
set_there (z ∷ zs) zero zero y x h = inl (refl, cc)
set_there (z ∷ zs) zero (suc n) y x h = inr ((λ e. absurd (cc)), h)
set_there (z ∷ zs) (suc i) zero y x h = inr ((λ e. absurd (cc)), h)
set_there (z ∷ zs) (suc i) (suc n) y x h = elim (set_there zs i n y x h) [
  | inl p ↦ inl (ap suc p.0, p.1)
  | inr p ↦ inr ((λ e. p.0 (cc)), p.1)
]

structure_stays : (old new : List Node) → Grows old new → (unit : Scope) (e : List (TypeDecl ℕ)) (most n : ℕ) (x : Structure) → IsStructure old unit e most n x → IsStructure new unit e most n x
structure_stays old new g unit e most n x h = record { steps = h.steps; declared = h.declared; groups = λ k l m. groups_stay old new g unit e k x.groups.items (h.groups k l m) }

module _ (unit : Scope) (below : ℕ) where
  -- ---- one structure after the other

  pub tries_none : (nodes : List Node) (xs : List Structure) (i j : ℕ) → j ≡ i → TriesTo nodes nodes unit below xs i xs j
  tries_none nodes xs i j q = record { grows = grows_self nodes; long = refl; round = λ e r. subst (λ (n : ℕ). IsRound nodes unit e below xs n) (sym q) r }

  pub tries_through : (old mid new : List Node) (xs ys zs : List Structure) (i j k : ℕ) → TriesTo old mid unit below xs i ys j → TriesTo mid new unit below ys j zs k → TriesTo old new unit below xs i zs k
  tries_through old mid new xs ys zs i j k p q = record { grows = grows_through old mid new p.grows q.grows; long = q.long ∙ p.long; round = λ e r. q.round e (p.round e r) }

  module _ (few : below < 66) (old new : List Node) (xs : List Structure) (i : ℕ) where
    -- it is not its turn
    pub kept : WeighsOne old new xs unit below i None → TriesTo old new unit below xs i xs (suc i)
    kept h = record {
      grows = h.grows;
      long = refl;
      round = λ e r. record {
        declared = r.declared;
        fewer = structures_stay old new h.grows unit e below xs r.fewer;
        first = λ n x l q. structure_stays old new h.grows unit e (suc below) n x (by e r n x l q (same_or_not n i));
      };
    }
      where
        by : (e : List (TypeDecl ℕ)) → IsRound old unit e below xs i → (n : ℕ) (x : Structure) → n < suc i → slice_get xs n ≡ Some x → (n ≡ i) ⊎ (n ≡ i → ⊥) → IsStructure old unit e (suc below) n x
        by e r n x l q (inr d) = r.first n x (omega (arith, l, d)) q
        by e r n x l q (inl s) = later old unit e below n x (omega (arith, few)) (h.one x (ap (slice_get xs) (sym s) ∙ q)) (r.fewer.each n x q)

    module _ (x y : Structure) (there : slice_get xs i ≡ Some x) (grows : Grows old new) (turn : x.steps ≡ suc below) (steps : y.steps ≡ x.steps) (h : WeighsGroups old new xs unit below x.groups.items y.groups.items) (e : List (TypeDecl ℕ)) (r : IsRound old unit e below xs i) where
      count : IsCount unit e y.steps (type.Structure i)
      count = subst (λ (n : ℕ). IsCount unit e n (type.Structure i)) (sym steps) (r.declared.each i x there).steps

      declared_one : IsCounted unit e i y
      declared_one = let d = r.declared.each i x there in record { steps = count; declared = h.declared ∙ d.declared; kinds = h.kinds d.kinds }

      weighed_one : (most : ℕ) → most ≤ suc below → IsStructure new unit e most i y
      weighed_one most l =
          let d = r.declared.each i x there in
          record {
            steps = count;
            declared = h.declared ∙ d.declared;
            groups = λ j w m.
                let q : below ≡ j = omega (arith, steps, turn, w, m, l) in
                subst (λ (k : ℕ). AreGroups new unit e k y.groups.items) q (h.groups e r.fewer (omega (arith, few)) d.kinds);
          }

      round_with : IsRound new unit e below (set xs i y) (suc i)
      round_with = record {
        declared = record {
          long = let l = r.declared.long in let s = length-set xs i y in omega (arith, l, s);
          each = λ n z q. elim (set_there xs i n y z q) [
            | inl p ↦ subst (λ (v : Structure). IsCounted unit e n v) (sym p.1) (subst (λ (k : ℕ). IsCounted unit e k y) (sym p.0) declared_one)
            | inr p ↦ r.declared.each n z p.1
          ];
        };
        fewer = record {
          long = let l = r.declared.long in let s = length-set xs i y in omega (arith, l, s);
          each = λ n z q. elim (set_there xs i n y z q) [
            | inl p ↦ subst (λ (v : Structure). IsStructure new unit e below n v) (sym p.1) (subst (λ (k : ℕ). IsStructure new unit e below k y) (sym p.0) (weighed_one below (omega arith)))
            | inr p ↦ structure_stays old new grows unit e below n z (r.fewer.each n z p.1)
          ];
        };
        first = λ n z l q. elim (set_there xs i n y z q) [
          | inl p ↦ subst (λ (v : Structure). IsStructure new unit e (suc below) n v) (sym p.1) (subst (λ (k : ℕ). IsStructure new unit e (suc below) k y) (sym p.0) (weighed_one (suc below) (omega arith)))
          | inr p ↦ let d = p.0 in structure_stays old new grows unit e (suc below) n z (r.first n z (omega (arith, l, d)) p.1)
        ];
      }

    -- it is weighed
    pub weighed : (y : Structure) (ys : List Structure) → i < length xs → ys ≡ set xs i y → WeighsOne old new xs unit below i (Some y) → TriesTo old new unit below xs i ys (suc i)
    weighed y ys within put h = subst (λ (zs : List Structure). TriesTo old new unit below xs i zs (suc i)) (sym put) (elim (slice_get_cases xs i).1 [
      | inl p ↦
          let there = p.2 in
          let w = h.one p.0 there in
          record { grows = h.grows; long = length-set xs i y; round = λ e r. round_with p.0 y there h.grows w.0 w.1 w.2 e r }
      | inr p ↦ let far = p.0 in absurd (omega (arith, within, far))
    ])

-- ---- one round after the other

-- so many rounds
pub record RoundsTo (old new : List Node) (unit : Scope) (xs : List Structure) (below : ℕ) (ys : List Structure) : Type 0 where
  pub grows : Grows old new
  pub long : length ys ≡ length xs
  pub structures : (e : List (TypeDecl ℕ)) → AreCounted unit e xs → AreCounted unit e ys × AreStructures new unit e below ys

module _ (unit : Scope) (xs : List Structure) where
  pub rounds_begun : (nodes : List Node) (n : ℕ) → n ≡ 0 → RoundsTo nodes nodes unit xs n xs
  rounds_begun nodes n z = record {
    grows = grows_self nodes;
    long = refl;
    structures = λ e d. (
      d,
      record {
        long = d.long;
        each = λ k x q. let h = d.each k x q in record { steps = h.steps; declared = h.declared; groups = λ j w l. absurd (omega (arith, z, l)) };
      },
    );
  }

  pub rounds_next : (old mid new : List Node) (below : ℕ) (ys zs : List Structure) (j n : ℕ) → RoundsTo old mid unit xs below ys → TriesTo mid new unit below ys 0 zs j → j ≡ length zs → n ≡ suc below → RoundsTo old new unit xs n zs
  rounds_next old mid new below ys zs j n so_far h all next = record {
    grows = grows_through old mid new so_far.grows h.grows;
    long = h.long ∙ so_far.long;
    structures = λ e d.
        let s = so_far.structures e d in
        let r = h.round e (record { declared = s.0; fewer = s.1; first = λ n x l q. absurd (omega (arith, l)) }) in
        let done : AreStructures new unit e (suc below) zs = record { long = r.declared.long; each = λ n x q. let w = slice_get_within zs n x q in r.first n x (omega (arith, w, all)) q } in
        (r.declared, subst (λ (k : ℕ). AreStructures new unit e k zs) (sym next) done);
  }

  pub rounds_done : (old new : List Node) (n : ℕ) (ys : List Structure) → RoundsTo old new unit xs n ys → n ≡ 66 → WeighsCounted old new unit xs ys
  rounds_done old new n ys h q = record { grows = h.grows; long = h.long; structures = λ e d. subst (λ (k : ℕ). AreStructures new unit e k ys) q (h.structures e d).1 }
