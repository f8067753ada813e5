-- Old names of regions.
use Rattle.std.proofs.Common.{◌≡◌, ◌≤◌, ◌<◌, ℕ, ◌+◌, Bool, true, false, List, [], ◌∷◌, ◌++◌, length, get_or, drop, Option, refl, sym, ap, ap₂, ◌∙◌, append_assoc, append-nil}
use Rattle.std.proofs.lemmas.List.{map-append}
use Rattle.std.specs.Prelude.{if◌then◌else◌}
use Rattle.st_rules.proofs.ListLaws.{drop-at, drop-end}
use Rattle.st_values.specs.Program.{Variable, Region}
use Rattle.st_change.specs.From.{globals_in, instances_in, from, same_name, region_from, region_pairs_by}
use Rattle.program_tables.specs.declared.st_initial.variables.Variable as held
use Rattle.program_tables.specs.st_initial.Variables.{variable_of, variables_of}
use Rattle.change_names.specs.declared.change_pairs.sources.Pair.{Pair}
use Rattle.change_names.specs.declared.change_pairs.regions.Known.{Known}
use Rattle.change_names.specs.declared.change_pairs.regions.Placed.{Placed}
use Rattle.change_names.specs.change_pairs.Pairs.{pair_of, pairs_of}
use Rattle.change_names.specs.change_pairs.Places.{found_in}
use Rattle.change_names.specs.change_pairs.Regions.{region_of, regions_of}
use Rattle.change_names.specs.change_pairs.Private.Variables.{from_by, same_by}
use Rattle.change_names.specs.change_pairs.Private.Regions.{AreKnown, region_by}
use Rattle.change_names.proofs.change_pairs.VariableLaws.{from_is, same_is}

-- ---- globals and instances

module _ (xs : List Placed) where
  -- what was taken, and what the rest has, is the whole
  pub record GlobalsLeft (i : ℕ) (vs : List held.Variable) : Type 0 where
    pub whole : variables_of vs ++ globals_in (regions_of (drop i xs)) ≡ globals_in (regions_of xs)

  pub record InstancesLeft (i : ℕ) (vs : List held.Variable) : Type 0 where
    pub whole : variables_of vs ++ instances_in (regions_of (drop i xs)) ≡ instances_in (regions_of xs)

  pub globals_begin : GlobalsLeft 0 []
  globals_begin = record { whole = refl }

  pub instances_begin : InstancesLeft 0 []
  instances_begin = record { whole = refl }

  module _ (i : ℕ) (vs : List held.Variable) where
    pub globals_end : length xs ≤ i → GlobalsLeft i vs → variables_of vs ≡ globals_in (regions_of xs)
    globals_end h left = sym (append-nil (variables_of vs)) ∙ sym (ap (λ ys. variables_of vs ++ globals_in (regions_of ys)) (drop-end xs i h)) ∙ left.whole

    pub instances_end : length xs ≤ i → InstancesLeft i vs → variables_of vs ≡ instances_in (regions_of xs)
    instances_end h left = sym (append-nil (variables_of vs)) ∙ sym (ap (λ ys. variables_of vs ++ instances_in (regions_of ys)) (drop-end xs i h)) ∙ left.whole

    module _ (x : Placed) (h : i < length xs) (is : x ≡ get_or xs i x) where
      abbrev global_first : Bool → List Variable
      global_first b = if b then globals_in (regions_of (drop (i + 1) xs)) else variable_of x.variable ∷ globals_in (regions_of (drop (i + 1) xs))

      pub globals_taken : (new : List held.Variable) → x.program ≡ false → variables_of new ≡ variables_of vs ++ variable_of x.variable ∷ [] → GlobalsLeft i vs → GlobalsLeft (i + 1) new
      globals_taken new e p left = record {
        whole =
            ap (λ ys. ys ++ globals_in (regions_of (drop (i + 1) xs))) p
            ∙ append_assoc (variables_of vs) (variable_of x.variable ∷ []) (globals_in (regions_of (drop (i + 1) xs)))
            ∙ sym (ap (λ b. variables_of vs ++ global_first b) e)
            ∙ sym (ap (λ ys. variables_of vs ++ globals_in (regions_of ys)) (drop-at xs i x h is))
            ∙ left.whole;
      }

      pub globals_passed : x.program ≡ true → GlobalsLeft i vs → GlobalsLeft (i + 1) vs
      globals_passed e left = record {
        whole = sym (ap (λ b. variables_of vs ++ global_first b) e) ∙ sym (ap (λ ys. variables_of vs ++ globals_in (regions_of ys)) (drop-at xs i x h is)) ∙ left.whole;
      }

      abbrev instance_first : Bool → List Variable
      instance_first b = if b then variable_of x.variable ∷ instances_in (regions_of (drop (i + 1) xs)) else instances_in (regions_of (drop (i + 1) xs))

      pub instances_taken : (new : List held.Variable) → x.program ≡ true → variables_of new ≡ variables_of vs ++ variable_of x.variable ∷ [] → InstancesLeft i vs → InstancesLeft (i + 1) new
      instances_taken new e p left = record {
        whole =
            ap (λ ys. ys ++ instances_in (regions_of (drop (i + 1) xs))) p
            ∙ append_assoc (variables_of vs) (variable_of x.variable ∷ []) (instances_in (regions_of (drop (i + 1) xs)))
            ∙ sym (ap (λ b. variables_of vs ++ instance_first b) e)
            ∙ sym (ap (λ ys. variables_of vs ++ instances_in (regions_of ys)) (drop-at xs i x h is))
            ∙ left.whole;
      }

      pub instances_passed : x.program ≡ false → InstancesLeft i vs → InstancesLeft (i + 1) vs
      instances_passed e left = record {
        whole = sym (ap (λ b. variables_of vs ++ instance_first b) e) ∙ sym (ap (λ ys. variables_of vs ++ instances_in (regions_of ys)) (drop-at xs i x h is)) ∙ left.whole;
      }

-- ---- old names

module _ (new old : List Region) (k : Known) (are : AreKnown new old k) where
  global_is : (v : held.Variable) → from_by (found_in k.declared) (found_in k.marks) k.globals.items v ≡ from (globals_in new) (globals_in old) (variable_of v)
  global_is v =
      from_is k.globals.items are.old_globals k.declared k.marks are.has_global are.has_marks v
      ∙ ap₂ (λ a b. from a b (variable_of v)) are.own are.are_globals

  instance_is : (v : held.Variable) → same_by (found_in k.instances) v ≡ same_name (instances_in old) (variable_of v)
  instance_is v = same_is are.old_instances k.instances are.has_instance v ∙ ap (λ a. same_name a (variable_of v)) are.are_instances

  -- the old name of a region
  pub region_is : (x : Placed) → region_by k x ≡ region_from new old (region_of x)
  region_is x =
      ap (λ o. if x.program then o else from_by (found_in k.declared) (found_in k.marks) k.globals.items x.variable) (instance_is x.variable)
      ∙ ap (λ o. if x.program then same_name (instances_in old) (variable_of x.variable) else o) (global_is x.variable)

-- ---- pairs one after the other

module _ (f : Region → Option (List ℕ)) (xs : List Placed) where
  -- what was added, and what the rest gives, is the whole
  pub record RegionsLeft (i : ℕ) (pairs : List Pair) : Type 0 where
    pub whole : pairs_of pairs ++ region_pairs_by f (regions_of (drop i xs)) ≡ region_pairs_by f (regions_of xs)

  pub regions_begin : RegionsLeft 0 []
  regions_begin = record { whole = refl }

  pub regions_next : (i : ℕ) (pairs new : List Pair) (x : Placed) (a : Pair) → i < length xs → x ≡ get_or xs i x → RegionsLeft i pairs → new ≡ pairs ++ a ∷ [] → pair_of a ≡ (x.variable.name.now, f (region_of x)) → RegionsLeft (i + 1) new
  regions_next i pairs new x a h is left e p = record {
    whole =
        ap (λ ys. ys ++ region_pairs_by f (regions_of (drop (i + 1) xs))) (ap pairs_of e ∙ map-append pair_of pairs (a ∷ []) ∙ ap (λ y. pairs_of pairs ++ y ∷ []) p)
        ∙ append_assoc (pairs_of pairs) ((x.variable.name.now, f (region_of x)) ∷ []) (region_pairs_by f (regions_of (drop (i + 1) xs)))
        ∙ sym (ap (λ ys. pairs_of pairs ++ region_pairs_by f (regions_of ys)) (drop-at xs i x h is))
        ∙ left.whole;
  }

  pub regions_end : (i : ℕ) (pairs : List Pair) → length xs ≤ i → RegionsLeft i pairs → pairs_of pairs ≡ region_pairs_by f (regions_of xs)
  regions_end i pairs h left = sym (append-nil (pairs_of pairs)) ∙ sym (ap (λ ys. pairs_of pairs ++ region_pairs_by f (regions_of ys)) (drop-end xs i h)) ∙ left.whole
