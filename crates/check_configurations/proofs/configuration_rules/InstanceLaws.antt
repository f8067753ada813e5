-- Instances one by one: their faults, the regions that are taken, and the regions that are made.
use Rattle.std.proofs.Common.{◌≡◌, ℕ, ◌+◌, ◌<◌, ◌≤◌, Bool, true, false, List, [], ◌∷◌, ◌++◌, Option, None, length, get_or, take, drop, map, refl, sym, ap, ◌∙◌, subst, append-nil}
use Rattle.std.proofs.lemmas.List.{map-append}
use Rattle.plc_text.specs.declared.code.Code.{Code}
use Rattle.st_tree.specs.declared.configuration.InstanceSpec.{InstanceSpec}
use Rattle.st_tree.specs.declared.program.RegionDecl.{RegionDecl}
use Rattle.st_tree.specs.declared.unit.Decl.{Decl}
use Rattle.st_rules.specs.Faults.{earlier, least}
use Rattle.st_rules.proofs.FaultLaws.{earlier-assoc, earlier-none, least-append}
use Rattle.st_rules.proofs.ListLaws.{drop-at, take-at, take-end, drop-end}
use Rattle.st_unit_rules.specs.declared_names.Declarations.{Region, of_instance}
use Rattle.st_unit_rules.specs.Checked.{Each, InstanceRegion, TypedRegion}
use Rattle.st_unit_rules.specs.DeclarationRules.{region_faults, regions_faults}
use Rattle.check_configurations.specs.declared.program_instances.programs.UnitPrograms.{UnitPrograms}
use Rattle.check_configurations.specs.program_instances.Programs.{HasPrograms}
use Rattle.check_regions.specs.declared.region_rules.taken.TakenRegions.{TakenRegions}
use Rattle.check_regions.specs.region_rules.Taken.{Holds}
use Rattle.check_configurations.specs.declared.configuration_rules.instances.CheckedInstances.{CheckedInstances}
use Rattle.check_configurations.specs.configuration_rules.Private.Instances.{Adds, Checks}

each_more : {A B : Type 0} (R : A → B → Type 0) (as' : List A) (bs : List B) (a : A) (b : B) → Each R as' bs → R a b → Each R (as' ++ a ∷ []) (bs ++ b ∷ [])
each_more R [] [] a b h r = (r, tt)
each_more R (x ∷ xs) (y ∷ ys) a b h r = (h.0, each_more R xs ys a b (h.1) r)
each_more R [] (y ∷ ys) a b h r = absurd h
each_more R (x ∷ xs) [] a b h r = absurd h

two : {A : Type 0} (xs ys zs : List A) → xs ++ ys ++ zs ≡ xs ++ (ys ++ zs)
two [] ys zs = refl
two (x ∷ xs) ys zs = ap (λ ws. x ∷ ws) (two xs ys zs)

module _ (decls : List (Decl ℕ)) (programs : UnitPrograms) where
  pub added : (taken taken' : TakenRegions) (old new : CheckedInstances) (x : InstanceSpec) (fault : Option (Code × ℕ)) (region : RegionDecl) →
      ((before : List Region) → HasPrograms programs decls → Holds taken decls before → fault ≡ least (region_faults decls before x.line (of_instance x))) →
      ((before : List Region) → HasPrograms programs decls → Holds taken decls before → Holds taken' decls (before ++ of_instance x ∷ [])) →
      (HasPrograms programs decls → InstanceRegion decls x region) →
      new.least ≡ earlier old.least fault → new.regions ≡ old.regions ++ region ∷ [] → Adds decls programs taken taken' old new x
  added taken taken' old new x fault region broken takes made least-is pushed = record {
    fault = λ before h t. least-is ∙ ap (earlier old.least) (broken before h t);
    takes = takes;
    regions = λ xs h each. subst (λ rs. Each (TypedRegion decls) (xs ++ of_instance x ∷ []) rs) (sym pushed) (each_more (TypedRegion decls) xs old.regions (of_instance x) region each (made h));
  }

  -- so many instances were checked
  pub record InstancesTo (taken taken' : TakenRegions) (xs : List InstanceSpec) (found : CheckedInstances) (i : ℕ) : Type 0 where
    pub rest : (before : List Region) → HasPrograms programs decls → Holds taken decls before →
        earlier found.least (least (regions_faults decls (before ++ map of_instance (take i xs)) (map of_instance (drop i xs)))) ≡ least (regions_faults decls before (map of_instance xs))
    pub takes : (before : List Region) → HasPrograms programs decls → Holds taken decls before → Holds taken' decls (before ++ map of_instance (take i xs))
    pub regions : HasPrograms programs decls → Each (TypedRegion decls) (map of_instance (take i xs)) found.regions

  nothing_found : (found : CheckedInstances) → found.regions ≡ [] → Each (TypedRegion decls) [] found.regions
  nothing_found found e = subst (λ rs. Each (TypedRegion decls) [] rs) (sym e) tt

  pub instances_begun : (taken : TakenRegions) (xs : List InstanceSpec) (found : CheckedInstances) → found.least ≡ None → found.regions ≡ [] → InstancesTo taken taken xs found 0
  instances_begun taken xs found f r = record {
    rest = λ before h t. ap (λ (o : Option (Code × ℕ)). earlier o (least (regions_faults decls (before ++ []) (map of_instance xs)))) f ∙ ap (λ bs. least (regions_faults decls bs (map of_instance xs))) (append-nil before);
    takes = λ before h t. subst (λ bs. Holds taken decls bs) (sym (append-nil before)) t;
    regions = λ h. nothing_found found r;
  }

  pub if_first : (taken taken' : TakenRegions) (xs : List InstanceSpec) (found : CheckedInstances) (first : Bool) → first ≡ true → Checks decls programs taken taken' true xs found → Checks decls programs taken taken' first xs found
  if_first taken taken' xs found first e h = subst (λ b. Checks decls programs taken taken' b xs found) (sym e) h

  pub instances_none : (taken : TakenRegions) (xs : List InstanceSpec) (found : CheckedInstances) → found.least ≡ None → found.regions ≡ [] → (first : Bool) → first ≡ false → Checks decls programs taken taken first xs found
  instances_none taken xs found f r first e = subst (λ b. Checks decls programs taken taken b xs found) (sym e) (record {
    fault = λ before h t. f;
    takes = λ before h t. subst (λ bs. Holds taken decls bs) (sym (append-nil before)) t;
    regions = λ h. nothing_found found r;
  })

  module _ (taken : TakenRegions) (xs : List InstanceSpec) (i : ℕ) where
    pub instances_next : (taken' taken'' : TakenRegions) (old new : CheckedInstances) (x : InstanceSpec) → i < length xs → x ≡ get_or xs i x → Adds decls programs taken' taken'' old new x →
        InstancesTo taken taken' xs old i → InstancesTo taken taken'' xs new (i + 1)
    instances_next taken' taken'' old new x l e a t = record {
      rest = λ before h held.
          let here = before ++ map of_instance (take i xs) in
          let behind = map of_instance (drop (i + 1) xs) in
          ap (λ bs. earlier new.least (least (regions_faults decls bs behind))) (longer before)
          ∙ ap (λ o. earlier o (least (regions_faults decls (here ++ of_instance x ∷ []) behind))) (a.fault here h (t.takes before h held))
          ∙ sym (earlier-assoc old.least (least (region_faults decls here x.line (of_instance x))) (least (regions_faults decls (here ++ of_instance x ∷ []) behind)))
          ∙ ap (earlier old.least) (sym (least-append (region_faults decls here x.line (of_instance x)) (regions_faults decls (here ++ of_instance x ∷ []) behind)))
          ∙ ap (λ ys. earlier old.least (least (regions_faults decls here (map of_instance ys)))) (sym (drop-at xs i x l e))
          ∙ t.rest before h held;
      takes = λ before h held. subst (λ bs. Holds taken'' decls bs) (sym (longer before)) (a.takes (before ++ map of_instance (take i xs)) h (t.takes before h held));
      regions = λ h. subst (λ rs. Each (TypedRegion decls) rs new.regions) (sym one_more) (a.regions (map of_instance (take i xs)) h (t.regions h));
    }
      where
        one_more : map of_instance (take (i + 1) xs) ≡ map of_instance (take i xs) ++ of_instance x ∷ []
        one_more = ap (map of_instance) (take-at xs i x l e) ∙ map-append of_instance (take i xs) (x ∷ [])

        longer : (before : List Region) → before ++ map of_instance (take (i + 1) xs) ≡ before ++ map of_instance (take i xs) ++ of_instance x ∷ []
        longer before = ap (λ rs. before ++ rs) one_more ∙ sym (two before (map of_instance (take i xs)) (of_instance x ∷ []))

    pub instances_ended : (taken' : TakenRegions) (found : CheckedInstances) → length xs ≤ i → InstancesTo taken taken' xs found i → Checks decls programs taken taken' true xs found
    instances_ended taken' found l t = record {
      fault = λ before h held. sym (earlier-none found.least) ∙ ap (λ ys. earlier found.least (least (regions_faults decls (before ++ map of_instance (take i xs)) (map of_instance ys)))) (sym (drop-end xs i l)) ∙ t.rest before h held;
      takes = λ before h held. subst (λ ys. Holds taken' decls (before ++ map of_instance ys)) (take-end xs i l) (t.takes before h held);
      regions = λ h. subst (λ ys. Each (TypedRegion decls) (map of_instance ys) found.regions) (take-end xs i l) (t.regions h);
    }
