-- Interfaces extend in any number of steps, and conforming goes on along bases and along what is extended.
use Rattle.std.proofs.Common.{◌≡◌, ℕ, ◌<◌, Bool, true, List, [], ◌∷◌, Option, Some, None, refl, sym, arith, length, map, inl, inr, nat_eq, subst}
use Rattle.std.specs.Prelude.{option_map, slice_get, unwrap_or}
use Rattle.std.specs.Bool.{Decides}
use Rattle.std.specs.List.{list_any, cons_option}
use Rattle.std.proofs.lemmas.Bool.{eqb-true}
use Rattle.std.proofs.lemmas.Option.{slice_get_within}
use Rattle.std.proofs.lemmas.List.{length-map}
use Rattle.st_types.specs.declared.st_type.StType.{StType}
use Rattle.st_types.specs.declared.st_type.StType.TheVariants.{Instance, Reference, Interface}
use Rattle.st_tree.specs.declared.name.Used.{Used}
use Rattle.st_tree.specs.declared.declaration.ClassDecl.{ClassDecl}
use Rattle.st_tree.specs.declared.declaration.InterfaceDecl.{InterfaceDecl}
use Rattle.st_rules.specs.Chains.{is_among, Leads, itself}
use Rattle.st_rules.specs.Classes.{chain}
use Rattle.st_rules.specs.Interfaces.{interface_named, interfaces_named, extended, extends, implemented, implements_itself, conforms}
use Rattle.st_rules.specs.InterfaceRules.{lies_on_interface_cycle}
use Rattle.st_rules.proofs.Booleans.{false≢true, either, Among, any-parts, any-among}
use Rattle.st_rules.proofs.LeadsLaws.{IsWithin, leads_decided, leads_through}
use Rattle.st_rules.proofs.ClassLaws.{first_place_within, chain_law, chain_through_law}

module _ {A : Type 0} (interfaces : List (InterfaceDecl A)) where
  name_within : (name : List ℕ) (k : ℕ) → interface_named interfaces name ≡ Some k → k < length interfaces
  name_within name k e =
      let place = first_place_within name (map (λ interface. interface.name.text) interfaces) k e in
      let same_length = length-map interfaces (λ (interface : InterfaceDecl A). interface.name.text) in
      omega (arith, place, same_length)

  one_within : (o : Option ℕ) (ns : List ℕ) (k : ℕ) → ((n : ℕ) → o ≡ Some n → n < length interfaces) → (is_among k ns ≡ true → k < length interfaces) → is_among k (cons_option o ns) ≡ true → k < length interfaces
  one_within None ns k f g h = g h
  one_within (Some n) ns k f g h = elim (either (nat_eq k n) (is_among k ns) h) [ inl q ↦ subst (λ (x : ℕ). x < length interfaces) (sym (eqb-true k n q)) (f n refl) | inr q ↦ g q ]

  pub named_within : (names : List (Used A)) (k : ℕ) → is_among k (interfaces_named interfaces names) ≡ true → k < length interfaces
  named_within [] k h = absurd (false≢true h)
  named_within (u ∷ us) k h = one_within (interface_named interfaces u.text) (interfaces_named interfaces us) k (name_within u.text) (named_within us k) h

  extended_at : (i k : ℕ) (o : Option (InterfaceDecl A)) → slice_get interfaces i ≡ o → is_among k (unwrap_or (option_map (λ interface. interfaces_named interfaces interface.bases) o) []) ≡ true → (i < length interfaces) × (k < length interfaces)
  extended_at i k None e h = absurd (false≢true h)
  extended_at i k (Some interface) e h = (slice_get_within interfaces i interface e, named_within interface.bases k h)

  pub extended_within : IsWithin (extended interfaces) (length interfaces)
  extended_within = record { within = λ i k h. extended_at i k (slice_get interfaces i) refl h }

  -- an interface extends what it leads to by EXTENDS, in any number of steps
  pub extends_law : (i j : ℕ) → Decides (extends interfaces i j) (Leads (extended interfaces) i j)
  unfolding extends
  extends_law i j = leads_decided (extended interfaces) (length interfaces) extended_within i j

  pub extends_itself : (i : ℕ) → extends interfaces i i ≡ true
  extends_itself i = (extends_law i i).1 (itself i)

  pub extends_through : (i j k : ℕ) → extends interfaces i j ≡ true → extends interfaces j k ≡ true → extends interfaces i k ≡ true
  extends_through i j k p q = (extends_law i k).1 (leads_through (extended interfaces) i j k ((extends_law i j).0 p) ((extends_law j k).0 q))

  pub interface_cycle_law : (i : ℕ) → Decides (lies_on_interface_cycle interfaces i) ((k : ℕ) × (is_among k (extended interfaces i) ≡ true) × Leads (extended interfaces) k i)
  interface_cycle_law i = (
    λ h. let r : Among (λ j. extends interfaces j i) (extended interfaces i) = any-parts (λ j. extends interfaces j i) (extended interfaces i) h in (r.number, r.among, (extends_law r.number i).0 r.passes),
    λ p. any-among (λ j. extends interfaces j i) (extended interfaces i) p.0 p.1 ((extends_law p.0 i).1 p.2),
  )

  module _ (classes : List (ClassDecl A)) where
    pub conforms_to_itself : (c : ℕ) → conforms classes interfaces c (Instance c) ≡ true
    unfolding conforms
    conforms_to_itself c = (chain_law classes c c).1 (inl refl)

    -- of what stands in the chain of one in the chain
    climbs : (test : ℕ → Bool) (c d : ℕ) → is_among d (chain classes c) ≡ true → list_any test (chain classes d) ≡ true → list_any test (chain classes c) ≡ true
    climbs test c d h k =
        let r : Among test (chain classes d) = any-parts test (chain classes d) k in
        any-among test (chain classes c) r.number (chain_through_law classes c d r.number h r.among) r.passes

    pub conforms_through : (c d : ℕ) (t : StType) → conforms classes interfaces c (Instance d) ≡ true → conforms classes interfaces d t ≡ true → conforms classes interfaces c t ≡ true
    unfolding conforms
    conforms_through c d (Instance x) h k = climbs (λ y. nat_eq x y) c d h k
    conforms_through c d (Reference x) h k = climbs (λ y. nat_eq x y) c d h k
    conforms_through c d (Interface i) h k = climbs (implements_itself classes interfaces i) c d h k
    conforms_through c d _ h k = absurd (false≢true k)

    widened : (i j : ℕ) → extends interfaces i j ≡ true → (d : ℕ) → implements_itself classes interfaces i d ≡ true → implements_itself classes interfaces j d ≡ true
    widened i j e d h =
        let r : Among (λ k. extends interfaces k i) (implemented classes interfaces d) = any-parts (λ k. extends interfaces k i) (implemented classes interfaces d) h in
        any-among (λ k. extends interfaces k j) (implemented classes interfaces d) r.number r.among (extends_through r.number i j r.passes e)

    pub conforms_further : (c i j : ℕ) → conforms classes interfaces c (Interface i) ≡ true → extends interfaces i j ≡ true → conforms classes interfaces c (Interface j) ≡ true
    unfolding conforms
    conforms_further c i j h e =
        let r : Among (implements_itself classes interfaces i) (chain classes c) = any-parts (implements_itself classes interfaces i) (chain classes c) h in
        any-among (implements_itself classes interfaces j) (chain classes c) r.number r.among (widened i j e r.number r.passes)
