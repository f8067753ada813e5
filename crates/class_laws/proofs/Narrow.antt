-- What may be assigned widens: conformity makes a type narrower.
use Rattle.std.proofs.Common.{◌≡◌, ◌≤◌, ◌<◌, ℕ, zero, suc, ◌+◌, true, [], length, Option, Some, None, refl, sym, ap, ◌∙◌, subst, inl, inr, arith, nat_eq}
use Rattle.std.specs.Prelude.{slice_get, option_map, unwrap_or}
use Rattle.std.specs.List.{range_with_len}
use Rattle.std.proofs.lemmas.Option.{slice_get_within}
use Rattle.st_types.specs.declared.st_type.StType.{StType}
use Rattle.st_types.specs.declared.st_type.StType.TheVariants as type
use Rattle.st_tree.specs.declared.declaration.ClassDecl.{ClassDecl}
use Rattle.st_tree.specs.declared.program.Note.{Note}
use Rattle.st_tree.specs.declared.program.Program.{Program as Checked}
use Rattle.st_rules.specs.Interfaces as rules
use Rattle.st_rules.specs.Kinds.{converts, is_assignable, narrower_instance, is_bindable}
use Rattle.st_rules.specs.Types.{same_type}
use Rattle.st_rules.specs.Chains.{is_among, IsAbove, directly, further, Leads, itself, onward}
use Rattle.st_rules.specs.Classes.{base_of, chain}
use Rattle.st_rules.specs.Interfaces.{interfaces_named, extended, extends, implemented, implements_itself}
use Rattle.st_rules.proofs.Booleans.{either, false≢true, some-same, cases, or-first, or-second, differ_from_test, Among, any-parts}
use Rattle.st_rules.proofs.ClassLaws.{bases_within, chain_law}
use Rattle.st_rules.proofs.InterfaceLaws.{named_within, extended_within, extends_law, conforms_through, conforms_further}
use Rattle.st_rules.proofs.KindLaws.{reaches_decides}
use Rattle.st_rules.proofs.TypeLaws.{type_decided}
use Rattle.st_values.specs.Program.{Class, Program, class_at, conforms_as}
use Rattle.st_values.specs.View.{class_of, program_of}
use Rattle.st_meaning.specs.st_frame.Promise.Types.{Widens, same_type as equal, wider_number, wider_path, Serves, same_place, wider_class, Narrower}
use Rattle.accepted_texts.proofs.unfolding_laws.ListLaws.{there_below}
use Rattle.accepted_texts.proofs.unfolding_laws.ChainLaws.{class_seen}
use Rattle.class_laws.proofs.Above.{ClassAt, ProgramAt, at_number, class_conforms, conforms_class, there, back, only_one, IsThere}

among_range : (i a n : ℕ) → a ≤ i → i < a + n → is_among i (range_with_len a n) ≡ true
among_range i a zero h k = absurd (omega (arith, h, k))
among_range i a (suc n) h k = elim (cases (nat_eq i a)) [
  | inl e ↦ or-first (nat_eq i a) (is_among i (range_with_len (a + 1) n)) e
  | inr e ↦ or-second (nat_eq i a) (is_among i (range_with_len (a + 1) n)) (later (differ_from_test i a e) (λ l m. among_range i (a + 1) n l m))
]
  where
    later : (i ≡ a → ⊥) → (a + 1 ≤ i → i < (a + 1) + n → is_among i (range_with_len (a + 1) n) ≡ true) → is_among i (range_with_len (a + 1) n) ≡ true
    later d f = f (omega (arith, h, d)) (omega (arith, k))

module _ (p : Checked) where
  abbrev Seen : Program
  Seen = program_of p

  -- what all classes of the text that conform to the one conform to by the rules
  narrower : (t u : StType) → IsThere p u → ((c : ℕ) (k : Class) → class_at Seen c ≡ Some k → ProgramAt p c k → conforms_as t k ≡ true → conforms_as u k ≡ true) → ((c : ℕ) → rules.conforms p.classes p.interfaces c t ≡ true → rules.conforms p.classes p.interfaces c u ≡ true) → Narrower Seen t u
  narrower t u q programs h = record {
    by = λ c e. let x = there p c t e in elim (at_number p c x.0 x.1) [
      | inl a ↦ back p c x.0 u x.1 (conforms_class p c x.0 u a q (h c (class_conforms p c x.0 t a x.2)))
      | inr a ↦ back p c x.0 u x.1 (programs c x.0 x.1 a x.2)
    ];
  }

  -- a program conforms to itself alone: no written type names it
  abbrev pub NamesClasses : StType → Type 0
  NamesClasses (type.Instance d) = (k : Class) × (class_at Seen d ≡ Some k) × ClassAt p d k
  NamesClasses (type.Reference d) = (k : Class) × (class_at Seen d ≡ Some k) × ClassAt p d k
  NamesClasses (type.Interface i) = is_among i (range_with_len 0 (length p.interfaces)) ≡ true
  NamesClasses _ = Unit {0}

  same_conformity : (x y : ℕ) → rules.conforms p.classes p.interfaces x (type.Reference y) ≡ rules.conforms p.classes p.interfaces x (type.Instance y)
  unfolding rules.conforms
  same_conformity x y = refl

  as_reference : (c : ℕ) (d : ℕ) (t : StType) → rules.conforms p.classes p.interfaces c (type.Reference d) ≡ true → rules.conforms p.classes p.interfaces d t ≡ true → rules.conforms p.classes p.interfaces c t ≡ true
  as_reference c d t h k = conforms_through p.interfaces p.classes c d t (sym (same_conformity c d) ∙ h) k

  -- a number that is both one of a class and one of a program is that of the class
  programs_narrower : (d : ℕ) (u : StType) → IsThere p u → (j : Class) → class_at Seen d ≡ Some j → ClassAt p d j → rules.conforms p.classes p.interfaces d u ≡ true → (c : ℕ) (k : Class) → class_at Seen c ≡ Some k → ProgramAt p c k → is_among d k.chain ≡ true → conforms_as u k ≡ true
  programs_narrower d u q j e a h c k f b m =
      let s : d ≡ c = only_one p c d (subst (λ l. is_among d l ≡ true) b.chain m) in
      let w : j ≡ k = some-same (sym e ∙ (ap (class_at Seen) s ∙ f)) in
      subst (λ z. conforms_as u z ≡ true) w (conforms_class p d j u a q h)

  converted : (t u : StType) → NamesClasses t → NamesClasses u → converts p.classes p.interfaces t u ≡ true → Widens Seen t u
  converted (type.Elementary a) (type.Elementary b) n m h = wider_number ((reaches_decides a b).0 h)
  converted (type.Reference c) (type.Reference d) n m h = wider_path tt tt (narrower (type.Reference c) (type.Reference d) tt (λ x k f b z. programs_narrower c (type.Reference d) tt n.0 n.1 n.2 h x k f b z) (λ x k. as_reference x c (type.Reference d) k h))
  converted (type.Reference c) (type.Interface i) n m h = wider_path tt tt (narrower (type.Reference c) (type.Interface i) m (λ x k f b z. programs_narrower c (type.Interface i) m n.0 n.1 n.2 h x k f b z) (λ x k. as_reference x c (type.Interface i) k h))
  converted (type.Instance c) (type.Interface i) n m h = wider_path tt tt (narrower (type.Instance c) (type.Interface i) m (λ x k f b z. programs_narrower c (type.Interface i) m n.0 n.1 n.2 h x k f b z) (λ x k. conforms_through p.interfaces p.classes x c (type.Interface i) k h))
  converted (type.Interface j) (type.Interface i) n m h = wider_path tt tt (narrower (type.Interface j) (type.Interface i) m (λ c k f a e. absurd (false≢true (sym (ap (λ is. is_among j is) a.interfaces) ∙ e))) (λ x k. conforms_further p.interfaces p.classes x j i k h))
  converted _ _ n m h = absurd (false≢true h)

  -- ---- what conforms is declared, or is the same

  named_class : (d : ℕ) → d < length p.classes → (k : Class) × (class_at Seen d ≡ Some k) × ClassAt p d k
  named_class d h = let t = there_below p.classes d h in (class_of p.classes p.interfaces d t.item, class_seen p d t.item t.there, record { decl = t.item; there = t.there; is = refl })

  named_interface : (i : ℕ) → i < length p.interfaces → is_among i (range_with_len 0 (length p.interfaces)) ≡ true
  named_interface i h = among_range i 0 (length p.interfaces) (omega arith) (omega (arith, h))

  above_both : (d c : ℕ) → IsAbove (base_of p.classes) d c → (c < length p.classes) × (d < length p.classes)
  above_both _ _ (directly c b e) = (bases_within p.classes).within c b e
  above_both _ _ (further c b d e r) = (((bases_within p.classes).within c b e).0, (above_both d b r).1)

  in_chain : (c d : ℕ) → d < length p.classes → is_among d (chain p.classes c) ≡ true → c < length p.classes
  in_chain c d h m = elim ((chain_law p.classes c d).0 m) [
    | inl q ↦ subst (λ (x : ℕ). x < length p.classes) q h
    | inr q ↦ (above_both d c q).0
  ]

  leads_to : (j i : ℕ) → Leads (extended p.interfaces) j i → j < length p.interfaces → i < length p.interfaces
  leads_to _ _ (itself i) h = h
  leads_to _ _ (onward j k i m l) h = leads_to k i l ((extended_within p.interfaces).within j k m).1

  implementing : (d j : ℕ) → is_among j (implemented p.classes p.interfaces d) ≡ true → (d < length p.classes) × (j < length p.interfaces)
  implementing d j h = by (slice_get p.classes d) refl h
    where
      by : (o : Option (ClassDecl Note)) → slice_get p.classes d ≡ o → is_among j (unwrap_or (option_map (λ (k : ClassDecl Note). interfaces_named p.interfaces k.interfaces) o) []) ≡ true → (d < length p.classes) × (j < length p.interfaces)
      by None e m = absurd (false≢true m)
      by (Some k) e m = (slice_get_within p.classes d k e, named_within p.interfaces k.interfaces j m)

  class_to_interface : (c i : ℕ) → rules.conforms p.classes p.interfaces c (type.Interface i) ≡ true → (c < length p.classes) × (i < length p.interfaces)
  unfolding rules.conforms
  class_to_interface c i h =
      let r : Among (implements_itself p.classes p.interfaces i) (chain p.classes c) = any-parts (implements_itself p.classes p.interfaces i) (chain p.classes c) h in
      let j : Among (λ k. extends p.interfaces k i) (implemented p.classes p.interfaces r.number) = any-parts (λ k. extends p.interfaces k i) (implemented p.classes p.interfaces r.number) r.passes in
      let e = implementing r.number j.number j.among in
      (in_chain c r.number e.0 r.among, leads_to j.number i ((extends_law p.interfaces j.number i).0 j.passes) e.1)

  reference_widens : (c d : ℕ) → rules.conforms p.classes p.interfaces c (type.Reference d) ≡ true → Widens Seen (type.Reference c) (type.Reference d)
  unfolding rules.conforms
  reference_widens c d h = elim ((chain_law p.classes c d).0 h) [
    | inl q ↦ subst (λ x. Widens Seen (type.Reference c) (type.Reference x)) (sym q) equal
    | inr q ↦ let w = above_both d c q in converted (type.Reference c) (type.Reference d) (named_class c w.0) (named_class d w.1) h
  ]

  interface_widens : (j i : ℕ) → extends p.interfaces j i ≡ true → Widens Seen (type.Interface j) (type.Interface i)
  interface_widens j i h = by j i ((extends_law p.interfaces j i).0 h) h
    where
      by : (j i : ℕ) → Leads (extended p.interfaces) j i → extends p.interfaces j i ≡ true → Widens Seen (type.Interface j) (type.Interface i)
      by _ _ (itself i) e = equal
      by _ _ (onward j k i m l) e =
          let w = (extended_within p.interfaces).within j k m in
          converted (type.Interface j) (type.Interface i) (named_interface j w.0) (named_interface i (leads_to k i l w.1)) e

  widens_by : (t u : StType) → converts p.classes p.interfaces t u ≡ true → Widens Seen t u
  widens_by (type.Elementary a) (type.Elementary b) h = converted (type.Elementary a) (type.Elementary b) tt tt h
  widens_by (type.Reference c) (type.Reference d) h = reference_widens c d h
  widens_by (type.Reference c) (type.Interface i) h = let w = class_to_interface c i h in converted (type.Reference c) (type.Interface i) (named_class c w.0) (named_interface i w.1) h
  widens_by (type.Instance c) (type.Interface i) h = let w = class_to_interface c i h in converted (type.Instance c) (type.Interface i) (named_class c w.0) (named_interface i w.1) h
  widens_by (type.Interface j) (type.Interface i) h = interface_widens j i h
  widens_by _ _ h = absurd (false≢true h)

  pub widens : (t u : StType) → is_assignable p.classes p.interfaces t u ≡ true → Widens Seen t u
  unfolding is_assignable
  widens t u h = elim (either (same_type t u) (converts p.classes p.interfaces t u) h) [
    | inl q ↦ subst (Widens Seen t) ((type_decided t u).0 q) equal
    | inr q ↦ widens_by t u q
  ]

  instance_serves : (c d : ℕ) → rules.conforms p.classes p.interfaces c (type.Instance d) ≡ true → Serves Seen (type.Instance c) (type.Instance d)
  unfolding rules.conforms
  instance_serves c d h = elim ((chain_law p.classes c d).0 h) [
    | inl q ↦ subst (λ x. Serves Seen (type.Instance c) (type.Instance x)) (sym q) same_place
    | inr q ↦
        let n = named_class c (above_both d c q).0 in
        wider_class (narrower (type.Instance c) (type.Instance d) tt (λ x k f b z. programs_narrower c (type.Instance d) tt n.0 n.1 n.2 h x k f b z) (λ x k. conforms_through p.interfaces p.classes x c (type.Instance d) k h))
  ]

  serves_by : (t u : StType) → narrower_instance p.classes p.interfaces t u ≡ true → Serves Seen t u
  serves_by (type.Instance c) (type.Instance d) h = instance_serves c d h
  serves_by _ _ h = absurd (false≢true h)

  pub serves : (t u : StType) → is_bindable p.classes p.interfaces t u ≡ true → Serves Seen t u
  unfolding is_bindable
  serves t u h = elim (either (same_type t u) (narrower_instance p.classes p.interfaces t u) h) [
    | inl q ↦ subst (Serves Seen t) ((type_decided t u).0 q) same_place
    | inr q ↦ serves_by t u q
  ]
