-- A class that has an instance has a method of equal signature for each method of an interface to which it conforms.
use Rattle.std.proofs.Common.{◌≡◌, ℕ, zero, suc, ◌+◌, Bool, true, false, List, [], ◌∷◌, length, Option, Some, None, refl, sym, ap, ◌∙◌, subst, inl, inr, nat_eq, arith}
use Rattle.std.specs.Prelude.{◌&&◌, ◌||◌, not, option_map, option_and_then, slice_get, if◌then◌else◌}
use Rattle.std.proofs.lemmas.Bool.{eq-eqb}
use Rattle.plc_text.specs.declared.code.Code.TheVariants.{E11}
use Rattle.st_types.specs.declared.st_type.StType.TheVariants as type
use Rattle.st_tree.specs.declared.declaration.ClassDecl.{ClassDecl}
use Rattle.st_tree.specs.declared.declaration.InterfaceDecl.{InterfaceDecl}
use Rattle.st_tree.specs.declared.declaration.Prototype.{Prototype}
use Rattle.st_tree.specs.declared.program.Program.{Program as Checked}
use Rattle.st_tree.specs.declared.unit.Decl.{Decl}
use Rattle.st_rules.specs.declared.ids.MethodId.{MethodId}
use Rattle.st_rules.specs.declared.ids.PrototypeId.{PrototypeId}
use Rattle.st_rules.specs.Chains.{◌or_else◌, is_among, itself, onward}
use Rattle.st_rules.specs.Classes.{classes_in, lookup}
use Rattle.st_rules.specs.InterfaceRules.{abstract_method_left, if_public, is_public, target, is_met, leaves_method, interface_not_met, concrete_class_faults_of}
use Rattle.st_rules.specs.Interfaces.{interfaces_in, extended, extends, conforms, prototype_names, prototype_id, own_prototype, has_prototype, first_with, prototype_within, interface_lookup, prototype_at}
use Rattle.st_rules.specs.Modifiers.{is_abstract}
use Rattle.st_rules.specs.Named.{first_place}
use Rattle.st_rules.specs.Numbered.{any_numbered, passes_if_there}
use Rattle.st_rules.specs.Signatures.{differ, signature_of, prototype_signature}
use Rattle.st_rules.proofs.Booleans.{none≢some, some-same, neither, or-first, or-second, true≢false, false≢true}
use Rattle.st_rules.proofs.InterfaceLaws.{extends_law, extends_itself, extends_through, conforms_further}
use Rattle.st_unit_rules.specs.Checked.{TypedClass, IsChecked}
use Rattle.st_unit_rules.specs.DeclarationRules.{signatures}
use Rattle.st_unit_rules.specs.UnitRefusal.{BreaksNothing}
use Rattle.st_unit_rules.specs.Worth.{same_worth}
use Rattle.st_values.specs.Program as seen
use Rattle.st_values.specs.View.{program_of}
use Rattle.st_meaning.specs.st_frame.Promise.Calls.{HasInstance}
use Rattle.accepted_texts.specs.formed_units.Formed.{IsFormed}
use Rattle.accepted_texts.proofs.unfolding_laws.CycleLaws.{none_in, not_when}
use Rattle.accepted_texts.proofs.unfolding_laws.ListLaws.{if_found, from_get}
use Rattle.class_laws.proofs.Above.{at_number, class_conforms, there}
use Rattle.class_laws.proofs.Overrides.{placed}
use Rattle.class_laws.proofs.Same.{conforms_same}
use Rattle.declaration_laws.proofs.Alive.{living}
use Rattle.initial_laws.proofs.Items.{class_fine}
use Rattle.initial_laws.proofs.Names.{equal}

numbered_false : {X : Type 0} (test : ℕ → X → Bool) (n : ℕ) (xs : List X) (i : ℕ) (x : X) → any_numbered test n xs ≡ false → slice_get xs i ≡ Some x → test (n + i) x ≡ false
numbered_false test n [] i x h e = absurd (none≢some e)
numbered_false test n (y ∷ xs) zero x h e =
    let z : n ≡ n + 0 = omega arith in
    subst (λ k. test k x ≡ false) z (subst (λ w. test n w ≡ false) (some-same e) (neither (test n y) (any_numbered test (suc n) xs) h).0)
numbered_false test n (y ∷ xs) (suc i) x h e =
    let z : suc n + i ≡ n + suc i = omega arith in
    subst (λ k. test k x ≡ false) z (numbered_false test (suc n) xs i x (neither (test n y) (any_numbered test (suc n) xs) h).1 e)

second_false : (a b : Bool) → (a && b) ≡ false → a ≡ true → b ≡ false
second_false true b h e = h
second_false false b h e = absurd (false≢true e)

first_among : (test : ℕ → Bool) (ks : List ℕ) (j : ℕ) → first_with test ks ≡ Some j → is_among j ks ≡ true
first_among test [] j e = absurd (none≢some e)
first_among test (k ∷ ks) j e = by (test k) e (first_among test ks j)
  where
    by : (b : Bool) → (if b then Some k else first_with test ks) ≡ Some j → (first_with test ks ≡ Some j → is_among j ks ≡ true) → (nat_eq j k || is_among j ks) ≡ true
    by true q f = or-first (nat_eq j k) (is_among j ks) (eq-eqb j k (sym (some-same q)))
    by false q f = or-second (nat_eq j k) (is_among j ks) (f q)

-- ---- what a name means in an interface

module _ (interfaces : List (InterfaceDecl ℕ)) (name : List ℕ) where
  -- a method of that name of an interface that the first one extends
  record FoundFrom (i : ℕ) (id : PrototypeId) : Type 0 where
    above : extends interfaces i id.interface ≡ true
    interface : InterfaceDecl ℕ
    there_is : slice_get interfaces id.interface ≡ Some interface
    method : Prototype ℕ
    method_is : slice_get interface.methods id.method ≡ Some method
    named : method.name.text ≡ name
    whole : id ≡ prototype_id id.interface id.method

  own_found : (i : ℕ) (id : PrototypeId) → own_prototype interfaces name i ≡ Some id → FoundFrom i id
  own_found i id h = by (slice_get interfaces i) refl h
    where
      at : (d : InterfaceDecl ℕ) → slice_get interfaces i ≡ Some d → (o : Option ℕ) → first_place name (prototype_names d) ≡ o → option_map (prototype_id i) o ≡ Some id → FoundFrom i id
      at d e None q f = absurd (none≢some f)
      at d e (Some k) q f =
          let m = placed (λ (m : Prototype ℕ). m.name.text) name d.methods k q in
          subst (FoundFrom i) (some-same f) (record { above = extends_itself interfaces i; interface = d; there_is = e; method = m.0; method_is = m.1; named = equal (m.0).name.text name m.2; whole = refl })

      by : (o : Option (InterfaceDecl ℕ)) → slice_get interfaces i ≡ o → option_map (prototype_id i) (option_and_then (λ (d : InterfaceDecl ℕ). first_place name (prototype_names d)) o) ≡ Some id → FoundFrom i id
      by None e f = absurd (none≢some f)
      by (Some d) e f = at d e (first_place name (prototype_names d)) refl f

  higher : (i j : ℕ) (id : PrototypeId) → is_among j (extended interfaces i) ≡ true → FoundFrom j id → FoundFrom i id
  higher i j id a h = record {
    above = extends_through interfaces i j id.interface ((extends_law interfaces i j).1 (onward i j j a (itself j))) h.above;
    interface = h.interface;
    there_is = h.there_is;
    method = h.method;
    method_is = h.method_is;
    named = h.named;
    whole = h.whole;
  }

  within_found : (n i : ℕ) (id : PrototypeId) → prototype_within interfaces name n i ≡ Some id → FoundFrom i id
  within_found zero i id h = absurd (none≢some h)
  within_found (suc n) i id h = by (own_prototype interfaces name i) refl (λ j. within_found n j id) h
    where
      later : (o : Option ℕ) → first_with (has_prototype interfaces name) (extended interfaces i) ≡ o → ((j : ℕ) → prototype_within interfaces name n j ≡ Some id → FoundFrom j id) → option_and_then (prototype_within interfaces name n) o ≡ Some id → FoundFrom i id
      later None q f e = absurd (none≢some e)
      later (Some j) q f e = higher i j id (first_among (has_prototype interfaces name) (extended interfaces i) j q) (f j e)

      by : (o : Option PrototypeId) → own_prototype interfaces name i ≡ o → ((j : ℕ) → prototype_within interfaces name n j ≡ Some id → FoundFrom j id) → (o or_else option_and_then (prototype_within interfaces name n) (first_with (has_prototype interfaces name) (extended interfaces i))) ≡ Some id → FoundFrom i id
      by (Some x) q f e = own_found i id (q ∙ e)
      by None q f e = later (first_with (has_prototype interfaces name) (extended interfaces i)) refl f e

  lookup_found : (i : ℕ) (id : PrototypeId) → interface_lookup interfaces i name ≡ Some id → FoundFrom i id
  unfolding interface_lookup
  lookup_found i id h = within_found (length interfaces) i id h

module _ (most : ℕ) (decls : List (Decl ℕ)) (p : Checked) (fine : IsFormed most decls) (good : BreaksNothing decls) (checked : IsChecked decls p) where
  abbrev classes : List (ClassDecl ℕ)
  classes = classes_in decls

  abbrev interfaces : List (InterfaceDecl ℕ)
  interfaces = interfaces_in decls

  -- a class of the text that conforms
  conforming : (c i : ℕ) → seen.conforms (program_of p) c (type.Interface i) ≡ true → (d : ClassDecl ℕ) × (slice_get classes c ≡ Some d) × (conforms classes interfaces c (type.Interface i) ≡ true)
  conforming c i h =
      let x = there p c (type.Interface i) h in
      elim (at_number p c x.0 x.1) [
        | inr a ↦ absurd (true≢false (sym (sym (ap (is_among i) a.interfaces) ∙ x.2)))
        | inl a ↦
            let z : 0 + c ≡ c = omega arith in
            let d = if_found (TypedClass decls (0 + c)) (slice_get classes c) (slice_get p.classes c) a.decl a.there (from_get (TypedClass decls) 0 classes p.classes c checked.classes) in
            (d.0, d.1, sym (conforms_same decls p checked c (type.Interface i)) ∙ class_conforms p c x.0 (type.Interface i) a x.2)
      ]

  -- what a concrete class has for each method of an interface
  abbrev Meets : ℕ → List ℕ → PrototypeId → Type 0
  Meets c name id = (k : MethodId) × (lookup classes c name ≡ Some k) × (differ same_worth (signature_of (signatures decls) k) (prototype_signature (signatures decls) id) ≡ false)

  public_one : (o : Option MethodId) (k : MethodId) → option_and_then (if_public classes) o ≡ Some k → o ≡ Some k
  public_one None k e = absurd (none≢some e)
  public_one (Some j) k e = by (is_public classes j) e
    where
      by : (b : Bool) → (if b then Some j else None) ≡ Some k → Some j ≡ Some k
      by true q = q
      by false q = absurd (none≢some q)

  target_found : (c i m : ℕ) (d : InterfaceDecl ℕ) (x : Prototype ℕ) (k : MethodId) → conforms classes interfaces c (type.Interface i) ≡ true → slice_get interfaces i ≡ Some d → slice_get d.methods m ≡ Some x → target classes interfaces c i m ≡ Some k → lookup classes c x.name.text ≡ Some k
  unfolding target
  target_found c i m d x k h e f g =
      let at : prototype_at interfaces (prototype_id i m) ≡ Some x = ap (option_and_then (λ (y : InterfaceDecl ℕ). slice_get y.methods m)) e ∙ f in
      public_one (lookup classes c x.name.text) k
      (sym (ap (λ o. option_and_then (if_public classes) (option_and_then (λ (y : Prototype ℕ). lookup classes c y.name.text) o)) at)
      ∙ (sym (ap (λ b. if b then option_and_then (if_public classes) (option_and_then (λ (y : Prototype ℕ). lookup classes c y.name.text) (prototype_at interfaces (prototype_id i m))) else None) h) ∙ g))

  is_met_found : (c i m : ℕ) (d : InterfaceDecl ℕ) (x : Prototype ℕ) → conforms classes interfaces c (type.Interface i) ≡ true → slice_get interfaces i ≡ Some d → slice_get d.methods m ≡ Some x → is_met classes interfaces same_worth (signatures decls) c i m ≡ true → Meets c x.name.text (prototype_id i m)
  is_met_found c i m d x h e f g = by (target classes interfaces c i m) refl g
    where
      no : (b : Bool) → not b ≡ true → b ≡ false
      no false q = refl
      no true q = absurd (false≢true q)

      by : (o : Option MethodId) → target classes interfaces c i m ≡ o → passes_if_there (λ k. not (differ same_worth (signature_of (signatures decls) k) (prototype_signature (signatures decls) (prototype_id i m)))) o ≡ true
          → (k : MethodId) × (lookup classes c x.name.text ≡ Some k) × (differ same_worth (signature_of (signatures decls) k) (prototype_signature (signatures decls) (prototype_id i m)) ≡ false)
      by None q r = absurd (false≢true r)
      by (Some k) q r = (k, target_found c i m d x k h e f q, no (differ same_worth (signature_of (signatures decls) k) (prototype_signature (signatures decls) (prototype_id i m))) r)

  all_met : (c : ℕ) (d : ClassDecl ℕ) → slice_get classes c ≡ Some d → is_abstract d.modifiers ≡ false → any_numbered (leaves_method classes interfaces same_worth (signatures decls) c) 0 interfaces ≡ false
  all_met c d e a =
      let f = sym (ap (concrete_class_faults_of classes interfaces same_worth (signatures decls) c) e) ∙ (class_fine decls good c d e).interfaces in
      let q = none_in (abstract_method_left classes c d) (interface_not_met classes interfaces same_worth (signatures decls) c d) f in
      second_false (not (is_abstract d.modifiers)) _ (not_when (not (is_abstract d.modifiers) && any_numbered (leaves_method classes interfaces same_worth (signatures decls) c) 0 interfaces) E11 d.line q.1) (ap not a)

  met_at : (c j m : ℕ) (d : InterfaceDecl ℕ) (x : Prototype ℕ) → any_numbered (leaves_method classes interfaces same_worth (signatures decls) c) 0 interfaces ≡ false → conforms classes interfaces c (type.Interface j) ≡ true → slice_get interfaces j ≡ Some d → slice_get d.methods m ≡ Some x
      → is_met classes interfaces same_worth (signatures decls) c j m ≡ true
  met_at c j m d x all h e f =
      let z : 0 + j ≡ j = omega arith in
      let w : 0 + m ≡ m = omega arith in
      let a = subst (λ k. leaves_method classes interfaces same_worth (signatures decls) c k d ≡ false) z (numbered_false (leaves_method classes interfaces same_worth (signatures decls) c) 0 interfaces j d all e) in
      let b = second_false (conforms classes interfaces c (type.Interface j)) (any_numbered (λ k y. not (is_met classes interfaces same_worth (signatures decls) c j k)) 0 d.methods) a h in
      yes (is_met classes interfaces same_worth (signatures decls) c j m)
      (subst (λ k. not (is_met classes interfaces same_worth (signatures decls) c j k) ≡ false) w (numbered_false (λ k (y : Prototype ℕ). not (is_met classes interfaces same_worth (signatures decls) c j k)) 0 d.methods m x b f))
    where
      yes : (b : Bool) → not b ≡ false → b ≡ true
      yes true q = refl
      yes false q = absurd (true≢false q)

  pub met : (c i : ℕ) (name : List ℕ) (id : PrototypeId) → HasInstance (program_of p) c → seen.conforms (program_of p) c (type.Interface i) ≡ true → interface_lookup interfaces i name ≡ Some id
      → (k : MethodId) × (lookup classes c name ≡ Some k) × (differ same_worth (signature_of (signatures decls) k) (prototype_signature (signatures decls) id) ≡ false)
  met c i name id h q e =
      let d = conforming c i q in
      let f = lookup_found interfaces name i id e in
      let conformed = conforms_further interfaces classes c i id.interface d.2 f.above in
      let all = all_met c d.0 d.1 (living most decls p fine good checked c h d.0 d.1) in
      subst (λ n. Meets c n id) f.named (subst (λ z. Meets c f.method.name.text z) (sym f.whole) (is_met_found c id.interface id.method f.interface f.method conformed f.there_is f.method_is (met_at c id.interface id.method f.interface f.method all conformed f.there_is f.method_is)))
