-- The method that a name means in a class is like the one that it means in a base: by any relation that equal signatures have.
use Rattle.std.proofs.Common.{◌≡◌, ℕ, zero, suc, ◌+◌, Bool, true, false, List, [], ◌∷◌, ◌++◌, map, Option, Some, None, refl, sym, ap, ◌∙◌, subst, inl, inr, arith}
use Rattle.std.specs.Prelude.{option_map, option_and_then, slice_get, if◌then◌else◌}
use Rattle.plc_text.specs.Words.{same}
use Rattle.plc_text.specs.declared.code.Code.TheVariants.{E12}
use Rattle.st_tree.specs.declared.declaration.ClassDecl.{ClassDecl}
use Rattle.st_tree.specs.declared.declaration.Method.{Method}
use Rattle.st_rules.specs.declared.ids.MethodId.{MethodId}
use Rattle.st_rules.specs.declared.signature.Signatures.{Signatures}
use Rattle.st_rules.specs.Faults.{Faults}
use Rattle.st_rules.specs.Named.{first_place}
use Rattle.st_rules.specs.Numbered.{each_numbered}
use Rattle.st_rules.specs.Chains.{is_among, ◌or_else◌, IsAbove, directly, further}
use Rattle.st_rules.specs.Classes.{method_id, base_of, chain, lookup, own_method, methods_in, method_names, method_at}
use Rattle.st_rules.specs.ClassRules.{inherited, has_other_signature, is_no_hook, final_method_overridden, private_method_overridden, overridden_with_other_access, overridden_with_other_signature, nothing_to_override, abstract_hook, hook_with_other_signature, abstract_method_with_statements, abstract_method_in_concrete_class, method_faults, base_faults, class_faults, class_faults_of}
use Rattle.st_rules.specs.Signatures.{differ, signature_of}
use Rattle.st_rules.proofs.Booleans.{some-same, none≢some}
use Rattle.st_rules.proofs.ClassLaws.{chain_law, lookup_law}
use Rattle.place_laws.proofs.Words.{none_in, not_when, four}

numbered_none : {X : Type 0} (f : ℕ → X → Faults) (n : ℕ) (xs : List X) → each_numbered f n xs ≡ [] → (i : ℕ) (x : X) → slice_get xs i ≡ Some x → f (n + i) x ≡ []
numbered_none f n [] h i x e = absurd (none≢some e)
numbered_none f n (y ∷ xs) h zero x e = let q : n ≡ n + 0 = omega arith in subst (λ k. f k x ≡ []) q (subst (λ z. f n z ≡ []) (some-same e) (none_in (f n y) (each_numbered f (suc n) xs) h).0)
numbered_none f n (y ∷ xs) h (suc i) x e = let q : suc n + i ≡ n + suc i = omega arith in subst (λ k. f k x ≡ []) q (numbered_none f (suc n) xs (none_in (f n y) (each_numbered f (suc n) xs) h).1 i x e)

-- the first of a name has it
pub placed : {X : Type 0} (name_of : X → List ℕ) (name : List ℕ) (xs : List X) (k : ℕ) → first_place name (map name_of xs) ≡ Some k → (x : X) × (slice_get xs k ≡ Some x) × (same (name_of x) name ≡ true)
placed name_of name [] k e = absurd (none≢some e)
placed name_of name (x ∷ xs) k e = by (same (name_of x) name) refl (λ j. placed name_of name xs j) e
  where
    by : (b : Bool) → same (name_of x) name ≡ b → ((j : ℕ) → first_place name (map name_of xs) ≡ Some j → (y : _) × (slice_get xs j ≡ Some y) × (same (name_of y) name ≡ true)) → (if b then Some 0 else option_map suc (first_place name (map name_of xs))) ≡ Some k → (y : _) × (slice_get (x ∷ xs) k ≡ Some y) × (same (name_of y) name ≡ true)
    by true q r f = subst (λ j. (y : _) × (slice_get (x ∷ xs) j ≡ Some y) × (same (name_of y) name ≡ true)) (some-same f) (x, refl, q)
    by false q r f = later (first_place name (map name_of xs)) refl f
      where
        later : (o : Option ℕ) → first_place name (map name_of xs) ≡ o → option_map suc o ≡ Some k → (y : _) × (slice_get (x ∷ xs) k ≡ Some y) × (same (name_of y) name ≡ true)
        later None g h = absurd (none≢some h)
        later (Some j) g h = let z = r j g in subst (λ i. (y : _) × (slice_get (x ∷ xs) i ≡ Some y) × (same (name_of y) name ≡ true)) (some-same h) (z.0, z.1, z.2)

module _ {V : Type 0} (same_value : V → V → Bool) (classes : List (ClassDecl ℕ)) (signatures : Signatures V) (good : (c : ℕ) → class_faults same_value classes signatures c ≡ []) (names : (a b : List ℕ) → same a b ≡ true → a ≡ b) where
  -- what the rules say of a method that a class declares: it has the signature of the one that it overrides, and of the hook of its name
  pub record OwnRules (c : ℕ) (name : List ℕ) (id : MethodId) : Type 0 where
    pub overrides : has_other_signature same_value classes signatures id (inherited same_value classes signatures c name) ≡ false
    pub hook : is_no_hook same_value classes signatures id name ≡ false

  pub own_rules : (c : ℕ) (name : List ℕ) (id : MethodId) → own_method classes name c ≡ Some id → OwnRules c name id
  own_rules c name id e = by (slice_get classes c) refl e
    where
      by : (o : Option (ClassDecl ℕ)) → slice_get classes c ≡ o → option_map (method_id c) (option_and_then (λ class. first_place name (method_names class)) o) ≡ Some id → OwnRules c name id
      by None q f = absurd (none≢some f)
      by (Some class) q f = at (first_place name (method_names class)) refl f
        where
          at : (o : Option ℕ) → first_place name (method_names class) ≡ o → option_map (method_id c) o ≡ Some id → OwnRules c name id
          at None g k = absurd (none≢some k)
          at (Some m) g k =
              let x = placed (λ (z : Method ℕ). z.name.text) name (methods_in class.members) m g in
              let fs = none_in (base_faults same_value classes signatures c class) (each_numbered (method_faults same_value classes signatures c class) 0 (methods_in class.members)) (sym (ap (class_faults_of same_value classes signatures c) q) ∙ good c) in
              let mine = numbered_none (method_faults same_value classes signatures c class) 0 (methods_in class.members) fs.1 m x.0 x.1 in
              let z : 0 + m ≡ m = omega arith in
              other m x.0 (names x.0.name.text name x.2) (subst (λ j. method_faults same_value classes signatures c class j x.0 ≡ []) z mine) (some-same k)
            where
              other : (j : ℕ) (method : Method ℕ) → method.name.text ≡ name → method_faults same_value classes signatures c class j method ≡ [] → method_id c j ≡ id → OwnRules c name id
              other j method n fault w =
                  let over' = inherited same_value classes signatures c method.name.text in
                  let overridden = option_and_then (method_at classes) over' in
                  let a = none_in (final_method_overridden method overridden ++ private_method_overridden method overridden ++ overridden_with_other_access method overridden ++ overridden_with_other_signature method (has_other_signature same_value classes signatures (method_id c j) over') ++ nothing_to_override method overridden ++ abstract_hook method ++ hook_with_other_signature method (is_no_hook same_value classes signatures (method_id c j) method.name.text) ++ abstract_method_with_statements method) (abstract_method_in_concrete_class method class) fault in
                  let b = none_in (final_method_overridden method overridden ++ private_method_overridden method overridden ++ overridden_with_other_access method overridden ++ overridden_with_other_signature method (has_other_signature same_value classes signatures (method_id c j) over') ++ nothing_to_override method overridden ++ abstract_hook method ++ hook_with_other_signature method (is_no_hook same_value classes signatures (method_id c j) method.name.text)) (abstract_method_with_statements method) a.0 in
                  let d = none_in (final_method_overridden method overridden ++ private_method_overridden method overridden ++ overridden_with_other_access method overridden ++ overridden_with_other_signature method (has_other_signature same_value classes signatures (method_id c j) over') ++ nothing_to_override method overridden ++ abstract_hook method) (hook_with_other_signature method (is_no_hook same_value classes signatures (method_id c j) method.name.text)) b.0 in
                  let e1 = none_in (final_method_overridden method overridden ++ private_method_overridden method overridden ++ overridden_with_other_access method overridden ++ overridden_with_other_signature method (has_other_signature same_value classes signatures (method_id c j) over') ++ nothing_to_override method overridden) (abstract_hook method) d.0 in
                  let e2 = none_in (final_method_overridden method overridden ++ private_method_overridden method overridden ++ overridden_with_other_access method overridden ++ overridden_with_other_signature method (has_other_signature same_value classes signatures (method_id c j) over')) (nothing_to_override method overridden) e1.0 in
                  let four' = four (final_method_overridden method overridden) (private_method_overridden method overridden) (overridden_with_other_access method overridden) (overridden_with_other_signature method (has_other_signature same_value classes signatures (method_id c j) over')) e2.0 in
                  let r : has_other_signature same_value classes signatures (method_id c j) over' ≡ false = not_when (has_other_signature same_value classes signatures (method_id c j) over') E12 method.line four'.3 in
                  let h : is_no_hook same_value classes signatures (method_id c j) method.name.text ≡ false = not_when (is_no_hook same_value classes signatures (method_id c j) method.name.text) E12 method.line d.1 in
                  subst (OwnRules c name) w (subst (λ t. OwnRules c t (method_id c j)) n (record { overrides = r; hook = h }))

  -- a method that a class declares is like the one that it overrides
  own_like : (c : ℕ) (name : List ℕ) (id over : MethodId) → own_method classes name c ≡ Some id → inherited same_value classes signatures c name ≡ Some over → differ same_value (signature_of signatures id) (signature_of signatures over) ≡ false
  own_like c name id over e h = subst (λ o. has_other_signature same_value classes signatures id o ≡ false) h (own_rules c name id e).overrides

  -- by any relation that a method found has to itself, and one of equal signature to the one that it overrides
  module _ (R : MethodId → MethodId → Type 0) (itself : (c : ℕ) (name : List ℕ) (i : MethodId) → lookup classes c name ≡ Some i → R i i) (through : (i j k : MethodId) → R i j → R j k → R i k)
      (like : (c b : ℕ) (name : List ℕ) (i j : MethodId) → own_method classes name c ≡ Some i → lookup classes b name ≡ Some j → differ same_value (signature_of signatures i) (signature_of signatures j) ≡ false → R i j)
    where
      -- from a base to the class above which it stands
      step : (c b : ℕ) (name : List ℕ) (j : MethodId) → base_of classes c ≡ Some b → lookup classes b name ≡ Some j → (i : MethodId) × (lookup classes c name ≡ Some i) × R i j
      step c b name j e h = by (own_method classes name c) refl
        where
          base : option_and_then (λ x. lookup classes x name) (base_of classes c) ≡ Some j
          base = ap (option_and_then (λ x. lookup classes x name)) e ∙ h

          by : (o : Option MethodId) → own_method classes name c ≡ o → (i : MethodId) × (lookup classes c name ≡ Some i) × R i j
          by None q = (j, lookup_law classes c name ∙ (ap (λ o. o or_else option_and_then (λ x. lookup classes x name) (base_of classes c)) q ∙ base), itself b name j h)
          by (Some i) q = (i, lookup_law classes c name ∙ ap (λ o. o or_else option_and_then (λ x. lookup classes x name) (base_of classes c)) q, like c b name i j q h (own_like c name i j q base))

      above_found : (d c : ℕ) (name : List ℕ) (j : MethodId) → IsAbove (base_of classes) d c → lookup classes d name ≡ Some j → (i : MethodId) × (lookup classes c name ≡ Some i) × R i j
      above_found _ _ name j (directly c b e) h = step c b name j e h
      above_found _ _ name j (further c b d e r) h =
          let q = above_found d b name j r h in
          let z = step c b name q.0 e q.1 in
          (z.0, z.1, through z.0 q.0 j z.2 q.2)

      pub chain_found : (c d : ℕ) (name : List ℕ) (j : MethodId) → is_among d (chain classes c) ≡ true → lookup classes d name ≡ Some j → (i : MethodId) × (lookup classes c name ≡ Some i) × R i j
      chain_found c d name j h e = elim ((chain_law classes c d).0 h) [
        | inl q ↦ (j, ap (λ x. lookup classes x name) (sym q) ∙ e, itself d name j e)
        | inr q ↦ above_found d c name j q e
      ]

  -- by one that each method has to itself, and all of equal signature
  module _ (R : MethodId → MethodId → Type 0) (itself : (i : MethodId) → R i i) (through : (i j k : MethodId) → R i j → R j k → R i k) (like : (i j : MethodId) → differ same_value (signature_of signatures i) (signature_of signatures j) ≡ false → R i j) where
    pub chain_like : (c d : ℕ) (name : List ℕ) (j : MethodId) → is_among d (chain classes c) ≡ true → lookup classes d name ≡ Some j → (i : MethodId) × (lookup classes c name ≡ Some i) × R i j
    chain_like c d name j h e = chain_found R (λ b n i q. itself i) through (λ a b n i k q r s. like i k s) c d name j h e
