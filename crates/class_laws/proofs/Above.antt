-- Classes of a checked program as they are seen: conformity goes upward, and so do variables and methods.
use Rattle.std.proofs.Common.{◌≡◌, ℕ, zero, suc, ◌+◌, ◌<◌, Bool, true, false, List, [], ◌∷◌, ◌++◌, map, reverse, length, Option, Some, None, refl, sym, ap, ◌∙◌, subst, arith, inl, inr, ◌⊎◌, nat_eq}
use Rattle.std.specs.Prelude.{if◌then◌else◌, slice_get, filter}
use Rattle.std.specs.List.{range_with_len}
use Rattle.std.proofs.lemmas.Bool.{eqb-true, eq-eqb}
use Rattle.std.proofs.lemmas.List.{reverse-append, append_assoc}
use Rattle.plc_text.specs.Words.{same}
use Rattle.st_types.specs.declared.st_type.StType.{StType}
use Rattle.st_types.specs.declared.st_type.StType.TheVariants as type
use Rattle.st_tree.specs.declared.declaration.ClassDecl.{ClassDecl}
use Rattle.st_tree.specs.declared.declaration.Method.{Method}
use Rattle.st_tree.specs.declared.declaration.ProgramDecl.{ProgramDecl}
use Rattle.st_tree.specs.declared.program.Note.{Note}
use Rattle.st_tree.specs.declared.program.Program.{Program as Checked}
use Rattle.st_rules.specs.Chains.{is_among, nearest, ◌or_else◌, IsAbove, directly, further}
use Rattle.st_rules.specs.Classes.{base_of, chain, methods_in}
use Rattle.st_rules.specs.ClassRules.{lies_on_cycle}
use Rattle.st_rules.specs.Interfaces as rules
use Rattle.st_rules.proofs.Booleans.{none≢some, some-same, true≢false, false≢true, either, or-first, or-second}
use Rattle.st_rules.proofs.ClassLaws.{bases_within, chain_law, chain-base_law}
use Rattle.st_rules.proofs.InterfaceLaws.{conforms_through}
use Rattle.st_values.specs.Program.{Variable, Routine, Class, Program, class_at, chain_of, own_of, own_variables, class_variables, conforms, conforms_as, conforming, lookup, own_method, method_of, named, body_of}
use Rattle.st_values.specs.View.{those, class_of, classes_from, programs_from, program_of}
use Rattle.st_values.specs.View as view
use Rattle.st_meaning.specs.st_frame.Promise.Programs.{Above}
use Rattle.st_meaning.specs.st_frame.Promise.Programs as promise
use Rattle.accepted_texts.proofs.unfolding_laws.ListLaws.{front_get, there_below}
use Rattle.accepted_texts.proofs.unfolding_laws.ChainLaws.{class_seen}

-- ---- lists

pub among_filter : (f : ℕ → Bool) (i : ℕ) (xs : List ℕ) → is_among i (filter f xs) ≡ true → (f i ≡ true) × (is_among i xs ≡ true)
among_filter f i [] h = cc
among_filter f i (x ∷ xs) h = by (among_filter f i xs) (f x) refl h
  where
    by : (is_among i (filter f xs) ≡ true → (f i ≡ true) × (is_among i xs ≡ true)) → (b : Bool) → f x ≡ b → is_among i (if b then x ∷ filter f xs else filter f xs) ≡ true → (f i ≡ true) × (is_among i (x ∷ xs) ≡ true)
    by r true e k = elim (either (nat_eq i x) (is_among i (filter f xs)) k) [
      | inl q ↦ (ap f (eqb-true i x q) ∙ e, or-first (nat_eq i x) (is_among i xs) q)
      | inr q ↦ let t = r q in (t.0, or-second (nat_eq i x) (is_among i xs) t.1)
    ]
    by r false e k = let t = r k in (t.0, or-second (nat_eq i x) (is_among i xs) t.1)

pub filter_among : (f : ℕ → Bool) (i : ℕ) (xs : List ℕ) → f i ≡ true → is_among i xs ≡ true → is_among i (filter f xs) ≡ true
filter_among f i [] h k = cc
filter_among f i (x ∷ xs) h k = by (filter_among f i xs h) (f x) refl
  where
    by : (is_among i xs ≡ true → is_among i (filter f xs) ≡ true) → (b : Bool) → f x ≡ b → is_among i (if b then x ∷ filter f xs else filter f xs) ≡ true
    by r true e = elim (either (nat_eq i x) (is_among i xs) k) [
      | inl q ↦ or-first (nat_eq i x) (is_among i (filter f xs)) q
      | inr q ↦ or-second (nat_eq i x) (is_among i (filter f xs)) (r q)
    ]
    by r false e = elim (either (nat_eq i x) (is_among i xs) k) [
      | inl q ↦ absurd (true≢false (sym h ∙ ap f (eqb-true i x q) ∙ e))
      | inr q ↦ r q
    ]

get_below : {X : Type 0} (xs : List X) (i : ℕ) (x : X) → slice_get xs i ≡ Some x → i < length xs
get_below [] i x e = cc
get_below (y ∷ xs) zero x e = omega arith
get_below (y ∷ xs) (suc i) x e = let h = get_below xs i x e in omega (arith, h)

-- ---- what stands at a number

module _ (p : Checked) where
  abbrev Seen : Program
  Seen = program_of p

  pub record ClassAt (c : ℕ) (k : Class) : Type 0 where
    pub decl : ClassDecl Note
    pub there : slice_get p.classes c ≡ Some decl
    pub is : k ≡ class_of p.classes p.interfaces c decl

  pub record ProgramAt (c : ℕ) (k : Class) : Type 0 where
    pub chain : k.chain ≡ c ∷ []
    pub interfaces : k.interfaces ≡ []
    pub methods : k.methods ≡ []
    pub body : k.body.class ≡ Some c

  programs_at : (c i : ℕ) (ds : List (ProgramDecl Note)) (k : Class) → slice_get (programs_from c ds) i ≡ Some k → ProgramAt (c + i) k
  programs_at c i [] k e = absurd (none≢some e)
  programs_at c zero (d ∷ ds) k e =
      let q : c ≡ c + 0 = omega arith in
      let s = some-same e in
      record { chain = ap (λ (x : Class). x.chain) (sym s) ∙ ap (λ n. n ∷ []) q; interfaces = ap (λ (x : Class). x.interfaces) (sym s); methods = ap (λ (x : Class). x.methods) (sym s); body = ap (λ (x : Class). x.body.class) (sym s) ∙ ap Some q }
  programs_at c (suc i) (d ∷ ds) k e = let q : suc c + i ≡ c + suc i = omega arith in subst (λ n. ProgramAt n k) q (programs_at (suc c) i ds k e)

  all_at : (c i : ℕ) (ds : List (ClassDecl Note)) (n : ℕ) → n ≡ c + length ds → (k : Class) → slice_get (classes_from p.classes p.interfaces c ds ++ programs_from n p.programs) i ≡ Some k
      → ((d : ClassDecl Note) × (slice_get ds i ≡ Some d) × (k ≡ class_of p.classes p.interfaces (c + i) d)) ⊎ ProgramAt (c + i) k
  all_at c i [] n h k e =
      let q : n ≡ c = omega (arith, h) in
      inr (subst (λ m. ProgramAt (m + i) k) q (programs_at n i p.programs k e))
  all_at c zero (d ∷ ds) n h k e = let q : c ≡ c + 0 = omega arith in inl (d, refl, sym (some-same e) ∙ ap (λ m. class_of p.classes p.interfaces m d) q)
  all_at c (suc i) (d ∷ ds) n h k e =
      let q : suc c + i ≡ c + suc i = omega arith in
      let g : n ≡ suc c + length ds = omega (arith, h) in
      subst (λ m. ((x : ClassDecl Note) × (slice_get (d ∷ ds) (suc i) ≡ Some x) × (k ≡ class_of p.classes p.interfaces m x)) ⊎ ProgramAt m k) q (all_at (suc c) i ds n g k e)

  pub at_number : (c : ℕ) (k : Class) → class_at Seen c ≡ Some k → ClassAt c k ⊎ ProgramAt c k
  at_number c k e =
      let q : 0 + c ≡ c = omega arith in
      let l : length p.classes ≡ 0 + length p.classes = omega arith in
      elim (subst (λ m. ((x : ClassDecl Note) × (slice_get p.classes c ≡ Some x) × (k ≡ class_of p.classes p.interfaces m x)) ⊎ ProgramAt m k) q (all_at 0 c p.classes (length p.classes) l k e)) [
        | inl h ↦ inl (record { decl = h.0; there = h.1; is = h.2 })
        | inr h ↦ inr h
      ]

  -- ---- conformity

  -- a class conforms as the rules say
  pub class_conforms : (c : ℕ) (k : Class) (t : StType) → ClassAt c k → conforms_as t k ≡ true → rules.conforms p.classes p.interfaces c t ≡ true
  unfolding rules.conforms
  class_conforms c k (type.Instance d) a h = subst (λ (x : Class). is_among d x.chain ≡ true) a.is h
  class_conforms c k (type.Reference d) a h = subst (λ (x : Class). is_among d x.chain ≡ true) a.is h
  class_conforms c k (type.Interface i) a h = (among_filter (λ j. rules.conforms p.classes p.interfaces c (type.Interface j)) i (range_with_len 0 (length p.interfaces)) (subst (λ (x : Class). is_among i x.interfaces ≡ true) a.is h)).0
  class_conforms c k _ a h = cc

  -- an interface among those that there are
  abbrev pub IsThere : StType → Type 0
  IsThere (type.Interface i) = is_among i (range_with_len 0 (length p.interfaces)) ≡ true
  IsThere _ = Unit {0}

  pub interface_there : (c : ℕ) (k : Class) (t : StType) → ClassAt c k → conforms_as t k ≡ true → IsThere t
  interface_there c k (type.Interface i) a h = (among_filter (λ j. rules.conforms p.classes p.interfaces c (type.Interface j)) i (range_with_len 0 (length p.interfaces)) (subst (λ (x : Class). is_among i x.interfaces ≡ true) a.is h)).1
  interface_there c k _ a h = tt

  pub conforms_class : (c : ℕ) (k : Class) (t : StType) → ClassAt c k → IsThere t → rules.conforms p.classes p.interfaces c t ≡ true → conforms_as t k ≡ true
  unfolding rules.conforms
  conforms_class c k (type.Instance d) a q h = subst (λ (x : Class). is_among d x.chain ≡ true) (sym a.is) h
  conforms_class c k (type.Reference d) a q h = subst (λ (x : Class). is_among d x.chain ≡ true) (sym a.is) h
  conforms_class c k (type.Interface i) a q h = subst (λ (x : Class). is_among i x.interfaces ≡ true) (sym a.is) (filter_among (λ j. rules.conforms p.classes p.interfaces c (type.Interface j)) i (range_with_len 0 (length p.interfaces)) h q)
  conforms_class c k _ a q h = cc

  pub only_one : (c d : ℕ) → is_among d (c ∷ []) ≡ true → d ≡ c
  only_one c d h = elim (either (nat_eq d c) false h) [
    | inl q ↦ eqb-true d c q
    | inr q ↦ absurd (false≢true q)
  ]

  -- a class with what stands at its number
  pub there : (c : ℕ) (t : StType) → conforms Seen c t ≡ true → (k : Class) × (class_at Seen c ≡ Some k) × (conforms_as t k ≡ true)
  unfolding conforms
  there c t h = by (class_at Seen c) h
    where
      by : (o : Option Class) → conforming t o ≡ true → (k : Class) × (o ≡ Some k) × (conforms_as t k ≡ true)
      by None q = cc
      by (Some k) q = (k, refl, q)

  pub back : (c : ℕ) (k : Class) (t : StType) → class_at Seen c ≡ Some k → conforms_as t k ≡ true → conforms Seen c t ≡ true
  unfolding conforms
  back c k t e h = ap (conforming t) e ∙ h

  -- what the chain of a class holds is a class
  above_within : (d c : ℕ) → IsAbove (base_of p.classes) d c → d < length p.classes
  above_within _ _ (directly c b e) = ((bases_within p.classes).within c b e).1
  above_within _ _ (further c b d e r) = above_within d b r

  class_there : (d : ℕ) (j : Class) → d < length p.classes → class_at Seen d ≡ Some j → ClassAt d j
  class_there d j h e = let t = there_below p.classes d h in record { decl = t.item; there = t.there; is = some-same (sym e ∙ class_seen p d t.item t.there) }

  pub chain_class : (c d : ℕ) (k j : Class) → class_at Seen c ≡ Some k → ClassAt c k → class_at Seen d ≡ Some j → is_among d k.chain ≡ true → ClassAt d j
  chain_class c d k j f a e h = elim ((chain_law p.classes c d).0 (subst (λ (x : Class). is_among d x.chain ≡ true) a.is h)) [
    | inl q ↦ let w : k ≡ j = some-same (sym f ∙ (ap (class_at Seen) (sym q) ∙ e)) in subst (λ m. ClassAt m j) (sym q) (subst (ClassAt c) w a)
    | inr q ↦ class_there d j (above_within d c q) e
  ]

  pub upward : (c d : ℕ) (t : StType) → conforms Seen c (type.Instance d) ≡ true → conforms Seen d t ≡ true → conforms Seen c t ≡ true
  upward c d t h g =
      let x = there c (type.Instance d) h in
      let y = there d t g in
      elim (at_number c x.0 x.1) [
        | inr a ↦ let e = only_one c d (subst (λ l. is_among d l ≡ true) a.chain x.2) in subst (λ m. conforms Seen m t ≡ true) e g
        | inl a ↦
            let b = chain_class c d x.0 y.0 x.1 a y.1 x.2 in
            let q = conforms_through p.interfaces p.classes c d t (class_conforms c x.0 (type.Instance d) a x.2) (class_conforms d y.0 t b y.2) in
            back c x.0 t x.1 (conforms_class c x.0 t a (interface_there d y.0 t b y.2) q)
      ]

  -- ---- methods

  found_nearest : {X : Type 0} (has : ℕ → Option X) (cs : List ℕ) (x : X) → nearest has cs ≡ Some x → (d : ℕ) × (is_among d cs ≡ true) × (has d ≡ Some x)
  found_nearest has [] x h = absurd (none≢some h)
  found_nearest has (c ∷ cs) x h = by (has c) refl (found_nearest has cs x) h
    where
      by : (o : Option _) → has c ≡ o → (nearest has cs ≡ Some x → (d : ℕ) × (is_among d cs ≡ true) × (has d ≡ Some x)) → (o or_else nearest has cs) ≡ Some x → (d : ℕ) × (is_among d (c ∷ cs) ≡ true) × (has d ≡ Some x)
      by (Some y) e r q = (c, or-first (nat_eq c c) (is_among c cs) (eq-eqb c c refl), e ∙ q)
      by None e r q = let t = r q in (t.0, or-second (nat_eq t.0 c) (is_among t.0 cs) t.1, t.2)

  own_class : (d : ℕ) (ms : List (Method Note)) (name : List ℕ) (r : Routine) → named (map (view.method_of d) ms) name ≡ Some r → r.class ≡ Some d
  own_class d [] name r h = absurd (none≢some h)
  own_class d (m ∷ ms) name r h = by (own_class d ms name r) (same m.name.text name) h
    where
      by : (named (map (view.method_of d) ms) name ≡ Some r → r.class ≡ Some d) → (b : Bool) → (if b then Some (view.method_of d m) else named (map (view.method_of d) ms) name) ≡ Some r → r.class ≡ Some d
      by k true q = ap (λ (x : Routine). x.class) (sym (some-same q))
      by k false q = k q

  pub own_of_class : (d : ℕ) (name : List ℕ) (r : Routine) → own_method Seen name d ≡ Some r → r.class ≡ Some d
  own_of_class d name r h = by (class_at Seen d) refl h
    where
      by : (o : Option Class) → class_at Seen d ≡ o → method_of o name ≡ Some r → r.class ≡ Some d
      by None e q = absurd (none≢some q)
      by (Some k) e q = elim (at_number d k e) [
        | inl a ↦ own_class d (methods_in a.decl.members) name r (subst (λ (x : Class). named x.methods name ≡ Some r) a.is q)
        | inr a ↦ absurd (none≢some (sym (ap (λ ms. named ms name) a.methods) ∙ q))
      ]

  above_of : (c : ℕ) (k : Class) (d : ℕ) (o : Option ℕ) → class_at Seen c ≡ Some k → is_among d k.chain ≡ true → o ≡ Some d → Above Seen c o
  above_of c k d o e h q = subst (Above Seen c) (sym q) (back c k (type.Instance d) e h)

  chain_at : (c d : ℕ) → is_among d (chain_of (class_at Seen c)) ≡ true → (k : Class) × (class_at Seen c ≡ Some k) × (is_among d k.chain ≡ true)
  chain_at c d h = by (class_at Seen c) h
    where
      by : (o : Option Class) → is_among d (chain_of o) ≡ true → (k : Class) × (o ≡ Some k) × (is_among d k.chain ≡ true)
      by None q = absurd (false≢true q)
      by (Some k) q = (k, refl, q)

  pub methods_above : (c : ℕ) (name : List ℕ) (r : Routine) → lookup Seen c name ≡ Some r → Above Seen c r.class
  unfolding lookup
  methods_above c name r h =
      let d = found_nearest (own_method Seen name) (chain_of (class_at Seen c)) r h in
      let k = chain_at c d.0 d.1 in
      above_of c k.0 d.0 r.class k.1 k.2 (own_of_class d.0 name r d.2)

  pub bodies_own : (c : ℕ) (r : Routine) → body_of Seen c ≡ Some r → r.class ≡ Some c
  bodies_own c r h = by (class_at Seen c) refl h
    where
      by : (o : Option Class) → class_at Seen c ≡ o → Rattle.st_values.specs.Program.body_in o ≡ Some r → r.class ≡ Some c
      by None e q = cc
      by (Some k) e q = elim (at_number c k e) [
        | inl a ↦ ap (λ (x : Routine). x.class) (sym (some-same q)) ∙ ap (λ (x : Class). x.body.class) a.is
        | inr a ↦ ap (λ (x : Routine). x.class) (sym (some-same q)) ∙ a.body
      ]

  -- ---- variables

  -- the chain of a base ends that of a class which does not lie on a cycle
  abbrev pub NoCycle : Type 0
  NoCycle = (c : ℕ) → lies_on_cycle p.classes c ≡ false

  own_append : (cs ds : List ℕ) → own_variables Seen (cs ++ ds) ≡ own_variables Seen cs ++ own_variables Seen ds
  own_append [] ds = refl
  own_append (c ∷ cs) ds = ap (λ vs. own_of (class_at Seen c) ++ vs) (own_append cs ds) ∙ sym (append_assoc (own_of (class_at Seen c)) (own_variables Seen cs) (own_variables Seen ds))

  pub record EndsWith (cs ds : List ℕ) : Type 0 where
    pub front : List ℕ
    pub is : cs ≡ front ++ ds

  onward : (c b d : ℕ) → chain p.classes c ≡ c ∷ chain p.classes b → EndsWith (chain p.classes b) (chain p.classes d) → EndsWith (chain p.classes c) (chain p.classes d)
  onward c b d e h = record { front = c ∷ h.front; is = e ∙ ap (λ l. c ∷ l) h.is }

  above_ends : NoCycle → (d c : ℕ) → IsAbove (base_of p.classes) d c → EndsWith (chain p.classes c) (chain p.classes d)
  above_ends free _ _ (directly c b e) = onward c b b (chain-base_law p.classes c b e (free c)) (record { front = []; is = refl })
  above_ends free _ _ (further c b d e r) = onward c b d (chain-base_law p.classes c b e (free c)) (above_ends free d b r)

  pub chain_ends : NoCycle → (c d : ℕ) → is_among d (chain p.classes c) ≡ true → EndsWith (chain p.classes c) (chain p.classes d)
  chain_ends free c d h = elim ((chain_law p.classes c d).0 h) [
    | inl q ↦ record { front = []; is = ap (chain p.classes) (sym q) }
    | inr q ↦ above_ends free d c q
  ]

  of_chain : (c : ℕ) (k : Class) → class_at Seen c ≡ Some k → ClassAt c k → chain_of (class_at Seen c) ≡ chain p.classes c
  of_chain c k e a = ap chain_of e ∙ ap (λ (x : Class). x.chain) a.is

  variables_front : (cs ds : List ℕ) → EndsWith cs ds → (k : ℕ) (v : Variable) → slice_get (own_variables Seen (reverse ds)) k ≡ Some v → slice_get (own_variables Seen (reverse cs)) k ≡ Some v
  variables_front cs ds h k v e =
      subst (λ l. slice_get (own_variables Seen (reverse l)) k ≡ Some v) (sym h.is)
      (subst (λ l. slice_get (own_variables Seen l) k ≡ Some v) (sym (reverse-append h.front ds))
      (subst (λ l. slice_get l k ≡ Some v) (sym (own_append (reverse ds) (reverse h.front))) (front_get (own_variables Seen (reverse ds)) (own_variables Seen (reverse h.front)) k v e)))

  pub variables_above : NoCycle → (c d k : ℕ) (v : Variable) → conforms Seen c (type.Instance d) ≡ true → slice_get (class_variables Seen d) k ≡ Some v → slice_get (class_variables Seen c) k ≡ Some v
  unfolding class_variables
  variables_above free c d k v h e =
      let x = there c (type.Instance d) h in
      elim (at_number c x.0 x.1) [
        | inr a ↦ let q = only_one c d (subst (λ l. is_among d l ≡ true) a.chain x.2) in subst (λ m. slice_get (own_variables Seen (reverse (chain_of (class_at Seen m)))) k ≡ Some v) q e
        | inl a ↦ by x a (class_at Seen d) refl e
      ]
    where
      by : (x : (j : Class) × (class_at Seen c ≡ Some j) × (conforms_as (type.Instance d) j ≡ true)) → ClassAt c x.0 → (o : Option Class) → class_at Seen d ≡ o → slice_get (own_variables Seen (reverse (chain_of o))) k ≡ Some v → slice_get (own_variables Seen (reverse (chain_of (class_at Seen c)))) k ≡ Some v
      by x a None f g = absurd (none≢some g)
      by x a (Some j) f g =
          let b = chain_class c d x.0 j x.1 a f x.2 in
          let r = chain_ends free c d (subst (λ (y : Class). is_among d y.chain ≡ true) a.is x.2) in
          subst (λ l. slice_get (own_variables Seen (reverse l)) k ≡ Some v) (sym (of_chain c x.0 x.1 a))
          (variables_front (chain p.classes c) (chain p.classes d) r k v (subst (λ (y : Class). slice_get (own_variables Seen (reverse y.chain)) k ≡ Some v) b.is g))

  -- ---- chains

  seen_chain : (d : ℕ) (x : ClassDecl Note) → slice_get p.classes d ≡ Some x → chain_of (class_at Seen d) ≡ chain p.classes d
  seen_chain d x e = ap chain_of (class_seen p d x e)

  pub chains : NoCycle → (c d : ℕ) → conforms Seen c (type.Instance d) ≡ true → promise.EndsWith Seen c d
  chains free c d h =
      let x = there c (type.Instance d) h in
      elim (at_number c x.0 x.1) [
        | inr a ↦ let q = only_one c d (subst (λ l. is_among d l ≡ true) a.chain x.2) in subst (λ m. promise.EndsWith Seen c m) (sym q) ([], refl)
        | inl a ↦
            let h = subst (λ (y : Class). is_among d y.chain ≡ true) a.is x.2 in
            let r = chain_ends free c d h in
            elim ((chain_law p.classes c d).0 h) [
              | inl q ↦ subst (λ m. promise.EndsWith Seen c m) (sym q) ([], refl)
              | inr q ↦ let t = there_below p.classes d (above_within d c q) in (r.front, of_chain c x.0 x.1 a ∙ (r.is ∙ ap (λ l. r.front ++ l) (sym (seen_chain d t.item t.there))))
            ]
      ]

  pub bases : (c d : ℕ) → is_among d (chain_of (class_at Seen c)) ≡ true → d < length Seen.classes
  bases c d h =
      let x = chain_at c d h in
      let here = get_below Seen.classes c x.0 x.1 in
      elim (at_number c x.0 x.1) [
        | inr a ↦ let q = only_one c d (subst (λ l. is_among d l ≡ true) a.chain x.2) in subst (λ m. m < length Seen.classes) (sym q) here
        | inl a ↦ elim ((chain_law p.classes c d).0 (subst (λ (y : Class). is_among d y.chain ≡ true) a.is x.2)) [
          | inl q ↦ subst (λ m. m < length Seen.classes) (sym q) here
          | inr q ↦ let t = there_below p.classes d (above_within d c q) in get_below Seen.classes d (class_of p.classes p.interfaces d t.item) (class_seen p d t.item t.there)
        ]
      ]
