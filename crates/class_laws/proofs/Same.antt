-- A unit and its checked program have the same look-ups: the same methods are found, and the same conforms.
use Rattle.std.proofs.Common.{◌≡◌, ℕ, zero, suc, ◌+◌, Bool, List, [], ◌∷◌, map, length, Option, Some, None, refl, ap, ◌∙◌, nat_eq}
use Rattle.std.specs.Prelude.{◌&&◌, ◌||◌, if◌then◌else◌, option_map, option_and_then, slice_get, unwrap_or}
use Rattle.std.specs.Option.{is_some}
use Rattle.std.specs.List.{list_any, cons_option}
use Rattle.st_types.specs.declared.st_type.StType.{StType}
use Rattle.st_types.specs.declared.st_type.StType.TheVariants as type
use Rattle.st_tree.specs.declared.declaration.ClassDecl.{ClassDecl}
use Rattle.st_tree.specs.declared.declaration.InterfaceDecl.{InterfaceDecl}
use Rattle.st_tree.specs.declared.declaration.Member.{Member}
use Rattle.st_tree.specs.declared.declaration.Member.TheVariants as member
use Rattle.st_tree.specs.declared.declaration.Method.{Method}
use Rattle.st_tree.specs.declared.declaration.Prototype.{Prototype}
use Rattle.st_tree.specs.declared.name.Used.{Used}
use Rattle.st_tree.specs.declared.program.Note.{Note}
use Rattle.st_tree.specs.declared.program.Program.{Program}
use Rattle.st_tree.specs.declared.unit.Decl.{Decl}
use Rattle.st_rules.specs.Chains.{nearest, ◌or_else◌, leads_within}
use Rattle.st_rules.specs.Classes.{classes_in, methods_in, method_names, method_id, chain, own_method, lookup}
use Rattle.st_rules.specs.Interfaces.{interfaces_in, interface_named, interfaces_named, extended, extends, implemented, implements_itself, conforms, prototype_names, prototype_id, own_prototype, declares, has_prototype, first_with, prototype_within, interface_lookup}
use Rattle.st_rules.specs.Kinds.{converts, is_assignable, narrower_instance, is_bindable}
use Rattle.st_rules.specs.Named.{first_place}
use Rattle.st_rules.specs.Numbered.{any_numbered}
use Rattle.st_rules.specs.Types.{same_type}
use Rattle.st_unit_rules.specs.Checked.{Each, IfThere, TypedUsed, TypedMethod, TypedMember, TypedClass, TypedPrototype, TypedInterface, interface_meant, IsChecked}
use Rattle.accepted_texts.proofs.unfolding_laws.ListLaws.{each_get, each_long, from_get}
use Rattle.accepted_texts.proofs.unfolding_laws.ChainLaws.{chain_same}

-- ---- lists

pub texts_same : {A B : Type 0} (R : A → B → Type 0) (f : A → List ℕ) (g : B → List ℕ) → ((a : A) (b : B) → R a b → g b ≡ f a) → (xs : List A) (ys : List B) → Each R xs ys → map g ys ≡ map f xs
texts_same R f g h [] [] e = refl
texts_same R f g h [] (y ∷ ys) e = absurd e
texts_same R f g h (x ∷ xs) [] e = absurd e
texts_same R f g h (x ∷ xs) (y ∷ ys) e = ap (λ t. t ∷ map g ys) (h x y e.0) ∙ ap (λ ts. f x ∷ ts) (texts_same R f g h xs ys e.1)

any_same : (t u : ℕ → Bool) → ((k : ℕ) → t k ≡ u k) → (ks : List ℕ) → list_any t ks ≡ list_any u ks
any_same t u h [] = refl
any_same t u h (k ∷ ks) = ap (λ b. b || list_any t ks) (h k) ∙ ap (λ b. u k || b) (any_same t u h ks)

nearest_same : {X : Type 0} (f g : ℕ → Option X) → ((k : ℕ) → f k ≡ g k) → (ks : List ℕ) → nearest f ks ≡ nearest g ks
nearest_same f g h [] = refl
nearest_same f g h (k ∷ ks) = ap (λ o. o or_else nearest f ks) (h k) ∙ ap (λ o. g k or_else o) (nearest_same f g h ks)

leads_same : (f g : ℕ → List ℕ) → ((k : ℕ) → f k ≡ g k) → (n i j : ℕ) → leads_within f n i j ≡ leads_within g n i j
leads_same f g h zero i j = refl
leads_same f g h (suc n) i j =
    ap (λ ks. nat_eq i j || list_any (λ k. leads_within f n k j) ks) (h i)
    ∙ ap (λ b. nat_eq i j || b) (any_same (λ k. leads_within f n k j) (λ k. leads_within g n k j) (λ k. leads_same f g h n k j) (g i))

first_same : (t u : ℕ → Bool) → ((k : ℕ) → t k ≡ u k) → (ks : List ℕ) → first_with t ks ≡ first_with u ks
first_same t u h [] = refl
first_same t u h (k ∷ ks) = ap (λ b. if b then Some k else first_with t ks) (h k) ∙ ap (λ o. if u k then Some k else o) (first_same t u h ks)

numbered_same : {A B : Type 0} (R : A → B → Type 0) (t : ℕ → A → Bool) (u : ℕ → B → Bool) → ((k : ℕ) (a : A) (b : B) → R a b → u k b ≡ t k a) → (n : ℕ) (xs : List A) (ys : List B) → Each R xs ys → any_numbered u n ys ≡ any_numbered t n xs
numbered_same R t u h n [] [] e = refl
numbered_same R t u h n [] (y ∷ ys) e = absurd e
numbered_same R t u h n (x ∷ xs) [] e = absurd e
numbered_same R t u h n (x ∷ xs) (y ∷ ys) e = ap (λ b. b || any_numbered u (suc n) ys) (h n x y e.0) ∙ ap (λ b. t n x || b) (numbered_same R t u h (suc n) xs ys e.1)

module _ (decls : List (Decl ℕ)) (p : Program) (checked : IsChecked decls p) where
  abbrev xs : List (ClassDecl ℕ)
  xs = classes_in decls

  abbrev is : List (InterfaceDecl ℕ)
  is = interfaces_in decls

  -- ---- methods

  pub methods_each : (c : ℕ) (ms : List (Member ℕ)) (ns : List (Member Note)) → Each (TypedMember decls c) ms ns → Each (TypedMethod decls c) (methods_in ms) (methods_in ns)
  methods_each c [] [] h = tt
  methods_each c [] (y ∷ ns) h = absurd h
  methods_each c (x ∷ ms) [] h = absurd h
  methods_each c (member.Section x ∷ ms) (member.Section y ∷ ns) h = methods_each c ms ns h.1
  methods_each c (member.Method x ∷ ms) (member.Method y ∷ ns) h = (h.0, methods_each c ms ns h.1)
  methods_each c (member.Section x ∷ ms) (member.Method y ∷ ns) h = absurd h.0
  methods_each c (member.Method x ∷ ms) (member.Section y ∷ ns) h = absurd h.0

  names_same : (c : ℕ) (d : ClassDecl ℕ) (e : ClassDecl Note) → TypedClass decls c d e → method_names e ≡ method_names d
  names_same c d e h =
      texts_same (TypedMethod decls c) (λ (m : Method ℕ). m.name.text) (λ (m : Method Note). m.name.text) (λ a b q. ap (λ n. n.text) q.name) (methods_in d.members) (methods_in e.members) (methods_each c d.members e.members h.members)

  own_in : (n c : ℕ) (name : List ℕ) (o : Option (ClassDecl ℕ)) (q : Option (ClassDecl Note)) → IfThere (TypedClass decls n) o q
      → option_map (method_id c) (option_and_then (λ (d : ClassDecl Note). first_place name (method_names d)) q) ≡ option_map (method_id c) (option_and_then (λ (d : ClassDecl ℕ). first_place name (method_names d)) o)
  own_in n c name None None h = refl
  own_in n c name None (Some e) h = absurd h
  own_in n c name (Some d) None h = absurd h
  own_in n c name (Some d) (Some e) h = ap (λ ts. option_map (method_id c) (first_place name ts)) (names_same n d e h)

  own_same : (name : List ℕ) (c : ℕ) → own_method p.classes name c ≡ own_method xs name c
  own_same name c = own_in (0 + c) c name (slice_get xs c) (slice_get p.classes c) (from_get (TypedClass decls) 0 xs p.classes c checked.classes)

  pub lookup_same : (c : ℕ) (name : List ℕ) → lookup p.classes c name ≡ lookup xs c name
  unfolding lookup
  lookup_same c name = ap (nearest (own_method p.classes name)) (chain_same decls xs p.classes checked.classes c) ∙ nearest_same (own_method p.classes name) (own_method xs name) (own_same name) (chain xs c)

  -- ---- interfaces

  interface_names : map (λ (d : InterfaceDecl Note). d.name.text) p.interfaces ≡ map (λ (d : InterfaceDecl ℕ). d.name.text) is
  interface_names = texts_same (TypedInterface decls) (λ (d : InterfaceDecl ℕ). d.name.text) (λ (d : InterfaceDecl Note). d.name.text) (λ a b h. ap (λ n. n.text) h.name) is p.interfaces checked.interfaces

  used_same : (us : List (Used ℕ)) (ws : List (Used Note)) → Each (TypedUsed (interface_meant decls)) us ws → interfaces_named p.interfaces ws ≡ interfaces_named is us
  used_same [] [] h = refl
  used_same [] (w ∷ ws) h = absurd h
  used_same (u ∷ us) [] h = absurd h
  used_same (u ∷ us) (w ∷ ws) h =
      ap (λ o. cons_option o (interfaces_named p.interfaces ws)) (ap (interface_named p.interfaces) (h.0).1 ∙ ap (first_place u.text) interface_names)
      ∙ ap (cons_option (interface_named is u.text)) (used_same us ws h.1)

  extended_in : (o : Option (InterfaceDecl ℕ)) (q : Option (InterfaceDecl Note)) → IfThere (TypedInterface decls) o q
      → unwrap_or (option_map (λ (d : InterfaceDecl Note). interfaces_named p.interfaces d.bases) q) [] ≡ unwrap_or (option_map (λ (d : InterfaceDecl ℕ). interfaces_named is d.bases) o) []
  extended_in None None h = refl
  extended_in None (Some e) h = absurd h
  extended_in (Some d) None h = absurd h
  extended_in (Some d) (Some e) h = used_same d.bases e.bases h.bases

  extended_same : (i : ℕ) → extended p.interfaces i ≡ extended is i
  extended_same i = extended_in (slice_get is i) (slice_get p.interfaces i) (each_get (TypedInterface decls) is p.interfaces i checked.interfaces)

  interfaces_long : length p.interfaces ≡ length is
  interfaces_long = each_long (TypedInterface decls) is p.interfaces checked.interfaces

  pub extends_same : (i j : ℕ) → extends p.interfaces i j ≡ extends is i j
  unfolding extends
  extends_same i j = ap (λ n. leads_within (extended p.interfaces) n i j) interfaces_long ∙ leads_same (extended p.interfaces) (extended is) extended_same (length is) i j

  implemented_in : (n : ℕ) (o : Option (ClassDecl ℕ)) (q : Option (ClassDecl Note)) → IfThere (TypedClass decls n) o q
      → unwrap_or (option_map (λ (d : ClassDecl Note). interfaces_named p.interfaces d.interfaces) q) [] ≡ unwrap_or (option_map (λ (d : ClassDecl ℕ). interfaces_named is d.interfaces) o) []
  implemented_in n None None h = refl
  implemented_in n None (Some e) h = absurd h
  implemented_in n (Some d) None h = absurd h
  implemented_in n (Some d) (Some e) h = used_same d.interfaces e.interfaces h.interfaces

  implemented_same : (c : ℕ) → implemented p.classes p.interfaces c ≡ implemented xs is c
  implemented_same c = implemented_in (0 + c) (slice_get xs c) (slice_get p.classes c) (from_get (TypedClass decls) 0 xs p.classes c checked.classes)

  implements_same : (i c : ℕ) → implements_itself p.classes p.interfaces i c ≡ implements_itself xs is i c
  implements_same i c =
      ap (list_any (λ j. extends p.interfaces j i)) (implemented_same c) ∙ any_same (λ j. extends p.interfaces j i) (λ j. extends is j i) (λ j. extends_same j i) (implemented xs is c)

  pub conforms_same : (c : ℕ) (t : StType) → conforms p.classes p.interfaces c t ≡ conforms xs is c t
  unfolding conforms
  conforms_same c (type.Instance d) = ap (list_any (nat_eq d)) (chain_same decls xs p.classes checked.classes c)
  conforms_same c (type.Reference d) = ap (list_any (nat_eq d)) (chain_same decls xs p.classes checked.classes c)
  conforms_same c (type.Interface i) =
      ap (list_any (implements_itself p.classes p.interfaces i)) (chain_same decls xs p.classes checked.classes c)
      ∙ any_same (implements_itself p.classes p.interfaces i) (implements_itself xs is i) (implements_same i) (chain xs c)
  conforms_same c _ = refl

  -- ---- methods of interfaces

  prototypes_same : (d : InterfaceDecl ℕ) (e : InterfaceDecl Note) → TypedInterface decls d e → prototype_names e ≡ prototype_names d
  prototypes_same d e h = texts_same (TypedPrototype decls) (λ (m : Prototype ℕ). m.name.text) (λ (m : Prototype Note). m.name.text) (λ a b q. ap (λ n. n.text) q.name) d.methods e.methods h.methods

  prototype_in : (i : ℕ) (name : List ℕ) (o : Option (InterfaceDecl ℕ)) (q : Option (InterfaceDecl Note)) → IfThere (TypedInterface decls) o q
      → option_map (prototype_id i) (option_and_then (λ (d : InterfaceDecl Note). first_place name (prototype_names d)) q) ≡ option_map (prototype_id i) (option_and_then (λ (d : InterfaceDecl ℕ). first_place name (prototype_names d)) o)
  prototype_in i name None None h = refl
  prototype_in i name None (Some e) h = absurd h
  prototype_in i name (Some d) None h = absurd h
  prototype_in i name (Some d) (Some e) h = ap (λ ts. option_map (prototype_id i) (first_place name ts)) (prototypes_same d e h)

  prototype_same : (name : List ℕ) (i : ℕ) → own_prototype p.interfaces name i ≡ own_prototype is name i
  prototype_same name i = prototype_in i name (slice_get is i) (slice_get p.interfaces i) (each_get (TypedInterface decls) is p.interfaces i checked.interfaces)

  has_same : (name : List ℕ) (i : ℕ) → has_prototype p.interfaces name i ≡ has_prototype is name i
  has_same name i =
      numbered_same (TypedInterface decls) (λ j (d : InterfaceDecl ℕ). extends is i j && declares name d) (λ j (d : InterfaceDecl Note). extends p.interfaces i j && declares name d)
      (λ j a b h. ap (λ z. z && declares name b) (extends_same i j) ∙ ap (λ ts. extends is i j && is_some (first_place name ts)) (prototypes_same a b h)) 0 is p.interfaces checked.interfaces

  within_same : (name : List ℕ) (n i : ℕ) → prototype_within p.interfaces name n i ≡ prototype_within is name n i
  within_same name zero i = refl
  within_same name (suc n) i =
      ap (λ o. o or_else option_and_then (prototype_within p.interfaces name n) (first_with (has_prototype p.interfaces name) (extended p.interfaces i))) (prototype_same name i)
      ∙ ap (λ o. own_prototype is name i or_else o)
      (ap (λ ks. option_and_then (prototype_within p.interfaces name n) (first_with (has_prototype p.interfaces name) ks)) (extended_same i)
      ∙ (ap (option_and_then (prototype_within p.interfaces name n)) (first_same (has_prototype p.interfaces name) (has_prototype is name) (has_same name) (extended is i))
      ∙ on (λ j. within_same name n j) (first_with (has_prototype is name) (extended is i))))
    where
      on : ((j : ℕ) → prototype_within p.interfaces name n j ≡ prototype_within is name n j) → (o : Option ℕ) → option_and_then (prototype_within p.interfaces name n) o ≡ option_and_then (prototype_within is name n) o
      on h None = refl
      on h (Some j) = h j

  pub interface_lookup_same : (i : ℕ) (name : List ℕ) → interface_lookup p.interfaces i name ≡ interface_lookup is i name
  unfolding interface_lookup
  interface_lookup_same i name = ap (λ n. prototype_within p.interfaces name n i) interfaces_long ∙ within_same name (length is) i

  -- ---- what may be assigned, and bound

  converts_same : (t u : StType) → converts p.classes p.interfaces t u ≡ converts xs is t u
  converts_same (type.Elementary a) (type.Elementary b) = refl
  converts_same (type.Reference c) (type.Reference d) = conforms_same c (type.Reference d)
  converts_same (type.Reference c) (type.Interface i) = conforms_same c (type.Interface i)
  converts_same (type.Instance c) (type.Interface i) = conforms_same c (type.Interface i)
  converts_same (type.Interface j) (type.Interface i) = extends_same j i
  converts_same _ _ = refl

  pub assignable_same : (t u : StType) → is_assignable p.classes p.interfaces t u ≡ is_assignable xs is t u
  unfolding is_assignable
  assignable_same t u = ap (λ b. same_type t u || b) (converts_same t u)

  narrower_same : (t u : StType) → narrower_instance p.classes p.interfaces t u ≡ narrower_instance xs is t u
  narrower_same (type.Instance c) (type.Instance d) = conforms_same c (type.Instance d)
  narrower_same _ _ = refl

  pub bindable_same : (t u : StType) → is_bindable p.classes p.interfaces t u ≡ is_bindable xs is t u
  unfolding is_bindable
  bindable_same t u = ap (λ b. same_type t u || b) (narrower_same t u)
