-- The method that a name means in a class of a unit is the one that is found in its checked program; so with a method of an interface.
use Rattle.std.proofs.Common.{◌≡◌, ◌<◌, ℕ, zero, suc, ◌+◌, Bool, true, false, List, [], ◌∷◌, ◌++◌, map, length, Option, Some, None, refl, sym, ap, ◌∙◌, subst, inl, inr, arith}
use Rattle.std.specs.Prelude.{if◌then◌else◌, filter_map, flat_map, option_map, option_and_then, slice_get}
use Rattle.std.specs.List.{list_any, cons_option}
use Rattle.std.proofs.lemmas.Slice.Eq.{bytes_eq-Decides}
use Rattle.plc_text.specs.Words.{same}
use Rattle.st_tree.specs.declared.declaration.ClassDecl.{ClassDecl}
use Rattle.st_tree.specs.declared.declaration.InterfaceDecl.{InterfaceDecl}
use Rattle.st_tree.specs.declared.declaration.Method.{Method}
use Rattle.st_tree.specs.declared.declaration.Prototype.{Prototype}
use Rattle.st_tree.specs.declared.program.Note.{Note}
use Rattle.st_tree.specs.declared.program.Program.{Program as Checked}
use Rattle.st_tree.specs.declared.unit.Decl.{Decl}
use Rattle.st_rules.specs.declared.ids.MethodId.{MethodId}
use Rattle.st_rules.specs.declared.ids.PrototypeId.{PrototypeId}
use Rattle.st_rules.specs.Chains.{nearest, ◌or_else◌}
use Rattle.st_rules.specs.Classes.{classes_in, methods_in, method_names, method_id, own_method, method_at, chain, lookup}
use Rattle.st_rules.specs.Interfaces.{interfaces_in, prototype_names, prototype_id, own_prototype, prototype_within, first_with, has_prototype, extended, interface_lookup, prototype_at}
use Rattle.st_rules.specs.Named.{first_place}
use Rattle.st_rules.proofs.Booleans.{none≢some, some-same, true≢false, false≢true, or-first, or-second, either}
use Rattle.st_unit_rules.specs.Checked.{Each, TypedMethod, TypedClass, TypedPrototype, TypedInterface, IsChecked}
use Rattle.st_values.specs.Program as seen
use Rattle.st_values.specs.Program.{Routine, Signature, class_at, named}
use Rattle.st_values.specs.View.{method_of, signature_of, meant_in, interfaces_from, program_of}
use Rattle.st_values.proofs.ShapeLaws.{mapped_some}
use Rattle.st_meaning.specs.st_frame.Use.{signed, signatures_at}
use Rattle.resolution_order.specs.told_laws.ToldLaws.{Every}
use Rattle.accepted_texts.proofs.unfolding_laws.ListLaws.{There, there_below, if_there, if_found, each_get}
use Rattle.accepted_texts.proofs.unfolding_laws.ChainLaws.{chain_there, chain_same, class_seen}
use Rattle.class_laws.proofs.Same.{methods_each, interface_lookup_same}
use Rattle.name_laws.proofs.Members.{class_typed}

pub same_is : (a b : List ℕ) → same a b ≡ true → a ≡ b
same_is a b h = (bytes_eq-Decides a b).0 h

pub is_same : (a b : List ℕ) → a ≡ b → same a b ≡ true
is_same a b h = (bytes_eq-Decides a b).1 h

-- ---- the methods of a class

module _ (decls : List (Decl ℕ)) (p : Checked) (checked : IsChecked decls p) where
  -- a method of the text, with what the checked program shows of it
  pub record MethodShown (id : MethodId) : Type 0 where
    pub class : ClassDecl ℕ
    pub method : Method ℕ
    pub shown : Method Note
    pub class_there : slice_get (classes_in decls) id.class ≡ Some class
    pub there : slice_get (methods_in class.members) id.method ≡ Some method
    pub shown_there : method_at p.classes id ≡ Some shown
    pub typed : TypedMethod decls id.class method shown

  record Among (c : ℕ) (name : List ℕ) (ms : List (Method ℕ)) (ns : List (Method Note)) (k : ℕ) : Type 0 where
    method : Method ℕ
    shown : Method Note
    there : slice_get ms k ≡ Some method
    shown_place : slice_get ns k ≡ Some shown
    typed : TypedMethod decls c method shown
    found : named (map (method_of c) ns) name ≡ Some (method_of c shown)

  named_seen : (c : ℕ) (name : List ℕ) (ms : List (Method ℕ)) (ns : List (Method Note)) → Each (TypedMethod decls c) ms ns → (k : ℕ) → first_place name (map (λ (m : Method ℕ). m.name.text) ms) ≡ Some k → Among c name ms ns k
  named_seen c name [] ns h k e = absurd (none≢some e)
  named_seen c name (m ∷ ms) [] h k e = absurd h
  named_seen c name (m ∷ ms) (n ∷ ns) h k e = by (same m.name.text name) refl (λ j f. named_seen c name ms ns h.1 j f) e
    where
      test : (b : Bool) → same m.name.text name ≡ b → same n.name.text name ≡ b
      test b q = ap (λ x. same x.text name) (h.0).name ∙ q

      by : (b : Bool) → same m.name.text name ≡ b → ((j : ℕ) → first_place name (map (λ (x : Method ℕ). x.name.text) ms) ≡ Some j → Among c name ms ns j)
          → (if b then Some 0 else option_map suc (first_place name (map (λ (x : Method ℕ). x.name.text) ms))) ≡ Some k → Among c name (m ∷ ms) (n ∷ ns) k
      by true q later f =
          record { method = m; shown = n; there = ap (slice_get (m ∷ ms)) (sym (some-same f)); shown_place = ap (slice_get (n ∷ ns)) (sym (some-same f)); typed = h.0; found = ap (λ b. if b then Some (method_of c n) else named (map (method_of c) ns) name) (test true q) }
      by false q later f =
          let j = mapped_some suc (first_place name (map (λ (x : Method ℕ). x.name.text) ms)) k f in
          let r = later j.0 j.1 in
          record {
            method = r.method;
            shown = r.shown;
            there = ap (slice_get (m ∷ ms)) (sym j.2) ∙ r.there;
            shown_place = ap (slice_get (n ∷ ns)) (sym j.2) ∙ r.shown_place;
            typed = r.typed;
            found = ap (λ b. if b then Some (method_of c n) else named (map (method_of c) ns) name) (test false q) ∙ r.found;
          }

  named_none : (c : ℕ) (name : List ℕ) (ms : List (Method ℕ)) (ns : List (Method Note)) → Each (TypedMethod decls c) ms ns → first_place name (map (λ (m : Method ℕ). m.name.text) ms) ≡ None → named (map (method_of c) ns) name ≡ None
  named_none c name [] [] h e = refl
  named_none c name [] (n ∷ ns) h e = absurd h
  named_none c name (m ∷ ms) [] h e = absurd h
  named_none c name (m ∷ ms) (n ∷ ns) h e = by (same m.name.text name) refl (named_none c name ms ns h.1) e
    where
      none_mapped : (o : Option ℕ) → option_map suc o ≡ None → o ≡ None
      none_mapped None f = refl
      none_mapped (Some k) f = absurd (none≢some (sym f))

      by : (b : Bool) → same m.name.text name ≡ b → (first_place name (map (λ (x : Method ℕ). x.name.text) ms) ≡ None → named (map (method_of c) ns) name ≡ None)
          → (if b then Some 0 else option_map suc (first_place name (map (λ (x : Method ℕ). x.name.text) ms))) ≡ None → named (map (method_of c) (n ∷ ns)) name ≡ None
      by true q later f = absurd (none≢some (sym f))
      by false q later f =
          ap (λ b. if b then Some (method_of c n) else named (map (method_of c) ns) name) (ap (λ x. same x.text name) (h.0).name ∙ q) ∙ later (none_mapped (first_place name (map (λ (x : Method ℕ). x.name.text) ms)) f)

  -- ---- what a class declares itself

  abbrev Own : List ℕ → ℕ → Option Routine
  Own name c = seen.own_method (program_of p) name c

  own_shown : (c : ℕ) (d : ClassDecl ℕ) (y : ClassDecl Note) → slice_get p.classes c ≡ Some y → TypedClass decls c d y → (name : List ℕ) → Own name c ≡ named (map (method_of c) (methods_in y.members)) name
  own_shown c d y e t name = ap (λ o. seen.method_of o name) (class_seen p c y e)

  pub record OwnFound (c : ℕ) (name : List ℕ) (id : MethodId) : Type 0 where
    pub method : MethodShown id
    pub is : Own name c ≡ Some (method_of id.class method.shown)

  pub own_found : (c : ℕ) (name : List ℕ) (id : MethodId) → There (ClassDecl ℕ) (classes_in decls) c → own_method (classes_in decls) name c ≡ Some id → OwnFound c name id
  own_found c name id t e =
      let d = t.item in
      let y = class_typed decls p checked c d t.there in
      let f : option_map (method_id c) (first_place name (method_names d)) ≡ Some id = sym (ap (λ o. option_map (method_id c) (option_and_then (λ (x : ClassDecl ℕ). first_place name (method_names x)) o)) t.there) ∙ e in
      let k = mapped_some (method_id c) (first_place name (method_names d)) id f in
      let a = named_seen c name (methods_in d.members) (methods_in (y.0).members) (methods_each decls p checked c d.members (y.0).members (y.2).members) k.0 k.1 in
      subst (OwnFound c name) k.2
      (record {
        method = record { class = d; method = a.method; shown = a.shown; class_there = t.there; there = a.there; shown_there = ap (option_and_then (λ (x : ClassDecl Note). slice_get (methods_in x.members) k.0)) y.1 ∙ a.shown_place; typed = a.typed };
        is = own_shown c d y.0 y.1 y.2 name ∙ a.found;
      })

  pub own_none : (c : ℕ) (name : List ℕ) → There (ClassDecl ℕ) (classes_in decls) c → own_method (classes_in decls) name c ≡ None → Own name c ≡ None
  own_none c name t e =
      let d = t.item in
      let y = class_typed decls p checked c d t.there in
      let f : option_map (method_id c) (first_place name (method_names d)) ≡ None = sym (ap (λ o. option_map (method_id c) (option_and_then (λ (x : ClassDecl ℕ). first_place name (method_names x)) o)) t.there) ∙ e in
      own_shown c d y.0 y.1 y.2 name ∙ named_none c name (methods_in d.members) (methods_in (y.0).members) (methods_each decls p checked c d.members (y.0).members (y.2).members) (none_of (first_place name (method_names d)) f)
    where
      none_of : (o : Option ℕ) → option_map (method_id c) o ≡ None → o ≡ None
      none_of None f = refl
      none_of (Some k) f = absurd (none≢some (sym f))

  -- ---- upward

  record NearFound (name : List ℕ) (cs : List ℕ) (id : MethodId) : Type 0 where
    method : MethodShown id
    is : nearest (Own name) cs ≡ Some (method_of id.class method.shown)

  nearest_found : (name : List ℕ) (cs : List ℕ) (id : MethodId) → Every (There (ClassDecl ℕ) (classes_in decls)) cs → nearest (own_method (classes_in decls) name) cs ≡ Some id → NearFound name cs id
  nearest_found name [] id h e = absurd (none≢some e)
  nearest_found name (c ∷ cs) id h e = by (own_method (classes_in decls) name c) refl (nearest_found name cs id h.1) e
    where
      by : (o : Option MethodId) → own_method (classes_in decls) name c ≡ o → (nearest (own_method (classes_in decls) name) cs ≡ Some id → NearFound name cs id) → (o or_else nearest (own_method (classes_in decls) name) cs) ≡ Some id → NearFound name (c ∷ cs) id
      by (Some j) q later f =
          let r = own_found c name id h.0 (q ∙ f) in
          record { method = r.method; is = ap (λ o. o or_else nearest (Own name) cs) r.is }
      by None q later f =
          let r = later f in
          record { method = r.method; is = ap (λ o. o or_else nearest (Own name) cs) (own_none c name h.0 q) ∙ r.is }

  pub record LookedUp (c : ℕ) (name : List ℕ) (id : MethodId) : Type 0 where
    pub method : MethodShown id
    pub is : seen.lookup (program_of p) c name ≡ Some (method_of id.class method.shown)

  pub looked_up : (c : ℕ) (name : List ℕ) (id : MethodId) → c < length (classes_in decls) → lookup (classes_in decls) c name ≡ Some id → LookedUp c name id
  unfolding lookup seen.lookup
  looked_up c name id l e =
      let t = there_below (classes_in decls) c l in
      let y = class_typed decls p checked c t.item t.there in
      let r = nearest_found name (chain (classes_in decls) c) id (chain_there (classes_in decls) c l) e in
      let q : seen.chain_of (class_at (program_of p) c) ≡ chain (classes_in decls) c = ap seen.chain_of (class_seen p c y.0 y.1) ∙ chain_same decls (classes_in decls) p.classes checked.classes c in
      record { method = r.method; is = ap (nearest (Own name)) q ∙ r.is }

  -- ---- methods of interfaces

  -- a method of an interface of the text, with what the checked program shows of it
  pub record PrototypeShown (id : PrototypeId) : Type 0 where
    pub interface : InterfaceDecl ℕ
    pub prototype : Prototype ℕ
    pub shown : Prototype Note
    pub interface_there : slice_get (interfaces_in decls) id.interface ≡ Some interface
    pub there : slice_get interface.methods id.method ≡ Some prototype
    pub typed : TypedPrototype decls prototype shown

  -- what is looked up has the name, and is declared
  record IsNamed (is : List (InterfaceDecl Note)) (name : List ℕ) (id : PrototypeId) : Type 0 where
    interface : InterfaceDecl Note
    method : Prototype Note
    interface_there : slice_get is id.interface ≡ Some interface
    there : slice_get interface.methods id.method ≡ Some method
    name_is : method.name.text ≡ name

  place_named : (name : List ℕ) (ms : List (Prototype Note)) (k : ℕ) → first_place name (map (λ (m : Prototype Note). m.name.text) ms) ≡ Some k → (m : Prototype Note) × (slice_get ms k ≡ Some m) × (m.name.text ≡ name)
  place_named name [] k e = absurd (none≢some e)
  place_named name (m ∷ ms) k e = by (same m.name.text name) refl (λ j f. place_named name ms j f) e
    where
      by : (b : Bool) → same m.name.text name ≡ b → ((j : ℕ) → first_place name (map (λ (x : Prototype Note). x.name.text) ms) ≡ Some j → (x : Prototype Note) × (slice_get ms j ≡ Some x) × (x.name.text ≡ name))
          → (if b then Some 0 else option_map suc (first_place name (map (λ (x : Prototype Note). x.name.text) ms))) ≡ Some k → (x : Prototype Note) × (slice_get (m ∷ ms) k ≡ Some x) × (x.name.text ≡ name)
      by true q later f = (m, ap (slice_get (m ∷ ms)) (sym (some-same f)), same_is m.name.text name q)
      by false q later f =
          let j = mapped_some suc (first_place name (map (λ (x : Prototype Note). x.name.text) ms)) k f in
          let r = later j.0 j.1 in
          (r.0, ap (slice_get (m ∷ ms)) (sym j.2) ∙ r.1, r.2)

  own_named : (is : List (InterfaceDecl Note)) (name : List ℕ) (i : ℕ) (id : PrototypeId) → own_prototype is name i ≡ Some id → IsNamed is name id
  own_named is name i id e = by (slice_get is i) refl e
    where
      by : (o : Option (InterfaceDecl Note)) → slice_get is i ≡ o → option_map (prototype_id i) (option_and_then (λ (d : InterfaceDecl Note). first_place name (prototype_names d)) o) ≡ Some id → IsNamed is name id
      by None q f = absurd (none≢some f)
      by (Some d) q f =
          let k = mapped_some (prototype_id i) (first_place name (prototype_names d)) id f in
          let r = place_named name d.methods k.0 k.1 in
          subst (IsNamed is name) k.2 (record { interface = d; method = r.0; interface_there = q; there = r.1; name_is = r.2 })

  within_named : (is : List (InterfaceDecl Note)) (name : List ℕ) (n i : ℕ) (id : PrototypeId) → prototype_within is name n i ≡ Some id → IsNamed is name id
  within_named is name zero i id e = absurd (none≢some e)
  within_named is name (suc n) i id e = by (own_prototype is name i) refl (first_with (has_prototype is name) (extended is i)) (λ j f. within_named is name n j id f) e
    where
      by : (o : Option PrototypeId) → own_prototype is name i ≡ o → (q : Option ℕ) → ((j : ℕ) → prototype_within is name n j ≡ Some id → IsNamed is name id) → (o or_else option_and_then (prototype_within is name n) q) ≡ Some id → IsNamed is name id
      by (Some x) r q later f = own_named is name i id (r ∙ f)
      by None r (Some j) later f = later j f
      by None r None later f = absurd (none≢some f)

  -- what a name means in the interface, among all names
  abbrev Meant : ℕ → List ℕ → Option Signature
  Meant i name = meant_in p.interfaces i name

  meant_named : (i : ℕ) (name : List ℕ) (g : Signature) → Meant i name ≡ Some g → g.name ≡ name
  unfolding interface_lookup
  meant_named i name g e =
      let m = mapped_some signature_of (option_and_then (prototype_at p.interfaces) (interface_lookup p.interfaces i name)) g e in
      by m.0 m.2 (prototype_within p.interfaces name (length p.interfaces) i) refl m.1
    where
      by : (m : Prototype Note) → signature_of m ≡ g → (o : Option PrototypeId) → prototype_within p.interfaces name (length p.interfaces) i ≡ o → option_and_then (prototype_at p.interfaces) o ≡ Some m → g.name ≡ name
      by m q None f h = absurd (none≢some h)
      by m q (Some id) f h =
          let n = within_named p.interfaces name (length p.interfaces) i id f in
          let at : prototype_at p.interfaces id ≡ Some n.method = ap (option_and_then (λ (d : InterfaceDecl Note). slice_get d.methods id.method)) n.interface_there ∙ n.there in
          ap (λ (x : Signature). x.name) (sym q) ∙ (ap (λ (x : Prototype Note). x.name.text) (some-same (sym h ∙ at)) ∙ n.name_is)

  record SignedAs (i : ℕ) (name : List ℕ) (ns : List (List ℕ)) (g : Signature) : Type 0 where
    parameters : signed (filter_map (Meant i) ns) name ≡ g.parameters
    place : ℕ
    there : slice_get (filter_map (Meant i) ns) place ≡ Some g

  signed_as : (i : ℕ) (name : List ℕ) (g : Signature) → Meant i name ≡ Some g → (ns : List (List ℕ)) → list_any (same name) ns ≡ true → SignedAs i name ns g
  signed_as i name g e [] h = absurd (false≢true h)
  signed_as i name g e (n ∷ ns) h = by (Meant i n) refl (signed_as i name g e ns)
    where
      onward : (list_any (same name) ns ≡ true → SignedAs i name ns g) → (n ≡ name → ⊥) → SignedAs i name ns g
      onward later never = elim (either (same name n) (list_any (same name) ns) h) [
        | inl q ↦ absurd (never (sym (same_is name n q)))
        | inr q ↦ later q
      ]

      put : (o : Option Signature) → Meant i n ≡ o → SignedAs i name ns g → (signed (cons_option o (filter_map (Meant i) ns)) name ≡ signed (filter_map (Meant i) ns) name) → (k : ℕ) → slice_get (cons_option o (filter_map (Meant i) ns)) k ≡ Some g → SignedAs i name (n ∷ ns) g
      put o q r a k b = record {
        parameters = ap (λ x. signed (cons_option x (filter_map (Meant i) ns)) name) q ∙ (a ∙ r.parameters);
        place = k;
        there = ap (λ x. slice_get (cons_option x (filter_map (Meant i) ns)) k) q ∙ b;
      }

      at : (x : Signature) → Meant i n ≡ Some x → (list_any (same name) ns ≡ true → SignedAs i name ns g) → (b : Bool) → same x.name name ≡ b → SignedAs i name (n ∷ ns) g
      at x q later true t =
          let w : x ≡ g = some-same (sym q ∙ (ap (Meant i) (sym (meant_named i n x q) ∙ same_is x.name name t) ∙ e)) in
          record {
            parameters = ap (λ y. signed (cons_option y (filter_map (Meant i) ns)) name) q ∙ (ap (λ b. if b then x.parameters else signed (filter_map (Meant i) ns) name) t ∙ ap (λ (y : Signature). y.parameters) w);
            place = 0;
            there = ap (λ y. slice_get (cons_option y (filter_map (Meant i) ns)) 0) q ∙ ap Some w;
          }
      at x q later false t =
          let r = onward later (λ f. true≢false (sym (is_same x.name name (meant_named i n x q ∙ f)) ∙ t)) in
          put (Some x) q r (ap (λ b. if b then x.parameters else signed (filter_map (Meant i) ns) name) t) (suc r.place) r.there

      by : (o : Option Signature) → Meant i n ≡ o → (list_any (same name) ns ≡ true → SignedAs i name ns g) → SignedAs i name (n ∷ ns) g
      by None q later = let r = onward later (λ f. none≢some (sym q ∙ (ap (Meant i) f ∙ e))) in put None q r refl r.place r.there
      by (Some x) q later = at x q later (same x.name name) refl

  name_among : (name : List ℕ) (ms : List (Prototype Note)) (k : ℕ) (m : Prototype Note) → slice_get ms k ≡ Some m → m.name.text ≡ name → list_any (same name) (map (λ (x : Prototype Note). x.name.text) ms) ≡ true
  name_among name [] k m e f = absurd (none≢some e)
  name_among name (x ∷ ms) zero m e f = or-first (same name x.name.text) (list_any (same name) (map (λ (y : Prototype Note). y.name.text) ms)) (is_same name x.name.text (sym (ap (λ (y : Prototype Note). y.name.text) (some-same e) ∙ f)))
  name_among name (x ∷ ms) (suc k) m e f = or-second (same name x.name.text) (list_any (same name) (map (λ (y : Prototype Note). y.name.text) ms)) (name_among name ms k m e f)

  among_all : (name : List ℕ) (is : List (InterfaceDecl Note)) (k : ℕ) (d : InterfaceDecl Note) → slice_get is k ≡ Some d → list_any (same name) (prototype_names d) ≡ true → list_any (same name) (flat_map prototype_names is) ≡ true
  among_all name [] k d e h = absurd (none≢some e)
  among_all name (x ∷ is) zero d e h = front (prototype_names x) (flat_map prototype_names is) (subst (λ y. list_any (same name) (prototype_names y) ≡ true) (sym (some-same e)) h)
    where
      front : (xs ys : List (List ℕ)) → list_any (same name) xs ≡ true → list_any (same name) (xs ++ ys) ≡ true
      front [] ys q = absurd (false≢true q)
      front (z ∷ xs) ys q = elim (either (same name z) (list_any (same name) xs) q) [
        | inl r ↦ or-first (same name z) (list_any (same name) (xs ++ ys)) r
        | inr r ↦ or-second (same name z) (list_any (same name) (xs ++ ys)) (front xs ys r)
      ]
  among_all name (x ∷ is) (suc k) d e h = back (prototype_names x) (flat_map prototype_names is) (among_all name is k d e h)
    where
      back : (xs ys : List (List ℕ)) → list_any (same name) ys ≡ true → list_any (same name) (xs ++ ys) ≡ true
      back [] ys q = q
      back (z ∷ xs) ys q = or-second (same name z) (list_any (same name) (xs ++ ys)) (back xs ys q)

  pub record PrototypeFound (i : ℕ) (name : List ℕ) (id : PrototypeId) : Type 0 where
    pub prototype : PrototypeShown id
    pub name_is : prototype.shown.name.text ≡ name
    pub parameters : signed (signatures_at (slice_get (program_of p).interfaces i)) name ≡ (signature_of prototype.shown).parameters
    pub place : ℕ
    pub there : slice_get (signatures_at (slice_get (program_of p).interfaces i)) place ≡ Some (signature_of prototype.shown)

  signatures_seen : (n i : ℕ) (ds : List (InterfaceDecl Note)) (d : InterfaceDecl Note) → slice_get ds i ≡ Some d → signatures_at (slice_get (interfaces_from p.interfaces n ds) i) ≡ filter_map (Meant (n + i)) (flat_map prototype_names p.interfaces)
  signatures_seen n i [] d e = absurd (none≢some e)
  signatures_seen n zero (x ∷ ds) d e = let z : n ≡ n + 0 = omega arith in ap (λ k. filter_map (Meant k) (flat_map prototype_names p.interfaces)) z
  signatures_seen n (suc i) (x ∷ ds) d e = let z : suc n + i ≡ n + suc i = omega arith in signatures_seen (suc n) i ds d e ∙ ap (λ k. filter_map (Meant k) (flat_map prototype_names p.interfaces)) z

  pub prototype_found : (i : ℕ) (name : List ℕ) (id : PrototypeId) → There (InterfaceDecl ℕ) (interfaces_in decls) i → interface_lookup (interfaces_in decls) i name ≡ Some id → PrototypeFound i name id
  unfolding interface_lookup
  prototype_found i name id t e =
      let shown_lookup : interface_lookup p.interfaces i name ≡ Some id = interface_lookup_same decls p checked i name ∙ e in
      let n = within_named p.interfaces name (length p.interfaces) i id shown_lookup in
      let d = if_found (TypedInterface decls) (slice_get (interfaces_in decls) id.interface) (slice_get p.interfaces id.interface) n.interface n.interface_there (each_get (TypedInterface decls) (interfaces_in decls) p.interfaces id.interface checked.interfaces) in
      let m = if_found (TypedPrototype decls) (slice_get (d.0).methods id.method) (slice_get (n.interface).methods id.method) n.method n.there (each_get (TypedPrototype decls) (d.0).methods (n.interface).methods id.method (d.2).methods) in
      let y = if_there (TypedInterface decls) (slice_get (interfaces_in decls) i) (slice_get p.interfaces i) t.item t.there (each_get (TypedInterface decls) (interfaces_in decls) p.interfaces i checked.interfaces) in
      let at : prototype_at p.interfaces id ≡ Some n.method = ap (option_and_then (λ (x : InterfaceDecl Note). slice_get x.methods id.method)) n.interface_there ∙ n.there in
      let meant : Meant i name ≡ Some (signature_of n.method) = ap (λ o. option_map signature_of (option_and_then (prototype_at p.interfaces) o)) shown_lookup ∙ ap (option_map signature_of) at in
      let among = among_all name p.interfaces id.interface n.interface n.interface_there (name_among name (n.interface).methods id.method n.method n.there n.name_is) in
      let r = signed_as i name (signature_of n.method) meant (flat_map prototype_names p.interfaces) among in
      let z : 0 + i ≡ i = omega arith in
      let all : signatures_at (slice_get (program_of p).interfaces i) ≡ filter_map (Meant i) (flat_map prototype_names p.interfaces) = signatures_seen 0 i p.interfaces y.0 y.1 ∙ ap (λ k. filter_map (Meant k) (flat_map prototype_names p.interfaces)) z in
      record {
        prototype = record { interface = d.0; prototype = m.0; shown = n.method; interface_there = d.1; there = m.1; typed = m.2 };
        name_is = n.name_is;
        parameters = ap (λ l. signed l name) all ∙ r.parameters;
        place = r.place;
        there = ap (λ l. slice_get l r.place) all ∙ r.there;
      }
