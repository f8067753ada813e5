-- Globals one after the other.
use Rattle.std.proofs.Common.{◌≡◌, ℕ, suc, ◌+◌, ◌-◌, ◌<◌, ◌≤◌, Bool, true, false, List, [], ◌∷◌, ◌++◌, Option, refl, sym, ap, ◌∙◌, subst, append-nil, length, get_or, take, drop, arith}
use Rattle.std.specs.Prelude.{flat_map, map}
use Rattle.std.proofs.lemmas.List.{append_assoc}
use Rattle.plc_text.specs.declared.code.Code.{Code}
use Rattle.st_tree.specs.declared.declaration.Item.{Item}
use Rattle.st_tree.specs.declared.declaration.Section.{Section}
use Rattle.st_tree.specs.declared.name.Name.{Name}
use Rattle.st_tree.specs.declared.unit.Decl.{Decl}
use Rattle.st_rules.specs.Faults.{least}
use Rattle.st_rules.proofs.ListLaws.{drop-at, drop-end, take-end}
use Rattle.st_unit_rules.specs.declared_names.Declarations.{Global, Region, region_of_global}
use Rattle.st_unit_rules.specs.declared_names.Variables.{Written, item_written}
use Rattle.st_unit_rules.specs.declaration_list.Written.{names_from, names_in_item, names_in_section, names_in_sections, written_in}
use Rattle.st_unit_rules.specs.DeclarationRules.{global_faults}
use Rattle.global_rules.specs.declared.globals.CheckedRegions.{CheckedRegions}
use Rattle.global_rules.specs.Globals.{HasRegions}
use Rattle.global_rules.specs.Sections.{Adds, AreFaults, GlobalsTo, regions_made}
use Rattle.global_rules.specs.Private.Sections.{global_with}

made_more : (gs : List Global) (g : Global) → regions_made (gs ++ g ∷ []) ≡ regions_made gs ++ region_of_global g.written
made_more [] g = append-nil (region_of_global g.written)
made_more (x ∷ xs) g = ap (λ rs. region_of_global x.written ++ rs) (made_more xs g) ∙ sym (append_assoc (region_of_global x.written) (regions_made xs) (region_of_global g.written))

module _ (decls : List (Decl ℕ)) where
  faults_more : (start : List Region) (gs : List Global) (fs : List (Option (Code × ℕ))) (g : Global) (f : Option (Code × ℕ)) → AreFaults decls start gs fs → f ≡ least (global_faults decls (start ++ regions_made gs) g) → AreFaults decls start (gs ++ g ∷ []) (fs ++ f ∷ [])
  faults_more start [] [] g f h e = (e ∙ ap (λ rs. least (global_faults decls rs g)) (append-nil start), tt)
  faults_more start (x ∷ xs) (k ∷ ks) g f h e =
      (h.0, faults_more (start ++ region_of_global x.written) xs ks g f h.1 (e ∙ ap (λ rs. least (global_faults decls rs g)) (sym (append_assoc start (region_of_global x.written) (regions_made xs)))))
  faults_more start [] (k ∷ ks) g f h e = absurd h
  faults_more start (x ∷ xs) [] g f h e = absurd h

  pub one_more : (old new : List (Option (Code × ℕ))) (r q : CheckedRegions) (g : Global) (f : Option (Code × ℕ)) → ((before : List Region) → HasRegions r decls before → f ≡ least (global_faults decls before g))
      → ((before : List Region) → HasRegions r decls before → HasRegions q decls (before ++ region_of_global g.written)) → new ≡ old ++ f ∷ [] → Adds decls old r new q (g ∷ [])
  one_more old new r q g f told kept e = record {
    adds = λ start gs h. record {
      faults-are = subst (λ (fs : List (Option (Code × ℕ))). AreFaults decls start (gs ++ g ∷ []) fs) (sym e) (faults_more start gs old g f h.faults-are (told (start ++ regions_made gs) h.regions-are));
      regions-are = subst (λ (rs : List Region). HasRegions q decls rs) (append_assoc start (regions_made gs) (region_of_global g.written) ∙ ap (λ rs. start ++ rs) (sym (made_more gs g))) (kept (start ++ regions_made gs) h.regions-are);
    };
  }

-- ---- the names of an item, the items of a section, sections

names_are : (s : Section ℕ) (item : Item ℕ) (ns : List Name) → names_from s item false (map (written_in s item) ns) ≡ flat_map (λ n. global_with s item false n ∷ []) ns
names_are s item [] = refl
names_are s item (n ∷ ns) = ap (λ gs. global_with s item false n ∷ gs) (names_are s item ns)

item_names_are : (s : Section ℕ) (item : Item ℕ) (n : Name) (ns : List Name) → item.names ≡ n ∷ ns → names_in_item s item ≡ global_with s item true n ∷ flat_map (λ m. global_with s item false m ∷ []) ns
item_names_are s item n ns e = ap (λ xs. names_from s item true (map (written_in s item) xs)) e ∙ ap (λ gs. global_with s item true n ∷ gs) (names_are s item ns)

no_item_names : (s : Section ℕ) (item : Item ℕ) → item.names ≡ [] → names_in_item s item ≡ []
no_item_names s item e = ap (λ xs. names_from s item true (map (written_in s item) xs)) e

module _ (decls : List (Decl ℕ)) where
  pub adds_none : (fs : List (Option (Code × ℕ))) (r : CheckedRegions) → Adds decls fs r fs r []
  adds_none fs r = record { adds = λ start before h. subst (λ (xs : List Global). GlobalsTo fs r decls start xs) (sym (append-nil before)) h }

  pub adds_both : (fs gs hs : List (Option (Code × ℕ))) (r q p : CheckedRegions) (xs ys : List Global) → Adds decls fs r gs q xs → Adds decls gs q hs p ys → Adds decls fs r hs p (xs ++ ys)
  adds_both fs gs hs r q p xs ys h k = record {
    adds = λ start before w. subst (λ (zs : List Global). GlobalsTo hs p decls start zs) (append_assoc before xs ys) (k.adds start (before ++ xs) (h.adds start before w));
  }

  -- so many of a list were added, each with its globals
  module _ {X : Type 0} (gives : X → List Global) (list : List X) where
    pub record AddsTo (fs : List (Option (Code × ℕ))) (r : CheckedRegions) (gs : List (Option (Code × ℕ))) (q : CheckedRegions) (i : ℕ) : Type 0 where
      pub done : List Global
      pub adds : Adds decls fs r gs q done
      pub rest : done ++ flat_map gives (drop i list) ≡ flat_map gives list

    pub adds_begun : (fs : List (Option (Code × ℕ))) (r : CheckedRegions) → AddsTo fs r fs r 0
    adds_begun fs r = record { done = []; adds = adds_none fs r; rest = refl }

    pub adds_next : (fs gs hs : List (Option (Code × ℕ))) (r q p : CheckedRegions) (x : X) (i : ℕ) → i < length list → x ≡ get_or list i x → Adds decls gs q hs p (gives x) → AddsTo fs r gs q i → AddsTo fs r hs p (i + 1)
    adds_next fs gs hs r q p x i l e k h = record {
      done = h.done ++ gives x;
      adds = adds_both fs gs hs r q p h.done (gives x) h.adds k;
      rest = append_assoc h.done (gives x) (flat_map gives (drop (i + 1) list)) ∙ ap (λ xs. h.done ++ flat_map gives xs) (sym (drop-at list i x l e)) ∙ h.rest;
    }

    pub adds_ended : (fs gs : List (Option (Code × ℕ))) (r q : CheckedRegions) (i : ℕ) → length list ≤ i → AddsTo fs r gs q i → Adds decls fs r gs q (flat_map gives list)
    adds_ended fs gs r q i l h = subst (λ (xs : List Global). Adds decls fs r gs q xs) (sym (append-nil h.done) ∙ ap (λ xs. h.done ++ flat_map gives xs) (sym (drop-end list i l)) ∙ h.rest) h.adds

  -- a list with a first name, and the others
  abbrev others_of : List Name → List Name
  others_of names = take (length names - 1) (drop 1 names)

  first_and_rest : (n : Name) (names : List Name) → 1 ≤ length names → n ≡ get_or names 0 n → names ≡ n ∷ others_of names
  first_and_rest n [] l e = absurd (omega arith)
  first_and_rest n (m ∷ ns) l e =
      let long : length ns ≤ suc (length ns) - 1 = omega arith in
      ap (λ (x : Name). x ∷ ns) (sym e) ∙ ap (λ xs. n ∷ xs) (sym (take-end ns (suc (length ns) - 1) long))

  pub item_added : (fs gs hs : List (Option (Code × ℕ))) (r q p : CheckedRegions) (s : Section ℕ) (item : Item ℕ) (n : Name) (names : List Name) → names ≡ item.names → 1 ≤ length names → n ≡ get_or names 0 n
      → Adds decls fs r gs q (global_with s item true n ∷ []) → Adds decls gs q hs p (flat_map (λ m. global_with s item false m ∷ []) (take (length names - 1) (drop 1 names))) → Adds decls fs r hs p (names_in_item s item)
  item_added fs gs hs r q p s item n names d l e h k =
      subst (λ (xs : List Global). Adds decls fs r hs p xs) (sym (item_names_are s item n (take (length names - 1) (drop 1 names)) (sym d ∙ first_and_rest n names l e)))
      (adds_both fs gs hs r q p (global_with s item true n ∷ []) (flat_map (λ m. global_with s item false m ∷ []) (take (length names - 1) (drop 1 names))) h k)

  pub section_added : (fs gs : List (Option (Code × ℕ))) (r q : CheckedRegions) (s : Section ℕ) (items : List (Item ℕ)) → items ≡ s.items → Adds decls fs r gs q (flat_map (names_in_item s) items) → Adds decls fs r gs q (names_in_section s)
  section_added fs gs r q s items e h = subst (λ (xs : List (Item ℕ)). Adds decls fs r gs q (flat_map (names_in_item s) xs)) e h
