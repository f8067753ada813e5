-- What items break, told with their first names alone.
use Rattle.std.proofs.Common.{◌≡◌, ℕ, ◌≤◌, Bool, true, false, List, [], ◌∷◌, ◌++◌, Option, Some, None, refl, sym, ap, ◌∙◌, map, length}
use Rattle.std.specs.Prelude.{◌&&◌, if◌then◌else◌, filter, flat_map}
use Rattle.std.proofs.lemmas.Grind.{flat_map-append}
use Rattle.std.proofs.lemmas.List.Elements.{filter-append}
use Rattle.std.proofs.lemmas.List.Folds.{flat_map-map}
use Rattle.plc_text.specs.declared.code.Code.{Code}
use Rattle.st_tree.specs.declared.declaration.Item.{Item}
use Rattle.st_tree.specs.declared.declaration.Section.{Section}
use Rattle.st_tree.specs.declared.name.Name.{Name}
use Rattle.st_rules.specs.Faults.{Faults, comes_before, earlier, least}
use Rattle.st_rules.proofs.FaultLaws.{earlier-assoc, earlier-none, least-append}
use Rattle.st_unit_rules.specs.declared_names.Declarations.{Global}
use Rattle.st_unit_rules.specs.declared_names.Variables.{Written, item_written, section_written, sections_written}
use Rattle.st_unit_rules.specs.declared.declaration_list.written.WrittenName.{WrittenName}
use Rattle.st_unit_rules.specs.declaration_list.Written.{written_in, global_of, names_from, names_in_item, names_in_section, names_in_sections}
use Rattle.check_names.proofs.name_rules.FaultLists.{FaultsTo, faults_ended}
use Rattle.check_routines.specs.depth_rules.Private.Variables.{with_first}

-- a fault is no other than itself
either : (b : Bool) (x : Code × ℕ) → Some (if b then x else x) ≡ Some x
either true x = refl
either false x = refl

itself : (a : Option (Code × ℕ)) → earlier a a ≡ a
itself None = refl
itself (Some x) = either (comes_before x x) x

-- names that say the same of the test
record Alike (test : Written → Bool) (x : Section ℕ) (passes : Bool) : Type 0 where
  each : (item : Item ℕ) (n : Name) → test (written_in x item n) ≡ passes

module _ (test : Written → Bool) (breaks : Item ℕ → Faults) (x : Section ℕ) where
  abbrev named : Item ℕ → Name → Written
  named item n = written_in x item n

  abbrev once : List Global → Faults
  once gs = flat_map (with_first test breaks) gs

  abbrev all : List Written → Faults
  all ws = flat_map (λ w. breaks w.item) (filter test ws)

  -- ---- an item

  -- names behind the first have nothing
  behind : (item : Item ℕ) (ws : List Written) → once (names_from x item false ws) ≡ []
  behind item [] = refl
  behind item (w ∷ ws) = behind item ws

  -- all that break it break the same
  more : (item : Item ℕ) (ns : List Name) → earlier (least (breaks item)) (least (all (map (named item) ns))) ≡ least (breaks item)
  more item [] = earlier-none (least (breaks item))
  more item (n ∷ ns) = at (test (named item n)) (more item ns)
    where
      at : (b : Bool) → earlier (least (breaks item)) (least (all (map (named item) ns))) ≡ least (breaks item)
          → earlier (least (breaks item)) (least (flat_map (λ w. breaks w.item) (if b then named item n ∷ filter test (map (named item) ns) else filter test (map (named item) ns)))) ≡ least (breaks item)
      at true h =
          ap (earlier (least (breaks item))) (least-append (breaks item) (all (map (named item) ns)))
          ∙ earlier-assoc (least (breaks item)) (least (breaks item)) (least (all (map (named item) ns)))
          ∙ ap (λ a. earlier a (least (all (map (named item) ns)))) (itself (least (breaks item)))
          ∙ h
      at false h = h

  -- where no name passes
  nothing : (item : Item ℕ) (ns : List Name) → Alike test x false → all (map (named item) ns) ≡ []
  nothing item [] a = refl
  nothing item (n ∷ ns) a = ap (λ b. flat_map (λ w. breaks w.item) (if b then named item n ∷ filter test (map (named item) ns) else filter test (map (named item) ns))) (a.each item n) ∙ nothing item ns a

  first_name : (item : Item ℕ) (n : Name) (ns : List Name) (b : Bool) → Alike test x b → least (once (names_from x item true (map (named item) (n ∷ ns)))) ≡ least (all (map (named item) (n ∷ ns)))
  first_name item n ns true a =
      ap (λ c. least ((if c then breaks item else []) ++ once (names_from x item false (map (named item) ns)))) (a.each item n)
      ∙ ap (λ fs. least (breaks item ++ fs)) (behind item (map (named item) ns))
      ∙ least-append (breaks item) []
      ∙ earlier-none (least (breaks item))
      ∙ sym (more item ns)
      ∙ sym (least-append (breaks item) (all (map (named item) ns)))
      ∙ sym (ap (λ c. least (flat_map (λ w. breaks w.item) (if c then named item n ∷ filter test (map (named item) ns) else filter test (map (named item) ns)))) (a.each item n))
  first_name item n ns false a =
      ap (λ c. least ((if c then breaks item else []) ++ once (names_from x item false (map (named item) ns)))) (a.each item n)
      ∙ ap least (behind item (map (named item) ns))
      ∙ sym (ap least (nothing item (n ∷ ns) a))

  by_item : (b : Bool) → Alike test x b → (item : Item ℕ) (ns : List Name) → least (once (names_from x item true (map (named item) ns))) ≡ least (all (map (named item) ns))
  by_item b a item [] = refl
  by_item b a item (n ∷ ns) = first_name item n ns b a

  -- ---- items

  by_items : (b : Bool) → Alike test x b → (items : List (Item ℕ)) → least (once (flat_map (names_in_item x) items)) ≡ least (all (flat_map (item_written x) items))
  by_items b a [] = refl
  by_items b a (item ∷ items) =
      ap least (flat_map-append (with_first test breaks) (names_in_item x item) (flat_map (names_in_item x) items))
      ∙ least-append (once (names_in_item x item)) (once (flat_map (names_in_item x) items))
      ∙ ap (λ o. earlier o (least (once (flat_map (names_in_item x) items)))) (by_item b a item item.names)
      ∙ ap (earlier (least (all (item_written x item)))) (by_items b a items)
      ∙ sym (least-append (all (item_written x item)) (all (flat_map (item_written x) items)))
      ∙ sym (ap least (flat_map-append (λ w. breaks w.item) (filter test (item_written x item)) (filter test (flat_map (item_written x) items))))
      ∙ sym (ap (λ ws. least (flat_map (λ w. breaks w.item) ws)) (filter-append test (item_written x item) (flat_map (item_written x) items)))

-- ---- sections

module _ (test : Written → Bool) (breaks : Item ℕ → Faults) (passes : Section ℕ → Bool) (alike : (x : Section ℕ) (item : Item ℕ) (n : Name) → test (written_in x item n) ≡ passes x) where
  by_section : (x : Section ℕ) → least (flat_map (with_first test breaks) (names_in_section x)) ≡ least (flat_map (λ w. breaks w.item) (filter test (section_written x)))
  by_section x = by_items test breaks x (passes x) (record { each = alike x }) x.items

  pub by_sections : (ss : List (Section ℕ)) → least (flat_map (with_first test breaks) (names_in_sections ss)) ≡ least (flat_map (λ w. breaks w.item) (filter test (sections_written ss)))
  by_sections [] = refl
  by_sections (x ∷ ss) =
      ap least (flat_map-append (with_first test breaks) (names_in_section x) (names_in_sections ss))
      ∙ least-append (flat_map (with_first test breaks) (names_in_section x)) (flat_map (with_first test breaks) (names_in_sections ss))
      ∙ ap (λ o. earlier o (least (flat_map (with_first test breaks) (names_in_sections ss)))) (by_section x)
      ∙ ap (earlier (least (flat_map (λ w. breaks w.item) (filter test (section_written x))))) (by_sections ss)
      ∙ sym (least-append (flat_map (λ w. breaks w.item) (filter test (section_written x))) (flat_map (λ w. breaks w.item) (filter test (sections_written ss))))
      ∙ sym (ap least (flat_map-append (λ w. breaks w.item) (filter test (section_written x)) (filter test (sections_written ss))))
      ∙ sym (ap (λ ws. least (flat_map (λ w. breaks w.item) ws)) (filter-append test (section_written x) (sections_written ss)))

  -- what a walk over all names finds
  pub names_found : (names : List WrittenName) (found : Option (Code × ℕ)) (i : ℕ) → length names ≤ i → FaultsTo (λ n. with_first test breaks (global_of n)) names found i
      → (ss : List (Section ℕ)) → map global_of names ≡ names_in_sections ss → found ≡ least (flat_map (λ w. breaks w.item) (filter test (sections_written ss)))
  names_found names found i l t ss h =
      faults_ended (λ n. with_first test breaks (global_of n)) names found i l t
      ∙ sym (ap least (flat_map-map (with_first test breaks) global_of names))
      ∙ ap (λ gs. least (flat_map (with_first test breaks) gs)) h
      ∙ by_sections ss
