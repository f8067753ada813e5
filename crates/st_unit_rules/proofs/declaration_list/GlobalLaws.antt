-- The names of sections are what they declare, and the globals among the declarations.
use Rattle.std.proofs.Common.{◌≡◌, ℕ, Bool, true, false, List, [], ◌∷◌, ◌++◌, map, refl, sym, ap, ◌∙◌, ◌≤◌, length, drop, append-nil}
use Rattle.std.specs.Prelude.{flat_map}
use Rattle.std.proofs.lemmas.List.{map-append}
use Rattle.std.proofs.lemmas.Grind.{flat_map-append}
use Rattle.st_tree.specs.declared.declaration.Item.{Item}
use Rattle.st_tree.specs.declared.declaration.Section.{Section}
use Rattle.st_tree.specs.declared.declaration.Member.{Member}
use Rattle.st_tree.specs.declared.declaration.Member.TheVariants as member
use Rattle.st_rules.proofs.ListLaws.{drop-end}
use Rattle.st_unit_rules.specs.declared_names.Variables.{Written, item_written, section_written, sections_written, sections_in}
use Rattle.st_unit_rules.specs.declared_names.Declarations.{Global, a_global, globals_of_item, globals_of_section}
use Rattle.st_unit_rules.specs.declared.declaration_list.written.WrittenName.{WrittenName}
use Rattle.st_unit_rules.specs.declaration_list.Written.{written_of, global_of, names_from, names_in_item, names_in_section, names_in_sections}

-- a list of what lists give, by what each item gives
flat-mapped : {X Y Z : Type 0} (f : Y → Z) (g : X → List Y) (h : X → List Z) → ((x : X) → map f (g x) ≡ h x) → (xs : List X) → map f (flat_map g xs) ≡ flat_map h xs
flat-mapped f g h e [] = refl
flat-mapped f g h e (x ∷ xs) = map-append f (g x) (flat_map g xs) ∙ ap (λ zs. zs ++ map f (flat_map g xs)) (e x) ∙ ap (λ zs. h x ++ zs) (flat-mapped f g h e xs)

-- ---- what is written

written_from : (s : Section ℕ) (item : Item ℕ) (first : Bool) (ws : List Written) → map (λ g. g.written) (names_from s item first ws) ≡ ws
written_from s item first [] = refl
written_from s item first (w ∷ ws) = ap (λ xs. w ∷ xs) (written_from s item false ws)

section_written_is : (s : Section ℕ) → map (λ g. g.written) (names_in_section s) ≡ section_written s
section_written_is s = flat-mapped (λ (g : Global). g.written) (names_in_item s) (item_written s) (λ item. written_from s item true (item_written s item)) s.items

pub written_are : (ss : List (Section ℕ)) → map (λ g. g.written) (names_in_sections ss) ≡ sections_written ss
written_are ss = flat-mapped (λ (g : Global). g.written) names_in_section section_written section_written_is ss

mapped_twice : (ws : List WrittenName) → map written_of ws ≡ map (λ g. g.written) (map global_of ws)
mapped_twice [] = refl
mapped_twice (w ∷ ws) = ap (λ xs. written_of w ∷ xs) (mapped_twice ws)

pub written_by_names : (ws : List WrittenName) (ss : List (Section ℕ)) → map global_of ws ≡ names_in_sections ss → map written_of ws ≡ sections_written ss
written_by_names ws ss e = mapped_twice ws ∙ ap (map (λ (g : Global). g.written)) e ∙ written_are ss

-- ---- globals

globals_from : (s : Section ℕ) (item : Item ℕ) (first : Bool) (ws : List Written) → map a_global (names_from s item first ws) ≡ globals_of_item s item first ws
globals_from s item first [] = refl
globals_from s item first (w ∷ ws) = ap (λ xs. a_global (record { section = s; item = item; written = w; first = first }) ∷ xs) (globals_from s item false ws)

section_is : (s : Section ℕ) → map a_global (names_in_section s) ≡ globals_of_section s
section_is s = flat-mapped a_global (names_in_item s) (λ item. globals_of_item s item true (item_written s item)) (λ item. globals_from s item true (item_written s item)) s.items

pub section_globals_are : (ws : List WrittenName) (s : Section ℕ) → map global_of ws ≡ names_in_section s → map a_global (map global_of ws) ≡ globals_of_section s
section_globals_are ws s e = ap (map a_global) e ∙ section_is s

pub globals_are : (ss : List (Section ℕ)) → map a_global (names_in_sections ss) ≡ flat_map globals_of_section ss
globals_are ss = flat-mapped a_global names_in_section globals_of_section section_is ss

pub configured : (ws : List WrittenName) (gs rs : List (Section ℕ)) → map global_of ws ≡ names_in_sections gs ++ names_in_sections rs → map a_global (map global_of ws) ≡ flat_map globals_of_section (gs ++ rs)
configured ws gs rs e = ap (map a_global) e ∙ map-append a_global (names_in_sections gs) (names_in_sections rs) ∙ ap (λ xs. xs ++ map a_global (names_in_sections rs)) (globals_are gs) ∙ ap (λ xs. flat_map globals_of_section gs ++ xs) (globals_are rs) ∙ sym (flat_map-append globals_of_section gs rs)

-- ---- members

pub members_ended : (ws : List WrittenName) (ms : List (Member ℕ)) (i : ℕ) → length ms ≤ i → map global_of ws ++ names_in_sections (sections_in (drop i ms)) ≡ names_in_sections (sections_in ms) → map written_of ws ≡ sections_written (sections_in ms)
members_ended ws ms i l e = written_by_names ws (sections_in ms) (sym (append-nil (map global_of ws)) ∙ ap (λ xs. map global_of ws ++ names_in_sections (sections_in xs)) (sym (drop-end ms i l)) ∙ e)

-- what a list of members gives, by its first one
pub member_first : (m : Member ℕ) (ms : List (Member ℕ)) → names_in_sections (sections_in (m ∷ ms)) ≡ names_in_sections (sections_in (m ∷ [])) ++ names_in_sections (sections_in ms)
member_first (member.Section s) ms = ap (λ xs. xs ++ names_in_sections (sections_in ms)) (sym (append-nil (names_in_section s)))
member_first (member.Method m) ms = refl
