-- The names of sections, with what is told of them.
use Rattle.std.proofs.Common.{◌≡◌, ℕ, ◌+◌, ◌<◌, ◌≤◌, ℤ, Bool, List, [], ◌∷◌, ◌++◌, map, drop, length, get_or, Option, refl, sym, ap, ◌∙◌, append-nil}
use Rattle.std.specs.Prelude.{flat_map}
use Rattle.std.proofs.lemmas.List.{map-append}
use Rattle.st_types.specs.declared.st_type.StType.{StType}
use Rattle.st_tree.specs.declared.declaration.Item.{Item}
use Rattle.st_tree.specs.declared.declaration.Member.{Member}
use Rattle.st_tree.specs.declared.declaration.Member.TheVariants as member
use Rattle.st_tree.specs.declared.declaration.Section.{Section}
use Rattle.st_tree.specs.declared.name.Name.{Name}
use Rattle.st_rules.specs.Scope.{Scope}
use Rattle.st_unit_rules.specs.declared_names.WrittenTypes.{type_written}
use Rattle.st_unit_rules.specs.declared_names.Variables.{Written, item_written, section_written, sections_written, sections_in}
use Rattle.st_unit_rules.specs.declaration_list.Written.{written_in}
use Rattle.type_resolution.specs.declared_variables.Private.Told.{ToldName, told_of, value_in, named, names_of_item, names_of_section}

-- one evaluation serves all names of an item
pub item_named : (t : Scope) (s : Section ℕ) (item : Item ℕ) (k : Option StType) (v : Option ℤ) (first : Name) → k ≡ type_written t item.kind → v ≡ value_in t (written_in s item first)
    → (xs : List Name) → map (named s item k v) xs ≡ map (told_of t) (map (written_in s item) xs)
item_named t s item k v first e f [] = refl
item_named t s item k v first e f (x ∷ xs) =
    ap (λ y. named s item y v x ∷ map (named s item k v) xs) e
    ∙ ap (λ y. named s item (type_written t item.kind) y x ∷ map (named s item k v) xs) f
    ∙ ap (λ ys. told_of t (written_in s item x) ∷ ys) (item_named t s item k v first e f xs)

flat-mapped : {X Y Z : Type 0} (f : Y → Z) (g : X → List Y) (h : X → List Z) → ((x : X) → h x ≡ map f (g x)) → (xs : List X) → flat_map h xs ≡ map f (flat_map g xs)
flat-mapped f g h e [] = refl
flat-mapped f g h e (x ∷ xs) = ap (λ zs. zs ++ flat_map h xs) (e x) ∙ ap (λ zs. map f (g x) ++ zs) (flat-mapped f g h e xs) ∙ sym (map-append f (g x) (flat_map g xs))

section-names : (t : Scope) (s : Section ℕ) → names_of_section t s ≡ map (told_of t) (section_written s)
section-names t s = flat-mapped (told_of t) (item_written s) (names_of_item t s) (λ item. refl) s.items

pub one_section : (t : Scope) (s : Section ℕ) (now : List ToldName) → now ≡ [] ++ names_of_section t s → now ≡ map (told_of t) (section_written s)
one_section t s now h = h ∙ section-names t s

pub sections_names : (t : Scope) (ss : List (Section ℕ)) → flat_map (names_of_section t) ss ≡ map (told_of t) (sections_written ss)
sections_names t ss = flat-mapped (told_of t) section_written (names_of_section t) (section-names t) ss

pub all_names : (t : Scope) (ss : List (Section ℕ)) (now : List ToldName) → now ≡ [] ++ flat_map (names_of_section t) ss → now ≡ map (told_of t) (sections_written ss)
all_names t ss now h = h ∙ sections_names t ss

pub members_split : (t : Scope) (m : Member ℕ) (ms : List (Member ℕ)) → flat_map (names_of_section t) (sections_in (m ∷ ms)) ≡ flat_map (names_of_section t) (sections_in (m ∷ [])) ++ flat_map (names_of_section t) (sections_in ms)
members_split t (member.Section s) ms = ap (λ xs. xs ++ flat_map (names_of_section t) (sections_in ms)) (sym (append-nil (names_of_section t s)))
members_split t (member.Method m) ms = refl
