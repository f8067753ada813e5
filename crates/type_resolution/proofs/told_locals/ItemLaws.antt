-- A name that is not the first of its item has the item of the name before.
use Rattle.std.proofs.Common.{◌≡◌, ℕ, zero, suc, Bool, true, false, List, [], ◌∷◌, ◌++◌, map, drop, refl, sym, ◌∙◌}
use Rattle.std.specs.Prelude.{flat_map}
use Rattle.st_tree.specs.declared.declaration.Item.{Item}
use Rattle.st_tree.specs.declared.declaration.Section.{Section}
use Rattle.st_tree.specs.declared.name.Name.{Name}
use Rattle.st_unit_rules.specs.declared_names.Variables.{Written}
use Rattle.st_unit_rules.specs.declared_names.Declarations.{Global}
use Rattle.st_unit_rules.specs.declaration_list.Written.{written_in, names_from, names_in_item, names_in_section, names_in_sections}

pub record OfItem (v w : Written) : Type 0 where
  pub item : w.item ≡ v.item
  pub constant : w.constant ≡ v.constant

abbrev pub Behind : Global → List Global → Type 0
Behind g [] = Unit {0}
Behind g (h ∷ hs) = h.first ≡ false → OfItem g.written h.written

abbrev pub Follow : List Global → Type 0
Follow [] = Unit {0}
Follow (g ∷ gs) = Behind g gs × Follow gs

-- the list begins with the first name of an item
abbrev Begins : List Global → Type 0
Begins [] = Unit {0}
Begins (g ∷ gs) = g.first ≡ true

clash : true ≡ false → ⊥
clash e = absurd cc

begins-append : (xs ys : List Global) → Begins xs → Begins ys → Begins (xs ++ ys)
begins-append [] ys h k = k
begins-append (x ∷ xs) ys h k = h

behind-last : (g : Global) (ys : List Global) → Begins ys → Behind g ys
behind-last g [] h = tt
behind-last g (y ∷ ys) h = λ e. absurd (clash (sym h ∙ e))

follow-append : (xs ys : List Global) → Follow xs → Follow ys → Begins ys → Follow (xs ++ ys)
follow-append [] ys h k b = k
follow-append (x ∷ []) ys h k b = (behind-last x ys b, k)
follow-append (x ∷ y ∷ xs) ys h k b = (h.0, follow-append (y ∷ xs) ys h.1 k b)

module _ {X : Type 0} (f : X → List Global) (begins : (x : X) → Begins (f x)) (follow : (x : X) → Follow (f x)) where
  begins-each : (xs : List X) → Begins (flat_map f xs)
  begins-each [] = tt
  begins-each (x ∷ xs) = begins-append (f x) (flat_map f xs) (begins x) (begins-each xs)

  follow-each : (xs : List X) → Follow (flat_map f xs)
  follow-each [] = tt
  follow-each (x ∷ xs) = follow-append (f x) (flat_map f xs) (follow x) (follow-each xs) (begins-each xs)

module _ (s : Section ℕ) (item : Item ℕ) where
  begins-names : (ns : List Name) → Begins (names_from s item true (map (written_in s item) ns))
  begins-names [] = tt
  begins-names (n ∷ ns) = refl

  follow-names : (first : Bool) (ns : List Name) → Follow (names_from s item first (map (written_in s item) ns))
  follow-names first [] = tt
  follow-names first (n ∷ []) = (tt, tt)
  follow-names first (n ∷ m ∷ ns) = (λ e. record { item = refl; constant = refl }, follow-names false (m ∷ ns))

begins-section : (s : Section ℕ) → Begins (names_in_section s)
begins-section s = begins-each (names_in_item s) (λ item. begins-names s item item.names) (λ item. follow-names s item true item.names) s.items

follow-section : (s : Section ℕ) → Follow (names_in_section s)
follow-section s = follow-each (names_in_item s) (λ item. begins-names s item item.names) (λ item. follow-names s item true item.names) s.items

pub follow-sections : (ss : List (Section ℕ)) → Follow (names_in_sections ss)
follow-sections ss = follow-each names_in_section begins-section follow-section ss

pub follow-drop : (n : ℕ) (gs : List Global) → Follow gs → Follow (drop n gs)
follow-drop zero gs h = h
follow-drop (suc n) [] h = tt
follow-drop (suc n) (g ∷ gs) h = follow-drop n gs h.1
