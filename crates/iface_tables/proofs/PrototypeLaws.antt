-- The names of the methods of interfaces, one declaration after the other.
use Rattle.std.proofs.Common.{◌≡◌, ℕ, ◌+◌, ◌<◌, ◌≤◌, List, [], ◌∷◌, ◌++◌, length, map, take, get_or, refl, sym, ap, ◌∙◌, append-nil}
use Rattle.st_tree.specs.declared.declaration.Prototype.{Prototype}
use Rattle.st_tree.specs.declared.unit.Decl.{Decl}
use Rattle.st_rules.specs.Interfaces.{interfaces_in, prototype_names}
use Rattle.st_rules.proofs.ListLaws.{take-at, take-end}
use Rattle.class_rows.proofs.RowLaws.{interfaces-next}

pub no_more : {X : Type 0} (xs : List X) → xs ≡ xs ++ []
no_more xs = sym (append-nil xs)

map-both : {X Y : Type 0} (f : X → Y) (xs ys : List X) → map f xs ++ map f ys ≡ map f (xs ++ ys)
map-both f [] ys = refl
map-both f (x ∷ xs) ys = ap (λ zs. f x ∷ zs) (map-both f xs ys)

pub prototypes_step : {A : Type 0} (ds : List (Decl A)) (i : ℕ) (d : Decl A) (all new : List (List (List ℕ))) → i < length ds → d ≡ get_or ds i d → all ≡ map prototype_names (interfaces_in (take i ds)) →
    new ≡ all ++ map prototype_names (interfaces_in (d ∷ [])) → new ≡ map prototype_names (interfaces_in (take (i + 1) ds))
prototypes_step ds i d all new l e h n =
    n ∙ ap (λ xs. xs ++ map prototype_names (interfaces_in (d ∷ []))) h ∙ map-both prototype_names (interfaces_in (take i ds)) (interfaces_in (d ∷ [])) ∙ ap (map prototype_names) (interfaces-next ds i d l e)

pub prototypes_end : {A : Type 0} (ds : List (Decl A)) (i : ℕ) (all : List (List (List ℕ))) → length ds ≤ i → all ≡ map prototype_names (interfaces_in (take i ds)) → all ≡ map prototype_names (interfaces_in ds)
prototypes_end ds i all l h = h ∙ ap (λ xs. map prototype_names (interfaces_in xs)) (take-end ds i l)

pub names_step : {A : Type 0} (ps : List (Prototype A)) (i : ℕ) (p : Prototype A) (names new : List (List ℕ)) → i < length ps → p ≡ get_or ps i p → names ≡ map (λ m. m.name.text) (take i ps) →
    new ≡ names ++ p.name.text ∷ [] → new ≡ map (λ m. m.name.text) (take (i + 1) ps)
names_step ps i p names new l e h n =
    n ∙ ap (λ xs. xs ++ p.name.text ∷ []) h ∙ map-both (λ (m : Prototype _). m.name.text) (take i ps) (p ∷ []) ∙ ap (map (λ (m : Prototype _). m.name.text)) (sym (take-at ps i p l e))
