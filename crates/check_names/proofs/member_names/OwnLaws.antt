-- Declarations one by one, and what their classes have.
use Rattle.std.proofs.Common.{◌≡◌, ℕ, ◌+◌, ◌<◌, ◌≤◌, List, [], ◌∷◌, ◌++◌, map, length, get_or, take, refl, sym, ap, ◌∙◌, subst}
use Rattle.st_tree.specs.declared.declaration.ClassDecl.{ClassDecl}
use Rattle.st_tree.specs.declared.declaration.Member.{Member}
use Rattle.st_tree.specs.declared.declaration.Member.TheVariants as member
use Rattle.st_tree.specs.declared.declaration.Method.{Method}
use Rattle.st_tree.specs.declared.name.Name.{Name}
use Rattle.st_tree.specs.declared.unit.Decl.{Decl}
use Rattle.st_tree.specs.declared.unit.Decl.TheVariants as declaration
use Rattle.st_rules.specs.Classes.{classes_in, methods_in, method_names}
use Rattle.st_rules.proofs.ListLaws.{take-at, take-end}
use Rattle.st_unit_rules.specs.NameRules.{own_variables, texts, variable_texts}
use Rattle.check_names.specs.name_spaces.Held.{Holds}
use Rattle.check_names.specs.member_names.Known.{HoldsEach, AreHeld}

-- ---- classes

classes_append : (ds es : List (Decl ℕ)) → classes_in (ds ++ es) ≡ classes_in ds ++ classes_in es
classes_append [] es = refl
classes_append (declaration.Types l ts ∷ ds) es = classes_append ds es
classes_append (declaration.Globals s ∷ ds) es = classes_append ds es
classes_append (declaration.Interface i ∷ ds) es = classes_append ds es
classes_append (declaration.Class c ∷ ds) es = ap (λ cs. c ∷ cs) (classes_append ds es)
classes_append (declaration.Function f ∷ ds) es = classes_append ds es
classes_append (declaration.Program p ∷ ds) es = classes_append ds es
classes_append (declaration.Configuration c ∷ ds) es = classes_append ds es

module _ (gives : ClassDecl ℕ → List (List ℕ)) where
  pushed_each : (hs : List (List (List ℕ))) (cs : List (ClassDecl ℕ)) (h : List (List ℕ)) (c : ClassDecl ℕ) → HoldsEach gives hs cs → Holds h (gives c) → HoldsEach gives (hs ++ h ∷ []) (cs ++ c ∷ [])
  pushed_each [] [] h c e k = (k, tt)
  pushed_each [] (d ∷ cs) h c e k = absurd e
  pushed_each (g ∷ hs) [] h c e k = absurd e
  pushed_each (g ∷ hs) (d ∷ cs) h c e k = (e.0, pushed_each hs cs h c e.1 k)

  pub held_pushed : (hs : List (List (List ℕ))) (cs : List (ClassDecl ℕ)) (h : List (List ℕ)) (c : ClassDecl ℕ) → AreHeld gives hs cs → Holds h (gives c) → AreHeld gives (hs ++ h ∷ []) (cs ++ c ∷ [])
  held_pushed hs cs h c e k = record { each = pushed_each hs cs h c e.each k }

  -- so many declarations were looked at
  pub record HeldTo (held : List (List (List ℕ))) (ds : List (Decl ℕ)) (i : ℕ) : Type 0 where
    pub far : AreHeld gives held (classes_in (take i ds))

  pub held_begun : (ds : List (Decl ℕ)) → HeldTo [] ds 0
  held_begun ds = record { far = record { each = tt } }

  pub held_next : (held more : List (List (List ℕ))) (ds : List (Decl ℕ)) (i : ℕ) (d : Decl ℕ) → i < length ds → d ≡ get_or ds i d
      → ((cs : List (ClassDecl ℕ)) → AreHeld gives held cs → AreHeld gives more (cs ++ classes_in (d ∷ []))) → HeldTo held ds i → HeldTo more ds (i + 1)
  held_next held more ds i d l e step t = record {
    far = subst (λ (cs : List (ClassDecl ℕ)). AreHeld gives more cs) (sym (ap classes_in (take-at ds i d l e) ∙ classes_append (take i ds) (d ∷ []))) (step (classes_in (take i ds)) t.far);
  }

  pub held_ended : (held : List (List (List ℕ))) (ds : List (Decl ℕ)) (i : ℕ) → length ds ≤ i → HeldTo held ds i → AreHeld gives held (classes_in ds)
  held_ended held ds i l t = subst (λ (es : List (Decl ℕ)). AreHeld gives held (classes_in es)) (take-end ds i l) t.far

-- ---- members

methods_append : (ms ns : List (Member ℕ)) → methods_in (ms ++ ns) ≡ methods_in ms ++ methods_in ns
methods_append [] ns = refl
methods_append (member.Section s ∷ ms) ns = methods_append ms ns
methods_append (member.Method m ∷ ms) ns = ap (λ xs. m ∷ xs) (methods_append ms ns)

mapped_twice : {X Y Z : Type 0} (g : Y → Z) (f : X → Y) (xs : List X) → map g (map f xs) ≡ map (λ x. g (f x)) xs
mapped_twice g f [] = refl
mapped_twice g f (x ∷ xs) = ap (λ ys. g (f x) ∷ ys) (mapped_twice g f xs)

-- the texts of the names of a class
pub variable_texts_are : (c : ClassDecl ℕ) → texts (map (λ w. w.name) (own_variables c.members)) ≡ variable_texts c
variable_texts_are c = mapped_twice (λ (n : Name). n.text) (λ w. w.name) (own_variables c.members)

pub method_texts_are : (c : ClassDecl ℕ) → texts (map (λ m. m.name) (methods_in c.members)) ≡ method_names c
method_texts_are c = mapped_twice (λ (n : Name). n.text) (λ (m : Method ℕ). m.name) (methods_in c.members)
