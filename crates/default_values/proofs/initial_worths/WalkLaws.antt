-- The walk, arm by arm.
use Rattle.std.proofs.Common.{◌≡◌, ℕ, zero, suc, ◌+◌, ◌-◌, ◌<◌, ◌≤◌, ℤ, true, false, List, [], ◌∷◌, ◌++◌, Option, Some, None, map, take, length, get_or, refl, sym, ap, ◌∙◌, ◌⊎◌, inl, inr, subst, arith}
use Rattle.std.specs.Prelude.{option_map, slice_get, min, ◌-ℤ◌, nat_le}
use Rattle.std.proofs.lemmas.Bool.{cases_Bool, leb-true}
use Rattle.st_types.specs.declared.elem.Elem.{Elem}
use Rattle.st_types.specs.declared.st_type.StType.{StType, out-StType}
use Rattle.st_types.specs.declared.st_type.StType.TheVariants as type
use Rattle.st_types.specs.declared.st_type.StType.TheOpen.{StType-F}
use Rattle.st_tree.specs.declared.declaration.FieldGroup.{FieldGroup}
use Rattle.st_tree.specs.declared.declaration.TypeDecl.{TypeDecl}
use Rattle.st_tree.specs.declared.expression.Expr.{Expr}
use Rattle.st_tree.specs.declared.initial.Init.{Init}
use Rattle.st_tree.specs.declared.initial.Init.TheVariants as code
use Rattle.st_tree.specs.declared.initial.FieldInit.{FieldInit}
use Rattle.st_tree.specs.Expression.{expression_of}
use Rattle.st_rules.specs.Literals.{asked_of}
use Rattle.st_unit_rules.specs.declared_names.Constants.{told_value}
use Rattle.st_tree.specs.declared.initial.Part.{Part as CodePart}
use Rattle.st_tree.specs.declared.name.Name.{Name}
use Rattle.st_tree.specs.Initial.{Initial, Part, initial_of, part_of, parts_of, fields_of, initial_of-Value, initial_of-Array, initial_of-Fields}
use Rattle.st_rules.specs.Scope.{Scope}
use Rattle.st_unit_rules.specs.declared_names.WrittenTypes.{type_written}
use Rattle.st_unit_rules.specs.Initials.{part_count}
use Rattle.st_unit_rules.specs.Worth.{Worth, Worths, a_number, no_worths, worth_then, some_parts, nothing_held, worth_before, elements_worth, parts_listed, list_given, given_for, given_named, groups_of, count_to, number_worth, typed_worth, field_worth, names_worth, groups_worth, level_worth, worth_within}
use Rattle.default_values.specs.declared.worth_numbers.node.Node.{Node}
use Rattle.default_values.specs.declared.worth_numbers.numbers.Listed.{Listed}
use Rattle.default_values.specs.worth_numbers.Numbers.{Grows, HasWorth, HasParts, Gives, GivesEmpty, GivesLonger, GivesWhole}
use Rattle.default_values.proofs.worth_numbers.TableLaws.{grows_self, grows_through}
use Rattle.default_values.specs.worth_steps.Steps.{takes_steps, IsCount}
use Rattle.default_values.proofs.worth_steps.LevelLaws.{step_laws}
use Rattle.default_values.specs.given_values.Lists.{given_by, repeat_before, room_after, rooms, parts_worth, fields_as, groups_behind}
use Rattle.default_values.proofs.given_values.PartLaws.{before_none, untold_repeat, elements_are, last_part, no_part, room_there}
use Rattle.default_values.specs.declared.initial_worths.structures.Structure.{Structure}
use Rattle.default_values.specs.declared.initial_worths.structures.Group.{Group}
use Rattle.default_values.specs.initial_worths.Structures.{IsTold, IsGroup, AreGroups, IsStructure, AreStructures}
use Rattle.default_values.specs.initial_worths.Found.{Finds}
use Rattle.default_values.specs.initial_worths.Private.Puts.{IsToldList, Puts, PutsFound, MakesWhole, FindsList, FindsNumber, IsEnd, PutsTo}
use Rattle.default_values.proofs.initial_worths.PutLaws.{told_repeat, told_stays, parts_stay, group_stays, groups_stay, structures_stay, structures_less}

-- ---- what is found, said otherwise

pub finds_as : (old new : List Node) (xs : List Structure) (j k : ℕ) (r : Option ℕ) (f g : Scope → List (TypeDecl ℕ) → Option Worth) → j ≤ k → ((u : Scope) (e : List (TypeDecl ℕ)) → f u e ≡ g u e)
    → Finds old new xs j r f → Finds old new xs k r g
finds_as old new xs j k r f g l same h = record { grows = h.grows; told = λ u e a m. subst (λ (o : Option Worth). IsTold new r o) (same u e) (h.told u e (structures_less old u e j k xs l a) (omega (arith, l, m))) }

pub finds_none : (nodes : List Node) (xs : List Structure) (k : ℕ) (f : Scope → List (TypeDecl ℕ) → Option Worth) → ((u : Scope) (e : List (TypeDecl ℕ)) → AreStructures nodes u e k xs → k ≤ 66 → f u e ≡ None) → Finds nodes nodes xs k None f
finds_none nodes xs k f none = record { grows = grows_self nodes; told = λ u e a m. subst (λ (o : Option Worth). IsTold nodes None o) (sym (none u e a m)) tt }

pub finds_some : (old new : List Node) (xs : List Structure) (k n : ℕ) (w : Worth) (f : Scope → List (TypeDecl ℕ) → Option Worth) → ((u : Scope) (e : List (TypeDecl ℕ)) → f u e ≡ Some w) → Gives old new n w → Finds old new xs k (Some n) f
finds_some old new xs k n w f is h = record { grows = h.grows; told = λ u e a m. subst (λ (o : Option Worth). IsTold new (Some n) o) (sym (is u e)) h.worth }

-- ---- a level of a type

module _ (steps : ℕ) (s : Scope) (t : StType) (i : Option (Initial ℕ)) where
  pub at_level : (n : ℕ) (x : StType-F StType) → suc n ≡ steps → out-StType t ≡ x → (u : Scope) (e : List (TypeDecl ℕ)) → level_worth u e (worth_within u e n) s t x i ≡ worth_within u e steps s t i
  at_level n x q o u e = ap (λ (y : StType-F StType). level_worth u e (worth_within u e n) s t y i) (sym o) ∙ ap (λ (m : ℕ). worth_within u e m s t i) q

  pub no_steps : steps ≡ 0 → (u : Scope) (e : List (TypeDecl ℕ)) → worth_within u e steps s t i ≡ None
  no_steps z u e = ap (λ (m : ℕ). worth_within u e m s t i) z

-- ---- a structure by other values for its names

module _ (u : Scope) (e : List (TypeDecl ℕ)) (f : Scope → StType → Option (Initial ℕ) → Option Worth) (s : Scope) (i j : Option (Initial ℕ)) (same : (name : List ℕ) → given_for name i ≡ given_for name j) where
  names_by : (g : FieldGroup ℕ) (ns : List Name) (o p : Option Worths) → o ≡ p → names_worth u e f s i g ns o ≡ names_worth u e f s j g ns p
  names_by g [] o p q = q
  names_by g (n ∷ ns) o p q = let r = names_by g ns o p q in let h = same n.text in λ k. worth_before (field_worth u e f s g (h k)) (r k)

  pub groups_by : (gs : List (FieldGroup ℕ)) → groups_worth u e f s i gs ≡ groups_worth u e f s j gs
  groups_by [] = refl
  groups_by (g ∷ gs) = names_by g g.names (groups_worth u e f s i gs) (groups_worth u e f s j gs) (groups_by gs)

pub structure_by : (n : ℕ) (s : Scope) (k : ℕ) (i : Option (Initial ℕ)) (fs : List (FieldInit ℕ)) → ((name : List ℕ) → given_for name i ≡ given_named name (fields_of fs)) → (u : Scope) (e : List (TypeDecl ℕ))
    → worth_within u e (suc n) s (type.Structure k) (fields_as fs) ≡ worth_within u e (suc n) s (type.Structure k) i
structure_by n s k i fs same u e =
    let o = type.outs-Structure k in
    ap (λ (y : StType-F StType). level_worth u e (worth_within u e n) s (type.Structure k) y (fields_as fs)) o
    ∙ ap (option_map some_parts) (groups_by u e (worth_within u e n) s (fields_as fs) i (λ name. sym (same name)) (groups_of (slice_get e k)))
    ∙ ap (λ (y : StType-F StType). level_worth u e (worth_within u e n) s (type.Structure k) y i) (sym o)

-- ---- the groups of a structure

module _ (u : Scope) (e : List (TypeDecl ℕ)) (f : Scope → StType → Option (Initial ℕ) → Option Worth) (s : Scope) (i : Option (Initial ℕ)) where
  pub groups_are : (gs : List (FieldGroup ℕ)) → groups_behind u e f s i gs (Some no_worths) ≡ groups_worth u e f s i gs
  groups_are [] = refl
  groups_are (g ∷ gs) = ap (names_worth u e f s i g g.names) (groups_are gs)

  pub last_name : (g : FieldGroup ℕ) (ns : List Name) (n : Name) (o : Option Worths) → names_worth u e f s i g (ns ++ n ∷ []) o ≡ names_worth u e f s i g ns (worth_before (field_worth u e f s g (given_for n.text i)) o)
  last_name g [] n o = refl
  last_name g (m ∷ ns) n o = ap (worth_before (field_worth u e f s g (given_for m.text i))) (last_name g ns n o)

  pub no_name : (g : FieldGroup ℕ) (ns : List Name) → names_worth u e f s i g ns None ≡ None
  no_name g [] = refl
  no_name g (m ∷ ns) = ap (worth_before (field_worth u e f s g (given_for m.text i))) (no_name g ns) ∙ before_none (field_worth u e f s g (given_for m.text i))

  pub last_group : (gs : List (FieldGroup ℕ)) (g : FieldGroup ℕ) (o : Option Worths) → groups_behind u e f s i (gs ++ g ∷ []) o ≡ groups_behind u e f s i gs (names_worth u e f s i g g.names o)
  last_group [] g o = refl
  last_group (h ∷ gs) g o = ap (names_worth u e f s i h h.names) (last_group gs g o)

  pub no_group : (gs : List (FieldGroup ℕ)) → groups_behind u e f s i gs None ≡ None
  no_group [] = refl
  no_group (h ∷ gs) = ap (names_worth u e f s i h h.names) (no_group gs) ∙ no_name h h.names

-- ---- structures by number

module _ (nodes : List Node) (u : Scope) (e : List (TypeDecl ℕ)) where
  -- a structure that takes more steps has no worth
  pub too_many : (xs : List Structure) (k n : ℕ) (x : Structure) (s : Scope) (i : Option (Initial ℕ)) → AreStructures nodes u e (suc k) xs → slice_get xs n ≡ Some x → suc k < x.steps → suc k ≤ 66 → worth_within u e (suc k) s (type.Structure n) i ≡ None
  too_many xs k n x s i a q l m = (step_laws u e).none (suc k) s (type.Structure n) i ((a.each n x q).steps.is (suc k) m ∙ above x.steps (suc k) l)
    where
      above : (a b : ℕ) → b < a → nat_le a b ≡ false
      above a b l = elim (cases_Bool (nat_le a b)) [
        | inl y ↦ let z : a ≤ b = leb-true a b y in absurd (omega (arith, z, l))
        | inr n ↦ n
      ]

  pub structure_is : (k n : ℕ) (x : Structure) (s : Scope) (i : Option (Initial ℕ)) → IsStructure nodes u e (suc k) n x
      → option_map some_parts (groups_behind u e (worth_within u e k) s i (map (λ g. g.declared.now) x.groups.items) (Some no_worths)) ≡ worth_within u e (suc k) s (type.Structure n) i
  structure_is k n x s i h =
      ap (option_map some_parts) (groups_are u e (worth_within u e k) s i (map (λ g. g.declared.now) x.groups.items) ∙ ap (groups_worth u e (worth_within u e k) s i) h.declared)
      ∙ ap (λ (y : StType-F StType). level_worth u e (worth_within u e k) s (type.Structure n) y i) (sym (type.outs-Structure n))

  none_there : (xs : List (TypeDecl ℕ)) (n : ℕ) → length xs ≤ n → slice_get xs n ≡ None
  none_there [] n l = refl
  none_there (x ∷ xs) zero l = absurd (omega (arith, l))
  none_there (x ∷ xs) (suc n) l = none_there xs n (omega (arith, l))

  past_all : (xs : List Structure) (n : ℕ) → slice_get xs n ≡ None → length xs ≤ n
  past_all [] n q = omega arith
  past_all (x ∷ xs) zero q = absurd (cc)
  past_all (x ∷ xs) (suc n) q = let l = past_all xs n q in omega (arith, l)

  -- what is not there has no fields
  pub no_structure : (xs : List Structure) (k n : ℕ) (s : Scope) (i : Option (Initial ℕ)) → AreStructures nodes u e (suc k) xs → slice_get xs n ≡ None → Some (some_parts no_worths) ≡ worth_within u e (suc k) s (type.Structure n) i
  no_structure xs k n s i a q =
      let l = past_all xs n q in
      let long = a.long in
      let far : length e ≤ n = omega (arith, l, long) in
      ap (λ (o : Option (TypeDecl ℕ)). option_map some_parts (groups_worth u e (worth_within u e k) s i (groups_of o))) (sym (none_there e n far))
      ∙ ap (λ (y : StType-F StType). level_worth u e (worth_within u e k) s (type.Structure n) y i) (sym (type.outs-Structure n))

-- ---- wholes

pub makes_whole : (old new : List Node) (l : Listed) (k : ℕ) → GivesWhole old new l k → MakesWhole old new (Some l) (Some k)
makes_whole old new l k h = record { grows = h.grows; told = by }
  where
    by : (o : Option Worths) → IsToldList old (Some l) o → IsTold new (Some k) (option_map some_parts o)
    by None t = absurd t
    by (Some ws) t = h.worth ws t

pub makes_none : (nodes : List Node) → MakesWhole nodes nodes None None
makes_none nodes = record { grows = grows_self nodes; told = by }
  where
    by : (o : Option Worths) → IsToldList nodes None o → IsTold nodes None (option_map some_parts o)
    by None t = tt
    by (Some ws) t = absurd t

pub whole_found : (old mid new : List Node) (xs : List Structure) (steps : ℕ) (l : Option Listed) (r : Option ℕ) (f : Scope → List (TypeDecl ℕ) → Option Worths) → FindsList old mid xs steps l f → MakesWhole mid new l r
    → Finds old new xs steps r (λ u e. option_map some_parts (f u e))
whole_found old mid new xs steps l r f h m = record { grows = grows_through old mid new h.grows m.grows; told = λ u e a q. m.told (f u e) (h.told u e a q) }

-- ---- elements

module _ (xs : List Structure) (steps : ℕ) (f : Scope → List (TypeDecl ℕ) → Option (Initial ℕ) → Option Worth) (room rest : ℕ) (ps : List (CodePart ℕ)) (there : rest ≡ room_after room (map part_of ps)) (old mid new : List Node) (end : Listed) (empty : GivesEmpty old mid end) where
  elements_same : (u : Scope) (e : List (TypeDecl ℕ)) → parts_worth (f u e) room (map part_of ps) (repeat_before rest (f u e None) (Some no_worths)) ≡ elements_worth (f u e) room (parts_listed (parts_of ps))
  elements_same u e = ap (λ (n : ℕ). parts_worth (f u e) room (map part_of ps) (repeat_before n (f u e None) (Some no_worths))) there ∙ sym (elements_are (f u e) room (map part_of ps))

  pub elements_none : Puts mid new (λ u e. AreStructures mid u e steps xs × (steps ≤ 66)) end None (λ u e o. repeat_before rest (f u e None) o)
      → FindsList old new xs steps None (λ u e. elements_worth (f u e) room (parts_listed (parts_of ps)))
  elements_none p = record {
    grows = grows_through old mid new empty.grows p.grows;
    told = λ u e a m. by u e (repeat_before rest (f u e None) (Some no_worths)) refl (p.told u e (structures_stay old mid empty.grows u e steps xs a, m) no_worths empty.worths);
  }
    where
      by : (u : Scope) (e : List (TypeDecl ℕ)) (o : Option Worths) → repeat_before rest (f u e None) (Some no_worths) ≡ o → IsToldList new None o → IsToldList new None (elements_worth (f u e) room (parts_listed (parts_of ps)))
      by u e None q t = subst (λ (o : Option Worths). IsToldList new None o) (sym (no_part (f u e) room (map part_of ps)) ∙ ap (parts_worth (f u e) room (map part_of ps)) (sym q) ∙ elements_same u e) tt
      by u e (Some ws) q t = absurd t

  pub elements_none_as : (b : Option Listed) → b ≡ None → Puts mid new (λ u e. AreStructures mid u e steps xs × (steps ≤ 66)) end b (λ u e o. repeat_before rest (f u e None) o)
      → FindsList old new xs steps None (λ u e. elements_worth (f u e) room (parts_listed (parts_of ps)))
  elements_none_as b q p = elements_none (subst (λ (x : Option Listed). Puts mid new (λ u e. AreStructures mid u e steps xs × (steps ≤ 66)) end x (λ u e o. repeat_before rest (f u e None) o)) q p)

  elements_found : (last : List Node) (l : Listed) (r : Option Listed) → Puts mid new (λ u e. AreStructures mid u e steps xs × (steps ≤ 66)) end (Some l) (λ u e o. repeat_before rest (f u e None) o)
      → Puts new last (λ u e. AreStructures new u e steps xs × (steps ≤ 66)) l r (λ u e o. parts_worth (f u e) room (map part_of ps) o)
      → FindsList old last xs steps r (λ u e. elements_worth (f u e) room (parts_listed (parts_of ps)))
  elements_found last l r p h = record {
    grows = grows_through old mid last empty.grows (grows_through mid new last p.grows h.grows);
    told = λ u e a m.
        let b = structures_stay old mid empty.grows u e steps xs a in
        let c = structures_stay mid new p.grows u e steps xs b in
        subst (λ (o : Option Worths). IsToldList last r o) (elements_same u e) (by u e (c, m) (repeat_before rest (f u e None) (Some no_worths)) (p.told u e (b, m) no_worths empty.worths));
  }
    where
      by : (u : Scope) (e : List (TypeDecl ℕ)) → AreStructures new u e steps xs × (steps ≤ 66) → (o : Option Worths) → IsToldList new (Some l) o → IsToldList last r (parts_worth (f u e) room (map part_of ps) o)
      by u e known None t = absurd t
      by u e known (Some ws) t = h.told u e known ws t

  pub elements_found_as : (last : List Node) (l : Listed) (r b : Option Listed) → b ≡ Some l → Puts mid new (λ u e. AreStructures mid u e steps xs × (steps ≤ 66)) end b (λ u e o. repeat_before rest (f u e None) o)
      → Puts new last (λ u e. AreStructures new u e steps xs × (steps ≤ 66)) l r (λ u e o. parts_worth (f u e) room (map part_of ps) o)
      → FindsList old last xs steps r (λ u e. elements_worth (f u e) room (parts_listed (parts_of ps)))
  elements_found_as last l r b q p h = elements_found last l r (subst (λ (x : Option Listed). Puts mid new (λ u e. AreStructures mid u e steps xs × (steps ≤ 66)) end x (λ u e o. repeat_before rest (f u e None) o)) q p) h

-- ---- many

pub many_found : (old mid new : List Node) (xs : List Structure) (steps times : ℕ) (n : Option ℕ) (behind : Listed) (r : Option Listed) (worth : Scope → List (TypeDecl ℕ) → Option Worth)
    → Finds old mid xs steps n worth → PutsFound mid new times n behind r → Puts old new (λ u e. AreStructures old u e steps xs × (steps ≤ 66)) behind r (λ u e o. repeat_before times (worth u e) o)
many_found old mid new xs steps times n behind r worth h p = record {
  grows = grows_through old mid new h.grows p.grows;
  told = λ u e known ws t. p.told (worth u e) (h.told u e known.0 known.1) ws (parts_stay old mid h.grows behind ws t);
}

-- ---- structures

module _ (xs : List Structure) (steps n : ℕ) (s : Scope) (fs : List (FieldInit ℕ)) (old mid : List Node) (end : Listed) (empty : GivesEmpty old mid end) where
  groups_found : (x : Structure) (last new : List Node) (l : Option Listed) (r : Option ℕ) → slice_get xs n ≡ Some x → x.steps ≤ suc steps
      → Puts mid last (λ u e. AreStructures mid u e steps xs × (steps ≤ 66) × AreGroups mid u e steps x.groups.items) end l (λ u e o. groups_behind u e (worth_within u e steps) s (fields_as fs) (map (λ g. g.declared.now) x.groups.items) o)
      → MakesWhole last new l r → Finds old new xs (suc steps) r (λ u e. worth_within u e (suc steps) s (type.Structure n) (fields_as fs))
  groups_found x last new l r q w p h = record {
    grows = grows_through old mid new empty.grows (grows_through mid last new p.grows h.grows);
    told = λ u e a m.
        let b = structures_stay old mid empty.grows u e (suc steps) xs a in
        let y = b.each n x q in
        let low : steps ≤ 66 = omega (arith, m) in
        let under : steps ≤ suc steps = omega arith in
        let enough : suc steps ≤ suc steps = omega arith in
        subst (λ (o : Option Worth). IsTold new r o) (structure_is mid u e steps n x s (fields_as fs) y)
        (h.told (groups_behind u e (worth_within u e steps) s (fields_as fs) (map (λ g. g.declared.now) x.groups.items) (Some no_worths)) (p.told u e (structures_less mid u e steps (suc steps) xs under b, low, y.groups steps w enough) no_worths empty.worths));
  }

  pub structure_found : (x : Structure) (gs : List Group) (last new : List Node) (l : Option Listed) (r : Option ℕ) → slice_get xs n ≡ Some x → x.steps ≤ suc steps → gs ≡ x.groups.items
      → Puts mid last (λ u e. AreStructures mid u e steps xs × (steps ≤ 66) × AreGroups mid u e steps gs) end l (λ u e o. groups_behind u e (worth_within u e steps) s (fields_as fs) (map (λ g. g.declared.now) gs) o)
      → MakesWhole last new l r → Finds old new xs (suc steps) r (λ u e. worth_within u e (suc steps) s (type.Structure n) (fields_as fs))
  structure_found x gs last new l r q w same put h =
      groups_found x last new l r q w (subst (λ (ys : List Group). Puts mid last (λ u e. AreStructures mid u e steps xs × (steps ≤ 66) × AreGroups mid u e steps ys) end l (λ u e o. groups_behind u e (worth_within u e steps) s (fields_as fs) (map (λ g. g.declared.now) ys) o)) same put) h

  pub structure_not_there : (new : List Node) (r : Option ℕ) → slice_get xs n ≡ None → MakesWhole mid new (Some end) r → Finds old new xs (suc steps) r (λ u e. worth_within u e (suc steps) s (type.Structure n) (fields_as fs))
  structure_not_there new r q h = record {
    grows = grows_through old mid new empty.grows h.grows;
    told = λ u e a m. subst (λ (o : Option Worth). IsTold new r o) (no_structure old u e xs steps n s (fields_as fs) a q) (h.told (Some no_worths) empty.worths);
  }

pub structure_too_deep : (nodes : List Node) (xs : List Structure) (steps n : ℕ) (x : Structure) (s : Scope) (fs : List (FieldInit ℕ)) → slice_get xs n ≡ Some x → suc steps < x.steps → Finds nodes nodes xs (suc steps) None (λ u e. worth_within u e (suc steps) s (type.Structure n) (fields_as fs))
structure_too_deep nodes xs steps n x s fs q l = finds_none nodes xs (suc steps) (λ u e. worth_within u e (suc steps) s (type.Structure n) (fields_as fs)) (λ u e a m. too_many nodes u e xs steps n x s (fields_as fs) a q l m)

-- ---- steps of the loops

map_last : {X Y : Type 0} (f : X → Y) (xs : List X) (x : X) → map f (xs ++ x ∷ []) ≡ map f xs ++ f x ∷ []
map_last f [] x = refl
map_last f (y ∷ xs) x = ap (λ ys. f y ∷ ys) (map_last f xs x)

map_both : {X Y : Type 0} (f : X → Y) (xs ys : List X) → map f (xs ++ ys) ≡ map f xs ++ map f ys
map_both f [] ys = refl
map_both f (x ∷ xs) ys = ap (λ zs. f x ∷ zs) (map_both f xs ys)

length_map : {X Y : Type 0} (f : X → Y) (xs : List X) → length (map f xs) ≡ length xs
length_map f [] = refl
length_map f (x ∷ xs) = ap suc (length_map f xs)

grouped : {X : Type 0} (xs : List X) (y : X) (ys : List X) → (xs ++ y ∷ []) ++ ys ≡ xs ++ y ∷ ys
grouped [] y ys = refl
grouped (x ∷ xs) y ys = ap (λ zs. x ∷ zs) (grouped xs y ys)

-- the room before a part
pub room_before : (room : ℕ) (left before right : List (CodePart ℕ)) (p : CodePart ℕ) → left ≡ before ++ p ∷ [] → get_or (rooms room (map part_of (left ++ right))) (length before) 0 ≡ room_after room (map part_of before)
room_before room left before right p e =
    ap (λ xs. get_or (rooms room (map part_of (xs ++ right))) (length before) 0) e
    ∙ ap (λ xs. get_or (rooms room (map part_of xs)) (length before) 0) (grouped before p right)
    ∙ ap (λ xs. get_or (rooms room xs) (length before) 0) (map_both part_of before (p ∷ right))
    ∙ ap (λ n. get_or (rooms room (map part_of before ++ part_of p ∷ map part_of right)) n 0) (sym (length_map part_of before))
    ∙ room_there room (map part_of before) (part_of p ∷ map part_of right)

pub part_step : (f : Option (Initial ℕ) → Option Worth) (room times : ℕ) (left before right : List (CodePart ℕ)) (p : CodePart ℕ) (i : Option (Initial ℕ)) → left ≡ before ++ p ∷ []
    → times ≡ min (part_count (part_of p)) (get_or (rooms room (map part_of (left ++ right))) (length before) 0) → i ≡ Some (given_by (part_of p)) → (o : Option Worths)
    → parts_worth f room (map part_of left) o ≡ parts_worth f room (map part_of before) (repeat_before times (f i) o)
part_step f room times left before right p i e t v o =
    let n = t ∙ ap (min (part_count (part_of p))) (room_before room left before right p e) in
    ap (λ xs. parts_worth f room (map part_of xs) o) e
    ∙ ap (λ xs. parts_worth f room xs o) (map_last part_of before p)
    ∙ last_part f room (map part_of before) (part_of p) o
    ∙ (λ k. parts_worth f room (map part_of before) (repeat_before (sym n k) (f (sym v k)) o))

module _ (u : Scope) (e : List (TypeDecl ℕ)) (f : Scope → StType → Option (Initial ℕ) → Option Worth) (s : Scope) (fs : List (FieldInit ℕ)) where
  pub name_step : (g : FieldGroup ℕ) (left before : List Name) (n : Name) (i : Option (Initial ℕ)) → left ≡ before ++ n ∷ [] → i ≡ given_named n.text (fields_of fs) → (o : Option Worths)
      → names_worth u e f s (fields_as fs) g left o ≡ names_worth u e f s (fields_as fs) g before (worth_before (field_worth u e f s g i) o)
  name_step g left before n i q v o =
      ap (λ ns. names_worth u e f s (fields_as fs) g ns o) q ∙ last_name u e f s (fields_as fs) g before n o
      ∙ ap (λ j. names_worth u e f s (fields_as fs) g before (worth_before (field_worth u e f s g j) o)) (sym v)

  pub group_step : (left before : List Group) (x : Group) → left ≡ before ++ x ∷ [] → (o : Option Worths)
      → groups_behind u e f s (fields_as fs) (map (λ g. g.declared.now) left) o
      ≡ groups_behind u e f s (fields_as fs) (map (λ g. g.declared.now) before) (names_worth u e f s (fields_as fs) x.declared.now x.declared.now.names o)
  group_step left before x q o =
      ap (λ xs. groups_behind u e f s (fields_as fs) (map (λ g. g.declared.now) xs) o) q
      ∙ ap (λ gs. groups_behind u e f s (fields_as fs) gs o) (map_last (λ g. g.declared.now) before x)
      ∙ last_group u e f s (fields_as fs) (map (λ g. g.declared.now) before) x.declared.now o

-- ---- fields

-- a field that is given, by the type that is noted for its group
pub field_given : (old new : List Node) (xs : List Structure) (steps : ℕ) (s : Scope) (x : Group) (i : Initial ℕ) (behind : Listed) (r : Option Listed)
    → Puts old new (λ u e. AreStructures old u e steps xs × (steps ≤ 66) × IsGroup old u e steps x) behind r (λ u e o. worth_before (typed_worth u e (worth_within u e steps) s x.kind (Some i)) o)
    → Puts old new (λ u e. AreStructures old u e steps xs × (steps ≤ 66) × IsGroup old u e steps x) behind r (λ u e o. worth_before (field_worth u e (worth_within u e steps) s x.declared.now (Some i)) o)
field_given old new xs steps s x i behind r p = record {
  grows = p.grows;
  told = λ u e known ws h. subst (λ (k : Option StType). IsToldList new r (worth_before (typed_worth u e (worth_within u e steps) s k (Some i)) (Some ws))) known.2.kind (p.told u e known ws h);
}

pub field_given_as : (old new : List Node) (xs : List Structure) (steps : ℕ) (s : Scope) (x : Group) (o : Option (Initial ℕ)) (i : Initial ℕ) (behind : Listed) (r : Option Listed) → o ≡ Some i
    → Puts old new (λ u e. AreStructures old u e steps xs × (steps ≤ 66) × IsGroup old u e steps x) behind r (λ u e z. worth_before (typed_worth u e (worth_within u e steps) s x.kind o) z)
    → Puts old new (λ u e. AreStructures old u e steps xs × (steps ≤ 66) × IsGroup old u e steps x) behind r (λ u e z. worth_before (field_worth u e (worth_within u e steps) s x.declared.now o) z)
field_given_as old new xs steps s x o i behind r q p =
    subst (λ (j : Option (Initial ℕ)). Puts old new (λ u e. AreStructures old u e steps xs × (steps ≤ 66) × IsGroup old u e steps x) behind r (λ u e z. worth_before (field_worth u e (worth_within u e steps) s x.declared.now j) z)) (sym q)
    (field_given old new xs steps s x i behind r
    (subst (λ (j : Option (Initial ℕ)). Puts old new (λ u e. AreStructures old u e steps xs × (steps ≤ 66) × IsGroup old u e steps x) behind r (λ u e z. worth_before (typed_worth u e (worth_within u e steps) s x.kind j) z)) q p))

-- a field that is not given
pub field_declared : (old new : List Node) (xs : List Structure) (steps : ℕ) (s : Scope) (x : Group) (behind : Listed) (r : Option Listed) → PutsFound old new 1 x.worth behind r
    → Puts old new (λ u e. AreStructures old u e steps xs × (steps ≤ 66) × IsGroup old u e steps x) behind r (λ u e o. worth_before (field_worth u e (worth_within u e steps) s x.declared.now None) o)
field_declared old new xs steps s x behind r p = record { grows = p.grows; told = λ u e known ws h. p.told _ known.2.worth ws h }

-- a type that cannot be told
pub kind_untold : (nodes : List Node) (xs : List Structure) (steps : ℕ) (s : Scope) (x : Group) (i : Option (Initial ℕ)) (behind : Listed) → x.kind ≡ None
    → Puts nodes nodes (λ u e. AreStructures nodes u e steps xs × (steps ≤ 66) × IsGroup nodes u e steps x) behind None (λ u e o. worth_before (typed_worth u e (worth_within u e steps) s x.kind i) o)
kind_untold nodes xs steps s x i behind q = record {
  grows = grows_self nodes;
  told = λ u e known ws h. subst (λ (k : Option StType). IsToldList nodes None (worth_before (typed_worth u e (worth_within u e steps) s k i) (Some ws))) (sym q) tt;
}

-- a type that is told
pub kind_told : (old new : List Node) (xs : List Structure) (steps : ℕ) (s : Scope) (x : Group) (t : StType) (i : Option (Initial ℕ)) (behind : Listed) (r : Option Listed) → x.kind ≡ Some t
    → Puts old new (λ u e. AreStructures old u e steps xs × (steps ≤ 66)) behind r (λ u e o. repeat_before 1 (worth_within u e steps s t i) o)
    → Puts old new (λ u e. AreStructures old u e steps xs × (steps ≤ 66) × IsGroup old u e steps x) behind r (λ u e o. worth_before (typed_worth u e (worth_within u e steps) s x.kind i) o)
kind_told old new xs steps s x t i behind r q p = record {
  grows = p.grows;
  told = λ u e known ws h. subst (λ (k : Option StType). IsToldList new r (worth_before (typed_worth u e (worth_within u e steps) s k i) (Some ws))) (sym q) (p.told u e (known.0, known.1) ws h);
}

-- ---- numbers

module _ (u : Scope) (e : List (TypeDecl ℕ)) (s : Scope) (t : StType) (i : Init ℕ) where
  pub value_number : (x : Expr ℕ) (v : Option ℤ) → i ≡ code.Value x → v ≡ told_value s (asked_of (Some t)) (expression_of x) → option_map a_number v ≡ number_worth u e s t (Some (initial_of i))
  value_number x v q h = ap (option_map a_number) h ∙ ap (λ j. number_worth u e s t (Some j)) (sym (ap initial_of q ∙ initial_of-Value x))

  pub array_number : (l : ℕ) (ps : List (CodePart ℕ)) → i ≡ code.Array l ps → None ≡ number_worth u e s t (Some (initial_of i))
  array_number l ps q = ap (λ j. number_worth u e s t (Some j)) (sym (ap initial_of q ∙ initial_of-Array l ps))

  pub fields_number : (l : ℕ) (fs : List (FieldInit ℕ)) → i ≡ code.Fields l fs → None ≡ number_worth u e s t (Some (initial_of i))
  fields_number l fs q = ap (λ j. number_worth u e s t (Some j)) (sym (ap initial_of q ∙ initial_of-Fields l fs))

pub number_found : (old new : List Node) (xs : List Structure) (steps : ℕ) (v : Option ℤ) (r : Option ℕ) (f : Scope → List (TypeDecl ℕ) → Option Worth) → ((u : Scope) (e : List (TypeDecl ℕ)) → option_map a_number v ≡ f u e)
    → FindsNumber old new v r → Finds old new xs steps r f
number_found old new xs steps v r f same h = record { grows = h.grows; told = λ u e a m. subst (λ (o : Option Worth). IsTold new r o) (same u e) h.told }

-- ---- so many of what is found

pub found_some : (old new : List Node) (times n : ℕ) (behind l : Listed) → GivesLonger old new times n behind l → PutsFound old new times (Some n) behind (Some l)
found_some old new times n behind l p = record { grows = p.grows; told = by }
  where
    by : (w : Option Worth) → IsTold old (Some n) w → (ws : Worths) → HasParts old behind ws → IsToldList new (Some l) (repeat_before times w (Some ws))
    by None t ws h = absurd t
    by (Some w) t ws h = subst (λ (o : Option Worths). IsToldList new (Some l) o) (sym (told_repeat times w ws)) (p.worths w ws t h)

pub found_none : (nodes : List Node) (times : ℕ) (behind : Listed) → 0 < times → PutsFound nodes nodes times None behind None
found_none nodes times behind some = record { grows = grows_self nodes; told = by }
  where
    by : (w : Option Worth) → IsTold nodes None w → (ws : Worths) → HasParts nodes behind ws → IsToldList nodes None (repeat_before times w (Some ws))
    by None t ws h = subst (λ (o : Option Worths). IsToldList nodes None o) (sym (untold_repeat times (Some ws) some)) tt
    by (Some w) t ws h = absurd t

-- the room behind all parts
pub room_behind : (room : ℕ) (ps : List (CodePart ℕ)) → get_or (rooms room (map part_of ps)) (length ps) 0 ≡ room_after room (map part_of ps)
room_behind room [] = refl
room_behind room (p ∷ ps) = room_behind (room - part_count (part_of p)) ps

-- ---- arms of the walk

module _ (old new : List Node) (xs : List Structure) (steps : ℕ) (s : Scope) (t : StType) (i : Option (Initial ℕ)) (some : 0 < steps) where
  next_is : suc (steps - 1) ≡ steps
  next_is = omega (arith, some)

  low : steps - 1 ≤ steps
  low = omega arith

  level : steps ≤ steps
  level = omega arith

  out_as : (a : StType) (x : StType-F StType) → t ≡ a → out-StType a ≡ x → out-StType t ≡ x
  out_as a x e o = ap out-StType e ∙ o

  pub array_arm : (r : Option ℕ) (lowest highest : ℤ) (of elements : StType) (room : ℕ) (ps : List (CodePart ℕ)) → t ≡ type.Array lowest highest of → elements ≡ of → room ≡ count_to (highest -ℤ lowest) → list_given i ≡ parts_listed (parts_of ps)
      → Finds old new xs (steps - 1) r (λ u e. option_map some_parts (elements_worth (worth_within u e (steps - 1) s elements) room (parts_listed (parts_of ps)))) → Finds old new xs steps r (λ u e. worth_within u e steps s t i)
  array_arm r lowest highest of elements room ps e same count given h =
      finds_as old new xs (steps - 1) steps r _ (λ u e. worth_within u e steps s t i) low
      (λ u f. (λ k. option_map some_parts (elements_worth (worth_within u f (steps - 1) s (same k)) (count k) (sym given k)))
      ∙ at_level steps s t i (steps - 1) (StType-F.Array lowest highest of) next_is (out_as (type.Array lowest highest of) (StType-F.Array lowest highest of) e (type.outs-Array lowest highest of)) u f)
      h

  pub structure_arm : (r : Option ℕ) (k : ℕ) (fs : List (FieldInit ℕ)) → t ≡ type.Structure k → ((name : List ℕ) → given_for name i ≡ given_named name (fields_of fs))
      → Finds old new xs (suc (steps - 1)) r (λ u e. worth_within u e (suc (steps - 1)) s (type.Structure k) (fields_as fs)) → Finds old new xs steps r (λ u e. worth_within u e steps s t i)
  structure_arm r k fs e given h =
      finds_as old new xs (suc (steps - 1)) steps r (λ u f. worth_within u f (suc (steps - 1)) s (type.Structure k) (fields_as fs)) (λ u f. worth_within u f steps s t i) (subst (λ (n : ℕ). n ≤ steps) (sym next_is) level)
      (λ u f. structure_by (steps - 1) s k i fs given u f ∙ (λ j. worth_within u f (next_is j) s (sym e j) i))
      h

  pub reference_arm : (n c : ℕ) → t ≡ type.Reference c → Gives old new n nothing_held → Finds old new xs steps (Some n) (λ u e. worth_within u e steps s t i)
  reference_arm n c e h =
      finds_some old new xs steps n nothing_held (λ u f. worth_within u f steps s t i)
      (λ u f. sym (at_level steps s t i (steps - 1) (StType-F.Reference c) next_is (out_as (type.Reference c) (StType-F.Reference c) e (type.outs-Reference c)) u f)) h

  pub interface_arm : (n k : ℕ) → t ≡ type.Interface k → Gives old new n nothing_held → Finds old new xs steps (Some n) (λ u e. worth_within u e steps s t i)
  interface_arm n k e h =
      finds_some old new xs steps n nothing_held (λ u f. worth_within u f steps s t i)
      (λ u f. sym (at_level steps s t i (steps - 1) (StType-F.Interface k) next_is (out_as (type.Interface k) (StType-F.Interface k) e (type.outs-Interface k)) u f)) h

  pub elementary_arm : (r : Option ℕ) (x : Elem) → t ≡ type.Elementary x → Finds old new xs steps r (λ u e. number_worth u e s t i) → Finds old new xs steps r (λ u e. worth_within u e steps s t i)
  elementary_arm r x e h =
      finds_as old new xs steps steps r (λ u f. number_worth u f s t i) (λ u f. worth_within u f steps s t i) level
      (λ u f. at_level steps s t i (steps - 1) (StType-F.Elementary x) next_is (out_as (type.Elementary x) (StType-F.Elementary x) e (type.outs-Elementary x)) u f) h

  pub enumeration_arm : (r : Option ℕ) (n : ℕ) → t ≡ type.Enumeration n → Finds old new xs steps r (λ u e. number_worth u e s t i) → Finds old new xs steps r (λ u e. worth_within u e steps s t i)
  enumeration_arm r n e h =
      finds_as old new xs steps steps r (λ u f. number_worth u f s t i) (λ u f. worth_within u f steps s t i) level
      (λ u f. at_level steps s t i (steps - 1) (StType-F.Enumeration n) next_is (out_as (type.Enumeration n) (StType-F.Enumeration n) e (type.outs-Enumeration n)) u f) h

pub instance_arm : (nodes : List Node) (xs : List Structure) (steps : ℕ) (s : Scope) (t : StType) (i : Option (Initial ℕ)) (c : ℕ) → 0 < steps → t ≡ type.Instance c → Finds nodes nodes xs steps None (λ u e. worth_within u e steps s t i)
instance_arm nodes xs steps s t i c some e =
    let next : suc (steps - 1) ≡ steps = omega (arith, some) in
    finds_none nodes xs steps (λ u f. worth_within u f steps s t i)
    (λ u f a m. sym (at_level steps s t i (steps - 1) (StType-F.Instance c) next (ap out-StType e ∙ type.outs-Instance c) u f))
