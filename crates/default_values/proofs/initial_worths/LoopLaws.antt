-- The loops of the walk: each goes from the end of a list to its front.
use Rattle.std.proofs.Common.{◌≡◌, ℕ, zero, suc, ◌-◌, ◌<◌, ◌≤◌, List, [], ◌∷◌, ◌++◌, Option, Some, None, map, take, length, get_or, refl, sym, ap, ◌∙◌, subst, arith}
use Rattle.std.specs.Prelude.{min}
use Rattle.st_tree.specs.declared.declaration.TypeDecl.{TypeDecl}
use Rattle.st_tree.specs.declared.initial.FieldInit.{FieldInit}
use Rattle.st_tree.specs.declared.initial.Part.{Part}
use Rattle.st_tree.specs.declared.name.Name.{Name}
use Rattle.st_tree.specs.Initial.{Initial, part_of, fields_of}
use Rattle.st_rules.specs.Scope.{Scope}
use Rattle.st_unit_rules.specs.Initials.{part_count}
use Rattle.st_unit_rules.specs.Worth.{Worth, Worths, worth_before, given_named, field_worth, names_worth, worth_within}
use Rattle.default_values.specs.declared.worth_numbers.node.Node.{Node}
use Rattle.default_values.specs.declared.worth_numbers.numbers.Listed.{Listed}
use Rattle.default_values.specs.worth_numbers.Numbers.{Grows}
use Rattle.default_values.specs.given_values.Lists.{given_by, repeat_before, rooms, parts_worth, fields_as, groups_behind}
use Rattle.default_values.proofs.given_values.PartLaws.{no_part}
use Rattle.default_values.specs.declared.initial_worths.structures.Structure.{Structure}
use Rattle.default_values.specs.declared.initial_worths.structures.Group.{Group}
use Rattle.default_values.specs.initial_worths.Structures.{IsGroup, IsNamed, AreGroups, AreStructures}
use Rattle.default_values.specs.initial_worths.Private.Puts.{Puts}
use Rattle.default_values.proofs.initial_worths.PutLaws.{group_stays, groups_stay, structures_stay, Goes, goes_first, goes_on, goes_no_more, goes_all}
use Rattle.default_values.proofs.initial_worths.WalkLaws.{no_name, no_group, part_step, name_step, group_step}

nothing_behind : {X : Type 0} (xs : List X) → xs ≡ xs ++ []
nothing_behind [] = refl
nothing_behind (x ∷ xs) = ap (λ ys. x ∷ ys) (nothing_behind xs)

one_longer : {X : Type 0} (xs : List X) (x : X) (ys : List X) → (xs ++ x ∷ []) ++ ys ≡ xs ++ x ∷ ys
one_longer [] x ys = refl
one_longer (y ∷ xs) x ys = ap (λ zs. y ∷ zs) (one_longer xs x ys)

one_more : {X : Type 0} (xs : List X) (x : X) → length (xs ++ x ∷ []) ≡ suc (length xs)
one_more [] x = refl
one_more (y ∷ xs) x = ap suc (one_more xs x)

nothing_left : {X : Type 0} (xs : List X) → length xs ≡ 0 → xs ≡ []
nothing_left [] z = refl
nothing_left (x ∷ xs) z = absurd (omega (arith, z))

-- ---- the parts of a list

module _ (xs : List Structure) (steps : ℕ) (f : Scope → List (TypeDecl ℕ) → Option (Initial ℕ) → Option Worth) (rs : List ℕ) (ps : List (Part ℕ)) (behind : Listed) (old : List Node) where
  abbrev pub PartsKnown : List Node → Scope → List (TypeDecl ℕ) → Type 0
  PartsKnown now u e = AreStructures now u e steps xs × (steps ≤ 66)

  abbrev pub listed : ℕ → List (Part ℕ) → Scope → List (TypeDecl ℕ) → Option Worths → Option Worths
  listed room qs u e o = parts_worth (f u e) room (map part_of qs) o

  pub record PartsGo (now : List Node) (list : Listed) (left : List (Part ℕ)) : Type 0 where
    pub right : List (Part ℕ)
    pub split : ps ≡ left ++ right
    pub goes : (room : ℕ) → rs ≡ rooms room (map part_of ps) → Goes (PartsKnown old) (listed room ps) behind old now list (listed room left)

  pub parts_begun : PartsGo old behind ps
  parts_begun = record { right = []; split = nothing_behind ps; goes = λ room r. goes_first (PartsKnown old) (listed room ps) behind old (listed room ps) (λ u e o. refl) }

  parts_known : (mid : List Node) → Grows old mid → (u : Scope) (e : List (TypeDecl ℕ)) → PartsKnown old u e → PartsKnown mid u e
  parts_known mid g u e k = (structures_stay old mid g u e steps xs k.0, k.1)

  module _ (mid new : List Node) (l : Listed) (left before : List (Part ℕ)) (p : Part ℕ) (times : ℕ) (i : Option (Initial ℕ)) (so_far : PartsGo mid l left) (last : left ≡ before ++ p ∷ [])
      (often : times ≡ min (part_count (part_of p)) (get_or rs (length before) 0)) (given : i ≡ Some (given_by (part_of p))) where
    part_goes : (room : ℕ) → rs ≡ rooms room (map part_of ps) → (u : Scope) (e : List (TypeDecl ℕ)) (o : Option Worths) → listed room left u e o ≡ listed room before u e (repeat_before times (f u e i) o)
    part_goes room r u e o =
        part_step (f u e) room times left before so_far.right p i last
        (often ∙ ap (λ ns. min (part_count (part_of p)) (get_or ns (length before) 0)) (r ∙ ap (λ qs. rooms room (map part_of qs)) so_far.split)) given o

    pub parts_next : (m : Listed) (r : Option Listed) → r ≡ Some m → Puts mid new (PartsKnown mid) l r (λ u e o. repeat_before times (f u e i) o) → PartsGo new m before
    parts_next m r q h = record {
      right = p ∷ so_far.right;
      split = so_far.split ∙ ap (λ qs. qs ++ so_far.right) last ∙ one_longer before p so_far.right;
      goes = λ room z.
          goes_on (PartsKnown old) (listed room ps) behind old (listed room left) (listed room before) (λ u e o. repeat_before times (f u e i) o) (part_goes room z) mid new (PartsKnown mid) l (parts_known mid) (so_far.goes room z) m
          (subst (λ (o : Option Listed). Puts mid new (PartsKnown mid) l o (λ u e o. repeat_before times (f u e i) o)) q h);
    }

    pub parts_none : (r : Option Listed) → r ≡ None → Puts mid new (PartsKnown mid) l r (λ u e o. repeat_before times (f u e i) o) → (room : ℕ) → rs ≡ rooms room (map part_of ps) → Puts old new (PartsKnown old) behind None (listed room ps)
    parts_none r q h room z =
        goes_no_more (PartsKnown old) (listed room ps) behind old (listed room left) (listed room before) (λ u e o. repeat_before times (f u e i) o) (part_goes room z) mid new (PartsKnown mid) l (parts_known mid) (so_far.goes room z)
        (λ u e. no_part (f u e) room (map part_of before)) (subst (λ (o : Option Listed). Puts mid new (PartsKnown mid) l o (λ u e o. repeat_before times (f u e i) o)) q h)

  pub parts_done : (now : List Node) (l : Listed) (left : List (Part ℕ)) → PartsGo now l left → length left ≡ 0 → (room : ℕ) → rs ≡ rooms room (map part_of ps) → Puts old now (PartsKnown old) behind (Some l) (listed room ps)
  parts_done now l left so_far none room r =
      goes_all (PartsKnown old) (listed room ps) behind old now l (listed room left) (so_far.goes room r) (λ u e o. ap (λ qs. listed room qs u e o) (nothing_left left none))

-- ---- the names of a group

module _ (xs : List Structure) (steps : ℕ) (s : Scope) (x : Group) (names : List Name) (fs : List (FieldInit ℕ)) (behind : Listed) (old : List Node) where
  abbrev pub NamesKnown : List Node → Scope → List (TypeDecl ℕ) → Type 0
  NamesKnown now u e = AreStructures now u e steps xs × (steps ≤ 66) × (0 < length names → IsGroup now u e steps x)

  abbrev pub FieldKnown : List Node → Scope → List (TypeDecl ℕ) → Type 0
  FieldKnown now u e = AreStructures now u e steps xs × (steps ≤ 66) × IsGroup now u e steps x

  abbrev pub named : List Name → Scope → List (TypeDecl ℕ) → Option Worths → Option Worths
  named ns u e o = names_worth u e (worth_within u e steps) s (fields_as fs) x.declared.now ns o

  abbrev pub fielded : Option (Initial ℕ) → Scope → List (TypeDecl ℕ) → Option Worths → Option Worths
  fielded i u e o = worth_before (field_worth u e (worth_within u e steps) s x.declared.now i) o

  pub record NamesGo (now : List Node) (list : Listed) (left : List Name) : Type 0 where
    pub within : length left ≤ length names
    pub goes : Goes (NamesKnown old) (named names) behind old now list (named left)

  pub names_begun : NamesGo old behind names
  names_begun = record { within = omega arith; goes = goes_first (NamesKnown old) (named names) behind old (named names) (λ u e o. refl) }

  module _ (mid new : List Node) (l : Listed) (left before : List Name) (n : Name) (i : Option (Initial ℕ)) (so_far : NamesGo mid l left) (last : left ≡ before ++ n ∷ []) (given : i ≡ given_named n.text (fields_of fs)) where
    shorter : suc (length before) ≡ length left
    shorter = sym (ap length last ∙ one_more before n)

    names_known : Grows old mid → (u : Scope) (e : List (TypeDecl ℕ)) → NamesKnown old u e → FieldKnown mid u e
    names_known g u e k =
        let w = so_far.within in
        let m = shorter in
        let some : 0 < length names = omega (arith, w, m) in
        (structures_stay old mid g u e steps xs k.0, k.1, group_stays old mid g u e steps x (k.2 some))

    name_goes : (u : Scope) (e : List (TypeDecl ℕ)) (o : Option Worths) → named left u e o ≡ named before u e (fielded i u e o)
    name_goes u e o = name_step u e (worth_within u e steps) s fs x.declared.now left before n i last given o

    pub names_next : (m : Listed) (r : Option Listed) → r ≡ Some m → Puts mid new (FieldKnown mid) l r (fielded i) → NamesGo new m before
    names_next m r e h =
        let w = so_far.within in
        let q = shorter in
        record {
          within = omega (arith, w, q);
          goes = goes_on (NamesKnown old) (named names) behind old (named left) (named before) (fielded i) name_goes mid new (FieldKnown mid) l names_known so_far.goes m
              (subst (λ (o : Option Listed). Puts mid new (FieldKnown mid) l o (fielded i)) e h);
        }

    pub names_none : (r : Option Listed) → r ≡ None → Puts mid new (FieldKnown mid) l r (fielded i) → Puts old new (NamesKnown old) behind None (named names)
    names_none r e h =
        goes_no_more (NamesKnown old) (named names) behind old (named left) (named before) (fielded i) name_goes mid new (FieldKnown mid) l names_known so_far.goes
        (λ u e. no_name u e (worth_within u e steps) s (fields_as fs) x.declared.now before) (subst (λ (o : Option Listed). Puts mid new (FieldKnown mid) l o (fielded i)) e h)

  pub names_done : (now : List Node) (l : Listed) (left : List Name) → NamesGo now l left → length left ≡ 0 → Puts old now (NamesKnown old) behind (Some l) (named names)
  names_done now l left so_far none = goes_all (NamesKnown old) (named names) behind old now l (named left) so_far.goes (λ u e o. ap (λ ns. named ns u e o) (nothing_left left none))

-- the names of the group itself
pub group_named : (xs : List Structure) (steps : ℕ) (s : Scope) (x : Group) (names : List Name) (fs : List (FieldInit ℕ)) (behind : Listed) (old new : List Node) (r : Option Listed) → names ≡ x.declared.now.names
    → Puts old new (NamesKnown xs steps s x names fs behind old old) behind r (named xs steps s x names fs behind old names)
    → Puts old new (λ u e. AreStructures old u e steps xs × (steps ≤ 66) × IsNamed old u e steps x) behind r (λ u e o. names_worth u e (worth_within u e steps) s (fields_as fs) x.declared.now x.declared.now.names o)
group_named xs steps s x names fs behind old new r q p =
    subst (λ (ns : List Name). Puts old new (λ u e. AreStructures old u e steps xs × (steps ≤ 66) × (0 < length ns → IsGroup old u e steps x)) behind r (λ u e o. names_worth u e (worth_within u e steps) s (fields_as fs) x.declared.now ns o)) q p

-- ---- the groups of a structure

take_last : (xs : List Group) (n : ℕ) (x : Group) → n < length xs → x ≡ get_or xs n x → take (suc n) xs ≡ take n xs ++ x ∷ []
take_last [] n x l e = absurd (omega (arith, l))
take_last (y ∷ ys) zero x l e = ap (λ z. z ∷ []) (sym e)
take_last (y ∷ ys) (suc n) x l e = ap (λ zs. y ∷ zs) (take_last ys n x (omega (arith, l)) e)

take_all : (xs : List Group) → take (length xs) xs ≡ xs
take_all [] = refl
take_all (x ∷ xs) = ap (λ ys. x ∷ ys) (take_all xs)

group_there : (nodes : List Node) (u : Scope) (e : List (TypeDecl ℕ)) (k : ℕ) (xs : List Group) (n : ℕ) (x : Group) → n < length xs → x ≡ get_or xs n x → AreGroups nodes u e k xs → IsNamed nodes u e k x
group_there nodes u e k [] n x l q a = absurd (omega (arith, l))
group_there nodes u e k (y ∷ ys) zero x l q a = subst (λ (z : Group). IsNamed nodes u e k z) (sym q) a.0
group_there nodes u e k (y ∷ ys) (suc n) x l q a = group_there nodes u e k ys n x (omega (arith, l)) q a.1

module _ (xs : List Structure) (steps : ℕ) (s : Scope) (gs : List Group) (fs : List (FieldInit ℕ)) (behind : Listed) (old : List Node) where
  abbrev pub GroupsKnown : List Node → Scope → List (TypeDecl ℕ) → Type 0
  GroupsKnown now u e = AreStructures now u e steps xs × (steps ≤ 66) × AreGroups now u e steps gs

  abbrev pub NamedKnown : Group → List Node → Scope → List (TypeDecl ℕ) → Type 0
  NamedKnown x now u e = AreStructures now u e steps xs × (steps ≤ 66) × IsNamed now u e steps x

  abbrev pub grouped : List Group → Scope → List (TypeDecl ℕ) → Option Worths → Option Worths
  grouped ys u e o = groups_behind u e (worth_within u e steps) s (fields_as fs) (map (λ g. g.declared.now) ys) o

  abbrev pub of_group : Group → Scope → List (TypeDecl ℕ) → Option Worths → Option Worths
  of_group x u e o = names_worth u e (worth_within u e steps) s (fields_as fs) x.declared.now x.declared.now.names o

  pub record GroupsGo (now : List Node) (list : Listed) (place : ℕ) : Type 0 where
    pub within : place ≤ length gs
    pub goes : Goes (GroupsKnown old) (grouped gs) behind old now list (grouped (take place gs))

  pub groups_begun : (place : ℕ) → place ≡ length gs → GroupsGo old behind place
  groups_begun place q = record {
    within = omega (arith, q);
    goes = goes_first (GroupsKnown old) (grouped gs) behind old (grouped (take place gs)) (λ u e o. ap (λ ys. grouped ys u e o) (sym (ap (λ n. take n gs) q ∙ take_all gs)));
  }

  module _ (mid new : List Node) (l : Listed) (place before : ℕ) (x : Group) (so_far : GroupsGo mid l place) (some : 0 < place) (last : before ≡ place - 1) (there : x ≡ get_or gs before x) where
    next_is : suc before ≡ place
    next_is = omega (arith, some, last)

    below : before < length gs
    below = let w = so_far.within in let q = next_is in omega (arith, w, q)

    groups_known : Grows old mid → (u : Scope) (e : List (TypeDecl ℕ)) → GroupsKnown old u e → NamedKnown x mid u e
    groups_known g u e k = (structures_stay old mid g u e steps xs k.0, k.1, group_there mid u e steps gs before x below there (groups_stay old mid g u e steps gs k.2))

    group_goes : (u : Scope) (e : List (TypeDecl ℕ)) (o : Option Worths) → grouped (take place gs) u e o ≡ grouped (take before gs) u e (of_group x u e o)
    group_goes u e o = group_step u e (worth_within u e steps) s fs (take place gs) (take before gs) x (ap (λ n. take n gs) (sym next_is) ∙ take_last gs before x below there) o

    pub groups_next : (m : Listed) (r : Option Listed) → r ≡ Some m → Puts mid new (NamedKnown x mid) l r (of_group x) → GroupsGo new m before
    groups_next m r q h =
        let b = below in
        record {
          within = omega (arith, b);
          goes = goes_on (GroupsKnown old) (grouped gs) behind old (grouped (take place gs)) (grouped (take before gs)) (of_group x) group_goes mid new (NamedKnown x mid) l groups_known so_far.goes m
              (subst (λ (o : Option Listed). Puts mid new (NamedKnown x mid) l o (of_group x)) q h);
        }

    pub groups_none : (r : Option Listed) → r ≡ None → Puts mid new (NamedKnown x mid) l r (of_group x) → Puts old new (GroupsKnown old) behind None (grouped gs)
    groups_none r q h =
        goes_no_more (GroupsKnown old) (grouped gs) behind old (grouped (take place gs)) (grouped (take before gs)) (of_group x) group_goes mid new (NamedKnown x mid) l groups_known so_far.goes
        (λ u e. no_group u e (worth_within u e steps) s (fields_as fs) (map (λ g. g.declared.now) (take before gs)))
        (subst (λ (o : Option Listed). Puts mid new (NamedKnown x mid) l o (of_group x)) q h)

  pub groups_done : (now : List Node) (l : Listed) (place : ℕ) → GroupsGo now l place → place ≡ 0 → Puts old now (GroupsKnown old) behind (Some l) (grouped gs)
  groups_done now l place so_far none = goes_all (GroupsKnown old) (grouped gs) behind old now l (grouped (take place gs)) so_far.goes (λ u e o. ap (λ n. grouped (take n gs) u e o) none)
