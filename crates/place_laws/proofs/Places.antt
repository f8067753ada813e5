-- Places: roots and selectors that break no rule are as they are promised.
use Rattle.std.proofs.Common.{◌≡◌, ℕ, Bool, true, false, List, [], Option, Some, None, refl, sym, ap, ◌∙◌, subst, inl, inr, ◌⊎◌}
use Rattle.std.specs.Prelude.{◌&&◌, not, if◌then◌else◌, slice_get}
use Rattle.std.specs.Option.{is_none}
use Rattle.plc_text.specs.declared.code.Code.{Code}
use Rattle.plc_text.specs.declared.code.Code.TheVariants.{E05, E07, E10}
use Rattle.st_types.specs.declared.st_type.StType.{StType}
use Rattle.st_types.specs.declared.st_type.StType.TheVariants as type
use Rattle.st_tree.specs.declared.declaration.ClassDecl.{ClassDecl}
use Rattle.st_tree.specs.declared.expression.Root.{Root}
use Rattle.st_tree.specs.declared.expression.Root.TheVariants as root
use Rattle.st_tree.specs.declared.program.Target.{Target}
use Rattle.st_tree.specs.declared.program.Target.TheVariants as target
use Rattle.st_tree.specs.Expression.{Field, Index, Selectors, no_selectors, selector_then}
use Rattle.st_tree.specs.Expression as tree
use Rattle.st_rules.proofs.Booleans.{some-same}
use Rattle.st_rules.specs.Faults.{when}
use Rattle.st_rules.specs.Classes.{base_of}
use Rattle.st_rules.specs.Chains.{◌or_else◌}
use Rattle.st_rules.specs.declared.names.DeclaredVariable.{DeclaredVariable}
use Rattle.st_rules.specs.Scope.{Scope, Meant, a_variable, a_function, an_enumerator, no_qualifier, sought, dot_qualifier, instance_variable, field_named}
use Rattle.st_rules.specs.Scope as scope
use Rattle.st_rules.specs.Places.{Standing, untold, a_value, own_instance, no_base, an_enumeration, Part, standing_of, standing_type, is_no_base, meant_type, root_standing, qualified_standing, super_standing, part_of, part_type, value_part, instance_part, member_part, field_part, is_told, part_not_found, part_faults, name_not_found, name_out_of_access, name_faults, is_no_variable_name, root_faults, selector_faults, selected, dereferenced, dereference_of_no_reference, is_reference_to_class, instance_outside_a_class}
use Rattle.st_rules.specs.Places as places
use Rattle.st_rules.specs.Expressions.{told, typed_root, part_target, qualifier_note, meant_target}
use Rattle.st_values.specs.Program.{Program}
use Rattle.st_meaning.specs.Place.{root_note}
use Rattle.st_meaning.specs.st_frame.Promise.Names.{Scope as Around, NameIs, RootIs}
use Rattle.st_meaning.specs.st_frame.Promise.Places.{PartIs, TargetIs}
use Rattle.place_laws.specs.Agrees.{Agrees, EntryIs, MeantIs, ConstantIs, IsPlain, OneOf, HasPlace}
use Rattle.place_laws.proofs.Words.{none_in, not_when, passes}

-- what stands there has this type
abbrev pub StandsAs : Standing → StType → Type 0
StandsAs (a_value u) t = u ≡ t
StandsAs (own_instance c) t = type.Instance c ≡ t
StandsAs _ t = ⊥

pub stands_told : (b : Standing) (t : StType) → StandsAs b t → standing_type b ≡ Some t
stands_told (a_value u) t h = ap Some h
stands_told (own_instance c) t h = ap Some h
stands_told untold t h = absurd h
stands_told no_base t h = absurd h
stands_told (an_enumeration n) t h = absurd h

pub stands_of : (o : Option StType) (t : StType) → o ≡ Some t → StandsAs (standing_of o) t
stands_of None t h = cc
stands_of (Some u) t h = some-same h

pub told_as : (o : Option StType) (t : StType) → o ≡ Some t → told o ≡ t
unfolding told
told_as None t h = cc
told_as (Some u) t h = some-same h

-- ---- behind a constant or an enumerator nothing stands

not_there : (b : Bool) (c : Code) (l : ℕ) → b ≡ true → when b c l ≡ [] → ⊥
not_there true c l e h = cc
not_there false c l e h = cc

module _ (s : Scope) (p : Program) (g : Around) (a : Agrees s p g) where
  no_field : (t : StType) (n : List ℕ) → IsPlain t → part_of s (a_value t) false n ≡ None
  unfolding part_of
  no_field (type.Elementary e) n h = refl
  no_field (type.Enumeration e) n h = refl
  no_field _ n h = absurd h

  no_field_called : (t : StType) (n : List ℕ) → IsPlain t → part_of s (a_value t) true n ≡ None
  unfolding part_of
  no_field_called (type.Elementary e) n h = refl
  no_field_called (type.Enumeration e) n h = refl
  no_field_called _ n h = absurd h

  no_reference : (t : StType) → IsPlain t → is_reference_to_class t ≡ false
  no_reference (type.Elementary e) h = refl
  no_reference (type.Enumeration e) h = refl
  no_reference _ h = absurd h

  pub plain_field : (line l : ℕ) (called : Bool) (t : StType) (n : List ℕ) → IsPlain t → selector_faults s line called (a_value t) (Field l n) ≡ [] → ⊥
  unfolding selector_faults part_faults
  plain_field line l true t n h f = not_there _ E05 l (ap (λ (o : Option Part). true && is_none o) (no_field_called t n h)) ((none_in (part_not_found s l (a_value t) (part_of s (a_value t) true n)) _ f).0)
  plain_field line l false t n h f = not_there _ E05 l (ap (λ (o : Option Part). true && is_none o) (no_field t n h)) ((none_in (part_not_found s l (a_value t) (part_of s (a_value t) false n)) _ f).0)

  pub plain_target : (line l : ℕ) (called : Bool) (t : StType) → IsPlain t → selector_faults s line called (a_value t) (tree.Target l) ≡ [] → ⊥
  unfolding selector_faults
  plain_target line l called t h f = not_there _ E07 line (ap not (no_reference t h)) f

  -- ---- one selector

  -- a field or a variable of an instance
  abbrev pub FieldFound : Standing → StType → List ℕ → Type 0
  FieldFound b t n = (u : StType) × (part_type (part_of s b false n) ≡ Some u) × PartIs p t (part_target (part_of s b false n)) u

  found_field : (k : ℕ) (n : List ℕ) (o : _) → field_named s k n ≡ o → is_none (field_part o) ≡ false → (u : StType) × (part_type (field_part o) ≡ Some u) × PartIs p (type.Structure k) (part_target (field_part o)) u
  found_field k n None e h = cc
  found_field k n (Some f) e h = let q = a.field k n f e in (q.kind, q.told, q.is)

  found_member : (c : ℕ) (n : List ℕ) (o : _) → instance_variable s c n ≡ o → is_none (member_part o or_else None) ≡ false → (u : StType) × (part_type (member_part o or_else None) ≡ Some u) × PartIs p (type.Instance c) (part_target (member_part o or_else None)) u
  found_member c n None e h = cc
  found_member c n (Some m) e h = let q = a.member c n m e in (q.kind, q.told, subst (λ x. PartIs p (type.Instance c) x q.kind) (sym q.target) q.is)

  found_part : (t : StType) (n : List ℕ) → is_none (value_part s t false n) ≡ false → (u : StType) × (part_type (value_part s t false n) ≡ Some u) × PartIs p t (part_target (value_part s t false n)) u
  found_part (type.Structure k) n h = found_field k n (field_named s k n) refl h
  found_part (type.Instance c) n h = found_member c n (instance_variable s c n) refl h
  found_part _ n h = cc

  pub field_found : (l : ℕ) (b : Standing) (t : StType) (n : List ℕ) → StandsAs b t → part_faults s l b (part_of s b false n) ≡ [] → FieldFound b t n
  unfolding part_of part_faults
  field_found l (a_value u) t n h f =
      subst (λ x. FieldFound (a_value u) x n) h (found_part u n (not_when (is_none (value_part s u false n)) E05 l ((none_in (part_not_found s l (a_value u) (value_part s u false n)) _ f).0)))
  field_found l (own_instance c) t n h f =
      subst (λ x. FieldFound (own_instance c) x n) h (found_member c n (instance_variable s c n) refl (not_when (is_none (instance_part s c false n)) E05 l ((none_in (part_not_found s l (own_instance c) (instance_part s c false n)) _ f).0)))
  field_found l untold t n h f = absurd h
  field_found l no_base t n h f = absurd h
  field_found l (an_enumeration k) t n h f = absurd h

  -- `^`
  followed_value : (line : ℕ) (u : StType) → dereference_of_no_reference line (a_value u) ≡ [] → (c : ℕ) × (u ≡ type.Reference c)
  followed_value line u f = by u (passes (is_reference_to_class u) E07 line f)
    where
      by : (w : StType) → is_reference_to_class w ≡ true → (c : ℕ) × (w ≡ type.Reference c)
      by (type.Reference c) h = (c, refl)
      by _ h = cc

  pub target_found : (line l : ℕ) (called : Bool) (b : Standing) (t : StType) → StandsAs b t → selector_faults s line called b (tree.Target l) ≡ [] → (u : StType) × StandsAs (selected s b (tree.Target l)) u × TargetIs t u
  unfolding selector_faults selected
  target_found line l called (a_value w) t h f =
      let r = followed_value line w f in
      (type.Instance r.0, subst (λ x. StandsAs (dereferenced (a_value x)) (type.Instance r.0)) (sym r.1) refl, subst (λ x. TargetIs x (type.Instance r.0)) (sym r.1 ∙ h) refl)
  target_found line l called (own_instance c) t h f = (type.Instance c, refl, subst (λ x. TargetIs x (type.Instance c)) h refl)
  target_found line l called untold t h f = absurd h
  target_found line l called no_base t h f = absurd h
  target_found line l called (an_enumeration k) t h f = absurd h

  -- ---- roots

  -- a root that no call stands behind, or that selectors stand behind: it has its place, or is a constant or an enumerator
  pub record PlacedRoot (r : Root ℕ) (ss : Selectors ℕ) : Type 0 where
    pub kind : StType
    pub stands : StandsAs (root_standing s r ss) kind
    pub noted : (root_note (typed_root s false r ss)).kind ≡ kind
    pub is : RootIs p g (typed_root s false r ss) ⊎ IsPlain kind

  pub record NamedAs (m : Option Meant) : Type 0 where
    pub kind : StType
    pub told : meant_type m ≡ Some kind
    pub is : NameIs p g (meant_target m) kind ⊎ IsPlain kind

  entry_named : (c : Option ℕ) (v : DeclaredVariable) → EntryIs p g v → NamedAs (Some (a_variable c v))
  entry_named c v e = record { kind = e.kind; told = e.told; is = by v.constant v.target e.means }
    where
      plain : (x : Target) → ConstantIs p x e.kind → IsPlain e.kind
      plain (target.Constant z) h = h.1
      plain _ h = absurd h

      by : (b : Bool) (x : Target) → OneOf b (ConstantIs p x e.kind) (NameIs p g x e.kind × HasPlace x) → NameIs p g x e.kind ⊎ IsPlain e.kind
      by true x h = inr (plain x h)
      by false x h = inl h.0

  pub name_named : (l : ℕ) (name : List ℕ) (m : Option Meant) → is_no_variable_name s m ≡ false → MeantIs s p g name m → NamedAs m
  name_named l name (Some (a_variable c v)) h w = entry_named c v w
  name_named l name (Some (an_enumerator n k)) h w = record { kind = type.Enumeration n; told = refl; is = inr tt }
  name_named l name None h w = cc
  name_named l name (Some (scope.a_method id)) h w = cc
  name_named l name (Some (a_function k r)) h w = cc

  pub name_is : (l : ℕ) (name : List ℕ) → name_faults s l false (sought s false name) ≡ [] → NamedAs (sought s false name)
  name_is l name f =
      let q = none_in (name_not_found s l false (sought s false name)) (name_out_of_access s l (sought s false name)) f in
      name_named l name (sought s false name) (not_when (is_no_variable_name s (sought s false name)) E05 l q.0) (a.name l false name q.1)

  named_root : (l : ℕ) (name : List ℕ) (m : Option Meant) → NamedAs m → (t : StType) × (told (meant_type m) ≡ t) × (meant_type m ≡ Some t) × (RootIs p g (root.Name (qualifier_note l no_qualifier m) name) ⊎ IsPlain t)
  named_root l name m n = (
    n.kind,
    told_as (meant_type m) n.kind n.told,
    n.told,
    elim n.is [
      | inl h ↦ inl (subst (NameIs p g (meant_target m)) (sym (told_as (meant_type m) n.kind n.told)) h)
      | inr h ↦ inr h
    ],
  )

  name_root : (l : ℕ) (name : List ℕ) (m : Option Meant) → NamedAs m → (t : StType) × StandsAs (standing_of (meant_type m)) t × ((root_note (root.Name (qualifier_note l no_qualifier m) name)).kind ≡ t) × (RootIs p g (root.Name (qualifier_note l no_qualifier m) name) ⊎ IsPlain t)
  name_root l name m n = let q = named_root l name m n in (q.0, stands_of (meant_type m) q.0 q.2, q.1, q.3)

  -- THIS
  this_class : (l : ℕ) (o : Option ℕ) → s.class ≡ o → when (is_none o) E10 l ≡ [] → (c : ℕ) × (s.class ≡ Some c)
  this_class l None e f = cc
  this_class l (Some c) e f = (c, e)

  this_root : (l : ℕ) (ss : Selectors ℕ) → instance_outside_a_class s l ≡ [] → PlacedRoot (root.This l) ss
  unfolding root_standing typed_root
  this_root l ss f =
      let q = this_class l s.class refl f in
      let stands : StandsAs (places.this_standing s s.class) (type.Instance q.0) = subst (λ o. StandsAs (places.this_standing s o) (type.Instance q.0)) (sym q.1) refl in
      let noted : told (standing_type (places.this_standing s s.class)) ≡ type.Instance q.0 = told_as _ _ (stands_told _ _ stands) in
      record { kind = type.Instance q.0; stands = stands; noted = noted; is = inl (q.0, a.this q.0 q.1, noted) }

  -- SUPER, where there is a base
  found_base : Option ℕ → Standing
  found_base None = untold
  found_base (Some b) = own_instance b

  super_at : Option ℕ → Option (ClassDecl ℕ) → Standing
  super_at b None = untold
  super_at b (Some d) = if is_none d.base then no_base else found_base b

  super_is : (c : ℕ) → super_standing s (Some c) ≡ super_at (base_of s.classes c) (slice_get s.classes c)
  unfolding found_base super_at
  super_is c = refl

  based : (q : Option ℕ) (o : Option (ClassDecl ℕ)) → is_no_base (super_at q o) ≡ false → is_told s (super_at q o) ≡ true → (b : ℕ) × (q ≡ Some b) × StandsAs (super_at q o) (type.Instance b)
  unfolding found_base super_at
  based q None h k = cc
  based q (Some d) h k = by (is_none d.base) q h k
    where
      by : (x : Bool) (r : Option ℕ) → is_no_base (if x then no_base else found_base r) ≡ false → is_told s (if x then no_base else found_base r) ≡ true → (b : ℕ) × (r ≡ Some b) × StandsAs (if x then no_base else found_base r) (type.Instance b)
      by true r h k = cc
      by false None h k = cc
      by false (Some b) h k = (b, refl, refl)

  no_plain_super : (q : Option ℕ) (o : Option (ClassDecl ℕ)) (k : StType) → IsPlain k → StandsAs (super_at q o) k → ⊥
  unfolding found_base super_at
  no_plain_super q None k h w = w
  no_plain_super q (Some d) k h w = by (is_none d.base) q w
    where
      by : (x : Bool) (r : Option ℕ) → StandsAs (if x then no_base else found_base r) k → ⊥
      by true r w = w
      by false None w = w
      by false (Some b) w = subst IsPlain (sym w) h

  own_super : (q : Option ℕ) (o : Option (ClassDecl ℕ)) (k : StType) → StandsAs (super_at q o) k → (b : ℕ) × (super_at q o ≡ own_instance b) × (q ≡ Some b)
  unfolding found_base super_at
  own_super q None k w = absurd w
  own_super q (Some d) k w = by (is_none d.base) q w
    where
      by : (x : Bool) (r : Option ℕ) → StandsAs (if x then no_base else found_base r) k → (b : ℕ) × ((if x then no_base else found_base r) ≡ own_instance b) × (r ≡ Some b)
      by true r w = absurd w
      by false None w = absurd w
      by false (Some b) w = (b, refl, refl)

  -- SUPER stands for an instance of the base
  pub super_own : (o : Option ℕ) (k : StType) → StandsAs (super_standing s o) k → (c b : ℕ) × (o ≡ Some c) × (base_of s.classes c ≡ Some b) × (super_standing s o ≡ own_instance b)
  super_own None k w = absurd w
  super_own (Some c) k w =
      let q = own_super (base_of s.classes c) (slice_get s.classes c) k (subst (λ b. StandsAs b k) (super_is c) w) in
      (c, q.0, refl, q.2, super_is c ∙ q.1)

  pub super_not_plain : (o : Option ℕ) (k : StType) → IsPlain k → StandsAs (super_standing s o) k → ⊥
  super_not_plain None k h w = w
  super_not_plain (Some c) k h w = no_plain_super (base_of s.classes c) (slice_get s.classes c) k h (subst (λ b. StandsAs b k) (super_is c) w)

  pub super_root : (l : ℕ) (ss : Selectors ℕ) → instance_outside_a_class s l ≡ [] → is_no_base (super_standing s s.class) ≡ false → is_told s (super_standing s s.class) ≡ true → PlacedRoot (root.Super l) ss
  unfolding root_standing typed_root
  super_root l ss f h k =
      let q = this_class l s.class refl f in
      let e : super_standing s s.class ≡ super_at (base_of s.classes q.0) (slice_get s.classes q.0) = ap (super_standing s) q.1 ∙ super_is q.0 in
      let b = based (base_of s.classes q.0) (slice_get s.classes q.0) (sym (ap is_no_base e) ∙ h) (sym (ap (is_told s) e) ∙ k) in
      let stands : StandsAs (super_standing s s.class) (type.Instance b.0) = subst (λ x. StandsAs x (type.Instance b.0)) (sym e) b.2 in
      let noted : told (standing_type (super_standing s s.class)) ≡ type.Instance b.0 = told_as _ _ (stands_told _ _ stands) in
      record { kind = type.Instance b.0; stands = stands; noted = noted; is = inl (q.0, b.0, a.this q.0 q.1, noted, a.base q.0 b.0 q.1 b.1) }

  -- a root that breaks no rule, but the name of an enumeration, or SUPER without a base
  pub record IsPlaced (r : Root ℕ) (ss : Selectors ℕ) : Type 0 where
    pub super : (l : ℕ) → r ≡ root.Super l → (is_no_base (super_standing s s.class) ≡ false) × (is_told s (super_standing s s.class) ≡ true)
    pub name : (l j : ℕ) (name n : List ℕ) (rest : Selectors ℕ) → r ≡ root.Name l name → ss ≡ selector_then (Field j n) rest → dot_qualifier s name ≡ no_qualifier

  pub root_is : (r : Root ℕ) (ss : Selectors ℕ) → root_faults s false r ss ≡ [] → IsPlaced r ss → PlacedRoot r ss
  unfolding root_faults root_standing typed_root
  root_is (root.This l) ss f h = this_root l ss f
  root_is (root.Super l) ss f h = let q = h.super l refl in super_root l ss f q.0 q.1
  root_is (root.Name l name) no_selectors f h = let q = name_root l name (sought s false name) (name_is l name f) in record { kind = q.0; stands = q.1; noted = q.2; is = q.3 }
  root_is (root.Name l name) (selector_then (Field j n) ss) f h =
      let e = h.name l j name n ss refl refl in
      let q = name_root l name (sought s false name) (name_is l name (subst (λ x. places.qualified_faults s l x name ≡ []) e f)) in
      record {
        kind = q.0;
        stands = subst (λ x. StandsAs (qualified_standing s x name) q.0) (sym e) q.1;
        noted = subst (λ x. (qualifier_note l x (sought s false name)).kind ≡ q.0) (sym e) q.2;
        is = subst (λ x. RootIs p g (root.Name (qualifier_note l x (sought s false name)) name) ⊎ IsPlain q.0) (sym e) q.3;
      }
  root_is (root.Name l name) (selector_then (Index j n) ss) f h = let q = name_root l name (sought s false name) (name_is l name f) in record { kind = q.0; stands = q.1; noted = q.2; is = q.3 }
  root_is (root.Name l name) (selector_then (tree.Target j) ss) f h = let q = name_root l name (sought s false name) (name_is l name f) in record { kind = q.0; stands = q.1; noted = q.2; is = q.3 }
