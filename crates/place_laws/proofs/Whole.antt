-- Whole places: they have their place, or are constants or enumerators.
use Rattle.std.proofs.Common.{◌≡◌, ℕ, Bool, true, false, List, [], Option, Some, None, refl, sym, ap, ◌∙◌, subst, inl, inr, ◌⊎◌}
use Rattle.std.specs.Prelude.{◌&&◌, option_map, if◌then◌else◌}
use Rattle.std.specs.Option.{is_none}
use Rattle.plc_text.specs.declared.code.Code.TheVariants.{E05, E07, E10}
use Rattle.st_types.specs.declared.st_type.StType.{StType, out-StType, out-roll-StType}
use Rattle.st_types.specs.declared.st_type.StType.TheVariants as type
use Rattle.st_types.specs.declared.st_type.StType.TheOpen.{StType-F}
use Rattle.st_tree.specs.declared.expression.Root.{Root}
use Rattle.st_tree.specs.declared.expression.Root.TheVariants as root
use Rattle.st_tree.specs.declared.program.Target.{Target}
use Rattle.st_tree.specs.declared.program.Target.TheVariants as target
use Rattle.st_tree.specs.Expression.{Expressions, no_expressions, expression_then, Selector, Field, Index, Selectors, no_selectors, selector_then}
use Rattle.st_tree.specs.Expression as tree
use Rattle.st_rules.proofs.Booleans.{neither}
use Rattle.st_rules.specs.Faults.{when}
use Rattle.st_rules.specs.Kinds.{element_at_level}
use Rattle.st_rules.specs.declared.names.DeclaredVariable.{DeclaredVariable}
use Rattle.st_rules.specs.Scope.{Scope, Meant, a_variable, a_function, an_enumerator, Qualifier, values_of, of_untold, no_qualifier, sought, dot_qualifier, value_of}
use Rattle.st_rules.specs.Scope as scope
use Rattle.st_rules.specs.Places.{Standing, untold, a_value, own_instance, no_base, an_enumeration, a_value_of, standing_of, standing_type, is_no_base, meant_type, root_line, root_standing, qualified_standing, super_standing, this_standing, part_of, part_type, is_told, part_not_found, part_out_of_access, part_faults, name_not_found, name_out_of_access, name_faults, is_no_variable_name, root_faults, selector_faults, selected, super_without_base, too_many_selectors, whole_faults, placed, place_type, index_on_no_array, indices_on_no_array, count_expressions, is_last, is_no_variable, qualifies, is_fixed_root, is_fixed, in_outer_output}
use Rattle.st_rules.specs.Places as places
use Rattle.st_rules.specs.Expressions.{told, typed_root, typed_along, qualifier_note, value_target, part_target, qualified_target, whole_target, along_faults, selector_index_faults}
use Rattle.st_values.specs.Program.{Program}
use Rattle.st_meaning.specs.Place.{root_note}
use Rattle.st_meaning.specs.st_frame.Use.{last_kind}
use Rattle.st_meaning.specs.st_frame.Promise.Names.{Scope as Around, NameIs, RootIs}
use Rattle.st_meaning.specs.st_frame.Promise.Places.{NamedIs}
use Rattle.st_meaning.specs.st_frame.Promise.Expressions.{AlongIs}
use Rattle.place_laws.specs.Agrees.{Agrees, EntryIs, MeantIs, ConstantIs, IsPlain, OneOf, HasPlace}
use Rattle.place_laws.proofs.Words.{none_in, not_when, three}
use Rattle.place_laws.proofs.Places.{StandsAs, stands_told, stands_of, told_as, plain_field, plain_target, PlacedRoot, IsPlaced, root_is, super_not_plain}
use Rattle.place_laws.proofs.Heart.{Ahead}

-- NamedIs of a constant or an enumerator asks for no place
never : (l : ℕ) {b : Bool} → b ≡ true → when b E07 l ≡ [] → ⊥
never l {b = true} e h = cc
never l {b = false} e h = cc

never5 : (l : ℕ) {b : Bool} → b ≡ true → when b E05 l ≡ [] → ⊥
never5 l {b = true} e h = cc
never5 l {b = false} e h = cc

pub named_any : (p : Program) (x : Target) (t : StType) (X : Type 0) → NamedIs p x t ⊥ → NamedIs p x t X
named_any p (target.Constant z) t X h = h
named_any p (target.Enumerator z) t X h = h
named_any p _ t X h = absurd h

module _ (s : Scope) (p : Program) (g : Around) (a : Agrees s p g) where
  -- what a place is that breaks no rule
  pub record HasItsPlace (r : Root ℕ) (ss : Selectors ℕ) (t : StType) : Type 0 where
    pub root : RootIs p g (typed_root s false r ss)
    pub along : AlongIs p g (typed_along s false (root_standing s r ss) ss) (root_note (typed_root s false r ss)).kind
    pub last : last_kind (root_note (typed_root s false r ss)).kind (typed_along s false (root_standing s r ss) ss) ≡ t
    pub none : whole_target s r ss ≡ target.Nothing

  pub record IsFixedNumber (r : Root ℕ) (ss : Selectors ℕ) (t : StType) : Type 0 where
    pub plain : IsPlain t
    pub number : NamedIs p (whole_target s r ss) t ⊥

  pub record PlaceOf (r : Root ℕ) (ss : Selectors ℕ) : Type 0 where
    pub kind : StType
    pub told : place_type s r ss ≡ Some kind
    pub is : HasItsPlace r ss kind ⊎ IsFixedNumber r ss kind

  -- ---- a bare name

  constant_number : (x : Target) (t : StType) → ConstantIs p x t → NamedIs p x t ⊥ × IsPlain t
  constant_number (target.Constant z) t h = h
  constant_number _ t h = absurd h

  pub record BareName (k : ℕ) (name : List ℕ) (m : Option Meant) : Type 0 where
    pub kind : StType
    pub told : meant_type m ≡ Some kind
    pub is : (RootIs p g (root.Name (qualifier_note k no_qualifier m) name) × (value_target m ≡ target.Nothing)) ⊎ (IsPlain kind × NamedIs p (value_target m) kind ⊥)

  entry_bare : (k : ℕ) (name : List ℕ) (c : Option ℕ) (v : DeclaredVariable) → EntryIs p g v → BareName k name (Some (a_variable c v))
  entry_bare k name c v e = record { kind = e.kind; told = e.told; is = by v.constant e.means }
    where
      by : (b : Bool) → OneOf b (ConstantIs p v.target e.kind) (NameIs p g v.target e.kind × HasPlace v.target)
          → (NameIs p g v.target (told v.kind) × ((if b then v.target else target.Nothing) ≡ target.Nothing)) ⊎ (IsPlain e.kind × NamedIs p (if b then v.target else target.Nothing) e.kind ⊥)
      by true h = let q = constant_number v.target e.kind h in inr (q.1, q.0)
      by false h = inl (subst (NameIs p g v.target) (sym (told_as v.kind e.kind e.told)) h.0, refl)

  bare : (k : ℕ) (name : List ℕ) (m : Option Meant) → is_no_variable_name s m ≡ false → MeantIs s p g name m → BareName k name m
  bare k name (Some (a_variable c v)) h w = entry_bare k name c v w
  bare k name (Some (an_enumerator n j)) h w = record { kind = type.Enumeration n; told = refl; is = inr (tt, w) }
  bare k name None h w = cc
  bare k name (Some (scope.a_method id)) h w = cc
  bare k name (Some (a_function j r)) h w = cc

  bare_name : (k : ℕ) (name : List ℕ) → name_faults s k false (sought s false name) ≡ [] → BareName k name (sought s false name)
  bare_name k name f =
      let q = none_in (name_not_found s k false (sought s false name)) (name_out_of_access s k (sought s false name)) f in
      bare k name (sought s false name) (not_when (is_no_variable_name s (sought s false name)) E05 k q.0) (a.name k false name q.1)

  named_place : (k : ℕ) (name : List ℕ) → name_faults s k false (sought s false name) ≡ [] → PlaceOf (root.Name k name) no_selectors
  unfolding placed root_standing typed_root whole_target
  named_place k name f =
      let b = bare_name k name f in
      let m = sought s false name in
      record {
        kind = b.kind;
        told = stands_told (standing_of (meant_type m)) b.kind (stands_of (meant_type m) b.kind b.told);
        is = elim b.is [
          | inl h ↦ inl (record { root = h.0; along = tt; last = told_as (meant_type m) b.kind b.told; none = h.1 })
          | inr h ↦ inr (record { plain = h.0; number = h.1 })
        ];
      }

  -- ---- selectors behind what has no parts

  no_elements : (line : ℕ) (t : StType) → IsPlain t → index_on_no_array line (Some t) ≡ [] → ⊥
  no_elements line (type.Elementary e) h f = bad line (out-StType (type.Elementary e)) (ap out-StType (sym (type.rolls-Elementary e)) ∙ out-roll-StType (StType-F.Elementary e)) refl f
    where
      bad : (l : ℕ) (o : StType-F StType) {q : StType-F StType} → o ≡ q → element_at_level q ≡ None → when (is_none (element_at_level o)) E07 l ≡ [] → ⊥
      bad l o r n k = never l (ap is_none (ap element_at_level r ∙ n)) k
  no_elements line (type.Enumeration e) h f = bad line (out-StType (type.Enumeration e)) (ap out-StType (sym (type.rolls-Enumeration e)) ∙ out-roll-StType (StType-F.Enumeration e)) refl f
    where
      bad : (l : ℕ) (o : StType-F StType) {q : StType-F StType} → o ≡ q → element_at_level q ≡ None → when (is_none (element_at_level o)) E07 l ≡ [] → ⊥
      bad l o r n k = never l (ap is_none (ap element_at_level r ∙ n)) k
  no_elements line _ h f = absurd h

  -- an index has an expression: the grammar says so, and no rule
  abbrev pub HasIndices : Selector ℕ → Type 0
  HasIndices (Index l no_expressions) = ⊥
  HasIndices _ = Unit {0}

  abbrev pub AllHaveIndices : Selectors ℕ → Type 0
  AllHaveIndices no_selectors = Unit {0}
  AllHaveIndices (selector_then x ss) = HasIndices x × AllHaveIndices ss

  pub plain_stops : (line : ℕ) (called : Bool) (t : StType) (x : Selector ℕ) → HasIndices x → IsPlain t → selector_faults s line called (a_value t) x ≡ [] → ⊥
  unfolding selector_faults
  plain_stops line called t (Field l n) q h f = plain_field s p g a line l called t n h f
  plain_stops line called t (tree.Target l) q h f = plain_target s p g a line l called t h f
  plain_stops line called t (Index l no_expressions) q h f = absurd q
  plain_stops line called t (Index l (expression_then e es)) q h f = no_elements line t h ((none_in (index_on_no_array line (Some t)) _ ((none_in (super_without_base line (a_value t)) _ f).1)).0)

  -- ---- SUPER

  pub parts_of_along : (line : ℕ) (called : Bool) (b : Standing) (x : Selector ℕ) (ss : Selectors ℕ) → along_faults s line called b (selector_then x ss) ≡ [] → (selector_faults s line (called && is_last ss) b x ≡ []) × (selector_index_faults s x ≡ []) × (along_faults s line called (selected s b x) ss ≡ [])
  parts_of_along line called b x ss f = three (selector_faults s line (called && is_last ss) b x) (selector_index_faults s x) (along_faults s line called (selected s b x) ss) f

  no_field_there : (line l : ℕ) (called : Bool) (n : List ℕ) → selector_faults s line called no_base (Field l n) ≡ [] → ⊥
  unfolding selector_faults part_of part_faults
  no_field_there line l called n f = never5 l refl ((none_in (when true E05 l) [] f).0)

  no_index_there : (line l : ℕ) (called : Bool) (es : Expressions ℕ) → selector_faults s line called no_base (Index l es) ≡ [] → ⊥
  unfolding selector_faults
  no_index_there line l called es f = never line refl ((none_in (when true E07 line) (indices_on_no_array line (count_expressions es) None) f).0)

  still_none : (l : ℕ) → selected s no_base (tree.Target l) ≡ no_base
  unfolding selected
  still_none l = refl

  only_targets : (line : ℕ) (called : Bool) (ss : Selectors ℕ) → along_faults s line called no_base ss ≡ [] → places.along s no_base ss ≡ no_base
  only_targets line called no_selectors f = refl
  only_targets line called (selector_then (Field l n) ss) f = absurd (no_field_there line l (called && is_last ss) n ((parts_of_along line called no_base (Field l n) ss f).0))
  only_targets line called (selector_then (Index l es) ss) f = absurd (no_index_there line l (called && is_last ss) es ((parts_of_along line called no_base (Index l es) ss f).0))
  only_targets line called (selector_then (tree.Target l) ss) f =
      ap (λ b. places.along s b ss) (still_none l) ∙ only_targets line called ss (subst (λ b. along_faults s line called b ss ≡ []) (still_none l) ((parts_of_along line called no_base (tree.Target l) ss f).2))

  pub super_based : (l : ℕ) (o : Option ℕ) → s.class ≡ o → when (is_none o) E10 l ≡ [] → is_told s (super_standing s s.class) ≡ true
  super_based l None e f = cc
  super_based l (Some c) e f = subst (λ o. is_told s (super_standing s o) ≡ true) (sym e) (a.super c e)

  is_based : (b : Standing) (line : ℕ) (ss : Selectors ℕ) → along_faults s line false b ss ≡ [] → super_without_base line (places.along s b ss) ≡ [] → is_no_base b ≡ false
  is_based no_base line ss f h = absurd (bad (sym (ap (super_without_base line) (only_targets line false ss f)) ∙ h))
    where
      bad : when true E07 line ≡ [] → ⊥
      bad q = cc
  is_based untold line ss f h = refl
  is_based (a_value t) line ss f h = refl
  is_based (own_instance c) line ss f h = refl
  is_based (an_enumeration n) line ss f h = refl

  -- ---- whole places

  qualified_nothing : (o : Option StType) (n : List ℕ) → qualified_target s (standing_of o) n ≡ target.Nothing
  qualified_nothing None n = refl
  qualified_nothing (Some t) n = refl

  nothing_whole : (r : Root ℕ) (x : Selector ℕ) (ss : Selectors ℕ) → IsPlaced s p g a r (selector_then x ss) → whole_target s r (selector_then x ss) ≡ target.Nothing
  unfolding whole_target root_standing
  nothing_whole (root.Name l name) (Field j n) no_selectors h =
      subst (λ q. qualified_target s (qualified_standing s q name) n ≡ target.Nothing) (sym (h.name l j name n no_selectors refl refl)) (qualified_nothing (meant_type (sought s false name)) n)
  nothing_whole r x ss h = refl

  abbrev pub Onward : Root ℕ → Selectors ℕ → Type 0
  Onward r ss = (b : Standing) (t : StType) → StandsAs b t → along_faults s (root_line r) false b ss ≡ [] → Ahead s p g a b t ss

  along_root : (r : Root ℕ) (ss : Selectors ℕ) → whole_target s r ss ≡ target.Nothing → (q : PlacedRoot s p g a r ss) → RootIs p g (typed_root s false r ss) → Onward r ss → along_faults s (root_line r) false (root_standing s r ss) ss ≡ [] → PlaceOf r ss
  unfolding placed
  along_root r ss e q h on f =
      let n = on (root_standing s r ss) q.kind q.stands f in
      record {
        kind = n.ends;
        told = stands_told (places.along s (root_standing s r ss) ss) n.ends n.stands;
        is = inl (record {
          root = h;
          along = subst (AlongIs p g (typed_along s false (root_standing s r ss) ss)) (sym q.noted) n.is;
          last = ap (λ k. last_kind k (typed_along s false (root_standing s r ss) ss)) q.noted ∙ n.last;
          none = e;
        });
      }

  plain_root : (line : ℕ) (b : Standing) (t : StType) (x : Selector ℕ) (ss : Selectors ℕ) → StandsAs b t → IsPlain t → HasIndices x → along_faults s line false b (selector_then x ss) ≡ [] → ⊥
  plain_root line (a_value u) t x ss h k q f = plain_stops line false u x q (subst IsPlain (sym h) k) ((three _ _ _ f).0)
  plain_root line (own_instance c) t x ss h k q f = subst IsPlain (sym h) k
  plain_root line untold t x ss h k q f = absurd h
  plain_root line no_base t x ss h k q f = absurd h
  plain_root line (an_enumeration n) t x ss h k q f = absurd h

  behind_root : (r : Root ℕ) (x : Selector ℕ) (ss : Selectors ℕ) → HasIndices x → IsPlaced s p g a r (selector_then x ss) → Onward r (selector_then x ss) → root_faults s false r (selector_then x ss) ≡ [] → along_faults s (root_line r) false (root_standing s r (selector_then x ss)) (selector_then x ss) ≡ [] → PlaceOf r (selector_then x ss)
  behind_root r x ss i h on f k =
      let q = root_is s p g a r (selector_then x ss) f h in
      elim q.is [
        | inl w ↦ along_root r (selector_then x ss) (nothing_whole r x ss h) q w on k
        | inr w ↦ absurd (plain_root (root_line r) (root_standing s r (selector_then x ss)) q.kind x ss q.stands w i k)
      ]

  -- Type.Name
  pub enumeration_part : (l j n : ℕ) (called : Bool) (m : List ℕ) → selector_faults s l false (an_enumeration n) (Field j m) ≡ [] → (k : ℕ) × (value_of s n m ≡ Some k)
  unfolding selector_faults part_of part_faults
  enumeration_part l j n called m f = by (value_of s n m) ((none_in (part_not_found s j (an_enumeration n) (option_map (a_value_of n) (value_of s n m))) (part_out_of_access s j (option_map (a_value_of n) (value_of s n m))) f).0)
    where
      by : (o : Option ℕ) → part_not_found s j (an_enumeration n) (option_map (a_value_of n) o) ≡ [] → (k : ℕ) × (o ≡ Some k)
      by None h = absurd (never5 j refl h)
      by (Some k) h = (k, refl)

  pub enumeration_step : (n j k : ℕ) (m : List ℕ) → value_of s n m ≡ Some k → selected s (an_enumeration n) (Field j m) ≡ a_value (type.Enumeration n)
  unfolding selected part_of
  enumeration_step n j k m e = ap (λ o. standing_of (part_type (option_map (a_value_of n) o))) e

  pub enumeration_root : (l j n : ℕ) (name m : List ℕ) (ss : Selectors ℕ) → dot_qualifier s name ≡ values_of n → root_standing s (root.Name l name) (selector_then (Field j m) ss) ≡ an_enumeration n
  unfolding root_standing
  enumeration_root l j n name m ss e = ap (λ q. qualified_standing s q name) e

  enumeration_number : (l j n k : ℕ) (name m : List ℕ) → dot_qualifier s name ≡ values_of n → value_of s n m ≡ Some k → whole_target s (root.Name l name) (selector_then (Field j m) no_selectors) ≡ target.Enumerator k
  unfolding whole_target part_of
  enumeration_number l j n k name m e h = ap (λ b. qualified_target s b m) (enumeration_root l j n name m no_selectors e) ∙ ap (λ o. part_target (option_map (a_value_of n) o)) h

  enumeration_type : (l j n k : ℕ) (name m : List ℕ) → dot_qualifier s name ≡ values_of n → value_of s n m ≡ Some k → place_type s (root.Name l name) (selector_then (Field j m) no_selectors) ≡ Some (type.Enumeration n)
  unfolding placed
  enumeration_type l j n k name m e h = ap (λ b. standing_type (selected s b (Field j m))) (enumeration_root l j n name m no_selectors e) ∙ ap standing_type (enumeration_step n j k m h)

  enumerator_place : (l j n : ℕ) (name m : List ℕ) (ss : Selectors ℕ) → AllHaveIndices ss → dot_qualifier s name ≡ values_of n → along_faults s l false (root_standing s (root.Name l name) (selector_then (Field j m) ss)) (selector_then (Field j m) ss) ≡ [] → PlaceOf (root.Name l name) (selector_then (Field j m) ss)
  enumerator_place l j n name m ss i e f =
      let r = enumeration_root l j n name m ss e in
      let fs = parts_of_along l false (an_enumeration n) (Field j m) ss (subst (λ b. along_faults s l false b (selector_then (Field j m) ss) ≡ []) r f) in
      let v = enumeration_part l j n false m fs.0 in
      by ss i v.0 v.1 (subst (λ b. along_faults s l false b ss ≡ []) (enumeration_step n j v.0 m v.1) fs.2)
    where
      by : (rest : Selectors ℕ) → AllHaveIndices rest → (k : ℕ) → value_of s n m ≡ Some k → along_faults s l false (a_value (type.Enumeration n)) rest ≡ [] → PlaceOf (root.Name l name) (selector_then (Field j m) rest)
      by no_selectors w k q h = record {
        kind = type.Enumeration n;
        told = enumeration_type l j n k name m e q;
        is = inr (record { plain = tt; number = subst (λ x. NamedIs p x (type.Enumeration n) ⊥) (sym (enumeration_number l j n k name m e q)) (a.value n m k q) });
      }
      by (selector_then x rest) w k q h = absurd (plain_root l (a_value (type.Enumeration n)) (type.Enumeration n) x rest refl tt w.0 h)

  -- ---- all places

  super_faults : (r : Root ℕ) (ss : Selectors ℕ) → whole_faults s r ss ≡ [] → super_without_base (root_line r) (places.along s (root_standing s r ss) ss) ≡ []
  unfolding whole_faults placed
  super_faults r ss f = (none_in (super_without_base (root_line r) (places.along s (root_standing s r ss) ss)) (too_many_selectors s (root_line r) ss) f).0

  pub this_placed : (l : ℕ) (ss : Selectors ℕ) → IsPlaced s p g a (root.This l) ss
  this_placed l ss = record { super = λ k e. absurd (cc); name = λ k j name n rest e. absurd (cc) }

  pub super_stands : (l : ℕ) (ss : Selectors ℕ) → root_standing s (root.Super l) ss ≡ super_standing s s.class
  unfolding root_standing
  super_stands l ss = refl

  pub outside : (l : ℕ) (ss : Selectors ℕ) → root_faults s false (root.Super l) ss ≡ [] → when (is_none s.class) E10 l ≡ []
  unfolding root_faults
  outside l ss f = f

  super_placed : (l : ℕ) (ss : Selectors ℕ) → root_faults s false (root.Super l) ss ≡ [] → along_faults s l false (root_standing s (root.Super l) ss) ss ≡ [] → whole_faults s (root.Super l) ss ≡ [] → IsPlaced s p g a (root.Super l) ss
  super_placed l ss f k w =
      record {
        super = λ j e. (subst (λ b. is_no_base b ≡ false) (super_stands l ss) (is_based (root_standing s (root.Super l) ss) l ss k (super_faults (root.Super l) ss w)), super_based l s.class refl (outside l ss f));
        name = λ j i name n rest e. absurd (cc);
      }

  pub field_placed : (l j : ℕ) (name n : List ℕ) (ss : Selectors ℕ) → dot_qualifier s name ≡ no_qualifier → IsPlaced s p g a (root.Name l name) (selector_then (Field j n) ss)
  field_placed l j name n ss e = record { super = λ k q. absurd (cc); name = λ k i m o rest q r. let d : name ≡ m = cc in subst (λ x. dot_qualifier s x ≡ no_qualifier) d e }

  pub other_placed : (l : ℕ) (name : List ℕ) (x : Selector ℕ) (ss : Selectors ℕ) → ((j : ℕ) (n : List ℕ) → x ≡ Field j n → ⊥) → IsPlaced s p g a (root.Name l name) (selector_then x ss)
  other_placed l name x ss h = record { super = λ k q. absurd (cc); name = λ k i m o rest q r. let d : x ≡ Field i o = cc in absurd (h i o d) }

  with_this : (r : Root ℕ) (ss : Selectors ℕ) → whole_target s r ss ≡ target.Nothing → IsPlaced s p g a r ss → ((k : StType) → IsPlain k → StandsAs (root_standing s r ss) k → ⊥) → Onward r ss → root_faults s false r ss ≡ [] → along_faults s (root_line r) false (root_standing s r ss) ss ≡ [] → PlaceOf r ss
  with_this r ss e h never on f k =
      let q = root_is s p g a r ss f h in
      elim q.is [
        | inl w ↦ along_root r ss e q w on k
        | inr w ↦ absurd (never q.kind w q.stands)
      ]

  no_plain : (o : Option ℕ) (k : StType) → IsPlain k → StandsAs (this_standing s o) k → ⊥
  no_plain None k h q = q
  no_plain (Some c) k h q = subst IsPlain (sym q) h

  this_not_plain : (l : ℕ) (ss : Selectors ℕ) (k : StType) → IsPlain k → StandsAs (root_standing s (root.This l) ss) k → ⊥
  unfolding root_standing
  this_not_plain l ss k h q = no_plain s.class k h q

  whole_this : (l : ℕ) (ss : Selectors ℕ) → whole_target s (root.This l) ss ≡ target.Nothing
  unfolding whole_target
  whole_this l ss = refl

  whole_super : (l : ℕ) (ss : Selectors ℕ) → whole_target s (root.Super l) ss ≡ target.Nothing
  unfolding whole_target
  whole_super l ss = refl

  name_alone : (l : ℕ) (name : List ℕ) → root_faults s false (root.Name l name) no_selectors ≡ [] → name_faults s l false (sought s false name) ≡ []
  unfolding root_faults
  name_alone l name f = f

  pub place_of : (r : Root ℕ) (ss : Selectors ℕ) → AllHaveIndices ss → Onward r ss → root_faults s false r ss ≡ [] → along_faults s (root_line r) false (root_standing s r ss) ss ≡ [] → whole_faults s r ss ≡ [] → PlaceOf r ss
  place_of (root.This l) ss i on f k w = with_this (root.This l) ss (whole_this l ss) (this_placed l ss) (this_not_plain l ss) on f k
  place_of (root.Super l) ss i on f k w = with_this (root.Super l) ss (whole_super l ss) (super_placed l ss f k w) (λ t h q. super_not_plain s p g a s.class t h (subst (λ b. StandsAs b t) (super_stands l ss) q)) on f k
  place_of (root.Name l name) no_selectors i on f k w = named_place l name (name_alone l name f)
  place_of (root.Name l name) (selector_then (Field j n) ss) i on f k w = by (dot_qualifier s name) refl
    where
      by : (q : Qualifier) → dot_qualifier s name ≡ q → PlaceOf (root.Name l name) (selector_then (Field j n) ss)
      by (values_of m) e = enumerator_place l j m name n ss i.1 e k
      by of_untold e = absurd (a.dot name e)
      by no_qualifier e = behind_root (root.Name l name) (Field j n) ss tt (field_placed l j name n ss e) on f k
  place_of (root.Name l name) (selector_then (Index j es) ss) i on f k w = behind_root (root.Name l name) (Index j es) ss i.0 (other_placed l name (Index j es) ss (λ u v e. cc)) on f k
  place_of (root.Name l name) (selector_then (tree.Target j) ss) i on f k w = behind_root (root.Name l name) (tree.Target j) ss tt (other_placed l name (tree.Target j) ss (λ u v e. cc)) on f k

  -- what is no fixed target has its place
  free_name : (m : Option Meant) → is_no_variable s m ≡ false → value_target m ≡ target.Nothing
  free_name (Some (a_variable c v)) h = ap (λ b. if b then v.target else target.Nothing) (neither v.constant v.located_input h).0
  free_name (Some (an_enumerator n k)) h = cc
  free_name None h = refl
  free_name (Some (scope.a_method id)) h = refl
  free_name (Some (a_function k r)) h = refl

  free_qualifier : (q : Qualifier) → qualifies s q ≡ false → q ≡ no_qualifier
  free_qualifier no_qualifier h = refl
  free_qualifier (values_of n) h = cc
  free_qualifier of_untold h = cc

  free_root : (r : Root ℕ) (ss : Selectors ℕ) → is_fixed_root s r ss ≡ false → whole_target s r ss ≡ target.Nothing
  unfolding whole_target
  free_root (root.Name l name) no_selectors h = free_name (sought s false name) h
  free_root (root.Name l name) (selector_then (Field j n) no_selectors) h =
      nothing_whole (root.Name l name) (Field j n) no_selectors (field_placed l j name n no_selectors (free_qualifier (dot_qualifier s name) (neither (qualifies s (dot_qualifier s name)) (is_no_variable s (sought s false name)) h).0))
  free_root r ss h = refl

  pub free : (r : Root ℕ) (ss : Selectors ℕ) → is_fixed s r ss ≡ false → whole_target s r ss ≡ target.Nothing
  unfolding is_fixed
  free r ss h = free_root r ss (neither (is_fixed_root s r ss) (in_outer_output s false (root_standing s r ss) ss) h).0

  -- a place that is no constant
  pub its_place : (r : Root ℕ) (ss : Selectors ℕ) → is_fixed s r ss ≡ false → (q : PlaceOf r ss) → HasItsPlace r ss q.kind
  its_place r ss h q = elim q.is [
    | inl w ↦ w
    | inr w ↦ absurd (subst (λ x. NamedIs p x q.kind ⊥) (free r ss h) w.number)
  ]
