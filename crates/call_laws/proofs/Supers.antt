-- What a call on SUPER calls: a body or a method of the base, or what any other call behind a place does.
use Rattle.std.proofs.Common.{◌≡◌, ℕ, Bool, true, false, List, [], Option, Some, None, refl, sym, ap, ◌∙◌, subst, inl, inr}
use Rattle.std.specs.Prelude.{◌&&◌, option_map, if◌then◌else◌, is_some}
use Rattle.plc_text.specs.declared.code.Code.TheVariants.{E05, E07, E10}
use Rattle.st_types.specs.declared.st_type.StType.{StType}
use Rattle.st_types.specs.declared.st_type.StType.TheVariants as type
use Rattle.st_tree.specs.declared.expression.Root.TheVariants as root
use Rattle.st_tree.specs.declared.program.Note.{Note}
use Rattle.st_tree.specs.declared.program.Target.TheVariants as target
use Rattle.st_tree.specs.Expression.{Selector, Field, Index, Selectors, no_selectors, selector_then}
use Rattle.st_tree.specs.Expression as tree
use Rattle.st_rules.specs.declared.signature.ResultType.TheVariants as outcome
use Rattle.st_rules.specs.Faults.{when, at}
use Rattle.st_rules.specs.Classes.{lookup}
use Rattle.st_rules.specs.Chains.{◌or_else◌}
use Rattle.st_rules.specs.Scope.{Scope, instance_variable, is_block_at}
use Rattle.st_rules.specs.Places.{Standing, untold, a_value, own_instance, no_base, an_enumeration, standing_of, standing_type, is_no_base, root_standing, super_standing, part_of, part_type, member_part, part_faults, part_not_found, selector_faults, selected, referenced, is_last, root_faults, indexed, count_expressions}
use Rattle.st_rules.specs.Places as places
use Rattle.st_rules.specs.Calls.{Callee, no_callee, not_callable, a_conversion, a_routine, a_body, base_body, no_base_body, callee, callee_along, part_callee, routine_callee, standing_callee, own_callee, call_of_no_callable, super_call_without_base_block, super_call_in_a_method, has_in_outs, block_parameters, Head}
use Rattle.st_rules.specs.Expressions.{told, note, typed_root, typed_along, typed_selector, part_note, part_target, standing_note, along_faults, called_root_faults}
use Rattle.st_values.specs.Program.{Program}
use Rattle.st_meaning.specs.Place.{root_note}
use Rattle.st_meaning.specs.Call.{Search, by_instance, from_class, method_target, last_method, is_direct, class_of_kind, member_callee, callee_of}
use Rattle.st_meaning.specs.Call as call
use Rattle.st_meaning.specs.st_frame.Use.{a_method_of, a_method_from, a_body_of, the_body_from, called_of, called_by, receiver, last_kind}
use Rattle.st_meaning.specs.st_frame.Promise.Names.{Scope as Around, RootIs}
use Rattle.st_meaning.specs.st_frame.Promise.Calls.{SameInOuts}
use Rattle.st_meaning.specs.st_frame.Promise.Expressions.{CalledAlong}
use Rattle.place_laws.specs.Agrees.{Agrees, Runs, OneOf}
use Rattle.place_laws.proofs.Words.{none_in, not_when}
use Rattle.place_laws.proofs.Places.{StandsAs, told_as, IsPlaced, root_is, super_own, super_not_plain}
use Rattle.place_laws.proofs.Whole
use Rattle.call_laws.proofs.Called
use Rattle.call_laws.proofs.Behind
use Rattle.call_laws.proofs.Joined
use Rattle.call_laws.proofs.Callees

-- ---- where the root does not matter

-- the instance as which the text runs does not stand there
abbrev IsOther : Standing → Type 0
IsOther (own_instance c) = ⊥
IsOther _ = Unit {0}

other_type : (o : Option StType) → IsOther (standing_of o)
other_type None = tt
other_type (Some t) = tt

other_reference : (t : StType) → IsOther (referenced t)
other_reference (type.Reference c) = tt
other_reference t = tt

module _ (s : Scope) (p : Program) (g : Around) (a : Agrees s p g) where
  other_field : (b : Standing) (l : ℕ) (n : List ℕ) → IsOther (selected s b (Field l n))
  unfolding selected
  other_field b l n = other_type (part_type (part_of s b false n))

  other_index : (b : Standing) (l : ℕ) (es : _) → IsOther (selected s b (Index l es))
  unfolding selected
  other_index b l es = other_type (indexed (count_expressions es) (standing_type b))

  other_target : (b : Standing) (l : ℕ) → IsOther b → IsOther (selected s b (tree.Target l))
  unfolding selected
  other_target (a_value t) l h = other_reference t
  other_target untold l h = tt
  other_target no_base l h = tt
  other_target (an_enumeration n) l h = tt
  other_target (own_instance c) l h = absurd h

  other_callee : (l k : ℕ) (b : Standing) → IsOther b → standing_callee s (root.Super l) b ≡ standing_callee s (root.This k) b
  other_callee l k (own_instance c) h = absurd h
  other_callee l k _ h = refl

  rootless : (l k : ℕ) (b : Standing) (ss : Selectors ℕ) → IsOther b → callee_along s (root.Super l) b ss ≡ callee_along s (root.This k) b ss
  rootless l k b no_selectors h = other_callee l k b h
  rootless l k b (selector_then (Field j n) no_selectors) h = refl
  rootless l k b (selector_then (Field j n) (selector_then y ss)) h = rootless l k (selected s b (Field j n)) (selector_then y ss) (other_field b j n)
  rootless l k b (selector_then (Index j es) ss) h = rootless l k (selected s b (Index j es)) ss (other_index b j es)
  rootless l k b (selector_then (tree.Target j) ss) h = rootless l k (selected s b (tree.Target j)) ss (other_target b j h)

  -- ---- SUPER has a base

  no_field : (line i : ℕ) (n : List ℕ) (called : Bool) → selector_faults s line called no_base (Field i n) ≡ [] → ⊥
  unfolding selector_faults part_faults part_of
  no_field line i n called f = bad (none_in (part_not_found s i no_base None) _ f).0
    where
      bad : when true E05 i ≡ [] → ⊥
      bad h = cc

  no_index : (line i : ℕ) (es : _) (called : Bool) → selector_faults s line called no_base (Index i es) ≡ [] → ⊥
  unfolding selector_faults
  no_index line i es called f = bad (none_in (places.super_without_base line no_base) _ f).0
    where
      bad : when true E07 line ≡ [] → ⊥
      bad h = cc

  no_target : (i : ℕ) → selected s no_base (tree.Target i) ≡ no_base
  unfolding selected
  no_target i = refl

  no_call : (l : ℕ) → at E07 l ≡ [] → ⊥
  no_call l h = cc

  baseless : (line l j : ℕ) (ss : Selectors ℕ) → along_faults s line true no_base ss ≡ [] → super_call_without_base_block s l (callee_along s (root.Super j) no_base ss) ≡ [] → ⊥
  baseless line l j no_selectors f h = no_call l h
  baseless line l j (selector_then (Field i n) ss) f h = no_field line i n (true && is_last ss) (Whole.parts_of_along s p g a line true no_base (Field i n) ss f).0
  baseless line l j (selector_then (Index i es) ss) f h = no_index line i es (true && is_last ss) (Whole.parts_of_along s p g a line true no_base (Index i es) ss f).0
  baseless line l j (selector_then (tree.Target i) ss) f h =
      baseless line l j ss (subst (λ b. along_faults s line true b ss ≡ []) (no_target i) (Whole.parts_of_along s p g a line true no_base (tree.Target i) ss f).2)
      (subst (λ b. super_call_without_base_block s l (callee_along s (root.Super j) b ss) ≡ []) (no_target i) h)

  based : (line l j : ℕ) (b : Standing) (ss : Selectors ℕ) → along_faults s line true b ss ≡ [] → super_call_without_base_block s l (callee_along s (root.Super j) b ss) ≡ [] → is_no_base b ≡ false
  based line l j no_base ss f h = absurd (baseless line l j ss f h)
  based line l j untold ss f h = refl
  based line l j (a_value t) ss f h = refl
  based line l j (own_instance c) ss f h = refl
  based line l j (an_enumeration n) ss f h = refl

  -- ---- the last name, seen from SUPER: directly behind it a method is the base's

  abbrev Way : Callee → ℕ → Selectors Note → Type 0
  Way (a_routine q) d tss = (name : List ℕ) × (last_method None tss ≡ Some name) × OneOf (is_direct tss) (Runs p (a_method_from d name) q.parameters q.outcome) (Runs p (a_method_of (receiver (type.Instance d) tss) name) q.parameters q.outcome)
  Way (a_body e) d tss = (is_direct tss ≡ false) × (last_method None tss ≡ None) × (last_kind (type.Instance d) tss ≡ type.Instance e) × (is_block_at s e ≡ true)
  Way (base_body e) d tss = (is_direct tss ≡ true) × (last_method None tss ≡ None) × (e ≡ d) × (is_block_at s e ≡ true)
  Way not_callable d tss = Unit {0}
  Way no_base_body d tss = Unit {0}
  Way _ d tss = ⊥

  -- what is not direct is as from anywhere
  from_way : (c : Callee) (d : ℕ) (tss : Selectors Note) → is_direct tss ≡ false → Behind.Way s p g a c (type.Instance d) tss → Way c d tss
  from_way (a_routine q) d tss e h = (h.0, h.1, subst (λ b. OneOf b (Runs p (a_method_from d h.0) q.parameters q.outcome) (Runs p (a_method_of (receiver (type.Instance d) tss) h.0) q.parameters q.outcome)) (sym e) h.2)
  from_way (a_body b) d tss e h = (e, h.0, h.1, h.2)
  from_way not_callable d tss e h = tt
  from_way no_callee d tss e h = absurd h
  from_way (a_conversion x y) d tss e h = absurd h
  from_way (base_body b) d tss e h = absurd h
  from_way no_base_body d tss e h = absurd h

  same_receiver : (t : StType) (n : Note) (ts : Selectors Note) → n.kind ≡ t → receiver t ts ≡ receiver t (selector_then (tree.Target n) ts)
  same_receiver t n no_selectors e = refl
  same_receiver t n (selector_then y ts) e = ap (λ k. receiver k (selector_then y ts)) (sym e)

  -- `^` changes nothing
  dereferenced_way : (c : Callee) (d : ℕ) (n : Note) (ts : Selectors Note) → n.kind ≡ type.Instance d → Way c d ts → Way c d (selector_then (tree.Target n) ts)
  dereferenced_way (a_routine q) d n ts e h =
      (h.0, h.1, subst (λ r. OneOf (is_direct ts) (Runs p (a_method_from d h.0) q.parameters q.outcome) (Runs p (a_method_of r h.0) q.parameters q.outcome)) (same_receiver (type.Instance d) n ts e) h.2)
  dereferenced_way (a_body b) d n ts e h = (h.0, h.1, ap (λ k. last_kind k ts) e ∙ h.2, h.3)
  dereferenced_way (base_body b) d n ts e h = h
  dereferenced_way not_callable d n ts e h = tt
  dereferenced_way no_base_body d n ts e h = tt
  dereferenced_way no_callee d n ts e h = absurd h
  dereferenced_way (a_conversion x y) d n ts e h = absurd h

  -- back from behind `^`
  way_within : (c : Callee) (t : StType) (n : Note) (y : Selector Note) (ts : Selectors Note) → n.kind ≡ t → Behind.Way s p g a c t (selector_then (tree.Target n) (selector_then y ts)) → Behind.Way s p g a c t (selector_then y ts)
  way_within (a_routine q) t n y ts e h = (h.0, h.1, subst (λ k. Runs p (a_method_of (receiver k (selector_then y ts)) h.0) q.parameters q.outcome) e h.2)
  way_within (a_body b) t n y ts e h = (h.0, sym (ap (λ k. last_kind k (selector_then y ts)) e) ∙ h.1, h.2)
  way_within not_callable t n y ts e h = tt
  way_within no_callee t n y ts e h = absurd h
  way_within (a_conversion x z) t n y ts e h = absurd h
  way_within (base_body b) t n y ts e h = absurd h
  way_within no_base_body t n y ts e h = absurd h

  own_target : (d j : ℕ) → selected s (own_instance d) (tree.Target j) ≡ own_instance d
  unfolding selected
  own_target d j = refl

  body_way : (l d : ℕ) → Way (own_callee s (root.Super l) d) d no_selectors
  body_way l d = by (is_block_at s d) refl
    where
      by : (b : Bool) → is_block_at s d ≡ b → Way (if b then base_body d else no_base_body) d no_selectors
      by true e = (refl, refl, refl, e)
      by false e = tt

  -- a method directly behind SUPER
  method_way : (d : ℕ) (n : List ℕ) (x : Note) (o : _) → lookup s.classes d n ≡ o → x.target ≡ part_target (option_map places.a_method o) → (Behind.Way s p g a (part_callee s (option_map places.a_method o)) (type.Instance d) (selector_then (Field x n) no_selectors))
      → Way (part_callee s (option_map places.a_method o)) d (selector_then (Field x n) no_selectors)
  method_way d n x None e t h = absurd h
  method_way d n x (Some id) e t h =
      let m = (a.method d n id e).1 in
      let named : method_target x.target n ≡ Some n = ap (λ y. method_target y n) t in
      subst (λ c. Way c d (selector_then (Field x n) no_selectors)) (sym (ap (routine_callee s) m.declared))
      (n, named, subst (λ b. OneOf b (Runs p (a_method_from d n) m.routine.parameters m.routine.outcome) (Runs p (a_method_of (type.Instance d) n) m.routine.parameters m.routine.outcome)) (sym (ap is_some named)) m.runs)

  last_way : (d j : ℕ) (n : List ℕ) (x : Note) → x.target ≡ part_target (part_of s (own_instance d) true n) → Behind.Way s p g a (part_callee s (part_of s (own_instance d) true n)) (type.Instance d) (selector_then (Field x n) no_selectors)
      → Way (part_callee s (part_of s (own_instance d) true n)) d (selector_then (Field x n) no_selectors)
  unfolding part_of
  last_way d j n x t h = by (instance_variable s d n) refl t h
    where
      by : (o : _) → instance_variable s d n ≡ o → x.target ≡ part_target (member_part o or_else option_map places.a_method (lookup s.classes d n)) → Behind.Way s p g a (part_callee s (member_part o or_else option_map places.a_method (lookup s.classes d n))) (type.Instance d) (selector_then (Field x n) no_selectors)
          → Way (part_callee s (member_part o or_else option_map places.a_method (lookup s.classes d n))) d (selector_then (Field x n) no_selectors)
      by None e u w = method_way d n x (lookup s.classes d n) refl u w
      by (Some m) e u w =
          let q = a.member d n m e in
          from_way (part_callee s (Some (places.a_member m.0 m.1))) d (selector_then (Field x n) no_selectors) (ap (λ y. is_some (method_target y n)) (u ∙ q.target)) w

  -- ---- the way from SUPER, where the way from THIS is known

  abbrev FromThis : ℕ → Standing → StType → Selectors ℕ → Type 0
  FromThis k b t no_selectors = Unit {0}
  FromThis k b t (selector_then x ss) = Behind.Way s p g a (callee_along s (root.This k) b (selector_then x ss)) t (typed_along s true b (selector_then x ss))

  not_direct : (l k : ℕ) (d : ℕ) (x : Selector ℕ) (ss : Selectors ℕ) → is_direct (typed_along s true (own_instance d) (selector_then x ss)) ≡ false → callee_along s (root.Super l) (own_instance d) (selector_then x ss) ≡ callee_along s (root.This k) (own_instance d) (selector_then x ss) → FromThis k (own_instance d) (type.Instance d) (selector_then x ss)
      → Way (callee_along s (root.Super l) (own_instance d) (selector_then x ss)) d (typed_along s true (own_instance d) (selector_then x ss))
  not_direct l k d x ss e c h =
      subst (λ z. Way z d (typed_along s true (own_instance d) (selector_then x ss))) (sym c) (from_way (callee_along s (root.This k) (own_instance d) (selector_then x ss)) d (typed_along s true (own_instance d) (selector_then x ss)) e h)

  target_noted : (d j : ℕ) → (standing_note s j (selected s (own_instance d) (tree.Target j))).kind ≡ type.Instance d
  unfolding selected standing_note
  target_noted d j = told_as (Some (type.Instance d)) (type.Instance d) refl

  -- behind `^` too
  this_within : (k d j : ℕ) (ss : Selectors ℕ) → FromThis k (own_instance d) (type.Instance d) (selector_then (tree.Target j) ss) → FromThis k (own_instance d) (type.Instance d) ss
  this_within k d j no_selectors h = tt
  this_within k d j (selector_then y ss) h =
      let b = selected s (own_instance d) (tree.Target j) in
      subst (λ z. FromThis k z (type.Instance d) (selector_then y ss)) (own_target d j)
      (way_within (callee_along s (root.This k) b (selector_then y ss)) (type.Instance d) (standing_note s j b) (typed_selector s (true && is_last ss) b y) (typed_along s true (selected s b y) ss) (target_noted d j) h)

  last_target : (d j : ℕ) (n : List ℕ) → (part_note s true (own_instance d) j n).target ≡ part_target (part_of s (own_instance d) true n)
  unfolding part_note
  last_target d j n = refl

  super_way : (l k d : ℕ) (ss : Selectors ℕ) → FromThis k (own_instance d) (type.Instance d) ss → Way (callee_along s (root.Super l) (own_instance d) ss) d (typed_along s true (own_instance d) ss)
  super_way l k d no_selectors h = body_way l d
  super_way l k d (selector_then (Field j n) no_selectors) h = last_way d j n (part_note s true (own_instance d) j n) (last_target d j n) h
  super_way l k d (selector_then (Field j n) (selector_then y ss)) h = not_direct l k d (Field j n) (selector_then y ss) refl (rootless l k (selected s (own_instance d) (Field j n)) (selector_then y ss) (other_field (own_instance d) j n)) h
  super_way l k d (selector_then (Index j es) no_selectors) h = not_direct l k d (Index j es) no_selectors refl (rootless l k (selected s (own_instance d) (Index j es)) no_selectors (other_index (own_instance d) j es)) h
  super_way l k d (selector_then (Index j es) (selector_then y ss)) h = not_direct l k d (Index j es) (selector_then y ss) refl (rootless l k (selected s (own_instance d) (Index j es)) (selector_then y ss) (other_index (own_instance d) j es)) h
  super_way l k d (selector_then (tree.Target j) ss) h =
      let b = selected s (own_instance d) (tree.Target j) in
      dereferenced_way (callee_along s (root.Super l) b ss) d (standing_note s j b) (typed_along s true b ss) (target_noted d j)
      (subst (λ z. Way (callee_along s (root.Super l) z ss) d (typed_along s true z ss)) (sym (own_target d j)) (super_way l k d ss (this_within k d j ss h)))

  -- ---- what is called

  abbrev Called_as : Note → Selectors Note → Callee → call.Callee → Type 0
  Called_as n ts c z = Called.BareIs s p g a c z (RootIs p g (root.Super n) × CalledAlong p g ts n.kind) (last_kind n.kind ts) (called_by z (receiver n.kind ts) (last_kind n.kind ts))

  searched : (n : Note) (ts : Selectors Note) (m : Option (List ℕ)) (b : Bool) (x : Search) → is_direct ts ≡ b → (if b then from_class (class_of_kind n.kind) else by_instance) ≡ x → last_method None ts ≡ m → callee_of (root.Super n) ts ≡ member_callee x m
  searched n ts m b x e f h =
      ap (λ z. member_callee (if z then from_class (class_of_kind n.kind) else by_instance) (last_method None ts)) e ∙ (ap (λ z. member_callee z (last_method None ts)) f ∙ ap (member_callee x) h)

  no_callable : (l : ℕ) → call_of_no_callable s l not_callable ≡ [] → ⊥
  no_callable l h = cc

  named : (l d : ℕ) (c : Callee) (n : Note) (ts : Selectors Note) → n.kind ≡ type.Instance d → RootIs p g (root.Super n) → CalledAlong p g ts n.kind → Way c d ts → call_of_no_callable s l c ≡ [] → super_call_without_base_block s l c ≡ [] → super_call_in_a_method s l c ≡ []
      → (is_block_at s d ≡ true → (s.in_method && has_in_outs s d) ≡ false → Runs p (the_body_from d) [] outcome.Nothing × SameInOuts p g.locals d) → Called_as n ts c (callee_of (root.Super n) ts)
  named l d (a_routine q) n ts k r i w f v m base = by (is_direct ts) refl w.2
    where
      by : (b : Bool) → is_direct ts ≡ b → OneOf b (Runs p (a_method_from d w.0) q.parameters q.outcome) (Runs p (a_method_of (receiver (type.Instance d) ts) w.0) q.parameters q.outcome) → Called_as n ts (a_routine q) (callee_of (root.Super n) ts)
      by true e x =
          let z = searched n ts (Some w.0) true (from_class d) e (ap (λ y. from_class (class_of_kind y)) k) w.1 in
          subst (Called_as n ts (a_routine q)) (sym z) ((r, i), (a_method_from d w.0, refl, x))
      by false e x =
          let z = searched n ts (Some w.0) false by_instance e refl w.1 in
          subst (Called_as n ts (a_routine q)) (sym z) ((r, i), (a_method_of (receiver n.kind ts) w.0, refl, subst (λ y. Runs p (a_method_of (receiver y ts) w.0) q.parameters q.outcome) (sym k) x))
  named l d (a_body e) n ts k r i w f v m base =
      let z = searched n ts None false by_instance w.0 refl w.1 in
      let t : last_kind n.kind ts ≡ type.Instance e = ap (λ y. last_kind y ts) k ∙ w.2 in
      subst (Called_as n ts (a_body e)) (sym z) (refl, (r, i), t, refl, subst (λ y. Runs p (a_body_of y) (block_parameters s e) outcome.Nothing) (sym t) (a.body e w.3))
  named l d (base_body e) n ts k r i w f v m base =
      let z = searched n ts None true (from_class e) w.0 (ap (λ y. from_class (class_of_kind y)) k ∙ ap from_class (sym w.2)) w.1 in
      let x = base (subst (λ y. is_block_at s y ≡ true) w.2 w.3) (subst (λ y. (s.in_method && has_in_outs s y) ≡ false) w.2 (not_when (s.in_method && has_in_outs s e) E10 l m)) in
      subst (Called_as n ts (base_body e)) (sym z) (refl, (r, i), subst (SameInOuts p g.locals) (sym w.2) x.1, refl, subst (λ y. Runs p (the_body_from y) [] outcome.Nothing) (sym w.2) x.0)
  named l d not_callable n ts k r i w f v m base = absurd (no_callable l f)
  named l d no_base_body n ts k r i w f v m base = absurd (no_call l v)
  named l d no_callee n ts k r i w f v m base = absurd w
  named l d (a_conversion x y) n ts k r i w f v m base = absurd w

  called_super : (j : ℕ) (ss : Selectors ℕ) → called_root_faults s (root.Super j) ss ≡ root_faults s false (root.Super j) ss
  unfolding called_root_faults root_faults
  called_super j ss = refl

  callee_super : (j : ℕ) (ss : Selectors ℕ) → callee s (root.Super j) ss ≡ callee_along s (root.Super j) (root_standing s (root.Super j) ss) ss
  unfolding callee
  callee_super j no_selectors = refl
  callee_super j (selector_then x ss) = refl

  -- the note of SUPER
  super_note : (j : ℕ) (ss : Selectors ℕ) (called : Bool) → typed_root s called (root.Super j) ss ≡ root.Super (note j (standing_type (root_standing s (root.Super j) ss)) target.Nothing)
  unfolding typed_root
  super_note j ss called = refl

  -- the selectors that are known to lead on from THIS
  abbrev Onward : ℕ → Standing → StType → Selectors ℕ → Type 0
  Onward j b t ss = CalledAlong p g (typed_along s true b ss) t × FromThis j b t ss

  onward : (j : ℕ) (ss : Selectors ℕ) → ((x : Selector ℕ) (rest : Selectors ℕ) → ss ≡ selector_then x rest → Callees.Beyond s p g a (root.This j) (selector_then x rest)) → (b : Standing) (t : StType) → StandsAs b t → along_faults s j true b ss ≡ [] → Onward j b t ss
  onward j no_selectors on b t h f = (tt, tt)
  onward j (selector_then x rest) on b t h f = let q = on x rest refl b t h f in (q.is, q.way)

  pub super_is : (l j : ℕ) (ss : Selectors ℕ) (hs : List Head) → Callees.Passes s p g a l (root.Super j) ss hs → ((x : Selector ℕ) (rest : Selectors ℕ) → ss ≡ selector_then x rest → Callees.Beyond s p g a (root.This j) (selector_then x rest)) → Joined.IsCallee s p g a (root.Super j) ss
  super_is l j ss hs h on =
      let r = root.Super j in
      let c = callee s r ss in
      let parts = Called.callee_parts s p g a l _ c hs h.callee in
      let f : root_faults s false r ss ≡ [] = sym (called_super j ss) ∙ h.root in
      let nb = based j l j (root_standing s r ss) ss h.along (subst (λ z. super_call_without_base_block s l z ≡ []) (callee_super j ss) parts.1) in
      let placed : IsPlaced s p g a r ss =
      record {
        super = λ i e. (subst (λ b. is_no_base b ≡ false) (Whole.super_stands s p g a j ss) nb, Whole.super_based s p g a j s.class refl (Whole.outside s p g a j ss f));
        name = λ i k name n rest e. absurd (cc);
      } in
      let q = root_is s p g a r ss f placed in
      let stands : StandsAs (super_standing s s.class) q.kind = subst (λ b. StandsAs b q.kind) (Whole.super_stands s p g a j ss) q.stands in
      let own = super_own s p g a s.class q.kind stands in
      let here : root_standing s r ss ≡ own_instance own.1 = Whole.super_stands s p g a j ss ∙ own.4 in
      let kind : type.Instance own.1 ≡ q.kind = subst (λ b. StandsAs b q.kind) here q.stands in
      let n = note j (standing_type (root_standing s r ss)) target.Nothing in
      let k : n.kind ≡ type.Instance own.1 = ap (λ b. told (standing_type b)) here ∙ told_as (Some (type.Instance own.1)) (type.Instance own.1) refl in
      let root_right : RootIs p g (root.Super n) =
      elim q.is [
        | inl w ↦ subst (RootIs p g) (super_note j ss false) w
        | inr w ↦ absurd (super_not_plain s p g a s.class q.kind w stands)
      ] in
      let ts = typed_along s true (root_standing s r ss) ss in
      let ahead = onward j ss on (own_instance own.1) (type.Instance own.1) refl (subst (λ b. along_faults s j true b ss ≡ []) here h.along) in
      let along : CalledAlong p g ts n.kind = subst (CalledAlong p g ts) (sym k) (subst (λ b. CalledAlong p g (typed_along s true b ss) (type.Instance own.1)) (sym here) ahead.0) in
      let way : Way c own.1 ts = subst (λ z. Way z own.1 ts) (sym (callee_super j ss)) (subst (λ b. Way (callee_along s r b ss) own.1 (typed_along s true b ss)) (sym here) (super_way j j own.1 ss ahead.1)) in
      subst (λ z. Called.BareIs s p g a c (callee_of z ts) (RootIs p g z × CalledAlong p g ts (root_note z).kind) (last_kind (root_note z).kind ts) (called_of z ts)) (sym (super_note j ss true))
      (named l own.1 c n ts k root_right along way parts.0 parts.1 parts.3 (λ x y. a.base_body own.0 own.1 own.2 own.3 x y))
