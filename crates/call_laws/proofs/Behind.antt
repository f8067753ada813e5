-- Calls behind a place, but those on SUPER: what is called by its last name, and what may be entered.
use Rattle.std.proofs.Common.{◌≡◌, ℕ, Bool, true, false, List, [], Option, Some, None, refl, sym, ap, ◌∙◌, subst}
use Rattle.std.specs.Prelude.{option_map, if◌then◌else◌}
use Rattle.std.specs.Option.{is_none}
use Rattle.plc_text.specs.declared.code.Code.TheVariants.{E05}
use Rattle.st_types.specs.declared.st_type.StType.{StType}
use Rattle.st_types.specs.declared.st_type.StType.TheVariants as type
use Rattle.st_tree.specs.declared.expression.Root.{Root}
use Rattle.st_tree.specs.declared.program.Note.{Note}
use Rattle.st_tree.specs.declared.program.Target.{Target}
use Rattle.st_tree.specs.declared.program.Target.TheVariants as target
use Rattle.st_tree.specs.Expression.{Selector, Field, Index, Selectors, no_selectors, selector_then}
use Rattle.st_tree.specs.Expression as tree
use Rattle.st_rules.specs.Classes.{lookup}
use Rattle.st_rules.specs.Interfaces.{interface_lookup}
use Rattle.st_rules.specs.Chains.{◌or_else◌}
use Rattle.st_rules.specs.Scope.{Scope, instance_variable, field_named, is_block_at}
use Rattle.st_rules.specs.Places.{Standing, untold, a_value, own_instance, no_base, an_enumeration, Part, a_prototype, part_of, part_type, value_part, instance_part, member_part, field_part, part_not_found, part_faults, selector_faults, selected, is_last}
use Rattle.st_rules.specs.Places as places
use Rattle.st_rules.specs.Calls.{Callee, no_callee, not_callable, a_conversion, a_routine, a_body, base_body, no_base_body, called_type, block_body, routine_callee, part_callee, own_callee, standing_callee, callee_along}
use Rattle.st_rules.specs.Expressions.{told, typed_along, typed_selector, part_note, part_target, along_faults, selector_index_faults}
use Rattle.st_values.specs.Program.{Program}
use Rattle.st_meaning.specs.Call.{last_method, method_name, method_target}
use Rattle.st_meaning.specs.Expression.{selector_note}
use Rattle.st_meaning.specs.st_frame.Use.{a_method_of, receiver, last_kind}
use Rattle.st_meaning.specs.st_frame.Promise.Names.{Scope as Around}
use Rattle.st_meaning.specs.st_frame.Promise.Places.{PartIs, LastIs}
use Rattle.st_meaning.specs.st_frame.Promise.Expressions.{CalledAlong}
use Rattle.place_laws.specs.Agrees.{Agrees, Runs}
use Rattle.place_laws.proofs.Words.{none_in, not_when}
use Rattle.place_laws.proofs.Places.{StandsAs, told_as}
use Rattle.place_laws.proofs.Heart
use Rattle.place_laws.proofs.Whole

module _ (s : Scope) (p : Program) (g : Around) (a : Agrees s p g) where
  -- what the last name says of what is called
  abbrev pub Way : Callee → StType → Selectors Note → Type 0
  Way (a_routine q) t tss = (name : List ℕ) × (last_method None tss ≡ Some name) × Runs p (a_method_of (receiver t tss) name) q.parameters q.outcome
  Way (a_body d) t tss = (last_method None tss ≡ None) × (last_kind t tss ≡ type.Instance d) × (is_block_at s d ≡ true)
  Way not_callable t tss = Unit {0}
  Way _ t tss = ⊥

  pub record Behind (r : Root ℕ) (b : Standing) (t : StType) (ss : Selectors ℕ) : Type 0 where
    pub is : CalledAlong p g (typed_along s true b ss) t
    pub way : Way (callee_along s r b ss) t (typed_along s true b ss)

  -- ---- the last name

  abbrev OnePart : Option Part → List ℕ → Selectors Note
  OnePart o n = selector_then (Field (record { line = 0; kind = told (part_type o); target = part_target o }) n) no_selectors

  abbrev Last : Option Part → StType → List ℕ → Type 0
  Last o t n = LastIs p t (part_target o) (told (part_type o)) × ((l : ℕ) → Way (part_callee s o) t (selector_then (Field (record { line = l; kind = told (part_type o); target = part_target o }) n) no_selectors))

  block_way : (d : ℕ) (b : Bool) → is_block_at s d ≡ b → (t u : StType) (a' : Note) (n : List ℕ) → method_target a'.target n ≡ None → a'.kind ≡ type.Instance d → Way (if b then a_body d else not_callable) t (selector_then (Field a' n) no_selectors)
  block_way d true e t u a' n h k = (h, k, e)
  block_way d false e t u a' n h k = tt

  typed_way : (u t : StType) (a' : Note) (n : List ℕ) → method_target a'.target n ≡ None → a'.kind ≡ u → Way (called_type s (Some u)) t (selector_then (Field a' n) no_selectors)
  typed_way (type.Instance d) t a' n h k = block_way d (is_block_at s d) refl t (type.Instance d) a' n h k
  typed_way _ t a' n h k = tt

  any_way : (o : Option StType) (u t : StType) (a' : Note) (n : List ℕ) → o ≡ Some u → method_target a'.target n ≡ None → a'.kind ≡ u → Way (called_type s o) t (selector_then (Field a' n) no_selectors)
  any_way o u t a' n e h k = subst (λ x. Way (called_type s x) t (selector_then (Field a' n) no_selectors)) (sym e) (typed_way u t a' n h k)

  last_named : (t : StType) (x : Target) (u : StType) → PartIs p t x u → LastIs p t x u
  last_named t (target.Field k) u h = h
  last_named t (target.Variable k) u h = h
  last_named t _ u h = absurd h

  variable_target : (x : Target) (k : ℕ) (n : List ℕ) → x ≡ target.Variable k → method_target x n ≡ None
  variable_target x k n e = ap (λ y. method_target y n) e

  last_method_found : (c : ℕ) (n : List ℕ) (o : _) → lookup s.classes c n ≡ o → is_none (option_map places.a_method o) ≡ false → Last (option_map places.a_method o) (type.Instance c) n
  last_method_found c n None e h = cc
  last_method_found c n (Some id) e h =
      let m = (a.method c n id e).0 in
      (tt, λ l. subst (λ y. Way y (type.Instance c) (selector_then (Field (record { line = l; kind = told (part_type (Some (places.a_method id))); target = target.Method id.method }) n) no_selectors)) (sym (ap (routine_callee s) m.declared)) (n, refl, m.runs))

  last_instance : (c : ℕ) (n : List ℕ) (o : _) → instance_variable s c n ≡ o → is_none (member_part o or_else option_map places.a_method (lookup s.classes c n)) ≡ false → Last (member_part o or_else option_map places.a_method (lookup s.classes c n)) (type.Instance c) n
  last_instance c n None e h = last_method_found c n (lookup s.classes c n) refl h
  last_instance c n (Some m) e h =
      let q = a.member c n m e in
      let k = told_as m.1.kind q.kind q.told in (
        last_named (type.Instance c) m.1.target (told m.1.kind) (subst (PartIs p (type.Instance c) m.1.target) (sym k) (subst (λ x. PartIs p (type.Instance c) x q.kind) (sym q.target) q.is)),
        λ l. any_way m.1.kind q.kind (type.Instance c) (record { line = l; kind = told m.1.kind; target = m.1.target }) n q.told (variable_target m.1.target q.number n q.target) k,
      )

  last_field : (k : ℕ) (n : List ℕ) (o : _) → field_named s k n ≡ o → is_none (field_part o) ≡ false → Last (field_part o) (type.Structure k) n
  last_field k n None e h = cc
  last_field k n (Some f) e h =
      let q = a.field k n f e in
      let z = told_as f.1.kind q.kind q.told in
      (subst (PartIs p (type.Structure k) (target.Field f.0)) (sym z) q.is, λ l. any_way f.1.kind q.kind (type.Structure k) (record { line = l; kind = told f.1.kind; target = target.Field f.0 }) n q.told refl z)

  last_prototype : (i : ℕ) (n : List ℕ) (o : _) → interface_lookup s.interfaces i n ≡ o → is_none (option_map a_prototype o) ≡ false → Last (option_map a_prototype o) (type.Interface i) n
  last_prototype i n None e h = cc
  last_prototype i n (Some id) e h =
      let m = a.prototype i n id e in
      (tt, λ l. subst (λ y. Way y (type.Interface i) (selector_then (Field (record { line = l; kind = told (part_type (Some (a_prototype id))); target = target.Method id.method }) n) no_selectors)) (sym (ap (routine_callee s) m.declared)) (n, refl, m.runs))

  last_value : (t : StType) (n : List ℕ) → is_none (value_part s t true n) ≡ false → Last (value_part s t true n) t n
  last_value (type.Structure k) n h = last_field k n (field_named s k n) refl h
  last_value (type.Instance c) n h = last_instance c n (instance_variable s c n) refl h
  last_value (type.Interface i) n h = last_prototype i n (interface_lookup s.interfaces i n) refl h
  last_value _ n h = cc

  last_part : (l : ℕ) (b : Standing) (t : StType) (n : List ℕ) → StandsAs b t → part_faults s l b (part_of s b true n) ≡ [] → Last (part_of s b true n) t n
  unfolding part_of part_faults
  last_part l (a_value u) t n h f = subst (λ x. Last (value_part s u true n) x n) h (last_value u n (not_when (is_none (value_part s u true n)) E05 l ((none_in (part_not_found s l (a_value u) (value_part s u true n)) _ f).0)))
  last_part l (own_instance c) t n h f = subst (λ x. Last (instance_part s c true n) x n) h (last_instance c n (instance_variable s c n) refl (not_when (is_none (instance_part s c true n)) E05 l ((none_in (part_not_found s l (own_instance c) (instance_part s c true n)) _ f).0)))
  last_part l untold t n h f = absurd h
  last_part l no_base t n h f = absurd h
  last_part l (an_enumeration k) t n h f = absurd h

  -- ---- along

  pub field_last : (r : Root ℕ) (line l : ℕ) (b : Standing) (t : StType) (n : List ℕ) → StandsAs b t → selector_faults s line true b (Field l n) ≡ [] → Behind r b t (selector_then (Field l n) no_selectors)
  unfolding selector_faults part_note
  field_last r line l b t n h f = let q = last_part l b t n h f in record { is = q.0; way = q.1 l }

  -- THIS calls the own body
  abbrev pub Own : Root ℕ → Type 0
  Own r = (c : ℕ) → own_callee s r c ≡ block_body s c

  pub standing_way : (r : Root ℕ) → Own r → (b : Standing) (u t : StType) → StandsAs b u → (x : Selector Note) → method_name x ≡ None → (selector_note x).kind ≡ u → Way (standing_callee s r b) t (selector_then x no_selectors)
  standing_way r own (a_value v) u t h x m k = by v (k ∙ sym h)
    where
      block : (d : ℕ) (c : Bool) → is_block_at s d ≡ c → (selector_note x).kind ≡ type.Instance d → Way (if c then a_body d else not_callable) t (selector_then x no_selectors)
      block d true e q = (m, q, e)
      block d false e q = tt

      by : (w : StType) → (selector_note x).kind ≡ w → Way (called_type s (Some w)) t (selector_then x no_selectors)
      by (type.Instance d) q = block d (is_block_at s d) refl q
      by _ q = tt
  standing_way r own (own_instance c) u t h x m k = subst (λ y. Way y t (selector_then x no_selectors)) (sym (own c)) (block c (is_block_at s c) refl (k ∙ sym h))
    where
      block : (d : ℕ) (z : Bool) → is_block_at s d ≡ z → (selector_note x).kind ≡ type.Instance d → Way (if z then a_body d else not_callable) t (selector_then x no_selectors)
      block d true e q = (m, q, e)
      block d false e q = tt
  standing_way r own untold u t h x m k = absurd h
  standing_way r own no_base u t h x m k = absurd h
  standing_way r own (an_enumeration n) u t h x m k = absurd h

  abbrev Steps : ℕ → Type 0
  Steps line = (b : Standing) (t : StType) (x : Selector ℕ) → StandsAs b t → selector_faults s line false b x ≡ [] → selector_index_faults s x ≡ [] → Heart.Stepped s p g a b t x

  pub same_faults : (line l : ℕ) (b : Standing) (es : _) → selector_faults s line true b (Index l es) ≡ selector_faults s line false b (Index l es)
  unfolding selector_faults
  same_faults line l b es = refl

  pub same_target : (line l : ℕ) (b : Standing) → selector_faults s line true b (tree.Target l) ≡ selector_faults s line false b (tree.Target l)
  unfolding selector_faults
  same_target line l b = refl

  pub way_next : (c : Callee) (t u : StType) (x y : Selector Note) (ts : Selectors Note) → (selector_note x).kind ≡ u → Way c u (selector_then y ts) → Way c t (selector_then x (selector_then y ts))
  way_next (a_routine q) t u x y ts e h = (h.0, h.1, subst (λ k. Runs p (a_method_of (receiver k (selector_then y ts)) h.0) q.parameters q.outcome) (sym e) h.2)
  way_next (a_body d) t u x y ts e h = (h.0, ap (λ k. last_kind k (selector_then y ts)) e ∙ h.1, h.2)
  way_next not_callable t u x y ts e h = tt
  way_next no_callee t u x y ts e h = absurd h
  way_next (a_conversion v w) t u x y ts e h = absurd h
  way_next (base_body d) t u x y ts e h = absurd h
  way_next no_base_body t u x y ts e h = absurd h

  pub behind : (r : Root ℕ) → Own r → (line : ℕ) → Steps line → (b : Standing) (t : StType) (x : Selector ℕ) (ss : Selectors ℕ) → StandsAs b t → along_faults s line true b (selector_then x ss) ≡ [] → Behind r b t (selector_then x ss)
  behind r own line steps b t (Field l n) no_selectors h f = field_last r line l b t n h ((Whole.parts_of_along s p g a line true b (Field l n) no_selectors f).0)
  behind r own line steps b t (Index l es) no_selectors h f =
      let q = Whole.parts_of_along s p g a line true b (Index l es) no_selectors f in
      let o = steps b t (Index l es) h (sym (same_faults line l b es) ∙ q.0) q.1 in
      record { is = (o.is, tt); way = standing_way r own (selected s b (Index l es)) o.ends t o.stands (typed_selector s false b (Index l es)) refl o.noted }
  behind r own line steps b t (tree.Target l) no_selectors h f =
      let q = Whole.parts_of_along s p g a line true b (tree.Target l) no_selectors f in
      let o = steps b t (tree.Target l) h (sym (same_target line l b) ∙ q.0) q.1 in
      record { is = (o.is, tt); way = standing_way r own (selected s b (tree.Target l)) o.ends t o.stands (typed_selector s false b (tree.Target l)) refl o.noted }
  behind r own line steps b t (Field l n) (selector_then y ss) h f =
      let q = Whole.parts_of_along s p g a line true b (Field l n) (selector_then y ss) f in
      let o = steps b t (Field l n) h q.0 q.1 in
      let z = behind r own line steps (selected s b (Field l n)) o.ends y ss o.stands q.2 in
      record {
        is = (o.is, subst (CalledAlong p g (typed_along s true (selected s b (Field l n)) (selector_then y ss))) (sym o.noted) z.is);
        way = way_next (callee_along s r (selected s b (Field l n)) (selector_then y ss)) t o.ends (typed_selector s false b (Field l n)) (typed_selector s (is_last ss) (selected s b (Field l n)) y) (typed_along s true (selected s (selected s b (Field l n)) y) ss) o.noted z.way;
      }
  behind r own line steps b t (Index l es) (selector_then y ss) h f =
      let q = Whole.parts_of_along s p g a line true b (Index l es) (selector_then y ss) f in
      let o = steps b t (Index l es) h q.0 q.1 in
      let z = behind r own line steps (selected s b (Index l es)) o.ends y ss o.stands q.2 in
      record {
        is = (o.is, subst (CalledAlong p g (typed_along s true (selected s b (Index l es)) (selector_then y ss))) (sym o.noted) z.is);
        way = way_next (callee_along s r (selected s b (Index l es)) (selector_then y ss)) t o.ends (typed_selector s false b (Index l es)) (typed_selector s (is_last ss) (selected s b (Index l es)) y) (typed_along s true (selected s (selected s b (Index l es)) y) ss) o.noted z.way;
      }
  behind r own line steps b t (tree.Target l) (selector_then y ss) h f =
      let q = Whole.parts_of_along s p g a line true b (tree.Target l) (selector_then y ss) f in
      let o = steps b t (tree.Target l) h q.0 q.1 in
      let z = behind r own line steps (selected s b (tree.Target l)) o.ends y ss o.stands q.2 in
      record {
        is = (o.is, subst (CalledAlong p g (typed_along s true (selected s b (tree.Target l)) (selector_then y ss))) (sym o.noted) z.is);
        way = way_next (callee_along s r (selected s b (tree.Target l)) (selector_then y ss)) t o.ends (typed_selector s false b (tree.Target l)) (typed_selector s (is_last ss) (selected s b (tree.Target l)) y) (typed_along s true (selected s (selected s b (tree.Target l)) y) ss) o.noted z.way;
      }
