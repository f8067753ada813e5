-- Arguments and the parameters that they are for.
use Rattle.std.proofs.Common.{◌≡◌, ℕ, suc, ◌+◌, Bool, true, false, List, [], ◌∷◌, ◌++◌, Option, Some, None, refl, sym, ap, ◌∙◌, subst, arith}
use Rattle.std.specs.Prelude.{◌&&◌, not, if◌then◌else◌, slice_get}
use Rattle.plc_text.specs.Words.{same}
use Rattle.plc_text.specs.declared.code.Code.TheVariants.{E07, E08}
use Rattle.st_types.specs.declared.st_type.StType.{StType}
use Rattle.st_tree.specs.declared.declaration.SectionSort.{SectionSort}
use Rattle.st_tree.specs.declared.declaration.SectionSort.TheVariants as sort
use Rattle.st_tree.specs.declared.expression.Root.{Root}
use Rattle.st_tree.specs.declared.program.Target.{Target}
use Rattle.st_tree.specs.declared.program.Target.TheVariants as target
use Rattle.st_tree.specs.Expression.{Expression, Place, Selectors}
use Rattle.st_rules.proofs.Booleans.{some-same, both}
use Rattle.st_rules.specs.declared.asked.Asked.{Asked}
use Rattle.st_rules.specs.declared.asked.Asked.TheVariants.{Wanted}
use Rattle.st_rules.specs.declared.names.DeclaredVariable.{DeclaredVariable}
use Rattle.st_rules.specs.Kinds.{is_assignable, is_bindable}
use Rattle.st_rules.specs.Literals.{asked_of}
use Rattle.st_rules.specs.Scope.{Scope}
use Rattle.st_rules.specs.Places.{is_output_sort, is_fixed}
use Rattle.st_rules.specs.Calls.{is_given, is_taken, is_in_out_sort, parameter_from, given_from, asked_by, matched_type, value_unsuited, bound_to_another_type, bound_no_variable, is_bindable_place, output_unsuited}
use Rattle.st_rules.specs.Expressions.{line_of, type_of, typed, given_unsuited, whole_target}
use Rattle.st_values.specs.Program.{Parameter, Routine, Program}
use Rattle.st_meaning.specs.Call.{is_in_out, is_output, next_parameter, behind_next}
use Rattle.st_meaning.specs.st_frame.Promise.Types.{Widens, Serves}
use Rattle.st_meaning.specs.st_frame.Promise.Names.{Scope as Around}
use Rattle.st_meaning.specs.st_frame.Promise.Places.{IsPlace, IsNothing}
use Rattle.st_meaning.specs.st_frame.Promise.Calls.{Suits, MayTake, kind}
use Rattle.place_laws.specs.Agrees.{Agrees, Declares, Fills, FillsBy, GivesBy, LeavesBy, TakesBy}
use Rattle.place_laws.proofs.Words.{none_in, passes}
use Rattle.place_laws.proofs.Heart.{Right, noted_kind}

outputs_same : (x : SectionSort) → is_output x ≡ is_output_sort x
outputs_same sort.Output = refl
outputs_same sort.Input = refl
outputs_same sort.InOut = refl
outputs_same sort.Var = refl
outputs_same sort.Temp = refl
outputs_same sort.External = refl
outputs_same sort.Global = refl

in_outs_same : (x : SectionSort) → is_in_out x ≡ is_in_out_sort x
in_outs_same sort.Output = refl
in_outs_same sort.Input = refl
in_outs_same sort.InOut = refl
in_outs_same sort.Var = refl
in_outs_same sort.Temp = refl
in_outs_same sort.External = refl
in_outs_same sort.Global = refl

output_is : (x : SectionSort) → is_output_sort x ≡ true → x ≡ sort.Output
output_is sort.Output h = refl
output_is _ h = cc

-- what fills a parameter is as it is declared
pub declares_of : (p : Program) (w : Option Routine) (v : DeclaredVariable) (q : Parameter) → FillsBy p w v q → Declares v q
declares_of p None v q h = h
declares_of p (Some x) v q h = h.declares

module _ (p : Program) (w : Option Routine) where
  -- the parameters of the arguments without a name that are still to come
  abbrev pub LeftIs : List (ℕ × DeclaredVariable) → List Parameter → Type 0
  LeftIs [] qs = Unit {0}
  LeftIs (m ∷ ms) qs = (q : Parameter) × (next_parameter qs ≡ Some q) × FillsBy p w m.1 q × (is_given m.1 ≡ true) × LeftIs ms (behind_next qs)

  skip : (q : Parameter) (qs : List Parameter) → is_output q.sort ≡ true → (ms : List (ℕ × DeclaredVariable)) → LeftIs ms qs → LeftIs ms (q ∷ qs)
  skip q qs e [] h = tt
  skip q qs e (m ∷ ms) h = (h.0, ap (λ b. if b then next_parameter qs else Some q) e ∙ h.1, h.2, h.3, subst (λ r. LeftIs ms r) (sym (ap (λ b. if b then behind_next qs else qs) e)) h.4)

  pub left_of : (k : ℕ) (vs : List DeclaredVariable) (qs : List Parameter) → TakesBy p w vs qs → LeftIs (given_from k vs) qs
  left_of k [] qs h = tt
  left_of k (v ∷ vs) [] h = absurd h
  left_of k (v ∷ vs) (q ∷ qs) h = by (left_of (suc k) vs qs h.1) (is_output_sort v.sort) refl
    where
      by : LeftIs (given_from (suc k) vs) qs → (b : Bool) → is_output_sort v.sort ≡ b → LeftIs (if not b then (k, v) ∷ given_from (suc k) vs else given_from (suc k) vs) (q ∷ qs)
      by r true e = skip q qs (outputs_same q.sort ∙ ap is_output_sort (declares_of p w v q h.0).sort ∙ e) (given_from (suc k) vs) r
      by r false e =
          let f : is_output q.sort ≡ false = outputs_same q.sort ∙ ap is_output_sort (declares_of p w v q h.0).sort ∙ e in
          (q, ap (λ b. if b then next_parameter qs else Some q) f, h.0, ap not e, subst (λ r. LeftIs (given_from (suc k) vs) r) (sym (ap (λ b. if b then behind_next qs else qs) f)) r)

  -- the parameter of a name
  pub record Found (test : DeclaredVariable → Bool) (k : ℕ) (m : ℕ × DeclaredVariable) (qs : List Parameter) : Type 0 where
    pub place : ℕ
    pub at : m.0 ≡ k + place
    pub parameter : Parameter
    pub there : slice_get qs place ≡ Some parameter
    pub fills : FillsBy p w m.1 parameter
    pub passes : test m.1 ≡ true

  pub found : (test : DeclaredVariable → Bool) (k : ℕ) (name : List ℕ) (vs : List DeclaredVariable) (qs : List Parameter) → TakesBy p w vs qs → (m : ℕ × DeclaredVariable) → parameter_from test k name vs ≡ Some m → Found test k m qs
  found test k name [] qs h m e = cc
  found test k name (v ∷ vs) [] h m e = absurd h
  found test k name (v ∷ vs) (q ∷ qs) h m e = by (λ n f. found test (suc k) name vs qs h.1 n f) (test v && same v.name name) refl e
    where
      by : ((n : ℕ × DeclaredVariable) → parameter_from test (suc k) name vs ≡ Some n → Found test (suc k) n qs) → (b : Bool) → (test v && same v.name name) ≡ b → (if b then Some (k, v) else parameter_from test (suc k) name vs) ≡ Some m → Found test k m (q ∷ qs)
      by r true f g =
          let d : (k, v) ≡ m = some-same g in
          let z : k ≡ k + 0 = omega arith in
          subst (λ n. Found test k n (q ∷ qs)) d (record { place = 0; at = z; parameter = q; there = refl; fills = h.0; passes = (both (test v) (same v.name name) f).0 })
      by r false f g =
          let n = r m g in
          let e : m.0 ≡ suc k + n.place = n.at in
          let z : m.0 ≡ k + suc n.place = omega (arith, e) in
          record { place = suc n.place; at = z; parameter = n.parameter; there = n.there; fills = n.fills; passes = n.passes }

  pub found_first : (test : DeclaredVariable → Bool) (name : List ℕ) (vs : List DeclaredVariable) (qs : List Parameter) → TakesBy p w vs qs → (m : ℕ × DeclaredVariable) → parameter_from test 0 name vs ≡ Some m → (q : Parameter) × (slice_get qs m.0 ≡ Some q) × FillsBy p w m.1 q × (test m.1 ≡ true)
  found_first test name vs qs h m e =
      let f = found test 0 name vs qs h m e in
      let g : m.0 ≡ 0 + f.place = f.at in
      let z : f.place ≡ m.0 = omega (arith, g) in
      (f.parameter, subst (λ k. slice_get qs k ≡ Some f.parameter) z f.there, f.fills, f.passes)

-- ---- what is given suits

module _ (s : Scope) (p : Program) (g : Around) (a : Agrees s p g) where
  assigned : (l : ℕ) (u t : StType) → value_unsuited s l (Wanted u) (Some t) ≡ [] → Widens p t u
  unfolding value_unsuited
  assigned l u t h = a.widens t u (passes (is_assignable s.classes s.interfaces t u) E07 l h)

  pub given_value : (l : ℕ) (asked : Asked) (u t : StType) (o : Option StType) → asked ≡ Wanted u → o ≡ Some t → value_unsuited s l asked o ≡ [] → Widens p t u
  given_value l asked u t o e f h = assigned l u t (sym (ap (λ x. value_unsuited s l x (Some t)) e) ∙ (sym (ap (value_unsuited s l asked) f) ∙ h))

  bound : (l : ℕ) (u t : StType) → bound_to_another_type s l (Some u) (Some t) ≡ [] → Serves p t u
  bound l u t h = a.serves t u (passes (is_bindable s.classes s.interfaces t u) E07 l h)

  -- a place that is not fixed has its place
  pub free_place : (asked : Asked) (e : Expression ℕ) → (free : (r : Root ℕ) (ss : Selectors ℕ) → is_fixed s r ss ≡ false → whole_target s r ss ≡ target.Nothing) → is_bindable_place s e ≡ true → IsPlace (typed s asked e)
  free_place asked (Place l r ss) h k = by (whole_target s r ss) (h r ss (no (is_fixed s r ss) k))
    where
      no : (b : Bool) → not b ≡ true → b ≡ false
      no true q = cc
      no false q = refl

      by : (z : Target) → z ≡ target.Nothing → IsNothing z
      by z q = subst IsNothing (sym q) tt
  free_place asked _ h k = cc

  asked_told : (v : DeclaredVariable) (t : StType) → v.kind ≡ Some t → asked_of v.kind ≡ Wanted t
  unfolding asked_of
  asked_told v t e = ap asked_of e

  given : (v : DeclaredVariable) → is_given v ≡ true → is_output_sort v.sort ≡ false
  given v h = by (is_output_sort v.sort) h
    where
      by : (b : Bool) → not b ≡ true → b ≡ false
      by true q = cc
      by false q = refl

  -- ---- one argument

  abbrev Free : Type 0
  Free = (r : Root ℕ) (ss : Selectors ℕ) → is_fixed s r ss ≡ false → whole_target s r ss ≡ target.Nothing

  -- what is bound to an in-out is a place of its type
  bound_right : (m : ℕ × DeclaredVariable) (q : Parameter) → Declares m.1 q → (e : Expression ℕ) → given_unsuited s (Some m) e (type_of s (asked_by (Some m)) e) ≡ [] → is_in_out q.sort ≡ true
      → (bound_to_another_type s (line_of e) m.1.kind (type_of s (asked_by (Some m)) e) ≡ []) × (bound_no_variable s (line_of e) e ≡ [])
  unfolding given_unsuited asked_by matched_type
  bound_right m q d e h i =
      let b : is_in_out_sort m.1.sort ≡ true = sym (in_outs_same m.1.sort) ∙ sym (ap is_in_out d.sort) ∙ i in
      none_in (bound_to_another_type s (line_of e) m.1.kind (type_of s (asked_of m.1.kind) e)) (bound_no_variable s (line_of e) e)
      (sym (ap (λ z. if z then bound_to_another_type s (line_of e) m.1.kind (type_of s (asked_of m.1.kind) e) ++ bound_no_variable s (line_of e) e else value_unsuited s (line_of e) (asked_of m.1.kind) (type_of s (asked_of m.1.kind) e)) b) ∙ h)

  value_right : (m : ℕ × DeclaredVariable) (q : Parameter) → Declares m.1 q → (e : Expression ℕ) → given_unsuited s (Some m) e (type_of s (asked_by (Some m)) e) ≡ [] → is_in_out q.sort ≡ false
      → value_unsuited s (line_of e) (asked_of m.1.kind) (type_of s (asked_by (Some m)) e) ≡ []
  unfolding given_unsuited asked_by matched_type
  value_right m q d e h i =
      let b : is_in_out_sort m.1.sort ≡ false = sym (in_outs_same m.1.sort) ∙ sym (ap is_in_out d.sort) ∙ i in
      sym (ap (λ z. if z then bound_to_another_type s (line_of e) m.1.kind (type_of s (asked_of m.1.kind) e) ++ bound_no_variable s (line_of e) e else value_unsuited s (line_of e) (asked_of m.1.kind) (type_of s (asked_of m.1.kind) e)) b) ∙ h

  pub may_take : (m : ℕ × DeclaredVariable) (q : Parameter) → Declares m.1 q → is_given m.1 ≡ true → (e : Expression ℕ) → Free → given_unsuited s (Some m) e (type_of s (asked_by (Some m)) e) ≡ [] → MayTake (Some q) (typed s (asked_by (Some m)) e)
  may_take m q d k e free h = (
    outputs_same q.sort ∙ ap is_output_sort d.sort ∙ given m.1 k,
    λ i. free_place (asked_by (Some m)) e free (passes (is_bindable_place s e) E08 (line_of e) (bound_right m q d e h i).1),
  )

  pub suits : (x : Routine) (m : ℕ × DeclaredVariable) (q : Parameter) → Fills p x m.1 q → (e : Expression ℕ) → Free → (r : Right s p g a (asked_by (Some m)) e) → given_unsuited s (Some m) e (type_of s (asked_by (Some m)) e) ≡ []
      → Suits p x (Some q) (typed s (asked_by (Some m)) e)
  unfolding asked_by matched_type
  suits x m q f e free r h =
      let v = f.there in
      let d = f.declares in
      let k : kind (typed s (asked_of m.1.kind) e) ≡ r.kind = noted_kind s p g a (asked_of m.1.kind) e r.kind r.told in (
        v.0,
        v.1,
        λ i.
            let fs = bound_right m q d e h i in
            let serves : Serves p r.kind d.kind =
            bound (line_of e) d.kind r.kind (sym (ap (λ z. bound_to_another_type s (line_of e) z (Some r.kind)) d.told) ∙ (sym (ap (bound_to_another_type s (line_of e) m.1.kind) r.told) ∙ fs.0)) in
            (free_place (asked_of m.1.kind) e free (passes (is_bindable_place s e) E08 (line_of e) fs.1), subst (λ z. Serves p z v.0.kind) (sym k) (subst (Serves p r.kind) (sym v.2) serves)),
        λ i.
            let w : Widens p r.kind d.kind = given_value (line_of e) (asked_of m.1.kind) d.kind r.kind (type_of s (asked_of m.1.kind) e) (asked_told m.1 d.kind d.told) r.told (value_right m q d e h i) in
            subst (λ z. Widens p z v.0.kind) (sym k) (subst (Widens p r.kind) (sym v.2) w),
      )

  pub gives : (w : Option Routine) (m : ℕ × DeclaredVariable) (q : Parameter) → FillsBy p w m.1 q → is_given m.1 ≡ true → (e : Expression ℕ) → Free → (r : Right s p g a (asked_by (Some m)) e) → given_unsuited s (Some m) e (type_of s (asked_by (Some m)) e) ≡ []
      → GivesBy p w (Some q) (typed s (asked_by (Some m)) e)
  gives None m q f k e free r h = may_take m q f k e free h
  gives (Some x) m q f k e free r h = suits x m q f e free r h

  pub leaves : (w : Option Routine) (l : ℕ) (m : ℕ × DeclaredVariable) (q : Parameter) → FillsBy p w m.1 q → is_taken m.1 ≡ true → (t : StType) (o : Option StType) → o ≡ Some t → output_unsuited s l (matched_type (Some m)) o ≡ [] → LeavesBy p w (Some q) t
  unfolding output_unsuited matched_type
  leaves None l m q f k t o e h = f.sort ∙ output_is m.1.sort k
  leaves (Some x) l m q f k t o e h =
      let v = f.there in
      let d = f.declares in
      let w : Widens p d.kind t = a.widens d.kind t (passes (is_assignable s.classes s.interfaces d.kind t) E07 l (sym (ap (λ z. output_unsuited s l z (Some t)) d.told) ∙ (sym (ap (output_unsuited s l m.1.kind) e) ∙ h))) in
      (v.0, v.1, d.sort ∙ output_is m.1.sort k, subst (λ z. Widens p z t) (sym v.2) w)
