-- Calls: what is called by a bare name, and that all that may be entered is as it is promised.
use Rattle.std.proofs.Common.{◌≡◌, ℕ, ◌≤◌, Bool, true, false, List, [], ◌∷◌, ◌++◌, length, Option, Some, None, refl, sym, ap, ◌∙◌, subst, arith}
use Rattle.std.specs.Prelude.{◌&&◌, not, option_map, if◌then◌else◌}
use Rattle.std.specs.List.{list_any}
use Rattle.std.specs.Option.{is_some, is_none}
use Rattle.std.proofs.lemmas.Bool.{eqb-true}
use Rattle.plc_text.specs.declared.code.Code.TheVariants.{E07, E09}
use Rattle.st_types.specs.declared.elem.Elem.{Elem}
use Rattle.st_types.specs.declared.st_type.StType.{StType}
use Rattle.st_types.specs.declared.st_type.StType.TheVariants as type
use Rattle.st_tree.specs.declared.expression.Root.TheVariants as root
use Rattle.st_tree.specs.declared.program.Note.{Note}
use Rattle.st_tree.specs.declared.program.Target.{Target}
use Rattle.st_tree.specs.declared.program.Target.TheVariants as target
use Rattle.st_tree.specs.Expression.{no_selectors, Positional, Input, Output, Arguments, no_arguments, argument_then}
use Rattle.st_rules.proofs.Booleans.{some-same, none≢some}
use Rattle.st_rules.specs.declared.names.DeclaredVariable.{DeclaredVariable}
use Rattle.st_rules.specs.declared.names.DeclaredRoutine.{DeclaredRoutine}
use Rattle.st_rules.specs.declared.signature.ResultType.{ResultType}
use Rattle.st_rules.specs.declared.signature.ResultType.TheVariants as outcome
use Rattle.st_rules.specs.Faults.{when, at}
use Rattle.st_rules.specs.Scope.{Scope, Meant, a_variable, a_function, an_enumerator, is_block_at}
use Rattle.st_rules.specs.Scope as scope
use Rattle.st_rules.specs.Calls.{Callee, no_callee, not_callable, a_conversion, a_routine, a_body, base_body, no_base_body, callee_faults, callee_parameters, has_parameters, matching_faults, positional_and_named_mixed, wrong_number_of_positional, named_unknown_or_twice, in_out_left_out, has_right_number, count_unnamed, given_from, matched, matches, call_matches, Head, unnamed, heads, is_unnamed, call_type, outcome_type, call_without_result, name_callee, called_type, routine_callee, block_parameters, call_of_no_callable, super_call_without_base_block, arguments_of_super_call, super_call_in_a_method, abstract_method_on_super, conversion_without_operand, has_no_outcome}
use Rattle.st_rules.specs.Expressions.{told, note, called_note, typed_arguments, argument_faults}
use Rattle.st_values.specs.Program.{Parameter, Routine, Program}
use Rattle.st_meaning.specs.Call.{by_instance, from_class, named_callee, callee_of}
use Rattle.st_meaning.specs.Call as call
use Rattle.st_meaning.specs.st_frame.Use.{Called, the_function, a_method_of, a_body_of, the_body_from, called_of, called_parameters}
use Rattle.st_meaning.specs.st_frame.Promise.Names.{Scope as Around, NameIs, RootIs}
use Rattle.st_meaning.specs.st_frame.Promise.Calls.{EnteredIs, SameInOuts, GivenOnce, CallIs, CallResultIs, ConversionIs, ResultIs}
use Rattle.st_meaning.specs.st_frame.Promise.Expressions.{ArgumentsBy, ArgumentsAre, ArgumentsFit}
use Rattle.place_laws.specs.Agrees.{Agrees, Runs, TakesBy, GivesBy, LeavesBy, Gives, ToldOutcome, MethodIs, MeantIs, EntryIs, OneOf, ConstantIs, IsPlain, HasPlace}
use Rattle.place_laws.proofs.Words.{none_in, not_when, four, six}
use Rattle.place_laws.proofs.Places.{told_as}
use Rattle.place_laws.proofs.Params.{LeftIs, left_of}
use Rattle.place_laws.proofs.Once.{given_once}

-- ---- the arguments that are given

some_unnamed : (hs : List Head) → list_any is_unnamed hs ≡ false → count_unnamed hs ≡ 0
some_unnamed [] h = refl
some_unnamed (unnamed ∷ hs) h = cc
some_unnamed (Rattle.st_rules.specs.Calls.names_input l n ∷ hs) h = some_unnamed hs h
some_unnamed (Rattle.st_rules.specs.Calls.names_output l n ∷ hs) h = some_unnamed hs h

module _ (s : Scope) (p : Program) (g : Around) (a : Agrees s p g) where
  -- what the induction has of arguments: for a routine that may be entered, and by what is declared alone
  abbrev pub ArgumentsGood : Arguments ℕ → Type 0
  ArgumentsGood xs = (w : Option Routine) (vs : List DeclaredVariable) (qs lq : List Parameter) → TakesBy p w vs qs → (left : List (ℕ × DeclaredVariable)) → LeftIs p w left lq → (earlier : List (List ℕ)) → count_unnamed (heads xs) ≤ length left → named_unknown_or_twice vs earlier (heads xs) ≡ []
      → argument_faults s (matched vs left (heads xs)) xs ≡ [] → ArgumentsBy p g (GivesBy p w) (LeavesBy p w) qs lq (typed_arguments s (matched vs left (heads xs)) xs)

  pub all_arguments : (l : ℕ) (vs : List DeclaredVariable) (xs : Arguments ℕ) → ArgumentsGood xs → matching_faults l vs (heads xs) ≡ [] → argument_faults s (matches vs (heads xs)) xs ≡ [] → (w : Option Routine) (qs : List Parameter) → TakesBy p w vs qs
      → ArgumentsBy p g (GivesBy p w) (LeavesBy p w) qs qs (typed_arguments s (matches vs (heads xs)) xs)
  all_arguments l vs xs good m f w qs t = by (has_right_number vs (heads xs)) refl f
    where
      second : (b c : Bool) → (b && not c) ≡ false → c ≡ false → b ≡ false
      second true true h k = cc
      second true false h k = cc
      second false c h k = refl

      by : (b : Bool) → has_right_number vs (heads xs) ≡ b → argument_faults s (matched vs (if b then given_from 0 vs else []) (heads xs)) xs ≡ [] → ArgumentsBy p g (GivesBy p w) (LeavesBy p w) qs qs (typed_arguments s (matched vs (if b then given_from 0 vs else []) (heads xs)) xs)
      by true e k =
          let n = eqb-true (count_unnamed (heads xs)) (length (given_from 0 vs)) e in
          good w vs qs qs t (given_from 0 vs) (left_of p w 0 vs qs t) [] (omega (arith, n)) (four (positional_and_named_mixed l (heads xs)) (wrong_number_of_positional l vs (heads xs)) (named_unknown_or_twice vs [] (heads xs)) (in_out_left_out l vs (heads xs)) m).2 k
      by false e k =
          let q = four (positional_and_named_mixed l (heads xs)) (wrong_number_of_positional l vs (heads xs)) (named_unknown_or_twice vs [] (heads xs)) (in_out_left_out l vs (heads xs)) m in
          let n = some_unnamed (heads xs) (second (list_any is_unnamed (heads xs)) (has_right_number vs (heads xs)) (not_when (list_any is_unnamed (heads xs) && not (has_right_number vs (heads xs))) E09 l q.1) e) in
          good w vs qs qs t [] tt [] (omega (arith, n)) q.2 k

  -- ---- what may be entered

  entered : (k : Called) (vs : List DeclaredVariable) (o : ResultType) (P : Routine → Type 0) → Runs p k vs o → ((x : Routine) → TakesBy p (Some x) vs (called_parameters p (Some k)) → Gives x o → P x) → EnteredIs p (Some k) P
  entered k vs o P r h = record { by = λ x n l. let a = r.enters x n l in record { rest = a.rest; begins = a.begins; few = a.few; suits = h x a.suits.0 a.suits.1 }; found = r.found }

  -- ---- a bare name

  -- what is called by its name: what the rules call, what the meaning calls, and what may be entered
  abbrev pub BareIs : Callee → call.Callee → Type 0 → StType → Option Called → Type 0
  BareIs (a_conversion x y) c target t k = c ≡ call.a_conversion
  BareIs (a_routine r) (call.a_function n) target t k = (k ≡ Some (the_function n)) × Runs p (the_function n) r.parameters r.outcome
  BareIs (a_routine r) (call.a_method w n) target t k = target × ((j : Called) × (k ≡ Some j) × Runs p j r.parameters r.outcome)
  BareIs (a_body d) c target t k = (c ≡ call.a_body by_instance) × target × (t ≡ type.Instance d) × (k ≡ Some (a_body_of t)) × Runs p (a_body_of t) (block_parameters s d) outcome.Nothing
  BareIs (base_body d) c target t k = (c ≡ call.a_body (from_class d)) × target × SameInOuts p g.locals d × (k ≡ Some (the_body_from d)) × Runs p (the_body_from d) [] outcome.Nothing
  BareIs _ c target t k = ⊥

  no_call : (l : ℕ) (X : Type 0) → at E09 l ≡ [] → X
  no_call l X h = cc

  -- the callee of a variable: a body, or a rule is broken
  pub variable_body : (l : ℕ) (t : StType) (o : Option StType) → o ≡ Some t → call_of_no_callable s l (called_type s o) ≡ [] → (d : ℕ) × (t ≡ type.Instance d) × (called_type s o ≡ a_body d) × (is_block_at s d ≡ true)
  variable_body l t None e f = absurd (none≢some e)
  variable_body l t (Some u) e f = by u (some-same e) f
    where
      block : (d : ℕ) (b : Bool) → is_block_at s d ≡ b → call_of_no_callable s l (if b then a_body d else not_callable) ≡ [] → ((if b then a_body d else not_callable) ≡ a_body d) × (is_block_at s d ≡ true)
      block d true q h = (refl, q)
      block d false q h = no_call l _ h

      by : (w : StType) → w ≡ t → call_of_no_callable s l (called_type s (Some w)) ≡ [] → (d : ℕ) × (t ≡ type.Instance d) × (called_type s (Some w) ≡ a_body d) × (is_block_at s d ≡ true)
      by (type.Instance d) q h = let z = block d (is_block_at s d) refl h in (d, sym q, z.0, z.1)
      by _ q h = no_call l _ h

  abbrev Bare : ℕ → List ℕ → Option (Elem × Elem) → Option Meant → Type 0
  Bare k name o m =
      BareIs (name_callee s o m) (callee_of (root.Name (called_note s k o m) name) no_selectors) (RootIs p g (root.Name (called_note s k o m) name) × Unit {0}) (called_note s k o m).kind (called_of (root.Name (called_note s k o m) name) no_selectors)

  place_body : (x : Target) (name : List ℕ) → HasPlace x → named_callee x name ≡ call.a_body by_instance
  place_body (target.Local n) name h = refl
  place_body (target.Variable n) name h = refl
  place_body (target.Region n) name h = refl
  place_body _ name h = absurd h

  plain_no_instance : (t : StType) (d : ℕ) → IsPlain t → t ≡ type.Instance d → ⊥
  plain_no_instance t d h e = subst IsPlain e h

  bare_variable : (l k : ℕ) (name : List ℕ) (c : Option ℕ) (v : DeclaredVariable) → EntryIs p g v → call_of_no_callable s l (called_type s v.kind) ≡ [] → Bare k name None (Some (a_variable c v))
  bare_variable l k name c v e f =
      let b = variable_body l e.kind v.kind e.told f in
      let t : told v.kind ≡ type.Instance b.0 = told_as v.kind e.kind e.told ∙ b.1 in
      by v.constant e.means b t
    where
      constant : (x : Target) → ConstantIs p x e.kind → IsPlain e.kind
      constant (target.Constant z) h = h.1
      constant _ h = absurd h

      by : (q : Bool) → OneOf q (ConstantIs p v.target e.kind) (NameIs p g v.target e.kind × HasPlace v.target) → (b : (d : ℕ) × (e.kind ≡ type.Instance d) × (called_type s v.kind ≡ a_body d) × (is_block_at s d ≡ true)) → told v.kind ≡ type.Instance b.0 → Bare k name None (Some (a_variable c v))
      by true h b t = absurd (plain_no_instance e.kind b.0 (constant v.target h) b.1)
      by false h b t =
          let z = place_body v.target name h.1 in
          let w : call.Callee = named_callee v.target name in
          subst (λ y. BareIs y w (RootIs p g (root.Name (note k v.kind v.target) name) × Unit {0}) (told v.kind) (called_of (root.Name (note k v.kind v.target) name) no_selectors)) (sym b.2)
          (z, (subst (NameIs p g v.target) (sym (told_as v.kind e.kind e.told)) h.0, tt), t, ap (λ y. Rattle.st_meaning.specs.st_frame.Use.called_by y (told v.kind) (told v.kind)) z, subst (λ y. Runs p (a_body_of y) (block_parameters s b.0) outcome.Nothing) (sym t) (a.body b.0 b.3))

  method_found : (k : ℕ) (name : List ℕ) (id : _) (c : ℕ) → s.class ≡ Some c → g.this ≡ Some c → MethodIs s p (a_method_of (type.Instance c) name) id → Bare k name None (Some (scope.a_method id))
  method_found k name id c e h m =
      let t : told (option_map type.Instance s.class) ≡ type.Instance c = told_as _ _ (ap (option_map type.Instance) e) in
      subst (λ y. BareIs y (call.a_method by_instance name) (NameIs p g (target.Method id.method) (told (option_map type.Instance s.class)) × Unit {0}) (told (option_map type.Instance s.class)) (Some (a_method_of (told (option_map type.Instance s.class)) name))) (sym (ap (routine_callee s) m.declared))
      (((c, h, t), tt), (a_method_of (told (option_map type.Instance s.class)) name, refl, subst (λ y. Runs p (a_method_of y name) m.routine.parameters m.routine.outcome) (sym t) m.runs))

  pub bare : (l k : ℕ) (name : List ℕ) (o : Option (Elem × Elem)) (m : Option Meant) → (is_some o ≡ false → is_none m ≡ false) → (is_some o ≡ false → MeantIs s p g name m) → call_of_no_callable s l (name_callee s o m) ≡ [] → Bare k name o m
  bare l k name (Some c) m h w f = refl
  bare l k name None None h w f = absurd (true_false (h refl))
    where
      true_false : true ≡ false → ⊥
      true_false q = cc
  bare l k name None (Some (a_variable c v)) h w f = bare_variable l k name c v (w refl) f
  bare l k name None (Some (scope.a_method id)) h w f = let q = w refl in method_found k name id q.0 q.1 q.2 q.3
  bare l k name None (Some (a_function j r)) h w f = (refl, w refl)
  bare l k name None (Some (an_enumerator n j)) h w f = no_call l _ f

  -- ---- a call by a bare name is as it is promised

  pub matching_of : (l : ℕ) (b : Bool) (c : Callee) (hs : List Head) → has_parameters s c ≡ true → callee_faults s l b c hs ≡ [] → matching_faults l (callee_parameters s c) hs ≡ []
  unfolding callee_faults
  matching_of l b c hs h f =
      sym (ap (λ z. if z then matching_faults l (callee_parameters s c) hs else []) h)
      ∙ (none_in (call_of_no_callable s l c ++ super_call_without_base_block s l c ++ arguments_of_super_call s l c hs ++ super_call_in_a_method s l c ++ abstract_method_on_super s l b c ++ conversion_without_operand s l c hs) (if has_parameters s c then matching_faults l (callee_parameters s c) hs else []) f).1

  pub callee_parts : (l : ℕ) (b : Bool) (c : Callee) (hs : List Head) → callee_faults s l b c hs ≡ []
      → (call_of_no_callable s l c ≡ []) × (super_call_without_base_block s l c ≡ []) × (arguments_of_super_call s l c hs ≡ []) × (super_call_in_a_method s l c ≡ []) × (abstract_method_on_super s l b c ≡ []) × (conversion_without_operand s l c hs ≡ [])
  unfolding callee_faults
  callee_parts l b c hs f =
      let last = none_in (call_of_no_callable s l c ++ super_call_without_base_block s l c ++ arguments_of_super_call s l c hs ++ super_call_in_a_method s l c ++ abstract_method_on_super s l b c ++ conversion_without_operand s l c hs) (if has_parameters s c then matching_faults l (callee_parameters s c) hs else []) f in
      (six (call_of_no_callable s l c) (super_call_without_base_block s l c) (arguments_of_super_call s l c hs) (super_call_in_a_method s l c) (abstract_method_on_super s l b c) (conversion_without_operand s l c hs) last.0)

  pub callable : (l : ℕ) (b : Bool) (c : Callee) (hs : List Head) → callee_faults s l b c hs ≡ [] → call_of_no_callable s l c ≡ []
  callable l b c hs f = (callee_parts l b c hs f).0

  pub without_operand : (l : ℕ) (b : Bool) (c : Callee) (hs : List Head) → callee_faults s l b c hs ≡ [] → conversion_without_operand s l c hs ≡ []
  without_operand l b c hs f = (callee_parts l b c hs f).5

  matches_of : (c : Callee) (hs : List Head) → call_matches s c hs ≡ matches (callee_parameters s c) hs
  unfolding call_matches
  matches_of c hs = refl

  -- ---- what is promised of arguments

  -- of those that are written, as they are typed for what is called
  abbrev pub Noted : Callee → Arguments ℕ → Arguments Note
  Noted c xs = typed_arguments s (call_matches s c (heads xs)) xs

  abbrev pub Suited : Option Called → Arguments Note → Routine → Type 0
  Suited k ts x = ArgumentsAre p g x (called_parameters p k) (called_parameters p k) ts

  abbrev pub Fit : Option Called → Arguments Note → Type 0
  Fit k ts = ArgumentsFit p g (called_parameters p k) (called_parameters p k) ts × GivenOnce (called_parameters p k) ts

  pub fit_of : (l : ℕ) (b : Bool) (c : Callee) (xs : Arguments ℕ) (k : Called) (o : ResultType) → has_parameters s c ≡ true → ArgumentsGood xs → callee_faults s l b c (heads xs) ≡ [] → argument_faults s (call_matches s c (heads xs)) xs ≡ [] → Runs p k (callee_parameters s c) o
      → Fit (Some k) (Noted c xs)
  unfolding call_matches
  fit_of l b c xs k o i good f h runs =
      let m = matching_of l b c (heads xs) i f in
      (all_arguments l (callee_parameters s c) xs good m h None (called_parameters p (Some k)) runs.declared, given_once s l (callee_parameters s c) (called_parameters p (Some k)) xs m)

  -- where no result is asked for
  pub entered_of : (l : ℕ) (b : Bool) (c : Callee) (xs : Arguments ℕ) (k : Called) (o : ResultType) → has_parameters s c ≡ true → ArgumentsGood xs → callee_faults s l b c (heads xs) ≡ [] → argument_faults s (call_matches s c (heads xs)) xs ≡ [] → Runs p k (callee_parameters s c) o
      → EnteredIs p (Some k) (Suited (Some k) (Noted c xs))
  unfolding call_matches
  entered_of l b c xs k o i good f h runs =
      entered k (callee_parameters s c) o _ runs (λ x t q. all_arguments l (callee_parameters s c) xs good (matching_of l b c (heads xs) i f) h (Some x) (called_parameters p (Some k)) t)

  -- and where it is: its type is told for each routine that may be entered
  pub routine_value : (l : ℕ) (b : Bool) (r : DeclaredRoutine) (xs : Arguments ℕ) (k : Called) (u : StType) → outcome_type r.outcome ≡ Some u → ArgumentsGood xs → callee_faults s l b (a_routine r) (heads xs) ≡ [] → argument_faults s (call_matches s (a_routine r) (heads xs)) xs ≡ [] → Runs p k r.parameters r.outcome
      → EnteredIs p (Some k) (λ x. ResultIs x u × Suited (Some k) (Noted (a_routine r) xs) x)
  unfolding call_matches
  routine_value l b r xs k u e good f h runs =
      entered k r.parameters r.outcome _ runs (λ x t o. (result r.outcome x e o, all_arguments l r.parameters xs good (matching_of l b (a_routine r) (heads xs) refl f) h (Some x) (called_parameters p (Some k)) t))
    where
      result : (q : ResultType) (x : Routine) → outcome_type q ≡ Some u → Gives x q → ResultIs x u
      result outcome.Nothing x e o = absurd (none≢some e)
      result (outcome.Written None) x e o = absurd o
      result (outcome.Written (Some t)) x e o = subst (ResultIs x) (some-same e) o

  pub told_result : (l : ℕ) (r : DeclaredRoutine) → call_without_result l (a_routine r) ≡ [] → ToldOutcome r.outcome → (u : StType) × (outcome_type r.outcome ≡ Some u)
  unfolding call_without_result
  told_result l r f h = by r.outcome (not_when (has_no_outcome r.outcome) E07 l f) h
    where
      by : (o : ResultType) → has_no_outcome o ≡ false → ToldOutcome o → (u : StType) × (outcome_type o ≡ Some u)
      by outcome.Nothing q k = cc
      by (outcome.Written None) q k = absurd k
      by (outcome.Written (Some t)) q k = (t, refl)

  no_body_value : (l : ℕ) (d : ℕ) → call_without_result l (a_body d) ≡ [] → ⊥
  unfolding call_without_result
  no_body_value l d f = bad f
    where
      bad : when true E07 l ≡ [] → ⊥
      bad h = cc

  no_base_value : (l : ℕ) (d : ℕ) → call_without_result l (base_body d) ≡ [] → ⊥
  unfolding call_without_result
  no_base_value l d f = bad f
    where
      bad : when true E07 l ≡ [] → ⊥
      bad h = cc

  -- ---- the value of a call

  pub record Valued (c : Callee) (tc : call.Callee) (operand target : Type 0) (t : StType) (k : Option Called) (xs : Arguments ℕ) : Type 0 where
    pub kind : StType
    pub told : call_type c ≡ Some kind
    pub conversion : ConversionIs tc kind
    pub is : CallIs p g tc operand target t k (CallResultIs tc kind (Suited k (Noted c xs))) (Fit k (Noted c xs))

  pub valued : (l : ℕ) (b : Bool) (c : Callee) (tc : call.Callee) (operand target : Type 0) (t : StType) (k : Option Called) (xs : Arguments ℕ) → BareIs c tc target t k → ArgumentsGood xs → ((x y : Elem) → c ≡ a_conversion x y → operand)
      → callee_faults s l b c (heads xs) ≡ [] → argument_faults s (call_matches s c (heads xs)) xs ≡ [] → call_without_result l c ≡ [] → Valued c tc operand target t k xs
  unfolding call_type
  valued l b (a_conversion x y) tc operand target t k xs h good of f g' w = subst (λ z. Valued (a_conversion x y) z operand target t k xs) (sym h) (record { kind = type.Elementary y; told = refl; conversion = (y, refl); is = of x y refl })
  valued l b (a_routine r) (call.a_function n) operand target t k xs h good of f g' w =
      let u = told_result l r w h.1.told in
      record {
        kind = u.0;
        told = u.1;
        conversion = tt;
        is =
            subst (λ z. EnteredIs p z (λ x. ResultIs x u.0 × Suited z (Noted (a_routine r) xs) x) × Fit z (Noted (a_routine r) xs)) (sym h.0)
            (routine_value l b r xs (the_function n) u.0 u.1 good f g' h.1, fit_of l b (a_routine r) xs (the_function n) r.outcome refl good f g' h.1);
      }
  valued l b (a_routine r) (call.a_method v n) operand target t k xs h good of f g' w =
      let u = told_result l r w h.1.2.told in
      let e = subst (λ z. EnteredIs p z (λ x. ResultIs x u.0 × Suited z (Noted (a_routine r) xs) x) × Fit z (Noted (a_routine r) xs)) (sym h.1.1) (routine_value l b r xs h.1.0 u.0 u.1 good f g' h.1.2, fit_of l b (a_routine r) xs h.1.0 r.outcome refl good f g' h.1.2) in
      record { kind = u.0; told = u.1; conversion = tt; is = (h.0, tt, e.0, e.1) }
  valued l b (a_routine r) call.a_conversion operand target t k xs h good of f g' w = absurd h
  valued l b (a_routine r) (call.a_body v) operand target t k xs h good of f g' w = absurd h
  valued l b (a_body d) tc operand target t k xs h good of f g' w = absurd (no_body_value l d w)
  valued l b no_callee tc operand target t k xs h good of f g' w = absurd h
  valued l b not_callable tc operand target t k xs h good of f g' w = absurd h
  valued l b (base_body d) tc operand target t k xs h good of f g' w = absurd (no_base_value l d w)
  valued l b no_base_body tc operand target t k xs h good of f g' w = absurd h

  -- ---- a call that is a statement

  abbrev Effect : call.Callee → Type 0 → Type 0 → StType → Option Called → Arguments Note → Type 0
  Effect tc operand target t k ts = CallIs p g tc operand target t k (Suited k ts) (Fit k ts)

  pub effected : (l : ℕ) (b : Bool) (c : Callee) (tc : call.Callee) (operand target : Type 0) (t : StType) (k : Option Called) (xs : Arguments ℕ) → BareIs c tc target t k → ArgumentsGood xs → ((x y : Elem) → c ≡ a_conversion x y → operand)
      → callee_faults s l b c (heads xs) ≡ [] → argument_faults s (call_matches s c (heads xs)) xs ≡ [] → Effect tc operand target t k (Noted c xs)
  effected l b (a_conversion x y) tc operand target t k xs h good of f g' = subst (λ z. Effect z operand target t k (Noted (a_conversion x y) xs)) (sym h) (of x y refl)
  effected l b (a_routine r) (call.a_function n) operand target t k xs h good of f g' =
      subst (λ z. EnteredIs p z (Suited z (Noted (a_routine r) xs)) × Fit z (Noted (a_routine r) xs)) (sym h.0)
      (entered_of l b (a_routine r) xs (the_function n) r.outcome refl good f g' h.1, fit_of l b (a_routine r) xs (the_function n) r.outcome refl good f g' h.1)
  effected l b (a_routine r) (call.a_method v n) operand target t k xs h good of f g' =
      let e = subst (λ z. EnteredIs p z (Suited z (Noted (a_routine r) xs)) × Fit z (Noted (a_routine r) xs)) (sym h.1.1)
      (entered_of l b (a_routine r) xs h.1.0 r.outcome refl good f g' h.1.2, fit_of l b (a_routine r) xs h.1.0 r.outcome refl good f g' h.1.2) in
      (h.0, tt, e.0, e.1)
  effected l b (a_routine r) call.a_conversion operand target t k xs h good of f g' = absurd h
  effected l b (a_routine r) (call.a_body v) operand target t k xs h good of f g' = absurd h
  effected l b (a_body d) tc operand target t k xs h good of f g' =
      let e = subst (λ z. EnteredIs p z (Suited z (Noted (a_body d) xs)) × Fit z (Noted (a_body d) xs)) (sym h.3)
      (entered_of l b (a_body d) xs (a_body_of t) outcome.Nothing refl good f g' h.4, fit_of l b (a_body d) xs (a_body_of t) outcome.Nothing refl good f g' h.4) in
      subst (λ z. Effect z operand target t k (Noted (a_body d) xs)) (sym h.0) (h.1, (d, h.2), e.0, e.1)
  effected l b no_callee tc operand target t k xs h good of f g' = absurd h
  effected l b not_callable tc operand target t k xs h good of f g' = absurd h
  effected l b (base_body d) tc operand target t k xs h good of f g' = by xs (callee_parts l b (base_body d) (heads xs) f).2
    where
      -- SUPER() takes no arguments
      by : (ys : Arguments ℕ) → arguments_of_super_call s l (base_body d) (heads ys) ≡ [] → Effect tc operand target t k (Noted (base_body d) ys)
      by no_arguments q =
          let e = subst (λ z. EnteredIs p z (Suited z no_arguments) × Fit z no_arguments) (sym h.3) (entered (the_body_from d) [] outcome.Nothing _ h.4 (λ x u o. tt), (tt, tt)) in
          subst (λ z. Effect z operand target t k no_arguments) (sym h.0) (h.1, h.2, e.0, e.1)
      by (argument_then (Positional x) ys) q = cc
      by (argument_then (Input j n x) ys) q = cc
      by (argument_then (Output j n i r ss) ys) q = cc
  effected l b no_base_body tc operand target t k xs h good of f g' = absurd h
