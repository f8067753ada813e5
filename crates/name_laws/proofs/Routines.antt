-- What a function or a method declares is what its text shows: its locals by their numbers, its parameters one by one, its result.
use Rattle.std.proofs.Common.{◌≡◌, ◌≤◌, ℕ, suc, ◌+◌, Bool, true, false, List, [], ◌∷◌, ◌++◌, length, Option, Some, None, refl, sym, ap, ◌∙◌, subst, arith}
use Rattle.std.specs.Prelude.{if◌then◌else◌, not, ◌&&◌, filter, slice_get}
use Rattle.std.specs.Option.{is_some}
use Rattle.std.proofs.lemmas.List.Elements.{filter-append}
use Rattle.plc_text.specs.Words.{same}
use Rattle.st_types.specs.declared.st_type.StType.{StType}
use Rattle.st_tree.specs.declared.declaration.Section.{Section}
use Rattle.st_tree.specs.declared.declaration.SectionSort.{SectionSort}
use Rattle.st_tree.specs.declared.declaration.SectionSort.TheVariants as sort
use Rattle.st_tree.specs.declared.program.Note.{Note}
use Rattle.st_tree.specs.declared.type_spec.TypeSpec.{TypeSpec}
use Rattle.st_tree.specs.Statement.{Statements}
use Rattle.st_rules.specs.declared.names.DeclaredVariable.{DeclaredVariable}
use Rattle.st_rules.specs.Calls as calls
use Rattle.st_rules.specs.Scope.{Scope, variable_named, is_external}
use Rattle.st_rules.specs.Signatures.{is_parameter_sort}
use Rattle.st_rules.proofs.Booleans.{none≢some, some-same, false≢true}
use Rattle.st_unit_rules.specs.declared_names.UnitNames.{result_written}
use Rattle.st_unit_rules.specs.declared_names.Variables.{Written, sections_written, is_parameter_written, result_declared, result_count, locals_declared, routine_locals}
use Rattle.st_unit_rules.specs.declared_names.WrittenTypes.{type_written}
use Rattle.st_unit_rules.specs.Checked.{Each, IfThere, TypedSpec, TypedSection}
use Rattle.st_unit_rules.specs.DeclarationRules.{count_parameters}
use Rattle.st_values.specs.Program.{Variable, to_local, Routine, Program}
use Rattle.st_values.specs.View.{is_parameter, those, negated, variables_in, result_of, local_parameters, routine_of}
use Rattle.st_meaning.specs.st_frame.Promise.Names.{Scope as Around, NameIs}
use Rattle.st_meaning.specs.st_frame.Promise.Calls.{most_parameters}
use Rattle.resolution_order.specs.told_laws.ToldLaws.{Every}
use Rattle.accepted_texts.specs.told_units.Told.{IsToldVariable}
use Rattle.accepted_texts.proofs.unfolding_laws.ListLaws.{all_behind, behind_part, every_back, each_long}
use Rattle.accepted_texts.proofs.unfolding_laws.ViewLaws.{kind_shown}
use Rattle.accepted_texts.proofs.told_units.Inner.{IsRow, AreRows, locals-rows}
use Rattle.accepted_texts.proofs.sized_units.Variables.{IsOf, is_variable, test_twice, all_of, those_of}
use Rattle.place_laws.specs.Agrees.{Declares, FillsBy, TakesBy, Gives, ToldOutcome, HasPlace}
use Rattle.place_laws.proofs.Places.{told_as}
use Rattle.name_laws.proofs.Rows.{From, from_behind, from_front, from_first, from_next, here, past, parameter_inside, no_parameter, inside_of, no_constant, no_external, Headed, first_of, skipped, LocalRow, locals_seen, found_named}
use Rattle.name_laws.proofs.Stands.{IsInside}

and_false : (b : Bool) → (b && false) ≡ false
and_false true = refl
and_false false = refl

and_true : (b : Bool) → (b && true) ≡ b
and_true true = refl
and_true false = refl

external_parameter : (x : SectionSort) → is_external x ≡ true → is_parameter_sort x ≡ false
external_parameter sort.External h = refl
external_parameter _ h = cc

parameter_sorts : (c : Bool) (so : SectionSort) → ((not c && not (is_external so)) && is_parameter so) ≡ (is_parameter_sort so && not c)
parameter_sorts true sort.Var = refl
parameter_sorts true sort.Input = refl
parameter_sorts true sort.Output = refl
parameter_sorts true sort.InOut = refl
parameter_sorts true sort.Temp = refl
parameter_sorts true sort.Global = refl
parameter_sorts true sort.External = refl
parameter_sorts false sort.Var = refl
parameter_sorts false sort.Input = refl
parameter_sorts false sort.Output = refl
parameter_sorts false sort.InOut = refl
parameter_sorts false sort.Temp = refl
parameter_sorts false sort.Global = refl
parameter_sorts false sort.External = refl

pub locals_long : (n : ℕ) (vs : List Variable) → length (local_parameters n vs) ≡ length vs
locals_long n [] = refl
locals_long n (v ∷ vs) = ap suc (locals_long (suc n) vs)

pub told_there : (o : Option StType) → is_some o ≡ true → (t : StType) × (o ≡ Some t)
told_there None h = absurd (false≢true h)
told_there (Some t) h = (t, refl)

module _ (p : Program) (s : Scope) where
  -- the variable that is seen has the type of the one that is declared
  pub kind_seen : (w : Written) (v : Variable) (t : StType) → IsOf s v w → type_written s w.item.kind ≡ Some t → v.kind ≡ t
  kind_seen w v t h e = h.kind ∙ told_as (type_written s w.item.kind) t e

  -- ---- parameters

  module _ (o : Option Routine) (all : List Variable) (there : (x : Routine) → o ≡ Some x → x.locals ≡ all) where
    fills : (k : ℕ) (w : Written) (d : DeclaredVariable) (v : Variable) (t : StType) → d.kind ≡ Some t → d.kind ≡ type_written s w.item.kind → d.sort ≡ w.sort → d.constant ≡ false → IsOf s v w → slice_get all k ≡ Some v → FillsBy p o d (record { sort = v.sort; to = to_local k })
    fills k w d v t e kinds sorts c h i = by o refl
      where
        declares : Declares d (record { sort = v.sort; to = to_local k })
        declares = record { kind = t; told = e; sort = h.sort ∙ sym sorts }

        by : (q : Option Routine) → o ≡ q → FillsBy p q d (record { sort = v.sort; to = to_local k })
        by None f = declares
        by (Some x) f = record { declares = declares; plain = c; there = (v, ap (λ l. slice_get l k) (there x f) ∙ i, kind_seen w v t h (sym kinds ∙ e)) }

    abbrev Taken : List DeclaredVariable → ℕ → List Variable → Type 0
    Taken ds k vs = TakesBy p o (filter calls.is_parameter ds) (local_parameters k (those is_parameter vs))

    abbrev TakenBehind : List Written → List DeclaredVariable → Type 0
    TakenBehind ws ds = (k : ℕ) (us : List Variable) → Each (IsOf s) us (filter is_variable ws) → From all (those is_parameter us) k → Taken ds k us

    out : (d : DeclaredVariable) (ds : List DeclaredVariable) (k : ℕ) (vs : List Variable) → calls.is_parameter d ≡ false → Taken ds k vs → Taken (d ∷ ds) k vs
    out d ds k vs q h = subst (λ l. TakesBy p o l (local_parameters k (those is_parameter vs))) (sym (ap (λ b. if b then d ∷ filter calls.is_parameter ds else filter calls.is_parameter ds) q)) h

    test_is : (w : Written) (d : DeclaredVariable) (b : Bool) → IsRow s w d → is_parameter_sort w.sort ≡ b → w.constant ≡ false → calls.is_parameter d ≡ b
    test_is w d b r q c = ap (λ z. is_parameter_sort d.sort && not z) (r.1 ∙ c) ∙ (ap (λ z. is_parameter_sort z && true) r.4 ∙ (ap (λ z. z && true) q ∙ and_true b))

    shown_next : (w : Written) (ws : List Written) (d : DeclaredVariable) (ds : List DeclaredVariable) (k : ℕ) (vs : List Variable) → TakenBehind ws ds → IsRow s w d → IsToldVariable d → From all (those is_parameter vs) k
        → w.constant ≡ false → (b : Bool) → is_parameter_sort w.sort ≡ b → Headed s vs w (filter is_variable ws) → Taken (d ∷ ds) k vs
    shown_next w ws d ds k vs rec r h f c true q g =
        let i : is_parameter (g.first).sort ≡ true = ap is_parameter g.of.sort ∙ (parameter_inside w.sort q).0 in
        let x = here is_parameter all k g.first g.rest i (subst (λ l. From all (those is_parameter l) k) g.are f) in
        let kind = told_there d.kind h.0 in
        let list : those is_parameter vs ≡ g.first ∷ those is_parameter g.rest = ap (those is_parameter) g.are ∙ ap (λ b. if b then g.first ∷ those is_parameter g.rest else those is_parameter g.rest) i in
        let mine : filter calls.is_parameter (d ∷ ds) ≡ d ∷ filter calls.is_parameter ds = ap (λ b. if b then d ∷ filter calls.is_parameter ds else filter calls.is_parameter ds) (test_is w d true r q c) in
        subst (λ l. TakesBy p o l (local_parameters k (those is_parameter vs))) (sym mine)
        (subst (λ l. TakesBy p o (d ∷ filter calls.is_parameter ds) (local_parameters k l)) (sym list) (
          fills k w d g.first kind.0 kind.1 r.2 r.4 (r.1 ∙ c) g.of (from_first all (those is_parameter g.rest) k g.first x),
          rec (suc k) g.rest g.others (from_next all (those is_parameter g.rest) k g.first x),
        ))
    shown_next w ws d ds k vs rec r h f c false q g =
        let i : is_parameter (g.first).sort ≡ false = ap is_parameter g.of.sort ∙ no_parameter w.sort q in
        let x = past is_parameter all k g.first g.rest i (subst (λ l. From all (those is_parameter l) k) g.are f) in
        let list : those is_parameter vs ≡ those is_parameter g.rest = ap (those is_parameter) g.are ∙ ap (λ b. if b then g.first ∷ those is_parameter g.rest else those is_parameter g.rest) i in
        out d ds k vs (test_is w d false r q c) (subst (λ l. TakesBy p o (filter calls.is_parameter ds) (local_parameters k l)) (sym list) (rec k g.rest g.others x))

    taken_next : (w : Written) (ws : List Written) (d : DeclaredVariable) (ds : List DeclaredVariable) (k : ℕ) (vs : List Variable) → TakenBehind ws ds → IsRow s w d → IsToldVariable d → Each (IsOf s) vs (filter is_variable (w ∷ ws)) → From all (those is_parameter vs) k
        → (a b : Bool) → w.constant ≡ a → is_external w.sort ≡ b → Taken (d ∷ ds) k vs
    taken_next w ws d ds k vs rec r h e f true b c q =
        out d ds k vs (ap (λ z. is_parameter_sort d.sort && not z) (r.1 ∙ c) ∙ and_false (is_parameter_sort d.sort)) (rec k vs (skipped s vs w ws (no_constant w c) e) f)
    taken_next w ws d ds k vs rec r h e f false true c q = out d ds k vs (test_is w d false r (external_parameter w.sort q) c) (rec k vs (skipped s vs w ws (no_external w c q) e) f)
    taken_next w ws d ds k vs rec r h e f false false c q = shown_next w ws d ds k vs rec r h f c (is_parameter_sort w.sort) refl (first_of s vs w ws (inside_of w c q) e)

    -- those that stand first of the parameters from a number on
    pub takes_from : (k : ℕ) (ws : List Written) (ds : List DeclaredVariable) (vs : List Variable) → AreRows s ws ds → Every IsToldVariable ds → Each (IsOf s) vs (filter is_variable ws) → From all (those is_parameter vs) k → Taken ds k vs
    takes_from k [] [] vs r h e f = tt
    takes_from k [] (d ∷ ds) vs r h e f = absurd r
    takes_from k (w ∷ ws) [] vs r h e f = absurd r
    takes_from k (w ∷ ws) (d ∷ ds) vs r h e f = taken_next w ws d ds k vs (λ k' us e' f'. takes_from k' ws ds us r.1 h.1 e' f') r.0 h.0 e f w.constant (is_external w.sort) refl refl

  -- ---- a function or a method

  module _ (class : Option ℕ) (line : ℕ) (name own : List ℕ) (result : Option (TypeSpec ℕ)) (shown : Option (TypeSpec Note)) (ss : List (Section ℕ)) (ys : List (Section Note)) (text : Statements Note)
      (settled : routine_locals s own result ss ≡ s.locals) (told_all : Every IsToldVariable s.locals) (outcome : (t : TypeSpec ℕ) → result ≡ Some t → is_some (type_written s t) ≡ true)
      (inside : Every IsInside (sections_written ss)) (typed : IfThere (TypedSpec s) result shown) (sections : Each (TypedSection s) ss ys) (few : count_parameters ss ≤ most_parameters)
    where
      abbrev pub routine : Routine
      routine = routine_of class name line shown (variables_in ys) text

      abbrev vs : List Variable
      vs = variables_in ys

      abbrev ws : List Written
      ws = sections_written ss

      abbrev first : List DeclaredVariable
      first = result_declared s own result

      abbrev rest : List DeclaredVariable
      rest = locals_declared s result ss

      abbrev shown_first : List Variable
      shown_first = result_of name shown

      split : first ++ rest ≡ s.locals
      unfolding routine_locals
      split = settled

      counts : (r : Option (TypeSpec ℕ)) (q : Option (TypeSpec Note)) → IfThere (TypedSpec s) r q → result_count s r ≡ length (result_of name q)
      counts None None h = refl
      counts None (Some u) h = absurd h
      counts (Some t) None h = absurd h
      counts (Some t) (Some u) h = refl

      long : result_count s result ≡ length shown_first
      long = counts result shown typed

      locals_each : Each (IsOf s) vs (filter is_variable ws)
      locals_each = all_of s ss ys sections

      rows : AreRows s ws rest
      rows = locals-rows s (result_count s result) (result_count s result + length (filter is_parameter_written ws)) ws

      rest_told : Every IsToldVariable rest
      rest_told = every_back IsToldVariable first rest (subst (Every IsToldVariable) (sym split) told_all)

      abbrev behind_result : List Variable
      behind_result = those is_parameter vs ++ those (negated is_parameter) vs

      from_result : From routine.locals behind_result (length shown_first)
      from_result =
          let z : 0 + length shown_first ≡ length shown_first = omega arith in
          from_behind routine.locals behind_result (length shown_first) (subst (Rattle.accepted_texts.proofs.unfolding_laws.ListLaws.Behind Variable routine.locals behind_result) z (behind_part routine.locals shown_first behind_result 0 (all_behind routine.locals)))

      parameters_from : From routine.locals (those is_parameter vs) (length shown_first)
      parameters_from = from_front routine.locals (those is_parameter vs) (those (negated is_parameter) vs) (length shown_first) from_result

      passes_back : (xs us zs : List Variable) (n : ℕ) → From xs (us ++ zs) n → From xs zs (n + length us)
      passes_back xs [] zs n h = let z : n ≡ n + 0 = omega arith in subst (From xs zs) z h
      passes_back xs (u ∷ us) zs n h =
          let z : suc n + length us ≡ n + suc (length us) = omega arith in
          subst (From xs zs) z (passes_back xs us zs (suc n) (from_next xs (us ++ zs) n u h))

      parameter_each : Each (IsOf s) (those is_parameter vs) (filter is_parameter_written ws)
      parameter_each =
          subst (Each (IsOf s) (those is_parameter vs)) (test_twice is_variable (λ (u : Written). is_parameter u.sort) is_parameter_written (λ u. parameter_sorts u.constant u.sort) ws)
          (those_of s is_parameter vs (filter is_variable ws) locals_each)

      parameters_long : length (those is_parameter vs) ≡ length (filter is_parameter_written ws)
      parameters_long = sym (each_long (IsOf s) (those is_parameter vs) (filter is_parameter_written ws) parameter_each)

      others_from : From routine.locals (those (negated is_parameter) vs) (length shown_first + length (filter is_parameter_written ws))
      others_from = subst (λ n. From routine.locals (those (negated is_parameter) vs) (length shown_first + n)) parameters_long (passes_back routine.locals (those is_parameter vs) (those (negated is_parameter) vs) (length shown_first) from_result)

      -- ---- what is promised of it

      none_of_result : (r : Option (TypeSpec ℕ)) → filter calls.is_parameter (result_declared s own r) ≡ []
      none_of_result None = refl
      none_of_result (Some t) = refl

      parameters_are : filter calls.is_parameter s.locals ≡ filter calls.is_parameter rest
      parameters_are = ap (filter calls.is_parameter) (sym split) ∙ (filter-append calls.is_parameter first rest ∙ ap (λ l. l ++ filter calls.is_parameter rest) (none_of_result result))

      takes : (o : Option Routine) → ((x : Routine) → o ≡ Some x → x.locals ≡ routine.locals) → TakesBy p o (filter calls.is_parameter s.locals) routine.parameters
      takes o h =
          subst (λ l. TakesBy p o l routine.parameters) (sym parameters_are)
          (takes_from o routine.locals h (length shown_first) ws rest vs rows rest_told locals_each parameters_from)

      pub declared_takes : TakesBy p None (filter calls.is_parameter s.locals) routine.parameters
      declared_takes = takes None (λ x e. absurd (none≢some e))

      pub routine_takes : TakesBy p (Some routine) (filter calls.is_parameter s.locals) routine.parameters
      routine_takes = takes (Some routine) (λ x e. ap (λ (y : Routine). y.locals) (sym (some-same e)))

      pub few_parameters : length routine.parameters ≤ most_parameters
      few_parameters = let a = locals_long (length shown_first) (those is_parameter vs) in let b = parameters_long in omega (arith, a, b, few)

      pub told_result : ToldOutcome (result_written s result)
      told_result = by result outcome
        where
          named : (o : Option StType) → is_some o ≡ true → ToldOutcome (Rattle.st_rules.specs.declared.signature.ResultType.TheVariants.Written o)
          named None h = cc
          named (Some t) h = tt

          by : (r : Option (TypeSpec ℕ)) → ((t : TypeSpec ℕ) → r ≡ Some t → is_some (type_written s t) ≡ true) → ToldOutcome (result_written s r)
          by None h = tt
          by (Some t) h = named (type_written s t) (h t refl)

      gives_by : (r : Option (TypeSpec ℕ)) (q : Option (TypeSpec Note)) (x : Routine) → ((t : TypeSpec ℕ) → r ≡ Some t → is_some (type_written s t) ≡ true) → IfThere (TypedSpec s) r q → (zs : List Variable) → x.locals ≡ result_of name q ++ zs → Gives x (result_written s r)
      gives_by None q x h i zs e = tt
      gives_by (Some t) None x h i zs e = absurd i
      gives_by (Some t) (Some u) x h i zs e = named (type_written s t) refl (h t refl)
        where
          named : (o : Option StType) → type_written s t ≡ o → is_some o ≡ true → Gives x (Rattle.st_rules.specs.declared.signature.ResultType.TheVariants.Written o)
          named None q j = cc
          named (Some k) q j = (_, ap (λ l. slice_get l 0) e, kind_shown s t u i ∙ told_as (type_written s t) k q, refl)

      pub routine_gives : Gives routine (result_written s result)
      routine_gives = gives_by result shown routine outcome typed behind_result refl

      -- ---- its locals by name

      local_rows : Each (LocalRow s routine.locals) ws rest
      local_rows =
          locals_seen s routine.locals (result_count s result) (result_count s result + length (filter is_parameter_written ws)) ws vs inside locals_each
          (subst (From routine.locals (those is_parameter vs)) (sym long) parameters_from)
          (subst (λ n. From routine.locals (those (negated is_parameter) vs) (n + length (filter is_parameter_written ws))) (sym long) others_from)

      module _ (g : Around) (same_locals : g.locals ≡ routine.locals) where
        abbrev IsPlaced : DeclaredVariable → Type 0
        IsPlaced v = is_external v.sort ≡ false → v.constant ≡ false → (t : StType) → v.kind ≡ Some t → NameIs p g v.target t × HasPlace v.target

        row_placed : (w : Written) (v : DeclaredVariable) → LocalRow s routine.locals w v → IsPlaced v
        row_placed w v h e c t k =
            let q = h.seen (inside_of w (sym h.row.1 ∙ c) (ap is_external (sym h.row.4) ∙ e)) in
            let x = q.2 in
            subst (λ z. NameIs p g z t × HasPlace z) (sym q.1)
            ((x.variable, ap (λ l. slice_get l q.0) same_locals ∙ x.there, kind_seen w x.variable t x.of (sym h.row.2 ∙ k)), tt)

        result_placed : (r : Option (TypeSpec ℕ)) (q : Option (TypeSpec Note)) (zs : List Variable) → IfThere (TypedSpec s) r q → g.locals ≡ result_of name q ++ zs → (n : List ℕ) (v : DeclaredVariable) → variable_named n (result_declared s own r) ≡ Some v → IsPlaced v
        result_placed None q zs i e n v f = absurd (none≢some f)
        result_placed (Some t) None zs i e n v f = absurd i
        result_placed (Some t) (Some u) zs i e n v f = by (same own n) _ (λ x c k j. ((_, ap (λ l. slice_get l 0) e, kind_shown s t u i ∙ told_as (type_written s t) k j), tt)) f
          where
            by : (b : Bool) (d : DeclaredVariable) → IsPlaced d → (if b then Some d else None) ≡ Some v → IsPlaced v
            by true d k h = subst IsPlaced (some-same h) k
            by false d k h = absurd (none≢some h)

        either_named : (n : List ℕ) (xs zs : List DeclaredVariable) (v : DeclaredVariable) → variable_named n (xs ++ zs) ≡ Some v → ((variable_named n xs ≡ Some v) → IsPlaced v) → ((variable_named n zs ≡ Some v) → IsPlaced v) → IsPlaced v
        either_named n [] zs v e f h = h e
        either_named n (x ∷ xs) zs v e f h = by (same x.name n) e f (λ q j. either_named n xs zs v q j h)
          where
            by : (b : Bool) → (if b then Some x else variable_named n (xs ++ zs)) ≡ Some v → ((if b then Some x else variable_named n xs) ≡ Some v → IsPlaced v) → (variable_named n (xs ++ zs) ≡ Some v → (variable_named n xs ≡ Some v → IsPlaced v) → IsPlaced v) → IsPlaced v
            by true q j l = j q
            by false q j l = l q j

        pub local_placed : (n : List ℕ) (v : DeclaredVariable) → variable_named n s.locals ≡ Some v → IsPlaced v
        local_placed n v e =
            either_named n first rest v (ap (variable_named n) split ∙ e)
            (λ q. result_placed result shown behind_result typed same_locals n v q)
            (λ q. let r = found_named (LocalRow s routine.locals) n ws rest v local_rows q in row_placed r.0 v r.1)
