-- The parameters of a body are variables of its instance, which hold no instance, and its in-outs are locals.
use Rattle.std.proofs.Common.{◌≡◌, ℕ, zero, suc, ◌+◌, true, false, List, [], ◌∷◌, ◌++◌, reverse, length, Option, Some, None, refl, sym, ap, ◌∙◌, subst, inl, inr, ◌⊎◌, arith}
use Rattle.std.specs.Prelude.{filter, slice_get}
use Rattle.std.proofs.lemmas.List.Elements.{filter-append}
use Rattle.std.proofs.lemmas.Option.{slice_get_within}
use Rattle.st_types.specs.declared.st_type.StType.{StType}
use Rattle.st_types.specs.declared.st_type.StType.TheVariants as type
use Rattle.st_tree.specs.declared.declaration.ClassDecl.{ClassDecl}
use Rattle.st_tree.specs.declared.declaration.ProgramDecl.{ProgramDecl}
use Rattle.st_tree.specs.declared.declaration.Section.{Section}
use Rattle.st_tree.specs.declared.declaration.SectionSort.{SectionSort}
use Rattle.st_tree.specs.declared.declaration.SectionSort.TheVariants as sort
use Rattle.st_tree.specs.declared.program.Note.{Note}
use Rattle.st_tree.specs.declared.program.Program.{Program as Checked}
use Rattle.st_tree.specs.declared.unit.Decl.{Decl}
use Rattle.st_tree.specs.Declarations.{is_global}
use Rattle.st_tree.specs.Statement.{Statements, statements_of}
use Rattle.st_rules.specs.Classes.{classes_in, chain}
use Rattle.st_rules.specs.Kinds.{holds_instances, holds_instances-Instance}
use Rattle.st_rules.specs.Scope.{Scope, is_external}
use Rattle.st_rules.proofs.Booleans.{some-same, none≢some, true≢false, false≢true}
use Rattle.st_unit_rules.specs.Checked.{Each as EachPair, TypedSection, TypedClass, TypedProgram, IsChecked}
use Rattle.st_unit_rules.specs.declared_names.Declarations.{a_program}
use Rattle.st_unit_rules.specs.declared_names.UnitNames.{unit_names, class_scope, program_scope}
use Rattle.st_unit_rules.specs.declared_names.Variables.{Written, sections_written, sections_in}
use Rattle.st_unit_rules.specs.declared_names.WrittenTypes.{type_written}
use Rattle.st_unit_rules.specs.DeclarationRules.{class_home}
use Rattle.st_unit_rules.specs.UnitRefusal.{BreaksNothing}
use Rattle.st_unit_rules.specs.VariableRules.{Home, of_program, may_hold_instances, holds_instances_told}
use Rattle.st_values.specs.Program.{Variable, to_local, to_variable, Parameter, Program, class_at, own_of, own_variables, class_variables, chain_of}
use Rattle.st_values.specs.View.{those, is_kept, is_of_body, is_parameter, sections_in as seen_sections, variables_in, body_parameters, body_routine, declared_by, declared_along, class_of, program_of}
use Rattle.st_meaning.specs.Call.{is_in_out}
use Rattle.st_meaning.specs.st_frame.Promise.Calls.{recipient_variable}
use Rattle.st_meaning.specs.st_frame.Promise.Declarations.{Each, IsLocal, ParameterIs}
use Rattle.st_meaning.specs.st_frame.Promise.Types.{IsNoInstance}
use Rattle.resolution_order.specs.told_laws.ToldLaws.{Every}
use Rattle.accepted_texts.specs.formed_units.Formed.{IsFormed}
use Rattle.accepted_texts.proofs.formed_texts.Units.{class_at as class_formed, part_at, sections_formed as members_formed}
use Rattle.accepted_texts.proofs.sized_units.Kept.{program_variables}
use Rattle.accepted_texts.proofs.sized_units.Variables.{IsOf, is_variable, all_of}
use Rattle.accepted_texts.proofs.unfolding_laws.ChainLaws.{chain_same, chain_there, sections_typed, class_seen, program_seen}
use Rattle.accepted_texts.proofs.unfolding_laws.ListLaws.{There, every_append, every_at, every_both, every_from, every_means, every_passing, every_reversed, if_found, if_there, from_get}
use Rattle.declaration_laws.proofs.Alive.{no_input, no_output}
use Rattle.initial_laws.proofs.Items.{IsLocalSort, sections_local}
use Rattle.initial_laws.proofs.Knowing.{Facts, class_says, program_says}
use Rattle.declaration_laws.proofs.Locals.{not_both, variable_sort}
use Rattle.initial_laws.proofs.NoInstances.{none_told}
use Rattle.initial_laws.proofs.Places.{PlacedAt}
use Rattle.declaration_laws.proofs.Regions.{each_every}

-- ---- where a parameter stands

-- a section of variables that are declared there
abbrev IsOwnSort : SectionSort → Type 0
IsOwnSort sort.External = ⊥
IsOwnSort sort.Global = ⊥
IsOwnSort _ = Unit {0}

record AtVariable (vs : List Variable) (k : ℕ) (q : Parameter) : Type 0 where
  number : ℕ
  variable : Variable
  to : q.to ≡ to_variable (k + number)
  sort_is : variable.sort ≡ q.sort
  there : slice_get (those is_kept vs) number ≡ Some variable
  parameter : is_parameter variable.sort ≡ true
  plain : is_in_out variable.sort ≡ false

record AtLocal (vs : List Variable) (l : ℕ) (q : Parameter) : Type 0 where
  number : ℕ
  variable : Variable
  to : q.to ≡ to_local (l + number)
  sort_is : variable.sort ≡ q.sort
  there : slice_get (those is_of_body vs) number ≡ Some variable
  bound : is_in_out variable.sort ≡ true

abbrev At : List Variable → ℕ → ℕ → Parameter → Type 0
At vs k l q = AtVariable vs k q ⊎ AtLocal vs l q

next_variable : (v : Variable) (vs : List Variable) (k : ℕ) (q : Parameter) → those is_kept (v ∷ vs) ≡ v ∷ those is_kept vs → AtVariable vs (suc k) q → AtVariable (v ∷ vs) k q
next_variable v vs k q e h =
    let z : suc k + h.number ≡ k + suc h.number = omega arith in
    record { number = suc h.number; variable = h.variable; to = h.to ∙ ap to_variable z; sort_is = h.sort_is; there = ap (λ us. slice_get us (suc h.number)) e ∙ h.there; parameter = h.parameter; plain = h.plain }

same_variable : (v : Variable) (vs : List Variable) (k : ℕ) (q : Parameter) → those is_kept (v ∷ vs) ≡ those is_kept vs → AtVariable vs k q → AtVariable (v ∷ vs) k q
same_variable v vs k q e h = record { number = h.number; variable = h.variable; to = h.to; sort_is = h.sort_is; there = ap (λ us. slice_get us h.number) e ∙ h.there; parameter = h.parameter; plain = h.plain }

next_local : (v : Variable) (vs : List Variable) (l : ℕ) (q : Parameter) → those is_of_body (v ∷ vs) ≡ v ∷ those is_of_body vs → AtLocal vs (suc l) q → AtLocal (v ∷ vs) l q
next_local v vs l q e h =
    let z : suc l + h.number ≡ l + suc h.number = omega arith in
    record { number = suc h.number; variable = h.variable; to = h.to ∙ ap to_local z; sort_is = h.sort_is; there = ap (λ us. slice_get us (suc h.number)) e ∙ h.there; bound = h.bound }

same_local : (v : Variable) (vs : List Variable) (l : ℕ) (q : Parameter) → those is_of_body (v ∷ vs) ≡ those is_of_body vs → AtLocal vs l q → AtLocal (v ∷ vs) l q
same_local v vs l q e h = record { number = h.number; variable = h.variable; to = h.to; sort_is = h.sort_is; there = ap (λ us. slice_get us h.number) e ∙ h.there; bound = h.bound }

-- a variable of the instance goes before, or a local of the body
after_variable : (v : Variable) (vs : List Variable) (k l : ℕ) (q : Parameter) → those is_kept (v ∷ vs) ≡ v ∷ those is_kept vs → those is_of_body (v ∷ vs) ≡ those is_of_body vs → At vs (suc k) l q → At (v ∷ vs) k l q
after_variable v vs k l q e f (inl h) = inl (next_variable v vs k q e h)
after_variable v vs k l q e f (inr h) = inr (same_local v vs l q f h)

after_local : (v : Variable) (vs : List Variable) (k l : ℕ) (q : Parameter) → those is_kept (v ∷ vs) ≡ those is_kept vs → those is_of_body (v ∷ vs) ≡ v ∷ those is_of_body vs → At vs k (suc l) q → At (v ∷ vs) k l q
after_local v vs k l q e f (inl h) = inl (same_variable v vs k q e h)
after_local v vs k l q e f (inr h) = inr (next_local v vs l q f h)

abbrev AllAt : List Variable → Type 0
AllAt vs = (k l i : ℕ) (q : Parameter) → slice_get (body_parameters k l vs) i ≡ Some q → At vs k l q

first_variable : (v : Variable) (vs : List Variable) (k : ℕ) (q : Parameter) → those is_kept (v ∷ vs) ≡ v ∷ those is_kept vs → is_parameter v.sort ≡ true → is_in_out v.sort ≡ false → q ≡ record { sort = v.sort; to = to_variable k } → AtVariable (v ∷ vs) k q
first_variable v vs k q e a b f =
    let z : k ≡ k + 0 = omega arith in
    record { number = 0; variable = v; to = ap (λ (x : Parameter). x.to) f ∙ ap to_variable z; sort_is = sym (ap (λ (x : Parameter). x.sort) f); there = ap (λ us. slice_get us 0) e; parameter = a; plain = b }

first_local : (v : Variable) (vs : List Variable) (l : ℕ) (q : Parameter) → those is_of_body (v ∷ vs) ≡ v ∷ those is_of_body vs → is_in_out v.sort ≡ true → q ≡ record { sort = v.sort; to = to_local l } → AtLocal (v ∷ vs) l q
first_local v vs l q e b f =
    let z : l ≡ l + 0 = omega arith in
    record { number = 0; variable = v; to = ap (λ (x : Parameter). x.to) f ∙ ap to_local z; sort_is = sym (ap (λ (x : Parameter). x.sort) f); there = ap (λ us. slice_get us 0) e; bound = b }

-- by the sort of the first variable
at_next : (x : SectionSort) (v : Variable) (vs : List Variable) → IsOwnSort x → AllAt vs → AllAt (record v { sort = x } ∷ vs)
at_next sort.Input v vs o rest k l zero q e = inl (first_variable (record v { sort = sort.Input }) vs k q refl refl refl (sym (some-same e)))
at_next sort.Input v vs o rest k l (suc i) q e = after_variable (record v { sort = sort.Input }) vs k l q refl refl (rest (suc k) l i q e)
at_next sort.Output v vs o rest k l zero q e = inl (first_variable (record v { sort = sort.Output }) vs k q refl refl refl (sym (some-same e)))
at_next sort.Output v vs o rest k l (suc i) q e = after_variable (record v { sort = sort.Output }) vs k l q refl refl (rest (suc k) l i q e)
at_next sort.InOut v vs o rest k l zero q e = inr (first_local (record v { sort = sort.InOut }) vs l q refl refl (sym (some-same e)))
at_next sort.InOut v vs o rest k l (suc i) q e = after_local (record v { sort = sort.InOut }) vs k l q refl refl (rest k (suc l) i q e)
at_next sort.Temp v vs o rest k l i q e = after_local (record v { sort = sort.Temp }) vs k l q refl refl (rest k (suc l) i q e)
at_next sort.Var v vs o rest k l i q e = after_variable (record v { sort = sort.Var }) vs k l q refl refl (rest (suc k) l i q e)
at_next sort.External v vs o rest k l i q e = absurd o
at_next sort.Global v vs o rest k l i q e = absurd o

all_at_place : (vs : List Variable) → Every (λ (v : Variable). IsOwnSort v.sort) vs → AllAt vs
all_at_place [] h k l i q e = absurd (none≢some e)
all_at_place (v ∷ vs) h k l i q e = at_next v.sort v vs h.0 (all_at_place vs h.1) k l i q e

-- ---- what inputs and outputs are

own_sort : (so : SectionSort) → is_external so ≡ false → is_global so ≡ false → IsOwnSort so
own_sort sort.External a b = absurd (true≢false a)
own_sort sort.Global a b = absurd (true≢false b)
own_sort sort.Var a b = tt
own_sort sort.Input a b = tt
own_sort sort.Output a b = tt
own_sort sort.InOut a b = tt
own_sort sort.Temp a b = tt

parameter_closed : (h : Home) (so : SectionSort) → is_parameter so ≡ true → is_in_out so ≡ false → may_hold_instances h so ≡ false
parameter_closed h sort.Input a b = no_input h
parameter_closed h sort.Output a b = no_output h
parameter_closed h sort.InOut a b = absurd (true≢false b)
parameter_closed h sort.Var a b = absurd (false≢true a)
parameter_closed h sort.Temp a b = absurd (false≢true a)
parameter_closed h sort.External a b = absurd (false≢true a)
parameter_closed h sort.Global a b = absurd (false≢true a)

none_is : (t : StType) → holds_instances t ≡ false → IsNoInstance t
none_is (type.Instance c) h = absurd (true≢false (sym (holds_instances-Instance c) ∙ h))
none_is _ h = tt

-- of a variable among those of a body
record Fine (v : Variable) : Type 0 where
  own : IsOwnSort v.sort
  none : is_parameter v.sort ≡ true → is_in_out v.sort ≡ false → IsNoInstance v.kind

module _ (p : Program) where
  -- the parameters of a body whose instance keeps these variables
  parameters_fit : (c : ℕ) (name : List ℕ) (line : ℕ) (vs : List Variable) (body : Statements Note) → class_variables p c ≡ those is_kept vs → Every Fine vs → Each (ParameterIs p (body_routine c name line vs body)) (body_parameters 0 0 vs)
  parameters_fit c name line vs body e h = each_every (ParameterIs p (body_routine c name line vs body)) (body_parameters 0 0 vs) (every_from (ParameterIs p (body_routine c name line vs body)) (body_parameters 0 0 vs) one)
    where
      by : (q : Parameter) → At vs 0 0 q → ParameterIs p (body_routine c name line vs body) q
      by q (inl a) =
          let z : 0 + a.number ≡ a.number = omega arith in
          let to : q.to ≡ to_variable a.number = a.to ∙ ap to_variable z in
          let there : slice_get (class_variables p c) a.number ≡ Some a.variable = ap (λ us. slice_get us a.number) e ∙ a.there in
          let f : Fine a.variable = every_at Fine (those is_kept vs) a.number a.variable (every_passing Fine (λ (v : Variable). is_kept v.sort) vs (every_means Fine (λ (v : Variable). is_kept v.sort ≡ true → Fine v) (λ v g i. g) vs h)) a.there in (
            a.variable,
            ap (recipient_variable p (body_routine c name line vs body)) to ∙ there,
            a.sort_is,
            (λ i. absurd (true≢false (sym (ap is_in_out a.sort_is ∙ i) ∙ a.plain))),
            (λ i. f.none a.parameter a.plain),
          )
      by q (inr a) =
          let z : 0 + a.number ≡ a.number = omega arith in
          let to : q.to ≡ to_local a.number = a.to ∙ ap to_local z in (
            a.variable,
            ap (recipient_variable p (body_routine c name line vs body)) to ∙ a.there,
            a.sort_is,
            (λ i. subst IsLocal (sym to) tt),
            (λ i. absurd (true≢false (sym a.bound ∙ (ap is_in_out a.sort_is ∙ i)))),
          )

      one : (i : ℕ) (q : Parameter) → slice_get (body_parameters 0 0 vs) i ≡ Some q → ParameterIs p (body_routine c name line vs body) q
      one i q g = by q (all_at_place vs (every_means Fine (λ (v : Variable). IsOwnSort v.sort) (λ v f. f.own) vs h) 0 0 i q g)

module _ (most : ℕ) (decls : List (Decl ℕ)) (p : Checked) (fine : IsFormed most decls) (good : BreaksNothing decls) (checked : IsChecked decls p) where
  abbrev Seen : Program
  Seen = program_of p

  module _ (s : Scope) (h : Home) where
    abbrev Says : Written → Type 0
    Says w = Facts most decls p fine good checked s h w × IsLocalSort w

    one_fine : (v : Variable) (w : Written) → IsOf s v w → is_variable w ≡ true → Says w → Fine v
    one_fine v w i e f = record {
      own = subst IsOwnSort (sym i.sort) (own_sort w.sort (variable_sort w e) f.1);
      none = λ a b.
          let closed = parameter_closed h w.sort (sym (ap is_parameter i.sort) ∙ a) (sym (ap is_in_out i.sort) ∙ b) in
          let holds = not_both (may_hold_instances h w.sort) (holds_instances_told (type_written s w.item.kind)) (f.0).0.instances closed in
          none_is v.kind (ap holds_instances i.kind ∙ none_told (type_written s w.item.kind) holds);
    }

    each_fine : (vs : List Variable) (ws : List Written) → EachPair (IsOf s) vs ws → Every (λ (w : Written). (is_variable w ≡ true) × Says w) ws → Every Fine vs
    each_fine [] [] i f = tt
    each_fine [] (w ∷ ws) i f = absurd i
    each_fine (v ∷ vs) [] i f = absurd i
    each_fine (v ∷ vs) (w ∷ ws) i f = (one_fine v w i.0 f.0.0 f.0.1, each_fine vs ws i.1 f.1)

    sections_fine : (xs : List (Section ℕ)) (ys : List (Section Note)) → EachPair (TypedSection s) xs ys → Every (Facts most decls p fine good checked s h) (sections_written xs) → Every IsLocalSort (sections_written xs) → Every Fine (variables_in ys)
    sections_fine xs ys t f l =
        let ws = sections_written xs in
        let all = every_both (Facts most decls p fine good checked s h) IsLocalSort Says (λ w a b. (a, b)) ws f l in
        each_fine (variables_in ys) (filter is_variable ws) (all_of s xs ys t)
        (every_passing (λ (w : Written). (is_variable w ≡ true) × Says w) is_variable ws (every_means Says (λ (w : Written). is_variable w ≡ true → (is_variable w ≡ true) × Says w) (λ w g e. (e, g)) ws all))

  -- ---- function blocks

  class_vars_fine : (c : ℕ) → Every Fine (declared_by (slice_get p.classes c))
  class_vars_fine c = by (slice_get p.classes c) refl
    where
      by : (o : Option (ClassDecl Note)) → slice_get p.classes c ≡ o → Every Fine (declared_by o)
      by None e = tt
      by (Some y) e =
          let z : 0 + c ≡ c = omega arith in
          let d = if_found (TypedClass decls (0 + c)) (slice_get (classes_in decls) c) (slice_get p.classes c) y e (from_get (TypedClass decls) 0 (classes_in decls) p.classes c checked.classes) in
          let t : TypedClass decls c d.0 y = subst (λ n. TypedClass decls n d.0 y) z d.2 in
          sections_fine (class_scope decls (unit_names decls) c) (class_home decls (d.0).sort) (sections_in (d.0).members) (seen_sections y.members) (sections_typed decls c (d.0).members y.members t.members)
          (class_says most decls p fine good checked c d.0 d.1) (sections_local (sections_in (d.0).members) (members_formed (d.0).members (class_formed most decls fine c d.0 d.1).members))

  along_fine : (cs : List ℕ) → Every Fine (declared_along p.classes cs)
  along_fine [] = tt
  along_fine (c ∷ cs) = every_append Fine (declared_by (slice_get p.classes c)) (declared_along p.classes cs) (class_vars_fine c) (along_fine cs)

  -- what an instance keeps is what its classes declare
  kept_along : (cs : List ℕ) → Every (There (ClassDecl Note) p.classes) cs → own_variables Seen cs ≡ those is_kept (declared_along p.classes cs)
  kept_along [] h = refl
  kept_along (c ∷ cs) h =
      let own : own_of (class_at Seen c) ≡ those is_kept (declared_by (slice_get p.classes c)) =
      ap own_of (class_seen p c (h.0).item (h.0).there) ∙ ap (λ o. those is_kept (declared_by o)) (sym (h.0).there) in
      ap (λ us. us ++ own_variables Seen cs) own
      ∙ (ap (λ us. those is_kept (declared_by (slice_get p.classes c)) ++ us) (kept_along cs h.1)
      ∙ sym (filter-append (λ (v : Variable). is_kept v.sort) (declared_by (slice_get p.classes c)) (declared_along p.classes cs)))

  chain_there_seen : (c : ℕ) (d : ClassDecl Note) → slice_get p.classes c ≡ Some d → Every (There (ClassDecl Note) p.classes) (reverse (chain p.classes c))
  chain_there_seen c d e =
      let x = if_found (TypedClass decls (0 + c)) (slice_get (classes_in decls) c) (slice_get p.classes c) d e (from_get (TypedClass decls) 0 (classes_in decls) p.classes c checked.classes) in
      every_reversed (There (ClassDecl Note) p.classes) (chain p.classes c)
      (subst (Every (There (ClassDecl Note) p.classes)) (sym (chain_same decls (classes_in decls) p.classes checked.classes c))
      (every_means (There (ClassDecl ℕ) (classes_in decls)) (There (ClassDecl Note) p.classes)
      (λ b h. let y = if_there (TypedClass decls (0 + b)) (slice_get (classes_in decls) b) (slice_get p.classes b) h.item h.there (from_get (TypedClass decls) 0 (classes_in decls) p.classes b checked.classes) in record { item = y.0; there = y.1 })
      (chain (classes_in decls) c) (chain_there (classes_in decls) c (slice_get_within (classes_in decls) c x.0 x.1))))

  block_variables : (c : ℕ) (d : ClassDecl Note) → slice_get p.classes c ≡ Some d → class_variables Seen c ≡ those is_kept (declared_along p.classes (reverse (chain p.classes c)))
  unfolding class_variables
  block_variables c d e = ap (λ o. own_variables Seen (reverse (chain_of o))) (class_seen p c d e) ∙ kept_along (reverse (chain p.classes c)) (chain_there_seen c d e)

  -- the parameters of the body of a function block
  pub block_parameters : (c : ℕ) (d : ClassDecl Note) → slice_get p.classes c ≡ Some d → Each (ParameterIs Seen (class_of p.classes p.interfaces c d).body) (class_of p.classes p.interfaces c d).body.parameters
  block_parameters c d e =
      parameters_fit Seen c d.name.text d.line (declared_along p.classes (reverse (chain p.classes c))) (statements_of d.body) (block_variables c d e) (along_fine (reverse (chain p.classes c)))

  -- and of that of a program
  pub program_parameters : (k : ℕ) (x : ProgramDecl ℕ) (d : ProgramDecl Note) → slice_get p.programs k ≡ Some d → PlacedAt decls (a_program x) → TypedProgram decls x d
      → Each (ParameterIs Seen (body_routine (length p.classes + k) d.name.text d.line (variables_in d.sections) (statements_of d.body))) (body_parameters 0 0 (variables_in d.sections))
  program_parameters k x d e h t =
      let class = program_seen p k d e in
      let vars : class_variables Seen (length p.classes + k) ≡ those is_kept (variables_in d.sections) = program_variables Seen (length p.classes + k) class.0 class.1 (class.2).chain ∙ (class.2).own in
      let s = program_scope decls (unit_names decls) x in
      parameters_fit Seen (length p.classes + k) d.name.text d.line (variables_in d.sections) (statements_of d.body) vars
      (sections_fine s of_program x.sections d.sections t.sections (program_says most decls p fine good checked x h) (sections_local x.sections (part_at most decls fine h.place h.item (a_program x) h.there h.is).sections))
