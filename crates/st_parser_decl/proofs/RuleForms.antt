-- The form of each rule is the form of its phrases.
use Rattle.std.proofs.Common.{◌≡◌, ℕ, ◌⊎◌, inl, inr, Bool, true, false, ◌||◌, List, [], ◌∷◌, Option, Some, None, refl, sym, ◌∙◌, ap, subst}
use borrow.Author.Tests.{clash}
use Rattle.st_types.specs.declared.elem.Elem.{Elem}
use Rattle.st_types.specs.declared.elem.Elem.TheVariants as kind
use Rattle.st_tree.specs.declared.terminal.Terminal.{Terminal}
use Rattle.st_tree.specs.declared.terminal.Terminal.TheVariants as x
use Rattle.st_tree.specs.declared.name.Name.{Name}
use Rattle.st_tree.specs.declared.name.Used.{Used}
use Rattle.st_tree.specs.declared.expression.Expr.{Expr}
use Rattle.st_tree.specs.declared.initial.Init.{Init}
use Rattle.st_tree.specs.declared.statement.Stmt.{Stmt}
use Rattle.st_tree.specs.declared.type_spec.Bounds.{Bounds}
use Rattle.st_tree.specs.declared.type_spec.ArraySpec.{ArraySpec}
use Rattle.st_tree.specs.declared.type_spec.SimpleSpec.{SimpleSpec}
use Rattle.st_tree.specs.declared.type_spec.SimpleSpec.TheVariants as simple
use Rattle.st_tree.specs.declared.type_spec.TypeSpec.{TypeSpec}
use Rattle.st_tree.specs.declared.declaration.Modifier.{Modifier}
use Rattle.st_tree.specs.declared.declaration.Modifier.TheVariants as modifier
use Rattle.st_tree.specs.declared.declaration.SectionSort.{SectionSort}
use Rattle.st_tree.specs.declared.declaration.SectionSort.TheVariants as sort
use Rattle.st_tree.specs.declared.declaration.Item.{Item}
use Rattle.st_tree.specs.declared.declaration.Section.{Section}
use Rattle.st_tree.specs.declared.declaration.FieldGroup.{FieldGroup}
use Rattle.st_tree.specs.declared.declaration.TypeBody.{TypeBody}
use Rattle.st_tree.specs.declared.declaration.TypeBody.TheVariants as type
use Rattle.st_tree.specs.declared.declaration.TypeDecl.{TypeDecl}
use Rattle.st_tree.specs.declared.declaration.Prototype.{Prototype}
use Rattle.st_tree.specs.declared.declaration.InterfaceDecl.{InterfaceDecl}
use Rattle.st_tree.specs.declared.declaration.Method.{Method}
use Rattle.st_tree.specs.declared.declaration.Member.{Member}
use Rattle.st_tree.specs.declared.declaration.Member.TheVariants as member_is
use Rattle.st_tree.specs.declared.declaration.ClassSort.{ClassSort}
use Rattle.st_tree.specs.declared.declaration.ClassSort.TheVariants as class_sort
use Rattle.st_tree.specs.declared.declaration.ClassDecl.{ClassDecl}
use Rattle.st_tree.specs.declared.declaration.FunctionDecl.{FunctionDecl}
use Rattle.st_tree.specs.declared.declaration.ProgramDecl.{ProgramDecl}
use Rattle.st_tree.specs.declared.configuration.Setting.{Setting}
use Rattle.st_tree.specs.declared.configuration.SettingValue.{SettingValue}
use Rattle.st_tree.specs.declared.configuration.SettingValue.TheVariants as setting_is
use Rattle.st_tree.specs.declared.configuration.TaskSpec.{TaskSpec}
use Rattle.st_tree.specs.declared.configuration.InstanceSpec.{InstanceSpec}
use Rattle.st_tree.specs.declared.configuration.Resource.{Resource}
use Rattle.st_tree.specs.declared.configuration.Configuration.{Configuration}
use Rattle.st_tree.specs.declared.unit.Decl.{Decl}
use Rattle.st_tree.specs.declared.unit.Decl.TheVariants as decls
use Rattle.st_tree.specs.Expression.{expression_of}
use Rattle.st_tree.specs.Initial.{initial_of}
use Rattle.st_tree.specs.Statement.{statements_of}
use Rattle.st_tree.specs.Grammar as g
use Rattle.st_tree.specs.Grammar.{Lexeme, Phrase, ◌⋆◌, nothing, sign, spelled, at, At, each}
use Rattle.st_tree.specs.Declarations as d
use Rattle.st_tree.proofs.Views as v
use Rattle.st_parser_expr.specs.Private.Machine as e
use Rattle.st_parser_expr.proofs.Fronts.{front, both_fronts, of_expression as expression-front, of_sign as sign-front}
use Rattle.st_parser_stmt.specs.Private.Machine as s
use Rattle.st_parser_stmt.specs.Private.Promises.{starts_statement}
use Rattle.st_parser_stmt.proofs.MachineLaws.{on-end}
use Rattle.st_parser_stmt.proofs.Passes as passes
use Rattle.st_parser_stmt.proofs.InitialPasses.{passes-initial}
use Rattle.st_parser_stmt.proofs.Spelled as spelled_by
use Rattle.st_parser_stmt.proofs.Unique as unique
use Rattle.st_parser_stmt.proofs.InitialUnique.{initials-one}
use Rattle.st_parser_stmt.proofs.Fronts.{of_body as body-front, of_initial as initial-front}
use Rattle.st_parser_decl.specs.Private.Form.{Form, one, one_of, both, option}
use Rattle.st_parser_decl.specs.Private.Rules as w
use Rattle.st_parser_decl.proofs.Takes.{perhaps, either_of}
use Rattle.st_parser_decl.proofs.FormOf.{FormOf, of_map, of_sign, of_text, of_one_of, of_optional, of_both, of_perhaps, of_either, of_each, more, first_of, of_list, Headed, headed_one, headed_one_of, headed_both, headed_either, of_at, of_marked, of_inside}

-- where a phrase is written in the same way
abbrev same_phrase : {X : Type 0} (P Q : X → Phrase) → Type 0
same_phrase {X = X} P Q = (v : X) (ts rest : List Lexeme) → P v ts rest → Q v ts rest

-- ---- names

of_name : FormOf w.word Name g.name
unfolding w.word
of_name = of_map _ g.name (λ z. record { text = z.1; line = z.0 }) (λ n. (n.line, n.text)) (λ n ts rest h. refl) (λ z ts rest h. h) (λ n ts rest h. h) (of_at _ (headed_one x.Word) (of_text x.Word))

of_used : FormOf w.word (Used ℕ) d.used
unfolding w.word
of_used = of_map _ d.used (λ z. record { note = z.0; text = z.1 }) (λ n. (n.note, n.text)) (λ n ts rest h. refl) (λ z ts rest h. h) (λ n ts rest h. h) (of_at _ (headed_one x.Word) (of_text x.Word))

to-more_names : same_phrase (more g.name) d.more_names
to-more_names [] ts rest h = h
to-more_names (n ∷ ns) ts rest (m, c, (m', h, others)) = (m, c, (m', h, to-more_names ns m' rest others))

back-more_names : same_phrase d.more_names (more g.name)
back-more_names [] ts rest h = h
back-more_names (n ∷ ns) ts rest (m, c, (m', h, others)) = (m, c, (m', h, back-more_names ns m' rest others))

pub to-names : same_phrase (first_of g.name) d.names
to-names [] ts rest h = absurd h
to-names (n ∷ ns) ts rest (m, h, others) = (m, h, to-more_names ns m rest others)

back-names : same_phrase d.names (first_of g.name)
back-names [] ts rest h = absurd h
back-names (n ∷ ns) ts rest (m, h, others) = (m, h, back-more_names ns m rest others)

of_names : FormOf w.names (List Name) d.names
unfolding w.names
of_names = of_map _ d.names (λ z. z) (λ z. z) (λ z ts rest h. refl) to-names back-names (of_list g.name of_name)

to-more_used : same_phrase (more d.used) d.more_used
to-more_used [] ts rest h = h
to-more_used (n ∷ ns) ts rest (m, c, (m', h, others)) = (m, c, (m', h, to-more_used ns m' rest others))

back-more_used : same_phrase d.more_used (more d.used)
back-more_used [] ts rest h = h
back-more_used (n ∷ ns) ts rest (m, c, (m', h, others)) = (m, c, (m', h, back-more_used ns m' rest others))

pub to-used_names : same_phrase (first_of d.used) d.used_names
to-used_names [] ts rest h = absurd h
to-used_names (n ∷ ns) ts rest (m, h, others) = (m, h, to-more_used ns m rest others)

back-used_names : same_phrase d.used_names (first_of d.used)
back-used_names [] ts rest h = absurd h
back-used_names (n ∷ ns) ts rest (m, h, others) = (m, h, back-more_used ns m rest others)

of_used_names : FormOf w.names (List (Used ℕ)) d.used_names
unfolding w.names
of_used_names = of_map _ d.used_names (λ z. z) (λ z. z) (λ z ts rest h. refl) to-used_names back-used_names (of_list d.used of_used)

-- ---- expressions, values and statements

abbrev written : Expr ℕ → Phrase
written c = g.expression (expression_of c) 0

abbrev valued : Init ℕ → Phrase
valued c = g.initial (initial_of c)

of_expression : FormOf w.expression (Expr ℕ) written
unfolding w.expression
of_expression = of_inside (s.inside e.start ∷ []) written derive (λ c a h. passes.passes-expression (expression_of c) [] a [] h (tt, tt)) same (λ c. front _ (expression-front (expression_of c) 0))
  where
    derive : (a : List Lexeme) → s.machine (s.inside e.start ∷ []) a ≡ (true, 0) → (c : Expr ℕ) × written c a []
    derive a run =
        let all = spelled_by.spelled_all a (s.inside e.start ∷ []) run in
        let c = spelled_by.given_expression a all.0 all.1 in
        (v.expression_from c.0, subst (λ u. g.expression u 0 a []) (sym (v.forth-expression c.0)) (subst (g.expression c.0 0 a) all.2 c.1))

    same : (c c' : Expr ℕ) (a : List Lexeme) → written c a [] → written c' a [] → c ≡ c'
    same c c' a h h' =
        let trees = (unique.expression-same (expression_of c) (expression_of c') a a [] [] refl h h' (tt, tt) (tt, tt)).0 in
        sym (v.back-expression c) ∙ ap v.expression_from trees ∙ v.back-expression c'

of_value : FormOf w.value (Init ℕ) valued
unfolding w.value
of_value = of_inside (s.init_next ∷ []) valued derive (λ c a h. passes-initial (initial_of c) [] a [] h (tt, tt)) same (λ c. front _ (initial-front (initial_of c)))
  where
    derive : (a : List Lexeme) → s.machine (s.init_next ∷ []) a ≡ (true, 0) → (c : Init ℕ) × valued c a []
    derive a run =
        let all = spelled_by.spelled_all a (s.init_next ∷ []) run in
        (v.initial_from all.1.0, subst (λ u. g.initial u a []) (sym (v.forth-initial all.1.0)) (subst (g.initial all.1.0 a) all.2 all.1.1))

    same : (c c' : Init ℕ) (a : List Lexeme) → valued c a [] → valued c' a [] → c ≡ c'
    same c c' a h h' = sym (v.back-initial c) ∙ ap v.initial_from (initials-one a (initial_of c) (initial_of c') h h') ∙ v.back-initial c'

of_body : (t : Terminal) (free : s.IsNoStatement t) (q : s.Quiet t) → starts_statement (Some t) ≡ false → FormOf (w.body t free q) (List (Stmt ℕ)) (λ ss. g.body (statements_of ss) ⋆ sign t)
unfolding w.body
of_body t free q ends = of_inside (s.body (s.until t free q) ∷ []) bodied derive accept same (λ ss. both_fronts _ _ (body-front (statements_of ss)) (front _ (sign-front t)))
  where
    bodied : List (Stmt ℕ) → Phrase
    bodied ss = g.body (statements_of ss) ⋆ sign t

    derive : (a : List Lexeme) → s.machine (s.body (s.until t free q) ∷ []) a ≡ (true, 0) → (ss : List (Stmt ℕ)) × (g.body (statements_of ss) ⋆ sign t) a []
    derive a run =
        let all = spelled_by.spelled_all a (s.body (s.until t free q) ∷ []) run in
        let b = all.1 in
        (v.statements_from b.0, (b.1.0, subst (λ u. g.body u a b.1.0) (sym (v.forth-statements b.0)) b.1.1, subst (sign t b.1.0) all.2 b.1.2))

    accept : (ss : List (Stmt ℕ)) (a : List Lexeme) → (g.body (statements_of ss) ⋆ sign t) a [] → s.machine (s.body (s.until t free q) ∷ []) a ≡ (true, 0)
    accept ss a (m, h, c) = passes.passes-body (statements_of ss) (s.until t free q) [] a m h ∙ on-end [] t free q m [] c

    same : (ss ss' : List (Stmt ℕ)) (a : List Lexeme) → (g.body (statements_of ss) ⋆ sign t) a [] → (g.body (statements_of ss') ⋆ sign t) a [] → ss ≡ ss'
    same ss ss' a (m, h, c) (m', h', c') =
        let trees = (unique.one-body (statements_of ss) (statements_of ss') a a m m' refl h h' (unique.no_more-sign t m [] ends c) (unique.no_more-sign t m' [] ends c')).0 in
        sym (v.back-statements ss) ∙ ap v.statements_from trees ∙ v.back-statements ss'

-- ---- types

of_range : FormOf w.range (Bounds ℕ) g.range
unfolding w.range
of_range = of_map _ g.range (λ z. record { low = z.0; high = z.1.1 }) (λ b. (b.low, (tt, b.high))) (λ b ts rest h. refl) (λ z ts rest h. h) (λ b ts rest h. h)
    (of_both _ _ of_expression (of_both _ _ (of_sign x.Range) of_expression))

to-more_ranges : same_phrase (more g.range) g.more_ranges
to-more_ranges [] ts rest h = h
to-more_ranges (n ∷ ns) ts rest (m, c, (m', h, others)) = (m, c, (m', h, to-more_ranges ns m' rest others))

back-more_ranges : same_phrase g.more_ranges (more g.range)
back-more_ranges [] ts rest h = h
back-more_ranges (n ∷ ns) ts rest (m, c, (m', h, others)) = (m, c, (m', h, back-more_ranges ns m' rest others))

pub to-ranges : same_phrase (first_of g.range) g.ranges
to-ranges [] ts rest h = absurd h
to-ranges (n ∷ ns) ts rest (m, h, others) = (m, h, to-more_ranges ns m rest others)

back-ranges : same_phrase g.ranges (first_of g.range)
back-ranges [] ts rest h = absurd h
back-ranges (n ∷ ns) ts rest (m, h, others) = (m, h, back-more_ranges ns m rest others)

of_ranges : FormOf w.ranges (List (Bounds ℕ)) g.ranges
unfolding w.ranges
of_ranges = of_map _ g.ranges (λ z. z) (λ z. z) (λ z ts rest h. refl) to-ranges back-ranges (of_list g.range of_range)

of_array_spec : FormOf w.array_spec (ArraySpec ℕ) g.array_spec
unfolding w.array_spec
of_array_spec = of_map _ g.array_spec (λ z. record { note = z.0; bounds = z.1.1.1.0 }) (λ a. (a.note, (tt, (tt, (a.bounds, (tt, tt)))))) (λ a ts rest h. refl) (λ z ts rest h. h) (λ a ts rest h. h)
    (of_at _ (headed_both _ _ (headed_one x.Array)) (of_both _ _ (of_sign x.Array) (of_both _ _ (of_sign x.OpenBracket) (of_both _ _ of_ranges (of_both _ _ (of_sign x.CloseBracket) (of_sign x.Of))))))

abbrev kind_of : Terminal → Elem
kind_of (x.Kind k) = k
kind_of _ = kind.Bool

of_kind : FormOf (one_of w.is_kind (x.Kind kind.Bool) refl) Elem (λ k. sign (x.Kind k))
of_kind = of_one_of w.is_kind (x.Kind kind.Bool) refl kind_of x.Kind _ same (λ k ts rest h. (refl, refl, h)) (λ u ts rest h c. subst (λ t. sign t ts rest) (sym (same u h)) c)
  where
    same : (u : Terminal) → w.is_kind u ≡ true → x.Kind (kind_of u) ≡ u
    same (x.Kind k) h = refl
    same _ h = absurd (clash h)

abbrev Simple : Type 0
Simple = (ℕ × Elem) ⊎ ((ℕ × List ℕ) ⊎ (ℕ × (Unit {0} × (ℕ × List ℕ))))

abbrev simple_from : Simple → SimpleSpec ℕ
simple_from (inl z) = simple.Elementary z.0 z.1
simple_from (inr (inl z)) = simple.Named z.0 z.1
simple_from (inr (inr z)) = simple.Reference z.0 z.1.1.0 z.1.1.1

abbrev simple_to : SimpleSpec ℕ → Simple
simple_to (simple.Elementary line k) = inl (line, k)
simple_to (simple.Named line n) = inr (inl (line, n))
simple_to (simple.Reference line later n) = inr (inr (line, (tt, (later, n))))

abbrev simple_phrase : Simple → Phrase
simple_phrase =
    either_of (λ z. at z.0 (sign (x.Kind z.1))) (either_of (λ z. at z.0 (spelled x.Word z.1)) (λ z. at z.0 (sign x.RefTo ⋆ at z.1.1.0 (spelled x.Word z.1.1.1))))

of_simple_spec : FormOf w.simple_spec (SimpleSpec ℕ) g.simple_spec
unfolding w.simple_spec w.reference w.word
of_simple_spec = of_map simple_phrase g.simple_spec simple_from simple_to same to back
    (of_either _ _ (of_at _ (headed_one_of w.is_kind (x.Kind kind.Bool) refl) of_kind)
    (of_either _ _ (of_at _ (headed_one x.Word) (of_text x.Word)) (of_at _ (headed_both _ _ (headed_one x.RefTo)) (of_both _ _ (of_sign x.RefTo) (of_at _ (headed_one x.Word) (of_text x.Word))))))
  where
    same : (y : SimpleSpec ℕ) (ts rest : List Lexeme) → g.simple_spec y ts rest → simple_from (simple_to y) ≡ y
    same (simple.Elementary line k) ts rest h = refl
    same (simple.Named line n) ts rest h = refl
    same (simple.Reference line later n) ts rest h = refl

    to : (z : Simple) (ts rest : List Lexeme) → simple_phrase z ts rest → g.simple_spec (simple_from z) ts rest
    to (inl z) ts rest h = h
    to (inr (inl z)) ts rest h = h
    to (inr (inr z)) ts rest h = h

    back : (y : SimpleSpec ℕ) (ts rest : List Lexeme) → g.simple_spec y ts rest → simple_phrase (simple_to y) ts rest
    back (simple.Elementary line k) ts rest h = h
    back (simple.Named line n) ts rest h = h
    back (simple.Reference line later n) ts rest h = h

of_type_spec : FormOf w.type_spec (TypeSpec ℕ) g.type_spec
unfolding w.type_spec
of_type_spec = of_map _ g.type_spec (λ z. record { arrays = z.0; element = z.1 }) (λ t. (t.arrays, t.element)) (λ t ts rest h. refl) (λ z ts rest h. h) (λ t ts rest h. h)
    (of_both _ _ (of_each _ of_array_spec) of_simple_spec)

-- a terminal and what stands behind it, or nothing
abbrev behind : {X : Type 0} → Option (Unit {0} × X) → Option X
behind None = None
behind (Some z) = Some z.1

abbrev with_unit : {X : Type 0} → Option X → Option (Unit {0} × X)
with_unit None = None
with_unit (Some v) = Some (tt, v)

of_option : {a : Form} {X : Type 0} (t : Terminal) (P : X → Phrase) (Q : Option X → Phrase) → same_phrase (perhaps (λ v. sign t ⋆ P v)) Q → same_phrase Q (perhaps (λ v. sign t ⋆ P v))
    → FormOf a X P → FormOf (option (both (one t) a)) (Option X) Q
of_option {X = X} t P Q to back f = of_map (perhaps (λ z. sign t ⋆ P z.1)) Q behind with_unit same to' back' (of_perhaps _ (of_both _ _ (of_sign t) f))
  where
    same : (o : Option X) (ts rest : List Lexeme) → Q o ts rest → behind (with_unit o) ≡ o
    same None ts rest h = refl
    same (Some v) ts rest h = refl

    to' : (o : Option (Unit {0} × X)) (ts rest : List Lexeme) → perhaps (λ z. sign t ⋆ P z.1) o ts rest → Q (behind o) ts rest
    to' None ts rest h = to None ts rest h
    to' (Some z) ts rest h = to (Some z.1) ts rest h

    back' : (o : Option X) (ts rest : List Lexeme) → Q o ts rest → perhaps (λ z. sign t ⋆ P z.1) (with_unit o) ts rest
    back' None ts rest h = back None ts rest h
    back' (Some v) ts rest h = back (Some v) ts rest h

pub to-result : same_phrase (perhaps (λ v. sign x.Colon ⋆ g.type_spec v)) d.result
to-result None ts rest h = h
to-result (Some v) ts rest h = h

back-result : same_phrase d.result (perhaps (λ v. sign x.Colon ⋆ g.type_spec v))
back-result None ts rest h = h
back-result (Some v) ts rest h = h

of_result : FormOf w.result (Option (TypeSpec ℕ)) d.result
unfolding w.result
of_result = of_option x.Colon g.type_spec d.result to-result back-result of_type_spec

pub to-start_value : same_phrase (perhaps (λ v. sign x.Assign ⋆ valued v)) d.start_value
to-start_value None ts rest h = h
to-start_value (Some v) ts rest h = h

back-start_value : same_phrase d.start_value (perhaps (λ v. sign x.Assign ⋆ valued v))
back-start_value None ts rest h = h
back-start_value (Some v) ts rest h = h

of_start_value : FormOf w.start_value (Option (Init ℕ)) d.start_value
unfolding w.start_value
of_start_value = of_option x.Assign valued d.start_value to-start_value back-start_value of_value

-- ---- sections of variables

pub to-address : same_phrase (perhaps (λ v. sign x.At ⋆ spelled x.Address v)) d.address
to-address None ts rest h = h
to-address (Some v) ts rest h = h

back-address : same_phrase d.address (perhaps (λ v. sign x.At ⋆ spelled x.Address v))
back-address None ts rest h = h
back-address (Some v) ts rest h = h

of_address : FormOf w.address (Option (List ℕ)) d.address
unfolding w.address
of_address = of_option x.At (λ v. spelled x.Address v) d.address to-address back-address (of_text x.Address)

headed_names : Headed w.names
unfolding w.names w.word
headed_names = headed_both _ _ (headed_one x.Word)

of_item : FormOf w.item (Item ℕ) d.item
unfolding w.item
of_item =
    of_map _ d.item (λ z. record { marks = z.0; names = z.1.0; address = z.1.1.0; kind = z.1.1.1.1.0; initial = z.1.1.1.1.1.0 })
    (λ i. (i.marks, (i.names, (i.address, (tt, (i.kind, (i.initial, tt))))))) (λ i ts rest h. refl) (λ z ts rest h. h) (λ i ts rest h. h)
    (of_marked _ (headed_both _ _ headed_names)
    (of_both _ _ of_names (of_both _ _ of_address (of_both _ _ (of_sign x.Colon) (of_both _ _ of_type_spec (of_both _ _ of_start_value (of_sign x.Semicolon)))))))

of_items : FormOf w.items (List (Item ℕ)) (each d.item)
unfolding w.items
of_items = of_each _ of_item

-- the modifier that a terminal is
abbrev modifier_of : Terminal → Modifier
modifier_of x.Constant = modifier.Constant
modifier_of x.Retain = modifier.Retain
modifier_of x.NonRetain = modifier.NonRetain
modifier_of x.Persistent = modifier.Persistent
modifier_of x.Public = modifier.Public
modifier_of x.Protected = modifier.Protected
modifier_of x.Private = modifier.Private
modifier_of x.Internal = modifier.Internal
modifier_of x.Final = modifier.Final
modifier_of x.Override = modifier.Override
modifier_of _ = modifier.Abstract

modifier-is : (m : Modifier) → modifier_of (d.modifier_terminal m) ≡ m
modifier-is modifier.Constant = refl
modifier-is _ = refl

-- words of the set S are the modifiers that are allowed
of_modifier : (S : Terminal → Bool) (t : Terminal) (p : S t ≡ true) (allowed : Modifier → Bool) → ((u : Terminal) → S u ≡ true → (allowed (modifier_of u) ≡ true) × (d.modifier_terminal (modifier_of u) ≡ u))
    → ((m : Modifier) → allowed m ≡ true → S (d.modifier_terminal m) ≡ true) → FormOf (one_of S t p) Modifier (d.modifier_in allowed)
of_modifier S t p allowed is back =
    of_one_of S t p modifier_of d.modifier_terminal (d.modifier_in allowed) (λ u h. (is u h).1) (λ m ts rest h. (back m h.0, modifier-is m, h.1))
    (λ u ts rest h c. ((is u h).0, subst (λ t. sign t ts rest) (sym (is u h).1) c))

pub section-words : (u : Terminal) → w.is_section_word u ≡ true → (d.is_keep (modifier_of u) || d.is_access (modifier_of u) ≡ true) × (d.modifier_terminal (modifier_of u) ≡ u)
section-words x.Constant h = (refl, refl)
section-words x.Retain h = (refl, refl)
section-words x.NonRetain h = (refl, refl)
section-words x.Persistent h = (refl, refl)
section-words x.Public h = (refl, refl)
section-words x.Protected h = (refl, refl)
section-words x.Private h = (refl, refl)
section-words x.Internal h = (refl, refl)
section-words _ h = absurd (clash h)

words-section : (m : Modifier) → d.is_keep m || d.is_access m ≡ true → w.is_section_word (d.modifier_terminal m) ≡ true
words-section modifier.Abstract h = cc
words-section modifier.Final h = cc
words-section modifier.Override h = cc
words-section _ h = refl

of_section_words : FormOf w.section_words (List Modifier) (each (d.modifier_in (λ m. d.is_keep m || d.is_access m)))
unfolding w.section_words
of_section_words = of_each _ (of_modifier w.is_section_word x.Constant refl _ section-words words-section)

pub keep-words : (u : Terminal) → w.is_keep u ≡ true → (d.is_keep (modifier_of u) ≡ true) × (d.modifier_terminal (modifier_of u) ≡ u)
keep-words x.Constant h = (refl, refl)
keep-words x.Retain h = (refl, refl)
keep-words x.NonRetain h = (refl, refl)
keep-words x.Persistent h = (refl, refl)
keep-words _ h = absurd (clash h)

words-keep : (m : Modifier) → d.is_keep m ≡ true → w.is_keep (d.modifier_terminal m) ≡ true
words-keep modifier.Constant h = refl
words-keep modifier.Retain h = refl
words-keep modifier.NonRetain h = refl
words-keep modifier.Persistent h = refl
words-keep _ h = cc

of_keep_words : FormOf w.keep_words (List Modifier) (each (d.modifier_in d.is_keep))
unfolding w.keep_words
of_keep_words = of_each _ (of_modifier w.is_keep x.Constant refl _ keep-words words-keep)

pub class-words : (u : Terminal) → w.is_class_word u ≡ true → (d.is_class_word (modifier_of u) ≡ true) × (d.modifier_terminal (modifier_of u) ≡ u)
class-words x.Abstract h = (refl, refl)
class-words x.Final h = (refl, refl)
class-words _ h = absurd (clash h)

words-class : (m : Modifier) → d.is_class_word m ≡ true → w.is_class_word (d.modifier_terminal m) ≡ true
words-class modifier.Abstract h = refl
words-class modifier.Final h = refl
words-class _ h = cc

of_class_words : FormOf w.class_words (List Modifier) (each (d.modifier_in d.is_class_word))
unfolding w.class_words
of_class_words = of_each _ (of_modifier w.is_class_word x.Abstract refl _ class-words words-class)

pub method-words : (u : Terminal) → w.is_method_word u ≡ true → (d.is_access (modifier_of u) || d.is_method_word (modifier_of u) ≡ true) × (d.modifier_terminal (modifier_of u) ≡ u)
method-words x.Abstract h = (refl, refl)
method-words x.Final h = (refl, refl)
method-words x.Override h = (refl, refl)
method-words x.Public h = (refl, refl)
method-words x.Protected h = (refl, refl)
method-words x.Private h = (refl, refl)
method-words x.Internal h = (refl, refl)
method-words _ h = absurd (clash h)

words-method : (m : Modifier) → d.is_access m || d.is_method_word m ≡ true → w.is_method_word (d.modifier_terminal m) ≡ true
words-method modifier.Constant h = cc
words-method modifier.Retain h = cc
words-method modifier.NonRetain h = cc
words-method modifier.Persistent h = cc
words-method _ h = refl

of_method_words : FormOf w.method_words (List Modifier) (each (d.modifier_in (λ m. d.is_access m || d.is_method_word m)))
unfolding w.method_words
of_method_words = of_each _ (of_modifier w.is_method_word x.Abstract refl _ method-words words-method)

abbrev sort_of : Terminal → SectionSort
sort_of x.VarInput = sort.Input
sort_of x.VarOutput = sort.Output
sort_of x.VarInOut = sort.InOut
sort_of x.VarTemp = sort.Temp
sort_of x.VarExternal = sort.External
sort_of _ = sort.Var

abbrev LocalSort : SectionSort → Phrase
LocalSort v = λ ts rest. (d.is_global v ≡ false) × sign (d.section_terminal v) ts rest

of_sort : FormOf (one_of w.is_section x.Var refl) SectionSort LocalSort
of_sort = of_one_of w.is_section x.Var refl sort_of d.section_terminal LocalSort same (λ v ts rest h. ((back v h.0).0, (back v h.0).1, h.1)) (λ u ts rest h c. (local u h, subst (λ t. sign t ts rest) (sym (same u h)) c))
  where
    same : (u : Terminal) → w.is_section u ≡ true → d.section_terminal (sort_of u) ≡ u
    same x.Var h = refl
    same x.VarInput h = refl
    same x.VarOutput h = refl
    same x.VarInOut h = refl
    same x.VarTemp h = refl
    same x.VarExternal h = refl
    same _ h = absurd (clash h)

    back : (v : SectionSort) → d.is_global v ≡ false → (w.is_section (d.section_terminal v) ≡ true) × (sort_of (d.section_terminal v) ≡ v)
    back sort.Global h = cc
    back _ h = (refl, refl)

    local : (u : Terminal) → w.is_section u ≡ true → d.is_global (sort_of u) ≡ false
    local x.VarInput h = refl
    local _ h = refl

of_vars : FormOf w.vars (Section ℕ) d.vars
unfolding w.vars
of_vars =
    of_map _ d.vars (λ z. record { line = z.0; sort = z.1.0; modifiers = z.1.1.0; items = z.1.1.1.0 }) (λ s. (s.line, (s.sort, (s.modifiers, (s.items, tt))))) (λ s ts rest h. refl)
    (λ z ts rest h. (h.1.1.0, (h.0, (h.1.0, h.1.1.1, h.1.2)))) (λ s ts rest h. (h.1.0, (h.1.1.0, (h.0, h.1.1.1), h.1.1.2)))
    (of_at _ (headed_both _ _ (headed_one_of w.is_section x.Var refl)) (of_both _ _ of_sort (of_both _ _ of_section_words (of_both _ _ of_items (of_sign x.EndVar)))))

of_globals : FormOf w.globals (Section ℕ) d.globals
unfolding w.globals
of_globals =
    of_map _ d.globals (λ z. record { line = z.0; sort = sort.Global; modifiers = z.1.1.0; items = z.1.1.1.0 }) (λ s. (s.line, (tt, (s.modifiers, (s.items, tt))))) same
    (λ z ts rest h. (refl, h)) (λ s ts rest h. (h.1.0, (h.1.1.0, subst (λ t. sign t ts h.1.1.0) (ap d.section_terminal (global s.sort h.0)) h.1.1.1, h.1.1.2)))
    (of_at _ (headed_both _ _ (headed_one x.VarGlobal)) (of_both _ _ (of_sign x.VarGlobal) (of_both _ _ of_keep_words (of_both _ _ of_items (of_sign x.EndVar)))))
  where
    global : (v : SectionSort) → d.is_global v ≡ true → v ≡ sort.Global
    global sort.Global h = refl
    global _ h = cc

    same : (s : Section ℕ) (ts rest : List Lexeme) → d.globals s ts rest → ◌≡◌ {A = Section ℕ} (record { line = s.line; sort = sort.Global; modifiers = s.modifiers; items = s.items }) s
    same s ts rest h = ap (λ v. record { line = s.line; sort = v; modifiers = s.modifiers; items = s.items }) (sym (global s.sort h.0))

of_sections : FormOf w.sections (List (Section ℕ)) (each d.vars)
unfolding w.sections
of_sections = of_each _ of_vars

of_global_sections : FormOf w.global_sections (List (Section ℕ)) (each d.globals)
unfolding w.global_sections
of_global_sections = of_each _ of_globals

-- ---- types

of_field_group : FormOf w.field_group (FieldGroup ℕ) d.field_group
unfolding w.field_group
of_field_group =
    of_map _ d.field_group (λ z. record { names = z.0; kind = z.1.1.0; initial = z.1.1.1.0 }) (λ f. (f.names, (tt, (f.kind, (f.initial, tt))))) (λ f ts rest h. refl) (λ z ts rest h. h) (λ f ts rest h. h)
    (of_both _ _ of_names (of_both _ _ (of_sign x.Colon) (of_both _ _ of_type_spec (of_both _ _ of_start_value (of_sign x.Semicolon)))))

abbrev Body : Type 0
Body = (Unit {0} × (List Name × (Unit {0} × Unit {0}))) ⊎ ((Unit {0} × (List (FieldGroup ℕ) × (Unit {0} × Unit {0}))) ⊎ (TypeSpec ℕ × Unit {0}))

abbrev body_from : Body → TypeBody ℕ
body_from (inl z) = type.Enumeration z.1.0
body_from (inr (inl z)) = type.Structure z.1.0
body_from (inr (inr z)) = type.Alias z.0

abbrev body_to : TypeBody ℕ → Body
body_to (type.Enumeration ns) = inl (tt, (ns, (tt, tt)))
body_to (type.Structure fs) = inr (inl (tt, (fs, (tt, tt))))
body_to (type.Alias s) = inr (inr (s, tt))

abbrev body_phrase : Body → Phrase
body_phrase =
    either_of (λ z. sign x.Open ⋆ d.names z.1.0 ⋆ sign x.Close ⋆ sign x.Semicolon)
    (either_of (λ z. sign x.Struct ⋆ each d.field_group z.1.0 ⋆ sign x.EndStruct ⋆ g.optional x.Semicolon) (λ z. g.type_spec z.0 ⋆ sign x.Semicolon))

of_type_body : FormOf w.type_body (TypeBody ℕ) d.type_body
unfolding w.type_body w.enumeration w.structure w.alias
of_type_body = of_map body_phrase d.type_body body_from body_to same to back
    (of_either _ _ (of_both _ _ (of_sign x.Open) (of_both _ _ of_names (of_both _ _ (of_sign x.Close) (of_sign x.Semicolon))))
    (of_either _ _ (of_both _ _ (of_sign x.Struct) (of_both _ _ (of_each _ of_field_group) (of_both _ _ (of_sign x.EndStruct) (of_optional x.Semicolon)))) (of_both _ _ of_type_spec (of_sign x.Semicolon))))
  where
    same : (y : TypeBody ℕ) (ts rest : List Lexeme) → d.type_body y ts rest → body_from (body_to y) ≡ y
    same (type.Enumeration ns) ts rest h = refl
    same (type.Structure fs) ts rest h = refl
    same (type.Alias s) ts rest h = refl

    to : (z : Body) (ts rest : List Lexeme) → body_phrase z ts rest → d.type_body (body_from z) ts rest
    to (inl z) ts rest h = h
    to (inr (inl z)) ts rest h = h
    to (inr (inr z)) ts rest h = h

    back : (y : TypeBody ℕ) (ts rest : List Lexeme) → d.type_body y ts rest → body_phrase (body_to y) ts rest
    back (type.Enumeration ns) ts rest h = h
    back (type.Structure fs) ts rest h = h
    back (type.Alias s) ts rest h = h

of_type_decl : FormOf w.type_decl (TypeDecl ℕ) d.type_decl
unfolding w.type_decl
of_type_decl = of_map _ d.type_decl (λ z. record { name = z.0; body = z.1.1 }) (λ t. (t.name, (tt, t.body))) (λ t ts rest h. refl) (λ z ts rest h. h) (λ t ts rest h. h)
    (of_both _ _ of_name (of_both _ _ (of_sign x.Colon) of_type_body))

-- ---- interfaces and classes

of_prototype : FormOf w.prototype (Prototype ℕ) d.prototype
unfolding w.prototype
of_prototype =
    of_map _ d.prototype (λ z. record { line = z.0; name = z.1.1.0; result = z.1.1.1.0; sections = z.1.1.1.1.1.0 }) (λ m. (m.line, (tt, (m.name, (m.result, (tt, (m.sections, tt))))))) (λ m ts rest h. refl)
    (λ z ts rest h. h) (λ m ts rest h. h)
    (of_at _ (headed_both _ _ (headed_one x.Method))
    (of_both _ _ (of_sign x.Method) (of_both _ _ of_name (of_both _ _ of_result (of_both _ _ (of_optional x.Semicolon) (of_both _ _ of_sections (of_sign x.EndMethod)))))))

-- a list that is not empty behind a terminal, or nothing
abbrev listed : {X : Type 0} → Option (Unit {0} × List X) → List X
listed None = []
listed (Some z) = z.1

abbrev with_terminal : {X : Type 0} → List X → Option (Unit {0} × List X)
with_terminal [] = None
with_terminal (v ∷ vs) = Some (tt, v ∷ vs)

of_used_behind : (t : Terminal) (Q : List (Used ℕ) → Phrase) → ((ts rest : List Lexeme) → Q [] ts rest → ts ≡ rest) → ((ts rest : List Lexeme) → ts ≡ rest → Q [] ts rest)
    → ((u : Used ℕ) (us : List (Used ℕ)) (ts rest : List Lexeme) → Q (u ∷ us) ts rest → (sign t ⋆ d.used_names (u ∷ us)) ts rest)
    → ((u : Used ℕ) (us : List (Used ℕ)) (ts rest : List Lexeme) → (sign t ⋆ d.used_names (u ∷ us)) ts rest → Q (u ∷ us) ts rest) → FormOf (option (both (one t) w.names)) (List (Used ℕ)) Q
of_used_behind t Q none some_none back to = of_map (perhaps (λ z. sign t ⋆ d.used_names z.1)) Q listed with_terminal same to' back' (of_perhaps _ (of_both _ _ (of_sign t) of_used_names))
  where
    same : (us : List (Used ℕ)) (ts rest : List Lexeme) → Q us ts rest → listed (with_terminal us) ≡ us
    same [] ts rest h = refl
    same (u ∷ us) ts rest h = refl

    to' : (o : Option (Unit {0} × List (Used ℕ))) (ts rest : List Lexeme) → perhaps (λ z. sign t ⋆ d.used_names z.1) o ts rest → Q (listed o) ts rest
    to' None ts rest h = some_none ts rest h
    to' (Some (z, [])) ts rest h = absurd h.2
    to' (Some (z, u ∷ us)) ts rest h = to u us ts rest h

    back' : (us : List (Used ℕ)) (ts rest : List Lexeme) → Q us ts rest → perhaps (λ z. sign t ⋆ d.used_names z.1) (with_terminal us) ts rest
    back' [] ts rest h = none ts rest h
    back' (u ∷ us) ts rest h = back u us ts rest h

of_extended : FormOf w.extended (List (Used ℕ)) d.extended
unfolding w.extended
of_extended = of_used_behind x.Extends d.extended (λ ts rest h. h) (λ ts rest h. h) (λ u us ts rest h. h) (λ u us ts rest h. h)

of_implemented : FormOf w.implemented (List (Used ℕ)) d.implemented
unfolding w.implemented
of_implemented = of_used_behind x.Implements d.implemented (λ ts rest h. h) (λ ts rest h. h) (λ u us ts rest h. h) (λ u us ts rest h. h)

of_interface : FormOf w.interface (InterfaceDecl ℕ) d.interface
unfolding w.interface
of_interface =
    of_map _ d.interface (λ z. record { line = z.0; name = z.1.1.0; bases = z.1.1.1.0; methods = z.1.1.1.1.0 }) (λ i. (i.line, (tt, (i.name, (i.bases, (i.methods, tt)))))) (λ i ts rest h. refl)
    (λ z ts rest h. h) (λ i ts rest h. h)
    (of_at _ (headed_both _ _ (headed_one x.Interface)) (of_both _ _ (of_sign x.Interface) (of_both _ _ of_name (of_both _ _ of_extended (of_both _ _ (of_each _ of_prototype) (of_sign x.EndInterface))))))

of_method : FormOf w.method (Method ℕ) d.method
unfolding w.method
of_method =
    of_map _ d.method (λ z. record { line = z.0; modifiers = z.1.1.0; name = z.1.1.1.0; result = z.1.1.1.1.0; sections = z.1.1.1.1.1.1.0; body = z.1.1.1.1.1.1.1 })
    (λ m. (m.line, (tt, (m.modifiers, (m.name, (m.result, (tt, (m.sections, m.body)))))))) (λ m ts rest h. refl) (λ z ts rest h. h) (λ m ts rest h. h)
    (of_at _ (headed_both _ _ (headed_one x.Method))
    (of_both _ _ (of_sign x.Method) (of_both _ _ of_method_words (of_both _ _ of_name (of_both _ _ of_result (of_both _ _ (of_optional x.Semicolon) (of_both _ _ of_sections (of_body x.EndMethod tt (refl, tt) refl))))))))

abbrev member_from : Method ℕ ⊎ Section ℕ → Member ℕ
member_from (inl m) = member_is.Method m
member_from (inr s) = member_is.Section s

abbrev member_to : Member ℕ → Method ℕ ⊎ Section ℕ
member_to (member_is.Method m) = inl m
member_to (member_is.Section s) = inr s

of_member : FormOf w.member (Member ℕ) d.member
unfolding w.member
of_member = of_map (either_of d.method d.vars) d.member member_from member_to same to back (of_either _ _ of_method of_vars)
  where
    same : (y : Member ℕ) (ts rest : List Lexeme) → d.member y ts rest → member_from (member_to y) ≡ y
    same (member_is.Method m) ts rest h = refl
    same (member_is.Section s) ts rest h = refl

    to : (z : Method ℕ ⊎ Section ℕ) (ts rest : List Lexeme) → either_of d.method d.vars z ts rest → d.member (member_from z) ts rest
    to (inl m) ts rest h = h
    to (inr s) ts rest h = h

    back : (y : Member ℕ) (ts rest : List Lexeme) → d.member y ts rest → either_of d.method d.vars (member_to y) ts rest
    back (member_is.Method m) ts rest h = h
    back (member_is.Section s) ts rest h = h

of_members : FormOf w.members (List (Member ℕ)) (each d.member)
unfolding w.members
of_members = of_each _ of_member

pub to-extended : (us : List (Used ℕ)) (ts rest : List Lexeme) → (sign x.Extends ⋆ d.used_names us) ts rest → d.extended us ts rest
to-extended [] ts rest h = absurd h.2
to-extended (u ∷ us) ts rest h = h

pub to-implemented : (us : List (Used ℕ)) (ts rest : List Lexeme) → (sign x.Implements ⋆ d.used_names us) ts rest → d.implemented us ts rest
to-implemented [] ts rest h = absurd h.2
to-implemented (u ∷ us) ts rest h = h

pub to-base : same_phrase (perhaps (λ v. sign x.Extends ⋆ d.used v)) d.base
to-base None ts rest h = h
to-base (Some v) ts rest h = h

back-base : same_phrase d.base (perhaps (λ v. sign x.Extends ⋆ d.used v))
back-base None ts rest h = h
back-base (Some v) ts rest h = h

of_base : FormOf w.base (Option (Used ℕ)) d.base
unfolding w.base
of_base = of_option x.Extends d.used d.base to-base back-base of_used

abbrev Head : Type 0
Head = List Modifier × (Name × (Option (Used ℕ) × List (Used ℕ)))

abbrev head_phrase : Head → Phrase
head_phrase z = each (d.modifier_in d.is_class_word) z.0 ⋆ g.name z.1.0 ⋆ d.base z.1.1.0 ⋆ d.implemented z.1.1.1

of_head : FormOf w.head Head head_phrase
unfolding w.head
of_head = of_both _ _ of_class_words (of_both _ _ of_name (of_both _ _ of_base of_implemented))

abbrev head_to : ClassDecl ℕ → Head
head_to c = (c.modifiers, (c.name, (c.base, c.interfaces)))

abbrev class_with : ℕ → ClassSort → Head → List (Member ℕ) → List (Stmt ℕ) → ClassDecl ℕ
class_with line sort z ms body = record { line = line; sort = sort; modifiers = z.0; name = z.1.0; base = z.1.1.0; interfaces = z.1.1.1; members = ms; body = body }

abbrev IsClass : ClassDecl ℕ → Phrase
IsClass c = λ ts rest. (c.sort ≡ class_sort.Class) × d.class c ts rest

abbrev IsBlock : ClassDecl ℕ → Phrase
IsBlock c = λ ts rest. (c.sort ≡ class_sort.FunctionBlock) × d.class c ts rest

of_class : FormOf w.class (ClassDecl ℕ) IsClass
unfolding w.class
of_class =
    of_map _ IsClass (λ z. class_with z.0 class_sort.Class z.1.1.0 z.1.1.1.0 []) (λ c. (c.line, (tt, (head_to c, (c.members, tt))))) same (λ z ts rest h. (refl, (h.0, (refl, h.1))))
    (λ c ts rest h. (h.1.0, (plain c ts rest h.0 h.1.1).1))
    (of_at _ (headed_both _ _ (headed_one x.Class)) (of_both _ _ (of_sign x.Class) (of_both _ _ of_head (of_both _ _ of_members (of_sign x.EndClass)))))
  where
    plain : (c : ClassDecl ℕ) (ts rest : List Lexeme) → c.sort ≡ class_sort.Class → d.class_of c.sort c ts rest → d.class_of class_sort.Class c ts rest
    plain c ts rest e h = subst (λ k. d.class_of k c ts rest) e h

    same : (c : ClassDecl ℕ) (ts rest : List Lexeme) → IsClass c ts rest → class_with c.line class_sort.Class (head_to c) c.members [] ≡ c
    same c ts rest h =
        ap (λ k. class_with c.line k (head_to c) c.members []) (sym h.0) ∙ ap (λ b. class_with c.line c.sort (head_to c) c.members b) (sym (plain c ts rest h.0 h.1.1).0)

of_block : FormOf w.block (ClassDecl ℕ) IsBlock
unfolding w.block
of_block =
    of_map _ IsBlock (λ z. class_with z.0 class_sort.FunctionBlock z.1.1.0 z.1.1.1.0 z.1.1.1.1) (λ c. (c.line, (tt, (head_to c, (c.members, c.body))))) same (λ z ts rest h. (refl, h))
    (λ c ts rest h. (h.1.0, subst (λ k. d.class_of k c ts rest) h.0 h.1.1))
    (of_at _ (headed_both _ _ (headed_one x.FunctionBlock)) (of_both _ _ (of_sign x.FunctionBlock) (of_both _ _ of_head (of_both _ _ of_members (of_body x.EndFunctionBlock tt (refl, tt) refl)))))
  where
    same : (c : ClassDecl ℕ) (ts rest : List Lexeme) → IsBlock c ts rest → class_with c.line class_sort.FunctionBlock (head_to c) c.members c.body ≡ c
    same c ts rest h = ap (λ k. class_with c.line k (head_to c) c.members c.body) (sym h.0)

-- ---- functions, programs, configurations

of_function : FormOf w.function (FunctionDecl ℕ) d.function
unfolding w.function
of_function =
    of_map _ d.function (λ z. record { line = z.0; name = z.1.1.0; result = z.1.1.1.0; sections = z.1.1.1.1.1.0; body = z.1.1.1.1.1.1 }) (λ f. (f.line, (tt, (f.name, (f.result, (tt, (f.sections, f.body)))))))
    (λ f ts rest h. refl) (λ z ts rest h. h) (λ f ts rest h. h)
    (of_at _ (headed_both _ _ (headed_one x.Function))
    (of_both _ _ (of_sign x.Function) (of_both _ _ of_name (of_both _ _ of_result (of_both _ _ (of_optional x.Semicolon) (of_both _ _ of_sections (of_body x.EndFunction tt (refl, tt) refl)))))))

of_program : FormOf w.program (ProgramDecl ℕ) d.program
unfolding w.program
of_program =
    of_map _ d.program (λ z. record { line = z.0; name = z.1.1.0; sections = z.1.1.1.0; body = z.1.1.1.1 }) (λ p. (p.line, (tt, (p.name, (p.sections, p.body))))) (λ p ts rest h. refl) (λ z ts rest h. h)
    (λ p ts rest h. h)
    (of_at _ (headed_both _ _ (headed_one x.Program)) (of_both _ _ (of_sign x.Program) (of_both _ _ of_name (of_both _ _ of_sections (of_body x.EndProgram tt (refl, tt) refl)))))

abbrev setting_from : List ℕ ⊎ List ℕ → SettingValue
setting_from (inl n) = setting_is.Int n
setting_from (inr n) = setting_is.Time n

abbrev setting_to : SettingValue → List ℕ ⊎ List ℕ
setting_to (setting_is.Int n) = inl n
setting_to (setting_is.Time n) = inr n

of_setting_value : FormOf w.setting_value SettingValue d.setting_value
unfolding w.setting_value
of_setting_value = of_map (either_of (λ n. spelled x.Int n) (λ n. spelled x.Duration n)) d.setting_value setting_from setting_to same to back (of_either _ _ (of_text x.Int) (of_text x.Duration))
  where
    same : (y : SettingValue) (ts rest : List Lexeme) → d.setting_value y ts rest → setting_from (setting_to y) ≡ y
    same (setting_is.Int n) ts rest h = refl
    same (setting_is.Time n) ts rest h = refl

    to : (z : List ℕ ⊎ List ℕ) (ts rest : List Lexeme) → either_of (λ n. spelled x.Int n) (λ n. spelled x.Duration n) z ts rest → d.setting_value (setting_from z) ts rest
    to (inl n) ts rest h = h
    to (inr n) ts rest h = h

    back : (y : SettingValue) (ts rest : List Lexeme) → d.setting_value y ts rest → either_of (λ n. spelled x.Int n) (λ n. spelled x.Duration n) (setting_to y) ts rest
    back (setting_is.Int n) ts rest h = h
    back (setting_is.Time n) ts rest h = h

setting_value_headed : Headed w.setting_value
unfolding w.setting_value
setting_value_headed = headed_either _ _ (headed_one x.Int) (headed_one x.Duration)

of_setting : FormOf w.setting Setting d.setting
unfolding w.setting
of_setting =
    of_map _ d.setting (λ z. record { name = z.0; line = z.1.1.0; value = z.1.1.1 }) (λ s. (s.name, (tt, (s.line, s.value)))) (λ s ts rest h. refl) (λ z ts rest h. h) (λ s ts rest h. h)
    (of_both _ _ of_name (of_both _ _ (of_sign x.Assign) (of_at _ setting_value_headed of_setting_value)))

pub to-more_settings : same_phrase (more d.setting) d.more_settings
to-more_settings [] ts rest h = h
to-more_settings (n ∷ ns) ts rest (m, c, (m', h, others)) = (m, c, (m', h, to-more_settings ns m' rest others))

pub to-some_settings : (ss : List Setting) (ts rest : List Lexeme) → first_of d.setting ss ts rest → d.task_settings ss ts rest
to-some_settings [] ts rest h = absurd h
to-some_settings (s ∷ ss) ts rest h = (h.0, h.1, to-more_settings ss h.0 rest h.2)

back-more_settings : same_phrase d.more_settings (more d.setting)
back-more_settings [] ts rest h = h
back-more_settings (n ∷ ns) ts rest (m, c, (m', h, others)) = (m, c, (m', h, back-more_settings ns m' rest others))

abbrev all_or_none : {X : Type 0} → Option (List X) → List X
all_or_none None = []
all_or_none (Some vs) = vs

abbrev some_or_none : {X : Type 0} → List X → Option (List X)
some_or_none [] = None
some_or_none (v ∷ vs) = Some (v ∷ vs)

of_settings : FormOf w.settings (List Setting) d.task_settings
unfolding w.settings
of_settings = of_map (perhaps (first_of d.setting)) d.task_settings all_or_none some_or_none same to back (of_perhaps _ (of_list d.setting of_setting))
  where
    same : (y : List Setting) (ts rest : List Lexeme) → d.task_settings y ts rest → all_or_none (some_or_none y) ≡ y
    same [] ts rest h = refl
    same (v ∷ vs) ts rest h = refl

    to : (o : Option (List Setting)) (ts rest : List Lexeme) → perhaps (first_of d.setting) o ts rest → d.task_settings (all_or_none o) ts rest
    to None ts rest h = h
    to (Some []) ts rest h = absurd h
    to (Some (v ∷ vs)) ts rest (m, h, others) = (m, h, to-more_settings vs m rest others)

    back : (y : List Setting) (ts rest : List Lexeme) → d.task_settings y ts rest → perhaps (first_of d.setting) (some_or_none y) ts rest
    back [] ts rest h = h
    back (v ∷ vs) ts rest (m, h, others) = (m, h, back-more_settings vs m rest others)

of_task : FormOf w.task TaskSpec d.task
unfolding w.task
of_task =
    of_map _ d.task (λ z. record { line = z.0; name = z.1.1.0; settings = z.1.1.1.1.0 }) (λ t. (t.line, (tt, (t.name, (tt, (t.settings, (tt, tt))))))) (λ t ts rest h. refl) (λ z ts rest h. h) (λ t ts rest h. h)
    (of_at _ (headed_both _ _ (headed_one x.Task))
    (of_both _ _ (of_sign x.Task) (of_both _ _ of_name (of_both _ _ (of_sign x.Open) (of_both _ _ of_settings (of_both _ _ (of_sign x.Close) (of_sign x.Semicolon)))))))

of_instance : FormOf w.instance InstanceSpec d.instance
unfolding w.instance
of_instance =
    of_map _ d.instance (λ z. record { line = z.0; name = z.1.1.0; task = z.1.1.1.1.0; program = z.1.1.1.1.1.1.0 }) (λ i. (i.line, (tt, (i.name, (tt, (i.task, (tt, (i.program, tt)))))))) (λ i ts rest h. refl)
    (λ z ts rest h. h) (λ i ts rest h. h)
    (of_at _ (headed_both _ _ (headed_one x.Program))
    (of_both _ _ (of_sign x.Program) (of_both _ _ of_name (of_both _ _ (of_sign x.With) (of_both _ _ of_name (of_both _ _ (of_sign x.Colon) (of_both _ _ of_name (of_sign x.Semicolon))))))))

abbrev Tasks : Type 0
Tasks = List TaskSpec × List InstanceSpec

abbrev tasks_phrase : Tasks → Phrase
tasks_phrase z = each d.task z.0 ⋆ each d.instance z.1

of_tasks : FormOf w.tasks Tasks tasks_phrase
unfolding w.tasks
of_tasks = of_both _ _ (of_each _ of_task) (of_each _ of_instance)

abbrev Inner : Type 0
Inner = (Unit {0} × (Name × (Unit {0} × (Name × (List (Section ℕ) × (Tasks × Unit {0})))))) ⊎ Tasks

abbrev inner_phrase : Inner → Phrase
inner_phrase = either_of (λ z. sign x.Resource ⋆ g.name z.1.0 ⋆ sign x.On ⋆ g.name z.1.1.1.0 ⋆ each d.globals z.1.1.1.1.0 ⋆ tasks_phrase z.1.1.1.1.1.0 ⋆ sign x.EndResource) tasks_phrase

of_inner : FormOf w.inner Inner inner_phrase
unfolding w.inner w.resource
of_inner =
    of_either _ _
    (of_both _ _ (of_sign x.Resource) (of_both _ _ of_name (of_both _ _ (of_sign x.On) (of_both _ _ of_name (of_both _ _ of_global_sections (of_both _ _ of_tasks (of_sign x.EndResource))))))) of_tasks

abbrev configured : ℕ → Name → List (Section ℕ) → Inner → Configuration ℕ
configured line n gs (inl z) = record {
  line = line;
  name = n;
  globals = gs;
  resource = Some (record { name = z.1.0; processor = z.1.1.1.0; globals = z.1.1.1.1.0 });
  tasks = z.1.1.1.1.1.0.0;
  instances = z.1.1.1.1.1.0.1;
}
configured line n gs (inr z) = record { line = line; name = n; globals = gs; resource = None; tasks = z.0; instances = z.1 }

abbrev inner_by : Option (Resource ℕ) → Tasks → Inner
inner_by None z = inr z
inner_by (Some r) z = inl (tt, (r.name, (tt, (r.processor, (r.globals, (z, tt))))))

of_configuration : FormOf w.configuration (Configuration ℕ) d.configuration
unfolding w.configuration
of_configuration =
    of_map _ d.configuration (λ z. configured z.0 z.1.1.0 z.1.1.1.0 z.1.1.1.1.0) (λ c. (c.line, (tt, (c.name, (c.globals, (inner_by c.resource (c.tasks, c.instances), tt)))))) same
    (λ z ts rest h. to z.0 z.1.1.0 z.1.1.1.0 z.1.1.1.1.0 ts rest h) (λ c ts rest h. back c c.resource ts rest h)
    (of_at _ (headed_both _ _ (headed_one x.Configuration))
    (of_both _ _ (of_sign x.Configuration) (of_both _ _ of_name (of_both _ _ of_global_sections (of_both _ _ of_inner (of_sign x.EndConfiguration))))))
  where
    plain : ℕ → Name → List (Section ℕ) → Inner → Phrase
    plain line n gs z = at line (sign x.Configuration ⋆ g.name n ⋆ each d.globals gs ⋆ inner_phrase z ⋆ sign x.EndConfiguration)

    to : (line : ℕ) (n : Name) (gs : List (Section ℕ)) (z : Inner) (ts rest : List Lexeme)
        → at line (sign x.Configuration ⋆ g.name n ⋆ each d.globals gs ⋆ inner_phrase z ⋆ sign x.EndConfiguration) ts rest → d.configuration (configured line n gs z) ts rest
    to line n gs (inl z) ts rest h = h
    to line n gs (inr z) ts rest h = h

    back : (c : Configuration ℕ) (o : Option (Resource ℕ)) (ts rest : List Lexeme)
        → at c.line (sign x.Configuration ⋆ g.name c.name ⋆ each d.globals c.globals ⋆ d.resource o (d.tasks c) ⋆ sign x.EndConfiguration) ts rest
        → at c.line (sign x.Configuration ⋆ g.name c.name ⋆ each d.globals c.globals ⋆ inner_phrase (inner_by o (c.tasks, c.instances)) ⋆ sign x.EndConfiguration) ts rest
    back c None ts rest h = h
    back c (Some r) ts rest h = h

    by : (c : Configuration ℕ) (o : Option (Resource ℕ)) → c.resource ≡ o → configured c.line c.name c.globals (inner_by o (c.tasks, c.instances)) ≡ c
    by c None e = ap (λ r. record { line = c.line; name = c.name; globals = c.globals; resource = r; tasks = c.tasks; instances = c.instances }) (sym e)
    by c (Some r) e = ap (λ r. record { line = c.line; name = c.name; globals = c.globals; resource = r; tasks = c.tasks; instances = c.instances }) (sym e)

    same : (c : Configuration ℕ) (ts rest : List Lexeme) → d.configuration c ts rest → configured c.line c.name c.globals (inner_by c.resource (c.tasks, c.instances)) ≡ c
    same c ts rest h = by c c.resource refl

-- ---- the whole

of_types : FormOf w.types (ℕ × List (TypeDecl ℕ)) (λ z. at z.0 (sign x.Type ⋆ each d.type_decl z.1 ⋆ sign x.EndType))
unfolding w.types
of_types =
    of_map _ _ (λ z. (z.0, z.1.1.0)) (λ z. (z.0, (tt, (z.1, tt)))) (λ z ts rest h. refl) (λ z ts rest h. h) (λ z ts rest h. h)
    (of_at _ (headed_both _ _ (headed_one x.Type)) (of_both _ _ (of_sign x.Type) (of_both _ _ (of_each _ of_type_decl) (of_sign x.EndType))))

abbrev One : Type 0
One = (ℕ × List (TypeDecl ℕ)) ⊎ (Section ℕ ⊎ (InterfaceDecl ℕ ⊎ (ClassDecl ℕ ⊎ (ClassDecl ℕ ⊎ (FunctionDecl ℕ ⊎ (ProgramDecl ℕ ⊎ Configuration ℕ))))))

abbrev one_phrase : One → Phrase
one_phrase =
    either_of (λ z. at z.0 (sign x.Type ⋆ each d.type_decl z.1 ⋆ sign x.EndType))
    (either_of d.globals (either_of d.interface (either_of IsClass (either_of IsBlock (either_of d.function (either_of d.program d.configuration))))))

abbrev decl_from : One → Decl ℕ
decl_from (inl z) = decls.Types z.0 z.1
decl_from (inr (inl s)) = decls.Globals s
decl_from (inr (inr (inl i))) = decls.Interface i
decl_from (inr (inr (inr (inl c)))) = decls.Class c
decl_from (inr (inr (inr (inr (inl c))))) = decls.Class c
decl_from (inr (inr (inr (inr (inr (inl f)))))) = decls.Function f
decl_from (inr (inr (inr (inr (inr (inr (inl p))))))) = decls.Program p
decl_from (inr (inr (inr (inr (inr (inr (inr c))))))) = decls.Configuration c

abbrev class_to : ClassSort → ClassDecl ℕ → One
class_to class_sort.Class c = inr (inr (inr (inl c)))
class_to class_sort.FunctionBlock c = inr (inr (inr (inr (inl c))))

abbrev decl_to : Decl ℕ → One
decl_to (decls.Types line ds) = inl (line, ds)
decl_to (decls.Globals s) = inr (inl s)
decl_to (decls.Interface i) = inr (inr (inl i))
decl_to (decls.Class c) = class_to c.sort c
decl_to (decls.Function f) = inr (inr (inr (inr (inr (inl f)))))
decl_to (decls.Program p) = inr (inr (inr (inr (inr (inr (inl p))))))
decl_to (decls.Configuration c) = inr (inr (inr (inr (inr (inr (inr c))))))

of_declaration : FormOf w.declaration (Decl ℕ) d.declaration
unfolding w.declaration
of_declaration = of_map one_phrase d.declaration decl_from decl_to same to back
    (of_either _ _ of_types (of_either _ _ of_globals (of_either _ _ of_interface (of_either _ _ of_class (of_either _ _ of_block (of_either _ _ of_function (of_either _ _ of_program of_configuration)))))))
  where
    same_class : (k : ClassSort) (c : ClassDecl ℕ) → decl_from (class_to k c) ≡ decls.Class c
    same_class class_sort.Class c = refl
    same_class class_sort.FunctionBlock c = refl

    same : (y : Decl ℕ) (ts rest : List Lexeme) → d.declaration y ts rest → decl_from (decl_to y) ≡ y
    same (decls.Types line ds) ts rest h = refl
    same (decls.Globals s) ts rest h = refl
    same (decls.Interface i) ts rest h = refl
    same (decls.Class c) ts rest h = same_class c.sort c
    same (decls.Function f) ts rest h = refl
    same (decls.Program p) ts rest h = refl
    same (decls.Configuration c) ts rest h = refl

    to : (z : One) (ts rest : List Lexeme) → one_phrase z ts rest → d.declaration (decl_from z) ts rest
    to (inl z) ts rest h = h
    to (inr (inl s)) ts rest h = h
    to (inr (inr (inl i))) ts rest h = h
    to (inr (inr (inr (inl c)))) ts rest h = h.1
    to (inr (inr (inr (inr (inl c))))) ts rest h = h.1
    to (inr (inr (inr (inr (inr (inl f)))))) ts rest h = h
    to (inr (inr (inr (inr (inr (inr (inl p))))))) ts rest h = h
    to (inr (inr (inr (inr (inr (inr (inr c))))))) ts rest h = h

    back_class : (k : ClassSort) (c : ClassDecl ℕ) (ts rest : List Lexeme) → c.sort ≡ k → d.class c ts rest → one_phrase (class_to k c) ts rest
    back_class class_sort.Class c ts rest e h = (e, h)
    back_class class_sort.FunctionBlock c ts rest e h = (e, h)

    back : (y : Decl ℕ) (ts rest : List Lexeme) → d.declaration y ts rest → one_phrase (decl_to y) ts rest
    back (decls.Types line ds) ts rest h = h
    back (decls.Globals s) ts rest h = h
    back (decls.Interface i) ts rest h = h
    back (decls.Class c) ts rest h = back_class c.sort c ts rest refl h
    back (decls.Function f) ts rest h = h
    back (decls.Program p) ts rest h = h
    back (decls.Configuration c) ts rest h = h

pub of_unit : FormOf w.unit (List (Decl ℕ)) (each d.declaration)
unfolding w.unit
of_unit = of_each _ of_declaration
