-- A body that breaks no rule is as it is promised.
use Rattle.std.proofs.Common.{◌≡◌, ℕ, Bool, true, false, List, [], Option, Some, None, refl, sym, ap, ◌∙◌, subst}
use Rattle.std.specs.Prelude.{◌||◌, not, option_map}
use Rattle.plc_text.specs.declared.code.Code.TheVariants.{E05, E07}
use Rattle.st_types.specs.declared.elem.Elem.{Elem}
use Rattle.st_types.specs.declared.elem.Elem.TheVariants as elem
use Rattle.st_types.specs.declared.st_type.StType.{StType}
use Rattle.st_types.specs.declared.st_type.StType.TheVariants as type
use Rattle.st_types.specs.Widening.{Reaches}
use Rattle.st_types.specs.Elem.{is_integer}
use Rattle.st_tree.specs.declared.expression.Root.{Root}
use Rattle.st_tree.specs.Expression.{Expression, Selectors, Arguments}
use Rattle.st_tree.specs.Statement.{Statement, Empty, Assign, Attempt, Call, Exit, Continue, Return, If, Case, For, While, Repeat, Statements, no_statements, statement_then, Branches, no_branches, branch_then, Cases, no_cases, case_then, Otherwise, Nothing, Else}
use Rattle.st_rules.proofs.Booleans.{neither, both}
use Rattle.st_rules.proofs.KindLaws.{reaches_decides}
use Rattle.st_rules.specs.declared.asked.Asked.{Asked}
use Rattle.st_rules.specs.declared.asked.Asked.TheVariants.{Anything, Wanted}
use Rattle.st_rules.specs.declared.names.DeclaredVariable.{DeclaredVariable}
use Rattle.st_rules.specs.Kinds.{reaches, is_elementary, is_number, is_reference, is_instance, is_enumeration, boolean}
use Rattle.st_rules.specs.Literals.{asked_of}
use Rattle.st_rules.specs.Scope.{Scope, Meant, a_variable, a_function, an_enumerator, sought}
use Rattle.st_rules.specs.Scope as scope
use Rattle.st_rules.specs.Places.{root_line, root_standing, root_faults, whole_faults, place_type, target_faults, name_faults, name_not_found, name_out_of_access, is_no_variable_name, too_many_selectors}
use Rattle.st_rules.specs.Calls.{value_unsuited, callee, callee_faults, call_matches, heads, is_on_super}
use Rattle.st_rules.specs.Expressions.{typed, line_of, type_of, faults, along_faults, called_root_faults, argument_faults, too_many_operators, expression_faults, meant_target}
use Rattle.st_rules.specs.Statements.{selector_limits, argument_limits, place_faults, is_null, attempt_at_no_reference, attempt_of_no_instance, attempt_faults, call_faults, selector_unsuited, case_selector_faults, label_asked, labels_faults, is_integer_variable, control_of_no_integer, control_at_an_input, control_type, control_faults, control_asked, step_faults, for_faults, condition_faults, statement_faults, statements_faults, branches_faults, cases_faults, otherwise_faults, typed_statement, typed_statements, typed_branches, typed_cases, typed_otherwise}
use Rattle.st_values.specs.Program.{Program}
use Rattle.st_meaning.specs.Operation.{elem_of}
use Rattle.st_meaning.specs.st_frame.Promise.Types.{IsElementary, IsNumeric, IsHeld, IsNamed, IsPath, Widens, same_type, wider_number, wider_path}
use Rattle.st_meaning.specs.st_frame.Promise.Names.{Scope as Around, NameIs}
use Rattle.st_meaning.specs.st_frame.Promise.Calls.{kind}
use Rattle.st_meaning.specs.st_frame.Promise.Expressions.{ExpressionIs}
use Rattle.st_meaning.specs.st_frame.Promise.Statements.{ConditionIs, StepIs, StatementIs, StatementsAre, BranchesAre, CasesAre, OtherwiseIs}
use Rattle.accepted_texts.specs.formed_units.Formed.{IfThere, Formed, FormedAlong, FormedArguments, FormedStatement, FormedBody, FormedBranches, FormedCases, FormedOtherwise}
use Rattle.place_laws.specs.Agrees.{Agrees, MeantIs, EntryIs, OneOf, ConstantIs, HasPlace}
use Rattle.place_laws.proofs.Words.{none_in, not_when, not_not, passes, three, four, five, seven}
use Rattle.place_laws.proofs.Literals.{AsksForTold}
use Rattle.place_laws.proofs.Places.{told_as}
use Rattle.place_laws.proofs.Heart
use Rattle.place_laws.proofs.Whole
use Rattle.place_laws.proofs.Params
use Rattle.call_laws.proofs.Callees
use Rattle.call_laws.proofs.Expressions as Expr
use Rattle.statement_laws.proofs.Assigned

-- ---- types

reaches_bool : (e : Elem) → Reaches e elem.Bool → e ≡ elem.Bool
reaches_bool e r = by e ((reaches_decides e elem.Bool).1 r)
  where
    by : (k : Elem) → reaches k elem.Bool ≡ true → k ≡ elem.Bool
    by elem.Bool h = refl
    by _ h = cc

-- what widens to BOOL is BOOL
bool_only : (p : Program) (t u : StType) → Widens p t u → u ≡ boolean → t ≡ boolean
bool_only p t u same_type e = e
bool_only p t u (wider_number {a} {b} r) e = ap type.Elementary (reaches_bool a (subst (Reaches a) (ap elem_of e) r))
bool_only p t u (wider_path i k n) e = absurd (subst IsHeld e k)

held : (l : ℕ) (t : StType) → attempt_at_no_reference l (Some t) ≡ [] → IsHeld t
held l t f = by t (passes (is_reference t) E07 l f)
  where
    by : (u : StType) → is_reference u ≡ true → IsHeld u
    by (type.Reference c) h = tt
    by (type.Interface i) h = tt
    by _ h = cc

path : (l : ℕ) (null : Bool) (t : StType) → attempt_of_no_instance l null (Some t) ≡ [] → IsPath t
path l null t f = by t (not_not (is_reference t || is_instance t) (neither null (not (is_reference t || is_instance t)) (not_when (null || not (is_reference t || is_instance t)) E07 l f)).1)
  where
    by : (u : StType) → (is_reference u || is_instance u) ≡ true → IsPath u
    by (type.Reference c) h = tt
    by (type.Interface i) h = tt
    by (type.Instance c) h = tt
    by _ h = cc

numeric : (l : ℕ) (t : StType) → selector_unsuited l (Some t) ≡ [] → IsNumeric t
numeric l t f = by t (passes (is_elementary is_number t || is_enumeration t) E07 l f)
  where
    by : (u : StType) → (is_elementary is_number u || is_enumeration u) ≡ true → IsNumeric u
    by (type.Elementary e) h = tt
    by (type.Enumeration n) h = tt
    by _ h = cc

module _ (s : Scope) (p : Program) (g : Around) (a : Agrees s p g) where
  asked_type : (t : StType) (o : Option StType) → o ≡ Some t → asked_of o ≡ Wanted t
  unfolding asked_of
  asked_type t o e = ap asked_of e

  -- ---- values

  -- one that is given where a type is asked for
  given : (asked : Asked) (u : StType) (e : Expression ℕ) → Formed e → asked ≡ Wanted u → expression_faults s asked e ≡ [] → ExpressionIs p g (typed s asked e) × Widens p (kind (typed s asked e)) u
  given asked u e i q f =
      let es = three (faults s asked e) (value_unsuited s (line_of e) asked (type_of s asked e)) (too_many_operators e) f in
      let x = Expr.expression s p g a asked e i (subst AsksForTold (sym q) tt) es.0 in
      let k = Heart.noted_kind s p g a asked e x.kind x.told in
      (x.is, subst (λ t. Widens p t u) (sym k) (Params.given_value s p g a (line_of e) asked u x.kind (type_of s asked e) q x.told es.1))

  -- and one where nothing is
  any : (e : Expression ℕ) → Formed e → expression_faults s Anything e ≡ [] → Heart.Right s p g a Anything e
  any e i f = Expr.expression s p g a Anything e i tt (three (faults s Anything e) (value_unsuited s (line_of e) Anything (type_of s Anything e)) (too_many_operators e) f).0

  condition : (e : Expression ℕ) → Formed e → condition_faults s e ≡ [] → ConditionIs p g (typed s (Wanted boolean) e)
  condition e i f = let x = given (Wanted boolean) boolean e i refl f in (x.0, bool_only p (kind (typed s (Wanted boolean) e)) boolean x.1 refl)

  -- ---- `?=`

  attempted : (l k : ℕ) (r : Root ℕ) (ss : Selectors ℕ) (e : Expression ℕ) → FormedAlong ss → Formed e → attempt_faults s r ss e ≡ [] → StatementIs p g (typed_statement s (Attempt l k r ss e))
  attempted l k r ss e i j f =
      let fs = five (place_faults s r ss) (target_faults s r ss) (attempt_at_no_reference (root_line r) (place_type s r ss)) (expression_faults s Anything e) (attempt_of_no_instance (line_of e) (is_null e) (type_of s Anything e)) f in
      let ps = four (root_faults s false r ss) (along_faults s (root_line r) false (root_standing s r ss) ss) (whole_faults s r ss) (selector_limits ss) fs.0 in
      let o = Expr.place_whole s p g a r ss i ps.0 ps.1 ps.2 in
      let w = Whole.its_place s p g a r ss (Expr.not_fixed s p g a l r ss fs.1) o in
      let n = told_as (place_type s r ss) o.kind o.told in
      let h = held (root_line r) o.kind (sym (ap (attempt_at_no_reference (root_line r)) o.told) ∙ fs.2) in
      let x = any e j fs.3 in
      let z = Heart.noted_kind s p g a Anything e x.kind x.told in (
        (w.root, w.along, w.last ∙ sym n),
        subst IsHeld (sym n) h,
        x.is,
        subst IsPath (sym z) (path (line_of e) (is_null e) x.kind (sym (ap (attempt_of_no_instance (line_of e) (is_null e)) x.told) ∙ fs.4)),
        subst (IsNamed p) (sym n) (a.named r ss o.kind o.told h),
      )

  -- ---- calls

  passing : (k : ℕ) (r : Root ℕ) (ss : Selectors ℕ) (xs : Arguments ℕ) → call_faults s k r ss xs ≡ [] → Callees.Passes s p g a k r ss (heads xs) × (argument_faults s (call_matches s (callee s r ss) (heads xs)) xs ≡ [])
  passing k r ss xs f =
      let fs = seven (called_root_faults s r ss) (along_faults s (root_line r) true (root_standing s r ss) ss) (too_many_selectors s (root_line r) ss) (selector_limits ss) (callee_faults s k (is_on_super r ss) (callee s r ss) (heads xs)) (argument_faults s (call_matches s (callee s r ss) (heads xs)) xs) (argument_limits xs) f in
      (record { root = fs.0; along = fs.1; callee = fs.4 }, fs.5)

  called : (l k : ℕ) (r : Root ℕ) (ss : Selectors ℕ) (xs : Arguments ℕ) → FormedAlong ss → FormedArguments xs → call_faults s k r ss xs ≡ [] → StatementIs p g (typed_statement s (Call l k r ss xs))
  called l k r ss xs i j f =
      let fs = passing k r ss xs f in
      let w = Expr.any_callee s p g a k r ss (heads xs) (Expr.formed_indices s p g a ss i) (Expr.leads_on s p g a r ss i) fs.0 in
      Expr.call_effect s p g a k r ss xs j (Expr.good_of s p g a xs j) w fs.0 fs.1

  -- ---- FOR

  -- an integer variable
  pub record Controls (m : Option Meant) : Type 0 where
    pub its : StType
    pub told : control_type m ≡ Some its
    pub is : NameIs p g (meant_target m) its
    pub elementary : IsElementary its

  integer : (t : StType) → is_elementary is_integer t ≡ true → IsElementary t
  integer (type.Elementary e) h = (e, refl)
  integer _ h = cc

  controlled : (c : Option ℕ) (v : DeclaredVariable) → EntryIs p g v → is_integer_variable (Some (a_variable c v)) ≡ true → Controls (Some (a_variable c v))
  controlled c v e h =
      let i = subst (λ o. is_integer_variable (Some (a_variable c (record v { kind = o }))) ≡ true) e.told h in
      let q = both (not v.constant) (is_elementary is_integer e.kind) i in
      record { its = e.kind; told = e.told; is = by v.constant q.0 e.means; elementary = integer e.kind q.1 }
    where
      by : (b : Bool) → not b ≡ true → OneOf b (ConstantIs p v.target e.kind) (NameIs p g v.target e.kind × HasPlace v.target) → NameIs p g v.target e.kind
      by true k m = cc
      by false k m = m.0

  control_by : (l : ℕ) (name : List ℕ) (m : Option Meant) → MeantIs s p g name m → is_no_variable_name s m ≡ false → control_of_no_integer l m ≡ [] → Controls m
  control_by l name (Some (a_variable c v)) w h f = controlled c v w (passes (is_integer_variable (Some (a_variable c v))) E07 l f)
  control_by l name (Some (an_enumerator n k)) w h f = cc
  control_by l name (Some (scope.a_method id)) w h f = cc
  control_by l name (Some (a_function k r)) w h f = cc
  control_by l name None w h f = cc

  control : (l : ℕ) (name : List ℕ) → control_faults s l name ≡ [] → Controls (sought s false name)
  control l name f =
      let m = sought s false name in
      let fs = three (name_faults s l false m) (control_of_no_integer l m) (control_at_an_input l m) f in
      let q = none_in (name_not_found s l false m) (name_out_of_access s l m) fs.0 in
      control_by l name m (a.name l false name q.1) (not_when (is_no_variable_name s m) E05 l q.0) fs.1

  stepped : (asked : Asked) (t : StType) (by : Option (Expression ℕ)) → IfThere Formed by → asked ≡ Wanted t → step_faults s asked by ≡ [] → StepIs p g (option_map (typed s asked) by) t
  stepped asked t None i q f = tt
  stepped asked t (Some e) i q f = given asked t e i q f

  -- ---- statements

  mutual
    pub statement : (in_loop : Bool) (x : Statement ℕ) → FormedStatement x → statement_faults s in_loop x ≡ [] → StatementIs p g (typed_statement s x)
    statement b (Empty l) i f = tt
    statement b (Assign l k r ss e) i f = Assigned.assign_right s p g a l k r ss e i.1.0 i.1.1 f
    statement b (Attempt l k r ss e) i f = attempted l k r ss e i.1.0 i.1.1 f
    statement b (Call l k r ss xs) i f = called l k r ss xs i.1.0 i.1.1 f
    statement b (Exit l) i f = tt
    statement b (Continue l) i f = tt
    statement b (Return l) i f = tt
    statement b (If l bs o) i f =
        let fs = none_in (branches_faults s b bs) (otherwise_faults s b o) f in
        (branches b bs i.0 fs.0, otherwise b o i.1 fs.1)
    statement b (Case l e cs o) i f =
        let fs = three (case_selector_faults s e) (cases_faults s b (label_asked s e) cs) (otherwise_faults s b o) f in
        let q = none_in (expression_faults s Anything e) (selector_unsuited (line_of e) (type_of s Anything e)) fs.0 in
        let x = any e i.0 q.0 in
        let z = Heart.noted_kind s p g a Anything e x.kind x.told in
        (x.is, subst IsNumeric (sym z) (numeric (line_of e) x.kind (sym (ap (selector_unsuited (line_of e)) x.told) ∙ q.1)), cases b (label_asked s e) cs i.1.0 fs.1, otherwise b o i.1.1 fs.2)
    statement b (For l k name from to by ss) i f =
        let fs = none_in (for_faults s k name from to by) (statements_faults s true ss) f in
        let q = four (control_faults s k name) (expression_faults s (control_asked s name) from) (expression_faults s (control_asked s name) to) (step_faults s (control_asked s name) by) fs.0 in
        let c = control k name q.0 in
        let n = told_as (control_type (sought s false name)) c.its c.told in
        let w = asked_type c.its (control_type (sought s false name)) c.told in
        let x = given (control_asked s name) c.its from i.1.0 w q.1 in
        let y = given (control_asked s name) c.its to i.1.1.0 w q.2 in
        let z = stepped (control_asked s name) c.its by i.1.1.1.0 w q.3 in (
          subst (NameIs p g (meant_target (sought s false name))) (sym n) c.is,
          subst IsElementary (sym n) c.elementary,
          x.0,
          subst (Widens p (kind (typed s (control_asked s name) from))) (sym n) x.1,
          y.0,
          subst (Widens p (kind (typed s (control_asked s name) to))) (sym n) y.1,
          subst (StepIs p g (option_map (typed s (control_asked s name)) by)) (sym n) z,
          statements true ss i.1.1.1.1 fs.1,
        )
    statement b (While l e ss) i f =
        let fs = none_in (condition_faults s e) (statements_faults s true ss) f in
        (condition e i.0 fs.0, statements true ss i.1 fs.1)
    statement b (Repeat l ss e) i f =
        let fs = none_in (statements_faults s true ss) (condition_faults s e) f in
        (statements true ss i.0 fs.0, condition e i.1 fs.1)

    pub statements : (in_loop : Bool) (ss : Statements ℕ) → FormedBody ss → statements_faults s in_loop ss ≡ [] → StatementsAre p g (typed_statements s ss)
    statements b no_statements i f = tt
    statements b (statement_then x ss) i f =
        let fs = none_in (statement_faults s b x) (statements_faults s b ss) f in
        (statement b x i.0 fs.0, statements b ss i.1 fs.1)

    branches : (in_loop : Bool) (bs : Branches ℕ) → FormedBranches bs → branches_faults s in_loop bs ≡ [] → BranchesAre p g (typed_branches s bs)
    branches b no_branches i f = tt
    branches b (branch_then e ss bs) i f =
        let fs = three (condition_faults s e) (statements_faults s b ss) (branches_faults s b bs) f in
        (condition e i.0 fs.0, statements b ss i.1.0 fs.1, branches b bs i.1.1 fs.2)

    cases : (in_loop : Bool) (asked : Asked) (cs : Cases ℕ) → FormedCases cs → cases_faults s in_loop asked cs ≡ [] → CasesAre p g (typed_cases s asked cs)
    cases b asked no_cases i f = tt
    cases b asked (case_then ls ss cs) i f =
        let fs = three (labels_faults s asked ls) (statements_faults s b ss) (cases_faults s b asked cs) f in
        (statements b ss i.1.0 fs.1, cases b asked cs i.1.1 fs.2)

    otherwise : (in_loop : Bool) (o : Otherwise ℕ) → FormedOtherwise o → otherwise_faults s in_loop o ≡ [] → OtherwiseIs p g (typed_otherwise s o)
    otherwise b Nothing i f = tt
    otherwise b (Else ss) i f = statements b ss i f
