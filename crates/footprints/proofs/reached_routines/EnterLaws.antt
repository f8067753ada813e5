-- What calls enter.
use Rattle.std.proofs.Common.{◌≡◌, ◌<◌, ℕ, suc, ◌+◌, true, List, ◌∷◌, drop, length, get_or, Option, Some, None, refl, sym, ap, ◌∙◌, subst, arith}
use Rattle.std.proofs.Math.Seq.{drop-cons}
use Rattle.std.specs.Prelude.{option_map, slice_get}
use Rattle.st_types.specs.declared.st_type.StType.{StType}
use Rattle.st_tree.specs.declared.program.Program.{Program as CheckedProgram}
use Rattle.st_tree.specs.declared.program.RegionDecl.{RegionDecl}
use Rattle.std.proofs.lemmas.Option.{slice_get-map}
use Rattle.st_rules.proofs.Booleans.{none≢some}
use Rattle.st_values.specs.Program.{Routine, Program, conforms, lookup, body_of}
use Rattle.st_values.specs.Value.{◌>>=◌}
use Rattle.st_values.specs.View.{program_of, region_of}
use Rattle.st_meaning.specs.Call.{class_of_kind}
use Rattle.st_meaning.specs.Enter.{program_body}
use Rattle.st_meaning.specs.st_frame.Use.{Called, the_function, a_method_of, a_method_from, a_body_of, the_body_from, Use, calls, names, follows, changes, Owner, routine_uses}
use Rattle.st_meaning.specs.st_frame.Footprint.{Enters, by_number, by_class, by_text, by_body, by_base}
use Rattle.program_tables.specs.declared.routine.RoutineId.{RoutineId}
use Rattle.body_uses.specs.Uses.{use_of, uses_of}
use Rattle.body_uses.specs.declared.uses.Use.{Use as CodeUse}
use Rattle.footprints.specs.reached_routines.Private.Adds.{Adds, Is, Via, ByKind, EntersBy, Begins, EnteredIn}
use Rattle.footprints.proofs.reached_routines.AddLaws.{adds_as, adds_nothing}

module _ (p : Program) where
  by_its_number : (k : ℕ) (r : Routine) (x : Called) → Enters p x r → x ≡ the_function k → slice_get p.functions k ≡ Some r
  by_its_number k r x (by_number {k = n} e) q = let a : n ≡ k = cc in subst (λ z. slice_get p.functions z ≡ Some r) a e
  by_its_number k r x (by_class c m e) q = cc
  by_its_number k r x (by_text e) q = cc
  by_its_number k r x (by_body c m e) q = cc
  by_its_number k r x (by_base e) q = cc

  through_type : (t : StType) (name : List ℕ) (r : Routine) (x : Called) → Enters p x r → x ≡ a_method_of t name → ByKind p t (Some name) r
  through_type t name r x (by_class {t = u} {name = o} c m e) q =
      let a : u ≡ t = cc in
      let b : o ≡ name = cc in
      (c, subst (λ z. conforms p c z ≡ true) a m, subst (λ z. lookup p c z ≡ Some r) b e)
  through_type t name r x (by_number e) q = cc
  through_type t name r x (by_text e) q = cc
  through_type t name r x (by_body c m e) q = cc
  through_type t name r x (by_base e) q = cc

  from_class : (d : ℕ) (name : List ℕ) (r : Routine) (x : Called) → Enters p x r → x ≡ a_method_from d name → lookup p d name ≡ Some r
  from_class d name r x (by_text {d = f} {name = o} e) q =
      let a : f ≡ d = cc in
      let b : o ≡ name = cc in
      subst (λ z. lookup p z name ≡ Some r) a (subst (λ z. lookup p f z ≡ Some r) b e)
  from_class d name r x (by_number e) q = cc
  from_class d name r x (by_class c m e) q = cc
  from_class d name r x (by_body c m e) q = cc
  from_class d name r x (by_base e) q = cc

  body_through_type : (t : StType) (r : Routine) (x : Called) → Enters p x r → x ≡ a_body_of t → ByKind p t None r
  body_through_type t r x (by_body {t = u} c m e) q = let a : u ≡ t = cc in (c, subst (λ z. conforms p c z ≡ true) a m, e)
  body_through_type t r x (by_number e) q = cc
  body_through_type t r x (by_class c m e) q = cc
  body_through_type t r x (by_text e) q = cc
  body_through_type t r x (by_base e) q = cc

  body_from_class : (d : ℕ) (r : Routine) (x : Called) → Enters p x r → x ≡ the_body_from d → body_of p d ≡ Some r
  body_from_class d r x (by_base {d = f} e) q = let a : f ≡ d = cc in subst (λ z. body_of p z ≡ Some r) a e
  body_from_class d r x (by_number e) q = cc
  body_from_class d r x (by_class c m e) q = cc
  body_from_class d r x (by_text e) q = cc
  body_from_class d r x (by_body c m e) q = cc

module _ (q : CheckedProgram) (a b : List RoutineId) where
  abbrev p : Program
  p = program_of q

  pub function_entered : (k : ℕ) (x : Called) (o : Option Routine) → x ≡ the_function k → o ≡ slice_get p.functions k → Adds q (Is o) a b → Adds q (Enters p x) a b
  function_entered k x o e g h =
      adds_as q
      (λ r i. subst (λ z. Enters p z r) (sym e) (by_number (sym g ∙ i)))
      (λ r i. g ∙ by_its_number p k r x i e)
      h

  pub method_entered : (d : ℕ) (name : List ℕ) (x : Called) (o : Option Routine) → x ≡ a_method_from d name → o ≡ lookup p d name → Adds q (Is o) a b → Adds q (Enters p x) a b
  method_entered d name x o e g h =
      adds_as q
      (λ r i. subst (λ z. Enters p z r) (sym e) (by_text (sym g ∙ i)))
      (λ r i. g ∙ from_class p d name r x i e)
      h

  pub body_entered : (d : ℕ) (x : Called) (o : Option Routine) → x ≡ the_body_from d → o ≡ body_of p d → Adds q (Is o) a b → Adds q (Enters p x) a b
  body_entered d x o e g h =
      adds_as q
      (λ r i. subst (λ z. Enters p z r) (sym e) (by_base (sym g ∙ i)))
      (λ r i. g ∙ body_from_class p d r x i e)
      h

  pub methods_entered : (t : StType) (name : List ℕ) (x : Called) → x ≡ a_method_of t name → Adds q (ByKind p t (Some name)) a b → Adds q (Enters p x) a b
  methods_entered t name x e h =
      adds_as q
      (λ r v. subst (λ z. Enters p z r) (sym e) (by_class v.0 v.1 v.2))
      (λ r i. through_type p t name r x i e)
      h

  pub bodies_entered : (t : StType) (x : Called) → x ≡ a_body_of t → Adds q (ByKind p t None) a b → Adds q (Enters p x) a b
  bodies_entered t x e h =
      adds_as q
      (λ r v. subst (λ z. Enters p z r) (sym e) (by_body v.0 v.1 v.2))
      (λ r i. body_through_type p t r x i e)
      h

  pub call_followed : (u : Use) (x : Called) → u ≡ calls x → Adds q (Enters p x) a b → Adds q (EntersBy p u) a b
  call_followed u x e h =
      adds_as q
      (λ r i. (x, e, i))
      (λ r v. let d : v.0 ≡ x = same (sym v.1 ∙ e) in subst (λ z. Enters p z r) d v.2)
      h
    where
      same : {y z : Called} → calls y ≡ calls z → y ≡ z
      same k = cc

  pub text_entered : (r : Routine) (us : List Use) → us ≡ routine_uses p r → Adds q (Via us (EntersBy p)) a b → Adds q (EnteredIn p r) a b
  text_entered r us e h = subst (λ z. Adds q (Via z (EntersBy p)) a b) e h

module _ (q : CheckedProgram) (a : List RoutineId) where
  pub no_call : (u : Use) → ((x : Called) → u ≡ calls x → ⊥) → Adds q (EntersBy (program_of q) u) a a
  no_call u h = adds_nothing q (EntersBy (program_of q) u) a (λ r v. h v.0 v.1)

  pub names_call_nothing : (u : Use) (k : ℕ) → u ≡ names k → Adds q (EntersBy (program_of q) u) a a
  names_call_nothing u k e = no_call u (λ x f. let g : names k ≡ calls x = sym e ∙ f in cc)

  pub follows_call_nothing : (u : Use) (t : StType) → u ≡ follows t → Adds q (EntersBy (program_of q) u) a a
  follows_call_nothing u t e = no_call u (λ x f. let g : follows t ≡ calls x = sym e ∙ f in cc)

  pub changes_call_nothing : (u : Use) (o : Owner) → u ≡ changes o → Adds q (EntersBy (program_of q) u) a a
  changes_call_nothing u o e = no_call u (λ x f. let g : changes o ≡ calls x = sym e ∙ f in cc)

-- ---- programs

region_body : (q : CheckedProgram) (region : ℕ) → program_body (program_of q) region ≡ (slice_get q.regions region >>= λ d. body_of (program_of q) (class_of_kind d.kind))
region_body q region = ap (λ o. o >>= λ x. body_of (program_of q) (class_of_kind x.variable.kind)) (slice_get-map region_of q.regions region) ∙ by (slice_get q.regions region)
  where
    by : (o : Option RegionDecl) → (option_map region_of o >>= λ x. body_of (program_of q) (class_of_kind x.variable.kind)) ≡ (o >>= λ d. body_of (program_of q) (class_of_kind d.kind))
    by None = refl
    by (Some d) = refl

module _ (q : CheckedProgram) (region : ℕ) (a b : List RoutineId) where
  pub program_begins : (d : RegionDecl) (o : Option Routine) → slice_get q.regions region ≡ Some d → o ≡ body_of (program_of q) (class_of_kind d.kind) → Adds q (Is o) a b → Adds q (Begins (program_of q) region) a b
  program_begins d o e g h =
      let is : o ≡ program_body (program_of q) region = g ∙ sym (region_body q region ∙ ap (λ z. z >>= λ d. body_of (program_of q) (class_of_kind d.kind)) e) in
      subst (λ z. Adds q (Is z) a b) is h

  pub nothing_begins : slice_get q.regions region ≡ None → Adds q (Begins (program_of q) region) a a
  nothing_begins e =
      let is : program_body (program_of q) region ≡ None = region_body q region ∙ ap (λ z. z >>= λ d. body_of (program_of q) (class_of_kind d.kind)) e in
      adds_nothing q (Begins (program_of q) region) a (λ r h. none≢some (sym is ∙ h))

-- ---- the uses that are left

pub uses_left : (us : List CodeUse) (i : ℕ) (x : CodeUse) → i < length us → x ≡ get_or us i x → uses_of (drop i us) ≡ use_of x ∷ uses_of (drop (i + 1) us)
uses_left us i x l e =
    let next : suc i ≡ i + 1 = omega arith in
    ap uses_of (drop-cons us i x l) ∙ ap (λ y. use_of y ∷ uses_of (drop (suc i) us)) (sym e) ∙ ap (λ n. use_of x ∷ uses_of (drop n us)) next
