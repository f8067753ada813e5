-- Steps of the walk over a type.
use Rattle.std.proofs.Common.{◌≡◌, ◌≤◌, ◌<◌, ℕ, zero, suc, ◌+◌, ◌-◌, ℤ, pos, List, [], ◌∷◌, ◌++◌, length, take, drop, get_or, Option, Some, None, Result, Ok, Err, OnOk, refl, sym, ap, ap₂, ◌∙◌, arith, append_assoc, append-nil}
use Rattle.std.specs.Borrow.{Bor}
use Rattle.std.specs.Option.{option_copied}
use Rattle.std.specs.Prelude.{slice_get, option_map, ◌+ℤ◌}
use Rattle.std.proofs.lemmas.Option.{slice_get-map}
use Rattle.st_types.specs.declared.elem.Elem.{Elem}
use Rattle.st_types.specs.declared.st_type.StType.{StType, out-StType}
use Rattle.st_types.specs.declared.st_type.StType.TheVariants as type
use Rattle.st_types.specs.declared.st_type.StType.TheOpen.{StType-F}
use Rattle.st_tree.specs.declared.initial.Init.{Init}
use Rattle.st_tree.specs.declared.path.Step.TheVariants as step
use Rattle.st_tree.specs.declared.program.Note.{Note}
use Rattle.st_tree.specs.declared.program.Program.{Program as CheckedProgram}
use Rattle.st_tree.specs.declared.program.RegionDecl.{RegionDecl}
use Rattle.st_tree.specs.Initial.{Initial, FieldInits, initial_of}
use Rattle.st_rules.specs.Chains.{◌or_else◌}
use Rattle.st_rules.proofs.ListLaws.{drop-at, drop-end}
use Rattle.st_values.specs.Initial.{number_given, list_given, fields_given, given_for, init, init_of}
use Rattle.st_values.specs.Program.{Program}
use Rattle.st_values.specs.Shape.{Shape, extent, shape_of, region_shape}
use Rattle.st_values.specs.View.{region_of, program_of}
use Rattle.st_values.specs.Value.{Path, ◌>>=◌}
use Rattle.program_tables.specs.declared.st_initial.members.Members as code
use Rattle.program_tables.specs.declared.st_initial.variables.Variable as held
use Rattle.program_tables.specs.st_initial.RegionNumbers.{further, numbers_in, numbers_of_region, initial_numbers}
use Rattle.program_tables.specs.st_initial.Variables.{variables_of}
use Rattle.program_tables.specs.st_initial.Given.{inits_of}
use Rattle.program_tables.proofs.st_initial.NumberLaws.{types_agree}
use Rattle.program_tables.specs.st_initial.Private.Numbers.{variable_numbers, element_numbers, level_numbers, simple_numbers, type_numbers}
use Rattle.program_tables.specs.st_initial.Members.{list_at, Holds}

-- what an answer that is no error says
pub then_ok : {T E A B : Type 0} (r : Result T E) → OnOk r A → (A → B) → OnOk r B
then_ok (Ok x) a f = f a
then_ok (Err e) a f = a

abbrev pub given_by : Option (Bor (Init Note)) → Option (Initial Note)
given_by o = option_map (λ i. initial_of i.now) o

pub given_copied : (o : Option (Bor (Init Note))) → given_by o ≡ option_map initial_of (option_copied o)
given_copied None = refl
given_copied (Some i) = refl

pub from_nothing : {A : Type 0} (xs ys zs : List A) → xs ≡ ys ++ zs → ys ≡ [] → xs ≡ zs
from_nothing xs ys zs e h = e ∙ ap (λ v. v ++ zs) h

pub positive : (n : ℕ) → (n ≡ 0 → ⊥) → 0 < n
positive zero h = absurd (h refl)
positive (suc n) h = omega arith

-- ---- one level

module _ (p : Program) (q : Path) (t : StType) (i : Option (Initial Note)) where
  pub elementary_numbers : (n : ℕ) (e : Elem) → t ≡ type.Elementary e → type_numbers p n q t i ≡ (q, number_given i) ∷ []
  elementary_numbers zero e h = ap (λ o. simple_numbers q o i) (ap out-StType h ∙ type.outs-Elementary e)
  elementary_numbers (suc n) e h = ap (λ o. level_numbers p (type_numbers p n) q o i) (ap out-StType h ∙ type.outs-Elementary e)

  pub enumeration_numbers : (n k : ℕ) → t ≡ type.Enumeration k → type_numbers p n q t i ≡ (q, number_given i) ∷ []
  enumeration_numbers zero k h = ap (λ o. simple_numbers q o i) (ap out-StType h ∙ type.outs-Enumeration k)
  enumeration_numbers (suc n) k h = ap (λ o. level_numbers p (type_numbers p n) q o i) (ap out-StType h ∙ type.outs-Enumeration k)

  one_less : (n : ℕ) (o : StType-F StType) → 0 < n → out-StType t ≡ o → type_numbers p n q t i ≡ level_numbers p (type_numbers p (n - 1)) q o i
  one_less zero o l h = absurd (omega arith)
  one_less (suc n) o l h = let e : n ≡ suc n - 1 = omega arith in ap (λ x. level_numbers p (type_numbers p n) q x i) h ∙ ap (λ m. level_numbers p (type_numbers p m) q o i) e

  pub array_numbers : (n : ℕ) (low high : ℤ) (of : StType) → 0 < n → t ≡ type.Array low high of
      → type_numbers p n q t i ≡ element_numbers (type_numbers p (n - 1)) q low of (take (extent low high) (list_given i)) 0 (extent low high)
  array_numbers n low high of l h = one_less n (StType-F.Array low high of) l (ap out-StType h ∙ type.outs-Array low high of)

  pub structure_numbers : (n k : ℕ) (m : code.Members) → 0 < n → t ≡ type.Structure k → Holds p m → type_numbers p n q t i ≡ variable_numbers (type_numbers p (n - 1)) q 0 (list_at m.structures k) (fields_given i)
  structure_numbers n k m l h g =
      one_less n (StType-F.Structure k) l (ap out-StType h ∙ type.outs-Structure k) ∙ ap (λ vs. variable_numbers (type_numbers p (n - 1)) q 0 vs (fields_given i)) (sym (g.structures k))

  pub instance_numbers : (n c : ℕ) (m : code.Members) → 0 < n → t ≡ type.Instance c → Holds p m → type_numbers p n q t i ≡ variable_numbers (type_numbers p (n - 1)) q 0 (list_at m.classes c) (fields_given i)
  instance_numbers n c m l h g =
      one_less n (StType-F.Instance c) l (ap out-StType h ∙ type.outs-Instance c) ∙ ap (λ vs. variable_numbers (type_numbers p (n - 1)) q 0 vs (fields_given i)) (sym (g.classes c))

-- ---- elements

-- what was added, and what the rest gives, is the whole
pub record ElementsLeft (m : code.Members) (n : ℕ) (q : Path) (low : ℤ) (t : StType) (is : List (Bor (Init Note))) (end k : ℕ) (out before : List (Path × ℤ)) : Type 0 where
  pub by : (p : Program) → Holds p m → (out ++ element_numbers (type_numbers p n) q low t (inits_of is) k (end - k)) ≡ (before ++ element_numbers (type_numbers p n) q low t (inits_of is) 0 end)

module _ (m : code.Members) (n : ℕ) (q : Path) (low : ℤ) (t : StType) (is : List (Bor (Init Note))) (end : ℕ) where
  pub elements_first : (out : List (Path × ℤ)) → ElementsLeft m n q low t is end 0 out out
  elements_first out = record { by = λ p h. let e : end - 0 ≡ end = omega arith in ap (λ j. out ++ element_numbers (type_numbers p n) q low t (inits_of is) 0 j) e }

  pub elements_step : (k : ℕ) (out out' before : List (Path × ℤ)) (place : Path) (given : Option (Bor (Init Note))) → k < end → ElementsLeft m n q low t is end k out before
      → place ≡ further q (step.Element (low +ℤ pos k)) → given ≡ slice_get is k
      → ((p : Program) → Holds p m → out' ≡ out ++ type_numbers p n place t (given_by given)) → ElementsLeft m n q low t is end (k + 1) out' before
  elements_step k out out' before place given l left at is_given more = record {
    by = λ p h.
        let f = type_numbers p n in
        let e : suc (end - (k + 1)) ≡ end - k = omega arith in
        let s : suc k ≡ k + 1 = omega arith in
        let g : given_by given ≡ slice_get (inits_of is) k = ap given_by is_given ∙ sym (slice_get-map (λ i. initial_of i.now) is k) in
        let one : f place t (given_by given) ≡ f (further q (step.Element (low +ℤ pos k))) t (slice_get (inits_of is) k) = ap₂ (λ x y. f x t y) at g in
        ap (λ v. v ++ element_numbers f q low t (inits_of is) (k + 1) (end - (k + 1))) (more p h ∙ ap (λ v. out ++ v) one)
        ∙ append_assoc out (f (further q (step.Element (low +ℤ pos k))) t (slice_get (inits_of is) k)) (element_numbers f q low t (inits_of is) (k + 1) (end - (k + 1)))
        ∙ ap (λ j. out ++ (f (further q (step.Element (low +ℤ pos k))) t (slice_get (inits_of is) k) ++ element_numbers f q low t (inits_of is) j (end - (k + 1)))) (sym s)
        ∙ ap (λ j. out ++ element_numbers f q low t (inits_of is) k j) e ∙ left.by p h;
  }

  pub elements_done : (k : ℕ) (out before : List (Path × ℤ)) → end ≤ k → ElementsLeft m n q low t is end k out before → (p : Program) → Holds p m → out ≡ before ++ element_numbers (type_numbers p n) q low t (inits_of is) 0 end
  elements_done k out before l left p h =
      let e : end - k ≡ 0 = omega arith in
      sym (append-nil out) ∙ ap (λ j. out ++ element_numbers (type_numbers p n) q low t (inits_of is) k j) (sym e) ∙ left.by p h

-- ---- variables

-- what is given to a variable, else its own
pub given_some : (found given : Option (Bor (Init Note))) (i : Bor (Init Note)) (a b : Option (Initial Note)) → found ≡ Some i → given ≡ Some i → given_by found ≡ a → given_by given ≡ (a or_else b)
given_some found given i a b e f g =
    let is : a ≡ Some (initial_of i.now) = sym g ∙ ap given_by e in
    ap given_by f ∙ sym (ap (λ o. o or_else b) is)

pub given_none : (found given own : Option (Bor (Init Note))) (a : Option (Initial Note)) → found ≡ None → given ≡ own → given_by found ≡ a → given_by given ≡ (a or_else given_by own)
given_none found given own a e f g =
    let is : a ≡ None = sym g ∙ ap given_by e in
    ap given_by f ∙ sym (ap (λ o. o or_else given_by own) is)

pub record VariablesLeft (m : code.Members) (n : ℕ) (q : Path) (vs : List held.Variable) (gs : FieldInits Note) (k : ℕ) (out before : List (Path × ℤ)) : Type 0 where
  pub by : (p : Program) → Holds p m → (out ++ variable_numbers (type_numbers p n) q k (variables_of (drop k vs)) gs) ≡ (before ++ variable_numbers (type_numbers p n) q 0 (variables_of vs) gs)

module _ (m : code.Members) (n : ℕ) (q : Path) (vs : List held.Variable) (gs : FieldInits Note) where
  pub variables_first : (out : List (Path × ℤ)) → VariablesLeft m n q vs gs 0 out out
  variables_first out = record { by = λ p h. refl }

  pub variables_step : (k : ℕ) (v : held.Variable) (out out' before : List (Path × ℤ)) (place : Path) (given : Option (Initial Note)) → k < length vs → v ≡ get_or vs k v → VariablesLeft m n q vs gs k out before
      → place ≡ further q (step.Field k) → given ≡ (given_for v.name.now gs or_else given_by v.initial)
      → ((p : Program) → Holds p m → out' ≡ out ++ type_numbers p n place v.kind.now given) → VariablesLeft m n q vs gs (k + 1) out' before
  variables_step k v out out' before place given l is left at is_given more = record {
    by = λ p h.
        let f = type_numbers p n in
        let s : suc k ≡ k + 1 = omega arith in
        let one : f place v.kind.now given ≡ f (further q (step.Field k)) v.kind.now (given_for v.name.now gs or_else given_by v.initial) = ap₂ (λ x y. f x v.kind.now y) at is_given in
        ap (λ w. w ++ variable_numbers f q (k + 1) (variables_of (drop (k + 1) vs)) gs) (more p h ∙ ap (λ w. out ++ w) one)
        ∙ append_assoc out (f (further q (step.Field k)) v.kind.now (given_for v.name.now gs or_else given_by v.initial)) (variable_numbers f q (k + 1) (variables_of (drop (k + 1) vs)) gs)
        ∙ ap (λ j. out ++ (f (further q (step.Field k)) v.kind.now (given_for v.name.now gs or_else given_by v.initial) ++ variable_numbers f q j (variables_of (drop (k + 1) vs)) gs)) (sym s)
        ∙ ap (λ ws. out ++ variable_numbers f q k (variables_of ws) gs) (sym (drop-at vs k v l is)) ∙ left.by p h;
  }

  pub variables_done : (k : ℕ) (out before : List (Path × ℤ)) → length vs ≤ k → VariablesLeft m n q vs gs k out before → (p : Program) → Holds p m → out ≡ before ++ variable_numbers (type_numbers p n) q 0 (variables_of vs) gs
  variables_done k out before l left p h =
      sym (append-nil out) ∙ ap (λ ws. out ++ variable_numbers (type_numbers p n) q k (variables_of ws) gs) (sym (drop-end vs k l)) ∙ left.by p h

-- ---- a region

pub region_starts : (p : CheckedProgram) (r : ℕ) (d : RegionDecl) (q : Path) (i : Option (Initial Note)) → slice_get p.regions r ≡ Some d → q ≡ record { region = r; steps = [] } → i ≡ option_map initial_of d.initial
    → (sh : Shape) × (region_shape (program_of p) r ≡ Some sh) → type_numbers (program_of p) 65 q d.kind i ≡ initial_numbers (program_of p) r
region_starts p r d q i e is given h =
    let a : slice_get (program_of p).regions r ≡ Some (region_of d) = slice_get-map region_of p.regions r ∙ ap (option_map region_of) e in
    let s : shape_of (program_of p) d.kind ≡ Some h.0 = sym (ap (λ o. o >>= λ x. shape_of (program_of p) x.variable.kind) a) ∙ h.1 in
    let here : Path = record { region = r; steps = [] } in
    let t : numbers_in here (init h.0 (option_map initial_of d.initial)) ≡ initial_numbers (program_of p) r =
    sym (ap (numbers_of_region (program_of p) r) a ∙ ap (λ o. numbers_in here (init_of o (option_map initial_of d.initial))) s) in
    (types_agree (program_of p) 65).by q d.kind h.0 i s ∙ ap₂ (λ x j. numbers_in x (init h.0 j)) is given ∙ t

-- a region that is not there
pub no_region : (p : CheckedProgram) (r : ℕ) → slice_get p.regions r ≡ None → slice_get (program_of p).regions r ≡ None
no_region p r e = slice_get-map region_of p.regions r ∙ ap (option_map region_of) e

pub region_there : (p : CheckedProgram) (r : ℕ) (d : RegionDecl) → slice_get p.regions r ≡ Some d → slice_get (program_of p).regions r ≡ None → ⊥
region_there p r d e n =
    let a : slice_get (program_of p).regions r ≡ Some (region_of d) = slice_get-map region_of p.regions r ∙ ap (option_map region_of) e in
    cc
