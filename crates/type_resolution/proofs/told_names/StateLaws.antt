-- What is told of a group is so, and stays told.
use Rattle.std.proofs.Common.{◌≡◌, ℕ, zero, suc, ℤ, Bool, true, false, List, [], ◌∷◌, ◌++◌, Option, Some, None, map, length, refl, sym, ap, ◌∙◌, subst, append-nil}
use Rattle.std.specs.Prelude.{slice_get, option_and_then, if◌then◌else◌}
use Rattle.st_types.specs.declared.st_type.StType.{StType}
use Rattle.st_types.specs.declared.st_type.StType.TheVariants as type
use Rattle.st_tree.specs.declared.declaration.ClassDecl.{ClassDecl}
use Rattle.st_tree.specs.declared.program.Target.{Target}
use Rattle.st_tree.specs.declared.program.Target.TheVariants as target
use Rattle.st_tree.specs.declared.unit.Decl.{Decl}
use Rattle.st_rules.specs.declared.names.DeclaredClass.{DeclaredClass}
use Rattle.st_rules.specs.declared.names.DeclaredType.{DeclaredType}
use Rattle.st_rules.specs.declared.names.DeclaredGlobal.{DeclaredGlobal}
use Rattle.st_rules.specs.declared.names.DeclaredGlobal.TheVariants as global
use Rattle.st_rules.specs.declared.names.DeclaredNames.{DeclaredNames}
use Rattle.st_rules.specs.Classes.{classes_in}
use Rattle.st_rules.specs.Telling.{type_told, variable_told, global_told, member_told, with_type, with_global, with_member}
use Rattle.name_resolution.specs.Tables.{Told, Knows}
use Rattle.resolution_order.specs.told_laws.ToldLaws.{Every, NoLess, MeansNoLess, AlikeVariable, AlikeClass, AlikeType, AlikeGlobal, TellsKind, TellsGlobalKind}
use Rattle.resolution_order.specs.told_laws.TellingLaws.{Sound}
use Rattle.resolution_order.proofs.told_laws.Telling.{telling_laws, one-changed, both-changed, variable-step}
use Rattle.st_unit_rules.specs.declared_names.UnitNames.{names_told}
use Rattle.resolution_order.specs.telling_list.Jobs.{Job, of_entry, of_interface, of_class, of_global, of_member, jobs_in, is_told_of, with_job, Tells}
use Rattle.resolution_order.proofs.telling_list.JobLaws.{job-laws}
use Rattle.resolution_order.specs.telling_groups.Groups.{Group, jobs_of_group}
use Rattle.resolution_order.specs.telling_groups.Arranged.{Among}
use Rattle.type_resolution.specs.told_names.Private.State.{Untellable, Tellable, Finds, with_jobs, Retold, IsState, IsOfUnit, GroupTold, Stays, Visits, Keeps}

-- ---- what may be told from one state may be told in another one

type-step : (k : StType) (x y u : DeclaredType) → AlikeType NoLess MeansNoLess x u → AlikeType NoLess MeansNoLess (type_told k y) u → AlikeType NoLess MeansNoLess (type_told k x) u
type-step k x y u h t = record { name = h.name; kind = t.kind }

global-step : (k : StType) (m : Target) (x y u : DeclaredGlobal) → AlikeGlobal NoLess MeansNoLess x u → AlikeGlobal NoLess MeansNoLess (global_told k m y) u → AlikeGlobal NoLess MeansNoLess (global_told k m x) u
global-step k m (global.Variable x) (global.Variable y) (global.Variable u) h t = variable-step k m x y u h t
global-step k m (global.Function i r) y u h t = h
global-step k m (global.Variable x) (global.Function j q) (global.Variable u) h t = absurd t
global-step k m (global.Variable x) y (global.Function j q) h t = absurd h

member-step : (i : ℕ) (k : StType) (m : Target) (x y u : DeclaredClass) → AlikeClass NoLess MeansNoLess x u → AlikeClass NoLess MeansNoLess (member_told i k m y) u → AlikeClass NoLess MeansNoLess (member_told i k m x) u
member-step i k m x y u h t = record {
  sort = h.sort;
  variables = both-changed (AlikeVariable NoLess MeansNoLess) (variable_told k m) (variable-step k m) i x.variables y.variables u.variables h.variables t.variables;
  methods = h.methods;
}

tells-global : (k : StType) (m : Target) (g : DeclaredGlobal) → TellsGlobalKind g → TellsGlobalKind (global_told k m g)
tells-global k m (global.Variable v) h = λ c e. refl
tells-global k m (global.Function n r) h = tt

module _ (decls : List (Decl ℕ)) where
  type-again : (a b : DeclaredNames) (n : ℕ) (k : StType) → Sound decls b → Sound decls (with_type a n k) → Sound decls (with_type b n k)
  type-again a b n k s t = record {
    kinds = record { classes = (s.kinds).classes; globals = (s.kinds).globals };
    below = record {
      types = both-changed (AlikeType NoLess MeansNoLess) (type_told k) (type-step k) n b.types a.types _ (s.below).types (t.below).types;
      parts = (s.below).parts;
      classes = (s.below).classes;
      interfaces = (s.below).interfaces;
      globals = (s.below).globals;
    };
  }

  global-again : (a b : DeclaredNames) (n : ℕ) (k : StType) (m : Target) → Sound decls b → Sound decls (with_global a n k m) → Sound decls (with_global b n k m)
  global-again a b n k m s t = record {
    kinds = record { classes = (s.kinds).classes; globals = one-changed TellsGlobalKind (global_told k m) (tells-global k m) n b.globals (s.kinds).globals };
    below = record {
      types = (s.below).types;
      parts = (s.below).parts;
      classes = (s.below).classes;
      interfaces = (s.below).interfaces;
      globals = both-changed (AlikeGlobal NoLess MeansNoLess) (global_told k m) (global-step k m) n b.globals a.globals _ (s.below).globals (t.below).globals;
    };
  }

  member-again : (a b : DeclaredNames) (c i : ℕ) (k : StType) (m : Target) → Sound decls b → Sound decls (with_member a c i k m) → Sound decls (with_member b c i k m)
  member-again a b c i k m s t = record {
    kinds = record {
      classes = one-changed (λ x. Every TellsKind x.variables) (member_told i k m) (λ x h. one-changed TellsKind (variable_told k m) (λ v e. λ f g. refl) i x.variables h) c b.classes (s.kinds).classes;
      globals = (s.kinds).globals;
    };
    below = record {
      types = (s.below).types;
      parts = (s.below).parts;
      classes = both-changed (AlikeClass NoLess MeansNoLess) (member_told i k m) (member-step i k m) c b.classes a.classes _ (s.below).classes (t.below).classes;
      interfaces = (s.below).interfaces;
      globals = (s.below).globals;
    };
  }

  again : (a b : DeclaredNames) (j : Job) (k : StType) (z : ℤ) → Sound decls b → Sound decls (with_job a j k z) → Sound decls (with_job b j k z)
  again a b (of_entry n e t) k z s h = type-again a b n k s h
  again a b (of_interface n i) k z s h = type-again a b n (type.Interface i) s h
  again a b (of_class n c) k z s h = type-again a b n (type.Instance c) s h
  again a b (of_global n w) k z s h = global-again a b n k (target.Constant z) s h
  again a b (of_member c i w) k z s h = member-again a b c i k (target.Constant z) s h

  -- ---- all of a group

  module _ (a : DeclaredNames) (s : Sound decls a) (k : StType) (z : ℤ) where
    -- a job of the unit of which this can be told
    abbrev Ready : Job → Type 0
    Ready j = Among j (jobs_in decls) × Tells decls a j k z

    one-sound : (b : DeclaredNames) (j : Job) → Sound decls b → Ready j → Sound decls (with_job b j k z)
    one-sound b j t r = again a b j k z t (job-laws.next decls a (r.0).place j k z s (r.0).at r.1)

    all-sound : (b : DeclaredNames) (js : List Job) → Sound decls b → Every Ready js → Sound decls (with_jobs b js k z)
    all-sound b [] t r = t
    all-sound b (j ∷ js) t r = all-sound (with_job b j k z) js (one-sound b j t r.0) r.1

    pub jobs-stay : (b : DeclaredNames) (js : List Job) (i : Job) → is_told_of b i ≡ true → is_told_of (with_jobs b js k z) i ≡ true
    jobs-stay b [] i h = h
    jobs-stay b (j ∷ js) i h = jobs-stay (with_job b j k z) js i (job-laws.stays b j i k z h)

    all-told : (b : DeclaredNames) (js : List Job) → Sound decls b → Every Ready js → (p : ℕ) (i : Job) → slice_get js p ≡ Some i → is_told_of (with_jobs b js k z) i ≡ true
    all-told b [] t r p i e = absurd (none-some e)
      where
        none-some : {X : Type 0} {x : X} → None ≡ Some x → ⊥
        none-some h = cc
    all-told b (j ∷ js) t r zero i e =
        jobs-stay (with_job b j k z) js i (subst (λ x. is_told_of (with_job b j k z) x ≡ true) (some-same e) (job-laws.told decls b ((r.0).0).place j k z t ((r.0).0).at))
      where
        some-same : {X : Type 0} {x y : X} → Some x ≡ Some y → x ≡ y
        some-same h = cc
    all-told b (j ∷ js) t r (suc p) i e = all-told (with_job b j k z) js (one-sound b j t r.0) r.1 p i e

  every-among : (P : Job → Type 0) (js : List Job) → ((j : Job) → Among j js → P j) → Every P js
  every-among P [] f = tt
  every-among P (j ∷ js) f = (f j (record { place = zero; at = refl }), every-among P js (λ i m. f i (record { place = suc m.place; at = m.at })))

  knows-same : (t u : Told) (classes : List (ClassDecl ℕ)) → u.bases ≡ t.bases → u.derived ≡ t.derived → Knows t classes → Knows u classes
  knows-same t u classes b d k = record {
    bases = λ c. ap (λ bs. option_and_then (λ x. x) (slice_get bs c)) b ∙ k.bases c;
    long = ap length b ∙ k.long;
    derived = λ c. ap (λ ds. slice_get ds c) d ∙ k.derived c;
  }

  -- ---- visits

  pub visit_none : (g : Group) (t : Told) → IsState decls t → Untellable decls t.names g → Visits decls g t t false
  visit_none g t s u = record { state = s; stays = record { each = λ j h. h }; told = λ e. absurd (cc); same = λ e. refl; none = λ e. u }

  pub visit_told : (g : Group) (t u : Told) (k : StType) (z : ℤ) → IsState decls t → IsOfUnit decls g → Tellable decls t.names g k z → Retold (with_jobs t.names (jobs_of_group g) k z) t u → Visits decls g t u true
  visit_told g t u k z s o f r = record {
    state = record { knows = knows-same t u (classes_in decls) r.bases r.derived s.knows; sound = subst (Sound decls) (sym r.names) (all-sound t.names s.sound k z t.names (jobs_of_group g) s.sound ready) };
    stays = record { each = λ j h. ap (λ a. is_told_of a j) r.names ∙ jobs-stay t.names s.sound k z t.names (jobs_of_group g) j h };
    told = λ e. record { each = λ j m. ap (λ a. is_told_of a j) r.names ∙ all-told t.names s.sound k z t.names (jobs_of_group g) s.sound ready m.place j m.at };
    same = λ e. absurd (cc);
    none = λ e. absurd (cc);
  }
    where
      ready : Every (Ready t.names s.sound k z) (jobs_of_group g)
      ready = every-among (Ready t.names s.sound k z) (jobs_of_group g) (λ j m. (o.each j m, f.each j m))

  pub kept_told : (g : Group) (t u : Told) (before : List Group) (b : Bool) → b ≡ true → Visits decls g t u b → Keeps decls g t u before before
  kept_told g t u before b e v = record { any = b; visits = v; kept = sym (append-nil before) ∙ ap (λ c. before ++ (if c then [] else g ∷ [])) (sym e) }

  pub kept_left : (g : Group) (t u : Told) (before after : List Group) (b : Bool) → b ≡ false → Visits decls g t u b → after ≡ before ++ g ∷ [] → Keeps decls g t u before after
  kept_left g t u before after b e v h = record { any = b; visits = v; kept = h ∙ ap (λ c. before ++ (if c then [] else g ∷ [])) (sym e) }

-- ---- at first

pub state_begun : (d e : List (Decl ℕ)) (t : Told) (u : DeclaredNames) → d ≡ e → Knows t (classes_in e) → t.names ≡ u → u ≡ names_told e 0 → IsState d t
state_begun d e t u q k h f = record {
  knows = subst (λ (ds : List (Decl ℕ)). Knows t (classes_in ds)) (sym q) k;
  sound = subst (λ (a : DeclaredNames). Sound d a) (sym (h ∙ f ∙ ap (λ (ds : List (Decl ℕ)). names_told ds 0) (sym q))) (telling_laws.begun d);
}
