-- What can be told of a unit, job by job.
use Rattle.std.proofs.Common.{◌≡◌, ℕ, zero, suc, ◌+◌, ℤ, Bool, true, false, List, [], ◌∷◌, ◌++◌, Option, Some, None, map, length, take, refl, sym, ap, ◌∙◌, subst, arith}
use Rattle.std.specs.Prelude.{if◌then◌else◌, filter, slice_get, option_and_then}
use Rattle.std.specs.Option.{is_some}
use Rattle.st_types.specs.declared.st_type.StType.{StType}
use Rattle.st_types.specs.declared.st_type.StType.TheVariants as type
use Rattle.st_tree.specs.declared.declaration.ClassDecl.{ClassDecl}
use Rattle.st_tree.specs.declared.declaration.TypeDecl.{TypeDecl}
use Rattle.st_tree.specs.declared.program.Target.{Target}
use Rattle.st_tree.specs.declared.program.Target.TheVariants as target
use Rattle.st_tree.specs.declared.unit.Decl.{Decl}
use Rattle.st_rules.specs.declared.names.DeclaredVariable.{DeclaredVariable}
use Rattle.st_rules.specs.declared.names.DeclaredClass.{DeclaredClass}
use Rattle.st_rules.specs.declared.names.DeclaredType.{DeclaredType}
use Rattle.st_rules.specs.declared.names.DeclaredGlobal.{DeclaredGlobal}
use Rattle.st_rules.specs.declared.names.DeclaredGlobal.TheVariants as global
use Rattle.st_rules.specs.declared.names.DeclaredNames.{DeclaredNames}
use Rattle.st_rules.specs.Telling.{changed_at, type_told, variable_told, global_told, member_told, with_type, with_global, with_member}
use Rattle.st_unit_rules.specs.declared_names.Constants.{is_told}
use Rattle.st_unit_rules.specs.declared_names.WrittenTypes.{type_written}
use Rattle.st_unit_rules.specs.declared_names.Variables.{Written, sections_written, sections_in, constant_of}
use Rattle.st_unit_rules.specs.declared_names.Declarations.{Global, Declaration, an_entry, a_global, an_interface, a_class, a_function, a_program, a_configuration, declarations, is_entry, is_class, is_interface}
use Rattle.st_unit_rules.specs.declared_names.UnitNames.{unit_scope, class_scope, entry_kind, class_declared, names_from, names_told, steps_needed, unit_names}
use Rattle.resolution_order.specs.told_laws.ToldLaws.{Each, Every, NoLess, MeansNoLess, AlikeVariable, AlikeClass, AlikeType, AlikeGlobal}
use Rattle.resolution_order.specs.told_laws.TellingLaws.{Sound}
use Rattle.resolution_order.specs.told_places.PlaceLaws.{is_type, is_global_or_function, number_before, has_type, is_value, is_global_value, member_in, AllValues, Done, PlaceLaws}
use Rattle.resolution_order.proofs.told_places.Places.{among, paired-at}
use Rattle.resolution_order.proofs.told_places.Flat.{type-at, GlobalLike, globals-like, class-at}
use Rattle.resolution_order.proofs.told_places.Variables.{VariableLike, members-like}
use Rattle.resolution_order.proofs.told_places.PlaceLaws.{place_laws}
use Rattle.resolution_order.specs.telling_list.Jobs.{Job, of_entry, of_interface, of_class, of_global, of_member, Numbers, member_jobs, global_jobs, jobs_of, behind, jobs_from, first_numbers, jobs_in, is_told_of, with_job, can_be_told, Tells, IsDone}
use Rattle.resolution_order.specs.telling_list.JobLaws.{JobLaws}

-- ---- lists

get-middle : {X : Type 0} (xs ys : List X) (x : X) → slice_get (xs ++ x ∷ ys) (length xs) ≡ Some x
get-middle [] ys x = refl
get-middle (y ∷ xs) ys x = get-middle xs ys x

take-middle : {X : Type 0} (xs ys : List X) → take (length xs) (xs ++ ys) ≡ xs
take-middle [] ys = refl
take-middle (x ∷ xs) ys = ap (λ zs. x ∷ zs) (take-middle xs ys)

again : {X : Type 0} (xs ys : List X) (x : X) → (xs ++ x ∷ []) ++ ys ≡ xs ++ x ∷ ys
again [] ys x = refl
again (z ∷ xs) ys x = ap (λ zs. z ∷ zs) (again xs ys x)

one-append : {X : Type 0} (P : X → Type 0) (xs ys : List X) → Every P xs → Every P ys → Every P (xs ++ ys)
one-append P [] ys h k = k
one-append P (x ∷ xs) ys h k = (h.0, one-append P xs ys h.1 k)

both-of : {X : Type 0} (P : X → Type 0) (xs ys : List X) → Every P (xs ++ ys) → Every P xs × Every P ys
both-of P [] ys h = (tt, h)
both-of P (x ∷ xs) ys h = let r = both-of P xs ys h.1 in ((h.0, r.0), r.1)

every-at : {X : Type 0} (P : X → Type 0) (xs : List X) (p : ℕ) (x : X) → Every P xs → slice_get xs p ≡ Some x → P x
every-at P [] p x h e = absurd (cc)
every-at P (y ∷ xs) zero x h e = let f : y ≡ x = cc in subst P f h.0
every-at P (y ∷ xs) (suc p) x h e = every-at P xs p x h.1 e

pick : {X : Type 0} (P : X → Type 0) (b : Bool) (x y : X) → (b ≡ true → P x) → (b ≡ false → P y) → P (if b then x else y)
pick P true x y f g = f refl
pick P false x y f g = g refl

chosen-length : (b : Bool) (x : Declaration) (xs ys : List Declaration) (n : ℕ) → length xs ≡ n + length ys → length (if b then x ∷ xs else xs) ≡ n + length (if b then x ∷ ys else ys)
chosen-length true x xs ys n h = omega (arith, h)
chosen-length false x xs ys n h = h

-- how many pass, with one more behind
count-behind : (test : Declaration → Bool) (xs : List Declaration) (d : Declaration) (n : ℕ) → length (filter test (d ∷ [])) ≡ n → length (filter test (xs ++ d ∷ [])) ≡ n + length (filter test xs)
count-behind test [] d n h = h ∙ plain n
  where
    plain : (n : ℕ) → n ≡ n + 0
    plain n = omega arith
count-behind test (x ∷ xs) d n h = chosen-length (test x) x (filter test (xs ++ d ∷ [])) (filter test xs) n (count-behind test xs d n h)

count-one : (test : Declaration → Bool) (xs : List Declaration) (d : Declaration) → test d ≡ true → length (filter test (xs ++ d ∷ [])) ≡ suc (length (filter test xs))
count-one test xs d h = count-behind test xs d 1 (ap (λ b. length (if b then d ∷ [] else [])) h) ∙ more (length (filter test xs))
  where
    more : (n : ℕ) → 1 + n ≡ suc n
    more n = omega arith

count-none : (test : Declaration → Bool) (xs : List Declaration) (d : Declaration) → test d ≡ false → length (filter test (xs ++ d ∷ [])) ≡ length (filter test xs)
count-none test xs d h = count-behind test xs d 0 (ap (λ b. length (if b then d ∷ [] else [])) h) ∙ more (length (filter test xs))
  where
    more : (n : ℕ) → 0 + n ≡ n
    more n = omega arith

-- ---- what is told stays told

module _ {X : Type 0} (f : X → X) (test : Option X → Bool) (none : test None ≡ false) (same : (x : X) → test (Some x) ≡ true → test (Some (f x)) ≡ true) where
  changed-stays : (n p : ℕ) (xs : List X) → test (slice_get xs p) ≡ true → test (slice_get (changed_at f n xs) p) ≡ true
  changed-stays n p [] h = h
  changed-stays zero zero (x ∷ xs) h = same x h
  changed-stays zero (suc p) (x ∷ xs) h = h
  changed-stays (suc n) zero (x ∷ xs) h = h
  changed-stays (suc n) (suc p) (x ∷ xs) h = changed-stays n p xs h

types-stay : (a : DeclaredNames) (n p : ℕ) (k : StType) → has_type a.types p ≡ true → has_type (with_type a n k).types p ≡ true
types-stay a n p k h = changed-stays (type_told k) (λ o. is_some (option_and_then (λ (t : DeclaredType). t.kind) o)) refl (λ x e. refl) n p a.types h

globals-stay : (a : DeclaredNames) (n p : ℕ) (k : StType) (z : ℤ) → is_global_value (slice_get a.globals p) ≡ true → is_global_value (slice_get (with_global a n k (target.Constant z)).globals p) ≡ true
globals-stay a n p k z h = changed-stays (global_told k (target.Constant z)) is_global_value refl same n p a.globals h
  where
    same : (g : DeclaredGlobal) → is_global_value (Some g) ≡ true → is_global_value (Some (global_told k (target.Constant z) g)) ≡ true
    same (global.Variable v) e = refl
    same (global.Function j r) e = e

values-stay : (vs : List DeclaredVariable) (n p : ℕ) (k : StType) (z : ℤ) → is_value (slice_get vs p) ≡ true → is_value (slice_get (changed_at (variable_told k (target.Constant z)) n vs) p) ≡ true
values-stay vs n p k z h = changed-stays (variable_told k (target.Constant z)) is_value refl (λ v e. refl) n p vs h

members-stay : (a : DeclaredNames) (c i d p : ℕ) (k : StType) (z : ℤ) → is_value (member_in (slice_get a.classes d) p) ≡ true → is_value (member_in (slice_get (with_member a c i k (target.Constant z)).classes d) p) ≡ true
members-stay a c i d p k z h = changed-stays (member_told i k (target.Constant z)) (λ o. is_value (member_in o p)) refl (λ x e. values-stay x.variables i p k z e) c d a.classes h

stays : (a : DeclaredNames) (i j : Job) (k : StType) (z : ℤ) → is_told_of a j ≡ true → is_told_of (with_job a i k z) j ≡ true
stays a (of_entry n e t) (of_entry m f u) k z h = types-stay a n m k h
stays a (of_entry n e t) (of_interface m f) k z h = types-stay a n m k h
stays a (of_entry n e t) (of_class m f) k z h = types-stay a n m k h
stays a (of_entry n e t) (of_global m w) k z h = h
stays a (of_entry n e t) (of_member c m w) k z h = h
stays a (of_interface n e) (of_entry m f u) k z h = types-stay a n m (type.Interface e) h
stays a (of_interface n e) (of_interface m f) k z h = types-stay a n m (type.Interface e) h
stays a (of_interface n e) (of_class m f) k z h = types-stay a n m (type.Interface e) h
stays a (of_interface n e) (of_global m w) k z h = h
stays a (of_interface n e) (of_member c m w) k z h = h
stays a (of_class n e) (of_entry m f u) k z h = types-stay a n m (type.Instance e) h
stays a (of_class n e) (of_interface m f) k z h = types-stay a n m (type.Instance e) h
stays a (of_class n e) (of_class m f) k z h = types-stay a n m (type.Instance e) h
stays a (of_class n e) (of_global m w) k z h = h
stays a (of_class n e) (of_member c m w) k z h = h
stays a (of_global n v) (of_entry m f u) k z h = h
stays a (of_global n v) (of_interface m f) k z h = h
stays a (of_global n v) (of_class m f) k z h = h
stays a (of_global n v) (of_global m w) k z h = globals-stay a n m k z h
stays a (of_global n v) (of_member c m w) k z h = h
stays a (of_member b n v) (of_entry m f u) k z h = h
stays a (of_member b n v) (of_interface m f) k z h = h
stays a (of_member b n v) (of_class m f) k z h = h
stays a (of_member b n v) (of_global m w) k z h = h
stays a (of_member b n v) (of_member c m w) k z h = members-stay a b n c m k z h

-- ---- numbers

length-behind : (xs : List Declaration) (x : Declaration) → length (xs ++ x ∷ []) ≡ suc (length xs)
length-behind [] x = refl
length-behind (y ∷ xs) x = ap (λ n. suc n) (length-behind xs x)

-- the numbers behind the declarations so far
pub record Counts (before : List Declaration) (n : Numbers) : Type 0 where
  types : length (filter is_type before) ≡ n.types
  entries : length (filter is_entry before) ≡ n.entries
  interfaces : length (filter is_interface before) ≡ n.interfaces
  classes : length (filter is_class before) ≡ n.classes
  globals : length (filter is_global_or_function before) ≡ n.globals

counts-next : (before : List Declaration) (n : Numbers) (d : Declaration) → Counts before n → Counts (before ++ d ∷ []) (behind n d)
counts-next before n (an_entry t) c = record {
  types = count-one is_type before (an_entry t) refl ∙ ap (λ m. suc m) c.types;
  entries = count-one is_entry before (an_entry t) refl ∙ ap (λ m. suc m) c.entries;
  interfaces = count-none is_interface before (an_entry t) refl ∙ c.interfaces;
  classes = count-none is_class before (an_entry t) refl ∙ c.classes;
  globals = count-none is_global_or_function before (an_entry t) refl ∙ c.globals;
}
counts-next before n (an_interface i) c = record {
  types = count-one is_type before (an_interface i) refl ∙ ap (λ m. suc m) c.types;
  entries = count-none is_entry before (an_interface i) refl ∙ c.entries;
  interfaces = count-one is_interface before (an_interface i) refl ∙ ap (λ m. suc m) c.interfaces;
  classes = count-none is_class before (an_interface i) refl ∙ c.classes;
  globals = count-none is_global_or_function before (an_interface i) refl ∙ c.globals;
}
counts-next before n (a_class d) c = record {
  types = count-one is_type before (a_class d) refl ∙ ap (λ m. suc m) c.types;
  entries = count-none is_entry before (a_class d) refl ∙ c.entries;
  interfaces = count-none is_interface before (a_class d) refl ∙ c.interfaces;
  classes = count-one is_class before (a_class d) refl ∙ ap (λ m. suc m) c.classes;
  globals = count-none is_global_or_function before (a_class d) refl ∙ c.globals;
}
counts-next before n (a_global g) c = record {
  types = count-none is_type before (a_global g) refl ∙ c.types;
  entries = count-none is_entry before (a_global g) refl ∙ c.entries;
  interfaces = count-none is_interface before (a_global g) refl ∙ c.interfaces;
  classes = count-none is_class before (a_global g) refl ∙ c.classes;
  globals = count-one is_global_or_function before (a_global g) refl ∙ ap (λ m. suc m) c.globals;
}
counts-next before n (a_function f) c = record {
  types = count-none is_type before (a_function f) refl ∙ c.types;
  entries = count-none is_entry before (a_function f) refl ∙ c.entries;
  interfaces = count-none is_interface before (a_function f) refl ∙ c.interfaces;
  classes = count-none is_class before (a_function f) refl ∙ c.classes;
  globals = count-one is_global_or_function before (a_function f) refl ∙ ap (λ m. suc m) c.globals;
}
counts-next before n (a_program p) c = record {
  types = count-none is_type before (a_program p) refl ∙ c.types;
  entries = count-none is_entry before (a_program p) refl ∙ c.entries;
  interfaces = count-none is_interface before (a_program p) refl ∙ c.interfaces;
  classes = count-none is_class before (a_program p) refl ∙ c.classes;
  globals = count-none is_global_or_function before (a_program p) refl ∙ c.globals;
}
counts-next before n (a_configuration f) c = record {
  types = count-none is_type before (a_configuration f) refl ∙ c.types;
  entries = count-none is_entry before (a_configuration f) refl ∙ c.entries;
  interfaces = count-none is_interface before (a_configuration f) refl ∙ c.interfaces;
  classes = count-none is_class before (a_configuration f) refl ∙ c.classes;
  globals = count-none is_global_or_function before (a_configuration f) refl ∙ c.globals;
}

-- ---- jobs stand where declarations do

module _ (decls : List (Decl ℕ)) where
  -- a declaration, and what stands before it
  record Stands (before : List Declaration) (d : Declaration) : Type 0 where
    at : slice_get (declarations decls) (length before) ≡ Some d
    upto : take (length before) (declarations decls) ≡ before

  stands : (before ds : List Declaration) (d : Declaration) → declarations decls ≡ before ++ d ∷ ds → Stands before d
  stands before ds d e = record { at = ap (λ xs. slice_get xs (length before)) e ∙ get-middle before ds d; upto = ap (take (length before)) e ∙ take-middle before (d ∷ ds) }

  number-is : (test : Declaration → Bool) (before : List Declaration) (d : Declaration) (m : ℕ) → Stands before d → length (filter test before) ≡ m → number_before test (declarations decls) (length before) ≡ m
  number-is test before d m s h = ap (λ xs. length (filter test xs)) s.upto ∙ h

  -- of which a job is
  abbrev Belongs : Job → Type 0
  Belongs (of_entry n e t) = (p : ℕ) × (slice_get (declarations decls) p ≡ Some (an_entry t)) × (number_before is_type (declarations decls) p ≡ n) × (number_before is_entry (declarations decls) p ≡ e)
  Belongs (of_interface n i) =
      (p : ℕ) × (d : _) × (slice_get (declarations decls) p ≡ Some (an_interface d)) × (number_before is_type (declarations decls) p ≡ n) × (number_before is_interface (declarations decls) p ≡ i)
  Belongs (of_class n c) = (p : ℕ) × (d : ClassDecl ℕ) × (slice_get (declarations decls) p ≡ Some (a_class d)) × (number_before is_type (declarations decls) p ≡ n) × (number_before is_class (declarations decls) p ≡ c)
  Belongs (of_global n w) =
      (p : ℕ) × (g : _) × (slice_get (declarations decls) p ≡ Some (a_global g)) × (g.written ≡ w) × (w.constant ≡ true) × (number_before is_global_or_function (declarations decls) p ≡ n)
  Belongs (of_member c i w) =
      (p : ℕ) × (d : ClassDecl ℕ) × (slice_get (declarations decls) p ≡ Some (a_class d)) × (slice_get (sections_written (sections_in d.members)) i ≡ Some w) × (w.constant ≡ true)
      × (number_before is_class (declarations decls) p ≡ c)

  length-one : (xs : List Written) (w : Written) (i : ℕ) → length xs ≡ i → length (xs ++ w ∷ []) ≡ suc i
  length-one [] w i e = ap (λ n. suc n) e
  length-one (x ∷ xs) w zero e = absurd (omega (arith, e))
  length-one (x ∷ xs) w (suc i) e = ap (λ n. suc n) (length-one xs w i (omega (arith, e)))

  members-belong : (p c : ℕ) (d : ClassDecl ℕ) → slice_get (declarations decls) p ≡ Some (a_class d) → number_before is_class (declarations decls) p ≡ c → (done ws : List Written) (i : ℕ) → sections_written (sections_in d.members) ≡ done ++ ws
      → length done ≡ i → Every Belongs (member_jobs c i ws)
  members-belong p c d h m done [] i e l = tt
  members-belong p c d h m done (w ∷ ws) i e l =
      let rest = members-belong p c d h m (done ++ w ∷ []) ws (suc i) (e ∙ sym (again done ws w)) (length-one done w i l) in
      pick (Every Belongs) w.constant (of_member c i w ∷ member_jobs c (suc i) ws) (member_jobs c (suc i) ws)
      (λ t. ((p, d, h, ap (λ xs. slice_get xs i) e ∙ ap (slice_get (done ++ w ∷ ws)) (sym l) ∙ get-middle done ws w, t, m), rest)) (λ t. rest)

  one-belongs : (before ds : List Declaration) (n : Numbers) (d : Declaration) → declarations decls ≡ before ++ d ∷ ds → Counts before n → Every Belongs (jobs_of n d)
  one-belongs before ds n (an_entry t) e c =
      let s = stands before ds (an_entry t) e in
      ((length before, s.at, number-is is_type before (an_entry t) n.types s c.types, number-is is_entry before (an_entry t) n.entries s c.entries), tt)
  one-belongs before ds n (an_interface i) e c =
      let s = stands before ds (an_interface i) e in
      ((length before, i, s.at, number-is is_type before (an_interface i) n.types s c.types, number-is is_interface before (an_interface i) n.interfaces s c.interfaces), tt)
  one-belongs before ds n (a_class d) e c =
      let s = stands before ds (a_class d) e in
      let m = number-is is_class before (a_class d) n.classes s c.classes in
      ((length before, d, s.at, number-is is_type before (a_class d) n.types s c.types, m), members-belong (length before) n.classes d s.at m [] (sections_written (sections_in d.members)) 0 refl refl)
  one-belongs before ds n (a_global g) e c =
      let s = stands before ds (a_global g) e in
      pick (Every Belongs) (g.written).constant (of_global n.globals g.written ∷ []) [] (λ t. ((length before, g, s.at, refl, t, number-is is_global_or_function before (a_global g) n.globals s c.globals), tt)) (λ t. tt)
  one-belongs before ds n (a_function f) e c = tt
  one-belongs before ds n (a_program p) e c = tt
  one-belongs before ds n (a_configuration f) e c = tt

  belong-from : (before ds : List Declaration) (n : Numbers) → declarations decls ≡ before ++ ds → Counts before n → Every Belongs (jobs_from n ds)
  belong-from before [] n e c = tt
  belong-from before (d ∷ ds) n e c =
      one-append Belongs (jobs_of n d) (jobs_from (behind n d) ds) (one-belongs before ds n d e c) (belong-from (before ++ d ∷ []) ds (behind n d) (e ∙ sym (again before ds d)) (counts-next before n d c))

  none-before : Counts [] first_numbers
  none-before = record { types = refl; entries = refl; interfaces = refl; classes = refl; globals = refl }

  belong : Every Belongs (jobs_in decls)
  unfolding jobs_in
  belong = belong-from [] (declarations decls) first_numbers refl none-before

  -- ---- one job more

  told-next : (a : DeclaredNames) (j : Job) (k : StType) (z : ℤ) → Sound decls a → Belongs j → Tells decls a j k z → Sound decls (with_job a j k z)
  told-next a (of_entry n e t) k z s b h =
      subst (λ m. Sound decls (with_type a m k)) b.2 (place_laws.entry decls a b.0 t k s b.1 (ap (λ m. entry_kind decls a m t.body) b.3 ∙ h))
  told-next a (of_interface n i) k z s b h =
      subst (λ m. Sound decls (with_type a m (type.Interface i))) b.3
      (subst (λ m. Sound decls (with_type a (number_before is_type (declarations decls) b.0) (type.Interface m))) b.4 (place_laws.interface decls a b.0 b.1 s b.2))
  told-next a (of_class n c) k z s b h =
      subst (λ m. Sound decls (with_type a m (type.Instance c))) b.3
      (subst (λ m. Sound decls (with_type a (number_before is_type (declarations decls) b.0) (type.Instance m))) b.4 (place_laws.class decls a b.0 b.1 s b.2))
  told-next a (of_global n w) k z s b h =
      subst (λ m. Sound decls (with_global a m k (target.Constant z))) b.5
      (place_laws.value decls a b.0 b.1 k z s b.2 (ap (λ x. x.constant) b.3 ∙ b.4) (ap (λ (x : Written). type_written (unit_scope decls a) x.item.kind) b.3 ∙ h.0) (ap (constant_of (unit_scope decls a)) b.3 ∙ h.1))
  told-next a (of_member c i w) k z s b h =
      subst (λ m. Sound decls (with_member a m i k (target.Constant z))) b.5
      (place_laws.member decls a b.0 i b.1 w k z s b.2 b.3 b.4 (ap (λ m. type_written (class_scope decls a m) w.item.kind) b.5 ∙ h.0) (ap (λ m. constant_of (class_scope decls a m) w) b.5 ∙ h.1))

  next : (a : DeclaredNames) (p : ℕ) (j : Job) (k : StType) (z : ℤ) → Sound decls a → slice_get (jobs_in decls) p ≡ Some j → Tells decls a j k z → Sound decls (with_job a j k z)
  next a p j k z s e h = told-next a j k z s (every-at Belongs (jobs_in decls) p j belong e) h

  -- ---- no job left

  module _ (a : DeclaredNames) where
    members-done : (c : ℕ) (ws : List Written) (i : ℕ) → Every (IsDone decls a) (member_jobs c i ws) → (q : ℕ) (w : Written) → slice_get ws q ≡ Some w → w.constant ≡ true → is_some (constant_of (class_scope decls a c) w) ≡ true
        → is_value (member_in (slice_get a.classes c) (i + q)) ≡ true
    members-done c [] i h q w e t k = absurd (cc)
    members-done c (x ∷ ws) i h zero w e t k =
        let same : x ≡ w = cc in
        let all : Every (IsDone decls a) (of_member c i x ∷ member_jobs c (suc i) ws) = subst (λ b. Every (IsDone decls a) (if b then of_member c i x ∷ member_jobs c (suc i) ws else member_jobs c (suc i) ws)) (ap (λ (y : Written). y.constant) same ∙ t) h in
        let here : i ≡ i + 0 = omega arith in
        sym (ap (λ n. is_value (member_in (slice_get a.classes c) n)) here) ∙ all.0 (ap (λ y. is_some (constant_of (class_scope decls a c) y)) same ∙ k)
    members-done c (x ∷ ws) i h (suc q) w e t k =
        let there : suc i + q ≡ i + suc q = omega arith in
        ap (λ n. is_value (member_in (slice_get a.classes c) n)) (sym there) ∙ members-done c ws (suc i) (behind-one x.constant h) q w e t k
      where
        behind-one : (b : Bool) → Every (IsDone decls a) (if b then of_member c i x ∷ member_jobs c (suc i) ws else member_jobs c (suc i) ws) → Every (IsDone decls a) (member_jobs c (suc i) ws)
        behind-one true g = g.1
        behind-one false g = g

    values-done : (c m : ℕ) (ws : List Written) → m ≡ c → Every (IsDone decls a) (member_jobs c 0 ws) → AllValues (class_scope decls a m) ws (λ i. is_value (member_in (slice_get a.classes m) i))
    values-done c m ws e h = λ q w g t k.
        let here : 0 + q ≡ q = omega arith in
        ap (λ x. is_value (member_in (slice_get a.classes x) q)) e ∙ ap (λ n. is_value (member_in (slice_get a.classes c) n)) (sym here)
        ∙ members-done c ws 0 h q w g t (ap (λ x. is_some (constant_of (class_scope decls a x) w)) (sym e) ∙ k)

    global-done : (n m : ℕ) (w : Written) → m ≡ n → Every (IsDone decls a) (global_jobs n w) → w.constant ≡ true → is_some (constant_of (unit_scope decls a) w) ≡ true → is_global_value (slice_get a.globals m) ≡ true
    global-done n m w e h t k =
        let all : Every (IsDone decls a) (of_global n w ∷ []) = subst (λ b. Every (IsDone decls a) (if b then of_global n w ∷ [] else [])) t h in
        ap (λ x. is_global_value (slice_get a.globals x)) e ∙ all.0 k

    one-done : (before ds : List Declaration) (n : Numbers) (d : Declaration) → declarations decls ≡ before ++ d ∷ ds → Counts before n → Every (IsDone decls a) (jobs_of n d) → Done decls a (length before) d
    one-done before ds n (an_entry t) e c h =
        let s = stands before ds (an_entry t) e in
        λ k. ap (has_type a.types) (number-is is_type before (an_entry t) n.types s c.types) ∙ h.0 k
    one-done before ds n (an_interface i) e c h =
        let s = stands before ds (an_interface i) e in
        ap (has_type a.types) (number-is is_type before (an_interface i) n.types s c.types) ∙ h.0 refl
    one-done before ds n (a_class d) e c h =
        let s = stands before ds (a_class d) e in (
          ap (has_type a.types) (number-is is_type before (a_class d) n.types s c.types) ∙ h.0 refl,
          values-done n.classes (number_before is_class (declarations decls) (length before)) (sections_written (sections_in d.members)) (number-is is_class before (a_class d) n.classes s c.classes) h.1,
        )
    one-done before ds n (a_global g) e c h =
        let s = stands before ds (a_global g) e in
        global-done n.globals (number_before is_global_or_function (declarations decls) (length before)) g.written (number-is is_global_or_function before (a_global g) n.globals s c.globals) h
    one-done before ds n (a_function f) e c h = tt
    one-done before ds n (a_program p) e c h = tt
    one-done before ds n (a_configuration f) e c h = tt

    done-from : (before ds : List Declaration) (n : Numbers) → declarations decls ≡ before ++ ds → Counts before n → Every (IsDone decls a) (jobs_from n ds) → (q : ℕ) (d : Declaration) → slice_get ds q ≡ Some d → Done decls a (length before + q) d
    done-from before [] n e c h q d g = absurd (cc)
    done-from before (x ∷ ds) n e c h zero d g =
        let same : x ≡ d = cc in
        let here : length before ≡ length before + 0 = omega arith in
        subst (λ m. Done decls a m d) here (subst (Done decls a (length before)) same (one-done before ds n x e c (both-of (IsDone decls a) (jobs_of n x) (jobs_from (behind n x) ds) h).0))
    done-from before (x ∷ ds) n e c h (suc q) d g =
        let there : length (before ++ x ∷ []) + q ≡ length before + suc q = omega (arith, length-behind before x) in
        subst (λ m. Done decls a m d) there
        (done-from (before ++ x ∷ []) ds (behind n x) (e ∙ sym (again before ds x)) (counts-next before n x c) (both-of (IsDone decls a) (jobs_of n x) (jobs_from (behind n x) ds) h).1 q d g)

    ended : Sound decls a → Every (IsDone decls a) (jobs_in decls) → names_from decls a ≡ unit_names decls
    unfolding jobs_in
    ended s h = place_laws.ended decls a s (λ p d g. let here : 0 + p ≡ p = omega arith in subst (λ m. Done decls a m d) here (done-from [] (declarations decls) first_numbers refl none-before h p d g))

-- ---- what was told is told then

each-at : {X : Type 0} (R : X → X → Type 0) (xs ys : List X) (p : ℕ) (y : X) → Each R xs ys → slice_get ys p ≡ Some y → (x : X) × (slice_get xs p ≡ Some x) × R x y
each-at R [] [] p y h e = absurd (cc)
each-at R (x ∷ xs) (z ∷ ys) zero y h e = let same : z ≡ y = cc in (x, refl, subst (λ w. R x w) same h.0)
each-at R (x ∷ xs) (z ∷ ys) (suc p) y h e = each-at R xs ys p y h.1 e
each-at R [] (z ∷ ys) p y h e = absurd h
each-at R (x ∷ xs) [] p y h e = absurd h

changed-there : {X : Type 0} (f : X → X) (p : ℕ) (xs : List X) (x : X) → slice_get xs p ≡ Some x → slice_get (changed_at f p xs) p ≡ Some (f x)
changed-there f p [] x e = absurd (cc)
changed-there f zero (y ∷ xs) x e = let same : y ≡ x = cc in ap (λ z. Some (f z)) same
changed-there f (suc p) (y ∷ xs) x e = changed-there f p xs x e

module _ (decls : List (Decl ℕ)) (a : DeclaredNames) (s : Sound decls a) where
  -- the names that a unit has in the end are told from those before
  last : DeclaredNames
  last = names_told decls (suc (steps_needed decls))

  last-is : unit_names decls ≡ names_from decls last
  unfolding unit_names last
  last-is = refl

  type-there : (p : ℕ) (d : Declaration) (k : StType) → slice_get (declarations decls) p ≡ Some d → is_type d ≡ true → has_type (with_type a (number_before is_type (declarations decls) p) k).types (number_before is_type (declarations decls) p) ≡ true
  type-there p d k h t =
      let n = number_before is_type (declarations decls) p in
      let x = each-at (AlikeType NoLess MeansNoLess) a.types (unit_names decls).types n _ s.below.types (ap (λ u. slice_get u.types n) last-is ∙ type-at decls last p d h t) in
      ap (λ o. is_some (option_and_then (λ (t : DeclaredType). t.kind) o)) (changed-there (type_told k) n a.types x.0 x.1)

  variable-like : (d : Declaration) (g : Global) (y x : DeclaredGlobal) (k : StType) (z : ℤ) → d ≡ a_global g → GlobalLike decls last d y → AlikeGlobal NoLess MeansNoLess x y → is_global_value (Some (global_told k (target.Constant z) x)) ≡ true
  variable-like d g y (global.Variable v) k z e l m = refl
  variable-like d g (global.Variable w) (global.Function j r) k z e l m = absurd m
  variable-like (a_global f) g (global.Function i q) (global.Function j r) k z e l m = absurd l
  variable-like (an_entry t) g (global.Function i q) (global.Function j r) k z e l m = absurd l
  variable-like (an_interface t) g (global.Function i q) (global.Function j r) k z e l m = absurd l
  variable-like (a_class t) g (global.Function i q) (global.Function j r) k z e l m = absurd l
  variable-like (a_function t) g (global.Function i q) (global.Function j r) k z e l m = absurd (cc)
  variable-like (a_program t) g (global.Function i q) (global.Function j r) k z e l m = absurd l
  variable-like (a_configuration t) g (global.Function i q) (global.Function j r) k z e l m = absurd l

  global-there : (p : ℕ) (g : Global) (k : StType) (z : ℤ) → slice_get (declarations decls) p ≡ Some (a_global g)
      → is_global_value (slice_get (with_global a (number_before is_global_or_function (declarations decls) p) k (target.Constant z)).globals (number_before is_global_or_function (declarations decls) p)) ≡ true
  global-there p g k z h =
      let n = number_before is_global_or_function (declarations decls) p in
      let y = paired-at (GlobalLike decls last) (filter is_global_or_function (declarations decls)) (names_from decls last).globals n (a_global g) (globals-like decls last) (among is_global_or_function (declarations decls) p (a_global g) h refl) in
      let x = each-at (AlikeGlobal NoLess MeansNoLess) a.globals (unit_names decls).globals n y.0 s.below.globals (ap (λ u. slice_get u.globals n) last-is ∙ y.1) in
      ap is_global_value (changed-there (global_told k (target.Constant z)) n a.globals x.0 x.1) ∙ variable-like (a_global g) g y.0 x.0 k z refl y.2 x.2

  member-there : (p i : ℕ) (d : ClassDecl ℕ) (w : Written) (k : StType) (z : ℤ) → slice_get (declarations decls) p ≡ Some (a_class d) → slice_get (sections_written (sections_in d.members)) i ≡ Some w
      → is_value (member_in (slice_get (with_member a (number_before is_class (declarations decls) p) i k (target.Constant z)).classes (number_before is_class (declarations decls) p)) i) ≡ true
  member-there p i d w k z h g =
      let c = number_before is_class (declarations decls) p in
      let x = each-at (AlikeClass NoLess MeansNoLess) a.classes (unit_names decls).classes c _ s.below.classes (ap (λ u. slice_get u.classes c) last-is ∙ class-at decls last p d h) in
      let y = paired-at (VariableLike (class_scope decls last c)) (sections_written (sections_in d.members)) (class_declared decls last c d).variables i w (members-like (class_scope decls last c) _ _ (sections_written (sections_in d.members))) g in
      let v = each-at (AlikeVariable NoLess MeansNoLess) (x.0).variables (class_declared decls last c d).variables i y.0 (x.2).variables y.1 in
      ap (λ o. is_value (member_in o i)) (changed-there (member_told i k (target.Constant z)) c a.classes x.0 x.1)
      ∙ ap is_value (changed-there (variable_told k (target.Constant z)) i (x.0).variables v.0 v.1)

  there : (j : Job) (k : StType) (z : ℤ) → Belongs decls j → is_told_of (with_job a j k z) j ≡ true
  there (of_entry n e t) k z b = subst (λ m. has_type (with_type a m k).types m ≡ true) b.2 (type-there b.0 (an_entry t) k b.1 refl)
  there (of_interface n i) k z b = subst (λ m. has_type (with_type a m (type.Interface i)).types m ≡ true) b.3 (type-there b.0 (an_interface b.1) (type.Interface i) b.2 refl)
  there (of_class n c) k z b = subst (λ m. has_type (with_type a m (type.Instance c)).types m ≡ true) b.3 (type-there b.0 (a_class b.1) (type.Instance c) b.2 refl)
  there (of_global n w) k z b = subst (λ m. is_global_value (slice_get (with_global a m k (target.Constant z)).globals m) ≡ true) b.5 (global-there b.0 b.1 k z b.2)
  there (of_member c i w) k z b = subst (λ m. is_value (member_in (slice_get (with_member a m i k (target.Constant z)).classes m) i) ≡ true) b.5 (member-there b.0 i b.1 w k z b.2 b.3)

told : (decls : List (Decl ℕ)) (a : DeclaredNames) (p : ℕ) (j : Job) (k : StType) (z : ℤ) → Sound decls a → slice_get (jobs_in decls) p ≡ Some j → is_told_of (with_job a j k z) j ≡ true
told decls a p j k z s e = there decls a s j k z (every-at (Belongs decls) (jobs_in decls) p j (belong decls) e)

pub job-laws : JobLaws
job-laws = record { next = next; told = told; stays = stays; ended = ended }
