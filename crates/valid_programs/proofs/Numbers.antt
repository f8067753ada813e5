-- Which numbers of routines stand in the tables of a program's code.
use Rattle.std.proofs.Common.{◌≡◌, ◌<◌, ℕ, zero, suc, ◌+◌, Bool, true, false, List, [], ◌∷◌, ◌++◌, length, map, Option, Some, None, refl, sym, ap, ◌∙◌, subst, arith, length-append}
use Rattle.std.specs.Prelude.{if◌then◌else◌, slice_get, nat_eq, ◌&&◌}
use Rattle.plc_text.specs.Words.{same}
use Rattle.st_rules.specs.Chains.{nearest, ◌or_else◌}
use Rattle.st_values.specs.Program.{Routine, Class, Region, Program, class_at, chain_of}
use Rattle.st_meaning.specs.Call.{class_of_kind}
use Rattle.stack_code.specs.declared.code.InterfaceTarget.{InterfaceTarget}
use Rattle.stack_code.specs.declared.code.Body.{Body}
use Rattle.stack_code.specs.declared.code.MethodRoutine.{MethodRoutine}
use Rattle.stack_code.specs.Steps.{Goes, some_or_stuck, ◌>>=◌}
use Rattle.stack_code.specs.Machine.{first_target}
use Rattle.call_forms.specs.Tables.{Form, for_calls, for_runs, for_hooks, those, so_many, is_hook, is_program, methods_of, methods_before, bodies_of, forms, runs_from, hooks_from, method_at, body_at, run_at, hook_at, next_number, place_among, at_method, placed_in, own_number, found_number, slot_names, class_slots, slots_from, signature_names, one_target, method_targets, interface_targets, targets_from, bodies_at, rows_of, rows_from}
use Rattle.table_laws.proofs.TableLaws.{get_those, get_method, map_long}
use Rattle.valid_programs.specs.Compiled.{HasPrograms}

same_some : {A : Type 0} {a b : A} → Some a ≡ Some b → a ≡ b
same_some e = cc

pub below_of : {A : Type 0} (xs : List A) (i : ℕ) (x : A) → slice_get xs i ≡ Some x → i < length xs
below_of [] i x e = cc
below_of (y ∷ ys) zero x e = omega arith
below_of (y ∷ ys) (suc i) x e = let h = below_of ys i x e in omega (arith, h)

pub there_of : {A : Type 0} (xs : List A) (i : ℕ) → i < length xs → (x : A) × (slice_get xs i ≡ Some x)
there_of [] i h = absurd (omega (arith, h))
there_of (x ∷ xs) zero h = (x, refl)
there_of (x ∷ xs) (suc i) h = there_of xs i (omega (arith, h))

-- ---- the forms that calls enter stand first

abbrev pub Called : List Form → ℕ → Type 0
Called fs k = (x : Routine) × (slice_get fs k ≡ Some (for_calls x))

called_at : (xs : List Routine) (rest : List Form) (k n : ℕ) → ((j : ℕ) → j < n → Called rest j) → k < length xs + n → Called (map for_calls xs ++ rest) k
called_at [] rest k n h l = h k (omega (arith, l))
called_at (x ∷ xs) rest zero n h l = (x, refl)
called_at (x ∷ xs) rest (suc k) n h l = called_at xs rest k n h (omega (arith, l))

module _ (p : Program) where
  pub called_form : (k : ℕ) → k < runs_from p → Called (forms p) k
  called_form k l =
      let long = map_long (λ (k : Class). k.body) p.classes in
      let rest = map for_runs (bodies_of (those is_program p.classes)) ++ map for_hooks (those is_hook (methods_of p.classes)) in
      called_at p.functions (map for_calls (methods_of p.classes) ++ (map for_calls (bodies_of p.classes) ++ rest)) k (length (methods_of p.classes) + length p.classes)
      (λ i m.
      called_at (methods_of p.classes) (map for_calls (bodies_of p.classes) ++ rest) i (length p.classes) (λ j n. called_at (bodies_of p.classes) rest j 0 (λ z q. absurd (omega (arith, q))) (omega (arith, n, long))) m)
      (omega (arith, l))

  -- how many forms there are
  pub forms_long : length (forms p) ≡ hooks_from p + length (those is_hook (methods_of p.classes))
  forms_long =
      let fs = map for_calls p.functions in
      let ms = map for_calls (methods_of p.classes) in
      let bs = map for_calls (bodies_of p.classes) in
      let rs = map for_runs (bodies_of (those is_program p.classes)) in
      let hs = map for_hooks (those is_hook (methods_of p.classes)) in
      let a = length-append fs (ms ++ (bs ++ (rs ++ hs))) in
      let b = length-append ms (bs ++ (rs ++ hs)) in
      let c = length-append bs (rs ++ hs) in
      let d = length-append rs hs in
      let la = map_long for_calls p.functions in
      let lb = map_long for_calls (methods_of p.classes) in
      let lc = map_long for_calls (bodies_of p.classes) ∙ map_long (λ (k : Class). k.body) p.classes in
      let ld = map_long for_runs (bodies_of (those is_program p.classes)) ∙ map_long (λ (k : Class). k.body) (those is_program p.classes) in
      let le = map_long for_hooks (those is_hook (methods_of p.classes)) in
      omega (arith, a, b, c, d, la, lb, lc, ld, le)

  -- ---- methods

  place_below : (rs : List Routine) (name : List ℕ) (j : ℕ) → place_among p rs name ≡ Some j → j < length rs
  place_below [] name j e = cc
  place_below (r ∷ rs) name j e = by (same r.name name) e (place_among p rs name) refl (place_below rs name)
    where
      by : (b : Bool) → (if b then Some 0 else next_number p (place_among p rs name)) ≡ Some j → (o : Option ℕ) → place_among p rs name ≡ o → ((i : ℕ) → place_among p rs name ≡ Some i → i < length rs) → j < suc (length rs)
      by true e o q g = let s : 0 ≡ j = same_some e in omega (arith, s)
      by false e None q g = let f : next_number p None ≡ Some j = ap (next_number p) (sym q) ∙ e in cc
      by false e (Some i) q g =
          let f : Some (suc i) ≡ Some j = ap (next_number p) (sym q) ∙ e in
          let s : suc i ≡ j = same_some f in
          let h = g i q in
          omega (arith, s, h)

  before_below : (ks : List Class) (c j : ℕ) (k : Class) → slice_get ks c ≡ Some k → j < length k.methods → methods_before ks c + j < length (methods_of ks)
  before_below ks c j k e h = let r = there_of k.methods j h in below_of (methods_of ks) (methods_before ks c + j) r.0 (get_method p ks c j k r.0 e r.1)

  method_below : (c j : ℕ) (k : Class) → class_at p c ≡ Some k → j < length k.methods → method_at p c j < runs_from p
  method_below c j k e h = let b = before_below p.classes c j k e h in omega (arith, b)

  own_below : (name : List ℕ) (c n : ℕ) → own_number p name c ≡ Some n → n < runs_from p
  own_below name c n e = by (class_at p c) refl e
    where
      placed : (k : Class) (o : Option ℕ) → class_at p c ≡ Some k → place_among p k.methods name ≡ o → at_method p c o ≡ Some n → n < runs_from p
      placed k None q f e = cc
      placed k (Some j) q f e =
          let s : method_at p c j ≡ n = same_some e in
          subst (λ m. m < runs_from p) s (method_below c j k q (place_below k.methods name j f))

      by : (o : Option Class) → class_at p c ≡ o → placed_in p c o name ≡ Some n → n < runs_from p
      by None q e = cc
      by (Some k) q e = placed k (place_among p k.methods name) q refl e

  nearest_below : (name : List ℕ) (cs : List ℕ) (n : ℕ) → nearest (own_number p name) cs ≡ Some n → n < runs_from p
  nearest_below name [] n e = cc
  nearest_below name (c ∷ cs) n e = by (own_number p name c) refl e (nearest_below name cs n)
    where
      by : (o : Option ℕ) → own_number p name c ≡ o → (o or_else nearest (own_number p name) cs) ≡ Some n → (nearest (own_number p name) cs ≡ Some n → n < runs_from p) → n < runs_from p
      by None q e g = g e
      by (Some m) q e g = own_below name c n (q ∙ e)

  pub found_below : (c : ℕ) (name : List ℕ) (n : ℕ) → found_number p c name ≡ Some n → n < runs_from p
  found_below c name n e = nearest_below name (chain_of (class_at p c)) n e

  -- ---- slots

  slot_in : (o : Option (List (Option ℕ))) (s k : ℕ) → (some_or_stuck o >>= λ slots. some_or_stuck (slice_get slots s) >>= λ slot. some_or_stuck slot) ≡ Goes k → (row : List (Option ℕ)) × (o ≡ Some row) × (slice_get row s ≡ Some (Some k))
  slot_in None s k e = cc
  slot_in (Some row) s k e = by (slice_get row s) refl e
    where
      by : (o : Option (Option ℕ)) → slice_get row s ≡ o → (some_or_stuck o >>= λ slot. some_or_stuck slot) ≡ Goes k → (row' : List (Option ℕ)) × (Some row ≡ Some row') × (slice_get row' s ≡ Some (Some k))
      by None q e = cc
      by (Some None) q e = cc
      by (Some (Some n)) q e = let f : n ≡ k = cc in (row, refl, q ∙ ap (λ m. Some (Some m)) f)

  row_at : (lives : ℕ → Bool) (from : ℕ) (ks : List Class) (c : ℕ) (row : List (Option ℕ)) → slice_get (slots_from p lives from ks) c ≡ Some row → (row ≡ class_slots p (lives (from + c)) (from + c)) × (c < length ks)
  row_at lives from [] c row e = cc
  row_at lives from (k ∷ ks) zero row e =
      let at : from ≡ from + 0 = omega arith in
      let here : class_slots p (lives from) from ≡ row = same_some e in
      (sym here ∙ ap (λ n. class_slots p (lives n) n) at, omega arith)
  row_at lives from (k ∷ ks) (suc c) row e =
      let h = row_at lives (suc from) ks c row e in
      let at : suc from + c ≡ from + suc c = omega arith in
      let l = h.1 in
      (h.0 ∙ ap (λ n. class_slots p (lives n) n) at, omega (arith, l))

  named_slot : (c : ℕ) (names : List (List ℕ)) (s k : ℕ) → slice_get (map (found_number p c) names) s ≡ Some (Some k) → k < runs_from p
  named_slot c [] s k e = cc
  named_slot c (n ∷ ns) zero k e = found_below c n k (same_some e)
  named_slot c (n ∷ ns) (suc s) k e = named_slot c ns s k e

  class_slot : (b : Bool) (c s k : ℕ) → c < length p.classes → slice_get (class_slots p b c) s ≡ Some (Some k) → k < runs_from p
  class_slot false c s k l e = cc
  class_slot true c zero k l e = let f : body_at p c ≡ k = same_some (same_some e) in omega (arith, f, l)
  class_slot true c (suc s) k l e = named_slot c (slot_names p c) s k e

  pub slot_below : (lives : ℕ → Bool) (slots : List (List (Option ℕ))) (c s k : ℕ) → slots ≡ slots_from p lives 0 p.classes → (some_or_stuck (slice_get slots c) >>= λ row. some_or_stuck (slice_get row s) >>= λ slot. some_or_stuck slot) ≡ Goes k → k < runs_from p
  slot_below lives slots c s k e g =
      let r = slot_in (slice_get slots c) s k g in
      let h = row_at lives 0 p.classes c r.0 (sym (ap (λ l. slice_get l c) e) ∙ r.1) in
      let at : 0 + c ≡ c = omega arith in
      class_slot (lives c) c s k h.1 (ap (λ l. slice_get l s) (sym (h.0 ∙ ap (λ n. class_slots p (lives n) n) at)) ∙ r.2)

  -- ---- targets

  abbrev pub TargetsBelow : List InterfaceTarget → Type 0
  TargetsBelow [] = Unit {0}
  TargetsBelow (t ∷ ts) = (t.routine < runs_from p) × TargetsBelow ts

  targets_joined : (a b : List InterfaceTarget) → TargetsBelow a → TargetsBelow b → TargetsBelow (a ++ b)
  targets_joined [] b h k = k
  targets_joined (t ∷ a) b h k = (h.0, targets_joined a b h.1 k)

  one_below : (c i j : ℕ) (o : Option ℕ) → ((n : ℕ) → o ≡ Some n → n < runs_from p) → TargetsBelow (one_target p c i j o)
  one_below c i j None h = tt
  one_below c i j (Some n) h = (h n refl, tt)

  methods_below : (c i j : ℕ) (ns : List (List ℕ)) → TargetsBelow (method_targets p c i j ns)
  methods_below c i j [] = tt
  methods_below c i j (n ∷ ns) = targets_joined (one_target p c i j (found_number p c n)) (method_targets p c i (suc j) ns) (one_below c i j (found_number p c n) (λ k e. found_below c n k e)) (methods_below c i (suc j) ns)

  interfaces_below : (c : ℕ) (is : List ℕ) → TargetsBelow (interface_targets p c is)
  interfaces_below c [] = tt
  interfaces_below c (i ∷ is) = targets_joined (method_targets p c i 0 (signature_names p i)) (interface_targets p c is) (methods_below c i 0 (signature_names p i)) (interfaces_below c is)

  pub targets_below : (lives : ℕ → Bool) (c : ℕ) (ks : List Class) → TargetsBelow (targets_from p lives c ks)
  targets_below lives c [] = tt
  targets_below lives c (k ∷ ks) = targets_joined (if lives c then interface_targets p c k.interfaces else []) (targets_from p lives (suc c) ks) (by (lives c)) (targets_below lives (suc c) ks)
    where
      by : (b : Bool) → TargetsBelow (if b then interface_targets p c k.interfaces else [])
      by true = interfaces_below c k.interfaces
      by false = tt

  pub target_below : (ts : List InterfaceTarget) (i : ℕ) (t : InterfaceTarget) → TargetsBelow ts → slice_get ts i ≡ Some t → t.routine < runs_from p
  target_below [] i t h e = cc
  target_below (x ∷ ts) zero t h e = let s : x ≡ t = same_some e in subst (λ (y : InterfaceTarget). y.routine < runs_from p) s h.0
  target_below (x ∷ ts) (suc i) t h e = target_below ts i t h.1 e

  pub first_below : (ts : List InterfaceTarget) (c i m k : ℕ) → TargetsBelow ts → some_or_stuck (first_target ts c i m) ≡ Goes k → k < runs_from p
  first_below [] c i m k h e = cc
  first_below (t ∷ ts) c i m k h e = by (nat_eq t.class c && nat_eq t.interface i && nat_eq t.method m) e (first_below ts c i m k h.1)
    where
      by : (b : Bool) → some_or_stuck (if b then Some t.routine else first_target ts c i m) ≡ Goes k → (some_or_stuck (first_target ts c i m) ≡ Goes k → k < runs_from p) → k < runs_from p
      by true e g = let s : t.routine ≡ k = cc in subst (λ n. n < runs_from p) s h.0
      by false e g = g e

  -- ---- bodies and methods

  counted_below : {A : Type 0} (test : A → Bool) (xs : List A) (i : ℕ) (x : A) → slice_get xs i ≡ Some x → test x ≡ true → so_many test xs i < length (those test xs)
  counted_below test xs i x e t = below_of (those test xs) (so_many test xs i) x (get_those test xs i x e t)

  run_below : (c : ℕ) (k : Class) → class_at p c ≡ Some k → is_program k ≡ true → run_at p c < length (forms p)
  run_below c k e t = let h = counted_below is_program p.classes c k e t in let l = forms_long in omega (arith, h, l)

  pub body_below : HasPrograms p → (from : ℕ) (xs : List Region) (i : ℕ) (b : Body) → ((j : ℕ) (x : Region) → slice_get xs j ≡ Some x → slice_get p.regions (from + j) ≡ Some x) → slice_get (bodies_at p from xs) i ≡ Some b → b.routine < length (forms p)
  body_below h from [] i b at e = cc
  body_below h from (x ∷ xs) i b at e =
      by x.program refl i e (λ j e. body_below h (suc from) xs j b (λ j y q. let z : suc from + j ≡ from + suc j = omega arith in ap (slice_get p.regions) z ∙ at (suc j) y q) e)
    where
      by : (t : Bool) → x.program ≡ t → (i : ℕ) → slice_get ((if t then record { region = from; routine = run_at p (class_of_kind x.variable.kind) } ∷ [] else []) ++ bodies_at p (suc from) xs) i ≡ Some b
          → ((j : ℕ) → slice_get (bodies_at p (suc from) xs) j ≡ Some b → b.routine < length (forms p)) → b.routine < length (forms p)
      by false q i e g = g i e
      by true q zero e g =
          let g = h from x (let z : from + 0 ≡ from = omega arith in sym (ap (slice_get p.regions) z) ∙ at 0 x refl) q in
          let here : Body = record { region = from; routine = run_at p (class_of_kind x.variable.kind) } in
          let s : here ≡ b = same_some e in
          subst (λ (y : Body). y.routine < length (forms p)) s (run_below (class_of_kind x.variable.kind) g.0 g.1 g.2)
      by true q (suc i) e g = g i e

  hook_below : (c j : ℕ) (k : Class) (r : Routine) → class_at p c ≡ Some k → slice_get k.methods j ≡ Some r → is_hook r ≡ true → hook_at p c j < length (forms p)
  hook_below c j k r e f t =
      let h = counted_below is_hook (methods_of p.classes) (methods_before p.classes c + j) r (get_method p p.classes c j k r e f) t in
      let l = forms_long in
      omega (arith, h, l)

  rows_below : (c j : ℕ) (k : Class) (rs : List Routine) (rest : List MethodRoutine) (i : ℕ) (m : MethodRoutine) → class_at p c ≡ Some k → ((n : ℕ) (r : Routine) → slice_get rs n ≡ Some r → slice_get k.methods (j + n) ≡ Some r)
      → ((n : ℕ) → slice_get rest n ≡ Some m → m.routine < length (forms p)) → slice_get (rows_of p c j rs ++ rest) i ≡ Some m → m.routine < length (forms p)
  rows_below c j k [] rest i m e at h f = h i f
  rows_below c j k (r ∷ rs) rest zero m e at h f =
      let z : j + 0 ≡ j = omega arith in
      let there : slice_get k.methods j ≡ Some r = sym (ap (slice_get k.methods) z) ∙ at 0 r refl in
      let here : MethodRoutine = record { class = c; method = j; routine = if is_hook r then hook_at p c j else method_at p c j } in
      let s : here ≡ m = same_some f in
      subst (λ (y : MethodRoutine). y.routine < length (forms p)) s (by there (is_hook r) refl)
    where
      by : slice_get k.methods j ≡ Some r → (b : Bool) → is_hook r ≡ b → (if b then hook_at p c j else method_at p c j) < length (forms p)
      by there true q = hook_below c j k r e there q
      by there false q = let b = method_below c j k e (below_of k.methods j r there) in let l = forms_long in omega (arith, b, l)
  rows_below c j k (r ∷ rs) rest (suc i) m e at h f =
      rows_below c (suc j) k rs rest i m e (λ n y q. let z : suc j + n ≡ j + suc n = omega arith in ap (slice_get k.methods) z ∙ at (suc n) y q) h f

  pub row_below : (c : ℕ) (ks : List Class) (i : ℕ) (m : MethodRoutine) → ((n : ℕ) (k : Class) → slice_get ks n ≡ Some k → class_at p (c + n) ≡ Some k) → slice_get (rows_from p c ks) i ≡ Some m → m.routine < length (forms p)
  row_below c [] i m at e = cc
  row_below c (k ∷ ks) i m at e =
      let z : c + 0 ≡ c = omega arith in
      rows_below c 0 k k.methods (rows_from p (suc c) ks) i m (sym (ap (class_at p) z) ∙ at 0 k refl) (λ n r q. let y : 0 + n ≡ n = omega arith in ap (slice_get k.methods) y ∙ q)
      (λ n f. row_below (suc c) ks n m (λ n k q. let y : suc c + n ≡ c + suc n = omega arith in ap (class_at p) y ∙ at (suc n) k q) f) e
