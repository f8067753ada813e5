-- The tables that are made from a program are those that its code asks.
use Rattle.std.proofs.Common.{◌≡◌, ◌<◌, ℕ, zero, suc, ◌+◌, Bool, true, false, List, [], ◌∷◌, ◌++◌, length, Option, Some, None, refl, sym, ap, ◌∙◌, subst, arith, append_assoc}
use Rattle.std.specs.Prelude.{if◌then◌else◌, IsTrue, map, reverse, slice_get, nat_eq, ◌&&◌, ◌||◌}
use Rattle.std.specs.List.{list_any}
use Rattle.std.proofs.lemmas.Bool.{eqb-true, eq-eqb}
use Rattle.std.proofs.lemmas.List.{reverse-append}
use Rattle.std.proofs.lemmas.List.Folds.{list_any-append}
use Rattle.std.proofs.lemmas.Slice.Eq.{bytes_eq-Decides}
use Rattle.plc_text.specs.Words.{same}
use Rattle.st_types.specs.declared.st_type.StType.{StType}
use Rattle.st_types.specs.declared.st_type.StType.TheVariants as type
use Rattle.st_rules.specs.Chains.{nearest, is_among, ◌or_else◌}
use Rattle.st_values.specs.Program.{Routine, Class, Interface, Program, class_at, chain_of, named, method_of, own_method, lookup, body_of, body_in, conforms, conforming}
use Rattle.st_values.specs.Value.{Store}
use Rattle.st_meaning.specs.st_frame.Promise.Programs.{ProgramIs}
use Rattle.st_meaning.specs.st_frame.Promise.Calls.{HasInstance}
use Rattle.stack_code.specs.declared.op.Op.{Op}
use Rattle.stack_code.specs.declared.code.InterfaceTarget.{InterfaceTarget}
use Rattle.stack_code.specs.declared.code.Conformance.{Conformance}
use Rattle.stack_code.specs.declared.code.MachineCode.{MachineCode}
use Rattle.stack_code.specs.declared.code.RoutineCode.{RoutineCode}
use Rattle.stack_code.specs.Steps.{Goes, some_or_stuck, some_or_broken, stuck, ◌>>=◌}
use Rattle.stack_code.specs.Machine.{cell_in, first_target, in_slot}
use Rattle.stack_code.specs.Machine as machine
use Rattle.code_cells.specs.declared.cell.Cell.{Cell}
use Rattle.code_cells.specs.Cell.{settled}
use Rattle.code_rules.specs.Bodies.{called_code}
use Rattle.code_rules.specs.Routines.{called_plan}
use Rattle.value_runs.proofs.Ends as ends
use Rattle.call_forms.specs.Tables.{for_calls, for_runs, for_hooks, those, so_many, is_hook, is_program, methods_of, methods_before, bodies_of, forms, method_at, body_at, next_number, place_among, at_method, placed_in, own_number, found_number, names_declared, names_along, slot_names, place_of_name, or_none, class_slots, slots_from, signature_names, one_target, method_targets, interface_targets, targets_from, pairs, conforms_from, target_number, ops_of, lines_of, CodeIs, tables_of}
use Rattle.call_forms.proofs.CallForm.{CodeOf, IsTarget, TablesAre}

some_once : {A : Type 0} {a b : A} → Some a ≡ Some b → a ≡ b
some_once e = cc

false_true : false ≡ true → ⊥
false_true e = cc

-- ---- lists

pub get_front : {A : Type 0} (xs ys : List A) (i : ℕ) (x : A) → slice_get xs i ≡ Some x → slice_get (xs ++ ys) i ≡ Some x
get_front [] ys i x e = cc
get_front (z ∷ zs) ys zero x e = e
get_front (z ∷ zs) ys (suc i) x e = get_front zs ys i x e

pub get_behind : {A : Type 0} (xs ys : List A) (i : ℕ) → slice_get (xs ++ ys) (length xs + i) ≡ slice_get ys i
get_behind [] ys i = let e : 0 + i ≡ i = omega arith in ap (slice_get ys) e
get_behind (x ∷ xs) ys i = let e : length (x ∷ xs) + i ≡ suc (length xs + i) = omega arith in ap (slice_get ((x ∷ xs) ++ ys)) e ∙ get_behind xs ys i

pub get_mapped : {A B : Type 0} (f : A → B) (xs : List A) (i : ℕ) (x : A) → slice_get xs i ≡ Some x → slice_get (map f xs) i ≡ Some (f x)
get_mapped f [] i x e = cc
get_mapped f (z ∷ zs) zero x e = ap (λ y. Some (f y)) (some_once e)
get_mapped f (z ∷ zs) (suc i) x e = get_mapped f zs i x e

pub map_long : {A B : Type 0} (f : A → B) (xs : List A) → length (map f xs) ≡ length xs
map_long f [] = refl
map_long f (x ∷ xs) = ap suc (map_long f xs)

-- those that pass stand where the count of them says
pub get_those : {A : Type 0} (test : A → Bool) (xs : List A) (i : ℕ) (x : A) → slice_get xs i ≡ Some x → test x ≡ true → slice_get (those test xs) (so_many test xs i) ≡ Some x
get_those test [] i x e t = cc
get_those test (z ∷ zs) zero x e t =
    let d : z ≡ x = some_once e in
    ap (λ b. slice_get (if b then z ∷ those test zs else those test zs) 0) (ap test d ∙ t) ∙ e
get_those test (z ∷ zs) (suc i) x e t = by (test z) (get_those test zs i x e t)
  where
    by : (b : Bool) → slice_get (those test zs) (so_many test zs i) ≡ Some x → slice_get (if b then z ∷ those test zs else those test zs) (if b then suc (so_many test zs i) else so_many test zs i) ≡ Some x
    by true h = h
    by false h = h

-- ---- cells in a routine

cells_from : (routine : RoutineCode) (pc : ℕ) (cs : List Cell) (ops : List Op) (lines : List ℕ) → routine.ops ≡ ops → routine.lines ≡ lines → ((i : ℕ) → slice_get ops (pc + i) ≡ slice_get (ops_of pc cs) i) → ((i : ℕ) → slice_get lines (pc + i) ≡ slice_get (lines_of pc cs) i)
    → (code : MachineCode) (now n : ℕ) → slice_get code.routines n ≡ Some routine → ends.Stands code now n pc cs
cells_from routine pc [] ops lines eo el ho hl code now n there = tt
cells_from routine pc (c ∷ cs) ops lines eo el ho hl code now n there =
    let at : pc + 0 ≡ pc = omega arith in
    let o : slice_get routine.ops pc ≡ Some (settled pc c).0 = ap (λ l. slice_get l pc) eo ∙ (ap (slice_get ops) (sym at) ∙ ho 0) in
    let l : slice_get routine.lines pc ≡ Some (settled pc c).1 = ap (λ l. slice_get l pc) el ∙ (ap (slice_get lines) (sym at) ∙ hl 0) in (
      ap (λ x. some_or_broken x >>= cell_in code pc) there
          ∙ (ap (λ x. some_or_broken x >>= λ op. some_or_broken (slice_get routine.lines pc) >>= λ line. Goes (op, line)) o
          ∙ ap (λ x. some_or_broken x >>= λ line. Goes ((settled pc c).0, line)) l),
      cells_from routine (pc + 1) cs ops lines eo el (λ i. let e : pc + 1 + i ≡ pc + suc i = omega arith in ap (slice_get ops) e ∙ ho (suc i)) (λ i. let e : pc + 1 + i ≡ pc + suc i = omega arith in ap (slice_get lines) e ∙ hl (suc i)) code now n there,
    )

pub cells_stand : (routine : RoutineCode) (cs : List Cell) → routine.ops ≡ ops_of 0 cs → routine.lines ≡ lines_of 0 cs → (code : MachineCode) (now n : ℕ) → slice_get code.routines n ≡ Some routine → ends.Stands code now n 0 cs
cells_stand routine cs eo el code now n there =
    cells_from routine 0 cs (ops_of 0 cs) (lines_of 0 cs) eo el (λ i. let e : 0 + i ≡ i = omega arith in ap (slice_get (ops_of 0 cs)) e) (λ i. let e : 0 + i ≡ i = omega arith in ap (slice_get (lines_of 0 cs)) e) code now n there

module _ (p : Program) where
  -- ---- methods by number

  pub get_method : (ks : List Class) (c j : ℕ) (k : Class) (r : Routine) → slice_get ks c ≡ Some k → slice_get k.methods j ≡ Some r → slice_get (methods_of ks) (methods_before ks c + j) ≡ Some r
  get_method [] c j k r e f = cc
  get_method (x ∷ ks) zero j k r e f =
      let d : x ≡ k = some_once e in
      let at : 0 + j ≡ j = omega arith in
      ap (slice_get (x.methods ++ methods_of ks)) at ∙ get_front x.methods (methods_of ks) j r (ap (λ (y : Class). slice_get y.methods j) d ∙ f)
  get_method (x ∷ ks) (suc c) j k r e f =
      let at : length x.methods + methods_before ks c + j ≡ length x.methods + (methods_before ks c + j) = omega arith in
      ap (slice_get (x.methods ++ methods_of ks)) at ∙ (get_behind x.methods (methods_of ks) (methods_before ks c + j) ∙ get_method ks c j k r e f)

  -- the routine of a method as calls enter it
  method_form : (c j : ℕ) (k : Class) (r : Routine) → class_at p c ≡ Some k → slice_get k.methods j ≡ Some r → slice_get (forms p) (method_at p c j) ≡ Some (for_calls r)
  method_form c j k r e f =
      let fs = map for_calls p.functions in
      let ms = map for_calls (methods_of p.classes) in
      let behind = map for_calls (bodies_of p.classes) ++ (map for_runs (bodies_of (those is_program p.classes)) ++ map for_hooks (those is_hook (methods_of p.classes))) in
      let at : method_at p c j ≡ length fs + (methods_before p.classes c + j) = ap (λ n. n + (methods_before p.classes c + j)) (sym (map_long for_calls p.functions)) in
      ap (slice_get (forms p)) at
      ∙ (get_behind fs (ms ++ behind) (methods_before p.classes c + j)
      ∙ get_front ms behind (methods_before p.classes c + j) (for_calls r) (get_mapped for_calls (methods_of p.classes) (methods_before p.classes c + j) r (get_method p.classes c j k r e f)))

  pub function_form : (k : ℕ) (r : Routine) → slice_get p.functions k ≡ Some r → slice_get (forms p) k ≡ Some (for_calls r)
  function_form k r e = get_front (map for_calls p.functions) _ k (for_calls r) (get_mapped for_calls p.functions k r e)

  pub body_form : (c : ℕ) (r : Routine) → body_of p c ≡ Some r → slice_get (forms p) (body_at p c) ≡ Some (for_calls r)
  body_form c r e =
      let fs = map for_calls p.functions in
      let ms = map for_calls (methods_of p.classes) in
      let bs = map for_calls (bodies_of p.classes) in
      let behind = map for_runs (bodies_of (those is_program p.classes)) ++ map for_hooks (those is_hook (methods_of p.classes)) in
      let lf = map_long for_calls p.functions in
      let lm = map_long for_calls (methods_of p.classes) in
      let at : body_at p c ≡ length fs + (length ms + c) = omega (arith, lf, lm) in
      ap (slice_get (forms p)) at
      ∙ (get_behind fs (ms ++ (bs ++ behind)) (length ms + c)
      ∙ (get_behind ms (bs ++ behind) c
      ∙ get_front bs behind c (for_calls r) (get_mapped for_calls (bodies_of p.classes) c r (by (class_at p c) refl e))))
    where
      by : (o : Option Class) → class_at p c ≡ o → body_in o ≡ Some r → slice_get (bodies_of p.classes) c ≡ Some r
      by None q e = cc
      by (Some k) q e = get_mapped (λ (k : Class). k.body) p.classes c k q ∙ e

  -- ---- look-up by name is look-up by number

  pub found_among : (rs : List Routine) (name : List ℕ) (r : Routine) → named rs name ≡ Some r → (j : ℕ) × (place_among p rs name ≡ Some j) × (slice_get rs j ≡ Some r)
  found_among [] name r e = cc
  found_among (x ∷ xs) name r e = by (same x.name name) e (found_among xs name r)
    where
      by : (b : Bool) → (if b then Some x else named xs name) ≡ Some r → (named xs name ≡ Some r → (j : ℕ) × (place_among p xs name ≡ Some j) × (slice_get xs j ≡ Some r))
          → (j : ℕ) × ((if b then Some 0 else next_number p (place_among p xs name)) ≡ Some j) × (slice_get (x ∷ xs) j ≡ Some r)
      by true e g = (0, refl, e)
      by false e g = let h = g e in (suc h.0, ap (next_number p) h.1, h.2)

  none_among : (rs : List Routine) (name : List ℕ) → named rs name ≡ None → place_among p rs name ≡ None
  none_among [] name e = refl
  none_among (x ∷ xs) name e = by (same x.name name) e (none_among xs name)
    where
      by : (b : Bool) → (if b then Some x else named xs name) ≡ None → (named xs name ≡ None → place_among p xs name ≡ None) → (if b then Some 0 else next_number p (place_among p xs name)) ≡ None
      by true e g = cc
      by false e g = ap (next_number p) (g e)

  -- which number the nearest method has
  pub record Numbered (o : Option ℕ) (r : Routine) : Type 0 where
    pub number : ℕ
    pub is : o ≡ Some number
    pub form : slice_get (forms p) number ≡ Some (for_calls r)

  own_found : (name : List ℕ) (c : ℕ) (r : Routine) → own_method p name c ≡ Some r → Numbered (own_number p name c) r
  own_found name c r e = by (class_at p c) refl e
    where
      by : (o : Option Class) → class_at p c ≡ o → method_of o name ≡ Some r → Numbered (placed_in p c o name) r
      by None q e = cc
      by (Some k) q e =
          let h = found_among k.methods name r e in
          record { number = method_at p c h.0; is = ap (at_method p c) h.1; form = method_form c h.0 k r q h.2 }

  own_none : (name : List ℕ) (c : ℕ) → own_method p name c ≡ None → own_number p name c ≡ None
  own_none name c e = by (class_at p c) e
    where
      by : (o : Option Class) → method_of o name ≡ None → placed_in p c o name ≡ None
      by None e = refl
      by (Some k) e = ap (at_method p c) (none_among k.methods name e)

  nearest_found : (name : List ℕ) (cs : List ℕ) (r : Routine) → nearest (own_method p name) cs ≡ Some r → Numbered (nearest (own_number p name) cs) r
  nearest_found name [] r e = cc
  nearest_found name (c ∷ cs) r e = by (own_method p name c) refl e (nearest_found name cs r)
    where
      by : (o : Option Routine) → own_method p name c ≡ o → (o or_else nearest (own_method p name) cs) ≡ Some r → (nearest (own_method p name) cs ≡ Some r → Numbered (nearest (own_number p name) cs) r) → Numbered (own_number p name c or_else nearest (own_number p name) cs) r
      by None q e g = let h = g e in record { number = h.number; is = ap (λ o. o or_else nearest (own_number p name) cs) (own_none name c q) ∙ h.is; form = h.form }
      by (Some x) q e g = let h = own_found name c r (q ∙ e) in record { number = h.number; is = ap (λ o. o or_else nearest (own_number p name) cs) h.is; form = h.form }

  pub method_found : (c : ℕ) (name : List ℕ) (r : Routine) → lookup p c name ≡ Some r → Numbered (found_number p c name) r
  unfolding lookup
  method_found c name r e = nearest_found name (chain_of (class_at p c)) r e

  -- ---- slots

  place_front : (name : List ℕ) (xs ys : List (List ℕ)) (s : ℕ) → place_of_name p name xs ≡ Some s → place_of_name p name (xs ++ ys) ≡ Some s
  place_front name [] ys s e = cc
  place_front name (x ∷ xs) ys s e = by (same x name) e (place_front name xs ys)
    where
      by : (b : Bool) → (if b then Some 0 else next_number p (place_of_name p name xs)) ≡ Some s → ((s : ℕ) → place_of_name p name xs ≡ Some s → place_of_name p name (xs ++ ys) ≡ Some s) → (if b then Some 0 else next_number p (place_of_name p name (xs ++ ys))) ≡ Some s
      by true e g = e
      by false e g = next (place_of_name p name xs) refl e
        where
          next : (o : Option ℕ) → place_of_name p name xs ≡ o → next_number p o ≡ Some s → next_number p (place_of_name p name (xs ++ ys)) ≡ Some s
          next None q e = cc
          next (Some k) q e = ap (next_number p) (g k q) ∙ e

  place_behind : (name : List ℕ) (xs ys : List (List ℕ)) (s : ℕ) → place_of_name p name ys ≡ Some s → (k : ℕ) × (place_of_name p name (xs ++ ys) ≡ Some k)
  place_behind name [] ys s e = (s, e)
  place_behind name (x ∷ xs) ys s e = by (same x name) (place_behind name xs ys s e)
    where
      by : (b : Bool) → (k : ℕ) × (place_of_name p name (xs ++ ys) ≡ Some k) → (k : ℕ) × ((if b then Some 0 else next_number p (place_of_name p name (xs ++ ys))) ≡ Some k)
      by true h = (0, refl)
      by false h = (suc h.0, ap (next_number p) h.1)

  -- the name that stands there
  name_there : (name : List ℕ) (xs : List (List ℕ)) (s : ℕ) → place_of_name p name xs ≡ Some s → (n : List ℕ) × (slice_get xs s ≡ Some n) × (same n name ≡ true)
  name_there name [] s e = cc
  name_there name (x ∷ xs) s e = by (same x name) refl e (name_there name xs)
    where
      by : (b : Bool) → same x name ≡ b → (if b then Some 0 else next_number p (place_of_name p name xs)) ≡ Some s → ((s : ℕ) → place_of_name p name xs ≡ Some s → (n : List ℕ) × (slice_get xs s ≡ Some n) × (same n name ≡ true)) → (n : List ℕ) × (slice_get (x ∷ xs) s ≡ Some n) × (same n name ≡ true)
      by true q e g = let d : 0 ≡ s = some_once e in (x, ap (slice_get (x ∷ xs)) (sym d), q)
      by false q e g = next (place_of_name p name xs) refl e
        where
          next : (o : Option ℕ) → place_of_name p name xs ≡ o → next_number p o ≡ Some s → (n : List ℕ) × (slice_get (x ∷ xs) s ≡ Some n) × (same n name ≡ true)
          next None r e = cc
          next (Some k) r e = let h = g k r in let d : suc k ≡ s = some_once e in (h.0, ap (slice_get (x ∷ xs)) (sym d) ∙ h.1, h.2)

  -- a class that declares a method has its name among its names
  declared_there : (name : List ℕ) (c : ℕ) (r : Routine) → own_method p name c ≡ Some r → (s : ℕ) × (place_of_name p name (names_declared p (class_at p c)) ≡ Some s)
  declared_there name c r e = by (class_at p c) e
    where
      among : (rs : List Routine) → named rs name ≡ Some r → (s : ℕ) × (place_of_name p name (map (λ (r : Routine). r.name) rs) ≡ Some s)
      among [] e = cc
      among (x ∷ xs) e = at (same x.name name) e (among xs)
        where
          at : (b : Bool) → (if b then Some x else named xs name) ≡ Some r → (named xs name ≡ Some r → (s : ℕ) × (place_of_name p name (map (λ (r : Routine). r.name) xs) ≡ Some s)) → (s : ℕ) × ((if b then Some 0 else next_number p (place_of_name p name (map (λ (r : Routine). r.name) xs))) ≡ Some s)
          at true e g = (0, refl)
          at false e g = let h = g e in (suc h.0, ap (next_number p) h.1)

      by : (o : Option Class) → method_of o name ≡ Some r → (s : ℕ) × (place_of_name p name (names_declared p o) ≡ Some s)
      by None e = cc
      by (Some k) e = among k.methods e

  names_joined : (us bs : List ℕ) → names_along p (us ++ bs) ≡ names_along p us ++ names_along p bs
  names_joined [] bs = refl
  names_joined (a ∷ us) bs = ap (λ l. names_declared p (class_at p a) ++ l) (names_joined us bs) ∙ sym (append_assoc (names_declared p (class_at p a)) (names_along p us) (names_along p bs))

  -- a name that a class of the chain declares is among those of the reversed chain
  along_there : (name : List ℕ) (cs : List ℕ) (r : Routine) → nearest (own_method p name) cs ≡ Some r → (s : ℕ) × (place_of_name p name (names_along p (reverse cs)) ≡ Some s)
  along_there name [] r e = cc
  along_there name (c ∷ cs) r e = by (own_method p name c) refl e (along_there name cs r)
    where
      turned : names_along p (reverse (c ∷ cs)) ≡ names_along p (reverse cs) ++ (names_declared p (class_at p c) ++ [])
      turned = ap (names_along p) (reverse-append (c ∷ []) cs) ∙ names_joined (reverse cs) (c ∷ [])

      by : (o : Option Routine) → own_method p name c ≡ o → (o or_else nearest (own_method p name) cs) ≡ Some r → (nearest (own_method p name) cs ≡ Some r → (s : ℕ) × (place_of_name p name (names_along p (reverse cs)) ≡ Some s)) → (s : ℕ) × (place_of_name p name (names_along p (reverse (c ∷ cs))) ≡ Some s)
      by None q e g = let h = g e in (h.0, ap (place_of_name p name) turned ∙ place_front name (names_along p (reverse cs)) (names_declared p (class_at p c) ++ []) h.0 h.1)
      by (Some x) q e g =
          let h = declared_there name c x q in
          let k = place_behind name (names_along p (reverse cs)) (names_declared p (class_at p c) ++ []) h.0 (place_front name (names_declared p (class_at p c)) [] h.0 h.1) in
          (k.0, ap (place_of_name p name) turned ∙ k.1)

  pub slot_there : (d : ℕ) (name : List ℕ) (r : Routine) → lookup p d name ≡ Some r → (s : ℕ) × (place_of_name p name (slot_names p d) ≡ Some s)
  unfolding lookup
  slot_there d name r e = along_there name (chain_of (class_at p d)) r e

  -- what each class's chain is
  pub record ChainsAre : Type 0 where
    -- the chain of a class ends with that of each class to which it conforms
    pub above : (c d : ℕ) → IsTrue (conforms p c (type.Instance d)) → (cs : List ℕ) × (chain_of (class_at p c) ≡ cs ++ chain_of (class_at p d))
    -- classes and interfaces are numbered within the program
    pub classes : (c d : ℕ) → is_among d (chain_of (class_at p c)) ≡ true → d < length p.classes

  pub chains_are : ProgramIs p → ChainsAre
  chains_are fine = record { above = fine.chains; classes = fine.bases }

  -- a base's slots are the first ones of each class below it
  slots_above : ChainsAre → (c d s : ℕ) (name : List ℕ) → IsTrue (conforms p c (type.Instance d)) → place_of_name p name (slot_names p d) ≡ Some s → place_of_name p name (slot_names p c) ≡ Some s
  slots_above chains c d s name h e =
      let a = chains.above c d h in
      let turned : slot_names p c ≡ slot_names p d ++ names_along p (reverse a.0) = ap (λ l. names_along p (reverse l)) a.1 ∙ (ap (names_along p) (reverse-append a.0 (chain_of (class_at p d))) ∙ names_joined (reverse (chain_of (class_at p d))) (reverse a.0)) in
      ap (place_of_name p name) turned ∙ place_front name (slot_names p d) (names_along p (reverse a.0)) s e

  -- ---- rows of classes

  get_slots : (lives : ℕ → Bool) (ks : List Class) (from i : ℕ) (k : Class) → slice_get ks i ≡ Some k → slice_get (slots_from p lives from ks) i ≡ Some (class_slots p (lives (from + i)) (from + i))
  get_slots lives [] from i k e = cc
  get_slots lives (x ∷ xs) from zero k e = let at : from ≡ from + 0 = omega arith in ap (λ n. Some (class_slots p (lives n) n)) at
  get_slots lives (x ∷ xs) from (suc i) k e = let at : suc from + i ≡ from + suc i = omega arith in get_slots lives xs (suc from) i k e ∙ ap (λ n. Some (class_slots p (lives n) n)) at

  chain_has : (c d : ℕ) → IsTrue (conforms p c (type.Instance d)) → is_among d (chain_of (class_at p c)) ≡ true
  unfolding conforms
  chain_has c d h = by (class_at p c) h
    where
      by : (o : Option Class) → IsTrue (conforming (type.Instance d) o) → is_among d (chain_of o) ≡ true
      by None h = absurd (false_true h)
      by (Some k) h = h

  class_there : (c : ℕ) (t : StType) → IsTrue (conforms p c t) → (k : Class) × (class_at p c ≡ Some k)
  unfolding conforms
  class_there c t h = by (class_at p c) refl h
    where
      by : (o : Option Class) → class_at p c ≡ o → IsTrue (conforming t o) → (k : Class) × (class_at p c ≡ Some k)
      by None q h = absurd (false_true h)
      by (Some k) q h = (k, q)

  -- ---- conformity

  abbrev asked : ℕ → ℕ → Conformance → Bool
  asked c t = λ x. nat_eq x.class c && nat_eq x.target t

  same_number : (a b : ℕ) → nat_eq a b ≡ nat_eq b a
  same_number a b = by (nat_eq a b) refl
    where
      other : (a b : ℕ) → (a ≡ b → ⊥) → (t : Bool) → nat_eq a b ≡ t → nat_eq a b ≡ false
      other a b h true e = absurd (h (eqb-true a b e))
      other a b h false e = e

      by : (t : Bool) → nat_eq a b ≡ t → nat_eq a b ≡ nat_eq b a
      by true e = e ∙ sym (eq-eqb b a (sym (eqb-true a b e)))
      by false e = e ∙ sym (other b a (λ q. false_true (sym e ∙ eq-eqb a b (sym q))) (nat_eq b a) refl)

  not_equal : (a b : ℕ) → (a ≡ b → ⊥) → nat_eq a b ≡ false
  not_equal a b h = by (nat_eq a b) refl
    where
      by : (t : Bool) → nat_eq a b ≡ t → nat_eq a b ≡ false
      by true e = absurd (h (eqb-true a b e))
      by false e = e

  pairs_of_others : (c d above t : ℕ) (ts : List ℕ) → (d ≡ c → ⊥) → list_any (asked c t) (pairs p d above ts) ≡ false
  pairs_of_others c d above t [] h = refl
  pairs_of_others c d above t (x ∷ ts) h = ap (λ b. (b && nat_eq (above + x) t) || list_any (asked c t) (pairs p d above ts)) (not_equal d c h) ∙ pairs_of_others c d above t ts h

  pairs_of_it : (c above t : ℕ) (ts : List ℕ) → list_any (asked c t) (pairs p c above ts) ≡ list_any (λ x. nat_eq (above + x) t) ts
  pairs_of_it c above t [] = refl
  pairs_of_it c above t (x ∷ ts) =
      ap (λ b. (b && nat_eq (above + x) t) || list_any (asked c t) (pairs p c above ts)) (eq-eqb c c refl)
      ∙ ap (λ b. nat_eq (above + x) t || b) (pairs_of_it c above t ts)

  abbrev row_asked : ℕ → ℕ → Option Class → Bool
  row_asked c t None = false
  row_asked c t (Some k) = list_any (asked c t) (pairs p c 0 k.chain) || list_any (asked c t) (pairs p c (length p.classes) k.interfaces)

  three : (a b : List Conformance) (rest : List Conformance) (c t : ℕ) → list_any (asked c t) (a ++ (b ++ rest)) ≡ ((list_any (asked c t) a || list_any (asked c t) b) || list_any (asked c t) rest)
  three a b rest c t = list_any-append (asked c t) a (b ++ rest) ∙ (ap (λ y. list_any (asked c t) a || y) (list_any-append (asked c t) b rest) ∙ grouped (list_any (asked c t) a) (list_any (asked c t) b) (list_any (asked c t) rest))
    where
      grouped : (x y z : Bool) → (x || (y || z)) ≡ ((x || y) || z)
      grouped true y z = refl
      grouped false y z = refl

  rows_after : (c t from : ℕ) (ks : List Class) → c < from → list_any (asked c t) (conforms_from p from ks) ≡ false
  rows_after c t from [] h = refl
  rows_after c t from (k ∷ ks) h =
      let other : from ≡ c → ⊥ = λ e. absurd (omega (arith, h, e)) in
      three (pairs p from 0 k.chain) (pairs p from (length p.classes) k.interfaces) (conforms_from p (suc from) ks) c t
      ∙ (ap (λ b. (b || list_any (asked c t) (pairs p from (length p.classes) k.interfaces)) || list_any (asked c t) (conforms_from p (suc from) ks)) (pairs_of_others c from 0 t k.chain other)
      ∙ (ap (λ b. b || list_any (asked c t) (conforms_from p (suc from) ks)) (pairs_of_others c from (length p.classes) t k.interfaces other)
      ∙ rows_after c t (suc from) ks (omega (arith, h))))

  rows_at : (t from i c : ℕ) (ks : List Class) → c ≡ from + i → list_any (asked c t) (conforms_from p from ks) ≡ row_asked c t (slice_get ks i)
  rows_at t from i c [] e = refl
  rows_at t from zero c (k ∷ ks) e =
      let here : from ≡ c = omega (arith, e) in
      let past : c < suc from = omega (arith, e) in
      three (pairs p from 0 k.chain) (pairs p from (length p.classes) k.interfaces) (conforms_from p (suc from) ks) c t
      ∙ (ap (λ b. (list_any (asked c t) (pairs p from 0 k.chain) || list_any (asked c t) (pairs p from (length p.classes) k.interfaces)) || b) (rows_after c t (suc from) ks past)
      ∙ (or_false (list_any (asked c t) (pairs p from 0 k.chain) || list_any (asked c t) (pairs p from (length p.classes) k.interfaces))
      ∙ ap (λ n. list_any (asked c t) (pairs p n 0 k.chain) || list_any (asked c t) (pairs p n (length p.classes) k.interfaces)) here))
    where
      or_false : (x : Bool) → (x || false) ≡ x
      or_false true = refl
      or_false false = refl
  rows_at t from (suc i) c (k ∷ ks) e =
      let other : from ≡ c → ⊥ = λ q. absurd (omega (arith, q, e)) in
      three (pairs p from 0 k.chain) (pairs p from (length p.classes) k.interfaces) (conforms_from p (suc from) ks) c t
      ∙ (ap (λ b. (b || list_any (asked c t) (pairs p from (length p.classes) k.interfaces)) || list_any (asked c t) (conforms_from p (suc from) ks)) (pairs_of_others c from 0 t k.chain other)
      ∙ (ap (λ b. b || list_any (asked c t) (conforms_from p (suc from) ks)) (pairs_of_others c from (length p.classes) t k.interfaces other)
      ∙ rows_at t (suc from) i c ks (omega (arith, e))))

  -- a class among those of a chain, and an interface among those of a class
  chain_asked : (d : ℕ) (ts : List ℕ) → list_any (λ x. nat_eq (0 + x) d) ts ≡ is_among d ts
  chain_asked d [] = refl
  chain_asked d (x ∷ ts) = let at : 0 + x ≡ x = omega arith in ap (λ b. b || list_any (λ x. nat_eq (0 + x) d) ts) (ap (λ y. nat_eq y d) at ∙ same_number x d) ∙ ap (λ b. nat_eq d x || b) (chain_asked d ts)

  shifted : (a x i : ℕ) → nat_eq (a + x) (a + i) ≡ nat_eq i x
  shifted a x i = by (nat_eq i x) refl
    where
      by : (t : Bool) → nat_eq i x ≡ t → nat_eq (a + x) (a + i) ≡ nat_eq i x
      by true e = let q = eqb-true i x e in eq-eqb (a + x) (a + i) (omega (arith, q)) ∙ sym e
      by false e = not_equal (a + x) (a + i) (λ q. let same : i ≡ x = omega (arith, q) in false_true (sym e ∙ eq-eqb i x same)) ∙ sym e

  interfaces_asked : (i : ℕ) (ts : List ℕ) → list_any (λ x. nat_eq (length p.classes + x) (length p.classes + i)) ts ≡ is_among i ts
  interfaces_asked i [] = refl
  interfaces_asked i (x ∷ ts) = ap (λ b. b || list_any (λ x. nat_eq (length p.classes + x) (length p.classes + i)) ts) (shifted (length p.classes) x i) ∙ ap (λ b. nat_eq i x || b) (interfaces_asked i ts)

  no_interface : (d : ℕ) (ts : List ℕ) → d < length p.classes → list_any (λ x. nat_eq (length p.classes + x) d) ts ≡ false
  no_interface d [] l = refl
  no_interface d (x ∷ ts) l = ap (λ b. b || list_any (λ x. nat_eq (length p.classes + x) d) ts) (not_equal (length p.classes + x) d (λ e. absurd (omega (arith, l, e)))) ∙ no_interface d ts l

  no_class : (i : ℕ) (ts : List ℕ) → ((d : ℕ) → is_among d ts ≡ true → d < length p.classes) → list_any (λ x. nat_eq (0 + x) (length p.classes + i)) ts ≡ false
  no_class i [] h = refl
  no_class i (x ∷ ts) h =
      let low = h x (ap (λ b. b || is_among x ts) (eq-eqb x x refl)) in
      ap (λ b. b || list_any (λ x. nat_eq (0 + x) (length p.classes + i)) ts) (not_equal (0 + x) (length p.classes + i) (λ e. absurd (omega (arith, low, e))))
      ∙ no_class i ts (λ d e. h d (or_true (nat_eq d x) (is_among d ts) e))
    where
      or_true : (a b : Bool) → b ≡ true → (a || b) ≡ true
      or_true true b e = refl
      or_true false b e = e

  or_false : (x : Bool) → (x || false) ≡ x
  or_false true = refl
  or_false false = refl

  class_row : (c d : ℕ) (o : Option Class) → d < length p.classes → row_asked c d o ≡ conforming (type.Instance d) o
  class_row c d None l = refl
  class_row c d (Some k) l =
      ap (λ b. list_any (asked c d) (pairs p c 0 k.chain) || b) (pairs_of_it c (length p.classes) d k.interfaces ∙ no_interface d k.interfaces l)
      ∙ (or_false (list_any (asked c d) (pairs p c 0 k.chain)) ∙ (pairs_of_it c 0 d k.chain ∙ chain_asked d k.chain))

  interface_row : (c i : ℕ) (o : Option Class) → ((d : ℕ) → is_among d (chain_of o) ≡ true → d < length p.classes) → row_asked c (length p.classes + i) o ≡ conforming (type.Interface i) o
  interface_row c i None h = refl
  interface_row c i (Some k) h =
      ap (λ b. b || list_any (asked c (length p.classes + i)) (pairs p c (length p.classes) k.interfaces)) (pairs_of_it c 0 (length p.classes + i) k.chain ∙ no_class i k.chain h)
      ∙ (pairs_of_it c (length p.classes) (length p.classes + i) k.interfaces ∙ interfaces_asked i k.interfaces)

  conforms_asked : (code : MachineCode) (c t : ℕ) → code.conforms ≡ conforms_from p 0 p.classes → machine.conforms code c t ≡ row_asked c t (class_at p c)
  conforms_asked code c t e = ap (list_any (asked c t)) e ∙ rows_at t 0 c c p.classes (omega arith)

  pub conforms_as_told : (code : MachineCode) (c d : ℕ) → code.conforms ≡ conforms_from p 0 p.classes → d < length p.classes → machine.conforms code c d ≡ conforms p c (type.Instance d)
  unfolding conforms
  conforms_as_told code c d e l = conforms_asked code c d e ∙ class_row c d (class_at p c) l

  pub interface_as_told : ChainsAre → (code : MachineCode) (c i : ℕ) → code.conforms ≡ conforms_from p 0 p.classes → machine.conforms code c (length p.classes + i) ≡ conforms p c (type.Interface i)
  unfolding conforms
  interface_as_told chains code c i e = conforms_asked code c (length p.classes + i) e ∙ interface_row c i (class_at p c) (chains.classes c)

  reference_as_told : (c d : ℕ) → conforms p c (type.Instance d) ≡ conforms p c (type.Reference d)
  unfolding conforms
  reference_as_told c d = by (class_at p c)
    where
      by : (o : Option Class) → conforming (type.Instance d) o ≡ conforming (type.Reference d) o
      by None = refl
      by (Some k) = refl

  -- ---- targets of interfaces

  abbrev pub Found : List InterfaceTarget → ℕ → ℕ → ℕ → Option ℕ
  Found xs c i m = first_target xs c i m

  found_front : (xs ys : List InterfaceTarget) (c i m n : ℕ) → first_target xs c i m ≡ Some n → first_target (xs ++ ys) c i m ≡ Some n
  found_front [] ys c i m n e = cc
  found_front (x ∷ xs) ys c i m n e = by (nat_eq x.class c && nat_eq x.interface i && nat_eq x.method m) e (found_front xs ys c i m n)
    where
      by : (b : Bool) → (if b then Some x.routine else first_target xs c i m) ≡ Some n → (first_target xs c i m ≡ Some n → first_target (xs ++ ys) c i m ≡ Some n) → (if b then Some x.routine else first_target (xs ++ ys) c i m) ≡ Some n
      by true e g = e
      by false e g = g e

  found_behind : (xs ys : List InterfaceTarget) (c i m : ℕ) → first_target xs c i m ≡ None → first_target (xs ++ ys) c i m ≡ first_target ys c i m
  found_behind [] ys c i m e = refl
  found_behind (x ∷ xs) ys c i m e = by (nat_eq x.class c && nat_eq x.interface i && nat_eq x.method m) e (found_behind xs ys c i m)
    where
      by : (b : Bool) → (if b then Some x.routine else first_target xs c i m) ≡ None → (first_target xs c i m ≡ None → first_target (xs ++ ys) c i m ≡ first_target ys c i m) → (if b then Some x.routine else first_target (xs ++ ys) c i m) ≡ first_target ys c i m
      by true e g = cc
      by false e g = g e

  -- rows that differ in the class, the interface or the method are passed over
  one_other : (d j k c i m : ℕ) (o : Option ℕ) → (nat_eq d c && nat_eq j i && nat_eq k m) ≡ false → first_target (one_target p d j k o) c i m ≡ None
  one_other d j k c i m None e = refl
  one_other d j k c i m (Some n) e = ap (λ b. if b then Some n else None) e

  methods_other : (d j c i m k : ℕ) (ns : List (List ℕ)) → (nat_eq d c && nat_eq j i) ≡ false → first_target (method_targets p d j k ns) c i m ≡ None
  methods_other d j c i m k [] e = refl
  methods_other d j c i m k (n ∷ ns) e =
      found_behind (one_target p d j k (found_number p d n)) (method_targets p d j (suc k) ns) c i m (one_other d j k c i m (found_number p d n) (both (nat_eq d c) (nat_eq j i) (nat_eq k m) e))
      ∙ methods_other d j c i m (suc k) ns e
    where
      both : (x y z : Bool) → (x && y) ≡ false → (x && y && z) ≡ false
      both true true z e = cc
      both true false z e = refl
      both false y z e = refl

  interfaces_other : (d c i m : ℕ) (js : List ℕ) → (d ≡ c → ⊥) → first_target (interface_targets p d js) c i m ≡ None
  interfaces_other d c i m [] h = refl
  interfaces_other d c i m (j ∷ js) h =
      found_behind (method_targets p d j 0 (signature_names p j)) (interface_targets p d js) c i m (methods_other d j c i m 0 (signature_names p j) (ap (λ b. b && nat_eq j i) (not_equal d c h)))
      ∙ interfaces_other d c i m js h

  -- the method itself
  method_target_at : (c i k s : ℕ) (ns : List (List ℕ)) (n : List ℕ) (r m : ℕ) → m ≡ k + s → slice_get ns s ≡ Some n → found_number p c n ≡ Some r → first_target (method_targets p c i k ns) c i m ≡ Some r
  method_target_at c i k s [] n r m at e f = cc
  method_target_at c i k zero (x ∷ ns) n r m at e f =
      let d : x ≡ n = some_once e in
      let here : m ≡ k = omega (arith, at) in
      found_front (one_target p c i k (found_number p c x)) (method_targets p c i (suc k) ns) c i m r
      (ap (λ y. first_target (one_target p c i k (found_number p c y)) c i m) d ∙ (ap (λ o. first_target (one_target p c i k o) c i m) f
      ∙ (ap (λ b. if b && nat_eq i i && nat_eq k m then Some r else None) (eq-eqb c c refl) ∙ (ap (λ b. if b && nat_eq k m then Some r else None) (eq-eqb i i refl) ∙ ap (λ b. if b then Some r else None) (eq-eqb k m (sym here))))))
  method_target_at c i k (suc s) (x ∷ ns) n r m at e f =
      let other : k ≡ m → ⊥ = λ q. absurd (omega (arith, at, q)) in
      found_behind (one_target p c i k (found_number p c x)) (method_targets p c i (suc k) ns) c i m (one_other c i k c i m (found_number p c x) (last (nat_eq c c) (nat_eq i i) (nat_eq k m) (not_equal k m other)))
      ∙ method_target_at c i (suc k) s ns n r m (omega (arith, at)) e f
    where
      last : (x y z : Bool) → z ≡ false → (x && y && z) ≡ false
      last true true z e = e
      last true false z e = refl
      last false y z e = refl

  interface_target_at : (c i s : ℕ) (n : List ℕ) (r : ℕ) (js : List ℕ) → is_among i js ≡ true → slice_get (signature_names p i) s ≡ Some n → found_number p c n ≡ Some r → first_target (interface_targets p c js) c i s ≡ Some r
  interface_target_at c i s n r [] h e f = cc
  interface_target_at c i s n r (j ∷ js) h e f = by (nat_eq i j) refl h (λ h. interface_target_at c i s n r js h e f)
    where
      by : (b : Bool) → nat_eq i j ≡ b → (b || is_among i js) ≡ true → (is_among i js ≡ true → first_target (interface_targets p c js) c i s ≡ Some r) → first_target (method_targets p c j 0 (signature_names p j) ++ interface_targets p c js) c i s ≡ Some r
      by true q h g =
          let d : i ≡ j = eqb-true i j q in
          subst (λ j. first_target (method_targets p c j 0 (signature_names p j) ++ interface_targets p c js) c i s ≡ Some r) d
          (found_front (method_targets p c i 0 (signature_names p i)) (interface_targets p c js) c i s r (method_target_at c i 0 s (signature_names p i) n r s (omega arith) e f))
      by false q h g =
          found_behind (method_targets p c j 0 (signature_names p j)) (interface_targets p c js) c i s (methods_other c j c i s 0 (signature_names p j) (second (nat_eq c c) (nat_eq j i) (same_number j i ∙ q)))
          ∙ g h
        where
          second : (x y : Bool) → y ≡ false → (x && y) ≡ false
          second true y e = e
          second false y e = refl

  targets_at : (lives : ℕ → Bool) (from k c i s : ℕ) (ks : List Class) (x : Class) (n : List ℕ) (r : ℕ) → c ≡ from + k → slice_get ks k ≡ Some x → lives c ≡ true → is_among i x.interfaces ≡ true → slice_get (signature_names p i) s ≡ Some n → found_number p c n ≡ Some r
      → first_target (targets_from p lives from ks) c i s ≡ Some r
  targets_at lives from k c i s [] x n r at e l h g f = cc
  targets_at lives from zero c i s (y ∷ ks) x n r at e l h g f =
      let d : y ≡ x = some_once e in
      let here : from ≡ c = omega (arith, at) in
      found_front (if lives from then interface_targets p from y.interfaces else []) (targets_from p lives (suc from) ks) c i s r
      (ap (λ b. first_target (if b then interface_targets p from y.interfaces else []) c i s) (ap lives here ∙ l)
      ∙ (ap (λ m. first_target (interface_targets p m y.interfaces) c i s) here
      ∙ (ap (λ (z : Class). first_target (interface_targets p c z.interfaces) c i s) d ∙ interface_target_at c i s n r x.interfaces h g f)))
  targets_at lives from (suc k) c i s (y ∷ ks) x n r at e l h g f =
      let other : from ≡ c → ⊥ = λ q. absurd (omega (arith, at, q)) in
      found_behind (if lives from then interface_targets p from y.interfaces else []) (targets_from p lives (suc from) ks) c i s (by (lives from) other)
      ∙ targets_at lives (suc from) k c i s ks x n r (omega (arith, at)) e l h g f
    where
      by : (b : Bool) → (from ≡ c → ⊥) → first_target (if b then interface_targets p from y.interfaces else []) c i s ≡ None
      by true h = interfaces_other from c i s y.interfaces h
      by false h = refl

  interface_among : (c i : ℕ) (k : Class) → class_at p c ≡ Some k → IsTrue (conforms p c (type.Interface i)) → is_among i k.interfaces ≡ true
  unfolding conforms
  interface_among c i k e h = subst (λ o. IsTrue (conforming (type.Interface i) o)) e h

-- ---- the premise of calls

module _ (p : Program) (fine : ProgramIs p) (is_there : ℕ → Bool) (W : ℕ → Type 0) (first : Store) (R : Routine → Type 0) (code : MachineCode) (now base : ℕ) (lives : ℕ → Bool) (is : CodeIs p lives code)
    (living : (c : ℕ) → HasInstance p c → lives c ≡ true) where
  abbrev Code_at : Routine → ℕ → Type 0
  Code_at x n = CodeOf p fine is_there W first R code now base (tables_of p) x n

  code_of : (n : ℕ) (x : Routine) → slice_get (forms p) n ≡ Some (for_calls x) → Code_at x n
  code_of n x e =
      let r = is.routines n (for_calls x) e in
      record { routine = r.0; there = r.1; room = r.2.room; behind = r.2.behind; short = r.2.short; stands = cells_stand r.0 (called_code p (called_plan p (tables_of p) x) x.line x 8) r.2.ops r.2.lines code now n r.1 }

  in_chain : (c d : ℕ) → IsTrue (conforms p c (type.Instance d)) → d < length p.classes
  in_chain c d h = fine.bases c d (chain_has p c d h)

  conforms_told : (c d : ℕ) → IsTrue (conforms p c (type.Instance d)) → machine.conforms code c d ≡ true
  conforms_told c d h = conforms_as_told p code c d is.conforms (in_chain c d h) ∙ h

  -- the slot of a class that has an instance
  slot_read : (c d s n : ℕ) (l : HasInstance p c) → IsTrue (conforms p c (type.Instance d)) → slice_get (class_slots p true c) s ≡ Some (Some n) → machine.method_of code d s c ≡ Goes n
  slot_read c d s n l h e =
      let k = class_there p c (type.Instance d) h in
      let at : 0 + c ≡ c = omega arith in
      let row : slice_get code.slots c ≡ Some (class_slots p true c) = ap (λ x. slice_get x c) is.slots ∙ (get_slots p lives p.classes 0 c k.0 k.1 ∙ (ap (λ n. Some (class_slots p (lives n) n)) at ∙ ap (λ b. Some (class_slots p b c)) (living c l))) in
      ap (λ b. (if b then Goes c else stuck) >>= λ x. in_slot code x s) (conforms_told c d h)
      ∙ (ap (λ o. some_or_stuck o >>= λ slots. some_or_stuck (slice_get slots s) >>= λ slot. some_or_stuck slot) row
      ∙ ap (λ o. some_or_stuck o >>= λ slot. some_or_stuck slot) e)

  -- The tables of a program are those that its code asks.
  pub tables_are : TablesAre p fine is_there W first R code now base (tables_of p)
  tables_are = record {
    functions = λ k x e. code_of k x (function_form p k x e);
    methods = λ c d name x y l h e f.
        let m = method_found p c name x f in
        let s = slot_there p d name y e in
        let t = slots_above p (chains_are p fine) c d s.0 name h s.1 in
        let w = name_there p name (slot_names p c) s.0 t in
        let here : found_number p c w.0 ≡ Some m.number = ap (found_number p c) ((bytes_eq-Decides w.0 name).0 w.2) ∙ m.is in
        let slot : suc (or_none p (place_of_name p name (slot_names p d))) ≡ suc s.0 = ap (λ o. suc (or_none p o)) s.1 in
        (m.number, ap (λ j. machine.method_of code d j c) slot ∙ slot_read c d (suc s.0) m.number l h (get_mapped (found_number p c) (slot_names p c) s.0 w.0 w.1 ∙ ap Some here), code_of m.number x m.form);
    of_interfaces = λ c i name x l h g f.
        let m = method_found p c name x f in
        let k = class_there p c (type.Interface i) h in
        let w = name_there p name (signature_names p i) g.0 g.1 in
        let here : found_number p c w.0 ≡ Some m.number = ap (found_number p c) ((bytes_eq-Decides w.0 name).0 w.2) ∙ m.is in
        let number : or_none p (place_of_name p name (signature_names p i)) ≡ g.0 = ap (or_none p) g.1 in
        (m.number, ap (λ j. some_or_stuck (first_target code.targets c i j)) number ∙ (ap (λ ts. some_or_stuck (first_target ts c i g.0)) is.targets ∙ ap some_or_stuck (targets_at p lives 0 c c i g.0 p.classes k.0 w.0 m.number (omega arith) k.1 (living c l) (interface_among p c i k.0 k.1 h) w.1 here)), code_of m.number x m.form);
    upward = λ d name x f. let m = method_found p d name x f in subst (Code_at x) (sym (ap (or_none p) m.is)) (code_of m.number x m.form);
    bodies = λ c d x l h e. (body_at p c, slot_read c d 0 (body_at p c) l h refl, code_of (body_at p c) x (body_form p c x e));
    bases = λ d x e. code_of (body_at p d) x (body_form p d x e);
    targets = λ c t g. told c t g;
  }
    where
      told : (c : ℕ) (t : StType) → IsTarget p fine is_there W first R code now base (tables_of p) t → machine.conforms code c (target_number p t) ≡ conforms p c t
      told c (type.Instance d) g = conforms_as_told p code c d is.conforms g
      told c (type.Reference d) g = conforms_as_told p code c d is.conforms g ∙ reference_as_told p c d
      told c (type.Interface i) g = interface_as_told p (chains_are p fine) code c i is.conforms
      told c t g = absurd g
