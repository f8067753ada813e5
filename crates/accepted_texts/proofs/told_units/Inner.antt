-- The constants of a class, a routine or a program: where none needs itself, all are told.
use Rattle.std.proofs.Common.{◌≡◌, ℕ, suc, ◌+◌, ◌<◌, Bool, true, false, List, [], ◌∷◌, ◌++◌, length, Option, Some, None, refl, sym, ap, ◌∙◌, subst, arith}
use Rattle.std.specs.Prelude.{if◌then◌else◌, flat_map, filter_map, option_map, slice_get}
use Rattle.std.specs.Option.{is_some}
use Rattle.std.proofs.lemmas.Option.{slice_get_within}
use Rattle.plc_text.specs.Words.{same}
use Rattle.st_tree.specs.declared.program.Target.{Target}
use Rattle.st_tree.specs.declared.program.Target.TheVariants as target
use Rattle.st_tree.specs.Initial.{initial_of}
use Rattle.st_rules.specs.declared.names.DeclaredVariable.{DeclaredVariable}
use Rattle.st_rules.specs.Chains.{is_among}
use Rattle.st_rules.specs.Scope.{Scope, variable_named, is_instance_sort, is_body_sort}
use Rattle.st_rules.specs.Signatures.{is_parameter_sort}
use Rattle.st_rules.proofs.Booleans.{false≢true, some-same}
use Rattle.st_rules.proofs.LeadsLaws.{IsWithin}
use Rattle.st_unit_rules.specs.declared_names.Constants.{is_told}
use Rattle.st_unit_rules.specs.declared_names.Variables.{Written, declared_with, declared_each, member_targets, local_targets, constant_target, constant_of}
use Rattle.st_unit_rules.specs.declared_names.WrittenTypes.{type_written, type_faults}
use Rattle.st_unit_rules.specs.VariableRules.{bad_constant, initial_if_given}
use Rattle.resolution_order.specs.told_laws.ToldLaws.{Every}
use Rattle.resolution_order.proofs.told_laws.Tells.{pick}
use Rattle.accepted_texts.proofs.unfolding_laws.ListLaws.{every_at, every_from, every_front, every_back, every_one}
use Rattle.st_unit_rules.specs.Cycles.{Named, alone, before_dot, before_hash, named_in_bounds, named_in_value, element_names, inner_from, inner_place, inner_for, inner_needed, inner_needed_at, needs_inner}
use Rattle.declared_graph.proofs.BoundLaws.{Below, none_below, named_below, flat_below, if_below}
use Rattle.accepted_texts.specs.told_units.Formed.{IsFormedWritten}
use Rattle.accepted_texts.specs.told_units.Told.{IsToldName}
use Rattle.accepted_texts.proofs.told_units.Names.{IsToldType, IsToldNamed}
use Rattle.accepted_texts.proofs.told_units.Written.{written-told, constant-told, is-there}
use Rattle.accepted_texts.proofs.told_units.Acyclic.{all_of}
use Rattle.accepted_texts.proofs.told_units.Rows.{added-first, by-needs, chosen, not-chosen}
use Rattle.accepted_texts.specs.told_units.Told.{HasValue}
use Rattle.accepted_texts.proofs.told_units.TypeLaws.{ValuesHaveTypes}

target-there : (o : Option _) → is_some o ≡ true → is_told (constant_target o) ≡ true
target-there None h = absurd (cc)
target-there (Some z) h = refl

module _ (s : Scope) where
  -- ---- variables as they are declared

  abbrev pub IsRow : Written → DeclaredVariable → Type 0
  IsRow w v = (v.name ≡ w.name.text) × (v.constant ≡ w.constant) × (v.kind ≡ type_written s w.item.kind) × (w.constant ≡ true → v.target ≡ constant_target (constant_of s w)) × (v.sort ≡ w.sort)

  abbrev pub AreRows : List Written → List DeclaredVariable → Type 0
  AreRows [] [] = Unit {0}
  AreRows (w ∷ ws) (v ∷ vs) = IsRow w v × AreRows ws vs
  AreRows _ _ = ⊥

  abbrev RowsOf : Written → List Written → List Target → Type 0
  RowsOf w ws ts = AreRows (w ∷ ws) (declared_each s ts (w ∷ ws))

  value-row : (w : Written) → IsRow w (declared_with s (constant_target (constant_of s w)) w)
  value-row w = (refl, refl, refl, λ e. refl, refl)

  plain-row : (w : Written) (t : Target) → w.constant ≡ false → IsRow w (declared_with s t w)
  plain-row w t f = (refl, refl, refl, λ e. absurd (false≢true (sym f ∙ e)), refl)

  pub members-rows : (k l : ℕ) (ws : List Written) → AreRows ws (declared_each s (member_targets s k l ws) ws)
  members-rows k l [] = tt
  members-rows k l (w ∷ ws) =
      pick (RowsOf w ws) w.constant _ _ (λ e. (value-row w, members-rows k l ws)) (λ e.
      pick (RowsOf w ws) (is_instance_sort w.sort) _ _ (λ q. (plain-row w (target.Variable k) e, members-rows (suc k) l ws)) (λ q.
      pick (RowsOf w ws) (is_body_sort w.sort) _ _ (λ r. (plain-row w (target.Local l) e, members-rows k (suc l) ws)) (λ r. (plain-row w target.Nothing e, members-rows k l ws))))

  pub locals-rows : (p q : ℕ) (ws : List Written) → AreRows ws (declared_each s (local_targets s p q ws) ws)
  locals-rows p q [] = tt
  locals-rows p q (w ∷ ws) =
      pick (RowsOf w ws) w.constant _ _ (λ e. (value-row w, locals-rows p q ws)) (λ e.
      pick (RowsOf w ws) (is_parameter_sort w.sort) _ _ (λ a. (plain-row w (target.Local p) e, locals-rows (suc p) q ws)) (λ a.
      pick (RowsOf w ws) (is_instance_sort w.sort) _ _ (λ b. (plain-row w (target.Local q) e, locals-rows p (suc q) ws)) (λ b.
      pick (RowsOf w ws) (is_body_sort w.sort) _ _ (λ c. (plain-row w (target.Local q) e, locals-rows p (suc q) ws)) (λ c. (plain-row w target.Nothing e, locals-rows p q ws)))))

  -- the constant that a name means among them
  record RowAt (ws : List Written) (n : ℕ) (name : List ℕ) (v : DeclaredVariable) : Type 0 where
    place : ℕ
    written : Written
    there : slice_get ws place ≡ Some written
    row : IsRow written v
    found : v.constant ≡ true → inner_from name n ws ≡ Some (n + place)

  row-at : (ws : List Written) (vs : List DeclaredVariable) (n : ℕ) (name : List ℕ) (v : DeclaredVariable) → AreRows ws vs → variable_named name vs ≡ Some v → RowAt ws n name v
  row-at [] [] n name v r e = absurd (cc)
  row-at (w ∷ ws) (x ∷ vs) n name v r e = by (row-at ws vs (suc n) name v r.1) (same x.name name) refl e
    where
      tests : same w.name.text name ≡ same x.name name
      tests = ap (λ t. same t name) (sym (r.0).0)

      by : (variable_named name vs ≡ Some v → RowAt ws (suc n) name v) → (b : Bool) → same x.name name ≡ b → (if b then Some x else variable_named name vs) ≡ Some v → RowAt (w ∷ ws) n name v
      by later true q h =
          let z : n ≡ n + 0 = omega arith in
          record {
            place = 0;
            written = w;
            there = refl;
            row = subst (IsRow w) (some-same h) r.0;
            found = λ c. chosen (same w.name.text name) _ _ (tests ∙ q) ∙ chosen w.constant (Some n) None (sym (r.0).1 ∙ ap (λ (y : DeclaredVariable). y.constant) (some-same h) ∙ c) ∙ ap Some z;
          }
      by later false q h =
          let l = later h in
          let z : suc n + l.place ≡ n + suc l.place = omega arith in
          record { place = suc l.place; written = l.written; there = l.there; row = l.row; found = λ c. not-chosen (same w.name.text name) _ _ (tests ∙ q) ∙ l.found c ∙ ap Some z }
  row-at [] (x ∷ vs) n name v r e = absurd r
  row-at (w ∷ ws) [] n name v r e = absurd r

  -- ---- places are places

  from-below : (n : ℕ) (name : List ℕ) (ws : List Written) (k : ℕ) → inner_from name n ws ≡ Some k → k < n + length ws
  from-below n name [] k e = absurd (cc)
  from-below n name (w ∷ ws) k e = by (from-below (suc n) name ws k) (same w.name.text name) w.constant e
    where
      by : (inner_from name (suc n) ws ≡ Some k → k < suc n + length ws) → (a b : Bool) → (if a then (if b then Some n else None) else inner_from name (suc n) ws) ≡ Some k → k < n + suc (length ws)
      by later true true h = let q : n ≡ k = some-same h in omega (arith, q)
      by later true false h = absurd (cc)
      by later false b h = let l = later h in omega (arith, l)

  -- ---- all constants

  abbrev pub IsGoodWritten : Written → Type 0
  IsGoodWritten w =
      (type_faults s w.item.kind ≡ [])
      × (w.constant ≡ true → (line : ℕ) × (bad_constant line (type_written s w.item.kind) (option_map initial_of w.item.initial) ≡ []))
      × (initial_if_given s (type_written s w.item.kind) (option_map initial_of w.item.initial) ≡ [])

  abbrev pub IsWellWritten : Written → Type 0
  IsWellWritten w = IsFormedWritten w

  abbrev names_of : Written → List Named
  names_of w = named_in_bounds w.item.kind ++ named_in_value (option_map initial_of w.item.initial)

  abbrev pub IsToldWritten : Written → Type 0
  IsToldWritten w = w.constant ≡ true → (is_some (type_written s w.item.kind) ≡ true) × (is_some (constant_of s w) ≡ true)

  abbrev IsToldAt : Option Written → Type 0
  IsToldAt None = Unit {0}
  IsToldAt (Some w) = IsToldWritten w

  module _ (ws : List Written) (vs : List DeclaredVariable) (rows : AreRows ws vs) (types : (name : List ℕ) → IsToldType s name) (values : ValuesHaveTypes s)
      (meant : (name : List ℕ) → ((v : DeclaredVariable) → variable_named name vs ≡ Some v → HasValue v) → IsToldName s name)
      (good : Every IsGoodWritten ws) (well : Every IsWellWritten ws) (free : (i : ℕ) → needs_inner ws i ≡ false)
    where
      within : IsWithin (inner_needed_at ws) (length ws)
      within = record { within = λ i k h. (there i k (slice_get ws i) refl h, (needed-below (slice_get ws i)).below k h) }
        where
          place-below : (name : List ℕ) (k : ℕ) → inner_place ws name ≡ Some k → k < length ws
          place-below name k e = let r : k < 0 + length ws = from-below 0 name ws k e in omega (arith, r)

          for-below : (x : Named) → Below (length ws) (inner_for ws x)
          for-below (alone name) = named_below (length ws) (inner_place ws) place-below (name ∷ [])
          for-below (before_dot name) = named_below (length ws) (inner_place ws) place-below (name ∷ [])
          for-below (before_hash l name) = none_below (length ws)

          needed-below : (o : Option Written) → Below (length ws) (inner_needed ws o)
          needed-below None = none_below (length ws)
          needed-below (Some w) = if_below (length ws) w.constant (flat_map (inner_for ws) (names_of w)) (flat_below (length ws) (inner_for ws) for-below (names_of w))

          there : (i k : ℕ) (o : Option Written) → slice_get ws i ≡ o → is_among k (inner_needed ws o) ≡ true → i < length ws
          there i k None e h = absurd (false≢true h)
          there i k (Some w) e h = slice_get_within ws i w e

      abbrev ToldAt : ℕ → Type 0
      ToldAt k = IsToldAt (slice_get ws k)

      has-value : (name : List ℕ) → ((k : ℕ) → inner_place ws name ≡ Some k → IsToldAt (slice_get ws k)) → (v : DeclaredVariable) → variable_named name vs ≡ Some v → HasValue v
      has-value name h v e c =
          let r = row-at ws vs 0 name v rows e in
          let z : 0 + r.place ≡ r.place = omega arith in
          let t = subst IsToldAt r.there (h r.place (r.found c ∙ ap Some z)) in
          let q = sym (r.row).1 ∙ c in
          ap is_told ((r.row).3 q) ∙ target-there (constant_of s r.written) (t q).1

      told-name : (name : List ℕ) → ((k : ℕ) → inner_place ws name ≡ Some k → IsToldAt (slice_get ws k)) → IsToldName s name
      told-name name h = meant name (has-value name h)

      by-place : (name : List ℕ) → ((k : ℕ) → is_among k (filter_map (inner_place ws) (name ∷ [])) ≡ true → IsToldAt (slice_get ws k)) → IsToldName s name
      by-place name h = told-name name (λ k e. h k (added-first k (inner_place ws name) [] e))

      named-told : (x : Named) → ((k : ℕ) → is_among k (inner_for ws x) ≡ true → IsToldAt (slice_get ws k)) → IsToldNamed s x
      named-told (alone name) h = by-place name h
      named-told (before_dot name) h = (by-place name h, types name)
      named-told (before_hash l name) h = types name

      written-step : (w : Written) → IsGoodWritten w → IsWellWritten w → ((k : ℕ) → is_among k (inner_needed ws (Some w)) ≡ true → IsToldAt (slice_get ws k)) → IsToldWritten w
      written-step w g x h c =
          let i = option_map initial_of w.item.initial in
          let all = names_of w in
          let n = by-needs (λ k. IsToldAt (slice_get ws k)) (inner_for ws) (IsToldNamed s) named-told all (λ k m. h k (ap (is_among k) (chosen w.constant (flat_map (inner_for ws) all) [] c) ∙ m)) in
          let nb = every_front (IsToldNamed s) (named_in_bounds w.item.kind) (named_in_value i) n in
          let nv = every_back (IsToldNamed s) (named_in_bounds w.item.kind) (named_in_value i) n in
          let te = every_one (IsToldType s) types (element_names w.item.kind.element) in
          let k = written-told s values w.item.kind x.0 nb te g.0 in
          let t = is-there (type_written s w.item.kind) k in
          let b = g.1 c in
          (k, constant-told s values b.0 w t.0 t.1 x.1 nv b.1 g.2)

      step : (o : Option Written) → ((w : Written) → o ≡ Some w → IsGoodWritten w × IsWellWritten w) → ((k : ℕ) → is_among k (inner_needed ws o) ≡ true → IsToldAt (slice_get ws k)) → IsToldAt o
      step None g h = tt
      step (Some w) g h = let q = g w refl in written-step w q.0 q.1 h

      all-told : (i : ℕ) → IsToldAt (slice_get ws i)
      all-told i =
          all_of (inner_needed_at ws) (length ws) within free (λ k. IsToldAt (slice_get ws k)) (λ k h. step (slice_get ws k) (λ w e. (every_at IsGoodWritten ws k w good e, every_at IsWellWritten ws k w well e)) h) i

      pub constants-told : Every IsToldWritten ws
      constants-told = every_from IsToldWritten ws (λ i w e. subst IsToldAt e (all-told i))

      pub each-value : (name : List ℕ) (v : DeclaredVariable) → variable_named name vs ≡ Some v → HasValue v
      each-value name v e = has-value name (λ k q. all-told k) v e

      -- and so each name is told
      pub each-name : (name : List ℕ) → IsToldName s name
      each-name name = told-name name (λ k q. all-told k)

      each-named : (x : Named) → IsToldNamed s x
      each-named (alone name) = each-name name
      each-named (before_dot name) = (each-name name, types name)
      each-named (before_hash l name) = types name

      pub each-type : (w : Written) → IsGoodWritten w → IsWellWritten w → is_some (type_written s w.item.kind) ≡ true
      each-type w g x = written-told s values w.item.kind x.0 (every_one (IsToldNamed s) each-named (named_in_bounds w.item.kind)) (every_one (IsToldType s) types (element_names w.item.kind.element)) g.0
