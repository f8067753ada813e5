-- Constants among locals, told item by item.
use Rattle.std.proofs.Common.{◌≡◌, ℕ, zero, suc, ◌+◌, ◌<◌, ◌≤◌, ℤ, Bool, true, false, List, [], ◌∷◌, map, length, get_or, drop, Option, Some, None, refl, sym, ap, ◌∙◌, subst, arith}
use Rattle.std.specs.Prelude.{slice_get, option_map, option_and_then, if◌then◌else◌}
use Rattle.std.proofs.lemmas.Option.{slice_get-map, slice_get-get_or}
use Rattle.std.proofs.lemmas.List.{drop-map}
use Rattle.st_types.specs.declared.st_type.StType.{StType}
use Rattle.st_tree.specs.declared.declaration.Item.{Item}
use Rattle.st_tree.specs.declared.declaration.Section.{Section}
use Rattle.st_tree.specs.declared.program.Target.{Target}
use Rattle.st_tree.specs.declared.type_spec.TypeSpec.{TypeSpec}
use Rattle.st_tree.specs.declared.program.Target.TheVariants as target
use Rattle.st_tree.specs.Initial.{initial_of}
use Rattle.st_rules.specs.declared.names.DeclaredVariable.{DeclaredVariable}
use Rattle.st_rules.specs.Scope.{Scope}
use Rattle.st_rules.specs.Telling.{variable_told}
use Rattle.st_rules.proofs.ListLaws.{drop-at, drop-end}
use Rattle.name_resolution.specs.Private.Places.{Table}
use Rattle.name_resolution.specs.Locals.{ArePlaces}
use Rattle.name_resolution.proofs.TellLaws.{table_changed}
use Rattle.st_unit_rules.specs.declared_names.Variables.{Written, sections_written, constant_of, value_given, result_count}
use Rattle.st_unit_rules.specs.declared_names.Declarations.{Global}
use Rattle.st_unit_rules.specs.declared_names.UnitNames.{forgotten}
use Rattle.st_unit_rules.specs.declared_names.WrittenTypes.{type_written}
use Rattle.st_unit_rules.specs.declared.declaration_list.written.WrittenName.{WrittenName}
use Rattle.st_unit_rules.specs.declaration_list.Written.{written_of, global_of, names_in_sections}
use Rattle.st_unit_rules.proofs.declaration_list.GlobalLaws.{written_by_names}
use Rattle.resolution_order.specs.told_laws.ToldLaws.{Each}
use Rattle.resolution_order.specs.told_laws.TellingLaws.{NoValueLeft}
use Rattle.resolution_order.specs.told_laws.LocalLaws.{with_local, SoundLocals}
use Rattle.resolution_order.proofs.told_laws.LocalTelling.{local_laws, again}
use Rattle.resolution_order.proofs.told_places.PlaceLaws.{local_place_laws}
use Rattle.type_resolution.specs.written_types.Types.{TellsConstant}
use Rattle.type_resolution.specs.declared.told_locals.around.Around.{Around}
use Rattle.type_resolution.specs.declared.told_locals.around.Declaring.{Declaring}
use Rattle.type_resolution.specs.declared.told_locals.around.Declaring.TheVariants as code
use Rattle.type_resolution.specs.declared.told_locals.telling.Told.{Told}
use Rattle.type_resolution.specs.told_locals.Around.{scope_around, IsAround, declared_in, sections_of, all_told}
use Rattle.type_resolution.specs.told_locals.Private.Telling.{scope_with, one_where, first_of, IsTold, told_behind}
use Rattle.type_resolution.proofs.told_locals.ItemLaws.{OfItem, Behind, Follow, follow-sections, follow-drop}

-- ---- the laws, of a routine or of a program

begun : (a : Around) (d : Declaring) → SoundLocals (map forgotten (declared_in d (scope_around a))) (all_told d (scope_around a))
begun a (code.Routine name of sections) = (local_laws.routine (scope_around a) name.now.text of.now sections.now).begun
begun a (code.Program sections) = (local_laws.program (scope_around a) sections.now).begun

count-is : (s : Scope) (o : Option (TypeSpec ℕ)) → result_count s o ≡ one_where o
count-is s None = refl
count-is s (Some t) = refl

next : (a : Around) (d : Declaring) (vs : List DeclaredVariable) (p : ℕ) (w : Written) (k : StType) (z : ℤ) → SoundLocals vs (all_told d (scope_around a)) → slice_get (sections_written (sections_of d)) p ≡ Some w → w.constant ≡ true
    → type_written (scope_with a vs) w.item.kind ≡ Some k → constant_of (scope_with a vs) w ≡ Some z → SoundLocals (with_local vs (first_of d + p) k (target.Constant z)) (all_told d (scope_around a))
next a (code.Routine name of sections) vs p w k z h g c t v =
    subst (λ n. SoundLocals (with_local vs (n + p) k (target.Constant z)) (all_told (code.Routine name of sections) (scope_around a))) (count-is (scope_around a) of.now)
    (local_place_laws.routine_next (scope_around a) name.now.text of.now sections.now vs p w k z h g c t v)
next a (code.Program sections) vs p w k z h g c t v =
    let q : p ≡ 0 + p = omega arith in
    subst (λ n. SoundLocals (with_local vs n k (target.Constant z)) (all_told (code.Program sections) (scope_around a))) q (local_place_laws.program_next (scope_around a) sections.now vs p w k z h g c t v)

round : (a : Around) (d : Declaring) (vs : List DeclaredVariable) → SoundLocals vs (all_told d (scope_around a)) → SoundLocals (declared_in d (scope_with a vs)) (all_told d (scope_around a))
round a (code.Routine name of sections) vs h = (local_laws.routine (scope_around a) name.now.text of.now sections.now).round vs h
round a (code.Program sections) vs h = (local_laws.program (scope_around a) sections.now).round vs h

ended : (a : Around) (d : Declaring) (vs : List DeclaredVariable) → SoundLocals vs (all_told d (scope_around a)) → Each NoValueLeft vs (declared_in d (scope_with a vs)) → declared_in d (scope_with a vs) ≡ all_told d (scope_around a)
ended a (code.Routine name of sections) vs h l = (local_laws.routine (scope_around a) name.now.text of.now sections.now).ended vs h l
ended a (code.Program sections) vs h l = (local_laws.program (scope_around a) sections.now).ended vs h l

-- ---- names stay where they are

places-stay : (t : Table) (vs : List DeclaredVariable) (i : ℕ) (k : StType) (m : Target) → ArePlaces t vs → ArePlaces t (with_local vs i k m)
places-stay t vs i k m h = table_changed (λ (v : DeclaredVariable). v.name) (λ v. true) (variable_told k m) (λ v. refl) (λ v. refl) i t vs h

either-places : (t : Table) (b : Bool) (vs ws : List DeclaredVariable) → ArePlaces t vs → ArePlaces t ws → ArePlaces t (if b then vs else ws)
either-places t true vs ws h k = h
either-places t false vs ws h k = k

places-behind : (t : Table) (vs : List DeclaredVariable) (n : ℕ) (ws : List WrittenName) (k : StType) (z : ℤ) → ArePlaces t vs → ArePlaces t (told_behind vs n ws k z)
places-behind t vs n [] k z h = h
places-behind t vs n (w ∷ ws) k z h =
    either-places t w.first vs (told_behind (with_local vs n k (target.Constant z)) (suc n) ws k z) h (places-behind t (with_local vs n k (target.Constant z)) (suc n) ws k z (places-stay t vs n k (target.Constant z) h))

-- ---- lists

some-same : {X : Type 0} {x y : X} → Some x ≡ Some y → x ≡ y
some-same m = cc

drop-head : {X : Type 0} (n : ℕ) (xs : List X) (y : X) (ys : List X) → y ∷ ys ≡ drop n xs → slice_get xs n ≡ Some y
drop-head zero xs y ys e = sym (ap (λ zs. slice_get zs 0) e)
drop-head (suc n) [] y ys e = absurd cc
drop-head (suc n) (x ∷ xs) y ys e = drop-head n xs y ys e

drop-rest : {X : Type 0} (n : ℕ) (xs : List X) (y : X) (ys : List X) → y ∷ ys ≡ drop n xs → ys ≡ drop (suc n) xs
drop-rest zero [] y ys e = absurd cc
drop-rest zero (x ∷ xs) y ys e = cc
drop-rest (suc n) [] y ys e = absurd cc
drop-rest (suc n) (x ∷ xs) y ys e = drop-rest n xs y ys e

drop-found : {X : Type 0} (n : ℕ) (xs : List X) (y : X) → slice_get xs n ≡ Some y → drop n xs ≡ y ∷ drop (suc n) xs
drop-found n [] y e = absurd cc
drop-found zero (x ∷ xs) y e = ap (λ q. q ∷ xs) (some-same e)
drop-found (suc n) (x ∷ xs) y e = drop-found n xs y e

-- ---- the names of an item

-- what was found of a name where these locals are known
record MayTell (a : Around) (vs : List DeclaredVariable) (k : StType) (z : ℤ) (w : Written) : Type 0 where
  constant : w.constant ≡ true
  kind : type_written (scope_with a vs) w.item.kind ≡ Some k
  value : constant_of (scope_with a vs) w ≡ Some z

module _ (a : Around) (d : Declaring) (vs : List DeclaredVariable) (sound : SoundLocals vs (all_told d (scope_around a))) (k : StType) (z : ℤ) where
  may-next : (v w : Written) → OfItem v w → MayTell a vs k z v → MayTell a vs k z w
  may-next v w o m = record {
    constant = o.constant ∙ m.constant;
    kind = ap (λ (i : Item ℕ). type_written (scope_with a vs) i.kind) o.item ∙ m.kind;
    value = ap (λ (i : Item ℕ). option_and_then (λ t. value_given (scope_with a vs) t (option_map initial_of i.initial)) (type_written (scope_with a vs) i.kind)) o.item ∙ m.value;
  }

  place-told : (us : List DeclaredVariable) (p : ℕ) (w : Written) → SoundLocals us (all_told d (scope_around a)) → slice_get (sections_written (sections_of d)) p ≡ Some w → MayTell a vs k z w
      → SoundLocals (with_local us (first_of d + p) k (target.Constant z)) (all_told d (scope_around a))
  place-told us p w s g m = again vs us (all_told d (scope_around a)) (first_of d + p) k (target.Constant z) s (next a d vs p w k z sound g m.constant m.kind m.value)

  either : (us rest : List DeclaredVariable) (v w : Written) (first : Bool) → SoundLocals us (all_told d (scope_around a)) → MayTell a vs k z v → (first ≡ false → OfItem v w)
      → (MayTell a vs k z w → SoundLocals rest (all_told d (scope_around a))) → SoundLocals (if first then us else rest) (all_told d (scope_around a))
  either us rest v w true s m b f = s
  either us rest v w false s m b f = f (may-next v w (b refl) m)

  behind-told : (us : List DeclaredVariable) (p : ℕ) (g : Global) (ws : List WrittenName) → SoundLocals us (all_told d (scope_around a)) → MayTell a vs k z g.written → Behind g (map global_of ws) → Follow (map global_of ws)
      → map written_of ws ≡ drop (suc p) (sections_written (sections_of d)) → SoundLocals (told_behind us (first_of d + suc p) ws k z) (all_told d (scope_around a))
  behind-told us p g [] s m b f e = s
  behind-told us p g (w ∷ ws) s m b f e =
      let one : List DeclaredVariable = with_local us (first_of d + suc p) k (target.Constant z) in
      let q : first_of d + suc (suc p) ≡ suc (first_of d + suc p) = omega arith in
      either us (told_behind one (suc (first_of d + suc p)) ws k z) g.written (written_of w) w.first s m b
      (λ n. subst (λ i. SoundLocals (told_behind one i ws k z) (all_told d (scope_around a))) q
      (behind-told one (suc p) (global_of w) ws (place-told us (suc p) (written_of w) s (drop-head (suc p) (sections_written (sections_of d)) (written_of w) (map written_of ws) e) n) n f.0 f.1
      (drop-rest (suc p) (sections_written (sections_of d)) (written_of w) (map written_of ws) e)))

-- ---- one visit

pub told_same : (a : Around) (d : Declaring) (t u : Told) → IsTold a d t → u.known ≡ t.known → ArePlaces u.places t.known → IsTold a d u
told_same a d t u h e q = record { sound = subst (λ vs. SoundLocals vs (all_told d (scope_around a))) (sym e) h.sound; places = subst (ArePlaces u.places) (sym e) q }

pub told_next : (a : Around) (d : Declaring) (names : List WrittenName) (t u : Told) (p first after : ℕ) (name : WrittenName) (found : StType × ℤ) (one : List DeclaredVariable)
    → map global_of names ≡ names_in_sections (sections_of d) → IsTold a d t → p < length names → name ≡ get_or names p name → (written_of name).constant ≡ true → TellsConstant (Some found) (scope_with a t.known) (written_of name)
    → ArePlaces u.places t.known → first ≡ first_of d → after ≡ suc p → one ≡ with_local t.known (first + p) found.0 (target.Constant found.1)
    → u.known ≡ told_behind one (first + after) (drop after names) found.0 found.1 → IsTold a d u
told_next a d names t u p first after name found one e h within is c m q f n o l =
    record { sound = subst (λ vs. SoundLocals vs (all_told d (scope_around a))) (sym same) sound; places = subst (ArePlaces u.places) (sym same) places }
  where
    ss : List (Section ℕ)
    ss = sections_of d

    g : slice_get names p ≡ Some name
    g = slice_get-get_or names p name within ∙ ap Some (sym is)

    with_one : List DeclaredVariable
    with_one = with_local t.known (first_of d + p) found.0 (target.Constant found.1)

    same : u.known ≡ told_behind with_one (first_of d + suc p) (drop (suc p) names) found.0 found.1
    same =
        l
        ∙ ap (λ vs. told_behind vs (first + after) (drop after names) found.0 found.1) (o ∙ ap (λ i. with_local t.known (i + p) found.0 (target.Constant found.1)) f)
        ∙ ap (λ i. told_behind with_one (i + after) (drop after names) found.0 found.1) f
        ∙ ap (λ i. told_behind with_one (first_of d + i) (drop i names) found.0 found.1) n

    follows : Follow (global_of name ∷ map global_of (drop (suc p) names))
    follows = subst Follow (ap (drop p) (sym e) ∙ drop-map global_of p names ∙ ap (map global_of) (drop-found p names name g)) (follow-drop p (names_in_sections ss) (follow-sections ss))

    there : slice_get (sections_written ss) p ≡ Some (written_of name)
    there = ap (λ ws. slice_get ws p) (sym (written_by_names names ss e)) ∙ slice_get-map written_of names p ∙ ap (option_map written_of) g

    sound : SoundLocals (told_behind with_one (first_of d + suc p) (drop (suc p) names) found.0 found.1) (all_told d (scope_around a))
    sound =
        behind-told a d t.known h.sound found.0 found.1 with_one p (global_of name) (drop (suc p) names) (next a d t.known p (written_of name) found.0 found.1 h.sound there c m.0 m.1)
        (record { constant = c; kind = m.0; value = m.1 }) follows.0 follows.1 (sym (drop-map written_of (suc p) names) ∙ ap (drop (suc p)) (written_by_names names ss e))

    places : ArePlaces u.places (told_behind with_one (first_of d + suc p) (drop (suc p) names) found.0 found.1)
    places = places-behind u.places with_one (first_of d + suc p) (drop (suc p) names) found.0 found.1 (places-stay u.places t.known (first_of d + p) found.0 (target.Constant found.1) q)

-- ---- the names behind one, in a loop

pub record BehindTo (names : List WrittenName) (old now : List DeclaredVariable) (first from i : ℕ) (k : StType) (z : ℤ) : Type 0 where
  pub rest : told_behind now (first + i) (drop i names) k z ≡ told_behind old (first + from) (drop from names) k z

at-name : (names : List WrittenName) (now : List DeclaredVariable) (n i : ℕ) (x : WrittenName) (b : Bool) (k : StType) (z : ℤ) → i < length names → x ≡ get_or names i x → x.first ≡ b
    → told_behind now n (drop i names) k z ≡ (if b then now else told_behind (with_local now n k (target.Constant z)) (suc n) (drop (i + 1) names) k z)
at-name names now n i x b k z l e f =
    ap (λ ws. told_behind now n ws k z) (drop-at names i x l e) ∙ ap (λ first. if first then now else told_behind (with_local now n k (target.Constant z)) (suc n) (drop (i + 1) names) k z) f

pub behind_begun : (names : List WrittenName) (old : List DeclaredVariable) (first from : ℕ) (k : StType) (z : ℤ) → BehindTo names old old first from from k z
behind_begun names old first from k z = record { rest = refl }

pub behind_next : (names : List WrittenName) (old now more : List DeclaredVariable) (first from i : ℕ) (x : WrittenName) (k : StType) (z : ℤ) → BehindTo names old now first from i k z → i < length names → x ≡ get_or names i x
    → x.first ≡ false → more ≡ with_local now (first + i) k (target.Constant z) → BehindTo names old more first from (i + 1) k z
behind_next names old now more first from i x k z b l e f m =
    let q : first + (i + 1) ≡ suc (first + i) = omega arith in
    record {
      rest =
          ap (λ vs. told_behind vs (first + (i + 1)) (drop (i + 1) names) k z) m
          ∙ ap (λ n. told_behind (with_local now (first + i) k (target.Constant z)) n (drop (i + 1) names) k z) q
          ∙ sym (at-name names now (first + i) i x false k z l e f)
          ∙ b.rest;
    }

pub behind_stopped : (names : List WrittenName) (old now : List DeclaredVariable) (first from i : ℕ) (x : WrittenName) (k : StType) (z : ℤ) → BehindTo names old now first from i k z → i < length names → x ≡ get_or names i x
    → x.first ≡ true → now ≡ told_behind old (first + from) (drop from names) k z
behind_stopped names old now first from i x k z b l e f = sym (at-name names now (first + i) i x true k z l e f) ∙ b.rest

pub behind_ended : (names : List WrittenName) (old now : List DeclaredVariable) (first from i : ℕ) (k : StType) (z : ℤ) → BehindTo names old now first from i k z → length names ≤ i → now ≡ told_behind old (first + from) (drop from names) k z
behind_ended names old now first from i k z b l = sym (ap (λ ws. told_behind now (first + i) ws k z) (drop-end names i l)) ∙ b.rest

-- ---- at first

pub untold_is : (a : Around) (d : Declaring) (t : Told) → IsAround a → t.known ≡ map forgotten (declared_in d (scope_around a)) → ArePlaces t.places t.known → IsTold a d t
untold_is a d t h e q = record { sound = subst (λ vs. SoundLocals vs (all_told d (scope_around a))) (sym e) (begun a d); places = q }

-- ---- rounds

pub settle_next : (a : Around) (d : Declaring) (vs ws : List DeclaredVariable) → SoundLocals vs (all_told d (scope_around a)) → ws ≡ declared_in d (scope_with a vs) → SoundLocals ws (all_told d (scope_around a))
settle_next a d vs ws h e = subst (λ us. SoundLocals us (all_told d (scope_around a))) (sym e) (round a d vs h)

pub settle_ended : (a : Around) (d : Declaring) (vs ws : List DeclaredVariable) → SoundLocals vs (all_told d (scope_around a)) → ws ≡ declared_in d (scope_with a vs) → Each NoValueLeft vs ws → ws ≡ all_told d (scope_around a)
settle_ended a d vs ws h e l = e ∙ ended a d vs h (subst (Each NoValueLeft vs) e l)
