-- Where what a text needs is told, and it breaks no rule, all names of it are told.
use Rattle.std.proofs.Common.{◌≡◌, ℕ, Bool, true, false, List, [], ◌++◌, Option, Some, None, refl}
use Rattle.std.specs.Prelude.{option_map, if◌then◌else◌, ◌&&◌, ◌||◌}
use Rattle.std.specs.Option.{is_some, is_none}
use Rattle.std.specs.List.{list_any}
use Rattle.plc_text.specs.declared.code.Code.TheVariants.{E05}
use Rattle.st_types.specs.declared.st_type.StType.{StType}
use Rattle.st_types.specs.declared.st_type.StType.TheVariants as type
use Rattle.st_tree.specs.declared.expression.Root.{Root}
use Rattle.st_tree.specs.declared.expression.Root.TheVariants as root
use Rattle.st_tree.specs.Expression.{Expression, Int, Typed, Time, True, False, Null, Place, Call, Enumerator, Ref, Now, Paren, Not, Negate, Chain, Field, Selectors, no_selectors, selector_then, Positional, Input, Output, Arguments, no_arguments, argument_then, Tails, no_tails, tail_then}
use Rattle.st_rules.specs.declared.asked.Asked.{Asked}
use Rattle.st_rules.specs.declared.asked.Asked.TheVariants.{Anything}
use Rattle.st_rules.specs.declared.names.DeclaredType.{DeclaredType}
use Rattle.st_rules.specs.Faults.{when}
use Rattle.st_rules.specs.Kinds.{is_arithmetic, operation_type, takes_not, takes_minus}
use Rattle.st_rules.specs.Literals.{number_asked}
use Rattle.st_rules.specs.Scope.{Scope, Qualifier, values_of, of_untold, no_qualifier, qualifier_kind, qualifier_type, type_named, type_qualifier, dot_qualifier, entry, is_global_variable, value_of}
use Rattle.st_rules.specs.Places.{an_enumeration, a_value_of, root_line, root_standing, root_faults, whole_faults, target_faults, part_of, part_faults, selector_faults, qualified_standing, qualifies, place_type, too_many_selectors}
use Rattle.st_rules.specs.Calls.{callee, callee_faults, is_on_super, heads, Matched, call_matches, first_match, later_matches, asked_by, matched_type, output_unsuited, call_without_result}
use Rattle.st_rules.specs.Expressions.{line_of, is_untyped, front_asked, operand_asked, asked_behind, type_of, faults, row_faults, row_unsuited, operand_unsuited, along_faults, argument_faults, given_unsuited, called_root_faults, note_of_value, enumerator_target, enumerator_not_found, whole_target, qualified_target, part_target}
use Rattle.st_unit_rules.specs.declared_names.Constants.{is_told, names_are_told, operands_are_told, arguments_are_told, no_constant_place, no_constant_part, no_constant_operand, no_constant_argument}
use Rattle.accepted_texts.proofs.told_units.TypeLaws.{none-of, passes, conversion-called}
use Rattle.resolution_order.specs.told_laws.ToldLaws.{Every}
use Rattle.accepted_texts.proofs.unfolding_laws.ListLaws.{every_front, every_back}
use Rattle.st_rules.proofs.Booleans.{and-both}
use Rattle.st_unit_rules.specs.Cycles.{Named, alone, before_dot, before_hash, named_by_root, named_in, named_in_tails, named_in_selectors, named_in_arguments}
use Rattle.accepted_texts.specs.told_units.Told.{IsToldName}

module _ (s : Scope) where
  -- a type of that name is told
  abbrev pub IsToldType : List ℕ → Type 0
  IsToldType name = (d : DeclaredType) → type_named name s.names.types ≡ Some d → is_some d.kind ≡ true

  -- what is named is told
  abbrev pub IsToldNamed : Named → Type 0
  IsToldNamed (alone name) = IsToldName s name
  IsToldNamed (before_dot name) = IsToldName s name × IsToldType name
  IsToldNamed (before_hash l name) = IsToldType name

  -- ---- qualifiers

  not-untold : (t : Option StType) → is_some t ≡ true → qualifier_kind t ≡ of_untold → ⊥
  not-untold None h e = cc
  not-untold (Some (type.Enumeration n)) h e = cc
  not-untold (Some _) h e = cc

  type-told : (name : List ℕ) → IsToldType name → type_qualifier s name ≡ of_untold → ⊥
  unfolding type_qualifier
  type-told name w e = by (type_named name s.names.types) refl e
    where
      by : (o : Option DeclaredType) → type_named name s.names.types ≡ o → qualifier_type o ≡ of_untold → ⊥
      by None q e = cc
      by (Some d) q e = not-untold d.kind (w d q) e

  dot-told : (name : List ℕ) → IsToldType name → dot_qualifier s name ≡ of_untold → ⊥
  unfolding dot_qualifier
  dot-told name w e = by (is_some (entry s name) || list_any (is_global_variable name) s.names.globals) e
    where
      by : (b : Bool) → (if b then no_qualifier else type_qualifier s name) ≡ of_untold → ⊥
      by true e = cc
      by false e = type-told name w e

  -- ---- places

  found : (k m : ℕ) (o : Option ℕ) → part_faults s k (an_enumeration m) (option_map (a_value_of m) o) ≡ [] → is_told (part_target (option_map (a_value_of m) o)) ≡ true
  unfolding part_faults
  found k m None f = absurd (cc)
  found k m (Some j) f = refl

  by-qualifier : (l k : ℕ) (name n : List ℕ) (q : Qualifier) → IsToldType name → dot_qualifier s name ≡ q → qualifies s q ≡ true → part_faults s k (qualified_standing s q name) (part_of s (qualified_standing s q name) false n) ≡ []
      → is_told (qualified_target s (qualified_standing s q name) n) ≡ true
  unfolding part_of
  by-qualifier l k name n (values_of m) w e h f = found k m (value_of s m n) f
  by-qualifier l k name n of_untold w e h f = absurd (dot-told name w e)
  by-qualifier l k name n no_qualifier w e h f = absurd (cc)

  pub place-named : (r : Root ℕ) (ss : Selectors ℕ) → Every IsToldNamed (named_by_root r ss ++ named_in_selectors ss) → (line : ℕ) → along_faults s line false (root_standing s r ss) ss ≡ [] → no_constant_place s r ss ≡ [] → is_told (whole_target s r ss) ≡ true
  unfolding whole_target root_standing selector_faults
  place-named (root.Name l name) no_selectors g line f p = g.0 (passes _ E05 l p)
  place-named (root.Name l name) (selector_then (Field k n) no_selectors) g line f p =
      let b = qualified_standing s (dot_qualifier s name) name in
      by-qualifier l k name n (dot_qualifier s name) (g.0).1 refl (passes (qualifies s (dot_qualifier s name)) E05 l p)
      (none-of (part_faults s k b (part_of s b false n)) [] (none-of (part_faults s k b (part_of s b false n) ++ []) [] f).0).0
  place-named r ss g line f p = absurd (cc)

  -- ---- expressions

  enumerator-named : (l k : ℕ) (t name : List ℕ) (q : Qualifier) → IsToldType t → type_qualifier s t ≡ q → enumerator_not_found s l k q name ≡ [] → is_told (note_of_value s q name) ≡ true
  unfolding enumerator_not_found note_of_value
  enumerator-named l k t name (values_of n) w e f = by (value_of s n name) f
    where
      by : (o : Option ℕ) → when (is_none o) E05 k ≡ [] → is_told (enumerator_target s o) ≡ true
      by None f = absurd (cc)
      by (Some j) f = refl
  enumerator-named l k t name of_untold w e f = absurd (type-told t w e)
  enumerator-named l k t name no_qualifier w e f = absurd (cc)

  mutual
    pub named : (e : Expression ℕ) (asked : Asked) → Every IsToldNamed (named_in e) → faults s asked e ≡ [] → no_constant_part s e ≡ [] → names_are_told s e ≡ true
    named (Int l digits) asked g f p = refl
    named (Typed l k literal) asked g f p = refl
    named (Time l text) asked g f p = refl
    named (True l) asked g f p = refl
    named (False l) asked g f p = refl
    named (Null l) asked g f p = refl
    named (Place l r ss) asked g f p =
        let a = root_faults s false r ss in
        let b = along_faults s (root_line r) false (root_standing s r ss) ss in
        place-named r ss g (root_line r) (none-of a b (none-of (a ++ b) (whole_faults s r ss) f).0).1 p
    named (Call l r ss xs) asked g f p =
        let a = called_root_faults s r ss in
        let b = along_faults s (root_line r) true (root_standing s r ss) ss in
        let c = too_many_selectors s (root_line r) ss in
        let d = callee_faults s l (is_on_super r ss) (callee s r ss) (heads xs) in
        let ms = call_matches s (callee s r ss) (heads xs) in
        let x = argument_faults s ms xs in
        let q = none-of (a ++ b ++ c ++ d) x (none-of (a ++ b ++ c ++ d ++ x) (call_without_result l (callee s r ss)) f).0 in
        arguments-named xs ms (every_back IsToldNamed (named_by_root r ss ++ named_in_selectors ss) (named_in_arguments xs) g) q.1 (conversion-called s l r ss (no_constant_argument s xs) p).2
    named (Enumerator l t k name) asked g f p = enumerator-named l k t name (type_qualifier s t) g.0 refl f
    named (Ref l r ss) asked g f p = absurd (cc)
    named (Now l) asked g f p = absurd (cc)
    named (Paren l e) asked g f p = named e asked g f p
    named (Not l e) asked g f p = named e Anything g (none-of (faults s Anything e) (operand_unsuited (line_of e) takes_not (type_of s Anything e)) f).0 p
    named (Negate l (Int k digits)) asked g f p = refl
    named (Negate l e) asked g f p =
        let inner = front_asked (is_untyped e) (number_asked asked) in
        named e inner g (none-of (faults s inner e) (operand_unsuited (line_of e) takes_minus (type_of s inner e)) f).0 p
    named (Chain l e ts) asked g f p =
        let a = front_asked (is_untyped e) (asked_behind s asked ts) in
        let q = none-of (faults s a e) (row_faults s (is_untyped e) a (type_of s a e) ts) f in
        let c = none-of (no_constant_part s e) (no_constant_operand s ts) p in
        and-both (names_are_told s e) (operands_are_told s ts)
        (named e a (every_front IsToldNamed (named_in e) (named_in_tails ts) g) q.0 c.0)
        (row-named ts (is_untyped e) a (type_of s a e) (every_back IsToldNamed (named_in e) (named_in_tails ts) g) q.1 c.1)

    row-named : (ts : Tails ℕ) (u : Bool) (asked : Asked) (t : Option StType) → Every IsToldNamed (named_in_tails ts) → row_faults s u asked t ts ≡ [] → no_constant_operand s ts ≡ [] → operands_are_told s ts ≡ true
    row-named no_tails u asked t g f p = refl
    row-named (tail_then l o e ts) u asked t g f p =
        let inner = operand_asked u (is_untyped e) asked t in
        let a = faults s inner e in
        let b = row_unsuited e l o t (type_of s inner e) in
        let v = is_arithmetic o && u && is_untyped e in
        let w = operation_type o t (type_of s inner e) in
        let q = none-of (a ++ b) (row_faults s v asked w ts) f in
        let c = none-of (no_constant_part s e) (no_constant_operand s ts) p in
        and-both (names_are_told s e) (operands_are_told s ts)
        (named e inner (every_front IsToldNamed (named_in e) (named_in_tails ts) g) (none-of a b q.0).0 c.0)
        (row-named ts v asked w (every_back IsToldNamed (named_in e) (named_in_tails ts) g) q.1 c.1)

    arguments-named : (xs : Arguments ℕ) (ms : List Matched) → Every IsToldNamed (named_in_arguments xs) → argument_faults s ms xs ≡ [] → no_constant_argument s xs ≡ [] → arguments_are_told s xs ≡ true
    arguments-named no_arguments ms g f p = refl
    arguments-named (argument_then (Positional e) xs) ms g f p =
        let asked = asked_by (first_match ms) in
        let a = faults s asked e in
        let b = given_unsuited s (first_match ms) e (type_of s asked e) in
        let q = none-of (a ++ b) (argument_faults s (later_matches ms) xs) f in
        let c = none-of (no_constant_part s e) (no_constant_argument s xs) p in
        and-both (names_are_told s e) (arguments_are_told s xs)
        (named e asked (every_front IsToldNamed (named_in e) (named_in_arguments xs) g) (none-of a b q.0).0 c.0)
        (arguments-named xs (later_matches ms) (every_back IsToldNamed (named_in e) (named_in_arguments xs) g) q.1 c.1)
    arguments-named (argument_then (Input l name e) xs) ms g f p =
        let asked = asked_by (first_match ms) in
        let a = faults s asked e in
        let b = given_unsuited s (first_match ms) e (type_of s asked e) in
        let q = none-of (a ++ b) (argument_faults s (later_matches ms) xs) f in
        let c = none-of (no_constant_part s e) (no_constant_argument s xs) p in
        and-both (names_are_told s e) (arguments_are_told s xs)
        (named e asked (every_front IsToldNamed (named_in e) (named_in_arguments xs) g) (none-of a b q.0).0 c.0)
        (arguments-named xs (later_matches ms) (every_back IsToldNamed (named_in e) (named_in_arguments xs) g) q.1 c.1)
    arguments-named (argument_then (Output l name k r ss) xs) ms g f p =
        let a = root_faults s false r ss in
        let b = along_faults s (root_line r) false (root_standing s r ss) ss in
        let c = whole_faults s r ss in
        let d = target_faults s r ss in
        let o = output_unsuited s (root_line r) (matched_type (first_match ms)) (place_type s r ss) in
        let q = none-of (a ++ b ++ c ++ d ++ o) (argument_faults s (later_matches ms) xs) f in
        let t = none-of a b (none-of (a ++ b) c (none-of (a ++ b ++ c) d (none-of (a ++ b ++ c ++ d) o q.0).0).0).0 in
        let n = none-of (no_constant_place s r ss) (no_constant_argument s xs) p in
        let ns = named_by_root r ss ++ named_in_selectors ss in
        and-both (is_told (whole_target s r ss)) (arguments_are_told s xs)
        (place-named r ss (every_front IsToldNamed ns (named_in_arguments xs) g) (root_line r) t.1 n.0)
        (arguments-named xs (later_matches ms) (every_back IsToldNamed ns (named_in_arguments xs) g) q.1 n.1)
