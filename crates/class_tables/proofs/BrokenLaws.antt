-- What rows and what is settled tell of broken rules is what the rules say.
use Rattle.std.proofs.Common.{◌≡◌, ℕ, suc, ◌+◌, ◌<◌, ◌≤◌, Bool, List, [], ◌∷◌, ◌++◌, Option, Some, None, length, map, drop, get_or, add-one, refl, sym, ap, ◌∙◌, arith, subst}
use Rattle.std.specs.Prelude.{◌||◌, ◌&&◌, not, slice_get, option_map, option_and_then, unwrap_or}
use Rattle.std.specs.Option.{is_none}
use Rattle.std.specs.List.{list_any}
use Rattle.std.specs.Map.{keys_of}
use Rattle.plc_text.specs.declared.code.Code.{Code}
use Rattle.plc_text.specs.declared.code.Code.TheVariants.{E12}
use Rattle.st_tree.specs.declared.declaration.ClassDecl.{ClassDecl}
use Rattle.st_tree.specs.declared.declaration.InterfaceDecl.{InterfaceDecl}
use Rattle.st_tree.specs.declared.declaration.Method.{Method}
use Rattle.st_rules.specs.declared.modifiers.Access.TheVariants.{Private}
use Rattle.st_rules.specs.declared.ids.MethodId.{MethodId}
use Rattle.st_rules.specs.declared.signature.Signatures.{Signatures}
use Rattle.st_rules.specs.Faults.{Faults, earlier, least, when}
use Rattle.st_rules.specs.Named.{first_place}
use Rattle.st_rules.specs.Numbered.{passes_if_there, each_numbered}
use Rattle.st_rules.specs.Modifiers.{is_abstract, is_final, is_override, method_access, same_access}
use Rattle.st_rules.specs.Signatures.{is_hook, differ, signature_of}
use Rattle.st_rules.specs.Chains.{is_among}
use Rattle.st_rules.specs.Classes.{methods_in, method_id, base_of, chain, lookup, method_at}
use Rattle.st_rules.specs.ClassRules as rules
use Rattle.st_rules.specs.ClassRules.{is_block, is_statement, lies_on_cycle}
use Rattle.st_rules.proofs.ListLaws.{drop-at, drop-end}
use Rattle.st_rules.proofs.FaultLaws.{earlier-assoc, earlier-none, least-append, when-or}
use Rattle.class_rows.specs.declared.unit_names.UnitNames.{UnitNames}
use Rattle.class_rows.specs.declared.rows.ClassRow.{ClassRow}
use Rattle.class_rows.specs.declared.rows.UnitRows.{UnitRows}
use Rattle.class_rows.specs.UnitNames.{all_names, class_names, interface_names}
use Rattle.class_rows.specs.Rows.{method_row, class_row}
use Rattle.class_rows.specs.Faults.{row_base_faults, is_bad_method}
use Rattle.class_rows.proofs.IndexLaws.{place_has}
use Rattle.class_tables.specs.declared.settle.Settled.{Settled}
use Rattle.class_tables.specs.Private.Absorb.{row_at}
use Rattle.class_tables.specs.Private.Found.{with_entry, has_above}
use Rattle.class_tables.specs.Private.Broken as broken
use Rattle.class_tables.specs.Private.Tables.{AreTables}
use Rattle.class_tables.proofs.ClimbLaws.{get_or-self}
use Rattle.class_tables.proofs.BridgeLaws.{In, number, all_in, get-map, row-at, base-same, method-same}
use Rattle.class_tables.proofs.TableLaws.{entry_found, above_found}

-- ---- the least of what numbered items give

module _ {X : Type 0} (f : ℕ → X → Faults) (xs : List X) (i : ℕ) (found : Option (Code × ℕ)) where
  pub numbered_step : (x : X) (new all : Option (Code × ℕ)) → i < length xs → x ≡ get_or xs i x → new ≡ earlier found (least (f i x)) →
      earlier found (least (each_numbered f i (drop i xs))) ≡ all → earlier new (least (each_numbered f (i + 1) (drop (i + 1) xs))) ≡ all
  numbered_step x new all l e n h =
      ap (λ o. earlier o (least (each_numbered f (i + 1) (drop (i + 1) xs)))) n
      ∙ sym (earlier-assoc found (least (f i x)) (least (each_numbered f (i + 1) (drop (i + 1) xs))))
      ∙ ap (λ k. earlier found (earlier (least (f i x)) (least (each_numbered f k (drop (i + 1) xs))))) (add-one i)
      ∙ ap (earlier found) (sym (least-append (f i x) (each_numbered f (suc i) (drop (i + 1) xs))))
      ∙ ap (λ ys. earlier found (least (each_numbered f i ys))) (sym (drop-at xs i x l e)) ∙ h

  pub numbered_end : (all : Option (Code × ℕ)) → length xs ≤ i → earlier found (least (each_numbered f i (drop i xs))) ≡ all → found ≡ all
  numbered_end all l h = sym (earlier-none found) ∙ ap (λ ys. earlier found (least (each_numbered f i ys))) (sym (drop-end xs i l)) ∙ h

-- where the items stand in a list of their own
pub numbered_more : {X : Type 0} (f : ℕ → X → Faults) (xs ys : List X) (i : ℕ) (found : Option (Code × ℕ)) (d : X) (new all : Option (Code × ℕ)) → ys ≡ xs → i < length ys → new ≡ earlier found (least (f i (get_or ys i d))) →
    earlier found (least (each_numbered f i (drop i xs))) ≡ all → earlier new (least (each_numbered f (i + 1) (drop (i + 1) xs))) ≡ all
numbered_more {X = X} f xs ys i found d new all e l n h =
    numbered_step f xs i found (get_or ys i d) new all (subst (λ (zs : List X). i < length zs) e l) (get_or-self ys i d ∙ ap (λ zs. get_or zs i (get_or ys i d)) e) n h

pub numbered_start : {X : Type 0} (f : ℕ → X → Faults) (xs : List X) → earlier None (least (each_numbered f 0 (drop 0 xs))) ≡ least (each_numbered f 0 xs)
numbered_start f xs = refl

each-same : {X Y : Type 0} (f : ℕ → X → Faults) (g : ℕ → Y → Faults) (h : X → Y) (n : ℕ) (xs : List X) → ((k : ℕ) (x : X) → slice_get xs k ≡ Some x → least (g (n + k) (h x)) ≡ least (f (n + k) x)) →
    least (each_numbered g n (map h xs)) ≡ least (each_numbered f n xs)
each-same f g h n [] e = refl
each-same f g h n (x ∷ xs) e =
    least-append (g n (h x)) (each_numbered g (suc n) (map h xs))
    ∙ ap (λ o. earlier o (least (each_numbered g (suc n) (map h xs)))) first
    ∙ ap (earlier (least (f n x))) (each-same f g h (suc n) xs rest)
    ∙ sym (least-append (f n x) (each_numbered f (suc n) xs))
  where
    first : least (g n (h x)) ≡ least (f n x)
    first = let z : n + 0 ≡ n = omega arith in ap (λ m. least (g m (h x))) (sym z) ∙ e 0 x refl ∙ ap (λ m. least (f m x)) z

    rest : (k : ℕ) (y : _) → slice_get xs k ≡ Some y → least (g (suc n + k) (h y)) ≡ least (f (suc n + k) y)
    rest k y q = let z : n + suc k ≡ suc n + k = omega arith in ap (λ m. least (g m (h y))) (sym z) ∙ e (suc k) y q ∙ ap (λ m. least (f m y)) z

-- ---- rules of one code at one line

when-more : (fs : Faults) (a b : Bool) (l : ℕ) → least fs ≡ least (when a E12 l) → least (fs ++ when b E12 l) ≡ least (when (a || b) E12 l)
when-more fs a b l h = least-append fs (when b E12 l) ∙ ap (λ o. earlier o (least (when b E12 l))) h ∙ when-or a b E12 l

nine : (a b c d e f g h i : Bool) (l : ℕ) →
    least (when a E12 l ++ when b E12 l ++ when c E12 l ++ when d E12 l ++ when e E12 l ++ when f E12 l ++ when g E12 l ++ when h E12 l ++ when i E12 l) ≡ least (when (a || b || c || d || e || f || g || h || i) E12 l)
nine a b c d e f g h i l =
    when-more (when a E12 l ++ when b E12 l ++ when c E12 l ++ when d E12 l ++ when e E12 l ++ when f E12 l ++ when g E12 l ++ when h E12 l) (a || b || c || d || e || f || g || h) i l
    (when-more (when a E12 l ++ when b E12 l ++ when c E12 l ++ when d E12 l ++ when e E12 l ++ when f E12 l ++ when g E12 l) (a || b || c || d || e || f || g) h l
    (when-more (when a E12 l ++ when b E12 l ++ when c E12 l ++ when d E12 l ++ when e E12 l ++ when f E12 l) (a || b || c || d || e || f) g l
    (when-more (when a E12 l ++ when b E12 l ++ when c E12 l ++ when d E12 l ++ when e E12 l) (a || b || c || d || e) f l
    (when-more (when a E12 l ++ when b E12 l ++ when c E12 l ++ when d E12 l) (a || b || c || d) e l
    (when-more (when a E12 l ++ when b E12 l ++ when c E12 l) (a || b || c) d l
    (when-more (when a E12 l ++ when b E12 l) (a || b) c l
    (when-more (when a E12 l) a b l refl)))))))

bad-same : {A : Type 0} (names : List (List ℕ)) (method : Method A) (o : Option (Method A)) (other no_hook in_abstract : Bool) →
    is_bad_method (method_row names method) (option_map (method_row names) o) other no_hook in_abstract
    ≡ (passes_if_there (λ o. is_final o.modifiers) o || passes_if_there (λ o. same_access (method_access o.modifiers) Private) o
    || passes_if_there (λ o. not (same_access (method_access method.modifiers) (method_access o.modifiers))) o || other || is_override method.modifiers && is_none o
    || is_hook method.name.text && is_abstract method.modifiers || no_hook || is_abstract method.modifiers && list_any is_statement method.body || is_abstract method.modifiers && not in_abstract)
bad-same names method None other no_hook in_abstract = refl
bad-same names method (Some o) other no_hook in_abstract = refl

-- ---- a class

pub class_joined : {V : Type 0} (same_value : V → V → Bool) (names : List (List ℕ)) (rows : List ClassRow) (settled : Settled) (signatures : Signatures V) (c : ℕ) (row : ClassRow) (on_cycle final block : Bool) (a b r : Option (Code × ℕ)) →
    Some row ≡ slice_get rows c → on_cycle ≡ broken.is_on_cycle rows settled c → final ≡ broken.has_final_base rows c → block ≡ broken.has_block_base rows c → a ≡ least (row_base_faults row on_cycle final block) →
    b ≡ least (broken.methods_faults same_value names rows settled signatures c row) → r ≡ earlier a b → r ≡ least (broken.class_faults same_value names rows settled signatures c)
class_joined same_value names rows settled signatures c row on_cycle final block a b r e x y z p q j =
    j ∙ ap (λ o. earlier o b) (p ∙ ap (λ t. least (row_base_faults row t final block)) x ∙ ap (λ t. least (row_base_faults row (broken.is_on_cycle rows settled c) t block)) y
    ∙ ap (λ t. least (row_base_faults row (broken.is_on_cycle rows settled c) (broken.has_final_base rows c) t)) z)
    ∙ ap (earlier (least (row_base_faults row (broken.is_on_cycle rows settled c) (broken.has_final_base rows c) (broken.has_block_base rows c)))) q
    ∙ sym (least-append (row_base_faults row (broken.is_on_cycle rows settled c) (broken.has_final_base rows c) (broken.has_block_base rows c)) (broken.methods_faults same_value names rows settled signatures c row))
    ∙ ap (λ o. least (broken.class_faults_in same_value names rows settled signatures c o)) e

module _ {A : Type 0} (classes : List (ClassDecl A)) (interfaces : List (InterfaceDecl A)) (names : UnitNames) (rows : UnitRows) (settled : Settled) (reach : List (List ℕ))
    (t : AreTables classes interfaces names rows settled reach) {V : Type 0} (same_value : V → V → Bool) (signatures : Signatures V) where
  abbrev row_of : ClassDecl A → ClassRow
  row_of = class_row (all_names classes) (class_names classes) (interface_names interfaces)

  cycle-same : (c : ℕ) → broken.is_on_cycle rows.classes settled c ≡ lies_on_cycle classes c
  cycle-same c = ap (passes_if_there (λ b. has_above settled b c)) (base-same classes interfaces rows t.are_rows c) ∙ at (base_of classes c)
    where
      at : (o : Option ℕ) → passes_if_there (λ b. has_above settled b c) o ≡ passes_if_there (λ b. is_among c (chain classes b)) o
      at None = refl
      at (Some b) = above_found classes interfaces names rows settled reach t b c

  abbrev base_class : ℕ → Option (ClassDecl A)
  base_class c = option_and_then (slice_get classes) (base_of classes c)

  base-row : (c : ℕ) → broken.base_row rows.classes c ≡ option_map row_of (base_class c)
  base-row c = ap (option_and_then (slice_get rows.classes)) (base-same classes interfaces rows t.are_rows c) ∙ at (base_of classes c)
    where
      at : (o : Option ℕ) → option_and_then (slice_get rows.classes) o ≡ option_map row_of (option_and_then (slice_get classes) o)
      at None = refl
      at (Some b) = row-at classes interfaces rows t.are_rows b

  final-same : (c : ℕ) → broken.has_final_base rows.classes c ≡ passes_if_there (λ b. is_final b.modifiers) (base_class c)
  final-same c = ap (passes_if_there (λ (b : ClassRow). b.is_final)) (base-row c) ∙ at (base_class c)
    where
      at : (o : Option (ClassDecl A)) → passes_if_there (λ (b : ClassRow). b.is_final) (option_map row_of o) ≡ passes_if_there (λ b. is_final b.modifiers) o
      at None = refl
      at (Some b) = refl

  block-same : (c : ℕ) → broken.has_block_base rows.classes c ≡ passes_if_there is_block (base_class c)
  block-same c = ap (passes_if_there (λ (b : ClassRow). b.is_block)) (base-row c) ∙ at (base_class c)
    where
      at : (o : Option (ClassDecl A)) → passes_if_there (λ (b : ClassRow). b.is_block) (option_map row_of o) ≡ passes_if_there is_block o
      at None = refl
      at (Some b) = refl

  base_faults-same : (c : ℕ) (class : ClassDecl A) →
      row_base_faults (row_of class) (broken.is_on_cycle rows.classes settled c) (broken.has_final_base rows.classes c) (broken.has_block_base rows.classes c) ≡ rules.base_faults same_value classes signatures c class
  base_faults-same c class =
      ap (λ b. row_base_faults (row_of class) b (broken.has_final_base rows.classes c) (broken.has_block_base rows.classes c)) (cycle-same c)
      ∙ ap (λ b. row_base_faults (row_of class) (lies_on_cycle classes c) b (broken.has_block_base rows.classes c)) (final-same c)
      ∙ ap (λ b. row_base_faults (row_of class) (lies_on_cycle classes c) (passes_if_there (λ b. is_final b.modifiers) (base_class c)) b) (block-same c)

  inherited-same : (c n : ℕ) (name : List ℕ) → first_place name (all_names classes) ≡ Some n → broken.inherited rows.classes settled c n ≡ rules.inherited same_value classes signatures c name
  inherited-same c n name e = ap (option_and_then (λ b. with_entry settled b (λ s e. e.id) n)) (base-same classes interfaces rows t.are_rows c) ∙ at (base_of classes c)
    where
      at : (o : Option ℕ) → option_and_then (λ b. with_entry settled b (λ s e. e.id) n) o ≡ option_and_then (λ b. lookup classes b name) o
      at None = refl
      at (Some b) = entry_found classes interfaces names rows settled reach t b n name e

  overridden-same : (o : Option MethodId) → option_and_then (row_at rows.classes) o ≡ option_map (method_row (all_names classes)) (option_and_then (method_at classes) o)
  overridden-same None = refl
  overridden-same (Some id) = method-same classes interfaces rows t.are_rows id

  module _ (c : ℕ) (class : ClassDecl A) (there : slice_get classes c ≡ Some class) where
    abbrev over : Method A → Option MethodId
    over m = rules.inherited same_value classes signatures c m.name.text

    abbrev overridden : Method A → Option (Method A)
    overridden m = option_and_then (method_at classes) (over m)

    abbrev other : ℕ → Method A → Bool
    other j m = rules.has_other_signature same_value classes signatures (method_id c j) (over m)

    abbrev no_hook : ℕ → Method A → Bool
    no_hook j m = rules.is_no_hook same_value classes signatures (method_id c j) m.name.text

    method_faults-same : (k : ℕ) (method : Method A) → slice_get (methods_in class.members) k ≡ Some method →
        least (broken.method_faults same_value (all_names classes) rows.classes settled signatures c (is_abstract class.modifiers) k (method_row (all_names classes) method)) ≡ least (rules.method_faults same_value classes signatures c class k method)
    method_faults-same k method e =
        let in_names : In method.name.text (all_names classes) =
        all_in classes c class there k method.name.text (get-map (λ (m : Method A). m.name.text) (methods_in class.members) k ∙ ap (option_map (λ (m : Method A). m.name.text)) e) in
        let n_is : first_place method.name.text (all_names classes) ≡ Some (number (all_names classes) method.name.text) = in_names.1 ∙ ap Some (sym (ap (λ o. unwrap_or o 0) in_names.1)) in
        ap (λ over. least (when (is_bad_method (method_row (all_names classes) method) (option_and_then (row_at rows.classes) over) (differ same_value (signature_of signatures (method_id c k)) (option_and_then (signature_of signatures) over))
        (broken.is_no_hook same_value signatures (method_id c k) (slice_get (all_names classes) (number (all_names classes) method.name.text))) (is_abstract class.modifiers)) E12 method.line))
        (inherited-same c (number (all_names classes) method.name.text) method.name.text n_is)
        ∙ ap (λ o. least (when (is_bad_method (method_row (all_names classes) method) o (other k method)
        (broken.is_no_hook same_value signatures (method_id c k) (slice_get (all_names classes) (number (all_names classes) method.name.text))) (is_abstract class.modifiers)) E12 method.line))
        (overridden-same (over method))
        ∙ ap (λ q. least (when (is_bad_method (method_row (all_names classes) method) (option_map (method_row (all_names classes)) (overridden method)) (other k method)
        (broken.is_no_hook same_value signatures (method_id c k) q) (is_abstract class.modifiers)) E12 method.line))
        (place_has method.name.text (all_names classes) (number (all_names classes) method.name.text) n_is)
        ∙ ap (λ b. least (when b E12 method.line)) (bad-same (all_names classes) method (overridden method) (other k method) (no_hook k method) (is_abstract class.modifiers))
        ∙ sym (nine (passes_if_there (λ o. is_final o.modifiers) (overridden method)) (passes_if_there (λ o. same_access (method_access o.modifiers) Private) (overridden method))
        (passes_if_there (λ o. not (same_access (method_access method.modifiers) (method_access o.modifiers))) (overridden method)) (other k method) (is_override method.modifiers && is_none (overridden method))
        (is_hook method.name.text && is_abstract method.modifiers) (no_hook k method) (is_abstract method.modifiers && list_any is_statement method.body) (is_abstract method.modifiers && not (is_abstract class.modifiers)) method.line)

    methods_faults-same : least (broken.methods_faults same_value (all_names classes) rows.classes settled signatures c (row_of class)) ≡ least (each_numbered (rules.method_faults same_value classes signatures c class) 0 (methods_in class.members))
    methods_faults-same =
        each-same (rules.method_faults same_value classes signatures c class) (broken.method_faults same_value (all_names classes) rows.classes settled signatures c (is_abstract class.modifiers))
        (method_row (all_names classes)) 0 (methods_in class.members) (λ k m e. let z : 0 + k ≡ k = omega arith in
        ap (λ j. least (broken.method_faults same_value (all_names classes) rows.classes settled signatures c (is_abstract class.modifiers) j (method_row (all_names classes) m))) z
        ∙ method_faults-same k m e ∙ ap (λ j. least (rules.method_faults same_value classes signatures c class j m)) (sym z))

  faults_at : (c : ℕ) (o : Option (ClassDecl A)) → slice_get classes c ≡ o →
      least (broken.class_faults_in same_value (all_names classes) rows.classes settled signatures c (option_map row_of o)) ≡ least (rules.class_faults_of same_value classes signatures c o)
  faults_at c None e = refl
  faults_at c (Some class) e =
      least-append (row_base_faults (row_of class) (broken.is_on_cycle rows.classes settled c) (broken.has_final_base rows.classes c) (broken.has_block_base rows.classes c))
      (broken.methods_faults same_value (all_names classes) rows.classes settled signatures c (row_of class))
      ∙ ap (λ fs. earlier (least fs) (least (broken.methods_faults same_value (all_names classes) rows.classes settled signatures c (row_of class)))) (base_faults-same c class)
      ∙ ap (earlier (least (rules.base_faults same_value classes signatures c class))) (methods_faults-same c class e)
      ∙ sym (least-append (rules.base_faults same_value classes signatures c class) (each_numbered (rules.method_faults same_value classes signatures c class) 0 (methods_in class.members)))

  pub class_faults-same : (c : ℕ) → least (broken.class_faults same_value (keys_of names.methods) rows.classes settled signatures c) ≡ least (rules.class_faults same_value classes signatures c)
  class_faults-same c =
      ap (λ ns. least (broken.class_faults same_value ns rows.classes settled signatures c)) t.class_names.methods
      ∙ ap (λ o. least (broken.class_faults_in same_value (all_names classes) rows.classes settled signatures c o)) (row-at classes interfaces rows t.are_rows c)
      ∙ faults_at c (slice_get classes c) refl
