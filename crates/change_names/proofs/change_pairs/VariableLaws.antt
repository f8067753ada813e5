-- Old names by places are those of the definitions.
use Rattle.std.proofs.Common.{◌≡◌, ◌≤◌, ◌<◌, ℕ, suc, ◌+◌, Bool, true, false, List, [], ◌∷◌, ◌++◌, length, get_or, drop, Option, Some, None, refl, sym, ap, ◌∙◌, append_assoc, append-nil}
use Rattle.std.proofs.lemmas.List.{map-append}
use Rattle.std.specs.Prelude.{if◌then◌else◌, not, ◌&&◌, is_some, option_map}
use Rattle.plc_text.specs.Words.{same}
use Rattle.st_rules.proofs.ListLaws.{drop-at, drop-end}
use Rattle.st_values.specs.Program.{Variable}
use Rattle.st_change.specs.From.{declares, is_name, marked, own_name, from_mark, from, pairs_by, same_name}
use Rattle.program_tables.specs.declared.st_initial.variables.Variable as held
use Rattle.program_tables.specs.st_initial.Variables.{variable_of, variables_of}
use Rattle.change_names.specs.declared.change_pairs.sources.Pair.{Pair}
use Rattle.change_names.specs.change_pairs.Pairs.{pair_of, pairs_of}
use Rattle.change_names.specs.change_pairs.Places.{Table, found_in, Finds, first_where}
use Rattle.change_names.specs.change_pairs.Variables.{has_name}
use Rattle.change_names.specs.change_pairs.Private.Variables.{has_mark, name_at, own_by, mark_by, from_by, same_by}

any_behind : (o : Option ℕ) → is_some (option_map suc o) ≡ is_some o
any_behind None = refl
any_behind (Some k) = refl

-- whether a name is declared
pub declares_is : (vs : List held.Variable) (n : List ℕ) → is_some (first_where (has_name n) vs) ≡ declares (variables_of vs) n
declares_is [] n = refl
declares_is (v ∷ vs) n = at (declares_is vs n) (same v.name.now n)
  where
    at : is_some (first_where (has_name n) vs) ≡ declares (variables_of vs) n → (b : Bool) → is_some (if b then Some 0 else option_map suc (first_where (has_name n) vs)) ≡ (if b then true else declares (variables_of vs) n)
    at f true = refl
    at f false = any_behind (first_where (has_name n) vs) ∙ f

name_behind : (v : held.Variable) (vs : List held.Variable) (o : Option ℕ) → name_at (v ∷ vs) (option_map suc o) ≡ name_at vs o
name_behind v vs None = refl
name_behind v vs (Some k) = refl

-- the first variable that is marked
pub marked_is : (vs : List held.Variable) (o : List ℕ) → name_at vs (first_where (has_mark o) vs) ≡ marked (variables_of vs) o
marked_is [] o = refl
marked_is (v ∷ vs) o = at (marked_is vs o) (has_mark o v)
  where
    at : name_at vs (first_where (has_mark o) vs) ≡ marked (variables_of vs) o → (b : Bool) → name_at (v ∷ vs) (if b then Some 0 else option_map suc (first_where (has_mark o) vs)) ≡ (if b then Some v.name.now else marked (variables_of vs) o)
    at f true = refl
    at f false = name_behind v vs (first_where (has_mark o) vs) ∙ f

module _ (vs ws : List held.Variable) (declared marks : Table) (d : Finds declared (λ n. first_where (has_name n) ws)) (m : Finds marks (λ o. first_where (has_mark o) vs)) where
  is_there : (n : List ℕ) → is_some (found_in declared n) ≡ declares (variables_of ws) n
  is_there n = ap is_some (d.by n) ∙ declares_is ws n

  first_is : (o : List ℕ) → name_at vs (found_in marks o) ≡ marked (variables_of vs) o
  first_is o = ap (name_at vs) (m.by o) ∙ marked_is vs o

  own_is : (v : held.Variable) → own_by (found_in declared) (found_in marks) vs v ≡ own_name (variables_of vs) (variables_of ws) (variable_of v)
  own_is v =
      ap (λ b. if b && not (is_some (name_at vs (found_in marks v.name.now))) then Some v.name.now else None) (is_there v.name.now)
      ∙ ap (λ o. if declares (variables_of ws) v.name.now && not (is_some o) then Some v.name.now else None) (first_is v.name.now)

  mark_is : (v : held.Variable) (o : Option (List ℕ)) → mark_by (found_in declared) (found_in marks) vs v o ≡ from_mark (variables_of vs) (variables_of ws) (variable_of v) o
  mark_is v None = own_is v
  mark_is v (Some o) =
      ap (λ b. if b && is_name (name_at vs (found_in marks o)) v.name.now then Some o else own_by (found_in declared) (found_in marks) vs v) (is_there o)
      ∙ ap (λ k. if declares (variables_of ws) o && is_name k v.name.now then Some o else own_by (found_in declared) (found_in marks) vs v) (first_is o)
      ∙ ap (λ k. if declares (variables_of ws) o && is_name (marked (variables_of vs) o) v.name.now then Some o else k) (own_is v)

  -- the old name of a variable
  pub from_is : (v : held.Variable) → from_by (found_in declared) (found_in marks) vs v ≡ from (variables_of vs) (variables_of ws) (variable_of v)
  from_is v = mark_is v (option_map (λ t. t.now) v.renamed_from)

pub same_is : (ws : List held.Variable) (declared : Table) → Finds declared (λ n. first_where (has_name n) ws) → (v : held.Variable) → same_by (found_in declared) v ≡ same_name (variables_of ws) (variable_of v)
same_is ws declared d v = ap (λ b. if b then Some v.name.now else None) (ap is_some (d.by v.name.now) ∙ declares_is ws v.name.now)

-- ---- pairs one after the other

module _ (f : Variable → Option (List ℕ)) (vs : List held.Variable) where
  -- what was added, and what the rest gives, is the whole
  pub record PairsLeft (i : ℕ) (pairs : List Pair) : Type 0 where
    pub whole : pairs_of pairs ++ pairs_by f (variables_of (drop i vs)) ≡ pairs_by f (variables_of vs)

  pub pairs_begin : PairsLeft 0 []
  pairs_begin = record { whole = refl }

  pub pairs_next : (i : ℕ) (pairs new : List Pair) (x : held.Variable) (a : Pair) → i < length vs → x ≡ get_or vs i x → PairsLeft i pairs → new ≡ pairs ++ a ∷ [] → pair_of a ≡ (x.name.now, f (variable_of x)) → PairsLeft (i + 1) new
  pairs_next i pairs new x a h is left e p = record {
    whole =
        ap (λ ys. ys ++ pairs_by f (variables_of (drop (i + 1) vs))) (ap pairs_of e ∙ map-append pair_of pairs (a ∷ []) ∙ ap (λ y. pairs_of pairs ++ y ∷ []) p)
        ∙ append_assoc (pairs_of pairs) ((x.name.now, f (variable_of x)) ∷ []) (pairs_by f (variables_of (drop (i + 1) vs)))
        ∙ sym (ap (λ ys. pairs_of pairs ++ pairs_by f (variables_of ys)) (drop-at vs i x h is))
        ∙ left.whole;
  }

  pub pairs_end : (i : ℕ) (pairs : List Pair) → length vs ≤ i → PairsLeft i pairs → pairs_of pairs ≡ pairs_by f (variables_of vs)
  pairs_end i pairs h left = sym (append-nil (pairs_of pairs)) ∙ sym (ap (λ ys. pairs_of pairs ++ pairs_by f (variables_of ys)) (drop-end vs i h)) ∙ left.whole
