-- Members and classes of a chain, one more, and all counts together.
use Rattle.std.proofs.Common.{◌≡◌, ℕ, ◌+◌, ◌<◌, ◌≤◌, Bor, List, [], ◌∷◌, ◌++◌, Option, refl, sym, ap, ◌∙◌, arith, map, length, get_or, drop}
use Rattle.std.specs.Prelude.{nat_lt, filter, flat_map}
use Rattle.std.proofs.lemmas.List.{map-append, length-map}
use Rattle.std.proofs.lemmas.List.Elements.{filter-append}
use Rattle.plc_text.specs.declared.code.Code.{Code}
use Rattle.plc_text.specs.declared.code.Code.TheVariants.{E16}
use Rattle.st_tree.specs.declared.declaration.ClassDecl.{ClassDecl}
use Rattle.st_tree.specs.declared.declaration.Member.{Member}
use Rattle.st_tree.specs.declared.unit.Decl.{Decl}
use Rattle.st_rules.specs.declared.names.DeclaredVariable.{DeclaredVariable}
use Rattle.st_rules.specs.Calls.{block_parameters}
use Rattle.st_rules.specs.Classes.{chain, classes_in, methods_in}
use Rattle.st_rules.specs.Faults.{least, earlier, when}
use Rattle.st_rules.specs.Scope.{Scope, is_of_body, variables_of}
use Rattle.st_rules.proofs.ListLaws.{drop-at, drop-end}
use Rattle.check_calls.specs.Parameters.{parameters_of}
use Rattle.st_unit_rules.specs.DeclarationRules.{body_locals}
use Rattle.st_unit_rules.specs.Limits.{too_many_methods, too_many_parameters, too_many_locals, too_many_bases, variable_values, all_values, sum_of}
use Rattle.check_limits.specs.type_sizes.Size.{capped}
use Rattle.check_initial_values.proofs.Parts.{joined}
use Rattle.check_classes.specs.class_limit_rules.Private.Counts.{counted}

-- ---- methods

-- so many members were looked at
pub record MethodsTo (ms : List (Member ℕ)) (count i : ℕ) : Type 0 where
  pub left : count + length (methods_in (drop i ms)) ≡ length (methods_in ms)

module _ (ms : List (Member ℕ)) where
  pub methods_begun : MethodsTo ms 0 0
  methods_begun = record { left = nothing (length (methods_in ms)) }
    where
      nothing : (n : ℕ) → 0 + n ≡ n
      nothing n = omega arith

  pub methods_next : (count more i : ℕ) (m : Member ℕ) → i < length ms → m ≡ get_or ms i m → ((rest : List (Member ℕ)) → more + length (methods_in rest) ≡ count + length (methods_in (m ∷ rest))) → MethodsTo ms count i → MethodsTo ms more (i + 1)
  methods_next count more i m l e f t = record { left = f (drop (i + 1) ms) ∙ ap (λ xs. count + length (methods_in xs)) (sym (drop-at ms i m l e)) ∙ t.left }

  pub methods_ended : (count i : ℕ) → length ms ≤ i → MethodsTo ms count i → count ≡ length (methods_in ms)
  methods_ended count i l t = nothing count ∙ ap (λ xs. count + length (methods_in xs)) (sym (drop-end ms i l)) ∙ t.left
    where
      nothing : (n : ℕ) → n ≡ n + 0
      nothing n = omega arith

-- ---- values of the locals of a body

module _ (s : Scope) where
  sum-append : (ns ms : List ℕ) → sum_of s (ns ++ ms) ≡ sum_of s ns + sum_of s ms
  sum-append [] ms = nothing (sum_of s ms)
    where
      nothing : (n : ℕ) → n ≡ 0 + n
      nothing n = omega arith
  sum-append (n ∷ ns) ms = ap (λ k. n + k) (sum-append ns ms) ∙ again n (sum_of s ns) (sum_of s ms)
    where
      again : (a b c : ℕ) → a + (b + c) ≡ (a + b) + c
      again a b c = omega arith

  values-append : (vs ws : List DeclaredVariable) → all_values s (vs ++ ws) ≡ all_values s vs + all_values s ws
  values-append vs ws = ap (sum_of s) (map-append (variable_values s) vs ws) ∙ sum-append (map (variable_values s) vs) (map (variable_values s) ws)

  abbrev of_chain : List ℕ → ℕ
  of_chain cs = all_values s (filter is_of_body (flat_map (variables_of s) cs))

  abbrev of_class : ℕ → ℕ
  of_class c = all_values s (filter is_of_body (variables_of s c))

  chain-more : (c : ℕ) (cs : List ℕ) → of_chain (c ∷ cs) ≡ of_class c + of_chain cs
  chain-more c cs =
      ap (all_values s) (filter-append is_of_body (variables_of s c) (flat_map (variables_of s) cs))
      ∙ values-append (filter is_of_body (variables_of s c)) (filter is_of_body (flat_map (variables_of s) cs))

  -- so many classes of the chain were looked at
  pub record ValuesTo (cs : List ℕ) (sum i : ℕ) : Type 0 where
    pub so_far : ℕ
    pub is : sum ≡ capped so_far
    pub left : so_far + of_chain (drop i cs) ≡ of_chain cs

  module _ (cs : List ℕ) where
    pub values_begun : 0 ≡ capped 0 → ValuesTo cs 0 0
    values_begun e = record { so_far = 0; is = e; left = nothing (of_chain cs) }
      where
        nothing : (n : ℕ) → 0 + n ≡ n
        nothing n = omega arith

    pub values_next : (sum more i c : ℕ) → i < length cs → c ≡ get_or cs i c → ((n : ℕ) → sum ≡ capped n → more ≡ capped (n + of_class c)) → ValuesTo cs sum i → ValuesTo cs more (i + 1)
    values_next sum more i c l e f t = record {
      so_far = t.so_far + of_class c;
      is = f t.so_far t.is;
      left = again t.so_far (of_class c) (of_chain (drop (i + 1) cs)) ∙ ap (λ n. t.so_far + n) (sym (ap of_chain (drop-at cs i c l e) ∙ chain-more c (drop (i + 1) cs))) ∙ t.left;
    }
      where
        again : (a b d : ℕ) → (a + b) + d ≡ a + (b + d)
        again a b d = omega arith

    pub values_ended : (sum i : ℕ) → length cs ≤ i → ValuesTo cs sum i → sum ≡ capped (of_chain cs)
    values_ended sum i l t = t.is ∙ ap capped (nothing t.so_far ∙ ap (λ xs. t.so_far + of_chain xs) (sym (drop-end cs i l)) ∙ t.left)
      where
        nothing : (n : ℕ) → n ≡ n + 0
        nothing n = omega arith

-- ---- parameters of a body

pub parameters_found : (s : Scope) (line class count : ℕ) (list : List (Bor DeclaredVariable)) (r : Option (Code × ℕ)) → parameters_of list ≡ block_parameters s class → count ≡ length list → r ≡ least (when (nat_lt 32 count) E16 line)
    → r ≡ least (too_many_parameters line (length (block_parameters s class)))
parameters_found s line class count list r p n e = e ∙ ap (λ k. least (when (nat_lt 32 k) E16 line)) (n ∙ sym (length-map list (λ v. v.now)) ∙ ap length p)

-- ---- all counts

pub counts_found : (decls : List (Decl ℕ)) (s : Scope) (class : ℕ) (d : ClassDecl ℕ) (above : List ℕ) (ms : List (Member ℕ)) (count sum : ℕ) (methods parameters values bases one two r : Option (Code × ℕ)) → s.classes ≡ classes_in decls
    → above ≡ chain s.classes class → ms ≡ d.members → count ≡ length (methods_in ms) → methods ≡ least (too_many_methods d.line count) → parameters ≡ least (too_many_parameters d.line (length (block_parameters s class)))
    → sum ≡ capped (of_chain s above) → ((n : ℕ) → sum ≡ capped n → values ≡ least (too_many_locals d.line n))
    → ((c : ℕ) → above ≡ chain (classes_in decls) c → bases ≡ least (too_many_bases d.line (classes_in decls) c)) → one ≡ earlier methods parameters → two ≡ earlier one values → r ≡ earlier two bases → r ≡ least (counted decls s class d)
counts_found decls s class d above ms count sum methods parameters values bases one two r e a g n m p v w b f h i =
    let members : methods ≡ least (too_many_methods d.line (length (methods_in d.members))) = m ∙ ap (λ k. least (too_many_methods d.line k)) (n ∙ ap (λ xs. length (methods_in xs)) g) in
    let locals : values ≡ least (too_many_locals d.line (all_values s (body_locals decls s class))) = w (of_chain s above) v ∙ ap (λ cs. least (too_many_locals d.line (of_chain s cs))) a in
    joined r two bases (too_many_methods d.line (length (methods_in d.members)) ++ too_many_parameters d.line (length (block_parameters s class)) ++ too_many_locals d.line (all_values s (body_locals decls s class)))
    (too_many_bases d.line (classes_in decls) class) i
    (joined two one values (too_many_methods d.line (length (methods_in d.members)) ++ too_many_parameters d.line (length (block_parameters s class))) (too_many_locals d.line (all_values s (body_locals decls s class))) h
    (joined one methods parameters (too_many_methods d.line (length (methods_in d.members))) (too_many_parameters d.line (length (block_parameters s class))) f members p)
    locals)
    (b class (a ∙ ap (λ cs. chain cs class) e))
