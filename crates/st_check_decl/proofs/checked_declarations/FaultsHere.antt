-- What a declaration breaks, from what all may break and from its own rules.
use Rattle.std.proofs.Common.{◌≡◌, ℕ, List, [], ◌++◌, Option, Some, None, length, refl, sym, ap, ◌∙◌, subst}
use Rattle.std.specs.Prelude.{MatchOption}
use Rattle.plc_text.specs.declared.code.Code.{Code}
use Rattle.st_tree.specs.declared.unit.Decl.{Decl}
use Rattle.st_rules.specs.Faults.{Faults, BreaksFirst, least, earlier}
use Rattle.st_rules.proofs.FaultLaws.{least-append, least_breaks_first}
use Rattle.st_unit_rules.specs.declared_names.Declarations.{Declaration, name_of}
use Rattle.check_names.specs.declarations_before.Before.{common_faults}
use Rattle.st_unit_rules.specs.passing_laws.Passing.{At, faults_here, placed_at}
use Rattle.st_unit_rules.specs.DeclarationRules.{declaration_faults, sort_faults}
use Rattle.st_check_decl.specs.declared.checked_declarations.so_far.Bad.{Bad}
use Rattle.st_check_decl.specs.declared.checked_declarations.so_far.Bad.TheVariants as bad
use Rattle.st_check_decl.specs.checked_declarations.SoFar.{Breaks, Says}

nothing_least : (fs : Faults) → least fs ≡ None → fs ≡ []
nothing_least fs e = subst (λ (o : Option (Code × ℕ)). MatchOption o (fs ≡ []) (λ f. BreaksFirst fs f.0 f.1)) e (least_breaks_first fs)

module _ (decls : List (Decl ℕ)) (a : At) (d : Declaration) where
  abbrev own : Faults
  own = sort_faults decls (length a.earlier) (placed_at a d) d

  parts : least (faults_here decls a d) ≡ earlier (least (common_faults decls a.earlier a.names d)) (least own)
  unfolding declaration_faults
  parts = least-append (common_faults decls a.earlier a.names d) own

  -- the least of both is that of all
  least_here : (fault common mine : Option (Code × ℕ)) → fault ≡ earlier common mine → common ≡ least (common_faults decls a.earlier a.names d) → mine ≡ least own → fault ≡ least (faults_here decls a d)
  least_here fault common mine e c m = e ∙ ap (λ x. earlier x mine) c ∙ ap (earlier (least (common_faults decls a.earlier a.names d))) m ∙ sym parts

  pub good_here : (fault common mine : Option (Code × ℕ)) → fault ≡ None → fault ≡ earlier common mine → common ≡ least (common_faults decls a.earlier a.names d) → mine ≡ least own → faults_here decls a d ≡ []
  good_here fault common mine n e c m = nothing_least (faults_here decls a d) (sym (least_here fault common mine e c m) ∙ n)

  pub bad_here : (b : Bad) (fault common mine : Option (Code × ℕ)) → Says b (name_of d) fault → fault ≡ earlier common mine → common ≡ least (common_faults decls a.earlier a.names d) → mine ≡ least own → Breaks b decls a d
  bad_here b fault common mine s e c m = subst (λ (o : Option (Code × ℕ)). Says b (name_of d) o) (least_here fault common mine e c m) s
