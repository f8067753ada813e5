-- How many variables and locals of bodies classes declare, by themselves and with all above them.
use Rattle.std.specs.Prelude.{◌≡◌, ℕ, ◌+◌, ◌-◌, List, [], ◌∷◌, map, filter, length, Option, Some, None, slice_get}
use Rattle.st_tree.specs.declared.declaration.ClassDecl.{ClassDecl}
use Rattle.st_tree.specs.declared.unit.Decl.{Decl}
use Rattle.st_rules.specs.declared.names.DeclaredClass.{DeclaredClass}
use Rattle.st_rules.specs.Classes.{classes_in}
use Rattle.st_rules.specs.Numbered.{each_numbered}
use Rattle.st_unit_rules.specs.declared_names.Variables.{Written, sections_written, sections_in, is_kept_written, is_body_written}
use Rattle.declared_symbols.specs.declared.class_chains.cells.Cell.{Cell}
use Rattle.declared_symbols.specs.class_chains.Cells.{Lists}
use Rattle.declared_symbols.specs.untold_names.Untold.{number_behind, declared_above, untold_class}
use Rattle.declared_symbols.specs.declared.unit_untold.counts.Counts.{Counts}

abbrev pub nothing : Counts
nothing = record { kept = 0; body = 0 }

abbrev pub both : Counts → Counts → Counts
both a b = record { kept = a.kept + b.kept; body = a.body + b.body }

abbrev pub less : Counts → Counts → Counts
less a b = record { kept = a.kept - b.kept; body = a.body - b.body }

abbrev pub with_written : Counts → Written → Counts
with_written c w = record { kept = number_behind (is_kept_written w) c.kept; body = number_behind (is_body_written w) c.body }

abbrev pub counts_from : Counts → List Written → Counts
counts_from c [] = c
counts_from c (w ∷ ws) = counts_from (with_written c w) ws

abbrev pub own_counts : ClassDecl ℕ → Counts
own_counts d = counts_from nothing (sections_written (sections_in d.members))

abbrev pub own_in : List (Decl ℕ) → List Counts
own_in ds = map own_counts (classes_in ds)

abbrev pub count_in : Option Counts → Counts
count_in None = nothing
count_in (Some c) = c

abbrev pub count_there : List Counts → ℕ → Counts
count_there cs i = count_in (slice_get cs i)

abbrev pub count_behind : List Counts → Option ℕ → Counts
count_behind cs None = nothing
count_behind cs (Some i) = count_there cs i

abbrev pub count_at : List Counts → List Counts → Cell → Counts
count_at own totals cell = both (count_there own cell.class) (count_behind totals cell.behind)

abbrev pub sum_of : List Counts → List ℕ → Counts
sum_of own [] = nothing
sum_of own (x ∷ xs) = both (count_there own x) (sum_of own xs)

-- what the classes from a cell on declare together
pub record AreTotals (own : List Counts) (cells : List Cell) (totals : List Counts) : Type 0 where
  pub each : (i : ℕ) (xs : List ℕ) → Lists cells (Some i) xs → count_there totals i ≡ sum_of own xs

abbrev pub kept_above : List (Decl ℕ) → ℕ → ℕ
kept_above decls c = length (filter is_kept_written (declared_above decls c))

abbrev pub body_above : List (Decl ℕ) → ℕ → ℕ
body_above decls c = length (filter is_body_written (declared_above decls c))

-- what a class declares, taken from what its first cell sums up, leaves what its bases declare
pub record AreSums (decls : List (Decl ℕ)) (own totals : List Counts) (firsts : List ℕ) : Type 0 where
  pub kept : (c i : ℕ) → slice_get firsts c ≡ Some i → (less (count_there totals i) (count_there own c)).kept ≡ kept_above decls c
  pub body : (c i : ℕ) → slice_get firsts c ≡ Some i → (less (count_there totals i) (count_there own c)).body ≡ body_above decls c

abbrev pub class_at : List (Decl ℕ) → ℕ → ClassDecl ℕ → DeclaredClass
class_at decls c d = untold_class (kept_above decls c) (body_above decls c) d

abbrev pub classes_from : List (Decl ℕ) → ℕ → List (ClassDecl ℕ) → List DeclaredClass
classes_from decls n ds = each_numbered (λ c d. class_at decls c d ∷ []) n ds
