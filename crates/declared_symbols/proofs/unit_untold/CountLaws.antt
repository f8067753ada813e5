-- What the names of classes count.
use Rattle.std.proofs.Common.{◌≡◌, ℕ, suc, ◌+◌, ◌<◌, ◌≤◌, Bool, true, false, cond, List, [], ◌∷◌, ◌++◌, map, drop, length, get_or, refl, sym, ap, ◌∙◌, arith}
use Rattle.std.specs.Prelude.{filter}
use Rattle.st_rules.proofs.ListLaws.{drop-at, drop-end}
use Rattle.st_tree.specs.declared.unit.Decl.{Decl}
use Rattle.st_tree.specs.declared.unit.Decl.TheVariants as declaration
use Rattle.st_unit_rules.specs.declared_names.Variables.{Written, is_kept_written, is_body_written}
use Rattle.st_unit_rules.specs.declared.declaration_list.written.WrittenName.{WrittenName}
use Rattle.st_unit_rules.specs.declaration_list.Written.{written_of}
use Rattle.declared_symbols.specs.untold_names.Untold.{number_behind}
use Rattle.declared_symbols.proofs.untold_names.StepLaws.{written_at}
use Rattle.declared_symbols.specs.declared.unit_untold.counts.Counts.{Counts}
use Rattle.declared_symbols.specs.unit_untold.Private.Counts.{nothing, with_written, counts_from, own_in}

pub counts_next : (names : List WrittenName) (i : ℕ) (name : WrittenName) (so_far next all : Counts) → i < length names → name ≡ get_or names i name → next ≡ with_written so_far (written_of name)
    → counts_from so_far (map written_of (drop i names)) ≡ all → counts_from next (map written_of (drop (i + 1) names)) ≡ all
counts_next names i name so_far next all l e f h =
    ap (λ c. counts_from c (map written_of (drop (i + 1) names))) f
    ∙ ap (counts_from so_far) (sym (written_at names i name l e))
    ∙ h

pub counts_ended : (names : List WrittenName) (i : ℕ) (so_far all : Counts) → length names ≤ i → counts_from so_far (map written_of (drop i names)) ≡ all → so_far ≡ all
counts_ended names i so_far all l h = ap (λ ns. counts_from so_far (map written_of ns)) (sym (drop-end names i l)) ∙ h

counted : (b : Bool) (n : ℕ) (w : Written) (ws : List Written) → number_behind b n + length ws ≡ n + length (cond b (w ∷ ws) ws)
counted true n w ws = omega arith
counted false n w ws = refl

pub kept_counted : (c : Counts) (ws : List Written) → (counts_from c ws).kept ≡ c.kept + length (filter is_kept_written ws)
kept_counted c [] = omega arith
kept_counted c (w ∷ ws) = kept_counted (with_written c w) ws ∙ counted (is_kept_written w) c.kept w (filter is_kept_written ws)

pub body_counted : (c : Counts) (ws : List Written) → (counts_from c ws).body ≡ c.body + length (filter is_body_written ws)
body_counted c [] = omega arith
body_counted c (w ∷ ws) = body_counted (with_written c w) ws ∙ counted (is_body_written w) c.body w (filter is_body_written ws)

pub own_split : (d : Decl ℕ) (ds : List (Decl ℕ)) → own_in (d ∷ ds) ≡ own_in (d ∷ []) ++ own_in ds
own_split (declaration.Types l ts) ds = refl
own_split (declaration.Class c) ds = refl
own_split (declaration.Interface i) ds = refl
own_split (declaration.Globals s) ds = refl
own_split (declaration.Function f) ds = refl
own_split (declaration.Program p) ds = refl
own_split (declaration.Configuration c) ds = refl
