-- Variables with addresses one after the other.
use Rattle.std.proofs.Common.{◌≡◌, ℕ, suc, ◌+◌, ◌<◌, ◌≤◌, List, [], ◌∷◌, ◌++◌, Option, Some, None, refl, sym, ap, ◌∙◌, append_assoc, append-nil, add-one, drop, get_or, length, map, option_map}
use Rattle.st_rules.proofs.ListLaws.{drop-at, drop-end}
use Rattle.st_tree.specs.declared.path.Step.TheVariants as step
use Rattle.st_tree.specs.declared.program.RegionDecl.{RegionDecl}
use Rattle.st_values.specs.Program.{Variable, Program}
use Rattle.st_values.specs.Value.{Path}
use Rattle.st_values.specs.View.{region_of}
use Rattle.program_tables.specs.declared.st_initial.variables.Variable as code
use Rattle.program_tables.specs.st_initial.Variables.{variable_of, variables_of}
use Rattle.st_meaning.specs.ProcessImage.{Located, located, located_variables, located_in, located_from}
use Rattle.process_image.specs.Private.Places.{located_at, place_in}

one_located : (q : Path) (v : Variable) (o : Option (List ℕ)) → located q v o ≡ located_at q v.kind o
one_located q v None = refl
one_located q v (Some a) = refl

-- one more variable of an instance
pub variable_next : (r k : ℕ) (vs : List code.Variable) (v : code.Variable) (before after all : List Located) → k < length vs → v ≡ get_or vs k v
    → before ++ located_variables r k (variables_of (drop k vs)) ≡ all
    → after ≡ before ++ located_at (place_in r (Some k)) v.kind.now (option_map (λ a. a.now) v.address)
    → after ++ located_variables r (k + 1) (variables_of (drop (k + 1) vs)) ≡ all
variable_next r k vs v before after all l e inv h =
    ap (λ xs. xs ++ located_variables r (k + 1) (variables_of (drop (k + 1) vs))) h
    ∙ append_assoc before (located_at (place_in r (Some k)) v.kind.now (option_map (λ a. a.now) v.address)) (located_variables r (k + 1) (variables_of (drop (k + 1) vs)))
    ∙ ap (λ n. before ++ (located_at (place_in r (Some k)) v.kind.now (option_map (λ a. a.now) v.address) ++ located_variables r n (variables_of (drop (k + 1) vs)))) (add-one k)
    ∙ ap (λ xs. before ++ (xs ++ located_variables r (suc k) (variables_of (drop (k + 1) vs)))) (sym (one_located (record { region = r; steps = step.Field k ∷ [] }) (variable_of v) (option_map (λ a. a.now) v.address)))
    ∙ sym (ap (λ us. before ++ located_variables r k (variables_of us)) (drop-at vs k v l e))
    ∙ inv

pub variables_end : (r k : ℕ) (vs : List code.Variable) (before all : List Located) → length vs ≤ k → before ++ located_variables r k (variables_of (drop k vs)) ≡ all → before ≡ all
variables_end r k vs before all l inv = sym (append-nil before) ∙ sym (ap (λ us. before ++ located_variables r k (variables_of us)) (drop-end vs k l)) ∙ inv

-- one more region
pub region_next : (p : Program) (r : ℕ) (ds : List RegionDecl) (d : RegionDecl) (before after all : List Located) → r < length ds → d ≡ get_or ds r d
    → before ++ located_from p r (map region_of (drop r ds)) ≡ all
    → after ≡ before ++ located_in p r (region_of d)
    → after ++ located_from p (r + 1) (map region_of (drop (r + 1) ds)) ≡ all
region_next p r ds d before after all l e inv h =
    ap (λ xs. xs ++ located_from p (r + 1) (map region_of (drop (r + 1) ds))) h
    ∙ append_assoc before (located_in p r (region_of d)) (located_from p (r + 1) (map region_of (drop (r + 1) ds)))
    ∙ ap (λ n. before ++ (located_in p r (region_of d) ++ located_from p n (map region_of (drop (r + 1) ds)))) (add-one r)
    ∙ sym (ap (λ us. before ++ located_from p r (map region_of us)) (drop-at ds r d l e))
    ∙ inv

pub regions_end : (p : Program) (r : ℕ) (ds : List RegionDecl) (before all : List Located) → length ds ≤ r → before ++ located_from p r (map region_of (drop r ds)) ≡ all → before ≡ all
regions_end p r ds before all l inv = sym (append-nil before) ∙ sym (ap (λ us. before ++ located_from p r (map region_of us)) (drop-end ds r l)) ∙ inv
