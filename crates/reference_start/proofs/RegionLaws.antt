-- The regions whose instances are found, and those that are left.
use Rattle.std.proofs.Common.{◌≡◌, ◌≤◌, ◌<◌, ℕ, suc, ◌+◌, List, [], ◌++◌, length, drop, get_or, map, append_assoc, append-nil, Some, refl, sym, ap, ◌∙◌, add-one}
use Rattle.std.proofs.lemmas.List.{map-append}
use Rattle.std.proofs.lemmas.Option.{slice_get-map, slice_get-get_or}
use Rattle.std.specs.Prelude.{true, option_map, slice_get}
use Rattle.st_tree.specs.declared.path.Path.{Path}
use Rattle.st_tree.specs.declared.path.Step.{Step}
use Rattle.st_tree.specs.declared.program.Program.{Program as CheckedProgram}
use Rattle.st_tree.specs.declared.program.RegionDecl.{RegionDecl}
use Rattle.st_rules.proofs.ListLaws.{drop-at, drop-end}
use Rattle.st_values.specs.Shape.{region_shape, shape_within}
use Rattle.st_values.specs.Value.{◌>>=◌}
use Rattle.st_values.specs.View.{program_of, region_of}
use Rattle.st_change.specs.Instances.{Member, members_first, walk_region, of_regions}
use Rattle.region_instances.specs.Instances.{RegionsUnfold}
use Rattle.reference_start.specs.declared.instances.Instance.{Instance as CodeInstance}
use Rattle.reference_start.specs.Private.Instances.{bare, all_of, in_type, in_regions, AddsType, AreInstances}

abbrev pub whole : ℕ → Path
whole r = record { region = r; steps = [] }

pub whole_is : (a r : ℕ) (ss : List Step) → a ≡ r → ss ≡ [] → ◌≡◌ {A = Path} (record { region = a; steps = ss }) (whole r)
whole_is a r ss e h = ap (λ (n : ℕ). record { region = n; steps = ss }) e ∙ ap (λ (us : List Step). record { region = r; steps = us }) h

pub record RegionsLeft (p : CheckedProgram) (r : ℕ) (now : List CodeInstance) : Type 0 where
  pub by : RegionsUnfold (program_of p) → all_of now ++ in_regions (program_of p) r (map region_of (drop r p.regions)) ≡ in_regions (program_of p) 0 (map region_of p.regions)

module _ (p : CheckedProgram) where
  pub regions_begun : RegionsLeft p 0 []
  regions_begun = record { by = λ u. refl }

  there : (r : ℕ) (d : RegionDecl) → r < length p.regions → d ≡ get_or p.regions r d → slice_get (program_of p).regions r ≡ Some (region_of d)
  there r d l is = slice_get-map region_of p.regions r ∙ ap (option_map region_of) (slice_get-get_or p.regions r d l ∙ ap Some (sym is))

  pub regions_next : (n r : ℕ) (d : RegionDecl) (now after : List CodeInstance) → n ≡ 65 → r < length p.regions → d ≡ get_or p.regions r d → RegionsLeft p r now → AddsType (program_of p) n d.kind (whole r) now after → RegionsLeft p (r + 1) after
  regions_next n r d now after depth l is left added = record {
    by = λ u.
        let a = u.shapes r (region_of d) (there r d l is) in
        let seen : region_shape (program_of p) r ≡ shape_within (program_of p) n d.kind =
        ap (λ o. o >>= λ x. shape_within (program_of p) 65 x.variable.kind) (there r d l is) ∙ ap (λ m. shape_within (program_of p) m d.kind) (sym depth) in
        let rest : List Member = of_regions (program_of p) (λ k. true) members_first (suc r) (map region_of (drop (r + 1) p.regions)) in
        ap (λ xs. xs ++ in_regions (program_of p) (r + 1) (map region_of (drop (r + 1) p.regions))) (added.by a.0 (sym seen ∙ a.1))
        ∙ append_assoc (all_of now) (in_type a.0 (whole r)) (in_regions (program_of p) (r + 1) (map region_of (drop (r + 1) p.regions)))
        ∙ ap (λ xs. all_of now ++ xs)
        (ap (λ k. in_type a.0 (whole r) ++ in_regions (program_of p) k (map region_of (drop (r + 1) p.regions))) (add-one r)
        ∙ sym (map-append bare (members_first a.0 (whole r)) rest)
        ∙ ap (λ o. map bare (walk_region members_first o r ++ rest)) (sym a.1)
        ∙ ap (λ ds. in_regions (program_of p) r (map region_of ds)) (sym (drop-at p.regions r d l is)))
        ∙ left.by u;
  }

  pub regions_ended : (r : ℕ) (now : List CodeInstance) → length p.regions ≤ r → RegionsLeft p r now → RegionsUnfold (program_of p) → AreInstances (program_of p) now
  regions_ended r now l left u = record {
    all = sym (append-nil (all_of now)) ∙ ap (λ ds. all_of now ++ in_regions (program_of p) r (map region_of ds)) (sym (drop-end p.regions r l)) ∙ left.by u;
  }
