-- The regions that are filled so far, and those that are left.
use Rattle.std.proofs.Common.{◌≡◌, ◌≤◌, ◌<◌, ℕ, ◌+◌, List, [], length, drop, get_or, map, refl, sym, ap, ◌∙◌}
use Rattle.st_tree.specs.declared.program.RegionDecl.{RegionDecl}
use Rattle.st_rules.proofs.ListLaws.{drop-at, drop-end}
use Rattle.st_values.specs.Initial.{initial_value, initial_regions}
use Rattle.st_values.specs.Program.{Program}
use Rattle.st_values.specs.Value.{Value, no_members, member_then}
use Rattle.st_values.specs.View.{region_of}
use Rattle.value_trees.specs.declared.value.Member.{Member as CodeMember}
use Rattle.value_trees.specs.Value.{members_of}
use Rattle.initial_trees.specs.Private.Trees.{members_behind}
use Rattle.initial_trees.proofs.ListLaws.{members_end, members_one}

pub record RegionsLeft (p : Program) (rs : List RegionDecl) (k : ℕ) (store : List CodeMember) : Type 0 where
  pub by : members_behind (members_of store) (initial_regions p (map region_of (drop k rs))) ≡ initial_regions p (map region_of rs)

module _ (p : Program) (rs : List RegionDecl) where
  pub regions_begun : RegionsLeft p rs 0 []
  regions_begun = record { by = refl }

  pub regions_next : (k : ℕ) (r : RegionDecl) (store store' : List CodeMember) (v : Value) → k < length rs → r ≡ get_or rs k r → RegionsLeft p rs k store
      → v ≡ initial_value p (region_of r).variable → members_of store' ≡ members_behind (members_of store) (member_then r.name v no_members) → RegionsLeft p rs (k + 1) store'
  regions_next k r store store' v l is left e more = record {
    by = ap (λ ms. members_behind ms (initial_regions p (map region_of (drop (k + 1) rs)))) more
        ∙ members_one (members_of store) r.name v (initial_regions p (map region_of (drop (k + 1) rs)))
        ∙ ap (λ x. members_behind (members_of store) (member_then r.name x (initial_regions p (map region_of (drop (k + 1) rs))))) e
        ∙ ap (λ xs. members_behind (members_of store) (initial_regions p (map region_of xs))) (sym (drop-at rs k r l is)) ∙ left.by;
  }

  pub regions_ended : (k : ℕ) (store : List CodeMember) → length rs ≤ k → RegionsLeft p rs k store → members_of store ≡ initial_regions p (map region_of rs)
  regions_ended k store l left = sym (members_end (members_of store)) ∙ ap (λ xs. members_behind (members_of store) (initial_regions p (map region_of xs))) (sym (drop-end rs k l)) ∙ left.by
