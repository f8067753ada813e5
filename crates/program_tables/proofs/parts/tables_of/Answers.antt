use Rattle.std.proofs.Common.{ℕ, List, length, refl, subst}
use Rattle.graph_reach.specs.Reach.{AreReached}
use Rattle.program_tables.proofs.TableLaws.{tables_made}
use Rattle.program_tables.proofs.parts.tables_of.Goals as goal

pub returns : goal.returns
returns c =
    tables_made c.args.program.now c.as_slice-classes.result.now c.as_slice-interfaces.result.now c.as_slice.result.now _ c.in_ok-interface_places.interface_places
    c.as_slice-classes.ensures c.as_slice-interfaces.ensures c.as_slice.ensures c.len.ensures c.in_ok-count.ensures refl
    c.in_ok-class_places.ensures c.in_ok-program_places.ensures c.in_ok-interface_places.ensures c.in_ok-bases.ensures c.in_ok-methods.ensures c.in_ok-implemented.ensures c.in_ok-extended.ensures
    (subst (λ (lists : List (List ℕ)). AreReached lists (length c.as_slice-interfaces.result.now) c.in_ok-reach.reach.items) c.deref.ensures.value c.in_ok-reach.ensures)
