use Rattle.std.proofs.Common.{List, Bool, map, subst, sym, ◌∙◌}
use Rattle.st_unit_rules.specs.declaration_list.Written.{written_of}
use Rattle.declared_graph.specs.Private.Inner.{OnCycles}
use Rattle.declared_graph.proofs.InnerLaws.{cycles_are}
use Rattle.declared_graph.proofs.inner.inner_cycles_fault.Goals as goal

pub returns : goal.returns
returns c = λ sections e.
    c.marked_fault.ensures
    ∙ cycles_are c.deref.result.now c.args.names.now sections e (subst (λ (ms : List Bool). OnCycles ms (map written_of c.args.names.now)) (sym c.deref.ensures.value) (c.in_ok-marks.ensures sections e))
