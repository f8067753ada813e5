use Rattle.std.proofs.Common.{◌∙◌, ap}
use Rattle.std.specs.List.{list_any}
use Rattle.st_rules.specs.Modifiers.{is_abstract, is_final}
use Rattle.st_rules.specs.ClassRules.{is_in_out_section}
use Rattle.class_rows.specs.UnitNames.{all_names}
use Rattle.class_rows.specs.UnitNames.{class_names, interface_names}
use Rattle.class_rows.specs.Rows.{places_of, method_rows}
use Rattle.class_rows.proofs.RowLaws.{class-row-is}
use Rattle.class_rows.proofs.rows.class_row.Goals as goal

pub returns : goal.returns
returns g c = λ classes interfaces hc hi.
    class-row-is (all_names classes) (class_names classes) (interface_names interfaces) c.args.class.now _ _ _ _ _ _ _ _
    c.is_block.ensures (c.is_abstract.ensures ∙ ap is_abstract c.as_slice-modifiers.ensures) (c.is_final.ensures ∙ ap is_final c.as_slice-modifiers.ensures)
    (c.has_in_outs.ensures ∙ ap (list_any is_in_out_section) c.as_slice-members.ensures) c.is_some.ensures (c.base_place-base.ensures classes hc)
    (c.in_ok-places_of.ensures (interface_names interfaces) hi.places ∙ ap (places_of (interface_names interfaces)) c.as_slice.ensures)
    (c.in_ok-method_rows.ensures ∙ ap (λ ns. method_rows ns c.as_slice-members.result.now) hc.methods ∙ ap (method_rows (all_names classes)) c.as_slice-members.ensures)
