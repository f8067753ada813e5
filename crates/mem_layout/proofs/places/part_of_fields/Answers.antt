use Rattle.std.proofs.Common.{None, refl, sym, subst}
use Rattle.mem_layout.specs.store_bytes.Place.{part_place}
use Rattle.mem_layout.specs.Layout.{told}
use Rattle.mem_layout.specs.Private.Place.{LeadsAt}
use Rattle.mem_layout.proofs.PlaceLaws.{fields_are, field_leads, field_missing}
use Rattle.mem_layout.proofs.places.part_of_fields.Goals as goal

pub returns-in_err-row-in-Field : goal.returns-in_err-row-in-Field
returns-in_err-row-in-Field c = λ p n sh f r h s.
    let e = c.in_ok-entry-in-Field.entry.now in
    let fa = fields_are p c.args.tables.now n c.args.class c.args.k sh e f h s c.in_ok-entry-in-Field.ensures.sound in
    let m = field_missing p n c.args.class sh e.fields c.in-Field.field fa (sym c.in_err-row-in-Field.ensures.value) in
    subst (λ o. LeadsAt p n (told o) (part_place sh c.args.step.now)) (sym c.from_residual-in_err-row-in-Field.ensures) (subst (λ t. LeadsAt p n None (part_place sh t)) (sym c.in-Field.is) m)

pub returns-in_ok-row-in-Field : goal.returns-in_ok-row-in-Field
returns-in_ok-row-in-Field c = λ p n sh f r h s.
    let e = c.in_ok-entry-in-Field.entry.now in
    let fa = fields_are p c.args.tables.now n c.args.class c.args.k sh e f h s c.in_ok-entry-in-Field.ensures.sound in
    field_leads p n c.args.class sh e.fields c.in-Field.field c.in_ok-row-in-Field.row.now c.in_ok-row-in-Field.row.now.kind c.args.step.now c.in-Field.is fa (sym c.in_ok-row-in-Field.ensures.value) refl
