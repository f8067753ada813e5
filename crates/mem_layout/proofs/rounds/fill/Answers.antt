use Rattle.std.proofs.Common.{◌≡◌, Some, sym, ap, ◌∙◌, subst}
use Rattle.std.specs.Prelude.{slice_get}
use Rattle.std.proofs.lemmas.Option.{slice_get-get_or}
use Rattle.st_values.specs.Shape.{fields_by, shape_within}
use Rattle.mem_layout.specs.Private.Table.{members, AreTables}
use Rattle.mem_layout.specs.Private.Rounds.{Has}
use Rattle.mem_layout.proofs.RoundLaws.{variables_are, tables_more, has_with}
use Rattle.mem_layout.proofs.rounds.fill.Goals as goal

pub returns-clause-sound : goal.returns-clause-sound
returns-clause-sound c = λ p v f.
    let lists = c.args.lists.now in
    let item = c.index-lists-k.result in
    let there : slice_get lists c.args.k ≡ Some item = slice_get-get_or lists c.args.k item c.requires.there ∙ ap Some (sym c.index-lists-k.is) in
    let vars = variables_are lists c.args.k item c.as_slice.result.now (members p c.args.class c.args.k) there c.as_slice.ensures (v.each c.args.k) in
    subst (AreTables p) (sym c.put.ensures)
    (tables_more p c.args.tables.now c.args.class c.args.k c.in_ok-entry.entry c.requires.room f (λ m fs u. c.in_ok-entry.ensures.sound p m fs f (ap (fields_by (shape_within p m)) vars ∙ u)))

pub returns-clause-complete : goal.returns-clause-complete
returns-clause-complete c = λ p n sh v f r h s.
    let lists = c.args.lists.now in
    let item = c.index-lists-k.result in
    let there : slice_get lists c.args.k ≡ Some item = slice_get-get_or lists c.args.k item c.requires.there ∙ ap Some (sym c.index-lists-k.is) in
    let vars = variables_are lists c.args.k item c.as_slice.result.now (members p c.args.class c.args.k) there c.as_slice.ensures (v.each c.args.k) in
    subst (λ t. Has t c.args.class c.args.k) (sym c.put.ensures)
    (has_with p c.args.tables.now c.args.class c.args.k n sh c.in_ok-entry.entry c.requires.room r h s (λ m fs r' u small lt. c.in_ok-entry.ensures.complete p m fs f r' (ap (fields_by (shape_within p m)) vars ∙ u) small lt))
