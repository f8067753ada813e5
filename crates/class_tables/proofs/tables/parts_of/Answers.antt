use Rattle.st_rules.specs.Classes.{classes_in}
use Rattle.st_rules.specs.Interfaces.{interfaces_in}
use Rattle.class_tables.proofs.BridgeLaws.{lead_within}
use Rattle.class_tables.proofs.TableLaws.{rows_within, rows_keys, tables_made}
use Rattle.class_tables.proofs.tables.parts_of.Goals as goal

pub settle_all-requires-clause-within : goal.settle_all-requires-clause-within
settle_all-requires-clause-within c =
    rows_within (classes_in c.args.decls.now) (interfaces_in c.args.decls.now) c.in_ok-names.names c.in_ok-rows.rows c.as_slice.result.now c.len.result c.in_ok-names.ensures.classes c.in_ok-rows.ensures c.as_slice.ensures c.len.ensures.len

pub settle_all-requires-clause-names : goal.settle_all-requires-clause-names
settle_all-requires-clause-names c =
    rows_keys (classes_in c.args.decls.now) (interfaces_in c.args.decls.now) c.in_ok-names.names c.in_ok-rows.rows c.as_slice.result.now c.len.result c.in_ok-names.ensures.classes c.in_ok-rows.ensures c.as_slice.ensures c.len.ensures.len

pub lead-requires : goal.lead-requires
lead-requires c = lead_within (classes_in c.args.decls.now) (interfaces_in c.args.decls.now) c.in_ok-rows.rows c.in_ok-rows.ensures

pub returns : goal.returns
returns c =
    tables_made (classes_in c.args.decls.now) (interfaces_in c.args.decls.now) c.in_ok-names.names c.in_ok-rows.rows c.as_slice.result.now c.len.result c.in_ok-names.ensures.classes c.in_ok-rows.ensures c.as_slice.ensures c.len.ensures.len
    c.in_ok-settled.settled c.in_ok-reach.reach.items c.in_ok-names.ensures.interfaces c.in_ok-settled.ensures.settled c.in_ok-settled.ensures.count c.in_ok-reach.ensures
