-- The plan of code that a context is.
use Rattle.code_rules.specs.Plan.{Plan}
use Rattle.codegen_tables.specs.Calls.{called_entry, list_in, tables_by}
use Rattle.codegen_tables.specs.Sizes.{size_by, field_by, kind_by}
use Rattle.codegen_tables.specs.declared.context.Context.{Context}

abbrev pub plan_in : Context → Plan
plan_in c = record {
  size_of = size_by c.sizes.now;
  field_of = field_by c.sizes.now;
  kind_of = kind_by c.sizes.now;
  class = c.class;
  locals = c.locals.now;
  parameters = λ k. list_in c.calls.now (called_entry c.calls.now k);
  tables = tables_by c.calls.now;
}
