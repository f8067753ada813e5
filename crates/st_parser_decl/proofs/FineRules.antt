-- One terminal tells which way each rule goes.
use Rattle.std.proofs.Common.{false}
use Rattle.st_parser_stmt.specs.Private.Numbers.{number, all, same_terminal}
use Rattle.st_parser_decl.specs.Private.Rules as w
use Rattle.st_parser_decl.proofs.Takes.{Fine, apart, all_closed}

pub fine-unit : Fine w.unit (λ t. false)
unfolding apart all_closed number all same_terminal w.word w.names w.expression w.value w.body w.range w.ranges w.array_spec w.simple_spec w.reference w.type_spec w.result w.start_value w.address w.item w.section_words w.keep_words w.items w.vars w.globals w.sections w.global_sections w.field_group w.enumeration w.structure w.alias w.type_body w.type_decl w.types w.prototype w.extended w.interface w.method_words w.method w.member w.members w.base w.implemented w.class_words w.head w.class w.block w.function w.program w.setting_value w.setting w.settings w.task w.instance w.tasks w.resource w.inner w.configuration w.declaration w.unit
fine-unit = assumption
