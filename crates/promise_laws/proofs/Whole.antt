-- The checked program of a good unit that is formed keeps what is promised, and so does each program as which a source is accepted.
use Rattle.std.proofs.Common.{◌≡◌, ◌≤◌, ℕ, true, List, Option, subst, arith}
use Rattle.st_types.specs.declared.st_type.StType.{StType}
use Rattle.st_tree.specs.declared.program.Program.{Program as Checked}
use Rattle.st_tree.specs.declared.program.Target.{Target}
use Rattle.st_tree.specs.declared.program.Target.TheVariants as target
use Rattle.st_tree.specs.declared.declaration.Section.{Section}
use Rattle.st_tree.specs.declared.type_spec.TypeSpec.{TypeSpec}
use Rattle.st_tree.specs.declared.unit.Decl.{Decl}
use Rattle.st_rules.specs.Scope.{Scope}
use Rattle.st_rules.proofs.Booleans.{false≢true}
use Rattle.st_unit_rules.specs.declared_names.Constants.{is_told}
use Rattle.st_unit_rules.specs.Checked.{IsChecked}
use Rattle.st_unit_rules.specs.RefusalLaws.{IsGood}
use Rattle.st_values.specs.Program.{Program}
use Rattle.st_values.specs.View.{program_of}
use Rattle.st_meaning.specs.st_frame.Promise.Programs.{ProgramIs}
use Rattle.st_change.specs.StoreLaws.{HooksAre}
use Rattle.accepted_texts.specs.st_accepted.Accepted.{most_bytes}
use Rattle.accepted_texts.specs.st_accepted.Judge.{Accepts, Holds}
use Rattle.accepted_texts.specs.formed_units.Formed.{IsFormed}
use Rattle.accepted_texts.specs.told_units.Told.{WrittenIn, in_class, in_method, in_function, in_program}
use Rattle.accepted_texts.proofs.formed_texts.Texts.{formed_text_laws}
use Rattle.accepted_texts.proofs.sized_units.Whole.{sized_unit_laws}
use Rattle.constant_laws.proofs.Constants.{ConstantFits, MeantFits, ScopeFits}
use Rattle.initial_laws.proofs.Meanings.{written_fits}
use Rattle.declaration_laws.proofs.Whole.{declaration_laws}
use Rattle.place_laws.specs.Agrees.{ConstantIs}
use Rattle.promise_laws.specs.KeepsPromise.{KeepsPromise}
use Rattle.promise_laws.specs.PromiseLaws.{PromiseLaws}
use Rattle.promise_laws.proofs.Bodies.{bodies_are}
use Rattle.promise_laws.proofs.Hooks.{hooks_are}
use Rattle.promise_laws.proofs.Joined.{program_is}
use Rattle.promise_laws.proofs.Placed.{outputs_placed}
use Rattle.scope_laws.specs.Agreement.{HasNumbers, MeetsInterfaces}
use Rattle.name_laws.proofs.Stands.{function_stands, program_stands}
use Rattle.scope_laws.proofs.Texts.{class_rules_good}

-- what is told of a constant is a number of its type
told_constant : (p : Program) (x : Target) (t : StType) → is_told x ≡ true → ConstantFits p t x → ConstantIs p x t
told_constant p target.Nothing t h f = absurd (false≢true h)
told_constant p _ t h f = f

numbers : (p : Program) (s : Scope) → ScopeFits p s → HasNumbers p s
numbers p s f = record {
  constant = λ called name c v e k i t h. told_constant p v.target t i (subst (MeantFits p) e (f.each called name) k t h);
  enumerator = λ called name n k e. subst (MeantFits p) e (f.each called name);
  value = λ n name k e. f.values n name k e;
}

module _ (most : ℕ) (decls : List (Decl ℕ)) (p : Checked) (well : IsFormed most decls) (good : IsGood decls) (checked : IsChecked decls p) where
  fits : (s : Scope) (o : Option (TypeSpec ℕ)) (ss : List (Section ℕ)) → WrittenIn decls s o ss → HasNumbers (program_of p) s
  fits s o ss w = numbers (program_of p) s (written_fits most decls p well good.nothing checked s o ss w)

  program : ProgramIs (program_of p)
  program =
      let r = declaration_laws.right most decls p well good checked in
      let meets : MeetsInterfaces decls p = record { by = r.met } in
      program_is p r.no_cycle r.declarations
      (bodies_are most decls p checked well good.nothing (formed_text_laws.told most decls well good.nothing) r.no_cycle (class_rules_good decls good.nothing) meets
      (λ id x. fits _ _ _ (in_method id.class x.class id.method x.method x.class_there x.there))
      (λ k f e. let x = function_stands most decls well k f e in fits _ _ _ (in_function x.place x.item f x.there x.is))
      (λ c d e. fits _ _ _ (in_class c d e))
      (λ i d e. let x = program_stands most decls well i d e in fits _ _ _ (in_program x.place x.item d x.there x.is)))

  hooks : HooksAre (program_of p)
  hooks = hooks_are most decls p checked well good.nothing (formed_text_laws.told most decls well good.nothing) program

  keeps : most ≤ 4_294_967_296 → KeepsPromise (program_of p)
  keeps l =
      let sized = sized_unit_laws.sized most decls p l well good checked in
      record { program = program; hooks = hooks; sized = sized; outputs = sized_unit_laws.outputs most decls p well good checked; starts = sized_unit_laws.starts (program_of p) program sized; placed = outputs_placed p }

-- ---- what is accepted

held_keeps : (text : List ℕ) (p : Checked) → Holds text p → KeepsPromise (program_of p)
held_keeps text p a = keeps most_bytes a.whole.decls p (formed_text_laws.standard text a.whole a.is_unit) a.good a.checked (omega arith)

accepted_keeps : (text : List ℕ) (p : Program) → Accepts text p → KeepsPromise p
accepted_keeps text p a = subst KeepsPromise a.seen (held_keeps text a.program a.accepted)

pub promise_laws : PromiseLaws
promise_laws = record {
  bodies = λ most decls p w g h f m n.
      bodies_are most decls p h w g (formed_text_laws.told most decls w g) f (class_rules_good decls g) m (λ id x. n.methods id.class id.method x.class x.method x.class_there x.there) n.functions n.classes n.programs;
  joined = λ p f d b. program_is p f d b;
  program = program;
  hooks = hooks;
  kept = λ most decls p l w g h. keeps most decls p w g h l;
  held = held_keeps;
  accepted = accepted_keeps;
  promises = record { program = λ text p a. (accepted_keeps text p a).program; hooks = λ text p a. (accepted_keeps text p a).hooks };
}
