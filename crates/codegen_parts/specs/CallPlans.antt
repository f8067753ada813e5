-- What is known of a call before it is emitted, and the code of its parts.
use Rattle.std.specs.Prelude.{◌≡◌, ℕ, ◌+◌, List, [], ◌∷◌, ◌++◌, length, Option, Some, None, is_some}
use Rattle.stack_code.specs.declared.op.Op.TheVariants as op
use Rattle.st_tree.specs.declared.expression.Root.{Root}
use Rattle.st_tree.specs.declared.program.Note.{Note}
use Rattle.st_tree.specs.Expression.{Selectors, Arguments}
use Rattle.st_meaning.specs.Call.{callee_of}
use Rattle.st_meaning.specs.Place.{root_note}
use Rattle.st_meaning.specs.st_frame.Use.{called_of, last_kind, receiver}
use Rattle.call_steps.specs.Callee.{callee_seen}
use Rattle.routine_tables.specs.Parameters.{parameters_of}
use Rattle.code_cells.specs.declared.cell.Cell.{Cell}
use Rattle.code_cells.specs.declared.cell.Cell.TheVariants.{Does as does}
use Rattle.code_rules.specs.Places.{block_size, of_mask, of_own, of_result}
use Rattle.code_rules.specs.Plan.{Plan}
use Rattle.code_rules.specs.Code.{arguments_by, arguments_code, behind_outputs, call_op, large_code, mask_code, mask_of, output_rooms, outputs_code, own_code, place_code, same_code, target_code}
use Rattle.codegen_parts.specs.declared.calls.CallPlan.{CallPlan}
use Rattle.codegen_parts.specs.declared.calls.ResultPlan.{ResultPlan}

-- what is called, and where its block lies
pub record IsCallPlan (w : Plan) (r : Root Note) (ss : Selectors Note) (xs : Arguments Note) (base : ℕ) (k : CallPlan) : Type 0 where
  pub callee : callee_seen k.callee ≡ callee_of r ss
  pub parameters : parameters_of k.parameters.now ≡ w.parameters (called_of r ss)
  pub receiver : k.receiver.now ≡ receiver (root_note r).kind ss
  pub whole : k.whole.now ≡ last_kind (root_note r).kind ss
  pub block : k.block ≡ base
  pub rooms : k.rooms ≡ base + block_size (length (w.parameters (called_of r ss)))
  pub free : k.free ≡ behind_outputs w (base + block_size (length (w.parameters (called_of r ss)))) xs

-- where a large result comes to
abbrev pub result_code : ℕ → ℕ → Option ResultPlan → List Cell
result_code line block None = []
result_code line block (Some x) = large_code line (block + of_result) x.free x.kind.now

module _ (w : Plan) (line : ℕ) where
  -- the arguments in the block
  abbrev pub given_code : CallPlan → Arguments Note → List Cell
  given_code k xs =
      let ps = parameters_of k.parameters.now in
      arguments_by (callee_seen k.callee) (arguments_code w line k.block k.free ps 0 ps xs) (same_code w line k.block 0 ps)

  -- rooms, mask, tick and call
  abbrev pub entry_code : CallPlan → Option ResultPlan → Arguments Note → List Cell → List Cell
  entry_code k result xs outputs =
      (output_rooms w line k.block k.rooms xs ++ result_code line k.block result)
      ++ (mask_code line (k.block + of_mask) (mask_of (callee_seen k.callee) (parameters_of k.parameters.now) (is_some result) xs)
      ++ (does (op.Local k.block) line ∷ (does op.Tick line ∷ (does (call_op w (callee_seen k.callee) k.receiver.now k.whole.now) line ∷ outputs))))

  -- a call, with the place where a large result comes to
  abbrev pub entered_code : ℕ → CallPlan → Option ResultPlan → Root Note → Selectors Note → Arguments Note → List Cell
  entered_code free k result r ss xs =
      target_code line (callee_seen k.callee) (place_code w line free r ss)
      ++ (own_code line (callee_seen k.callee) (k.block + of_own)
      ++ (given_code k xs
      ++ entry_code k result xs (outputs_code w line k.block k.free (parameters_of k.parameters.now) k.whole.now xs)))
