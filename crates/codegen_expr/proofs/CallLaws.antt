-- Calls: the code of their arguments and outputs one by one, and the whole of its parts.
use Rattle.std.proofs.Common.{◌≡◌, ℕ, ◌+◌, ◌<◌, Bool, true, false, List, [], ◌∷◌, ◌++◌, length, Option, Some, None, drop, get_or, refl, sym, ap, ◌∙◌, arith, append_assoc, append-nil}
use Rattle.std.specs.Prelude.{if◌then◌else◌, is_some}
use Rattle.stack_code.specs.declared.op.Op.TheVariants as op
use Rattle.st_types.specs.declared.st_type.StType.{StType}
use Rattle.st_tree.specs.declared.expression.Argument.{Argument as CodeArgument}
use Rattle.st_tree.specs.declared.expression.Expr.{Expr}
use Rattle.st_tree.specs.declared.expression.Expr.TheVariants as code
use Rattle.st_tree.specs.declared.expression.Place.{Place as CodePlace}
use Rattle.st_tree.specs.declared.expression.Root.{Root}
use Rattle.st_tree.specs.declared.program.Note.{Note}
use Rattle.st_tree.specs.Expression.{Call, Selectors, Argument, Positional, Input, Output, Arguments, argument_then, argument_of, arguments_of, expression_of, expression_of-Call, place_of}
use Rattle.st_values.specs.Program.{Parameter}
use Rattle.st_meaning.specs.Call.{by_instance, from_class, Callee, a_conversion, a_function, a_method, a_body, callee_of, is_in_out, parameter_named, parameter_number}
use Rattle.st_meaning.specs.Place.{root_note}
use Rattle.st_meaning.specs.st_frame.Use.{called_of, last_kind, receiver}
use Rattle.call_steps.specs.Callee.{callee_seen}
use Rattle.routine_tables.specs.Parameters.{parameters_of}
use Rattle.code_cells.specs.declared.cell.Cell.{Cell}
use Rattle.code_cells.specs.declared.cell.Cell.TheVariants.{Does as does}
use Rattle.code_rules.specs.Places.{block_size, of_mask, of_own, of_parameter, of_result, room_of}
use Rattle.code_rules.specs.Plan.{Plan}
use Rattle.code_rules.specs.Code.{arguments_by, arguments_code, behind_outputs, call_op, call_value_code, converted_code, enter_code, give_code, is_conversion, keep_code, large_code, mask_code, mask_of, operand_code, output_code, output_rooms, outputs_code, own_code, passed_code, place_code, same_code, taken_code, target_code, value_code}
use Rattle.codegen_parts.specs.declared.calls.CallPlan.{CallPlan}
use Rattle.codegen_parts.specs.declared.calls.ResultPlan.{ResultPlan}
use Rattle.codegen_parts.specs.CallPlans.{IsCallPlan, result_code, given_code, entry_code, entered_code}
use Rattle.codegen_parts.specs.Steps.{number_behind, left_behind, is_base_body, free_behind, argument_code, one_output_code}
use Rattle.codegen_parts.proofs.CodeLaws.{two, then_rest, next_arguments}

-- ---- what is called

pub base_given : (c : Callee) (given same : List Cell) → is_base_body c ≡ true → arguments_by c given same ≡ same
base_given a_conversion given same e = cc
base_given (a_function k) given same e = cc
base_given (a_method s name) given same e = cc
base_given (a_body by_instance) given same e = cc
base_given (a_body (from_class d)) given same e = refl

pub other_given : (c : Callee) (given same : List Cell) → is_base_body c ≡ false → arguments_by c given same ≡ given
other_given a_conversion given same e = refl
other_given (a_function k) given same e = refl
other_given (a_method s name) given same e = refl
other_given (a_body by_instance) given same e = refl
other_given (a_body (from_class d)) given same e = cc

called_value : (line : ℕ) (c : Callee) (xs : Arguments Note) (t : StType) (operand called : List Cell) (at : ℕ) → is_conversion c ≡ false → called ++ taken_code line at t ≡ call_value_code line c xs t operand called at
called_value line a_conversion xs t operand called at e = cc
called_value line (a_function k) xs t operand called at e = refl
called_value line (a_method s name) xs t operand called at e = refl
called_value line (a_body s) xs t operand called at e = refl

-- ---- one argument after the other

module _ (w : Plan) (line : ℕ) where
  arguments_step : (block free : ℕ) (ps : List Parameter) (i : ℕ) (left : List Parameter) (x : Argument Note) (xs : Arguments Note)
      → arguments_code w line block free ps i left (argument_then x xs) ≡ argument_code w line block free ps i left x ++ arguments_code w line block (free_behind w free ps left x) ps (number_behind i left x) (left_behind left x) xs
  arguments_step block free ps i left (Positional e) xs = refl
  arguments_step block free ps i left (Input a name e) xs = refl
  arguments_step block free ps i left (Output a name b r ss) xs = refl

  pub arguments_next : (block : ℕ) (ps : List Parameter) (xs : List (CodeArgument Note)) (n : ℕ) (x : CodeArgument Note) (free next i j : ℕ) (left rest : List Parameter) (old mid total : List Cell) → n < length xs → x ≡ get_or xs n x
      → mid ≡ old ++ argument_code w line block free ps i left (argument_of x) → j ≡ number_behind i left (argument_of x) → rest ≡ left_behind left (argument_of x) → next ≡ free_behind w free ps left (argument_of x)
      → (old ++ arguments_code w line block free ps i left (arguments_of (drop n xs))) ≡ total → (mid ++ arguments_code w line block next ps j rest (arguments_of (drop (n + 1) xs))) ≡ total
  arguments_next block ps xs n x free next i j left rest old mid total l g m a b d inv =
      let others = arguments_of (drop (n + 1) xs) in
      let y = argument_of x in
      ap (λ k. mid ++ arguments_code w line block k ps j rest others) d
      ∙ ap (λ k. mid ++ arguments_code w line block (free_behind w free ps left y) ps k rest others) a
      ∙ ap (λ k. mid ++ arguments_code w line block (free_behind w free ps left y) ps (number_behind i left y) k others) b
      ∙ then_rest old mid _ _ _ total m (ap (arguments_code w line block free ps i left) (next_arguments xs n x l g) ∙ arguments_step block free ps i left y others) inv

  outputs_step : (block free : ℕ) (ps : List Parameter) (whole : StType) (x : Argument Note) (xs : Arguments Note)
      → outputs_code w line block free ps whole (argument_then x xs) ≡ one_output_code w line block free ps whole x ++ outputs_code w line block free ps whole xs
  outputs_step block free ps whole (Positional e) xs = refl
  outputs_step block free ps whole (Input a name e) xs = refl
  outputs_step block free ps whole (Output a name b r ss) xs =
      let t = last_kind (root_note r).kind ss in
      let out = output_code w line (parameter_named ps a) (block + of_parameter (parameter_number a.target)) (block + of_own) free t whole in
      let place = place_code w line (free + room_of w.size_of t) r ss in
      let keep = keep_code w line t in
      let rest = outputs_code w line block free ps whole xs in
      sym (append_assoc out (place ++ keep) rest ∙ ap (λ y. out ++ y) (append_assoc place keep rest))

  pub outputs_next : (block free : ℕ) (ps : List Parameter) (whole : StType) (xs : List (CodeArgument Note)) (n : ℕ) (x : CodeArgument Note) (old mid total : List Cell) → n < length xs → x ≡ get_or xs n x
      → mid ≡ old ++ one_output_code w line block free ps whole (argument_of x)
      → (old ++ outputs_code w line block free ps whole (arguments_of (drop n xs))) ≡ total → (mid ++ outputs_code w line block free ps whole (arguments_of (drop (n + 1) xs))) ≡ total
  outputs_next block free ps whole xs n x old mid total l g m inv =
      then_rest old mid _ _ _ total m (ap (outputs_code w line block free ps whole) (next_arguments xs n x l g) ∙ outputs_step block free ps whole (argument_of x) (arguments_of (drop (n + 1) xs))) inv

  -- ---- one argument

  pub bound_passed : (q : Parameter) (at : ℕ) (t : StType) (value place old mid new : List Cell) → is_in_out q.sort ≡ true → mid ≡ old ++ place → new ≡ mid ++ (does (op.Local at) line ∷ (does op.StoreRef line ∷ []))
      → new ≡ old ++ passed_code line (Some q) at t value place
  bound_passed q at t value place old mid new e m k =
      two old mid new place (does (op.Local at) line ∷ (does op.StoreRef line ∷ [])) m k
      ∙ ap (λ b. old ++ (if b then place ++ (does (op.Local at) line ∷ (does op.StoreRef line ∷ [])) else value ++ give_code line at t)) (sym e)

  pub value_passed : (q : Parameter) (at : ℕ) (t : StType) (value place old mid new : List Cell) → is_in_out q.sort ≡ false → mid ≡ old ++ value → new ≡ mid ++ give_code line at t
      → new ≡ old ++ passed_code line (Some q) at t value place
  value_passed q at t value place old mid new e m k =
      two old mid new value (give_code line at t) m k
      ∙ ap (λ b. old ++ (if b then place ++ (does (op.Local at) line ∷ (does op.StoreRef line ∷ [])) else value ++ give_code line at t)) (sym e)

  -- ---- the whole call

  pub entry_ends : (k : CallPlan) (to : Option ResultPlan) (xs : Arguments Note) (outs : List Cell) → entry_code w line k to xs [] ++ outs ≡ entry_code w line k to xs outs
  entry_ends k to xs outs =
      let rooms = output_rooms w line k.block k.rooms xs ++ result_code line k.block to in
      let mask = mask_code line (k.block + of_mask) (mask_of (callee_seen k.callee) (parameters_of k.parameters.now) (is_some to) xs) in
      let enter = does (op.Local k.block) line ∷ (does op.Tick line ∷ (does (call_op w (callee_seen k.callee) k.receiver.now k.whole.now) line ∷ [])) in
      append_assoc rooms (mask ++ enter) outs ∙ ap (λ y. rooms ++ y) (append_assoc mask enter outs)

  -- five parts, one behind the other
  pub five : (c0 c1 c2 c3 c4 c5 a b d e f : List Cell) → c1 ≡ c0 ++ a → c2 ≡ c1 ++ b → c3 ≡ c2 ++ d → c4 ≡ c3 ++ e → c5 ≡ c4 ++ f → c5 ≡ c0 ++ (a ++ (b ++ (d ++ (e ++ f))))
  five c0 c1 c2 c3 c4 c5 a b d e f h1 h2 h3 h4 h5 = two c0 c1 c5 a (b ++ (d ++ (e ++ f))) h1 (two c1 c2 c5 b (d ++ (e ++ f)) h2 (two c2 c3 c5 d (e ++ f) h3 (two c3 c4 c5 e f h4 h5)))

  module _ (free : ℕ) (r : Root Note) (ss : Selectors Note) (xs : Arguments Note) where
    -- the code of a call by what is known of it
    abbrev pub by_parts : List Cell → Bool → Callee → List Parameter → StType → StType → ℕ → ℕ → ℕ → List Cell
    by_parts result b c ps t whole block rooms behind =
        enter_code w line c ps block t whole (place_code w line free r ss) (arguments_by c (arguments_code w line block behind ps 0 ps xs) (same_code w line block 0 ps))
        (output_rooms w line block rooms xs ++ result) (mask_of c ps b xs) (outputs_code w line block behind ps whole xs)

    parts_are : (result : List Cell) (b : Bool) (block : ℕ) (k : CallPlan) → IsCallPlan w r ss xs block k
        → by_parts result b (callee_seen k.callee) (parameters_of k.parameters.now) k.receiver.now k.whole.now k.block k.rooms k.free
        ≡ by_parts result b (callee_of r ss) (w.parameters (called_of r ss)) (receiver (root_note r).kind ss) (last_kind (root_note r).kind ss) block (block + block_size (length (w.parameters (called_of r ss))))
        (behind_outputs w (block + block_size (length (w.parameters (called_of r ss)))) xs)
    parts_are result b block k h =
        ap (λ y. by_parts result b y (parameters_of k.parameters.now) k.receiver.now k.whole.now k.block k.rooms k.free) h.callee
        ∙ ap (λ y. by_parts result b (callee_of r ss) y k.receiver.now k.whole.now k.block k.rooms k.free) h.parameters
        ∙ ap (λ y. by_parts result b (callee_of r ss) (w.parameters (called_of r ss)) y k.whole.now k.block k.rooms k.free) h.receiver
        ∙ ap (λ y. by_parts result b (callee_of r ss) (w.parameters (called_of r ss)) (receiver (root_note r).kind ss) y k.block k.rooms k.free) h.whole
        ∙ ap (λ y. by_parts result b (callee_of r ss) (w.parameters (called_of r ss)) (receiver (root_note r).kind ss) (last_kind (root_note r).kind ss) y k.rooms k.free) h.block
        ∙ ap (λ y. by_parts result b (callee_of r ss) (w.parameters (called_of r ss)) (receiver (root_note r).kind ss) (last_kind (root_note r).kind ss) block y k.free) h.rooms
        ∙ ap (λ y. by_parts result b (callee_of r ss) (w.parameters (called_of r ss)) (receiver (root_note r).kind ss) (last_kind (root_note r).kind ss) block (block + block_size (length (w.parameters (called_of r ss)))) y) h.free

    -- with the parameters, the types and the places that the definition has
    abbrev pub by_block : List Cell → Bool → ℕ → List Cell
    by_block result b block =
        let ps = w.parameters (called_of r ss) in
        let rooms = block + block_size (length ps) in
        by_parts result b (callee_of r ss) ps (receiver (root_note r).kind ss) (last_kind (root_note r).kind ss) block rooms (behind_outputs w rooms xs)

    pub value_parts : (a : Note) (block : ℕ) (kind : StType) (x : ResultPlan) (k : CallPlan) (old mid new : List Cell) → IsCallPlan w r ss xs block k → is_conversion (callee_seen k.callee) ≡ false → block ≡ free + room_of w.size_of a.kind
        → x.free ≡ free → x.kind.now ≡ a.kind → kind ≡ a.kind → mid ≡ old ++ entered_code w line free k (Some x) r ss xs → new ≡ mid ++ taken_code line block kind → new ≡ old ++ value_code w line free (Call a r ss xs)
    value_parts a block kind x k old mid new h n q xf xk kk m e =
        let operand = operand_code w line free xs in
        let large : ℕ → List Cell = λ b. large_code line (b + of_result) free a.kind in
        let value : ℕ → List Cell = λ b. call_value_code line (callee_of r ss) xs a.kind operand (by_block (large b) true b) (b + of_result) in
        let whole = entered_code w line free k (Some x) r ss xs in
        let parts : List Cell → List Cell = λ y. by_parts y true (callee_seen k.callee) (parameters_of k.parameters.now) k.receiver.now k.whole.now k.block k.rooms k.free in
        let result_is : large_code line (k.block + of_result) x.free x.kind.now ≡ large block =
        ap (λ y. large_code line (y + of_result) x.free x.kind.now) h.block ∙ ap (λ y. large_code line (block + of_result) y x.kind.now) xf ∙ ap (λ y. large_code line (block + of_result) free y) xk in
        let is_no_conversion : is_conversion (callee_of r ss) ≡ false = sym (ap is_conversion h.callee) ∙ n in
        let at : block ≡ block + of_result = omega arith in
        two old mid new whole (taken_code line block kind) m e
        ∙ ap (λ y. old ++ (whole ++ taken_code line block y)) kk
        ∙ ap (λ y. old ++ (whole ++ taken_code line y a.kind)) at
        ∙ ap (λ y. old ++ (y ++ taken_code line (block + of_result) a.kind)) (ap parts result_is ∙ parts_are (large block) true block k h)
        ∙ ap (λ y. old ++ y) (called_value line (callee_of r ss) xs a.kind operand (by_block (large block) true block) (block + of_result) is_no_conversion)
        ∙ ap (λ b. old ++ value b) q

    pub effect_parts : (block : ℕ) (k : CallPlan) → IsCallPlan w r ss xs block k
        → entered_code w line free k None r ss xs
        ≡ enter_code w line (callee_of r ss) (w.parameters (called_of r ss)) block (receiver (root_note r).kind ss) (last_kind (root_note r).kind ss) (place_code w line free r ss)
        (arguments_by (callee_of r ss) (arguments_code w line block (behind_outputs w (block + block_size (length (w.parameters (called_of r ss)))) xs) (w.parameters (called_of r ss)) 0 (w.parameters (called_of r ss)) xs) (same_code w line block 0 (w.parameters (called_of r ss))))
        (output_rooms w line block (block + block_size (length (w.parameters (called_of r ss)))) xs) (mask_of (callee_of r ss) (w.parameters (called_of r ss)) false xs)
        (outputs_code w line block (behind_outputs w (block + block_size (length (w.parameters (called_of r ss)))) xs) (w.parameters (called_of r ss)) (last_kind (root_note r).kind ss) xs)
    effect_parts block k h =
        let ps = w.parameters (called_of r ss) in
        let rooms = block + block_size (length ps) in
        let behind = behind_outputs w rooms xs in
        let whole = last_kind (root_note r).kind ss in
        parts_are [] false block k h
        ∙ ap (λ y. enter_code w line (callee_of r ss) ps block (receiver (root_note r).kind ss) whole (place_code w line free r ss) (arguments_by (callee_of r ss) (arguments_code w line block behind ps 0 ps xs) (same_code w line block 0 ps)) y
        (mask_of (callee_of r ss) ps false xs) (outputs_code w line block behind ps whole xs)) (append-nil (output_rooms w line block rooms xs))

  pub called_goes : (k : CallPlan) (to : Option ResultPlan) (free : ℕ) (r : Root Note) (ss : Selectors Note) (xs : Arguments Note) (c0 c1 c2 c3 c4 c5 : List Cell) → c1 ≡ c0 ++ target_code line (callee_seen k.callee) (place_code w line free r ss)
      → c2 ≡ c1 ++ own_code line (callee_seen k.callee) (k.block + of_own) → c3 ≡ c2 ++ given_code w line k xs → c4 ≡ c3 ++ entry_code w line k to xs []
      → c5 ≡ c4 ++ outputs_code w line k.block k.free (parameters_of k.parameters.now) k.whole.now xs → c5 ≡ c0 ++ entered_code w line free k to r ss xs
  called_goes k to free r ss xs c0 c1 c2 c3 c4 c5 h1 h2 h3 h4 h5 =
      let outs = outputs_code w line k.block k.free (parameters_of k.parameters.now) k.whole.now xs in
      five c0 c1 c2 c3 c4 c5 (target_code line (callee_seen k.callee) (place_code w line free r ss)) (own_code line (callee_seen k.callee) (k.block + of_own)) (given_code w line k xs) (entry_code w line k to xs []) outs h1 h2 h3 h4 h5
      ∙ ap (λ y. c0 ++ (target_code line (callee_seen k.callee) (place_code w line free r ss) ++ (own_code line (callee_seen k.callee) (k.block + of_own) ++ (given_code w line k xs ++ y)))) (entry_ends k to xs outs)

  pub call_goes : (free block : ℕ) (e : Expr Note) (a : Note) (q : CodePlace Note) (xs ys : List (CodeArgument Note)) (room : ℕ) (k : CallPlan) (x : ResultPlan) (c0 c5 c6 : List Cell) → e ≡ code.Call a q xs → ys ≡ xs → room ≡ room_of w.size_of a.kind → block ≡ free + room
      → IsCallPlan w (place_of q).0 (place_of q).1 (arguments_of ys) block k → is_conversion (callee_seen k.callee) ≡ false → x.free ≡ free → x.kind.now ≡ a.kind → c5 ≡ c0 ++ entered_code w line free k (Some x) (place_of q).0 (place_of q).1 (arguments_of ys)
      → c6 ≡ c5 ++ taken_code line block a.kind → c6 ≡ c0 ++ value_code w line free (expression_of e)
  call_goes free block e a q xs ys room k x c0 c5 c6 d l f g h n xf xk h5 h6 =
      value_parts free (place_of q).0 (place_of q).1 (arguments_of ys) a block a.kind x k c0 c5 c6 h n (g ∙ ap (λ y. free + y) f) xf xk refl h5 h6
      ∙ ap (λ y. c0 ++ value_code w line free (Call a (place_of q).0 (place_of q).1 (arguments_of y))) l
      ∙ ap (λ y. c0 ++ value_code w line free y) (sym (ap expression_of d ∙ expression_of-Call a q xs))

  pub conversion_goes : (free : ℕ) (e : Expr Note) (a : Note) (q : CodePlace Note) (xs ys : List (CodeArgument Note)) (block : ℕ) (k : CallPlan) (c0 c1 : List Cell) → e ≡ code.Call a q xs → ys ≡ xs
      → IsCallPlan w (place_of q).0 (place_of q).1 (arguments_of ys) block k → is_conversion (callee_seen k.callee) ≡ true → c1 ≡ c0 ++ converted_code line (arguments_of ys) a.kind (operand_code w line free (arguments_of ys))
      → c1 ≡ c0 ++ value_code w line free (expression_of e)
  conversion_goes free e a q xs ys block k c0 c1 d l h n h1 =
      h1
      ∙ ap (λ y. c0 ++ y) (converted_value (callee_of (place_of q).0 (place_of q).1) (arguments_of ys) a.kind (operand_code w line free (arguments_of ys)) _ _ (sym (ap is_conversion h.callee) ∙ n))
      ∙ ap (λ y. c0 ++ value_code w line free (Call a (place_of q).0 (place_of q).1 (arguments_of y))) l
      ∙ ap (λ y. c0 ++ value_code w line free y) (sym (ap expression_of d ∙ expression_of-Call a q xs))
    where
      converted_value : (c : Callee) (xs : Arguments Note) (t : StType) (operand called : List Cell) (at : ℕ) → is_conversion c ≡ true → converted_code line xs t operand ≡ call_value_code line c xs t operand called at
      converted_value a_conversion xs t operand called at e = refl
      converted_value (a_function k) xs t operand called at e = cc
      converted_value (a_method s name) xs t operand called at e = cc
      converted_value (a_body s) xs t operand called at e = cc
