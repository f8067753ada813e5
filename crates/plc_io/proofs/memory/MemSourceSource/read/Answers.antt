use Rattle.std.proofs.Common.{◌≡◌, length, arith, sym, ap, ◌∙◌}
use Rattle.std.proofs.lemmas.Grind.{common_steps}
use Rattle.plc_io.specs.Memory.{SourceMemory}
use Rattle.plc_io.proofs.Pieces.{read_front}
use Rattle.plc_io.proofs.memory.MemSourceSource.read.Goals as goal

pub returns-clause-bytes : goal.returns-clause-bytes
returns-clause-bytes c = λ some.
    let count : length c.copy_from_slice.new.self ≡ c.min-count.result = grind (arith, common_steps) in
    let gave = rw c.deref.ensures.value at c.copy_from_slice.ensures.after in
    let left = ap (λ (source : SourceMemory). source.left) c.self.view_is in
    (grind (arith, common_steps), grind (arith, common_steps), sym left ∙ read_front _ c.args.buf.now _ _ _ gave count)

pub invariant_of-self-2 : goal.invariant_of-self-2
invariant_of-self-2 c = grind (arith, common_steps)

pub returns-clause-no_room : goal.returns-clause-no_room
returns-clause-no_room c = grind (arith, common_steps)

pub returns-clause-call : goal.returns-clause-call
returns-clause-call c = grind (arith, common_steps)
