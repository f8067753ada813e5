use Rattle.std.proofs.Common.{◌≡◌, false, ap}
use Rattle.std.specs.Prelude.{is_some}
use Rattle.st_values.specs.Value.{number}
use Rattle.st_meaning.specs.ProcessImage.{input_value}
use Rattle.st_meaning.specs.State.{in_store}
use Rattle.run_state.specs.Places.{spot_value}
use Rattle.run_state.specs.State.{state_of}
use Rattle.process_image.specs.Located.{seen}
use Rattle.process_image.proofs.InputLaws.{nowhere_so}
use Rattle.process_image.proofs.inputs.give.Goals as goal

pub returns-then-not-stands-clause-run : goal.returns-then-not-stands-clause-run
returns-then-not-stands-clause-run c =
    let none : is_some (spot_value (state_of c.args.m.now) (in_store c.in_ok-path.path)) ≡ false = cc in
    nowhere_so (state_of c.args.m.now) (in_store c.in_ok-path.path) c.args.x.now.path (number (input_value c.args.input.now (seen c.args.x.now))) (ap in_store c.in_ok-path.ensures) none
