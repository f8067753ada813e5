-- What a controller holds with the program that it runs.
use Rattle.std.specs.Prelude.{map}
use Rattle.st_tree.specs.declared.program.Program.{Program}
use Rattle.st_values.specs.View.{program_of}
use Rattle.st_change.specs.OneThread.{Controller}
use Rattle.value_trees.specs.Value.{members_of}
use Rattle.reference_plays.specs.Controller.{gone_of}
use Rattle.reference_plays.specs.declared.controller.Controller.{Controller as CodeController}

abbrev pub state_of : Program → CodeController → Controller
state_of p c = record {
  version = c.version;
  program = program_of p;
  store = members_of c.store;
  held = c.held.items;
  gone = map gone_of c.gone.items;
}
