use Rattle.st_values.specs.View.{program_of}
use Rattle.change_names.proofs.change_paths.WalkLaws.{ok_is, new_is}
use Rattle.change_names.proofs.change_paths.paths.new_path.Goals as goal

pub returns : goal.returns
returns c = ok_is c.path_there.result _ _ c.path_there.ensures (new_is (program_of c.args.c.now.old.program.now) (program_of c.args.c.now.new.program.now) c.args.path.now)
