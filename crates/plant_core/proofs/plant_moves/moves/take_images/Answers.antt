use Rattle.plant_core.proofs.plant_moves.Copies.{taken_of, may_copy}
use Rattle.plant_core.proofs.plant_moves.moves.take_images.Goals as goal

pub move_all-requires-clause-may : goal.move_all-requires-clause-may
move_all-requires-clause-may c = c.requires.may.moves

pub copy_all-requires-clause-may : goal.copy_all-requires-clause-may
copy_all-requires-clause-may c = may_copy _ _ _ _ _ _ c.requires.may c.move_all.ensures

pub returns : goal.returns
returns c = taken_of _ _ _ _ _ _ _ c.requires.may c.move_all.ensures c.copy_all.ensures
