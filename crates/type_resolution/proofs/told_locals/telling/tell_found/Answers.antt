use Rattle.type_resolution.proofs.told_locals.telling.tell_found.Goals as goal

pub returns : goal.returns
returns c = rw (c.in_ok-next.ensures, c.in_ok-tell_one.ensures) at c.tell_behind.ensures
