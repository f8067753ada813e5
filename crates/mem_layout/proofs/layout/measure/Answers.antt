use Rattle.mem_layout.proofs.layout.measure.Goals as goal

pub returns-in-Some : goal.returns-in-Some
returns-in-Some c = λ p n sh f r h s. c.in-Some.ensures.sound p n sh f h
