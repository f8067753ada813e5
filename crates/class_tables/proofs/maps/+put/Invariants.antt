use Rattle.class_tables.proofs.maps.+put.Given as goal

abbrev pub decreases-put : goal.decreases-put
decreases-put l = l.levels
