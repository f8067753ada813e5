-- Events as plain data.
use Rattle.plant_rules.specs.History.{Happening, Step, answered, begun, finished, wanted, quieted, changed, resumed, denied, reset}
use Rattle.plant_core.specs.declared.event.What.{What}
use Rattle.plant_core.specs.declared.event.What.TheVariants as what
use Rattle.plant_core.specs.declared.event.Event.{Event}

abbrev pub happening_of : {W : Type 0} → What W → Happening W
happening_of (what.Answered a) = answered a.value
happening_of (what.Begun t v c) = begun t v.value c.value
happening_of (what.Finished r) = finished r.value
happening_of (what.Wanted v) = wanted v.value
happening_of (what.Quieted c) = quieted c.value
happening_of (what.Changed v c) = changed v.value c.value
happening_of (what.Resumed e) = resumed e.value
happening_of (what.Denied a) = denied a.value
happening_of (what.Reset a) = reset a.value

abbrev pub step_of : {W : Type 0} → Event W → Step W
step_of e = record { who = e.who; play = e.play; what = happening_of e.what }
