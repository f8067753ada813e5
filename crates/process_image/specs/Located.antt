-- The code's variables with addresses as the meaning's.
use Rattle.std.specs.Prelude.{List, map}
use Rattle.st_meaning.specs.ProcessImage.{Located}
use Rattle.process_image.specs.declared.located.Located.{Located as CodeLocated}

abbrev pub seen : CodeLocated → Located
seen x = record { path = x.path; elem = x.elem; address = x.address.now }

abbrev pub all_seen : List CodeLocated → List Located
all_seen xs = map seen xs
