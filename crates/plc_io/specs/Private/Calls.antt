-- The calls of a source or a sink in memory.
use Rattle.std.specs.Prelude.{Bool, if◌then◌else◌}
use Rattle.plc_io.specs.declared.calls.Calls.{Calls}
use Rattle.plc_io.specs.Faults.{next_count}

-- the calls with one more, and with one more fault where it failed
abbrev pub after_call : Calls → Bool → Calls
after_call calls fails = record calls {
  made = next_count calls.made;
  faults = if fails then next_count calls.faults else calls.faults;
}
