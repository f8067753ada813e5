-- The names of what a running program stops at.
use Rattle.std.specs.Prelude.{ℕ, List, codes}
use Rattle.plc_text.specs.declared.fault.FaultKind.{FaultKind}
use Rattle.plc_text.specs.declared.fault.FaultKind.TheVariants.{Divide, Index, Null, Step, Watchdog, Depth}

-- the name of a kind of fault, as it is printed
abbrev pub fault_name : FaultKind → List ℕ
fault_name Divide = codes "Divide"
fault_name Index = codes "Index"
fault_name Null = codes "Null"
fault_name Step = codes "Step"
fault_name Watchdog = codes "Watchdog"
fault_name Depth = codes "Depth"
