-- What a denial tells of a unit.
use Rattle.plc_text.specs.declared.denied.Denied.{Denied}
use Rattle.plc_text.specs.declared.denied.Denied.TheVariants.{Refused, NoMemory}
use Rattle.plc_text.specs.declared.refusal.Refusal.{Refusal}

-- it holds of the refusal; want of memory tells nothing
abbrev pub OnRefused : Denied → (Refusal → Type 0) → Type 0
OnRefused (Refused r) P = P r
OnRefused NoMemory P = Unit {0}
