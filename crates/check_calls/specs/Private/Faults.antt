-- The rules of a call by what is called alone.
use Rattle.std.specs.Prelude.{ℕ, Bool, List, ◌++◌}
use Rattle.st_rules.specs.Faults.{Faults}
use Rattle.st_rules.specs.Scope.{Scope}
use Rattle.st_rules.specs.Calls.{Callee, Head, call_of_no_callable, super_call_without_base_block, arguments_of_super_call, abstract_method_on_super, conversion_without_operand}

abbrev pub own_callee_faults : Scope → ℕ → Bool → Callee → List Head → Faults
own_callee_faults s line on_super c hs =
    call_of_no_callable s line c
    ++ super_call_without_base_block s line c
    ++ arguments_of_super_call s line c hs
    ++ abstract_method_on_super s line on_super c
    ++ conversion_without_operand s line c hs
