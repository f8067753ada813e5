-- The rules that a class and its methods break, as their rows tell them.
use Rattle.std.specs.Prelude.{Bool, not, ◌&&◌, ◌||◌, ◌++◌, Option}
use Rattle.std.specs.Option.{is_none}
use Rattle.plc_text.specs.declared.code.Code.TheVariants.{E06, E12}
use Rattle.st_rules.specs.declared.modifiers.Access.TheVariants.{Private}
use Rattle.st_rules.specs.Faults.{Faults, when}
use Rattle.st_rules.specs.Modifiers.{same_access}
use Rattle.st_rules.specs.Numbered.{passes_if_there}
use Rattle.class_rows.specs.declared.rows.MethodRow.{MethodRow}
use Rattle.class_rows.specs.declared.rows.ClassRow.{ClassRow}

-- by whether the class lies on a cycle, and whether its base is FINAL and a function block
abbrev pub row_base_faults : ClassRow → Bool → Bool → Bool → Faults
row_base_faults row on_cycle final block =
    when on_cycle E06 row.line
    ++ when final E12 row.line
    ++ when (not row.is_block && block) E12 row.line
    ++ when (row.is_block && block && row.has_in_outs) E12 row.line

abbrev pub is_final_over : Option MethodRow → Bool
is_final_over over = passes_if_there (λ o. o.is_final) over

abbrev pub is_private_over : Option MethodRow → Bool
is_private_over over = passes_if_there (λ o. same_access o.access Private) over

abbrev pub has_other_access : MethodRow → Option MethodRow → Bool
has_other_access method over = passes_if_there (λ o. not (same_access method.access o.access)) over

-- by the method that it overrides, and whether that has another signature
abbrev pub is_bad_override : MethodRow → Option MethodRow → Bool → Bool
is_bad_override method over other = is_final_over over || is_private_over over || has_other_access method over || other || method.is_override && is_none over

-- and whether it has not the signature that its name asks for, and stands in an abstract class
abbrev pub is_bad_method : MethodRow → Option MethodRow → Bool → Bool → Bool → Bool
is_bad_method method over other no_hook in_abstract =
    is_bad_override method over other
    || method.is_hook && method.is_abstract
    || no_hook
    || method.is_abstract && method.has_statements
    || method.is_abstract && not in_abstract
