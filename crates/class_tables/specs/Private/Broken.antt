-- The rules that a class breaks, as rows and what is settled tell them.
use Rattle.std.specs.Prelude.{ℕ, Bool, List, [], ◌++◌, Option, Some, None, option_and_then, slice_get}
use Rattle.plc_text.specs.declared.code.Code.TheVariants.{E12}
use Rattle.st_rules.specs.declared.ids.MethodId.{MethodId}
use Rattle.st_rules.specs.declared.signature.Signatures.{Signatures}
use Rattle.st_rules.specs.Faults.{Faults, when}
use Rattle.st_rules.specs.Numbered.{passes_if_there, each_numbered}
use Rattle.st_rules.specs.Classes.{method_id}
use Rattle.st_rules.specs.Signatures.{differ, signature_of, hook_signature}
use Rattle.class_rows.specs.declared.rows.MethodRow.{MethodRow}
use Rattle.class_rows.specs.declared.rows.ClassRow.{ClassRow}
use Rattle.class_rows.specs.Faults.{row_base_faults, is_bad_method}
use Rattle.class_tables.specs.declared.settle.Settled.{Settled}
use Rattle.class_tables.specs.Private.Chain.{base_in}
use Rattle.class_tables.specs.Private.Absorb.{row_at}
use Rattle.class_tables.specs.Private.Found.{with_entry, has_above}

module _ (rows : List ClassRow) where
  abbrev pub base_row : ℕ → Option ClassRow
  base_row c = option_and_then (slice_get rows) (base_in rows c)

  abbrev pub is_on_cycle : Settled → ℕ → Bool
  is_on_cycle settled c = passes_if_there (λ b. has_above settled b c) (base_in rows c)

  abbrev pub has_final_base : ℕ → Bool
  has_final_base c = passes_if_there (λ (b : ClassRow). b.is_final) (base_row c)

  abbrev pub has_block_base : ℕ → Bool
  has_block_base c = passes_if_there (λ (b : ClassRow). b.is_block) (base_row c)

  abbrev pub inherited : Settled → ℕ → ℕ → Option MethodId
  inherited settled c n = option_and_then (λ b. with_entry settled b (λ s e. e.id) n) (base_in rows c)

abbrev pub is_no_hook : {V : Type 0} → (V → V → Bool) → Signatures V → MethodId → Option (List ℕ) → Bool
is_no_hook same_value signatures id name = passes_if_there (λ text. differ same_value (signature_of signatures id) (hook_signature signatures.falsehood text)) name

module _ {V : Type 0} (same_value : V → V → Bool) (names : List (List ℕ)) (rows : List ClassRow) (settled : Settled) (signatures : Signatures V) (c : ℕ) where
  abbrev pub is_bad : Bool → ℕ → MethodRow → Bool
  is_bad in_abstract m method =
      let over = inherited rows settled c method.name in
      is_bad_method method (option_and_then (row_at rows) over)
      (differ same_value (signature_of signatures (method_id c m)) (option_and_then (signature_of signatures) over))
      (is_no_hook same_value signatures (method_id c m) (slice_get names method.name)) in_abstract

  abbrev pub method_faults : Bool → ℕ → MethodRow → Faults
  method_faults in_abstract m method = when (is_bad in_abstract m method) E12 method.line

  abbrev pub methods_faults : ClassRow → Faults
  methods_faults row = each_numbered (method_faults row.is_abstract) 0 row.methods

  abbrev pub class_faults_in : Option ClassRow → Faults
  class_faults_in None = []
  class_faults_in (Some row) = row_base_faults row (is_on_cycle rows settled c) (has_final_base rows c) (has_block_base rows c) ++ methods_faults row

  abbrev pub class_faults : Faults
  class_faults = class_faults_in (slice_get rows c)
