-- What a core, a pass and a plant are made of crosses threads wherever the program and its works do.
use denote.RattleType.{RattleType}
use denote.Builtin.{u32, usize}
use denote.Param.Send.{IsSend, IsSync, AllSend, sendable, view_send}
use denote.Param.SendFields.{FieldsHave, as_row_send, as_row_sync, declared_send, declared_sync, variants_send, variants_sync}
use denote.Struct.Field.{row_field}
use denote.Struct.Tuple.{Tuple, TupleAt}
use denote.Struct.Tuple as tuple
use Rattle.std.proofs.Common.{ℕ, List, [], ◌∷◌}
use Rattle.std.specs.contracts.option.Option.{the_row as OptionOf}
use Rattle.std.specs.contracts.snapshot.Snapshot.{the_row as SnapshotOf}
use Rattle.std.proofs.Crossing.{crosses, send, sync}
use Rattle.atomic_table.specs.declared.shared.TableRule.{Ghosts as RuleGhosts}
use Rattle.atomic_table.proofs.shared.Seat.TheSendSync.{the_send as seat_send}
use Rattle.atomic_table.proofs.shared.Shared.TheSendSync.{the_sync as shared_sync}
use Rattle.atomic_table.proofs.send_lease.SendLease.TheSendSync.{the_sync as lease_sync}
use Rattle.cycle_journal.specs.contracts.entry.Entry as Entry
use Rattle.cycle_journal.specs.contracts.play.Play as Play
use Rattle.plc_text.specs.contracts.text.Text as Text
use Rattle.st_names.specs.contracts.names.Names as Names
use Rattle.mem_image.specs.contracts.regions.Regions as Regions
use Rattle.plant_rules.specs.contracts.controlled.Kit as Kit
use Rattle.plant_rules.specs.declared.controlled.Controlled.{Ghosts}
use Rattle.plant_core.specs.contracts.play_order.progress.Progress as Progress
use Rattle.plant_core.specs.contracts.hub.Stock as Stock
use Rattle.plant_core.specs.contracts.hub.Core as Core
use Rattle.plant_cell.specs.contracts.rule.View as View
use Rattle.plant_cell.specs.contracts.rule.Law as Law
use Rattle.plant_cell.specs.contracts.rule.LawTableRuleOptionCoreViewOrigin.TheImpl as rule
use Rattle.plant_cell.specs.contracts.pass.PassOver as PassOver
use Rattle.plant_cell.specs.contracts.plant.PlantOver as PlantOver
use Rattle.cell_tests.specs.contracts.jobs.Job as Job

ruleset parts = (declared_send, declared_sync, variants_send, variants_sync, as_row_send, as_row_sync, sendable, crosses)

regions_send : IsSend Regions.the_row
regions_send = search (sendable, crosses) depth 30

entry_send : IsSend Entry.the_row
entry_send = search parts depth 40 fits 20000

play_send : IsSend Play.the_row
play_send = search parts depth 40 fits 20000

pub play_sync : IsSync Play.the_row
play_sync = search parts depth 40 fits 20000

text_send : IsSend Text.the_row
text_send = search parts depth 40 fits 20000

text_sync : IsSync Text.the_row
text_sync = search parts depth 40 fits 20000

module _ (V : RattleType) where
  names_send : IsSend Text.the_row → IsSend V → IsSend (Names.the_row V)
  names_send t v = search parts depth 40 fits 20000

  names_sync : IsSync Text.the_row → IsSync V → IsSync (Names.the_row V)
  names_sync t v = search parts depth 40 fits 20000

progress_of : IsSend Play.the_row → IsSync Play.the_row → IsSend (Names.the_row Text.the_row) → IsSync (Names.the_row Text.the_row) → IsSend Progress.the_row
progress_of p q n m = view_send Progress.TheInside.the_row _ _ _ _ (search (names_send, text_send, declared_send, as_row_send, sendable, crosses) depth 40 fits 20000)

progress_send : IsSend Progress.the_row
progress_send = progress_of play_send play_sync (names_send _ text_send text_send) (names_sync _ text_sync text_sync)

module _ (P C W : RattleType) where
  kit_send : IsSend Regions.the_row → IsSend P → IsSync P → IsSend W → IsSend (Kit.the_row P W)
  kit_send r s y w = search parts depth 40 fits 20000

  stock_of : IsSend Regions.the_row → IsSend Entry.the_row → IsSend Progress.the_row → IsSend (Kit.the_row P W) → IsSend P → IsSync P → IsSend (Stock.the_row P W)
  stock_of r e o k s y = search (declared_send, variants_send, as_row_send, sendable, crosses) depth 40 fits 20000

  core_of : (g : Ghosts P.Denot C.Denot W.Denot) → IsSend (Stock.the_row P W) → IsSend P → IsSync P → IsSend W → IsSend (Core.the_row P C W g)
  core_of g k s y w = view_send (Core.TheInside.the_row P C W g) _ _ _ _ (search (declared_send, variants_send, as_row_send, sendable, crosses) depth 40 fits 20000)

  core_send : (g : Ghosts P.Denot C.Denot W.Denot) → IsSend P → IsSync P → IsSend W → IsSend (Core.the_row P C W g)
  core_send g s y w = core_of g (stock_of regions_send entry_send progress_send (kit_send regions_send s y w) s y) s y w

module _ (R : RattleType) where
  option_send : IsSend R → IsSend (OptionOf R)
  option_send r = search parts depth 12

module _ (S V : RattleType) where
  pass_of : IsSend S → IsSend (PassOver.the_row S V)
  pass_of s = search (seat_send, declared_send, as_row_send, sendable, crosses) depth 40 fits 20000

module _ (S V K L : RattleType) (g : RuleGhosts L.Denot S.Denot V.Denot K.Denot) where
  plant_over : IsSend S → IsSync (PlantOver.the_row S V K L g)
  plant_over s = search (shared_sync, lease_sync, send, sync, parts) depth 40 fits 20000

module _ (P C W : RattleType) (g : Ghosts P.Denot C.Denot W.Denot) where
  slot_send : IsSend P → IsSync P → IsSend W → IsSend (OptionOf (Core.the_row P C W g))
  slot_send s y w = option_send (Core.the_row P C W g) (core_send P C W g s y w)

  pub pass_send : IsSend P → IsSync P → IsSend W → IsSend (PassOver.the_row (OptionOf (Core.the_row P C W g)) (View.the_row P C W g))
  pass_send s y w = pass_of _ _ (slot_send s y w)

  pub plant_sync : IsSend P → IsSync P → IsSend W
      → IsSync (PlantOver.the_row (OptionOf (Core.the_row P C W g)) (View.the_row P C W g) (Tuple (SnapshotOf (Core.the_row P C W g) ∷ u32 ∷ [])) (Law.the_row P C W) (rule.ghosts P C W g rule.no_dict rule.no_dict rule.no_dict rule.no_dict))
  plant_sync s y w = plant_over (OptionOf (Core.the_row P C W g)) (View.the_row P C W g) (Tuple (SnapshotOf (Core.the_row P C W g) ∷ u32 ∷ [])) (Law.the_row P C W) (rule.ghosts P C W g rule.no_dict rule.no_dict rule.no_dict rule.no_dict) (slot_send s y w)

-- ---- what a closure holds, and what a thread gives back

tuple_parts : (Ts : List RattleType) → AllSend Ts → FieldsHave IsSend (tuple.parts Ts)
tuple_parts [] s = tt
tuple_parts (T ∷ Ts) s = (as_row_send (row_field T) s.0, tuple_parts Ts s.1)

pub tuple_send : (ν : List ℕ) (Ts : List RattleType) → AllSend Ts → IsSend (TupleAt ν Ts)
tuple_send ν Ts s = declared_send (tuple.type_at ν Ts) (tuple_parts Ts s)

pub job_sync : IsSync Job.the_row
job_sync = search parts depth 20

count_send : IsSend usize
count_send = search sendable depth 8

pub found_send : (R : RattleType) → IsSend R → IsSend (Tuple (R ∷ usize ∷ []))
found_send R s = tuple_send _ (R ∷ usize ∷ []) (s, (count_send, tt))
