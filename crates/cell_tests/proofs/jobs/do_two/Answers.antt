use denote.Exit.{no}
use denote.Param.{param}
use denote.Param.Send.{param_send, arg_send, shr_send, shr_slice_send}
use Rattle.std.proofs.Common.{[], ◌∷◌}
use Rattle.cell_tests.proofs.Crossing.{pass_send, plant_sync, tuple_send, play_sync, job_sync, found_send}
use Rattle.cell_tests.proofs.jobs.do_two.Goals as goal

pub join-ours-requires-send-F : goal.join-ours-requires-send-F
join-ours-requires-send-F g c κs within =
    let plant = plant_sync (param 0 g.row.P) (param 2 g.row.P-Change) (param 3 g.row.P-Work) g.P.Controlled c.type_bounds.send-P c.type_bounds.sync-P c.type_bounds.send-P-Work in
    let pass = pass_send (param 0 g.row.P) (param 2 g.row.P-Change) (param 3 g.row.P-Work) g.P.Controlled c.type_bounds.send-P c.type_bounds.sync-P c.type_bounds.send-P-Work in
    param_send 1 _ (arg_send _ no _ (tuple_send _ (_ ∷ _ ∷ _ ∷ _ ∷ _ ∷ []) (shr_send _ _ _ c.type_bounds.sync-R, (shr_send _ _ _ plant, (pass, (shr_slice_send _ _ _ play_sync, (shr_send _ _ _ job_sync, tt)))))))

pub join-ours-requires-send-A : goal.join-ours-requires-send-A
join-ours-requires-send-A g c κs within =
    let pass = pass_send (param 0 g.row.P) (param 2 g.row.P-Change) (param 3 g.row.P-Work) g.P.Controlled c.type_bounds.send-P c.type_bounds.sync-P c.type_bounds.send-P-Work in
    param_send 3 _ (arg_send _ no _ (found_send _ pass))
