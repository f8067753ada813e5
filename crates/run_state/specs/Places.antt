-- What stands at a spot, and what is put there, as the meaning's steps read and write it.
use Rattle.std.specs.Prelude.{Option, Some, option_map}
use Rattle.st_values.specs.Value.{Value, at, put, value_at, value_with, ◌>>=◌ as ◌>>?◌}
use Rattle.st_meaning.specs.State.{Spot, in_store, in_frame, State, frame_at, frame_value, with_local}

abbrev pub spot_value : State → Spot → Option Value
spot_value s (in_store q) = at s.store q
spot_value s (in_frame d n ss) = frame_value (frame_at s.frames d) n >>? λ v. value_at v ss

abbrev pub spot_with : State → Spot → Value → Option State
spot_with s (in_store q) new = option_map (λ st. record s { store = st }) (put s.store q new)
spot_with s (in_frame d n ss) new = frame_value (frame_at s.frames d) n >>? λ v. value_with v ss new >>? λ w. Some (record s { frames = with_local s.frames d n w (frame_at s.frames d) })
