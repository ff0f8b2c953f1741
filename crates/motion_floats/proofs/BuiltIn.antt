-- With the table that a press starts with, the motions of a plunge are what they were before tables could be loaded.
use mathlib.Core.Path.{◌≡◌, refl}
use mathlib.Core.Bool.{Bool, cond}
use Prim.Native.Nat.{◌<◌}
use lib.Ieee.{binary64, div}
use Rattle.geometry.specs.declared.Plunge.{Plunge}
use Rattle.sink.specs.Sink.{micrometres, built_in, plunge_sink, whole}
use Rattle.sink.proofs.Sinks.{built-in-sink}
use Rattle.motion_floats.specs.declared.Scale.{Scale}
use Rattle.motion_floats.specs.declared.Motion.TheVariants.{Change, Stay, Travel, Sink}
use Rattle.motion_floats.specs.Floats.{change_width, travel_to, motions_of}

-- "entry d being 20·d plus d·d/64 rounded down", and "as a float divided by 1000"; N4: "A plunge of reach 0 sinks its table entry plus that entry
-- divided by 10 and rounded down. Other reaches keep the table entry."
pub built-in-motions : (s : Scale) (changed : Bool) (q : Plunge) → q.depth < 256
    → motions_of built_in s changed q ≡ record {
      first = cond changed (Change (change_width s q.reach.0)) Stay;
      second = Travel (travel_to s.half_pitch s.column_offset q.column) (travel_to s.half_pitch s.row_offset q.row);
      third = Sink (div binary64 (whole (plunge_sink q.reach.0 (micrometres q.depth))) (whole 1000));
    }
built-in-motions s changed q h = rw (built-in-sink q.reach.0 q.depth h) refl
