-- To be believed: the scale, and the motions of one plunge by a sink table, in IEEE 754 binary64 (document 01, "Press motions"; document 02, N6).
use Rattle.std.specs.Prelude.{Bool, false, cond, List, ℕ, ◌+◌, ◌*◌, get_or, Float}
use Rattle.std.specs.Float.{binary64}
use Rattle.std.specs.Float.Ieee.{mul, add, div, le}
use Rattle.geometry.specs.declared.Plunge.{Plunge}
use Rattle.sink.specs.Sink.{whole, plunge_millimetres}
use Rattle.motion_floats.specs.declared.Scale.{Scale}
use Rattle.motion_floats.specs.declared.Motion.TheVariants.{Change, Stay, Travel, Sink}
use Rattle.motion_floats.specs.declared.Motions.{Motions}

-- ---- the scale

-- a number from one to another, "ends included"; what is not a number is in no range
abbrev pub within : Float → Float → Float → Bool
within a b x = cond (le a x) (le x b) false

-- 0.0625, exact
abbrev pub sixteenth : Float
sixteenth = div binary64 (whole 1) (whole 16)

-- "half pitch p, from 0.0625 to 4, and offsets for columns and rows, each 0 to 1000, ends included"
abbrev pub scale_in_range : Scale → Bool
scale_in_range s =
    cond (within sixteenth (whole 4) s.half_pitch)
    (cond (within (whole 0) (whole 1000) s.column_offset) (within (whole 0) (whole 1000) s.row_offset) false)
    false

-- ---- the motions of one plunge

-- "its width is 2·(2·reach + 1) times p, rounded once"
abbrev pub change_width : Scale → ℕ → Float
change_width s reach = mul binary64 (whole (2 * (2 * reach + 1))) s.half_pitch

-- "the column offset plus (2·column + 1) times p, product rounded, then sum rounded; rows alike"
abbrev pub travel_to : Float → Float → ℕ → Float
travel_to p offset cell = add binary64 offset (mul binary64 (whole (2 * cell + 1)) p)

-- "a change or a stay, a travel, a sink", with the table entry of the plunge's depth
abbrev pub entry_motions : ℕ → Scale → Bool → Plunge → Motions
entry_motions entry s changed q =
    record {
      first = cond changed (Change (change_width s q.reach.0)) Stay;
      second = Travel (travel_to s.half_pitch s.column_offset q.column) (travel_to s.half_pitch s.row_offset q.row);
      third = Sink (plunge_millimetres q.reach.0 entry);
    }

-- N6: "Motions then use the loaded table, the reach 0 allowance included"
abbrev pub motions_of : List ℕ → Scale → Bool → Plunge → Motions
motions_of table s changed q = entry_motions (get_or table q.depth 0) s changed q
