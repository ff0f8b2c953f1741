-- `load_walls` leaves the start of a row: seeds with the row's floor, then both ends raised to the border's number.
use mathlib.Core.Path.{ap, ◌∙◌}
use Prim.Native.Nat.{◌-◌}
use Rattle.row_arrays.specs.Start.{wall_number}
use Rattle.row_arrays.proofs.Start.{loaded}
use Rattle.wide_rows.specs.Wide.{wide_wall}
use Rattle.wide_rows.proofs.load_walls.Goals as goal

pub returns : goal.returns
returns c =
    loaded c.args.head (wall_number wide_wall c.args.level) c.args.relief.now c.args.y c.requires.held c.requires.here _
    (c.saturating_sub-edge.ensures ∙ ap (λ v. v - 1) c.seed_of.ensures) _ _ _ _ _ c.requires.margins
    c.floor_of-floor.ensures c.load_seeds.ensures c.max.ensures
    c.max-2.ensures
