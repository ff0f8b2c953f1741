-- `load_row` leaves the start of a row: seeds with the row's floor, then both ends raised to the border's number.
use mathlib.Core.Path.{ap, ◌∙◌}
use Prim.Native.Nat.{◌-◌}
use Rattle.row_arrays.specs.Start.{seed}
use Rattle.row_arrays.proofs.Start.{loaded}
use Rattle.row_arrays.proofs.load_row.Goals as goal

pub returns : goal.returns
returns c =
    loaded c.args.head (seed c.args.seeds) c.args.map.now c.args.y c.requires.held c.requires.here _
    (c.saturating_sub-edge.ensures ∙ ap (λ v. v - 1) c.seed_of.ensures) _ _ _ _ _ c.requires.margins
    c.floor_of-floor.ensures c.load_run.ensures c.max.ensures
    c.max-2.ensures
