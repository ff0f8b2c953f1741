-- `window_max` gives `window_max`: the cross, and the cross with the corners, are the window's numbers in another order.
use mathlib.Core.Path.{ap₂, ◌∙◌}
use Prim.Native.Nat.{max}
use Rattle.window.proofs.Windows.{of-max, nine-in-order}
use Rattle.window.proofs.window_max.Goals as goal

pub returns-in-Square : goal.returns-in-Square
returns-in-Square c =
    rw c.in-Square.is
    (c.max.ensures ∙ ap₂ max c.cross_max-in-Square.ensures c.corners_max.ensures ∙
    nine-in-order of-max)
