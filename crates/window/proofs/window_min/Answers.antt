-- `window_min` gives `window_min`: the cross, and the cross with the corners, are the window's numbers in another order.
use mathlib.Core.Path.{ap₂, ◌∙◌}
use Prim.Native.Nat.{min}
use Rattle.window.proofs.Windows.{of-min, nine-in-order}
use Rattle.window.proofs.window_min.Goals as goal

pub returns-in-Square : goal.returns-in-Square
returns-in-Square c =
    rw c.in-Square.is
    (c.min.ensures ∙ ap₂ min c.cross_min-in-Square.ensures c.corners_min.ensures ∙
    nine-in-order of-min)
