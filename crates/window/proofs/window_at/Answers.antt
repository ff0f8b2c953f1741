-- `window_at` gives `window_of` the cell: what the three calls of `row_before` give is its window, by `window-is`.
use mathlib.Core.Path.{◌∙◌}
use Rattle.window.proofs.Windows.{three, window-is}
use Rattle.window.proofs.window_at.Goals as goal

pub returns : goal.returns
returns c =
    let a = c.args in
    three c.row_before.ensures c.row_before-2.ensures c.row_before-3.ensures ∙
    window-is a.head a.map.now a.column a.row
