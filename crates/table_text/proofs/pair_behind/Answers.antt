-- `pair_behind` joins the two bytes.
use lib.ListN.{get_or}
use native.Mathlib.Nat.{add_assoc}
use Prim.Native.Nat.{ℕ, ◌+◌, ◌*◌}
use mathlib.Core.Path.{sym, ap, ap₂, ◌∙◌}
use Rattle.table_text.proofs.pair_behind.Goals as goal

pub returns : goal.returns
returns c =
    let given = c.args in
    ap₂ (λ (x y : ℕ). 256 * x + y) c.byte_behind.ensures.0
    (c.byte_behind-2.ensures.0 ∙ ap (λ (n : ℕ). get_or given.file.now n 0)
    (sym (add_assoc given.place given.i 1)))
