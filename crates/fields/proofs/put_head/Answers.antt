use mathlib.Core.Path.{◌≡◌, sym, ap, ◌∙◌}
use native.Mathlib.Omega.{arith}
use Rattle.geometry.specs.declared.Size.TheVariants.{Small}
use Rattle.geometry.specs.Sizes.{size_of}
use Rattle.fields.specs.Fields.{head_bytes}
use Rattle.fields.proofs.Sized.{small-head}
use Rattle.fields.proofs.put_head.Goals as goal

pub put_small_head-requires : goal.put_small_head-requires
put_small_head-requires c =
    let small : size_of c.args.head ≡ Small = sym c.size-size.ensures ∙ c.in-Small.is in
    (omega (arith, c.requires, ap head_bytes small), small-head c.args.head small)
