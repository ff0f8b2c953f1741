-- To be believed: the two sizes of a plate (document 02, N12: "A plate with both sides at most 240 is still written with tags 1 and 2").
use Rattle.std.specs.Prelude.{cond, ℕ, leb}
use Rattle.geometry.specs.declared.Head.{Head}
use Rattle.geometry.specs.declared.Size.{Size}
use Rattle.geometry.specs.declared.Size.TheVariants.{Small, Large}

-- the largest side of a small plate
abbrev pub small_side : ℕ
small_side = 240

-- small where "both sides [are] at most 240"
unfoldable pub size_of : Head → Size
size_of p = cond (leb p.width small_side) (cond (leb p.height small_side) Small Large) Large
