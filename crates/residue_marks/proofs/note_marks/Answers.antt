use mathlib.Core.Path.{◌≡◌, ◌∙◌}
use Prim.Native.Nat.{◌+◌, ◌*◌, ◌/◌}
use native.Mathlib.Omega.{arith}
use Rattle.residue_marks.specs.Marks.{block}
use Rattle.residue_marks.proofs.Marking.{noted-none, noted-on}
use Rattle.residue_marks.proofs.note_marks.Goals as goal

pub loop-i-init : goal.loop-i-init
loop-i-init c = noted-none _ _ _ _ (omega arith)

pub note_block-count-requires : goal.note_block-count-requires
note_block-count-requires c =
    let so_far = c.loop-i.invariant in
    record
    { ordered = omega arith; within = omega (arith, c.requires.within); few = so_far.few; size = c.requires.size; room = so_far.same ∙ c.requires.room }

pub loop-i-preserved : goal.loop-i-preserved
loop-i-preserved c =
    let k : block * c.loop-i.i + block ≡ block * (c.loop-i.i + 1) = omega arith in
    rw k at (noted-on _ _ _ _ _ _ _ _ _ _ (omega arith) (omega arith) c.loop-i.invariant c.note_block-count.ensures)

pub note_places-requires : goal.note_places-requires
note_places-requires c =
    let so_far = c.loop-i.invariant in
    let k : c.loop-i.i ≡ c.args.number / block = omega arith in
    record
    { ordered = omega arith; within = c.requires.within; few = omega (arith, so_far.few); size = c.requires.size; room = so_far.same ∙ c.requires.room }

pub returns : goal.returns
returns c =
    let k : c.loop-i.i ≡ c.args.number / block = omega arith in
    noted-on _ _ _ _ _ _ _ _ _ _ (omega arith) (omega arith) (rw k at c.loop-i.invariant) c.note_places.ensures
