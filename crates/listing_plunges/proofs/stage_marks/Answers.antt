use Rattle.listing_plunges.proofs.Marks.{run-bytes-few}
use native.Mathlib.Omega.{arith}
use Rattle.listing_plunges.proofs.stage_marks.Goals as goal

pub overflow_add-end : goal.overflow_add-end
overflow_add-end c =
    omega (
      arith,
      c.field_bytes.ensures,
      run-bytes-few c.args.size c.args.found
          c.args.marks.now c.requires.0,
      c.requires.1,
    )
