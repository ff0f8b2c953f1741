use Rattle.fields.proofs.Encoding.{field-few}
use Rattle.listing_plunges.proofs.Marks.{run-bytes, run-bytes-few}
use native.Mathlib.Omega.{arith}
use Rattle.listing_plunges.proofs.field_bytes.Goals as goal

pub overflow_mul-result : goal.overflow_mul-result
overflow_mul-result c =
    omega (
      arith,
      run-bytes c.args.size c.args.found c.args.marks.now _
          _ c.plunge_bytes.ensures c.count_marks.ensures,
      run-bytes-few c.args.size c.args.found
          c.args.marks.now c.requires,
      field-few c.args.size,
    )

pub returns : goal.returns
returns c =
    run-bytes c.args.size c.args.found c.args.marks.now _ _
    c.plunge_bytes.ensures c.count_marks.ensures
