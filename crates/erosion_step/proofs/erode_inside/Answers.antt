-- `erode_inside` makes one run of all inner rows, and zeroes what lies before it, after it, and at the sides: `first-all` puts the four together.
use Rattle.erosion_step.proofs.Steps.{first-all}
use Rattle.erosion_step.proofs.erode_inside.Goals as goal

pub returns : goal.returns
returns c =
    let given = c.args in
    first-all given.head given.src.now given.dst.now c.zero_run.new.dst c.erode_run-top.new.dst
    c.zero_run-2.new.dst c.zero_columns.new.dst c.erode_run-top.result
    c.requires.wide c.requires.high
    (record {
      upper = c.zero_run.ensures;
      run = c.erode_run-top.ensures;
      lower = c.zero_run-2.ensures;
      sides = c.zero_columns.ensures;
    })
