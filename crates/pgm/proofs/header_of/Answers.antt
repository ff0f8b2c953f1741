-- `header_of` reads one number behind the other.
use Rattle.pgm.proofs.Checks.{header_read}
use Rattle.pgm.proofs.header_of.Goals as goal

pub returns : goal.returns
returns c =
    header_read c.args.file.now c.number_after-width.result c.number_after-height.result
    c.number_after-maxval.result c.number_after-width.ensures c.number_after-height.ensures
    c.number_after-maxval.ensures
