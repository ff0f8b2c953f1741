-- `put_scan` reads the picture, then copies it.
use mathlib.Core.Path.{sym, ◌∙◌}
use Rattle.pgm.proofs.Checks.{found-lies}
use Rattle.pgm_copies.proofs.put_scan.Goals as goal

pub copy_scan-requires : goal.copy_scan-requires
copy_scan-requires c =
    found-lies c.args.file.now _
    (sym c.read_picture.ensures ∙ c.in_ok-picture.was)
