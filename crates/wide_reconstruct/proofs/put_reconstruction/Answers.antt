-- `put_reconstruction` gives the reconstruction: zeros, the marks of the way down, and those of the way up.
use Rattle.wide_reconstruct.proofs.Marks.{marks-reconstructed}
use Rattle.wide_reconstruct.proofs.put_reconstruction.Goals as goal

pub returns : goal.returns
returns c =
    marks-reconstructed c.args.head c.args.map.now _ _ _ _ c.requires.room
    c.zero_run.ensures c.mark_down.ensures c.mark_up.ensures
