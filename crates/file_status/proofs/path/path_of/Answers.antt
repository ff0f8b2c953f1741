-- `path_of` lays a name over zeros.
use Rattle.file_status.proofs.Names.{laid}
use Rattle.file_status.proofs.path.path_of.Goals as goal

pub returns : goal.returns
returns c = laid c.args.name.now c.copy_from_slice.new.self c.copy_from_slice.ensures.after c.requires
