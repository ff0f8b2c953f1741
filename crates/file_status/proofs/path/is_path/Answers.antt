-- `is_path` says whether a name is a path.
use mathlib.Core.Path.{sym, ap, ◌∙◌}
use mathlib.Core.Bool.{not}
use Rattle.file_status.proofs.Names.{not-any, short-path}
use Rattle.file_status.proofs.path.is_path.Goals as goal

pub returns-then-name-lt-PATH_MAX : goal.returns-then-name-lt-PATH_MAX
returns-then-name-lt-PATH_MAX c =
    let name = c.args.name.now in
    ap not c.contains.ensures.value ∙ not-any name ∙ sym (short-path name c.if-name-lt-PATH_MAX.true)
