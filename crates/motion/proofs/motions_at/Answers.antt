-- `motions_at` takes the entry of the plunge's depth from the table that is lent.
use Rattle.std.proofs.Common.{rules}
use Rattle.motion.proofs.Calls.{asked-below, not-moved, moves}
use mathlib.Core.Path.{refl}
use Rattle.motion.proofs.motions_at.Goals as goal

pub is_changed-changed-requires : goal.is_changed-changed-requires
is_changed-changed-requires c =
    let given = c.args in (
      c.requires,
      asked-below given.file.now given.i given.scale given.job c.requires _
          c.check_asked.ensures c.in_ok-check_asked.was,
    )

pub nth_plunge-q-requires : goal.nth_plunge-q-requires
nth_plunge-q-requires c =
    let given = c.args in (
      c.requires,
      asked-below given.file.now given.i given.scale given.job c.requires _
          c.check_asked.ensures c.in_ok-check_asked.was,
    )

pub returns-in_err-check_asked : goal.returns-in_err-check_asked
returns-in_err-check_asked c =
    let given = c.args in
    let fault = not-moved given.table.now given.file.now given.i given.scale given.job c.requires _ c.check_asked.ensures _ c.in_err-check_asked.was in
    search rules

pub returns : goal.returns
returns c =
    let given = c.args in
    moves given.table.now given.file.now given.i given.scale given.job c.requires _
    c.check_asked.ensures c.in_ok-check_asked.was _ _ _ _
    c.is_changed-changed.ensures c.nth_plunge-q.ensures refl c.motions_of.ensures
