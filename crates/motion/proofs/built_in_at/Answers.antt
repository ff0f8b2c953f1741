-- `built_in_at` takes it from the built-in table.
use Rattle.sink.specs.Sink.{built_in}
use Rattle.std.proofs.Common.{rules}
use Rattle.motion.proofs.Calls.{asked-below, not-moved, moves}
use Rattle.motion.proofs.built_in_at.Goals as goal

pub is_changed-changed-requires : goal.is_changed-changed-requires
is_changed-changed-requires c =
    let given = c.args in (
      c.requires,
      asked-below given.file.now given.i given.scale given.job c.requires _
          c.check_asked.ensures c.in_ok-check_asked.was,
    )

pub nth_plunge-q-requires : goal.nth_plunge-q-requires
nth_plunge-q-requires c =
    let given = c.args in (
      c.requires,
      asked-below given.file.now given.i given.scale given.job c.requires _
          c.check_asked.ensures c.in_ok-check_asked.was,
    )

pub returns-in_err-check_asked : goal.returns-in_err-check_asked
returns-in_err-check_asked c =
    let given = c.args in
    let fault = not-moved built_in given.file.now given.i given.scale given.job c.requires _ c.check_asked.ensures _ c.in_err-check_asked.was in
    search rules

pub returns : goal.returns
returns c =
    let given = c.args in
    moves built_in given.file.now given.i given.scale given.job c.requires _
    c.check_asked.ensures c.in_ok-check_asked.was _ _ _ _
    c.is_changed-changed.ensures c.nth_plunge-q.ensures c.sink_at-entry.ensures
    c.motions_of.ensures
