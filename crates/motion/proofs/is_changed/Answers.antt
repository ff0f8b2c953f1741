-- `is_changed` compares the reach with the plunge before, if there is one.
use native.Mathlib.Omega.{arith}
use Rattle.motion.proofs.Calls.{changes-first, changes-later}
use Rattle.motion.proofs.is_changed.Goals as goal

pub returns-then-i-eq0 : goal.returns-then-i-eq0
returns-then-i-eq0 c = changes-first c.args.file.now c.args.i c.if-i-eq0.true

pub nth_plunge-before-requires : goal.nth_plunge-before-requires
nth_plunge-before-requires c =
    (c.requires.0, omega (arith, c.requires.1))

pub returns : goal.returns
returns c =
    changes-later c.args.file.now c.args.i _ _ c.if-i-eq0.false
    c.nth_plunge-q.ensures c.nth_plunge-before.ensures
