-- `put_opening` puts the line, then what the sentence is about.
use Prim.Native.Nat.{◌≤◌}
use native.Mathlib.Omega.{arith}
use lib.ListN.{length}
use Rattle.phrases.proofs.Appends.{puts-appends, appended_then}
use Rattle.text_lines.proofs.Lines.{refusal-room}
use Rattle.text_lines.specs.Text.{refusal_line}
use Rattle.reasons.proofs.put_opening.Goals as goal

pub returns : goal.returns
returns c =
    let given = c.args in
    let start : 0 ≤ length given.page.now = omega arith in let room = refusal-room given.refusal.number
    given.refusal.place given.page.now c.requires in let line = puts-appends given.page.now 0
    (refusal_line given.refusal) _ _ room c.put_refusal-line.ensures.0 in appended_then start
    (appended_then start (line, c.put_refusal-line.ensures.1) c.append-named.ensures)
    c.append.ensures
