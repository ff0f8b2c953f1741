-- `gap_end` goes on byte by byte, in a comment or outside.
use Rattle.std.proofs.Common.{◌≡◌, ◌+◌, ◌≤◌, length, drop}
use Prim.Native.Nat.{max}
use Rattle.pgm.specs.Pgm.{gap, gap_end}
use Rattle.pgm.proofs.gap_end.Given as goal

abbrev pub invariant-loop-i : goal.invariant-loop-i
invariant-loop-i l = record {
  within : l.i ≤ max l.from (length l.file);
  same : l.i + gap l.comment (drop l.i l.file) ≡ gap_end l.file l.from;
}
