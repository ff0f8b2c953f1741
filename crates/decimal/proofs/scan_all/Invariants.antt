-- `scan_all` reads every byte.
use Rattle.std.proofs.Common.{◌≡◌, drop}
use Rattle.decimal.specs.Scan.{Bounded, begun, scanned}
use Rattle.decimal.proofs.scan_all.Given as goal

abbrev pub invariant-loop-b : goal.invariant-loop-b
invariant-loop-b l = record { bounded : Bounded l.s; same : scanned l.s (drop l.b-index l.text) ≡ scanned begun l.text }
