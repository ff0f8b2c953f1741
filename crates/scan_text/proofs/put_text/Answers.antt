-- `put_text` lists the scan into its file buffer and puts the text of what came of it.
use Rattle.std.specs.Prelude.{Result}
use mathlib.Core.Path.{subst}
use mathlib.Core.List.{List}
use Prim.Native.Nat.{ℕ}
use Rattle.numerals.specs.Numerals.{Puts}
use Rattle.jobs.specs.Calls.{ListCall}
use Rattle.scan.specs.Scan.{byte_in, depths}
use Rattle.scan_text.proofs.Scans.{unlisted-text, listed-file}
use Rattle.scan_text.proofs.put_text.Goals as goal
use Rattle.listing.specs.declared.Extent.{Extent}
use Rattle.refusal.specs.declared.Refusal.{Refusal}

pub put_list-requires : goal.put_list-requires
put_list-requires c =
    let s = c.args.scan.now in
    let call = c.list_scan-answer in
    let file = c.file_buffer-file in
    let a = c.cells-a in
    let b = c.cells-b in
    let r =
    subst
    (λ (x : Result Extent Refusal). ListCall (depths s) (byte_in s 0) (byte_in s 1) (byte_in s 2) file.result call.new.out a.result call.new.a b.result call.new.b x)
    c.in-Ok.is call.ensures in (
      listed-file s file.result a.result b.result file.ensures a.ensures b.ensures call.new.out
          call.new.a call.new.b _ r,
      c.requires,
    )

pub returns-in-Err : goal.returns-in-Err
returns-in-Err c =
    let s = c.args.scan.now in
    let call = c.list_scan-answer in
    let file = c.file_buffer-file in
    let a = c.cells-a in
    let b = c.cells-b in
    let r =
    subst
    (λ (x : Result Extent Refusal). ListCall (depths s) (byte_in s 0) (byte_in s 1) (byte_in s 2) file.result call.new.out a.result call.new.a b.result call.new.b x)
    c.in-Err.is call.ensures in (
      subst
          (λ (xs : List ℕ). Puts c.args.text.now 0 xs c.put_refusal.new.page c.put_refusal.result)
          (unlisted-text s file.result a.result b.result file.ensures a.ensures b.ensures call.new.out
          call.new.a call.new.b _ r) c.put_refusal.ensures.0,
      c.put_refusal.ensures.1,
    )
