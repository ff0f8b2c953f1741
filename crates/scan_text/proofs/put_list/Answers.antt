-- `put_list` puts all lines of the file into one page.
use mathlib.Core.Path.{◌≡◌, ◌∙◌}
use native.Mathlib.Omega.{arith}
use Rattle.scan_text.specs.Program.{plate_in}
use Rattle.scan_text.proofs.Scans.{job_of, text-put, same_head}
use Rattle.scan_text.proofs.put_list.Goals as goal

pub put_page-page-requires : goal.put_page-page-requires
put_page-page-requires c =
    let given = c.args in
    let e : c.head_of-head.result ≡ plate_in given.scan.now = c.head_of-head.ensures ∙ same_head
    c.byte_in-kind.ensures c.byte_in-width.ensures c.byte_in-height.ensures in
    (job_of given.scan.now given.file.now given.plunges c.requires.0 _ e, omega arith)

pub returns : goal.returns
returns c =
    let given = c.args in
    let put = c.put_page-page in (
      text-put given.scan.now given.file.now given.plunges c.requires.0
          (λ i. (c.type_inv.file i).fits) given.text.now put.new.page put.result
          c.requires.1 put.ensures.0,
      put.ensures.1,
    )
