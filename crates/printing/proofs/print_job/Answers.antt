use borrow.Author.Rules.{rules}
use mathlib.Core.Path.{◌≡◌}
use Prim.Native.Nat.{◌-◌, ◌≤◌}
use native.Mathlib.Omega.{arith}
use lib.ListN.{length}
use Rattle.text.specs.Pages.{line_at, line_count}
use Rattle.text_lines.specs.Text.{line_room}
use Rattle.reading.proofs.Answers.{total-few}
use Rattle.text.proofs.Pages.{page-goes-on}
use Rattle.printing.proofs.print_job.Goals as goal

pub loop-next-init : goal.loop-next-init
loop-next-init c = (omega arith, c.large_buffer-page.ensures)

pub overflow_add-plunges : goal.overflow_add-plunges
overflow_add-plunges c =
    omega (arith, c.requires.plunges, total-few c.args.file.now c.requires.readable)

pub put_page-filled-requires : goal.put_page-filled-requires
put_page-filled-requires c =
    (c.requires, c.loop-next.invariant.0)

pub loop-next-preserved : goal.loop-next-preserved
loop-next-preserved c =
    let put = c.put_page-filled in
    (put.ensures.0.within, search rules)
