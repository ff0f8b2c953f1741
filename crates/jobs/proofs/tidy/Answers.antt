-- `tidy` reads, measures, draws into its third work buffer, and lists that.
use mathlib.Core.Path.{sym, ◌∙◌, subst}
use Rattle.refusal.proofs.Refusals.{passed-on}
use Rattle.jobs.specs.Calls.{TidyCall}
use native.Mathlib.Omega.{arith}
use Rattle.reading.proofs.Answers.{read-refused, read-accepted}
use Rattle.jobs.proofs.Calls.{tidy-fault, draw-asks, tidy-short, tidy-done}
use Rattle.jobs.proofs.tidy.Goals as goal

pub returns-then-room-cells_of : goal.returns-then-room-cells_of
returns-then-room-cells_of c =
    let given = c.args in
    let w = read-accepted given.file.now _ (sym c.in_ok-job.was ∙ c.read.ensures) in
    tidy-short given.file.now _ w given.out.now given.a.now given.b.now given.c.now _
    c.shortest-room.ensures _ c.too_short.ensures
    (omega (arith, c.if-room-cells_of.true, c.cells_of.ensures))

pub draw_into-requires : goal.draw_into-requires
draw_into-requires c =
    let w =
    read-accepted c.args.file.now _ (sym c.in_ok-job.was ∙ c.read.ensures) in
    let a = draw-asks c.args.file.now _ w in (
      a.0,
      a.1,
      omega (arith, c.if-room-cells_of.false, c.cells_of.ensures, c.shortest-room.ensures),
    )

pub list_into-requires : goal.list_into-requires
list_into-requires c =
    let w =
    read-accepted c.args.file.now _ (sym c.in_ok-job.was ∙ c.read.ensures) in
    let long = c.if-room-cells_of.false in
    let cells = c.cells_of.ensures in
    let least = c.shortest-room.ensures in
    record {
      sides = (draw-asks c.args.file.now _ w).0;
      relief = omega (arith, long, cells, least, c.draw_into.ensures.same);
      first = omega (arith, long, cells, least);
      second = omega (arith, long, cells, least);
    }

pub returns : goal.returns
returns c =
    let given = c.args in
    let w = read-accepted given.file.now _ (sym c.in_ok-job.was ∙ c.read.ensures) in
    tidy-done given.file.now _ w given.out.now given.a.now given.b.now given.c.now _
    c.shortest-room.ensures (omega (arith, c.if-room-cells_of.false, c.cells_of.ensures)) _ _ _ _ _
    c.draw_into.ensures c.list_into.ensures.0 c.list_into.ensures.1
    c.list_into.ensures.2

pub returns-in_err-job : goal.returns-in_err-job
returns-in_err-job c =
    let given = c.args in
    subst (TidyCall _ _ _ _ _ _ _ _ _) (sym (passed-on _ _ c.from_residual.ensures.1)) (
    tidy-fault given.file.now _ given.out.now given.a.now given.b.now given.c.now
    (read-refused _ given.file.now _ (sym c.in_err-job.was ∙ c.read.ensures)))
