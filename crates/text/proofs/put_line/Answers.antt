-- `put_line` puts the line of its number.
use mathlib.Core.Path.{◌≡◌, sym, ap, ◌∙◌}
use native.Mathlib.Omega.{arith}
use Prim.Native.Nat.{ℕ, ◌<◌}
use lib.ListN.{get_or}
use Rattle.text_lines.specs.Text.{plate_line, plunge_line, total_line}
use Rattle.text.specs.Pages.{line_at}
use Rattle.text.proofs.Pages.{line-plate, line-plunge, line-total, line-put, line-asks}
use Rattle.text.proofs.put_line.Goals as goal

pub put_plate-requires : goal.put_plate-requires
put_plate-requires c =
    let given = c.args in
    let f = given.file.now in
    let w = c.requires.0 in
    let bytes : (i : ℕ) → get_or f i 0 < 256 = λ i. (c.type_inv.file i).fits in
    let e : plate_line given.job.head ≡ line_at f given.i = ap plate_line w.head ∙ sym (line-plate f given.i c.if-i-eq0.true) in
    line-asks f given.i _ given.page.now given.at w.readable bytes e c.requires.1

pub returns-then-i-eq0 : goal.returns-then-i-eq0
returns-then-i-eq0 c =
    let given = c.args in
    let f = given.file.now in
    let w = c.requires.0 in
    let bytes : (i : ℕ) → get_or f i 0 < 256 = λ i. (c.type_inv.file i).fits in
    let e : plate_line given.job.head ≡ line_at f given.i = ap plate_line w.head ∙ sym (line-plate f given.i c.if-i-eq0.true) in
    line-put f given.i _ given.page.now _ given.at _ w.readable bytes e c.put_plate.ensures

pub put_total-requires : goal.put_total-requires
put_total-requires c =
    let given = c.args in
    let f = given.file.now in
    let w = c.requires.0 in
    let bytes : (i : ℕ) → get_or f i 0 < 256 = λ i. (c.type_inv.file i).fits in
    let e : total_line given.job.plunges ≡ line_at f given.i =
    ap total_line w.plunges
    ∙ sym (line-total f given.i (omega (arith, w.plunges, c.if-job-i.true))) in
    line-asks f given.i _ given.page.now given.at w.readable bytes e c.requires.1

pub returns-then-job-i : goal.returns-then-job-i
returns-then-job-i c =
    let given = c.args in
    let f = given.file.now in
    let w = c.requires.0 in
    let bytes : (i : ℕ) → get_or f i 0 < 256 = λ i. (c.type_inv.file i).fits in
    let e : total_line given.job.plunges ≡ line_at f given.i =
    ap total_line w.plunges
    ∙ sym (line-total f given.i (omega (arith, w.plunges, c.if-job-i.true))) in
    line-put f given.i _ given.page.now _ given.at _ w.readable bytes e c.put_total.ensures

pub put_plunge-requires : goal.put_plunge-requires
put_plunge-requires c =
    let given = c.args in
    let f = given.file.now in
    let w = c.requires.0 in
    let bytes : (i : ℕ) → get_or f i 0 < 256 = λ i. (c.type_inv.file i).fits in
    let e : plunge_line c.nth_plunge-q.result ≡ line_at f given.i =
    ap plunge_line c.nth_plunge-q.ensures
    ∙ sym (line-plunge f given.i c.if-i-eq0.false (omega (arith, w.plunges, c.if-job-i.false))) in
    line-asks f given.i _ given.page.now given.at w.readable bytes e c.requires.1

pub returns : goal.returns
returns c =
    let given = c.args in
    let f = given.file.now in
    let w = c.requires.0 in
    let bytes : (i : ℕ) → get_or f i 0 < 256 = λ i. (c.type_inv.file i).fits in
    let e : plunge_line c.nth_plunge-q.result ≡ line_at f given.i =
    ap plunge_line c.nth_plunge-q.ensures
    ∙ sym (line-plunge f given.i c.if-i-eq0.false (omega (arith, w.plunges, c.if-job-i.false))) in
    line-put f given.i _ given.page.now _ given.at _ w.readable bytes e c.put_plunge.ensures
