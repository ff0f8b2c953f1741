-- `put_plunge` puts four words, one after another.
use mathlib.Core.List.{◌++◌}
use Rattle.text_lines.specs.Text.{word}
use Rattle.phrases.proofs.Puts.{first-room, two-texts, room-1, three-texts}
use Rattle.text_lines.proofs.put_plunge.Goals as goal

pub put_word-a-requires : goal.put_word-a-requires
put_word-a-requires c =
    let given = c.args in
    let l = given.page.now in
    let at = given.at in
    let q = given.q in
    let w1 = word q.reach.0 32 in
    let w2 = word q.row 32 in
    let w3 = word q.column 32 in
    let w4 = word q.depth 10 in
    let h = first-room l at (w1 ++ w2 ++ w3) w4 c.requires in
    room-1 l at w1 w2 w3 h

pub returns : goal.returns
returns c =
    let given = c.args in
    let l = given.page.now in
    let at = given.at in
    let q = given.q in
    let w1 = word q.reach.0 32 in
    let w2 = word q.row 32 in
    let w3 = word q.column 32 in
    let w4 = word q.depth 10 in
    let h = first-room l at (w1 ++ w2 ++ w3) w4 c.requires in
    let p1 = c.put_word-a in
    let p2 = c.put_word-b in
    let p3 = c.put_word-c in
    let p4 = c.put_word in
    two-texts l at (w1 ++ w2 ++ w3) w4 c.requires p3.new.page p4.new.page p3.result p4.result
    (three-texts l at w1 w2 w3 h p1.new.page p1.result p1.ensures p2.new.page p2.result p2.ensures
    p3.new.page p3.result p3.ensures) p4.ensures
