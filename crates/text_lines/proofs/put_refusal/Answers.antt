-- `put_refusal` puts the word, the number and the place.
use mathlib.Core.List.{◌++◌}
use Rattle.text_lines.specs.Text.{word, refused_word}
use Rattle.phrases.proofs.Puts.{room-1, room-2, room-3, three-texts, puts-counts}
use Rattle.text_lines.proofs.Lines.{refusal-room}
use Rattle.text_lines.proofs.put_refusal.Goals as goal

pub put_bytes-a-requires : goal.put_bytes-a-requires
put_bytes-a-requires c =
    let given = c.args in
    let l = given.page.now in
    let w2 = word given.refusal.number 32 in
    let w3 = word given.refusal.place 10 in
    let h = refusal-room given.refusal.number given.refusal.place l c.requires in
    room-1 l 0 refused_word w2 w3 h

pub put_word-b-requires : goal.put_word-b-requires
put_word-b-requires c =
    let given = c.args in
    let l = given.page.now in
    let w2 = word given.refusal.number 32 in
    let w3 = word given.refusal.place 10 in
    let h = refusal-room given.refusal.number given.refusal.place l c.requires in
    let p1 = c.put_bytes-a in
    room-2 l 0 refused_word w2 w3 h p1.new.page p1.result p1.ensures

pub put_word-requires : goal.put_word-requires
put_word-requires c =
    let given = c.args in
    let l = given.page.now in
    let w2 = word given.refusal.number 32 in
    let w3 = word given.refusal.place 10 in
    let h = refusal-room given.refusal.number given.refusal.place l c.requires in
    let p1 = c.put_bytes-a in
    let p2 = c.put_word-b in
    room-3 l 0 refused_word w2 w3 h p1.new.page p1.result p1.ensures p2.new.page p2.result p2.ensures

pub returns : goal.returns
returns c =
    let given = c.args in
    let l = given.page.now in
    let w2 = word given.refusal.number 32 in
    let w3 = word given.refusal.place 10 in
    let h = refusal-room given.refusal.number given.refusal.place l c.requires in
    let p1 = c.put_bytes-a in
    let p2 = c.put_word-b in
    let p3 = c.put_word in
    let t =
    three-texts l 0 refused_word w2 w3 h p1.new.page p1.result p1.ensures p2.new.page p2.result
    p2.ensures p3.new.page p3.result p3.ensures in
    (t, puts-counts l 0 (refused_word ++ w2 ++ w3) p3.new.page p3.result t h)
