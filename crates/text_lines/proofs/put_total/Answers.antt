-- `put_total` puts the word and the number.
use Rattle.text_lines.specs.Text.{word, total_word}
use Rattle.phrases.proofs.Puts.{first-room}
use Rattle.text_lines.proofs.put_total.Goals as goal

pub put_bytes-a-requires : goal.put_bytes-a-requires
put_bytes-a-requires c =
    let given = c.args in
    let l = given.page.now in
    let at = given.at in
    let w2 = word given.plunges 10 in
    first-room l at total_word w2 c.requires
