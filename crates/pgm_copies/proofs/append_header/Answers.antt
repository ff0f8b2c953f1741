-- `append_header` appends one part behind the other.
use Rattle.phrases.proofs.Appends.{appended_then}
use Rattle.pgm_copies.specs.Copies.{header_text}
use Rattle.pgm_copies.proofs.append_header.Goals as goal

pub returns : goal.returns
unfolding header_text
returns c =
    appended_then c.requires
    (appended_then c.requires c.append_phrase-a.ensures c.append_number-b.ensures)
    c.append.ensures
