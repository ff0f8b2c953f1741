-- `append_found` tells the number, or that it is above the largest that is read.
use Rattle.pgm_sentences.proofs.Appending.{appended-same, found-small, found-large}
use Rattle.pgm_sentences.proofs.append_found.Goals as goal

pub returns-then-n-lt-LARGEST_NUMBER : goal.returns-then-n-lt-LARGEST_NUMBER
returns-then-n-lt-LARGEST_NUMBER c =
    appended-same (found-small c.args.n c.if-n-lt-LARGEST_NUMBER.true) c.append_number.ensures

pub returns : goal.returns
returns c =
    appended-same (found-large c.args.n c.if-n-lt-LARGEST_NUMBER.false) c.append_phrase.ensures
