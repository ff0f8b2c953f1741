-- `append_range` goes by the number of the header.
use mathlib.Core.Path.{sym, ap}
use Rattle.pgm_sentences.specs.Texts.{range_text}
use Rattle.pgm_sentences.proofs.Appending.{appended-same}
use Rattle.pgm_sentences.proofs.append_range.Goals as goal

pub returns-in-Width : goal.returns-in-Width
returns-in-Width c =
    appended-same (sym (ap range_text c.in-Width.is)) c.append_limit.ensures

pub returns-in-Height : goal.returns-in-Height
returns-in-Height c =
    appended-same (sym (ap range_text c.in-Height.is)) c.append_limit-in-Height.ensures

pub returns-in-Maxval : goal.returns-in-Maxval
returns-in-Maxval c =
    appended-same (sym (ap range_text c.in-Maxval.is)) c.append_limit-in-Maxval.ensures
