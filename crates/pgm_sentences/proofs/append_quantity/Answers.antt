-- `append_quantity` goes by the number of the header.
use mathlib.Core.Path.{sym, ap}
use Rattle.pgm_sentences.specs.Texts.{quantity_name}
use Rattle.pgm_sentences.proofs.Appending.{appended-same}
use Rattle.pgm_sentences.proofs.append_quantity.Goals as goal

pub returns-in-Width : goal.returns-in-Width
returns-in-Width c =
    appended-same (sym (ap quantity_name c.in-Width.is)) c.append.ensures

pub returns-in-Height : goal.returns-in-Height
returns-in-Height c =
    appended-same (sym (ap quantity_name c.in-Height.is)) c.append-in-Height.ensures

pub returns-in-Maxval : goal.returns-in-Maxval
returns-in-Maxval c =
    appended-same (sym (ap quantity_name c.in-Maxval.is)) c.append-in-Maxval.ensures
