-- `append_fault` goes by the fault.
use mathlib.Core.Path.{sym, ap}
use Rattle.pgm_sentences.specs.Texts.{fault_text}
use Rattle.pgm_sentences.proofs.Appending.{appended-same}
use Rattle.pgm_sentences.proofs.append_fault.Goals as goal

pub returns-in-NotPgm : goal.returns-in-NotPgm
returns-in-NotPgm c =
    appended-same (sym (ap fault_text c.in-NotPgm.is)) c.append.ensures
