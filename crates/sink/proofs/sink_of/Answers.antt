-- `sink_of` divides the sink, as a float, by 1000.
use Rattle.sink.proofs.Literals.{literal-1000}
use Rattle.sink.proofs.sink_of.Goals as goal

pub returns : goal.returns
returns c = simp (c.plunge_sink.ensures, literal-1000)
