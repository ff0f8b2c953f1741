-- `given_options` goes from word to word.
use Rattle.std.proofs.Common.{◌-◌}
use Rattle.tool_words.proofs.given_options.Given as goal

abbrev pub decreases-loop-i : goal.decreases-loop-i
decreases-loop-i l = l.count - l.i
