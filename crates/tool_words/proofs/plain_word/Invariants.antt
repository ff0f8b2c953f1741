-- `plain_word` goes from word to word.
use Rattle.std.proofs.Common.{◌-◌}
use Rattle.tool_words.proofs.plain_word.Given as goal

abbrev pub decreases-loop-i : goal.decreases-loop-i
decreases-loop-i l = l.count - l.i
