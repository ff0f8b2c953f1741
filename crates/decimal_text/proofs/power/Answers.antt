-- `power` shifts a one.
use Rattle.decimal_text.proofs.Sizes.{shifted_one}
use Rattle.decimal_text.proofs.power.Goals as goal

pub returns : goal.returns
returns c = shifted_one c.args.n c.requires
