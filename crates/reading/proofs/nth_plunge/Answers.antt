use Rattle.std.specs.Prelude.{is_some}
use mathlib.Core.Path.{ap, ◌∙◌}
use Rattle.geometry.specs.Sizes.{size_of}
use Rattle.fields.specs.Fields.{place}
use Rattle.reading.specs.Reading.{head_in}
use Rattle.reading.proofs.Answers.{plunge-asks, is-plunge, nth-field}
use Rattle.reading.proofs.nth_plunge.Goals as goal

pub unwrap-requires : goal.unwrap-requires
unwrap-requires c =
    let given = c.args in
    ap is_some
    (c.plunge_at.ensures ∙ nth-field given.file.now given.i _ _ _ c.requires.0.head c.size.ensures c.place.ensures
    ∙ is-plunge (size_of (head_in given.file.now)) given.file.now (place (head_in given.file.now) given.i)
    (plunge-asks given.file.now given.i c.requires.0.readable c.requires.1).1)
