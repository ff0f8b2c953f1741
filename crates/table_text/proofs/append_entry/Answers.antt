-- `append_entry` puts three phrases, one behind the other.
use Rattle.table_text.proofs.Lines.{entry-appended}
use Rattle.table_text.proofs.append_entry.Goals as goal

pub returns : goal.returns
returns c =
    entry-appended c.requires c.args.depth c.args.entry c.plunge_sink-single.result
    c.plunge_sink-single.ensures c.append_phrase-a.ensures
    c.append_phrase-b.ensures c.append_phrase.ensures
