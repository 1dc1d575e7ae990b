-- `put_word` meets its contract. Assumes nothing.
use mathlib.Core.Path.{refl}
use Rattle.output.proofs.Buffers.{put_slice}
use Rattle.print_words.proofs.Emitted.{ends_emits}
use Rattle.print_words.proofs.put_word.Goals as goal

pub returns : goal.returns
returns c =
    ends_emits c.args.text.now c.args.from c.args.class _ c.requires.begun c.word_end-end.ensures c.requires.within _ _ c.args.at _ refl (put_slice c.args.text.now _ _ c.put_text.ensures)
