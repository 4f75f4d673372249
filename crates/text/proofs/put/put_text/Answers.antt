-- The written part holds the text.
use mathlib.Core.Path.{refl}
use Rattle.text.proofs.Putting.{puts_part}
use Rattle.text.proofs.put.put_text.Goals as goal

pub returns : goal.returns
returns c = rw c.copy_from_slice.ensures.after (puts_part c.args.text.now c.args.at _ c.args.out.now refl)
