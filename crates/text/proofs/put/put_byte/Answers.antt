-- `put_byte` meets its contract: the one store.
use Rattle.text.proofs.Putting.{puts_one}
use Rattle.text.proofs.put.put_byte.Goals as goal

pub returns : goal.returns
returns c = puts_one _ _ _ c.requires
