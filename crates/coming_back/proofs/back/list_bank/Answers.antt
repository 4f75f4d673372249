-- `list_bank`: a bank whose wave differs goes after those listed.
use Rattle.checkpoints.proofs.Listing.{listed_same, listed_other}
use Rattle.coming_back.proofs.back.list_bank.Goals as goal

pub returns-then-old-at : goal.returns-then-old-at
returns-then-old-at c = λ was h. listed_same _ _ _ was _ _ h (rw c.from-at.ensures at c.if-old-at.true)

pub returns : goal.returns
returns c =
    let differs = rw c.from-at.ensures at c.if-old-at.false in
    λ was h. rw c.from-next.ensures (listed_other _ _ _ was _ _ h differs c.requires.room.0)
