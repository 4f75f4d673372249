-- What the theorems on a journal's bytes speak of: bytes, and entries whose numbers are small.
use Rattle.std.specs.Prelude.{true, List, [], ◌∷◌, ◌≡◌, ℕ, ◌<◌, get_or}
use Rattle.rule.specs.declared.Entry.{Entry}
use Rattle.journal_fields.specs.Fields.{first_in, second_in, rank_fits}

-- each is below 256
abbrev pub AreBytes : List ℕ → Type 0
AreBytes bytes = (i : ℕ) → get_or bytes i 0 < 256

-- the numbers of an entry, and of entries, are below k: banks, and ranks too
abbrev pub Below : ℕ → Entry → Type 0
Below k e = (first_in e < k) × (second_in e < k)

abbrev pub AllBelow : ℕ → List Entry → Type 0
AllBelow k [] = Unit {0}
AllBelow k (e ∷ es) = Below k e × AllBelow k es

-- the ranks of entries are at most 9,999
abbrev pub RanksFit : List Entry → Type 0
RanksFit [] = Unit {0}
RanksFit (e ∷ es) = (rank_fits e ≡ true) × RanksFit es
