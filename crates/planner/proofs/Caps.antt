-- The cap of a pass over entries: opening gives 24, and an entry keeps it.
use mathlib.Core.Path.{◌≡◌, refl}
use Prim.Native.Nat.{ℕ}
use Rattle.rule.specs.declared.Kind.{Kind}
use Rattle.rule.specs.declared.Entry.{Entry}
use Rattle.rule.specs.declared.Entry.TheVariants.{Clash, Rank}
use Rattle.memory.specs.Plan.{tally_of}
use Rattle.memory.specs.Memory.{Memory}
use Rattle.planner.specs.Calls.{accepted}
use Rattle.planner.specs.States.{State, make, set_rank, enter, begin}

-- the cap in the state's tally
abbrev pub cap_of : State → ℕ
cap_of s = s.memory.tally.cap

pub begin_cap : (n : ℕ) (m : Memory) → cap_of (begin n m) ≡ 24
unfolding begin tally_of
begin_cap n m = refl

pub make_cap : (k : Kind) (a b : ℕ) (s : State) → cap_of (make k a b s) ≡ cap_of s
unfolding make accepted tally_of
make_cap k a b s = refl

pub enter_cap : (e : Entry) (s : State) → cap_of (enter e s) ≡ cap_of s
unfolding enter set_rank tally_of
enter_cap (Clash k a b) s = make_cap k a.0 b.0 s
enter_cap (Rank b r) s = refl
