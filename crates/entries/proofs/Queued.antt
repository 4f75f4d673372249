-- The queue as entries come: ranks change only as long as it has read none.
use mathlib.Core.Bool.{Bool, true, false}
use mathlib.Core.List.{List}
use mathlib.Core.Path.{◌≡◌, refl, subst}
use Prim.Native.Nat.{ℕ}
use lib.Dec.{T}
use Rattle.rule.specs.declared.Bank.{Bank}
use Rattle.rule.specs.declared.Kind.{Kind}
use Rattle.rule.specs.declared.Entry.{Entry}
use Rattle.rule.specs.declared.Entry.TheVariants.{Clash, Rank}
use Rattle.memory.specs.declared.Tally.{Tally}
use Rattle.queue.specs.Queue.{Idle, Unranked}
use Rattle.queue.proofs.Queues.{reranked}
use Rattle.planner.specs.declared.Edited.{Edited}
use Rattle.planner.specs.Questions.{first_no}
use Rattle.planner.specs.States.{begun_by}
use Rattle.planner.specs.inner.Held.{ranks_by, RankDone}

-- an idle queue is one after a rank too
pub idle_ranked : (begun : Bool) {b r : ℕ} {t : Tally} {rs rs' words : List ℕ} {e : Edited}
    → RankDone begun b r t rs rs' e → Idle t.banks rs words → (begun ≡ false → Unranked words) → Idle t.banks rs' words
unfolding first_no ranks_by
idle_ranked true done idle plain = rw done.ranks idle
idle_ranked false {rs' = rs'} done idle plain = reranked idle (plain refl) rs'

-- after a clash an edit has come, and after a rank none has unless one had
pub clash_begun : {e : Entry} {k : Kind} {a b : Bank} (begun : Bool) → e ≡ Clash k a b → begun_by e begun ≡ false → ⊥
unfolding begun_by
clash_begun begun is f = subst T (rw is at f) tt

pub rank_begun : {e : Entry} {b : Bank} {r : ℕ} (begun : Bool) → e ≡ Rank b r → begun_by e begun ≡ false → begun ≡ false
unfolding begun_by
rank_begun begun is f = rw is at f
