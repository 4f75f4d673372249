-- `wave_of_bank` and `lowest_free_wave` call each other: the laws of `Search` at each step.
use native.Mathlib.Omega.{arith}
use Prim.Native.Nat.{◌<◌}
use mathlib.Core.Path.{◌≡◌, sym, ◌∙◌}
use lib.ListN.{get_or}
use Rattle.direct_rule.proofs.Search as Search
use Rattle.direct_rule.proofs.+lowest_free_wave_wave_of_bank.Goals as goal
use Rattle.direct_rule.proofs.+lowest_free_wave_wave_of_bank.Goals.{lowest_free_wave-then-sooner, lowest_free_wave-else-sooner}

pub lowest_free_wave-bounds-degrees-at : goal.lowest_free_wave-bounds-degrees-at
lowest_free_wave-bounds-degrees-at t c =
    let r = c.requires in
    omega (arith, c.from-at.ensures, (Search.can_count r).bank, (Search.can_count r).most, (Search.can_count r).long_degrees)

pub lowest_free_wave-loop-i-init : goal.lowest_free_wave-loop-i-init
lowest_free_wave-loop-i-init t c = Search.none_held c.requires

pub lowest_free_wave-bounds-neighbours-start : goal.lowest_free_wave-bounds-neighbours-start
lowest_free_wave-bounds-neighbours-start t c =
    let r = c.requires in
    let k = Search.can_count r in
    omega (arith, c.from-at.ensures, k.bank, k.few, k.most, k.long_neighbours, rw c.from-at.ensures at c.from-degree.ensures)

pub lowest_free_wave-is_earlier-sooner-requires : goal.lowest_free_wave-is_earlier-sooner-requires
lowest_free_wave-is_earlier-sooner-requires t c =
    let r = c.requires in
    let v = Search.named r {i = c.loop-i.i} (omega (arith, rw c.from-at.ensures at c.from-degree.ensures)) in
    let d = (Search.can_count r).long_degrees in
    let k = (Search.can_count r).long_ranks in
    let own = r.bank in
    record { have_degrees = (rw c.from-at.ensures (omega arith), omega arith); have_ranks = (rw c.from-at.ensures (omega arith), omega arith) }

pub lowest_free_wave-wave_of_bank-w-requires : goal.lowest_free_wave-wave_of_bank-w-requires
lowest_free_wave-wave_of_bank-w-requires t c =
    let r = c.requires in
    let lt : c.loop-i.i < get_or c.args.degrees.now c.args.b.0 0 = omega (arith, rw c.from-at.ensures at c.from-degree.ensures) in
    let low = Search.falls r lt (rw c.from-at.ensures at (sym c.is_earlier-sooner.ensures ∙ c.if-sooner.true)) in
    (rw c.from-at.ensures (omega (arith, c.decreases, low)), rw c.from-at.ensures (Search.again r lt))

pub lowest_free_wave-bounds-held-from : goal.lowest_free_wave-bounds-held-from
lowest_free_wave-bounds-held-from t c =
    let lt : c.loop-i.i < get_or c.args.degrees.now c.args.b.0 0 = omega (arith, rw c.from-at.ensures at c.from-degree.ensures) in
    Search.named_small c.requires lt (rw c.from-at.ensures at (c.from.ensures ∙ c.wave_of_bank-w.ensures))

pub lowest_free_wave-overflow_add-held : goal.lowest_free_wave-overflow_add-held
lowest_free_wave-overflow_add-held t c =
    let r = c.requires in
    let lt : c.loop-i.i < get_or c.args.degrees.now c.args.b.0 0 = omega (arith, rw c.from-at.ensures at c.from-degree.ensures) in
    let w = Search.named_small r lt (rw c.from-at.ensures at (c.from.ensures ∙ c.wave_of_bank-w.ensures)) in
    omega (arith, Search.held_few r lt c.loop-i.invariant c.from.result w)

pub lowest_free_wave-bounds-held-from-then-sooner : goal.lowest_free_wave-bounds-held-from-then-sooner
lowest_free_wave-bounds-held-from-then-sooner t c =
    let lt : c.loop-i.i < get_or c.args.degrees.now c.args.b.0 0 = omega (arith, rw c.from-at.ensures at c.from-degree.ensures) in
    Search.named_small c.requires lt (rw c.from-at.ensures at (c.from.ensures ∙ c.wave_of_bank-w.ensures))

pub lowest_free_wave-loop-i-preserved : goal.lowest_free_wave-loop-i-preserved
lowest_free_wave-loop-i-preserved t c =
    let r = c.requires in
    let lt : c.loop-i.i < get_or c.args.degrees.now c.args.b.0 0 = omega (arith, rw c.from-at.ensures at c.from-degree.ensures) in
    let so = c.loop-i.invariant in
    let order = rw c.from-at.ensures at (sym c.is_earlier-sooner.ensures) in
    elim c.if-sooner.branch [
      | lowest_free_wave-then-sooner w ↦
          rw w.held-is (Search.taken r lt so (order ∙ w.if-sooner.true) (rw c.from-at.ensures at (w.from.ensures ∙ w.wave_of_bank-w.ensures)))
      | lowest_free_wave-else-sooner w ↦ rw w.held-is (Search.passed r lt so (order ∙ w.if-sooner.false))
    ]

pub lowest_free_wave-first_free-requires : goal.lowest_free_wave-first_free-requires
lowest_free_wave-first_free-requires t c =
    let all : c.loop-i.i ≡ get_or c.args.degrees.now c.args.b.0 0 = omega (arith, rw c.from-at.ensures at c.from-degree.ensures) in
    Search.some_free c.requires (rw all at c.loop-i.invariant)

pub lowest_free_wave-returns : goal.lowest_free_wave-returns
lowest_free_wave-returns t c =
    let all : c.loop-i.i ≡ get_or c.args.degrees.now c.args.b.0 0 = omega (arith, rw c.from-at.ensures at c.from-degree.ensures) in
    Search.free_rule c.requires (rw all at c.loop-i.invariant) c.first_free.ensures

pub wave_of_bank-lowest_free_wave-requires : goal.wave_of_bank-lowest_free_wave-requires
wave_of_bank-lowest_free_wave-requires t c = (omega (arith, c.decreases), c.requires)
