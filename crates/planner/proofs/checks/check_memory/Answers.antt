-- `check_memory` meets its contract: each return is one case of `memory_number`.
use Rattle.memory.specs.Lent.{slices_in}
use Rattle.memory.specs.Memory.{memory_of}
use Rattle.planner.proofs.Numbers.{memory_many, trail_short, moved_short, memory_plan, plan_ready}
use Rattle.std.proofs.lemmas.Result.{IfOk-weaker}
use mathlib.Core.Path.{sym, ◌∙◌}
use native.Mathlib.Omega.{arith}
use Rattle.planner.proofs.checks.check_memory.Goals as goal

pub returns-then-n-gt-MOST_BANKS : goal.returns-then-n-gt-MOST_BANKS
returns-then-n-gt-MOST_BANKS c =
    let a = c.args in
    let m = memory_of (slices_in a.plan) a.trail.now a.moved.now a.plan.tally in
    record {
      number = sym (memory_many m (omega arith));
      ready = tt;
    }

pub returns-then-trail-n : goal.returns-then-trail-n
returns-then-trail-n c =
    let a = c.args in
    let m = memory_of (slices_in a.plan) a.trail.now a.moved.now a.plan.tally in
    record {
      number = sym (trail_short m (omega arith) (omega arith));
      ready = tt;
    }

pub returns-then-moved-n : goal.returns-then-moved-n
returns-then-moved-n c =
    let a = c.args in
    let m = memory_of (slices_in a.plan) a.trail.now a.moved.now a.plan.tally in
    record {
      number = sym (moved_short m (omega arith) (omega arith) (omega arith));
      ready = tt;
    }

pub returns : goal.returns
returns c =
    let a = c.args in
    let m = memory_of (slices_in a.plan) a.trail.now a.moved.now a.plan.tally in record {
      number = c.check_plan.ensures.number ∙ sym (memory_plan m (omega arith) (omega arith));
      ready = IfOk-weaker c.check_plan.result _ _ (λ _ p. plan_ready m (omega arith) (omega arith) p) c.check_plan.ensures.plan;
    }
