-- By what is asked.
use Rattle.crew_lines.specs.Plans.{plan_text}
use Rattle.crew_lines.proofs.plan.put_plan.Goals as goal

pub returns-in-Couriers : goal.returns-in-Couriers
unfolding plan_text
returns-in-Couriers c = rw c.in-Couriers.is c.put_day.ensures

pub returns-in-Within : goal.returns-in-Within
unfolding plan_text
returns-in-Within c = rw c.in-Within.is c.put_within.ensures
