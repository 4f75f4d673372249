-- An earlier neighbour with its letter, and nothing for a later one.
use Rattle.doubt_lines.proofs.Answers.{read_straight, straight_letter}
use Rattle.doubt_lines.proofs.Lines.{celled, link_later, link_earlier}
use Rattle.planner.proofs.Numbers.{number_plan}
use Rattle.text.proofs.Putting.{puts_none}
use native.Mathlib.Omega.{arith}
use Rattle.doubt_lines.proofs.line.put_link.Goals as goal

pub is_earlier-requires : goal.is_earlier-requires
is_earlier-requires c =
    let v = celled _ _ (number_plan _ _ c.requires.held) c.args.v.0 c.requires.are_banks.0 in
    let b = celled _ _ (number_plan _ _ c.requires.held) c.args.b.0 c.requires.are_banks.1 in
    record {
      have_degrees = (omega (arith, v.0, b.0), omega (arith, v.0, b.0));
      have_ranks = (omega (arith, v.1, b.1), omega (arith, v.1, b.1));
    }

pub returns-then-not-is_earlier : goal.returns-then-not-is_earlier
returns-then-not-is_earlier c =
    rw (link_later _ _ (number_plan _ _ c.requires.held) _ _ c.requires.are_banks.0 c.requires.are_banks.1 c.is_earlier.ensures c.if-not-is_earlier.true) (puts_none _ _)

pub rule_wave_held-requires : goal.rule_wave_held-requires
rule_wave_held-requires c =
    let banks = c.requires.are_banks in record { plan = (number_plan _ _ c.requires.held, omega (arith, banks.0, banks.1)); few = c.requires.few }

pub put_from-requires : goal.put_from-requires
put_from-requires c =
    let banks = c.requires.are_banks in
    let read = read_straight _ _ _ c.rule_wave_held.ensures c.requires.held c.requires.few (omega (arith, banks.0, banks.1)) in
    (straight_letter _ _ _ read, c.requires.room)

pub returns : goal.returns
returns c =
    let banks = c.requires.are_banks in
    let read = read_straight _ _ _ c.rule_wave_held.ensures c.requires.held c.requires.few (omega (arith, banks.0, banks.1)) in
    let put = rw read at c.put_from.ensures in
    rw (link_earlier _ _ (number_plan _ _ c.requires.held) _ _ c.requires.are_banks.0 c.requires.are_banks.1 c.is_earlier.ensures c.if-not-is_earlier.false) put
