-- Each branch is the closed form of the sum.
use Rattle.sheet_writer.proofs.Lengths.{closed_form}
use native.Mathlib.Omega.{arith}
use Rattle.sheet_writer.proofs.sheet.banks_length.Goals as goal

pub returns-in-0-to-10 : goal.returns-in-0-to-10
returns-in-0-to-10 c = closed_form _ _ c.requires (omega arith)

pub returns-in-11-to-100 : goal.returns-in-11-to-100
returns-in-11-to-100 c = closed_form _ _ c.requires (omega arith)

pub returns-in-101-to-1000 : goal.returns-in-101-to-1000
returns-in-101-to-1000 c = closed_form _ _ c.requires (omega arith)

pub returns-in_default : goal.returns-in_default
returns-in_default c = closed_form _ _ c.requires (omega arith)
