-- What `read_digits` answers.
use Rattle.std.specs.Prelude.{Option, Some, None, cond, List, ℕ}
use Rattle.text.specs.Numbers.{digits, value_from}

-- what digits read as
unfoldable pub digits_value : List ℕ → Option ℕ
digits_value p = cond (digits p) (Some (value_from 0 p)) None
