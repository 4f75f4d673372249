-- The questions about a new cap.
use Rattle.std.specs.Prelude.{◌&&◌, [], ◌∷◌, ℕ, leb}
use Rattle.planner.specs.Questions.{◌else◌, first_no}

-- the questions of set_cap about the cap
abbrev pub cap_number : ℕ → ℕ → ℕ
cap_number waves cap = first_no ((leb 1 cap && leb cap 24 else 19) ∷ (leb waves cap else 20) ∷ [])
