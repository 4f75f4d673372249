-- The lines that the program agree prints of a sheet (02, N14).
use Rattle.std.specs.Prelude.{Bool, true, false, cond, List, [], ◌∷◌, ◌++◌, ℕ, eqb, get_or}
use Rattle.wave_lines.specs.Lines.{letters}
use Rattle.list_program.specs.Answers.{named}

-- a number between two texts
unfoldable pub numbered : List ℕ → ℕ → List ℕ → List ℕ
numbered text x after = named text x ++ after

-- `ACCEPTED`, and `the planner's own sheet` or `not the planner's own sheet`
unfoldable pub accepted_text : Bool → List ℕ
accepted_text true =
    65 ∷ 67 ∷ 67 ∷ 69 ∷ 80 ∷ 84 ∷ 69 ∷ 68 ∷ 10 ∷
    116 ∷ 104 ∷ 101 ∷ 32 ∷ 112 ∷ 108 ∷ 97 ∷ 110 ∷ 110 ∷ 101 ∷ 114 ∷ 39 ∷ 115 ∷ 32 ∷ 111 ∷ 119 ∷ 110 ∷ 32 ∷ 115 ∷ 104 ∷ 101 ∷ 101 ∷ 116 ∷ 10 ∷ []
accepted_text false =
    65 ∷ 67 ∷ 67 ∷ 69 ∷ 80 ∷ 84 ∷ 69 ∷ 68 ∷ 10 ∷ 110 ∷ 111 ∷ 116 ∷ 32 ∷
    116 ∷ 104 ∷ 101 ∷ 32 ∷ 112 ∷ 108 ∷ 97 ∷ 110 ∷ 110 ∷ 101 ∷ 114 ∷ 39 ∷ 115 ∷ 32 ∷ 111 ∷ 119 ∷ 110 ∷ 32 ∷ 115 ∷ 104 ∷ 101 ∷ 101 ∷ 116 ∷ 10 ∷ []

-- `REFUSED 26 line l`
abbrev pub no_sheet_text : ℕ → List ℕ
no_sheet_text l = numbered (82 ∷ 69 ∷ 70 ∷ 85 ∷ 83 ∷ 69 ∷ 68 ∷ 32 ∷ 50 ∷ 54 ∷ 32 ∷ 108 ∷ 105 ∷ 110 ∷ 101 ∷ 32 ∷ []) l (10 ∷ [])

-- `REFUSED 27 more than k waves`
abbrev pub many_text : ℕ → List ℕ
many_text k =
    numbered
    (82 ∷ 69 ∷ 70 ∷ 85 ∷ 83 ∷ 69 ∷ 68 ∷ 32 ∷ 50 ∷ 55 ∷ 32 ∷ 109 ∷ 111 ∷ 114 ∷ 101 ∷ 32 ∷ 116 ∷ 104 ∷ 97 ∷ 110 ∷ 32 ∷ [])
    k
    (32 ∷ 119 ∷ 97 ∷ 118 ∷ 101 ∷ 115 ∷ 10 ∷ [])

-- `REFUSED 27 banks a and b clash in wave x`, the letter of wave w
unfoldable pub clash_text : ℕ → ℕ → ℕ → List ℕ
clash_text a b w =
    numbered (82 ∷ 69 ∷ 70 ∷ 85 ∷ 83 ∷ 69 ∷ 68 ∷ 32 ∷ 50 ∷ 55 ∷ 32 ∷ 98 ∷ 97 ∷ 110 ∷ 107 ∷ 115 ∷ 32 ∷ []) a (32 ∷ 97 ∷ 110 ∷ 100 ∷ [])
    ++ (numbered (32 ∷ []) b (32 ∷ 99 ∷ 108 ∷ 97 ∷ 115 ∷ 104 ∷ 32 ∷ 105 ∷ 110 ∷ 32 ∷ 119 ∷ 97 ∷ 118 ∷ 101 ∷ 32 ∷ [])
    ++ (get_or letters w 0 ∷ 10 ∷ []))

-- two banks that clash in wave w; or, where they are one bank, more than k waves
unfoldable pub waves_text : ℕ → ℕ → ℕ → ℕ → List ℕ
waves_text a b w k = cond (eqb a b) (many_text k) (clash_text a b w)
