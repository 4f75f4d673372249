-- Lists cut into pieces, and the lines of the pieces.
use mathlib.Core.List.{List, [], ◌∷◌, ◌++◌}
use mathlib.Core.Logic.{inl, inr}
use mathlib.Core.Path.{◌≡◌, refl, sym, ap, ap₂, ◌∙◌}
use Prim.Native.Nat.{ℕ, zero, suc, ◌+◌, ◌*◌, ◌-◌, ◌/◌, ◌≤◌, ◌<◌, min}
use native.Mathlib.Omega.{arith}
use lib.ListN.{length, get_or, take, drop, length-take, length-drop, take-append-drop}
use lib.Seq.{drop-drop, take_at, drop_at, take_all}
use Rattle.rule.proofs.Booleans.{lt_or_ge}
use Rattle.memory.proofs.Fronts.{in_take, in_drop}
use Rattle.text.specs.Text.{joined}
use Rattle.wave_lines.specs.Lines.{letters}
use Rattle.poster_lines.specs.Poster.{pieces, sevens, poster_line, marked}
use Rattle.poster_lines.specs.inner.Lines.{Small, mark_at, lines_with}
use Rattle.poster_lines.proofs.Each.{Each}
use Rattle.poster_lines.proofs.Columns.{length_line}

-- the mark of a wave's lines
module _ (letter i : ℕ) where
  pub mark_first : i ≡ 0 → mark_at letter i ≡ letter
  unfolding mark_at
  mark_first e = rw e

  pub mark_later : (i ≡ 0 → ⊥) → mark_at letter i ≡ 32
  mark_later n = go i n
    where
      go : (i : ℕ) → (i ≡ 0 → ⊥) → mark_at letter i ≡ 32
      go zero n = absurd (n refl)
      go (suc i) n = unfold mark_at in refl

pub length_pieces : {A : Type 0} (count size : ℕ) (xs : List A) → length (pieces count size xs) ≡ count
unfolding pieces
length_pieces zero size xs = refl
length_pieces (suc count) size xs = ap suc (length_pieces count size (drop size xs))

-- lists of one length, put together and cut again
pub pieces_joined : (size : ℕ) (ls : List (List ℕ)) → Each (λ l. length l ≡ size) ls → pieces (length ls) size (joined ls) ≡ ls
unfolding pieces joined
pieces_joined size [] e = refl
pieces_joined size (l ∷ ls) e =
    ap₂ ◌∷◌ (take_at l (joined ls) size e.0) (ap (pieces (length ls) size) (drop_at l (joined ls) size e.0) ∙ pieces_joined size ls e.1)

-- seven for each line
sevens_in : (count : ℕ) (bs : List ℕ) → length bs ≤ 7 * count → joined (pieces count 7 bs) ≡ bs
unfolding pieces joined
sevens_in zero [] h = refl
sevens_in zero (b ∷ bs) h = absurd (omega arith)
sevens_in (suc count) bs h =
    ap (λ (l : List ℕ). take 7 bs ++ l) (sevens_in count (drop 7 bs) (omega (arith, length-drop 7 bs))) ∙ take-append-drop 7 bs

pub length_sevens : (bs : List ℕ) → length (sevens bs) ≡ (length bs + 6) / 7
unfolding sevens
length_sevens bs = length_pieces ((length bs + 6) / 7) 7 bs

pub sevens_joined : (bs : List ℕ) → joined (sevens bs) ≡ bs
unfolding sevens
sevens_joined bs = sevens_in ((length bs + 6) / 7) bs (omega arith)

seven_at : (count : ℕ) (bs : List ℕ) (i : ℕ) → i < count → get_or (pieces count 7 bs) i [] ≡ take 7 (drop (7 * i) bs)
unfolding pieces
seven_at zero bs i h = absurd (omega arith)
seven_at (suc count) bs zero h = refl
seven_at (suc count) bs (suc i) h =
    let e : 7 + 7 * i ≡ 7 * suc i = omega arith in
    seven_at count (drop 7 bs) i (omega arith) ∙ ap (take 7) (drop-drop (7 * i) 7 bs ∙ ap (λ (n : ℕ). drop n bs) e)

-- banks that a line can have
abbrev pub Fits : List ℕ → Type 0
Fits bs = Small bs × (length bs ≤ 7)

sevens_fit : (count : ℕ) (bs : List ℕ) → Small bs → Each Fits (pieces count 7 bs)
unfolding pieces
sevens_fit zero bs small = tt
sevens_fit (suc count) bs small =
    ((λ b m. small b (in_take 7 bs b m), omega (arith, length-take 7 bs)), sevens_fit count (drop 7 bs) (λ b m. small b (in_drop 7 bs b m)))

pub each_fits : (bs : List ℕ) → Small bs → Each Fits (sevens bs)
unfolding sevens
each_fits bs small = sevens_fit ((length bs + 6) / 7) bs small

pub length_marked : (mark : ℕ) (ps : List (List ℕ)) → length (marked mark ps) ≡ length ps
unfolding marked
length_marked mark [] = refl
length_marked mark (p ∷ ps) = ap suc (length_marked 32 ps)

rows_long : (mark : ℕ) (ps : List (List ℕ)) → Each Fits ps → Each (λ l. length l ≡ 41) (marked mark ps)
unfolding marked
rows_long mark [] e = tt
rows_long mark (p ∷ ps) e = (length_line mark p e.0.0 e.0.1, rows_long 32 ps e.1)

marked_at : (mark : ℕ) (ps : List (List ℕ)) (i : ℕ) → i < length ps → get_or (marked mark ps) i [] ≡ poster_line (mark_at mark i) (get_or ps i [])
unfolding marked mark_at
marked_at mark [] i h = absurd (omega arith)
marked_at mark (p ∷ ps) zero h = refl
marked_at mark (p ∷ ps) (suc i) h = marked_at 32 ps i (omega arith) ∙ ap (λ (m : ℕ). poster_line m (get_or ps i [])) (continues i)
  where
    continues : (i : ℕ) → mark_at 32 i ≡ 32
    continues zero = refl
    continues (suc i) = refl

-- the lines of a wave
module _ (c : ℕ) (bs : List ℕ) where
  pub length_lines : length (lines_with c bs) ≡ (length bs + 6) / 7
  unfolding lines_with
  length_lines = length_marked (get_or letters c 0) (sevens bs) ∙ length_sevens bs

  pub line_at : (i : ℕ) → 7 * i < length bs → get_or (lines_with c bs) i [] ≡ poster_line (mark_at (get_or letters c 0) i) (take 7 (drop (7 * i) bs))
  unfolding lines_with sevens
  line_at i h =
      let count : ℕ = (length bs + 6) / 7 in
      marked_at (get_or letters c 0) (pieces count 7 bs) i (omega (arith, length_pieces count 7 bs))
      ∙ ap (poster_line (mark_at (get_or letters c 0) i)) (seven_at count bs i (omega arith))

  pub wave_rows : Small bs → Each (λ l. length l ≡ 41) (lines_with c bs)
  unfolding lines_with
  wave_rows small = rows_long (get_or letters c 0) (sevens bs) (each_fits bs small)

-- the banks of line i as a part of all
pub part_fits : (bs : List ℕ) (from to : ℕ) → Small bs → to ≡ min (from + 7) (length bs) → Fits (take (to - from) (drop from bs))
part_fits bs from to small e =
    (λ b m. small b (in_drop from bs b (in_take (to - from) (drop from bs) b m)), omega (arith, length-take (to - from) (drop from bs)))

pub part_at : (bs : List ℕ) (i to : ℕ) → to ≡ min (7 * i + 7) (length bs) → take 7 (drop (7 * i) bs) ≡ take (to - 7 * i) (drop (7 * i) bs)
part_at bs i to e =
    elim (lt_or_ge (7 * i + 7) (length bs)) [
      | inl l ↦ let k : 7 ≡ to - 7 * i = omega arith in ap (λ (n : ℕ). take n (drop (7 * i) bs)) k
      | inr g ↦
          let long = length-drop (7 * i) bs in
          take_all 7 (drop (7 * i) bs) (omega arith) ∙ sym (take_all (to - 7 * i) (drop (7 * i) bs) (omega arith))
    ]
