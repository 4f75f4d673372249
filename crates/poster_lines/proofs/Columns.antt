-- Banks in their columns, and lines to their end: how long they are, and one more of them.
use mathlib.Core.List.{List, [], ◌∷◌, ◌++◌, map, append-nil}
use mathlib.Core.Path.{◌≡◌, refl, sym, ap, ◌∙◌}
use Prim.Native.Nat.{ℕ, ◌+◌, ◌*◌, ◌-◌, ◌≤◌, ◌<◌}
use native.Mathlib.Omega.{arith}
use lib.ListN.{length, get_or, take, replicate, length-append, length-replicate, replicate-append-replicate}
use lib.Seq.{take-suc, length-take-le}
use native.Mathlib.Numerals.{add-one}
use Rattle.rule.proofs.Lists.{in_head, in_tail}
use Rattle.memory.proofs.Fronts.{take_next, in_take}
use Rattle.text.specs.Text.{joined}
use Rattle.text.specs.Numbers.{decimal}
use Rattle.text.specs.Places.{Puts}
use Rattle.text.proofs.Decimal.{few_digits}
use Rattle.text.proofs.Putting.{puts_then, puts_three}
use Rattle.text.proofs.Joined.{joined_append, texts_append}
use Rattle.poster_lines.specs.Poster.{right_aligned, padded, poster_line}
use Rattle.poster_lines.specs.inner.Lines.{Small}
use Rattle.poster_lines.proofs.Each.{Each, each_at, each_take, each_replicate}

pub length_spaces : (n : ℕ) → length {A = ℕ} (replicate n 32) ≡ n
length_spaces n = length-replicate n 32

pub length_aligned : (b : ℕ) → b < 1024 → length (right_aligned b) ≡ 5
unfolding right_aligned
length_aligned b h =
    let spaces : List ℕ = replicate (5 - length (decimal b)) 32 in
    omega (arith, few_digits 3 b (omega arith), length-append spaces (decimal b), length_spaces (5 - length (decimal b)))

pub length_columns : (bs : List ℕ) → Small bs → length (joined (map right_aligned bs)) ≡ 5 * length bs
unfolding joined
length_columns [] small = refl
length_columns (b ∷ bs) small =
    let one = length-append (right_aligned b) (joined (map right_aligned bs)) in
    omega (arith, length_aligned b (small b (in_head b b bs refl)), length_columns bs (λ x m. small x (in_tail x b bs m)))

pub length_end : (used : ℕ) → length {A = ℕ} (replicate (40 - used) 32 ++ (10 ∷ [])) ≡ 40 - used + 1
length_end used = length-append {A = ℕ} (replicate (40 - used) 32) (10 ∷ []) ∙ ap (λ (n : ℕ). n + 1) (length_spaces (40 - used))

pub length_padded : (text : List ℕ) → length text ≤ 40 → length (padded text) ≡ 41
unfolding padded
length_padded text h =
    omega (arith, length-append text (replicate (40 - length text) 32 ++ (10 ∷ [])), length_end (length text))

pub length_line : (mark : ℕ) (bs : List ℕ) → Small bs → length bs ≤ 7 → length (poster_line mark bs) ≡ 41
unfolding poster_line
length_line mark bs small few =
    length_padded (mark ∷ 32 ∷ joined (map right_aligned bs)) (omega (arith, length_columns bs small))

-- a line in its parts
pub puts_line : (mark : ℕ) (bs : List ℕ) → Small bs → length bs ≤ 7 → (at : ℕ) (out : List ℕ) → at + 41 ≤ length out
    → (r₁ r₂ r₃ r₄ : ℕ) (out₁ out₂ out₃ out₄ : List ℕ) → length out₁ ≡ length out
    → Puts (mark ∷ []) at out r₁ out₁ → Puts (32 ∷ []) r₁ out₁ r₂ out₂ → Puts (joined (map right_aligned bs)) r₂ out₂ r₃ out₃
    → Puts (replicate (40 - (r₃ - at)) 32 ++ (10 ∷ [])) r₃ out₃ r₄ out₄ → Puts (poster_line mark bs) at out r₄ out₄
unfolding poster_line padded
puts_line mark bs small few at out room r₁ r₂ r₃ r₄ out₁ out₂ out₃ out₄ same p₁ p₂ p₃ p₄ =
    let columns : List ℕ = joined (map right_aligned bs) in
    let long : length columns ≡ 5 * length bs = length_columns bs small in
    let start = puts_three (mark ∷ []) (32 ∷ []) columns at out (omega arith) r₁ r₂ r₃ out₁ out₂ out₃ same p₁ p₂ p₃ in
    let used : r₃ - at ≡ length (mark ∷ 32 ∷ columns) = omega (arith, start.next) in
    let text : List ℕ = mark ∷ 32 ∷ columns in
    puts_then text (replicate (40 - length text) 32 ++ (10 ∷ [])) at out (omega (arith, length_end (length text))) r₃ r₄ out₃ out₄ start (rw used at p₄)

-- one more of the same
pub replicate_next : {A : Type 0} (n : ℕ) (a : A) → replicate (n + 1) a ≡ replicate n a ++ (a ∷ [])
replicate_next n a = sym (replicate-append-replicate n 1 a)

-- the banks before place i, and that of place i
pub columns_next : (bs : List ℕ) (i : ℕ) → i < length bs
    → joined (map right_aligned (take (i + 1) bs)) ≡ joined (map right_aligned (take i bs)) ++ right_aligned (get_or bs i 0)
unfolding joined
columns_next bs i h =
    ap (λ (l : List ℕ). joined (map right_aligned l)) (take_next i bs h)
    ∙ texts_append right_aligned (take i bs) (get_or bs i 0 ∷ [])
    ∙ ap (λ (l : List ℕ). joined (map right_aligned (take i bs)) ++ l) (append-nil (right_aligned (get_or bs i 0)))

pub no_columns : joined (map right_aligned []) ≡ []
unfolding joined
no_columns = refl

-- the first i banks have 5 i columns
pub columns_before-law : (bs : List ℕ) → Small bs → (i : ℕ) → i ≤ length bs → length (joined (map right_aligned (take i bs))) ≡ 5 * i
columns_before-law bs small i h =
    omega (arith, length_columns (take i bs) (λ b m. small b (in_take i bs b m)), length-take-le i bs h)

-- lines of 41 bytes
pub length_rows : (ls : List (List ℕ)) → Each (λ l. length l ≡ 41) ls → length (joined ls) ≡ 41 * length ls
unfolding joined
length_rows [] e = refl
length_rows (l ∷ ls) e = omega (arith, length-append l (joined ls), e.0, length_rows ls e.1)

-- where there is room for all lines, there is for line i
pub lines_room : (ls : List (List ℕ)) (i : ℕ) → i < length ls → Each (λ l. length l ≡ 41) ls
    → (length (get_or ls i []) ≡ 41) × (length (joined (take i ls)) + 41 ≤ length (joined ls))
lines_room ls i h e =
    let at-line = each_at (λ l. length l ≡ 41) [] ls i e h in
    let before = length_rows (take i ls) (each_take (λ l. length l ≡ 41) i ls e) in
    (at-line, omega (arith, length_rows ls e, length-take-le i ls (omega arith)))

pub no_lines : (ls : List (List ℕ)) → joined (take 0 ls) ≡ []
unfolding joined
no_lines ls = refl

-- the lines before line i, and line i
pub lines_next : (ls : List (List ℕ)) (i : ℕ) → i < length ls → joined (take (i + 1) ls) ≡ joined (take i ls) ++ get_or ls i []
unfolding joined
lines_next ls i h =
    ap (λ (n : ℕ). joined (take n ls)) (add-one i)
    ∙ ap joined (take-suc ls i [] h)
    ∙ joined_append (take i ls) (get_or ls i [] ∷ [])
    ∙ ap (λ (l : List ℕ). joined (take i ls) ++ l) (append-nil (get_or ls i []))

-- one line more of the same
pub blanks_next : (n : ℕ) (text : List ℕ) → joined (replicate (n + 1) text) ≡ joined (replicate n text) ++ text
unfolding joined
blanks_next n text =
    ap joined (replicate_next n text)
    ∙ joined_append (replicate n text) (text ∷ [])
    ∙ ap (λ (l : List ℕ). joined (replicate n text) ++ l) (append-nil text)

pub no_blanks : joined (replicate 0 (padded [])) ≡ []
unfolding joined
no_blanks = refl

pub blank_is : padded [] ≡ replicate (40 - 0) 32 ++ (10 ∷ [])
unfolding padded
blank_is = refl

pub length_blank : length (padded []) ≡ 41
length_blank = length_padded [] (omega arith)

pub length_blanks : (n : ℕ) → length (joined (replicate n (padded []))) ≡ 41 * n
length_blanks n =
    let rows = length_rows (replicate n (padded [])) (each_replicate (λ l. length l ≡ 41) (padded []) length_blank n) in
    omega (arith, length-replicate n (padded []))
