-- The lines by the cells of waves and steps, step by step; that they are those of the day; and how long they are.
use mathlib.Core.Bool.{Bool}
use mathlib.Core.Logic.{◌≢◌}
use mathlib.Core.List.{List, [], ◌∷◌, ◌++◌, map, map-append}
use mathlib.Core.Path.{◌≡◌, refl, sym, ap, ap₂, ◌∙◌}
use native.Mathlib.Numerals.{add-one}
use native.Mathlib.Omega.{arith}
use Prim.Native.Nat.{ℕ, zero, suc, ◌+◌, ◌*◌, ◌-◌, ◌≤◌, ◌<◌}
use lib.Dec.{T, eqb}
use lib.ListN.{length, get_or, take, length-append, get_or-append}
use lib.Seq.{length-take-le, get_or-take}
use borrow.Author.Tests.{eq-eqb, ne_eqb}
use Rattle.std.specs.List.{AllWithin, HoldsAt}
use Rattle.std.specs.Option.{unwrap_or}
use Rattle.std.specs.Prelude.{Option, Some, None, MatchOption}
use Rattle.rule.specs.Lists.{upto, filter, memb}
use Rattle.rule.specs.Graph.{Graph}
use Rattle.rule.specs.Wave.{wave}
use Rattle.rule.proofs.Lists.{in_head, upto_below, filter_in, filter_cong, filter_append}
use Rattle.text.specs.Numbers.{decimal}
use Rattle.text.specs.Text.{joined}
use Rattle.text.proofs.Decimal.{few_digits}
use Rattle.text.proofs.Joined.{texts_more, texts_room}
use Rattle.wave_lines.specs.Lines.{letters}
use Rattle.wave_lines.specs.inner.Cells.{members_of}
use Rattle.wave_lines.proofs.Shown.{total, total_append}
use Rattle.sheet_writer.specs.Sheet.{bank_text}
use Rattle.sheet_writer.specs.inner.Cells.{members_text}
use Rattle.crews.specs.Day.{day, step_of}
use Rattle.crew_lines.specs.Lines.{head_text, step_text, lines_from, day_text}
use Rattle.crew_lines.specs.inner.Cells.{lowest_in, step_in, steps_in}
use Rattle.crew_lines.proofs.Days.{served_are, day_total, day_short}

-- the lowest bank of step k: none is below b, or b is the first
module _ (ss : List ℕ) (k : ℕ) where
  abbrev test : ℕ → Bool
  test b = eqb (get_or ss b 0) k

  none_first : members_of ss k 0 ≡ []
  unfolding members_of upto filter
  none_first = refl

  next : (b : ℕ) → members_of ss k (suc b) ≡ members_of ss k b ++ filter test (b ∷ [])
  unfolding members_of upto
  next b = filter_append test (upto b) (b ∷ [])

  none_next : (b : ℕ) → members_of ss k b ≡ [] → (get_or ss b 0 ≡ k → ⊥) → members_of ss k (b + 1) ≡ []
  unfolding filter
  none_next b e d = ap (members_of ss k) (add-one b) ∙ next b ∙ rw (e, ne_eqb (get_or ss b 0) k d)

  -- the first stays the first
  stays : (b d : ℕ) → members_of ss k b ≡ [] → get_or ss b 0 ≡ k
      → (0 < length (members_of ss k (suc b + d))) × (get_or (members_of ss k (suc b + d)) 0 0 ≡ b)
  stays b zero e f = rw (first ∙ next b ∙ one) (omega arith, refl)
    where
      first : members_of ss k (suc b + 0) ≡ members_of ss k (suc b)
      first = ap (members_of ss k) (omega arith)

      one : members_of ss k b ++ filter test (b ∷ []) ≡ b ∷ []
      one = unfold filter in rw (e, eq-eqb (get_or ss b 0) k f)
  stays b (suc d) e f =
      let before = stays b d e f in
      let more : members_of ss k (suc b + suc d) ≡ members_of ss k (suc b + d) ++ filter test ((suc b + d) ∷ []) =
      ap (members_of ss k) (omega arith) ∙ next (suc b + d) in (
        omega (arith, ap length more, length-append (members_of ss k (suc b + d)) (filter test ((suc b + d) ∷ [])), before.0),
        ap (λ (l : List ℕ). get_or l 0 0) more
            ∙ get_or-append (members_of ss k (suc b + d)) (filter test ((suc b + d) ∷ [])) 0 0 before.0
            ∙ before.1,
      )

  lowest_found : (b n : ℕ) → b < n → members_of ss k b ≡ [] → get_or ss b 0 ≡ k → b ≡ lowest_in ss k n
  unfolding lowest_in
  lowest_found b n l e f = sym (rw at_n at (stays b (n - suc b) e f).1)
    where
      at_n : suc b + (n - suc b) ≡ n
      at_n = omega arith

  none_to : (b : ℕ) → ((i : ℕ) → i < b → get_or ss i 0 ≡ k → ⊥) → members_of ss k b ≡ []
  none_to zero h = none_first
  none_to (suc b) h = ap (members_of ss k) (sym (add-one b)) ∙ none_next b (none_to b (λ i l. h i (omega arith))) (h b (omega arith))

  lowest_none : (n : ℕ) → members_of ss k n ≡ [] → 0 ≡ lowest_in ss k n
  unfolding lowest_in
  lowest_none n e = sym (ap (λ (l : List ℕ). get_or l 0 0) e)

  -- the first place of a step in the front of the cells, or none
  abbrev pub FirstPlace : List ℕ → Option ℕ → Type 0
  FirstPlace xs r = MatchOption r (AllWithin (λ x. x ≢ k) xs 0 (length xs)) (λ i. (i < length xs) × HoldsAt (λ x. x ≡ k) xs i × AllWithin (λ x. x ≢ k) xs 0 i)

  pub lowest_is : (n : ℕ) → 0 < n → n ≤ length ss → (r : Option ℕ) → FirstPlace (take n ss) r → (unwrap_or r 0 ≡ lowest_in ss k n) × (unwrap_or r 0 < n)
  lowest_is n some long (Some b) first =
      let low : b < n = omega (arith, first.0, length-take-le n ss long) in
      let below : (i : ℕ) → i < b → get_or ss i 0 ≡ k → ⊥ =
      λ i l e. first.2 i 0 (omega arith) l (get_or-take n ss i 0 (omega arith) ∙ e) in
      (lowest_found b n low (none_to b below) (sym (get_or-take n ss b 0 low) ∙ first.1 0), low)
  lowest_is n some long None none =
      let below : (i : ℕ) → i < n → get_or ss i 0 ≡ k → ⊥ =
      λ i l e. none i 0 (omega arith) (omega (arith, length-take-le n ss long)) (get_or-take n ss i 0 l ∙ e) in
      (lowest_none n (none_to n below), some)

  -- it is one of the banks
  lowest_below : (n : ℕ) → 0 < n → lowest_in ss k n < n
  unfolding lowest_in members_of
  lowest_below n l = go (filter test (upto n)) refl
    where
      go : (bs : List ℕ) → filter test (upto n) ≡ bs → get_or bs 0 0 < n
      go [] e = l
      go (b ∷ bs) e = upto_below n b (filter_in test (upto n) b (rw e (in_head b b bs refl))).0

-- how long they are
pub length_head : (k w : ℕ) → length (head_text k w) ≡ length (decimal k) + 2
unfolding head_text
length_head k w = length-append (decimal k) (32 ∷ get_or letters w 0 ∷ [])

module _ (ws ss : List ℕ) (n k : ℕ) where
  pub length_step : length (step_in ws ss n k) ≡ length (head_text k (get_or ws (lowest_in ss k n) 0)) + (length (members_text ss k n) + 1)
  unfolding step_in
  length_step =
      let head = head_text k (get_or ws (lowest_in ss k n) 0) in
      omega (arith, length-append head (members_text ss k n ++ (10 ∷ [])), length-append (members_text ss k n) (10 ∷ []))

module _ (ws ss : List ℕ) (n i : ℕ) where
  abbrev text : ℕ → List ℕ
  text i = step_in ws ss n (i + 1)

  pub steps_next : steps_in ws ss n (i + 1) ≡ steps_in ws ss n i ++ step_in ws ss n (i + 1)
  unfolding steps_in
  steps_next = texts_more text i

  pub steps_room : (total : ℕ) → i < total → length (steps_in ws ss n i) + length (step_in ws ss n (i + 1)) ≤ length (steps_in ws ss n total)
  unfolding steps_in
  steps_room total l = texts_room text i total l

pub steps_none : (ws ss : List ℕ) (n : ℕ) → steps_in ws ss n 0 ≡ []
unfolding steps_in upto joined
steps_none ws ss n = refl

-- the lines of steps that are counted from k are texts one after the other
upto_front : (f : ℕ → List ℕ) (n : ℕ) → map f (upto (suc n)) ≡ f 0 ∷ map (λ i. f (suc i)) (upto n)
unfolding upto
upto_front f zero = refl
upto_front f (suc n) =
    map-append f (upto (suc n)) (suc n ∷ []) ∙ ap (λ (l : List (List ℕ)). l ++ (f (suc n) ∷ [])) (upto_front f n)
    ∙ ap (λ (l : List (List ℕ)). f 0 ∷ l) (sym (map-append (λ i. f (suc i)) (upto n) (n ∷ [])))

lines_are : (G : Graph) (k : ℕ) (steps : List (List ℕ)) (f : ℕ → List ℕ) → ((i : ℕ) → i < length steps → f i ≡ step_text G (k + i) (get_or steps i []))
    → joined (map f (upto (length steps))) ≡ lines_from G k steps
unfolding joined lines_from
lines_are G k [] f e = unfold upto in refl
lines_are G k (banks ∷ steps) f e =
    let here : f 0 ≡ step_text G k banks = e 0 (omega arith) ∙ ap (λ (j : ℕ). step_text G j banks) (omega arith) in
    ap joined (upto_front f (length steps))
    ∙ ap (λ (l : List ℕ). l ++ joined (map (λ i. f (suc i)) (upto (length steps)))) here
    ∙ ap (λ (l : List ℕ). step_text G k banks ++ l) (lines_are G (suc k) steps (λ i. f (suc i)) later)
  where
    later : (i : ℕ) → i < length steps → f (suc i) ≡ step_text G (suc k + i) (get_or steps i [])
    later i l = e (suc i) (omega arith) ∙ ap (λ (j : ℕ). step_text G j (get_or steps i [])) (omega arith)

-- by the cells of a plan's waves and of the steps of a day
module _ (q : ℕ) (some : 1 ≤ q) (G : Graph) (ws ss : List ℕ) (waves : (b : ℕ) → b < G.banks → get_or ws b 0 ≡ wave G b)
    (steps : (b : ℕ) → b < G.banks → get_or ss b 0 ≡ step_of b (day q G)) where
  abbrev n : ℕ
  n = G.banks

  members_are : (i : ℕ) → members_of ss (i + 1) n ≡ get_or (day q G) i []
  unfolding members_of
  members_are i =
      let tests : (b : ℕ) → T (memb b (upto n)) → eqb (get_or ss b 0) (i + 1) ≡ eqb (step_of b (day q G)) (suc i) =
      λ b m. ap₂ eqb (steps b (upto_below n b m)) (add-one i) in
      filter_cong (λ b. eqb (get_or ss b 0) (i + 1)) (λ b. eqb (step_of b (day q G)) (suc i)) (upto n) tests
      ∙ served_are q some G i

  step_is : (i : ℕ) → i < length (day q G) → step_in ws ss n (i + 1) ≡ step_text G (1 + i) (get_or (day q G) i [])
  unfolding step_in step_text members_text lowest_in
  step_is i l =
      let wave-is = waves (lowest_in ss (i + 1) n) (lowest_below ss (i + 1) n (omega (arith, day_short q G))) in
      let one : i + 1 ≡ 1 + i = omega arith in
      rw (wave-is, members_are i, one)

  pub day_is : steps_in ws ss n (length (day q G)) ≡ day_text q G
  unfolding steps_in day_text
  day_is = lines_are G 1 (day q G) (λ i. step_in ws ss n (i + 1)) step_is

-- the bytes of bank b on its line
size : ℕ → ℕ
size b = length (bank_text b)

texts_total : (bs : List ℕ) → length (joined (map bank_text bs)) ≡ total size bs
unfolding joined total size
texts_total [] = refl
texts_total (b ∷ bs) = omega (arith, length-append (bank_text b) (joined (map bank_text bs)), texts_total bs)

banks_fit : (n : ℕ) → n ≤ 1024 → total size (upto n) ≤ 5 * n
banks_fit zero h = unfold upto total in omega arith
banks_fit (suc n) h =
    let one : size n ≤ 5 = unfold size bank_text in omega (arith, few_digits 3 n (omega arith)) in
    let more : total size (upto (suc n)) ≡ total size (upto n) + size n = unfold upto total in omega (arith, total_append size (upto n) (n ∷ [])) in
    omega (arith, banks_fit n (omega arith))

line_fits : (G : Graph) (k : ℕ) (banks : List ℕ) → k < 10000 → length (step_text G k banks) ≤ 7 + total size banks
unfolding step_text
line_fits G k banks h =
    let head = head_text k (wave G (get_or banks 0 0)) in
    let rest = joined (map bank_text banks) in
    omega (
      arith,
      length-append head (rest ++ (10 ∷ [])),
      length-append rest (10 ∷ []),
      length_head k (wave G (get_or banks 0 0)),
      few_digits 3 k (omega arith),
      texts_total banks,
    )

lines_fit : (G : Graph) (k : ℕ) (steps : List (List ℕ)) → k + length steps ≤ 10000
    → length (lines_from G k steps) ≤ 7 * length steps + total size (joined steps)
unfolding lines_from joined
lines_fit G k [] h = omega arith
lines_fit G k (banks ∷ steps) h =
    omega (
      arith,
      line_fits G k banks (omega arith),
      length-append (step_text G k banks) (lines_from G (suc k) steps),
      total_append size banks (joined steps),
      lines_fit G (suc k) steps (omega arith),
    )

pub day_fits : (q : ℕ) (G : Graph) → G.banks ≤ 1024 → length (day_text q G) ≤ 12288
unfolding day_text
day_fits q G h =
    omega (arith, day_short q G, lines_fit G 1 (day q G) (omega (arith, day_short q G)), day_total q G size, banks_fit G.banks h)
