-- The answer of the call, question by question.
use mathlib.Core.Bool.{Bool, true, false, cond, ◌&&◌, not}
use mathlib.Core.List.{List, [], ◌∷◌}
use mathlib.Core.Logic.{◌≢◌}
use mathlib.Core.Path.{◌≡◌, refl, sym, ap, ap₂, ◌∙◌}
use Prim.Native.Nat.{ℕ, ◌≤◌, ◌<◌}
use native.Mathlib.Omega.{arith}
use lib.Dec.{T, eqb, leb}
use lib.ListN.{replicate, length-replicate, get_or-replicate}
use borrow.Author.Tests.{le-leb, lt-leb, eq-eqb, ne_eqb}
use Rattle.rule.specs.Lists.{upto, memb, some}
use Rattle.rule.specs.Graph.{Graph, neighbours, degree}
use Rattle.rule.proofs.Lists.{in_head, in_tail, in_upto, upto_below, some_in}
use Rattle.rule.proofs.Booleans.{is_true, is_false}
use Rattle.memory.specs.declared.Tally.{Tally}
use Rattle.memory.specs.Plan.{Slices, long_enough, graph_in, holds, PlanOf}
use Rattle.memory.specs.inner.View.{Rowed}
use Rattle.memory.proofs.Theorems.{held_of}
use Rattle.planner.specs.Questions.{◌else◌, first_no}
use Rattle.planner.specs.Calls.{plan_number}
use Rattle.planner.proofs.Numbers.{plan_passed}
use Rattle.sheet_parser.specs.Sheets.{SheetOf, Fault, wave_read, waves_count, is_sheet}
use Rattle.sheet_reader.specs.Calls.{has_clash, any_clash, sheet_number, first_of, clash_first, clash_second, fault_first, fault_second, Verdict, Answered}
use Rattle.sheet_parser.specs.inner.Lines.{Enough, NoneNamed, NoSheet}
use Rattle.sheet_reader.specs.inner.Rows.{rows_in, clash_number, Judged}
use Rattle.sheet_reader.proofs.Clashes.{neighbour_below, first_zero, second_zero}
use Rattle.sheet_parser.proofs.Tests.{not_both}
use Rattle.sheet_parser.proofs.Decision.{accepts, refused, read_count, read_wave}

-- the last question
module _ (G : Graph) (w : ℕ → ℕ) (k most : ℕ) where
  pub clash_found : any_clash G w ≡ true → 27 ≡ clash_number G w k most
  unfolding clash_number first_no
  clash_found e = rw e

  pub many_waves : any_clash G w ≡ false → most < k → 27 ≡ clash_number G w k most
  unfolding clash_number first_no
  many_waves e h = rw (e, lt-leb k most h)

  pub kept_apart : any_clash G w ≡ false → k ≤ most → 0 ≡ clash_number G w k most
  unfolding clash_number first_no
  kept_apart e h = rw (e, le-leb k most h)

  pub clash_other : clash_number G w k most ≡ 26 → ⊥
  unfolding clash_number first_no
  clash_other e = by (not (any_clash G w) && leb k most) e
    where
      by : (b : Bool) → ◌≡◌ {A = ℕ} (cond b 0 27) 26 → ⊥
      by true e = omega arith
      by false e = omega arith

  no_clash : any_clash G w ≡ false → (x : ℕ) → x < G.banks → has_clash G w x ≡ false
  unfolding any_clash
  no_clash e x h =
      is_false (has_clash G w x) (λ t.
      not_both (is_true (some (has_clash G w) (upto G.banks)) (some_in (has_clash G w) (upto G.banks) x (in_upto G.banks x h) t)) e)

module _ (G : Graph) (w : ℕ → ℕ) (none : any_clash G w ≡ false) where
  pub none_first : 0 ≡ clash_first G w
  none_first = first_zero G w (no_clash G w 0 0 none)

  pub none_second : 0 ≡ clash_second G w
  none_second = second_zero G w (no_clash G w 0 0 none)

clash_cong : (G : Graph) (w v : ℕ → ℕ) (k j most : ℕ) → any_clash G w ≡ any_clash G v → k ≡ j → clash_number G w k most ≡ clash_number G v j most
unfolding clash_number
clash_cong G w v k j most any e = ap₂ (λ (a : Bool) (i : ℕ). first_no ((not a && leb i most else 27) ∷ [])) any e

-- waves that agree on the banks
some_cong : (p q : ℕ → Bool) (xs : List ℕ) → ((x : ℕ) → T (memb x xs) → p x ≡ q x) → some p xs ≡ some q xs
unfolding some
some_cong p q [] h = refl
some_cong p q (x ∷ xs) h = rw (h x (in_head x x xs refl), some_cong p q xs (λ y m. h y (in_tail y x xs m)))

first_cong : (p q : ℕ → Bool) (xs : List ℕ) → ((x : ℕ) → T (memb x xs) → p x ≡ q x) → first_of p xs ≡ first_of q xs
unfolding first_of
first_cong p q [] h = refl
first_cong p q (x ∷ xs) h = rw (h x (in_head x x xs refl), first_cong p q xs (λ y m. h y (in_tail y x xs m)))

first_below : (p : ℕ → Bool) (xs : List ℕ) (n : ℕ) → 0 < n → ((x : ℕ) → T (memb x xs) → x < n) → first_of p xs < n
unfolding first_of
first_below p [] n some h = some
first_below p (x ∷ xs) n some h = by (p x) (h x (in_head x x xs refl)) (first_below p xs n some (λ y m. h y (in_tail y x xs m)))
  where
    by : (t : Bool) → x < n → first_of p xs < n → cond t x (first_of p xs) < n
    by true l r = l
    by false l r = r

module _ (G : Graph) (w v : ℕ → ℕ) (same : (b : ℕ) → b < G.banks → w b ≡ v b) where
  same_test : (b : ℕ) → b < G.banks → (u : ℕ) → T (memb u (neighbours G b)) → eqb (w u) (w b) ≡ eqb (v u) (v b)
  same_test b h u m = ap₂ eqb (same u (neighbour_below G b u m)) (same b h)

  same_has : (b : ℕ) → b < G.banks → has_clash G w b ≡ has_clash G v b
  unfolding has_clash
  same_has b h = some_cong (λ u. eqb (w u) (w b)) (λ u. eqb (v u) (v b)) (neighbours G b) (same_test b h)

  pub same_any : any_clash G w ≡ any_clash G v
  unfolding any_clash
  same_any = some_cong (has_clash G w) (has_clash G v) (upto G.banks) (λ b m. same_has b (upto_below G.banks b m))

  same_first : clash_first G w ≡ clash_first G v
  unfolding clash_first
  same_first = first_cong (has_clash G w) (has_clash G v) (upto G.banks) (λ b m. same_has b (upto_below G.banks b m))

  same_second : clash_second G w ≡ clash_second G v
  unfolding clash_second clash_first
  same_second =
      let f : ℕ = clash_first G w in
      first_cong (λ u. eqb (w u) (w f)) (λ u. eqb (v u) (v f)) (neighbours G f)
      (λ u m.
      let some_bank : 0 < G.banks = omega (arith, neighbour_below G f u m) in
      same_test f (first_below (has_clash G w) (upto G.banks) G.banks some_bank (upto_below G.banks)) u m)
      ∙ ap (λ (x : ℕ). first_of (λ u. eqb (v u) (v x)) (neighbours G x)) same_first

-- the rows of a plan
pub rows_of : (s : Slices) (t : Tally) → PlanOf (graph_in t.banks s) s t → Rowed (rows_in t.banks s.neighbours) s.neighbours s.degrees
unfolding graph_in neighbours degree
rows_of s t plan =
    let r = (held_of _ s t plan).rowed in
    record {
      few = r.few;
      wide_rows = r.wide_rows;
      wide_degrees = r.wide_degrees;
      degrees = r.degrees;
      small = r.small;
      rows = r.rows;
      symmetric = r.symmetric;
      apart = r.apart;
    }

judged_in : (s : Slices) (n : ℕ) {w : ℕ → ℕ} {k most : ℕ} {r : Verdict} → Judged (rows_in n s.neighbours) w k most r → Judged (graph_in n s) w k most r
unfolding graph_in neighbours has_clash any_clash clash_number clash_first clash_second
judged_in s n j = record { number = j.number; line = j.line; first = j.first; second = j.second }

graph_banks : (s : Slices) (n : ℕ) → (graph_in n s).banks ≡ n
unfolding graph_in
graph_banks s n = refl

-- cells before anything is read
pub cells_enough : (n : ℕ) → n ≤ 1024 → Enough (replicate 1024 24) n
cells_enough n h = record { most = h; long = omega (arith, length-replicate {A = ℕ} 1024 24) }

pub cells_free : (n : ℕ) → n ≤ 1024 → NoneNamed (replicate 1024 24) n
cells_free n h b l = get_or-replicate {A = ℕ} 1024 b 24 0 (omega arith)

-- by the number
module _ (s : Slices) (t : Tally) (bytes : List ℕ) where
  abbrev G : Graph
  G = graph_in t.banks s

  rest : ℕ
  rest = cond (is_sheet t.banks t.clashes bytes)
      (cond (not (any_clash (graph_in t.banks s) (wave_read bytes)) && leb (waves_count bytes) t.waves) 0 27) 26

  plan_first : (x y z : Bool) (c r : ℕ) → c ≡ cond x (cond y (cond z 0 3) 2) 1 → c ≢ 0 → (c ≡ cond x (cond y (cond z r 3) 2) 1) × (c ≤ 3)
  plan_first true true true c r e n = absurd (n e)
  plan_first true true false c r e n = (e, omega arith)
  plan_first true false z c r e n = (e, omega arith)
  plan_first false y z c r e n = (e, omega arith)

  plan_refused : (c : ℕ) → c ≡ plan_number s t → c ≢ 0 → (c ≡ sheet_number s t bytes) × (c ≤ 3)
  unfolding plan_number sheet_number first_no rest
  plan_refused c e n = plan_first (leb t.banks 1024) (long_enough t.banks s) (holds s t) c rest e n

  pub plan_low : (c : ℕ) → c ≡ plan_number s t → c ≢ 0 → c ≤ 3
  plan_low c e n = (plan_refused c e n).1

  no_first : (c : ℕ) → c ≡ sheet_number s t bytes → (c ≡ 27 → ⊥) → 0 ≡ fault_first s t bytes
  unfolding fault_first
  no_first c e n = let other : sheet_number s t bytes ≡ 27 → ⊥ = λ q. n (e ∙ q) in rw (ne_eqb (sheet_number s t bytes) 27 other)

  no_second : (c : ℕ) → c ≡ sheet_number s t bytes → (c ≡ 27 → ⊥) → 0 ≡ fault_second s t bytes
  unfolding fault_second
  no_second c e n = let other : sheet_number s t bytes ≡ 27 → ⊥ = λ q. n (e ∙ q) in rw (ne_eqb (sheet_number s t bytes) 27 other)

  module _ {r : Verdict} {c l : ℕ} (is : r.number ≡ c) (line : r.line ≡ l) (first : r.first ≡ 0) (second : r.second ≡ 0) where
    -- questions 3 to 5
    pub answer_plan : c ≡ plan_number s t → c ≢ 0 → l ≡ 0 → Answered s t bytes r
    answer_plan e n z =
        let q = plan_refused c e n in
        let low : c ≤ 3 = q.1 in
        record {
          number = is ∙ q.0;
          fault = λ f. absurd (omega arith);
          line = λ f. line ∙ z;
          first = first ∙ no_first c q.0 (λ f. omega arith);
          second = second ∙ no_second c q.0 (λ f. omega arith);
        }

    -- no sheet
    pub answer_sheet : 0 ≡ plan_number s t → c ≡ 26 → NoSheet bytes t.banks t.clashes → Fault t.banks bytes l → Answered s t bytes r
    unfolding sheet_number first_no
    answer_sheet e c-is none fault =
        let p = plan_passed s t (sym e) in
        let is-26 : 26 ≡ sheet_number s t bytes = rw (le-leb t.banks 1024 p.most, p.long, p.plan, refused t.banks t.clashes bytes none) in
        record {
          number = is ∙ c-is ∙ is-26;
          fault = λ f. rw line fault;
          line = λ f. absurd (f (is ∙ c-is));
          first = first ∙ no_first 26 is-26 (λ f. omega arith);
          second = second ∙ no_second 26 is-26 (λ f. omega arith);
        }

  -- a sheet, which was judged
  abbrev v : ℕ → ℕ
  v = wave_read bytes

  pub last_number : 0 ≡ plan_number s t → is_sheet t.banks t.clashes bytes ≡ true
      → clash_number (graph_in t.banks s) (wave_read bytes) (waves_count bytes) t.waves ≡ sheet_number s t bytes
  unfolding sheet_number clash_number first_no
  last_number e yes-sheet = let p = plan_passed s t (sym e) in rw (le-leb t.banks 1024 p.most, p.long, p.plan, yes-sheet)

  module _ (is : clash_number (graph_in t.banks s) (wave_read bytes) (waves_count bytes) t.waves ≡ sheet_number s t bytes) where
    pub by_clash : (a : Bool) → any_clash (graph_in t.banks s) (wave_read bytes) ≡ a
        → (clash_first (graph_in t.banks s) (wave_read bytes) ≡ fault_first s t bytes) × (clash_second (graph_in t.banks s) (wave_read bytes) ≡ fault_second s t bytes)
    unfolding fault_first fault_second
    by_clash true a =
        let number : sheet_number s t bytes ≡ 27 = sym is ∙ sym (clash_found G v (waves_count bytes) t.waves a) in
        (rw (eq-eqb (sheet_number s t bytes) 27 number), rw (eq-eqb (sheet_number s t bytes) 27 number))
    by_clash false a =
        (rw (← none_first G v a) (either (eqb (sheet_number s t bytes) 27)), rw (← none_second G v a) (either (eqb (sheet_number s t bytes) 27)))
      where
        either : (b : Bool) → ◌≡◌ {A = ℕ} 0 (cond b 0 0)
        either true = refl
        either false = refl

  module _ {w : ℕ → ℕ} {k : ℕ} {r : Verdict} where
    pub answer_judged : 0 ≡ plan_number s t → SheetOf t.banks t.clashes bytes k w
        → Judged (rows_in t.banks s.neighbours) w k t.waves r → Answered s t bytes r
    answer_judged e sheet judged =
        let j = judged_in s t.banks judged in
        let same : (b : ℕ) → b < G.banks → w b ≡ v b = λ b h. sym (read_wave sheet b (omega (arith, graph_banks s t.banks))) in
        let any = same_any G w v same in
        let number : clash_number G w k t.waves ≡ clash_number G v (waves_count bytes) t.waves =
        clash_cong G w v k (waves_count bytes) t.waves any (sym (read_count sheet)) in
        let last = last_number e (accepts sheet) in
        let banks = by_clash last (any_clash G v) refl in
        record {
          number = j.number ∙ number ∙ last;
          fault = λ f. absurd (clash_other G w k t.waves (sym j.number ∙ f));
          line = λ f. j.line;
          first = j.first ∙ same_first G w v same ∙ banks.0;
          second = j.second ∙ same_second G w v same ∙ banks.1;
        }
