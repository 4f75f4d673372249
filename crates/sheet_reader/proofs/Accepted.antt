-- Which sheets are accepted: by the number, by the demands, and the planner's own.
use mathlib.Core.Bool.{Bool, true, false, cond, ◌&&◌, not}
use mathlib.Core.List.{List, [], ◌∷◌, ◌++◌, append_assoc}
use mathlib.Core.Logic.{◌⊎◌, inl, inr}
use mathlib.Core.Path.{◌≡◌, refl, sym, ap, subst, ◌∙◌}
use Prim.Native.Nat.{ℕ, ◌≤◌, ◌<◌}
use native.Mathlib.Omega.{arith}
use lib.Dec.{T, eqb, leb, eqb→eq}
use borrow.Author.Tests.{le-leb, leb-true, leb-false, not-true}
use Rattle.rule.specs.Lists.{upto, filter, memb, some}
use Rattle.rule.specs.Graph.{Graph, neighbours, degree, Same}
use Rattle.rule.specs.Wave.{wave, wave_count}
use Rattle.rule.proofs.Booleans.{t_along, both_true, eq→eqb, is_false, is_true, or_cases, passes?}
use Rattle.rule.proofs.Lists.{in_head, in_tail, in_cons, in_none, in_append, in_append_r, in_upto, upto_below, filter_in, in_filter, some_in, in_some}
use Rattle.memory.specs.declared.Tally.{Tally}
use Rattle.memory.specs.Plan.{Slices, clash_count, graph_in, cap_fits, Clashes, PlanOf}
use Rattle.memory.specs.inner.View.{Rowed}
use Rattle.memory.proofs.Theorems.{cells_give}
use Rattle.memory.proofs.Apart.{waves_apart}
use Rattle.planner.specs.Questions.{first_no}
use Rattle.planner.specs.Calls.{plan_number}
use Rattle.planner.proofs.Numbers.{held_number, number_plan, plan_passed}
use Rattle.wave_lines.specs.Lines.{Line, lines_of}
use Rattle.wave_lines.proofs.Plans.{few_waves, plan_banks, plan_count, plan_clashes}
use Rattle.wave_lines.proofs.Shown.{wave_below, no_empty_line}
use Rattle.sheet_writer.specs.Sheet.{sheet}
use Rattle.sheet_writer.proofs.Theorems.{one_sheet}
use Rattle.sheet_parser.specs.Sheets.{SheetOf, wave_read, waves_count, is_sheet}
use Rattle.sheet_parser.proofs.Tests.{not_both}
use Rattle.sheet_parser.proofs.Lines.{in_banks}
use Rattle.sheet_parser.proofs.Sheets.{banks_in-law}
use Rattle.sheet_parser.proofs.Decision.{accepts, accepted, read_wave, read_count, upto_at}
use Rattle.sheet_reader.specs.Calls.{has_clash, any_clash, sheet_number, first_of, clash_first, clash_second, fault_first, fault_second}
use Rattle.sheet_reader.specs.Demands.{line_on, KeepsApart, Proper, Acceptable, NamedPair}
use Rattle.sheet_reader.specs.inner.Rows.{rows_in, PairOf}
use Rattle.sheet_reader.proofs.Answers.{same_any, last_number, by_clash, none_first, none_second}
use Rattle.sheet_reader.proofs.Demanded.{line_is, proper, sheet_of-law}

-- two clashing banks in one wave
module _ (G : Graph) (w : ℕ → ℕ) where
  pub clash_any : (x y : ℕ) → x < G.banks → y < G.banks → T (G.clash x y) → w y ≡ w x → any_clash G w ≡ true
  unfolding any_clash has_clash neighbours
  clash_any x y h l t e =
      is_true (some (has_clash G w) (upto G.banks))
      (some_in (has_clash G w) (upto G.banks) x (in_upto G.banks x h)
      (some_in (λ v. eqb (w v) (w x)) (filter (G.clash x) (upto G.banks)) y
      (in_filter (G.clash x) (upto G.banks) y (in_upto G.banks y l) t) (eq→eqb (w y) (w x) e)))

  pub record Pair : Type 0 where
    pub first : ℕ
    pub second : ℕ
    pub low : first < G.banks
    pub low_second : second < G.banks
    pub clash : T (G.clash first second)
    pub same : w second ≡ w first

  pub any_clash-law : any_clash G w ≡ true → Pair
  unfolding any_clash has_clash neighbours
  any_clash-law e =
      let r = in_some (has_clash G w) (upto G.banks) (t_along (sym e) tt) in
      let q = in_some (λ v. eqb (w v) (w r.0)) (filter (G.clash r.0) (upto G.banks)) r.2 in
      let n = filter_in (G.clash r.0) (upto G.banks) q.0 q.1 in
      record {
        first = r.0;
        second = q.0;
        low = upto_below G.banks r.0 r.1;
        low_second = upto_below G.banks q.0 n.0;
        clash = n.1;
        same = eqb→eq (w q.0) (w r.0) q.2;
      }

-- the first of those below n that pass
first_passes : (p : ℕ → Bool) (xs : List ℕ) → T (some p xs) → T (memb (first_of p xs) xs) × T (p (first_of p xs))
unfolding some first_of
first_passes p [] s = absurd s
first_passes p (x ∷ xs) s =
    elim (passes? (p x)) [
      | inl t ↦ rw (is_true (p x) t) (in_head x x xs refl, t)
      | inr f ↦
          let r = first_passes p xs (elim (or_cases (p x) (some p xs) s) [ inl t ↦ absurd (f t) | inr t ↦ t ]) in
          rw (is_false (p x) f) (in_tail (first_of p xs) x xs r.0, r.1)
    ]

first_append : (p : ℕ → Bool) (xs ys : List ℕ) → T (some p xs) → first_of p (xs ++ ys) ≡ first_of p xs
unfolding some first_of
first_append p [] ys s = absurd s
first_append p (x ∷ xs) ys s =
    elim (passes? (p x)) [
      | inl t ↦ rw (is_true (p x) t)
      | inr f ↦ rw (is_false (p x) f) (first_append p xs ys (elim (or_cases (p x) (some p xs) s) [ inl t ↦ absurd (f t) | inr t ↦ t ]))
    ]

first_low : (p : ℕ → Bool) (n x : ℕ) → x < n → T (p x) → first_of p (upto n) ≤ x
first_low p n x h t =
    let r = upto_at x n h in
    let more : T (some p (upto x ++ (x ∷ []))) = some_in p (upto x ++ (x ∷ [])) x (in_append_r x (upto x) (x ∷ []) (in_head x x [] refl)) t in
    let e : first_of p (upto n) ≡ first_of p (upto x ++ (x ∷ [])) =
    ap (first_of p) (r.1 ∙ sym (append_assoc (upto x) (x ∷ []) r.0)) ∙ first_append p (upto x ++ (x ∷ [])) r.0 more in
    let q = first_passes p (upto x ++ (x ∷ [])) more in
    elim (in_append (first_of p (upto x ++ (x ∷ []))) (upto x) (x ∷ []) q.0) [
      | inl low ↦ omega (arith, upto_below x (first_of p (upto x ++ (x ∷ []))) low)
      | inr same ↦
          elim (in_cons (first_of p (upto x ++ (x ∷ []))) x [] same) [
            | inl is ↦ omega arith
            | inr none ↦ absurd (in_none (first_of p (upto x ++ (x ∷ []))) none)
          ]
    ]

-- the two banks that are named: they clash, stand in one wave, and are the lowest
module _ (G : Graph) (clashes : Clashes G) (w : ℕ → ℕ) (any : any_clash G w ≡ true) where
  first_in-law : T (memb (clash_first G w) (upto G.banks)) × T (has_clash G w (clash_first G w))
  unfolding any_clash clash_first
  first_in-law = first_passes (has_clash G w) (upto G.banks) (t_along (sym any) tt)

  second_in-law : T (memb (clash_second G w) (neighbours G (clash_first G w))) × T (eqb (w (clash_second G w)) (w (clash_first G w)))
  unfolding clash_second
  second_in-law = let f = clash_first G w in first_passes (λ v. eqb (w v) (w f)) (neighbours G f) (unfold has_clash in first_in-law.1)

  has_low : (x y : ℕ) → x < G.banks → y < G.banks → T (G.clash x y) → w y ≡ w x → clash_first G w ≤ x
  unfolding clash_first has_clash neighbours
  has_low x y h l t e =
      first_low (has_clash G w) G.banks x h
      (some_in (λ v. eqb (w v) (w x)) (filter (G.clash x) (upto G.banks)) y (in_filter (G.clash x) (upto G.banks) y (in_upto G.banks y l) t) (eq→eqb (w y) (w x) e))

  pub pair_named : NamedPair G w (clash_first G w) (clash_second G w)
  unfolding neighbours
  pair_named =
      let f = clash_first G w in
      let v = clash_second G w in
      let low : f < G.banks = upto_below G.banks f first_in-law.0 in
      let r = filter_in (G.clash f) (upto G.banks) v second_in-law.0 in
      let low_second : v < G.banks = upto_below G.banks v r.0 in
      let same : w v ≡ w f = eqb→eq (w v) (w f) second_in-law.1 in
      let back : T (G.clash v f) = t_along (clashes.symmetric f v low low_second) r.1 in
      let other : f ≡ v → ⊥ = λ e. clashes.apart f low (subst (λ (z : ℕ). T (G.clash f z)) (sym e) r.1) in
      let least : f ≤ v = has_low v f low_second low back (sym same) in
      record {
        low = low;
        low_second = low_second;
        clash = r.1;
        same = same;
        ascend = omega (arith, other);
        lowest = λ x y h l t e. has_low x y h l t e;
      }

-- banks that are found in the rows are two
pub two_named : (n : ℕ) (w : ℕ → ℕ) {ns ds : List ℕ} → Rowed (rows_in n ns) ns ds → {first second : ℕ} → PairOf (rows_in n ns) w first second → first < second
unfolding graph_in degree neighbours
two_named n w {ns} {ds} rows pair =
    let G = rows_in n ns in
    let clashes : Clashes G = record {
      most = rows.few;
      symmetric = rows.symmetric;
      apart = rows.apart;
      few = rows.small;
      ranks = λ x h. omega arith;
    } in
    let named = pair_named G clashes w pair.clash in
    omega (arith, pair.first_is, pair.second_is, named.ascend)

-- the rule keeps clashing banks apart
module _ (G : Graph) (clashes : Clashes G) where
  pub rule_apart : any_clash G (wave G) ≡ false
  rule_apart = by (any_clash G (wave G)) refl
    where
      by : (b : Bool) → any_clash G (wave G) ≡ b → any_clash G (wave G) ≡ false
      by true e = let p = any_clash-law G (wave G) e in absurd (waves_apart G clashes p.first p.second p.low p.low_second p.clash (sym p.same))
      by false e = e

  pub own_sheet : SheetOf G.banks (clash_count G) (sheet G) (wave_count G) (wave G)
  unfolding sheet lines_of
  own_sheet = record {
    waves = record {
      few = few_waves G clashes;
      below = wave_below G;
      none_empty = λ c h. let r = no_empty_line G c h in let q = banks_in-law (wave G) G.banks c r.0 r.1 in (r.0, q.0, q.1);
    };
    text = refl;
  }

-- by the number
module _ (s : Slices) (t : Tally) (bytes : List ℕ) (e : plan_number s t ≡ 0) where
  abbrev H : Graph
  H = graph_in t.banks s

  pub record Passes : Type 0 where
    pub is_sheet-law : is_sheet t.banks t.clashes bytes ≡ true
    pub apart : any_clash (graph_in t.banks s) (wave_read bytes) ≡ false
    pub few : waves_count bytes ≤ t.waves

  number_is : sheet_number s t bytes
      ≡ cond (is_sheet t.banks t.clashes bytes) (cond (not (any_clash (graph_in t.banks s) (wave_read bytes)) && leb (waves_count bytes) t.waves) 0 27) 26
  unfolding sheet_number first_no
  number_is = let p = plan_passed s t e in rw (le-leb t.banks 1024 p.most, p.long, p.plan)

  pub passes : sheet_number s t bytes ≡ 0 → Passes
  passes z = by (is_sheet t.banks t.clashes bytes) (not (any_clash H (wave_read bytes)) && leb (waves_count bytes) t.waves) refl refl (sym number_is ∙ z)
    where
      by : (a b : Bool) → is_sheet t.banks t.clashes bytes ≡ a → (not (any_clash H (wave_read bytes)) && leb (waves_count bytes) t.waves) ≡ b
          → ◌≡◌ {A = ℕ} (cond a (cond b 0 27) 26) 0 → Passes
      by true true p q z =
          let r = both_true (not (any_clash H (wave_read bytes))) (leb (waves_count bytes) t.waves) q in
          record { is_sheet-law = p; apart = not-true (any_clash H (wave_read bytes)) r.0; few = leb-true (waves_count bytes) t.waves r.1 }
      by true false p q z = absurd (omega arith)
      by false b p q z = absurd (omega arith)

  pub passed : Passes → sheet_number s t bytes ≡ 0
  passed p = number_is ∙ rw (p.is_sheet-law, p.apart, le-leb (waves_count bytes) t.waves p.few)

  pub none_26 : is_sheet t.banks t.clashes bytes ≡ false → sheet_number s t bytes ≡ 26
  none_26 f = number_is ∙ rw f

  pub sheet_26 : is_sheet t.banks t.clashes bytes ≡ true → sheet_number s t bytes ≡ 26 → ⊥
  sheet_26 f z = by (not (any_clash H (wave_read bytes)) && leb (waves_count bytes) t.waves) (sym (number_is ∙ rw f) ∙ z)
    where
      by : (b : Bool) → ◌≡◌ {A = ℕ} (cond b 0 27) 26 → ⊥
      by true z = omega arith
      by false z = omega arith

  -- beside 27 two banks that clash are named, or there are too many waves alone
  pub named_27 : sheet_number s t bytes ≡ 27
      → NamedPair (graph_in t.banks s) (wave_read bytes) (fault_first s t bytes) (fault_second s t bytes)
      ⊎ ((fault_first s t bytes ≡ 0) × (fault_second s t bytes ≡ 0) × (t.waves < waves_count bytes))
  named_27 z = by (is_sheet t.banks t.clashes bytes) (any_clash H (wave_read bytes)) (leb (waves_count bytes) t.waves) refl refl refl (sym number_is ∙ z)
    where
      by : (a b d : Bool) → is_sheet t.banks t.clashes bytes ≡ a → any_clash H (wave_read bytes) ≡ b → leb (waves_count bytes) t.waves ≡ d
          → ◌≡◌ {A = ℕ} (cond (is_sheet t.banks t.clashes bytes) (cond (not (any_clash H (wave_read bytes)) && leb (waves_count bytes) t.waves) 0 27) 26) 27
          → NamedPair H (wave_read bytes) (fault_first s t bytes) (fault_second s t bytes)
          ⊎ ((fault_first s t bytes ≡ 0) × (fault_second s t bytes ≡ 0) × (t.waves < waves_count bytes))
      by true true d p q r f =
          let banks = by_clash s t bytes (last_number s t bytes (sym e) p) true q in
          inl (subst (λ (y : ℕ). NamedPair H (wave_read bytes) (fault_first s t bytes) y) banks.1
          (subst (λ (x : ℕ). NamedPair H (wave_read bytes) x (clash_second H (wave_read bytes))) banks.0
          (pair_named H (number_plan s t e).clashes (wave_read bytes) q)))
      by true false false p q r f =
          let banks = by_clash s t bytes (last_number s t bytes (sym e) p) false q in
          inr (sym banks.0 ∙ sym (none_first H (wave_read bytes) q), sym banks.1 ∙ sym (none_second H (wave_read bytes) q), leb-false (waves_count bytes) t.waves r)
      by true false true p q r f = absurd (omega (arith, rw (p, q, r) at f))
      by false b d p q r f = absurd (omega (arith, rw p at f))

-- of memory that holds the plan of G
module _ (G : Graph) (s : Slices) (t : Tally) (plan : PlanOf G s t) (cap : T (cap_fits t)) (bytes : List ℕ) where
  checked : plan_number s t ≡ 0
  checked = held_number G s t plan cap

  same : Same (graph_in t.banks s) G
  same = cells_give s t G plan

  banks_are : (graph_in t.banks s).banks ≡ G.banks
  banks_are = same.banks

  -- the waves read keep apart exactly those that they should
  module _ (is : SheetOf t.banks t.clashes bytes (waves_count bytes) (wave_read bytes)) where
    named : (x : ℕ) → x < G.banks → x < t.banks
    named x h = omega (arith, plan_banks G s t plan)

    on_line : (x : ℕ) → x < G.banks → T (memb x (line_on bytes (wave_read bytes x)).banks)
    on_line x h =
        let l : wave_read bytes x < waves_count bytes = is.waves.below x (named x h) in
        subst (λ (k : Line). T (memb x k.banks)) (sym (line_is is (wave_read bytes x) l)) (in_banks (wave_read bytes) (wave_read bytes x) t.banks x (named x h) refl)

    apart_line : any_clash (graph_in t.banks s) (wave_read bytes) ≡ false → KeepsApart G bytes
    apart_line none x y h l clash c below a b =
        let on : (z : ℕ) → T (memb z (line_on bytes c).banks) → wave_read bytes z ≡ c =
        λ z m. (banks_in-law (wave_read bytes) t.banks c z (subst (λ (k : Line). T (memb z k.banks)) (line_is is c below) m)).1 in
        not_both
        (clash_any (graph_in t.banks s) (wave_read bytes) x y (omega (arith, banks_are)) (omega (arith, banks_are))
        (t_along (sym (same.clash x y h l)) clash) (on y b ∙ sym (on x a)))
        none

    line_apart : KeepsApart G bytes → any_clash (graph_in t.banks s) (wave_read bytes) ≡ false
    line_apart apart = by (any_clash (graph_in t.banks s) (wave_read bytes)) refl
      where
        by : (b : Bool) → any_clash (graph_in t.banks s) (wave_read bytes) ≡ b → any_clash (graph_in t.banks s) (wave_read bytes) ≡ false
        by true e =
            let p = any_clash-law (graph_in t.banks s) (wave_read bytes) e in
            let x = p.first in
            let y = p.second in
            let h : x < G.banks = omega (arith, banks_are, p.low) in
            let l : y < G.banks = omega (arith, banks_are, p.low_second) in
            absurd (apart x y h l (t_along (same.clash x y h l) p.clash) (wave_read bytes x) (is.waves.below x (named x h)) (on_line x h)
            (subst (λ (c : ℕ). T (memb y (line_on bytes c).banks)) p.same (on_line y l)))
        by false e = e

  proper_of : is_sheet t.banks t.clashes bytes ≡ true → Proper G.banks (clash_count G) bytes
  proper_of e =
      let p = proper (accepted t.banks t.clashes bytes e) in
      subst (λ (n : ℕ). Proper n (clash_count G) bytes) (plan_banks G s t plan) (subst (λ (m : ℕ). Proper t.banks m bytes) (plan_clashes G s t plan) p)

  of_proper : Proper G.banks (clash_count G) bytes → SheetOf t.banks t.clashes bytes (waves_count bytes) (wave_read bytes)
  of_proper p =
      sheet_of-law (subst (λ (n : ℕ). Proper n t.clashes bytes) (sym (plan_banks G s t plan))
      (subst (λ (m : ℕ). Proper G.banks m bytes) (sym (plan_clashes G s t plan)) p))

  pub acceptable : sheet_number s t bytes ≡ 0 → Acceptable G bytes
  acceptable z =
      let p = passes s t bytes checked z in
      record {
        proper = proper_of p.is_sheet-law;
        apart = apart_line (accepted t.banks t.clashes bytes p.is_sheet-law) p.apart;
        few = omega (arith, p.few, plan_count G s t plan);
      }

  pub acceptable_passes : Acceptable G bytes → sheet_number s t bytes ≡ 0
  acceptable_passes a =
      let is = of_proper a.proper in
      passed s t bytes checked (record { is_sheet-law = accepts is; apart = line_apart is a.apart; few = omega (arith, a.few, plan_count G s t plan) })

  pub improper : (Proper G.banks (clash_count G) bytes → ⊥) → sheet_number s t bytes ≡ 26
  improper none = by (is_sheet t.banks t.clashes bytes) refl
    where
      by : (b : Bool) → is_sheet t.banks t.clashes bytes ≡ b → sheet_number s t bytes ≡ 26
      by true e = absurd (none (proper_of e))
      by false e = none_26 s t bytes checked e

  pub proper_not_26 : Proper G.banks (clash_count G) bytes → sheet_number s t bytes ≡ 26 → ⊥
  proper_not_26 p z = sheet_26 s t bytes checked (accepts (of_proper p)) z

-- the planner's own sheet
module _ (G : Graph) (s : Slices) (t : Tally) (plan : PlanOf G s t) (cap : T (cap_fits t)) where
  own_in : sheet_number s t (sheet (graph_in t.banks s)) ≡ 0
  own_in =
      let e = held_number G s t plan cap in
      let p = number_plan s t e in
      let H = graph_in t.banks s in
      let own = own_sheet H p.clashes in
      let is : SheetOf t.banks t.clashes (sheet H) (wave_count H) (wave H) =
      subst (λ (n : ℕ). SheetOf n t.clashes (sheet H) (wave_count H) (wave H)) (sym (plan_banks H s t p))
      (subst (λ (m : ℕ). SheetOf H.banks m (sheet H) (wave_count H) (wave H)) (sym (plan_clashes H s t p)) own) in
      passed s t (sheet H) e (record {
        is_sheet-law = accepts is;
        apart = same_any H (wave_read (sheet H)) (wave H) (λ b h. read_wave is b (omega (arith, plan_banks H s t p))) ∙ rule_apart H p.clashes;
        few = omega (arith, read_count is, plan_count H s t p);
      })

  pub own_accepted : sheet_number s t (sheet G) ≡ 0
  own_accepted =
      let p = number_plan s t (held_number G s t plan cap) in
      ap (sheet_number s t) (one_sheet G (graph_in t.banks s) s t plan p) ∙ own_in
