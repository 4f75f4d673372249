-- The list of the same edits: its rows, and the pass over them beside the replay.
use mathlib.Core.Bool.{Bool, true, false, cond, ◌&&◌}
use mathlib.Core.List.{List, [], ◌∷◌, map}
use mathlib.Core.Logic.{◌⊎◌, inl, inr}
use mathlib.Core.Path.{◌≡◌, refl, ap, ap₂, ◌∙◌}
use Prim.Native.Nat.{ℕ, zero, suc, ◌≤◌, ◌<◌}
use native.Mathlib.Omega.{arith}
use lib.Dec.{leb, eqb}
use lib.ListN.{length}
use borrow.Author.Tests.{lt-leb, leb-true, le-ltb, ne_eqb}
use Rattle.rule.proofs.Booleans.{lt_or_ge}
use Rattle.rule.specs.Graph.{Graph}
use Rattle.rule.specs.declared.Kind.{Kind}
use Rattle.rule.specs.declared.Kind.TheVariants.{Adding, Striking}
use Rattle.rule.specs.declared.Entry.{Entry}
use Rattle.rule.specs.declared.Entry.TheVariants.{Clash, Rank}
use Rattle.memory.specs.Memory.{Memory}
use Rattle.planner.specs.Questions.{first_no}
use Rattle.planner.specs.Calls.{all_long, edit_number}
use Rattle.planner.specs.States.{State, make, set_rank, entry_number, enter, begin, begin_number}
use Rattle.planner.specs.inner.Held.{rank_number}
use Rattle.planner.proofs.Numbers.{far_a, far_b}
use Rattle.planner.proofs.Outcomes.{edited_banks}
use Rattle.planner.proofs.Made.{begin_passed}
use Rattle.std.proofs.Common.{Option, Some, None}
use Rattle.text.specs.Text.{onto, rows, parts}
use Rattle.text.specs.Numbers.{number, decimal}
use Rattle.text.proofs.Decimal.{reads_back, reads_not}
use Rattle.text.proofs.Without.{Without, without_append, decimal_without, rows_feed, parts_space, parts_last}
use Rattle.list_rows.specs.declared.row.Row.TheVariants.{Banks, Unreadable}
use Rattle.list_rows.specs.Rows.{is_byte, two_parts, three_parts, from_parts, row_of, is_v2, start_v2, rows_of}
use Rattle.list_pass.specs.Pass.{ListResult, reading, change, change_number, row_number, step, pass_by, pass, begin_by, from_first, from_rows}
use Rattle.list_pass.proofs.Lists.{plain_said}
use Rattle.journal_fields.specs.Fields.{kind_tag, tag_of, first_in, second_in, rank_fits, journal_bytes}
use Rattle.journal_fields.specs.Bounds.{Below, AllBelow, RanksFit}
use Rattle.journal_replay.specs.SameList.{pair_text, entry_text, entries_text, list_text, entry_row}
use Rattle.journal_replay.specs.Replay.{ReplayResult, ended, enter_by, enter_all, replayed}
use Rattle.journal_fields.proofs.Entries.{whole, below_fit}
use Rattle.journal_replay.proofs.Replaying.{replay_from, replay_is, journal_reads}

-- the two numbers of a row
module _ (a b : ℕ) where
  pair_without : Without 10 (pair_text a b)
  unfolding pair_text
  pair_without =
      without_append 10 (decimal a) (32 ∷ decimal b) (decimal_without 10 (omega arith) a) ((λ q. omega arith), decimal_without 10 (omega arith) b)

  pair_parts : parts (pair_text a b) ≡ decimal a ∷ decimal b ∷ []
  unfolding pair_text
  pair_parts =
      parts_space (decimal a) (decimal b) (decimal_without 32 (omega arith) a) ∙ ap (◌∷◌ (decimal a)) (parts_last (decimal b) (decimal_without 32 (omega arith) b))

-- the rows of the list
tag_without : (tag : ℕ) (rest : List ℕ) → (tag ≡ 10 → ⊥) → Without 10 rest → Without 10 (tag ∷ 32 ∷ rest)
tag_without tag rest n w = (n, ((λ q. omega arith), w))

-- a tag is neither a line feed nor a space
tag_above : (e : Entry) → 32 < tag_of e
unfolding tag_of kind_tag
tag_above (Clash Adding a b) = omega arith
tag_above (Clash Striking a b) = omega arith
tag_above (Rank b r) = omega arith

entry_without : (e : Entry) → Without 10 (entry_text e)
unfolding entry_text
entry_without e =
    tag_without (tag_of e) (pair_text (first_in e) (second_in e)) (λ q. omega (arith, tag_above e)) (pair_without (first_in e) (second_in e))

rows_entries : (es : List Entry) → rows (entries_text es) ≡ map entry_text es
unfolding entries_text rows
rows_entries [] = refl
rows_entries (e ∷ es) = rows_feed (entry_text e) (entries_text es) (entry_without e) ∙ ap (◌∷◌ (entry_text e)) (rows_entries es)

rows_list : (n : ℕ) (es : List Entry) → rows (list_text n es) ≡ (78 ∷ 32 ∷ decimal n) ∷ map entry_text es
unfolding list_text
rows_list n es =
    rows_feed (78 ∷ 32 ∷ decimal n) (entries_text es) (tag_without 78 (decimal n) (λ q. omega arith) (decimal_without 10 (omega arith) n))
    ∙ ap (◌∷◌ (78 ∷ 32 ∷ decimal n)) (rows_entries es)

-- it does not start with `V 2`
list_said : (n : ℕ) (es : List Entry) → rows_of (list_text n es) ≡ map row_of (rows (list_text n es))
list_said n es = plain_said (list_text n es) (ap start_v2 (rows_list n es) ∙ unfold start_v2 is_v2 in none (eqb (length (78 ∷ 32 ∷ decimal n)) 3))
  where
    none : (b : Bool) → (b && false) ≡ false
    none true = refl
    none false = refl

-- the first row
first_parts : (n : ℕ) → row_of (78 ∷ 32 ∷ decimal n) ≡ two_parts (78 ∷ []) (number (decimal n))
unfolding row_of parts onto from_parts
first_parts n = rw (parts_last (decimal n) (decimal_without 32 (omega arith) n))

first_reads : (n : ℕ) → n < 10000 → row_of (78 ∷ 32 ∷ decimal n) ≡ Banks n
unfolding two_parts is_byte
first_reads n h = first_parts n ∙ rw (reads_back n h)

first_fails : (n : ℕ) → 10000 ≤ n → row_of (78 ∷ 32 ∷ decimal n) ≡ Unreadable
unfolding two_parts
first_fails n h = first_parts n ∙ rw (reads_not n h)

three_none : (head : List ℕ) (x : Option ℕ) → three_parts head x None ≡ Unreadable
unfolding three_parts
three_none head None = refl
three_none head (Some a) = refl

-- both numbers of a row read, or one is 10,000 or more
few? : (a b : ℕ) → ((a < 10000) × (b < 10000)) ⊎ ((10000 ≤ a) ⊎ (10000 ≤ b))
few? a b = elim (lt_or_ge a 10000) [ inl h ↦ elim (lt_or_ge b 10000) [ inl k ↦ inl (h, k) | inr k ↦ inr (inr k) ] | inr h ↦ inr (inl h) ]

-- and then there is no such bank
far_number : (k : Kind) (G : Graph) (a b : ℕ) → G.banks ≤ 10000 → (10000 ≤ a) ⊎ (10000 ≤ b) → edit_number k G a b ≡ 4
far_number k G a b l (inl h) = far_a G a b k (omega arith)
far_number k G a b l (inr h) = elim (lt_or_ge a G.banks) [ inl u ↦ far_b G a b k u (omega arith) | inr u ↦ far_a G a b k u ]

rank_far : (begun : Bool) (b n : ℕ) → n ≤ b → rank_number begun b n ≡ 0 → ⊥
unfolding first_no
rank_far true b n h z = omega arith
rank_far false b n h z = omega (arith, rw (le-ltb b n h) at z)

-- so an entry whose row does not read is refused
far_entry : (e : Entry) → rank_fits e ≡ true → (10000 ≤ first_in e) ⊎ (10000 ≤ second_in e) → (s : State) → s.graph.banks ≤ 10000 → entry_number e s ≡ 0 → ⊥
unfolding first_in second_in entry_number rank_fits
far_entry (Clash k a b) f h s l z = omega (arith, far_number k s.graph a.0 b.0 l h)
far_entry (Rank b r) f (inl h) s l z = rank_far s.begun b.0 s.graph.banks (omega arith) z
far_entry (Rank b r) f (inr h) s l z = omega (arith, leb-true r 9999 f)

-- the row of a tag and two numbers
module _ (tag a b : ℕ) (other : tag ≡ 32 → ⊥) where
  row_parts : row_of (tag ∷ 32 ∷ pair_text a b) ≡ three_parts (tag ∷ []) (number (decimal a)) (number (decimal b))
  unfolding row_of parts onto from_parts
  row_parts = rw (ne_eqb tag 32 other, pair_parts a b)

  row_reads : (a < 10000) × (b < 10000) → row_of (tag ∷ 32 ∷ pair_text a b) ≡ three_parts (tag ∷ []) (Some a) (Some b)
  row_reads h = row_parts ∙ rw (reads_back a h.0, reads_back b h.1)

  row_fails : (10000 ≤ a) ⊎ (10000 ≤ b) → row_of (tag ∷ 32 ∷ pair_text a b) ≡ Unreadable
  row_fails (inl h) = row_parts ∙ rw (reads_not a h) (unfold three_parts in refl)
  row_fails (inr h) = row_parts ∙ rw (reads_not b h) (three_none (tag ∷ []) (number (decimal a)))

data RowOf (e : Entry) : Type 0 where
  reads : row_of (entry_text e) ≡ entry_row e → RowOf e
  fails : row_of (entry_text e) ≡ Unreadable → ((s : State) → s.graph.banks ≤ 10000 → entry_number e s ≡ 0 → ⊥) → (Below 10000 e → ⊥) → RowOf e

one_far : (a b : ℕ) → (10000 ≤ a) ⊎ (10000 ≤ b) → (a < 10000) × (b < 10000) → ⊥
one_far a b (inl h) k = omega (arith, k.0)
one_far a b (inr h) k = omega (arith, k.1)

-- a tag and two numbers that read are the entry
tag_reads : (e : Entry) → three_parts (tag_of e ∷ []) (Some (first_in e)) (Some (second_in e)) ≡ entry_row e
unfolding three_parts is_byte tag_of kind_tag first_in second_in
tag_reads (Clash Adding a b) = refl
tag_reads (Clash Striking a b) = refl
tag_reads (Rank b r) = refl

row_of-law : (e : Entry) → rank_fits e ≡ true → RowOf e
unfolding entry_text
row_of-law e f = by (few? (first_in e) (second_in e))
  where
    other : tag_of e ≡ 32 → ⊥
    other q = omega (arith, tag_above e)

    by : ((first_in e < 10000) × (second_in e < 10000)) ⊎ ((10000 ≤ first_in e) ⊎ (10000 ≤ second_in e)) → RowOf e
    by (inl h) = reads (row_reads (tag_of e) (first_in e) (second_in e) other h ∙ tag_reads e)
    by (inr h) = fails (row_fails (tag_of e) (first_in e) (second_in e) other h) (far_entry e f h) (one_far (first_in e) (second_in e) h)

enter_banks : (e : Entry) (s : State) → (enter e s).graph.banks ≡ s.graph.banks
unfolding enter make set_rank
enter_banks (Clash k a b) s = edited_banks k s.graph a.0 b.0
enter_banks (Rank b r) s = refl

-- a list and a replay leave the same memory, and if `alike` the same number and place
pub record Beside (r : ListResult) (q : ReplayResult) (alike : Type 0) : Type 0 where
  pub memory : r.memory ≡ q.memory
  pub answer : alike → r.answer ≡ reading q.answer.number q.answer.field

by_beside : (c i : ℕ) (s : State) (r : ListResult) (q : ReplayResult) (alike more : Type 0) → (more → alike) → Beside r q alike → Beside (pass_by c i s r) (enter_by c i s q) more
unfolding pass_by enter_by
by_beside zero i s r q alike more f h = record { memory = h.memory; answer = λ a. h.answer (f a) }
by_beside (suc c) i s r q alike more f h = record { memory = refl; answer = λ a. refl }

-- a refused entry leaves memory as it was
refused_memory : (c i : ℕ) (s : State) (rest : ReplayResult) → (c ≡ 0 → ⊥) → s.memory ≡ (enter_by c i s rest).memory
unfolding enter_by
refused_memory zero i s rest z = absurd (z refl)
refused_memory (suc c) i s rest z = refl

pass_beside : (i : ℕ) (es : List Entry) (s : State) → RanksFit es → s.graph.banks ≤ 10000
    → Beside (pass i (map row_of (map entry_text es)) s) (enter_all i es 0 0 s) (AllBelow 10000 es)
unfolding pass enter_all ended
pass_beside i [] s fit l = record { memory = refl; answer = λ a. refl }
pass_beside i (e ∷ es) s fit l = by (row_of-law e fit.0) (pass_beside (suc i) es (enter e s) fit.1 (omega (arith, enter_banks e s)))
  where
    by : RowOf e → Beside (pass (suc i) (map row_of (map entry_text es)) (enter e s)) (enter_all (suc i) es 0 0 (enter e s)) (AllBelow 10000 es)
        → Beside (pass_by (row_number (row_of (entry_text e)) s) i s (pass (suc i) (map row_of (map entry_text es)) (step (row_of (entry_text e)) s)))
        (enter_by (entry_number e s) i s (enter_all (suc i) es 0 0 (enter e s))) (AllBelow 10000 (e ∷ es))
    by (reads q) h =
        rw q (unfold row_number step change_number change in by_beside (entry_number e s) i s _ _ (AllBelow 10000 es) (AllBelow 10000 (e ∷ es)) (λ a. a.1) h)
    by (fails q f n) h = rw q (unfold row_number pass_by in record { memory = refused_memory (entry_number e s) i s _ (f s l); answer = λ a. absurd (n a.0) })

-- questions 3 and 4
begin_many : (n : ℕ) (m : Memory) → 1024 < n → begin_number n m ≡ 1
unfolding begin_number first_no
begin_many n m h = rw (lt-leb n 1024 h)

begin_small : (n : ℕ) (m : Memory) → begin_number n m < 9
unfolding begin_number first_no
begin_small n m = by (leb n 1024) (all_long n m)
  where
    by : (p q : Bool) → cond p (cond q 0 2) 1 < 9
    by true true = omega arith
    by true false = omega arith
    by false q = omega arith

begin_beside : (c n : ℕ) (es : List Entry) (m : Memory) → RanksFit es → begin_number n m ≡ c
    → Beside (begin_by 1 c n (map row_of (map entry_text es)) m) (replay_from c n (whole es) m) ((n < 10000) × AllBelow 10000 es)
unfolding begin_by replay_from begin
begin_beside zero n es m fit e =
    let h = pass_beside 2 es (begin n m) fit (omega (arith, (begin_passed n m e).0)) in
    record { memory = h.memory; answer = λ a. h.answer a.1 }
begin_beside (suc c) n es m fit e =
    record { memory = refl; answer = λ a. rw (ne_eqb (suc c) 9 (λ q. omega (arith, begin_small n m))) }

-- the list and the journal of the same edits
module _ (w : Bool) (n : ℕ) (es : List Entry) (m : Memory) (fit : RanksFit es) where
  first_beside : (n < 10000) ⊎ (10000 ≤ n)
      → Beside (from_rows 1 (map row_of (rows (list_text n es))) m) (replay_from (begin_number n m) n (whole es) m) ((n < 10000) × AllBelow 10000 es)
  first_beside (inl h) = rw (rows_list n es) (unfold from_rows from_first in rw (first_reads n h) (begin_beside (begin_number n m) n es m fit refl))
  first_beside (inr h) =
      rw (rows_list n es, begin_many n m (omega arith))
      (unfold from_rows from_first replay_from in rw (first_fails n h) (record { memory = refl; answer = λ a. absurd (omega (arith, a.0)) }))

  -- and any list whose rows say what those of that list say
  pub same_edits : length (journal_bytes w n es) ≤ 60000 → (list : List ℕ) → rows_of list ≡ rows_of (list_text n es)
      → Beside (from_rows 1 (rows_of list) m) (replayed (journal_bytes w n es) m) ((n < 10000) × AllBelow 10000 es)
  same_edits h list alike = rw (alike, list_said n es, replay_is (journal_reads w n es fit h) m) (first_beside (lt_or_ge n 10000))

-- what these rows say, where their numbers can stand in a row
entry_rows : (es : List Entry) → AllBelow 10000 es → map row_of (map entry_text es) ≡ map entry_row es
entry_rows [] h = refl
entry_rows (e ∷ es) h = ap₂ ◌∷◌ (by (row_of-law e (below_fit (e ∷ es) h).0)) (entry_rows es h.1)
  where
    by : RowOf e → row_of (entry_text e) ≡ entry_row e
    by (reads q) = q
    by (fails q f n) = absurd (n h.0)

pub list_rows-law : (n : ℕ) (es : List Entry) → n < 10000 → AllBelow 10000 es → rows_of (list_text n es) ≡ Banks n ∷ map entry_row es
list_rows-law n es h k = list_said n es ∙ ap (map row_of) (rows_list n es) ∙ ap₂ ◌∷◌ (first_reads n h) (entry_rows es k)
