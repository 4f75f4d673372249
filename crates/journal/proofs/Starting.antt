-- Starting a journal, as the function does it.
use mathlib.Core.Bool.{true}
use mathlib.Core.List.{List, ◌++◌}
use mathlib.Core.Path.{◌≡◌, refl, sym, ap, ◌∙◌, subst}
use Prim.Native.Nat.{ℕ, zero, suc, ◌+◌, ◌*◌, ◌≤◌}
use native.Mathlib.Omega.{arith}
use lib.ListN.{length, length-append}
use Rattle.rule.specs.Graph.{Graph}
use Rattle.rule.specs.declared.Entry.{Entry}
use Rattle.memory.specs.declared.Tally.{Tally}
use Rattle.memory.specs.Cells.{over}
use Rattle.memory.specs.Plan.{Slices, graph_in}
use Rattle.planner.specs.Calls.{plan_number}
use Rattle.text.specs.Places.{Puts}
use Rattle.text.proofs.Putting.{puts_then, put_front}
use Rattle.journal_fields.specs.Fields.{first_size, entry_size, two_bytes, field_bytes, first_bytes, entries_bytes, journal_bytes}
use Rattle.journal.specs.Calls.{ranks_below, adds_below, start_entries, start_bytes, start_number, start_result, start_by, started}
use Rattle.journal.specs.inner.Adds.{rank_in, place_of, PutsEntries, Fit}
use Rattle.journal_fields.specs.Numbers.{space_number}
use Rattle.journal.proofs.Writing.{as_text, entries_then, fit_fewer, fit_after}
use Rattle.journal_fields.proofs.Bytes.{length_journal}
use Rattle.journal_fields.proofs.Numbers.{first_none, first_some, first_last, space_room}

length_first : (n : ℕ) → length (first_bytes n) ≡ first_size
unfolding first_bytes field_bytes two_bytes
length_first n = refl

-- the ranks in the cells of n banks
abbrev ranks_in : Slices → ℕ → List Entry
ranks_in s n = ranks_below (rank_in s.ranks) n

module _ (s : Slices) (n : ℕ) where
  abbrev G : Graph
  G = graph_in n s

  abbrev adds : List Entry
  adds = adds_below G G.banks

  entries_are : start_entries G ≡ ranks_in s n ++ adds
  unfolding start_entries graph_in
  entries_are = refl

  -- the size of a new journal
  pub start_size : (j k : ℕ) → j ≡ length (ranks_in s n) → k ≡ length adds → first_size + entry_size true * (j + k) ≡ length (start_bytes G)
  unfolding start_bytes
  start_size j k d e = omega (arith, length_journal true G.banks (start_entries G), ap length entries_are, length-append (ranks_in s n) adds, d, e)

  -- after the first field there is room for the ranks, and after them for the adds
  module _ (j k : ℕ) (journal journal' : List ℕ) (d : j ≡ length (ranks_in s n)) (e : k ≡ length adds)
      (h : (first_size + entry_size true * (j + k) ≤ length journal) × (first_size + entry_size true * (j + k) ≤ 60000)) (l : length journal' ≡ length journal) where
    pub all_fit : Fit (ranks_in s n ++ adds) 0 journal'
    all_fit =
        let c = length-append (ranks_in s n) adds in
        record { inside = omega (arith, d, e, h.0); few = omega (arith, d, e, h.1) }

    pub ranks_fit : Fit (ranks_in s n) 0 journal'
    ranks_fit = fit_fewer (ranks_in s n) (ranks_in s n ++ adds) 0 journal' (omega (arith, length-append (ranks_in s n) adds)) all_fit

    pub adds_fit : (r : ℕ) (journal'' : List ℕ) → PutsEntries (ranks_in s n) 0 journal' r journal'' → length journal'' ≡ length journal' → Fit adds r journal''
    adds_fit r journal'' p l' = fit_after (ranks_in s n) adds (ranks_in s n ++ adds) 0 r journal' journal'' (omega (arith, length-append (ranks_in s n) adds)) all_fit p l'

by_none : (c : ℕ) (bytes journal : List ℕ) → c ≡ 0 → start_result (record { number = 0; length = length bytes }) (over bytes journal) ≡ start_by c bytes journal
unfolding start_by
by_none zero bytes journal z = refl
by_none (suc c) bytes journal z = absurd (omega arith)

by_some : (c : ℕ) (bytes journal : List ℕ) → (c ≡ 0 → ⊥) → start_result (record { number = c; length = 0 }) journal ≡ start_by c bytes journal
unfolding start_by
by_some zero bytes journal z = absurd (z refl)
by_some (suc c) bytes journal z = refl

module _ (s : Slices) (t : Tally) (journal : List ℕ) where
  -- refused with number c
  by_number : (c : ℕ) → c ≡ start_number s t journal → (c ≡ 0 → ⊥) → start_result (record { number = c; length = 0 }) journal ≡ started s t journal
  unfolding started
  by_number c e z = by_some c (start_bytes (G s t.banks)) journal z ∙ ap (λ (k : ℕ). start_by k (start_bytes (G s t.banks)) journal) e

  pub start_refused : (c : ℕ) → c ≡ plan_number s t → (c ≡ 0 → ⊥) → start_result (record { number = c; length = 0 }) journal ≡ started s t journal
  unfolding start_number
  start_refused c e z = by_number c (e ∙ sym (first_some (plan_number s t) _ (λ q. z (e ∙ q)))) z

  module _ (plan : plan_number s t ≡ 0) (size : ℕ) (right : size ≡ length (start_bytes (G s t.banks))) where
    number_space : start_number s t journal ≡ space_number size journal
    unfolding start_number
    number_space = first_none (plan_number s t) _ plan ∙ first_last (space_number (length (start_bytes (G s t.banks))) journal) ∙ ap (λ (k : ℕ). space_number k journal) (sym right)

    pub start_full : (c : ℕ) → c ≡ space_number size journal → (c ≡ 0 → ⊥) → start_result (record { number = c; length = 0 }) journal ≡ started s t journal
    start_full c e z = by_number c (e ∙ sym number_space) z

    pub start_done : 0 ≡ space_number size journal → (r₁ r₂ r₃ : ℕ) (j₁ j₂ j₃ : List ℕ) → Fit (ranks_in s t.banks ++ adds s t.banks) 0 j₁
        → Puts (first_bytes t.banks) 0 journal r₁ j₁ → PutsEntries (ranks_in s t.banks) 0 j₁ r₂ j₂ → PutsEntries (adds s t.banks) r₂ j₂ r₃ j₃
        → start_result (record { number = 0; length = size }) j₃ ≡ started s t journal
    unfolding started over
    start_done z r₁ r₂ r₃ j₁ j₂ j₃ fit p q v =
        let room = space_room size journal (sym z) in
        let first : List ℕ = first_bytes t.banks in
        let es : List Entry = ranks_in s t.banks ++ adds s t.banks in
        let rest : List ℕ = entries_bytes true 1 es in
        let e : length (start_bytes (G s t.banks)) ≡ length first + length rest = ap length bytes_are ∙ length-append first rest in
        let all = entries_then (ranks_in s t.banks) (adds s t.banks) 0 j₁ fit r₂ r₃ j₂ j₃ q v in
        let at : r₁ ≡ first_size = omega (arith, p.next, length_first t.banks) in
        let text = subst (λ (k : ℕ). Puts rest k j₁ (place_of r₃) j₃) (sym at) (as_text all) in
        let put = puts_then first rest 0 journal (omega (arith, e, right, room.0)) r₁ (place_of r₃) j₁ j₃ p text in
        rw (right, put.left ∙ put_front (first ++ rest) journal, ← bytes_are)
        (by_none (start_number s t journal) (start_bytes (G s t.banks)) journal (number_space ∙ sym z))
      where
        bytes_are : start_bytes (G s t.banks) ≡ first_bytes t.banks ++ entries_bytes true 1 (ranks_in s t.banks ++ adds s t.banks)
        bytes_are =
            unfold start_bytes journal_bytes graph_in in
            ap (λ (es : List Entry). first_bytes t.banks ++ entries_bytes true 1 es) (entries_are s t.banks)
