-- The ranks of a plan as entries, ascending: set in turn in a plan of no clash, none is refused, and they end in these ranks.
use mathlib.Core.Bool.{false, cond}
use mathlib.Core.List.{List, [], ◌∷◌, ◌++◌, append-nil}
use mathlib.Core.Logic.{◌⊎◌, inl, inr}
use mathlib.Core.Path.{◌≡◌, refl, sym, ap, ◌∙◌}
use Prim.Native.Nat.{ℕ, zero, suc, ◌≤◌, ◌<◌}
use native.Mathlib.Decide.{ℕ_discrete}
use native.Mathlib.Omega.{arith}
use lib.Dec.{ltb, eqb}
use borrow.Author.Tests.{lt-ltb, le-ltb, eq-eqb, ne_eqb}
use Rattle.rule.proofs.Booleans.{lt_or_ge}
use Rattle.rule.specs.Numbers.{bank}
use Rattle.rule.specs.Graph.{Graph, empty, ranked}
use Rattle.rule.specs.declared.Entry.{Entry}
use Rattle.rule.specs.declared.Entry.TheVariants.{Rank}
use Rattle.memory.specs.Plan.{Clashes}
use Rattle.planner.specs.Questions.{first_no}
use Rattle.planner.specs.States.{begun_by}
use Rattle.journal_replay.specs.Ends.{after_entry, after_entries}
use Rattle.journal.specs.Calls.{rank_of, ranks_below}
use Rattle.journal.proofs.Ranks.{rank_zero, rank_some, ranks_fit}
use Rattle.journal.proofs.Turns.{no_clashes, due_number, NoneRefused, begun_after, begun_append, after_banks, after_clashes, after_append, none_append}

module _ (rank : ℕ → ℕ) (n : ℕ) where
  -- these entries set the ranks of the banks below k, and nothing else
  record Sets (k : ℕ) (es : List Entry) : Type 0 where
    none : NoneRefused false es (empty n)
    begun : begun_after es false ≡ false
    clash : (x y : ℕ) → (after_entries es (empty n)).clash x y ≡ false
    is : (x : ℕ) → (after_entries es (empty n)).rank x ≡ cond (ltb x k) (rank x) 0

  -- one bank more
  module _ (b : ℕ) where
    other : (x : ℕ) → (x ≡ b → ⊥) → cond (ltb x b) (rank x) 0 ≡ cond (ltb x (suc b)) (rank x) 0
    other x d = by (lt_or_ge x b)
      where
        by : (x < b) ⊎ (b ≤ x) → cond (ltb x b) (rank x) 0 ≡ cond (ltb x (suc b)) (rank x) 0
        by (inl l) = rw (lt-ltb x b l, lt-ltb x (suc b) (omega arith))
        by (inr l) = rw (le-ltb x b l, le-ltb x (suc b) (omega (arith, d)))

    zero_next : rank b ≡ 0 → (x : ℕ) → Dec (x ≡ b) → cond (ltb x b) (rank x) 0 ≡ cond (ltb x (suc b)) (rank x) 0
    zero_next z x (yes e) = rw (e, le-ltb b b (omega arith), lt-ltb b (suc b) (omega arith)) (sym z)
    zero_next z x (no d) = other x d

    some_next : (x : ℕ) → Dec (x ≡ b) → cond (eqb x b) (rank b) (cond (ltb x b) (rank x) 0) ≡ cond (ltb x (suc b)) (rank x) 0
    some_next x (yes e) = rw (e, eq-eqb b b refl, lt-ltb b (suc b) (omega arith))
    some_next x (no d) = rw (ne_eqb x b d) (other x d)

    module _ (h : b < n) (es : List Entry) (s : Sets b es) where
      abbrev H : Graph
      H = after_entries es (empty n)

      abbrev e : Entry
      e = Rank (bank b) (rank b)

      last : after_entries (es ++ (e ∷ [])) (empty n) ≡ ranked H b (rank b)
      last = after_append es (e ∷ []) (empty n) ∙ unfold after_entries after_entry in refl

      due : NoneRefused (begun_after es false) (e ∷ []) H
      due = (rw s.begun (unfold due_number first_no in rw (after_banks es (empty n), lt-ltb b n h)), tt)

      sets_next : Dec (rank b ≡ 0) → Sets (suc b) (es ++ rank_of b (rank b))
      sets_next (yes z) =
          rw (rank_zero b (rank b) z, append-nil es) (record {
            none = s.none;
            begun = s.begun;
            clash = s.clash;
            is = λ x. s.is x ∙ zero_next z x (ℕ_discrete x b);
          })
      sets_next (no z) =
          rw (rank_some b (rank b) z) (record {
            none = none_append false es (e ∷ []) (empty n) s.none due;
            begun = begun_append es (e ∷ []) false ∙ unfold begun_by in s.begun;
            clash = λ x y. ap (λ (G : Graph). G.clash x y) last ∙ s.clash x y;
            is = λ x. ap (λ (G : Graph). G.rank x) last ∙ ap (cond (eqb x b) (rank b)) (s.is x) ∙ some_next x (ℕ_discrete x b);
          })

  sets : (k : ℕ) → k ≤ n → Sets k (ranks_below rank k)
  unfolding ranks_below after_entries
  sets zero h = record { none = tt; begun = refl; clash = λ x y. refl; is = λ x. sym (rw (le-ltb x 0 (omega arith))) }
  sets (suc b) h = sets_next b h (ranks_below rank b) (sets b (omega arith)) (ℕ_discrete (rank b) 0)

  -- all ranks
  abbrev E : Graph
  E = after_entries (ranks_below rank n) (empty n)

  pub sets_none : NoneRefused false (ranks_below rank n) (empty n)
  sets_none = (sets n (omega arith)).none

  pub sets_banks : E.banks ≡ n
  sets_banks = after_banks (ranks_below rank n) (empty n)

  pub sets_clash : (x y : ℕ) → E.clash x y ≡ false
  sets_clash = (sets n (omega arith)).clash

  pub sets_rank : (x : ℕ) → x < n → E.rank x ≡ rank x
  sets_rank x h = (sets n (omega arith)).is x ∙ rw (lt-ltb x n h)

  pub sets_clashes : n ≤ 1024 → ((x : ℕ) → x < n → rank x ≤ 9999) → Clashes E
  sets_clashes m f = after_clashes false (ranks_below rank n) (empty n) (ranks_fit rank n f) sets_none (no_clashes n m)
