-- The first field of a journal, and the plan that it opens.
use mathlib.Core.Bool.{Bool, true, false, cond}
use mathlib.Core.List.{List}
use mathlib.Core.Path.{◌≡◌, refl, sym, ap, ◌∙◌}
use Prim.Native.Nat.{ℕ, zero, suc}
use native.Mathlib.Omega.{arith}
use lib.Dec.{leb}
use lib.ListN.{length, drop}
use lib.Seq.{take_all}
use borrow.Author.Tests.{le-leb}
use Rattle.rule.specs.Graph.{Graph}
use Rattle.std.specs.Prelude.{Result}
use Rattle.rule.specs.Refusals.{number_in}
use Rattle.rule.specs.declared.refusal.Refusal.{Refusal}
use Rattle.memory.specs.declared.Tally.{Tally}
use Rattle.planner.specs.Questions.{first_no}
use Rattle.memory.specs.Memory.{Memory, Ready}
use Rattle.planner.specs.States.{begin, begin_number}
use Rattle.planner.specs.inner.Held.{at, Fresh, OpensAll}
use Rattle.journal_fields.specs.Fields.{head_size, first_size, number_at, has_first, banks_in, fields}
use Rattle.journal_fields.specs.Numbers.{head_number}
use Rattle.journal_fields.proofs.Numbers.{size_few, size_first}
use Rattle.journal_replay.specs.Replay.{ReplayResult, replay_result, replay_number, replay_by, replayed}
use Rattle.journal_replay.specs.inner.Steps.{enter_fields, refused_first}

module _ (bytes : List ℕ) where
  -- all of the journal is asked about
  head_whole : head_number (length bytes) bytes ≡ cond (leb (length bytes) 60000) (cond (has_first bytes) 0 13) 9
  unfolding head_number first_no
  head_whole = rw (le-leb (length bytes) (length bytes) (omega arith), take_all (length bytes) bytes (omega arith))

  module _ (m : Memory) where
    -- a no about the first field decides
    number_head : (a b : Bool) (rest : ℕ) → (◌≡◌ {A = ℕ} (cond a (cond b 0 13) 9) 0 → ⊥) → cond a (cond b 0 13) 9 ≡ cond a (cond b rest 13) 9
    number_head true true rest z = absurd (z refl)
    number_head true false rest z = refl
    number_head false b rest z = refl

    head_number-law : (head_number (length bytes) bytes ≡ 0 → ⊥) → head_number (length bytes) bytes ≡ replay_number bytes m
    unfolding replay_number first_no
    head_number-law z = head_whole ∙ number_head (leb (length bytes) 60000) (has_first bytes) _ (λ q. z (head_whole ∙ q))

    -- without one, opening does
    rest_number : head_number (length bytes) bytes ≡ 0 → begin_number (banks_in bytes) m ≡ replay_number bytes m
    unfolding replay_number begin_number first_no
    rest_number z =
        let first : has_first bytes ≡ true = ap has_first (sym (take_all (length bytes) bytes (omega arith))) ∙ size_first (length bytes) bytes z in
        rw (le-leb (length bytes) 60000 (size_few (length bytes) bytes z), first)

    -- refused before the entries
    by_some : (c : ℕ) → (c ≡ 0 → ⊥) → replay_result (refused_first c) m ≡ replay_by c bytes m
    unfolding replay_by refused_first
    by_some zero z = absurd (z refl)
    by_some (suc c) z = refl

    refused_by : (c : ℕ) → (c ≡ 0 → ⊥) → c ≡ replay_number bytes m → replay_result (refused_first c) m ≡ replayed bytes m
    unfolding replayed
    refused_by c z e = by_some c z ∙ ap (λ (k : ℕ). replay_by k bytes m) e

    pub replay_refused : (c : ℕ) → c ≡ head_number (length bytes) bytes → (c ≡ 0 → ⊥) → replay_result (refused_first c) m ≡ replayed bytes m
    replay_refused c e z = refused_by c z (e ∙ head_number-law (λ q. z (e ∙ q)))

    by_none : (c : ℕ) → c ≡ 0 → enter_fields 2 (fields (drop first_size bytes)) (begin (banks_in bytes) m) ≡ replay_by c bytes m
    unfolding replay_by enter_fields
    by_none zero z = refl
    by_none (suc c) z = absurd (omega arith)

    module _ (head : head_number (length bytes) bytes ≡ 0) (n : ℕ) (e : n ≡ banks_in bytes) (r : Result Tally Refusal) (m' : Memory) (o : OpensAll n m r m') where
      number_opened : number_in r ≡ replay_number bytes m
      number_opened = o.number ∙ ap (λ (k : ℕ). begin_number k m) e ∙ rest_number head

      pub open_refused : (number_in r ≡ 0 → ⊥) → replay_result (refused_first (number_in r)) m' ≡ replayed bytes m
      open_refused z = ap (replay_result (refused_first (number_in r))) (o.refused z) ∙ refused_by (number_in r) z number_opened

      pub open_replayed : number_in r ≡ 0 → (x : ReplayResult) → ((G : Graph) → Ready G m' → Fresh false G → x ≡ enter_fields 2 (fields (drop first_size bytes)) (at false G m'))
          → x ≡ replayed bytes m
      unfolding replayed begin
      open_replayed z x f =
          let s = o.opened z in
          f (begin n m).graph s.ready s.fresh
          ∙ ap (λ (y : Memory). enter_fields 2 (fields (drop first_size bytes)) (at false (begin n m).graph y)) s.memory
          ∙ ap (λ (k : ℕ). enter_fields 2 (fields (drop first_size bytes)) (begin k m)) e
          ∙ by_none (replay_number bytes m) (sym number_opened ∙ z)

-- the banks' number
pub banks_read-law : (bytes : List ℕ) (n : ℕ) → n ≡ number_at head_size bytes → n ≡ banks_in bytes
unfolding banks_in
banks_read-law bytes n e = e

-- no clash has come before the first edit
pub begin_fresh : (n : ℕ) (m : Memory) → Fresh (begin n m).begun (begin n m).graph → Fresh false (begin n m).graph
unfolding begin
begin_fresh n m f = f
