-- Entries in turn, to none of which a refusal is due: the clashes and ranks in which they end, and the plan that is left.
use mathlib.Core.Bool.{Bool, true}
use mathlib.Core.List.{List, [], ◌∷◌, ◌++◌}
use mathlib.Core.Path.{◌≡◌, refl, sym, ap, ◌∙◌}
use Prim.Native.Nat.{ℕ, suc, ◌≤◌}
use native.Mathlib.Omega.{arith}
use lib.ListN.{length}
use borrow.Author.Tests.{leb-true}
use Rattle.rule.specs.Lists.{upto}
use Rattle.rule.specs.Graph.{Graph, neighbours, degree, empty, ranked}
use Rattle.rule.specs.Reach.{edited}
use Rattle.rule.specs.declared.Entry.{Entry}
use Rattle.rule.specs.declared.Entry.TheVariants.{Clash, Rank}
use Rattle.rule.proofs.Lists.{filter_none}
use Rattle.memory.specs.declared.Tally.{Tally}
use Rattle.memory.specs.Plan.{Slices, plan_in, tally_of, Clashes}
use Rattle.memory.proofs.Theorems.{plan_over}
use Rattle.memory.specs.Memory.{Memory}
use Rattle.planner.specs.Calls.{edit_number, accepted}
use Rattle.planner.specs.States.{State, make, set_rank, begun_by, entry_number, enter, begin}
use Rattle.planner.specs.inner.Held.{rank_number}
use Rattle.planner.proofs.Outcomes.{acceptable, edited_banks}
use Rattle.planner.proofs.After.{clashes_edited}
use Rattle.journal_fields.specs.Fields.{rank_fits}
use Rattle.journal_fields.specs.Bounds.{RanksFit}
use Rattle.journal_replay.proofs.Passing.{enter_begun}
use Rattle.journal_replay.proofs.Holds.{clashes_ranked, enter_graph, by_accepted}
use Rattle.journal_replay.specs.Ends.{after_entry, after_entries}
use Rattle.journal_replay.specs.Replay.{ReplayResult, replay_answer, ended, enter_by, enter_all}

-- no clash at all is a set of clashes
pub no_clashes : (n : ℕ) → n ≤ 1024 → Clashes (empty n)
unfolding degree neighbours
no_clashes n h = record {
  most = h;
  symmetric = λ x y l k. refl;
  apart = λ x l t. t;
  few = λ x l. omega (arith, ap length (filter_none (upto n)));
  ranks = λ x l. omega arith;
}

-- the number of an entry, by whether an edit has come and by the clashes
unfoldable pub due_number : Entry → Bool → Graph → ℕ
due_number (Clash k a b) begun G = edit_number k G a.0 b.0
due_number (Rank b r) begun G = rank_number begun b.0 G.banks

due_is : (e : Entry) (s : State) → entry_number e s ≡ due_number e s.begun s.graph
unfolding entry_number due_number
due_is (Clash k a b) s = refl
due_is (Rank b r) s = refl

-- to none of them a refusal is due
abbrev pub NoneRefused : Bool → List Entry → Graph → Type 0
NoneRefused begun [] G = Unit {0}
NoneRefused begun (e ∷ es) G = (due_number e begun G ≡ 0) × NoneRefused (begun_by e begun) es (after_entry e G)

entry_banks : (e : Entry) (G : Graph) → (after_entry e G).banks ≡ G.banks
unfolding after_entry
entry_banks (Clash k a b) G = edited_banks k G a.0 b.0
entry_banks (Rank b r) G = refl

entry_clashes : (e : Entry) (begun : Bool) (G : Graph) → rank_fits e ≡ true → due_number e begun G ≡ 0 → Clashes G → Clashes (after_entry e G)
unfolding due_number after_entry rank_fits
entry_clashes (Clash k a b) begun G f z c = clashes_edited G a.0 b.0 c k (acceptable G a.0 b.0 k z)
entry_clashes (Rank b r) begun G f z c = clashes_ranked G b.0 r (leb-true r 9999 f) c

pub after_banks : (es : List Entry) (G : Graph) → (after_entries es G).banks ≡ G.banks
unfolding after_entries
after_banks [] G = refl
after_banks (e ∷ es) G = after_banks es (after_entry e G) ∙ entry_banks e G

pub after_clashes : (begun : Bool) (es : List Entry) (G : Graph) → RanksFit es → NoneRefused begun es G → Clashes G → Clashes (after_entries es G)
unfolding after_entries
after_clashes begun [] G f d c = c
after_clashes begun (e ∷ es) G f d c = after_clashes (begun_by e begun) es (after_entry e G) f.1 d.1 (entry_clashes e begun G f.0 d.0 c)

-- some entries, and then others
pub after_append : (es fs : List Entry) (G : Graph) → after_entries (es ++ fs) G ≡ after_entries fs (after_entries es G)
unfolding after_entries
after_append [] fs G = refl
after_append (e ∷ es) fs G = after_append es fs (after_entry e G)

-- has an edit come, once these entries have?
abbrev pub begun_after : List Entry → Bool → Bool
begun_after [] begun = begun
begun_after (e ∷ es) begun = begun_after es (begun_by e begun)

pub begun_append : (es fs : List Entry) (begun : Bool) → begun_after (es ++ fs) begun ≡ begun_after fs (begun_after es begun)
begun_append [] fs begun = refl
begun_append (e ∷ es) fs begun = begun_append es fs (begun_by e begun)

pub none_append : (begun : Bool) (es fs : List Entry) (G : Graph) → NoneRefused begun es G → NoneRefused (begun_after es begun) fs (after_entries es G)
    → NoneRefused begun (es ++ fs) G
unfolding after_entries
none_append begun [] fs G d f = f
none_append begun (e ∷ es) fs G d f = (d.0, none_append (begun_by e begun) es fs (after_entry e G) d.1 f)

-- memory holds the plan of G, over what the slices held at first, and its tally with a cap of 24
pub record Over (first : Slices) (G : Graph) (m : Memory) : Type 0 where
  pub slices : m.slices ≡ plan_in G first
  pub tally : m.tally ≡ tally_of 24 G

cap_is : (G : Graph) (m : Memory) (H : Graph) → m.tally ≡ tally_of 24 G → tally_of m.tally.cap H ≡ tally_of 24 H
unfolding tally_of
cap_is G m H e = ap (λ (t : Tally). tally_of t.cap H) e

enter_over : (first : Slices) (e : Entry) (s : State) → Over first s.graph s.memory → Over first (enter e s).graph (enter e s).memory
unfolding enter make set_rank accepted
enter_over first (Clash k a b) s o = record {
  slices = ap (plan_in (edited k s.graph a.0 b.0)) o.slices ∙ plan_over s.graph _ first (edited_banks k s.graph a.0 b.0);
  tally = cap_is s.graph s.memory (edited k s.graph a.0 b.0) o.tally;
}
enter_over first (Rank b r) s o = record {
  slices = ap (plan_in (ranked s.graph b.0 r)) o.slices ∙ plan_over s.graph _ first refl;
  tally = cap_is s.graph s.memory (ranked s.graph b.0 r) o.tally;
}

pub begin_over : (n : ℕ) (m : Memory) → Over m.slices (empty n) (begin n m).memory
unfolding begin
begin_over n m = record { slices = refl; tally = refl }

-- a replay that is not refused: the bytes left over, and the plan that it leaves
pub record Ends (first : Slices) (G : Graph) (more : ℕ) (r : ReplayResult) : Type 0 where
  pub answer : r.answer ≡ replay_answer 0 0 more
  pub over : Over first G r.memory

pub enter_ends : (first : Slices) (i : ℕ) (es : List Entry) (more : ℕ) (s : State) → NoneRefused s.begun es s.graph → Over first s.graph s.memory
    → Ends first (after_entries es s.graph) more (enter_all i es 0 more s)
unfolding enter_all ended enter_by after_entries
enter_ends first i [] more s d o = record { answer = refl; over = o }
enter_ends first i (e ∷ es) more s d o =
    rw (due_is e s ∙ d.0, ← (enter_graph e s))
    (enter_ends first (suc i) es more (enter e s) (rw (enter_graph e s, ← (enter_begun e s)) d.1) (enter_over first e s o))

-- and none is refused where the number is 0
pub enter_passed : (i : ℕ) (es : List Entry) (wrong more : ℕ) (s : State) → (enter_all i es wrong more s).answer.number ≡ 0
    → NoneRefused s.begun es s.graph
unfolding enter_all
enter_passed i [] wrong more s z = tt
enter_passed i (e ∷ es) wrong more s z =
    let p = by_accepted (entry_number e s) i s (enter_all (suc i) es wrong more (enter e s)) z in
    (sym (due_is e s) ∙ p.0, rw (enter_begun e s, ← (enter_graph e s)) (enter_passed (suc i) es wrong more (enter e s) p.1))
