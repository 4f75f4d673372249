-- An edit that is made, or made and unmade, where its trail and moved list are memory of its own.
use mathlib.Core.List.{List}
use mathlib.Core.Logic.{◌≢◌}
use mathlib.Core.Path.{◌≡◌, refl, sym, ap, ◌∙◌}
use native.Mathlib.Omega.{arith}
use Prim.Native.Nat.{ℕ, zero, suc, ◌≤◌}
use lib.ListN.{length, take, replicate, length-replicate}
use Rattle.rule.specs.Graph.{Graph}
use Rattle.rule.specs.Wave.{wave_count}
use Rattle.rule.specs.Reach.{edited, inverse, changed, on_trail, trail, moved}
use Rattle.rule.specs.declared.Kind.{Kind}
use Rattle.rule.proofs.Reaches.{ordered_few}
use Rattle.rule.proofs.Fixed.{edited_banks}
use Rattle.memory.specs.Cells.{over}
use Rattle.memory.specs.Plan.{tally_of}
use Rattle.memory.specs.Memory.{Memory, memory_of, Ready}
use Rattle.memory.proofs.Agree.{front}
use Rattle.planner.specs.declared.Answer.{Answer}
use Rattle.planner.specs.declared.Edited.{Edited}
use Rattle.planner.specs.Calls.{EditResult, edit_result, no_edit, refused, accepted, edit_number, edit_by, edit_of}
use Rattle.planner.specs.inner.Held.{graph_by, graph_after, EditMade}
use Rattle.planner.proofs.After.{inverse_due, inverse_cells}
use Rattle.capped_edits.specs.Capped.{cap_by, capped_number}
use Rattle.capped_edits.specs.inner.Within.{or_last, within_number, within_of, late_number, Tried, Kept}
use Rattle.capped_edits.proofs.Capped.{capped_first, capped_wide, no_last}

-- an edit that was made or refused, by its number
module _ {k : Kind} {G : Graph} {a b : ℕ} {m : Memory} {r : Edited} {m' : Memory} (e : EditMade k G a b m r m') where
  by_number : (c : ℕ) → edit_number k G a b ≡ c → edit_result r.answer m' ≡ edit_by c k G a b m
  unfolding edit_of
  by_number c z = e.is ∙ ap (λ (x : ℕ). edit_by x k G a b m) z

  number_by : (c : ℕ) → edit_number k G a b ≡ c → r.answer.number ≡ c
  unfolding edit_by accepted refused
  number_by zero z = ap (λ (x : EditResult). x.answer.number) (by_number zero z)
  number_by (suc c) z = ap (λ (x : EditResult). x.answer.number) (by_number (suc c) z)

  number_is : (c : ℕ) → r.answer.number ≡ c → edit_number k G a b ≡ c
  number_is c n = sym (number_by (edit_number k G a b) refl) ∙ n

  pub made : r.answer.number ≡ 0 → edit_result r.answer m' ≡ accepted k G a b m
  unfolding edit_by
  made n = by_number 0 (number_is 0 n)

  pub made_ready : r.answer.number ≡ 0 → Ready (edited k G a b) m'
  unfolding graph_after graph_by
  made_ready n = rw (number_is 0 n) at e.ready

  not_made : (c : ℕ) → r.answer.number ≡ suc c → edit_result r.answer m' ≡ refused (suc c) m
  unfolding edit_by
  not_made c n = by_number (suc c) (number_is (suc c) n)

  -- where it is made, the cap's question and the last one are left
  within_late : (last : ℕ) → r.answer.number ≡ 0 → late_number m'.tally.waves m.tally.cap last ≡ within_number m.tally.cap k G a b last
  unfolding capped_number
  within_late last n =
      ap (λ (w : ℕ). late_number w m.tally.cap last) waves_are
      ∙ ap (λ (x : ℕ). or_last (cap_by x (wave_count (edited k G a b)) m.tally.cap) last) (sym (number_is 0 n))
    where
      waves_are : m'.tally.waves ≡ wave_count (edited k G a b)
      waves_are = ap (λ (x : EditResult). x.memory.tally.waves) (made n) ∙ unfold accepted tally_of in refl

  -- refused with 4 to 8
  pub first_refused : (last : ℕ) → r.answer.number ≢ 0 → Tried k G a b last m r m'
  first_refused last n = go r.answer.number refl
    where
      go : (c : ℕ) → r.answer.number ≡ c → Tried k G a b last m r m'
      go zero z = absurd (n z)
      go (suc c) z =
          let e = not_made c z in
          record {
            number = z ∙ sym (ap (λ (x : ℕ). or_last x last) (capped_first m.tally.cap k G a b c (number_is (suc c) z)) ∙ unfold or_last in refl);
            made = λ w. absurd (n w);
            slices = λ w. ap (λ (x : EditResult). x.memory.slices) e ∙ unfold refused in refl;
            tally = λ w. ap (λ (x : EditResult). x.memory.tally) e ∙ unfold refused in refl;
          }

  -- accepted
  pub kept : (last : ℕ) → r.answer.number ≡ 0 → late_number m'.tally.waves m.tally.cap last ≡ 0 → Tried k G a b last m r m'
  kept last n z = record {
    number = n ∙ sym z ∙ within_late last n;
    made = made;
    slices = λ w. absurd (w n);
    tally = λ w. absurd (w n);
  }

  -- unmade
  module _ (ready : Ready G m) (n : r.answer.number ≡ 0) {u : Edited} {m'' : Memory} (back : EditMade (inverse k) (edited k G a b) a b m' u m'') where
    came_back-law : m''.slices ≡ m.slices
    came_back-law =
        let due = number_is 0 n in
        let once = ap (λ (x : EditResult). x.memory) (made n) in
        let twice = back_made (inverse_due k G a b m ready due) in
        ap (λ (x : EditResult). x.memory.slices) twice
        ∙ ap (λ (x : Memory). (accepted (inverse k) (edited k G a b) a b x).memory.slices) once
        ∙ inverse_cells k G a b m ready due
      where
        back_made : edit_number (inverse k) (edited k G a b) a b ≡ 0 → edit_result u.answer m'' ≡ accepted (inverse k) (edited k G a b) a b m'
        back_made z = unfold edit_of edit_by in back.is ∙ ap (λ (x : ℕ). edit_by x (inverse k) (edited k G a b) a b m') z

    pub unmade : (last c : ℕ) → c ≡ late_number m'.tally.waves m.tally.cap last → c ≢ 0
        → (v : Edited) → (v.answer ≡ no_edit c) × (v.tally ≡ m.tally)
        → Tried k G a b last m v (memory_of m''.slices m''.trail m''.moved v.tally)
    unmade last c e z v (answered, kept_tally) =
        let numbered = ap (λ (x : Answer). x.number) answered in
        record {
          number = numbered ∙ (e ∙ within_late last n);
          made = λ w. absurd (z (sym numbered ∙ w));
          slices = λ w. came_back-law;
          tally = λ w. kept_tally;
        }

-- the memory with a trail and a moved list of its own
abbrev pub own : Memory → Memory
own m = memory_of m.slices (replicate 1024 0) (replicate 1024 0) m.tally

pub own_ready : {G : Graph} {m : Memory} → Ready G m → Ready G (own m)
own_ready ready = record {
  plan = ready.plan;
  trail_room = omega (arith, ready.plan.clashes.most, length-replicate {A = ℕ} 1024 0);
  moved_room = omega (arith, ready.plan.clashes.most, length-replicate {A = ℕ} 1024 0);
}

module _ {k : Kind} {G : Graph} {a b last : ℕ} (m : Memory) {r : Edited} {o : Memory} (t : Tried k G a b last (own m) r o) where
  abbrev H : Graph
  H = edited k G a b

  within_by-law : (c : ℕ) → r.answer.number ≡ c → edit_by c k G a b m ≡ within_of k G a b last m
  unfolding within_of
  within_by-law c z = ap (λ (x : ℕ). edit_by x k G a b m) (sym z ∙ t.number)

  module _ (n : r.answer.number ≡ 0) where
    trail_is : o.trail ≡ over (trail k G H a b) (replicate 1024 0)
    trail_is = ap (λ (x : EditResult). x.memory.trail) (t.made n) ∙ unfold accepted in refl

    moved_is : o.moved ≡ over (moved G H) (replicate 1024 0)
    moved_is = ap (λ (x : EditResult). x.memory.moved) (t.made n) ∙ unfold accepted in refl

    trail_count-law : r.answer.trail ≡ length (trail k G H a b)
    trail_count-law = ap (λ (x : EditResult). x.answer.trail) (t.made n) ∙ unfold accepted in refl

    moved_count-law : r.answer.moved ≡ length (moved G H)
    moved_count-law = ap (λ (x : EditResult). x.answer.moved) (t.made n) ∙ unfold accepted in refl

    pub trail_few : r.answer.trail ≤ G.banks
    unfolding trail
    trail_few = omega (arith, trail_count-law, ordered_few H (on_trail k G H a b), edited_banks k G a b)

    pub moved_few : r.answer.moved ≤ G.banks
    unfolding moved
    moved_few = omega (arith, moved_count-law, ordered_few H (changed G H), edited_banks k G a b)

  -- what was put into the lent slices
  module _ {taken changed : ℕ} {tr mv : List ℕ} (t-put : Kept r.answer.number r.answer.trail o.trail m.trail taken tr)
      (m-put : Kept r.answer.number r.answer.moved o.moved m.moved changed mv) where
    abbrev answer : Answer
    answer = record { number = r.answer.number; moved = changed; trail = taken }

    apart_refused : (c : ℕ) → r.answer.number ≡ suc c → edit_result answer (memory_of o.slices tr mv o.tally) ≡ within_of k G a b last m
    apart_refused c z =
        let n : r.answer.number ≢ 0 = λ w. omega (arith, z, w) in
        let p = t-put.none n in
        let q = m-put.none n in
        (λ i. edit_result (record { number = z i; moved = q.0 i; trail = p.0 i }) (memory_of (t.slices n i) (p.1 i) (q.1 i) (t.tally n i)))
        ∙ unfold edit_by refused in within_by-law (suc c) z

    apart_made : r.answer.number ≡ 0 → edit_result answer (memory_of o.slices tr mv o.tally) ≡ within_of k G a b last m
    apart_made n = is ∙ unfold edit_by in within_by-law 0 n
      where
        p : (taken ≡ r.answer.trail) × (tr ≡ over (take r.answer.trail o.trail) m.trail)
        p = t-put.some n

        q : (changed ≡ r.answer.moved) × (mv ≡ over (take r.answer.moved o.moved) m.moved)
        q = m-put.some n

        tr_is : tr ≡ over (trail k G H a b) m.trail
        tr_is = p.1 ∙ ap (λ (x : List ℕ). over x m.trail) (ap (take r.answer.trail) (trail_is n) ∙ front _ _ _ (sym (trail_count-law n)))

        mv_is : mv ≡ over (moved G H) m.moved
        mv_is = q.1 ∙ ap (λ (x : List ℕ). over x m.moved) (ap (take r.answer.moved) (moved_is n) ∙ front _ _ _ (sym (moved_count-law n)))

        is : edit_result answer (memory_of o.slices tr mv o.tally) ≡ accepted k G a b m
        is = unfold accepted in
            (λ i. edit_result (record { number = r.answer.number; moved = q.0 i; trail = p.0 i }) (memory_of o.slices (tr_is i) (mv_is i) o.tally))
            ∙ (λ i. edit_result (t.made n i).answer (memory_of (t.made n i).memory.slices (over (trail k G H a b) m.trail) (over (moved G H) m.moved) (t.made n i).memory.tally))

    pub apart : edit_result answer (memory_of o.slices tr mv o.tally) ≡ within_of k G a b last m
    apart = by r.answer.number refl
      where
        by : (c : ℕ) → r.answer.number ≡ c → edit_result answer (memory_of o.slices tr mv o.tally) ≡ within_of k G a b last m
        by zero z = apart_made z
        by (suc c) z = apart_refused c z

-- under a cap of 24, with no last number, the edit as it is
pub wide_within : {k : Kind} {G : Graph} {a b last : ℕ} {m : Memory} {r : Edited} {m' : Memory} → Ready G m → 24 ≤ m.tally.cap → last ≡ 0 → EditMade k G a b m r m'
    → edit_result r.answer m' ≡ within_of k G a b last m
unfolding edit_of within_of
wide_within {k} {G} {a} {b} {last} {m} ready h z e =
    e.is ∙ ap (λ (x : ℕ). edit_by x k G a b m) (sym (capped_wide m.tally.cap k G a b ready.plan.clashes h) ∙ sym (no_last (capped_number m.tally.cap k G a b) last z))

-- what an edit under a cap answers, by its number
module _ (k : Kind) (G : Graph) (a b last : ℕ) (m : Memory) {r : EditResult} (e : r ≡ within_of k G a b last m) where
  within_is : (c : ℕ) → within_number m.tally.cap k G a b last ≡ c → r ≡ edit_by c k G a b m
  unfolding within_of
  within_is c z = e ∙ ap (λ (x : ℕ). edit_by x k G a b m) z

  by_within : (c : ℕ) → within_number m.tally.cap k G a b last ≡ c → r.answer.number ≡ c
  unfolding edit_by accepted refused
  by_within zero z = ap (λ (x : EditResult). x.answer.number) (within_is zero z)
  by_within (suc c) z = ap (λ (x : EditResult). x.answer.number) (within_is (suc c) z)

  pub within_number-law : r.answer.number ≡ within_number m.tally.cap k G a b last
  within_number-law = by_within (within_number m.tally.cap k G a b last) refl

  pub within_accepted : r.answer.number ≡ 0 → r ≡ accepted k G a b m
  unfolding edit_by
  within_accepted n = within_is 0 (sym within_number-law ∙ n)

  pub within_refused : (c : ℕ) → r.answer.number ≡ suc c → r ≡ refused (suc c) m
  unfolding edit_by
  within_refused c n = within_is (suc c) (sym within_number-law ∙ n)
