-- The edits, and the work-list from its start, step by step.
use mathlib.Core.Bool.{Bool, true, false, ◌&&◌, ◌||◌, not}
use mathlib.Core.Logic.{◌⊎◌, inl, inr, ◌≢◌}
use mathlib.Core.Path.{◌≡◌, refl, sym, ap₂}
use Prim.Native.Nat.{ℕ, ◌<◌}
use lib.Dec.{T, eqb, eqb→eq, T_not, not_T}
use Rattle.rule.specs.Graph.{Graph, earlier, pair, added, struck}
use Rattle.rule.specs.Reach.{changed}
use Rattle.rule.specs.WorkList.{OneEdit, seed, WorkList, Next}
use Rattle.rule.proofs.Booleans.{and_l, and_r, both, or_l, or_r, or_cases, passes?, t_along, eq→eqb}
use Rattle.rule.proofs.Order.{earlier_trans, earlier_total}
use Rattle.rule.proofs.Pairs.{pair_comm}
use Rattle.rule.proofs.Spread.{taken_seed, taken_spread}

or_fail : (s t : Bool) → (T t → ⊥) → s ≡ (s || t)
or_fail true t n = refl
or_fail false true n = absurd (n tt)
or_fail false false n = refl

and_pass : (s t : Bool) → (T t → ⊥) → s ≡ (s && not t)
and_pass true true n = absurd (n tt)
and_pass true false n = refl
and_pass false t n = refl

-- in a plan whose clashes go both ways, a clash added or struck is one edit
module _ (G : Graph) (symmetric : (x y : ℕ) → x < G.banks → y < G.banks → G.clash x y ≡ G.clash y x) (a b : ℕ) where
  pub added_one : OneEdit G (added G a b) a b
  added_one = record {
    same_banks = refl;
    elsewhere = λ x y hx hy n. or_fail (G.clash x y) (pair a b x y) n;
    same_ranks = λ x hx. refl;
    symmetric = λ x y hx hy. ap₂ ◌||◌ (symmetric x y hx hy) (pair_comm a b x y);
  }

  pub struck_one : OneEdit G (struck G a b) a b
  struck_one = record {
    same_banks = refl;
    elsewhere = λ x y hx hy n. and_pass (G.clash x y) (pair a b x y) n;
    same_ranks = λ x hx. refl;
    symmetric = λ x y hx hy. ap₂ (λ s t. s && not t) (symmetric x y hx hy) (pair_comm a b x y);
  }

module _ (old new : Graph) (a b : ℕ) (edit : OneEdit old new a b) where
  -- at the start the seeds wait
  pub start : WorkList old new a b (λ x. false) (seed old new a b)
  start = record {
    seeds = λ x h s. s;
    spreads = λ v x hv h d c t. absurd d;
    only_taken = λ x h s. taken_seed old new a b edit x s;
    after = λ v x hv h d q. absurd d;
  }

  -- the next bank is done; its later neighbours wait if it changed
  module _ (done queued done' queued' : ℕ → Bool) (list : WorkList old new a b done queued) (h : ℕ) (next : Next new queued h)
      (is-done : (x : ℕ) → x < new.banks → done' x ≡ (done x || eqb x h))
      (is-queued : (x : ℕ) → x < new.banks → queued' x ≡ (queued x && not (eqb x h) || changed old new h && (new.clash h x && earlier new h x))) where
    done_cases : (x : ℕ) → x < new.banks → T (done' x) → T (done x) ⊎ (x ≡ h)
    done_cases x l t = elim (or_cases (done x) (eqb x h) (t_along (is-done x l) t)) [ inl d ↦ inl d | inr e ↦ inr (eqb→eq x h e) ]

    queued_cases : (x : ℕ) → x < new.banks → T (queued' x) → (T (queued x) × (x ≢ h)) ⊎ (T (changed old new h) × T (new.clash h x && earlier new h x))
    queued_cases x l t =
        let far = new.clash h x && earlier new h x in
        elim (or_cases (queued x && not (eqb x h)) (changed old new h && far) (t_along (is-queued x l) t)) [
          | inl u ↦ inl (and_l (queued x) (not (eqb x h)) u, λ e. T_not (eqb x h) (and_r (queued x) (not (eqb x h)) u) (eq→eqb x h e))
          | inr u ↦ inr (and_l (changed old new h) far u, and_r (changed old new h) far u)
        ]

    keeps : (x : ℕ) → x < new.banks → T (done x || queued x) → T (done' x || queued' x)
    keeps x l t =
        elim (passes? (eqb x h)) [
          | inl e ↦ or_l (done' x) (queued' x) (t_along (sym (is-done x l)) (or_r (done x) (eqb x h) e))
          | inr n ↦ elim (or_cases (done x) (queued x) t) [
            | inl d ↦ or_l (done' x) (queued' x) (t_along (sym (is-done x l)) (or_l (done x) (eqb x h) d))
            | inr q ↦ or_r (done' x) (queued' x) (t_along (sym (is-queued x l)) (or_l (queued x && not (eqb x h)) _ (both (queued x) (not (eqb x h)) q (not_T (eqb x h) n))))
          ]
        ]

    pub step : WorkList old new a b done' queued'
    step = record {
      seeds = λ x l s. keeps x l (list.seeds x l s);
      spreads = λ v x lv l d c t. elim (done_cases v lv d) [
        | inl k ↦ keeps x l (list.spreads v x lv l k c t)
        | inr e ↦ or_r (done' x) (queued' x) (t_along (sym (is-queued x l)) (or_r (queued x && not (eqb x h)) _ (both (changed old new h) _ (rw e at c) (rw e at t))))
      ];
      only_taken = λ x l t. elim (or_cases (done' x) (queued' x) t) [
        | inl d ↦ elim (done_cases x l d) [
          | inl k ↦ list.only_taken x l (or_l (done x) (queued x) k)
          | inr e ↦ list.only_taken x l (or_r (done x) (queued x) (rw e next.waits))
        ]
        | inr q ↦ elim (queued_cases x l q) [
          | inl k ↦ list.only_taken x l (or_r (done x) (queued x) k.0)
          | inr k ↦ taken_spread old new a b edit h x next.bank k.1 k.0
        ]
      ];
      after = λ v x lv l d q. elim (queued_cases x l q) [
        | inl k ↦ elim (done_cases v lv d) [
          | inl f ↦ list.after v x lv l f k.0
          | inr e ↦ rw e (elim (earlier_total new h x (λ r. k.1 (sym r))) [ inl u ↦ u | inr u ↦ absurd (next.first x l k.0 u) ])
        ]
        | inr k ↦
            let u = and_r (new.clash h x) (earlier new h x) k.1 in
            elim (done_cases v lv d) [
              | inl f ↦ earlier_trans new v h x (list.after v h lv next.bank f next.waits) u
              | inr e ↦ rw e u
            ]
      ];
    }
