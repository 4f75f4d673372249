-- One bank taken up.
use mathlib.Core.Bool.{Bool, true, false, cond, ◌&&◌, ◌||◌, not}
use mathlib.Core.List.{List, [], ◌∷◌, ◌++◌, append-nil}
use mathlib.Core.Logic.{◌⊎◌, inl, inr, ◌≢◌}
use mathlib.Core.Path.{◌≡◌, refl, sym, ap, ◌∙◌}
use Prim.Native.Nat.{ℕ, ◌+◌, ◌*◌, ◌/◌, ◌%◌, ◌≤◌, ◌<◌}
use native.Mathlib.Decide.{ℕ_discrete}
use native.Mathlib.Omega.{arith}
use lib.Dec.{T, eqb, ltb, eqb→eq, T_not, not_T}
use lib.ListN.{length, get_or, set, take, length-take, length-set, length-append}
use lib.Seq.{take-set-le, get_or-set_same, get_or-set_other}
use Rattle.rule.specs.Lists.{memb, filter, Sorted}
use Rattle.rule.specs.Graph.{Graph, neighbours, earlier, earlier_neighbours}
use Rattle.rule.specs.Wave.{wave, lowest_free}
use Rattle.rule.specs.Reach.{changed}
use Rattle.rule.specs.WorkList.{WorkList}
use Rattle.rule.proofs.Booleans.{and_l, and_r, both, or_l, or_r, or_cases, passes?, t_along, test_ext, eq→eqb, cond_yes, cond_no}
use Rattle.rule.proofs.Lists.{in_none, map_cong, filter_kept, filter_left}
use Rattle.rule.proofs.Neighbours.{memb_neighbours, earlier_neighbours_sorted}
use Rattle.rule.proofs.Order.{ltb_strict, earlier_irrefl}
use Rattle.rule.proofs.Waves.{earlier_neighbours_in}
use Rattle.rule.proofs.Theorems.{next_wave, step, lowest_free_members, wave_small}
use Rattle.memory.specs.inner.Counts.{standing}
use Rattle.memory.specs.Cells.{Beyond}
use Rattle.memory.specs.Plan.{slices_of}
use Rattle.memory.proofs.Fronts.{take_store, memb_snoc, beyond_set, beyond_next, beyond_refl}
use Rattle.memory.proofs.Standing.{standing_cong, standing_le, pos_standing}
use Rattle.memory.specs.Memory.{Memory, memory_of}
use Rattle.queue.specs.Queue.{waits, Dequeued}
use Rattle.recolouring.specs.declared.highest.Highest.{Highest}
use Rattle.recolouring.specs.Recolouring.{one_moved, waves_in, collected, Indexed, Collects, Assigns, later_neighbour, Notified}
use Rattle.recolouring.specs.inner.Notices.{Notifiable}
use Rattle.recolouring.specs.inner.Tops.{KeepsTop}
use Rattle.recolouring.proofs.Counting.{standing_move, moved_here}
use Rattle.recolouring.proofs.Collecting.{in_map}
use Rattle.recolouring.proofs.Notices.{later_bank, later_counts, counts_later}
use Rattle.recolouring.proofs.Shows.{few_earlier}
use Rattle.recolouring.proofs.SortedLists.{sorted_put, sorted_short}
use Rattle.steps.specs.declared.can_step.Progress.{Progress}
use Rattle.steps.specs.CanSteps.{wave_differs, Treated}
use Rattle.steps.specs.inner.Work.{Edit, new, Working}

pub changed_not : (old new : Graph) (x : ℕ) → wave old x ≡ wave new x → T (changed old new x) → ⊥
unfolding changed
changed_not old new x e c = T_not (eqb (wave old x) (wave new x)) c (eq→eqb (wave old x) (wave new x) e)

abbrev pub progress : ℕ → ℕ → Highest → Progress
progress taken moved top = record { taken = taken; moved = moved; top = top }

-- h is out of the queue
module _ {e : Edit} {m : Memory} {q q₁ : List ℕ} {p : Progress} {h : ℕ} (wk : Working e m q p) (dq : Dequeued (new e) q q₁ h) where
  abbrev G : Graph
  G = new e

  -- the stored waves
  abbrev W : ℕ → ℕ
  W v = get_or m.slices.waves v 0

  -- memory with these waves, Counts, trail and moved list
  abbrev memory_with : List ℕ → List ℕ → List ℕ → List ℕ → Memory
  memory_with ws cs tr mv = memory_of (slices_of m.slices.neighbours m.slices.degrees ws cs m.slices.ranks) tr mv m.tally

  -- what is done, and the same with h
  abbrev D : List ℕ
  D = take p.taken m.trail

  abbrev D' : List ℕ
  D' = D ++ (h ∷ [])

  done_before : (x : ℕ) → T (memb x D) → T (earlier G x h)
  done_before x i = wk.list.after x h (wk.names x i) dq.next.bank i dq.next.waits

  h_not_done : T (memb h D) → ⊥
  h_not_done i = earlier_irrefl G h (done_before h i)

  sorted_next : Sorted (earlier G) D'
  sorted_next = sorted_put (earlier G) D [] h (rw (append-nil D) wk.sorted) done_before (λ y i. absurd (in_none y i))

  names_next : (x : ℕ) → T (memb x D') → x < G.banks
  names_next x i =
      elim (or_cases (memb x D) (eqb x h) (t_along (memb_snoc D h x) i)) [
        | inl u ↦ wk.names x u
        | inr u ↦ rw (eqb→eq x h u) dq.next.bank
      ]

  -- no bank is done twice, so there is room
  pub taken_less : p.taken < (new e).banks
  taken_less =
      omega (
        arith,
        sorted_short (earlier G) (earlier_irrefl G) G.banks D' sorted_next names_next,
        length-append D (h ∷ []),
        length-take p.taken m.trail,
        wk.room,
        wk.wide_trail,
      )

  old_wave : get_or m.slices.waves h 0 ≡ wave e.old h
  old_wave = wk.stored h dq.next.bank ∙ cond_no (memb h D) (wave G h) (wave e.old h) h_not_done

  -- the lowest wave not collected is the rule wave under the new clashes
  held_is : lowest_free (collected (new e) m.slices.waves h) ≡ wave G h
  unfolding collected
  held_is =
      ap lowest_free (map_cong W (λ v. cond (memb v D) (wave G v) (wave e.old v)) (earlier_neighbours G h)
      (λ v i. wk.stored v (earlier_neighbours_in G h v i).0))
      ∙ next_wave e.old G e.a e.b wk.edit (λ x. memb x D) (waits G q) wk.list h dq.next

  wave_low : (x : ℕ) → x < G.banks → wave G x < 24
  wave_low x l = omega (arith, wave_small G x l (wk.shown.small x l))

  pub indexed : Indexed (new e) m.slices.waves m.slices.counts
  indexed = record {
    counted = wk.counted;
    small = λ x l. rw (wk.stored x l) (elim (passes? (memb x D)) [
      | inl t ↦ rw (cond_yes (memb x D) (wave G x) (wave e.old x) t) (wave_low x l)
      | inr f ↦ rw (cond_no (memb x D) (wave G x) (wave e.old x) f) (wk.small x l)
    ]);
  }

  pub counts_in : h * 24 + 24 ≤ length m.slices.counts
  counts_in = omega (arith, dq.next.bank, wk.counted.wide_counts)

  -- these waves were collected
  module _ {cells : List ℕ} (col : Collects cells (new e) m.slices.waves h) where
    lowest_is : lowest_free (waves_in cells) ≡ lowest_free (collected (new e) m.slices.waves h)
    lowest_is = lowest_free_members (waves_in cells) (collected (new e) m.slices.waves h) col.exact

    pub free_wave : lowest_free (waves_in cells) < 24
    free_wave = omega (arith, lowest_is, held_is, wave_low h dq.next.bank)

    -- and the lowest other one was assigned
    module _ {ws : List ℕ} {changes : Bool} (asg : Assigns cells m.slices.waves ws h changes) where
      abbrev o : ℕ
      o = get_or m.slices.waves h 0

      abbrev w : ℕ
      w = get_or ws h 0

      at_h : w ≡ lowest_free (waves_in cells)
      at_h = rw asg.stored (get_or-set_same m.slices.waves h (lowest_free (waves_in cells)) 0 (omega (arith, dq.next.bank, wk.wide_waves)))

      new_wave : w ≡ wave G h
      new_wave = at_h ∙ lowest_is ∙ held_is

      at_other : (x : ℕ) → x ≢ h → get_or ws x 0 ≡ get_or m.slices.waves x 0
      at_other x d = rw asg.stored (get_or-set_other m.slices.waves h x (lowest_free (waves_in cells)) 0 d)

      long_waves : length ws ≡ length m.slices.waves
      long_waves = rw asg.stored (length-set m.slices.waves h (lowest_free (waves_in cells)))

      changed_is : changes ≡ changed e.old (new e) h
      unfolding changed
      changed_is = asg.says ∙ ap (λ (k : ℕ). not (eqb o k)) (lowest_is ∙ held_is) ∙ ap (λ (k : ℕ). not (eqb k (wave G h))) old_wave

      differs_is : changes ≡ wave_differs m.slices.waves ws h
      unfolding wave_differs
      differs_is = asg.says ∙ ap (λ (k : ℕ). not (eqb o k)) (sym at_h)

      differs : T changes → o ≢ w
      differs t f = T_not (eqb o (lowest_free (waves_in cells))) (t_along asg.says t) (eq→eqb o (lowest_free (waves_in cells)) (f ∙ at_h))

      same_wave : (T changes → ⊥) → o ≡ w
      same_wave n = go (ℕ_discrete o (lowest_free (waves_in cells)))
        where
          go : Dec (o ≡ lowest_free (waves_in cells)) → o ≡ w
          go (yes f) = f ∙ sym at_h
          go (no d) =
              absurd (n (t_along (sym asg.says) (not_T (eqb o (lowest_free (waves_in cells))) (λ t. d (eqb→eq o (lowest_free (waves_in cells)) t)))))

      some_count : (x : ℕ) → T (later_neighbour (new e) h x) → 0 < get_or m.slices.counts (x * 24 + o) 0
      some_count x t =
          omega (
            arith,
            wk.counted.cell x o (later_bank wk.shown h x t) (indexed.small h dq.next.bank),
            pos_standing W o (earlier_neighbours G x) (in_map W (earlier_neighbours G x) h (later_counts wk.shown h x dq.next.bank t)),
          )

      pub notifiable : Notifiable (new e) m.slices.neighbours m.slices.degrees m.slices.ranks m.slices.counts q₁ h changes (get_or m.slices.waves h 0) (get_or ws h 0)
      notifiable = record {
        shown = wk.shown;
        bank = dq.next.bank;
        differ = differs;
        movable = λ x l. record {
          row = omega (arith, l, wk.counted.wide_counts);
          low = indexed.small h dq.next.bank;
          high = omega (arith, at_h, free_wave);
          some = some_count x;
          few = omega (
            arith,
            wk.counted.cell x w l (omega (arith, at_h, free_wave)),
            standing_le (λ v. get_or m.slices.waves v 0) w (earlier_neighbours G x),
            few_earlier wk.shown x l,
          );
        };
        queue = dq.queue;
      }

      -- the later neighbours of h, if it changed
      abbrev far : ℕ → Bool
      far x = changed e.old (new e) h && ((new e).clash h x && earlier (new e) h x)

      -- they were notified, h listed, and the next bank sought
      module _ {cs q' tr mv : List ℕ} {moves : ℕ} {top : Highest}
          (ntf : Notified (new e) m.slices.counts cs q₁ q' (get_or m.slices.waves h 0) (get_or ws h 0) (λ x. changes && later_neighbour (new e) h x))
          (trailed : tr ≡ set m.trail p.taken h)
          (listed : mv ≡ cond changes (set m.moved p.moved h) m.moved)
          (count : moves ≡ cond changes (p.moved + 1) p.moved)
          (keeps : KeepsTop p.top (get_or m.slices.waves h 0) (get_or ws h 0) top) where
        pub treated : Treated (new e) m (memory_with ws cs tr mv) q q' h p (progress (p.taken + 1) moves top)
        treated = record {
          next = dq.next;
          own = at_h ∙ lowest_is;
          others = at_other;
          one = refl;
          trail = rw trailed (take-set-le p.taken m.trail p.taken h (omega arith));
          end = rw trailed (get_or-set_same m.trail p.taken h 0 (omega (arith, taken_less, wk.wide_trail)));
          rest = rw trailed (beyond_next p.taken h m.trail m.trail (beyond_refl p.taken m.trail));
          queued = λ x l. ntf.members x l
              ∙ ap (λ (t : Bool). t || (changes && later_neighbour G h x)) (dq.members x l)
              ∙ ap (λ (t : Bool). waits G q x && not (eqb x h) || (t && later_neighbour G h x)) differs_is;
        }

        done_next : take (p.taken + 1) tr ≡ D'
        done_next = rw trailed (take_store p.taken h m.trail (omega (arith, taken_less, wk.wide_trail)))

        done_is : (x : ℕ) → memb x (take (p.taken + 1) tr) ≡ (memb x D || eqb x h)
        done_is x = ap (memb x) done_next ∙ memb_snoc D h x

        h_done : T (memb h (take (p.taken + 1) tr))
        h_done = t_along (sym (done_is h)) (or_r (memb h D) (eqb h h) (eq→eqb h h refl))

        queued_is : (x : ℕ) → x < G.banks → waits G q' x ≡ (waits G q x && not (eqb x h) || far x)
        unfolding later_neighbour
        queued_is x l =
            ntf.members x l
            ∙ ap (λ (t : Bool). t || (changes && (memb x (neighbours G h) && earlier G h x))) (dq.members x l)
            ∙ ap (λ (t : Bool). waits G q x && not (eqb x h) || (t && (memb x (neighbours G h) && earlier G h x))) changed_is
            ∙ ap (λ (t : Bool). waits G q x && not (eqb x h) || (changed e.old G h && (t && earlier G h x))) (memb_neighbours G h x l)

        list_after : WorkList e.old (new e) e.a e.b (λ x. memb x (take (p.taken + 1) tr)) (waits (new e) q')
        list_after =
            step e.old G e.a e.b wk.edit (λ x. memb x D) (waits G q) wk.list (λ x. memb x (take (p.taken + 1) tr)) (waits G q') h dq.next
            (λ x l. done_is x) queued_is

        stored_after : (x : ℕ) → x < G.banks → get_or ws x 0 ≡ cond (memb x (take (p.taken + 1) tr)) (wave G x) (wave e.old x)
        stored_after x lx = go (ℕ_discrete x h)
          where
            go : Dec (x ≡ h) → get_or ws x 0 ≡ cond (memb x (take (p.taken + 1) tr)) (wave G x) (wave e.old x)
            go (yes f) = rw f (new_wave ∙ sym (cond_yes (memb h (take (p.taken + 1) tr)) (wave G h) (wave e.old h) h_done))
            go (no d) =
                at_other x d ∙ wk.stored x lx
                ∙ ap (λ (t : Bool). cond t (wave G x) (wave e.old x)) (test_ext (memb x D) (memb x (take (p.taken + 1) tr))
                (λ i. t_along (sym (done_is x)) (or_l (memb x D) (eqb x h) i))
                (λ i. elim (or_cases (memb x D) (eqb x h) (t_along (done_is x) i)) [ inl u ↦ u | inr u ↦ absurd (d (eqb→eq x h u)) ]))

        abbrev reached : ℕ → Bool
        reached x = changes && later_neighbour (new e) h x

        cell_after : (b c : ℕ) → b < G.banks → c < 24 → get_or cs (b * 24 + c) 0 ≡ standing (λ v. get_or ws v 0) c (earlier_neighbours G b)
        cell_after b c lb lc = ntf.counts b c lc ∙ go (passes? (reached b))
          where
            go : T (reached b) ⊎ (T (reached b) → ⊥)
                → cond (reached b) (get_or (one_moved m.slices.counts b o w) (b * 24 + c) 0) (get_or m.slices.counts (b * 24 + c) 0)
                ≡ standing (λ v. get_or ws v 0) c (earlier_neighbours G b)
            go (inl t) =
                let later = and_r changes (later_neighbour G h b) t in
                let mv = notifiable.movable b lb in
                cond_yes (reached b) _ _ t
                ∙ omega (
                  arith,
                  moved_here m.slices.counts b o w mv.row mv.low mv.high (differs (and_l changes (later_neighbour G h b) t)) c lc (mv.some later),
                  standing_move ltb ltb_strict.irrefl W (λ v. get_or ws v 0) h (λ v d. sym (at_other v d)) c (earlier_neighbours G b)
                      (earlier_neighbours_sorted G b) (later_counts wk.shown h b dq.next.bank later),
                  wk.counted.cell b c lb lc,
                )
            go (inr f) =
                cond_no (reached b) _ _ f ∙ wk.counted.cell b c lb lc
                ∙ standing_cong (λ v. get_or m.slices.waves v 0) (λ v. get_or ws v 0) c (earlier_neighbours G b) (λ v i. same v i (ℕ_discrete v h))
              where
                same : (v : ℕ) → T (memb v (earlier_neighbours G b)) → Dec (v ≡ h) → get_or m.slices.waves v 0 ≡ get_or ws v 0
                same v i (no d) = sym (at_other v d)
                same v i (yes g) = rw g (same_wave (λ t. f (both changes (later_neighbour G h b) t (counts_later wk.shown h b lb (rw g at i)))))

        -- a cell beyond all banks
        cell_beyond : (j : ℕ) → G.banks * 24 ≤ j → get_or cs j 0 ≡ get_or m.slices.counts j 0
        cell_beyond j l =
            let x = j / 24 in
            let c = j % 24 in
            let at : j ≡ x * 24 + c = omega arith in
            rw at (ntf.counts x c (omega arith) ∙ cond_no (reached x) _ _ (λ t.
            (let z : ⊥ = omega (arith, later_bank wk.shown h x (and_r changes (later_neighbour G h x) t)) in z)))

        -- the moved list, with h if it changed
        abbrev MovedAfter : Type 0
        MovedAfter =
            (take moves mv ≡ filter (changed e.old (new e)) (take (p.taken + 1) tr))
            × Beyond moves mv e.was.moved × (moves ≤ p.taken + 1) × (length mv ≡ length m.moved)

        moved_after : MovedAfter
        moved_after = go changes changed_is listed count
          where
            go : (t : Bool) → t ≡ changed e.old (new e) h → mv ≡ cond t (set m.moved p.moved h) m.moved → moves ≡ cond t (p.moved + 1) p.moved
                → MovedAfter
            go true is f g = (
              rw (f, g) (take_store p.moved h m.moved (omega (arith, wk.wide_moved, wk.few, taken_less))
                  ∙ ap (λ (xs : List ℕ). xs ++ (h ∷ [])) wk.moves
                  ∙ sym (ap (filter (changed e.old G)) done_next ∙ filter_kept (changed e.old G) D h (t_along is tt))),
              rw (f, g) (beyond_next p.moved h m.moved e.was.moved wk.moved_beyond),
              omega (arith, g, wk.few),
              rw f (length-set m.moved p.moved h),
            )
            go false is f g = (
              rw (f, g) (wk.moves ∙ sym (ap (filter (changed e.old G)) done_next ∙ filter_left (changed e.old G) D h (λ t. t_along (sym is) t))),
              rw (f, g) wk.moved_beyond,
              omega (arith, g, wk.few),
              rw f refl,
            )

        pub worked : Working e (memory_with ws cs tr mv) q' (progress (p.taken + 1) moves top)
        worked = record {
          edit = wk.edit;
          shown = wk.shown;
          queue = ntf.queue;
          list = list_after;
          wide_waves = omega (arith, long_waves, wk.wide_waves);
          stored = stored_after;
          small = wk.small;
          waves_beyond = rw asg.stored (beyond_set (new e).banks h _ m.slices.waves e.was.slices.waves dq.next.bank wk.waves_beyond);
          counted = record { wide_counts = omega (arith, ntf.long, wk.counted.wide_counts); cell = cell_after };
          counts_beyond = record { long = ntf.long ∙ wk.counts_beyond.long; same = λ j l. cell_beyond j l ∙ wk.counts_beyond.same j l };
          wide_trail = rw (trailed, length-set) wk.wide_trail;
          room = omega (arith, taken_less);
          names = λ x i. names_next x (rw done_next at i);
          sorted = rw done_next sorted_next;
          trail_beyond = rw trailed (beyond_next p.taken h m.trail e.was.trail wk.trail_beyond);
          wide_moved = omega (arith, moved_after.3, wk.wide_moved);
          few = moved_after.2;
          moves = moved_after.0;
          moved_beyond = moved_after.1;
          top = rw (asg.stored ∙ ap (set m.slices.waves h) (sym at_h)) (keeps (new e).banks h m.slices.waves dq.next.bank wk.wide_waves refl wk.top);
        }
