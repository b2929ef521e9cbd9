-- The flood, event by event. It begins with the far end alone in the queue. A cell that comes up and is passed over leaves
-- all as it was, and was labelled before, so its label is at most one more than that of the head: labels rise along the
-- queue, and no cell in it is more than one label past the head. A cell that enters stands last in the queue with that
-- very label, and the cell at the head is the one that shows the next lesser label beside it. When the four sides of the
-- head are done, the head moves on. When the queue is empty, every labelled cell has spread. Assumes nothing.
use mathlib.Core.Path.{◌≡◌, ◌∙◌, sym, ap, subst}
use mathlib.Core.Logic.{◌≢◌, by_cases}
use Prim.Native.Nat.{ℕ, ◌+◌, ◌≤◌, ◌<◌}
use native.Mathlib.Decide.{dec_lt, ℕ_discrete}
use native.Mathlib.Omega.{arith}
use borrow.Author.Count.{below_more}
use Rattle.rules.specs.Lane.{Neighbours}
use Rattle.rules.proofs.Lane.{neighbours_sym}
use Rattle.std.proofs.Common.{Some, None}
use Rattle.lane_flood.specs.Around.{Lies, Beside}
use Rattle.lane_flood.specs.Labelling.{Led, Labels, marks, Flow, Sided}
use Rattle.lane_flood.proofs.Around.{around}
use Rattle.lane_flood.proofs.Marks.{marks_le, marks_more}

module _ {w n : ℕ} {word : ℕ → ℕ} {v to : ℕ} where
  -- no cell has a label yet, and the far end gets the first
  pub flow_begins : (label queue : ℕ → ℕ) → to < n → v ≤ word to → queue 0 ≡ to → label to ≡ 1
      → ((c : ℕ) → c < n → c ≢ to → label c ≡ 0) → marks label n ≡ 1 → Flow w n word v to label queue 0 1
  flow_begins label queue inside broad first one none count =
      record {
        begun = omega arith;
        head_in = omega arith;
        counted = sym count;
        origin = first;
        start = one;
        queue_in = λ i h. omega (arith, ap queue (zeroth i h));
        labelled = λ i h. omega (arith, label_at i h);
        queued = λ p h l. (0, omega arith, first ∙ sym (only p h l));
        rising = λ i j h l. omega (arith, label_at i (omega arith), label_at j l);
        near = λ i h l. omega (arith, label_at i h, label_at 0 (omega arith));
        small = λ i h. omega (arith, label_at i h);
        wide = λ p h l. omega (arith, ap word (only p h l));
        last = λ p h l. only p h (omega arith);
        lesser = λ p h l. absurd (omega (arith, ap label (only p h (omega arith))));
        done = λ i p h. absurd (omega arith);
      }
    where
      zeroth : (i : ℕ) → i < 1 → i ≡ 0
      zeroth i h = omega arith

      label_at : (i : ℕ) → i < 1 → label (queue i) ≡ 1
      label_at i h = ap label (ap queue (zeroth i h) ∙ first) ∙ one

      only : (p : ℕ) → p < n → 0 < label p → p ≡ to
      only p h l = by_cases (ℕ_discrete p to) (λ e. e) (λ o. absurd (omega (arith, none p h o)))

  -- where the far end is too narrow no cell is labelled
  pub none_labelled : {label : ℕ → ℕ} → word to < v → ((c : ℕ) → c < n → label c ≡ 0)
      → Labels w n word v to label
  none_labelled narrow none =
      record {
        start = λ l. absurd (omega arith);
        spread = λ p q h l near broad mark. absurd (omega (arith, none q l));
        wide = λ p h l. absurd (omega (arith, none p h));
        last = λ p h l. absurd (omega (arith, none p h));
        descending = record {
          lesser = λ p h l. absurd (omega (arith, none p h));
          few = λ p h. omega (arith, none p h);
        };
      }

  module _ {label queue : ℕ → ℕ} {head tail : ℕ} (F : Flow w n word v to label queue head tail) where
    -- the queue itself tells the far end
    pub from_origin : Flow w n word v (queue 0) label queue head tail
    from_origin = subst (λ c. Flow w n word v c label queue head tail) (sym F.origin) F

    -- and a flood that goes on from this one has the same
    pub as_begun : {label' queue' : ℕ → ℕ} {head' tail' : ℕ} → Flow w n word v (queue 0) label' queue' head' tail'
        → Flow w n word v to label' queue' head' tail'
    as_begun {label'} {queue'} {head'} {tail'} G =
        subst (λ c. Flow w n word v c label' queue' head' tail') F.origin G

    -- no label is above the number of cells
    pub labels_few : (p : ℕ) → p < n → 0 < label p → label p ≤ n
    labels_few p h l =
        let (i, i_in, is) = F.queued p h l in
        omega (arith, F.small i i_in, ap label is, marks_le label n, F.counted)

    -- no more cells stand in the queue than there are
    pub queue_few : tail ≤ n
    queue_few = omega (arith, marks_le label n, F.counted)

    -- the cell at the head is a cell, and has a label
    pub head_cell : {c : ℕ} → head < tail → c ≡ queue head → (c < n) × (0 < label c) × (label c ≤ n)
    head_cell more is =
        let inside = F.queue_in head more in
        let l = F.labelled head more in
        rw is (inside, l, labels_few (queue head) inside l)

    -- where no cell is on a side, that side is done
    pub side_empty : {k : ℕ} → Beside w n (queue head) k None → Sided w n word v label (queue head) k
        → Sided w n word v label (queue head) (k + 1)
    side_empty {k} side S =
        record {
          each =
              λ j q h l lies broad.
              by_cases (dec_lt j k) (λ b. S.each j q b l lies broad)
              (λ o.
              let none : None ≡ Some q = side.only q l (subst (λ i. Lies w (queue head) i q) (omega arith) lies) in
              absurd (cc));
        }

    -- a cell that is passed over was labelled before
    pub side_passed : {k p : ℕ} → head < tail → Beside w n (queue head) k (Some p) → (p < n → v ≤ word p → 0 < label p)
        → Sided w n word v label (queue head) k → Sided w n word v label (queue head) (k + 1)
    side_passed {k} {p} more side old S = record { each = each }
      where
        known : (q : ℕ) → q < n → 0 < label q → (0 < label q) × (label q ≤ label (queue head) + 1)
        known q h l =
            let (i, i_in, is) = F.queued q h l in
            omega (arith, F.near i i_in more, ap label is)

        each : (j q : ℕ) → j < k + 1 → q < n → Lies w (queue head) j q → v ≤ word q
            → (0 < label q) × (label q ≤ label (queue head) + 1)
        each j q h l lies broad =
            by_cases (dec_lt j k) (λ b. S.each j q b l lies broad)
            (λ o.
            let only : Some p ≡ Some q = side.only q l (subst (λ i. Lies w (queue head) i q) (omega arith) lies) in
            let e : q ≡ p = cc in
            known q l (rw e (old (rw e at l) (rw e at broad))))

    -- the head moves on when its four sides are done
    pub head_moves : 0 < w → head < tail → Sided w n word v label (queue head) 4
        → Flow w n word v to label queue (head + 1) tail
    head_moves pos more S =
        record {
          begun = F.begun;
          head_in = omega arith;
          counted = F.counted;
          origin = F.origin;
          start = F.start;
          queue_in = F.queue_in;
          labelled = F.labelled;
          queued = F.queued;
          rising = F.rising;
          near = λ i h l. omega (arith, F.near i h more, F.rising head (head + 1) (omega arith) l);
          small = F.small;
          wide = F.wide;
          last = F.last;
          lesser = F.lesser;
          done = done;
        }
      where
        done : (i p : ℕ) → i < head + 1 → p < n → Neighbours w (queue i) p → v ≤ word p
            → (0 < label p) × (label p ≤ label (queue i) + 1)
        done i p h l near broad =
            by_cases (dec_lt i head) (λ b. F.done i p b l near broad)
            (λ o.
            let e : i ≡ head = omega arith in
            let (k, k_in, lies) = around w (queue head) p pos (rw e at near) in
            rw e (S.each k p k_in l lies broad))

    -- when the queue is empty, the labels are those of a flood
    pub flow_ends : tail ≤ head → Labels w n word v to label
    flow_ends empty =
        record {
          start = λ l. F.start;
          spread = spread;
          wide = F.wide;
          last = F.last;
          descending = record {
            lesser = F.lesser;
            few = λ p h. by_cases (dec_lt 0 (label p)) (labels_few p h) (λ o. omega arith);
          };
        }
      where
        spread : (p q : ℕ) → p < n → q < n → Neighbours w p q → v ≤ word p → 0 < label q
            → (0 < label p) × (label p ≤ label q + 1)
        spread p q l m near broad mark =
            let (i, i_in, is) = F.queued q m mark in
            let back : Neighbours w (queue i) p = subst (λ c. Neighbours w c p) (sym is) (neighbours_sym w p q near) in
            rw is at (F.done i p (omega arith) l back broad)

    -- a cell without a label enters the queue, with the next label after the head's
    module _ {label' queue' : ℕ → ℕ} (p : ℕ) (more : head < tail) (near : Neighbours w (queue head) p) (p_in : p < n)
        (broad : v ≤ word p) (free : label p ≡ 0) (new : label' p ≡ label (queue head) + 1)
        (others : (c : ℕ) → c ≢ p → label' c ≡ label c) (put : queue' tail ≡ p)
        (stay : (i : ℕ) → i ≢ tail → queue' i ≡ queue i) where
      -- a label stays
      kept : (c : ℕ) → 0 < label c → label' c ≡ label c
      kept c l = others c (λ e. omega (arith, ap label e))

      -- so does the label of each place in the queue
      place_kept : (i : ℕ) → i < tail → label' (queue' i) ≡ label (queue i)
      place_kept i h = ap label' (stay i (omega arith)) ∙ kept (queue i) (F.labelled i h)

      -- the new place has the new label
      place_new : label' (queue' tail) ≡ label (queue head) + 1
      place_new = ap label' put ∙ new

      -- what was labelled is labelled still, and no further from the head
      grown : (q c : ℕ) → 0 < label c → (0 < label q) × (label q ≤ label c + 1)
          → (0 < label' q) × (label' q ≤ label' c + 1)
      grown q c l b = rw (kept q b.0, kept c l) b

      -- the side that it stands on is done
      pub side_entered : {k : ℕ} → Beside w n (queue head) k (Some p)
          → Sided w n word v label (queue head) k → Sided w n word v label' (queue' head) (k + 1)
      side_entered {k} side S = record { each = each }
        where
          each : (j q : ℕ) → j < k + 1 → q < n → Lies w (queue' head) j q → v ≤ word q
              → (0 < label' q) × (label' q ≤ label' (queue' head) + 1)
          each j q h l lies wide =
              let at_head : queue' head ≡ queue head = stay head (omega arith) in
              let lies' : Lies w (queue head) j q = rw at_head at lies in
              by_cases (dec_lt j k)
              (λ b. rw at_head (grown q (queue head) (F.labelled head more) (S.each j q b l lies' wide)))
              (λ o.
              let only : Some p ≡ Some q = side.only q l (subst (λ i. Lies w (queue head) i q) (omega arith) lies') in
              let e : q ≡ p = cc in
              omega (arith, ap label' e, new, place_kept head more))

      -- and the flood goes on
      pub flow_enters : Flow w n word v to label' queue' head (tail + 1)
      flow_enters =
          record {
            begun = omega arith;
            head_in = omega arith;
            counted = omega (arith, F.counted, marks_more label label' p others n p_in free (omega arith));
            origin = stay 0 (omega (arith, F.begun)) ∙ F.origin;
            start = kept to (omega (arith, F.start)) ∙ F.start;
            queue_in =
                below_more (λ i. queue' i < n) tail (λ i h. omega (arith, stay i (omega arith), F.queue_in i h))
                (omega arith);
            labelled =
                below_more (λ i. 0 < label' (queue' i)) tail (λ i h. omega (arith, place_kept i h, F.labelled i h))
                (omega (arith, place_new));
            queued = queued;
            rising = rising;
            near =
                λ i h l.
                below_more (λ i. label' (queue' i) ≤ label' (queue' head) + 1) tail
                (λ i h. omega (arith, place_kept i h, place_kept head more, F.near i h more))
                (omega (arith, place_new, place_kept head more)) i h;
            small =
                below_more (λ i. label' (queue' i) ≤ i + 1) tail
                (λ i h. omega (arith, place_kept i h, F.small i h)) (omega (arith, place_new, F.small head more));
            wide = wide;
            last = last;
            lesser = lesser;
            done = done;
          }
        where
          queued : (q : ℕ) → q < n → 0 < label' q → (i : ℕ) × (i < tail + 1) × (queue' i ≡ q)
          queued q h l =
              by_cases (ℕ_discrete q p) (λ e. (tail, omega arith, put ∙ sym e))
              (λ o.
              let (i, i_in, is) = F.queued q h (omega (arith, others q o)) in
              (i, omega arith, stay i (omega arith) ∙ is))

          rising : (i j : ℕ) → i ≤ j → j < tail + 1 → label' (queue' i) ≤ label' (queue' j)
          rising i j h l =
              by_cases (dec_lt j tail)
              (λ b. omega (arith, place_kept i (omega arith), place_kept j b, F.rising i j h b))
              (λ o.
              let e : j ≡ tail = omega arith in
              by_cases (dec_lt i tail)
              (λ b. omega (arith, place_kept i b, F.near i b more, place_new, ap (λ k. label' (queue' k)) e))
              (λ o'. let e' : i ≡ j = omega arith in omega (arith, ap (λ k. label' (queue' k)) e')))

          wide : (q : ℕ) → q < n → 0 < label' q → v ≤ word q
          wide q h l =
              by_cases (ℕ_discrete q p) (λ e. rw e broad) (λ o. F.wide q h (omega (arith, others q o)))

          last : (q : ℕ) → q < n → label' q ≡ 1 → q ≡ to
          last q h l =
              by_cases (ℕ_discrete q p) (λ e. absurd (omega (arith, ap label' e, F.labelled head more)))
              (λ o. F.last q h (omega (arith, others q o)))

          lesser : Led w n label'
          lesser q h l =
              by_cases (ℕ_discrete q p)
              (λ e. (
                queue head,
                F.queue_in head more,
                subst (λ c. Neighbours w c (queue head)) (sym e) (neighbours_sym w (queue head) p near),
                omega (arith, ap label' e, kept (queue head) (F.labelled head more)),
              ))
              (λ o.
              let (r, r_in, r_near, is) = F.lesser q h (omega (arith, others q o)) in
              (r, r_in, r_near, omega (arith, others q o, kept r (omega (arith, others q o)))))

          done : (i q : ℕ) → i < head → q < n → Neighbours w (queue' i) q → v ≤ word q
              → (0 < label' q) × (label' q ≤ label' (queue' i) + 1)
          done i q h l beside wide =
              let same : queue' i ≡ queue i = stay i (omega arith) in
              rw same (grown q (queue i) (F.labelled i (omega arith)) (F.done i q h l (rw same at beside) wide))
