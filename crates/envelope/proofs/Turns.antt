-- One turn of 002's scan 3 keeps the stretches. The one thing asked of the curves is that, for columns i < u, the places
-- where i is at most u are an initial stretch. So where the new column u is strictly lower at the start of a stretch it
-- is lower all over it, and where the last stretch left holds u at a place it holds u at every place before; a stretch
-- further left wins against that holder, and so against u. u begins where the last stretch left stops holding, which is
-- no later than the first stretch taken off: there u beat its holder, which beat the one before. Assumes nothing.
use mathlib.Core.Path.{◌≡◌, refl, sym, subst}
use mathlib.Core.Logic.{◌⊎◌, inl, inr, ⊎_elim, by_cases}
use Prim.Native.Nat.{ℕ, zero, suc, ◌+◌, ◌≤◌, ◌<◌}
use native.Mathlib.Nat.{le_refl, le_of_lt, le_trans, lt_of_le_of_lt, lt_of_lt_of_le, lt_of_not-le, not-le_of_lt, eq-or-lt_of_le, le_of_suc-le-suc}
use native.Mathlib.Numerals.{add-one}
use native.Mathlib.Decide.{dec_le, dec_lt}
use native.Mathlib.Omega.{arith}
use Rattle.gauge.specs.Line.{Wins}
use Rattle.envelope.specs.Stretches.{Within, Stretches, Kept, Against, Turn}

-- a number below u + 1 is u or below u
at_most : {u i : ℕ} → i < u + 1 → (i ≡ u) ⊎ (i < u)
at_most h = eq-or-lt_of_le (omega arith)

-- starts that rise from each stretch to the next rise over any number of stretches
pub rise : {m : ℕ} (t : ℕ → ℕ) → ((k : ℕ) → k + 1 < m → t k < t (k + 1)) → (k j : ℕ) → k < j → j < m → t k < t j
rise t next k zero h l = absurd (omega arith)
rise {m} t next k (suc j) h l =
    let step : t j < t (suc j) = subst (λ a. t j < t a) (add-one j) (next j (omega arith)) in
    ⊎_elim (λ e. subst (λ a. t a < t (suc j)) (sym e) step)
    (λ b. let before : t k < t j = rise t next k j b (omega arith) in omega arith)
    (eq-or-lt_of_le (omega arith))

module _ (height : ℕ → ℕ → ℕ) where
  -- a winner that the next column does not undercut stays the winner
  wins_still : {u x i : ℕ} → Wins height u x i → height i x ≤ height u x → Wins height (u + 1) x i
  wins_still {u} {x} {i} w le =
      record {
        column_in = omega (arith, w.column_in);
        lowest = λ i' h. ⊎_elim (λ e. subst (λ k. height i x ≤ height k x) (sym e) le) (λ l. w.lowest i' l) (at_most h);
        least_column = λ i' h e. ⊎_elim (λ q. omega (arith, w.column_in)) (λ l. w.least_column i' l e) (at_most h);
      }

  -- a column that is strictly lower than the winner of all before it is the next winner
  wins_now : {u x i : ℕ} → Wins height u x i → height u x < height i x → Wins height (u + 1) x u
  wins_now {u} {x} {i} w lt =
      record {
        column_in = omega arith;
        lowest =
            λ i' h.
            ⊎_elim (λ e. subst (λ k. height u x ≤ height k x) (sym e) (le_refl (height u x)))
            (λ l. omega (arith, w.lowest i' l))
            (at_most h);
        least_column = λ i' h e. ⊎_elim (λ q. omega arith) (λ l. absurd (omega (arith, w.lowest i' l))) (at_most h);
      }

  -- the first column alone: one stretch, from the first place
  pub one_stretch : {n : ℕ} (t s : ℕ → ℕ) → 0 < n → t 0 ≡ 0 → s 0 ≡ 0 → Stretches height n 1 1 t s
  one_stretch {n} t s line t0 s0 =
      record {
        some = le_refl 1;
        first = t0;
        on_line = λ k h. let z : k ≡ 0 = omega arith in subst (λ j. t j < n) (sym z) (omega arith);
        rising = λ k h. absurd (omega arith);
        order = λ k h. absurd (omega arith);
        few = le_refl 1;
        winner = λ k x w. subst (λ i. Wins height 1 x i) (sym (holder k w.stretch_in)) (alone x);
      }
    where
      holder : (k : ℕ) → k < 1 → s k ≡ 0
      holder k h = let z : k ≡ 0 = omega arith in subst (λ j. s j ≡ 0) (sym z) s0

      alone : (x : ℕ) → Wins height 1 x 0
      alone x =
          record {
            column_in = omega arith;
            lowest = λ i' h. let z : i' ≡ 0 = omega arith in subst (λ j. height 0 x ≤ height j x) (sym z) (le_refl (height 0 x));
            least_column = λ i' h e. omega arith;
          }

  module _ {n u m : ℕ} {t s : ℕ → ℕ} (S : Stretches height n u m t s) where
    -- starts never fall from stretch to stretch
    starts_mount : (k j : ℕ) → k ≤ j → j < m → t k ≤ t j
    starts_mount k j h l =
        ⊎_elim (λ e. subst (λ a. t k ≤ t a) e (le_refl (t k))) (λ b. le_of_lt (rise t S.rising k j b l)) (eq-or-lt_of_le h)

    -- the start of a stretch lies in it
    start_within : (k : ℕ) → k < m → Within n m t k (t k)
    start_within k h =
        record { stretch_in = h; from = le_refl (t k); on_line = S.on_line k h; before_next = λ l. S.rising k l }

    -- the holder of a stretch is one of the columns taken so far
    pub holder_in : (k : ℕ) → k < m → s k < u
    holder_in k h = (S.winner k (t k) (start_within k h)).column_in

    -- every place of the line lies in some stretch: the last one that starts at or before it
    find : (x : ℕ) → x < n → (c : ℕ) → c ≤ m → ((k : ℕ) → c ≤ k → k < m → x < t k) → (k : ℕ) × Within n m t k x
    find x on zero h rest = absurd (omega (arith, S.first, rest 0 (omega arith) S.some))
    find x on (suc c) h rest =
        by_cases (dec_le (t c) x)
        (λ le. (c, record { stretch_in = h; from = le; on_line = on; before_next = λ l. rest (c + 1) (omega arith) l }))
        (λ no_le. find x on c (omega arith) (λ k ck km. ⊎_elim (λ e. subst (λ j. x < t j) e (lt_of_not-le no_le)) (λ l. rest k l km) (eq-or-lt_of_le ck)))

    -- the stretch of a place
    pub stretch_of : (x : ℕ) → x < n → (k : ℕ) × Within n m t k x
    stretch_of x on = find x on m (le_refl m) (λ k a b. absurd (omega arith))

    module _ (initial : (i x x' : ℕ) → i < u → x' ≤ x → height i x ≤ height u x → height i x' ≤ height u x') where
      -- where u is strictly lower than an earlier column it stays so from there on
      lower_on : (i x x' : ℕ) → i < u → x ≤ x' → height u x < height i x → height u x' < height i x'
      lower_on i x x' h l lt = lt_of_not-le (λ le. not-le_of_lt lt (initial i x' x h l le))

      module _ {kept m' : ℕ} {t' s' : ℕ → ℕ} (T : Turn height n u m t s kept m' t' s') where
        -- over a stretch taken off u is lower than the holder
        over_taken : (k x : ℕ) → kept ≤ k → Within n m t k x → height u x < height (s k) x
        over_taken k x h w =
            lower_on (s k) (t k) x (holder_in k w.stretch_in) w.from (T.kept_is.taken k h w.stretch_in)

        -- the last stretch left starts before the place where u begins
        start_before : (j : ℕ) → j + 1 ≡ kept → t j < T.place
        start_before j e =
            lt_of_not-le
            (λ le.
            let jm : j < m = omega (arith, T.kept_is.most) in
            let on : T.place < n = lt_of_le_of_lt le (S.on_line j jm) in
            not-le_of_lt ((T.place_is.after_last j e).stops on)
            (initial (s j) (t j) T.place (holder_in j jm) le (T.kept_is.stays j e)))

        -- u begins no later than the first stretch taken off
        begins_by : kept < m → T.place ≤ t kept
        begins_by h = by_zero kept refl
          where
            by_zero : (c : ℕ) → c ≡ kept → T.place ≤ t kept
            by_zero zero e = omega (arith, T.place_is.all_taken (sym e))
            by_zero (suc j) e =
                let e' : j + 1 ≡ kept = omega arith in
                let jm : j < m = omega arith in
                le_of_suc-le-suc
                (lt_of_not-le
                (λ lt.
                not-le_of_lt (T.kept_is.taken kept (le_refl kept) h)
                (le_trans ((S.winner kept (t kept) (start_within kept h)).lowest (s j) (holder_in j jm)) ((T.place_is.after_last j e').holds (t kept) lt))))

        -- a place before the one where u begins is won by the holder that won it before, if its stretch is left
        held : (k x : ℕ) → k < kept → Within n m t k x → x < T.place → Wins height (u + 1) x (s k)
        held k x h w lt = by_last kept refl
          where
            by_last : (c : ℕ) → c ≡ kept → Wins height (u + 1) x (s k)
            by_last zero e = absurd (omega arith)
            by_last (suc j) e =
                let e' : j + 1 ≡ kept = omega arith in
                let jm : j < m = omega (arith, T.kept_is.most) in
                let old : Wins height u x (s k) = S.winner k x w in
                wins_still old (le_trans (old.lowest (s j) (holder_in j jm)) ((T.place_is.after_last j e').holds x lt))

        -- from the place where it begins u wins
        taken_over : (x : ℕ) → T.place < n → T.place ≤ x → x < n → Wins height (u + 1) x u
        taken_over x on from h =
            let k : ℕ = (stretch_of x h).0 in
            let w : Within n m t k x = (stretch_of x h).1 in
            wins_now (S.winner k x w)
            (by_cases (dec_le kept k) (λ le. over_taken k x le w) (λ no_le. last k w (lt_of_not-le no_le) kept refl))
          where
            last : (k : ℕ) → Within n m t k x → k < kept → (c : ℕ) → c ≡ kept → height u x < height (s k) x
            last k w l zero e = absurd (omega arith)
            last k w l (suc j) e =
                let e' : j + 1 ≡ kept = omega arith in
                let jm : j < m = omega (arith, T.kept_is.most) in
                let before : t j < T.place = start_before j e' in
                ⊎_elim
                (λ q.
                subst (λ i. height u x < height (s i) x) (sym q)
                (lower_on (s j) T.place x (holder_in j jm) from ((T.place_is.after_last j e').stops on)))
                (λ kj.
                let next : x < t (k + 1) = w.before_next (omega arith) in
                let most : t (k + 1) ≤ t j = starts_mount (k + 1) j (omega arith) jm in
                absurd (omega arith))
                (eq-or-lt_of_le (omega arith))

        -- where u begins on the line: the stretches left, and its own
        turned_begins : T.place < n → Stretches height n (u + 1) m' t' s'
        turned_begins on =
            record {
              some = omega (arith, number);
              first = first_start kept refl;
              on_line = λ k h. split (λ a. t' a < n) k h (λ l. subst (λ a. a < n) (sym (T.starts_stay k l)) (S.on_line k (left l))) (omega (arith, start));
              rising = λ k h. rises k h;
              order = λ k h. ordered k h;
              few = omega (arith, number, most, S.few);
              winner = λ k x w. won k x w;
            }
          where
            most : kept ≤ m
            most = T.kept_is.most

            number : m' ≡ kept + 1
            number = (T.on_line on).0

            start : t' kept ≡ T.place
            start = (T.on_line on).1

            left : {k : ℕ} → k < kept → k < m
            left l = omega (arith, most)

            split : (P : ℕ → Type 0) (k : ℕ) → k < m' → (k < kept → P k) → P kept → P k
            split P k h f g = ⊎_elim (λ e. subst P (sym e) g) f (at_most (omega (arith, number)))

            first_start : (c : ℕ) → c ≡ kept → t' 0 ≡ 0
            first_start zero e = subst (λ a. t' a ≡ 0) (sym e) (omega (arith, start, T.place_is.all_taken (sym e)))
            first_start (suc j) e = omega (arith, T.starts_stay 0 (omega arith), S.first)

            next_start : (k : ℕ) → k < kept → ((k + 1 < kept) × (t' (k + 1) ≡ t (k + 1))) ⊎ ((k + 1 ≡ kept) × (t' (k + 1) ≡ T.place))
            next_start k l =
                ⊎_elim (λ e. inr (e, subst (λ a. t' a ≡ T.place) (sym e) start)) (λ b. inl (b, T.starts_stay (k + 1) b))
                (eq-or-lt_of_le (omega arith))

            rises : (k : ℕ) → k + 1 < m' → t' k < t' (k + 1)
            rises k h =
                let l : k < kept = omega (arith, number) in
                let here : t' k ≡ t k = T.starts_stay k l in
                ⊎_elim (λ b. omega (arith, b.1, S.rising k (omega (arith, most, b.0)))) (λ e. omega (arith, e.1, start_before k e.0))
                (next_start k l)

            -- u comes after every holder
            ordered : (k : ℕ) → k + 1 < m' → s' k < s' (k + 1)
            ordered k h =
                let l : k < kept = omega (arith, number) in
                let here : s' k ≡ s k = T.holders_stay k l in
                ⊎_elim
                (λ e. subst (λ a. s' k < s' a) (sym e) (omega (arith, here, (T.on_line on).2, holder_in k (left l))))
                (λ b. omega (arith, here, T.holders_stay (k + 1) b, S.order k (omega (arith, most))))
                (eq-or-lt_of_le (omega arith))

            before_place : (k x : ℕ) → k < kept → x < t' (k + 1) → x < T.place
            before_place k x l h = by_last kept refl
              where
                by_last : (c : ℕ) → c ≡ kept → x < T.place
                by_last zero e = absurd (omega arith)
                by_last (suc j) e =
                    let e' : j + 1 ≡ kept = omega arith in
                    ⊎_elim
                    (λ b. omega (arith, b.1, starts_mount (k + 1) j (omega (arith, b.0)) (omega (arith, most)), start_before j e'))
                    (λ q. omega (arith, q.1))
                    (next_start k l)

            was_within : (k x : ℕ) → k < kept → x < t' (k + 1) → Within n m' t' k x → Within n m t k x
            was_within k x l h w =
                record {
                  stretch_in = left l;
                  from = subst (λ a. a ≤ x) (T.starts_stay k l) w.from;
                  on_line = w.on_line;
                  before_next =
                      λ km.
                      ⊎_elim (λ b. omega (arith, b.1))
                      (λ q.
                      subst (λ a. x < t a) (sym q.0)
                      (lt_of_lt_of_le (before_place k x l h) (begins_by (subst (λ a. a < m) q.0 km))))
                      (next_start k l);
                }

            won : (k x : ℕ) → Within n m' t' k x → Wins height (u + 1) x (s' k)
            won k x w =
                split (λ a. Within n m' t' a x → Wins height (u + 1) x (s' a)) k w.stretch_in
                (λ l v.
                let h : x < t' (k + 1) = v.before_next (omega (arith, number)) in
                subst (λ i. Wins height (u + 1) x i) (sym (T.holders_stay k l)) (held k x l (was_within k x l h v) (before_place k x l h)))
                (λ v. subst (λ i. Wins height (u + 1) x i) (sym (T.on_line on).2) (taken_over x on (omega (arith, start, v.from)) v.on_line))
                w

        -- where u begins past the line: every stretch is left as it was
        turned_ends : n ≤ T.place → Stretches height n (u + 1) m' t' s'
        turned_ends off =
            record {
              some = omega (arith, number, all, S.some);
              first = omega (arith, T.starts_stay 0 (omega (arith, all, S.some)), S.first);
              on_line = λ k h. subst (λ a. a < n) (sym (T.starts_stay k (left h))) (S.on_line k (omega (arith, number, all)));
              rising =
                  λ k h.
                  omega (arith, T.starts_stay k (left (omega arith)), T.starts_stay (k + 1) (left h), S.rising k (omega (arith, number, all)));
              order =
                  λ k h.
                  omega (arith, T.holders_stay k (left (omega arith)), T.holders_stay (k + 1) (left h), S.order k (omega (arith, number, all)));
              few = omega (arith, number, all, S.few);
              winner = λ k x w. won k x w;
            }
          where
            most : kept ≤ m
            most = T.kept_is.most

            all : kept ≡ m
            all =
                ⊎_elim (λ e. e) (λ l. absurd (omega (arith, begins_by l, S.on_line kept l))) (eq-or-lt_of_le most)

            number : m' ≡ kept
            number = T.past_line off

            left : {k : ℕ} → k < m' → k < kept
            left h = omega (arith, number)

            was_within : (k x : ℕ) → Within n m' t' k x → Within n m t k x
            was_within k x w =
                record {
                  stretch_in = omega (arith, w.stretch_in, number, all);
                  from = subst (λ a. a ≤ x) (T.starts_stay k (left w.stretch_in)) w.from;
                  on_line = w.on_line;
                  before_next =
                      λ l. subst (λ a. x < a) (T.starts_stay (k + 1) (omega (arith, all))) (w.before_next (omega (arith, all, number)));
                }

            won : (k x : ℕ) → Within n m' t' k x → Wins height (u + 1) x (s' k)
            won k x w =
                let l : k < kept = left w.stretch_in in
                subst (λ i. Wins height (u + 1) x i) (sym (T.holders_stay k l)) (held k x l (was_within k x w) (lt_of_lt_of_le w.on_line off))

        -- a turn keeps the stretches
        pub turned : Stretches height n (u + 1) m' t' s'
        turned = by_cases (dec_lt T.place n) turned_begins (λ past. turned_ends (le_of_suc-le-suc (lt_of_not-le past)))

    -- the last stretch kept is held against u from the first place on
    pub against : ((i x x' : ℕ) → i < u → x' ≤ x → height i x ≤ height u x → height i x' ≤ height u x') → {kept : ℕ}
        → Kept height u m t s kept → Against height u s kept
    against initial K =
        record {
          before = λ k e. holder_in k (omega (arith, K.most));
          first = λ k e. initial (s k) (t k) 0 (holder_in k (omega (arith, K.most))) (omega arith) (K.stays k e);
        }
