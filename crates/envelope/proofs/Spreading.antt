-- Scan 4, place by place from the right. The place before x lies in stretch q − 1; it gets that stretch's holder, and
-- where the stretch starts at it the scan goes on in the stretch before. A place lies in one stretch, since starts rise.
-- Assumes nothing.
use mathlib.Core.Path.{◌≡◌, sym, ◌∙◌, ap, subst}
use mathlib.Core.Logic.{⊎_elim, by_cases}
use mathlib.Core.List.{List}
use Prim.Native.Nat.{ℕ, ◌+◌, ◌-◌, ◌≤◌, ◌<◌}
use native.Mathlib.Nat.{le_refl, eq-or-lt_of_le}
use native.Mathlib.Decide.{dec_lt, ℕ_discrete}
use native.Mathlib.Omega.{arith}
use lib.ListN.{length, get_or, set, length-set}
use lib.Seq.{get_or-set_same, get_or-set_other}
use Rattle.gauge.specs.Line.{Wins}
use Rattle.envelope.specs.Stretches.{starts, holders, Within, Stretches, Spreads, Spread}
use Rattle.envelope.proofs.Turns.{rise, stretch_of}

module _ {n m : ℕ} (t : ℕ → ℕ) (next : (k : ℕ) → k + 1 < m → t k < t (k + 1)) where
  -- no place lies in two stretches
  no_later : {k j x : ℕ} → Within n m t k x → Within n m t j x → k < j → ⊥
  no_later {k} {j} {x} w v l =
      let before : x < t (k + 1) = w.before_next (omega (arith, v.stretch_in)) in
      ⊎_elim (λ e. omega (arith, v.from, ap t e)) (λ (b : k + 1 < j). omega (arith, v.from, rise t next (k + 1) j b v.stretch_in))
      (eq-or-lt_of_le (omega arith))

  one_stretch_only : {k j x : ℕ} → Within n m t k x → Within n m t j x → k ≡ j
  one_stretch_only {k} {j} w v =
      by_cases (dec_lt k j) (λ l. absurd (no_later w v l))
      (λ a. by_cases (dec_lt j k) (λ l. absurd (no_later v w l)) (λ b. omega arith))

-- the scan has come down to place x, with q stretches left
pub record Spreading (work : List ℕ) (m n : ℕ) (winners : List ℕ) (q x : ℕ) : Type 0 where
  pub as_long : length winners ≡ n
  pub places : x ≤ n
  pub most : q ≤ m
  pub some : 0 < x → 1 ≤ q
  pub inside : 0 < x → Within n m (starts work) (q - 1) (x - 1)
  pub done : (k y : ℕ) → x ≤ y → Within n m (starts work) k y → get_or winners y 0 ≡ holders n work k

module _ {work : List ℕ} {m n : ℕ} (S : Spreads work m n) where
  -- at the right end the last stretch is next
  pub spread_start : {winners : List ℕ} → length winners ≡ n → Spreading work m n winners m n
  spread_start e =
      record {
        as_long = e;
        places = le_refl n;
        most = le_refl m;
        some = λ h. S.some;
        inside =
            λ h.
            record {
              stretch_in = omega (arith, S.some);
              from = let l = S.on_line (m - 1) (omega (arith, S.some)) in omega arith;
              on_line = omega arith;
              before_next = λ l. absurd (omega arith);
            };
        done = λ k y h w. absurd (omega (arith, w.on_line));
      }

  module _ {winners : List ℕ} {q x : ℕ} (P : Spreading work m n winners q x) (some : 0 < x) where
    -- the place gets its holder
    stored : (k y : ℕ) → x - 1 ≤ y → Within n m (starts work) k y
        → get_or (set winners (x - 1) (holders n work (q - 1))) y 0 ≡ holders n work k
    stored k y h w =
        by_cases (ℕ_discrete y (x - 1))
        (λ e.
        let w' : Within n m (starts work) k (x - 1) = subst (λ a. Within n m (starts work) k a) e w in
        let k_is : q - 1 ≡ k = one_stretch_only (starts work) S.rising (P.inside some) w' in
        subst (λ a. get_or (set winners (x - 1) (holders n work (q - 1))) a 0 ≡ holders n work k) (sym e)
        (get_or-set_same winners (x - 1) (holders n work (q - 1)) 0 (omega (arith, P.as_long, P.places))
        ∙ ap (holders n work) k_is))
        (λ other.
        get_or-set_other winners (x - 1) y (holders n work (q - 1)) 0 other ∙ P.done k y (omega arith) w)

    -- the stretch starts here: the one before is next
    pub spread_start_of : starts work (q - 1) ≡ x - 1
        → Spreading work m n (set winners (x - 1) (holders n work (q - 1))) (q - 1) (x - 1)
    spread_start_of e =
        record {
          as_long = length-set winners (x - 1) (holders n work (q - 1)) ∙ P.as_long;
          places = omega (arith, P.places);
          most = omega (arith, P.most);
          some = more;
          inside =
              λ h.
              record {
                stretch_in = omega (arith, (P.inside some).stretch_in);
                from = omega (arith, rises h);
                on_line = omega (arith, P.places);
                before_next =
                    λ l. let last : q - 1 - 1 + 1 ≡ q - 1 = omega (arith, more h) in subst (λ a. x - 1 - 1 < starts work a) (sym last) (omega arith);
              };
          done = stored;
        }
      where
        more : 0 < x - 1 → 1 ≤ q - 1
        more h = by_cases (ℕ_discrete (q - 1) 0) (λ z. absurd (omega (arith, S.first, ap (starts work) z))) (λ z. omega arith)

        rises : 0 < x - 1 → starts work (q - 1 - 1) < x - 1
        rises h =
            let last : q - 1 - 1 + 1 ≡ q - 1 = omega (arith, more h) in
            let up = S.rising (q - 1 - 1) (omega (arith, more h, (P.inside some).stretch_in)) in
            omega (arith, up, ap (starts work) last)

    -- the stretch goes on to the left
    pub spread_within : (starts work (q - 1) ≡ x - 1 → ⊥)
        → Spreading work m n (set winners (x - 1) (holders n work (q - 1))) q (x - 1)
    spread_within other =
        record {
          as_long = length-set winners (x - 1) (holders n work (q - 1)) ∙ P.as_long;
          places = omega (arith, P.places);
          most = P.most;
          some = λ h. P.some some;
          inside =
              λ h.
              let w = P.inside some in
              record {
                stretch_in = w.stretch_in;
                from = omega (arith, w.from);
                on_line = omega (arith, P.places);
                before_next = λ l. omega (arith, w.before_next l);
              };
          done = stored;
        }

  -- at the left end every place has its holder
  pub spread_end : {winners : List ℕ} {q x : ℕ} → Spreading work m n winners q x → x ≤ 0 → Spread work m n winners
  spread_end P z = record { holder = λ k y w. P.done k y (omega arith) w }

module _ {height : ℕ → ℕ → ℕ} {n m : ℕ} {work : List ℕ} (S : Stretches height n n m (starts work) (holders n work)) where
  -- the stretches of a whole line can be spread over as many places
  pub spreads_of : {places : ℕ} → places ≡ n → length work ≡ n + n → Spreads work m places
  spreads_of e room =
      record {
        words = omega arith;
        some = S.some;
        most = omega (arith, S.few);
        first = S.first;
        on_line = λ k h. omega (arith, S.on_line k h);
        rising = S.rising;
      }

  -- and each place then has the winner
  pub wins_spread : {places : ℕ} {winners : List ℕ} → places ≡ n → Spread work m places winners → (x : ℕ) → x < n
      → Wins height n x (get_or winners x 0)
  wins_spread {places} {winners} e P x h =
      let k : ℕ = (stretch_of height S x h).0 in
      let w : Within n m (starts work) k x = (stretch_of height S x h).1 in
      subst (λ i. Wins height n x i) (sym ((subst (λ p. Spread work m p winners) e P).holder k x w)) (S.winner k x w)
