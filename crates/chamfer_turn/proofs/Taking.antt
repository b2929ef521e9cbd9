-- What a cell takes, step by step: after each step the lesser of what it has and of what that neighbour offers.
-- Assumes nothing.
use mathlib.Core.Path.{◌≡◌, ◌∙◌}
use mathlib.Core.Logic.{inl, inr, ⊎_elim, by_cases}
use mathlib.Core.List.{List}
use Prim.Native.Nat.{ℕ, ◌+◌, ◌≤◌, min}
use native.Mathlib.Nat.{le_refl}
use native.Mathlib.Decide.{dec_le, ℕ_discrete}
use native.Mathlib.Omega.{arith}
use Rattle.std.specs.Prelude.{Some}
use Rattle.rules.specs.Table.{weight, Leads}
use Rattle.rules.specs.declared.Step.{Step}
use Rattle.chamfer_turn.specs.Neighbours.{Weighed, word, printed, Moved, Neighbour, offer, Offered, Lesser, Lowest}

module _ {b : Weighed} {x y k column row through : ℕ} {s : Step} (words : List ℕ) (is : s ≡ printed k)
    (a : Moved x s.1 b.board.w (Some column)) (d : Moved y s.0 b.board.h (Some row))
    (e : through ≡ word b words column row + weight b.d1 b.d2 s.2) where
  -- the neighbour is in that column and row, so it offers `through`
  bounded : {v : ℕ} → v ≤ through → (x' y' : ℕ) → Neighbour b k x y x' y' → v ≤ offer b words k x' y'
  bounded l x' y' n =
      let across : column ≡ x' = cc (a.only x' n.on_board.column_in (rw (← is) at n.leads.across)) in
      let down : row ≡ y' = cc (d.only y' n.on_board.row_in (rw (← is) at n.leads.down)) in
      rw (← across, ← down, ← is) (omega arith)

  -- the lesser is taken
  pub taken : {best v : ℕ} → v ≡ min best through → Lesser b words x y k best v
  taken {best} {v} m =
      let there_leads : Leads s x y column row = record { across = a.leads.1; down = d.leads.1 } in
      record {
        no_more = omega arith;
        no_more_through = bounded (omega arith);
        made =
            by_cases (dec_le best through) (λ l. inl (omega arith))
            (λ n.
            inr
            (record {
              k = k;
              x' = column;
              y' = row;
              step_from = le_refl k;
              step_to = omega arith;
              neighbour =
                  record {
                    leads = rw (← is) there_leads;
                    on_board = record { column_in = a.leads.0; row_in = d.leads.0 };
                  };
              offer_is = rw (← is) (omega arith);
            }));
      }

module _ {b : Weighed} {words : List ℕ} {x y from : ℕ} where
  -- what is offered by some steps is offered by more
  wider : {from' to to' v : ℕ} → from ≤ from' → to ≤ to' → Offered b words x y from' to v
      → Offered b words x y from to' v
  wider f t o =
      record {
        k = o.k;
        x' = o.x';
        y' = o.y';
        step_from = omega (arith, o.step_from);
        step_to = omega (arith, o.step_to);
        neighbour = o.neighbour;
        offer_is = o.offer_is;
      }

  -- one step more
  pub one_more : {k own best v : ℕ} → from ≤ k → Lowest b words x y from k own best → Lesser b words x y k best v
      → Lowest b words x y from (k + 1) own v
  one_more {k} f L R =
      record {
        no_more = omega (arith, L.no_more, R.no_more);
        no_more_through = λ m x' y' g t n.
            by_cases (ℕ_discrete m k) (λ e. rw e (R.no_more_through x' y' (rw e at n)))
            (λ other. omega (arith, R.no_more, L.no_more_through m x' y' g (omega arith) n));
        made =
            ⊎_elim (λ e. ⊎_elim (λ o. inl (e ∙ o)) (λ o. inr (rw e (wider (le_refl from) (omega arith) o))) L.made)
            (λ o. inr (wider f (le_refl (k + 1)) o)) R.made;
      }
