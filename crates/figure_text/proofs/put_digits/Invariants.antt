-- `figure_text::put_digits` meets its contract. The loop's invariant: the digits from place i on are put.
-- Assumes nothing.
use Rattle.figure_text.proofs.Writing.{Placing}
use Rattle.figure_text.proofs.put_digits.Given as goal

abbrev pub invariant-loop-i : goal.invariant-loop-i
invariant-loop-i l = Placing l.begin l.count l.number l.initial.text l.text l.rest l.i
