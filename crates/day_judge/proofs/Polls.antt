-- A poll at an offset and all of them: what is read, when its bytes are those of a poll, and that the bits set are the numbers polled before.
-- Rests on specs/Parts.antt. Assumes nothing.
use mathlib.Core.Path.{◌≡◌, refl, sym, ap, ap₂, ◌∙◌}
use mathlib.Core.Bool.{Bool, true, false, not, ◌&&◌, true≢false}
use mathlib.Core.List.{List, [], ◌++◌, append_assoc, append-nil}
use Prim.Native.Nat.{ℕ, zero, suc, ◌+◌, ◌*◌, ◌<◌, ◌≤◌}
use native.Mathlib.Omega.{arith}
use lib.Dec.{eqb, leb}
use lib.ListN.{length, drop, length-drop, drop_of_length-le}
use lib.Seq.{drop-drop}
use borrow.Author.Tests.{leb-true, le-leb}
use Rattle.loops.specs.Search.{all}
use Rattle.loops.specs.Total.{bit}
use Rattle.loops.proofs.Bools.{and_left, and_right, and_both, and_judged}
use Rattle.loops.proofs.Search.{all→}
use Rattle.loops.proofs.Total.{bit_le}
use Rattle.rules.specs.Layout.{most_bookings}
use Rattle.bits.specs.Bits.{bit_at}
use Rattle.bits.specs.Members.{set_below}
use Rattle.bits.proofs.SetBelow.{bit_at_set_below}
use Rattle.day_file.specs.Day.{DayPoll, poll_in, polled_in}
use Rattle.day_file.specs.Bytes.{number_bytes, joined, poll_bytes, polls_section}
use Rattle.day_file.specs.Decode.{Read, read_number, read_many, read_counted, read_poll}
use Rattle.day_file.specs.DayRules.{poll_passes}
use Rattle.day_file.proofs.Joined.{length_counted, length_joined_even}
use Rattle.day_file.proofs.Lengths.{length_poll_bytes}
use Rattle.day_file.proofs.Codec.{number_undone}
use Rattle.day_file.proofs.ReadMany.{length_read_many, read_many_at}
use Rattle.day_judge.specs.Parts.{Holds, HoldsMany, poll_test, PollGood, PollsGood}
use Rattle.day_judge.specs.Judged.{Decides}
use Rattle.day_judge.proofs.Walk.{left_is, many_leave, holds_row}
use Rattle.day_judge.proofs.Rows.{number_read_lem, poll_leaves}

-- ---- one poll

-- the second of two numbers
second : (x y : ℕ) → x < 65536 → y < 65536 → (r : List ℕ) → (read_number (read_number (number_bytes x ++ (number_bytes y ++ r))).rest).value ≡ y
second x y fx fy r =
    ap (λ (m : Read ℕ). (read_number m.rest).value) (number_undone.undoes x fx (number_bytes y ++ r)) ∙ ap (λ (m : Read ℕ). m.value) (number_undone.undoes y fy r)

-- 0 and 1 are outcomes
bit_small : (o : ℕ) → o ≤ 1 → bit (eqb o 1) ≡ o
bit_small zero u = refl
bit_small (suc zero) u = refl
bit_small (suc (suc o)) u = absurd (omega arith)

module _ (l a b : List ℕ) (i o : ℕ) (fi : i < 65536) (fo : o < 65536) (f : l ≡ number_bytes i ++ a) (g : a ≡ number_bytes o ++ b) where
  poll_read : read_poll l ≡ record { value = record { booking = i; success = eqb o 1 }; rest = b }
  poll_read =
      ap (λ (m : Read ℕ). let n = read_number m.rest in record { value = record { booking = m.value; success = eqb n.value 1 }; rest = n.rest }) (number_read_lem i fi f)
      ∙ ap (λ (n : Read ℕ). record { value = record { booking = i; success = eqb n.value 1 }; rest = n.rest }) (number_read_lem o fo g)

  pub poll_booking : (read_poll l).value.booking ≡ i
  poll_booking = ap (λ (m : Read DayPoll). m.value.booking) poll_read

  numbers : l ≡ number_bytes i ++ (number_bytes o ++ b)
  numbers = f ∙ ap (λ t. number_bytes i ++ t) g

  written : poll_bytes (read_poll l).value ++ (read_poll l).rest ≡ number_bytes i ++ (number_bytes (bit (eqb o 1)) ++ b)
  written = ap (λ (m : Read DayPoll). poll_bytes m.value ++ m.rest) poll_read ∙ append_assoc (number_bytes i) (number_bytes (bit (eqb o 1))) b

  outcome_holds : o ≤ 1 → Holds poll_bytes read_poll l
  outcome_holds u = numbers ∙ ap (λ x. number_bytes i ++ (number_bytes x ++ b)) (sym (bit_small o u)) ∙ sym written

  holds_outcome : Holds poll_bytes read_poll l → o ≤ 1
  holds_outcome h =
      let same : o ≡ bit (eqb o 1) = sym (second i o fi fo b) ∙ ap (λ t. (read_number (read_number t).rest).value) (sym numbers ∙ h ∙ written)
      ∙ second i (bit (eqb o 1)) fi (omega (arith, bit_le (eqb o 1))) b in
      omega (arith, bit_le (eqb o 1))

  -- the test of the two numbers tells whether the poll is good
  module _ (most : ℕ) (seen : List ℕ) where
    abbrev test : Bool
    test = not (eqb i 0) && leb i most && not (bit_at seen i)

    same_test : poll_test most seen (read_poll l).value ≡ test
    same_test = ap (λ x. not (eqb x 0) && leb x most && not (bit_at seen x)) poll_booking

    pub poll_decides : (t : Bool) → t ≡ test && leb o 1 → Decides t (PollGood most seen l)
    poll_decides t e = record {
      yes = λ y.
          let passed = sym e ∙ y in
          record { laid = outcome_holds (leb-true o 1 (and_right test (leb o 1) passed)); rules = same_test ∙ and_left test (leb o 1) passed };
      no = λ n claim. true≢false (sym (and_both test (leb o 1) (sym same_test ∙ claim.rules) (le-leb o 1 (holds_outcome claim.laid))) ∙ sym e ∙ n);
    }

-- ---- all polls

-- a section has its count
pub polls_short : (most : ℕ) (l : List ℕ) → PollsGood most l → 2 ≤ length l
polls_short most l claim = omega (arith, ap length claim.laid, length_counted poll_bytes (read_counted read_poll l).value)

module _ (sections : List ℕ) (at p : ℕ) (fp : p < 65536) (e : drop at sections ≡ number_bytes p ++ drop (at + 2) sections) where
  abbrev rows : List ℕ
  rows = drop (at + 2) sections

  abbrev polls : List DayPoll
  polls = (read_many read_poll p rows).value

  polls_are : (read_counted read_poll (drop at sections)).value ≡ polls
  polls_are = ap (λ (m : Read ℕ). (read_many read_poll m.value m.rest).value) (number_read_lem p fp e)

  polls_many : length polls ≡ p
  polls_many = length_read_many read_poll p rows

  polls_long : length (joined poll_bytes polls) ≡ 4 * p
  polls_long = omega (arith, length_joined_even poll_bytes 4 length_poll_bytes polls, polls_many)

  -- where poll q stands
  pub poll_there : (q : ℕ) → (read_many read_poll q rows).rest ≡ drop (at + 2 + 4 * q) sections
  poll_there q =
      let long : length (joined poll_bytes (read_many read_poll q rows).value) ≡ 4 * q = omega (arith, length_joined_even poll_bytes 4 length_poll_bytes (read_many read_poll q rows).value, length_read_many read_poll q rows) in
      many_leave poll_bytes read_poll poll_leaves q rows ∙ ap (λ k. drop k rows) long ∙ drop-drop (4 * q) (at + 2) sections

  -- poll q of the day
  pub poll_at_lem : (q : ℕ) → q < p → poll_in polls q ≡ (read_poll (drop (at + 2 + 4 * q) sections)).value
  poll_at_lem q u = read_many_at read_poll (record { booking = 0; success = false }) p q rows u ∙ ap (λ l. (read_poll l).value) (poll_there q)

  -- with the numbers polled before as bits, its rules are the law's
  pub poll_rules : (most q : ℕ) → most < most_bookings → q < p → poll_test most (set_below (polled_in polls) q) (read_poll (drop (at + 2 + 4 * q) sections)).value ≡ poll_passes most polls q
  unfolding poll_passes
  poll_rules most q few u =
      ap (poll_test most (set_below (polled_in polls) q)) (sym (poll_at_lem q u))
      ∙ and_judged (not (eqb (polled_in polls q) 0)) (leb (polled_in polls q) most) _ _
      (λ s. ap not (bit_at_set_below (polled_in polls) q (polled_in polls q) (omega (arith, leb-true (polled_in polls q) most s))))

  module _ (most : ℕ) where
    abbrev ruled : List DayPoll → Bool
    ruled qs = all (poll_passes most qs) (length qs)

    -- polls by the rules, with nothing behind them
    module _ (claim : PollsGood most (drop at sections)) where
      polls_laid : rows ≡ joined poll_bytes polls
      polls_laid =
          let section = claim.laid ∙ ap polls_section polls_are in
          ap (λ (m : Read ℕ). m.rest) (sym (number_read_lem p fp e) ∙ number_read_lem (length polls) (omega (arith, polls_many)) section)

      polls_hold : HoldsMany poll_bytes read_poll p rows
      polls_hold =
          let alone = polls_laid ∙ sym (append-nil (joined poll_bytes polls)) in
          alone ∙ ap (λ t. joined poll_bytes polls ++ t) (sym (left_is (joined poll_bytes) (read_many read_poll p) (many_leave poll_bytes read_poll poll_leaves p) rows [] alone))

      pub polls_end : at + 2 ≤ length sections → length sections ≡ at + 2 + 4 * p
      polls_end u = omega (arith, ap length polls_laid, polls_long, length-drop (at + 2) sections)

      pub polls_row : (q : ℕ) → q < p → Holds poll_bytes read_poll (drop (at + 2 + 4 * q) sections)
      polls_row q u = rw (poll_there q) at (holds_row poll_bytes read_poll poll_leaves p q rows u polls_hold)

      pub polls_rule : (q : ℕ) → q < p → poll_passes most polls q ≡ true
      polls_rule q u = all→ (poll_passes most polls) (length polls) (sym (ap ruled polls_are) ∙ claim.rules) q (omega (arith, polls_many))

    pub polls_whole : HoldsMany poll_bytes read_poll p rows → all (poll_passes most polls) p ≡ true → length sections ≤ at + 2 + 4 * p → PollsGood most (drop at sections)
    polls_whole laid rules past =
        let nothing : (read_many read_poll p rows).rest ≡ [] = poll_there p ∙ drop_of_length-le sections past in
        record {
          laid = e ∙ ap₂ (λ n t. number_bytes n ++ t) (sym polls_many) (laid ∙ ap (λ t. joined poll_bytes polls ++ t) nothing ∙ append-nil (joined poll_bytes polls)) ∙ ap polls_section (sym polls_are);
          rules = ap ruled polls_are ∙ ap (all (poll_passes most polls)) polls_many ∙ rules;
        }
