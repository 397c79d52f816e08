-- On a ledger the call is refused where the file has no room; else the three sections, each in what remains behind the one before it, are the first form, and the
-- marks in what remains behind it make the second.
use Rattle.std.specs.Prelude.{Err, Ok}
use mathlib.Core.Path.{◌≡◌, sym, ap, ap₂, ◌∙◌}
use mathlib.Core.List.{List, ◌++◌}
use Prim.Native.Nat.{ℕ, ◌+◌, ◌*◌, ◌-◌, ◌<◌, ◌≤◌}
use native.Mathlib.Nat.{zero-add}
use native.Mathlib.Omega.{arith}
use lib.IntN.{pos}
use lib.ListN.{length, drop, length-append}
use lib.Seq.{sets, sets-eq}
use borrow.Author.Tests.{lt-ltb, le-ltb}
use Rattle.loops.specs.Fill.{from}
use Rattle.loops.specs.Total.{total}
use Rattle.terms.specs.declared.answer.Refusal.TheVariants.{ShortBuffer}
use Rattle.terms.specs.declared.form.Form.{Form}
use Rattle.terms.specs.declared.form.Form.TheVariants.{Second}
use Rattle.terms.specs.Answers.{handover}
use Rattle.rules.specs.Layout.{bookings, setting_in, polls}
use Rattle.rules.specs.Sound.{Ledger}
use Rattle.rule_laws.proofs.Tested.{tested_known}
use Rattle.put.specs.Put.{Put}
use Rattle.put.proofs.Puts.{put_then, put_past, put_length, around, remains, length_remains, sets_remains, put_remains, sets_append}
use Rattle.day_file.specs.Day.{booking_at, holder, poll_of, day_of, marks_of}
use Rattle.day_file.specs.Bytes.{number_bytes, booking_bytes, setting_section, bookings_section, polls_section, encode, marks_section, day_file, file_of}
use Rattle.day_file.specs.InTurn.{edition_length, booking_length}
use Rattle.day_file.specs.Calls.{laid, write_file_call}
use Rattle.day_file.proofs.Joined.{length_high_first, length_counted, length_joined_even}
use Rattle.day_file.proofs.Laid.{length_laid}
use Rattle.day_file.proofs.Lengths.{length_setting_section, edition_length_most, length_bookings, length_day_file, day_file_most}
use Rattle.day_file.proofs.MarksSoFar.{marks_whole, marks_few}

module _ (w : List ℕ) where
  abbrev first : List ℕ
  first = setting_section (setting_in w)

  abbrev second : List ℕ
  second = bookings_section (from (booking_at w) 1 (bookings w - 1))

  abbrev third : List ℕ
  third = polls_section (from (λ ordinal. poll_of w (holder w ordinal)) 1 (polls w))

  length_second : length second ≡ 2 + total (booking_length w) (bookings w - 1)
  length_second = length_counted booking_bytes (from (booking_at w) 1 (bookings w - 1)) ∙ ap (λ n. 2 + n) (length_bookings w (bookings w - 1))

  pub length_second_form : length (file_of Second w) ≡ length (day_file w) + (2 + 2 * length (marks_of w))
  length_second_form =
      omega (
        arith,
        length-append (day_file w) (marks_section (marks_of w)),
        length_counted number_bytes (marks_of w),
        length_joined_even number_bytes 2 (length_high_first 2) (marks_of w),
      )

  -- 512 bookings, all of them marked
  pub second_form_most : Ledger w → length (file_of Second w) ≤ 13294
  second_form_most ledger =
      omega (
        arith,
        length_second_form,
        ap length (marks_whole w),
        marks_few w (bookings w),
        ledger.sound.bookings_most,
        day_file_most w ledger,
        edition_length_most (setting_in w).edition,
      )

  module _ (form : Form) (out : List ℕ) (ledger : Ledger w) where
    pub short : length out < length (file_of form w) → handover (Err ShortBuffer) w out ≡ write_file_call form w out
    unfolding write_file_call
    short h = rw (tested_known w ledger, lt-ltb (length out) (length (file_of form w)) h)

    pub taken : length (file_of form w) ≤ length out → handover (Ok (pos (length (file_of form w)))) w (laid (file_of form w) out) ≡ write_file_call form w out
    unfolding write_file_call
    taken room = rw (tested_known w ledger, le-ltb (length out) (length (file_of form w)) room)

  module _ (out : List ℕ) where
    -- bytes stored at the front of what has room for them
    sets_laid : (bytes : List ℕ) → length bytes ≤ length out → sets out 0 bytes ≡ laid bytes out
    sets_laid bytes room = sets-eq bytes out 0 (omega arith) ∙ ap (λ k. bytes ++ drop k out) (zero-add (length bytes))

    module _ (room : length (day_file w) ≤ length out) where
      -- ---- the room of each section

      pub room_first : 10 + edition_length (setting_in w).edition ≤ length out
      room_first = omega (arith, length_day_file w)

      module _ {out₁ : List ℕ} {at : ℕ} (p : Put out 0 first at out₁) where
        pub after_first : (at ≡ 0 + (10 + edition_length (setting_in w).edition)) × (length out₁ ≡ length out)
        after_first = put_past (10 + edition_length (setting_in w).edition) (length_setting_section (setting_in w)) p

        pub room_second : 2 + total (booking_length w) (bookings w - 1) ≤ length (remains out₁ at)
        room_second = omega (arith, length_remains out₁ at, after_first, length_day_file w)

        module _ {rest : List ℕ} {n : ℕ} (q : Put (remains out₁ at) 0 second n rest) where
          pub both : Put out 0 (first ++ second) (at + n) (around out₁ at rest)
          both = put_then p (put_remains out₁ at (omega (arith, after_first, length_day_file w)) q)

          pub after_second : (at + n ≡ 12 + edition_length (setting_in w).edition + total (booking_length w) (bookings w - 1)) × (length (around out₁ at rest) ≡ length out)
          after_second =
              let n-is = put_past (2 + total (booking_length w) (bookings w - 1)) length_second q in
              (omega (arith, after_first, n-is.0), put_length both)

          pub room_third : 2 + 4 * polls w ≤ length (remains (around out₁ at rest) (at + n))
          room_third = omega (arith, length_remains (around out₁ at rest) (at + n), after_second, length_day_file w)

          -- ---- the file

          pub all_laid : {last : List ℕ} → last ≡ sets (remains (around out₁ at rest) (at + n)) 0 third
              → around (around out₁ at rest) (at + n) last ≡ laid (day_file w) out
          unfolding encode day_of
          all_laid e =
              ap (around (around out₁ at rest) (at + n)) e
              ∙ sets_remains (around out₁ at rest) (at + n) third (omega (arith, after_second, length_day_file w))
              ∙ ap (λ l. sets l (at + n) third) both.after
              ∙ ap (λ k. sets (sets out 0 (first ++ second)) k third) both.next
              ∙ sym (sets_append out 0 (first ++ second) third)
              ∙ sets_laid (day_file w) room

    -- ---- the marks behind it

    module _ (room : length (file_of Second w) ≤ length out) {out₁ : List ℕ} (front : out₁ ≡ laid (day_file w) out) {at : ℕ} (here : at ≡ length (day_file w)) where
      pub length_front : length out₁ ≡ length out
      length_front = ap length front ∙ length_laid (day_file w) out (omega (arith, length_second_form))

      pub room_marks : 2 + 2 * length (marks_of w) ≤ length (remains out₁ at)
      room_marks = omega (arith, length_remains out₁ at, length_front, length_second_form)

      pub second_laid : {last : List ℕ} → last ≡ sets (remains out₁ at) 0 (marks_section (marks_of w)) → around out₁ at last ≡ laid (file_of Second w) out
      second_laid e =
          let marks = marks_section (marks_of w) in
          ap (around out₁ at) e
          ∙ sets_remains out₁ at marks (omega (arith, length_front, length_second_form))
          ∙ ap₂ (λ l k. sets l k marks) (front ∙ sym (sets_laid (day_file w) (omega (arith, length_second_form)))) (here ∙ sym (zero-add (length (day_file w))))
          ∙ sym (sets_append out 0 (day_file w) marks)
          ∙ sets_laid (file_of Second w) room
