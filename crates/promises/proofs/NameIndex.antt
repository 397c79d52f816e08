-- The promises of the name index, from the laws of probing and of the built index. Assumes nothing.
use Rattle.std.specs.Prelude.{Err, Ok, Some}
use mathlib.Core.Path.{◌≡◌, refl, sym, ap, ◌∙◌}
use mathlib.Core.Bool.{Bool, true, false, cond, true≢false}
use mathlib.Core.List.{List, [], ◌∷◌}
use Prim.Native.Nat.{ℕ, ◌+◌}
use native.Mathlib.Omega.{arith}
use lib.IntN.{pos}
use Rattle.terms.specs.Answers.{is_taken, done, handover, Answer, Tested}
use Rattle.rules.specs.Layout.{bookings, name_of}
use Rattle.rules.specs.Book.{look_up, number_of}
use Rattle.rules.specs.Sound.{Ledger}
use Rattle.rules.specs.Calls.{test_of, unless_stopped, asked_of, book_call, poll_call}
use Rattle.rule_laws.proofs.Calls.{zero_taken, taken_zero}
use Rattle.rule_laws.proofs.Lookup.{found_is}
use Rattle.rule_laws.proofs.Tested.{fine_ledger, reading_found}
use Rattle.name_index.specs.Index.{cell, is_empty, home, tried, probe, look_up_in, newest, with_number, built}
use Rattle.name_index.specs.Calls.{index_enter_call, index_find_call}
use Rattle.name_index.proofs.Tested.{index_tested_lem, enter_room, find_known}
use Rattle.name_index.proofs.Probing.{found_plain, met_found, first_empty}
use Rattle.name_index.proofs.Built.{built_whole, built_look_up, built_same, built_more, built_free}
use Rattle.promises.specs.Run.{Call, Open, Book, Poll, Ask, WriteFile, ReadFile, IndexBuild, IndexEnter, IndexFind, outcome_of, step, run}
use Rattle.promises.specs.Acceptance.{renews, NoneRenews}
use Rattle.promises.specs.NameIndex.{
  BuiltFinds,
  BuiltNumbers,
  ProbingFinds,
  FoundIsPlain,
  BuildMakes,
  EnterWrites,
  EnteredIsBuilt,
  BuiltLasts,
  adds,
  kept_index,
  KeptIsBuilt,
}
use Rattle.promises.proofs.BookedWords.{bookings_booked}
use Rattle.promises.proofs.Polled.{bookings_polled}
use Rattle.promises.proofs.Taken.{
  open_kept,
  book_taken,
  book_kept,
  poll_taken,
  poll_kept,
  write_words,
  read_kept,
  build_words,
  build_taken,
  enter_words,
  enter_taken,
  find_taken,
}
use Rattle.promises.proofs.Kept.{call_kept}

-- ---- looking up

pub built_finds : BuiltFinds
unfolding BuiltFinds index_find_call
built_finds w name = index_tested_lem w (built w) _ (built_whole w) ∙ go (test_of w) refl
  where
    found : List ℕ → Answer
    found index = asked_of (look_up_in w index name) (λ i. Ok (pos i))

    go : (t : Tested) → test_of w ≡ t → unless_stopped t (found (built w)) ≡ unless_stopped t (asked_of (look_up w name) (λ i. Ok (pos i)))
    go (Ok tt) fine = ap (λ f. asked_of f (λ i. Ok (pos i))) (built_look_up w name (fine_ledger w fine).sound)
    go (Err r) stopped = refl

pub built_numbers : BuiltNumbers
unfolding BuiltNumbers BuiltFinds
built_numbers w ledger i l = built_finds w (name_of w i) ∙ reading_found pos w (name_of w i) ledger i (found_is w ledger.sound i l)

pub probing_finds : ProbingFinds
unfolding ProbingFinds
probing_finds w index name ledger whole m =
    let there = cell index (tried (home name) m.others) in
    let found = met_found w index name m ledger.sound.bookings_most in
    let plain : look_up w name ≡ Some there = ap (look_up w) (sym m.named) ∙ found_is w ledger.sound there m.below in
    let same = sym (found_plain w index name _ ledger.sound whole found) ∙ plain in
    sym (find_known w index ledger whole name (found ∙ same))

pub found_is_plain : FoundIsPlain
unfolding FoundIsPlain
found_is_plain w index name taken =
    let found = find_taken w index name taken in
    found.4 ∙ sym (reading_found pos w name found.1 found.0 (found_plain w index name found.0 found.1.sound found.2 found.3))

-- ---- building and entering

pub build_makes : BuildMakes
unfolding BuildMakes
build_makes w index taken = (build_taken w index taken).2

pub enter_writes : EnterWrites
unfolding EnterWrites with_number
enter_writes w index taken =
    let o = enter_taken w index taken in
    let lent : (index_enter_call w index).lent ≡ with_number w (newest w) index = ap (λ h. h.lent) o.3 in (
      record {
        place = probe is_empty index (home (name_of w (newest w)));
        first = first_empty index (home (name_of w (newest w))) (omega arith) o.2;
        written = lent;
      },
      o.3 ∙ ap (handover done w) (sym lent),
    )

pub entered_is_built : EnteredIsBuilt
unfolding EnteredIsBuilt outcome_of
entered_is_built w name slot parents taken =
    let t = zero_taken (book_call w name slot parents).answer taken in
    let o = book_taken w name slot parents t in
    let v = (book_call w name slot parents).words in
    let kept = call_kept (Book name slot parents) w refl o.0 in
    let more : bookings v ≡ bookings w + 1 = ap bookings o.2 ∙ bookings_booked w name slot parents o.0.whole in
    let last : newest v ≡ bookings w = omega (arith, more) in
    sym (enter_room v (built w) kept.ledger (built_whole w) (built_free w o.0.sound.bookings_most))
    ∙ ap (handover done v) (ap (λ i. with_number v i (built w)) last ∙ built_more w v more kept.grown.name)

pub built_lasts : BuiltLasts
unfolding BuiltLasts
built_lasts c w new ledger same = built_same w (outcome_of c w).words same (call_kept c w new ledger).grown.name

-- ---- a station that enters each booking

-- a call that adds no booking leaves their number as it is
pub bookings_kept : (c : Call) (w : List ℕ) → renews c w ≡ false → adds c w ≡ false → bookings (outcome_of c w).words ≡ bookings w
unfolding outcome_of
bookings_kept (Open s) w n a = ap bookings (open_kept w s n)
bookings_kept (Book name slot parents) w n a = ap bookings (book_kept w name slot parents a)
bookings_kept (Poll name votes) w n a = go (is_taken (poll_call w name votes).answer) refl
  where
    go : (b : Bool) → is_taken (poll_call w name votes).answer ≡ b → bookings (poll_call w name votes).words ≡ bookings w
    go true t = let o = poll_taken w name votes t in ap bookings o.2 ∙ bookings_polled w (number_of (look_up w name)) votes o.0 o.1
    go false t = ap bookings (poll_kept w name votes t)
bookings_kept (Ask what name) w n a = refl
bookings_kept (WriteFile form buffer) w n a = ap bookings (write_words form w buffer)
bookings_kept (ReadFile form file) w n a = ap bookings (read_kept form w file n)
bookings_kept (IndexBuild index) w n a = ap bookings (build_words w index)
bookings_kept (IndexEnter index) w n a = ap bookings (enter_words w index)
bookings_kept (IndexFind index name) w n a = refl

-- who is booked is entered
entered_one : (c : Call) (w : List ℕ) → adds c w ≡ true → (index_enter_call (outcome_of c w).words (built w)).lent ≡ built (outcome_of c w).words
unfolding EnteredIsBuilt outcome_of
entered_one (Open s) w a = absurd (true≢false (sym a))
entered_one (Book name slot parents) w a = ap (λ h. h.lent) (entered_is_built w name slot parents (taken_zero (book_call w name slot parents).answer a))
entered_one (Poll name votes) w a = absurd (true≢false (sym a))
entered_one (Ask what name) w a = absurd (true≢false (sym a))
entered_one (WriteFile form buffer) w a = absurd (true≢false (sym a))
entered_one (ReadFile form file) w a = absurd (true≢false (sym a))
entered_one (IndexBuild index) w a = absurd (true≢false (sym a))
entered_one (IndexEnter index) w a = absurd (true≢false (sym a))
entered_one (IndexFind index name) w a = absurd (true≢false (sym a))

-- one call
kept_one : (c : Call) (w : List ℕ) → renews c w ≡ false → Ledger w
    → cond (adds c w) (index_enter_call (outcome_of c w).words (built w)).lent (built w) ≡ built (outcome_of c w).words
unfolding BuiltLasts
kept_one c w n ledger = go (adds c w) refl
  where
    go : (b : Bool) → adds c w ≡ b → cond b (index_enter_call (outcome_of c w).words (built w)).lent (built w) ≡ built (outcome_of c w).words
    go true a = entered_one c w a
    go false a = sym (built_lasts c w n ledger (bookings_kept c w n a))

pub kept_is_built : KeptIsBuilt
unfolding KeptIsBuilt kept_index NoneRenews run
kept_is_built [] t ledger none = refl
kept_is_built (c ∷ calls) t ledger none =
    ap (kept_index calls (outcome_of c t.words).words) (kept_one c t.words none.0 ledger)
    ∙ kept_is_built calls (step c t) (call_kept c t.words none.0 ledger).ledger none.1
