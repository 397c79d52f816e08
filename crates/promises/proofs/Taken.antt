-- What a taken call has passed: each of its tests failed, so the fact that each refusal would deny holds, and its words are the rule's.
-- What a refused call leaves: every word, and every byte and cell. What writing a file and the calls about an index leave in any case: every word. Assumes nothing.
use Rattle.std.specs.Prelude.{Err, None, Ok, Option, Some}
use mathlib.Core.Path.{◌≡◌, refl, sym, ap, ◌∙◌}
use mathlib.Core.Bool.{Bool, true, false, not, cond, true≢false}
use mathlib.Core.List.{List}
use mathlib.Core.Logic.{◌≢◌}
use Prim.Native.Nat.{ℕ, ◌<◌, ◌≤◌}
use native.Mathlib.Omega.{arith}
use lib.IntN.{ℤ, pos}
use lib.ListN.{length, get_or}
use lib.Dec.{eqb, leb, ltb}
use borrow.Author.Tests.{eqb-true, eq-eqb, eqb-false, leb-false, ltb-false, le-ltb, not-false}
use Rattle.loops.proofs.Bools.{neither}
use Rattle.loops.specs.Search.{any}
use Rattle.loops.proofs.Search.{none→}
use Rattle.terms.specs.declared.setting.Setting.{Setting}
use Rattle.terms.specs.declared.answer.Refusal.{Refusal}
use Rattle.terms.specs.declared.form.Form.{Form}
use Rattle.terms.specs.Answers.{number, value, outcome, leaves, handover, hands_over, is_taken, done, Answer, Tested}
use Rattle.rules.specs.Layout.{size, most_bookings, most_parents, slots, bookings, name_of, state_of, slot_of, confidence_of, preferred_in}
use Rattle.terms.specs.Setting.{Good}
use Rattle.rules.specs.Sound.{Ledger}
use Rattle.rules.specs.Open.{opened}
use Rattle.rules.specs.Book.{look_up, number_of, has_unknown, has_twice, booked}
use Rattle.rules.specs.Poll.{polled}
use Rattle.rules.specs.Calls.{open_answer, open_call, damage_of, test_of, beside_of, unless_stopped, tested, book_answer, book_call, asked_of, poll_answer, poll_call, reading_call}
use Rattle.day_file.specs.Bytes.{file_of}
use Rattle.day_file.specs.Replay.{replay}
use Rattle.day_file.specs.Calls.{laid, write_file_answer, write_file_call, good_in, words_in, read_file_answer, read_file_call, moved_in, has_other_marks, move_file_answer, move_file_call}
use Rattle.name_index.specs.Index.{cells, look_up_in, is_full, newest, with_number, built}
use Rattle.name_index.specs.Calls.{index_tested, enter_answer, index_build_call, index_enter_call, index_find_call}
use Rattle.name_index.proofs.Tested.{beside_index, fine_index}
use Rattle.rule_laws.proofs.Calls.{Unmoved, poll_value, leaves_answer, leaves_refused, hands_over_answer, hands_over_words, hands_over_refused, number_refused, open_refused, book_refused, poll_refused}
use Rattle.rule_laws.proofs.Good.{is_good→Good}
use Rattle.rule_laws.proofs.Tested.{fine_ledger}
use Rattle.rule_laws.proofs.Lookup.{is_found_false, absent_name, found_below_lem}

-- a booking that no refusal stops
pub record Bookable (w : List ℕ) (name slot : ℕ) (parents : List ℕ) : Type 0 where
  pub fresh : (i : ℕ) → i < bookings w → name_of w i ≢ name
  pub slot_least : 1 ≤ slot
  pub slot_most : slot < slots
  pub parents_least : 1 ≤ length parents
  pub parents_most : length parents ≤ most_parents
  pub known : has_unknown w parents ≡ false
  pub distinct : (a b : ℕ) → a < b → b < length parents → get_or parents a 0 ≢ get_or parents b 0
  pub room : bookings w < most_bookings

-- a booking that may be polled
pub record Pollable (w : List ℕ) (i : ℕ) : Type 0 where
  pub below : i < bookings w
  pub waiting : state_of w i ≡ 0

-- no rival has more confidence than the preferred one
abbrev pub Led : List ℕ → Type 0
Led w = (i : ℕ) → i < bookings w → confidence_of w i ≤ confidence_of w (preferred_in w (slot_of w i))

-- ---- what a call leaves

leaves_taken : (a : Answer) (before after : List ℕ) → is_taken (leaves a before after).answer ≡ true
    → (v : ℤ) × (a ≡ Ok v) × ((leaves a before after).words ≡ after)
leaves_taken (Ok v) before after e = (v, refl, refl)
leaves_taken (Err r) before after e = absurd (true≢false (sym e))

-- a call that is not taken has the number of a refusal
untaken : (a : Answer) → is_taken a ≡ false → number a ≢ 0
untaken (Ok v) e = absurd (true≢false e)
untaken (Err r) e = number_refused r

-- a refused call leaves every word
pub open_kept : (w : List ℕ) (s : Setting) → is_taken (open_call w s).answer ≡ false → (open_call w s).words ≡ w
open_kept w s e = (open_refused w s (untaken (open_call w s).answer e)).words

pub book_kept : (w : List ℕ) (name slot : ℕ) (parents : List ℕ) → is_taken (book_call w name slot parents).answer ≡ false
    → (book_call w name slot parents).words ≡ w
book_kept w name slot parents e = (book_refused w name slot parents (untaken (book_call w name slot parents).answer e)).words

pub poll_kept : (w : List ℕ) (name : ℕ) (votes : List ℕ) → is_taken (poll_call w name votes).answer ≡ false → (poll_call w name votes).words ≡ w
poll_kept w name votes e = (poll_refused w name votes (untaken (poll_call w name votes).answer e)).words

pub read_refused : (form : Form) (w file : List ℕ) → number (read_file_call form w file).answer ≢ 0 → Unmoved w (read_file_call form w file)
unfolding read_file_call
read_refused form w file = leaves_refused (read_file_answer (good_in form) w file) w _

pub read_kept : (form : Form) (w file : List ℕ) → is_taken (read_file_call form w file).answer ≡ false → (read_file_call form w file).words ≡ w
read_kept form w file e = (read_refused form w file (untaken (read_file_call form w file).answer e)).words

pub write_refused : (form : Form) (w buffer : List ℕ) → number (write_file_call form w buffer).answer ≢ 0 → (write_file_call form w buffer).lent ≡ buffer
unfolding write_file_call
write_refused form w buffer = hands_over_refused (write_file_answer test_of form w buffer) w buffer _

-- writing changes no word, taken or refused
pub write_words : (form : Form) (w buffer : List ℕ) → (write_file_call form w buffer).words ≡ w
unfolding write_file_call
write_words form w buffer = hands_over_words (write_file_answer test_of form w buffer) w buffer _

-- nor do the calls about an index
pub build_refused : (w index : List ℕ) → number (index_build_call w index).answer ≢ 0 → (index_build_call w index).lent ≡ index
unfolding index_build_call
build_refused w index = hands_over_refused (index_tested damage_of w index done) w index _

pub build_words : (w index : List ℕ) → (index_build_call w index).words ≡ w
unfolding index_build_call
build_words w index = hands_over_words (index_tested damage_of w index done) w index _

pub enter_refused : (w index : List ℕ) → number (index_enter_call w index).answer ≢ 0 → (index_enter_call w index).lent ≡ index
unfolding index_enter_call
enter_refused w index = hands_over_refused (enter_answer damage_of w index) w index _

pub enter_words : (w index : List ℕ) → (index_enter_call w index).words ≡ w
unfolding index_enter_call
enter_words w index = hands_over_words (enter_answer damage_of w index) w index _

-- ---- the tests that a taken call has passed

module _ {v : ℤ} where
  passed : (t : Bool) (r : Refusal) (rest : Answer) → cond t (Err r) rest ≡ Ok v → (t ≡ false) × (rest ≡ Ok v)
  passed true r rest e = absurd (true≢false (sym (ap is_taken e)))
  passed false r rest e = (refl, e)

  tested_passed : (w : List ℕ) (rest : Answer) → tested test_of w rest ≡ Ok v → Ledger w × (rest ≡ Ok v)
  tested_passed w rest = go (test_of w) refl
    where
      go : (t : Tested) → test_of w ≡ t → unless_stopped t rest ≡ Ok v → Ledger w × (rest ≡ Ok v)
      go (Ok tt) fine e = (fine_ledger w fine, e)
      go (Err r) stopped e = absurd (true≢false (sym (ap is_taken e)))

  index_passed : (w index : List ℕ) (rest : Answer) → index_tested damage_of w index rest ≡ Ok v → Ledger w × (length index ≡ cells) × (rest ≡ Ok v)
  unfolding beside_of
  index_passed w index rest = go (beside_index w index) refl
    where
      go : (t : Tested) → beside_index w index ≡ t → unless_stopped t rest ≡ Ok v → Ledger w × (length index ≡ cells) × (rest ≡ Ok v)
      go (Ok tt) fine e = let right = fine_index w index fine in (right.0, right.1, e)
      go (Err r) stopped e = absurd (true≢false (sym (ap is_taken e)))

  asked_passed : (f : Option ℕ) (rest : ℕ → Answer) → asked_of f rest ≡ Ok v → (f ≡ Some (number_of f)) × (rest (number_of f) ≡ Ok v)
  asked_passed (Some i) rest e = (refl, e)
  asked_passed None rest e = absurd (true≢false (sym (ap is_taken e)))

-- no parent is named twice
distinct_names : (parents : List ℕ) → has_twice parents ≡ false → (a b : ℕ) → a < b → b < length parents → get_or parents a 0 ≢ get_or parents b 0
unfolding has_twice
distinct_names parents e a b l h =
    eqb-false _ _ (none→ (λ c. eqb (get_or parents c 0) (get_or parents b 0)) b (none→ (λ d. any (λ c. eqb (get_or parents c 0) (get_or parents d 0)) d) (length parents) e b h) a l)

-- ---- open, book, poll, the readings, writing and reading a file, taken

pub open_taken : (w : List ℕ) (s : Setting) → is_taken (open_call w s).answer ≡ true → (length w ≡ size) × Good s × ((open_call w s).words ≡ opened s)
unfolding open_call
open_taken w s e =
    let taken = leaves_taken (open_answer w s) w (opened s) e in
    let long = passed _ _ _ taken.1 in
    let good = passed _ _ _ long.1 in
    (eqb-true _ _ (not-false _ long.0), is_good→Good s (not-false _ good.0), taken.2)

pub book_taken : (w : List ℕ) (name slot : ℕ) (parents : List ℕ) → is_taken (book_call w name slot parents).answer ≡ true
    → Ledger w × Bookable w name slot parents × ((book_call w name slot parents).words ≡ booked w name slot parents)
unfolding book_call
book_taken w name slot parents e =
    let taken = leaves_taken (book_answer test_of w name slot parents) w (booked w name slot parents) e in
    let ledger = tested_passed w _ taken.1 in
    let new = passed _ _ _ ledger.1 in
    let in_range = passed _ _ _ new.1 in
    let slot_in = neither (eqb slot 0) (leb slots slot) in_range.0 in
    let some = passed _ _ _ in_range.1 in
    let some_in = neither (eqb (length parents) 0) (ltb most_parents (length parents)) some.0 in
    let known = passed (has_unknown w parents) _ _ some.1 in
    let once = passed (has_twice parents) _ _ known.1 in
    let room = passed (eqb (bookings w) most_bookings) _ _ once.1 in (
      ledger.0,
      record {
        fresh = absent_name w name (is_found_false _ new.0);
        slot_least = omega (arith, eqb-false slot 0 slot_in.0);
        slot_most = leb-false slots slot slot_in.1;
        parents_least = omega (arith, eqb-false (length parents) 0 some_in.0);
        parents_most = ltb-false most_parents (length parents) some_in.1;
        known = known.0;
        distinct = distinct_names parents once.0;
        room = omega (arith, eqb-false (bookings w) most_bookings room.0, ledger.0.sound.bookings_most);
      },
      taken.2,
    )

pub poll_taken : (w : List ℕ) (name : ℕ) (votes : List ℕ) → is_taken (poll_call w name votes).answer ≡ true
    → Ledger w × Pollable w (number_of (look_up w name)) × ((poll_call w name votes).words ≡ polled w (number_of (look_up w name)) votes)
unfolding poll_call
poll_taken w name votes e =
    let taken = leaves_taken (poll_answer test_of w name votes) w (polled w (number_of (look_up w name)) votes) e in
    let ledger = tested_passed w _ taken.1 in
    let found = asked_passed (look_up w name) _ ledger.1 in
    let waiting = passed _ _ _ found.1 in
    (ledger.0, record { below = found_below_lem w name _ found.0; waiting = eqb-true _ _ (not-false _ waiting.0) }, taken.2)

-- its answer has value 0
taken_done : (a : Answer) → is_taken a ≡ true → (number a ≡ 0 → value a ≡ pos 0) → a ≡ done
taken_done (Ok v) e h = ap Ok (h refl)
taken_done (Err r) e h = absurd (true≢false (sym e))

pub poll_outcome : (w : List ℕ) (name : ℕ) (votes : List ℕ) → is_taken (poll_call w name votes).answer ≡ true
    → poll_call w name votes ≡ outcome done (polled w (number_of (look_up w name)) votes)
poll_outcome w name votes e = λ i. outcome (taken_done (poll_call w name votes).answer e (poll_value w name votes) i) ((poll_taken w name votes e).2 i)

pub reading_taken : (f : ℕ → ℤ) (w : List ℕ) (name : ℕ) (v : ℤ) → reading_call f w name ≡ Ok v
    → Ledger w × (look_up w name ≡ Some (number_of (look_up w name))) × (f (number_of (look_up w name)) ≡ v)
reading_taken f w name v e =
    let ledger = tested_passed w _ e in
    let found = asked_passed (look_up w name) _ ledger.1 in
    (ledger.0, found.0, ap value found.1)

pub write_taken : (form : Form) (w buffer : List ℕ) → number (write_file_call form w buffer).answer ≡ 0
    → Ledger w × (value (write_file_call form w buffer).answer ≡ pos (length (file_of form w)))
unfolding write_file_call
write_taken form w buffer =
    rw (hands_over_answer (write_file_answer test_of form w buffer) w buffer (laid (file_of form w) buffer)) (go (write_file_answer test_of form w buffer) refl)
  where
    go : (a : Answer) → write_file_answer test_of form w buffer ≡ a → number a ≡ 0 → Ledger w × (value a ≡ pos (length (file_of form w)))
    go (Ok v) e z =
        let ledger = tested_passed w _ e in
        let room = passed (ltb (length buffer) (length (file_of form w))) _ _ ledger.1 in
        (ledger.0, ap value (sym room.1))
    go (Err r) e z = absurd (number_refused r z)

pub read_taken : (form : Form) (w file : List ℕ) → is_taken (read_file_call form w file).answer ≡ true
    → (length w ≡ size) × (good_in form file ≡ true) × ((read_file_call form w file).words ≡ words_in form file)
unfolding read_file_call
read_taken form w file e =
    let taken = leaves_taken (read_file_answer (good_in form) w file) w (words_in form file) e in
    let long = passed _ _ _ taken.1 in
    let good = passed _ _ _ long.1 in
    (eqb-true _ _ (not-false _ long.0), not-false _ good.0, taken.2)

-- a good file is read into any words of the right length, whatever they are
pub read_outcome : (form : Form) (w file : List ℕ) → length w ≡ size → good_in form file ≡ true → read_file_call form w file ≡ outcome done (words_in form file)
unfolding read_file_call
read_outcome form w file whole good = rw (eq-eqb (length w) size whole, good)

pub read_given : (form : Form) (w file : List ℕ) → length w ≡ size → good_in form file ≡ true → is_taken (read_file_call form w file).answer ≡ true
read_given form w file whole good = ap (λ o. is_taken o.answer) (read_outcome form w file whole good)

pub read_value : (form : Form) (w file : List ℕ) → number (read_file_call form w file).answer ≡ 0 → value (read_file_call form w file).answer ≡ pos 0
unfolding read_file_call
read_value form w file = rw (leaves_answer (read_file_answer (good_in form) w file) w (words_in form file)) (go (not (eqb (length w) size)) (not (good_in form file)))
  where
    go : (long bad : Bool) → let a = cond long (Err Refusal.WrongLength) (cond bad (Err Refusal.BadFile) done) in number a ≡ 0 → value a ≡ pos 0
    go true bad z = refl
    go false true z = refl
    go false false z = refl

-- ---- a move of a file, taken and refused

pub move_taken : (form : Form) (file out : List ℕ) → number (move_file_call form file out).answer ≡ 0
    → (good_in form file ≡ true) × (has_other_marks form file ≡ false) × (length (moved_in form file) ≤ length out)
    × (move_file_call form file out ≡ outcome (Ok (pos (length (moved_in form file)))) (laid (moved_in form file) out))
unfolding move_file_call
move_taken form file out = go (not (good_in form file)) refl (has_other_marks form file) refl (ltb (length out) (length (moved_in form file))) refl
  where
    answer : Bool → Bool → Bool → Answer
    answer bad other short =
        cond bad (Err Refusal.BadFile) (cond other (Err Refusal.OtherMarks) (cond short (Err Refusal.ShortBuffer) (Ok (pos (length (moved_in form file))))))

    go : (bad : Bool) → not (good_in form file) ≡ bad → (other : Bool) → has_other_marks form file ≡ other
        → (short : Bool) → ltb (length out) (length (moved_in form file)) ≡ short → number (leaves (answer bad other short) out (laid (moved_in form file) out)).answer ≡ 0
        → (good_in form file ≡ true) × (has_other_marks form file ≡ false) × (length (moved_in form file) ≤ length out)
        × (leaves (answer bad other short) out (laid (moved_in form file) out) ≡ outcome (Ok (pos (length (moved_in form file)))) (laid (moved_in form file) out))
    go true b other o short s z = absurd (number_refused Refusal.BadFile z)
    go false b true o short s z = absurd (number_refused Refusal.OtherMarks z)
    go false b false o true s z = absurd (number_refused Refusal.ShortBuffer z)
    go false b false o false s z = (not-false _ b, o, ltb-false (length out) (length (moved_in form file)) s, refl)

pub move_given : (form : Form) (file out : List ℕ) → good_in form file ≡ true → has_other_marks form file ≡ false → length (moved_in form file) ≤ length out
    → move_file_call form file out ≡ outcome (Ok (pos (length (moved_in form file)))) (laid (moved_in form file) out)
unfolding move_file_call
move_given form file out good kept room = rw (good, kept, le-ltb (length out) (length (moved_in form file)) room)

pub move_number : (form : Form) (file out : List ℕ) → number (move_file_call form file out).answer ≤ 19
unfolding move_file_call
move_number form file out =
    rw (leaves_answer (move_file_answer good_in replay form file out) out (laid (moved_in form file) out))
    (go (not (good_in form file)) (has_other_marks form file) (ltb (length out) (length (moved_in form file))))
  where
    go : (bad other short : Bool)
        → number (cond bad (Err Refusal.BadFile) (cond other (Err Refusal.OtherMarks) (cond short (Err Refusal.ShortBuffer) (Ok (pos (length (moved_in form file)))))))
        ≤ 19
    go true other short = omega arith
    go false true short = omega arith
    go false false true = omega arith
    go false false false = omega arith

pub move_valueless : (form : Form) (file out : List ℕ) → number (move_file_call form file out).answer ≢ 0 → value (move_file_call form file out).answer ≡ pos 0
unfolding move_file_call
move_valueless form file out =
    rw (leaves_answer (move_file_answer good_in replay form file out) out (laid (moved_in form file) out))
    (go (not (good_in form file)) (has_other_marks form file) (ltb (length out) (length (moved_in form file))))
  where
    go : (bad other short : Bool)
        → let a = cond bad (Err Refusal.BadFile) (cond other (Err Refusal.OtherMarks) (cond short (Err Refusal.ShortBuffer) (Ok (pos (length (moved_in form file)))))) in
        number a ≢ 0 → value a ≡ pos 0
    go true other short h = refl
    go false true short h = refl
    go false false true h = refl
    go false false false h = absurd (h refl)

pub move_refused : (form : Form) (file out : List ℕ) → number (move_file_call form file out).answer ≢ 0 → Unmoved out (move_file_call form file out)
unfolding move_file_call
move_refused form file out = leaves_refused (move_file_answer good_in replay form file out) out _

-- ---- the calls about an index, taken

-- what a taken call that hands something over has in its answer, and what it leaves
hands_over_taken : (a : Answer) (words before after : List ℕ) → number (hands_over a words before after).answer ≡ 0
    → (v : ℤ) × (a ≡ Ok v) × (hands_over a words before after ≡ handover (Ok v) words after)
hands_over_taken (Ok v) words before after e = (v, refl, refl)
hands_over_taken (Err r) words before after e = absurd (number_refused r e)

pub build_taken : (w index : List ℕ) → number (index_build_call w index).answer ≡ 0
    → Ledger w × (length index ≡ cells) × (index_build_call w index ≡ handover done w (built w))
unfolding index_build_call
build_taken w index e =
    let taken = hands_over_taken (index_tested damage_of w index done) w index (built w) e in
    let right = index_passed w index done taken.1 in
    (right.0, right.1, taken.2 ∙ ap (λ a. handover a w (built w)) (sym right.2))

pub enter_taken : (w index : List ℕ) → number (index_enter_call w index).answer ≡ 0
    → Ledger w × (length index ≡ cells) × (is_full index ≡ false) × (index_enter_call w index ≡ handover done w (with_number w (newest w) index))
unfolding index_enter_call
enter_taken w index e =
    let taken = hands_over_taken (enter_answer damage_of w index) w index (with_number w (newest w) index) e in
    let right = index_passed w index _ taken.1 in
    let room = passed (is_full index) _ _ right.2 in
    (right.0, right.1, room.0, taken.2 ∙ ap (λ a. handover a w (with_number w (newest w) index)) (sym room.1))

pub find_taken : (w index : List ℕ) (name : ℕ) → number (index_find_call w index name) ≡ 0
    → (i : ℕ) × Ledger w × (length index ≡ cells) × (look_up_in w index name ≡ Some i) × (index_find_call w index name ≡ Ok (pos i))
unfolding index_find_call
find_taken w index name = go (index_find_call w index name) refl
  where
    go : (a : Answer) → index_find_call w index name ≡ a → number a ≡ 0
        → (i : ℕ) × Ledger w × (length index ≡ cells) × (look_up_in w index name ≡ Some i) × (a ≡ Ok (pos i))
    go (Ok v) e z =
        let right = index_passed w index _ e in
        let found = asked_passed (look_up_in w index name) _ right.2 in
        (number_of (look_up_in w index name), right.0, right.1, found.0, sym found.1)
    go (Err r) e z = absurd (number_refused r z)
