-- Each refusal comes exactly in its listed case: every test of a call tells its case, and one law reads a line of the list off a test.
-- Rests on specs/Refusals.antt and on the laws that join tests to statements. Assumes nothing.
use Rattle.std.specs.Prelude.{Err, None, Option, Some}
use mathlib.Core.Path.{◌≡◌, refl, sym, ap, ◌∙◌}
use mathlib.Core.Bool.{Bool, true, false, not, ◌||◌, cond, true≢false}
use mathlib.Core.List.{List}
use mathlib.Core.Logic.{◌≢◌, ◌⊎◌, inl, inr, ⊎_elim}
use Prim.Native.Nat.{ℕ, ◌<◌, ◌≤◌}
use native.Mathlib.Omega.{arith}
use lib.IntN.{ℤ}
use lib.ListN.{length, get_or}
use lib.Dec.{eqb, leb, ltb}
use borrow.Author.Tests.{eqb-true, eq-eqb, leb-true, le-leb, ltb-true, lt-ltb, not-true, not-false}
use Rattle.loops.specs.Search.{all, any}
use Rattle.loops.proofs.Search.{any→, →any, not_all}
use Rattle.terms.specs.declared.setting.Setting.{Setting}
use Rattle.terms.specs.declared.answer.Refusal.{Refusal}
use Rattle.terms.specs.declared.vote.Vote.{Vote}
use Rattle.terms.specs.Answers.{refusal_number, number, value, done, Answer}
use Rattle.rules.specs.Layout.{size, slots, most_parents, most_bookings, bookings, setting_in, state_of}
use Rattle.terms.specs.Setting.{Good, is_good}
use Rattle.rules.specs.IsSound.{header_good, record_row, record_rows, bad_record, slot_good, bad_slot}
use Rattle.rules.specs.RowRules.{HeaderRules, RecordRules, SlotRules}
use Rattle.rules.specs.Sound.{Sound}
use Rattle.terms.specs.Votes.{vote_of, is_refused}
use Rattle.rules.specs.Poll.{has_refused_vote}
use Rattle.rules.specs.Open.{opened}
use Rattle.rules.specs.Book.{look_up, is_found, is_absent, number_of, parent_found, has_unknown, has_twice, booked}
use Rattle.rules.specs.Poll.{polled}
use Rattle.rules.specs.Readings.{reading_of}
use Rattle.rules.specs.Listing.{list_call}
use Rattle.terms.specs.declared.form.Form.{Form}
use Rattle.day_file.specs.Bytes.{file_of}
use Rattle.day_file.specs.Replay.{replay}
use Rattle.day_file.specs.Calls.{laid, write_file_answer, write_file_call, good_in, words_in, read_file_answer, read_file_call, moved_in, has_other_marks, move_file_answer, move_file_call}
use Rattle.rules.specs.Calls.{
  open_answer,
  open_call,
  damage_of,
  test_of,
  beside_of,
  unless_stopped,
  tested,
  book_answer,
  book_call,
  asked_of,
  poll_answer,
  poll_call,
  reading_call,
  read_call,
}
use Rattle.name_index.specs.Index.{cells, look_up_in, is_full, newest, with_number, built}
use Rattle.name_index.specs.AsRead.{NameMet, NoneEmpty}
use Rattle.name_index.specs.Calls.{is_wrong_index, index_tested, enter_answer, index_build_call, index_enter_call, index_find_call}
use Rattle.name_index.proofs.Probing.{full→none, none→full, some_none, met_found, found_met}
use Rattle.rule_laws.proofs.Calls.{leaves_answer, hands_over_answer, value_refused, open_refused, book_refused, poll_refused}
use Rattle.rule_laws.proofs.Good.{is_good→Good, Good→isGood}
use Rattle.rule_laws.proofs.RowRules.{header_good→Rules, Rules→headerGood, record_row→Rules, Rules→recordRow, slot_good→Rules, Rules→slotGood}
use Rattle.rule_laws.proofs.Sound.{tests→Sound}
use Rattle.rule_laws.proofs.Tested.{damaged_in_order, tested_first_length, beside_in_order}
use Rattle.rule_laws.proofs.Lookup.{found_below_lem, found_name, absent_name, found_is}
use Rattle.promises.specs.Run.{Open, Book, Poll, Ask, WriteFile, ReadFile, IndexBuild, IndexEnter, IndexFind, outcome_of, lent_after}
use Rattle.promises.specs.Damage.{Broken}
use Rattle.promises.proofs.Taken.{write_words, write_refused, read_refused, build_words, build_refused, enter_words, enter_refused}
use Rattle.promises.specs.ReadFile.{GoodIn, GoodIsWritten}
use Rattle.promises.proofs.ReadFile.{good_is_written}
use Rattle.promises.specs.MoveFile.{OtherMarks}
use Rattle.promises.proofs.MoveFile.{other_marks, marks_other}
use Rattle.promises.specs.Refusals.{
  RefusedKeeps,
  Booked,
  UnknownParent,
  ParentTwice,
  NotWaiting,
  BadVote,
  refuses,
  OpenListed,
  damaged_listed,
  tested_listed,
  index_listed,
  BookListed,
  PollListed,
  ReadingListed,
  WriteFileListed,
  ReadFileListed,
  MoveFileListed,
  BuildListed,
  EnterListed,
  FindListed,
  ListListed,
  RefusedListed,
}

-- ---- a refused call changes nothing

pub refused_keeps : RefusedKeeps
unfolding RefusedKeeps outcome_of lent_after
refused_keeps (Open s) w h = let kept = open_refused w s h in (kept.words, kept.value, refl)
refused_keeps (Book name slot parents) w h = let kept = book_refused w name slot parents h in (kept.words, kept.value, refl)
refused_keeps (Poll name votes) w h = let kept = poll_refused w name votes h in (kept.words, kept.value, refl)
refused_keeps (Ask what name) w h = (refl, value_refused (read_call what w name) h, refl)
refused_keeps (WriteFile form buffer) w h = (write_words form w buffer, value_refused (write_file_call form w buffer).answer h, write_refused form w buffer h)
refused_keeps (ReadFile form file) w h = let kept = read_refused form w file h in (kept.words, kept.value, refl)
refused_keeps (IndexBuild index) w h = (build_words w index, value_refused (index_build_call w index).answer h, build_refused w index h)
refused_keeps (IndexEnter index) w h = (enter_words w index, value_refused (index_enter_call w index).answer h, enter_refused w index h)
refused_keeps (IndexFind index name) w h = (refl, value_refused (index_find_call w index name) h, refl)

-- ---- a test that tells whether a case applies

record Decides (t : Bool) (applies : Type 0) : Type 0 where
  passes : t ≡ true → applies
  fails : t ≡ false → applies → ⊥

-- by a law for each direction, and such a law from it
decides_by : {t : Bool} {applies : Type 0} → (t ≡ true → applies) → (applies → t ≡ true) → Decides t applies
decides_by to from = record { passes = to; fails = λ e a. true≢false (sym (from a) ∙ e) }

told : (t : Bool) {applies : Type 0} → Decides t applies → applies → t ≡ true
told true tells a = refl
told false tells a = absurd (tells.fails refl a)

not_decides : (t : Bool) {applies : Type 0} → Decides t applies → Decides (not t) (applies → ⊥)
not_decides t tells = record { passes = λ e. tells.fails (not-true t e); fails = λ e d. d (tells.passes (not-false t e)) }

either_decides : (s t : Bool) {one other : Type 0} → Decides s one → Decides t other → Decides (s || t) (one ⊎ other)
either_decides true t tells also = record { passes = λ e. inl (tells.passes refl); fails = λ e. absurd (true≢false e) }
either_decides false t tells also = record { passes = λ e. inr (also.passes e); fails = λ e. ⊎_elim (tells.fails refl) (also.fails e) }

-- a case of some number below n, given what it says of the number
any_decides : (p : ℕ → Bool) (n : ℕ) {applies : Type 0} → ((i : ℕ) → i < n → p i ≡ true → applies) → (applies → (i : ℕ) × (i < n) × (p i ≡ true))
    → Decides (any p n) applies
any_decides p n to from = decides_by
    (λ e. let found = any→ p n e in to found.0 found.1 found.2)
    (λ a. let found = from a in →any p n found.0 found.1 found.2)

equal_decides : (a b : ℕ) → Decides (eqb a b) (a ≡ b)
equal_decides a b = decides_by (eqb-true a b) (eq-eqb a b)

most_decides : (a b : ℕ) → Decides (leb a b) (a ≤ b)
most_decides a b = decides_by (leb-true a b) (le-leb a b)

less_decides : (a b : ℕ) → Decides (ltb a b) (a < b)
less_decides a b = decides_by (ltb-true a b) (lt-ltb a b)

-- ---- the cases, in the order of their numbers

-- 1 and 12
differs_decides : (a b : ℕ) → Decides (not (eqb a b)) (a ≢ b)
differs_decides a b = not_decides (eqb a b) (equal_decides a b)

-- 2
header_decides : (w : List ℕ) → Decides (not (header_good w)) (HeaderRules w → ⊥)
header_decides w = not_decides (header_good w) (decides_by (header_good→Rules w) (Rules→headerGood w))

-- 14 and 15: some row breaks a rule where not every one keeps its own
broken_decides : (good : ℕ → Bool) {Rules : ℕ → Type 0} (end : ℕ) → ((i : ℕ) → Decides (good i) (Rules i)) → Decides (not (all good end)) (Broken Rules end)
broken_decides good end tells =
    let broken : Decides (any (λ i. not (good i)) end) (Broken _ end) =
    any_decides (λ i. not (good i)) end
    (λ i u e. record { row = i; within = u; breaks = (not_decides (good i) (tells i)).passes e })
    (λ b. (b.row, b.within, told _ (not_decides (good b.row) (tells b.row)) b.breaks)) in
    rw (← not_all good end) broken

records_decide : (w : List ℕ) → Decides (not (all (record_row w) record_rows)) (Broken (RecordRules w) record_rows)
records_decide w = broken_decides (record_row w) record_rows (λ i. decides_by (record_row→Rules w i) (Rules→recordRow w i))

slots_decide : (w : List ℕ) → Decides (not (all (slot_good w) slots)) (Broken (SlotRules w) slots)
slots_decide w = broken_decides (slot_good w) slots (λ s. decides_by (slot_good→Rules w s) (Rules→slotGood w s))

-- 3
bad_decides : (s : Setting) → Decides (not (is_good s)) (Good s → ⊥)
bad_decides s = not_decides (is_good s) (decides_by (is_good→Good s) (Good→isGood s))

-- 4: what is looked up is found exactly if some booking has the name
found_decides : (w : List ℕ) (name : ℕ) → Decides (is_found (look_up w name)) (Booked w name)
found_decides w name = go (look_up w name) refl
  where
    go : (f : Option ℕ) → look_up w name ≡ f → Decides (is_found f) (Booked w name)
    go (Some i) e = decides_by (λ t. record { booking = i; below = found_below_lem w name i e; named = found_name w name i e }) (λ b. refl)
    go None e = decides_by (λ t. absurd (true≢false (sym t))) (λ b. absurd (absent_name w name e b.booking b.below b.named))

-- 7
absent_decides : (w : List ℕ) (name : ℕ) → Decides (is_absent (look_up w name)) (Booked w name → ⊥)
absent_decides w name = go (look_up w name) (found_decides w name)
  where
    go : (f : Option ℕ) → Decides (is_found f) (Booked w name) → Decides (is_absent f) (Booked w name → ⊥)
    go (Some i) tells = not_decides true tells
    go None tells = not_decides false tells

unknown_decides : (w parents : List ℕ) → Decides (has_unknown w parents) (UnknownParent w parents)
unfolding has_unknown
unknown_decides w parents =
    any_decides (λ a. is_absent (parent_found w parents a)) (length parents)
    (λ a h e. record { place = a; within = h; unknown = (absent_decides w (get_or parents a 0)).passes e })
    (λ u. (u.place, u.within, told _ (absent_decides w (get_or parents u.place 0)) u.unknown))

-- 8
twice_decides : (parents : List ℕ) → Decides (has_twice parents) (ParentTwice parents)
unfolding has_twice
twice_decides parents =
    any_decides (λ b. any (λ a. eqb (get_or parents a 0) (get_or parents b 0)) b) (length parents)
    (λ b h e.
    let found = any→ (λ a. eqb (get_or parents a 0) (get_or parents b 0)) b e in
    record { earlier = found.0; later = b; ordered = omega (arith, found.1); within = h; same = eqb-true _ _ found.2 })
    (λ p.
    let again = →any (λ a. eqb (get_or parents a 0) (get_or parents p.later 0)) p.later p.earlier (omega (arith, p.ordered)) (eq-eqb _ _ p.same) in
    (p.later, p.within, again))

-- 11: on a sound workspace the booking found is the one with the name
waiting_decides : (w : List ℕ) → Sound w → (name i : ℕ) → look_up w name ≡ Some i → Decides (not (eqb (state_of w i) 0)) (NotWaiting w name)
waiting_decides w sound name i e = decides_by
    (λ t. record { booking = i; below = found_below_lem w name i e; named = found_name w name i e; state = (differs_decides _ _).passes t })
    (λ n.
    let same : n.booking ≡ i = cc (found_is w sound n.booking n.below) in
    told _ (differs_decides (state_of w i) 0) (λ z. n.state (ap (state_of w) same ∙ z)))

-- 13
vote_of_refused : (byte : ℕ) → is_refused (vote_of byte) ≡ not (eqb byte 1 || eqb byte 255 || eqb byte 0)
unfolding vote_of
vote_of_refused byte = go (eqb byte 1) (eqb byte 255) (eqb byte 0)
  where
    go : (one minus_one silent : Bool) → is_refused (cond one Vote.Yes (cond minus_one Vote.No (cond silent Vote.Silent Vote.Refused))) ≡ not (one || minus_one || silent)
    go true minus_one silent = refl
    go false true silent = refl
    go false false true = refl
    go false false false = refl

byte_decides : (byte : ℕ) → Decides (is_refused (vote_of byte)) (((byte ≡ 1) ⊎ (byte ≡ 255)) ⊎ (byte ≡ 0) → ⊥)
byte_decides byte =
    rw (vote_of_refused byte)
    (not_decides _ (either_decides _ _ (either_decides _ _ (equal_decides byte 1) (equal_decides byte 255)) (equal_decides byte 0)))

vote_decides : (votes : List ℕ) → Decides (has_refused_vote votes) (BadVote votes)
vote_decides votes =
    any_decides (λ a. is_refused (vote_of (get_or votes a 0))) (length votes)
    (λ a h e.
    let bad = (byte_decides (get_or votes a 0)).passes e in
    record { place = a; within = h; silent = λ z. bad (inr z); yes = λ z. bad (inl (inl z)); minus_one = λ z. bad (inl (inr z)) })
    (λ b. (b.place, b.within, told _ (byte_decides (get_or votes b.place 0)) (⊎_elim (⊎_elim b.yes b.minus_one) b.silent)))

-- ---- a line of the list, off a test: the number is the refusal's where the test passes, and else the rest's

module _ {n : ℕ} {later : Type 0} where
  refused_first : (r : Refusal) (t : Bool) (rest : Answer) {applies : Type 0} → n ≡ number (cond t (Err r) rest) → Decides t applies
      → (t ≡ false → n ≡ number rest → later) → refuses (refusal_number r) applies (λ k. later) n
  refused_first r true rest e tells onward = inl (tells.passes refl, e)
  refused_first r false rest e tells onward = inr (tells.fails refl, onward refl e)

  -- 10, and what follows it knows the number found
  asked_first : (f : Option ℕ) (rest : ℕ → Answer) {known : Type 0} → n ≡ number (asked_of f rest) → Decides (is_found f) known
      → ((i : ℕ) → f ≡ Some i → n ≡ number (rest i) → later) → refuses (refusal_number Refusal.UnknownName) (known → ⊥) (λ k. later) n
  asked_first (Some i) rest e tells onward = inr (λ d. d (tells.passes refl), onward i refl e)
  asked_first None rest e tells onward = inl (tells.fails refl, e)

module _ {n : ℕ} {later : Type 0} (w : List ℕ) (rest : Answer) where
  -- 2, 14 and 15, and what follows them knows that the workspace is sound
  damaged_first : n ≡ number (unless_stopped (damage_of w) rest) → (Sound w → n ≡ number rest → later) → damaged_listed w (λ k. later) n
  unfolding bad_record bad_slot
  damaged_first e onward =
      refused_first Refusal.DamagedHeader _ _ (e ∙ ap number (damaged_in_order w rest)) (header_decides w) (λ header e.
      refused_first (Refusal.DamagedRecord (bad_record w)) _ _ e (records_decide w) (λ records e.
      refused_first (Refusal.DamagedSlot (bad_slot w)) _ _ e (slots_decide w) (λ entries.
      onward (tests→Sound w (not-false (header_good w) header) (not-false (all (record_row w) record_rows) records) (not-false (all (slot_good w) slots) entries)))))

  -- 1 before them
  tested_first : n ≡ number (tested test_of w rest) → (Sound w → n ≡ number rest → later) → tested_listed w (λ k. later) n
  tested_first e onward =
      refused_first Refusal.WrongLength _ _ (e ∙ ap number (tested_first_length w rest)) (differs_decides (length w) size) (λ t e.
      damaged_first e onward)

  -- and 18 between, so that what follows knows the length of the index too
  index_first : (index : List ℕ) → n ≡ number (index_tested damage_of w index rest) → (Sound w → length index ≡ cells → n ≡ number rest → later)
      → index_listed w index (λ k. later) n
  unfolding beside_of
  index_first index e onward =
      refused_first Refusal.WrongLength _ _ (e ∙ ap number (beside_in_order (is_wrong_index index) Refusal.WrongIndex w rest)) (differs_decides (length w) size) (λ t e.
      refused_first Refusal.WrongIndex _ _ e (differs_decides (length index) cells) (λ fits e.
      damaged_first e (λ sound. onward sound (eqb-true (length index) cells (not-false _ fits)))))

-- ---- the lists

open_listed : (w : List ℕ) (s : Setting) → OpenListed w s (number (open_call w s).answer)
unfolding open_call
open_listed w s =
    refused_first Refusal.WrongLength _ _ (ap number (leaves_answer (open_answer w s) w (opened s))) (differs_decides (length w) size) (λ t e.
    refused_first Refusal.BadSetting _ _ e (bad_decides s) (λ t e.
    e))

book_listed : (w : List ℕ) (name slot : ℕ) (parents : List ℕ) → BookListed w name slot parents (number (book_call w name slot parents).answer)
unfolding book_call
book_listed w name slot parents =
    tested_first w _ (ap number (leaves_answer (book_answer test_of w name slot parents) w (booked w name slot parents))) (λ sound e.
    refused_first Refusal.NameTaken _ _ e (found_decides w name) (λ t e.
    refused_first Refusal.BadSlot _ _ e (either_decides _ _ (equal_decides slot 0) (most_decides slots slot)) (λ t e.
    refused_first Refusal.BadParents _ _ e (either_decides _ _ (equal_decides (length parents) 0) (less_decides most_parents (length parents))) (λ t e.
    refused_first Refusal.UnknownParent _ _ e (unknown_decides w parents) (λ t e.
    refused_first Refusal.ParentTwice _ _ e (twice_decides parents) (λ t e.
    refused_first Refusal.Full _ _ e (equal_decides (bookings w) most_bookings) (λ t e.
    e)))))))

poll_listed : (w : List ℕ) (name : ℕ) (votes : List ℕ) → PollListed w name votes (number (poll_call w name votes).answer)
unfolding poll_call
poll_listed w name votes =
    tested_first w _ (ap number (leaves_answer (poll_answer test_of w name votes) w (polled w (number_of (look_up w name)) votes))) (λ sound e.
    asked_first (look_up w name) _ e (found_decides w name) (λ i found e.
    refused_first Refusal.NotWaiting _ _ e (waiting_decides w sound name i found) (λ t e.
    refused_first Refusal.WrongVotes _ _ e (differs_decides (length votes) (setting_in w).k) (λ t e.
    refused_first Refusal.BadVote _ _ e (vote_decides votes) (λ t e.
    e)))))

reading_listed : (f : ℕ → ℤ) (w : List ℕ) (name : ℕ) → ReadingListed w name (number (reading_call f w name))
reading_listed f w name =
    tested_first w _ refl (λ sound e.
    asked_first (look_up w name) _ e (found_decides w name) (λ i found e.
    e))

write_listed : (form : Form) (w buffer : List ℕ) → WriteFileListed form w buffer (number (write_file_call form w buffer).answer)
unfolding write_file_call
write_listed form w buffer =
    tested_first w _ (ap number (hands_over_answer (write_file_answer test_of form w buffer) w buffer (laid (file_of form w) buffer))) (λ sound e.
    refused_first Refusal.ShortBuffer _ _ e (less_decides (length buffer) (length (file_of form w))) (λ t e.
    e))

-- 17
unwritten_decides : (form : Form) (file : List ℕ) → Decides (not (good_in form file)) (GoodIn form file → ⊥)
unfolding GoodIsWritten
unwritten_decides form file = not_decides (good_in form file) (decides_by (good_is_written form file).0 (good_is_written form file).1)

read_listed : (form : Form) (w file : List ℕ) → ReadFileListed form w file (number (read_file_call form w file).answer)
unfolding read_file_call
read_listed form w file =
    refused_first Refusal.WrongLength _ _ (ap number (leaves_answer (read_file_answer (good_in form) w file) w (words_in form file)))
    (differs_decides (length w) size) (λ t e.
    refused_first Refusal.BadFile _ _ e (unwritten_decides form file) (λ t e.
    e))

-- 19
other_decides : (form : Form) (file : List ℕ) → good_in form file ≡ true → Decides (has_other_marks form file) (OtherMarks form file)
other_decides form file good = record { passes = other_marks form file good; fails = marks_other form file good }

move_listed : (form : Form) (file out : List ℕ) → MoveFileListed form file out (number (move_file_call form file out).answer)
unfolding move_file_call
move_listed form file out =
    refused_first Refusal.BadFile _ _ (ap number (leaves_answer (move_file_answer good_in replay form file out) out (laid (moved_in form file) out)))
    (unwritten_decides form file) (λ good e.
    refused_first Refusal.OtherMarks _ _ e (other_decides form file (not-false _ good)) (λ t e.
    refused_first Refusal.ShortBuffer _ _ e (less_decides (length out) (length (moved_in form file))) (λ t e.
    e)))

build_listed : (w index : List ℕ) → BuildListed w index (number (index_build_call w index).answer)
unfolding index_build_call
build_listed w index =
    index_first w _ index (ap number (hands_over_answer (index_tested damage_of w index done) w index (built w))) (λ sound whole e.
    e)

-- 27
full_decides : (index : List ℕ) → Decides (is_full index) (NoneEmpty index)
full_decides index = decides_by (full→none index) (none→full index)

enter_listed : (w index : List ℕ) → EnterListed w index (number (index_enter_call w index).answer)
unfolding index_enter_call
enter_listed w index =
    index_first w _ index (ap number (hands_over_answer (enter_answer damage_of w index) w index (with_number w (newest w) index))) (λ sound whole e.
    refused_first Refusal.IndexFull _ _ e (full_decides index) (λ t e.
    e))

-- 10, by an index
met_decides : (w index : List ℕ) (name : ℕ) → Sound w → length index ≡ cells → Decides (is_found (look_up_in w index name)) (NameMet w index name)
met_decides w index name sound whole = go (look_up_in w index name) refl
  where
    go : (f : Option ℕ) → look_up_in w index name ≡ f → Decides (is_found f) (NameMet w index name)
    go (Some i) e = decides_by (λ t. found_met w index name i whole e) (λ m. refl)
    go None e = decides_by (λ t. absurd (true≢false (sym t))) (λ m. absurd (some_none _ (sym (met_found w index name m sound.bookings_most) ∙ e)))

find_listed : (w index : List ℕ) (name : ℕ) → FindListed w index name (number (index_find_call w index name))
unfolding index_find_call
find_listed w index name =
    index_first w _ index refl (λ sound whole e.
    asked_first (look_up_in w index name) _ e (met_decides w index name sound whole) (λ i found e.
    e))

list_listed : (w : List ℕ) → ListListed w (number (list_call w))
unfolding list_call
list_listed w = tested_first w done refl (λ sound e. e)

pub refused_listed : RefusedListed
refused_listed =
    record {
      opening = open_listed;
      booking = book_listed;
      polling = poll_listed;
      reading = λ what w. reading_listed (reading_of what w) w;
      writing = write_listed;
      reading_file = read_listed;
      moving = move_listed;
      building = build_listed;
      entering = enter_listed;
      finding = find_listed;
      list = list_listed;
    }
