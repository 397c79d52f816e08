-- A ledger stays a ledger, and its bookings last: every call, taken or refused, on any sound workspace.
use mathlib.Core.Path.{◌≡◌, refl, sym, ap, subst}
use mathlib.Core.Bool.{Bool, true, false, true≢false, ◌&&◌}
use mathlib.Core.List.{List}
use Prim.Native.Nat.{ℕ}
use Rattle.terms.specs.declared.setting.Setting.{Setting}
use Rattle.terms.specs.Answers.{is_taken}
use Rattle.rules.specs.Book.{look_up, number_of}
use Rattle.rules.specs.Calls.{open_call, book_call, poll_call}
use Rattle.rules.specs.Sound.{Ledger}
use Rattle.rule_laws.proofs.Opened.{opened_ledger}
use Rattle.terms.specs.declared.form.Form.{Form}
use Rattle.day_file.specs.Calls.{read_file_call}
use Rattle.promises.specs.Run.{Call, Open, Book, Poll, Ask, WriteFile, ReadFile, IndexBuild, IndexEnter, IndexFind, outcome_of, opens}
use Rattle.promises.specs.Acceptance.{renews}
use Rattle.promises.specs.Soundness.{OpenedSound, SoundKept}
use Rattle.promises.specs.Lasting.{Grown, BookingsLast, AncestryLasts}
use Rattle.promises.proofs.Taken.{open_taken, open_kept, book_taken, book_kept, poll_taken, poll_kept, write_words, read_taken, read_kept, build_words, enter_words}
use Rattle.promises.proofs.Booked.{booked_ledger, booked_grown}
use Rattle.promises.proofs.Polled.{polled_ledger, polled_grown}
use Rattle.promises.proofs.Forms.{made_ledger}
use Rattle.promises.proofs.Grown.{grown_self, ancestry_grown, reaches_grown}

-- u is a ledger that has grown from w
pub record Continues (w u : List ℕ) : Type 0 where
  pub ledger : Ledger u
  pub grown : Grown w u

kept_words : {w v u : List ℕ} → u ≡ v → Continues w v → Continues w u
kept_words {w = w} e k = subst (Continues w) (sym e) k

kept_self : (w : List ℕ) → Ledger w → Continues w w
kept_self w l = record { ledger = l; grown = grown_self w }

kept_book : (w : List ℕ) (name slot : ℕ) (parents : List ℕ) (taken : Bool) → is_taken (book_call w name slot parents).answer ≡ taken
    → Ledger w → Continues w (book_call w name slot parents).words
kept_book w name slot parents true t l =
    let o = book_taken w name slot parents t in
    kept_words o.2 (record { ledger = booked_ledger w name slot parents l o.1; grown = booked_grown w name slot parents l o.1 })
kept_book w name slot parents false t l = kept_words (book_kept w name slot parents t) (kept_self w l)

kept_poll : (w : List ℕ) (name : ℕ) (votes : List ℕ) (taken : Bool) → is_taken (poll_call w name votes).answer ≡ taken
    → Ledger w → Continues w (poll_call w name votes).words
kept_poll w name votes true t l =
    let o = poll_taken w name votes t in
    let i = number_of (look_up w name) in
    kept_words o.2 (record { ledger = polled_ledger w i votes l o.1; grown = polled_grown w i votes l o.1 })
kept_poll w name votes false t l = kept_words (poll_kept w name votes t) (kept_self w l)

-- every call that makes no new ledger
pub call_kept : (c : Call) (w : List ℕ) → renews c w ≡ false → Ledger w → Continues w (outcome_of c w).words
unfolding outcome_of
call_kept (Open s) w n l = kept_words (open_kept w s n) (kept_self w l)
call_kept (Book name slot parents) w n l = kept_book w name slot parents (is_taken (book_call w name slot parents).answer) refl l
call_kept (Poll name votes) w n l = kept_poll w name votes (is_taken (poll_call w name votes).answer) refl l
call_kept (Ask what name) w n l = kept_self w l
call_kept (WriteFile form buffer) w n l = kept_words (write_words form w buffer) (kept_self w l)
call_kept (ReadFile form file) w n l = kept_words (read_kept form w file n) (kept_self w l)
call_kept (IndexBuild index) w n l = kept_words (build_words w index) (kept_self w l)
call_kept (IndexEnter index) w n l = kept_words (enter_words w index) (kept_self w l)
call_kept (IndexFind index name) w n l = kept_self w l

-- ---- the promises

pub opened_sound : OpenedSound
unfolding OpenedSound outcome_of
opened_sound (Open s) w n t = let o = open_taken w s t in subst Ledger (sym o.2) (opened_ledger s o.1)
opened_sound (Book name slot parents) w n t = absurd (true≢false (sym n))
opened_sound (Poll name votes) w n t = absurd (true≢false (sym n))
opened_sound (Ask what name) w n t = absurd (true≢false (sym n))
opened_sound (WriteFile form buffer) w n t = absurd (true≢false (sym n))
opened_sound (IndexBuild index) w n t = absurd (true≢false (sym n))
opened_sound (IndexEnter index) w n t = absurd (true≢false (sym n))
opened_sound (IndexFind index name) w n t = absurd (true≢false (sym n))
opened_sound (ReadFile form file) w n t = let o = read_taken form w file t in subst Ledger (sym o.2) (made_ledger form file o.1)

-- taken or refused
open_sound : (w : List ℕ) (s : Setting) (taken : Bool) → is_taken (open_call w s).answer ≡ taken → Ledger w → Ledger (open_call w s).words
unfolding OpenedSound outcome_of
open_sound w s true t l = opened_sound (Open s) w refl t
open_sound w s false t l = subst Ledger (sym (open_kept w s t)) l

read_sound : (form : Form) (w file : List ℕ) (taken : Bool) → is_taken (read_file_call form w file).answer ≡ taken → Ledger w
    → Ledger (read_file_call form w file).words
unfolding OpenedSound outcome_of
read_sound form w file true t l = opened_sound (ReadFile form file) w refl t
read_sound form w file false t l = subst Ledger (sym (read_kept form w file t)) l

pub sound_kept : SoundKept
unfolding SoundKept outcome_of
sound_kept (Open s) w l = open_sound w s (is_taken (open_call w s).answer) refl l
sound_kept (Book name slot parents) w l = (call_kept (Book name slot parents) w refl l).ledger
sound_kept (Poll name votes) w l = (call_kept (Poll name votes) w refl l).ledger
sound_kept (Ask what name) w l = l
sound_kept (WriteFile form buffer) w l = (call_kept (WriteFile form buffer) w refl l).ledger
sound_kept (ReadFile form file) w l = read_sound form w file (is_taken (read_file_call form w file).answer) refl l
sound_kept (IndexBuild index) w l = (call_kept (IndexBuild index) w refl l).ledger
sound_kept (IndexEnter index) w l = (call_kept (IndexEnter index) w refl l).ledger
sound_kept (IndexFind index name) w l = l

-- nor does one that neither opens nor reads
kept_ledger : (c : Call) (w : List ℕ) → opens c ≡ false → Ledger w → Continues w (outcome_of c w).words
kept_ledger c w n = call_kept c w (ap (λ b. b && is_taken (outcome_of c w).answer) n)

pub bookings_last : BookingsLast
unfolding BookingsLast
bookings_last c w n l = (kept_ledger c w n l).grown

pub ancestry_lasts : AncestryLasts
unfolding AncestryLasts
ancestry_lasts c w n l i h =
    let g = (kept_ledger c w n l).grown in
    (ancestry_grown w (outcome_of c w).words l g i h, λ j. reaches_grown w (outcome_of c w).words l g i j h)
