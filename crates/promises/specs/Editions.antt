-- CR 7, as people read it: what a poll does to the slots by each edition of the rules, and that the edition stays. What is enough for acceptance stands in
-- rules/specs/AsRead.antt, and MarkEarned and EarnedMarked rest on it. Every other promise holds by both editions.
use Rattle.std.specs.Prelude.{◌≡◌, true, false, List, ◌≢◌, ℕ, ◌<◌}
use Rattle.terms.specs.Answers.{is_taken}
use Rattle.rules.specs.Layout.{slots, slot_words, entry, setting_in, counter_field, slot_of, last_in, counter_in}
use Rattle.rules.specs.Ancestry.{Reaches}
use Rattle.rules.specs.Book.{look_up, number_of}
use Rattle.rules.specs.Poll.{is_success}
use Rattle.rules.specs.Calls.{poll_call}
use Rattle.promises.specs.Run.{Call, outcome_of}
use Rattle.promises.specs.Acceptance.{renews}

-- no call but a taken opening or reading changes the setting, and with it the edition
unfoldable pub SettingLasts : Type 0
SettingLasts = (c : Call) (w : List ℕ) → renews c w ≡ false → setting_in (outcome_of c w).words ≡ setting_in w

-- ---- a slot's last changes

-- the counter of a slot whose last is another in v than in w: 0, in edition 1 1
pub record Restarted (w v : List ℕ) (s : ℕ) : Type 0 where
  pub first : (setting_in w).edition ≡ 0 → counter_in v s ≡ 0
  pub later : (setting_in w).edition ≡ 1 → counter_in v s ≡ 1

unfoldable pub LastRestarts : Type 0
LastRestarts =
    (w : List ℕ) (name : ℕ) (votes : List ℕ) → is_taken (poll_call w name votes).answer ≡ true → (s : ℕ) → s < slots
    → last_in (poll_call w name votes).words s ≢ last_in w s → Restarted w (poll_call w name votes).words s

-- ---- a poll fails

-- what a failed poll of booking i leaves of the slots, from w to v
pub record FailureLeaves (w v : List ℕ) (i : ℕ) : Type 0 where
  -- who is preferred, who is last and how many bookings there are
  pub beside : (s f : ℕ) → s < slots → f < slot_words → f ≢ counter_field → entry v s f ≡ entry w s f
  -- in edition 0 the counters too
  pub kept : (setting_in w).edition ≡ 0 → (s : ℕ) → s < slots → counter_in v s ≡ counter_in w s
  -- in edition 1 the counter of every slot in the ancestry becomes 0, whoever is last there, and every other one stays
  pub zero : (setting_in w).edition ≡ 1 → (j : ℕ) → Reaches w i j → counter_in v (slot_of w j) ≡ 0
  pub others : (setting_in w).edition ≡ 1 → (s : ℕ) → s < slots → ((j : ℕ) → Reaches w i j → slot_of w j ≢ s) → counter_in v s ≡ counter_in w s

unfoldable pub FailureTold : Type 0
FailureTold =
    (w : List ℕ) (name : ℕ) (votes : List ℕ) → is_taken (poll_call w name votes).answer ≡ true → is_success w votes ≡ false
    → FailureLeaves w (poll_call w name votes).words (number_of (look_up w name))
