-- How code counts, writes and reads a file, row by row. These are no rules of their own: proofs/Lengths.antt shows that a file is as long as is counted here,
-- proofs/Polls.antt that the polls, each written at the place of its ordinal, stand in the order of their ordinals, and promises/proofs/Stages.antt that
-- the words of a replay, row by row, are those that the calls leave.
use Rattle.std.specs.Prelude.{ℕ, ◌+◌, ◌*◌, ◌-◌, cond, List, [], ◌∷◌, length, get_or, take, replicate, eqb, ltb}
use Rattle.std.proofs.lemmas.List.Edits.{sets}
use Rattle.terms.specs.Answers.{Outcome}
use Rattle.rules.specs.Layout.{size, none, ordinal_of}
use Rattle.rules.specs.Calls.{test_of, open_call}
use Rattle.day_file.specs.Day.{Day, parent_count, poll_of}
use Rattle.day_file.specs.Bytes.{poll_bytes}
use Rattle.day_file.specs.Replay.{in_order, rebook_by, repoll_by}

-- ---- writing

-- how many bytes the edition takes behind the other numbers of a setting: edition 0 is not written
unfoldable pub edition_length : (edition : ℕ) → ℕ
edition_length edition = cond (eqb edition 0) 0 2

-- how many bytes the booking after j others takes, which has number j + 1
abbrev pub booking_length : List ℕ → ℕ → ℕ
booking_length w j = 12 + 2 * parent_count w (j + 1)

-- where the poll of an ordinal stands in the section, behind the count
abbrev pub poll_at : ℕ → ℕ
poll_at ordinal = 2 + 4 * (ordinal - 1)

-- what record i writes, if it was polled
unfoldable pub pair_at : List ℕ → ℕ → List ℕ → List ℕ
pair_at w i out = cond (eqb (ordinal_of w i) 0) out (sets out (poll_at (ordinal_of w i)) (poll_bytes (poll_of w i)))

-- ---- reading

-- what stands at parent place a: the parent's number, or nothing past the list's end
abbrev pub place_of : List ℕ → ℕ → ℕ
place_of parents a = cond (ltb a (length parents)) (get_or parents a 0) none

-- the four parent places of a record
abbrev pub places : List ℕ → List ℕ
places parents = place_of parents 0 ∷ place_of parents 1 ∷ place_of parents 2 ∷ place_of parents 3 ∷ []

-- what a day's replay gives after its first j bookings
unfoldable pub rebooked : Day → ℕ → Outcome
rebooked d j = in_order (rebook_by test_of) (take j d.bookings) (open_call (replicate size 0) d.setting)

-- after all of them, and its first q polls
unfoldable pub repolled : Day → ℕ → Outcome
repolled d q = in_order (repoll_by test_of) (take q d.polls) (rebooked d (length d.bookings))
