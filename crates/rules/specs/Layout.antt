-- Document 01, "Numbers that bound it" and "The workspace", CR 5 and CR 7: where each word stands, and what it is called.
-- Widths, starts and how many there may be are named here and nowhere else (src/layout.rt has the same, for the code).
use Rattle.std.specs.Prelude.{ℕ, ◌+◌, ◌*◌, Bool, List, get_or, set, eqb}
use Rattle.terms.specs.declared.setting.Setting.{Setting}
use Rattle.terms.specs.Setting.{setting_of}

-- ---- numbers that bound it

abbrev pub most_bookings : ℕ
most_bookings = 512

-- slots 0 to 255
abbrev pub slots : ℕ
slots = 256

abbrev pub most_parents : ℕ
most_parents = 4

-- ---- 8 header words, 512 records of 13 words, 256 slot entries of 4 words

abbrev pub header_words : ℕ
header_words = 8

abbrev pub record_words : ℕ
record_words = 13

abbrev pub slot_words : ℕ
slot_words = 4

abbrev pub slots_start : ℕ
slots_start = header_words + most_bookings * record_words

abbrev pub size : ℕ
size = slots_start + slots * slot_words

-- word f of record i, and word f of slot entry s
abbrev pub record_at : ℕ → ℕ → ℕ
record_at i f = header_words + record_words * i + f

abbrev pub slot_at : ℕ → ℕ → ℕ
slot_at s f = slots_start + slot_words * s + f

-- what stands where no number does
abbrev pub none : ℕ
none = 65535

-- ---- reading and writing a word

abbrev pub header : List ℕ → ℕ → ℕ
header w f = get_or w f 0

abbrev pub field : List ℕ → ℕ → ℕ → ℕ
field w i f = get_or w (record_at i f) 0

abbrev pub entry : List ℕ → ℕ → ℕ → ℕ
entry w s f = get_or w (slot_at s f) 0

abbrev pub with_header : List ℕ → ℕ → ℕ → List ℕ
with_header w f v = set w f v

abbrev pub with_field : List ℕ → ℕ → ℕ → ℕ → List ℕ
with_field w i f v = set w (record_at i f) v

abbrev pub with_entry : List ℕ → ℕ → ℕ → ℕ → List ℕ
with_entry w s f v = set w (slot_at s f) v

-- ---- the header: n, k, a, β1, β2, p, edition, 0

abbrev pub bookings_field : ℕ
bookings_field = 0

abbrev pub k_field : ℕ
k_field = 1

abbrev pub a_field : ℕ
a_field = 2

abbrev pub beta1_field : ℕ
beta1_field = 3

abbrev pub beta2_field : ℕ
beta2_field = 4

abbrev pub polls_field : ℕ
polls_field = 5

abbrev pub edition_field : ℕ
edition_field = 6

abbrev pub spare_field : ℕ
spare_field = 7

-- n, how many bookings
abbrev pub bookings : List ℕ → ℕ
bookings w = header w bookings_field

abbrev pub setting_in : List ℕ → Setting
setting_in w = setting_of (header w k_field) (header w a_field) (header w beta1_field) (header w beta2_field) (header w edition_field)

-- p, how many polls were taken
abbrev pub polls : List ℕ → ℕ
polls w = header w polls_field

-- ---- a record: name, slot, parents, state, confidence, ordinal, mark

abbrev pub slot_field : ℕ
slot_field = 4

abbrev pub parents_field : ℕ
parents_field = 5

abbrev pub state_field : ℕ
state_field = 9

abbrev pub confidence_field : ℕ
confidence_field = 10

abbrev pub ordinal_field : ℕ
ordinal_field = 11

abbrev pub mark_field : ℕ
mark_field = 12

-- the name: four words, highest part first
abbrev pub name_of : List ℕ → ℕ → ℕ
name_of w i = ((field w i 0 * 65536 + field w i 1) * 65536 + field w i 2) * 65536 + field w i 3

abbrev pub slot_of : List ℕ → ℕ → ℕ
slot_of w i = field w i slot_field

-- the parent at place 0 to 3
abbrev pub parent_of : List ℕ → ℕ → ℕ → ℕ
parent_of w i a = field w i (parents_field + a)

-- 0 waiting, 1 polled without a chit, 2 chit
abbrev pub state_of : List ℕ → ℕ → ℕ
state_of w i = field w i state_field

abbrev pub confidence_of : List ℕ → ℕ → ℕ
confidence_of w i = field w i confidence_field

abbrev pub ordinal_of : List ℕ → ℕ → ℕ
ordinal_of w i = field w i ordinal_field

-- 1 where the booking is accepted, else 0
abbrev pub mark_of : List ℕ → ℕ → ℕ
mark_of w i = field w i mark_field

abbrev pub is_marked : List ℕ → ℕ → Bool
is_marked w i = eqb (mark_of w i) 1

-- ---- a slot entry: preferred number, last number, counter, how many bookings

abbrev pub preferred_field : ℕ
preferred_field = 0

abbrev pub last_field : ℕ
last_field = 1

abbrev pub counter_field : ℕ
counter_field = 2

abbrev pub held_field : ℕ
held_field = 3

abbrev pub preferred_in : List ℕ → ℕ → ℕ
preferred_in w s = entry w s preferred_field

abbrev pub last_in : List ℕ → ℕ → ℕ
last_in w s = entry w s last_field

abbrev pub counter_in : List ℕ → ℕ → ℕ
counter_in w s = entry w s counter_field

abbrev pub held_in : List ℕ → ℕ → ℕ
held_in w s = entry w s held_field
