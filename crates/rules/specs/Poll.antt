-- Document 01, "Poll", CR 5 and CR 7: how many votes say yes, and what a completed poll does to the words.
use Rattle.std.specs.Prelude.{ℕ, ◌+◌, Bool, cond, List, length, get_or, eqb, ltb, leb}
use Rattle.loops.specs.Turns.{up_to}
use Rattle.loops.specs.Search.{any}
use Rattle.loops.specs.Total.{count}
use Rattle.terms.specs.Votes.{vote_of, is_yes, is_refused}
use Rattle.terms.specs.Editions.{restart, failure_clears}
use Rattle.rules.specs.Ancestry.{ancestry, is_member}
use Rattle.rules.specs.Marks.{marked}
use Rattle.rules.specs.Layout.{
  bookings,
  setting_in,
  polls,
  polls_field,
  state_field,
  ordinal_field,
  confidence_field,
  preferred_field,
  last_field,
  counter_field,
  slot_of,
  confidence_of,
  preferred_in,
  last_in,
  counter_in,
  with_header,
  with_field,
  with_entry,
}

-- a silent station counts neither way, and a no takes no yes away
abbrev pub yes_votes : List ℕ → ℕ
yes_votes votes = count (λ j. is_yes (vote_of (get_or votes j 0))) (length votes)

abbrev pub has_refused_vote : List ℕ → Bool
has_refused_vote votes = any (λ j. is_refused (vote_of (get_or votes j 0))) (length votes)

-- the poll succeeds exactly if the yes votes number a or more
abbrev pub is_success : List ℕ → List ℕ → Bool
is_success w votes = leb (setting_in w).a (yes_votes votes)

-- p rises and becomes the ordinal of booking i, whose state is as given
abbrev pub noted : List ℕ → ℕ → ℕ → List ℕ
noted w i state = with_field (with_field (with_header w polls_field (polls w + 1)) i state_field state) i ordinal_field (polls w + 1)

-- one confidence more for j if it is a member
unfoldable pub raise_one : List ℕ → ℕ → List ℕ → List ℕ
raise_one m j w = cond (is_member m j) (with_field w j confidence_field (confidence_of w j + 1)) w

-- every member gains one confidence
abbrev pub raised : List ℕ → ℕ → List ℕ → List ℕ
raised m n w = up_to (raise_one m) n w

-- 1. if j's confidence is strictly above that of the preferred booking of slot s, it becomes preferred
unfoldable pub prefer : ℕ → ℕ → List ℕ → List ℕ
prefer s j w = cond (ltb (confidence_of w (preferred_in w s)) (confidence_of w j)) (with_entry w s preferred_field j) w

-- 2. if j is not the last of slot s, it becomes last and the counter restarts; otherwise the counter rises by one
unfoldable pub follow : ℕ → ℕ → List ℕ → List ℕ
follow s j w =
    cond (eqb (last_in w s) j) (with_entry w s counter_field (counter_in w s + 1))
    (with_entry (with_entry w s last_field j) s counter_field (restart (setting_in w).edition))

-- both for j, in this order, if it is a member
unfoldable pub settle_one : List ℕ → ℕ → List ℕ → List ℕ
settle_one m j w = cond (is_member m j) (follow (slot_of w j) j (prefer (slot_of w j) j w)) w

-- both for each member in rising number
abbrev pub settled : List ℕ → ℕ → List ℕ → List ℕ
settled m n w = up_to (settle_one m) n w

-- the counter of j's slot becomes 0 if j is a member, whoever is last there
unfoldable pub clear_one : List ℕ → ℕ → List ℕ → List ℕ
clear_one m j w = cond (is_member m j) (with_entry w (slot_of w j) counter_field 0) w

-- the same for every member
abbrev pub cleared : List ℕ → ℕ → List ℕ → List ℕ
cleared m n w = up_to (clear_one m) n w

-- on failure the state becomes 1. Nothing changes beyond what is noted, unless the edition has the counters of the members' slots cleared
abbrev pub failed_with : List ℕ → List ℕ → ℕ → List ℕ
failed_with m w i = cond (failure_clears (setting_in w).edition) (cleared m (bookings w) (noted w i 1)) (noted w i 1)

-- on success the state becomes 2, every member of m gains one confidence, and then each is settled
abbrev pub succeeded_with : List ℕ → List ℕ → ℕ → List ℕ
succeeded_with m w i = settled m (bookings w) (raised m (bookings w) (noted w i 2))

-- the members are those of the ancestry
abbrev pub failed : List ℕ → ℕ → List ℕ
failed w i = failed_with (ancestry w i) w i

abbrev pub succeeded : List ℕ → ℕ → List ℕ
succeeded w i = succeeded_with (ancestry w i) w i

-- by its outcome, before anybody is marked
abbrev pub concluded : Bool → List ℕ → ℕ → List ℕ
concluded success w i = cond success (succeeded w i) (failed w i)

-- and then, whatever the outcome, those who meet the rule of acceptance are marked
abbrev pub polled_by : Bool → List ℕ → ℕ → List ℕ
polled_by success w i = marked (concluded success w i)

-- the words after a taken poll of booking i
unfoldable pub polled : List ℕ → ℕ → List ℕ → List ℕ
polled w i votes = polled_by (is_success w votes) w i
