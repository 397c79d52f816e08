-- Bits that say which slots have a mark, and what one turn of the pass makes of the words and of them.
use Rattle.std.specs.Prelude.{ℕ, ◌<◌, ◌≡◌, Bool, ◌&&◌, List, eqb, length}
use Rattle.loops.specs.Search.{any}
use Rattle.rules.specs.Layout.{slots, bookings, slot_of, is_marked}
use Rattle.rules.specs.Marks.{mark_one}
use Rattle.bits.specs.Bits.{bit_at}
use Rattle.bits.specs.Members.{bit_words}

-- some booking of slot s is marked
abbrev pub has_mark : List ℕ → ℕ → Bool
has_mark w s = any (λ i. is_marked w i && eqb (slot_of w i) s) (bookings w)

-- a slot's bit is set exactly if the slot has a mark in w
pub record SlotsNoted (w noted : List ℕ) : Type 0 where
  pub long : length noted ≡ bit_words
  pub each : (s : ℕ) → s < slots → bit_at noted s ≡ has_mark w s

-- turn j of the pass, from w to w', with the bits as they are for w'
pub record MarkedOne (w : List ℕ) (j : ℕ) (w' noted : List ℕ) : Type 0 where
  pub after : w' ≡ mark_one j w
  pub slots : SlotsNoted w' noted
