use Prim.Native.Nat.{ℕ, ◌+◌, ◌≤◌}
use mathlib.Core.Path.{◌≡◌}
use mathlib.Core.Bool.{not}
use mathlib.Core.List.{List}
use lib.ListN.{drop}
use Rattle.loops.proofs.Search.{Searched}
use Rattle.bits.specs.Members.{set_below}
use Rattle.day_file.specs.Bytes.{poll_bytes}
use Rattle.day_file.specs.Decode.{read_poll, read_many}
use Rattle.day_file.specs.DayRules.{poll_passes}
use Rattle.day_file.specs.Day.{DayPoll, polled_in}
use Rattle.day_judge.specs.Parts.{HoldsMany}
use Rattle.day_judge.proofs.polls_good.Given as goal

abbrev pub polls_at : List ℕ → ℕ → ℕ → List DayPoll
polls_at sections start polls = (read_many read_poll polls (drop start sections)).value

abbrev pub invariant-loop-q : goal.invariant-loop-q
invariant-loop-q l =
    (l.q ≤ l.polls) × (l.seen ≡ set_below (polled_in (polls_at l.sections (l.at + 2) l.polls)) l.q) × HoldsMany poll_bytes read_poll l.q (drop (l.at + 2) l.sections)
    × Searched (λ k. not (poll_passes l.most (polls_at l.sections (l.at + 2) l.polls) k)) l.polls l.q
