use Rattle.std.proofs.Common.{◌≡◌, ℕ, ◌-◌, ◌≤◌, List, Option, length}
use Rattle.std.specs.Fn.{FnReturnsAt}
use Rattle.line_words.specs.Words.{words_after}
use Rattle.line_scan.specs.Lists.{Reads}
use Rattle.line_scan.proofs.Leading.{Left}
use Rattle.line_scan.proofs.many.read_list.Given as goal

abbrev pub invariant-loop-word : goal.invariant-loop-word
invariant-loop-word g l =
    (l.at ≤ length l.line) × (length l.list ≡ length l.initial.list)
    × ((reader : List ℕ → Option _) → Reads (FnReturnsAt g.F.Fn l.read) reader
    → Left reader (length l.initial.list) (words_after l.line l.start) l.initial.list l.count (words_after l.line l.at) l.list)

abbrev pub decreases-loop-word : goal.decreases-loop-word
decreases-loop-word g l = length l.line - l.at
