-- A part that isn't good is none of a good file's; where all are good, so is the file.
use Prim.Native.Nat.{ℕ, ◌-◌, ◌<◌}
use mathlib.Core.Path.{◌≡◌, refl, sym, ap, ◌∙◌}
use mathlib.Core.List.{List}
use native.Mathlib.Omega.{arith}
use lib.ListN.{length, take, drop, length-drop}
use borrow.Author.Rules.{rules}
use Rattle.std.proofs.lemmas.List.{take_rest}
use Rattle.loops.proofs.Bools.{refuted}
use Rattle.name_filter.specs.Names.{with_noted}
use Rattle.name_filter.proofs.Names.{names_noted_zero, names_noted_more}
use Rattle.day_file.specs.Replay.{good_file}
use Rattle.day_judge.specs.Parts.{setting_end, name_read}
use Rattle.day_judge.specs.Judged.{SettingEnds}
use Rattle.day_judge.proofs.Decides.{decides_same}
use Rattle.day_judge.proofs.Whole.{bookings_few, good_least, good_setting, good_bookings, good_polls, file_good}
use Rattle.day_judge.proofs.is_good.Goals as goal

pub returns-then-file-lt-LEAST_FILE : goal.returns-then-file-lt-LEAST_FILE
returns-then-file-lt-LEAST_FILE c =
    sym (refuted (good_file c.args.file.now) (λ g. omega (arith, good_least c.args.file.now g)))

-- what the file has behind its setting
behind : (file : List ℕ) (start : ℕ) → SettingEnds file start → take (length file - start) (drop start file) ≡ drop (setting_end file) file
behind file start ends = take_rest file start ∙ ap (λ k. drop k file) ends.end

pub returns-in_default : goal.returns-in_default
returns-in_default c =
    sym (refuted (good_file c.args.file.now) (λ g. c.in_default.ensures (good_setting c.args.file.now g)))

pub bookings_end-requires : goal.bookings_end-requires
bookings_end-requires c =
    let file = c.args.file.now in
    let start = c.in-Some.start in
    let ends : SettingEnds file start = c.in-Some.ensures in
    let names = name_read (drop 2 (take (length file - start) (drop start file))) in (
      omega (arith, ap length (take_rest file start), length-drop start file, ends.most, c.if-file-lt-LEAST_FILE.false),
      search rules,
      c.note.ensures.1 ∙ sym (names_noted_more names 0 ∙ ap (with_noted 0) (names_noted_zero names)),
    )

pub returns-in_default-bookings_end : goal.returns-in_default-bookings_end
returns-in_default-bookings_end c =
    let file = c.args.file.now in
    sym (refuted (good_file file) (λ g.
    c.in_default-bookings_end.ensures (good_bookings file _ (behind file c.in-Some.start c.in-Some.ensures) c.number_at-count.result (search rules) c.number_at-count.ensures g)))

pub polls_good-requires : goal.polls_good-requires
polls_good-requires c =
    let ended = c.in-Some-bookings_end.ensures in
    (ended.walked.within, bookings_few _ c.number_at-count.result ended.good, refl)

pub returns : goal.returns
returns c =
    let file = c.args.file.now in
    let ends = c.in-Some.ensures in
    let here = behind file c.in-Some.start ends in
    let ended = c.in-Some-bookings_end.ensures in
    let there = ended.walked.there in
    let small : c.number_at-count.result < 65536 = search rules in
    decides_same _ (good_file file) c.polls_good.ensures
    (λ g. rw there at (good_polls file _ here c.number_at-count.result small c.number_at-count.ensures g))
    (λ polls. file_good file _ here c.number_at-count.result small c.number_at-count.ensures ends.good ended.good (rw (← there) at polls))
