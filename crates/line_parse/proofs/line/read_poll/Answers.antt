-- A name and the votes after it; the name is judged before a vote is stored.
use Rattle.std.proofs.Common.{◌≡◌, Some, None, sym}
use Rattle.line_words.specs.Words.{words_after}
use Rattle.line_number.specs.Numbers.{name_read}
use Rattle.line_parse.specs.Line.{bare, poll_words, poll_says}
use Rattle.line_parse.proofs.Grammar.{stepped, number_next, number_stop, polled_bad, polled_listed}
use Rattle.line_parse.proofs.line.read_poll.Goals as goal

pub returns-in_err-name : goal.returns-in_err-name
unfolding poll_says
returns-in_err-name c =
    let S = c.args in
    rw c.from_residual.ensures (polled_bad S.votes.now (number_stop name_read S.line.now S.at (bare None) _ (sym c.in_err-name.ensures)))

pub read_votes-requires : goal.read_votes-requires
read_votes-requires c =
    (stepped name_read _ _ _ _ (sym c.in_ok-name.ensures)).within

pub returns-in_err-count : goal.returns-in_err-count
unfolding poll_says
returns-in_err-count c =
    let q : poll_says (words_after c.args.line.now c.args.at) ≡ poll_words c.in_ok-name.name (words_after c.args.line.now c.in_ok-name.end) =
    number_next name_read _ _ (bare None) _ _ _ (sym c.in_ok-name.ensures) in
    rw c.from_residual-in_err-count.ensures (polled_listed _ _ None q (rw c.requires at c.read_votes.ensures) c.in_err-count.was)

pub returns : goal.returns
unfolding poll_says
returns c =
    let q : poll_says (words_after c.args.line.now c.args.at) ≡ poll_words c.in_ok-name.name (words_after c.args.line.now c.in_ok-name.end) =
    number_next name_read _ _ (bare None) _ _ _ (sym c.in_ok-name.ensures) in
    polled_listed _ _ (Some _) q (rw c.requires at c.read_votes.ensures) c.in_ok-count.was
