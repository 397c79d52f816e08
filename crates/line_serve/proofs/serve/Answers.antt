-- The line is judged whole, its lists stand at the start of their buffers, and each command's function has the line's effect.
use mathlib.Core.Path.{◌≡◌, sym, ap, ◌∙◌}
use mathlib.Core.List.{List}
use Prim.Native.Nat.{ℕ}
use lib.ListN.{replicate}
use lib.Seq.{length-take-le}
use Rattle.std.proofs.Common.{Option, Some}
use Rattle.rules.specs.Calls.{book_call, poll_call}
use Rattle.line_parse.specs.declared.command.Command.{Command}
use Rattle.line_parse.specs.declared.command.Command.TheVariants.{Book, Poll}
use Rattle.line_parse.specs.Line.{line_says, Parsed}
use Rattle.line_parse.proofs.Counts.{line_counted}
use Rattle.line_serve.specs.Serve.{called}
use Rattle.line_serve.proofs.Serving.{serves_as, served_does, Stored, stored}
use Rattle.line_serve.proofs.serve.Goals as goal

parents_stored : {line : List ℕ} {r : Option Command} {votes parents' votes' : List ℕ} (name slot n : ℕ)
    → Parsed line (replicate 16 0) votes r parents' votes' → r ≡ Some (Book name slot n) → Stored n parents' (line_says line).parents
parents_stored {line} name slot n p e =
    let k = (line_counted line).books name slot n (sym p.answer ∙ e) in
    stored (replicate 16 0) p.parents_after (sym k.0) k.1

votes_stored : {line : List ℕ} {r : Option Command} {parents parents' votes' : List ℕ} (name n : ℕ)
    → Parsed line parents (replicate 64 0) r parents' votes' → r ≡ Some (Poll name n) → Stored n votes' (line_says line).votes
votes_stored {line} name n p e =
    let k = (line_counted line).polls name n (sym p.answer ∙ e) in
    stored (replicate 64 0) p.votes_after (sym k.0) k.1

pub slice_bounds-parents-end : goal.slice_bounds-parents-end
slice_bounds-parents-end c = (parents_stored _ _ _ c.parse.ensures (c.in-Some.is ∙ ap Some c.in-Book.is)).fits

pub slice_bounds-serve_book-end : goal.slice_bounds-serve_book-end
slice_bounds-serve_book-end c =
    sym (length-take-le _ _ (parents_stored _ _ _ c.parse.ensures (c.in-Some.is ∙ ap Some c.in-Book.is)).fits)

pub slice_bounds-votes-end : goal.slice_bounds-votes-end
slice_bounds-votes-end c = (votes_stored _ _ c.parse.ensures (c.in-Some.is ∙ ap Some c.in-Poll.is)).fits

pub slice_bounds-serve_poll-end : goal.slice_bounds-serve_poll-end
slice_bounds-serve_poll-end c =
    sym (length-take-le _ _ (votes_stored _ _ c.parse.ensures (c.in-Some.is ∙ ap Some c.in-Poll.is)).fits)

pub returns-in-Open : goal.returns-in-Open
returns-in-Open c =
    serves_as (served_does c.args.w.now c.args.line.now _ (sym c.parse.ensures.answer ∙ (c.in-Some.is ∙ ap Some c.in-Open.is))) c.serve_open.ensures

pub returns-in-Book : goal.returns-in-Book
returns-in-Book c =
    let lists = parents_stored _ _ _ c.parse.ensures (c.in-Some.is ∙ ap Some c.in-Book.is) in
    serves_as (ap (λ parents. called (book_call c.args.w.now c.in-Book.name c.in-Book.slot parents)) lists.start ∙ served_does c.args.w.now c.args.line.now _ (sym c.parse.ensures.answer ∙ (c.in-Some.is ∙ ap Some c.in-Book.is))) c.serve_book.ensures

pub returns-in-Poll : goal.returns-in-Poll
returns-in-Poll c =
    let lists = votes_stored _ _ c.parse.ensures (c.in-Some.is ∙ ap Some c.in-Poll.is) in
    serves_as (ap (λ votes. called (poll_call c.args.w.now c.in-Poll.name votes)) lists.start ∙ served_does c.args.w.now c.args.line.now _ (sym c.parse.ensures.answer ∙ (c.in-Some.is ∙ ap Some c.in-Poll.is))) c.serve_poll.ensures

pub returns-in-Read : goal.returns-in-Read
returns-in-Read c =
    serves_as (served_does c.args.w.now c.args.line.now _ (sym c.parse.ensures.answer ∙ (c.in-Some.is ∙ ap Some c.in-Read.is))) c.serve_read.ensures

pub returns-in-List : goal.returns-in-List
returns-in-List c =
    serves_as (served_does c.args.w.now c.args.line.now _ (sym c.parse.ensures.answer ∙ (c.in-Some.is ∙ ap Some c.in-List.is))) c.serve_list.ensures

pub returns-in_default : goal.returns-in_default
returns-in_default c =
    serves_as (served_does c.args.w.now c.args.line.now _ (sym c.parse.ensures.answer ∙ c.in_default.is)) c.serve_bad.ensures
