-- The first word is the keyword, and each arm reads the words after it as the definition does.
use mathlib.Core.Path.{refl}
use native.Mathlib.Omega.{arith}
use lib.ListN.{length-take}
use Rattle.line_scan.proofs.Split.{word_end_le}
use Rattle.line_parse.proofs.Whole.{line_says_lem, parsed_alone, parsed_booked, parsed_polled}
use Rattle.line_parse.proofs.parse.Goals as goal

pub slice_bounds-read_keyword-end : goal.slice_bounds-read_keyword-end
slice_bounds-read_keyword-end c = rw length-take (omega (arith, c.word_end-end.ensures, word_end_le c.args.line.now))

pub read_open-requires : goal.read_open-requires
read_open-requires c = omega (arith, c.word_end-end.ensures, word_end_le c.args.line.now)

pub returns-in-Open : goal.returns-in-Open
returns-in-Open c =
    let q = line_says_lem c.args.line.now c.word_end-end.result c.read_keyword.result c.word_end-end.ensures c.read_keyword.ensures in
    parsed_alone c.args.parents.now c.args.votes.now _ (rw c.in-Open.is at q) c.read_open.ensures

pub returns-in-Book : goal.returns-in-Book
returns-in-Book c =
    let q = line_says_lem c.args.line.now c.word_end-end.result c.read_keyword.result c.word_end-end.ensures c.read_keyword.ensures in
    parsed_booked c.args.parents.now c.args.votes.now _ (rw c.in-Book.is at q) c.read_book.ensures

pub returns-in-Poll : goal.returns-in-Poll
returns-in-Poll c =
    let q = line_says_lem c.args.line.now c.word_end-end.result c.read_keyword.result c.word_end-end.ensures c.read_keyword.ensures in
    parsed_polled c.args.parents.now c.args.votes.now _ (rw c.in-Poll.is at q) c.read_poll.ensures

pub returns-in-Read : goal.returns-in-Read
returns-in-Read c =
    let q = line_says_lem c.args.line.now c.word_end-end.result c.read_keyword.result c.word_end-end.ensures c.read_keyword.ensures in
    parsed_alone c.args.parents.now c.args.votes.now _ (rw c.in-Read.is at q) c.read_reading.ensures

pub returns-in-List : goal.returns-in-List
returns-in-List c =
    let q = line_says_lem c.args.line.now c.word_end-end.result c.read_keyword.result c.word_end-end.ensures c.read_keyword.ensures in
    parsed_alone c.args.parents.now c.args.votes.now _ (rw c.in-List.is at q) c.read_list.ensures

pub returns-in-Unknown : goal.returns-in-Unknown
returns-in-Unknown c =
    let q = line_says_lem c.args.line.now c.word_end-end.result c.read_keyword.result c.word_end-end.ensures c.read_keyword.ensures in
    parsed_alone c.args.parents.now c.args.votes.now _ (rw c.in-Unknown.is at q) refl
