-- Lines with what they say, computed from the definitions: what each rule of the syntax takes and what it leaves out.
use mathlib.Core.Path.{◌≡◌, refl}
use mathlib.Core.List.{[], ◌∷◌}
use Prim.Native.String.{String}
use Rattle.std.proofs.Common.{Some, None}
use Rattle.loops.specs.Search.{first_from}
use Rattle.loops.specs.Turns.{up_to}
use Rattle.text_bytes.specs.Bytes.{bytes}
use Rattle.terms.specs.declared.answer.Reading.TheVariants.{Query, Accepted, Lead, Confidence, Size}
use Rattle.line_words.specs.Words.{words, word_end, words_after}
use Rattle.line_number.specs.Numbers.{value_of, is_number, number_read, vote_read}
use Rattle.line_keyword.specs.Keywords.{is_same}
use Rattle.line_scan.specs.Lists.{leading, many_of}
use Rattle.line_parse.specs.declared.command.Command.TheVariants.{Open, Book, Poll, Read, List as ListAll}
use Rattle.line_parse.specs.Line.{Said, bare, open_says, read_says, book_says, poll_says, line_says}

unfoldable says : String → Said
says line = line_says (bytes line)

abbrev bad : Said
bad = bare None

good_lines :
    (says "book 4 10 1 2" ≡ record { command = Some (Book 4 10 2); parents = 1 ∷ 2 ∷ []; votes = [] })
    × (says "book 4 10" ≡ bare (Some (Book 4 10 0)))
    × (says "poll 2 1 1 -1" ≡ record { command = Some (Poll 2 3); parents = []; votes = 1 ∷ 1 ∷ 255 ∷ [] })
    × (says "poll 2" ≡ bare (Some (Poll 2 0)))
    × (says "query 1" ≡ bare (Some (Read Query 1)))
    × (says "accepted 1" ≡ bare (Some (Read Accepted 1)))
    × (says "lead 1" ≡ bare (Some (Read Lead 1)))
    × (says "confidence 1" ≡ bare (Some (Read Confidence 1)))
    × (says "size 1" ≡ bare (Some (Read Size 1)))
    × (says "list" ≡ bare (Some ListAll))
unfolding says line_says words word_end words_after value_of is_number number_read vote_read is_same leading many_of open_says read_says book_says poll_says first_from up_to
good_lines = (refl, refl, refl, refl, refl, refl, refl, refl, refl, refl)

-- `open` with four numbers: the edition is 1
edition_untold_lem :
    (says "open 3 2 1 2" ≡ bare (Some (Open (record { k = 3; a = 2; beta1 = 1; beta2 = 2; edition = 1 }))))
    × (says "open 0 0 0 0" ≡ bare (Some (Open (record { k = 0; a = 0; beta1 = 0; beta2 = 0; edition = 1 }))))
unfolding says line_says words word_end words_after value_of is_number number_read vote_read is_same leading many_of open_says read_says book_says poll_says first_from up_to
edition_untold_lem = (refl, refl)

-- with five: the fifth is the edition. Whether there is such an edition is not the line's to judge.
edition_told :
    (says "open 3 2 1 2 0" ≡ bare (Some (Open (record { k = 3; a = 2; beta1 = 1; beta2 = 2; edition = 0 }))))
    × (says "open 3 2 1 2 1" ≡ bare (Some (Open (record { k = 3; a = 2; beta1 = 1; beta2 = 2; edition = 1 }))))
    × (says "open 3 2 1 2 7" ≡ bare (Some (Open (record { k = 3; a = 2; beta1 = 1; beta2 = 2; edition = 7 }))))
    × (says "open 65535 65534 65533 65532 65535" ≡ bare (Some (Open (record { k = 65535; a = 65534; beta1 = 65533; beta2 = 65532; edition = 65535 }))))
unfolding says line_says words word_end words_after value_of is_number number_read vote_read is_same leading many_of open_says read_says book_says poll_says first_from up_to
edition_told = (refl, refl, refl, refl)

-- with three or six, or a fifth word that is no number
open_counts :
    (says "open" ≡ bad)
    × (says "open 3 2 1" ≡ bad)
    × (says "open 3 2 1 2 0 0" ≡ bad)
    × (says "open 3 2 1 2 x" ≡ bad)
    × (says "open 3 2 1 2 " ≡ bad)
unfolding says line_says words word_end words_after value_of is_number number_read vote_read is_same leading many_of open_says read_says book_says poll_says first_from up_to
open_counts = (refl, refl, refl, refl, refl)

-- none above 65535
open_limits :
    (says "open 65536 0 0 0 0" ≡ bad)
    × (says "open 0 0 0 65536 0" ≡ bad)
    × (says "open 3 2 1 2 65536" ≡ bad)
    × (says "open 3 2 1 2 65537" ≡ bad)
unfolding says line_says words word_end words_after value_of is_number number_read vote_read is_same leading many_of open_says read_says book_says poll_says first_from up_to
open_limits = (refl, refl, refl, refl)

-- the limits of numbers: names, everything else, and twenty digits
numbers :
    (says "query 18446744073709551615" ≡ bare (Some (Read Query 18446744073709551615)))
    × (says "query 18446744073709551616" ≡ bad)
    × (says "query 99999999999999999999" ≡ bad)
    × (says "query 00000000000000000007" ≡ bare (Some (Read Query 7)))
    × (says "query 000000000000000000007" ≡ bad)
    × (says "query -1" ≡ bad)
    × (says "query 1a" ≡ bad)
    × (says "book 1 65535" ≡ bare (Some (Book 1 65535 0)))
    × (says "book 1 65536" ≡ bad)
unfolding says line_says words word_end words_after value_of is_number number_read vote_read is_same leading many_of open_says read_says book_says poll_says first_from up_to
numbers = (refl, refl, refl, refl, refl, refl, refl, refl, refl)

-- votes: the number typed is limited, not its byte, and the sign is none of the twenty digits
votes :
    (says "poll 2 -0 -128 127" ≡ record { command = Some (Poll 2 3); parents = []; votes = 0 ∷ 128 ∷ 127 ∷ [] })
    × (says "poll 2 128" ≡ bad)
    × (says "poll 2 255" ≡ bad)
    × (says "poll 2 -129" ≡ bad)
    × (says "poll 2 -" ≡ bad)
    × (says "poll 2 --1" ≡ bad)
    × (says "poll 2 -00000000000000000001" ≡ record { command = Some (Poll 2 1); parents = []; votes = 255 ∷ [] })
    × (says "poll 2 1 x" ≡ record { command = None; parents = []; votes = 1 ∷ [] })
unfolding says line_says words word_end words_after value_of is_number number_read vote_read is_same leading many_of open_says read_says book_says poll_says first_from up_to
votes = (refl, refl, refl, refl, refl, refl, refl, refl)

-- spaces, letters and the number of words
other_lines :
    (says "" ≡ bad)
    × (says " " ≡ bad)
    × (says " list" ≡ bad)
    × (says "list " ≡ bad)
    × (says "list 1" ≡ bad)
    × (says "List" ≡ bad)
    × (says "lists" ≡ bad)
    × (says "open  3 2 1 2" ≡ bad)
    × (says "query" ≡ bad)
    × (says "query 1 2" ≡ bad)
    × (says "query\t1" ≡ bad)
    × (says "query 1\r" ≡ bad)
    × (says "book 1" ≡ bad)
    × (says "poll" ≡ bad)
unfolding says line_says words word_end words_after value_of is_number number_read vote_read is_same leading many_of open_says read_says book_says poll_says first_from up_to
other_lines = (refl, refl, refl, refl, refl, refl, refl, refl, refl, refl, refl, refl, refl, refl)

-- sixteen parents are taken, one more is not
too_many :
    ((says "book 2 3 1 1 1 1 1 1 1 1 1 1 1 1 1 1 1 1").command ≡ Some (Book 2 3 16))
    × ((says "book 2 3 1 1 1 1 1 1 1 1 1 1 1 1 1 1 1 1 1").command ≡ None)
unfolding says line_says words word_end words_after value_of is_number number_read vote_read is_same leading many_of open_says read_says book_says poll_says first_from up_to
too_many = (refl, refl)
