-- The bits that are set are the members, and all of these are bookings.
use mathlib.Core.Path.{ap, ◌∙◌}
use Rattle.loops.specs.Total.{count}
use Rattle.rules.specs.Layout.{most_bookings}
use Rattle.rules.specs.Ancestry.{is_member}
use Rattle.bits.proofs.Members.{count_members}
use Rattle.booking_reads.proofs.Members.{members_counted}
use Rattle.booking_reads.proofs.size.size_of.Goals as goal

pub returns : goal.returns
returns c =
    c.count_set.ensures ∙ count_members _ most_bookings
    ∙ ap (λ m. count (is_member m) most_bookings) c.gather_ancestry.ensures
    ∙ members_counted c.args.w.now c.requires.0.sound c.args.i c.requires.1
