-- What is written so far is the count and the bookings so far; the sum of their bytes says that the next one has room.
use mathlib.Core.Path.{◌≡◌, ap}
use Prim.Native.Nat.{◌-◌, ◌+◌}
use native.Mathlib.Omega.{arith}
use Rattle.loops.proofs.Total.{total_within}
use Rattle.rules.specs.Layout.{bookings}
use Rattle.put.proofs.Puts.{put_past}
use Rattle.day_file.proofs.Joined.{length_high_first}
use Rattle.day_file.specs.InTurn.{booking_length}
use Rattle.day_sections.proofs.Sections.{bookings_none, bookings_more, bookings_past, bookings_all}
use Rattle.day_sections.proofs.put_bookings.Goals as goal

pub loop-i-init : goal.loop-i-init
loop-i-init c = (omega (arith, c.requires.0.sound.bookings_least), bookings_none c.args.w.now _ _)

pub put_booking-next-requires : goal.put_booking-next-requires
put_booking-next-requires c =
    let w = c.args.w.now in
    let j = c.loop-i.i - 1 in
    let here : j + 1 ≡ c.loop-i.i = omega arith in (
      c.requires.0.whole,
      omega (arith, c.requires.0.sound.bookings_most),
      omega (
        arith,
        put_past 2 (length_high_first 2 _) c.put_number-next.ensures,
        bookings_past w j c.loop-i.invariant.1,
        rw here at (total_within (booking_length w) (bookings w - 1) j (omega arith)),
        c.requires.1,
      ),
    )

pub loop-i-preserved : goal.loop-i-preserved
loop-i-preserved c =
    let w = c.args.w.now in
    let j = c.loop-i.i - 1 in
    let here : j + 1 ≡ c.loop-i.i = omega arith in
    let next : c.loop-i.i ≡ c.loop-i.i + 1 - 1 = omega arith in
    (omega arith, rw (← next, ← here) (bookings_more w j c.loop-i.invariant.1 (rw here c.put_booking-next.ensures)))

pub returns : goal.returns
returns c =
    let w = c.args.w.now in
    let e : c.loop-i.i ≡ bookings w = omega arith in
    bookings_all w (bookings w - 1) (ap (λ n. n - 1) c.header-n.ensures) c.put_number-next.ensures (rw e at c.loop-i.invariant.1)
