-- Each section is lent what remains behind the one before it, and has room there.
use mathlib.Core.Path.{◌≡◌}
use mathlib.Core.List.{List}
use Prim.Native.Nat.{ℕ, ◌+◌, ◌≤◌}
use native.Mathlib.Omega.{arith}
use lib.ListN.{length}
use Rattle.put.proofs.Puts.{around}
use Rattle.day_file.proofs.Lengths.{length_day_file}
use Rattle.known_write.proofs.Written.{room_first, after_first, room_second, after_second, room_third, all_laid}
use Rattle.known_write.proofs.put_day.Goals as goal

pub put_setting-second-requires : goal.put_setting-second-requires
put_setting-second-requires c =
    (c.requires.0.whole, room_first c.args.w.now c.args.out.now c.requires.1)

pub slice_bounds-put_bookings-count : goal.slice_bounds-put_bookings-count
slice_bounds-put_bookings-count c =
    let second-within : c.put_setting-second.result ≤ length c.put_setting-second.new.out = omega (arith, after_first c.args.w.now c.args.out.now c.requires.1 c.put_setting-second.ensures, room_first c.args.w.now c.args.out.now c.requires.1) in
    second-within

pub slice_bounds-put_bookings-start : goal.slice_bounds-put_bookings-start
slice_bounds-put_bookings-start c =
    let second-within : c.put_setting-second.result ≤ length c.put_setting-second.new.out = omega (arith, after_first c.args.w.now c.args.out.now c.requires.1 c.put_setting-second.ensures, room_first c.args.w.now c.args.out.now c.requires.1) in
    second-within

pub put_bookings-requires : goal.put_bookings-requires
put_bookings-requires c =
    (c.requires.0, room_second c.args.w.now c.args.out.now c.requires.1 c.put_setting-second.ensures)

pub overflow_add-third : goal.overflow_add-third
overflow_add-third c =
    let after : List ℕ = around c.put_setting-second.new.out c.put_setting-second.result c.put_bookings.new.out in
    let third_at : (c.put_setting-second.result + c.put_bookings.result ≤ length after) × (length after ≡ length c.args.out.now) = let known = after_second c.args.w.now c.args.out.now c.requires.1 c.put_setting-second.ensures c.put_bookings.ensures in (omega (arith, known, length_day_file c.args.w.now, c.requires.1), known.1) in
    omega (arith, third_at)

pub slice_bounds-put_polls-count : goal.slice_bounds-put_polls-count
slice_bounds-put_polls-count c =
    let after : List ℕ = around c.put_setting-second.new.out c.put_setting-second.result c.put_bookings.new.out in
    let third_at : (c.put_setting-second.result + c.put_bookings.result ≤ length after) × (length after ≡ length c.args.out.now) = let known = after_second c.args.w.now c.args.out.now c.requires.1 c.put_setting-second.ensures c.put_bookings.ensures in (omega (arith, known, length_day_file c.args.w.now, c.requires.1), known.1) in
    third_at.0

pub slice_bounds-put_polls-start : goal.slice_bounds-put_polls-start
slice_bounds-put_polls-start c =
    let after : List ℕ = around c.put_setting-second.new.out c.put_setting-second.result c.put_bookings.new.out in
    let third_at : (c.put_setting-second.result + c.put_bookings.result ≤ length after) × (length after ≡ length c.args.out.now) = let known = after_second c.args.w.now c.args.out.now c.requires.1 c.put_setting-second.ensures c.put_bookings.ensures in (omega (arith, known, length_day_file c.args.w.now, c.requires.1), known.1) in
    third_at.0

pub put_polls-requires : goal.put_polls-requires
put_polls-requires c =
    (c.requires.0, room_third c.args.w.now c.args.out.now c.requires.1 c.put_setting-second.ensures c.put_bookings.ensures)

pub returns : goal.returns
returns c =
    all_laid c.args.w.now c.args.out.now c.requires.1 c.put_setting-second.ensures c.put_bookings.ensures c.put_polls.ensures
