-- Name, slot, count and parents are written one after the other; each starts where the one before it ends.
use mathlib.Core.Path.{◌≡◌}
use Prim.Native.Nat.{◌+◌, ◌≤◌}
use native.Mathlib.Omega.{arith}
use lib.ListN.{length}
use Rattle.loops.proofs.Fill.{length_from}
use Rattle.put.proofs.Puts.{put_past}
use Rattle.rules.specs.Layout.{field}
use Rattle.day_file.proofs.Joined.{length_high_first}
use Rattle.day_file.proofs.Parents.{parent_count_most}
use Rattle.day_rows.proofs.Rows.{booking_put}
use Rattle.day_rows.proofs.put_booking.Goals as goal

pub put_number-placed-requires : goal.put_number-placed-requires
put_number-placed-requires c =
    let named : (c.put_name-named.result ≡ c.args.at + 8) × (length c.put_name-named.new.out ≡ length c.args.out.now) = put_past 8 (length_high_first 8 _) c.put_name-named.ensures in
    omega (arith, named, c.requires)

pub overflow_cast-parents : goal.overflow_cast-parents
overflow_cast-parents c =
    let few : c.parent_count-parents.result ≤ 4 = omega (arith, c.parent_count-parents.ensures, parent_count_most c.args.w.now c.args.i) in
    omega (arith, few)

pub put_number-counted-requires : goal.put_number-counted-requires
put_number-counted-requires c =
    let named : (c.put_name-named.result ≡ c.args.at + 8) × (length c.put_name-named.new.out ≡ length c.args.out.now) = put_past 8 (length_high_first 8 _) c.put_name-named.ensures in
    let placed : (c.put_number-placed.result ≡ c.put_name-named.result + 2) × (length c.put_number-placed.new.out ≡ length c.put_name-named.new.out) = put_past 2 (length_high_first 2 _) c.put_number-placed.ensures in
    omega (arith, placed, named, c.requires)

pub fields-requires : goal.fields-requires
fields-requires c =
    let few : c.parent_count-parents.result ≤ 4 = omega (arith, c.parent_count-parents.ensures, parent_count_most c.args.w.now c.args.i) in
    (c.requires.0, c.requires.1, omega (arith, few))

pub put_numbers-requires : goal.put_numbers-requires
put_numbers-requires c =
    let named : (c.put_name-named.result ≡ c.args.at + 8) × (length c.put_name-named.new.out ≡ length c.args.out.now) = put_past 8 (length_high_first 8 _) c.put_name-named.ensures in
    let placed : (c.put_number-placed.result ≡ c.put_name-named.result + 2) × (length c.put_number-placed.new.out ≡ length c.put_name-named.new.out) = put_past 2 (length_high_first 2 _) c.put_number-placed.ensures in
    let numbered : (c.put_number-counted.result ≡ c.put_number-placed.result + 2) × (length c.put_number-counted.new.out ≡ length c.put_number-placed.new.out) = put_past 2 (length_high_first 2 _) c.put_number-counted.ensures in
    rw (c.fields.ensures, length_from (field c.args.w.now c.args.i) _ c.parent_count-parents.result)
    (omega (arith, numbered, placed, named, c.requires, c.parent_count-parents.ensures))

pub returns : goal.returns
returns c =
    booking_put c.args.w.now c.args.i
    c.name.ensures
    c.field.ensures
    c.parent_count-parents.ensures
    c.fields.ensures
    c.put_name-named.ensures
    c.put_number-placed.ensures
    c.put_number-counted.ensures
    c.put_numbers.ensures
