-- Below zero the sign is written, and then the size; otherwise the number is its own size.
use Rattle.std.proofs.Common.{◌≡◌, ◌+◌, ◌∙◌, ap, arith, length, true, false, pos, nat_abs, w64, to_z, of_z}
use lib.ListN.{length-set}
use lib.Signed.{lt_z}
use mir.ValLaws.{to_z-of_z}
use Rattle.put.proofs.Puts.{put_one, put_then}
use Rattle.text_put.proofs.Decimals.{decimal_fits}
use Rattle.text_put.proofs.Signs.{signed_below, signed_above}
use Rattle.text_put.proofs.put_signed.Goals as goal

pub bounds-out-at : goal.bounds-out-at
bounds-out-at c =
    let h : lt_z c.args.v (pos 0) ≡ true = rw (to_z-of_z w64 _ c.ranges.v) at c.if-v-lt0.true in
    omega (arith, ap length (signed_below c.args.v h))

pub put_number-requires : goal.put_number-requires
put_number-requires c =
    let e : to_z w64 (of_z w64 c.args.v) ≡ c.args.v = to_z-of_z w64 _ c.ranges.v in
    let h : lt_z c.args.v (pos 0) ≡ true = rw e at c.if-v-lt0.true in
    let s : c.unsigned_abs-size.result ≡ nat_abs c.args.v = c.unsigned_abs-size.ensures.value ∙ ap nat_abs e in
    decimal_fits _ _ _ (nat_abs c.args.v) (omega (arith, s)) (simp length-set (omega (arith, ap length (signed_below c.args.v h))))

pub returns-then-v-lt0 : goal.returns-then-v-lt0
returns-then-v-lt0 c =
    let e : to_z w64 (of_z w64 c.args.v) ≡ c.args.v = to_z-of_z w64 _ c.ranges.v in
    let h : lt_z c.args.v (pos 0) ≡ true = rw e at c.if-v-lt0.true in
    let s : c.unsigned_abs-size.result ≡ nat_abs c.args.v = c.unsigned_abs-size.ensures.value ∙ ap nat_abs e in
    rw (signed_below c.args.v h) (put_then (put_one _ _ _) (rw s at c.put_number.ensures))

pub put_number-requires-2 : goal.put_number-requires-2
put_number-requires-2 c =
    let e : to_z w64 (of_z w64 c.args.v) ≡ c.args.v = to_z-of_z w64 _ c.ranges.v in
    let h : lt_z c.args.v (pos 0) ≡ false = rw e at c.if-v-lt0.false in
    let s : c.unsigned_abs-size.result ≡ nat_abs c.args.v = c.unsigned_abs-size.ensures.value ∙ ap nat_abs e in
    rw s (rw (signed_above c.args.v h) at c.requires)

pub returns : goal.returns
returns c =
    let e : to_z w64 (of_z w64 c.args.v) ≡ c.args.v = to_z-of_z w64 _ c.ranges.v in
    let h : lt_z c.args.v (pos 0) ≡ false = rw e at c.if-v-lt0.false in
    let s : c.unsigned_abs-size.result ≡ nat_abs c.args.v = c.unsigned_abs-size.ensures.value ∙ ap nat_abs e in
    rw (signed_above c.args.v h) (rw s at c.put_number-2.ensures)
