-- A taken reading prints its value and a line feed, a refused one its refusal.
use mathlib.Core.Path.{◌≡◌}
use native.Mathlib.Omega.{arith}
use mir.Syntax.{w64}
use mir.Val.{SFits, to_z, of_z}
use mir.ValLaws.{to_z-of_z}
use borrow.Author.Rules.{rules}
use Rattle.put.proofs.Puts.{put_one, put_then}
use Rattle.text_put.proofs.Signs.{signed_length}
use Rattle.text_print.proofs.put_reading.Goals as goal

pub put_signed-end-requires : goal.put_signed-end-requires
put_signed-end-requires c =
    let f : SFits w64 c.in-Ok.value = search rules in
    let e : to_z w64 (of_z w64 c.in-Ok.value) ≡ c.in-Ok.value = to_z-of_z w64 c.in-Ok.value f in
    rw e (omega (arith, signed_length c.in-Ok.value f))

pub bounds-out-end : goal.bounds-out-end
bounds-out-end c =
    let f : SFits w64 c.in-Ok.value = search rules in
    let e : to_z w64 (of_z w64 c.in-Ok.value) ≡ c.in-Ok.value = to_z-of_z w64 c.in-Ok.value f in
    omega (arith, signed_length c.in-Ok.value f, (rw e at c.put_signed-end.ensures).next, c.put_signed-end.auto.out)

pub overflow_add-result : goal.overflow_add-result
overflow_add-result c =
    let f : SFits w64 c.in-Ok.value = search rules in
    let e : to_z w64 (of_z w64 c.in-Ok.value) ≡ c.in-Ok.value = to_z-of_z w64 c.in-Ok.value f in
    omega (arith, signed_length c.in-Ok.value f, (rw e at c.put_signed-end.ensures).next, c.well_formed.0.0)

pub returns-in-Ok : goal.returns-in-Ok
returns-in-Ok c =
    let f : SFits w64 c.in-Ok.value = search rules in
    let e : to_z w64 (of_z w64 c.in-Ok.value) ≡ c.in-Ok.value = to_z-of_z w64 c.in-Ok.value f in
    rw c.in-Ok.is (put_then (rw e at c.put_signed-end.ensures) (put_one _ _ _))
