-- No number up to i has the name; the bookings before the one at the offset were walked, so its bytes are there.
use Prim.Native.Nat.{ℕ, ◌+◌, ◌*◌, ◌≤◌}
use mathlib.Core.Path.{◌≡◌, sym, ap, ◌∙◌}
use mathlib.Core.Bool.{Bool, not}
use native.Mathlib.Omega.{arith}
use lib.ListN.{length, drop}
use borrow.Author.Rules.{rules}
use borrow.Author.Tests.{eq-eqb, ne_eqb, le-ltb}
use Rattle.loops.specs.Search.{first}
use Rattle.loops.proofs.Search.{search_start, search_miss, search_over, →any}
use Rattle.day_file.proofs.Lengths.{length_booking_bytes}
use Rattle.day_judge.specs.Parts.{name_read}
use Rattle.day_judge.specs.Judged.{booking_from}
use Rattle.day_judge.proofs.Rows.{booking_end, behind_more, behind_none, row_fits, name_is}
use Rattle.day_judge.proofs.look_back.Invariants.{has}
use Rattle.day_judge.proofs.look_back.Goals as goal

pub returns-then-name-eq0 : goal.returns-then-name-eq0
returns-then-name-eq0 c =
    let S = c.args in
    sym (ap not (→any (has S.sections.now S.name) (S.j + 1) 0 (omega arith) (eq-eqb _ _ (sym c.if-name-eq0.true))))

pub loop-init : goal.loop-init
loop-init c =
    let S = c.args in
    (omega arith, behind_none (drop 2 S.sections.now), search_miss (has S.sections.now S.name) (S.j + 1) 0 (search_start _ _) (omega arith) (ne_eqb _ _ (λ e. c.if-name-eq0.false (sym e))))

pub name_at-requires : goal.name_at-requires
name_at-requires c =
    let fits : c.loop.at + 12 + 2 * length (booking_from c.args.sections.now c.loop.at).parents ≤ length c.args.sections.now = omega (arith, row_fits c.args.sections.now c.loop.at c.loop.counter c.loop.invariant.1 c.args.j (omega arith) c.requires.0, length_booking_bytes (booking_from c.args.sections.now c.loop.at)) in
    omega (arith, fits)

pub returns-then-name_at-name : goal.returns-then-name_at-name
returns-then-name_at-name c =
    let read : name_read (drop 2 c.args.sections.now) (c.loop.counter + 1) ≡ c.name_at.result = name_is c.args.sections.now c.loop.at c.loop.counter c.loop.invariant.1 c.name_at.result (search rules) c.name_at.ensures in
    let A = c.args in
    sym (ap not (→any (has A.sections.now A.name) (A.j + 1) (c.loop.counter + 1) (omega arith) (eq-eqb _ _ (read ∙ c.if-name_at-name.true))))

pub overflow_add-at : goal.overflow_add-at
overflow_add-at c =
    let fits : c.loop.at + 12 + 2 * length (booking_from c.args.sections.now c.loop.at).parents ≤ length c.args.sections.now = omega (arith, row_fits c.args.sections.now c.loop.at c.loop.counter c.loop.invariant.1 c.args.j (omega arith) c.requires.0, length_booking_bytes (booking_from c.args.sections.now c.loop.at)) in
    omega (arith, fits)

pub number_at-count-requires : goal.number_at-count-requires
number_at-count-requires c =
    let fits : c.loop.at + 12 + 2 * length (booking_from c.args.sections.now c.loop.at).parents ≤ length c.args.sections.now = omega (arith, row_fits c.args.sections.now c.loop.at c.loop.counter c.loop.invariant.1 c.args.j (omega arith) c.requires.0, length_booking_bytes (booking_from c.args.sections.now c.loop.at)) in
    omega (arith, fits)

pub overflow_add-at-in-loop : goal.overflow_add-at-in-loop
overflow_add-at-in-loop c =
    let fits : c.loop.at + 12 + 2 * length (booking_from c.args.sections.now c.loop.at).parents ≤ length c.args.sections.now = omega (arith, row_fits c.args.sections.now c.loop.at c.loop.counter c.loop.invariant.1 c.args.j (omega arith) c.requires.0, length_booking_bytes (booking_from c.args.sections.now c.loop.at)) in
    let end : c.loop.at + 12 + 2 * c.number_at-count.result ≤ length c.args.sections.now = omega (arith, fits, length_booking_bytes (booking_from c.args.sections.now c.loop.at), booking_end c.args.sections.now c.loop.at c.number_at-count.result (search rules) c.number_at-count.ensures) in
    omega (arith, end)

pub overflow_add-at-in-loop-2 : goal.overflow_add-at-in-loop-2
overflow_add-at-in-loop-2 c =
    let fits : c.loop.at + 12 + 2 * length (booking_from c.args.sections.now c.loop.at).parents ≤ length c.args.sections.now = omega (arith, row_fits c.args.sections.now c.loop.at c.loop.counter c.loop.invariant.1 c.args.j (omega arith) c.requires.0, length_booking_bytes (booking_from c.args.sections.now c.loop.at)) in
    let end : c.loop.at + 12 + 2 * c.number_at-count.result ≤ length c.args.sections.now = omega (arith, fits, length_booking_bytes (booking_from c.args.sections.now c.loop.at), booking_end c.args.sections.now c.loop.at c.number_at-count.result (search rules) c.number_at-count.ensures) in
    omega (arith, end)

pub loop-preserved : goal.loop-preserved
loop-preserved c =
    let read : name_read (drop 2 c.args.sections.now) (c.loop.counter + 1) ≡ c.name_at.result = name_is c.args.sections.now c.loop.at c.loop.counter c.loop.invariant.1 c.name_at.result (search rules) c.name_at.ensures in
    let L = c.loop in (
      omega arith,
      behind_more c.args.sections.now c.loop.at c.number_at-count.result (search rules) c.number_at-count.ensures L.counter L.invariant.1,
      search_miss _ _ _ L.invariant.2 (omega arith) (ne_eqb _ _ (λ e. c.if-name_at-name.false (sym read ∙ e))),
    )

pub returns : goal.returns
returns c =
    let A = c.args in
    let p : ℕ → Bool = has A.sections.now A.name in
    sym (ap not (le-ltb (first p (A.j + 1)) (A.j + 1) (omega (arith, search_over p (A.j + 1) (c.loop.counter + 1) c.loop.invariant.2 (omega arith)))))
