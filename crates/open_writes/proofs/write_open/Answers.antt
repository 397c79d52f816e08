-- The words below j are those of a new ledger, part after part and then entry after entry.
use Prim.Native.Nat.{ℕ, ◌+◌}
use mathlib.Core.Path.{◌≡◌, refl, sym, ap, ◌∙◌}
use mathlib.Core.List.{List}
use native.Mathlib.Omega.{arith}
use borrow.Author.Rules.{rules}
use borrow.Author.Tests.{ne_eqb}
use lib.ListN.{get_or, length-set}
use Rattle.rules.specs.Layout.{slots, held_field}
use Rattle.rules.specs.Open.{open_word}
use Rattle.open_writes.proofs.Word.{first_words, first_held, open_word_first, open_word_zero, open_word_entry}
use Rattle.open_writes.proofs.Begun.{Begun, begun_none, begun_more, begun_part, begun_entry, begun_all, zero_at}
use Rattle.open_writes.proofs.write_open.Goals as goal

pub loop-t-init : goal.loop-t-init
loop-t-init c =
    let s = c.args.s in
    let w = c.args.w.now in
    let head : Begun s first_words _ =
    begun_part {j = 0} {w = w} 0 first_words first_words _ refl refl (omega arith) (search rules)
    (λ i l. ap (λ row. get_or row i 0) c.copy_from_slice.ensures.after ∙ open_word_first s i l ∙ ap (open_word s) (omega arith)) (begun_none s w) in
    let zeros : Begun s first_held _ =
    begun_part {j = first_words} first_words 6646 first_held _ refl refl (search rules) (search rules)
    (λ i l. ap (λ (row : List ℕ). get_or row i 0) (c.fill.ensures.after (λ y e. e)) ∙ zero_at _ i ∙ sym (open_word_zero s (first_words + i) (omega arith) (omega arith))) head in
    (omega arith, omega arith, search rules, begun_more _ _ refl (search rules) (sym (open_word_entry s 0 held_field (omega arith))) zeros)

pub loop-t-preserved : goal.loop-t-preserved
loop-t-preserved c =
    let L = c.loop-t in (
      omega arith,
      omega arith,
      simp length-set (omega arith),
      begun_entry L.t _ _ _ _ (omega arith) (omega arith) (simp (ne_eqb L.t 0 (omega arith))) L.invariant.3,
    )

pub returns : goal.returns
returns c =
    let L = c.loop-t in
    let e : L.t ≡ slots = omega arith in
    begun_all L.invariant.2 (rw e at L.invariant.3)
