-- The part of the buffer that the text goes to, and what stands on both sides of it.
use Rattle.std.proofs.Common.{refl, sym, ◌∙◌, arith, ◌+◌, ◌-◌, length, take, drop, append_assoc}
use Rattle.std.proofs.lemmas.List.Edits.{paste_all, sets-eq}
use Rattle.std.proofs.lemmas.Slice.{put_mid-paste}
use Rattle.text_put.proofs.put_text.Goals as goal

pub returns : goal.returns
returns c =
    let out = c.args.out.now in
    let text = c.args.text.now in
    let at = c.args.at in
    record {
      next = refl;
      after =
          put_mid-paste at (at + length text - at) out _ text (length text) c.copy_from_slice.ensures.after (omega arith) refl
          ∙ paste_all out at text (length text) refl ∙ sym (append_assoc (take at out) text (drop (at + length text) out)) ∙ sym (sets-eq text out at c.requires);
    }
