-- Laws of a piece: what is gathered before and after a line, and when no line is served any more.
use mathlib.Core.Path.{◌≡◌, refl, sym, ap, ap₂, subst, ◌∙◌}
use mathlib.Core.Bool.{Bool}
use mathlib.Core.List.{List, [], ◌∷◌, ◌++◌, append_assoc}
use Prim.Native.Nat.{ℕ, suc, ◌+◌, ◌<◌, ◌≤◌}
use native.Mathlib.Omega.{arith}
use lib.ListN.{length, take, drop, drop_of_length-le}
use lib.Seq.{sets-eq, take_at, length-take-le}
use borrow.Author.Tests.{le-leb, lt-leb}
use Rattle.rules.specs.Layout.{size}
use Rattle.put.specs.Put.{Put}
use Rattle.put.proofs.Puts.{put_none, put_then, put_length}
use Rattle.text_listing.specs.Listed.{line_most}
use Rattle.line_serve.specs.declared.Served.{Served}
use Rattle.line_serve.specs.Serve.{served, Keeps, Serves as LineServes}
use Rattle.text_program.specs.Program.{lines, printed}
use Rattle.text_program.specs.Piece.{line_end, words_after, Gathered, more, gathered, piece_of, Serves}
use Rattle.text_program.proofs.Lines.{end_le, lines_at}

-- the bytes stand at the start of the buffer
pub put_front : {out out' : List ℕ} {n : ℕ} {xs : List ℕ} → Put out 0 xs n out' → length xs ≤ length out → take n out' ≡ xs
put_front {out} {n = n} {xs = xs} p h =
    ap (take n) (p.after ∙ sets-eq xs out 0 (omega arith)) ∙ take_at xs (drop (0 + length xs) out) n (omega (arith, p.next))

-- ---- one line more, or none

gathered_more : (room : ℕ) (g : Gathered) (line : List ℕ) (rest : List (List ℕ)) → length g.prints + line_most ≤ room
    → gathered room g (line ∷ rest) ≡ gathered room (more g line) rest
unfolding gathered
gathered_more room g line rest h = rw (gathered, le-leb (length g.prints + line_most) room h)

pub gathered_full : (room : ℕ) (g : Gathered) (ls : List (List ℕ)) → room < length g.prints + line_most → gathered room g ls ≡ g
unfolding gathered
gathered_full room g [] h = refl
gathered_full room g (line ∷ rest) h = rw (gathered, lt-leb (length g.prints + line_most) room h)

pub gathered_over : (room : ℕ) (g : Gathered) (input : List ℕ) (next : ℕ) → length input ≤ next → gathered room g (lines (drop next input)) ≡ g
unfolding gathered lines
gathered_over room g input next h = rw (drop_of_length-le input h)

-- ---- while a piece is gathered

-- what is gathered so far, from what was lent and what it has become
pub record Gathering (w₀ input : List ℕ) (start : ℕ) (out₀ w out : List ℕ) (known : Bool) (count next : ℕ) : Type 0 where
  pub done : List ℕ
  pub put : Put out₀ 0 done count out
  pub within : count ≤ length out₀
  pub piece :
      piece_of (length out₀) w₀ input start ≡ gathered (length out₀) (record { words = w; prints = done; next = next }) (lines (drop next input))
  pub rest : printed w₀ (lines (drop start input)) ≡ done ++ printed w (lines (drop next input))
  pub after : words_after w₀ (lines (drop start input)) ≡ words_after w (lines (drop next input))
  pub whole : length w ≡ size
  pub told : Keeps known w
  pub from : start ≤ next
  pub moved : 0 < count → start < next

pub gathering_none : (w input : List ℕ) (start : ℕ) (out : List ℕ) (known : Bool) → length w ≡ size → Keeps known w
    → Gathering w input start out w out known 0 start
gathering_none w input start out known h e =
    record {
      done = [];
      put = put_none out 0;
      within = omega arith;
      piece = refl;
      rest = refl;
      after = refl;
      whole = h;
      told = e;
      from = omega arith;
      moved = λ l. absurd (omega arith);
    }

module _ {w₀ input : List ℕ} {start : ℕ} {out₀ w out : List ℕ} {known : Bool} {count next : ℕ}
    (G : Gathering w₀ input start out₀ w out known count next) where
  -- a line is served
  pub gathering_more : (end next' : ℕ) {r : Served} {w' out' : List ℕ} → next < length input → end ≡ line_end (drop next input) → next' ≡ next + suc end
      → count + line_most ≤ length out₀ → length w' ≡ size
      → LineServes (served w (take end (drop next input))) out count r w' out'
      → Gathering w₀ input start out₀ w' out' r.known r.at next'
  unfolding printed words_after
  gathering_more end next' {r} {w'} {out'} h e n room k s =
      let line = take end (drop next input) in
      let later = lines (drop next' input) in
      let prints = (served w line).prints in
      let step : lines (drop next input) ≡ line ∷ later = rw (n, e) (lines_at input next h) in
      let place : next + length line + 1 ≡ next' =
      omega (arith, n, length-take-le end (drop next input) (rw e (end_le (drop next input)))) in
      record {
        done = G.done ++ prints;
        put = put_then G.put s.put;
        within = omega (arith, s.within);
        piece =
            G.piece
            ∙ ap (gathered (length out₀) (record { words = w; prints = G.done; next = next })) step
            ∙ gathered_more (length out₀) (record { words = w; prints = G.done; next = next }) line later (omega (arith, G.put.next))
            ∙ ap₂ (λ v n. gathered (length out₀) (record { words = v; prints = G.done ++ prints; next = n }) later) (sym s.left) place;
        rest =
            G.rest
            ∙ ap (λ ls. G.done ++ printed w ls) step
            ∙ sym (append_assoc G.done prints (printed (served w line).words later))
            ∙ ap (λ v. (G.done ++ prints) ++ printed v later) (sym s.left);
        after = G.after ∙ ap (words_after w) step ∙ ap (λ v. words_after v later) (sym s.left);
        whole = k;
        told = s.told;
        from = omega (arith, G.from);
        moved = λ l. omega (arith, G.from);
      }

  -- no line is served any more
  pub gathering_over : gathered (length out₀) (record { words = w; prints = G.done; next = next }) (lines (drop next input)) ≡ record { words = w; prints = G.done; next = next }
      → (start < length input → start < next)
      → Serves w₀ input start out₀ (record { count = count; next = next; known = known }) w out
  gathering_over stop onward =
      let piece = G.piece ∙ stop in
      let front : take count out ≡ G.done = put_front G.put (omega (arith, G.put.next, G.within)) in
      record {
        left = sym (ap (λ g. g.words) piece);
        put = subst (λ xs. Put out₀ 0 xs count out) (sym (ap (λ g. g.prints) piece)) G.put;
        next = sym (ap (λ g. g.next) piece);
        told = G.told;
        rest = G.rest ∙ ap (λ xs. xs ++ printed w (lines (drop next input))) (sym front);
        after = G.after;
        within = omega (arith, G.within, put_length G.put);
        onward = onward;
      }
