-- A contract met: a call's words and answer, printed, are the effect of its command; a line has the effect of what it says, and what the words are stays known.
use Rattle.std.specs.Prelude.{Err}
use mathlib.Core.Path.{◌≡◌, refl, sym, ap, subst, ◌∙◌}
use mathlib.Core.Bool.{Bool, true, false, ◌||◌}
use mathlib.Core.List.{List}
use Prim.Native.Nat.{ℕ, ◌≤◌}
use native.Mathlib.Omega.{arith}
use lib.ListN.{length, take, length-replicate}
use lib.Seq.{sets, length-sets}
use Rattle.std.proofs.Common.{Option, Some, None}
use Rattle.terms.specs.declared.setting.Setting.{Setting}
use Rattle.terms.specs.Setting.{is_good}
use Rattle.terms.specs.declared.answer.Refusal.TheVariants.{DamagedHeader}
use Rattle.terms.specs.declared.answer.Reading.{Reading}
use Rattle.terms.specs.Answers.{Outcome, outcome, done, Answer}
use Rattle.rules.specs.Layout.{size}
use Rattle.rules.specs.Sound.{Ledger}
use Rattle.rules.specs.Calls.{open_call, read_call}
use Rattle.rules.specs.Listing.{list_call}
use Rattle.rule_laws.proofs.Tested.{tested_known}
use Rattle.put.specs.Put.{Put}
use Rattle.text_print.specs.Print.{call_prints, reading_prints}
use Rattle.line_parse.specs.declared.command.Command.{Command}
use Rattle.line_parse.specs.declared.command.Command.TheVariants.{Open, Book, Poll, Read, List as ListAll}
use Rattle.line_parse.specs.Line.{line_says}
use Rattle.line_parse.proofs.Counts.{take_stored}
use Rattle.text_listing.specs.Listed.{list_prints, list_shows}
use Rattle.text_listing.proofs.Rows.{list_length}
use Rattle.line_serve.specs.declared.Served.{Served}
use Rattle.line_serve.specs.Serve.{Effect, called, asked, listed, command_does, command_opens, opens, served, Keeps, Serves}
use Rattle.line_serve.proofs.Known.{unopened_tested, book_keeps, poll_keeps, open_keeps, open_good, open_bad}
use Rattle.line_serve.proofs.Short.{call_length, reading_length, refusal_length}

module _ {out out' : List ℕ} {at : ℕ} {r : Served} where
  -- an opening, a booking or a poll
  pub serves_called : {w' : List ℕ} (a : Answer) {o : Outcome} → outcome a w' ≡ o → Put out at (call_prints a) r.at out'
      → Keeps r.known w' → Serves (called o) out at r w' out'
  serves_called a e p k =
      record {
        left = ap (λ o. o.words) e;
        put = subst (λ o. Put out at (call_prints o.answer) r.at out') e p;
        within = omega (arith, p.next, call_length a);
        told = k;
      }

  pub serves_asked : (w : List ℕ) (what : Reading) (name : ℕ) {a : Answer} → a ≡ read_call what w name
      → Put out at (reading_prints a) r.at out' → Keeps r.known w → Serves (asked w (read_call what w name)) out at r w out'
  serves_asked w what name e p k =
      let put = subst (λ a. Put out at (reading_prints a) r.at out') e p in
      record { left = refl; put = put; within = omega (arith, put.next, reading_length what w name); told = k }

  pub serves_listed : (w : List ℕ) → Ledger w → Put out at (list_prints w) r.at out' → Keeps r.known w → Serves (listed w) out at r w out'
  unfolding list_call
  serves_listed w l p k =
      record {
        left = refl;
        put = subst (λ a. Put out at (list_shows a w) r.at out') (sym (tested_known w l done)) p;
        within = omega (arith, p.next, list_length w l);
        told = k;
      }

  -- words that are all zero have no listing
  pub serves_unlisted : (w : List ℕ) (known : Bool) → Keeps known w → known ≡ false → Put out at (call_prints (Err DamagedHeader)) r.at out'
      → Keeps r.known w → Serves (listed w) out at r w out'
  unfolding list_call
  serves_unlisted w known z f p k =
      record {
        left = refl;
        put = subst (λ a. Put out at (list_shows a w) r.at out') (sym (unopened_tested w known z f done)) p;
        within = omega (arith, p.next, refusal_length DamagedHeader);
        told = k;
      }

  pub serves_as : {w' : List ℕ} {e f : Effect} → e ≡ f → Serves e out at r w' out' → Serves f out at r w' out'
  serves_as {w'} q s = subst (λ e. Serves e out at r w' out') q s

-- ---- the effect of a line

pub served_does : (w line : List ℕ) (c : Option Command) → (line_says line).command ≡ c
    → command_does c (line_says line).parents (line_says line).votes w ≡ served w line
unfolding served
served_does w line c e = ap (λ x. command_does x (line_says line).parents (line_says line).votes w) (sym e)

-- ---- what the words are after a line

kept_length : (w : List ℕ) (opened : Bool) → Keeps opened w → length w ≡ size
kept_length w true k = k.whole
kept_length w false k = ap length k ∙ length-replicate {A = ℕ} size 0

open_kept : (w : List ℕ) (s : Setting) (opened : Bool) → length w ≡ size → Keeps opened w → Keeps (is_good s || opened) (open_call w s).words
open_kept w s opened h k = go (is_good s) refl
  where
    go : (good : Bool) → is_good s ≡ good → Keeps (good || opened) (open_call w s).words
    go true g = subst (λ o. Ledger o.words) (sym (open_good w h s g)) (open_keeps s g)
    go false g = subst (λ o. Keeps opened o.words) (sym (open_bad w h s g)) k

command_kept : (c : Option Command) (parents votes w : List ℕ) (opened : Bool) → Keeps opened w → Keeps (command_opens c || opened) (command_does c parents votes w).words
command_kept (Some (Open s)) parents votes w opened k = open_kept w s opened (kept_length w opened k) k
command_kept (Some (Book name slot count)) parents votes w opened k = book_keeps w opened k name slot parents
command_kept (Some (Poll name count)) parents votes w opened k = poll_keeps w opened k name votes
command_kept (Some (Read what name)) parents votes w opened k = k
command_kept (Some ListAll) parents votes w opened k = k
command_kept None parents votes w opened k = k

-- they are a ledger from a taken opening on, and stay what they were otherwise
pub served_kept : (w line : List ℕ) (opened : Bool) → Keeps opened w → Keeps (opens line || opened) (served w line).words
unfolding served
served_kept w line opened k = command_kept (line_says line).command (line_says line).parents (line_says line).votes w opened k

-- ---- the lists of a line stand at the start of their buffers

pub record Stored (n : ℕ) (buffer vs : List ℕ) : Type 0 where
  pub fits : n ≤ length buffer
  pub start : take n buffer ≡ vs

pub stored : (l : List ℕ) {buffer vs : List ℕ} {n : ℕ} → buffer ≡ sets l 0 vs → length vs ≡ n → n ≤ length l → Stored n buffer vs
stored l {buffer} {vs} {n} e k h =
    record {
      fits = subst (λ m. n ≤ m) (sym (ap length e ∙ length-sets l 0 vs)) h;
      start = ap (take n) e ∙ take_stored l vs n k h;
    }
