-- What holds of the law's moves holds of every move that a contract allows, since it gives that outcome. Assumes nothing.
use mathlib.Core.Path.{◌≡◌, refl, sym, ap, ap₂, subst, ◌∙◌}
use mathlib.Core.List.{List, []}
use Prim.Native.Nat.{ℕ, ◌≤◌}
use lib.IntN.{pos, nat_abs}
use lib.ListN.{length, take}
use denote.Triple.Clauses.{at_exit}
use borrow.Fn.Kinds.{In, Out}
use Rattle.terms.specs.declared.form.Form.{Form}
use Rattle.terms.specs.declared.form.Form.TheVariants.{First, Second}
use Rattle.terms.specs.Answers.{Outcome, number, value}
use Rattle.day_file.specs.Bytes.{file_of}
use Rattle.day_file.specs.Calls.{read_file_call, moved_in, move_file_call}
use Rattle.promises.specs.Run.{outcome_of}
use Rattle.promises.specs.Refusals.{MoveFileListed}
use Rattle.promises.specs.DayFile.{Written}
use Rattle.promises.specs.MoveFile.{other_form, MoveWritten, MoveRefusedKeeps, MovedIsWritten, ThereAndBack, BackAndThere}
use Rattle.promises.proofs.Refusals.{refused_listed}
use Rattle.promises.proofs.MoveFile.{move_written, move_refused_keeps, moved_is_written, there_and_back, back_and_there}
use Rattle.station.specs.Returned.{Handed}
use Rattle.station.proofs.Telling.{left_of}
use Rattle.code_promises.specs.Contract.{contract_of, Unasked, Allowed, ended_by}
use Rattle.code_promises.specs.OfMoves.{
  MoveDone,
  Mover,
  MoveNothingAsked,
  MoveMade,
  MoveCallable,
  MoveLawful,
  MoveUnique,
  MoveListed,
  MoveRefuses,
  MoveWrites,
  MoveWritesWhatIsRead,
  MoveComesBack,
}
use Rattle.code_promises.proofs.Functions.{function, MoverName, by_move_file, by_filz_move_first, by_filz_move_second, mover, moves_of_ledger, moves_of_station}
use Rattle.code_promises.proofs.Callable.{lent, held, handed}
use Rattle.code_promises.proofs.OfCode.{gave, due_is}
use Rattle.code_promises.proofs as code

-- ---- what the law gives for a move is an outcome that the contract of its function allows

pub ledger_moves : MoveCallable mover moves_of_ledger
unfolding MoveCallable
ledger_moves form file out =
    let o = move_file_call form file out in
    record {
      allowed = record {
        at = ([], ([], tt));
        given = (form, (lent file, (held out, tt)));
        returned = o.answer;
        last = (tt, (tt, (o.words, tt)));
        learnt = refl;
      };
      asks = refl;
      input = refl;
      output = refl;
    }

abbrev filz_move : {Asked : In 3 code.filz_move_first.Kinds.ps} {Learnt : Out 3 code.filz_move_first.Kinds.ps code.filz_move_first.Kinds.r} →
    let f = contract_of 3 code.filz_move_first.Kinds.ps code.filz_move_first.Kinds.r Asked Learnt in
    (file out : List ℕ) (o : Outcome) →
    Learnt ([], ([], ([], tt))) (lent file, (held out, (held (pos 0), tt))) (number o.answer)
    (at_exit (ended_by f) ([], ([], ([], tt))) (lent file, (held out, (held (pos 0), tt))) (tt, (o.words, (value o.answer, tt)))) →
    Allowed f
filz_move file out o learnt =
    record {
      at = ([], ([], ([], tt)));
      given = (lent file, (held out, (held (pos 0), tt)));
      returned = number o.answer;
      last = (tt, (o.words, (value o.answer, tt)));
      learnt = learnt;
    }

pub station_moves : MoveCallable mover moves_of_station
unfolding MoveCallable
station_moves First file out =
    let o = move_file_call First file out in
    record { allowed = filz_move file out o (handed o); asks = refl; input = refl; output = refl }
station_moves Second file out =
    let o = move_file_call Second file out in
    record { allowed = filz_move file out o (handed o); asks = refl; input = refl; output = refl }

-- ---- each function asks nothing, and its contract says that it gives what the law gives

-- what the law gives for a move that was made
abbrev due : MoveDone → Outcome
due d = move_file_call d.form d.file d.before

abbrev Gives : MoveDone → Type 0
Gives d = Handed (due d) d.number d.value d.after

record Lawful (f : Mover) : Type 0 where
  asks : Unasked f.contract
  gives : (m : Allowed f.contract) → Gives (f.done m)

move_file_lawful : Lawful (mover by_move_file)
move_file_lawful = record { asks = λ at given. tt; gives = λ m. left_of m.learnt (record { numbered = refl; valued = refl }) }

filz_move_first_lawful : Lawful (mover by_filz_move_first)
filz_move_first_lawful = record { asks = λ at given. tt; gives = λ m. m.learnt }

filz_move_second_lawful : Lawful (mover by_filz_move_second)
filz_move_second_lawful = record { asks = λ at given. tt; gives = λ m. m.learnt }

lawful : (f : MoverName) → Lawful (mover f)
lawful by_move_file = move_file_lawful
lawful by_filz_move_first = filz_move_first_lawful
lawful by_filz_move_second = filz_move_second_lawful

pub move_nothing_asked : MoveNothingAsked mover
unfolding MoveNothingAsked
move_nothing_asked f = (lawful f).asks

pub move_lawful : MoveLawful mover
unfolding MoveLawful
move_lawful d m = subst Gives m.seen ((lawful m.by).gives m.allowed)

moved : (d : MoveDone) → MoveMade mover d → Gives d
unfolding MoveLawful
moved = move_lawful

-- its number is the law's
taken_by : (d : MoveDone) → MoveMade mover d → d.number ≡ 0 → number (due d).answer ≡ 0
taken_by d m taken = sym (moved d m).told.numbered ∙ taken

-- what the law leaves is left
left_by : (d : MoveDone) (bytes buffer : List ℕ) {o : Outcome} → MoveMade mover d → due d ≡ o → Written bytes buffer (value o.answer) o.words
    → Written bytes buffer d.value d.after
left_by d bytes buffer {o} m same written =
    let given = moved d m in
    subst (λ v. Written bytes buffer v d.after) (sym (given.told.valued ∙ ap (λ x. value x.answer) same))
    (subst (Written bytes buffer (value o.answer)) (sym (given.words ∙ ap (λ x. x.words) same)) written)

due_of : (d : MoveDone) {form : Form} {file out : List ℕ} → d.form ≡ form → d.file ≡ file → d.before ≡ out → due d ≡ move_file_call form file out
due_of d {form} {file} asks input output =
    ap (λ f. move_file_call f d.file d.before) asks ∙ ap (λ l. move_file_call form l d.before) input ∙ ap (move_file_call form file) output

-- ---- the promises

pub move_unique : MoveUnique mover
unfolding MoveUnique
move_unique d e m k asks input output =
    let same = due_of d asks input output in (
      (moved d m).told.numbered ∙ ap (λ o. number o.answer) same ∙ sym (moved e k).told.numbered,
      (moved d m).told.valued ∙ ap (λ o. value o.answer) same ∙ sym (moved e k).told.valued,
      (moved d m).words ∙ ap (λ o. o.words) same ∙ sym (moved e k).words,
    )

pub move_listed : MoveListed mover
unfolding MoveListed
move_listed d m =
    subst (MoveFileListed d.form d.file d.before) (sym (moved d m).told.numbered) (refused_listed.moving d.form d.file d.before)

pub move_refuses : MoveRefuses mover
unfolding MoveRefuses MoveRefusedKeeps
move_refuses d m n =
    let kept = move_refused_keeps d.form d.file d.before (λ e. n ((moved d m).told.numbered ∙ e)) in
    ((moved d m).words ∙ kept.0, (moved d m).told.valued ∙ kept.1)

pub move_writes : MoveWrites mover
unfolding MoveWrites MoveWritten
move_writes d m taken =
    left_by d (moved_in d.form d.file) d.before m refl (move_written d.form d.file d.before (taken_by d m taken))

pub move_writes_what_is_read : MoveWritesWhatIsRead mover function
unfolding MoveWritesWhatIsRead MoveWrites MovedIsWritten outcome_of
move_writes_what_is_read d e m taken k asks whole =
    let law = due_is e asks refl in
    let read = moved_is_written d.form d.file d.before e.before (taken_by d m taken) whole in
    let words : e.after ≡ (read_file_call d.form e.before d.file).words = (gave e k).words ∙ ap (λ o. o.words) law in (
      (gave e k).told.numbered ∙ ap (λ o. number o.answer) law ∙ read.0,
      subst (λ bytes. Written bytes d.before d.value d.after) (read.1 ∙ ap (file_of (other_form d.form)) (sym words)) (move_writes d m taken),
    )

-- of either form
again : (form : Form) (file out back : List ℕ) → number (move_file_call form file out).answer ≡ 0 → length file ≤ length back
    → let b = move_file_call (other_form form) (take (length (moved_in form file)) (move_file_call form file out).words) back in
    (number b.answer ≡ 0) × Written file back (value b.answer) b.words
unfolding ThereAndBack BackAndThere
again First = there_and_back
again Second = back_and_there

pub move_comes_back : MoveComesBack mover
unfolding MoveComesBack MoveWrites
move_comes_back d e long m taken valued k back input room =
    let all : long ≡ length (moved_in d.form d.file) = ap nat_abs (sym valued ∙ (move_writes d m taken).valued) in
    let law = due_of e back (input ∙ ap₂ take all (moved d m).words) refl in
    let same = again d.form d.file d.before e.before (taken_by d m taken) room in
    ((moved e k).told.numbered ∙ ap (λ o. number o.answer) law ∙ same.0, left_by e d.file e.before k law same.1)
