-- What holds of the law's outcomes holds of every call that a contract allows, since it gives that outcome. Assumes nothing.
use Rattle.std.specs.Prelude.{Ok}
use mathlib.Core.Path.{◌≡◌, refl, sym, ap, ap₂, subst, ◌∙◌}
use mathlib.Core.Bool.{Bool, true, false, ◌&&◌}
use mathlib.Core.List.{List, [], ◌∷◌}
use mathlib.Core.Logic.{◌≢◌}
use Prim.Native.Nat.{ℕ}
use lib.IntN.{pos}
use Rattle.terms.specs.Answers.{Outcome, number, value, is_taken, done}
use Rattle.rules.specs.Layout.{name_of}
use Rattle.rules.specs.Sound.{Ledger}
use Rattle.rules.specs.Calls.{book_call, accepted_call}
use Rattle.rule_laws.proofs.Calls.{zero_taken, taken_zero}
use Rattle.day_file.specs.Bytes.{file_of}
use Rattle.day_file.specs.Calls.{write_file_call, read_file_call}
use Rattle.name_index.specs.Index.{built}
use Rattle.promises.specs.Run.{Call, Open, Book, Poll, Ask, WriteFile, ReadFile, IndexBuild, IndexEnter, IndexFind, outcome_of, opens, lent_after, History, fresh, history_after, run}
use Rattle.promises.specs.Acceptance.{AcceptedOnce, AcceptedCallOnce, renews, NoneRenews, AcceptedCallStays}
use Rattle.promises.specs.Damage.{NamesDamage}
use Rattle.promises.specs.Refusals.{RefusedKeeps}
use Rattle.promises.specs.DayFile.{Written, FileWritten}
use Rattle.promises.specs.ReadFile.{FileOfRead}
use Rattle.promises.specs.NameIndex.{BuiltFinds, FoundIsPlain, BuildMakes, EnteredIsBuilt, BuiltLasts}
use Rattle.promises.specs.Soundness.{OpenedSound}
use Rattle.promises.proofs.Acceptance.{accepted_once_lem, accepted_call_once}
use Rattle.promises.proofs.Marks.{accepted_call_stays}
use Rattle.promises.proofs.Taken.{build_taken}
use Rattle.promises.proofs.Refusals.{refused_keeps, refused_listed}
use Rattle.promises.proofs.Damage.{damage_named}
use Rattle.promises.proofs.DayFile.{file_written}
use Rattle.promises.proofs.ReadFile.{file_of_read}
use Rattle.promises.proofs.NameIndex.{built_finds, found_is_plain, build_makes, entered_is_built, bookings_kept, built_lasts}
use Rattle.promises.proofs.Kept.{opened_sound}
use Rattle.promises.proofs.Ranges.{ranges}
use Rattle.promises.proofs.Run.{Right, made_right, step_right}
use Rattle.station.specs.Returned.{Handed}
use Rattle.code_promises.specs.OfCode.{
  Done,
  AnswerTold,
  Made,
  ListedFirst,
  CodeLawful,
  OutcomeUnique,
  CodeListed,
  CodeRefuses,
  CodeNamesDamage,
  CodeWrites,
  CodeReads,
  CodeFinds,
  CodeEnters,
  CodeLasts,
  CodeNeverMisleads,
  Accepts,
  CodeAcceptsOnce,
  Followed,
  nothing,
  another,
  CodeAcceptsStays,
  Ran,
  opened,
  called,
  CodeKeeps,
}
use Rattle.code_promises.proofs.Functions.{function}
use Rattle.code_promises.proofs.Lawful.{code_lawful}
use Rattle.code_promises.proofs.Answers.{answer_told}

-- what the law gives for a call that was made
abbrev pub due : Done → Outcome
due d = outcome_of d.call d.before

pub gave : (d : Done) → Made function d → Handed (due d) d.number d.value d.after
unfolding CodeLawful
gave d m = (code_lawful d m).0

gave_lent : (d : Done) → Made function d → d.lent ≡ lent_after d.call d.before
unfolding CodeLawful
gave_lent d m = (code_lawful d m).1

pub due_is : (d : Done) {c : Call} {w : List ℕ} → d.call ≡ c → d.before ≡ w → due d ≡ outcome_of c w
due_is d {c} asks words = ap (λ x. outcome_of x d.before) asks ∙ ap (outcome_of c) words

-- ---- demand 1

pub outcome_unique : OutcomeUnique function
unfolding OutcomeUnique
outcome_unique d e m k c w =
    let same = due_is d c w in (
      (gave d m).told.numbered ∙ ap (λ o. number o.answer) same ∙ sym (gave e k).told.numbered,
      (gave d m).told.valued ∙ ap (λ o. value o.answer) same ∙ sym (gave e k).told.valued,
      (gave d m).words ∙ ap (λ o. o.words) same ∙ sym (gave e k).words,
      gave_lent d m ∙ ap₂ lent_after c w ∙ sym (gave_lent e k),
    )

listed : (c : Call) (w : List ℕ) → ListedFirst c w (number (outcome_of c w).answer)
unfolding outcome_of
listed (Open s) w = refused_listed.opening w s
listed (Book name slot parents) w = refused_listed.booking w name slot parents
listed (Poll name votes) w = refused_listed.polling w name votes
listed (Ask what name) w = refused_listed.reading what w name
listed (WriteFile form buffer) w = refused_listed.writing form w buffer
listed (ReadFile form file) w = refused_listed.reading_file form w file
listed (IndexBuild index) w = refused_listed.building w index
listed (IndexEnter index) w = refused_listed.entering w index
listed (IndexFind index name) w = refused_listed.finding w index name

pub code_listed : CodeListed function
unfolding CodeListed
code_listed d m = subst (ListedFirst d.call d.before) (sym (gave d m).told.numbered) (listed d.call d.before)

pub code_refuses : CodeRefuses function
unfolding CodeRefuses RefusedKeeps
code_refuses d m n =
    let kept = refused_keeps d.call d.before (λ e. n ((gave d m).told.numbered ∙ e)) in
    let numbered = (gave d m).told.numbered in (
      (gave d m).words ∙ kept.0,
      λ k l. (gave d m).told.valued ∙ kept.1 (λ e. k (numbered ∙ e)) (λ e. l (numbered ∙ e)),
      gave_lent d m ∙ kept.2,
    )

pub code_names_damage : CodeNamesDamage function
unfolding CodeNamesDamage
code_names_damage d m =
    let told = (gave d m).told in
    subst (λ n. NamesDamage d.before n d.value) (sym told.numbered)
    (subst (NamesDamage d.before (number (due d).answer)) (sym told.valued) (damage_named.calls d.call d.before))

-- ---- the day file

pub code_writes : CodeWrites function
unfolding CodeWrites FileWritten outcome_of lent_after
code_writes d form buffer m asks taken =
    let law = due_is d asks refl in
    let given = gave d m in
    let o = write_file_call form d.before buffer in
    let written = file_written form d.before buffer (ap (λ x. number x.answer) (sym law) ∙ sym given.told.numbered ∙ taken) in
    let valued : d.value ≡ value o.answer = given.told.valued ∙ ap (λ x. value x.answer) law in
    let lent : d.lent ≡ o.lent = gave_lent d m ∙ ap (λ c. lent_after c d.before) asks in (
      subst (λ v. Written (file_of form d.before) buffer v d.lent) (sym valued)
          (subst (Written (file_of form d.before) buffer (value o.answer)) (sym lent) written.0),
      given.words ∙ ap (λ x. x.words) law ∙ written.1,
    )

pub code_reads : CodeReads function
unfolding CodeReads FileOfRead OpenedSound outcome_of
code_reads d form file m asks taken =
    let law = due_is d asks refl in
    let given = gave d m in
    let numbered : number (read_file_call form d.before file).answer ≡ 0 = ap (λ o. number o.answer) (sym law) ∙ sym given.told.numbered ∙ taken in
    let words : d.after ≡ (read_file_call form d.before file).words = given.words ∙ ap (λ o. o.words) law in
    let t = zero_taken (read_file_call form d.before file).answer numbered in (
      subst Ledger (sym words) (opened_sound (ReadFile form file) d.before refl t),
      ap (file_of form) words ∙ file_of_read form d.before file t,
      given.told.valued ∙ ap (λ o. value o.answer) law ∙ ranges.reading_file form d.before file numbered,
    )

-- ---- the name index

-- a taken build leaves the built index
built_by : (d : Done) (index : List ℕ) → Made function d → d.call ≡ IndexBuild index → d.number ≡ 0 → d.lent ≡ built d.before
unfolding BuildMakes outcome_of lent_after
built_by d index m asks taken =
    let law = due_is d asks refl in
    let numbered = ap (λ o. number o.answer) (sym law) ∙ sym (gave d m).told.numbered ∙ taken in
    gave_lent d m ∙ ap (λ c. lent_after c d.before) asks ∙ ap (λ o. o.lent) (build_makes d.before index numbered)

-- and its words are a ledger
build_ledger : (d : Done) (index : List ℕ) → Made function d → d.call ≡ IndexBuild index → d.number ≡ 0 → Ledger d.before
unfolding outcome_of
build_ledger d index m asks taken =
    let numbered = ap (λ o. number o.answer) (sym (due_is d asks refl)) ∙ sym (gave d m).told.numbered ∙ taken in
    (build_taken d.before index numbered).0

pub code_finds : CodeFinds function
unfolding CodeFinds BuiltFinds outcome_of
code_finds d e index name m asks taken n finds words =
    let law = ap (λ (o : Outcome). o.answer) (due_is e (finds ∙ ap (λ i. IndexFind i name) (built_by d index m asks taken)) words) in
    let plain = law ∙ built_finds d.before name in
    ((gave e n).told.numbered ∙ ap number plain, (gave e n).told.valued ∙ ap value plain)

pub code_enters : CodeEnters function
unfolding CodeEnters EnteredIsBuilt outcome_of lent_after
code_enters d b e a index other parents name slot m asks taken n books same booked k enters words o builds again anew =
    let law = due_is b books same in
    let numbered = ap (λ x. number x.answer) (sym law) ∙ sym (gave b n).told.numbered ∙ booked in
    let v = (book_call d.before name slot parents).words in
    let after : b.after ≡ v = (gave b n).words ∙ ap (λ x. x.words) law in
    let entered = entered_is_built d.before name slot parents numbered in
    let asked : e.call ≡ IndexEnter (built d.before) = enters ∙ ap IndexEnter (built_by d index m asks taken) in
    let here : e.before ≡ v = words ∙ after in
    let law = due_is e asked here in
    let answer : (due e).answer ≡ done = ap (λ (x : Outcome). x.answer) law ∙ ap (λ x. x.answer) entered in (
      (gave e k).told.numbered ∙ ap number answer,
      (gave e k).told.valued ∙ ap value answer,
      (gave e k).words ∙ ap (λ x. x.words) law ∙ ap (λ x. x.words) entered ∙ sym here,
      gave_lent e k ∙ ap₂ lent_after asked here ∙ ap (λ x. x.lent) entered ∙ ap built (sym (again ∙ after)) ∙ sym (built_by a other o builds anew),
    )

pub code_never_misleads : CodeNeverMisleads function
unfolding CodeNeverMisleads FoundIsPlain outcome_of
code_never_misleads e index name m asks taken =
    let law = ap (λ (o : Outcome). o.answer) (due_is e asks refl) in
    let numbered = ap number (sym law) ∙ sym (gave e m).told.numbered ∙ taken in
    let plain = found_is_plain e.before index name numbered in
    (ap number (sym plain) ∙ numbered, (gave e m).told.valued ∙ ap value (law ∙ plain))

-- ---- demands 2 and 3

-- an answer of 1 is the law's answer
answered_one : (w : List ℕ) (i : ℕ) → Accepts function w i → accepted_call w (name_of w i) ≡ Ok (pos 1)
unfolding outcome_of AnswerTold
answered_one w i a =
    let law = ap (λ (o : Outcome). o.answer) (due_is a.done a.asks a.words) in
    let given = (gave a.done a.made).told in
    answer_told (accepted_call w (name_of w i)) (Ok (pos 1))
    (ap number (sym law) ∙ sym given.numbered ∙ a.taken)
    (ap value (sym law) ∙ sym given.valued ∙ a.one)

pub code_accepts_once : CodeAcceptsOnce function
unfolding CodeAcceptsOnce AcceptedCallOnce
code_accepts_once w i j hi hj same a b = accepted_call_once w i j hi hj same (answered_one w i a) (answered_one w j b)

-- a call that opens or reads and is refused makes no new ledger
renewed : (d : Done) → Made function d → (opens d.call ≡ true → d.number ≢ 0) → renews d.call d.before ≡ false
renewed d m refused = go (opens d.call) (is_taken (due d).answer) refl refl
  where
    go : (o t : Bool) → opens d.call ≡ o → is_taken (due d).answer ≡ t → (o && t) ≡ false
    go true true o t = absurd (refused o ((gave d m).told.numbered ∙ taken_zero (due d).answer t))
    go true false o t = refl
    go false t o e = refl

pub code_lasts : CodeLasts function
unfolding CodeLasts BuiltLasts
code_lasts d c a index other m asks taken n same kept refused o builds after anew =
    let before : List ℕ = c.before in
    let ledger : Ledger before = subst Ledger (sym same) (build_ledger d index m asks taken) in
    let new = renewed c n refused in
    built_by a other o builds anew
    ∙ ap built (after ∙ (gave c n).words)
    ∙ built_lasts c.call before new ledger (bookings_kept c.call before new kept)
    ∙ ap built same ∙ sym (built_by d index m asks taken)

followed_one : {w u : List ℕ} (name : ℕ) → accepted_call w name ≡ Ok (pos 1) → Followed function w u → accepted_call u name ≡ Ok (pos 1)
unfolding AcceptedCallStays NoneRenews run
followed_one name e nothing = e
followed_one name e (another d m refused before) =
    ap (λ v. accepted_call v name) (gave d m).words
    ∙ accepted_call_stays (d.call ∷ []) (record { words = d.before; history = fresh }) name (renewed d m refused, tt) (followed_one name e before)

pub code_accepts_stays : CodeAcceptsStays function
unfolding CodeAcceptsStays outcome_of
code_accepts_stays w u i a followed d m asks words =
    let law = ap (λ (o : Outcome). o.answer) (due_is d asks words) in
    let one = law ∙ followed_one (name_of w i) (answered_one w i a) followed in
    ((gave d m).told.numbered ∙ ap number one, (gave d m).told.valued ∙ ap value one)

ran_right : {w : List ℕ} {h : History} → Ran function w h → Right w h
unfolding outcome_of
ran_right (opened d m makes taken) =
    subst (λ x. Right x (history_after d.call d.before fresh)) (sym (gave d m).words)
    (made_right d.call d.before fresh makes (zero_taken (due d).answer (sym (gave d m).told.numbered ∙ taken)))
ran_right (called d {h} m ran) =
    subst (λ x. Right x (history_after d.call d.before h)) (sym (gave d m).words) (step_right d.call d.before h (ran_right ran))

pub code_keeps : CodeKeeps function
unfolding CodeKeeps AcceptedOnce
code_keeps w h ran =
    let right = ran_right ran in
    record {
      ledger = right.ledger;
      accepted_once = accepted_once_lem w right.ledger;
      confidence = right.counted;
      sum = right.summed;
      preferred = right.led;
      polled = right.polled;
    }
