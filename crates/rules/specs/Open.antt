-- Document 01, "Open", CR 5 and CR 7: the workspace becomes a ledger with the genesis only.
use Rattle.std.specs.Prelude.{ℕ, ◌-◌, ◌/◌, ◌%◌, cond, List, [], ◌∷◌, get_or, replicate, ltb, eqb}
use Rattle.loops.specs.Fill.{from}
use Rattle.terms.specs.declared.setting.Setting.{Setting}
use Rattle.rules.specs.Layout.{header_words, record_words, slot_words, slots_start, size, none}

-- n = 1, the setting, p = 0, the edition
abbrev pub open_header : Setting → List ℕ
open_header s = 1 ∷ s.k ∷ s.a ∷ s.beta1 ∷ s.beta2 ∷ 0 ∷ s.edition ∷ 0 ∷ []

-- the genesis: name 0, slot 0, no parents, state 1, confidence 0, ordinal 0, marked
abbrev pub genesis_record : List ℕ
genesis_record = 0 ∷ 0 ∷ 0 ∷ 0 ∷ 0 ∷ none ∷ none ∷ none ∷ none ∷ 1 ∷ 0 ∷ 0 ∷ 1 ∷ []

abbrev pub open_record : ℕ → List ℕ
open_record i = cond (eqb i 0) genesis_record (replicate record_words 0)

-- slot 0 reads 0, 0, 0, 1; every other slot is empty
abbrev pub open_entry : ℕ → List ℕ
open_entry s = cond (eqb s 0) (0 ∷ 0 ∷ 0 ∷ 1 ∷ []) (none ∷ none ∷ 0 ∷ 0 ∷ [])

-- word j of a newly opened ledger: of the header, of a record, of a slot entry
unfoldable pub open_word : Setting → ℕ → ℕ
open_word s j =
    cond (ltb j header_words) (get_or (open_header s) j 0)
    (cond (ltb j slots_start) (get_or (open_record ((j - header_words) / record_words)) ((j - header_words) % record_words) 0)
    (get_or (open_entry ((j - slots_start) / slot_words)) ((j - slots_start) % slot_words) 0))

unfoldable pub opened : Setting → List ℕ
opened s = from (open_word s) 0 size
