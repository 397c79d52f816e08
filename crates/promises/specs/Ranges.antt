-- Every number answered lies in a known range: that of document 01 for lead, and what follows from its bounds for the others.
use Rattle.std.specs.Prelude.{◌≡◌, List, ◌≢◌, ℕ, ◌≤◌, ℤ, pos, nat_abs}
use Rattle.terms.specs.Answers.{number, value}
use Rattle.rules.specs.Calls.{query_call, accepted_call, lead_call, confidence_call, size_call}
use Rattle.terms.specs.declared.form.Form.{Form}
use Rattle.day_file.specs.Calls.{write_file_call, read_file_call, move_file_call}
use Rattle.name_index.specs.Calls.{index_build_call, index_enter_call, index_find_call}
use Rattle.promises.specs.Run.{Call, outcome_of}
use Rattle.promises.specs.DayFile.{least_file, most_file}
use Rattle.promises.specs.MoveFile.{other_form}

-- z is one of the numbers from least to most
pub record Between (least most : ℕ) (z : ℤ) : Type 0 where
  pub number : ℕ
  pub is : z ≡ pos number
  pub above : least ≤ number
  pub below : number ≤ most

-- the answers of any call on any words. A refusal's value is 0 or a row; each taken reading, the length of a file written or moved and a
-- number looked up have their ranges; a file is read, and an index built and entered in, with value 0
pub record Ranges : Type 0 where
  pub numbers : (c : Call) (w : List ℕ) → number (outcome_of c w).answer ≤ 27
  pub refused : (c : Call) (w : List ℕ) → number (outcome_of c w).answer ≢ 0 → Between 0 512 (value (outcome_of c w).answer)
  pub query : (w : List ℕ) (name : ℕ) → number (query_call w name) ≡ 0 → Between 0 1 (value (query_call w name))
  pub accepted : (w : List ℕ) (name : ℕ) → number (accepted_call w name) ≡ 0 → Between 0 1 (value (accepted_call w name))
  pub lead : (w : List ℕ) (name : ℕ) → number (lead_call w name) ≡ 0 → nat_abs (value (lead_call w name)) ≤ 511
  pub confidence : (w : List ℕ) (name : ℕ) → number (confidence_call w name) ≡ 0 → Between 0 511 (value (confidence_call w name))
  pub size : (w : List ℕ) (name : ℕ) → number (size_call w name) ≡ 0 → Between 1 512 (value (size_call w name))
  pub writing : (form : Form) (w buffer : List ℕ) → number (write_file_call form w buffer).answer ≡ 0
      → Between (least_file form) (most_file form) (value (write_file_call form w buffer).answer)
  pub reading_file : (form : Form) (w file : List ℕ) → number (read_file_call form w file).answer ≡ 0 → value (read_file_call form w file).answer ≡ pos 0
  pub moving_numbers : (form : Form) (file out : List ℕ) → number (move_file_call form file out).answer ≤ 19
  pub moving : (form : Form) (file out : List ℕ) → number (move_file_call form file out).answer ≡ 0
      → Between (least_file (other_form form)) (most_file (other_form form)) (value (move_file_call form file out).answer)
  pub building : (w index : List ℕ) → number (index_build_call w index).answer ≡ 0 → value (index_build_call w index).answer ≡ pos 0
  pub entering : (w index : List ℕ) → number (index_enter_call w index).answer ≡ 0 → value (index_enter_call w index).answer ≡ pos 0
  pub finding : (w index : List ℕ) (name : ℕ) → number (index_find_call w index name) ≡ 0 → Between 0 511 (value (index_find_call w index name))
