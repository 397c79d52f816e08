-- What a function's contract says to its callers, as the language tells it to their proofs.
use Rattle.std.specs.Prelude.{ℕ, List}
use contract.Lifetimes.{Lfts}
use denote.Triple.Clauses.{Ended, Lasts, AtExit, at_exit}
use borrow.Fn.Kinds.{ParamKind, ResultKind, In, Out, Dens, res_t, ended_of}

-- the types of the parameters and of the result, what a caller has to show, and what it learns
pub record Contract : Type 4 where
  pub lifetimes : ℕ
  pub parameters : List (ParamKind lifetimes)
  pub result : ResultKind lifetimes
  pub Asked : In lifetimes parameters
  pub Learnt : Out lifetimes parameters result

abbrev pub contract_of : (n : ℕ) (ps : List (ParamKind n)) (r : ResultKind n) → In n ps → Out n ps r → Contract
contract_of n ps r Asked Learnt = record { lifetimes = n; parameters = ps; result = r; Asked = Asked; Learnt = Learnt }

-- it asks nothing, so the function may be called with anything
abbrev pub Unasked : Contract → Type 0
Unasked f = (at : Lfts f.lifetimes) (given : Dens at f.parameters) → f.Asked at given

abbrev pub ended_by : Contract → Ended
ended_by f = ended_of f.lifetimes f.parameters f.result

-- a call that it allows: what the function was given, what it returned, and what it left behind the references lent for writing
pub record Allowed (f : Contract) : Type 0 where
  pub at : Lfts f.lifetimes
  pub given : Dens at f.parameters
  pub returned : (res_t f.result at).Denot
  pub last : Lasts (ended_by f) at given
  pub learnt : f.Learnt at given returned (at_exit (ended_by f) at given last)

-- the parameters at its end: what was lent for reading is as it was given
abbrev pub left : {f : Contract} (m : Allowed f) → AtExit (ended_by f) m.at
left {f} m = at_exit (ended_by f) m.at m.given m.last
