-- P11 and P12 of document 01 as far as they speak of the words of the law: 255 is a no, and half of the votes are no majority. And CR 7: there are two editions,
-- and in the later one a counter at β is enough.
use mathlib.Core.Path.{◌≡◌, refl}
use mathlib.Core.Bool.{true, false}
use Rattle.terms.specs.declared.vote.Vote.TheVariants.{No}
use Rattle.terms.specs.Votes.{vote_of}
use Rattle.terms.specs.Setting.{setting_of, is_good}
use Rattle.terms.specs.Editions.{enough}

pub minus_one_is_no : vote_of 255 ≡ No
unfolding vote_of
minus_one_is_no = refl

pub half_is_no_majority : is_good (setting_of 2 1 1 2 0) ≡ false
half_is_no_majority = refl

pub two_of_two_are : is_good (setting_of 2 2 1 2 0) ≡ true
two_of_two_are = refl

pub edition_one_is : is_good (setting_of 2 2 1 2 1) ≡ true
edition_one_is = refl

pub edition_two_is_none : is_good (setting_of 2 2 1 2 2) ≡ false
edition_two_is_none = refl

-- ---- what is enough for β: a counter below it, at it or above it

pub first_at_beta_is_too_low : enough 0 1 1 ≡ false
unfolding enough
first_at_beta_is_too_low = refl

pub first_above_beta_is_enough : enough 0 1 2 ≡ true
unfolding enough
first_above_beta_is_enough = refl

pub later_below_beta_is_too_low : enough 1 2 1 ≡ false
unfolding enough
later_below_beta_is_too_low = refl

pub later_at_beta_is_enough : enough 1 1 1 ≡ true
unfolding enough
later_at_beta_is_enough = refl
