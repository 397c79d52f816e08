use Rattle.text_put.proofs.+put_number.Given as goal

-- the number itself
abbrev pub decreases-put_number : goal.decreases-put_number
decreases-put_number l = l.v
