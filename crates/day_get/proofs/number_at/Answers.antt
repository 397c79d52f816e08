-- The two bytes from the offset on are those of the number that they make.
use native.Mathlib.Omega.{arith}
use borrow.Author.Rules.{rules}
use Rattle.std.proofs.lemmas.Nat.{be_bytes_2}
use Rattle.day_get.proofs.Got.{bytes_small, bytes_got}
use Rattle.day_get.proofs.number_at.Goals as goal

pub returns : goal.returns
returns c =
    let chunk = rw c.unwrap-bytes.ensures at c.first_chunk.ensures.cases in
    let file = c.args.file.now in
    bytes_got file c.args.at 2 c.requires chunk.same c.from_be_bytes.result
    (be_bytes_2 c.unwrap-bytes.result.now _ (search rules) (bytes_small file c.args.at 2 c.requires chunk.same (λ i. omega (arith, c.type_inv.file i))) c.from_be_bytes.ensures)
