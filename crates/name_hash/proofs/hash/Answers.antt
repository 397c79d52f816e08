-- The fold over the name's bytes is the definition's eight turns.
use Prim.Native.Nat.{ℕ}
use native.Mathlib.Nat.{div-one}
use borrow.Author.Rules.{rules}
use mathlib.Core.Path.{◌≡◌, ◌∙◌}
use Rattle.std.specs.Int.{w64, to_be_bytes}
use Rattle.std.specs.List.{fold}
use Rattle.std.proofs.lemmas.Iterator.{YieldsList-from_slice}
use Rattle.std.proofs.lemmas.Iterator.Consumers.{fold_from_yields_List}
use Rattle.loops.specs.Turns.{up_to}
use Rattle.name_index.specs.Hash.{hash_start, hashed, hash_of}
use Rattle.name_hash.proofs.hash.Goals as goal

turns : (name : ℕ) → fold hashed hash_start (to_be_bytes w64 name) ≡ hash_of name
unfolding hash_of up_to
turns name = rw (div-one name)

pub returns : goal.returns
returns c =
    fold_from_yields_List _ hashed _ _ c.fold.ensures.ran (YieldsList-from_slice (to_be_bytes w64 c.args.name) (c.iter.ensures.rest ∙ c.to_be_bytes.ensures)) (λ a x b q k. search rules)
    ∙ turns c.args.name
