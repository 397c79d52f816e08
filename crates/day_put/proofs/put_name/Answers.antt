-- Its eight bytes, over eight of the buffer's.
use native.Mathlib.Omega.{arith}
use mathlib.Core.Path.{◌∙◌}
use Rattle.day_put.proofs.Words.{put_bytes}
use Rattle.day_put.proofs.put_name.Goals as goal

pub returns : goal.returns
returns c =
    put_bytes _ c.args.at 8 c.args.name _ c.requires (omega arith) (c.copy_from_slice.ensures.after ∙ c.to_be_bytes.ensures)
