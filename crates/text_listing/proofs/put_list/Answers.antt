-- The header, and after it the rows: there is room for as many as there can be.
use Rattle.put.proofs.Puts.{put_then}
use Rattle.text_listing.specs.Listed.{list_prints}
use Rattle.text_listing.proofs.put_list.Goals as goal

pub returns : goal.returns
unfolding list_prints
returns c =
    put_then c.put_list_header-next.ensures c.put_rows.ensures
