-- What a frame is to its callers.
use Rattle.frame_rows.specs.RowValue.{RowValue}
use Rattle.fde_finders.specs.Finding.{FoundFde}

-- the description that was found, and the row at the address
pub record FrameValue : Type 0 where
  pub found : FoundFde
  pub row : RowValue
