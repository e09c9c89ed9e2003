-- What a sum holds of what was said.
use Rattle.std.specs.Prelude.{◌≡◌, List, length}
use Rattle.checksum.specs.Checksums.{IsOf}
use Rattle.walk.specs.Walks.{Said}
use Rattle.answers.specs.declared.trays.Sum.{Sum}
use Rattle.answers.specs.Texts.{Has}
use Rattle.answers.specs.Trays.{nulls_in, bytes_in, trouble_in, capped}

pub record Holds (sum : Sum) (said : List Said) : Type 0 where
  pub nulls : sum.nulls ≡ capped (nulls_in said)
  pub bytes : sum.bytes ≡ capped (length (bytes_in said))
  pub checksum : IsOf sum.checksum (bytes_in said)
  pub trouble : Has sum.text (trouble_in said)
