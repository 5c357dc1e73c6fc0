-- What a tally is printed as.
use Rattle.std.specs.Prelude.{ℕ, List, ◌++◌, codes}
use Rattle.std.specs.Fmt.{decimal}
use Rattle.replay.specs.declared.Tally.{Tally}

abbrev pub tally_text : Tally → List ℕ
tally_text t =
    codes "right " ++ decimal t.right ++ codes " of " ++ decimal t.answers ++ codes "\nbytes " ++ decimal t.bytes ++ codes "\nchecksum " ++ decimal t.sum
