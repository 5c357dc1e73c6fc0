-- Known bytes that are read in two parts. Assumes nothing.
use Rattle.std.proofs.Common.{ℕ, List, ◌++◌, ◌∙◌, ap, sym, append_assoc}
use Rattle.std.specs.Prelude.{Option, Some, None}
use Rattle.std.specs.Io.KnownBytes.{Consumes}

pub consumes_both : (old mid new : Option (List ℕ)) (xs ys : List ℕ) → Consumes old mid xs → Consumes mid new ys → Consumes old new (xs ++ ys)
consumes_both None mid new xs ys h k = tt
consumes_both (Some l) None new xs ys h k = absurd h
consumes_both (Some l) (Some m) None xs ys h k = absurd k
consumes_both (Some l) (Some m) (Some n) xs ys h k = h ∙ (ap (λ r. xs ++ r) k ∙ sym (append_assoc xs ys n))
