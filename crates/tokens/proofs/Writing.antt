-- Laws of `written`: what is handed out for each answer of the reads. Assumes nothing.
use Rattle.std.proofs.Common.{◌≡◌, ap, ℕ, List, [], take}
use Rattle.std.specs.Prelude.{Result, Ok, Err}
use Rattle.listing.specs.Listing.{listing}
use Rattle.tokens.specs.Written.{written}

pub written_read : {E : Type 0} (got : Result ℕ E) (n : ℕ) (bytes : List ℕ) → got ≡ Ok n → written got bytes ≡ listing (take n bytes)
unfolding written
written_read got n bytes e = ap (λ g. written g bytes) e

pub written_failed : {E : Type 0} (got : Result ℕ E) (x : E) (bytes : List ℕ) → got ≡ Err x → written got bytes ≡ []
unfolding written
written_failed got x bytes e = ap (λ g. written g bytes) e
