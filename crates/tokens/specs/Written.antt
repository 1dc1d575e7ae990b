-- What the program hands to standard output: the listing of the bytes that were read, or nothing if a read failed.
use Rattle.std.specs.Prelude.{ℕ, List, [], take, Result, Ok, Err}
use Rattle.listing.specs.Listing.{listing}

unfoldable pub written : {E : Type 0} → Result ℕ E → List ℕ → List ℕ
written (Ok n) bytes = listing (take n bytes)
written (Err e) bytes = []
