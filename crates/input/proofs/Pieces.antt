-- Laws of pieces: where one lies, and what the reader lost. Assumes nothing.
use Rattle.std.proofs.Common.{◌≡◌, refl, sym, subst, append-nil, ℕ, zero, suc, ◌+◌, ◌<◌, arith}
use Rattle.std.proofs.KnownBytes.{Consumes-nil, Consumes-kept, Consumes-trans}
use Rattle.std.proofs.Math.Seq.{take-add}
use Rattle.std.proofs.lemmas.List.{take-append-le, drop_at}
use Rattle.std.specs.Prelude.{Option, Result, Ok, Err, List, [], ◌++◌, length, take, drop}
use Rattle.std.specs.Io.{ReadsAtMost}
use Rattle.std.specs.Io.KnownBytes.{Consumes, ReadConsumes}
use Rattle.input.specs.Input.{piece_of, PieceWithin, PieceTaken}

-- A piece that was read into the rest of a buffer lies within the buffer.
pub piece_within : {E : Type 0} (got : Result ℕ E) (at size : ℕ) (part : List ℕ) (p : Result (Option ℕ) E)
    → ReadsAtMost got part → at + length part ≡ size → p ≡ piece_of got → PieceWithin p at size
piece_within (Ok zero) at size part p bound e q = rw q tt
piece_within (Ok (suc k)) at size part p bound e q = rw q (omega arith, omega (arith, bound.0))
piece_within (Err x) at size part p bound e q = rw q tt

-- ── What a reader lost, where it is known ──

bytes_taken : {E : Type 0} (got : Result ℕ E) (old new : Option (List ℕ)) (front part rest : List ℕ) (at : ℕ) → ReadsAtMost got part
    → ReadConsumes old new got part → length front ≡ at → 0 < length part → PieceTaken old new (piece_of got) at (front ++ (part ++ rest))
bytes_taken (Ok zero) old new front part rest at bound bytes h room = (bytes.0, bytes.1 refl room)
bytes_taken (Ok (suc n)) old new front part rest at bound bytes h room =
    rw (drop_at front (part ++ rest) at h, take-append-le (suc n) part rest bound.0) bytes.0
bytes_taken (Err e) old new front part rest at bound bytes h room = Consumes-kept old old new [] (Consumes-nil old) bytes

pub piece_taken : {E : Type 0} (got : Result ℕ E) (old new : Option (List ℕ)) (p : Result (Option ℕ) E) (front part rest : List ℕ) (at : ℕ)
    → ReadsAtMost got part → ReadConsumes old new got part → length front ≡ at → 0 < length part → p ≡ piece_of got
    → PieceTaken old new p at (front ++ (part ++ rest))
piece_taken got old new p front part rest at bound bytes h room e = rw e (bytes_taken got old new front part rest at bound bytes h room)

-- One piece more behind the bytes so far.
pub more_taken : (old mid new : Option (List ℕ)) (n k : ℕ) (before after : List ℕ) → Consumes old mid (take n before)
    → take n after ≡ take n before → Consumes mid new (take k (drop n after)) → Consumes old new (take (n + k) after)
more_taken old mid new n k before after a e b =
    rw take-add (Consumes-trans old mid new (take n after) (take k (drop n after)) (subst (Consumes old mid) (sym e) a) b)

-- No piece behind the bytes so far.
pub no_more_taken : (old mid new : Option (List ℕ)) (n : ℕ) (before after : List ℕ) → Consumes old mid (take n before)
    → take n after ≡ take n before → Consumes mid new [] → Consumes old new (take n after)
no_more_taken old mid new n before after a e b =
    subst (Consumes old new) (append-nil (take n after))
    (Consumes-trans old mid new (take n after) [] (subst (Consumes old mid) (sym e) a) b)
