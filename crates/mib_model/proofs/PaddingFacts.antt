-- Octets that are copied into a room of zeros.
use Rattle.std.proofs.Common.{◌≡◌, ℕ, ◌≤◌, List, ◌++◌, length, drop, replicate, refl, arith}
use Rattle.std.proofs.Math.Seq.{take-append_seam}
use Rattle.std.proofs.lemmas.List.{drop-replicate}
use Rattle.mib_model.specs.OctetsLayout.{IsPadded}

pub IsPadded-copied : (size : ℕ) (octets copied : List ℕ) (used : ℕ) → copied ≡ octets → used ≡ length octets → used ≤ size → IsPadded size (copied ++ drop used (replicate size 0)) used
IsPadded-copied size octets copied used same is fits = rw (same, is) record {
  fits = omega arith;
  zeros = rw (take-append_seam octets (drop (length octets) (replicate size 0)), drop-replicate) refl;
}
