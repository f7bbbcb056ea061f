-- A list and behind it another of its length.
use Rattle.std.proofs.Common.{◌≡◌, ℕ, ◌/◌, List, ◌++◌, length, take, drop, ap, ◌∙◌, arith}
use Rattle.std.specs.Char.{to_ascii_lowercase}
use Rattle.std.proofs.lemmas.List.{length-append, length-map}
use Rattle.std.proofs.Math.Seq.{take-append_seam, drop-append_seam}
use Rattle.up_base.specs.Names.{lower_case, front_half}

half_length : (bytes : List ℕ) → length (bytes ++ lower_case bytes) / 2 ≡ length bytes
half_length bytes =
    let both = length-append bytes (lower_case bytes) in
    let same = length-map bytes to_ascii_lowercase in
    omega arith

pub front_of_both : (bytes : List ℕ) → front_half (bytes ++ lower_case bytes) ≡ bytes
front_of_both bytes = ap (λ n. take n (bytes ++ lower_case bytes)) (half_length bytes) ∙ take-append_seam bytes (lower_case bytes)

pub back_of_both : (both : List ℕ) → both ≡ front_half both ++ lower_case (front_half both) → drop (length both / 2) both ≡ lower_case (front_half both)
back_of_both both e =
    let half : length both / 2 ≡ length (front_half both) = ap (λ x. length x / 2) e ∙ half_length (front_half both) in
    ap (λ n. drop n both) half ∙ ap (drop (length (front_half both))) e ∙ drop-append_seam (front_half both) (lower_case (front_half both))
