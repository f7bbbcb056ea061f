-- How far a token reaches.
use Rattle.std.specs.Prelude.{ℕ, ◌<◌, ◌≤◌, Option, Some, None}
use Rattle.vb_tree.specs.declared.token.TokenKind.{TokenKind}

-- a token takes a unit at least, and at most so many
abbrev pub IsWithin : ℕ → Option (TokenKind × ℕ) → Type 0
IsWithin most None = Unit {0}
IsWithin most (Some found) = (0 < found.1) × (found.1 ≤ most)
