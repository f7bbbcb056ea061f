-- Names as paths below the current folder.
use Rattle.std.specs.Prelude.{ℕ, cond, nat_eq, List, ◌∷◌, map}

-- a `\` in a name parts folders, as the system's `/` does
abbrev pub separator : ℕ → ℕ
separator c = cond (nat_eq c 92) 47 c

-- `./`, and then the name
abbrev pub path_of : List ℕ → List ℕ
path_of name = 46 ∷ 47 ∷ map separator name
